-- Each token as a piece of a text.
use Rattle.std.proofs.Common.{◌≡◌, ℕ, ◌≤◌, ◌<◌, List, [], ◌∷◌, ◌++◌, length, take, get_or, refl, sym, ap, ◌∙◌, subst, arith, Bool, true, false}
use Rattle.std.proofs.Math.Seq.{take-append_seam}
use Rattle.std.proofs.lemmas.Bool.Decides.{nat_tests}
use Rattle.std.specs.Prelude.{◌&&◌, ◌||◌, eqb, nat_lt}
use Rattle.std.specs.List.{list_all, prefix_len}
use Rattle.flow_base.proofs.Bools.{and_left, and_right}
use Rattle.flow_base.specs.declared.place.Place.{Place}
use Rattle.flow_base.specs.Names.{letter, digit, name_byte, is_name_text}
use Rattle.flow_tree.specs.declared.token.Token.TheVariants as token
use Rattle.flow_tree.specs.declared.token.Token.TheVariants.{Name, Number, Text}
use Rattle.flow_tree.specs.declared.token.Word as words
use Rattle.flow_tree.specs.declared.token.Sign as signs
use Rattle.flow_tree.specs.declared.token.Sign.TheVariants.{OpenRound, CloseRound, OpenCurly, CloseCurly, OpenSquare, CloseSquare, Less, Greater, Comma, Semicolon, Dot, Equal, NotEqual, LessEqual, GreaterEqual, AndAnd, OrOr, Not, Minus, PlusAssign, MinusAssign, PlusPlus, MinusMinus}
use Rattle.flow_tree.specs.Spelling.{word_bytes, sign_bytes, begins_gap}
use Rattle.flow_tree.specs.Lexing.{TokenAt}
use Rattle.flow_tree.specs.GrammarToken.{Part, opens}
use Rattle.flow_lex.specs.Next.{sign_byte}
use Rattle.flow_lex.proofs.Bytes.{both as both_true, true_false, word_is_name}
use Rattle.flow_lex.proofs.Longest.{FoundName, finds_name}
use Rattle.flow_lex.proofs.Tables.{sign_missing}
use Rattle.flow_lex.proofs.Tokens.{token_of, name_found, found_word, sign_one, sign_two}
use Rattle.flow_show.proofs.Going.{Piece, one_token}

-- what follows goes on no name, no word and no number
abbrev pub Apart : List ℕ → Type 0
Apart [] = Unit {0}
Apart (b ∷ w) = name_byte b ≡ false

-- the first bytes that pass a test are those of a list that passes it, where the next one fails
prefix_is : (w rest : List ℕ) → list_all name_byte w ≡ true → Apart rest → prefix_len name_byte (w ++ rest) ≡ length w
prefix_is [] [] h a = refl
prefix_is [] (b ∷ rest) h a = rw a refl
prefix_is (x ∷ w) rest h a = rw (and_left (name_byte x) (list_all name_byte w) h) (omega (arith, prefix_is w rest (and_right (name_byte x) (list_all name_byte w) h) a))

name_all : (w : List ℕ) → is_name_text w ≡ true → list_all name_byte w ≡ true
name_all [] h = refl
name_all (b ∷ w) h = both_true (name_byte b) (list_all name_byte w) (ap (λ x. x || digit b) (and_left (letter b) (list_all name_byte w) h)) (and_right (letter b) (list_all name_byte w) h)

name_first : (w rest : List ℕ) → is_name_text w ≡ true → (0 < length (w ++ rest)) × (letter (get_or (w ++ rest) 0 0) ≡ true)
name_first [] rest h = absurd (true_false (sym h))
name_first (b ∷ w) rest h = (omega arith, and_left (letter b) (list_all name_byte w) h)

letter_no_gap : (b : ℕ) (w : List ℕ) → letter b ≡ true → begins_gap (b ∷ w) ≡ false
letter_no_gap b [] h = grind (arith, nat_tests)
letter_no_gap b (c ∷ w) h = grind (arith, nat_tests)

name_no_gap : (w rest : List ℕ) → is_name_text w ≡ true → begins_gap (w ++ rest) ≡ false
name_no_gap [] rest h = absurd (true_false (sym h))
name_no_gap (b ∷ w) rest h = letter_no_gap b (w ++ rest) (and_left (letter b) (list_all name_byte w) h)

finds : (w rest : List ℕ) → is_name_text w ≡ true → Apart rest → FoundName (w ++ rest) (length w)
finds w rest h a =
    let first = name_first w rest h in
    subst (λ n. FoundName (w ++ rest) n) (prefix_is w rest (name_all w h) a) (finds_name (w ++ rest) first.0 first.1)

-- a name as a token of some text has it
pub record IsNameToken (w : List ℕ) : Type 0 where
  pub form : is_name_text w ≡ true
  pub free : (k : words.Word) → word_bytes k ≡ w → ⊥
  pub short : length w ≤ 255

pub name_piece : (ps : List Part) (n : List ℕ) (p : Place) → IsNameToken n → Piece {X = Place} (λ x. opens ps (Name n) x ∷ []) (opens ps (Name n) p ∷ []) n Apart
name_piece ps n p is = one_token ps (Name n) p n (λ rest a.
    token_of (n ++ rest) (Name n) (length n) (name_no_gap n rest is.form)
    (name_found (n ++ rest) (length n) n (finds n rest is.form a) (λ k e. is.free k (e ∙ take-append_seam n rest)) (sym (take-append_seam n rest)))) is.short

pub word_piece : (ps : List Part) (k : words.Word) (p : Place) → Piece {X = Place} (λ x. opens ps (token.Word k) x ∷ []) (opens ps (token.Word k) p ∷ []) (word_bytes k) Apart
word_piece ps k p =
    let w = word_bytes k in
    one_token ps (token.Word k) p w (λ rest a.
    token_of (w ++ rest) (token.Word k) (length w) (name_no_gap w rest (word_is_name k))
    (found_word (w ++ rest) (length w) k (finds w rest (word_is_name k) a) (sym (take-append_seam w rest)))) tt

-- what may follow a sign
pub record Ends (g : signs.Sign) (rest : List ℕ) : Type 0 where
  pub there : TokenAt (sign_bytes g ++ rest) (token.Sign g) (length (sign_bytes g))

pub sign_piece : (ps : List Part) (g : signs.Sign) (p : Place) → Piece {X = Place} (λ x. opens ps (token.Sign g) x ∷ []) (opens ps (token.Sign g) p ∷ []) (sign_bytes g) (Ends g)
sign_piece ps g p = one_token ps (token.Sign g) p (sign_bytes g) (λ rest e. e.there) tt

one_ends : (g : signs.Sign) (b : ℕ) (rest : List ℕ) → sign_bytes g ≡ b ∷ [] → sign_byte b ≡ true → begins_gap (b ∷ rest) ≡ false
    → ((c : ℕ) (w : List ℕ) → rest ≡ c ∷ w → (h : signs.Sign) → sign_bytes h ≡ b ∷ (c ∷ []) → ⊥) → Ends g rest
one_ends g b rest e f gap none = record {
  there =
      subst (λ w. TokenAt (w ++ rest) (token.Sign g) (length w)) (sym e)
      (token_of (b ∷ rest) (token.Sign g) 1 gap (sign_one (b ∷ rest) g f (omega arith) e (second rest none)));
}
  where
    second : (rest : List ℕ) → ((c : ℕ) (w : List ℕ) → rest ≡ c ∷ w → (h : signs.Sign) → sign_bytes h ≡ b ∷ (c ∷ []) → ⊥) → 1 < length (b ∷ rest) → (h : signs.Sign) → sign_bytes h ≡ take 2 (b ∷ rest)
        → ⊥
    second [] none lt h q = omega arith
    second (c ∷ w) none lt h q = none c w refl h q

-- a sign of two bytes may stand before anything
two_ends : (g : signs.Sign) (b c : ℕ) (rest : List ℕ) → sign_bytes g ≡ b ∷ (c ∷ []) → sign_byte b ≡ true → begins_gap (b ∷ (c ∷ rest)) ≡ false → Ends g rest
two_ends g b c rest e f gap = record {
  there =
      subst (λ w. TokenAt (w ++ rest) (token.Sign g) (length w)) (sym e)
      (token_of (b ∷ (c ∷ rest)) (token.Sign g) 2 gap (sign_two (b ∷ (c ∷ rest)) g f (omega arith) e));
}

-- the two bytes of some sign
abbrev is_pair : ℕ → ℕ → Bool
is_pair b c =
    ((eqb b 61 || eqb b 33 || eqb b 60 || eqb b 62 || eqb b 43 || eqb b 45) && eqb c 61)
    || ((eqb b 38 || eqb b 124 || eqb b 43 || eqb b 45) && eqb b c)

pairs : (h : signs.Sign) → (nat_lt (length (sign_bytes h)) 2 || is_pair (get_or (sign_bytes h) 0 0) (get_or (sign_bytes h) 1 0)) ≡ true
pairs OpenRound = refl
pairs _ = refl

no_pair : (b c : ℕ) → is_pair b c ≡ false → (h : signs.Sign) → sign_bytes h ≡ b ∷ (c ∷ []) → ⊥
no_pair b c f h e =
    true_false (sym (pairs h) ∙ ap (λ l. nat_lt (length l) 2 || is_pair (get_or l 0 0) (get_or l 1 0)) e ∙ f)

-- a sign of one byte ends before a byte that makes no sign with it
pub ends_before : (g : signs.Sign) (b c : ℕ) (w : List ℕ) → sign_bytes g ≡ b ∷ [] → sign_byte b ≡ true → begins_gap (b ∷ (c ∷ w)) ≡ false → is_pair b c ≡ false → Ends g (c ∷ w)
ends_before g b c w e f gap none = one_ends g b (c ∷ w) e f gap (λ d v q h r. no_pair b c none h (r ∙ ap (λ l. b ∷ (get_or l 0 0 ∷ [])) (sym q)))

at_end : (g : signs.Sign) (b : ℕ) → sign_bytes g ≡ b ∷ [] → sign_byte b ≡ true → begins_gap (b ∷ []) ≡ false → Ends g []
at_end g b e f gap = one_ends g b [] e f gap (λ d v q. cc)

-- signs that begin no longer one may stand before anything
pub open_round_ends : (rest : List ℕ) → Ends OpenRound rest
open_round_ends [] = at_end OpenRound 40 refl refl refl
open_round_ends (c ∷ w) = ends_before OpenRound 40 c w refl refl refl refl

pub close_round_ends : (rest : List ℕ) → Ends CloseRound rest
close_round_ends [] = at_end CloseRound 41 refl refl refl
close_round_ends (c ∷ w) = ends_before CloseRound 41 c w refl refl refl refl

pub open_curly_ends : (rest : List ℕ) → Ends OpenCurly rest
open_curly_ends [] = at_end OpenCurly 123 refl refl refl
open_curly_ends (c ∷ w) = ends_before OpenCurly 123 c w refl refl refl refl

pub close_curly_ends : (rest : List ℕ) → Ends CloseCurly rest
close_curly_ends [] = at_end CloseCurly 125 refl refl refl
close_curly_ends (c ∷ w) = ends_before CloseCurly 125 c w refl refl refl refl

pub open_square_ends : (rest : List ℕ) → Ends OpenSquare rest
open_square_ends [] = at_end OpenSquare 91 refl refl refl
open_square_ends (c ∷ w) = ends_before OpenSquare 91 c w refl refl refl refl

pub close_square_ends : (rest : List ℕ) → Ends CloseSquare rest
close_square_ends [] = at_end CloseSquare 93 refl refl refl
close_square_ends (c ∷ w) = ends_before CloseSquare 93 c w refl refl refl refl

pub comma_ends : (rest : List ℕ) → Ends Comma rest
comma_ends [] = at_end Comma 44 refl refl refl
comma_ends (c ∷ w) = ends_before Comma 44 c w refl refl refl refl

pub semicolon_ends : (rest : List ℕ) → Ends Semicolon rest
semicolon_ends [] = at_end Semicolon 59 refl refl refl
semicolon_ends (c ∷ w) = ends_before Semicolon 59 c w refl refl refl refl

pub dot_ends : (rest : List ℕ) → Ends Dot rest
dot_ends [] = at_end Dot 46 refl refl refl
dot_ends (c ∷ w) = ends_before Dot 46 c w refl refl refl refl

-- so may those of two bytes
pub plus_plus_ends : (rest : List ℕ) → Ends PlusPlus rest
plus_plus_ends rest = two_ends PlusPlus 43 43 rest refl refl refl

pub minus_minus_ends : (rest : List ℕ) → Ends MinusMinus rest
minus_minus_ends rest = two_ends MinusMinus 45 45 rest refl refl refl

-- what an expression begins with: no blank and none of `=`, `&`, `|`, `+`, `/`, `*`
abbrev pub opens_expr : ℕ → Bool
opens_expr b = letter b || digit b || eqb b 34 || eqb b 40 || eqb b 33 || eqb b 45

not_ends_by : (c : ℕ) → opens_expr c ≡ true → is_pair 33 c ≡ false
not_ends_by c h = grind (arith, nat_tests)

pub not_ends : (c : ℕ) (w : List ℕ) → opens_expr c ≡ true → Ends Not (c ∷ w)
not_ends c w h = ends_before Not 33 c w refl refl refl (not_ends_by c h)

minus_ends_by : (c : ℕ) → opens_expr c ≡ true → (c ≡ 45 → ⊥) → is_pair 45 c ≡ false
minus_ends_by c h n = grind (arith, nat_tests)

pub minus_ends : (c : ℕ) (w : List ℕ) → opens_expr c ≡ true → (c ≡ 45 → ⊥) → Ends Minus (c ∷ w)
minus_ends c w h n = ends_before Minus 45 c w refl refl refl (minus_ends_by c h n)

letter_no_pair : (c : ℕ) → letter c ≡ true → is_pair 60 c ≡ false
letter_no_pair c h = grind (arith, nat_tests)

pub less_ends : (c : ℕ) (w : List ℕ) → letter c ≡ true → Ends Less (c ∷ w)
less_ends c w h = ends_before Less 60 c w refl refl refl (letter_no_pair c h)

pub greater_greater : (w : List ℕ) → Ends Greater (62 ∷ w)
greater_greater w = ends_before Greater 62 62 w refl refl refl refl

pub greater_semicolon : (w : List ℕ) → Ends Greater (59 ∷ w)
greater_semicolon w = ends_before Greater 62 59 w refl refl refl refl

-- before a space any sign ends
pub space_ends : (g : signs.Sign) (rest : List ℕ) → Ends g (32 ∷ rest)
space_ends Equal rest = two_ends Equal 61 61 (32 ∷ rest) refl refl refl
space_ends NotEqual rest = two_ends NotEqual 33 61 (32 ∷ rest) refl refl refl
space_ends LessEqual rest = two_ends LessEqual 60 61 (32 ∷ rest) refl refl refl
space_ends GreaterEqual rest = two_ends GreaterEqual 62 61 (32 ∷ rest) refl refl refl
space_ends AndAnd rest = two_ends AndAnd 38 38 (32 ∷ rest) refl refl refl
space_ends OrOr rest = two_ends OrOr 124 124 (32 ∷ rest) refl refl refl
space_ends PlusAssign rest = two_ends PlusAssign 43 61 (32 ∷ rest) refl refl refl
space_ends MinusAssign rest = two_ends MinusAssign 45 61 (32 ∷ rest) refl refl refl
space_ends PlusPlus rest = two_ends PlusPlus 43 43 (32 ∷ rest) refl refl refl
space_ends MinusMinus rest = two_ends MinusMinus 45 45 (32 ∷ rest) refl refl refl
space_ends g rest = one_ends g (get_or (sign_bytes g) 0 0) (32 ∷ rest) refl refl refl
    (λ c w e h q. sign_missing (get_or (sign_bytes g) 0 0 ∷ (32 ∷ [])) refl h (q ∙ ap (λ x. get_or (sign_bytes g) 0 0 ∷ (x ∷ [])) (sym (ap (λ l. get_or l 0 0) e))))
