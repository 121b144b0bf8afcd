-- Numbers and quoted texts as pieces of a text.
use Rattle.std.proofs.Common.{◌≡◌, ℕ, pos, zero, suc, ◌+◌, ◌/◌, ◌%◌, ◌^◌, ◌≤◌, ◌<◌, List, [], ◌∷◌, ◌++◌, length, take, get_or, refl, sym, ap, ◌∙◌, subst, arith, append_assoc, length-append, Bool, true, false, decimal, Some}
use Rattle.flow_base.specs.Quote.{hex_digit, spelled_byte, spelled_text, quoted}
use Rattle.std.proofs.Math.Seq.{take-append_seam}
use Rattle.std.proofs.lemmas.Bool.Decides.{nat_tests}
use Rattle.std.proofs.lemmas.Fmt.{decimal_is_IsNumeral, first_decimal, decimal_by_steps}
use Rattle.std.proofs.lemmas.Str.Parse.{digit_from_value}
use Rattle.std.specs.Prelude.{◌&&◌, ◌==◌, nat_lt, nat_le, if◌then◌else◌}
use Rattle.std.specs.Str.Parse.{AllDigits, digits_value}
use Rattle.std.specs.List.{list_all, prefix_len}
use Rattle.flow_base.proofs.Bools.{and_left, and_right}
use Rattle.flow_base.specs.declared.place.Place.{Place}
use Rattle.flow_base.specs.Names.{digit, name_byte}
use Rattle.flow_tree.specs.declared.token.Token.TheVariants.{Number, Text}
use Rattle.flow_tree.specs.Spelling.{plain_byte, escaped, hex_value, Piece as Spelled, itself, escape, code, Inside, empty, piece, begins_gap, IsLongest}
use Rattle.flow_tree.specs.Lexing.{TokenAt}
use Rattle.flow_tree.specs.GrammarToken.{Part, opens}
use Rattle.flow_lex.specs.Next.{FoundNumber}
use Rattle.flow_lex.proofs.Bytes.{both as both_true}
use Rattle.flow_lex.proofs.Numbers.{finds_zero, finds_number}
use Rattle.flow_lex.proofs.Pieces.{text_longest}
use Rattle.flow_lex.proofs.Tokens.{token_of}
use Rattle.flow_show.proofs.Going.{Piece, Any, one_token}
use Rattle.flow_show.proofs.TokenPieces.{Apart}

-- numbers

digit_by_value : (c : ℕ) → (48 ≤ c) × (c ≤ 57) → digit c ≡ true
digit_by_value c h = grind (arith, nat_tests)

all_digits : (ds : List ℕ) → AllDigits 10 ds → list_all digit ds ≡ true
all_digits [] a = refl
all_digits (c ∷ cs) a = both_true (digit c) (list_all digit cs) (digit_by_value c (omega (arith, digit_from_value c a.0), omega (arith, digit_from_value c a.0))) (all_digits cs a.1)

no_digit : (b : ℕ) → name_byte b ≡ false → digit b ≡ false
no_digit b h = grind (arith, nat_tests)

prefix_is : (w rest : List ℕ) → list_all digit w ≡ true → Apart rest → prefix_len digit (w ++ rest) ≡ length w
prefix_is [] [] h a = refl
prefix_is [] (b ∷ rest) h a = rw (no_digit b a) refl
prefix_is (x ∷ w) rest h a = rw (and_left (digit x) (list_all digit w) h) (omega (arith, prefix_is w rest (and_right (digit x) (list_all digit w) h) a))

-- the digits of a number, wherever they stand
decimal_found : (v : ℕ) (rest : List ℕ) → 0 < v → v < 2 ^ 63 → Apart rest → TokenAt (decimal v ++ rest) (Number (pos v)) (length (decimal v))
decimal_found v rest some small a = by_digits (decimal v) (decimal_is_IsNumeral v (omega arith)).0.1 (first_decimal v some (omega arith)) (decimal_is_IsNumeral v (omega arith)).1
  where
    no_gap_48 : (b : ℕ) (w : List ℕ) → digit b ≡ true → begins_gap (b ∷ w) ≡ false
    no_gap_48 b [] h = grind (arith, nat_tests)
    no_gap_48 b (c ∷ w) h = grind (arith, nat_tests)

    found_as : (ds : List ℕ) → begins_gap (ds ++ rest) ≡ false → FoundNumber (ds ++ rest) (length ds) → digits_value 10 ds ≡ v → TokenAt (ds ++ rest) (Number (pos v)) (length ds)
    found_as ds gap f e =
        subst (λ n. TokenAt (ds ++ rest) (Number (pos n)) (length ds)) (ap (digits_value 10) (take-append_seam ds rest) ∙ e)
        (token_of (ds ++ rest) (Number (pos (digits_value 10 (take (length ds) (ds ++ rest))))) (length ds) gap f)

    by_digits : (ds : List ℕ) → AllDigits 10 ds → 48 < get_or ds 0 0 → digits_value 10 ds ≡ v → TokenAt (ds ++ rest) (Number (pos v)) (length ds)
    by_digits [] d lt e = absurd (omega arith)
    by_digits (c ∷ cs) d lt e =
        let all = all_digits (c ∷ cs) d in
        let first = and_left (digit c) (list_all digit cs) all in
        found_as (c ∷ cs) (no_gap_48 c (cs ++ rest) first)
        (subst (λ n. FoundNumber ((c ∷ cs) ++ rest) n) (prefix_is (c ∷ cs) rest all a) (finds_number ((c ∷ cs) ++ rest) (omega arith) first (λ z. omega arith))) e

decimal_zero : decimal 0 ≡ 48 ∷ []
decimal_zero = decimal_by_steps (λ m ds. m ≡ 0 → ds ≡ 48 ∷ []) (λ m l e. ap (λ k. (48 + k) ∷ []) e) (λ m ds l h e. absurd (omega arith)) 0 (omega arith) refl

zero_found : (rest : List ℕ) → TokenAt (decimal 0 ++ rest) (Number (pos 0)) (length (decimal 0))
zero_found rest =
    subst (λ ds. TokenAt (ds ++ rest) (Number (pos 0)) (length ds)) (sym decimal_zero)
    (token_of (48 ∷ rest) (Number (pos 0)) 1 (gap rest) (finds_zero (48 ∷ rest) (omega arith) refl))
  where
    gap : (rest : List ℕ) → begins_gap (48 ∷ rest) ≡ false
    gap [] = refl
    gap (c ∷ w) = refl

number_found : (v : ℕ) (rest : List ℕ) → v < 2 ^ 63 → Apart rest → TokenAt (decimal v ++ rest) (Number (pos v)) (length (decimal v))
number_found zero rest small a = zero_found rest
number_found (suc v) rest small a = decimal_found (suc v) rest (omega arith) small a

pub number_piece : (ps : List Part) (v : ℕ) (p : Place) → v < 2 ^ 63 → Piece {X = Place} (λ x. opens ps (Number (pos v)) x ∷ []) (opens ps (Number (pos v)) p ∷ []) (decimal v) Apart
number_piece ps v p small = one_token ps (Number (pos v)) p (decimal v) (λ rest a. number_found v rest small a) small

-- quoted texts

-- each byte fits into eight bits
pub data Bytes : List ℕ → Type 0 where
  none : Bytes []
  more : {b : ℕ} {bs : List ℕ} → b < 256 → Bytes bs → Bytes (b ∷ bs)

plain_small : (b : ℕ) → plain_byte b ≡ true → b < 256
plain_small b h = grind (arith, nat_tests)

escaped_small : (c b : ℕ) → escaped c ≡ Some b → b < 256
escaped_small c b h = grind (arith, nat_tests)

hex_small : (c h : ℕ) → hex_value c ≡ Some h → h < 16
hex_small c h e = grind (arith, nat_tests)

piece_small : {w : List ℕ} {b : ℕ} → Spelled w b → b < 256
piece_small {w} {b} (itself h e) = plain_small b h
piece_small {w} {b} (escape c h e) = escaped_small c b h
piece_small {w} {b} (code high low h l eh el e v) = omega (arith, v, hex_small high h eh, hex_small low l el)

pub inside_bytes : {w t : List ℕ} → Inside w t → Bytes t
inside_bytes empty = none
inside_bytes (piece w rest b p e i) = more (piece_small p) (inside_bytes i)

hex_back : (d : ℕ) → d < 16 → hex_value (hex_digit d) ≡ Some d
hex_back d lt = elim (nat_lt d 10) as (λ x. nat_lt d 10 ≡ x → hex_value (if x then 48 + d else 87 + d) ≡ Some d) [
  | true ↦ λ h.
      let small : d < 10 = grind (arith, nat_tests) in
      let one : (nat_le 48 (48 + d) && nat_le (48 + d) 57) ≡ true = grind (arith, nat_tests) in
      rw one (ap Some (omega arith))
  | false ↦ λ h.
      let large : 10 ≤ d = grind (arith, nat_tests) in
      let one : (nat_le 48 (87 + d) && nat_le (87 + d) 57) ≡ false = grind (arith, nat_tests) in
      let two : (nat_le 97 (87 + d) && nat_le (87 + d) 102) ≡ true = grind (arith, nat_tests) in
      rw (one, two) (ap Some (omega arith))
] refl

either : (x : Bool) (v w : List ℕ) (b : ℕ) → (x ≡ true → Spelled v b) → (x ≡ false → Spelled w b) → Spelled (if x then v else w) b
either true v w b p q = p refl
either false v w b p q = q refl

is_equal : (b c : ℕ) → (b == c) ≡ true → c ≡ b
is_equal b c h = grind (arith, nat_tests)

is_other : (b c : ℕ) → (b == c) ≡ false → (b ≡ c → ⊥)
is_other b c h e = grind (arith, nat_tests)

printable_plain : (b : ℕ) → (b ≡ 34 → ⊥) → (b ≡ 92 → ⊥) → (nat_le 32 b && nat_le b 126) ≡ true → plain_byte b ≡ true
printable_plain b q s h = grind (arith, nat_tests)

byte_piece : (b : ℕ) → b < 256 → Spelled (spelled_byte b) b
byte_piece b lt =
    either (b == 10) _ _ b (λ h. escape 110 (ap Some (is_equal b 10 h)) refl) (λ h.
    either (b == 9) _ _ b (λ h. escape 116 (ap Some (is_equal b 9 h)) refl) (λ h.
    either (b == 34) _ _ b (λ h. escape 34 (ap Some (is_equal b 34 h)) refl) (λ quote.
    either (b == 92) _ _ b (λ h. escape 92 (ap Some (is_equal b 92 h)) refl) (λ slash.
    either (nat_le 32 b && nat_le b 126) _ _ b (λ h. itself (printable_plain b (is_other b 34 quote) (is_other b 92 slash) h) refl) (λ h.
    code (hex_digit (b / 16)) (hex_digit (b % 16)) (b / 16) (b % 16) (hex_back (b / 16) (omega arith)) (hex_back (b % 16) (omega arith)) refl (omega arith))))))

pub inside_of : {t : List ℕ} → Bytes t → Inside (spelled_text t) t
inside_of none = empty
inside_of (more {b} {bs} lt rest) = piece (spelled_byte b) (spelled_text bs) b (byte_piece b lt) refl (inside_of rest)

quoted_size : (t : List ℕ) → length (quoted t) ≡ length (spelled_text t) + 2
quoted_size t = omega (arith, length-append (spelled_text t) (34 ∷ []))

quoted_found : (t rest : List ℕ) → Bytes t → TokenAt (quoted t ++ rest) (Text t) (length (quoted t))
quoted_found t rest small = record {
  apart = gap ((spelled_text t ++ 34 ∷ []) ++ rest);
  within = omega (arith, length-append (quoted t) rest);
  spelled = (spelled_text t, take-append_seam (quoted t) rest, inside_of small);
  longest = subst (λ n. Longest n) (sym (quoted_size t)) (text_longest (quoted t ++ rest) (spelled_text t) t rest (ap (λ x. 34 ∷ x) (append_assoc (spelled_text t) (34 ∷ []) rest)) (inside_of small));
}
  where
    Longest : ℕ → Type 0
    Longest n = IsLongest n (quoted t ++ rest)

    gap : (w : List ℕ) → begins_gap (34 ∷ w) ≡ false
    gap [] = refl
    gap (c ∷ w) = refl

pub text_piece : (ps : List Part) (t : List ℕ) (p : Place) → Bytes t → length t ≤ 65535 → Piece {X = Place} (λ x. opens ps (Text t) x ∷ []) (opens ps (Text t) p ∷ []) (quoted t) Any
text_piece ps t p small short = one_token ps (Text t) p (quoted t) (λ rest a. quoted_found t rest small) short

-- a number begins with a digit
pub record Digits (w : List ℕ) : Type 0 where
  pub first : ℕ
  pub rest : List ℕ
  pub is : w ≡ first ∷ rest
  pub digit : digit first ≡ true

pub decimal_opens : (v : ℕ) → v < 2 ^ 63 → Digits (decimal v)
decimal_opens v small = by_digits (decimal v) (decimal_is_IsNumeral v (omega arith)).0.0 (decimal_is_IsNumeral v (omega arith)).0.1
  where
    by_digits : (ds : List ℕ) → 0 < length ds → AllDigits 10 ds → Digits ds
    by_digits [] some d = absurd (omega arith)
    by_digits (c ∷ cs) some d = record { first = c; rest = cs; is = refl; digit = and_left (digit c) (list_all digit cs) (all_digits (c ∷ cs) d) }
