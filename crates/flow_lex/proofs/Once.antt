-- A text is read in one way.
use Rattle.std.proofs.Common.{◌≡◌, ℕ, zero, suc, ◌+◌, ◌<◌, List, [], ◌∷◌, ◌++◌, length, take, drop, refl, sym, ap, ◌∙◌, subst, arith, Bool, true, false, cond, Some, append_assoc}
use Rattle.std.specs.Prelude.{eqb, bytes_eq, not, ◌||◌, ◌&&◌}
use Rattle.std.specs.List.{find, prefix_len}
use Rattle.std.proofs.lemmas.Bool.Decides.{nat_tests}
use Rattle.std.proofs.lemmas.List.{take-append-drop}
use Rattle.flow_base.specs.Names.{letter, digit}
use Rattle.flow_base.specs.declared.place.Place.{Place}
use Rattle.flow_tree.specs.declared.token.Token.{Token}
use Rattle.flow_tree.specs.declared.token.Token.TheVariants as token_is
use Rattle.flow_tree.specs.declared.token.Token.TheVariants.{Name, Number, Text}
use Rattle.flow_tree.specs.declared.token.Spot.{Spot}
use Rattle.flow_tree.specs.declared.token.Word as words
use Rattle.flow_tree.specs.declared.token.Word.TheVariants.{Actor}
use Rattle.flow_tree.specs.declared.token.Sign as signs
use Rattle.flow_tree.specs.declared.token.Sign.TheVariants.{OpenRound}
use Rattle.flow_tree.specs.declared.fault.Rule.{Rule}
use Rattle.flow_tree.specs.Spelling.{word_bytes, sign_bytes, Spells, IsBounded, IsLongest, Inside, NoPiece, is_blank, in_line, block_length, close_position, begins_gap, gap_length}
use Rattle.flow_tree.specs.Lexing.{place_after, TokenAt, ReadsTokens, here, gap, token, EndsLine, Cannot, Refusal, bad_byte, bad_inside, open_text, open_comment, too_big, LexFault}
use Rattle.flow_lex.specs.Laws.{ReadsOnce}
use Rattle.flow_lex.proofs.Bytes.{true_false, head_same, tail_same, Begins, begins, no_spelling}
use Rattle.flow_lex.proofs.Tables.{all_words, all_signs}
use Rattle.flow_lex.proofs.Pieces.{SameInside, inside_same, close_no_piece, ends_no_piece, cannot_no_piece}

-- the four classes of tokens, by the first byte
abbrev class_of : Token → ℕ
class_of (Name n) = 0
class_of (token_is.Word k) = 0
class_of (Number z) = 1
class_of (Text t) = 2
class_of (token_is.Sign g) = 3

abbrev class_by : Bool → Bool → Bool → ℕ
class_by x y z = cond x 0 (cond y 1 (cond z 2 3))

abbrev class_at : ℕ → ℕ
class_at b = class_by (letter b) (digit b) (eqb b 34)

class_is : (t : Token) (b : ℕ) → Begins t b → class_at b ≡ class_of t
class_is (Name n) b h = ap (λ x. class_by x (digit b) (eqb b 34)) h
class_is (token_is.Word k) b h = ap (λ x. class_by x (digit b) (eqb b 34)) h
class_is (Number z) b h = grind (arith, nat_tests)
class_is (Text t) b h = ap class_at h
class_is (token_is.Sign g) b h = by_tests (letter b) (digit b) (eqb b 34) h
  where
    by_tests : (x y z : Bool) → not (x || y || z) ≡ true → class_by x y z ≡ 3
    by_tests true y z e = cc
    by_tests false true z e = cc
    by_tests false false true e = cc
    by_tests false false false e = refl

same_class : (t u : Token) (w : List ℕ) → Spells t w → Spells u w → class_of t ≡ class_of u
same_class t u [] s r = absurd (no_spelling t s)
same_class t u (b ∷ w) s r = sym (class_is t b (begins t b w s)) ∙ class_is u b (begins u b w r)

-- words and signs differ in their bytes
word_itself : (k : words.Word) → find (λ x. bytes_eq (word_bytes x) (word_bytes k)) all_words ≡ Some k
word_itself Actor = refl
word_itself _ = refl

sign_itself : (g : signs.Sign) → find (λ x. bytes_eq (sign_bytes x) (sign_bytes g)) all_signs ≡ Some g
sign_itself OpenRound = refl
sign_itself _ = refl

some_same : {X : Type 0} (x y : X) → Some x ≡ Some y → x ≡ y
some_same x y h = cc

word_same : (k j : words.Word) → word_bytes k ≡ word_bytes j → k ≡ j
word_same k j e = some_same k j (sym (word_itself k) ∙ ap (λ w. find (λ x. bytes_eq (word_bytes x) w) all_words) e ∙ word_itself j)

sign_same : (g h : signs.Sign) → sign_bytes g ≡ sign_bytes h → g ≡ h
sign_same g h e = some_same g h (sym (sign_itself g) ∙ ap (λ w. find (λ x. bytes_eq (sign_bytes x) w) all_signs) e ∙ sign_itself h)

text_same : (t u i j : List ℕ) (w : List ℕ) → w ≡ 34 ∷ (i ++ 34 ∷ []) → Inside i t → w ≡ 34 ∷ (j ++ 34 ∷ []) → Inside j u → t ≡ u
text_same t u i j w e a f b =
    (inside_same (34 ∷ []) (34 ∷ []) (tail_same 34 34 (i ++ 34 ∷ []) (j ++ 34 ∷ []) (sym e ∙ f)) a b (close_no_piece []) (close_no_piece [])).held

-- a spelling has one token
pub one_token : (t u : Token) (w : List ℕ) → Spells t w → Spells u w → t ≡ u
one_token (Name n) (Name m) w s r = ap Name (s.2 ∙ sym r.2)
one_token (Name n) (token_is.Word k) w s r = absurd (s.1 k r)
one_token (Name n) (Number z) w s r = absurd (omega (arith, same_class (Name n) (Number z) w s r))
one_token (Name n) (Text u) w s r = absurd (omega (arith, same_class (Name n) (Text u) w s r))
one_token (Name n) (token_is.Sign g) w s r = absurd (omega (arith, same_class (Name n) (token_is.Sign g) w s r))
one_token (token_is.Word k) (Name m) w s r = absurd (r.1 k s)
one_token (token_is.Word k) (token_is.Word j) w s r = ap token_is.Word (word_same k j (s ∙ sym r))
one_token (token_is.Word k) (Number z) w s r = absurd (omega (arith, same_class (token_is.Word k) (Number z) w s r))
one_token (token_is.Word k) (Text u) w s r = absurd (omega (arith, same_class (token_is.Word k) (Text u) w s r))
one_token (token_is.Word k) (token_is.Sign g) w s r = absurd (omega (arith, same_class (token_is.Word k) (token_is.Sign g) w s r))
one_token (Number z) (Name m) w s r = absurd (omega (arith, same_class (Number z) (Name m) w s r))
one_token (Number z) (token_is.Word k) w s r = absurd (omega (arith, same_class (Number z) (token_is.Word k) w s r))
one_token (Number z) (Number y) w s r = ap Number (s.1 ∙ sym r.1)
one_token (Number z) (Text u) w s r = absurd (omega (arith, same_class (Number z) (Text u) w s r))
one_token (Number z) (token_is.Sign g) w s r = absurd (omega (arith, same_class (Number z) (token_is.Sign g) w s r))
one_token (Text t) (Name m) w s r = absurd (omega (arith, same_class (Text t) (Name m) w s r))
one_token (Text t) (token_is.Word k) w s r = absurd (omega (arith, same_class (Text t) (token_is.Word k) w s r))
one_token (Text t) (Number z) w s r = absurd (omega (arith, same_class (Text t) (Number z) w s r))
one_token (Text t) (Text u) w s r = ap Text (text_same t u s.0 r.0 w s.1 s.2 r.1 r.2)
one_token (Text t) (token_is.Sign g) w s r = absurd (omega (arith, same_class (Text t) (token_is.Sign g) w s r))
one_token (token_is.Sign g) (Name m) w s r = absurd (omega (arith, same_class (token_is.Sign g) (Name m) w s r))
one_token (token_is.Sign g) (token_is.Word k) w s r = absurd (omega (arith, same_class (token_is.Sign g) (token_is.Word k) w s r))
one_token (token_is.Sign g) (Number z) w s r = absurd (omega (arith, same_class (token_is.Sign g) (Number z) w s r))
one_token (token_is.Sign g) (Text u) w s r = absurd (omega (arith, same_class (token_is.Sign g) (Text u) w s r))
one_token (token_is.Sign g) (token_is.Sign h) w s r = ap token_is.Sign (sign_same g h (s ∙ sym r))

-- the token at a place is one
pub token_same : (text : List ℕ) (t u : Token) (n m : ℕ) → TokenAt text t n → TokenAt text u m → (t ≡ u) × (n ≡ m)
token_same text t u n m a b =
    let same : n ≡ m = at_most n m (λ lt. a.longest m u lt b.within b.spelled) (λ lt. b.longest n t lt a.within a.spelled) in
    (one_token t u (take m text) (subst (λ k. Spells t (take k text)) same a.spelled) b.spelled, same)
  where
    at_most : (n m : ℕ) → (n < m → ⊥) → (m < n → ⊥) → n ≡ m
    at_most n m f g = omega (arith, f, g)

-- where no gap begins, none has a length
pub no_gap : (text : List ℕ) → begins_gap text ≡ false → gap_length text ≡ 0
no_gap [] h = refl
no_gap (b ∷ []) h = ap (λ x. cond x 1 0) h
no_gap (b ∷ c ∷ w) h = by_tests (is_blank b) (eqb b 47) (eqb c 47) (eqb c 42) h
  where
    by_tests : (x y z v : Bool) → (x || (y && (z || v))) ≡ false → cond x 1 (cond (y && z) (prefix_len in_line w + 2) (cond (y && v) (block_length (close_position w)) 0)) ≡ 0
    by_tests true y z v e = cc
    by_tests false true true v e = cc
    by_tests false true false true e = cc
    by_tests false true false false e = refl
    by_tests false false z v e = refl

-- neither a gap nor a token is read here
pub record Stuck (text : List ℕ) : Type 0 where
  pub gap : gap_length text ≡ 0
  pub token : (t : Token) (n : ℕ) → TokenAt text t n → IsBounded t → ⊥

nothing_there : (t : Token) (n : ℕ) → TokenAt [] t n → ⊥
nothing_there t zero a = no_spelling t a.spelled
nothing_there t (suc n) a = omega (arith, a.within)

pub end_stuck : Stuck []
end_stuck = record { gap = refl; token = λ t n a b. nothing_there t n a }

quote_no_gap : (w : List ℕ) → begins_gap (34 ∷ w) ≡ false
quote_no_gap [] = refl
quote_no_gap (c ∷ w) = refl

-- an unclosed or faulty text is no token
pub no_text : (text inside held rest : List ℕ) → text ≡ 34 ∷ (inside ++ rest) → Inside inside held → NoPiece rest → ((d : List ℕ) → rest ≡ 34 ∷ d → ⊥) → (t : Token) (n : ℕ) → TokenAt text t n → ⊥
no_text text inside held rest e i over shut t zero a = no_spelling t a.spelled
no_text text inside held rest e i over shut t (suc n) a = by_token t (subst (λ x. Spells t (take (suc n) x)) e a.spelled)
  where
    by_token : (t : Token) → Spells t (34 ∷ take n (inside ++ rest)) → ⊥
    by_token (Name m) s = omega (arith, class_is (Name m) 34 (begins (Name m) 34 (take n (inside ++ rest)) s))
    by_token (token_is.Word k) s = omega (arith, class_is (token_is.Word k) 34 (begins (token_is.Word k) 34 (take n (inside ++ rest)) s))
    by_token (Number z) s = omega (arith, class_is (Number z) 34 (begins (Number z) 34 (take n (inside ++ rest)) s))
    by_token (token_is.Sign g) s = omega (arith, class_is (token_is.Sign g) 34 (begins (token_is.Sign g) 34 (take n (inside ++ rest)) s))
    by_token (Text u) s =
        let own = s.0 in
        let front = tail_same 34 34 (take n (inside ++ rest)) (own ++ 34 ∷ []) s.1 in
        let d = drop n (inside ++ rest) in
        let whole : inside ++ rest ≡ own ++ 34 ∷ d =
        sym (take-append-drop n (inside ++ rest)) ∙ ap (λ x. x ++ d) front ∙ append_assoc own (34 ∷ []) d in
        shut d (inside_same rest (34 ∷ d) whole i s.2 over (close_no_piece d)).rest

cannot_shut : (rest d : List ℕ) → Cannot rest → rest ≡ 34 ∷ d → ⊥
cannot_shut [] d c e = c
cannot_shut (b ∷ w) d c e = c.1 (head_same b 34 w d e)

ends_shut : (rest d : List ℕ) → EndsLine rest → rest ≡ 34 ∷ d → ⊥
ends_shut [] d c e = cc
ends_shut (b ∷ w) d c e = omega (arith, c, head_same b 34 w d e)

no_longest : (text : List ℕ) → IsLongest 0 text → (t : Token) (n : ℕ) → TokenAt text t n → ⊥
no_longest text l t zero a = no_spelling t a.spelled
no_longest text l t (suc n) a = l (suc n) t (omega arith) a.within a.spelled

-- what is refused is neither
pub refused_stuck : {before text : List ℕ} {rule : Rule} {p : Place} → Refusal before text rule p → Stuck text
refused_stuck {before} {text} (bad_byte b rest e g q l) = record { gap = no_gap text g; token = λ t n a bound. no_longest text l t n a }
refused_stuck {before} {text} (bad_inside inside held rest e i c) = record {
  gap = no_gap text (ap begins_gap e ∙ quote_no_gap (inside ++ rest));
  token = λ t n a bound. no_text text inside held rest e i (cannot_no_piece rest c) (λ d. cannot_shut rest d c) t n a;
}
refused_stuck {before} {text} (open_text inside held rest e i c) = record {
  gap = no_gap text (ap begins_gap e ∙ quote_no_gap (inside ++ rest));
  token = λ t n a bound. no_text text inside held rest e i (ends_no_piece rest c) (λ d. ends_shut rest d c) t n a;
}
refused_stuck {before} {text} (open_comment c) = record { gap = c.1; token = λ t n a bound. true_false (sym c.0 ∙ a.apart) }
refused_stuck {before} {text} (too_big t n a over) = record {
  gap = no_gap text a.apart;
  token = λ u m b bound. over (subst IsBounded (sym (token_same text t u n m a b).0) bound);
}

-- two readings of one text that both come to an end come to one end
pub record SameEnd (s t : List Spot) (b c d e : List ℕ) : Type 0 where
  pub spots : s ≡ t
  pub before : b ≡ c
  pub text : d ≡ e

more_same : (x : Spot) {s t : List Spot} {b c d e : List ℕ} → SameEnd s t b c d e → SameEnd (x ∷ s) (x ∷ t) b c d e
more_same x m = record { spots = ap (λ l. x ∷ l) m.spots; before = m.before; text = m.text }

pub once : {b t b1 t1 b2 t2 : List ℕ} {s1 s2 : List Spot} → ReadsTokens b t s1 b1 t1 → ReadsTokens b t s2 b2 t2 → Stuck t1 → Stuck t2 → SameEnd s1 s2 b1 b2 t1 t2
once here here x y = record { spots = refl; before = refl; text = refl }
once here (gap some l) x y = absurd (omega (arith, x.gap, some))
once here (token t n a bound l) x y = absurd (x.token t n a bound)
once (gap some l) here x y = absurd (omega (arith, y.gap, some))
once (gap some l) (gap some' l') x y = once l l' x y
once {t = text} (gap some l) (token t n a bound l') x y = absurd (omega (arith, some, no_gap text a.apart))
once (token t n a bound l) here x y = absurd (y.token t n a bound)
once {t = text} (token t n a bound l) (gap some l') x y = absurd (omega (arith, some, no_gap text a.apart))
once {b = b} {t = text} {b2 = b2} {t2 = t2} (token {spots = s} t n a bound l) (token {spots = s'} t' n' a' bound' l') x y =
    let same = token_same text t t' n n' a a' in
    let l'' = subst (λ k. ReadsTokens (b ++ take k text) (drop k text) s' b2 t2) (sym same.1) l' in
    let e = more_same (record { token = t; at = place_after b }) (once l l'' x y) in
    record { spots = e.spots ∙ ap (λ u. record { token = u; at = place_after b } ∷ s') same.0; before = e.before; text = e.text }

quote_same : (before i j r s : List ℕ) → i ≡ j → place_after (before ++ 34 ∷ i) ≡ place_after (before ++ 34 ∷ j)
quote_same before i j r s e = ap (λ x. place_after (before ++ 34 ∷ x)) e

insides : (text i h r j k s : List ℕ) → text ≡ 34 ∷ (i ++ r) → Inside i h → NoPiece r → text ≡ 34 ∷ (j ++ s) → Inside j k → NoPiece s → SameInside i r h j s k
insides text i h r j k s e a n f b m = inside_same r s (tail_same 34 34 (i ++ r) (j ++ s) (sym e ∙ f)) a b n m

cannot_ends : (r s : List ℕ) → r ≡ s → Cannot r → EndsLine s → ⊥
cannot_ends [] s e c l = c
cannot_ends (b ∷ r) [] e c l = cc
cannot_ends (b ∷ r) (d ∷ s) e c l = c.0 (head_same b d r s e ∙ l)

gap_quote : (text w : List ℕ) → text ≡ 34 ∷ w → begins_gap text ≡ true → ⊥
gap_quote text w e h = true_false (sym h ∙ ap begins_gap e ∙ quote_no_gap w)

-- the refusal at a place is one
pub refusal_same : {before text : List ℕ} {r s : Rule} {p q : Place} → Refusal before text r p → Refusal before text s q → (r ≡ s) × (p ≡ q)
refusal_same (bad_byte b w e g n l) (bad_byte b' w' e' g' n' l') = (refl, refl)
refusal_same (bad_byte b w e g n l) (bad_inside i h r f a c) = absurd (n (head_same b 34 w (i ++ r) (sym e ∙ f)))
refusal_same (bad_byte b w e g n l) (open_text i h r f a c) = absurd (n (head_same b 34 w (i ++ r) (sym e ∙ f)))
refusal_same (bad_byte b w e g n l) (open_comment c) = absurd (true_false (sym c.0 ∙ g))
refusal_same {text = text} (bad_byte b w e g n l) (too_big t k a o) = absurd (no_longest text l t k a)
refusal_same (bad_inside i h r f a c) (bad_byte b w e g n l) = absurd (n (head_same b 34 w (i ++ r) (sym e ∙ f)))
refusal_same {before} {text} (bad_inside i h r f a c) (bad_inside j k s f' a' c') =
    let m = insides text i h r j k s f a (cannot_no_piece r c) f' a' (cannot_no_piece s c') in
    (refl, quote_same before i j r s m.own)
refusal_same {text = text} (bad_inside i h r f a c) (open_text j k s f' a' c') =
    let m = insides text i h r j k s f a (cannot_no_piece r c) f' a' (ends_no_piece s c') in
    absurd (cannot_ends r s m.rest c c')
refusal_same {text = text} (bad_inside i h r f a c) (open_comment d) = absurd (gap_quote text (i ++ r) f d.0)
refusal_same {text = text} (bad_inside i h r f a c) (too_big t k b o) = absurd (no_text text i h r f a (cannot_no_piece r c) (λ d. cannot_shut r d c) t k b)
refusal_same (open_text i h r f a c) (bad_byte b w e g n l) = absurd (n (head_same b 34 w (i ++ r) (sym e ∙ f)))
refusal_same {text = text} (open_text i h r f a c) (bad_inside j k s f' a' c') =
    let m = insides text j k s i h r f' a' (cannot_no_piece s c') f a (ends_no_piece r c) in
    absurd (cannot_ends s r m.rest c' c)
refusal_same (open_text i h r f a c) (open_text j k s f' a' c') = (refl, refl)
refusal_same {text = text} (open_text i h r f a c) (open_comment d) = absurd (gap_quote text (i ++ r) f d.0)
refusal_same {text = text} (open_text i h r f a c) (too_big t k b o) = absurd (no_text text i h r f a (ends_no_piece r c) (λ d. ends_shut r d c) t k b)
refusal_same (open_comment d) (bad_byte b w e g n l) = absurd (true_false (sym d.0 ∙ g))
refusal_same {text = text} (open_comment d) (bad_inside i h r f a c) = absurd (gap_quote text (i ++ r) f d.0)
refusal_same {text = text} (open_comment d) (open_text i h r f a c) = absurd (gap_quote text (i ++ r) f d.0)
refusal_same (open_comment d) (open_comment d') = (refl, refl)
refusal_same (open_comment d) (too_big t k b o) = absurd (true_false (sym d.0 ∙ b.apart))
refusal_same {text = text} (too_big t k b o) (bad_byte c w e g n l) = absurd (no_longest text l t k b)
refusal_same {text = text} (too_big t k b o) (bad_inside i h r f a c) = absurd (no_text text i h r f a (cannot_no_piece r c) (λ d. cannot_shut r d c) t k b)
refusal_same {text = text} (too_big t k b o) (open_text i h r f a c) = absurd (no_text text i h r f a (ends_no_piece r c) (λ d. ends_shut r d c) t k b)
refusal_same (too_big t k b o) (open_comment d) = absurd (true_false (sym d.0 ∙ b.apart))
refusal_same (too_big t k b o) (too_big u m c o') = (refl, refl)

pub reads_once : (bytes : List ℕ) → ReadsOnce bytes
reads_once bytes = record {
  tokens = λ s t p q a b. let e = once a.reads b.reads end_stuck end_stuck in (e.spots, a.ends ∙ sym b.ends);
  fault = λ r s p q a b. by_end r s p q a b (once a.reads b.reads (refused_stuck a.refused) (refused_stuck b.refused));
  either = λ s e r p a b. by_refusal b.refused (once a.reads b.reads end_stuck (refused_stuck b.refused)).text;
}
  where
    by_end : (r s : Rule) (p q : Place) (a : LexFault bytes r p) (b : LexFault bytes s q) → SameEnd a.spots b.spots a.before b.before a.text b.text → (r ≡ s) × (p ≡ q)
    by_end r s p q a b e =
        refusal_same a.refused (subst (λ x. Refusal x a.text s q) (sym e.before) (subst (λ x. Refusal b.before x s q) (sym e.text) b.refused))

    by_refusal : {before text : List ℕ} {r : Rule} {p : Place} → Refusal before text r p → [] ≡ text → ⊥
    by_refusal (bad_byte b w e g n l) z = absurd (omega (arith, ap length (z ∙ e)))
    by_refusal (bad_inside i h r f a c) z = absurd (omega (arith, ap length (z ∙ f)))
    by_refusal (open_text i h r f a c) z = absurd (omega (arith, ap length (z ∙ f)))
    by_refusal (open_comment d) z = true_false (sym d.0 ∙ ap begins_gap (sym z))
    by_refusal (too_big t k b o) z = nothing_there t k (subst (λ x. TokenAt x t k) (sym z) b)
