-- Tests of bytes, and the first byte of each spelling.
use Rattle.std.proofs.Common.{◌≡◌, ℕ, zero, suc, ◌+◌, ◌≤◌, List, [], ◌∷◌, ◌++◌, length, take, get_or, refl, sym, ap, ◌∙◌, subst, arith, Bool, true, false, cond}
use Rattle.std.specs.Prelude.{not, ◌&&◌, ◌||◌, eqb, nat_lt}
use Rattle.std.specs.List.{list_all, prefix_len}
use Rattle.std.proofs.lemmas.Bool.Decides.{nat_tests}
use Rattle.flow_base.proofs.Bools.{and_left, and_right}
use Rattle.flow_base.specs.Names.{letter, digit, name_byte, is_name_text}
use Rattle.flow_tree.specs.declared.token.Token.{Token}
use Rattle.flow_tree.specs.declared.token.Token.TheVariants as token
use Rattle.flow_tree.specs.declared.token.Token.TheVariants.{Name, Number, Text}
use Rattle.flow_tree.specs.declared.token.Word as words
use Rattle.flow_tree.specs.declared.token.Word.TheVariants.{Actor}
use Rattle.flow_tree.specs.declared.token.Sign as signs
use Rattle.flow_tree.specs.declared.token.Sign.TheVariants.{OpenRound}
use Rattle.flow_tree.specs.Spelling.{word_bytes, sign_bytes, is_number_text, Spells}
use Rattle.flow_lex.specs.Next.{sign_byte}

pub both : (a b : Bool) → a ≡ true → b ≡ true → (a && b) ≡ true
both true b h k = k
both false b h k = cc

pub true_false : true ≡ false → ⊥
true_false h = cc

pub head_same : (a b : ℕ) (x y : List ℕ) → a ∷ x ≡ b ∷ y → a ≡ b
head_same a b x y h = cc

pub tail_same : (a b : ℕ) (x y : List ℕ) → a ∷ x ≡ b ∷ y → x ≡ y
tail_same a b x y h = cc

module _ (p : ℕ → Bool) where
  -- bytes that all pass the test are no more than those that begin the list
  pub prefix_all : (xs : List ℕ) (k : ℕ) → k ≤ length xs → list_all p (take k xs) ≡ true → k ≤ prefix_len p xs
  prefix_all [] k h a = omega arith
  prefix_all (x ∷ xs) zero h a = omega arith
  prefix_all (x ∷ xs) (suc k) h a =
      rw (and_left (p x) (list_all p (take k xs)) a) (omega (arith, prefix_all xs k (omega arith) (and_right (p x) (list_all p (take k xs)) a)))

  pub prefix_passes : (xs : List ℕ) → list_all p (take (prefix_len p xs) xs) ≡ true
  prefix_passes [] = refl
  prefix_passes (x ∷ xs) =
      let n = prefix_len p xs in
      let e : 1 + n ≡ suc n = omega arith in
      elim (p x) as (λ b. (p x ≡ b) → list_all p (take (cond b (1 + n) 0) (x ∷ xs)) ≡ true) [
        | true ↦ λ h. subst (λ m. list_all p (take m (x ∷ xs)) ≡ true) (sym e) (both (p x) (list_all p (take n xs)) h (prefix_passes xs))
        | false ↦ λ h. refl
      ] refl

pub word_is_name : (k : words.Word) → is_name_text (word_bytes k) ≡ true
word_is_name Actor = refl
word_is_name _ = refl

pub sign_first : (s : signs.Sign) → sign_byte (get_or (sign_bytes s) 0 0) ≡ true
sign_first OpenRound = refl
sign_first _ = refl

pub sign_short : (s : signs.Sign) → nat_lt (length (sign_bytes s)) 3 ≡ true
sign_short OpenRound = refl
sign_short _ = refl

pub sign_some : (s : signs.Sign) → nat_lt 0 (length (sign_bytes s)) ≡ true
sign_some OpenRound = refl
sign_some _ = refl

pub letter_no_digit : (b : ℕ) → letter b ≡ true → digit b ≡ true → ⊥
letter_no_digit b h k = grind (arith, nat_tests)

pub letter_no_sign : (b : ℕ) → letter b ≡ true → sign_byte b ≡ true → ⊥
letter_no_sign b h k = true_false (sym (ap (λ x. not (x || digit b || eqb b 34)) (sym h) ∙ k))

pub digit_no_sign : (b : ℕ) → digit b ≡ true → sign_byte b ≡ true → ⊥
digit_no_sign b h k = grind (arith, nat_tests)

pub quote_no_letter : (b : ℕ) → b ≡ 34 → letter b ≡ true → ⊥
quote_no_letter b e h = grind (arith, nat_tests)

pub quote_no_digit : (b : ℕ) → b ≡ 34 → digit b ≡ true → ⊥
quote_no_digit b e h = grind (arith, nat_tests)

pub quote_no_sign : (b : ℕ) → b ≡ 34 → sign_byte b ≡ true → ⊥
quote_no_sign b e h = grind (arith, nat_tests)

pub number_first : (b : ℕ) (w : List ℕ) → is_number_text (b ∷ w) ≡ true → digit b ≡ true
number_first b w h = elim (eqb b 48) as (λ x. (eqb b 48 ≡ x) → cond x (nat_lt (length w) 1) (digit b && list_all digit w) ≡ true → digit b ≡ true) [
  | true ↦ λ e f. grind (arith, nat_tests)
  | false ↦ λ e f. and_left (digit b) (list_all digit w) f
] refl h

-- what the first byte of a spelling is
abbrev pub Begins : Token → ℕ → Type 0
Begins (Name n) b = letter b ≡ true
Begins (Number z) b = digit b ≡ true
Begins (Text t) b = b ≡ 34
Begins (token.Word k) b = letter b ≡ true
Begins (token.Sign s) b = sign_byte b ≡ true

pub begins : (t : Token) (b : ℕ) (w : List ℕ) → Spells t (b ∷ w) → Begins t b
begins (Name n) b w s = and_left (letter b) (list_all name_byte w) s.0
begins (Number z) b w s = number_first b w s.0
begins (Text t) b w s = head_same b 34 w (s.0 ++ 34 ∷ []) s.1
begins (token.Word k) b w s = and_left (letter b) (list_all name_byte w) (subst (λ x. is_name_text x ≡ true) s (word_is_name k))
begins (token.Sign g) b w s = ap (λ x. sign_byte (get_or x 0 0)) (sym s) ∙ sign_first g

pub no_spelling : (t : Token) → Spells t [] → ⊥
no_spelling (Name n) s = cc (s.0)
no_spelling (Number z) s = cc (s.0)
no_spelling (Text t) s = cc (s.1)
no_spelling (token.Word k) s = true_false (sym (word_is_name k) ∙ ap is_name_text s)
no_spelling (token.Sign g) s = true_false (sym (sign_some g) ∙ ap (λ x. nat_lt 0 (length x)) s)
