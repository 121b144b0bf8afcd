-- The longest spelling of names, numbers and signs.
use Rattle.std.proofs.Common.{◌≡◌, ℕ, zero, suc, ◌+◌, ◌≤◌, ◌<◌, List, [], ◌∷◌, length, take, get_or, sym, ap, ◌∙◌, subst, arith, true, cond, min}
use Rattle.std.specs.Prelude.{◌||◌}
use Rattle.std.specs.List.{list_all, prefix_len}
use Rattle.std.proofs.lemmas.Bool.Decides.{nat_tests}
use Rattle.std.proofs.lemmas.List.{length-take}
use Rattle.std.proofs.lemmas.List.Sums.{prefix_len-le-length}
use Rattle.flow_base.proofs.Bools.{and_right}
use Rattle.flow_base.specs.Names.{letter, digit, name_byte, is_name_text}
use Rattle.flow_tree.specs.declared.token.Token.TheVariants as token
use Rattle.flow_tree.specs.declared.token.Token.TheVariants.{Name, Number, Text}
use Rattle.flow_tree.specs.declared.token.Sign as signs
use Rattle.flow_tree.specs.Spelling.{sign_bytes, IsLongest}
use Rattle.flow_lex.specs.Next.{sign_byte}
use Rattle.flow_lex.proofs.Bytes.{both, prefix_all, prefix_passes, word_is_name, sign_short, letter_no_digit, letter_no_sign, digit_no_sign, quote_no_letter, quote_no_sign, begins}

-- a name goes on as long as its bytes do
pub name_longest : (b : ℕ) (w : List ℕ) → letter b ≡ true → IsLongest (suc (prefix_len name_byte w)) (b ∷ w)
name_longest b w l zero t lt le s = omega arith
name_longest b w l (suc k) (Name n) lt le s = absurd (omega (arith, prefix_all name_byte w k (omega arith) (and_right (letter b) (list_all name_byte (take k w)) s.0)))
name_longest b w l (suc k) (token.Word n) lt le s =
    let e : is_name_text (b ∷ take k w) ≡ true = subst (λ x. is_name_text x ≡ true) s (word_is_name n) in
    absurd (omega (arith, prefix_all name_byte w k (omega arith) (and_right (letter b) (list_all name_byte (take k w)) e)))
name_longest b w l (suc k) (Number z) lt le s = letter_no_digit b l (begins (Number z) b (take k w) s)
name_longest b w l (suc k) (Text t) lt le s = quote_no_letter b (begins (Text t) b (take k w) s) l
name_longest b w l (suc k) (token.Sign g) lt le s = letter_no_sign b l (begins (token.Sign g) b (take k w) s)

-- what a name's first bytes are
pub record FoundName (text : List ℕ) (n : ℕ) : Type 0 where
  pub some : 0 < n
  pub within : n ≤ length text
  pub form : is_name_text (take n text) ≡ true
  pub longest : IsLongest n text

pub finds_name : (text : List ℕ) → 0 < length text → letter (get_or text 0 0) ≡ true → FoundName text (prefix_len name_byte text)
finds_name [] h l = absurd (omega arith)
finds_name (b ∷ w) h l =
    let n = prefix_len name_byte w in
    let wb : name_byte b ≡ true = ap (λ x. x || digit b) l in
    let e : prefix_len name_byte (b ∷ w) ≡ suc n = ap (λ x. cond x (1 + n) 0) wb ∙ omega arith in
    subst (λ m. FoundName (b ∷ w) m) (sym e) (record {
      some = omega arith;
      within = omega (arith, prefix_len-le-length name_byte w);
      form = both (letter b) (list_all name_byte (take n w)) l (prefix_passes name_byte w);
      longest = name_longest b w l;
    })

-- no sign of n bytes or more stands there
abbrev pub NoSign : ℕ → List ℕ → Type 0
NoSign n text = (k : ℕ) (g : signs.Sign) → n < k → k < 3 → k ≤ length text → sign_bytes g ≡ take k text → ⊥

min_left : (a b : ℕ) → a ≤ b → min a b ≡ a
min_left a b h = omega arith

sign_at : (text : List ℕ) (k : ℕ) (g : signs.Sign) → k ≤ length text → sign_bytes g ≡ take k text → k < 3
sign_at text k g le s =
    let e : length (sign_bytes g) ≡ k = ap length s ∙ length-take k text ∙ min_left k (length text) le in
    let short = sign_short g in
    grind (arith, nat_tests)

-- only a sign begins with such a byte, and it has one byte or two
pub sign_longest : (n : ℕ) (text : List ℕ) → sign_byte (get_or text 0 0) ≡ true → NoSign n text → IsLongest n text
sign_longest n text f none zero t lt le s = omega arith
sign_longest n [] f none (suc k) t lt le s = omega arith
sign_longest n (b ∷ w) f none (suc k) (Name x) lt le s = letter_no_sign b (begins (Name x) b (take k w) s) f
sign_longest n (b ∷ w) f none (suc k) (token.Word x) lt le s = letter_no_sign b (begins (token.Word x) b (take k w) s) f
sign_longest n (b ∷ w) f none (suc k) (Number z) lt le s = digit_no_sign b (begins (Number z) b (take k w) s) f
sign_longest n (b ∷ w) f none (suc k) (Text t) lt le s = quote_no_sign b (begins (Text t) b (take k w) s) f
sign_longest n (b ∷ w) f none (suc k) (token.Sign g) lt le s = none (suc k) g lt (sign_at (b ∷ w) (suc k) g le s) le s
