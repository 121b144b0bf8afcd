-- Words of class text differ.
use Rattle.std.proofs.Common.{◌≡◌, ℕ, true, false, List, get_or, ◌==◌, sym, ap, ◌∙◌, arith}
use Rattle.flow_tree.specs.declared.token.Token.TheVariants as token

same_byte : (n : ℕ) → (n == n) ≡ true
same_byte n = grind arith

same_name : (a b : List ℕ) → token.Name a ≡ token.Name b → a ≡ b
same_name a b e = cc

-- names that differ in a byte
pub apart : (i : ℕ) (a b : List ℕ) → (get_or a i 0 == get_or b i 0) ≡ false → token.Name a ≡ token.Name b → ⊥
apart i a b h e =
    let f = same_name a b e in
    let g : true ≡ false = sym (same_byte (get_or a i 0)) ∙ ap (λ z. get_or a i 0 == get_or z i 0) f ∙ h in
    cc

pub name_no_word : (a : List ℕ) (k : _) → token.Name a ≡ token.Word k → ⊥
name_no_word a k e = cc

pub name_no_sign : (a : List ℕ) (k : _) → token.Name a ≡ token.Sign k → ⊥
name_no_sign a k e = cc
