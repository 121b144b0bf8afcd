-- What is found by number after a change, in memory and in the process.
use Rattle.std.proofs.Common.{◌≡◌, ℕ, ◌<◌, nat_eq, Bool, true, false, [], ◌∷◌, if◌then◌else◌, refl, sym, ap, ◌∙◌, subst, arith}
use Rattle.std.specs.declared.option.Option.TheVariants.{None, Some}
use Rattle.flow_numbered.specs.Numbered as stored
use Rattle.flow_numbered.proofs.Things as things
use Rattle.flow_numbered.specs.Numbered.{Numbered, thing, added, removed}
use Rattle.flow_meaning.specs.Orderly.{Rising}
use Rattle.flow_meaning.proofs.Posture.{same_number, other_number, above_none}

-- what stands at another number in memory
pub stored_other : {A : Type 0} (xs : stored.Numbered A) (i j : ℕ) (a : A) → (i ≡ j → ⊥) → stored.thing (stored.put xs i a) j ≡ stored.thing xs j
stored_other [] i j a h = refl
stored_other (x ∷ xs) i j a h = by_test (nat_eq i x.0) refl (stored_other xs i j a h)
  where
    by_test : (p : Bool) → nat_eq i x.0 ≡ p → stored.thing (stored.put xs i a) j ≡ stored.thing xs j → stored.thing (if p then (x.0, a) ∷ xs else x ∷ stored.put xs i a) j ≡ stored.thing (x ∷ xs) j
    by_test true e k =
        let n : i ≡ x.0 = grind arith in
        let f : nat_eq j x.0 ≡ false = subst (λ m. nat_eq j m ≡ false) n (other_number i j h) in
        ap (λ b. if b then Some a else stored.thing xs j) f ∙ sym (ap (λ b. if b then Some x.1 else stored.thing xs j) f)
    by_test false e k = ap (λ o. if nat_eq j x.0 then Some x.1 else o) k

pub stored_put : {A : Type 0} (xs : stored.Numbered A) (i : ℕ) (a b : A) → stored.thing xs i ≡ Some a → stored.thing (stored.put xs i b) i ≡ Some b
stored_put [] i a b h = cc
stored_put (x ∷ xs) i a b h = grind (arith, stored_put xs i a b)

pub stored_added : {A : Type 0} (xs : stored.Numbered A) (i j : ℕ) (a : A) → (i ≡ j → ⊥) → stored.thing (stored.added xs i a) j ≡ stored.thing xs j
stored_added [] i j a h = ap (λ b. if b then Some a else None) (other_number i j h)
stored_added (x ∷ xs) i j a h = ap (λ o. if nat_eq j x.0 then Some x.1 else o) (stored_added xs i j a h)

pub stored_new : {A : Type 0} (xs : stored.Numbered A) (i : ℕ) (a : A) → stored.thing xs i ≡ None → stored.thing (stored.added xs i a) i ≡ Some a
stored_new [] i a h = ap (λ b. if b then Some a else None) (same_number i)
stored_new (x ∷ xs) i a h = grind (arith, stored_new xs i a)

pub stored_removed : {A : Type 0} (xs : stored.Numbered A) (i j : ℕ) → (i ≡ j → ⊥) → stored.thing (stored.removed xs i) j ≡ stored.thing xs j
stored_removed [] i j h = refl
stored_removed (x ∷ xs) i j h = by_test (nat_eq i x.0) refl (stored_removed xs i j h)
  where
    by_test : (p : Bool) → nat_eq i x.0 ≡ p → stored.thing (stored.removed xs i) j ≡ stored.thing xs j → stored.thing (if p then xs else x ∷ stored.removed xs i) j ≡ stored.thing (x ∷ xs) j
    by_test true e k =
        let n : i ≡ x.0 = grind arith in
        sym (ap (λ b. if b then Some x.1 else stored.thing xs j) (subst (λ m. nat_eq j m ≡ false) n (other_number i j h)))
    by_test false e k = ap (λ o. if nat_eq j x.0 then Some x.1 else o) k

pub thing_new : {A : Type 0} (xs : Numbered A) (i : ℕ) (a : A) → thing xs i ≡ None → thing (added xs i a) i ≡ Some a
thing_new [] i a h = ap (λ b. if b then Some a else None) (same_number i)
thing_new (x ∷ xs) i a h = grind (arith, thing_new xs i a)

-- numbers that rise are each there once
pub thing_removed : {A : Type 0} (xs : Numbered A) (above most i : ℕ) → Rising above most xs → thing (removed xs i) i ≡ None
thing_removed [] above most i h = refl
thing_removed (x ∷ xs) above most i h = by_test (nat_eq i x.0) refl (thing_removed xs x.0 most i h.2)
  where
    by_test : (p : Bool) → nat_eq i x.0 ≡ p → thing (removed xs i) i ≡ None → thing (if p then xs else x ∷ removed xs i) i ≡ None
    by_test true e k = let n : i ≡ x.0 = grind arith in subst (λ j. thing xs j ≡ None) (sym n) (above_none xs x.0 most x.0 h.2 (grind arith))
    by_test false e k = ap (λ b. if b then Some x.1 else thing (removed xs i) i) e ∙ k

pub stored_gone : {A : Type 0} (xs : stored.Numbered A) (most i : ℕ) → stored.IsRising 0 xs most → stored.thing (stored.removed xs i) i ≡ None
stored_gone xs most i h = things.thing_removed 0 xs most i i h ∙ ap (λ b. if b then None else stored.thing xs i) (same_number i)

-- no number is above the last
pub none_above : {A : Type 0} (xs : Numbered A) (above most i : ℕ) → Rising above most xs → most < i → thing xs i ≡ None
none_above [] above most i h l = refl
none_above (x ∷ xs) above most i h l =
    let f : nat_eq i x.0 ≡ false = other_number x.0 i (λ e. omega (arith, h.1)) in
    ap (λ b. if b then Some x.1 else thing xs i) f ∙ none_above xs x.0 most i h.2 l
