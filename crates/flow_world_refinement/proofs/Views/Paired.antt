-- Two rows of things by rising number, alike at each number.
use Rattle.std.proofs.Common.{◌≡◌, ℕ, ◌<◌, ◌≤◌, nat_eq, Bool, true, false, List, [], ◌∷◌, if◌then◌else◌, refl, sym, ap, ◌∙◌, subst, arith}
use Rattle.std.proofs.lemmas.Bool.Decides.{nat_tests}
use Rattle.std.specs.declared.option.Option.{Option}
use Rattle.std.specs.declared.option.Option.TheVariants.{None, Some}
use Rattle.flow_numbered.specs.Numbered as stored
use Rattle.flow_numbered.proofs.Things.{above}
use Rattle.flow_numbered.specs.Numbered.{Numbered, thing}
use Rattle.flow_meaning.specs.Orderly.{Rising}
use Rattle.flow_meaning.proofs.Posture.{same_number, above_none}

module _ {X Y : Type 0} (Like : ℕ → X → Y → Type 0) where
  -- both stand at a number, and are alike, or neither does
  abbrev pub Both : ℕ → Option X → Option Y → Type 0
  Both i None None = Unit {0}
  Both i None (Some y) = ⊥
  Both i (Some x) None = ⊥
  Both i (Some x) (Some y) = Like i x y

  abbrev pub Paired : List (ℕ × X) → Numbered Y → Type 0
  Paired [] [] = Unit {0}
  Paired [] (y ∷ ys) = ⊥
  Paired (x ∷ xs) [] = ⊥
  Paired (x ∷ xs) (y ∷ ys) = (x.0 ≡ y.0) × Like x.0 x.1 y.1 × Paired xs ys

  -- the first of them is found at its number, and nothing at one before
  first_stored : (x : ℕ × X) (xs : List (ℕ × X)) → stored.thing (x ∷ xs) x.0 ≡ Some x.1
  first_stored x xs = ap (λ t. if t then Some x.1 else stored.thing xs x.0) (same_number x.0)

  first_thing : (y : ℕ × Y) (ys : Numbered Y) → thing (y ∷ ys) y.0 ≡ Some y.1
  first_thing y ys = ap (λ t. if t then Some y.1 else thing ys y.0) (same_number y.0)

  none_stored : (low most i : ℕ) (xs : List (ℕ × X)) → stored.IsRising low xs most → i ≤ low → stored.thing xs i ≡ None
  none_stored low most i xs h le = by_case (stored.thing xs i) refl
    where
      by_case : (o : Option X) → stored.thing xs i ≡ o → o ≡ None
      by_case None e = refl
      by_case (Some a) e = let r = above low xs most i a h e in absurd (omega (arith, r.0, le))

  later_stored : (x : ℕ × X) (xs : List (ℕ × X)) (i : ℕ) → nat_eq i x.0 ≡ false → stored.thing (x ∷ xs) i ≡ stored.thing xs i
  later_stored x xs i h = ap (λ t. if t then Some x.1 else stored.thing xs i) h

  later_thing : (y : ℕ × Y) (ys : Numbered Y) (i : ℕ) → nat_eq i y.0 ≡ false → thing (y ∷ ys) i ≡ thing ys i
  later_thing y ys i h = ap (λ t. if t then Some y.1 else thing ys i) h

  -- the first two have the same number
  module _ (x : ℕ × X) (xs : List (ℕ × X)) (y : ℕ × Y) (ys : Numbered Y) (most n : ℕ) (rx : stored.IsRising x.0 xs most) (ry : Rising y.0 n ys)
      (h : (i : ℕ) → Both i (stored.thing (x ∷ xs) i) (thing (y ∷ ys) i)) where
    not_before : x.0 < y.0 → ⊥
    not_before lt =
        let none : thing (y ∷ ys) x.0 ≡ None = later_thing y ys x.0 (grind (arith, nat_tests)) ∙ above_none ys y.0 n x.0 ry (omega arith) in
        subst (λ o. Both x.0 o None) (first_stored x xs) (subst (λ o. Both x.0 (stored.thing (x ∷ xs) x.0) o) none (h x.0))

    not_after : y.0 < x.0 → ⊥
    not_after lt =
        let none : stored.thing (x ∷ xs) y.0 ≡ None = later_stored x xs y.0 (grind (arith, nat_tests)) ∙ none_stored x.0 most y.0 xs rx (omega arith) in
        subst (λ o. Both y.0 None o) (first_thing y ys) (subst (λ o. Both y.0 o (thing (y ∷ ys) y.0)) none (h y.0))

    same_first : x.0 ≡ y.0
    same_first = by_test (nat_eq x.0 y.0) refl
      where
        by_test : (t : Bool) → nat_eq x.0 y.0 ≡ t → x.0 ≡ y.0
        by_test true e = grind (arith, nat_tests)
        by_test false e = omega (arith, not_before, not_after)

    first_like : Like x.0 x.1 y.1
    first_like =
        let at = subst (λ o. Both x.0 o (thing (y ∷ ys) x.0)) (first_stored x xs) (h x.0) in
        let there : thing (y ∷ ys) x.0 ≡ Some y.1 = ap (thing (y ∷ ys)) same_first ∙ first_thing y ys in
        subst (λ o. Both x.0 (Some x.1) o) there at

    others : (i : ℕ) → Both i (stored.thing xs i) (thing ys i)
    others i = by_test (nat_eq i x.0) refl
      where
        by_test : (t : Bool) → nat_eq i x.0 ≡ t → Both i (stored.thing xs i) (thing ys i)
        by_test true e =
            let same : i ≡ x.0 = grind (arith, nat_tests) in
            let le : i ≤ y.0 = omega (arith, same_first) in
            subst (λ o. Both i o (thing ys i)) (sym (none_stored x.0 most i xs rx (omega arith)))
            (subst (λ o. Both i None o) (sym (above_none ys y.0 n i ry le)) tt)
        by_test false e =
            let other : nat_eq i y.0 ≡ false = ap (nat_eq i) (sym same_first) ∙ e in
            subst (λ o. Both i o (thing ys i)) (later_stored x xs i e)
            (subst (λ o. Both i (stored.thing (x ∷ xs) i) o) (later_thing y ys i other) (h i))

  pub paired : (low above most n : ℕ) (xs : List (ℕ × X)) (ys : Numbered Y) → stored.IsRising low xs most → Rising above n ys
      → ((i : ℕ) → Both i (stored.thing xs i) (thing ys i)) → Paired xs ys
  paired low above most n [] [] rx ry h = tt
  paired low above most n [] (y ∷ ys) rx ry h = subst (λ o. Both y.0 None o) (first_thing y ys) (h y.0)
  paired low above most n (x ∷ xs) [] rx ry h = subst (λ o. Both x.0 o None) (first_stored x xs) (h x.0)
  paired low above most n (x ∷ xs) (y ∷ ys) rx ry h = (
    same_first x xs y ys most n rx.1 ry.2 h,
    first_like x xs y ys most n rx.1 ry.2 h,
    paired x.0 y.0 most n xs ys rx.1 ry.2 (others x xs y ys most n rx.1 ry.2 h),
  )
