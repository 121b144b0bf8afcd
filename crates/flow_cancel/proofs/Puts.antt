-- Things that were put in place, and then looked up or removed.
use Rattle.std.proofs.Common.{◌≡◌, ℕ, nat_eq, Bool, true, false, [], ◌∷◌, Option, Some, None, IsSome, refl, ap, ◌∙◌, arith, if◌then◌else◌}
use Rattle.std.proofs.lemmas.Bool.Decides.{nat_tests}
use Rattle.flow_numbered.specs.Numbered.{Numbered, thing, put, removed}
use Rattle.flow_numbered.proofs.Things.{thing_put}

module _ {A : Type 0} where
  pub found_put : (xs : Numbered A) (k : ℕ) (old new : A) → thing xs k ≡ Some old → thing (put xs k new) k ≡ Some new
  found_put xs k old new e = let same : nat_eq k k ≡ true = grind (arith, nat_tests) in thing_put xs k old new k e ∙ rw same refl

  pub removed_put : (xs : Numbered A) (k : ℕ) (new : A) → removed (put xs k new) k ≡ removed xs k
  removed_put [] k new = refl
  removed_put (x ∷ xs) k new = at_head (nat_eq k x.0) refl (removed_put xs k new)
    where
      at_head : (t : Bool) → nat_eq k x.0 ≡ t → removed (put xs k new) k ≡ removed xs k → removed (put (x ∷ xs) k new) k ≡ removed (x ∷ xs) k
      at_head true g rest = rw (g, g) refl
      at_head false g rest = rw (g, g) (ap (λ ys. x ∷ ys) rest)

  pub put_twice : (xs : Numbered A) (k : ℕ) (one two : A) → put (put xs k one) k two ≡ put xs k two
  put_twice [] k one two = refl
  put_twice (x ∷ xs) k one two = at_head (nat_eq k x.0) refl (put_twice xs k one two)
    where
      at_head : (t : Bool) → nat_eq k x.0 ≡ t → put (put xs k one) k two ≡ put xs k two → put (put (x ∷ xs) k one) k two ≡ put (x ∷ xs) k two
      at_head true g rest = rw (g, g) refl
      at_head false g rest = rw (g, g) (ap (λ ys. x ∷ ys) rest)

  -- what is there
  pub some_of : (o : Option A) → IsSome o → (a : A) × (o ≡ Some a)
  some_of None h = absurd (cc)
  some_of (Some a) h = (a, refl)
