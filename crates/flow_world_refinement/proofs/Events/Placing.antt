-- Processes by number, in memory and by the definitions.
use Rattle.std.proofs.Common.{◌≡◌, ℕ, zero, suc, ◌+◌, ◌<◌, false, List, [], ◌∷◌, Some, length, refl, sym, ap, subst, arith}
use Rattle.std.specs.Prelude.{slice_get, slice_set, slice_index_or}
use Rattle.flow_meaning.specs.Deliver.{idle}
use Rattle.flow_meaning.specs.Frame.{Frame}
use Rattle.flow_meaning.specs.Process.{Proc}
use Rattle.flow_meaning.specs.World.{Place}
use Rattle.flow_steps.specs.declared.process.Process.{Process}
use Rattle.flow_world.specs.declared.place.Place as memory
use Rattle.flow_world_refinement.specs.Order.Showing.{PlaceRepresents, PlacesRepresent}

-- what stands where no process is
abbrev pub down : Place Frame
down = record { up = false; proc = idle }

abbrev pub place_of : List (Place Frame) → ℕ → Place Frame
place_of xs i = slice_index_or xs i down

-- what was found is put back
pub set_same : {Y : Type 0} (xs : List Y) (i : ℕ) (x : Y) → slice_get xs i ≡ Some x → slice_set xs i x ≡ xs
set_same [] i x e = refl
set_same (y ∷ ys) zero x e = ap (λ z. z ∷ ys) (same (sym e))
  where
    same : {Z : Type 0} {z u : Z} → Some z ≡ Some u → z ≡ u
    same g = cc
set_same (y ∷ ys) (suc i) x e = ap (λ zs. y ∷ zs) (set_same ys i x e)

-- a process in memory by its number
pub record Found (ats : List memory.Place) (i : ℕ) : Type 0 where
  pub at : memory.Place
  pub there : slice_get ats i ≡ Some at

module _ (Rests : Process → Proc Frame → Type 0) (n : ℕ) where
  pub place_at : (k i : ℕ) (ats : List memory.Place) (xs : List (Place Frame)) (at : memory.Place) → PlacesRepresent Rests n k ats xs → slice_get ats i ≡ Some at
      → PlaceRepresents Rests n (k + i) at (place_of xs i)
  place_at k i [] xs at s e = absurd (cc)
  place_at k i (y ∷ ats) [] at s e = elim s [ ]
  place_at k zero (y ∷ ats) (x ∷ xs) at s e =
      let same : y ≡ at = some e in
      let here : k ≡ k + 0 = omega arith in subst (λ j. PlaceRepresents Rests n j at x) here (subst (λ z. PlaceRepresents Rests n k z x) same s.0)
    where
      some : {Z : Type 0} {z u : Z} → Some z ≡ Some u → z ≡ u
      some g = cc
  place_at k (suc i) (y ∷ ats) (x ∷ xs) at s e =
      let there : suc k + i ≡ k + suc i = omega arith in subst (λ j. PlaceRepresents Rests n j at (place_of xs i)) there (place_at (suc k) i ats xs at s.1 e)

  -- another one at a number, in both
  pub place_put : (k i : ℕ) (ats : List memory.Place) (xs : List (Place Frame)) (at : memory.Place) (x : Place Frame) → PlacesRepresent Rests n k ats xs
      → PlaceRepresents Rests n (k + i) at x → PlacesRepresent Rests n k (slice_set ats i at) (slice_set xs i x)
  place_put k i [] [] at x s h = tt
  place_put k i [] (y ∷ ys) at x s h = elim s [ ]
  place_put k i (y ∷ ats) [] at x s h = elim s [ ]
  place_put k zero (y ∷ ats) (z ∷ xs) at x s h =
      let here : k + 0 ≡ k = omega arith in (subst (λ j. PlaceRepresents Rests n j at x) here h, s.1)
  place_put k (suc i) (y ∷ ats) (z ∷ xs) at x s h =
      let there : k + suc i ≡ suc k + i = omega arith in (s.0, place_put (suc k) i ats xs at x s.1 (subst (λ j. PlaceRepresents Rests n j at x) there h))

  -- a number of the definitions is one of memory
  pub place_found : (k i : ℕ) (ats : List memory.Place) (xs : List (Place Frame)) → PlacesRepresent Rests n k ats xs → i < length xs → Found ats i
  place_found k i [] [] s l = absurd (omega (arith, l))
  place_found k i [] (x ∷ xs) s l = elim s [ ]
  place_found k i (y ∷ ats) [] s l = elim s [ ]
  place_found k zero (y ∷ ats) (x ∷ xs) s l = record { at = y; there = refl }
  place_found k (suc i) (y ∷ ats) (x ∷ xs) s l = let f = place_found (suc k) i ats xs s.1 (omega (arith, l)) in record { at = f.at; there = f.there }
