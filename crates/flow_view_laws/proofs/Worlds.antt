-- What a world in memory tells between events is the view of the state of the text that is beside the state that it represents.
use Rattle.std.proofs.Common.{◌≡◌, ℕ, zero, suc, List, [], ◌∷◌, ◌++◌, length, refl, sym, ap, ap₂, subst, ◌∙◌}
use Rattle.std.specs.Prelude.{slice_get}
use Rattle.std.specs.List.{flat_map}
use Rattle.std.specs.declared.option.Option.TheVariants.{Some}
use Rattle.flow_tree.specs.Decls.{ProgramTree}
use Rattle.flow_class.specs.Classes.{RawTree}
use Rattle.flow_numbered.specs.Numbered.{thing}
use Rattle.flow_meaning.specs.Frame.{Frame}
use Rattle.flow_meaning.specs.Items.{Actor}
use Rattle.flow_meaning.specs.Law.{Related}
use Rattle.flow_meaning.specs.Orderly.{Phase}
use Rattle.flow_meaning.specs.Process.{Core, Proc}
use Rattle.flow_meaning.specs.RunLaw.{SamePlace, SamePlaces, SameWorld, SameStates}
use Rattle.flow_meaning.specs.World.{World}
use Rattle.flow_meaning.specs.World as meaning
use Rattle.flow_compile_laws.specs.Simulation.Carried.{AreCarried}
use Rattle.flow_steps.specs.declared.process.Process.{Process}
use Rattle.flow_world.specs.declared.place.Place.{Place}
use Rattle.flow_world.specs.Views.{actors_at}
use Rattle.flow_world_refinement.specs.Order.Showing.{PlacesRepresent}
use Rattle.flow_restore_laws.specs.Rest.Boundary.{IsAtRest}
use Rattle.flow_debug.specs.Told.{places_of_waits, actors_told}
use Rattle.flow_debug.specs.SourceView.{actor_seen, process_seen, places_seen, SourceView}
use Rattle.flow_typing_laws.specs.ControlFlow.Laws.{AllHaveSimpleParts}
use Rattle.flow_view_laws.specs.Told.{places_told, AllRise}
use Rattle.flow_view_laws.proofs.Names.{AreDistinct}
use Rattle.flow_view_laws.proofs.Heaps.{Beside, heap_told}

module _ (p : ProgramTree) (r : RawTree) (carried : AreCarried p r) (differ : AreDistinct r) (simple : AllHaveSimpleParts p.decls) where
  -- process by process
  place_told : (n : ℕ) (at : Place) (x : meaning.Place Frame) (y : meaning.Place Actor) → IsAtRest r at.machine.process x.proc → SamePlace (Beside p r carried differ simple) y x
      → actors_told (places_of_waits p.decls) r.classes n (actors_at (Some at)) ≡ process_seen p n y.proc
  place_told n at x y rests same =
      let run = rests.rested.running in
      let core : y.proc.core ≡ x.proc.core = same.1 in
      let related : Related (Beside p r carried differ simple) x.proc.core y.proc.actors x.proc.actors = subst (λ c. Related (Beside p r carried differ simple) c y.proc.actors x.proc.actors) core same.3 in
      heap_told p r carried differ simple n at.machine.process.heap x.proc y.proc.actors run.shows rests.rested.rest related run.sorted
      ∙ ap (λ (c : Core). flat_map (λ e. actor_seen p n e (thing y.proc.actors e.0)) c.entries) (sym core)

  places_same : (processes n : ℕ) (ats : List Place) (xs : List (meaning.Place Frame)) (ys : List (meaning.Place Actor)) → PlacesRepresent (IsAtRest r) processes n ats xs
      → SamePlaces (Beside p r carried differ simple) ys xs → places_told (places_of_waits p.decls) r.classes n ats ≡ places_seen p n ys
  places_same m n [] [] [] h s = refl
  places_same m n [] [] (y ∷ ys) h s = absurd s
  places_same m n [] (x ∷ xs) ys h s = absurd h
  places_same m n (at ∷ ats) [] ys h s = absurd h
  places_same m n (at ∷ ats) (x ∷ xs) [] h s = absurd s
  places_same m n (at ∷ ats) (x ∷ xs) (y ∷ ys) h s = ap₂ (λ us vs. us ++ vs) (place_told n at x y h.0.rests s.0) (places_same m (suc n) ats xs ys h.1 s.1)

  pub world_told : (processes : ℕ) (ats : List Place) (w : World Frame) (v : World Actor) → PlacesRepresent (IsAtRest r) processes 0 ats w.places → SameWorld (Beside p r carried differ simple) v w
      → places_told (places_of_waits p.decls) r.classes 0 ats ≡ SourceView p v
  world_told m ats w v h s = places_same m 0 ats w.places v.places h s.1

-- numbers rise in memory at rest
pub all_rise : (r : RawTree) (processes n : ℕ) (ats : List Place) (xs : List (meaning.Place Frame)) → PlacesRepresent (IsAtRest r) processes n ats xs → AllRise ats
all_rise r m n [] xs h = tt
all_rise r m n (at ∷ ats) [] h = absurd h
all_rise r m n (at ∷ ats) (x ∷ xs) h =
    let sorted = h.0.rests.rested.running.sorted in
    (record { cells = sorted.cells; streams = sorted.streams; frames = sorted.frames }, all_rise r m (suc n) ats xs h.1)

-- as many processes are in memory
pub places_many : (Rests : Process → Proc Frame → Type 0) (processes n : ℕ) (ats : List Place) (xs : List (meaning.Place Frame)) → PlacesRepresent Rests processes n ats xs → length ats ≡ length xs
places_many Rests m n [] [] h = refl
places_many Rests m n [] (x ∷ xs) h = absurd h
places_many Rests m n (at ∷ ats) [] h = absurd h
places_many Rests m n (at ∷ ats) (x ∷ xs) h = ap suc (places_many Rests m (suc n) ats xs h.1)

-- the state of the first kind beside a state of the second
pub state_beside : {A B : Type 0} (R : Phase → A → B → Type 0) (n : ℕ) (ws : List (World A)) (us : List (World B)) (u : World B) → SameStates R ws us → slice_get us n ≡ Some u
    → (w : World A) × (slice_get ws n ≡ Some w) × SameWorld R w u
state_beside R n [] [] u h e = absurd cc
state_beside R n [] (x ∷ us) u h e = absurd h
state_beside R n (w ∷ ws) [] u h e = absurd h
state_beside R zero (w ∷ ws) (x ∷ us) u h e = let same : x ≡ u = cc in (w, refl, subst (SameWorld R w) same h.0)
state_beside R (suc n) (w ∷ ws) (x ∷ us) u h e = state_beside R n ws us u h.1 e
