-- Each frame that is told of a world at rest is of one of its classes.
use Rattle.std.proofs.Common.{◌≡◌, inl, inr, ℕ, zero, suc, List, [], ◌∷◌, map, sym, ap, ◌∙◌, subst}
use Rattle.std.specs.Prelude.{slice_get}
use Rattle.std.specs.Option.{option_map}
use Rattle.std.specs.List.{AllByRecursion}
use Rattle.std.specs.declared.option.Option.TheVariants.{None, Some}
use Rattle.flow_value.specs.declared.value.Value.{Value}
use Rattle.flow_class.specs.Classes.{ClassTree, RawTree}
use Rattle.flow_class.specs.View.{class_of}
use Rattle.flow_class.specs.declared.class.Class.{Class}
use Rattle.flow_numbered.specs.Numbered.{Numbered, thing}
use Rattle.flow_frame.specs.Frames.{FrameTree}
use Rattle.flow_meaning.specs.Frame.{Frame}
use Rattle.flow_meaning.specs.Process.{Entry, Proc}
use Rattle.flow_meaning.specs.World as meaning
use Rattle.flow_meaning.proofs.InOrder.{no_thing}
use Rattle.flow_meaning.proofs.Shifts.{same_of}
use Rattle.flow_heap_refinement.specs.Representing.{FrameRepresents, stands, ended, ActorRepresents, nobody, somebody}
use Rattle.flow_operation_refinement.proofs.Stands.{get_mapped}
use Rattle.flow_steps.specs.declared.process.Process.{Process}
use Rattle.flow_steps.specs.Views.{frame_view, frames_in}
use Rattle.flow_world.specs.declared.place.Place.{Place}
use Rattle.flow_world.specs.Views.{frames_at}
use Rattle.flow_world_refinement.specs.Order.Showing.{PlacesRepresent}
use Rattle.flow_world.specs.BreakingTraces.{SomeNoClass}
use Rattle.flow_restore_laws.specs.Rest.Boundary.{IsAtRest}
use Rattle.flow_restore_laws.specs.States.Worlds.{IsTold, AllTold}
use Rattle.flow_restore_laws.proofs.States.Alike.{no_callback, sleeps}
use Rattle.flow_restore_laws.proofs.States.Resting.{all_things}

module _ (r : RawTree) (cs : List Class) (text : map class_of cs ≡ r.classes) where
  -- a class that is there by its text is there
  class_there : (k : ℕ) (c : ClassTree) → slice_get r.classes k ≡ Some c → slice_get cs k ≡ None → ⊥
  class_there k c is none = no_thing (sym (ap (option_map class_of) none) ∙ sym (get_mapped class_of cs k) ∙ ap (λ xs. slice_get xs k) text ∙ is)

  frame_classed : (m : Process) (p : Proc Frame) → IsAtRest r m p → IsTold m → (i : ℕ) (f : FrameTree Value) → thing m.heap.frames.things i ≡ Some f → slice_get cs f.class ≡ None → ⊥
  frame_classed m p s told i f e = by_case (s.rested.running.shows.actors i)
    where
      by_frame : (x : Entry) (g : Frame) → FrameRepresents r f x g → slice_get cs f.class ≡ None → ⊥
      by_frame x g (stands t) none = class_there f.class g.code t.code none
      by_frame x g (ended t) none = no_callback f.state f.callbacks (sleeps m.heap told.rests.rests i f e).3 t.callbacks

      by_case : ActorRepresents r (thing m.heap.actors.things i) (thing m.heap.frames.things i) (thing p.core.entries i) (thing p.actors i) → slice_get cs f.class ≡ None → ⊥
      by_case (nobody a b c d) none = no_thing (sym b ∙ e)
      by_case (somebody x) none = by_frame x.entry x.frame (subst (λ z. FrameRepresents r z x.entry x.frame) (same_of (sym x.framed ∙ e)) x.same.frame) none

  all_classed : (xs : Numbered (FrameTree Value)) → AllByRecursion (λ x. slice_get cs x.1.class ≡ None → ⊥) xs → SomeNoClass cs (map frame_view xs) → ⊥
  all_classed [] h t = t
  all_classed (x ∷ xs) h (inl none) = h.0 none
  all_classed (x ∷ xs) h (inr t) = all_classed xs h.1 t

  process_classed : (m : Process) (p : Proc Frame) → IsAtRest r m p → IsTold m → SomeNoClass cs (frames_in m.heap) → ⊥
  process_classed m p s told =
      all_classed m.heap.frames.things
      (all_things (λ x. slice_get cs x.1.class ≡ None → ⊥) m.heap.frames.things m.heap.frames.greatest s.rested.running.sorted.frames (frame_classed m p s told))

  pub places_classed : (processes number : ℕ) (ats : List Place) (xs : List (meaning.Place Frame)) → PlacesRepresent (IsAtRest r) processes number ats xs → AllTold ats → (k : ℕ)
      → SomeNoClass cs (frames_at (slice_get ats k)) → ⊥
  places_classed n j [] xs s told k t = t
  places_classed n j (at ∷ ats) [] s told k t = s
  places_classed n j (at ∷ ats) (x ∷ xs) s told zero t = process_classed at.machine.process x.proc s.0.rests told.0 t
  places_classed n j (at ∷ ats) (x ∷ xs) s told (suc k) t = places_classed n (suc j) ats xs s.1 told.1 k t
