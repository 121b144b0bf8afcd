-- What a world answers of its actors are the views of the world that it shows.
use Rattle.std.proofs.Common.{◌≡◌, ℕ, zero, suc, ◌+◌, List, [], ◌∷◌, map, length, refl, sym, ap, ap₂, ◌∙◌}
use Rattle.std.specs.Prelude.{slice_get, slice_index_or}
use Rattle.std.proofs.lemmas.List.{length-map}
use Rattle.std.specs.List.{AllByRecursion}
use Rattle.flow_class.specs.Classes.{RawTree}
use Rattle.flow_steps.specs.declared.process.Process.{Process}
use Rattle.flow_steps.specs.Views.{frame_view, frames_in, callbacks_in}
use Rattle.flow_meaning.specs.Frame.{Frame}
use Rattle.flow_meaning.specs.Process.{Proc}
use Rattle.flow_meaning.specs.Views.{Frames, Callbacks}
use Rattle.flow_meaning.specs.World as meaning
use Rattle.flow_world.specs.declared.place.Place.{Place}
use Rattle.flow_world.specs.Views.{frames_at, callbacks_at, live_in}
use Rattle.flow_world_refinement.specs.Order.Showing.{PlaceRepresents, PlacesRepresent}
use Rattle.flow_heap_refinement.specs.Representing.{Represents}
use Rattle.flow_heap_refinement.specs.Rested.{Sorted}
use Rattle.flow_world_refinement.specs.Views.Views.{told_frame, told_callback}
use Rattle.flow_world_refinement.specs.Views.Waiting.{PlaceWaits}
use Rattle.flow_world_refinement.specs.Views.Reports.{total, WorldTold}
use Rattle.flow_world_refinement.proofs.Views.Views.{views_shown}

module _ (Rests : Process → Proc Frame → Type 0) (r : RawTree) (shows : (m : Process) (p : Proc Frame) → Rests m p → Represents r m.heap p × Sorted m.heap) where
  views : (processes number : ℕ) (at : Place) (x : meaning.Place Frame) → PlaceRepresents Rests processes number at x → PlaceWaits x
      → (frames_in at.machine.process.heap ≡ map told_frame (Frames x.proc)) × (callbacks_in at.machine.process.heap ≡ map told_callback (Callbacks x.proc))
  views n k at x h waits =
      let s = shows at.machine.process x.proc h.rests in views_shown r at.machine.process.heap x.proc s.0 s.1 waits.0 waits.1

  frames : (processes k : ℕ) (ats : List Place) (xs : List (meaning.Place Frame)) → PlacesRepresent Rests processes k ats xs → AllByRecursion PlaceWaits xs → (n : ℕ)
      → frames_at (slice_get ats n) ≡ map told_frame (slice_index_or (map (λ (x : meaning.Place Frame). Frames x.proc) xs) n [])
  frames m k [] [] h waits n = refl
  frames m k [] (x ∷ xs) h waits n = absurd h
  frames m k (at ∷ ats) [] h waits n = absurd h
  frames m k (at ∷ ats) (x ∷ xs) h waits zero = (views m k at x h.0 waits.0).0
  frames m k (at ∷ ats) (x ∷ xs) h waits (suc n) = frames m (suc k) ats xs h.1 waits.1 n

  callbacks : (processes k : ℕ) (ats : List Place) (xs : List (meaning.Place Frame)) → PlacesRepresent Rests processes k ats xs → AllByRecursion PlaceWaits xs → (n : ℕ)
      → callbacks_at (slice_get ats n) ≡ map told_callback (slice_index_or (map (λ (x : meaning.Place Frame). Callbacks x.proc) xs) n [])
  callbacks m k [] [] h waits n = refl
  callbacks m k [] (x ∷ xs) h waits n = absurd h
  callbacks m k (at ∷ ats) [] h waits n = absurd h
  callbacks m k (at ∷ ats) (x ∷ xs) h waits zero = (views m k at x h.0 waits.0).1
  callbacks m k (at ∷ ats) (x ∷ xs) h waits (suc n) = callbacks m (suc k) ats xs h.1 waits.1 n

  live : (processes k : ℕ) (ats : List Place) (xs : List (meaning.Place Frame)) → PlacesRepresent Rests processes k ats xs → AllByRecursion PlaceWaits xs
      → live_in ats ≡ total (map (λ (x : meaning.Place Frame). Frames x.proc) xs)
  live m k [] [] h waits = refl
  live m k [] (x ∷ xs) h waits = absurd h
  live m k (at ∷ ats) [] h waits = absurd h
  live m k (at ∷ ats) (x ∷ xs) h waits =
      let own = sym (length-map at.machine.process.heap.frames.things frame_view) ∙ ap length (views m k at x h.0 waits.0).0 ∙ length-map (Frames x.proc) told_frame in
      ap₂ (λ a b. a + b) own (live m (suc k) ats xs h.1 waits.1)

pub world_told : (Rests : Process → Proc Frame → Type 0) (r : RawTree) → WorldTold Rests r
world_told Rests r shows w m h waits =
    let n = m.out.file.processes in record {
      frames = frames Rests r shows n 0 w.places m.places h.places waits;
      callbacks = callbacks Rests r shows n 0 w.places m.places h.places waits;
      live = live Rests r shows n 0 w.places m.places h.places waits;
    }
