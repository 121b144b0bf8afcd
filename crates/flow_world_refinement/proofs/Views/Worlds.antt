-- The lines of a world.
use Rattle.std.proofs.Common.{◌≡◌, ℕ, zero, suc, ◌+◌, List, [], ◌∷◌, ◌++◌, map, length, refl, sym, ap, ap₂, ◌∙◌, arith}
use Rattle.std.specs.Prelude.{slice_get, unwrap_or}
use Rattle.std.specs.List.{flat_map, range_with_len, AllByRecursion}
use Rattle.std.specs.declared.option.Option.TheVariants.{Some}
use Rattle.flow_base.specs.declared.ids.ProcId.{ProcId}
use Rattle.flow_class.specs.Classes.{RawTree}
use Rattle.flow_class.specs.View.{class_of, raw_of}
use Rattle.flow_class.specs.declared.class.Class.{Class}
use Rattle.flow_class.specs.declared.class.RawClasses.{RawClasses}
use Rattle.flow_code.specs.declared.program.Code.{Code}
use Rattle.flow_steps.specs.declared.process.Process.{Process}
use Rattle.flow_steps.specs.Views.{frames_in, callbacks_in}
use Rattle.flow_meaning.specs.Class.{classes, class_name}
use Rattle.flow_meaning.specs.Frame.{Frame}
use Rattle.flow_meaning.specs.Process.{Proc}
use Rattle.flow_meaning.specs.Views.{frame_spot}
use Rattle.flow_meaning.specs.World.{World}
use Rattle.flow_meaning.specs.World as meaning
use Rattle.flow_world.specs.declared.place.Place.{Place}
use Rattle.flow_world.specs.Ending.{Seen}
use Rattle.flow_world.specs.Views.{frames_at, callbacks_at}
use Rattle.flow_world_refinement.specs.Order.Showing.{PlaceRepresents, PlacesRepresent, WorldRepresents}
use Rattle.flow_world.specs.Tracing as memory
use Rattle.flow_world.specs.Tracing.{name_of, frames_lines}
use Rattle.flow_compile_laws.specs.Frames.Framed.{process_lines, places_lines}
use Rattle.flow_world_refinement.specs.Views.Waiting.{PlaceWaits, WorldWaits}
use Rattle.flow_world_refinement.specs.Views.FrameLines.{RestingRepresents, KeepsCount, FramesFollow}
use Rattle.flow_world_refinement.proofs.Views.Views.{views_shown}
use Rattle.flow_world_refinement.proofs.Views.Lines.{views_lines}

-- the names of classes are those of their text
names_same : (cs : List Class) (k : ℕ) → name_of (slice_get cs k) ≡ unwrap_or (slice_get (map class_name (map class_of cs)) k) []
names_same [] zero = refl
names_same [] (suc k) = refl
names_same (c ∷ cs) zero = refl
names_same (c ∷ cs) (suc k) = names_same cs k

labels : (c : RawClasses) (r : RawTree) → raw_of c ≡ r → (k : ℕ) → name_of (slice_get c.classes.items k) ≡ (classes r).label k
labels c r h k = names_same c.classes.items k ∙ ap (λ (z : RawTree). unwrap_or (slice_get (map class_name z.classes) k) []) h

module _ (Rests : Process → Proc Frame → Type 0) (Keeps : World Frame → Type 0) (IsCode : Code → Type 0) (r : RawTree) (shows : RestingRepresents Rests Keeps IsCode r) where
  place_lines : (cs : List Class) (names : (k : ℕ) → name_of (slice_get cs k) ≡ (classes r).label k) (p : ProcId) (processes number : ℕ) (at : Place) (x : meaning.Place Frame)
      → PlaceRepresents Rests processes number at x
      → PlaceWaits x → frames_lines cs p (frames_in at.machine.process.heap) (callbacks_in at.machine.process.heap) ≡ process_lines (classes r) frame_spot p x.proc
  place_lines cs names p processes number at x h waits =
      let s = shows at.machine.process x.proc h.rests in
      let views = views_shown r at.machine.process.heap x.proc s.0 s.1 waits.0 waits.1 in
      ap₂ (λ fs ks. frames_lines cs p fs ks) views.0 views.1 ∙ views_lines (classes r) frame_spot cs names p x.proc waits.0.orderly.numbered

  places_length : (processes k : ℕ) (ats : List Place) (xs : List (meaning.Place Frame)) → PlacesRepresent Rests processes k ats xs → length ats ≡ length xs
  places_length n k [] [] h = refl
  places_length n k [] (x ∷ xs) h = absurd h
  places_length n k (at ∷ ats) [] h = absurd h
  places_length n k (at ∷ ats) (x ∷ xs) h = ap suc (places_length n (suc k) ats xs h.1)

  -- those of processes from a number on, which stand there in the world
  module _ (w : Seen) (text : raw_of w.code.program ≡ r) where
    from_lines : (processes k j : ℕ) (ats : List Place) (xs : List (meaning.Place Frame)) → j ≡ k → ((i : ℕ) → slice_get w.places (k + i) ≡ slice_get ats i) → PlacesRepresent Rests processes k ats xs
        → AllByRecursion PlaceWaits xs → flat_map (λ n. memory.process_lines w (record { 0 = n })) (range_with_len j (length ats)) ≡ places_lines (classes r) frame_spot k xs
    from_lines n k j [] [] same at h waits = refl
    from_lines n k j [] (x ∷ xs) same at h waits = absurd h
    from_lines n k j (a ∷ ats) [] same at h waits = absurd h
    from_lines n k j (a ∷ ats) (x ∷ xs) same at h waits =
        let here : slice_get w.places j ≡ Some a = ap (slice_get w.places) (omega (arith, same)) ∙ at 0 in
        let p : ProcId = record { 0 = j } in
        let cs = w.code.program.classes.items in
        let first = ap (λ o. frames_lines cs p (frames_at o) (callbacks_at o)) here ∙ place_lines cs (labels w.code.program r text) p n k a x h.0 waits.0
        ∙ ap (λ i. process_lines (classes r) frame_spot (record { 0 = i }) x.proc) same in
        let rest = from_lines n (suc k) (j + 1) ats xs (omega (arith, same)) (λ i. ap (slice_get w.places) (shift i) ∙ at (suc i)) h.1 waits.1 in
        ap₂ (λ ls ms. ls ++ ms) first rest
      where
        shift : (i : ℕ) → suc k + i ≡ k + suc i
        shift i = omega arith

  pub frames_shown : KeepsCount Rests Keeps IsCode → ((m : World Frame) → Keeps m → WorldWaits m) → (w : Seen) (m : World Frame) → raw_of w.code.program ≡ r → WorldRepresents Rests w m → Keeps m
      → memory.world_lines w ≡ places_lines (classes r) frame_spot 0 m.places
  frames_shown count waits w m text h keeps =
      let processes : w.outside.net.processes ≡ length w.places =
      h.outside.processes ∙ sym (count m keeps) ∙ sym (places_length m.out.file.processes 0 w.places m.places h.places)
      in
      ap (λ n. flat_map (λ i. memory.process_lines w (record { 0 = i })) (range_with_len 0 n)) processes
      ∙ from_lines w text m.out.file.processes 0 0 w.places m.places refl (λ i. ap (slice_get w.places) (from_none i)) h.places (waits m keeps)
    where
      from_none : (i : ℕ) → 0 + i ≡ i
      from_none i = omega arith

pub frames_follow : (Rests : Process → Proc Frame → Type 0) (Keeps : World Frame → Type 0) (IsCode : Code → Type 0) (r : RawTree) → FramesFollow Rests Keeps IsCode r
frames_follow Rests Keeps IsCode r shows count waits = frames_shown Rests Keeps IsCode r shows count waits
