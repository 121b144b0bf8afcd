-- In a run in memory of valid classes no frame that is told is of no class, and each event follows, whatever else a world keeps.
use Rattle.std.proofs.Common.{◌≡◌, ◌<◌, ◌⊎◌, inl, inr, ℕ, zero, suc, Bool, true, false, List, [], ◌∷◌, length, map, refl, sym, subst, ap, ◌∙◌, arith, if◌then◌else◌}
use Rattle.std.proofs.lemmas.Bool.Decides.{nat_tests}
use Rattle.std.specs.Prelude.{Result, nat_eq, slice_get, option_map, slice_index_or}
use Rattle.std.specs.declared.option.Option.TheVariants.{None, Some}
use Rattle.flow_base.specs.declared.fault.OutFault.{OutFault}
use Rattle.flow_trace.specs.declared.line.Line.{Line}
use Rattle.flow_class.specs.Classes.{ClassTree, RawTree}
use Rattle.flow_class.specs.View.{raw_of, class_of}
use Rattle.flow_class.specs.declared.class.Class.{Class}
use Rattle.flow_meaning.specs.Frame.{Frame}
use Rattle.flow_numbered.specs.Numbered.{Numbered, thing}
use Rattle.flow_meaning.specs.Orderly.{Rising}
use Rattle.flow_meaning.specs.Process.{Entry, Proc}
use Rattle.flow_meaning.specs.Class.{classes}
use Rattle.flow_meaning.specs.Boundaries.{FramesIn}
use Rattle.flow_meaning.specs.Deliver.{idle}
use Rattle.flow_meaning.specs.Views.{Unfinished, Frames, frame_spot, unfinished}
use Rattle.flow_meaning.specs.World as meaning
use Rattle.flow_meaning.specs.World.{World, ready}
use Rattle.flow_meaning.proofs.Posture.{above_none}
use Rattle.flow_operation_refinement.proofs.Stands.{get_mapped}
use Rattle.flow_invariants.specs.Unmarked.{AreWhole}
use Rattle.flow_burst_refinement.specs.Enabled.Tasking.{IsProgram}
use Rattle.flow_burst_refinement.specs.Invariants.Invariant.{ProcessInvariant}
use Rattle.flow_burst_refinement.proofs.Invariants.Off as kept
use Rattle.flow_burst_refinement.proofs.Boundaries.Keeping.{ready_kept}
use Rattle.flow_world.specs.Ending.{Seen}
use Rattle.flow_world_refinement.specs.Order.Showing.{WorldRepresents}
use Rattle.flow_world.specs.BreakingTraces.{SomeNoClass, FramesStuck, FramesStuckIf}
use Rattle.flow_world_refinement.specs.Invariants.{WorldInvariant}
use Rattle.flow_world_refinement.specs.Effects.Quiescence.{Quiescent}
use Rattle.flow_world_refinement.proofs.Events.Whole.{happening}
use Rattle.flow_end_to_end.specs.Events.{MemoryWorldInvariant}
use Rattle.flow_world_refinement.specs.Traces.Traced.{EventBegan, EventsFollow}
use Rattle.flow_compile_laws.specs.Frames.Framed.{event}
use Rattle.flow_world_refinement.specs.Views.Views.{told_frame}
use Rattle.flow_world_refinement.specs.Views.Waiting.{WorldWaits}
use Rattle.flow_world_refinement.proofs.Views.Traced.{frames}
use Rattle.flow_world_refinement.proofs.Views.Told.{world_told}

-- a class that is there by its text is there
class_there : (cs : List Class) (r : RawTree) (k : ℕ) (c : ClassTree) → map class_of cs ≡ r.classes → slice_get r.classes k ≡ Some c → slice_get cs k ≡ None → ⊥
class_there cs r k c same is none =
    let a : None ≡ Some c = sym (ap (option_map class_of) none) ∙ sym (get_mapped class_of cs k) ∙ ap (λ xs. slice_get xs k) same ∙ is in cc (a)

-- where each unfinished actor has its class, no frame that is told is of none
some_there : (cs : List Class) (xs : Numbered Frame) (above n : ℕ) (es : Numbered Entry) → Rising above n es → ((i : ℕ) (e : Entry) → thing es i ≡ Some e → slice_get cs e.class ≡ None → ⊥)
    → SomeNoClass cs (map told_frame (unfinished frame_spot xs es)) → ⊥
some_there cs xs above n [] rising there t = t
some_there cs xs above n (x ∷ es) rising there (inl none) = there x.0 x.1 (by_own x.0) none
  where
    by_own : (i : ℕ) → thing ((i, x.1) ∷ es) i ≡ Some x.1
    by_own i = let same : nat_eq i i ≡ true = grind (arith, nat_tests) in ap (λ b. if b then Some x.1 else thing es i) same
some_there cs xs above n (x ∷ es) rising there (inr t) = some_there cs xs x.0 n es rising.2 (λ i e at. there i e (by_test i e at (nat_eq i x.0) refl)) t
  where
    by_test : (i : ℕ) (e : Entry) → thing es i ≡ Some e → (b : Bool) → nat_eq i x.0 ≡ b → thing (x ∷ es) i ≡ Some e
    by_test i e at false same = ap (λ b. if b then Some x.1 else thing es i) same ∙ at
    by_test i e at true same =
        let is : i ≡ x.0 = grind (arith, nat_tests, same) in
        let none : thing es i ≡ None = above_none es x.0 n i rising.2 (omega (arith, is)) in
        absurd (let a : None ≡ Some e = sym none ∙ at in cc (a))

-- no process
abbrev nobody : meaning.Place Frame
nobody = record { up = false; proc = idle }

abbrev frames_of : meaning.Place Frame → List Unfinished
frames_of x = Frames x.proc

-- the frames of the process at a place, if there is one
abbrev Either : List (meaning.Place Frame) → ℕ → meaning.Place Frame → Type 0
Either ps n d = ((n < length ps) × (slice_index_or (map frames_of ps) n [] ≡ frames_of (slice_index_or ps n d))) ⊎ (slice_index_or (map frames_of ps) n [] ≡ [])

place_seen : (ps : List (meaning.Place Frame)) (n : ℕ) (d : meaning.Place Frame) → Either ps n d
place_seen [] n d = inr refl
place_seen (p ∷ ps) zero d = let lt : 0 < length (p ∷ ps) = omega arith in inl (lt, refl)
place_seen (p ∷ ps) (suc n) d = by_rest (place_seen ps n d)
  where
    by_rest : Either ps n d → Either (p ∷ ps) (suc n) d
    by_rest (inl (lt, is)) = let more : suc n < length (p ∷ ps) = omega (arith, lt) in inl (more, is)
    by_rest (inr none) = inr none

module _ (r : RawTree) (whole : AreWhole r) where
  -- so it is of each process of a world that keeps what it has to
  process_there : (w : Seen) (m : World Frame) → map class_of w.code.program.classes.items ≡ r.classes → WorldInvariant r m → (n : ℕ) → n < m.out.file.processes
      → SomeNoClass w.code.program.classes.items (map told_frame (unfinished frame_spot (ready m n).proc.actors (ready m n).proc.core.entries)) → ⊥
  process_there w m same k n lt t =
      let p : Proc Frame = (ready m n).proc in
      let held : ProcessInvariant r p = ready_kept r whole.valid m n k.keeps lt in
      some_there w.code.program.classes.items p.actors 0 p.core.started p.core.entries held.orderly.numbered
      (λ i e at. let u = kept.unfinished r p held i e at in class_there w.code.program.classes.items r e.class u.fits.class same u.fits.is) t

  frames_there : (w : Seen) (m : World Frame) → map class_of w.code.program.classes.items ≡ r.classes → WorldRepresents (Quiescent r) w m → WorldInvariant r m → WorldWaits m → FramesStuck w → ⊥
  frames_there w m same s k waits (p, t) =
      by_place (place_seen m.places p.0 nobody)
      (subst (SomeNoClass cs) ((world_told (Quiescent r) r (λ q x s. (s.resting.shown.holds.shows, s.resting.sorted)) w m s waits).frames p.0) t)
    where
      cs : List Class
      cs = w.code.program.classes.items

      by_place : Either m.places p.0 nobody → SomeNoClass cs (map told_frame (slice_index_or (FramesIn m) p.0 [])) → ⊥
      by_place (inl (lt, is)) t = process_there w m same k p.0 (subst (λ n. p.0 < n) k.keeps.fits.count lt) (subst (λ fs. SomeNoClass cs (map told_frame fs)) is t)
      by_place (inr none) t = subst (λ fs. SomeNoClass cs (map told_frame fs)) none t

  pub frames_if_there : (frames_asked : Bool) (w : Seen) (m : World Frame) → raw_of w.code.program ≡ r → WorldRepresents (Quiescent r) w m → WorldInvariant r m → WorldWaits m
      → FramesStuckIf frames_asked w → ⊥
  frames_if_there true w m text s k waits stuck = frames_there w m (ap (λ (x : RawTree). x.classes) text) s k waits stuck
  frames_if_there false w m text s k waits stuck = stuck

module _ {A : Type 0} (puts : A → Line → Result (Unit {0}) OutFault → A → Type 0) where
  -- each event follows, whatever else a world keeps
  event_began : (r : RawTree) (m : World Frame) (a b : A) → EventBegan (Quiescent r) (WorldInvariant r) (IsProgram r) puts r m a b
      → EventBegan (Quiescent r) (MemoryWorldInvariant r) (IsProgram r) puts r m a b
  event_began r m a b e = record { begun = e.begun; left = e.left; begins = e.begins; follows = e.follows; lines = e.lines }

  pub events_follow : (r : RawTree) → EventsFollow (Quiescent r) (MemoryWorldInvariant r) (IsProgram r) puts r
  unfolding event_began
  events_follow r w v m a b code s k h =
      let e = happening puts r w v m a b code s k.lasting h in
      record { event = event_began r m a b e.event; rests = e.rests; shows = e.shows }
