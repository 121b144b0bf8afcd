-- What a world in memory counts between events are the unfinished actors of the state that it represents.
use Rattle.std.proofs.Common.{◌≡◌, ℕ, zero, suc, ◌+◌, List, [], ◌∷◌, length, refl, sym, ap, ap₂, ◌∙◌, subst}
use Rattle.std.specs.Prelude.{slice_get, Result}
use Rattle.std.specs.declared.option.Option.TheVariants.{None, Some}
use Rattle.flow_base.specs.declared.fault.OutFault.{OutFault}
use Rattle.flow_tree.specs.DeclView.{program_of}
use Rattle.flow_trace.specs.declared.line.Line.{Line}
use Rattle.flow_worldfile.specs.Worlds.{seen}
use Rattle.flow_value.specs.declared.value.Value.{Value}
use Rattle.flow_class.specs.Classes.{RawTree}
use Rattle.flow_class.specs.View.{raw_of}
use Rattle.flow_frame.specs.Frames.{FrameTree}
use Rattle.flow_cancel.specs.Heap.{HeapTree}
use Rattle.flow_numbered.specs.Numbered as stored
use Rattle.flow_numbered.specs.Numbered.{Numbered, thing}
use Rattle.flow_meaning.specs.Class.{classes}
use Rattle.flow_meaning.specs.Frame.{Frame}
use Rattle.flow_meaning.specs.Orderly.{Rising, Phase}
use Rattle.flow_meaning.specs.Process.{Entry, Core, Proc}
use Rattle.flow_meaning.specs.RunLaw.{SamePlaces, SameStates}
use Rattle.flow_meaning.specs.Source.{source, names_of}
use Rattle.flow_meaning.specs.World.{World}
use Rattle.flow_meaning.specs.World as meaning
use Rattle.flow_meaning.proofs.LiftRuns.{traces_return}
use Rattle.flow_heap_refinement.specs.Representing.{Represents, ActorRepresents, nobody, somebody}
use Rattle.flow_heap_refinement.specs.Rested.{Sorted}
use Rattle.flow_compile_laws.specs.Simulation.Matching.{ActorMatches}
use Rattle.flow_determinism.proofs.Referred.{simulated}
use Rattle.flow_world.specs.declared.place.Place.{Place}
use Rattle.flow_world.specs.Ending.{Seen}
use Rattle.flow_world.specs.Views.{live_in}
use Rattle.flow_world_refinement.specs.Order.Showing.{PlacesRepresent}
use Rattle.flow_world_refinement.proofs.Views.Paired.{Both, Paired, paired}
use Rattle.flow_restore_laws.specs.Rest.Boundary.{IsAtRest}
use Rattle.flow_restore_laws.specs.Rest.Counted.{unfinished_in, Counts, ClassesCount, ProgramsCount}
use Rattle.flow_restore_laws.proofs.Rest.Worlds.{classes_rest, programs_rest}

-- a frame for each unfinished actor
abbrev Anyhow : ℕ → FrameTree Value → Entry → Type 0
Anyhow i m e = Unit {0}

same_length : (xs : List (ℕ × FrameTree Value)) (es : Numbered Entry) → Paired Anyhow xs es → length xs ≡ length es
same_length [] [] h = refl
same_length [] (e ∷ es) h = absurd h
same_length (x ∷ xs) [] h = absurd h
same_length (x ∷ xs) (e ∷ es) h = ap suc (same_length xs es h.2)

frames_counted : (r : RawTree) (h : HeapTree) (p : Proc Frame) → Represents r h p → Sorted h → Rising 0 p.core.started p.core.entries → length h.frames.things ≡ length p.core.entries
frames_counted r h p shows sorted up = same_length h.frames.things p.core.entries (paired Anyhow 0 0 h.frames.greatest p.core.started h.frames.things p.core.entries sorted.frames up both)
  where
    both : (i : ℕ) → Both Anyhow i (stored.thing h.frames.things i) (thing p.core.entries i)
    both i = by_case (shows.actors i)
      where
        by_case : ActorRepresents r (stored.thing h.actors.things i) (stored.thing h.frames.things i) (thing p.core.entries i) (thing p.actors i)
            → Both Anyhow i (stored.thing h.frames.things i) (thing p.core.entries i)
        by_case (nobody n m e f) = subst (λ o. Both Anyhow i o (thing p.core.entries i)) (sym m) (subst (λ o. Both Anyhow i None o) (sym e) tt)
        by_case (somebody s) = subst (λ o. Both Anyhow i o (thing p.core.entries i)) (sym s.framed) (subst (λ o. Both Anyhow i (Some s.memory) o) (sym s.entered) tt)

places_counted : (r : RawTree) (processes k : ℕ) (ats : List Place) (xs : List (meaning.Place Frame)) → PlacesRepresent (IsAtRest r) processes k ats xs → live_in ats ≡ unfinished_in xs
places_counted r n k [] [] h = refl
places_counted r n k [] (x ∷ xs) h = absurd h
places_counted r n k (at ∷ ats) [] h = absurd h
places_counted r n k (at ∷ ats) (x ∷ xs) h =
    let rests = h.0.rests.rested.running in
    ap₂ (λ a b. a + b) (frames_counted r at.machine.process.heap x.proc rests.shows rests.sorted rests.orderly.numbered) (places_counted r n (suc k) ats xs h.1)

-- related worlds have as many unfinished actors
module _ {A B : Type 0} (R : Phase → A → B → Type 0) where
  same_count : (ps : List (meaning.Place A)) (qs : List (meaning.Place B)) → SamePlaces R ps qs → unfinished_in qs ≡ unfinished_in ps
  same_count [] [] h = refl
  same_count [] (q ∷ qs) h = absurd h
  same_count (p ∷ ps) [] h = absurd h
  same_count (p ∷ ps) (q ∷ qs) h = ap₂ (λ a b. a + b) (ap (λ (c : Core). length c.entries) (sym h.0.1)) (same_count ps qs h.1)

  counts_same : (v : Seen) (ws : List (World A)) (us : List (World B)) → SameStates R ws us → Counts us v → Counts ws v
  counts_same v ws us h c = let x = at_number v.ran ws us c.0 h c.1 in (x.0, x.1, c.2 ∙ x.2)
    where
      at_number : (n : ℕ) (ws : List (World A)) (us : List (World B)) (u : World B) → SameStates R ws us → slice_get us n ≡ Some u
          → (w : World A) × (slice_get ws n ≡ Some w) × (unfinished_in u.places ≡ unfinished_in w.places)
      at_number n [] [] u h e = absurd cc
      at_number n [] (x ∷ us) u h e = absurd h
      at_number n (w ∷ ws) [] u h e = absurd h
      at_number zero (w ∷ ws) (x ∷ us) u h e = let same : x ≡ u = cc in (w, refl, subst (λ z. unfinished_in z.places ≡ unfinished_in w.places) same (same_count w.places x.places h.0.1))
      at_number (suc n) (w ∷ ws) (x ∷ us) u h e = at_number n ws us u h.1 e

module _ {A : Type 0} (puts : A → Line → Result (Unit {0}) OutFault → A → Type 0) where
  pub classes_count : ClassesCount puts
  classes_count c file with_frames first v a b whole few range starts goes =
      let x = classes_rest puts c file with_frames first v a b whole few range starts goes in
      (x.states, x.run, (x.state, x.after_as_many, places_counted (raw_of c) x.state.out.file.processes 0 v.places x.state.places x.shows.places))

  pub programs_count : ProgramsCount puts
  programs_count text program c file with_frames first v a b sound light has range starts goes =
      let t = program_of program in
      let x = programs_rest puts text program c file with_frames first v a b sound light has range starts goes in
      let count : Counts x.states v = (x.state, x.after_as_many, places_counted (raw_of c) x.state.out.file.processes 0 v.places x.state.places x.shows.places) in
      let run = subst (λ r. Rattle.flow_meaning.specs.Runs.IsRun (classes r) (seen file) x.states x.run.0) has x.run.1 in
      let other = traces_return (source t) (classes _) (ActorMatches (names_of t)) (simulated text program sound) (seen file) x.states x.run.0 run in
      (other.0, (x.run.0, other.1), counts_same (ActorMatches (names_of t)) v other.0 x.states other.2 count)
