-- From bytes of events to what a program shows.
use Rattle.std.proofs.Common.{Bool, List, ◌∷◌, ◌++◌, refl, sym, subst, ap}
use Rattle.std.specs.Prelude.{Result}
use Rattle.flow_base.specs.declared.fault.OutFault.{OutFault}
use Rattle.flow_tree.specs.DeclView.{program_of}
use Rattle.flow_trace.specs.declared.line.Line.{Line}
use Rattle.flow_trace.specs.declared.line.Line.TheVariants as line
use Rattle.flow_worldfile.specs.Worlds.{IsInRange, seen}
use Rattle.flow_worldfile.specs.declared.world.World0.{World0}
use Rattle.flow_class.specs.Classes.{RawTree}
use Rattle.flow_class.specs.View.{raw_of}
use Rattle.flow_class.specs.declared.class.RawClasses.{RawClasses}
use Rattle.flow_meaning.specs.Class.{classes}
use Rattle.flow_meaning.specs.Views.{frame_spot}
use Rattle.flow_meaning.specs.World.{at_start}
use Rattle.flow_lower.specs.Compiled.{compiled}
use Rattle.flow_invariants.specs.Unmarked.{AreWhole}
use Rattle.flow_burst_refinement.specs.Enabled.Tasking.{IsProgram}
use Rattle.flow_world.specs.Ending.{Seen}
use Rattle.flow_world.specs.Starting.{Starts}
use Rattle.flow_world.specs.FaultedLines.{tells, whole, failed}
use Rattle.flow_world.proofs.Putting.{puts_more}
use Rattle.flow_world.proofs.Telling.{no_more}
use Rattle.flow_world.specs.Tracing.{begun, all}
use Rattle.flow_invariants.proofs.Fitting.Runs.{run_exists}
use Rattle.flow_compile_laws.specs.Frames.Framed.{ClassShown, Shows}
use Rattle.flow_compile_laws.proofs.Frames.Alike.{shown_of_classes}
use Rattle.flow_compile_laws.proofs.Traces.{are_carried}
use Rattle.flow_lowering_laws.proofs.Programs.Whole.{compiles_faithfully}
use Rattle.flow_world_refinement.specs.Invariants.{WorldInvariant}
use Rattle.flow_world_refinement.proofs.Invariants.Lasting.{lasting_starts, lasting_stays}
use Rattle.flow_world_refinement.specs.Effects.Quiescence.{Quiescent}
use Rattle.flow_world_refinement.proofs.Effects.Settling.{settled_first}
use Rattle.flow_world_refinement.proofs.Events.Whole.{happening, spent_happening}
use Rattle.flow_world_refinement.specs.Traces.Traced.{BoundaryBegins}
use Rattle.flow_world_refinement.proofs.Views.Traced.{frames_traced, beginning_traced}
pub use Rattle.flow_determinism.proofs.Shown.{shown_by}
use Rattle.flow_determinism.proofs.Whole.{compiles_whole}
use Rattle.flow_class_text_laws.proofs.Compiled.{compiled_few}
use Rattle.flow_end_to_end.specs.Exact.{HaveFewPlaces, ClassesShown, ProgramShown, ClassesBegun, ProgramInPart}

-- a world that starts has the code of its classes
pub code_first : (c : RawClasses) (file : World0) → AreWhole (raw_of c) → HaveFewPlaces (raw_of c) → (w : Seen) → Starts c file w → IsProgram (raw_of c) w.code
code_first c file whole few w s = record {
  whole = whole;
  coded = record { program = ap raw_of s.code.program; coded = s.code.coded };
  few = few;
}

-- and its run begins as boundaries want it
pub begins : (c : RawClasses) (file : World0) → AreWhole (raw_of c) → HaveFewPlaces (raw_of c) → IsInRange (seen file)
    → BoundaryBegins (Quiescent (raw_of c)) (WorldInvariant (raw_of c)) (IsProgram (raw_of c)) c file
begins c file whole few range =
    let r = raw_of c in
    record {
      fresh = settled_first r;
      code = code_first c file whole few;
      keeps = (lasting_starts r (seen file) range).0;
      keeps_on = λ m b l k g q go. (lasting_stays r whole.valid m b l k g q go).0;
    }

-- something is shown of valid classes
pub lines_shown : (c : RawClasses) (file : World0) (with_frames : Bool) → AreWhole (raw_of c) → IsInRange (seen file)
    → (lines : List Line) × Shows (classes (raw_of c)) frame_spot with_frames (at_start (seen file)) lines
lines_shown c file frames whole range =
    let trace = (run_exists (raw_of c) whole.valid (seen file) range).is.1 in shown_by (classes (raw_of c)) frame_spot frames (at_start (seen file)) trace.later trace.rest trace.runs

module _ {A : Type 0} (puts : A → Line → Result (Unit {0}) OutFault → A → Type 0) where
  pub classes_shown : ClassesShown puts
  classes_shown c file frames a b e whole few range t =
      let r = raw_of c in
      frames_traced (Quiescent r) (WorldInvariant r) (IsProgram r) puts frames c file a b e (begins c file whole few range)
      (λ m p s. (s.resting.shown.holds.shows, s.resting.sorted)) (λ m k. k.keeps.fits.count)
      (happening puts r) (spent_happening puts r) t

  pub program_shown : ProgramShown puts
  program_shown text program c file frames a b e sound light has range t =
      let whole = subst AreWhole (sym has) (compiles_whole text program sound) in
      let few = subst HaveFewPlaces (sym has) (compiled_few text program sound light) in
      let shown = classes_shown c file frames a b e whole few range t in
      let by_text = shown_of_classes (program_of program) (compiled (program_of program)) (are_carried program (compiles_faithfully text program sound.typed))
      frames (seen file) shown.0
      (subst (λ (r : RawTree). ClassShown frames r (seen file) shown.0) has shown.1) in
      (shown.0, by_text, shown.2, shown.3)

  pub classes_begun : ClassesBegun puts
  classes_begun c file frames a b whole few range t =
      let r = raw_of c in
      let all = lines_shown c file frames whole range in
      let shown : ClassShown frames r (seen file) (line.Head ∷ all.0) = record { rest = all.0; shows = all.1; with_head = refl } in
      let x = beginning_traced (Quiescent r) (WorldInvariant r) (IsProgram r) puts frames c file a b (line.Head ∷ all.0) (begins c file whole few range)
      (λ m p s. (s.resting.shown.holds.shows, s.resting.sorted)) (λ m k. k.keeps.fits.count)
      (happening puts r) t shown in
      (x.0, x.1, subst (ClassShown frames r (seen file)) x.2 shown, x.3)

-- up to a line that failed
module _ {A : Type 0} (puts : A → Line → Result (Unit {0}) OutFault → A → Type 0) where
  pub program_in_part : ProgramInPart puts
  program_in_part text program c file frames a b sound light has range (begun t) =
      let fine = subst AreWhole (sym has) (compiles_whole text program sound) in
      let few = subst HaveFewPlaces (sym has) (compiled_few text program sound light) in
      let x = classes_begun (tells puts) c file frames (whole a) (failed b) fine few range t in
      let by_text = shown_of_classes (program_of program) (compiled (program_of program)) (are_carried program (compiles_faithfully text program sound.typed))
      frames (seen file) (x.0 ++ x.1)
      (subst (λ (r : RawTree). ClassShown frames r (seen file) (x.0 ++ x.1)) has x.2) in
      (x.0 ++ x.1, by_text, puts_more (tells puts) (whole a) (failed b) (failed b) x.0 x.1 x.3 (no_more puts b x.1))
  program_in_part text program c file frames a b sound light has range (all {e = e} t) =
      let x = program_shown (tells puts) text program c file frames (whole a) (failed b) e sound light has range t in
      (x.0, x.1, x.2)
