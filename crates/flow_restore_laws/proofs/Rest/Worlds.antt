-- Event after event a world in memory shows where the run of its classes is, and is at rest.
use Rattle.std.proofs.Common.{◌≡◌, Bool, List, refl, sym, ap, ◌∙◌, subst}
use Rattle.std.specs.Prelude.{Result, slice_get}
use Rattle.std.specs.declared.option.Option.TheVariants.{Some}
use Rattle.flow_base.specs.declared.fault.OutFault.{OutFault}
use Rattle.flow_trace.specs.declared.line.Line.{Line}
use Rattle.flow_worldfile.specs.Worlds.{IsInRange, seen}
use Rattle.flow_worldfile.specs.declared.world.World0.{World0}
use Rattle.flow_class.specs.Classes.{RawTree}
use Rattle.flow_class.specs.View.{raw_of}
use Rattle.flow_class.specs.declared.class.RawClasses.{RawClasses}
use Rattle.flow_meaning.specs.Class.{classes}
use Rattle.flow_meaning.specs.Frame.{Frame}
use Rattle.flow_meaning.specs.Runs.{IsRun, before, after}
use Rattle.flow_meaning.specs.World.{World, at_start}
use Rattle.flow_invariants.specs.Unmarked.{AreWhole, WorldRests}
use Rattle.flow_invariants.proofs.Unmarked.Worlds.{whole_rest}
use Rattle.flow_invariants.specs.Fitting.Laws.{AreValid}
use Rattle.flow_invariants.proofs.Fitting.Runs.{run_exists}
use Rattle.flow_burst_refinement.specs.Enabled.Tasking.{IsProgram}
use Rattle.flow_machine.specs.declared.host.Burst.TheVariants.{Rested}
use Rattle.flow_world.specs.Ending.{Seen}
use Rattle.flow_world.specs.Happening.{Happens}
use Rattle.flow_world.specs.Starting.{Starts}
use Rattle.flow_world_refinement.specs.Order.Showing.{WorldRepresents}
use Rattle.flow_world_refinement.proofs.Order.Next.{same_end}
use Rattle.flow_world_refinement.proofs.Order.Started.{start_shown}
use Rattle.flow_world_refinement.specs.Effects.Quiescence.{Quiescent}
use Rattle.flow_world_refinement.proofs.Effects.Settling.{settled_first}
use Rattle.flow_world_refinement.specs.Invariants.{WorldInvariant}
use Rattle.flow_world_refinement.proofs.Invariants.Lasting.{lasting_starts, lasting_stays}
use Rattle.flow_world_refinement.proofs.Invariants.Mid.{begun_mid, burst_mid}
use Rattle.flow_world.specs.Tracing.{RunsEvents, no_event, one_more}
use Rattle.flow_world_refinement.proofs.Traces.Codes.{code_stays}
use Rattle.flow_world_refinement.proofs.Events.Whole.{happening}
use Rattle.flow_end_to_end.specs.Exact.{HaveFewPlaces}
use Rattle.flow_end_to_end.proofs.Shown.{code_first}
use Rattle.flow_determinism.proofs.Whole.{compiles_whole}
use Rattle.flow_class_text_laws.proofs.Compiled.{compiled_few}
use Rattle.flow_restore_laws.specs.Rest.Boundary as law
use Rattle.flow_restore_laws.proofs.Rest.Onwards.{Onwards, first_left, holds_at, next_on}
use Rattle.flow_restore_laws.proofs.Rest.Rests.{world_rests}

module _ {A : Type 0} (puts : A → Line → Result (Unit {0}) OutFault → A → Type 0) (r : RawTree) (valid : AreValid r) (states : List (World Frame)) where
  -- a world in memory on the way of a run, which goes on from the state that is shown
  record Came (v : Seen) : Type 0 where
    code : IsProgram r v.code
    state : World Frame
    shows : WorldRepresents (Quiescent r) v state
    keeps : WorldInvariant r state
    on : Onwards (classes r) states state.out.ran state

  event_came : (u v : Seen) (b c : A) → Came u → Happens puts u b Rested v c → Came v
  event_came u v b c k h =
      let w = k.state in
      let x = happening puts r u v w b c k.code k.shows k.keeps h in
      let begun = x.event.begun in
      let left = x.event.left in
      let ongoing = (same_end (Quiescent r) puts u v w b c k.shows).2 h in
      let mid = burst_mid k.keeps.slack (classes r) w.out.ran (before begun) left x.event.follows (begun_mid k.keeps.slack (classes r) w.out.ran w begun refl k.keeps.times x.event.begins) in
      record {
        code = subst (IsProgram r) (sym (code_stays puts u v b c Rested h)) k.code;
        state = after w begun left;
        shows = x.shows;
        keeps = (lasting_stays r valid w begun left k.keeps x.event.begins x.event.follows x.rests).0;
        on = subst (λ n. Onwards (classes r) states n (after w begun left)) (sym mid.ran) (next_on (classes r) states w.out.ran w begun left k.on ongoing x.event.begins x.event.follows x.rests);
      }

  events_came : (with_frames : Bool) (w v : Seen) (a b : A) → Came w → RunsEvents puts with_frames w a v b → Came v
  events_came with_frames w _ a _ k no_event = k
  events_came with_frames w v a d k (one_more {u = u} {b = b} {c = c} goes does told) = event_came u v b c (events_came with_frames w u a b k goes) does

module _ {A : Type 0} (puts : A → Line → Result (Unit {0}) OutFault → A → Type 0) where
  in_run : (c : RawClasses) (file : World0) (with_frames : Bool) (first v : Seen) (a b : A) (whole : AreWhole (raw_of c)) → HaveFewPlaces (raw_of c) → IsInRange (seen file)
      → Starts c file first → RunsEvents puts with_frames first a v b → (states : List (World Frame)) (lines : List Line) → IsRun (classes (raw_of c)) (seen file) states lines
      → law.RestsInRun (raw_of c) (seen file) v
  in_run c file with_frames first v a b whole few range starts goes states lines run =
      let r = raw_of c in
      let start : Came puts r whole.valid states first = record {
        code = code_first c file whole few first starts;
        state = at_start (seen file);
        shows = start_shown (Quiescent r) c file first (settled_first r) starts;
        keeps = (lasting_starts r (seen file) range).0;
        on = record { rest = run.later; lines = run.rest; runs = run.runs; left = run.from_start };
      } in
      let x = events_came puts r whole.valid states with_frames first v a b start goes in
      let there : slice_get states v.ran ≡ Some x.state = ap (slice_get states) x.shows.ran ∙ first_left states x.state.out.ran x.state x.on.rest x.on.left in
      let kept = holds_at (WorldRests r) states v.ran x.state (whole_rest r whole (seen file) states range (lines, run)) there in
      record { states = states; run = (lines, run); state = x.state; after_as_many = there; shows = world_rests r v x.state x.shows x.keeps.keeps.fits kept }

  pub classes_rest : law.ClassesRest puts
  classes_rest c file with_frames first v a b whole few range starts goes =
      let x = run_exists (raw_of c) whole.valid (seen file) range in
      in_run c file with_frames first v a b whole few range starts goes x.is.0 x.lines x.is.1

  pub programs_rest : law.ProgramsRest puts
  programs_rest text program c file with_frames first v a b sound light has range starts goes =
      classes_rest c file with_frames first v a b (subst AreWhole (sym has) (compiles_whole text program sound)) (subst HaveFewPlaces (sym has) (compiled_few text program sound light))
      range starts goes
