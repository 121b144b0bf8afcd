-- No row of steps of an actor goes astray, where none of its steps does.
use Rattle.std.proofs.Common.{◌≡◌, ◌⊎◌, inl, inr, ℕ, pos, List, refl, sym, ap, ◌∙◌, subst}
use Rattle.std.specs.declared.option.Option.TheVariants.{None}
use Rattle.flow_class.specs.Classes.{RawTree}
use Rattle.flow_code.specs.declared.program.Code.{Code}
use Rattle.flow_trace.specs.declared.line.Line.{Line}
use Rattle.flow_meaning.specs.Requests.{Supply}
use Rattle.flow_meaning.specs.Process.{Run, Entry, Proc}
use Rattle.flow_meaning.specs.References.{Scan}
use Rattle.flow_meaning.specs.Work.{pushed}
use Rattle.flow_meaning.specs.Step.{on_core}
use Rattle.flow_meaning.specs.Frame.{Frame}
use Rattle.flow_heap_refinement.specs.Rested.{Sorted}
use Rattle.flow_steps.specs.declared.frames.ControlPoint.{ControlPoint}
use Rattle.flow_steps.specs.declared.next.Pace.TheVariants.{On}
use Rattle.flow_steps.specs.declared.process.Process.{Process}
use Rattle.flow_steps.specs.Evaluating.{program_time}
use Rattle.flow_steps.specs.Stepping.{StepsOn}
use Rattle.flow_steps.specs.StuckSteps.{RunsStuck, step_now, step_later}
use Rattle.flow_burst_refinement.specs.Invariants.Invariant.{ProcessInvariant}
use Rattle.flow_burst_refinement.proofs.Invariants.Once.{sorted_stays}
use Rattle.flow_burst_refinement.proofs.Invariants.Stays.{step_stays}
use Rattle.flow_step_refinement.specs.Continuing.{Silent, MayStep, GoesBy, InClass}
use Rattle.flow_step_refinement.specs.Executing.{InProgram, Asks}
use Rattle.flow_step_refinement.specs.Running.{Allows}
use Rattle.flow_step_refinement.proofs.Ends.{step_follows}
use Rattle.flow_step_refinement.proofs.Quiet.{step_quiet}
use Rattle.flow_step_refinement.proofs.Rows.{asks_off, holds_then, entered, acting, goes_on, in_program}
use Rattle.flow_step_refinement.proofs.Stays.{in_class_stays}
use Rattle.flow_burst_refinement.specs.Enabled.Tasking.{IsProgram}
use Rattle.flow_burst_refinement.proofs.Programs.Goes as goes
use Rattle.flow_machine_progress.specs.Actors.{AtStep, StepMeant}

module _ (r : RawTree) (code : Code) (program : IsProgram r code) (ls : List Line) (x : Scan) (w : Supply)
    (meant : (s : ControlPoint) (m : Process) (p : Proc Frame) (i : ℕ) (e : Entry) (f : Frame) → StepMeant r code w ls x s m p i e f) (i : ℕ) where
  -- the process in which the actor's own task is the newest
  abbrev full : Proc Frame → Proc Frame
  full p = on_core (pushed (Run i)) p

  allowed : Allows r w (ProcessInvariant r)
  allowed = goes.allows r code program w

  standing : (s : ControlPoint) (m : Process) (p : Proc Frame) (e : Entry) (f : Frame) → ProcessInvariant r (full p) → MayStep r ls x s m p i e f → InClass code e.class s → InProgram r code s f
  standing s m p e f kept may here = in_program r ls x w (ProcessInvariant r) code program.coded allowed i s m p e f kept may here

  at_step : (s : ControlPoint) (m : Process) (p : Proc Frame) (e : Entry) (f : Frame) → ProcessInvariant r (full p) → MayStep r ls x s m p i e f → InClass code e.class s → m.asked ≡ None
      → program_time m.time ≡ pos w.now → Sorted m.heap → AtStep r code w ls x s m p i e f
  at_step s m p e f kept may here none time sorted = record {
    may = may;
    standing = standing s m p e f kept may here;
    running = goes.running r code program p i e f kept (entered r ls x s m p i e f may) (acting r ls x s m p i e f may);
    unasked = none;
    clock = time;
    sorted = sorted;
  }

  -- what holds of an actor that goes on after steps of the class machine
  pub going_on : (number : ℕ) (start : Proc Frame) (t : ControlPoint) (between : Process) → ProcessInvariant r start → GoesBy r ls x w i number start (On t) between → InClass code number t
      → ((q : Proc Frame) (d : Entry) (g : Frame) → ProcessInvariant r (full q) → MayStep r ls x t between q i d g → InClass code d.class t → ⊥) → ⊥
  going_on number start t between kept g here rest =
      let a = g.onward in
      let row = subst (Silent r w start) a.runs g.steps in
      let kept2 = holds_then r w (ProcessInvariant r) allowed start (full a.process) row kept (goes_on r ls x t between a.process i a.entry a.frame a.next) in
      rest a.process a.entry a.frame kept2 a.next (subst (λ k. InClass code k t) (sym a.same) here)

  -- so it is after one step
  further : (s : ControlPoint) (m : Process) (p : Proc Frame) (e : Entry) (f : Frame) (t : ControlPoint) (between : Process) → ProcessInvariant r (full p) → MayStep r ls x s m p i e f
      → InClass code e.class s → m.asked ≡ None
      → program_time m.time ≡ pos w.now → StepsOn code s m (On t) between
      → ((q : Proc Frame) (d : Entry) (g : Frame) → ProcessInvariant r (full q) → MayStep r ls x t between q i d g → InClass code d.class t → between.asked ≡ None
      → program_time between.time ≡ pos w.now → ⊥) → ⊥
  further s m p e f t between kept may here none time one rest =
      by_step (step_follows r ls m p i e f x s w code (On t) between may (standing s m p e f kept may here) none time
      (allowed.next p i e f kept (entered r ls x s m p i e f may) (acting r ls x s m p i e f may)) one)
    where
      by_step : GoesBy r ls x w i e.class (full p) (On t) between ⊎ Asks code s m (On t) between → ⊥
      by_step (inr a) = asks_off code s m (On t) between t refl a
      by_step (inl g) =
          let quiet = step_quiet code s m between t (On t) refl one in
          going_on e.class (full p) t between kept g (in_class_stays code e.class s t m between here one)
          (λ q d g kept next here. rest q d g kept next here (quiet.asked ∙ none) (ap program_time quiet.time ∙ time))

  pub runs_sure : (s : ControlPoint) (m : Process) (p : Proc Frame) (e : Entry) (f : Frame) → ProcessInvariant r (full p) → MayStep r ls x s m p i e f → InClass code e.class s → m.asked ≡ None
      → program_time m.time ≡ pos w.now → Sorted m.heap → RunsStuck code s m → ⊥
  runs_sure s m p e f kept may here none time sorted (step_now a b stuck) = meant s m p i e f (at_step s m p e f kept may here none time sorted) stuck
  runs_sure s m p e f kept may here none time sorted (step_later a t b between one rest) =
      let sorted_then = sorted_stays m between (step_stays code s m between (On t) none one) sorted in
      further s m p e f t between kept may here none time one (λ q d g kept next here none time. runs_sure t between q d g kept next here none time sorted_then rest)

  -- an actor that goes on after steps of the class machine
  pub goes_sure : (number : ℕ) (start : Proc Frame) (t : ControlPoint) (between : Process) → ProcessInvariant r start → GoesBy r ls x w i number start (On t) between → InClass code number t
      → between.asked ≡ None
      → program_time between.time ≡ pos w.now → Sorted between.heap → RunsStuck code t between → ⊥
  goes_sure number start t between kept g here none time sorted stuck =
      going_on number start t between kept g here (λ q d g kept next here. runs_sure t between q d g kept next here none time sorted stuck)
