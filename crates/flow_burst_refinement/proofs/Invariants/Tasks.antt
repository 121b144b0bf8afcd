-- The newest task may be done, and is a step of the class machine.
use Rattle.std.proofs.Common.{◌≡◌, List, ◌∷◌, sym, subst, ◌∙◌}
use Rattle.flow_class.specs.Classes.{RawTree}
use Rattle.flow_code.specs.declared.program.Code.{Code}
use Rattle.flow_trace.specs.declared.line.Line.{Line}
use Rattle.flow_cancel.specs.declared.task.Task as stack
use Rattle.flow_cancel.specs.declared.task.Task.TheVariants as task
use Rattle.flow_meaning.specs.Process.{Task, Drop, Proc}
use Rattle.flow_meaning.specs.Step.{popped}
use Rattle.flow_meaning.specs.Frame.{Frame}
use Rattle.flow_heap_refinement.specs.Rested.{Sorted}
use Rattle.flow_progress.specs.Fitting.{TasksFit}
use Rattle.flow_steps.specs.declared.process.Process.{Process}
use Rattle.flow_steps.specs.Tasks.{TopTaken}
use Rattle.flow_operation_refinement.specs.Stepped.{TopOff, MayDo, IsEnabled}
use Rattle.flow_operation_refinement.proofs.Doing.{top_follows, task_follows}
use Rattle.flow_burst_refinement.specs.Invariants.Allowed as law
use Rattle.flow_burst_refinement.specs.Invariants.Allowed.{IsPlain, IsValidCode, BetweenTasks}
use Rattle.flow_burst_refinement.proofs.Invariants.Theres.{ref_there}
use Rattle.flow_burst_refinement.proofs.Invariants.Off.{sound_off}
use Rattle.flow_burst_refinement.proofs.Invariants.MayDo.{may_fire, may_throw, may_close}

rest_of : {t u : Task} {ts us : List Task} → t ∷ ts ≡ u ∷ us → ts ≡ us
rest_of h = cc

module _ (r : RawTree) (code : Code) (run : IsValidCode r code) (ls : List Line) (m : Process) (p : Proc Frame) (now : BetweenTasks r ls m p) where
  still_sorted : (t : stack.Task) (start : Process) → TopTaken t m start → Sorted start.heap
  still_sorted t start taken =
      let s = now.sorted in
      subst (λ (z : Process). Sorted z.heap) (sym taken.rest) (record { cells = s.cells; streams = s.streams; actors = s.actors; frames = s.frames; ports = s.ports })

  may_do : (t : stack.Task) (start : Process) (o : TopOff r ls t start p) → IsPlain t → MayDo code r start (popped o.below p) t
  may_do (task.Drop kd j) start o plain =
      let fit : TasksFit r now.kept.types (Drop kd j.0 ∷ o.below) = subst (λ u. TasksFit r now.kept.types (u ∷ o.below)) o.same (subst (TasksFit r now.kept.types) o.tasks now.kept.fits.work) in
      ref_there r now.kept.types (popped o.below p) now.kept.fits.cells kd j.0 fit.0.0 fit.0.1
  may_do (task.Fire j) start o plain = may_fire r code run.valid run.coded p now.kept o.top o.below o.tasks start j.0 o.shown.holds.shows o.same
  may_do (task.Throw i err) start o plain = may_throw r code run.valid run.coded p now.kept o.top o.below o.tasks start i.0 err.0 o.shown.holds.shows o.same
  may_do (task.Catch i err) start o plain = tt
  may_do (task.Close i v) start o plain = may_close r code run.valid run.coded p now.kept o.top o.below o.tasks start i.0 v.value o.shown.holds.shows o.same
  may_do (task.Run i) start o plain = absurd plain
  may_do (task.Give i b v) start o plain = absurd plain
  may_do (task.Store i v) start o plain = absurd plain
  may_do (task.Keep i b k) start o plain = absurd plain

  doable : (t : stack.Task) (start : Process) (o : TopOff r ls t start p) → TopTaken t m start → IsPlain t → IsEnabled code r start (popped o.below p) t
  doable t start o taken plain = record { sound = sound_off r p now.kept o.top o.below o.tasks; sorted = still_sorted t start taken; may = may_do t start o plain }

  pub task_allowed : law.TaskAllowed r code run ls m p now
  task_allowed t start u below taken top plain =
      let o = top_follows r ls m p t start now.shown taken in
      subst (λ us. IsEnabled code r start (popped us p) t) (rest_of (sym o.tasks ∙ top)) (doable t start o taken plain)

  pub plain_steps : law.PlainSteps r code run ls m p now
  plain_steps s t start n none taken plain done =
      task_follows r ls m p code s t start n now.shown none taken (λ below u top. task_allowed t start u below taken top plain) done
