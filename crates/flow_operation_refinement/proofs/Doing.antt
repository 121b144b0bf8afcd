-- A task that needs no step of an actor, done in memory, is a step of the class machine.
use Rattle.std.proofs.Common.{◌≡◌, List, ◌∷◌, refl, sym, ap, ◌∙◌, subst, arith}
use Rattle.std.specs.declared.option.Option.TheVariants.{None, Some}
use Rattle.flow_value.specs.View.{outcome_of}
use Rattle.flow_class.specs.Classes.{RawTree}
use Rattle.flow_code.specs.declared.program.Code.{Code}
use Rattle.flow_trace.specs.declared.line.Line.{Line}
use Rattle.flow_cancel.specs.declared.actors.Note.{Note}
use Rattle.flow_cancel.specs.declared.task.Task as stack
use Rattle.flow_cancel.specs.declared.task.Task.TheVariants as task
use Rattle.flow_numbered.specs.Numbered.{removed}
use Rattle.flow_meaning.specs.Requests.{Supply}
use Rattle.flow_meaning.specs.Cells.{FutureSide, side_of}
use Rattle.flow_meaning.specs.Process.{Task, Drop, Fire, Close, Throw, Catch, Proc}
use Rattle.flow_meaning.specs.References.{one}
use Rattle.flow_meaning.specs.Dropping.{drop, close}
use Rattle.flow_meaning.specs.Step.{silent, popped, step_tasks, step_if, step, throw, close_actor, handle, scanned, proc, on_core}
use Rattle.flow_meaning.specs.Class.{classes}
use Rattle.flow_meaning.specs.Frame.{Frame}
use Rattle.flow_heap_refinement.specs.Counted.{frames_hold, nothing_in_hand}
use Rattle.flow_heap_refinement.proofs.Shown.{popped_shown}
use Rattle.flow_heap_refinement.proofs.Referring.{of_popped}
use Rattle.flow_steps.specs.declared.process.Process.{Process}
use Rattle.flow_steps.specs.Tasks.{IsDone}
use Rattle.flow_steps.specs.Delivering.{closed}
use Rattle.flow_operation_refinement.specs.Matching.{ProcessRepresents, Matches, shows, with_task}
use Rattle.flow_operation_refinement.specs.Stepped.{TopOff, IsEnabled, Steps}
use Rattle.flow_operation_refinement.specs.Stepped as law
use Rattle.flow_operation_refinement.proofs.Working.{changed, as_many_shown}
use Rattle.flow_operation_refinement.proofs.Ended.{actor_closed}
use Rattle.flow_operation_refinement.proofs.Firing.{drop_done, catch_done, fire_done}
use Rattle.flow_operation_refinement.proofs.Thrown.{throw_done}

pub top_follows : (r : RawTree) (ls : List Line) (m : Process) (p : Proc Frame) → law.TopFollows r ls m p
top_follows r ls m p t start s taken =
    let a = popped_shown r m.heap p t taken.tasks s.holds.shows taken.top in record {
      top = a.top;
      below = a.below;
      tasks = a.tasks;
      same = a.same;
      shown = subst (λ q. ProcessRepresents r ls (with_task a.top nothing_in_hand) q (popped a.below p)) (sym taken.rest)
          (changed r ls nothing_in_hand (with_task a.top nothing_in_hand) m p (popped a.below p) (record m.heap { tasks = taken.tasks }) s (record {
            shows = a.rest;
            counted = λ z j. let b = of_popped p z j a.top a.below a.tasks in let c = s.holds.counted z j in omega (arith, b, c);
          }) refl refl refl);
    }

module _ (r : RawTree) (ls : List Line) (s : Supply) (p : Proc Frame) where
  -- a step does the newest task
  stepped : (u : Task) (below : List Task) (q : Proc Frame) → p.core.halted ≡ None → p.core.tasks ≡ u ∷ below → step_tasks (classes r) s (u ∷ below) p ≡ Some (silent q)
      → step (classes r) s p ≡ Some (silent q)
  stepped u below q h t e = ap (λ k. step_if (classes r) s k p) h ∙ ap (λ us. step_tasks (classes r) s us p) t ∙ e

  by_task : (code : Code) (t : stack.Task) (start n : Process) → p.core.halted ≡ None → start.asked ≡ None → (o : TopOff r ls t start p) → IsEnabled code r start (popped o.below p) t
      → IsDone code t start n → Steps r ls s p n
  by_task code (task.Drop kd k) start n goes none o may done =
      let q = popped o.below p in
      let u = Drop kd k.0 in
      let shown = subst (λ v. ProcessRepresents r ls (with_task v nothing_in_hand) start q) o.same o.shown in record {
        after = _;
        steps = stepped u o.below _ goes (o.tasks ∙ ap (λ v. v ∷ o.below) o.same) refl;
        follows = subst (λ z. Matches r ls nothing_in_hand z (on_core (drop (scanned (classes r) q) kd k.0) q)) (sym done)
            (drop_done r ls start q kd k.0 (as_many_shown r ls (with_task u nothing_in_hand) (λ z j. one z j (side_of kd) k.0) start q (λ z j. omega arith) shown) none may.sound may.sorted may.may);
      }
  by_task code (task.Fire k) start n goes none o may done =
      let q = popped o.below p in
      let u = Fire k.0 in
      let shown = subst (λ v. ProcessRepresents r ls (with_task v nothing_in_hand) start q) o.same o.shown in record {
        after = _;
        steps = stepped u o.below _ goes (o.tasks ∙ ap (λ v. v ∷ o.below) o.same) refl;
        follows = fire_done r ls start q code k.0 n (as_many_shown r ls (with_task u nothing_in_hand) (λ z j. one z j FutureSide k.0) start q (λ z j. omega arith) shown) none may.sound may.sorted
            may.may done;
      }
  by_task code (task.Catch i err) start n goes none o may done =
      let q = popped o.below p in
      let u = Catch i.0 err.0 in
      let shown = subst (λ v. ProcessRepresents r ls (with_task v nothing_in_hand) start q) o.same o.shown in record {
        after = _;
        steps = stepped u o.below _ goes (o.tasks ∙ ap (λ v. v ∷ o.below) o.same) refl;
        follows = subst (λ z. Matches r ls nothing_in_hand z (on_core (handle i.0 err.0) q)) (sym done)
            (shows (catch_done r ls start q nothing_in_hand i err (as_many_shown r ls (with_task u nothing_in_hand) nothing_in_hand start q (λ z j. omega arith) shown) none));
      }
  by_task code (task.Throw i err) start n goes none o may done =
      let q = popped o.below p in
      let u = Throw i.0 err.0 in
      let shown = subst (λ v. ProcessRepresents r ls (with_task v nothing_in_hand) start q) o.same o.shown in
      let e = may.may.0 in
      let f = may.may.1.0 in
      let acts = may.may.1.1.0 in record {
        after = _;
        steps = stepped u o.below _ goes (o.tasks ∙ ap (λ v. v ∷ o.below) o.same) (ap (λ a. Some (throw (classes r) i.0 err.0 a q)) acts.acting);
        follows = shows (throw_done r ls start q nothing_in_hand code i err e f n
            (record { shown = as_many_shown r ls (with_task u nothing_in_hand) nothing_in_hand start q (λ z j. omega arith) shown; acts = acts }) none may.may.1.1.1 done);
      }
  by_task code (task.Close i v) start n goes none o may done =
      let q = popped o.below p in
      let u = Close i.0 (outcome_of v.value) in
      let shown = subst (λ w. ProcessRepresents r ls (with_task w nothing_in_hand) start q) o.same o.shown in
      let may_close = may.may in
      let noted : done.note ≡ may_close.actor.note = let a = done.noted in let b = may_close.actor.noted in cc (a, b) in record {
        after = _;
        steps = stepped u o.below _ goes (o.tasks ∙ ap (λ w. w ∷ o.below) o.same) (ap (λ a. Some (close_actor (classes r) i.0 (outcome_of v.value) a q)) may_close.actor.entered);
        follows = subst (λ z. Matches r ls nothing_in_hand z (proc (close (frames_hold (removed q.actors i.0)) i.0 may_close.actor.entry.result (outcome_of v.value) q.core) (removed q.actors i.0)))
            (sym (done.closes ∙ ap (λ (k : Note). closed i v.value k.result start) noted))
            (actor_closed r ls start q i v.value shown none may.sound may.sorted may_close);
      }
  by_task code (task.Run i) start n goes none o may done = absurd may.may
  by_task code (task.Give i b v) start n goes none o may done = absurd may.may
  by_task code (task.Store i v) start n goes none o may done = absurd may.may
  by_task code (task.Keep i b k) start n goes none o may done = absurd may.may

pub task_follows : (r : RawTree) (ls : List Line) (m : Process) (p : Proc Frame) → law.TaskFollows r ls m p
task_follows r ls m p code s t start n shown none taken may done =
    let o = top_follows r ls m p t start shown taken in
    by_task r ls s p code t start n shown.goes (ap (λ (k : Process). k.asked) taken.rest ∙ none) o (may o.below o.top o.tasks) done
