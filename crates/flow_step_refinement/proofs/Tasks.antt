-- Each task, done in memory, is a row of steps of the class machine, or its actor takes its steps.
use Rattle.std.proofs.Common.{◌≡◌, ℕ, ◌+◌, List, [], ◌∷◌, sym, ap, ◌∙◌, subst, arith}
use Rattle.std.specs.declared.option.Option.TheVariants.{None, Some}
use Rattle.flow_base.specs.declared.ids.ActorId.{ActorId}
use Rattle.flow_base.specs.declared.ids.CellId.{CellId}
use Rattle.flow_value.specs.declared.value.Value.{Value}
use Rattle.flow_value.specs.declared.value.Kind.{Kind}
use Rattle.flow_value.specs.declared.value.Outcome.{Outcome}
use Rattle.flow_value.specs.declared.value.Outcome.TheVariants as outcome
use Rattle.flow_value.specs.Values.{GoodOutcome, BadOutcome}
use Rattle.flow_value.specs.View.{value_of, outcome_of}
use Rattle.flow_class.specs.Classes.{RawTree}
use Rattle.flow_code.specs.declared.program.Code.{Code}
use Rattle.flow_trace.specs.declared.line.Line.{Line}
use Rattle.flow_cancel.specs.declared.task.Task as stack
use Rattle.flow_cancel.specs.declared.task.Task.TheVariants as task
use Rattle.flow_numbered.specs.Numbered.{thing}
use Rattle.flow_meaning.specs.Requests.{Supply}
use Rattle.flow_meaning.specs.Process.{Task, Run, Give, Store, Keep, Entry, Proc}
use Rattle.flow_meaning.specs.Work.{pushed}
use Rattle.flow_meaning.specs.Step.{kept_by, popped, proc, on_core}
use Rattle.flow_meaning.specs.Views.{spot_at}
use Rattle.flow_meaning.specs.Frame.{Frame}
use Rattle.flow_heap_refinement.specs.Representing.{spot_of_actor, wait_spot}
use Rattle.flow_heap_refinement.specs.Changes.{SameTask}
use Rattle.flow_heap_refinement.specs.Counted.{nothing_in_hand}
use Rattle.flow_heap_refinement.specs.FrameChanges.{next_callback}
use Rattle.flow_heap_refinement.specs.Holds.{with_refs}
use Rattle.flow_steps.specs.declared.process.Process.{Process}
use Rattle.flow_steps.specs.Holding.{value_refs}
use Rattle.flow_steps.specs.Tasks.{Given, Stored, TopTaken, IsKept, IsDone}
use Rattle.flow_operation_refinement.specs.Matching.{ProcessRepresents, with_task}
use Rattle.flow_operation_refinement.specs.Placing.{Acts, RepresentsActor}
use Rattle.flow_operation_refinement.specs.Stepped.{OnlyTells, TopOff, IsEnabled}
use Rattle.flow_operation_refinement.proofs.Working.{as_many_shown}
use Rattle.flow_operation_refinement.proofs.Gone.{appended}
use Rattle.flow_operation_refinement.proofs.Doing as stepped
use Rattle.flow_operation_refinement.proofs.Doing.{top_follows}
use Rattle.flow_step_refinement.specs.Continuing.{GoesFurther}
use Rattle.flow_step_refinement.specs.Giving.{MayStore, TaskSteps}
use Rattle.flow_step_refinement.specs.Tasking as law
use Rattle.flow_step_refinement.specs.Tasking.{TaskGoes, is_step, goes_further, runs, MayGo, is_free, has_operands, MayGet, MayKeepOne, MayBeDone}
use Rattle.flow_step_refinement.proofs.Gives.{run_begins, run_at_wait, give_goes, give_throws, store_done, keep_goes}
use Rattle.flow_step_refinement.proofs.Telling.{quiet, throw_told, catch_told, fire_told, drop_told, close_told, store_told}

module _ (r : RawTree) (ls : List Line) (p : Proc Frame) (code : Code) (w : Supply) (start n : Process) where
  -- the process with its newest task
  whole : (u : Task) (below : List Task) → p.core.tasks ≡ u ∷ below → on_core (pushed u) (popped below p) ≡ p
  whole u below h = ap (λ ts. proc (record p.core { tasks = ts }) p.actors) (sym h)

  from_step : (u : Task) (below : List Task) → p.core.tasks ≡ u ∷ below → TaskSteps r ls nothing_in_hand w (on_core (pushed u) (popped below p)) n → OnlyTells n.asked → TaskGoes code r ls w p start n
  from_step u below h s told =
      let t = subst (λ q. TaskSteps r ls nothing_in_hand w q n) (whole u below h) s in is_step (record { after = t.after; steps = t.steps; follows = t.follows }) told

  from_row : (i k : ℕ) (u : Task) (below : List Task) → p.core.tasks ≡ u ∷ below → GoesFurther code r ls nothing_in_hand w i k (on_core (pushed u) (popped below p)) start n
      → TaskGoes code r ls w p start n
  from_row i k u below h g = goes_further i k (subst (λ q. GoesFurther code r ls nothing_in_hand w i k q start n) (whole u below h) g)

  -- the actor takes its steps
  run_follows : (i : ActorId) (below : List Task) → p.core.tasks ≡ Run i.0 ∷ below → ProcessRepresents r ls (with_task (Run i.0) nothing_in_hand) start (popped below p)
      → MayGo code r ls start (popped below p) i.0
      → IsDone code (task.Run i) start n → TaskGoes code r ls w p start n
  run_follows i below h shown (is_free e f acts zero_state may) is =
      let q : Proc Frame = popped below p in
      let st : RepresentsActor r ls nothing_in_hand start q i.0 e f = record {
        shown = as_many_shown r ls (with_task (Run i.0) nothing_in_hand) nothing_in_hand start q (λ z j. omega arith) shown;
        acts = acts;
      } in
      let a = run_begins r ls start q i.0 e f nothing_in_hand code n st zero_state may is in
      runs i.0 q e f (sym (whole (Run i.0) below h)) a
  run_follows i below h shown (has_operands e f at) is =
      let q : Proc Frame = popped below p in
      let a = run_at_wait r ls start q i.0 e f nothing_in_hand code n at is in
      runs i.0 q e f (sym (whole (Run i.0) below h)) a

  -- a branch gets what it took
  give_follows : (i : ActorId) (b : ℕ) (o : Outcome) (below : List Task) → p.core.tasks ≡ Give i.0 b (outcome_of o) ∷ below
      → ProcessRepresents r ls (with_task (Give i.0 b (outcome_of o)) nothing_in_hand) start (popped below p) → MayGet code r ls start (popped below p) i.0 b o
      → start.asked ≡ None → Given code i b o start n → TaskGoes code r ls w p start n
  give_follows i b (outcome.Value v) below h shown may none is =
      let q : Proc Frame = popped below p in
      let u = Give i.0 b (GoodOutcome (value_of v)) in
      let st : RepresentsActor r ls (with_refs (value_refs v) nothing_in_hand) start q i.0 may.0 may.1.0 = record {
        shown = as_many_shown r ls (with_task u nothing_in_hand) (with_refs (value_refs v) nothing_in_hand) start q (λ z j. let a = appended z j (value_refs v) in omega (arith, a)) shown;
        acts = may.1.1.0;
      } in
      from_row i.0 may.0.class u below h (give_goes r ls start q i.0 may.0 may.1.0 nothing_in_hand code w b v n st none may.1.1.1 is)
  give_follows i b (outcome.Error err) below h shown may none is =
      let q : Proc Frame = popped below p in
      let u = Give i.0 b (BadOutcome err.0) in
      let st : RepresentsActor r ls nothing_in_hand start q i.0 may.0 may.1.0 = record {
        shown = as_many_shown r ls (with_task u nothing_in_hand) nothing_in_hand start q (λ z j. omega arith) shown;
        acts = may.1.1;
      } in
      from_step u below h (subst (λ z. TaskSteps r ls nothing_in_hand w (on_core (pushed u) q) z) (sym is) (give_throws r ls start q i.0 may.0 may.1.0 nothing_in_hand w b err st))
      (quiet n (ap (λ (y : Process). y.asked) is ∙ none))

  -- an operand is kept
  keep_follows : (i : ActorId) (m k : ℕ) (kd : Kind) (below : List Task) (u : Task) → p.core.tasks ≡ u ∷ below → (may : MayKeepOne code r start (popped below p) i.0 k u)
      → u ≡ Keep i.0 (wait_spot may.frame) (kd, k) → m ≡ next_callback may.entry may.frame → ProcessRepresents r ls (with_task u nothing_in_hand) start (popped below p) → start.asked ≡ None
      → IsKept code i (record { callback = m; cell = record { 0 = k } }) start n → TaskGoes code r ls w p start n
  keep_follows i m k kd below u h may is_keep number shown none is =
      let q : Proc Frame = popped below p in
      let ran : Proc Frame = on_core (pushed (Run i.0)) may.rest in
      let v = Keep i.0 (wait_spot may.frame) (kd, k) in
      let hand = with_refs ((kd, k) ∷ []) nothing_in_hand in
      let shown_keep = subst (λ y. ProcessRepresents r ls (with_task y nothing_in_hand) start q) is_keep shown in
      let st : RepresentsActor r ls hand start ran i.0 may.entry may.frame = record {
        shown = subst (λ y. ProcessRepresents r ls hand start y) may.next (as_many_shown r ls (with_task v nothing_in_hand) hand start q (λ z j. omega arith) shown_keep);
        acts = may.acts;
      } in
      let kept = subst (λ y. IsKept code i (record { callback = y; cell = record { 0 = k } }) start n) number is in
      let goes = keep_goes r ls start may.rest i.0 may.entry may.frame nothing_in_hand code w may.group kd (record { 0 = k }) n st may.state none
      (λ s before same now. may.may kd (wait_spot may.frame) s before is_keep same now) kept in
      from_row i.0 may.entry.class u below h
      (subst (λ y. GoesFurther code r ls nothing_in_hand w i.0 may.entry.class (on_core (pushed y) q) start n) (sym is_keep)
      (subst (λ y. GoesFurther code r ls nothing_in_hand w i.0 may.entry.class (on_core (pushed v) y) start n) (sym may.next) goes))

  keep_task : (i : ActorId) (m : ℕ) (k : CellId) (below : List Task) (u : Task) → p.core.tasks ≡ u ∷ below → SameTask p (task.Keep i m k) u → MayKeepOne code r start (popped below p) i.0 k.0 u
      → ProcessRepresents r ls (with_task u nothing_in_hand) start (popped below p) → start.asked ≡ None → IsKept code i (record { callback = m; cell = k }) start n → TaskGoes code r ls w p start n
  keep_task i m k below u h same may shown none is =
      let acting : thing p.actors i.0 ≡ Some may.frame = ap (λ (y : Proc Frame). thing y.actors i.0) may.next ∙ may.acts.acting in
      let entered : thing p.core.entries i.0 ≡ Some may.entry = ap (λ (y : Proc Frame). thing y.core.entries i.0) may.next ∙ may.acts.entered in
      let spot : spot_of_actor p.actors i.0 ≡ wait_spot may.frame = ap (spot_at wait_spot) acting in
      let number : m ≡ next_callback may.entry may.frame =
      same.1 ∙ ap (λ y. y.first + kept_by (thing p.core.entries i.0)) spot ∙ ap (λ o. (wait_spot may.frame).first + kept_by o) entered in
      keep_follows i m k.0 same.0 below u h may (same.2 ∙ ap (λ y. Keep i.0 y (same.0, k.0)) spot) number shown none is

  -- the result of an effect is stored
  store_follows : (i : ActorId) (v : Value) (below : List Task) → p.core.tasks ≡ Store i.0 (value_of v) ∷ below
      → ProcessRepresents r ls (with_task (Store i.0 (value_of v)) nothing_in_hand) start (popped below p)
      → (may : (e : Entry) × ((f : Frame) × (Acts r start.heap (popped below p) i.0 e f × MayStore code r start (popped below p) i.0 (value_of v) e f))) → start.asked ≡ None → Stored code i v start n
      → TaskGoes code r ls w p start n
  store_follows i v below h shown may none is =
      let q : Proc Frame = popped below p in
      let u = Store i.0 (value_of v) in
      let st : RepresentsActor r ls (with_refs (value_refs v) nothing_in_hand) start q i.0 may.0 may.1.0 = record {
        shown = as_many_shown r ls (with_task u nothing_in_hand) (with_refs (value_refs v) nothing_in_hand) start q (λ z j. omega arith) shown;
        acts = may.1.1.0;
      } in
      from_step u below h (store_done r ls start q i.0 may.0 may.1.0 nothing_in_hand code w v n st may.1.1.1 is) (store_told code i v start n none is)

module _ (r : RawTree) (ls : List Line) (m : Process) (p : Proc Frame) where
  -- the tasks that need no step of an actor
  other : (code : Code) (w : Supply) (t : stack.Task) (start n : Process) → ProcessRepresents r ls nothing_in_hand m p → m.asked ≡ None → TopTaken t m start
      → ((below : List Task) (u : Task) → p.core.tasks ≡ u ∷ below → IsEnabled code r start (popped below p) t) → IsDone code t start n → OnlyTells n.asked → TaskGoes code r ls w p start n
  other code w t start n shown none taken may done told = is_step (stepped.task_follows r ls m p code w t start n shown none taken may done) told

  pub task_follows : law.TaskFollows r ls m p
  task_follows code w t start n shown none taken may done = by_task t taken (top_follows r ls m p t start shown taken) may done
    where
      asks_none : (t : stack.Task) → TopTaken t m start → start.asked ≡ None
      asks_none t taken = ap (λ (y : Process). y.asked) taken.rest ∙ none

      by_task : (t : stack.Task) → TopTaken t m start → TopOff r ls t start p → ((below : List Task) (u : Task) → p.core.tasks ≡ u ∷ below → MayBeDone code r ls start (popped below p) t u)
          → IsDone code t start n → TaskGoes code r ls w p start n
      by_task (task.Run i) taken o may done =
          let tasks = o.tasks ∙ ap (λ y. y ∷ o.below) o.same in
          run_follows r ls p code w start n i o.below tasks (subst (λ y. ProcessRepresents r ls (with_task y nothing_in_hand) start (popped o.below p)) o.same o.shown)
          (may o.below o.top o.tasks).may done
      by_task (task.Give i b v) taken o may done =
          let tasks = o.tasks ∙ ap (λ y. y ∷ o.below) o.same in
          give_follows r ls p code w start n i b v.value o.below tasks (subst (λ y. ProcessRepresents r ls (with_task y nothing_in_hand) start (popped o.below p)) o.same o.shown)
          (may o.below o.top o.tasks).may (asks_none (task.Give i b v) taken) done
      by_task (task.Store i v) taken o may done =
          let tasks = o.tasks ∙ ap (λ y. y ∷ o.below) o.same in
          store_follows r ls p code w start n i v.value o.below tasks (subst (λ y. ProcessRepresents r ls (with_task y nothing_in_hand) start (popped o.below p)) o.same o.shown)
          (may o.below o.top o.tasks).may (asks_none (task.Store i v) taken) done
      by_task (task.Keep i b k) taken o may done =
          keep_task r ls p code w start n i b k o.below o.top o.tasks o.same (may o.below o.top o.tasks).may o.shown (asks_none (task.Keep i b k) taken) done
      by_task (task.Throw i err) taken o may done =
          other code w (task.Throw i err) start n shown none taken (λ below u h. let a = may below u h in record { sound = a.sound; sorted = a.sorted; may = a.may }) done
          (throw_told code i err start n done)
      by_task (task.Catch i err) taken o may done =
          other code w (task.Catch i err) start n shown none taken (λ below u h. let a = may below u h in record { sound = a.sound; sorted = a.sorted; may = a.may }) done
          (catch_told code i err start n done)
      by_task (task.Fire k) taken o may done =
          other code w (task.Fire k) start n shown none taken (λ below u h. let a = may below u h in record { sound = a.sound; sorted = a.sorted; may = a.may }) done
          (fire_told code k start n (asks_none (task.Fire k) taken) done)
      by_task (task.Drop kd k) taken o may done =
          other code w (task.Drop kd k) start n shown none taken (λ below u h. let a = may below u h in record { sound = a.sound; sorted = a.sorted; may = a.may }) done
          (drop_told code kd k start n (asks_none (task.Drop kd k) taken) done)
      by_task (task.Close i v) taken o may done =
          other code w (task.Close i v) start n shown none taken (λ below u h. let a = may below u h in record { sound = a.sound; sorted = a.sorted; may = a.may }) done
          (close_told code i v start n (asks_none (task.Close i v) taken) done)
