-- No task goes astray, where no step of an actor does.
use Rattle.std.proofs.Common.{◌≡◌, ℕ, pos, List, [], ◌∷◌, refl, ap, ◌∙◌, subst, arith, ◌+◌}
use Rattle.std.specs.declared.option.Option.TheVariants.{Some, None}
use Rattle.flow_value.specs.declared.value.Value.{Value}
use Rattle.flow_value.specs.declared.value.Outcome.{Outcome}
use Rattle.flow_value.specs.Values.{GoodOutcome}
use Rattle.flow_value.specs.View.{value_of, outcome_of}
use Rattle.flow_class.specs.Classes.{RawTree}
use Rattle.flow_class.specs.Code.{fetch, Nothing}
use Rattle.flow_code.specs.declared.program.Code.{Code}
use Rattle.flow_trace.specs.declared.line.Line.{Line}
use Rattle.flow_meaning.specs.Requests.{Supply}
use Rattle.flow_meaning.specs.Process.{Task, Run, Give, Keep, Entry, Proc}
use Rattle.flow_meaning.specs.Work.{pushed}
use Rattle.flow_meaning.specs.Step.{popped, on_core, kept_by, proc}
use Rattle.flow_meaning.specs.Frame.{Frame}
use Rattle.flow_meaning.proofs.Shifts.{run_of}
use Rattle.flow_heap_refinement.specs.Representing.{wait_spot, spot_of_actor}
use Rattle.flow_heap_refinement.specs.Changes.{SameTask}
use Rattle.flow_heap_refinement.specs.Counted.{nothing_in_hand}
use Rattle.flow_heap_refinement.specs.FrameChanges.{next_callback}
use Rattle.flow_progress.proofs.StepFits.{Actor, actor_here}
use Rattle.flow_steps.specs.declared.frames.ControlPoint.{ControlPoint}
use Rattle.flow_steps.specs.declared.process.Process.{Process}
use Rattle.flow_steps.specs.Points.{IsAtPoint, GoesTo}
use Rattle.flow_steps.specs.Tasks.{TopTaken, BranchAt, bound_over, bound}
use Rattle.flow_operation_refinement.specs.Matching.{ProcessRepresents, with_task}
use Rattle.flow_operation_refinement.specs.Placing.{Acts, RepresentsActor}
use Rattle.flow_operation_refinement.specs.Stepped.{TopOff}
use Rattle.flow_operation_refinement.proofs.Doing.{top_follows}
use Rattle.flow_operation_refinement.proofs.Working.{as_many_shown}
use Rattle.flow_step_refinement.specs.Tasking.{MayGo, is_free, has_operands, MayGet, MayKeepOne}
use Rattle.flow_burst_refinement.specs.Invariants.Invariant.{ProcessInvariant}
use Rattle.flow_burst_refinement.specs.Invariants.Allowed.{BetweenTasks, IsPlain}
use Rattle.flow_burst_refinement.proofs.Invariants.Acting.{acts_at, standing_there}
use Rattle.flow_burst_refinement.specs.Enabled.Tasking.{IsProgram, StateIsNone, InNoWait}
use Rattle.flow_base.specs.declared.ids.ActorId.{ActorId}
use Rattle.flow_base.specs.declared.ids.CellId.{CellId}
use Rattle.flow_numbered.specs.Numbered.{thing}
use Rattle.flow_meaning.specs.Views.{spot_at}
use Rattle.flow_heap_refinement.specs.Holds.{with_refs}
use Rattle.flow_heap_refinement.specs.Rested.{Sorted}
use Rattle.flow_steps.specs.Holding.{value_refs, on_heap}
use Rattle.flow_operation_refinement.proofs.Gone.{appended}
use Rattle.flow_step_refinement.specs.Continuing.{MayStep, chooses, Began, by_value, by_operand}
use Rattle.flow_meaning.specs.References.{Scan, in_task}
use Rattle.flow_code.specs.declared.class.Branch.{Branch}
use Rattle.flow_steps.specs.declared.next.Pace.{Pace}
use Rattle.flow_steps.specs.declared.next.Pace.TheVariants.{On, Off}
use Rattle.flow_steps.specs.Evaluating.{program_time}
use Rattle.flow_steps.specs.Stepping.{OnAfter}
use Rattle.flow_steps.specs.Waiting.{KeepsOperand}
use Rattle.flow_steps.specs.StuckSteps.{RunsStuck, GoesStuck, RunsNowStuck, nowhere, runs_stuck}
use Rattle.flow_steps.specs.StuckTasks.{TaskStuck}
use Rattle.flow_burst_refinement.proofs.Enabled.Tasks.{still_sorted, same_wait, run_allowed, give_allowed, keep_allowed, shown_off}
use Rattle.flow_step_refinement.specs.Resuming.{NoStaleWaits}
use Rattle.flow_machine_progress.proofs.Bursts.Plain.{plain_well}
use Rattle.flow_machine_progress.proofs.Actors.Steps.{step_meant}
use Rattle.flow_machine_progress.specs.Stores.{AllStoreNone, NoPromiseStored}
use Rattle.flow_machine_progress.specs.Bursts.NeverStuck as law
use Rattle.flow_step_refinement.proofs.Gives.{GoesFrom, in_class, free_steps, given_goes, kept_goes}
use Rattle.flow_machine_progress.proofs.Bursts.Begins.{given_found, kept_found}
use Rattle.flow_machine_progress.proofs.Bursts.Stores.{stored_found}
use Rattle.flow_machine_progress.proofs.Bursts.Rows.{runs_sure, goes_sure}
use Rattle.flow_machine_progress.proofs.Bursts.Somewhere.{stands_there}
use Rattle.flow_value.specs.declared.value.Outcome.TheVariants as outcome
use Rattle.flow_cancel.specs.declared.task.Task as stack
use Rattle.flow_cancel.specs.declared.task.Task.TheVariants as task
use Rattle.flow_burst_refinement.proofs.Programs.Goes as goes

module _ (r : RawTree) (code : Code) (program : IsProgram r code) (ls : List Line) (m : Process) (p : Proc Frame) (now : BetweenTasks r ls m p) (poised : NoStaleWaits m.heap)
    (stores_none : NoPromiseStored m.heap)
    (none : m.asked ≡ None) (clock : program_time m.time ≡ pos m.time) where
  -- the world at the time of the process
  abbrev supply : Supply
  supply = record { now = m.time; processes = 0; word = 0 }

  module _ (t : stack.Task) (start : Process) (taken : TopTaken t m start) (o : TopOff r ls t start p) where
    abbrev q : Proc Frame
    q = popped o.below p

    asks_none : start.asked ≡ None
    asks_none = ap (λ (y : Process). y.asked) taken.rest ∙ none

    time : program_time start.time ≡ pos supply.now
    time = ap (λ (y : Process). program_time y.time) taken.rest ∙ clock

    kept_full : (u : Task) → o.top ≡ u → ProcessInvariant r (on_core (pushed u) q)
    kept_full u is =
        subst (λ z. ProcessInvariant r (on_core (pushed z) q)) is (subst (ProcessInvariant r) (ap (λ ts. proc (record p.core { tasks = ts }) p.actors) o.tasks) now.kept)

    sorted : Sorted start.heap
    sorted = still_sorted r code program ls m p now t start taken

    state : InNoWait start.heap t
    state = same_wait r code program ls m p now t start taken (goes.no_wait r code program ls m p now poised t start taken)

    -- where a task began in memory, an actor goes on
    began_sure : (i number : ℕ) (from : Proc Frame) (u : ControlPoint) (n : Process) → ProcessInvariant r from → GoesFrom code r ls nothing_in_hand supply i number from (On u) n → Began start (On u) n
        → RunsStuck code u n → ⊥
    began_sure i number from u n kept g began stuck =
        let after = goes.began_after start (On u) n asks_none began in
        goes_sure r code program ls nothing_in_hand supply (step_meant r code supply ls nothing_in_hand) i number from u n kept g.goes (g.stands u refl) (after.asked ∙ asks_none)
        (ap program_time after.calm.time ∙ time) (goes.calm_sorted start n after.calm sorted) stuck

    -- the next step of an actor
    run_sure : (i : ActorId) → o.top ≡ Run i.0 → StateIsNone start.heap i.0 → RunsNowStuck code i start → ⊥
    run_sure i is zero_state (nowhere none_there) =
        stands_there r program.whole code program.coded start.heap q i.0 a.entry a.frame (acts_at r start.heap q i.0 a.entry a.frame o.shown.holds.shows a.at a.stands there) there none_there
      where
        tops : p.core.tasks ≡ Run i.0 ∷ o.below
        tops = o.tasks ∙ ap (λ u. u ∷ o.below) is

        a : Actor r now.kept.types i.0 (Run i.0) o.below p.core p.actors
        a = actor_here r now.kept.types i.0 (Run i.0) o.below p.core p.actors now.kept.orderly tops (run_of i.0) now.kept.fits

        there : fetch a.frame.code a.frame.block a.frame.instr ≡ Nothing → ⊥
        there = standing_there r now.kept.types a.frame a.doing.1
    run_sure i is zero_state (runs_stuck s stands stuck) = by_may (run_allowed r code program ls m p now t start taken o i.0 is zero_state)
      where
        by_step : (e : Entry) (f : Frame) → Acts r start.heap q i.0 e f → MayStep r ls nothing_in_hand s start q i.0 e f → ⊥
        by_step e f acts may =
            runs_sure r code program ls nothing_in_hand supply (step_meant r code supply ls nothing_in_hand) i.0 s start q e f (kept_full (Run i.0) is) may
            (in_class r ls start q i.0 e f code s acts stands) asks_none time sorted stuck

        by_may : MayGo code r ls start q i.0 → ⊥
        by_may (is_free e f acts zero may) =
            let st : RepresentsActor r ls nothing_in_hand start q i.0 e f = record { shown = shown_off r code program ls m p now t start taken o (λ z j. ap (in_task z j) is); acts = acts } in
            by_step e f acts (free_steps r ls start q i.0 e f nothing_in_hand code st zero may s stands)
        by_may (has_operands e f at) = by_step e f (at s stands).stood.acts (chooses (at s stands))

    -- a branch that was taken
    given_sure : (i : ActorId) (b : ℕ) (v : Outcome) → o.top ≡ Give i.0 b (outcome_of v) → (y : Value) (s u : ControlPoint) (x : Branch) (pace : Pace) (n : Process) → v ≡ outcome.Value y
        → IsAtPoint code.classes.items i start s → BranchAt s b x → GoesTo s x.block 0 u → OnAfter u (bound_over i.0 x.into y start.heap) (on_heap (bound i.0 x.into y) start) pace n
        → GoesStuck code pace n → ⊥
    given_sure i b v is y s u x Off n same stands at to after stuck = stuck
    given_sure i b v is y s u x (On z) n same stands at to after stuck =
        let top : o.top ≡ Give i.0 b (outcome_of (outcome.Value y)) = is ∙ ap (λ c. Give i.0 b (outcome_of c)) same in
        let may : MayGet code r ls start q i.0 b (outcome.Value y) = give_allowed r code program ls m p now t start taken o i.0 b (outcome.Value y) top in
        let shown = subst (λ c. ProcessRepresents r ls (with_task c nothing_in_hand) start q) top o.shown in
        let st : RepresentsActor r ls (with_refs (value_refs y) nothing_in_hand) start q i.0 may.0 may.1.0 = record {
          shown = as_many_shown r ls (with_task (Give i.0 b (GoodOutcome (value_of y))) nothing_in_hand) (with_refs (value_refs y) nothing_in_hand) start q
              (λ c j. let a = appended c j (value_refs y) in omega (arith, a)) shown;
          acts = may.1.1.0;
        } in
        began_sure i.0 may.0.class (on_core (pushed (Give i.0 b (GoodOutcome (value_of y)))) q) z n (kept_full (Give i.0 b (GoodOutcome (value_of y))) top)
        (given_goes r ls start q i.0 may.0 may.1.0 nothing_in_hand code supply b y s u x (On z) n st may.1.1.1 stands at to after) (by_value u _ i.0 x.into y after) stuck

    -- an operand that is kept
    kept_sure : (i : ActorId) (n : ℕ) (k : CellId) → SameTask q (task.Keep i n k) o.top → StateIsNone start.heap i.0 → (y : Process) (s : ControlPoint) (pace : Pace) (z : Process)
        → TopTaken (task.Run i) start y
        → IsAtPoint code.classes.items i y s → KeepsOperand s (record { callback = n; cell = k }) y pace z → GoesStuck code pace z → ⊥
    kept_sure i n k same zero_state y s Off z next stands keeps stuck = stuck
    kept_sure i n k same zero_state y s (On u) z next stands keeps stuck =
        began_sure i.0 may.entry.class (on_core (pushed (Keep i.0 (wait_spot may.frame) (same.0, k.0))) (on_core (pushed (Run i.0)) may.rest)) u z kept
        (kept_goes r ls start may.rest i.0 may.entry may.frame nothing_in_hand code supply may.group same.0 k y s (On u) z st zero_memory asks_none
        (λ s before frames now. may.may same.0 (wait_spot may.frame) s before is_keep frames now) next stands (subst (λ c. KeepsOperand s (record { callback = c; cell = k }) y (On u) z) number keeps))
        (by_operand s _ y i next keeps) stuck
      where
        may : MayKeepOne code r start q i.0 k.0 o.top
        may = keep_allowed r code program ls m p now t start taken o i.0 n k.0 same zero_state

        acting : thing p.actors i.0 ≡ Some may.frame
        acting = ap (λ (c : Proc Frame). thing c.actors i.0) may.next ∙ may.acts.acting

        entered : thing p.core.entries i.0 ≡ Some may.entry
        entered = ap (λ (c : Proc Frame). thing c.core.entries i.0) may.next ∙ may.acts.entered

        spot : spot_of_actor p.actors i.0 ≡ wait_spot may.frame
        spot = ap (spot_at wait_spot) acting

        number : n ≡ next_callback may.entry may.frame
        number = same.1 ∙ ap (λ c. c.first + kept_by (thing p.core.entries i.0)) spot ∙ ap (λ c. (wait_spot may.frame).first + kept_by c) entered

        is_keep : o.top ≡ Keep i.0 (wait_spot may.frame) (same.0, k.0)
        is_keep = same.2 ∙ ap (λ c. Keep i.0 c (same.0, k.0)) spot

        kept : ProcessInvariant r (on_core (pushed (Keep i.0 (wait_spot may.frame) (same.0, k.0))) (on_core (pushed (Run i.0)) may.rest))
        kept = subst (λ c. ProcessInvariant r (on_core (pushed (Keep i.0 (wait_spot may.frame) (same.0, k.0))) c)) may.next (kept_full (Keep i.0 (wait_spot may.frame) (same.0, k.0)) is_keep)

        hand : Scan
        hand = with_refs ((same.0, k.0) ∷ []) nothing_in_hand

        st : RepresentsActor r ls hand start (on_core (pushed (Run i.0)) may.rest) i.0 may.entry may.frame
        st = record {
          shown = subst (λ c. ProcessRepresents r ls hand start c) may.next
              (as_many_shown r ls (with_task (Keep i.0 (wait_spot may.frame) (same.0, k.0)) nothing_in_hand) hand start q (λ c j. omega arith)
              (subst (λ c. ProcessRepresents r ls (with_task c nothing_in_hand) start q) is_keep o.shown));
          acts = may.acts;
        }

        zero_memory : st.acts.memory.state ≡ 0
        zero_memory = may.state

  -- any task
  pub any_task_sure : (t : stack.Task) (start : Process) → TopTaken t m start → TaskStuck code t start → ⊥
  any_task_sure t start taken stuck = by_task t taken (top_follows r ls m p t start now.shown taken) (state_of t taken) stuck
    where
      state_of : (t : stack.Task) (taken : TopTaken t m start) → InNoWait start.heap t
      state_of t taken = state t start taken (top_follows r ls m p t start now.shown taken)

      plainly : (t : stack.Task) → IsPlain t → TopTaken t m start → TaskStuck code t start → ⊥
      plainly t is taken stuck =
          plain_well r code ls m start p t program now taken is stuck

      by_task : (t : stack.Task) → TopTaken t m start → TopOff r ls t start p → InNoWait start.heap t → TaskStuck code t start → ⊥
      by_task (task.Run i) taken o zero_state stuck = run_sure (task.Run i) start taken o i o.same zero_state stuck
      by_task (task.Give i b v) taken o zero_state stuck =
          given_found r code program ls m p now (task.Give i b v) start taken o i b v.value o.same (given_sure (task.Give i b v) start taken o i b v.value o.same) stuck
      by_task (task.Store i v) taken o zero_state stuck = stored_found r code program ls m p now (task.Store i v) start taken o i v.value o.same (subst AllStoreNone taken.top stores_none).0 stuck
      by_task (task.Keep i n k) taken o zero_state stuck =
          kept_found r code program ls m p now (task.Keep i n k) start taken o i n k o.same zero_state (kept_sure (task.Keep i n k) start taken o i n k o.same zero_state) stuck
      by_task (task.Drop kd j) taken o zero_state stuck = plainly (task.Drop kd j) tt taken stuck
      by_task (task.Fire j) taken o zero_state stuck = plainly (task.Fire j) tt taken stuck
      by_task (task.Throw i e) taken o zero_state stuck = plainly (task.Throw i e) tt taken stuck
      by_task (task.Catch i e) taken o zero_state stuck = plainly (task.Catch i e) tt taken stuck
      by_task (task.Close i v) taken o zero_state stuck = plainly (task.Close i v) tt taken stuck

pub task_sure : law.TaskNeverStuck
task_sure r code ls m start p t program now poised stores_none none clock taken stuck = any_task_sure r code program ls m p now poised stores_none none clock t start taken stuck
