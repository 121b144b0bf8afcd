-- A step of an actor in memory by which it decides where it goes on is a step of the class machine.
use Rattle.std.proofs.Common.{◌≡◌, ◌⊎◌, inl, inr, ℕ, Bool, true, false, List, ◌∷◌, refl, sym, ap, ◌∙◌, subst, arith}
use Rattle.std.specs.declared.option.Option.{Option}
use Rattle.std.specs.declared.option.Option.TheVariants.{None, Some}
use Rattle.flow_base.specs.declared.ids.ActorId.{ActorId}
use Rattle.flow_value.specs.declared.value.Outcome.TheVariants as outcome
use Rattle.flow_value.specs.declared.value.Value.{Value}
use Rattle.flow_value.specs.Values.{ValueTree, BoolValue, GoodOutcome}
use Rattle.flow_value.specs.View.{value_of}
use Rattle.flow_eval.specs.Answers.{truth, bool_of}
use Rattle.flow_eval.specs.Eval.{Res, Done, Fails, Spent, Meaningless, at_once, truth_of}
use Rattle.flow_class.specs.Classes.{RawTree}
use Rattle.flow_trace.specs.declared.line.Line.{Line}
use Rattle.flow_cancel.specs.Heap.{pushed}
use Rattle.flow_numbered.specs.Numbered.{put}
use Rattle.flow_meaning.specs.Requests.{Returns, Supply}
use Rattle.flow_meaning.specs.Evaluating.{StepOf, evaluated, asks}
use Rattle.flow_meaning.specs.Process.{Close, Entry, Core, Proc}
use Rattle.flow_meaning.specs.References.{Scan, refs_in}
use Rattle.flow_meaning.specs.Work as work
use Rattle.flow_meaning.specs.Step.{view, proc, on_core}
use Rattle.flow_meaning.specs.Class.{test, fetched, next_step, class_names}
use Rattle.flow_meaning.specs.Frame.{Frame, everything, over}
use Rattle.flow_heap_refinement.specs.Changes.{SameTask}
use Rattle.flow_heap_refinement.specs.Acting.{Free}
use Rattle.flow_heap_refinement.specs.Holds.{with_refs, AllThere, hold_all}
use Rattle.flow_steps.specs.declared.frames.ControlPoint.{ControlPoint}
use Rattle.flow_steps.specs.declared.next.Pace.{Pace}
use Rattle.flow_steps.specs.declared.process.Process.{Process}
use Rattle.flow_steps.specs.Holding.{on_heap, value_refs}
use Rattle.flow_steps.specs.Points.{noted, lost_from}
use Rattle.flow_steps.specs.Evaluating.{with_left}
use Rattle.flow_steps.specs.Stepping.{truth_value, IsTest, IsReturn}
use Rattle.flow_operation_refinement.specs.Matching.{ProcessRepresents, shows, with_task}
use Rattle.flow_operation_refinement.specs.Placing.{RepresentsActor, with_memory, nothing_in}
use Rattle.flow_operation_refinement.specs.Continuing.{MayBeStale}
use Rattle.flow_operation_refinement.specs.Carried.{StepsAs}
use Rattle.flow_operation_refinement.specs.Evaluated.{GivesValue}
use Rattle.flow_operation_refinement.proofs.Working.{as_many_shown, task_done}
use Rattle.flow_operation_refinement.proofs.Brought.{all_there_by}
use Rattle.flow_operation_refinement.proofs.Lost.{put_over}
use Rattle.flow_operation_refinement.proofs.Emptied.{all_lost}
use Rattle.flow_operation_refinement.proofs.Parting.{acts_by, no_keep_under}
use Rattle.flow_operation_refinement.proofs.Moving.{is_over_shown}
use Rattle.flow_operation_refinement.proofs.Gone.{appended}
use Rattle.flow_operation_refinement.proofs.Thrown.{close_same}
use Rattle.flow_operation_refinement.proofs.Carrying.{noted_follows, asked}
use Rattle.flow_operation_refinement.proofs.Evaluations.{evaluation_follows}
use Rattle.flow_step_refinement.specs.Deciding as law
use Rattle.flow_step_refinement.proofs.Onward.{awake_without, stale_left, stale_held, enters}

module _ (r : RawTree) (ls : List Line) (m : Process) (p : Proc Frame) (i : ℕ) (e : Entry) (f : Frame) where
  -- what a test comes to, by the value or by its truth
  abbrev by_value : Supply → (one other : ℕ) → ValueTree → ℕ → StepOf Frame
  by_value w one other u left = test (class_names r) (view w i p.core) f left (bool_of u) one other

  tested : (w : Supply) (one other : ℕ) (c : Res ValueTree) → evaluated f c (by_value w one other) ≡ evaluated f (truth_of c) (by_value w one other)
  tested w one other (Done v left) = by_truth (bool_of v)
    where
      by_truth : (o : Option Bool) → test (class_names r) (view w i p.core) f left o one other ≡ evaluated f (at_once (truth o) left) (by_value w one other)
      by_truth None = refl
      by_truth (Some true) = refl
      by_truth (Some false) = refl
  tested w one other (Fails k left) = refl
  tested w one other Spent = refl
  tested w one other Meaningless = refl

  pub test_step : law.TestStep r ls m p i e f
  test_step x s w t one other comes_to pace n st there same evaluates =
      by_case (evaluation_follows r ls m p i e f x s w truth_value (truth_of comes_to) (by_value w one other) (IsTest s one other) pace n st next evaluates)
    where
      next : next_step (class_names r) (view w i p.core) f ≡ evaluated f (truth_of comes_to) (by_value w one other)
      next =
          ap (fetched (class_names r) (view w i p.core) f) there
          ∙ ap (λ k. evaluated f k (by_value w one other)) (sym same)
          ∙ tested w one other comes_to

      entered : (b : Bool) (left : ℕ) → truth_of comes_to ≡ Done (BoolValue b) left → IsTest s one other b (with_left left m) pace n → StepsAs r ls x w p i e pace n
      entered true left done goes = enters r ls m p i e f x s st w left one pace n (next ∙ ap (λ k. evaluated f k (by_value w one other)) done) goes
      entered false left done goes = enters r ls m p i e f x s st w left other pace n (next ∙ ap (λ k. evaluated f k (by_value w one other)) done) goes

      by_case : GivesValue truth_value (truth_of comes_to) m (IsTest s one other) pace n ⊎ StepsAs r ls x w p i e pace n → StepsAs r ls x w p i e pace n
      by_case (inl g) = entered g.value g.left g.done g.goes
      by_case (inr a) = a

  -- everything leaves the variables of an actor and is dropped before it is closed with a value
  closes : (x : Scan) (s : ControlPoint) (w : Supply) (v : Value) (left : ℕ) (pace : Pace) (n : Process) → MayBeStale r ls x s m p i e f
      → next_step (class_names r) (view w i p.core) f ≡ asks left (Returns (value_of v) (everything f.mem)) over → AllThere p (value_refs v)
      → IsReturn s v (with_left left m) pace n → StepsAs r ls x w p i e pace n
  closes x s w v left pace n st next there is =
      let q : Proc Frame = on_core (λ c. record c { left = left }) p in
      let m1 : Process = with_left left m in
      let st1 = stale_left r ls m p i e f x s st left in
      let qs = value_refs v in
      let m2 : Process = on_heap (hold_all qs) m1 in
      let st2 = stale_held r ls m1 q i e f x s st1 qs (all_there_by p q qs refl there) in
      let m3 : Process = noted s m2 in
      let st3 = noted_follows r ls m2 q i e f (with_refs qs x) s st2 in
      let u = Close i (GoodOutcome (value_of v)) in
      let actor = st.standing.actor in
      let same = subst (λ (a : ActorId). SameTask q is.task (Close a.0 (GoodOutcome (value_of v)))) actor (close_same q s.actor (outcome.Value v) is.task is.closes) in
      let q4 : Proc Frame = on_core (work.pushed u) q in
      let m4 : Process = on_heap (pushed is.task) m3 in
      let st4 : RepresentsActor r ls x m4 q4 i e f = record {
        shown = task_done r ls x m3 q is.task u (as_many_shown r ls (with_refs qs x) (with_task u x) m3 q (λ z j. let a = appended z j qs in omega (arith, a)) st3.shown) same;
        acts = acts_by r m3.heap m4.heap q q4 i e f refl refl refl refl st3.acts;
      } in
      let lost = all_lost r ls m4 q4 i e f x st4 in
      let m5 : Process = on_heap (lost_from i 0) m4 in
      let none : Frame = with_memory (nothing_in f.mem) f in
      let c5 : Core = work.dropping_values (everything f.mem) q4.core in
      let q5 : Proc Frame = proc c5 (put p.actors i none) in
      let awake = awake_without r lost.acts.memory e none lost.acts.stands st.operands in
      let free : Free i c5 = record { waits = st.free.waits; keeps = no_keep_under i (refs_in (everything f.mem)) (u ∷ p.core.tasks) st.free.keeps } in
      let gone = is_over_shown r ls x m5 q5 i e f lost st.operands awake free in
      let over_there = subst (λ xs. ProcessRepresents r ls x m5 (proc c5 xs)) (put_over p.actors i none over) gone in
      subst (λ y. StepsAs r ls x w p i e y n) (sym is.off) (record {
        after = proc c5 (put p.actors i over);
        steps = asked r ls m p i e f w (asks left (Returns (value_of v) (everything f.mem)) over) st.stood.shown.goes st.acting next;
        carries = shows
            (subst (λ z. ProcessRepresents r ls x z (proc c5 (put p.actors i over))) (sym is.ends)
            (subst (λ (a : ActorId). ProcessRepresents r ls x (on_heap (λ h. lost_from a.0 0 (pushed is.task h)) m3) (proc c5 (put p.actors i over))) (sym actor) over_there));
      })

  abbrev ends_with : ValueTree → ℕ → StepOf Frame
  ends_with u left = asks left (Returns u (everything f.mem)) over

  pub return_step : law.ReturnStep r ls m p i e f
  return_step x s w t comes_to pace n st there same gives evaluates =
      by_case (evaluation_follows r ls m p i e f x s w value_of comes_to ends_with (IsReturn s) pace n st next evaluates)
    where
      next : next_step (class_names r) (view w i p.core) f ≡ evaluated f comes_to ends_with
      next = ap (fetched (class_names r) (view w i p.core) f) there ∙ ap (λ k. evaluated f k ends_with) (sym same)

      by_case : GivesValue value_of comes_to m (IsReturn s) pace n ⊎ StepsAs r ls x w p i e pace n → StepsAs r ls x w p i e pace n
      by_case (inl g) =
          closes x s w g.value g.left pace n st (next ∙ ap (λ k. evaluated f k ends_with) g.done) (gives (value_of g.value) g.left g.done) g.goes
      by_case (inr a) = a
