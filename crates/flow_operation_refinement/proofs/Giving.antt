-- The result of an effect goes where it belongs, as the definitions have it.
use Rattle.std.proofs.Common.{◌≡◌, ℕ, ◌+◌, List, [], ◌∷◌, refl, sym, ap, ◌∙◌, subst, arith}
use Rattle.flow_base.specs.declared.ids.ActorId.{ActorId}
use Rattle.flow_value.specs.declared.value.Value.{Value}
use Rattle.flow_value.specs.Values.{refs_of}
use Rattle.flow_value.specs.View.{value_of}
use Rattle.flow_class.specs.Classes.{RawTree}
use Rattle.flow_trace.specs.declared.line.Line.{Line}
use Rattle.flow_cancel.specs.declared.task.Task as stack
use Rattle.flow_cancel.specs.declared.task.Task.TheVariants as task
use Rattle.flow_meaning.specs.Requests as asks
use Rattle.flow_meaning.specs.Cells.{Side, Ref}
use Rattle.flow_meaning.specs.Process.{Task, Run, Store, Keep, Proc}
use Rattle.flow_meaning.specs.References.{Scan, count, in_task}
use Rattle.flow_meaning.specs.Work.{pushed}
use Rattle.flow_meaning.specs.Effects.{gives}
use Rattle.flow_numbered.specs.Numbered.{thing}
use Rattle.flow_meaning.specs.Step.{kept_by, on_core}
use Rattle.flow_meaning.specs.Frame.{Frame}
use Rattle.flow_heap_refinement.specs.Representing.{spot_of_actor}
use Rattle.flow_heap_refinement.specs.Changes.{SameTask}
use Rattle.flow_heap_refinement.specs.Holds.{AllThere, given}
use Rattle.flow_heap_refinement.proofs.Holds.{given_holds}
use Rattle.flow_steps.specs.declared.call.Goal.{Goal}
use Rattle.flow_steps.specs.declared.call.Goal.TheVariants as goal
use Rattle.flow_steps.specs.declared.process.Process.{Process}
use Rattle.flow_steps.specs.Holding.{on_heap, value_refs, IsGiving}
use Rattle.flow_operation_refinement.specs.Matching.{ProcessRepresents}
use Rattle.flow_operation_refinement.specs.Working as law
use Rattle.flow_operation_refinement.specs.Working.{SameGoal}
use Rattle.flow_operation_refinement.proofs.Working.{changed}

module _ (r : RawTree) (ls : List Line) (x : Scan) (m : Process) (p : Proc Frame) where
  by_one : (i : ℕ) (t : stack.Task) (u : Task) (qs : List Ref) → ProcessRepresents r ls x m p → AllThere p qs → SameTask p t u → ((s : Side) (j : ℕ) → in_task s j u ≡ count s j qs)
      → ProcessRepresents r ls x (on_heap (given i t qs) m) (on_core (λ c. pushed u (pushed (Run i) c)) p)
  by_one i t u qs s there same n =
      changed r ls x x m p (on_core (λ c. pushed u (pushed (Run i) c)) p) (given i t qs m.heap) s (given_holds r m.heap p x i t u qs s.holds there same n) refl refl refl

  by_task : (g : Goal) (h : asks.Goal) (i : ActorId) (v : Value) (t : stack.Task) → ProcessRepresents r ls x m p → AllThere p (value_refs v) → SameGoal p i.0 g h → IsGiving g i v t
      → ProcessRepresents r ls x (on_heap (given i.0 t (value_refs v)) m) (on_core (gives i.0 h (value_of v)) p)
  by_task goal.Stored asks.Stored i v (task.Store j b) s there same is =
      by_one i.0 (task.Store j b) (Store i.0 (value_of v)) (value_refs v) s there (ap (λ (k : ActorId). Store k.0 (value_of v)) (sym is.0) ∙ ap (λ w. Store j.0 (value_of w)) (sym is.1)) (λ s j. refl)
  by_task (goal.Kept n) (asks.Kept spot) i v (task.Keep j q k) s there same is =
      subst (λ w. ProcessRepresents r ls x (on_heap (given i.0 (task.Keep j q k) (value_refs v)) m) (on_core (gives i.0 (asks.Kept spot) w) p)) (sym is.3)
      (by_one i.0 (task.Keep j q k) (Keep i.0 spot (is.2, k.0)) (value_refs v) s there keeps (λ s j. one_of s j ∙ sym (ap (λ w. count s j (refs_of w)) is.3)))
    where
      keeps : SameTask p (task.Keep j q k) (Keep i.0 spot (is.2, k.0))
      keeps =
          let i_is : j.0 ≡ i.0 = ap (λ (k : ActorId). k.0) is.0 in (
            is.2,
            is.1 ∙ same.1 ∙ ap (λ sp. sp.first + kept_by (thing p.core.entries i.0)) same.0 ∙ ap (λ k. (spot_of_actor p.actors k).first + kept_by (thing p.core.entries k)) (sym i_is),
            ap (λ sp. Keep i.0 sp (is.2, k.0)) same.0 ∙ ap (λ a. Keep a (spot_of_actor p.actors a) (is.2, k.0)) (sym i_is),
          )

      one_of : (s : Side) (j : ℕ) → in_task s j (Keep i.0 spot (is.2, k.0)) ≡ count s j ((is.2, k.0) ∷ [])
      one_of s j = omega arith
  by_task goal.Stored asks.Stored i v t s there same is = absurd is
  by_task goal.Stored (asks.Kept spot) i v t s there same is = absurd same
  by_task (goal.Kept n) asks.Stored i v t s there same is = absurd same
  by_task (goal.Kept n) (asks.Kept spot) i v t s there same is = absurd is

  pub result_given : law.ResultGiven r ls x m p
  result_given g h i v n s there same gs =
      subst (λ q. ProcessRepresents r ls x q (on_core (gives i.0 h (value_of v)) p)) (sym gs.given_by) (by_task g h i v gs.task s there same gs.giving)
