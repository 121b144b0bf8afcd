-- What an actor does in memory with what evaluation comes to is a step of the class machine.
use Rattle.std.proofs.Common.{◌≡◌, ◌⊎◌, inl, inr, ℕ, List, sym, ap, ◌∙◌, subst}
use Rattle.flow_value.specs.Values.{ValueTree, IntValue, BoolValue, TextValue, VoidValue, ErrorValue, CompositeValue, RefValue}
use Rattle.flow_value.specs.View.{value_of}
use Rattle.flow_eval.specs.Answers.{error_of}
use Rattle.flow_eval.specs.Eval.{Res}
use Rattle.flow_class.specs.Classes.{RawTree}
use Rattle.flow_trace.specs.declared.line.Line.{Line}
use Rattle.flow_meaning.specs.Requests.{Supply}
use Rattle.flow_meaning.specs.Evaluating.{StepOf, evaluated}
use Rattle.flow_meaning.specs.Process.{Entry, Proc}
use Rattle.flow_meaning.specs.References.{Scan}
use Rattle.flow_meaning.specs.Step.{view}
use Rattle.flow_meaning.specs.Class.{throw_value, fetched, next_step, class_names}
use Rattle.flow_meaning.specs.Frame.{Frame}
use Rattle.flow_steps.specs.declared.frames.ControlPoint.{ControlPoint}
use Rattle.flow_steps.specs.declared.next.Pace.{Pace}
use Rattle.flow_steps.specs.declared.process.Process.{Process}
use Rattle.flow_steps.specs.Evaluating.{with_left, Evaluates, gives, throws, runs_out}
use Rattle.flow_steps.specs.Stepping.{ErrorThrown, IsThrow}
use Rattle.flow_operation_refinement.specs.Continuing.{MayBeStale}
use Rattle.flow_operation_refinement.specs.Carried.{StepsAs}
use Rattle.flow_operation_refinement.specs.Evaluated.{GivesValue}
use Rattle.flow_operation_refinement.specs.Evaluated as law
use Rattle.flow_operation_refinement.proofs.Carrying.{error_thrown, ran_out}

module _ (r : RawTree) (ls : List Line) (m : Process) (p : Proc Frame) (i : ℕ) (e : Entry) (f : Frame) where
  pub evaluation_follows : {A B : Type 0} (x : Scan) (s : ControlPoint) (w : Supply) (seen : B → A) (comes_to : Res A) (go : A → ℕ → StepOf Frame)
      (goal : B → Process → Pace → Process → Type 0) (pace : Pace) (n : Process) → MayBeStale r ls x s m p i e f
      → next_step (class_names r) (view w i p.core) f ≡ evaluated f comes_to go → Evaluates s seen comes_to m goal pace n
      → GivesValue seen comes_to m goal pace n ⊎ StepsAs r ls x w p i e pace n
  evaluation_follows x s w seen comes_to go goal pace n st next (gives b left a q done goes) = inl (record { value = b; left = left; done = done; goes = goes })
  evaluation_follows x s w seen comes_to go goal pace n st next (throws err left q fails halted) =
      inr (error_thrown r ls m p i e f x s w err left n st halted (next ∙ ap (λ k. evaluated f k go) fails))
  evaluation_follows x s w seen comes_to go goal pace n st next (runs_out q spent halted) =
      inr (ran_out r ls m p i e f x s w n st halted (next ∙ ap (λ k. evaluated f k go) spent))

  -- the value of a `throw` is an error
  by_value : (x : Scan) (s : ControlPoint) (w : Supply) (left : ℕ) (v : ValueTree) (pace : Pace) (n : Process) → MayBeStale r ls x s m p i e f
      → next_step (class_names r) (view w i p.core) f ≡ throw_value (class_names r) (view w i p.core) f left (error_of v) → ErrorThrown s v (with_left left m) pace n → StepsAs r ls x w p i e pace n
  by_value x s w left (ErrorValue k) pace n st next thrown =
      subst (λ q. StepsAs r ls x w p i e q n) (sym thrown.0) (error_thrown r ls m p i e f x s w (record { 0 = k }) left n st thrown.1 next)
  by_value x s w left (IntValue k) pace n st next thrown = absurd thrown
  by_value x s w left (BoolValue b) pace n st next thrown = absurd thrown
  by_value x s w left (TextValue t) pace n st next thrown = absurd thrown
  by_value x s w left VoidValue pace n st next thrown = absurd thrown
  by_value x s w left (CompositeValue d vs) pace n st next thrown = absurd thrown
  by_value x s w left (RefValue kd k) pace n st next thrown = absurd thrown

  pub throw_step : law.ThrowStep r ls m p i e f
  throw_step x s w t comes_to pace n st there same evaluates =
      by_case (evaluation_follows x s w value_of comes_to (λ u left. throw_value (class_names r) (view w i p.core) f left (error_of u)) (IsThrow s) pace n st next evaluates)
    where
      next : next_step (class_names r) (view w i p.core) f ≡ evaluated f comes_to (λ u left. throw_value (class_names r) (view w i p.core) f left (error_of u))
      next =
          ap (fetched (class_names r) (view w i p.core) f) there
          ∙ ap (λ k. evaluated f k (λ u left. throw_value (class_names r) (view w i p.core) f left (error_of u))) (sym same)

      by_case : GivesValue value_of comes_to m (IsThrow s) pace n ⊎ StepsAs r ls x w p i e pace n → StepsAs r ls x w p i e pace n
      by_case (inl g) =
          by_value x s w g.left (value_of g.value) pace n st
          (next ∙ ap (λ k. evaluated f k (λ u left. throw_value (class_names r) (view w i p.core) f left (error_of u))) g.done) g.goes
      by_case (inr a) = a
