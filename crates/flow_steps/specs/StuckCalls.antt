-- When what an actor evaluates, calls and asks of the world goes astray: it has no meaning, or something isn't there.
use Rattle.std.specs.Prelude.{◌≡◌, ◌⊎◌, ℕ, false, List, length, slice_get}
use Rattle.std.specs.declared.option.Option.TheVariants.{None, Some}
use Rattle.flow_value.specs.declared.value.Value.{Value}
use Rattle.flow_eval.specs.Eval.{Res, Done, Meaningless}
use Rattle.flow_eval.specs.declared.stop.Halt.{Halt}
use Rattle.flow_eval.specs.declared.stop.Halt.TheVariants.{NoMeaning}
use Rattle.flow_code.specs.declared.expr.expr.Resolved.{Resolved}
use Rattle.flow_code.specs.Resolved.View.{nodes_of}
use Rattle.flow_code.specs.Resolved.Evaluation.{values_at}
use Rattle.flow_code.specs.declared.class.Class.{Class}
use Rattle.flow_code.specs.declared.class.Effect.{Effect}
use Rattle.flow_code.specs.declared.class.Effect.TheVariants as effect
use Rattle.flow_code.specs.declared.program.Code.{Code}
use Rattle.flow_cancel.specs.Heap.{HeapTree, cell_id, next_cell, with_result, may_start}
use Rattle.flow_cancel.specs.Dropping.{refs_in}
use Rattle.flow_meaning.specs.Evaluating.{world_effect}
use Rattle.flow_steps.specs.declared.frames.ControlPoint.{ControlPoint}
use Rattle.flow_steps.specs.declared.process.Process.{Process}
use Rattle.flow_steps.specs.Points.{noted}
use Rattle.flow_steps.specs.Evaluating.{sight_in, with_left}
use Rattle.flow_steps.specs.Acting.{Values, args_of, with_args}
use Rattle.flow_steps.specs.Stuck.{SomeMissing, FrameMissing}

-- evaluation broke off where there is no meaning, or an error is to be thrown where there is no frame
abbrev pub HaltsStuck : ControlPoint → Halt → HeapTree → Type 0
HaltsStuck s x h = FrameMissing s.actor.0 h ⊎ (x ≡ NoMeaning)

-- What an actor evaluates has no meaning, or the actor has no frame, or what it does with the value goes astray.
pub data EvaluatesStuck {A B : Type 0} (s : ControlPoint) (seen : B → A) (comes_to : Res A) (p : Process)
    (rest : B → Process → Type 0) : Type 0 where
  meaningless : comes_to ≡ Meaningless → EvaluatesStuck s seen comes_to p rest
  frame_gone : FrameMissing s.actor.0 p.heap → EvaluatesStuck s seen comes_to p rest
  rest_stuck : (b : B) (left : ℕ) → comes_to ≡ Done (seen b) left → rest b (with_left left p)
      → EvaluatesStuck s seen comes_to p rest

-- No actor is made: there is no such class, or it has another count of parameters; or an argument refers to what isn't there;
-- or the new cell can't be the result of an actor.
pub data EnrolsStuck (code : Code) (class : ℕ) (args : List Value) (h : HeapTree) : Type 0 where
  no_class_of : slice_get code.classes.items class ≡ None → EnrolsStuck code class args h
  other_params : (c : Class) → slice_get code.classes.items class ≡ Some c → (length args ≡ c.params → ⊥)
      → EnrolsStuck code class args h
  args_missing : SomeMissing (refs_in args) (with_result (next_cell h) h) → EnrolsStuck code class args h
  no_result : may_start (Some (cell_id (next_cell h))) (with_args args h) ≡ false → EnrolsStuck code class args h

-- no void actor is made
pub data EnrolsAloneStuck (code : Code) (class : ℕ) (args : List Value) (h : HeapTree) : Type 0 where
  no_void_class : slice_get code.classes.items class ≡ None → EnrolsAloneStuck code class args h
  other_void_params : (c : Class) → slice_get code.classes.items class ≡ Some c → (length args ≡ c.params → ⊥)
      → EnrolsAloneStuck code class args h
  void_args_missing : SomeMissing (refs_in args) h → EnrolsAloneStuck code class args h

-- an effect has no meaning, or no actor is made
abbrev pub MakesStuck : Code → Effect → Values → HeapTree → Type 0
MakesStuck code (effect.World called) args h = world_effect called (args_of args) ≡ None
MakesStuck code (effect.Actor class) args h = EnrolsStuck code class args.items h

abbrev pub EffectDoneStuck : Code → ControlPoint → Effect → Values → Process → Type 0
EffectDoneStuck code s e args p = FrameMissing s.actor.0 p.heap ⊎ MakesStuck code e args (noted s p).heap

abbrev pub EffectStuck : Code → ControlPoint → Effect → List Resolved → Process → Type 0
EffectStuck code s e args p =
    EvaluatesStuck s args_of (values_at (sight_in code s.actor.0 p) (nodes_of args) p.left) p (EffectDoneStuck code s e)
