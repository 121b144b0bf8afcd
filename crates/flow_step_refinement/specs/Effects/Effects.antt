-- A step of an actor in memory by an effect is a step of the class machine.
use Rattle.std.specs.Prelude.{◌≡◌, ◌+◌, ℕ, List}
use Rattle.std.specs.declared.option.Option.TheVariants.{Some}
use Rattle.flow_tree.specs.declared.ty.Ident.{Ident}
use Rattle.flow_tree.specs.Tree.{ExprTree, ExprTrees}
use Rattle.flow_value.specs.Values.{ValueTree}
use Rattle.flow_eval.specs.Eval.{Res, Done}
use Rattle.flow_class.specs.Classes.{EffectInstr, ChooseLast, CallbackTree, RawTree}
use Rattle.flow_class.specs.Code.{Body, Last, fetch, callback_at}
use Rattle.flow_code.specs.declared.class.Effect.{Effect}
use Rattle.flow_code.specs.declared.class.Effect.TheVariants as effect
use Rattle.flow_code.specs.declared.program.Code.{Code}
use Rattle.flow_trace.specs.declared.line.Line.{Line}
use Rattle.flow_meaning.specs.Requests.{Supply}
use Rattle.flow_meaning.specs.Evaluating.{Effectful, World, Actor, effect_in, values}
use Rattle.flow_numbered.specs.Numbered.{thing}
use Rattle.flow_meaning.specs.Process.{Entry, Proc}
use Rattle.flow_meaning.specs.References.{Scan}
use Rattle.flow_meaning.specs.Orderly.{Rising}
use Rattle.flow_meaning.specs.Step.{kept_by, view}
use Rattle.flow_meaning.specs.Class.{class_names}
use Rattle.flow_meaning.specs.Frame.{Frame, look, spot_of}
use Rattle.flow_steps.specs.declared.call.Goal.TheVariants as goal
use Rattle.flow_steps.specs.declared.frames.ControlPoint.{ControlPoint}
use Rattle.flow_steps.specs.declared.next.Pace.{Pace}
use Rattle.flow_steps.specs.declared.process.Process.{Process}
use Rattle.flow_steps.specs.Evaluating.{Evaluates}
use Rattle.flow_steps.specs.Acting.{args_of, EffectDone}
use Rattle.flow_step_refinement.specs.Effects.Asking.{MayAsk, Answered}
use Rattle.flow_step_refinement.specs.Effects.Starting.{MayStart}

-- an effect of the code and the one that it is coded from: a predefined call, or the call of the class at a place
abbrev pub SameEffect : Effect → Effectful → Type 0
SameEffect (effect.World p) (World q) = p ≡ q
SameEffect (effect.Actor k) (Actor c) = k ≡ c
SameEffect (effect.World p) (Actor c) = ⊥
SameEffect (effect.Actor k) (World q) = ⊥

-- A process in which an effect may make a cell or start an actor, with what its arguments come to.
pub record MayMake (r : RawTree) (code : Code) (p : Proc Frame) (called : Effectful) (comes_to : Res (List ValueTree)) : Type 0 where
  pub cells : Rising 0 p.core.made p.core.cells
  pub starts : (k : ℕ) → called ≡ Actor k → (vs : List ValueTree) (left : ℕ) → comes_to ≡ Done vs left → MayStart r p code k vs

module _ (r : RawTree) (ls : List Line) (m : Process) (p : Proc Frame) (i : ℕ) (e : Entry) (f : Frame) where
  -- an effect whose result is stored
  abbrev pub EffectStep : Type 0
  EffectStep =
      (x : Scan) (s : ControlPoint) (w : Supply) (code : Code) (path : List Ident) (t : ExprTree) (es : ExprTrees) (called : Effectful)
      (eff : Effect)
      (comes_to : Res (List ValueTree)) (pace : Pace) (n : Process)
      → MayAsk r ls x s m p i e f → MayMake r code p called comes_to
      → fetch f.code f.block f.instr ≡ Body (EffectInstr path t) → effect_in (class_names r) t ≡ Some (called, es) → SameEffect eff called
      → comes_to ≡ values (class_names r) (view w i p.core) (look f.mem) es
      → Evaluates s args_of comes_to m (EffectDone code s goal.Stored eff) pace n
      → Answered r ls x w p i e pace n

  -- an effect whose result is the next operand of a wait, with the number of its callback
  abbrev pub EffectOperandStep : Type 0
  EffectOperandStep =
      (x : Scan) (s : ControlPoint) (w : Supply) (code : Code) (group k : ℕ) (b : CallbackTree) (es : ExprTrees) (called : Effectful)
      (eff : Effect)
      (comes_to : Res (List ValueTree)) (pace : Pace) (n : Process)
      → MayAsk r ls x s m p i e f → MayMake r code p called comes_to
      → fetch f.code f.block f.instr ≡ Last (ChooseLast group)
      → callback_at f.code group (kept_by (thing p.core.entries i)) ≡ Some b
      → effect_in (class_names r) b.operand ≡ Some (called, es) → SameEffect eff called
      → k ≡ (spot_of f.code group).first + kept_by (thing p.core.entries i)
      → comes_to ≡ values (class_names r) (view w i p.core) (look f.mem) es
      → Evaluates s args_of comes_to m (EffectDone code s (goal.Kept k) eff) pace n
      → Answered r ls x w p i e pace n
