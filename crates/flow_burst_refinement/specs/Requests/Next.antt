-- A step of an actor in memory that asks something is a step of the class machine; what it asks of the world
-- is asked there.
use Rattle.std.specs.Prelude.{◌≡◌, ℕ, pos, List, [], ◌∷◌, length}
use Rattle.std.specs.declared.option.Option.TheVariants.{Some}
use Rattle.flow_tree.specs.declared.ty.Ident.{Ident}
use Rattle.flow_tree.specs.Tree.{ExprTree, ExprTrees, NoExprs, MoreExprs}
use Rattle.flow_value.specs.declared.value.Kind.{Kind}
use Rattle.flow_value.specs.Values.{ValueTree, RefValue, refs_of}
use Rattle.flow_eval.specs.Eval.{Done}
use Rattle.flow_eval.specs.Functions.{read_in}
use Rattle.flow_class.specs.Classes.{EffectInstr, ActInstr, ChooseLast, CallbackTree, RawTree}
use Rattle.flow_class.specs.Code.{Fetched, Body, Last, fetch, callback_at}
use Rattle.flow_code.specs.declared.program.Code.{Code}
use Rattle.flow_trace.specs.declared.line.Line.{Line}
use Rattle.flow_numbered.specs.Numbered.{Numbered}
use Rattle.flow_meaning.specs.Requests.{Supply}
use Rattle.flow_meaning.specs.Evaluating.{Effectful, effect_in, value, values, before_last}
use Rattle.flow_meaning.specs.Process.{Run, Entry, Proc}
use Rattle.flow_meaning.specs.References.{Scan}
use Rattle.flow_meaning.specs.Burst.{Host}
use Rattle.flow_meaning.specs.Work.{pushed}
use Rattle.flow_meaning.specs.Step.{view, on_core}
use Rattle.flow_meaning.specs.Class.{class_names}
use Rattle.flow_meaning.specs.Frame.{Frame, look}
use Rattle.flow_heap_refinement.specs.Counted.{nothing_in_hand}
use Rattle.flow_heap_refinement.specs.Rested.{InNumbers}
use Rattle.flow_heap_refinement.specs.Holds.{There, AllThere}
use Rattle.flow_steps.specs.declared.frames.ControlPoint.{ControlPoint}
use Rattle.flow_steps.specs.declared.next.Pace.{Pace}
use Rattle.flow_steps.specs.declared.process.Process.{Process}
use Rattle.flow_steps.specs.Evaluating.{program_time}
use Rattle.flow_operation_refinement.specs.Taking.{MayGo}
use Rattle.flow_step_refinement.specs.Continuing.{MayStep}
use Rattle.flow_step_refinement.specs.Decoding.{Rooted}
use Rattle.flow_step_refinement.specs.Executing.{InProgram, Asks}
use Rattle.flow_burst_refinement.specs.Bursts.{AsksWorld}
use Rattle.flow_step_refinement.specs.Effects.Asking.{AsksAs, Answered}
use Rattle.flow_step_refinement.specs.Effects.Effects.{MayMake}
use Rattle.flow_step_refinement.specs.Effects.Calling.{MayCall, StartsClass}
use Rattle.flow_step_refinement.specs.Effects.Starting.{MayStart}

-- What has to hold in the class machine of an actor that asks something by what it stands at.
module _ (r : RawTree) (code : Code) (w : Supply) (p : Proc Frame) (i : ℕ) (e : Entry) (f : Frame) where
  -- an effect, with what its arguments come to
  abbrev pub MayAffect : ExprTree → Type 0
  MayAffect t =
      (called : Effectful) (es : ExprTrees) → effect_in (class_names r) t ≡ Some (called, es)
      → MayMake r code p called (values (class_names r) (view w i p.core) (look f.mem) es)

  -- a call statement that starts a void actor, with what its arguments come to
  abbrev pub MayStartBy : Ident → ExprTrees → Type 0
  MayStartBy y es =
      (class : ℕ) → StartsClass r y class → (vs : List ValueTree) (left : ℕ)
      → values (class_names r) (view w i p.core) (look f.mem) es ≡ Done vs left → MayStart r p code class vs

  -- a method: its path begins with a place of the frame, and leads to a reference that is there; so are those of
  -- the argument
  pub record MayCallOn (y z : Ident) (ys : List Ident) (es : ExprTrees) : Type 0 where
    pub rooted : Rooted f (y ∷ before_last z ys)
    pub there : (kd : Kind) (k : ℕ)
        → read_in r.records (look f.mem y.name) (before_last z ys) ≡ Some (RefValue kd k) → There p (kd, k)
    pub sent : (t : ExprTree) (v : ValueTree) (left : ℕ) → es ≡ MoreExprs t NoExprs
        → value (class_names r) (view w i p.core) (look f.mem) t ≡ Done v left → AllThere p (refs_of v)

  -- an operand by an effect
  pub record MayChooseBy (group : ℕ) : Type 0 where
    pub go : MayGo i e p.core
    pub operand : (b : CallbackTree) → callback_at f.code group (length e.operands) ≡ Some b
        → MayAffect b.operand

  abbrev pub MayAskNext : Fetched → Type 0
  MayAskNext (Body (EffectInstr path t)) = MayAffect t
  MayAskNext (Body (ActInstr (y ∷ []) es)) = MayStartBy y es
  MayAskNext (Body (ActInstr (y ∷ z ∷ ys) es)) = MayCallOn y z ys es
  MayAskNext (Last (ChooseLast g)) = MayChooseBy g
  MayAskNext _ = Unit {0}

module _ (r : RawTree) (ls : List Line) (m : Process) (p : Proc Frame) (i : ℕ) (e : Entry) (f : Frame) where
  abbrev pub AskFollows : Type 0
  AskFollows =
      (x : Scan) (s : ControlPoint) (w : Supply) (code : Code) (pace : Pace) (n : Process)
      → MayStep r ls x s m p i e f → InProgram r code s f → MayCall m p → program_time m.time ≡ pos w.now
      → MayAskNext r code w p i e f (fetch f.code f.block f.instr) → Asks code s m pace n
      → Answered r ls x w p i e pace n

-- what is asked of the world, at the world's time and among as many processes
module _ {A W : Type 0} (serves : Host W) (shows : A → Numbered ℕ → W → Type 0)
    (wrote : A → List Line → A → Type 0) (code : Code) (processes : ℕ) (r : RawTree) where
  abbrev pub WorldAsked : Type 0
  WorldAsked =
      (ls : List Line) (n : Process) (a : A) (p : Proc Frame) (i : ℕ) (w : W)
      → AsksAs r ls nothing_in_hand (serves.supply w) p i n → InNumbers p.core
      → n.time ≡ (serves.supply w).now → processes ≡ (serves.supply w).processes → shows a p.core.ports w
      → AsksWorld serves shows wrote code processes r ls n a (on_core (pushed (Run i)) p) w
