-- When the steps of an actor by its instructions go astray.
use Rattle.std.specs.Prelude.{◌≡◌, ◌⊎◌, ◌+◌, ◌<◌, ℕ, Bool, true, false, List, [], ◌∷◌, length, slice_get}
use Rattle.std.specs.Option.{option_map}
use Rattle.std.specs.declared.option.Option.{Option}
use Rattle.std.specs.declared.option.Option.TheVariants.{None, Some}
use Rattle.flow_base.specs.declared.ids.ActorId.{ActorId}
use Rattle.flow_base.specs.declared.ids.CellId.{CellId}
use Rattle.flow_ast.specs.declared.predefined.Method.{Method}
use Rattle.flow_value.specs.declared.value.Value.{Value}
use Rattle.flow_value.specs.declared.value.Kind.{Kind}
use Rattle.flow_value.specs.Values.{ValueTree, ValueTrees, ErrorValue, CompositeValue, ListWhole, RefValue}
use Rattle.flow_value.specs.View.{value_of}
use Rattle.flow_code.specs.declared.expr.expr.Resolved.{Resolved}
use Rattle.flow_code.specs.Resolved.View.{places_in}
use Rattle.flow_code.specs.declared.class.Aim.{Aim}
use Rattle.flow_code.specs.declared.class.Act.{Act}
use Rattle.flow_code.specs.declared.class.Act.TheVariants as act
use Rattle.flow_code.specs.declared.class.Branch.{Branch}
use Rattle.flow_code.specs.declared.class.Group.{Group}
use Rattle.flow_code.specs.declared.class.Operand.{Operand}
use Rattle.flow_code.specs.declared.class.Operand.TheVariants as operand
use Rattle.flow_code.specs.declared.class.Instruction.{Instruction}
use Rattle.flow_code.specs.declared.class.Instruction.TheVariants as instruction
use Rattle.flow_code.specs.declared.class.Last.{Last}
use Rattle.flow_code.specs.declared.class.Last.TheVariants as last
use Rattle.flow_code.specs.declared.program.Code.{Code}
use Rattle.flow_code.specs.View.{group_numbered}
use Rattle.flow_cancel.specs.Heap.{HeapTree, cell_id}
use Rattle.flow_heap_refinement.specs.Holds.{hold}
use Rattle.flow_steps.specs.declared.frames.ControlPoint.{ControlPoint}
use Rattle.flow_steps.specs.declared.next.Pace.{Pace}
use Rattle.flow_steps.specs.declared.next.Pace.TheVariants.{On, Off}
use Rattle.flow_steps.specs.declared.process.Process.{Process}
use Rattle.flow_steps.specs.Holding.{value_refs}
use Rattle.flow_steps.specs.Points.{IsAtPoint, noted, noted_stand, next_stand, place_held, field_path}
use Rattle.flow_steps.specs.Acting.{Values, args_of}
use Rattle.flow_meaning.specs.Evaluating.{Change, change_by}
use Rattle.flow_meaning.specs.Evaluating as change
use Rattle.flow_steps.specs.Stepping.{StepsOn, kept_by, aimed_value, function_result, value_for, truth_for, values_for, truth_value}
use Rattle.flow_steps.specs.Stuck.{Missing, SomeMissing, FrameMissing, NoPlace, SomePlaceMissing, BlockMissing, HasNoPoint, AimsStuck}
use Rattle.flow_steps.specs.StuckWaits.{KeepsStuck, WaitsStuck}
use Rattle.flow_steps.specs.StuckRequests.{PredefinedStuck, MethodStuck}
use Rattle.flow_steps.specs.StuckCalls.{EvaluatesStuck, EnrolsAloneStuck, EffectStuck}

-- a value isn't assigned: it refers to what isn't there, or the actor aims at nothing
abbrev pub SetStuck : Code → ControlPoint → Aim → Value → Process → Type 0
SetStuck code s aim new p = SomeMissing (value_refs new) p.heap ⊎ AimsStuck code.fields s.actor.0 aim p.heap

-- places aren't emptied
abbrev pub EmptiesStuck : ControlPoint → List ℕ → HeapTree → Type 0
EmptiesStuck s ns h = FrameMissing s.actor.0 h ⊎ SomePlaceMissing s.actor.0 ns h

-- a call statement without a base: nothing is done with the value of a plain function
abbrev pub NothingStuck : Value → Process → Type 0
NothingStuck v p = ⊥

abbrev pub FunctionStuck : Code → ControlPoint → (function : ℕ) → Values → Process → Type 0
FunctionStuck code s f args p = EvaluatesStuck s value_of (function_result code f args p) p NothingStuck

abbrev pub ActStuck : Code → ControlPoint → Act → Values → Process → Type 0
ActStuck code s (act.World called) args p = FrameMissing s.actor.0 p.heap ⊎ PredefinedStuck s.actor called args
ActStuck code s (act.Function f) args p = FunctionStuck code s f args p
ActStuck code s (act.Actor class) args p =
    FrameMissing s.actor.0 p.heap ⊎ EnrolsAloneStuck code class args.items (noted (next_stand s) p).heap

-- where an actor aims there is no reference
abbrev pub NoReferenceAt : Code → (actor : ℕ) → Aim → HeapTree → Type 0
NoReferenceAt code i aim h = (kd : Kind) (k : ℕ)
    → field_path (places_in code.fields) aim.path.items (option_map value_of (place_held i aim.place h)) ≡ Some (RefValue kd k) → ⊥

-- A method is called of what is no reference, or its actor has no frame, or what the method does goes astray.
pub data CallsStuck (code : Code) (s : ControlPoint) (aim : Aim) (m : Method) (sent : Option Value) (p : Process) : Type 0 where
  no_reference : NoReferenceAt code s.actor.0 aim p.heap → CallsStuck code s aim m sent p
  frame_gone : FrameMissing s.actor.0 p.heap → CallsStuck code s aim m sent p
  method_stuck : (kd : Kind) (k : CellId)
      → field_path (places_in code.fields) aim.path.items (option_map value_of (place_held s.actor.0 aim.place p.heap))
      ≡ Some (RefValue kd k.0)
      → MethodStuck m kd k sent (noted (next_stand s) p).heap → CallsStuck code s aim m sent p

-- where an actor aims there is no vector
abbrev pub NoVectorAt : Code → (actor : ℕ) → Aim → Process → Type 0
NoVectorAt code i aim p = (es : ValueTrees) → aimed_value code i aim p ≡ Some (CompositeValue ListWhole es) → ⊥

-- a vector isn't changed: there is none, or the actor has no frame, or an element refers to what isn't there
abbrev pub ChangeStuck : Code → ControlPoint → Aim → Change → Option Value → Process → Type 0
ChangeStuck code s aim change.Grows None p = Unit {0}
ChangeStuck code s aim change.Grows (Some v) p =
    NoVectorAt code s.actor.0 aim p ⊎ FrameMissing s.actor.0 p.heap ⊎ SomeMissing (value_refs v) p.heap
ChangeStuck code s aim change.Clears sent p = NoVectorAt code s.actor.0 aim p ⊎ FrameMissing s.actor.0 p.heap

abbrev pub MethodStuckBy : Option Change → Code → ControlPoint → Aim → Method → Option Value → Process → Type 0
MethodStuckBy None code s aim m sent p = CallsStuck code s aim m sent p
MethodStuckBy (Some how) code s aim m sent p = ChangeStuck code s aim how sent p

abbrev pub MethodDoneStuck : Code → ControlPoint → Aim → Method → Option Value → Process → Type 0
MethodDoneStuck code s aim m sent p = MethodStuckBy (change_by (Some m)) code s aim m sent p

abbrev pub CallsStuckOf : Code → ControlPoint → Aim → Method → Value → Process → Type 0
CallsStuckOf code s aim m v p = MethodDoneStuck code s aim m (Some v) p

abbrev pub MethodStepStuck : Code → ControlPoint → Aim → Method → List Resolved → Process → Type 0
MethodStepStuck code s aim m [] p = MethodDoneStuck code s aim m None p
MethodStepStuck code s aim m (e ∷ []) p = EvaluatesStuck s value_of (value_for code s.actor.0 e p) p (CallsStuckOf code s aim m)
MethodStepStuck code s aim m _ p = Unit {0}

-- a step by an instruction goes astray
abbrev pub DoesStuck : Code → ControlPoint → Instruction → Process → Type 0
DoesStuck code s (instruction.Set aim e) p = EvaluatesStuck s value_of (value_for code s.actor.0 e p) p (SetStuck code s aim)
DoesStuck code s (instruction.Effect aim e args) p = EffectStuck code s e args.items p
DoesStuck code s (instruction.New place kd) p = NoPlace s.actor.0 place p.heap
DoesStuck code s (instruction.Act a args) p =
    EvaluatesStuck s args_of (values_for code s.actor.0 args.items p) p (ActStuck code s a)
DoesStuck code s (instruction.Method aim m args) p = MethodStepStuck code s aim m args.items p
DoesStuck code s (instruction.Drop places) p = EmptiesStuck s places.items p.heap
DoesStuck code s instruction.Invalid p = Unit {0}

-- a test chooses a block that isn't there
abbrev pub TestStuck : ControlPoint → (one other : ℕ) → Bool → Process → Type 0
TestStuck s one other true p = BlockMissing s.class.now one
TestStuck s one other false p = BlockMissing s.class.now other

-- what is to be kept as an operand is no reference, or leads nowhere, or isn't kept once it counts
abbrev pub ReferenceStuck : ControlPoint → (callback : ℕ) → ValueTree → HeapTree → Type 0
ReferenceStuck s n (RefValue kd k) h = Missing kd k h ⊎ KeepsStuck s (record { callback = n; cell = cell_id k }) (hold kd k h)
ReferenceStuck s n _ h = Unit {0}

abbrev pub ValueKeptStuck : ControlPoint → (callback : ℕ) → Value → Process → Type 0
ValueKeptStuck s n v p = ReferenceStuck s n (value_of v) p.heap

abbrev pub AsksStuck : Code → ControlPoint → (callback : ℕ) → Operand → Process → Type 0
AsksStuck code s n (operand.Value e) p = EvaluatesStuck s value_of (value_for code s.actor.0 e p) p (ValueKeptStuck s n)
AsksStuck code s n (operand.Effect e args) p = EffectStuck code s e args.items p

-- A wait goes astray: there is no such group, or the actor has no frame; or the next operand, or, where all are kept, the wait.
pub data ChoosesStuck (code : Code) (s : ControlPoint) (number : ℕ) (p : Process) : Type 0 where
  no_group_of : group_numbered number s.class.now.groups.items ≡ None → ChoosesStuck code s number p
  frame_gone : FrameMissing s.actor.0 p.heap → ChoosesStuck code s number p
  operand_stuck : (group : Group) (b : Branch) → group_numbered number s.class.now.groups.items ≡ Some group
      → slice_get group.branches.items (kept_by s (noted s p)) ≡ Some b
      → AsksStuck code (noted_stand s) (group.first + kept_by s (noted s p)) b.operand (noted s p)
      → ChoosesStuck code s number p
  wait_stuck : (group : Group) → group_numbered number s.class.now.groups.items ≡ Some group
      → slice_get group.branches.items (kept_by s (noted s p)) ≡ None → WaitsStuck (noted_stand s) (noted s p).heap
      → ChoosesStuck code s number p

-- an actor can't end with a value, or throw it
abbrev pub ReturnStuck : ControlPoint → Value → Process → Type 0
ReturnStuck s v p = SomeMissing (value_refs v) p.heap ⊎ FrameMissing s.actor.0 p.heap

abbrev pub ErrorStuck : ControlPoint → ValueTree → HeapTree → Type 0
ErrorStuck s (ErrorValue e) h = FrameMissing s.actor.0 h
ErrorStuck s _ h = Unit {0}

abbrev pub ThrowStuck : ControlPoint → Value → Process → Type 0
ThrowStuck s v p = ErrorStuck s (value_of v) p.heap

-- a step by the last instruction of a block goes astray
abbrev pub LastStuck : Code → ControlPoint → Last → Process → Type 0
LastStuck code s (last.Goto b) p = BlockMissing s.class.now b
LastStuck code s (last.Pass b) p = BlockMissing s.class.now b ⊎ FrameMissing s.actor.0 p.heap
LastStuck code s (last.Test e one other) p =
    EvaluatesStuck s truth_value (truth_for code s.actor.0 e p) p (TestStuck s one other)
LastStuck code s (last.Choose g) p = ChoosesStuck code s g p
LastStuck code s (last.Return e) p = EvaluatesStuck s value_of (value_for code s.actor.0 e p) p (ReturnStuck s)
LastStuck code s (last.Throw e) p = EvaluatesStuck s value_of (value_for code s.actor.0 e p) p (ThrowStuck s)

-- A step goes astray: the actor stands behind all instructions, or what its instruction does.
pub data StepStuck (code : Code) (s : ControlPoint) (p : Process) : Type 0 where
  behind_all : length s.block.now.body.items < s.instruction → StepStuck code s p
  by_instruction : (x : Instruction) → slice_get s.block.now.body.items s.instruction ≡ Some x → DoesStuck code s x p
      → StepStuck code s p
  by_last : s.instruction ≡ length s.block.now.body.items → LastStuck code s s.block.now.last p → StepStuck code s p

-- So does the first of a row of steps, or, once it is taken, a later one.
pub data RunsStuck (code : Code) : ControlPoint → Process → Type 0 where
  step_now : (s : ControlPoint) (p : Process) → StepStuck code s p → RunsStuck code s p
  step_later : (s t : ControlPoint) (p between : Process) → StepsOn code s p (On t) between → RunsStuck code t between
      → RunsStuck code s p

-- and where a step has been taken already
abbrev pub GoesStuck : Code → Pace → Process → Type 0
GoesStuck code (On s) p = RunsStuck code s p
GoesStuck code Off p = ⊥

-- An actor stands nowhere, or the steps from where it stands go astray.
pub data RunsNowStuck (code : Code) (i : ActorId) (p : Process) : Type 0 where
  nowhere : HasNoPoint code.classes.items i.0 p.heap → RunsNowStuck code i p
  runs_stuck : (s : ControlPoint) → IsAtPoint code.classes.items i p s → RunsStuck code s p → RunsNowStuck code i p
