-- The steps of an actor by its instructions.
use Rattle.std.specs.Prelude.{◌≡◌, ◌+◌, ℕ, Bool, true, false, nat_lt, List, [], ◌∷◌, length, slice_get}
use Rattle.std.specs.Option.{option_map}
use Rattle.std.specs.declared.option.Option.{Option}
use Rattle.std.specs.declared.option.Option.TheVariants.{None, Some}
use Rattle.flow_base.specs.declared.ids.ActorId.{ActorId}
use Rattle.flow_base.specs.declared.ids.CellId.{CellId}
use Rattle.flow_base.specs.declared.errors.TheConstants.{TOO_LONG}
use Rattle.flow_tree.specs.declared.limits.TheConstants.{CALL_DEPTH, ELEMENTS}
use Rattle.flow_ast.specs.declared.predefined.Method.{Method}
use Rattle.flow_value.specs.declared.value.Value.{Value}
use Rattle.flow_value.specs.declared.value.Value.TheVariants as value
use Rattle.flow_value.specs.declared.value.Outcome.{Outcome}
use Rattle.flow_value.specs.declared.value.Outcome.TheVariants as outcome
use Rattle.flow_value.specs.declared.value.Kind.{Kind}
use Rattle.flow_value.specs.Values.{ValueTree, ValueTrees, NoValues, BoolValue, ErrorValue, CompositeValue, ListWhole, RefValue, count_of, with_last}
use Rattle.flow_value.specs.View.{value_of}
use Rattle.flow_eval.specs.Eval.{Res, truth_of, function_called}
use Rattle.flow_eval.specs.Functions.{run_function}
use Rattle.flow_code.specs.declared.expr.expr.Resolved.{Resolved}
use Rattle.flow_code.specs.Resolved.View.{node_of, nodes_of, places_in}
use Rattle.flow_code.specs.Resolved.Evaluation.{value_at, values_at}
use Rattle.flow_code.specs.declared.class.Aim.{Aim}
use Rattle.flow_code.specs.declared.class.Act.{Act}
use Rattle.flow_code.specs.declared.class.Act.TheVariants as act
use Rattle.flow_code.specs.declared.class.Branch.{Branch}
use Rattle.flow_code.specs.declared.class.Group.{Group}
use Rattle.flow_code.specs.declared.class.Operand.{Operand}
use Rattle.flow_code.specs.declared.class.Operand.TheVariants as operand
use Rattle.flow_code.specs.declared.class.Instruction.{Instruction}
use Rattle.flow_code.specs.declared.class.Instruction.TheVariants as instruction
use Rattle.flow_code.specs.declared.class.Last.{Last}
use Rattle.flow_code.specs.declared.class.Last.TheVariants as last
use Rattle.flow_code.specs.declared.program.Code.{Code}
use Rattle.flow_code.specs.View.{group_numbered}
use Rattle.flow_cancel.specs.declared.task.Task.{Task}
use Rattle.flow_cancel.specs.declared.task.Task.TheVariants as task
use Rattle.flow_cancel.specs.Heap.{HeapTree, cell_id, next_cell, pushed}
use Rattle.flow_cancel.specs.Dropping.{dropping}
use Rattle.flow_heap_refinement.specs.Holds.{hold, hold_all}
use Rattle.flow_steps.specs.declared.call.Goal.TheVariants as goal
use Rattle.flow_steps.specs.declared.frames.ControlPoint.{ControlPoint}
use Rattle.flow_steps.specs.declared.next.Pace.{Pace}
use Rattle.flow_steps.specs.declared.next.Pace.TheVariants.{On, Off}
use Rattle.flow_steps.specs.declared.process.Process.{Process}
use Rattle.flow_steps.specs.Doing.{turned, doing}
use Rattle.flow_steps.specs.Holding.{on_heap, value_refs}
use Rattle.flow_steps.specs.Delivering.{made}
use Rattle.flow_steps.specs.Points.{noted, noted_stand, GoesTo, next_stand, place_held, place_put, places_taken, places_emptied, referring, lost_from, field_path, Assigns}
use Rattle.flow_steps.specs.Waiting.{KeepsOperand, Waits, callbacks_of}
use Rattle.flow_steps.specs.Evaluating.{setting_in, sight_in, Evaluates}
use Rattle.flow_meaning.specs.Evaluating.{Change, change_by}
use Rattle.flow_meaning.specs.Evaluating as change
use Rattle.flow_steps.specs.Acting.{Values, args_of, IsEffect, VoidCalled, PredefinedCalled, MethodCalled}

-- an expression of an actor, one that is a truth value, and arguments in order
abbrev pub value_for : Code → (actor : ℕ) → Resolved → Process → Res ValueTree
value_for code i e p = value_at (sight_in code i p) (node_of e) p.left

abbrev pub truth_for : Code → (actor : ℕ) → Resolved → Process → Res ValueTree
truth_for code i e p = truth_of (value_for code i e p)

abbrev pub values_for : Code → (actor : ℕ) → List Resolved → Process → Res (List ValueTree)
values_for code i es p = values_at (sight_in code i p) (nodes_of es) p.left

-- Values are left over. Where there are none, the actor goes on at once; else they are dropped before it goes on.
abbrev pub OnAfter : ControlPoint → List Value → Process → Pace → Process → Type 0
OnAfter s [] p pace q = (pace ≡ On s) × (q ≡ p)
OnAfter s (v ∷ vs) p pace q = (pace ≡ Off) × (q ≡ on_heap (dropping (v ∷ vs)) (doing (task.Run s.actor) (noted s p)))

-- An assignment of a value: it counts, it is put in place, what stood there is dropped, and the next instruction follows.
pub record IsSet (code : Code) (s : ControlPoint) (aim : Aim) (new : Value) (p : Process) (pace : Pace) (q : Process) : Type 0 where
  pub old : Option Value
  pub between : Process
  pub assigns : Assigns code.fields s.actor aim new (on_heap (hold_all (value_refs new)) p) old between
  pub after : OnAfter (next_stand s) (referring old) between pace q

-- A new cell goes into a place, with what its kind of reference is.
abbrev pub made_in_place : (actor place : ℕ) → Kind → CellId → HeapTree → HeapTree
made_in_place i n kd k h = place_put i n (Some (value.Ref kd k)) (hold kd k.0 (made kd h))

pub record IsNew (s : ControlPoint) (place : ℕ) (kd : Kind) (p : Process) (pace : Pace) (q : Process) : Type 0 where
  pub cell : CellId
  pub number : cell.0 ≡ next_cell p.heap
  pub after : OnAfter (next_stand s) (referring (place_held s.actor.0 place (hold kd cell.0 (made kd p.heap))))
      (on_heap (made_in_place s.actor.0 place kd cell) p) pace q

-- what an actor aims at
abbrev pub aimed_value : Code → (actor : ℕ) → Aim → Process → Option ValueTree
aimed_value code i aim p = field_path (places_in code.fields) aim.path.items (option_map value_of (place_held i aim.place p.heap))

-- A plain function is called, and its value forgotten.
abbrev pub GoesNext : {A : Type 0} → ControlPoint → A → Process → Pace → Process → Type 0
GoesNext s a p pace q = (pace ≡ On (next_stand s)) × (q ≡ p)

abbrev pub function_result : Code → (function : ℕ) → Values → Process → Res ValueTree
function_result code f args p =
    function_called (setting_in code p) (run_function (setting_in code p) CALL_DEPTH) (slice_get (setting_in code p).functions f)
    (args_of args) p.left

abbrev pub FunctionCalled : Code → ControlPoint → (function : ℕ) → Values → Process → Pace → Process → Type 0
FunctionCalled code s f args p pace q = Evaluates s value_of (function_result code f args p) p (GoesNext s) pace q

-- a call statement without a base, with its arguments known
abbrev pub IsAct : Code → ControlPoint → Act → Values → Process → Pace → Process → Type 0
IsAct code s (act.World called) args p pace q = (pace ≡ Off) × PredefinedCalled s.actor called args (noted (next_stand s) p) q
IsAct code s (act.Function f) args p pace q = FunctionCalled code s f args p pace q
IsAct code s (act.Actor class) args p pace q = (pace ≡ Off) × VoidCalled code s.actor class args.items (noted (next_stand s) p) q

-- A method of the reference at which an actor aims, with what is sent known.
pub record IsCall (code : Code) (s : ControlPoint) (aim : Aim) (m : Method) (sent : Option Value) (p : Process) (pace : Pace)
    (q : Process) : Type 0 where
  pub kind : Kind
  pub cell : CellId
  pub aims : field_path (places_in code.fields) aim.path.items (option_map value_of (place_held s.actor.0 aim.place p.heap))
      ≡ Some (RefValue kind cell.0)
  pub off : pace ≡ Off
  pub calls : MethodCalled s.actor m kind cell sent (noted (next_stand s) p) q

-- A change of the vector at which an actor aims: another value is put in its place.
pub record IsChanged (code : Code) (i : ActorId) (aim : Aim) (es new : ValueTrees) (p : Process) (old : Option Value)
    (q : Process) : Type 0 where
  pub vector : Value
  pub is : value_of vector ≡ CompositeValue ListWhole new
  pub was : option_map value_of old ≡ Some (CompositeValue ListWhole es)
  pub assigns : Assigns code.fields i aim vector p old q

-- A vector grows by an element, of which what it refers to counts, and nothing is dropped; or it is full, and an error is thrown.
pub data Grows (code : Code) (s : ControlPoint) (aim : Aim) (v : Value) (p : Process) : Pace → Process → Type 0 where
  grown : (es : ValueTrees) (old : Option Value) (q : Process) → nat_lt (count_of es) ELEMENTS ≡ true
      → IsChanged code s.actor aim es (with_last es (value_of v)) (on_heap (hold_all (value_refs v)) p) old q
      → Grows code s aim v p (On (next_stand s)) q
  is_full : (es : ValueTrees) (q : Process) → aimed_value code s.actor.0 aim p ≡ Some (CompositeValue ListWhole es)
      → nat_lt (count_of es) ELEMENTS ≡ false → q ≡ doing (task.Throw s.actor TOO_LONG) (noted s p) → Grows code s aim v p Off q

-- A vector is cleared: the empty one stands in its place, and then what the old one refers to is dropped.
pub record Clears (code : Code) (s : ControlPoint) (aim : Aim) (p : Process) (pace : Pace) (q : Process) : Type 0 where
  pub elements : ValueTrees
  pub old : Option Value
  pub between : Process
  pub changed : IsChanged code s.actor aim elements NoValues p old between
  pub after : OnAfter (next_stand s) (referring old) between pace q

abbrev pub IsChange : Code → ControlPoint → Aim → Change → Option Value → Process → Pace → Process → Type 0
IsChange code s aim change.Grows (Some v) p pace q = Grows code s aim v p pace q
IsChange code s aim change.Grows None p pace q = ⊥
IsChange code s aim change.Clears sent p pace q = Clears code s aim p pace q

-- a method of a reference or of a vector
abbrev pub IsMethodBy : Option Change → Code → ControlPoint → Aim → Method → Option Value → Process → Pace → Process → Type 0
IsMethodBy None code s aim m sent p pace q = IsCall code s aim m sent p pace q
IsMethodBy (Some how) code s aim m sent p pace q = IsChange code s aim how sent p pace q

abbrev pub IsMethod : Code → ControlPoint → Aim → Method → Option Value → Process → Pace → Process → Type 0
IsMethod code s aim m sent p pace q = IsMethodBy (change_by (Some m)) code s aim m sent p pace q

abbrev pub IsMethodOf : Code → ControlPoint → Aim → Method → Value → Process → Pace → Process → Type 0
IsMethodOf code s aim m v p pace q = IsMethod code s aim m (Some v) p pace q

abbrev pub MethodStep : Code → ControlPoint → Aim → Method → List Resolved → Process → Pace → Process → Type 0
MethodStep code s aim m [] p pace q = IsMethod code s aim m None p pace q
MethodStep code s aim m (e ∷ []) p pace q = Evaluates s value_of (value_for code s.actor.0 e p) p (IsMethodOf code s aim m) pace q
MethodStep code s aim m _ p pace q = ⊥

-- a step by an instruction
abbrev pub Does : Code → ControlPoint → Instruction → Process → Pace → Process → Type 0
Does code s (instruction.Set aim e) p pace q = Evaluates s value_of (value_for code s.actor.0 e p) p (IsSet code s aim) pace q
Does code s (instruction.Effect aim e args) p pace q = IsEffect code s goal.Stored e args.items p pace q
Does code s (instruction.New place kd) p pace q = IsNew s place kd p pace q
Does code s (instruction.Act a args) p pace q = Evaluates s args_of (values_for code s.actor.0 args.items p) p (IsAct code s a) pace q
Does code s (instruction.Method aim m args) p pace q = MethodStep code s aim m args.items p pace q
Does code s (instruction.Drop places) p pace q =
    OnAfter (next_stand s) (places_taken s.actor.0 places.items p.heap) (on_heap (places_emptied s.actor.0 places.items) p) pace q
Does code s instruction.Invalid p pace q = ⊥

-- The actor goes on at the begin of a block; where a pass of a loop begins, that takes a turn.
abbrev pub GoesOnAt : ControlPoint → (block : ℕ) → Process → Pace → Process → Type 0
GoesOnAt s b p pace q = (t : ControlPoint) × GoesTo s b 0 t × (pace ≡ On t) × (q ≡ p)

pub data Passes (s : ControlPoint) (b : ℕ) (p : Process) : Pace → Process → Type 0 where
  no_pass : (t : ControlPoint) (q : Process) → GoesTo s b 0 t → nat_lt 0 p.left ≡ false → q ≡ noted t (turned p) → Passes s b p Off q
  pass_begins : (t : ControlPoint) (q : Process) → GoesTo s b 0 t → nat_lt 0 p.left ≡ true → q ≡ turned p → Passes s b p (On t) q

-- one of two blocks, by a truth value
abbrev pub truth_value : Bool → ValueTree
truth_value b = BoolValue b

abbrev pub IsTest : ControlPoint → (one other : ℕ) → Bool → Process → Pace → Process → Type 0
IsTest s one other true p pace q = GoesOnAt s one p pace q
IsTest s one other false p pace q = GoesOnAt s other p pace q

-- The next operand of a wait, with its value known: it counts and is kept. No other value is one.
abbrev pub ReferenceKept : ControlPoint → (callback : ℕ) → ValueTree → Process → Pace → Process → Type 0
ReferenceKept s n (RefValue kd k) p pace q = KeepsOperand s (record { callback = n; cell = cell_id k }) (on_heap (hold kd k) p) pace q
ReferenceKept s n _ p pace q = ⊥

abbrev pub OperandKept : ControlPoint → (callback : ℕ) → Value → Process → Pace → Process → Type 0
OperandKept s n v p pace q = ReferenceKept s n (value_of v) p pace q

abbrev pub OperandStep : Code → ControlPoint → (callback : ℕ) → Operand → Process → Pace → Process → Type 0
OperandStep code s n (operand.Value e) p pace q = Evaluates s value_of (value_for code s.actor.0 e p) p (OperandKept s n) pace q
OperandStep code s n (operand.Effect e args) p pace q = IsEffect code s (goal.Kept n) e args.items p pace q

-- A wait: its next operand is asked for; when all are kept, the actor waits.
abbrev pub kept_by : ControlPoint → Process → ℕ
kept_by s p = length (callbacks_of s.actor.0 p.heap)

pub data Chooses (code : Code) (s : ControlPoint) (number : ℕ) (group : Group) (p : Process) (pace : Pace) (q : Process) : Type 0 where
  asks_operand : (b : Branch) → slice_get group.branches.items (kept_by s p) ≡ Some b
      → OperandStep code s (group.first + kept_by s p) b.operand p pace q → Chooses code s number group p pace q
  all_kept : slice_get group.branches.items (kept_by s p) ≡ None → pace ≡ Off → Waits s number p q
      → Chooses code s number group p pace q

pub record IsChoose (code : Code) (s : ControlPoint) (number : ℕ) (p : Process) (pace : Pace) (q : Process) : Type 0 where
  pub group : Group
  pub of_number : group_numbered number s.class.now.groups.items ≡ Some group
  pub chooses : Chooses code (noted_stand s) number group (noted s p) pace q

-- the task by which an actor is closed with an outcome
abbrev pub IsClose : (actor : ActorId) → Outcome → Task → Type 0
IsClose i o (task.Close j x) = (j ≡ i) × (x.value ≡ o)
IsClose i o t = ⊥

-- The actor ends with a value: everything leaves its variables and is dropped before it is closed.
abbrev pub ended : ControlPoint → Task → HeapTree → HeapTree
ended s t h = lost_from s.actor.0 0 (pushed t h)

pub record IsReturn (s : ControlPoint) (v : Value) (p : Process) (pace : Pace) (q : Process) : Type 0 where
  pub off : pace ≡ Off
  pub task : Task
  pub closes : IsClose s.actor (outcome.Value v) task
  pub ends : q ≡ on_heap (ended s task) (noted s (on_heap (hold_all (value_refs v)) p))

-- The error that a value is is thrown. No other value is one.
abbrev pub ErrorThrown : ControlPoint → ValueTree → Process → Pace → Process → Type 0
ErrorThrown s (ErrorValue e) p pace q = (pace ≡ Off) × (q ≡ doing (task.Throw s.actor (record { 0 = e })) (noted s p))
ErrorThrown s _ p pace q = ⊥

abbrev pub IsThrow : ControlPoint → Value → Process → Pace → Process → Type 0
IsThrow s v p pace q = ErrorThrown s (value_of v) p pace q

-- a step by the last instruction of a block
abbrev pub Ends : Code → ControlPoint → Last → Process → Pace → Process → Type 0
Ends code s (last.Goto b) p pace q = GoesOnAt s b p pace q
Ends code s (last.Pass b) p pace q = Passes s b p pace q
Ends code s (last.Test e one other) p pace q = Evaluates s truth_value (truth_for code s.actor.0 e p) p (IsTest s one other) pace q
Ends code s (last.Choose g) p pace q = IsChoose code s g p pace q
Ends code s (last.Return e) p pace q = Evaluates s value_of (value_for code s.actor.0 e p) p (IsReturn s) pace q
Ends code s (last.Throw e) p pace q = Evaluates s value_of (value_for code s.actor.0 e p) p (IsThrow s) pace q

-- A step of an actor, by its instruction.
pub data StepsOn (code : Code) (s : ControlPoint) (p : Process) (pace : Pace) (q : Process) : Type 0 where
  by_instruction : (x : Instruction) → slice_get s.block.now.body.items s.instruction ≡ Some x → Does code s x p pace q
      → StepsOn code s p pace q
  by_last : s.instruction ≡ length s.block.now.body.items → Ends code s s.block.now.last p pace q → StepsOn code s p pace q

-- A row of steps of an actor, up to one after which other tasks come first.
pub data Runs (code : Code) : ControlPoint → Process → Process → Type 0 where
  runs_on : (s t : ControlPoint) (p between q : Process) → StepsOn code s p (On t) between → Runs code t between q → Runs code s p q
  runs_off : (s : ControlPoint) (p q : Process) → StepsOn code s p Off q → Runs code s p q

-- and where a step has been taken already
abbrev pub GoesOn : Code → Pace → Process → Process → Type 0
GoesOn code (On s) p q = Runs code s p q
GoesOn code Off p q = q ≡ p
