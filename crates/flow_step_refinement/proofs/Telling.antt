-- What steps and tasks in memory tell that ask nothing of an actor's.
use Rattle.std.proofs.Common.{◌≡◌, ◌⊎◌, inl, inr, ℕ, ◌+◌, nat_lt, Bool, true, false, List, [], ◌∷◌, length, if◌then◌else◌, refl, sym, ap, ◌∙◌, subst}
use Rattle.std.specs.Prelude.{slice_get}
use Rattle.std.specs.declared.boxed.Box.{Box}
use Rattle.std.specs.declared.alloc.Global.{Global}
use Rattle.std.specs.declared.option.Option.{Option}
use Rattle.std.specs.declared.option.Option.TheVariants.{None, Some}
use Rattle.flow_base.specs.declared.ids.ActorId.{ActorId}
use Rattle.flow_base.specs.declared.ids.CellId.{CellId}
use Rattle.flow_base.specs.declared.ids.ErrorCode.{ErrorCode}
use Rattle.flow_value.specs.declared.value.Kind.{Kind}
use Rattle.flow_value.specs.declared.value.Outcome.{Outcome}
use Rattle.flow_value.specs.declared.value.Value.{Value}
use Rattle.flow_value.specs.Values.{ValueTree, IntValue, BoolValue, TextValue, VoidValue, ErrorValue, CompositeValue, RefValue}
use Rattle.flow_value.specs.View.{value_of}
use Rattle.flow_eval.specs.Eval.{Res}
use Rattle.flow_frame.specs.declared.held.Held.{Held}
use Rattle.flow_cell.specs.declared.waiter.Waiter.{Waiter}
use Rattle.flow_code.specs.declared.class.Act.TheVariants as act
use Rattle.flow_code.specs.declared.class.Aim.{Aim}
use Rattle.flow_code.specs.declared.class.Branch.{Branch}
use Rattle.flow_code.specs.declared.class.Group.{Group}
use Rattle.flow_code.specs.declared.class.Instruction.{Instruction}
use Rattle.flow_code.specs.declared.class.Instruction.TheVariants as instruction
use Rattle.flow_code.specs.declared.class.Last.{Last}
use Rattle.flow_code.specs.declared.class.Last.TheVariants as last
use Rattle.flow_code.specs.declared.class.Operand.{Operand}
use Rattle.flow_code.specs.declared.class.Operand.TheVariants as operand
use Rattle.flow_code.specs.declared.program.Code.{Code}
use Rattle.flow_code.specs.View.{group_numbered}
use Rattle.flow_code.specs.declared.expr.expr.Resolved.{Resolved}
use Rattle.flow_cancel.specs.Heap.{finished}
use Rattle.flow_cancel.specs.Dropping.{Lost, dropped}
use Rattle.flow_cancel.specs.declared.task.Dropped.TheVariants as after
use Rattle.flow_cancel.specs.declared.task.Task.TheVariants as task
use Rattle.flow_steps.specs.declared.frames.ControlPoint.{ControlPoint}
use Rattle.flow_steps.specs.declared.next.Pace.{Pace}
use Rattle.flow_steps.specs.declared.process.Process.{Process}
use Rattle.flow_steps.specs.Doing.{turned, telling}
use Rattle.flow_steps.specs.Holding.{on_heap, with_heap, filled_broken, broken, lost_by, lost}
use Rattle.flow_steps.specs.Delivering.{end_line, ended_with, closing}
use Rattle.flow_steps.specs.Points.{noted, noted_stand}
use Rattle.flow_steps.specs.Waiting.{TakesBranch, no_turn, takes_branch, KeepsOperand, kept_marked, kept_unready, kept_ready, Waits, waits_ready, waits_refused, waits_suspended}
use Rattle.flow_steps.specs.Evaluating.{Evaluates, gives, throws, runs_out}
use Rattle.flow_steps.specs.Stepping.{OnAfter, IsSet, Does, Passes, no_pass, pass_begins, IsTest, ReferenceKept, OperandStep, Chooses, asks_operand, all_kept, ErrorThrown, Ends, by_instruction, by_last, kept_by, StepsOn, grown, is_full, IsChange, IsMethodBy, MethodStep}
use Rattle.flow_steps.specs.Tasks.{FiresAt, drops_one, IsDone, Stored}
use Rattle.flow_operation_refinement.specs.Stepped.{OnlyTells}
use Rattle.flow_operation_refinement.proofs.Takings.{turned_asked}
use Rattle.flow_step_refinement.specs.Executing.{Asks, by_effect, by_act, by_method, by_operand, by_start}
use Rattle.flow_meaning.specs.Evaluating.{Change, Grows, Clears, change_by}
use Rattle.flow_ast.specs.declared.predefined.Method.{Method}

-- nothing is asked
pub quiet : (n : Process) → n.asked ≡ None → OnlyTells n.asked
quiet n e = subst OnlyTells (sym e) tt

quiet_is : (m n k : Process) → m.asked ≡ None → n ≡ k → k.asked ≡ m.asked → OnlyTells n.asked
quiet_is m n k none e same = quiet n (ap (λ (z : Process). z.asked) e ∙ same ∙ none)

told_is : (n k : Process) → n ≡ k → OnlyTells k.asked → OnlyTells n.asked
told_is n k e t = subst (λ (z : Process). OnlyTells z.asked) (sym e) t

turned_told : (m n : Process) → m.asked ≡ None → n ≡ turned m → OnlyTells n.asked
turned_told m n none e = quiet_is m n (turned m) none e (turned_asked m)

-- values are left over
pub over_told : (s : ControlPoint) (vs : List Value) (m n : Process) (pace : Pace) → m.asked ≡ None → OnAfter s vs m pace n → OnlyTells n.asked
over_told s [] m n pace none h = quiet_is m n m none h.1 refl
over_told s (v ∷ vs) m n pace none h = quiet n (ap (λ (z : Process). z.asked) h.1 ∙ none)

-- evaluation
evaluates_told : {A B : Type 0} (s : ControlPoint) (seen : B → A) (comes_to : Res A) (m n : Process) (goes : B → Process → Pace → Process → Type 0) (pace : Pace) → m.asked ≡ None
    → ((v : B) (k n : Process) (pace : Pace) → k.asked ≡ None → goes v k pace n → OnlyTells n.asked) → Evaluates s seen comes_to m goes pace n → OnlyTells n.asked
evaluates_told s seen comes_to m n goes pace none further (gives b left _ _ done h) = further b _ n pace none h
evaluates_told s seen comes_to m n goes pace none further (throws e left _ fails h) = quiet n (ap (λ (z : Process). z.asked) h ∙ none)
evaluates_told s seen comes_to m n goes pace none further (runs_out _ spent h) = quiet n (ap (λ (z : Process). z.asked) h ∙ none)

set_told : (code : Code) (s : ControlPoint) (aim : Aim) (v : Value) (m n : Process) (pace : Pace) → m.asked ≡ None → IsSet code s aim v m pace n → OnlyTells n.asked
set_told code s aim v m n pace none h = over_told _ _ h.between n pace (ap (λ (z : Process). z.asked) h.assigns.put ∙ none) h.after

-- branches and waits
branch_told : (s : ControlPoint) (b : ℕ) (k : CellId) (m n : Process) → m.asked ≡ None → TakesBranch s b k m n → OnlyTells n.asked
branch_told s b k m n none (no_turn t e) = turned_told m n none e
branch_told s b k m n none (takes_branch t h) = told_is n _ h.leaves tt

pub keeps_told : (s : ControlPoint) (x : Held) (m n : Process) (pace : Pace) → m.asked ≡ None → KeepsOperand s x m pace n → OnlyTells n.asked
keeps_told s x m n pace none (kept_marked _ marked e) = quiet n (ap (λ (z : Process). z.asked) e ∙ none)
keeps_told s x m n pace none (kept_unready _ marked ready e) = quiet n (ap (λ (z : Process). z.asked) e ∙ none)
keeps_told s x m n pace none (kept_ready _ b marked ready of h) = branch_told s b x.cell _ n none h

waits_told : (s : ControlPoint) (group : ℕ) (m n : Process) → m.asked ≡ None → Waits s group m n → OnlyTells n.asked
waits_told s group m n none (waits_ready x b first of h) = branch_told s b x.cell m n none h
waits_told s group m n none (waits_refused h first all e) = quiet n (ap (λ (z : Process). z.asked) e ∙ none)
waits_told s group m n none (waits_suspended h first all e) = told_is n _ e tt

reference_told : (s : ControlPoint) (n : ℕ) (v : ValueTree) (m k : Process) (pace : Pace) → m.asked ≡ None → ReferenceKept s n v m pace k → OnlyTells k.asked
reference_told s n (RefValue kd c) m k pace none h = keeps_told s _ _ k pace none h
reference_told s n (IntValue i) m k pace none h = absurd h
reference_told s n (BoolValue b) m k pace none h = absurd h
reference_told s n (TextValue t) m k pace none h = absurd h
reference_told s n VoidValue m k pace none h = absurd h
reference_told s n (ErrorValue e) m k pace none h = absurd h
reference_told s n (CompositeValue r vs) m k pace none h = absurd h

-- the ends of blocks
thrown_told : (s : ControlPoint) (v : ValueTree) (m n : Process) (pace : Pace) → m.asked ≡ None → ErrorThrown s v m pace n → OnlyTells n.asked
thrown_told s (ErrorValue e) m n pace none h = quiet n (ap (λ (z : Process). z.asked) h.1 ∙ none)
thrown_told s (IntValue i) m n pace none h = absurd h
thrown_told s (BoolValue b) m n pace none h = absurd h
thrown_told s (TextValue t) m n pace none h = absurd h
thrown_told s VoidValue m n pace none h = absurd h
thrown_told s (RefValue kd c) m n pace none h = absurd h
thrown_told s (CompositeValue r vs) m n pace none h = absurd h

test_told : (s : ControlPoint) (one other : ℕ) (b : Bool) (m n : Process) (pace : Pace) → m.asked ≡ None → IsTest s one other b m pace n → OnlyTells n.asked
test_told s one other true m n pace none h = quiet n (ap (λ (z : Process). z.asked) h.3 ∙ none)
test_told s one other false m n pace none h = quiet n (ap (λ (z : Process). z.asked) h.3 ∙ none)

passes_told : (s : ControlPoint) (b : ℕ) (m n : Process) (pace : Pace) → m.asked ≡ None → Passes s b m pace n → OnlyTells n.asked
passes_told s b m n pace none (no_pass t _ to left e) = quiet n (ap (λ (z : Process). z.asked) e ∙ turned_asked m ∙ none)
passes_told s b m n pace none (pass_begins t _ to left e) = turned_told m n none e

-- changes of vectors
change_told : (code : Code) (s : ControlPoint) (aim : Aim) (how : Change) (sent : Option Value) (m n : Process) (pace : Pace) → m.asked ≡ None → IsChange code s aim how sent m pace n
    → OnlyTells n.asked
change_told code s aim Grows (Some v) m n pace none (grown es old _ room is) = quiet n (ap (λ (z : Process). z.asked) is.assigns.put ∙ none)
change_told code s aim Grows (Some v) m n pace none (is_full es _ aimed full e) = quiet n (ap (λ (z : Process). z.asked) e ∙ none)
change_told code s aim Grows None m n pace none h = absurd h
change_told code s aim Clears sent m n pace none h = over_told _ _ h.between n pace (ap (λ (z : Process). z.asked) h.changed.assigns.put ∙ none) h.after

changes_told : (code : Code) (s : ControlPoint) (aim : Aim) (called : Method) (how : Change) (es : List Resolved) (m n : Process) (pace : Pace) → m.asked ≡ None → change_by (Some called) ≡ Some how
    → MethodStep code s aim called es m pace n → OnlyTells n.asked
changes_told code s aim called how [] m n pace none is h = change_told code s aim how None m n pace none (subst (λ o. IsMethodBy o code s aim called None m pace n) is h)
changes_told code s aim called how (e ∷ []) m n pace none is h =
    evaluates_told s value_of _ m n _ pace none (λ v k n pace none h. change_told code s aim how (Some v) k n pace none (subst (λ o. IsMethodBy o code s aim called (Some v) k pace n) is h)) h
changes_told code s aim called how (e ∷ f ∷ es) m n pace none is h = absurd h

module _ (code : Code) (s : ControlPoint) (m n : Process) (pace : Pace) (none : m.asked ≡ None) where
  -- an instruction
  by_instruction_told : (x : Instruction) → slice_get s.block.now.body.items s.instruction ≡ Some x → Does code s x m pace n → OnlyTells n.asked ⊎ Asks code s m pace n
  by_instruction_told (instruction.Set aim e) at h = inl (evaluates_told s value_of _ m n _ pace none (λ v k n pace none h. set_told code s aim v k n pace none h) h)
  by_instruction_told (instruction.Effect aim e args) at h = inr (by_effect aim e args at h)
  by_instruction_told (instruction.New place kd) at h = inl (over_told _ _ _ n pace none h.after)
  by_instruction_told (instruction.Act (act.World called) args) at h = inr (by_act called args at h)
  by_instruction_told (instruction.Act (act.Actor class) args) at h = inr (by_start class args at h)
  by_instruction_told (instruction.Act (act.Function f) args) at h =
      inl (evaluates_told s _ _ m n _ pace none (λ v k n pace none h. evaluates_told s value_of _ k n _ pace none (λ u k n pace none h. quiet n (ap (λ (z : Process). z.asked) h.1 ∙ none)) h) h)
  by_instruction_told (instruction.Method aim called args) at h = by_how (change_by (Some called)) refl
    where
      by_how : (o : Option Change) → change_by (Some called) ≡ o → OnlyTells n.asked ⊎ Asks code s m pace n
      by_how None is = inr (by_method aim called args at is h)
      by_how (Some how) is = inl (changes_told code s aim called how args.items m n pace none is h)
  by_instruction_told (instruction.Drop places) at h = inl (over_told _ _ _ n pace none h)
  by_instruction_told instruction.Invalid at h = absurd h

  -- a wait
  by_operand_told : (number : ℕ) (group : Group) (b : Branch) (o : Operand) → b.operand ≡ o → s.instruction ≡ length s.block.now.body.items → s.block.now.last ≡ last.Choose number
      → group_numbered number s.class.now.groups.items ≡ Some group
      → slice_get group.branches.items (kept_by (noted_stand s) (noted s m)) ≡ Some b
      → OperandStep code (noted_stand s) (group.first + kept_by (noted_stand s) (noted s m)) o (noted s m) pace n → OnlyTells n.asked ⊎ Asks code s m pace n
  by_operand_told number group b (operand.Value e) is end ends of at h =
      inl (evaluates_told (noted_stand s) value_of _ (noted s m) n _ pace none (λ v k n pace none h. reference_told (noted_stand s) _ (value_of v) k n pace none h) h)
  by_operand_told number group b (operand.Effect e args) is end ends of at h = inr (by_operand number group b e args end ends of at is h)

  by_choice_told : (number : ℕ) (group : Group) → s.instruction ≡ length s.block.now.body.items → s.block.now.last ≡ last.Choose number → group_numbered number s.class.now.groups.items ≡ Some group
      → Chooses code (noted_stand s) number group (noted s m) pace n → OnlyTells n.asked ⊎ Asks code s m pace n
  by_choice_told number group end ends of (asks_operand b at h) = by_operand_told number group b b.operand refl end ends of at h
  by_choice_told number group end ends of (all_kept at off h) = inl (waits_told (noted_stand s) number (noted s m) n none h)

  -- the end of a block
  by_end_told : s.instruction ≡ length s.block.now.body.items → (x : Last) → s.block.now.last ≡ x → Ends code s x m pace n → OnlyTells n.asked ⊎ Asks code s m pace n
  by_end_told end (last.Goto b) is h = inl (quiet n (ap (λ (z : Process). z.asked) h.3 ∙ none))
  by_end_told end (last.Pass b) is h = inl (passes_told s b m n pace none h)
  by_end_told end (last.Test e one other) is h = inl (evaluates_told s _ _ m n _ pace none (λ v k n pace none h. test_told s one other v k n pace none h) h)
  by_end_told end (last.Choose g) is h = by_choice_told g h.group end is h.of_number h.chooses
  by_end_told end (last.Return e) is h = inl (evaluates_told s value_of _ m n _ pace none (λ v k n pace none h. quiet n (ap (λ (z : Process). z.asked) h.ends ∙ none)) h)
  by_end_told end (last.Throw e) is h = inl (evaluates_told s value_of _ m n _ pace none (λ v k n pace none h. thrown_told s (value_of v) k n pace none h) h)

pub step_told : (code : Code) (s : ControlPoint) (m n : Process) (pace : Pace) → m.asked ≡ None → StepsOn code s m pace n → OnlyTells n.asked ⊎ Asks code s m pace n
step_told code s m n pace none (by_instruction x at h) = by_instruction_told code s m n pace none x at h
step_told code s m n pace none (by_last end h) = by_end_told code s m n pace none end s.block.now.last refl h

-- a reference is lost
broken_told : (kd : Kind) (k : ℕ) (m : Process) → m.asked ≡ None → OnlyTells (broken kd k m).asked
broken_told kd k m none = by_turn (nat_lt 0 m.left)
  where
    by_turn : (b : Bool) → OnlyTells (if b then filled_broken kd k (turned m) else turned m).asked
    by_turn true = tt
    by_turn false = quiet (turned m) (turned_asked m ∙ none)

lost_told : (kd : Kind) (k : ℕ) (m : Process) → m.asked ≡ None → OnlyTells (lost kd k m).asked
lost_told kd k m none = by_case (dropped kd k m.heap)
  where
    by_case : (x : Lost) → OnlyTells (lost_by kd k x m).asked
    by_case (h, after.Nothing) = quiet (with_heap h m) none
    by_case (h, after.Freed) = quiet (with_heap h m) none
    by_case (h, after.PortFreed) = tt
    by_case (h, after.Broken) = broken_told kd k (with_heap h m) none
    by_case (h, after.Cancel a) = tt

fires_told : (code : Code) (kd : Kind) (k : CellId) (w : Option Waiter) (m n : Process) → m.asked ≡ None → FiresAt code kd k w m n → OnlyTells n.asked
fires_told code kd k None m n none h = told_is n (lost kd k.0 m) h (lost_told kd k.0 m none)
fires_told code kd k (Some w) m n none h = branch_told h.stand h.branch k _ n none h.takes

closed_told : (i : ActorId) (o : Outcome) (r : Option CellId) (m : Process) → m.asked ≡ None → OnlyTells (closing i o r m).asked
closed_told i o r m none = by_turn (nat_lt 0 m.left)
  where
    by_turn : (b : Bool) → OnlyTells (if b then telling (end_line i o) (ended_with r o (turned m)) else turned m).asked
    by_turn true = tt
    by_turn false = quiet (turned m) (turned_asked m ∙ none)

drops_told : (kd : Kind) (k : CellId) (m : Process) → m.asked ≡ None → OnlyTells (drops_one kd k m).asked
drops_told kd k m none = by_turn (nat_lt 0 m.left)
  where
    by_turn : (b : Bool) → OnlyTells (if b then lost kd k.0 (turned m) else turned m).asked
    by_turn true = lost_told kd k.0 (turned m) (turned_asked m ∙ none)
    by_turn false = quiet (turned m) (turned_asked m ∙ none)

pub throw_told : (code : Code) (i : ActorId) (e : ErrorCode) (m n : Process) → IsDone code (task.Throw i e) m n → OnlyTells n.asked
throw_told code i e m n h = told_is n _ h.told tt

pub catch_told : (code : Code) (i : ActorId) (e : ErrorCode) (m n : Process) → IsDone code (task.Catch i e) m n → OnlyTells n.asked
catch_told code i e m n h = told_is n _ h tt

pub fire_told : (code : Code) (k : CellId) (m n : Process) → m.asked ≡ None → IsDone code (task.Fire k) m n → OnlyTells n.asked
fire_told code k m n none h = fires_told code h.kind k _ m n none h.fires

pub drop_told : (code : Code) (kd : Kind) (k : CellId) (m n : Process) → m.asked ≡ None → IsDone code (task.Drop kd k) m n → OnlyTells n.asked
drop_told code kd k m n none h = told_is n (drops_one kd k m) h (drops_told kd k m none)

pub close_told : (code : Code) (i : ActorId) (o : Box Outcome Global) (m n : Process) → m.asked ≡ None → IsDone code (task.Close i o) m n → OnlyTells n.asked
close_told code i o m n none h = told_is n _ h.closes (closed_told i o.value h.note.result (on_heap (finished i.0) m) none)

pub store_told : (code : Code) (i : ActorId) (v : Value) (m n : Process) → m.asked ≡ None → Stored code i v m n → OnlyTells n.asked
store_told code i v m n none h = quiet n (ap (λ (z : Process). z.asked) h.goes ∙ ap (λ (z : Process). z.asked) h.assigns.put ∙ none)
