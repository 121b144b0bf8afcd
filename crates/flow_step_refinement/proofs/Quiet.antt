-- A step after which an actor goes on at once asks for nothing, and takes no time.
use Rattle.std.proofs.Common.{◌≡◌, ℕ, ◌-◌, nat_lt, Bool, true, false, List, [], ◌∷◌, if◌then◌else◌, refl, sym, ap, ◌∙◌}
use Rattle.std.specs.declared.option.Option.{Option}
use Rattle.std.specs.declared.option.Option.TheVariants.{None, Some}
use Rattle.flow_value.specs.declared.value.Value.{Value}
use Rattle.flow_value.specs.Values.{ValueTree, IntValue, BoolValue, TextValue, VoidValue, ErrorValue, CompositeValue, RefValue}
use Rattle.flow_value.specs.View.{value_of}
use Rattle.flow_code.specs.declared.class.Act.{Act}
use Rattle.flow_code.specs.declared.class.Act.TheVariants as act
use Rattle.flow_code.specs.declared.class.Group.{Group}
use Rattle.flow_code.specs.declared.class.Instruction.{Instruction}
use Rattle.flow_code.specs.declared.class.Instruction.TheVariants as instruction
use Rattle.flow_code.specs.declared.class.Last as code_last
use Rattle.flow_code.specs.declared.class.Last.TheVariants as last
use Rattle.flow_code.specs.declared.class.Operand.{Operand}
use Rattle.flow_code.specs.declared.class.Operand.TheVariants as operand
use Rattle.flow_code.specs.declared.program.Code.{Code}
use Rattle.flow_code.specs.declared.class.Aim.{Aim}
use Rattle.flow_frame.specs.declared.held.Held.{Held}
use Rattle.flow_steps.specs.declared.frames.ControlPoint.{ControlPoint}
use Rattle.flow_steps.specs.declared.next.Pace.{Pace}
use Rattle.flow_steps.specs.declared.next.Pace.TheVariants.{On}
use Rattle.flow_steps.specs.declared.process.Process.{Process}
use Rattle.flow_steps.specs.Doing.{turned}
use Rattle.flow_steps.specs.Acting.{Values}
use Rattle.flow_steps.specs.Points.{noted_stand}
use Rattle.flow_steps.specs.Stepping.{OnAfter, IsAct, Does, GoesOnAt, Passes, no_pass, pass_begins, IsTest, ReferenceKept, OperandStep, Chooses, asks_operand, all_kept, Ends, StepsOn, by_instruction, by_last, grown, is_full, IsChange}
use Rattle.flow_steps.specs.Waiting.{KeepsOperand, kept_marked, kept_unready, kept_ready}
use Rattle.flow_step_refinement.proofs.Stays.{never, evaluated_on, by_argument, by_method, by_effect, by_throw}
use Rattle.flow_meaning.specs.Evaluating.{Change, Grows, Clears, change_by}
use Rattle.flow_ast.specs.declared.predefined.Method.{Method}

-- the same time, and nothing more asked for
pub record Quiet (m n : Process) : Type 0 where
  pub asked : n.asked ≡ m.asked
  pub time : n.time ≡ m.time

quiet_by : (m k n : Process) → n ≡ k → k.asked ≡ m.asked → k.time ≡ m.time → Quiet m n
quiet_by m k n e a b = record { asked = ap (λ (y : Process). y.asked) e ∙ a; time = ap (λ (y : Process). y.time) e ∙ b }

after_quiet : (m k : Process) (u t : ControlPoint) (vs : List Value) (pace : Pace) (n : Process) → pace ≡ On t → OnAfter u vs k pace n → k.asked ≡ m.asked → k.time ≡ m.time → Quiet m n
after_quiet m k u t [] pace n on after a b = quiet_by m k n after.1 a b
after_quiet m k u t (v ∷ vs) pace n on after a b = absurd (never t (sym after.0 ∙ on))

turned_quiet : (m : Process) → ((turned m).asked ≡ m.asked) × ((turned m).time ≡ m.time)
turned_quiet m = by_test (nat_lt 0 m.left)
  where
    by_test : (b : Bool) → ((if b then record m { left = m.left - 1 } else record m { spent = true }).asked ≡ m.asked)
        × ((if b then record m { left = m.left - 1 } else record m { spent = true }).time ≡ m.time)
    by_test true = (refl, refl)
    by_test false = (refl, refl)

module _ (code : Code) (s : ControlPoint) (m n : Process) (t : ControlPoint) where
  act_quiet : (a : Act) (args : Values) (k : Process) (pace : Pace) → pace ≡ On t → IsAct code s a args k pace n → k.asked ≡ m.asked → k.time ≡ m.time → Quiet m n
  act_quiet (act.World called) args k pace on does a b = absurd (never t (sym does.0 ∙ on))
  act_quiet (act.Actor class) args k pace on does a b = absurd (never t (sym does.0 ∙ on))
  act_quiet (act.Function f) args k pace on does a b = let c = evaluated_on s _ _ k _ t pace n on does in quiet_by m _ n c.1.1.1 a b

  change_quiet : (aim : Aim) (how : Change) (sent : Option Value) (k : Process) (pace : Pace) → pace ≡ On t → IsChange code s aim how sent k pace n → k.asked ≡ m.asked → k.time ≡ m.time
      → Quiet m n
  change_quiet aim Grows (Some v) k pace on (grown es old _ room is) a b = quiet_by m _ n is.assigns.put a b
  change_quiet aim Grows (Some v) k pace on (is_full es _ aimed full is) a b = absurd (never t on)
  change_quiet aim Grows None k pace on is a b = absurd is
  change_quiet aim Clears sent k pace on is a b =
      after_quiet m is.between _ t _ pace n on is.after (ap (λ (z : Process). z.asked) is.changed.assigns.put ∙ a) (ap (λ (z : Process). z.time) is.changed.assigns.put ∙ b)

  does_quiet : (y : Instruction) (pace : Pace) → pace ≡ On t → Does code s y m pace n → Quiet m n
  does_quiet (instruction.Set aim e) pace on does =
      let c = evaluated_on s _ _ m _ t pace n on does in
      after_quiet m c.1.1.between _ t _ pace n on c.1.1.after (ap (λ (z : Process). z.asked) c.1.1.assigns.put) (ap (λ (z : Process). z.time) c.1.1.assigns.put)
  does_quiet (instruction.Effect aim e args) pace on does = absurd (by_effect code s t _ e args.items m n pace s on does)
  does_quiet (instruction.New place kd) pace on does = after_quiet m _ _ t _ pace n on does.after refl refl
  does_quiet (instruction.Act a args) pace on does = let c = evaluated_on s _ _ m _ t pace n on does in act_quiet a c.0 _ pace on c.1.1 refl refl
  does_quiet (instruction.Method aim g args) pace on does = by_how (change_by (Some g)) refl
    where
      by_how : (o : Option Change) → change_by (Some g) ≡ o → Quiet m n
      by_how None is = absurd (by_method code s t aim g args.items m n pace is on does)
      by_how (Some how) is =
          let a = by_argument code s t aim g (Some how) args.items m n pace is on does in change_quiet aim how a.0 a.1.0 pace on a.1.1.0 a.1.1.1.0 a.1.1.1.1
  does_quiet (instruction.Drop places) pace on does = after_quiet m _ _ t _ pace n on does refl refl
  does_quiet instruction.Invalid pace on does = absurd does

  pass_quiet : (b : ℕ) (pace : Pace) → pace ≡ On t → Passes s b m pace n → Quiet m n
  pass_quiet b pace on (no_pass u q to none is) = absurd (never t on)
  pass_quiet b pace on (pass_begins u q to some is) = quiet_by m (turned m) n is (turned_quiet m).0 (turned_quiet m).1

  block_quiet : (b : ℕ) (k : Process) (pace : Pace) → GoesOnAt s b k pace n → k.asked ≡ m.asked → k.time ≡ m.time → Quiet m n
  block_quiet b k pace to a c = quiet_by m k n to.3 a c

  test_quiet : (one other : ℕ) (b : Bool) (k : Process) (pace : Pace) → IsTest s one other b k pace n → k.asked ≡ m.asked → k.time ≡ m.time → Quiet m n
  test_quiet one other true k pace to a c = block_quiet one k pace to a c
  test_quiet one other false k pace to a c = block_quiet other k pace to a c

  keep_quiet : (x : Held) (k : Process) (pace : Pace) → pace ≡ On t → KeepsOperand (noted_stand s) x k pace n → k.asked ≡ m.asked → k.time ≡ m.time → Quiet m n
  keep_quiet x k pace on (kept_marked q marked is) a b = absurd (never t on)
  keep_quiet x k pace on (kept_unready q unmarked unready is) a b = quiet_by m _ n is a b
  keep_quiet x k pace on (kept_ready q c unmarked ready at takes) a b = absurd (never t on)

  reference_quiet : (c : ℕ) (v : ValueTree) (k : Process) (pace : Pace) → pace ≡ On t → ReferenceKept (noted_stand s) c v k pace n → k.asked ≡ m.asked → k.time ≡ m.time → Quiet m n
  reference_quiet c (RefValue kd j) k pace on keeps a b = keep_quiet _ _ pace on keeps a b
  reference_quiet c (IntValue z) k pace on keeps a b = absurd keeps
  reference_quiet c (BoolValue z) k pace on keeps a b = absurd keeps
  reference_quiet c (TextValue z) k pace on keeps a b = absurd keeps
  reference_quiet c VoidValue k pace on keeps a b = absurd keeps
  reference_quiet c (ErrorValue z) k pace on keeps a b = absurd keeps
  reference_quiet c (CompositeValue d vs) k pace on keeps a b = absurd keeps

  operand_quiet : (c : ℕ) (o : Operand) (k : Process) (pace : Pace) → pace ≡ On t → OperandStep code (noted_stand s) c o k pace n → k.asked ≡ m.asked → k.time ≡ m.time → Quiet m n
  operand_quiet c (operand.Value e) k pace on does a b = let d = evaluated_on (noted_stand s) _ _ k _ t pace n on does in reference_quiet c (value_of d.0) _ pace on d.1.1 a b
  operand_quiet c (operand.Effect e args) k pace on does a b = absurd (by_effect code s t _ e args.items k n pace (noted_stand s) on does)

  choice_quiet : (g : ℕ) (group : Group) (k : Process) (pace : Pace) → pace ≡ On t → Chooses code (noted_stand s) g group k pace n → k.asked ≡ m.asked → k.time ≡ m.time → Quiet m n
  choice_quiet g group k pace on (asks_operand b at does) a c = operand_quiet _ b.operand k pace on does a c
  choice_quiet g group k pace on (all_kept none off waits) a c = absurd (never t (sym off ∙ on))

  end_quiet : (l : code_last.Last) (pace : Pace) → pace ≡ On t → Ends code s l m pace n → Quiet m n
  end_quiet (last.Goto b) pace on does = block_quiet b m pace does refl refl
  end_quiet (last.Pass b) pace on does = pass_quiet b pace on does
  end_quiet (last.Test e one other) pace on does = let c = evaluated_on s _ _ m _ t pace n on does in test_quiet one other c.0 _ pace c.1.1 refl refl
  end_quiet (last.Choose g) pace on does = choice_quiet g does.group _ pace on does.chooses refl refl
  end_quiet (last.Return e) pace on does = let c = evaluated_on s _ _ m _ t pace n on does in absurd (never t (sym c.1.1.off ∙ on))
  end_quiet (last.Throw e) pace on does = let c = evaluated_on s _ _ m _ t pace n on does in absurd (by_throw code s t (value_of c.0) _ n pace on c.1.1)

  pub step_quiet : (pace : Pace) → pace ≡ On t → StepsOn code s m pace n → Quiet m n
  step_quiet pace on (by_instruction y at does) = does_quiet y pace on does
  step_quiet pace on (by_last at does) = end_quiet s.block.now.last pace on does
