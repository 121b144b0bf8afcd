use Rattle.std.proofs.Common.{◌≡◌, ◌+◌, ◌*◌, ◌≤◌, map, drop}
use Rattle.std.specs.Option.{option_map, option_copied}
use Rattle.flow_tree.specs.View.{expr_of, exprs_of}
use Rattle.flow_tree.specs.StmtView.{change_of, body_of}
use Rattle.flow_value.specs.View.{value_of}
use Rattle.flow_eval.specs.Eval.{eval_all}
use Rattle.flow_eval.specs.Functions.{run_function, exec, loop_run, turn_run}
use Rattle.flow_ast.specs.TypingNames.{named}
use Rattle.flow_eval.specs.Variables.{var_of}
use Rattle.flow_eval.specs.View.{setting_of, by_parts}
use Rattle.flow_eval.proofs.Steps.{prefixed, LoopAt}
use Rattle.flow_eval.proofs.Weights.{room, body_room_at, weight, weights, maybe_weight, change_weight, body_weight, stmt_weight, kind_weight, part_of, else_of}
use Rattle.flow_eval.proofs.+evaluate.Given as goal

abbrev pub decreases-evaluate::evaluate : goal.decreases-evaluate::evaluate
decreases-evaluate::evaluate g l = l.nest * room l.setting.now.functions.now + weight (expr_of l.expr.now)

abbrev pub decreases-evaluate::evaluate_index : goal.decreases-evaluate::evaluate_index
decreases-evaluate::evaluate_index g l = l.nest * room l.setting.now.functions.now + (weight (expr_of l.of.now) + weight (expr_of l.index.now) + 2)

abbrev pub decreases-evaluate::evaluate_second : goal.decreases-evaluate::evaluate_second
decreases-evaluate::evaluate_second g l = l.nest * room l.setting.now.functions.now + (weight (expr_of l.right.now) + 1)

abbrev pub decreases-evaluate::evaluate_all : goal.decreases-evaluate::evaluate_all
decreases-evaluate::evaluate_all g l = l.nest * room l.setting.now.functions.now + (weights (exprs_of l.args.now) + 1)

abbrev pub decreases-evaluate::call_named : goal.decreases-evaluate::call_named
decreases-evaluate::call_named g l = l.nest * room l.setting.now.functions.now + 2

abbrev pub decreases-evaluate::call_function : goal.decreases-evaluate::call_function
decreases-evaluate::call_function g l = l.nest * room l.setting.now.functions.now + 1

abbrev pub decreases-evaluate::run_at : goal.decreases-evaluate::run_at
decreases-evaluate::run_at g l = l.nest * room l.setting.now.functions.now + 0

abbrev pub decreases-statements::run_body : goal.decreases-statements::run_body
decreases-statements::run_body g l = l.nest * room l.setting.now.functions.now + (body_weight l.stmts.now + 1)

abbrev pub decreases-statements::run_stmt : goal.decreases-statements::run_stmt
decreases-statements::run_stmt g l = l.nest * room l.setting.now.functions.now + stmt_weight l.stmt.now

abbrev pub decreases-statements::run_kind : goal.decreases-statements::run_kind
decreases-statements::run_kind g l = l.nest * room l.setting.now.functions.now + kind_weight l.kind.now

abbrev pub decreases-statements::run_scope : goal.decreases-statements::run_scope
decreases-statements::run_scope g l = l.nest * room l.setting.now.functions.now + (body_weight l.stmts.now.items + 2)

abbrev pub decreases-statements::run_if : goal.decreases-statements::run_if
decreases-statements::run_if g l = l.nest * room l.setting.now.functions.now + (weight (expr_of l.test.now) + body_weight l.body.now.items + else_of l.otherwise.now + 8)

abbrev pub decreases-statements::run_else : goal.decreases-statements::run_else
decreases-statements::run_else g l = l.nest * room l.setting.now.functions.now + (else_of l.otherwise.now + 3)

abbrev pub decreases-statements::run_pass : goal.decreases-statements::run_pass
decreases-statements::run_pass g l = l.nest * room l.setting.now.functions.now + (maybe_weight (option_map expr_of (option_copied l.test)) + body_weight l.body.now.items + 5)

abbrev pub decreases-statements::run_loop : goal.decreases-statements::run_loop
decreases-statements::run_loop g l = l.nest * room l.setting.now.functions.now +
    (maybe_weight (option_map expr_of (option_copied l.test)) + part_of (option_copied l.step) + body_weight l.body.now.items + 12)

abbrev pub decreases-statements::run_part : goal.decreases-statements::run_part
decreases-statements::run_part g l = l.nest * room l.setting.now.functions.now + (part_of (option_copied l.part) + 1)

abbrev pub decreases-statements::run_for : goal.decreases-statements::run_for
decreases-statements::run_for g l = l.nest * room l.setting.now.functions.now +
    (part_of l.init.now + maybe_weight (option_map expr_of l.test.now) + part_of l.step.now + body_weight l.body.now.items + 25)

abbrev pub decreases-statements::run_for_parts : goal.decreases-statements::run_for_parts
decreases-statements::run_for_parts g l = l.nest * room l.setting.now.functions.now +
    (part_of l.init.now + maybe_weight (option_map expr_of l.test.now) + part_of l.step.now + body_weight l.body.now.items + 20)

abbrev pub decreases-statements::run_try : goal.decreases-statements::run_try
decreases-statements::run_try g l = l.nest * room l.setting.now.functions.now + (body_weight l.body.now.items + body_weight l.handler.now.items + 10)

abbrev pub decreases-statements::run_handler : goal.decreases-statements::run_handler
decreases-statements::run_handler g l = l.nest * room l.setting.now.functions.now + (body_weight l.handler.now.items + 4)

abbrev pub decreases-statements::run_return : goal.decreases-statements::run_return
decreases-statements::run_return g l = l.nest * room l.setting.now.functions.now + (maybe_weight (option_map expr_of l.value.now) + 2)

abbrev pub decreases-statements::run_throw : goal.decreases-statements::run_throw
decreases-statements::run_throw g l = l.nest * room l.setting.now.functions.now + (maybe_weight (option_map expr_of l.error.now) + 2)

abbrev pub decreases-statements::run_declare : goal.decreases-statements::run_declare
decreases-statements::run_declare g l = l.nest * room l.setting.now.functions.now + (maybe_weight (option_map expr_of l.value.now) + 2)

abbrev pub decreases-statements::run_assign : goal.decreases-statements::run_assign
decreases-statements::run_assign g l = l.nest * room l.setting.now.functions.now + (weight (expr_of l.value.now) + 2)

abbrev pub decreases-statements::operand : goal.decreases-statements::operand
decreases-statements::operand g l = l.nest * room l.setting.now.functions.now + (change_weight (change_of l.change.now) + 2)

abbrev pub decreases-statements::run_modify : goal.decreases-statements::run_modify
decreases-statements::run_modify g l = l.nest * room l.setting.now.functions.now + (change_weight (change_of l.change.now) + 3)

abbrev pub decreases-statements::run_call : goal.decreases-statements::run_call
decreases-statements::run_call g l = l.nest * room l.setting.now.functions.now + (weights (exprs_of l.args.now) + 4)

abbrev pub decreases-evaluate::run_called : goal.decreases-evaluate::run_called
decreases-evaluate::run_called g l = l.nest * room l.setting.now.functions.now + body_room_at l.setting.now.functions.now l.function

abbrev pub decreases-statements::run_turn : goal.decreases-statements::run_turn
decreases-statements::run_turn g l = l.nest * room l.setting.now.functions.now +
    (maybe_weight (option_map expr_of (option_copied l.test)) + part_of (option_copied l.step) + body_weight l.body.now.items + 8)

abbrev pub invariant-evaluate::evaluate_all-loop-arg : goal.invariant-evaluate::evaluate_all-loop-arg
invariant-evaluate::evaluate_all-loop-arg g l = record {
  fewer : l.turns.left ≤ l.initial.turns.left;
  comes : eval_all (setting_of g.C.CellView.content l.setting) (run_function (setting_of g.C.CellView.content l.setting) l.nest) (named (map var_of l.vars))
      (exprs_of l.args) l.initial.turns.left
      ≡ prefixed (setting_of g.C.CellView.content l.setting) (run_function (setting_of g.C.CellView.content l.setting) l.nest) (map value_of l.values.items)
      (eval_all (setting_of g.C.CellView.content l.setting) (run_function (setting_of g.C.CellView.content l.setting) l.nest) (named (map var_of l.vars))
      (exprs_of (drop l.arg-index l.args)) l.turns.left);
}

abbrev pub invariant-statements::run_body-loop-stmt : goal.invariant-statements::run_body-loop-stmt
invariant-statements::run_body-loop-stmt g l = record {
  fewer : l.turns.left ≤ l.initial.turns.left;
  comes : exec (setting_of g.C.CellView.content l.setting) (run_function (setting_of g.C.CellView.content l.setting) l.nest) (body_of l.stmts) (option_copied l.caught)
      (map var_of l.initial.locals.items) l.initial.turns.left
      ≡ exec (setting_of g.C.CellView.content l.setting) (run_function (setting_of g.C.CellView.content l.setting) l.nest) (body_of (drop l.stmt-index l.stmts)) (option_copied l.caught)
      (map var_of l.locals.items) l.turns.left;
}

abbrev pub invariant-statements::run_loop-loop-turns : goal.invariant-statements::run_loop-loop-turns
invariant-statements::run_loop-loop-turns g l = record {
  fewer : l.turns.left ≤ l.initial.turns.left;
  comes : LoopAt (by_parts turn_run (setting_of g.C.CellView.content l.setting) l.nest (option_copied l.test) (option_copied l.step) l.body.items (option_copied l.caught))
      (by_parts loop_run (setting_of g.C.CellView.content l.setting) l.nest (option_copied l.test) (option_copied l.step) l.body.items (option_copied l.caught)
      (map var_of l.initial.locals.items) l.initial.turns.left)
      (map var_of l.locals.items) l.turns.left;
}

abbrev pub decreases-statements::run_loop-loop-turns : goal.decreases-statements::run_loop-loop-turns
decreases-statements::run_loop-loop-turns g l = l.turns.left
