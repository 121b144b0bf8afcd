use Rattle.std.proofs.Common.{◌≡◌, ◌<◌, List, map, length, arith, ap, ◌∙◌, sym, subst, slice_get, Some, None}
use Rattle.std.proofs.lemmas.Result.{err_from_is_err_and}
use Rattle.std.specs.Option.{option_map, option_copied}
use Rattle.flow_tree.specs.DeclView.{function_of}
use Rattle.flow_tree.specs.declared.expr.Expr.{Expr}
use Rattle.flow_tree.specs.View.{expr_of, exprs_of}
use Rattle.flow_tree.specs.StmtView.{body_of, simple_of, else_of, into_of, change_of}
use Rattle.flow_value.specs.declared.value.Value.TheVariants.{Error, rolls-Error}
use Rattle.flow_value.specs.declared.value.Value.TheOpen as layer
use Rattle.flow_value.specs.declared.value.Value.TheFolds.{fold-roll-Value}
use Rattle.flow_value.specs.Values.{ValueTree, ErrorValue}
use Rattle.flow_value.specs.View.{value_of, value_step}
use Rattle.flow_eval.specs.Functions.{bound, run_function, exec, scope, skip, if_run, turn_run, loop_run, for_run, try_run, return_run, throw_run, declare_run, assign_run, modify_run, call_run}
use Rattle.flow_eval.specs.Variables.{var_of}
use Rattle.flow_eval.specs.View.{setting_of, by_parts, else_run, Ran}
use Rattle.flow_eval.proofs.Steps.{spent_at, too_deep_at, run_deeper, settled, loop_next, loop_continue, loop_halts}
use Rattle.flow_eval.proofs.Parts.{for_parts_ran, handler_ran, modify_ran}
use Rattle.flow_eval.proofs.StatementKinds.{comes_block, comes_if, comes_while, comes_for, comes_loop, comes_try, comes_return, comes_throw, comes_declare, comes_assign, comes_modify, comes_call, ends_break, ends_continue, ends_choose, ends_wait, stmt_ran}
use Rattle.flow_eval.proofs.+evaluate.Goals as goal

pub evaluate::run_at-returns-then-turns-eq0-clause-gives : goal.evaluate::run_at-returns-then-turns-eq0-clause-gives
evaluate::run_at-returns-then-turns-eq0-clause-gives g t c = (
  spent_at (setting_of g.C.CellView.content c.args.setting.now) c.args.nest c.args.setting.now.functions.now c.args.function
      (map value_of c.args.args.items) c.args.turns.now.left c.requires c.if-turns-eq0.true,
  c.if-turns-eq0.true,
)

pub evaluate::run_at-returns-then-nest-eq0-clause-gives : goal.evaluate::run_at-returns-then-nest-eq0-clause-gives
evaluate::run_at-returns-then-nest-eq0-clause-gives g t c =
    let some : 0 < c.args.turns.now.left = omega (arith, c.if-turns-eq0.false) in
    too_deep_at (setting_of g.C.CellView.content c.args.setting.now) c.args.nest c.args.setting.now.functions.now c.args.function
    (map value_of c.args.args.items) c.args.turns.now.left c.requires c.if-nest-eq0.true some

pub evaluate::run_at-returns-clause-gives : goal.evaluate::run_at-returns-clause-gives
evaluate::run_at-returns-clause-gives g t c =
    let some : 0 < c.args.turns.now.left = omega (arith, c.if-turns-eq0.false) in
    let room : 0 < c.args.nest = omega (arith, c.if-nest-eq0.false) in
    run_deeper (setting_of g.C.CellView.content c.args.setting.now) c.args.nest (slice_get (map function_of c.args.setting.now.functions.now) c.args.function)
    (map value_of c.args.args.items) c.args.turns.now.left c.run_called.result c.run_called.new.turns.left room some c.run_called.ensures.gives

pub statements::run_kind-returns-in-If-clause-gives : goal.statements::run_kind-returns-in-If-clause-gives
statements::run_kind-returns-in-If-clause-gives g t c =
    settled (if_run (setting_of g.C.CellView.content c.args.setting.now) (run_function (setting_of g.C.CellView.content c.args.setting.now) c.args.nest) (expr_of c.in-If.test)
    (scope (exec (setting_of g.C.CellView.content c.args.setting.now) (run_function (setting_of g.C.CellView.content c.args.setting.now) c.args.nest) (body_of c.in-If.body.items)
    (option_copied c.args.caught))) (else_run (setting_of g.C.CellView.content c.args.setting.now) (run_function (setting_of g.C.CellView.content c.args.setting.now) c.args.nest)
    (else_of c.in-If.otherwise) (option_copied c.args.caught)) (map var_of c.args.locals.now.items) c.args.turns.now.left) _ _ c.run_if.result _ _ c.run_if.ensures.gives
    (comes_if (setting_of g.C.CellView.content c.args.setting.now) (run_function (setting_of g.C.CellView.content c.args.setting.now) c.args.nest) (option_copied c.args.caught)
    (map var_of c.args.locals.now.items) c.args.turns.now.left c.args.at c.args.kind.now c.in-If.test c.in-If.body c.in-If.otherwise c.in-If.is)

pub statements::run_kind-returns-in-While-clause-gives : goal.statements::run_kind-returns-in-While-clause-gives
statements::run_kind-returns-in-While-clause-gives g t c =
    settled (loop_run (setting_of g.C.CellView.content c.args.setting.now) (run_function (setting_of g.C.CellView.content c.args.setting.now) c.args.nest) (Some (expr_of c.in-While.test)) skip
    (exec (setting_of g.C.CellView.content c.args.setting.now) (run_function (setting_of g.C.CellView.content c.args.setting.now) c.args.nest) (body_of c.in-While.body.items)
    (option_copied c.args.caught)) (map var_of c.args.locals.now.items) c.args.turns.now.left) _ _ c.run_loop.result _ _ c.run_loop.ensures.gives
    (comes_while (setting_of g.C.CellView.content c.args.setting.now) (run_function (setting_of g.C.CellView.content c.args.setting.now) c.args.nest) (option_copied c.args.caught)
    (map var_of c.args.locals.now.items) c.args.turns.now.left c.args.at c.args.kind.now c.in-While.test c.in-While.body c.in-While.is)

pub statements::run_kind-returns-in-For-clause-gives : goal.statements::run_kind-returns-in-For-clause-gives
statements::run_kind-returns-in-For-clause-gives g t c =
    settled (scope (for_run (setting_of g.C.CellView.content c.args.setting.now) (run_function (setting_of g.C.CellView.content c.args.setting.now) c.args.nest)
    (exec (setting_of g.C.CellView.content c.args.setting.now) (run_function (setting_of g.C.CellView.content c.args.setting.now) c.args.nest) (simple_of c.in-For.init)
    (option_copied c.args.caught)) (option_map expr_of c.in-For.test)
    (exec (setting_of g.C.CellView.content c.args.setting.now) (run_function (setting_of g.C.CellView.content c.args.setting.now) c.args.nest) (simple_of c.in-For.step)
    (option_copied c.args.caught)) (exec (setting_of g.C.CellView.content c.args.setting.now) (run_function (setting_of g.C.CellView.content c.args.setting.now) c.args.nest)
    (body_of c.in-For.body.items) (option_copied c.args.caught))) (map var_of c.args.locals.now.items) c.args.turns.now.left) _ _ c.run_for.result _ _ c.run_for.ensures.gives
    (comes_for (setting_of g.C.CellView.content c.args.setting.now) (run_function (setting_of g.C.CellView.content c.args.setting.now) c.args.nest) (option_copied c.args.caught)
    (map var_of c.args.locals.now.items) c.args.turns.now.left c.args.at c.args.kind.now c.in-For.init c.in-For.test c.in-For.step c.in-For.body c.in-For.is)

pub statements::run_kind-returns-in-Loop-clause-gives : goal.statements::run_kind-returns-in-Loop-clause-gives
statements::run_kind-returns-in-Loop-clause-gives g t c =
    settled (loop_run (setting_of g.C.CellView.content c.args.setting.now) (run_function (setting_of g.C.CellView.content c.args.setting.now) c.args.nest) None skip
    (exec (setting_of g.C.CellView.content c.args.setting.now) (run_function (setting_of g.C.CellView.content c.args.setting.now) c.args.nest) (body_of c.in-Loop.body.items)
    (option_copied c.args.caught)) (map var_of c.args.locals.now.items) c.args.turns.now.left) _ _ c.run_loop-in-Loop.result _ _ c.run_loop-in-Loop.ensures.gives
    (comes_loop (setting_of g.C.CellView.content c.args.setting.now) (run_function (setting_of g.C.CellView.content c.args.setting.now) c.args.nest) (option_copied c.args.caught)
    (map var_of c.args.locals.now.items) c.args.turns.now.left c.args.at c.args.kind.now c.in-Loop.body c.in-Loop.is)

pub statements::run_kind-returns-in-Try-clause-gives : goal.statements::run_kind-returns-in-Try-clause-gives
statements::run_kind-returns-in-Try-clause-gives g t c =
    settled (try_run (exec (setting_of g.C.CellView.content c.args.setting.now) (run_function (setting_of g.C.CellView.content c.args.setting.now) c.args.nest) (body_of c.in-Try.body.items)
    (option_copied c.args.caught)) c.in-Try.error.name (exec (setting_of g.C.CellView.content c.args.setting.now) (run_function (setting_of g.C.CellView.content c.args.setting.now) c.args.nest)
    (body_of c.in-Try.handler.items) (Some c.in-Try.error.name)) (map var_of c.args.locals.now.items) c.args.turns.now.left) _ _ c.run_try.result _ _ c.run_try.ensures.gives
    (comes_try (setting_of g.C.CellView.content c.args.setting.now) (run_function (setting_of g.C.CellView.content c.args.setting.now) c.args.nest) (option_copied c.args.caught)
    (map var_of c.args.locals.now.items) c.args.turns.now.left c.args.at c.args.kind.now c.in-Try.body c.in-Try.field-1 c.in-Try.error c.in-Try.handler c.in-Try.is)

pub statements::run_kind-returns-in-Block-clause-gives : goal.statements::run_kind-returns-in-Block-clause-gives
statements::run_kind-returns-in-Block-clause-gives g t c =
    let s = setting_of g.C.CellView.content c.args.setting.now in
    let run = run_function s c.args.nest in
    let caught = option_copied c.args.caught in
    let vars = map var_of c.args.locals.now.items in
    let left = c.args.turns.now.left in
    settled (scope (exec s run (body_of c.in-Block.body.items) caught) vars left) _ _ c.run_scope.result _ _ c.run_scope.ensures.gives
    (comes_block s run caught vars left c.args.at c.args.kind.now c.in-Block.body c.in-Block.is)

pub statements::run_kind-returns-in-Return-clause-gives : goal.statements::run_kind-returns-in-Return-clause-gives
statements::run_kind-returns-in-Return-clause-gives g t c =
    let s = setting_of g.C.CellView.content c.args.setting.now in
    let run = run_function s c.args.nest in
    let caught = option_copied c.args.caught in
    let vars = map var_of c.args.locals.now.items in
    let left = c.args.turns.now.left in
    settled (return_run s run (option_map expr_of c.in-Return.value) vars left) _ _ c.run_return.result _ _ c.run_return.ensures.gives
    (comes_return s run caught vars left c.args.at c.args.kind.now c.in-Return.value c.in-Return.is)

pub statements::run_kind-returns-in-Throw-clause-gives : goal.statements::run_kind-returns-in-Throw-clause-gives
statements::run_kind-returns-in-Throw-clause-gives g t c =
    let s = setting_of g.C.CellView.content c.args.setting.now in
    let run = run_function s c.args.nest in
    let caught = option_copied c.args.caught in
    let vars = map var_of c.args.locals.now.items in
    let left = c.args.turns.now.left in
    settled (throw_run s run (option_map expr_of c.in-Throw.error) caught vars left) _ _ c.run_throw.result _ _ c.run_throw.ensures.gives
    (comes_throw s run caught vars left c.args.at c.args.kind.now c.in-Throw.error c.in-Throw.is)

pub statements::run_kind-returns-in-Declare-clause-gives : goal.statements::run_kind-returns-in-Declare-clause-gives
statements::run_kind-returns-in-Declare-clause-gives g t c =
    let s = setting_of g.C.CellView.content c.args.setting.now in
    let run = run_function s c.args.nest in
    let caught = option_copied c.args.caught in
    let vars = map var_of c.args.locals.now.items in
    let left = c.args.turns.now.left in
    settled (declare_run s run (into_of c.in-Declare.into) (option_map expr_of c.in-Declare.value) vars left) _ _ c.run_declare.result _ _ c.run_declare.ensures.gives
    (comes_declare s run caught vars left c.args.at c.args.kind.now c.in-Declare.into c.in-Declare.value c.in-Declare.is)

pub statements::run_kind-returns-in-Assign-clause-gives : goal.statements::run_kind-returns-in-Assign-clause-gives
statements::run_kind-returns-in-Assign-clause-gives g t c =
    let s = setting_of g.C.CellView.content c.args.setting.now in
    let run = run_function s c.args.nest in
    let caught = option_copied c.args.caught in
    let vars = map var_of c.args.locals.now.items in
    let left = c.args.turns.now.left in
    settled (assign_run s run c.in-Assign.target.path.items (expr_of c.in-Assign.value) vars left) _ _ c.run_assign.result _ _ c.run_assign.ensures.gives
    (comes_assign s run caught vars left c.args.at c.args.kind.now c.in-Assign.target c.in-Assign.value c.in-Assign.is)

pub statements::run_kind-returns-in-Modify-clause-gives : goal.statements::run_kind-returns-in-Modify-clause-gives
statements::run_kind-returns-in-Modify-clause-gives g t c =
    let s = setting_of g.C.CellView.content c.args.setting.now in
    let run = run_function s c.args.nest in
    let caught = option_copied c.args.caught in
    let vars = map var_of c.args.locals.now.items in
    let left = c.args.turns.now.left in
    settled (modify_run s run c.in-Modify.target.path.items (change_of c.in-Modify.change) vars left) _ _ c.run_modify.result _ _ c.run_modify.ensures.gives
    (comes_modify s run caught vars left c.args.at c.args.kind.now c.in-Modify.target c.in-Modify.change c.in-Modify.is)

pub statements::run_kind-returns-in-Call-clause-gives : goal.statements::run_kind-returns-in-Call-clause-gives
statements::run_kind-returns-in-Call-clause-gives g t c =
    let s = setting_of g.C.CellView.content c.args.setting.now in
    let run = run_function s c.args.nest in
    let caught = option_copied c.args.caught in
    let vars = map var_of c.args.locals.now.items in
    let left = c.args.turns.now.left in
    settled (call_run s run c.in-Call.target.path.items (exprs_of c.in-Call.args.items) vars left) _ _ c.run_call.result _ _
    (subst (λ (es : List Expr). Ran (call_run s run c.in-Call.target.path.items (exprs_of es) vars left) c.run_call.result (map var_of c.run_call.new.locals.items) c.run_call.new.turns.left)
    c.deref.ensures.value c.run_call.ensures.gives) (comes_call s run caught vars left c.args.at c.args.kind.now c.in-Call.target c.in-Call.args c.in-Call.is)

pub statements::run_kind-returns-in-Break-clause-gives : goal.statements::run_kind-returns-in-Break-clause-gives
statements::run_kind-returns-in-Break-clause-gives g t c =
    let s = setting_of g.C.CellView.content c.args.setting.now in
    let run = run_function s c.args.nest in
    let caught = option_copied c.args.caught in
    let vars = map var_of c.args.locals.now.items in
    let left = c.args.turns.now.left in
    ends_break s run caught vars left c.args.at c.args.kind.now c.in-Break.is

pub statements::run_kind-returns-in-Continue-clause-gives : goal.statements::run_kind-returns-in-Continue-clause-gives
statements::run_kind-returns-in-Continue-clause-gives g t c =
    let s = setting_of g.C.CellView.content c.args.setting.now in
    let run = run_function s c.args.nest in
    let caught = option_copied c.args.caught in
    let vars = map var_of c.args.locals.now.items in
    let left = c.args.turns.now.left in
    ends_continue s run caught vars left c.args.at c.args.kind.now c.in-Continue.is

pub statements::run_kind-returns-in-Choose-clause-gives : goal.statements::run_kind-returns-in-Choose-clause-gives
statements::run_kind-returns-in-Choose-clause-gives g t c =
    let s = setting_of g.C.CellView.content c.args.setting.now in
    let run = run_function s c.args.nest in
    let caught = option_copied c.args.caught in
    let vars = map var_of c.args.locals.now.items in
    let left = c.args.turns.now.left in
    ends_choose s run caught vars left c.args.at c.args.kind.now c.in-Choose.field-0 c.in-Choose.is

pub statements::run_kind-returns-in-Wait-clause-gives : goal.statements::run_kind-returns-in-Wait-clause-gives
statements::run_kind-returns-in-Wait-clause-gives g t c =
    let s = setting_of g.C.CellView.content c.args.setting.now in
    let run = run_function s c.args.nest in
    let caught = option_copied c.args.caught in
    let vars = map var_of c.args.locals.now.items in
    let left = c.args.turns.now.left in
    ends_wait s run caught vars left c.args.at c.args.kind.now c.in-Wait.field-0 c.in-Wait.is

pub statements::run_loop-returns-in_err-run_turn-clause-gives : goal.statements::run_loop-returns-in_err-run_turn-clause-gives
statements::run_loop-returns-in_err-run_turn-clause-gives g t c =
    let s = setting_of g.C.CellView.content c.args.setting.now in
    let pass = by_parts turn_run s c.args.nest (option_copied c.args.test) (option_copied c.args.step) c.args.body.now.items (option_copied c.args.caught) in
    let all = by_parts loop_run s c.args.nest (option_copied c.args.test) (option_copied c.args.step) c.args.body.now.items (option_copied c.args.caught) in
    let pos : 0 < c.loop-turns.turns.left = omega (arith, c.loop-turns-test.true) in
    let p = err_from_is_err_and c.from_residual.result c.from_residual.ensures.1 in
    rw (p.1, p.2) (loop_halts pass (all (map var_of c.args.locals.now.items) c.args.turns.now.left) (map var_of c.loop-turns.locals.items) (map var_of c.run_turn.new.locals.items)
    c.loop-turns.turns.left c.run_turn.new.turns.left c.in_err-run_turn.field-0.0 c.loop-turns.invariant.comes pos c.in_err-run_turn.ensures.gives)

pub statements::run_loop-loop-turns-preserved-in-Next : goal.statements::run_loop-loop-turns-preserved-in-Next
statements::run_loop-loop-turns-preserved-in-Next g t c =
    let s = setting_of g.C.CellView.content c.args.setting.now in
    let pass = by_parts turn_run s c.args.nest (option_copied c.args.test) (option_copied c.args.step) c.args.body.now.items (option_copied c.args.caught) in
    let all = by_parts loop_run s c.args.nest (option_copied c.args.test) (option_copied c.args.step) c.args.body.now.items (option_copied c.args.caught) in
    let pos : 0 < c.loop-turns.turns.left = omega (arith, c.loop-turns-test.true) in
    record {
      fewer = omega (arith, c.run_turn.ensures.fewer, c.loop-turns.invariant.fewer);
      comes = loop_next pass (all (map var_of c.args.locals.now.items) c.args.turns.now.left) (map var_of c.loop-turns.locals.items) (map var_of c.run_turn.new.locals.items)
          c.loop-turns.turns.left c.run_turn.new.turns.left c.in_ok-run_turn.field-0 c.loop-turns.invariant.comes pos c.run_turn.ensures.fewer c.in_ok-run_turn.ensures.gives c.in-Next.is;
    }

pub statements::run_loop-loop-turns-preserved : goal.statements::run_loop-loop-turns-preserved
statements::run_loop-loop-turns-preserved g t c =
    let s = setting_of g.C.CellView.content c.args.setting.now in
    let pass = by_parts turn_run s c.args.nest (option_copied c.args.test) (option_copied c.args.step) c.args.body.now.items (option_copied c.args.caught) in
    let all = by_parts loop_run s c.args.nest (option_copied c.args.test) (option_copied c.args.step) c.args.body.now.items (option_copied c.args.caught) in
    let pos : 0 < c.loop-turns.turns.left = omega (arith, c.loop-turns-test.true) in
    record {
      fewer = omega (arith, c.run_turn.ensures.fewer, c.loop-turns.invariant.fewer);
      comes = loop_continue pass (all (map var_of c.args.locals.now.items) c.args.turns.now.left) (map var_of c.loop-turns.locals.items) (map var_of c.run_turn.new.locals.items)
          c.loop-turns.turns.left c.run_turn.new.turns.left c.in_ok-run_turn.field-0 c.loop-turns.invariant.comes pos c.run_turn.ensures.fewer c.in_ok-run_turn.ensures.gives c.in-Continue.is;
    }

pub statements::run_stmt-returns-clause-gives : goal.statements::run_stmt-returns-clause-gives
statements::run_stmt-returns-clause-gives g t c =
    stmt_ran (setting_of g.C.CellView.content c.args.setting.now) (run_function (setting_of g.C.CellView.content c.args.setting.now) c.args.nest) (option_copied c.args.caught)
    (map var_of c.args.locals.now.items) c.args.turns.now.left c.args.stmt.now c.run_kind.result (map var_of c.run_kind.new.locals.items) c.run_kind.new.turns.left c.run_kind.ensures.gives

pub statements::run_handler-returns-clause-gives : goal.statements::run_handler-returns-clause-gives
statements::run_handler-returns-clause-gives g t c =
    let error : value_of (Error c.args.code) ≡ ErrorValue c.args.code.0 =
    ap value_of (sym (rolls-Error c.args.code)) ∙ fold-roll-Value ValueTree value_step (layer.Error c.args.code) in
    let count : c.len-count.result ≡ length c.args.locals.now.items = omega (arith, c.len-count.ensures, c.args.locals.now.ok.0) in
    handler_ran (setting_of g.C.CellView.content c.args.setting.now) (run_function (setting_of g.C.CellView.content c.args.setting.now) c.args.nest) c.args.error.now.name c.args.handler.now.items
    c.deref.result.now c.args.code.0 c.len-count.result c.run_body-flow.result c.args.locals.now.items c.run_body-flow.new.locals.items c.truncate.new.self.items
    (map var_of c.bind.new.vars.items) c.args.turns.now.left c.run_body-flow.new.turns.left c.deref.ensures.value
    (c.in_ok-bind.ensures ∙ ap (bound (map var_of c.args.locals.now.items) c.args.error.now.name) error) count c.truncate.ensures.items c.run_body-flow.ensures.gives

pub statements::run_for_parts-returns-in-Next-clause-gives : goal.statements::run_for_parts-returns-in-Next-clause-gives
statements::run_for_parts-returns-in-Next-clause-gives g t c =
    for_parts_ran (setting_of g.C.CellView.content c.args.setting.now) (run_function (setting_of g.C.CellView.content c.args.setting.now) c.args.nest) (option_copied c.args.caught) c.args.init.now
    (option_copied c.as_ref.result) c.args.test.now (option_copied c.as_ref-in-Next.result) c.args.step.now (option_copied c.as_ref-in-Next-2.result)
    (exec (setting_of g.C.CellView.content c.args.setting.now) (run_function (setting_of g.C.CellView.content c.args.setting.now) c.args.nest) (body_of c.args.body.now.items)
    (option_copied c.args.caught)) c.in_ok-run_part.field-0 c.run_loop.result (map var_of c.args.locals.now.items) (map var_of c.run_part.new.locals.items) (map var_of c.run_loop.new.locals.items)
    c.args.turns.now.left c.run_part.new.turns.left c.run_loop.new.turns.left
    c.as_ref.ensures.value c.as_ref-in-Next.ensures.value c.as_ref-in-Next-2.ensures.value c.in-Next.is c.in_ok-run_part.ensures.gives c.run_loop.ensures.gives

pub statements::run_modify-returns-clause-gives : goal.statements::run_modify-returns-clause-gives
statements::run_modify-returns-clause-gives g t c =
    modify_ran (setting_of g.C.CellView.content c.args.setting.now) (run_function (setting_of g.C.CellView.content c.args.setting.now) c.args.nest) c.args.target.now.path.items
    (change_of c.args.change.now) (value_of c.in-Some.old.now) (value_of c.in_ok-value.value) (value_of c.in_ok-value-2.value) c.store.result
    (map var_of c.args.locals.now.items) (map var_of c.store.new.locals.items) c.args.turns.now.left c.operand.new.turns.left
    (sym c.in-Some.ensures) c.in_ok-value.ensures.gives c.in_ok-value-2.ensures c.store.ensures
