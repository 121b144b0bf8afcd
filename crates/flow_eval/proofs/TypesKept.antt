-- Well-typed input has a meaning.
use Rattle.std.proofs.Common.{ℕ, List, sym, subst}
use Rattle.std.specs.declared.option.Option.{Option}
use Rattle.flow_tree.specs.Tree.{ExprTree}
use Rattle.flow_value.specs.Values.{ValueTree}
use Rattle.flow_eval.specs.Eval.{Res, Done, Fails, Spent, Meaningless, Setting, function_called}
use Rattle.flow_eval.specs.Functions.{Eval, run_function, deepest}
use Rattle.flow_eval.specs.Typed.{HasType}
use Rattle.flow_eval.specs.WellTyped.{cell_typed, Safe, HasMeaning, CallAt, WellTyped, WellTypedCall, KeepsTypes}
use Rattle.flow_eval.proofs.TypedExprs.{eval_good}
use Rattle.flow_eval.proofs.TypedStatements.{function_good, runner_good}

expression_safe : (s : Setting) (look : List ℕ → Option ValueTree) (e : ExprTree) (w : WellTyped s look e) (left : ℕ)
    → Safe (λ v. HasType s.records (cell_typed w.cell_types) v w.type) (Eval s look e left)
expression_safe s look e w left =
    eval_good s (cell_typed w.cell_types) w.actors (run_function s deepest) w.vars look w.variables_fit w.cells_fit
    (runner_good s (cell_typed w.cell_types) w.actors w.cells_fit w.functions_fit deepest) e w.type left w.yields.0 w.yields.1

call_safe : (s : Setting) (k : ℕ) (vs : List ValueTree) (w : WellTypedCall s k vs) (left : ℕ) → Safe (λ v. HasType s.records (cell_typed w.cell_types) v w.called.returns) (CallAt s k vs left)
call_safe s k vs w left =
    subst (λ o. Safe (λ v. HasType s.records (cell_typed w.cell_types) v w.called.returns) (function_called s (run_function s deepest) o vs left)) (sym w.there)
    (function_good s (cell_typed w.cell_types) w.actors w.cells_fit w.functions_fit deepest w.called vs left (w.functions_fit k w.called w.there) w.arguments_fit)

pub keeps_types : KeepsTypes
keeps_types = record { of_expressions = expression_safe; of_calls = call_safe }

safe_means : (P : ValueTree → Type 0) (r : Res ValueTree) → Safe P r → HasMeaning r
safe_means P (Done v left) h = tt {0}
safe_means P (Fails e left) h = tt {0}
safe_means P Spent h = tt {0}
safe_means P Meaningless h = h

pub expression_means : (s : Setting) (look : List ℕ → Option ValueTree) (e : ExprTree) (left : ℕ) → WellTyped s look e → HasMeaning (Eval s look e left)
expression_means s look e left w = safe_means (λ v. HasType s.records (cell_typed w.cell_types) v w.type) (Eval s look e left) (expression_safe s look e w left)

pub call_means : (s : Setting) (k : ℕ) (vs : List ValueTree) (left : ℕ) → WellTypedCall s k vs → HasMeaning (CallAt s k vs left)
call_means s k vs left w = safe_means (λ v. HasType s.records (cell_typed w.cell_types) v w.called.returns) (CallAt s k vs left) (call_safe s k vs w left)
