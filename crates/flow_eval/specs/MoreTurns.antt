-- What more turns change of evaluation: nothing but where turns run out.
use Rattle.std.specs.Prelude.{◌≡◌, ℕ, ◌+◌, ◌⊎◌, List}
use Rattle.std.specs.declared.option.Option.{Option}
use Rattle.flow_tree.specs.Tree.{ExprTree, ExprTrees}
use Rattle.flow_tree.specs.Decls.{RoutineTree}
use Rattle.flow_value.specs.Values.{ValueTree}
use Rattle.flow_eval.specs.Eval.{Res, Done, Fails, Spent, Meaningless, Setting, eval_all}
use Rattle.flow_eval.specs.Functions.{run_function, deepest, Eval, Call}

-- so many turns more are left
abbrev pub plus : {A : Type 0} → ℕ → Res A → Res A
plus k (Done v left) = Done v (left + k)
plus k (Fails e left) = Fails e (left + k)
plus k Spent = Spent
plus k Meaningless = Meaningless

-- the second is the first with so many turns more, or the first ran out of turns
abbrev pub Later : {A : Type 0} → ℕ → Res A → Res A → Type 0
Later k r s = (s ≡ plus k r) ⊎ (r ≡ Spent)

-- with more turns an expression, arguments and a call come to the same, or they ran out of turns before
pub record MoreTurns : Type 0 where
  pub value : (k : ℕ) (s : Setting) (look : List ℕ → Option ValueTree) (e : ExprTree) (left : ℕ)
      → Later k (Eval s look e left) (Eval s look e (left + k))
  pub values : (k : ℕ) (s : Setting) (look : List ℕ → Option ValueTree) (es : ExprTrees) (left : ℕ)
      → Later k (eval_all s (run_function s deepest) look es left) (eval_all s (run_function s deepest) look es (left + k))
  pub call : (k : ℕ) (s : Setting) (f : RoutineTree) (vs : List ValueTree) (left : ℕ) → Later k (Call s f vs left) (Call s f vs (left + k))
