-- The weight of an actor, which bounds the blocks of its class: 2 for the actor and for each statement, 3 more for an
-- `if`, 4 for a `loop`, 6 for a `while` or a `for`, 3 for a `try`, 2 for a `choose` and 3 for each of its branches.
use Rattle.std.specs.Prelude.{ℕ, ◌+◌}
use Rattle.flow_tree.specs.Body.{Body, IfStmt, IfElseStmt, WhileStmt, ForStmt, LoopStmt, TryStmt, ChooseStmt, Branches}
use Rattle.flow_tree.specs.Folds.{Fold, folded, folded_branches, counting}
use Rattle.flow_tree.specs.Decls.{RoutineTree}

abbrev pub stmt_weight : Body → ℕ
stmt_weight (IfStmt at e b k) = 5
stmt_weight (IfElseStmt at e b c k) = 5
stmt_weight (WhileStmt at e b k) = 8
stmt_weight (ForStmt at i e t b k) = 8
stmt_weight (LoopStmt at b k) = 6
stmt_weight (TryStmt at b p x h k) = 5
stmt_weight (ChooseStmt at bs k) = 4
stmt_weight b = 2

abbrev pub weights_counted : Fold ℕ
weights_counted = counting (λ b n. stmt_weight b + n) (λ x n. n) (λ w n. 3 + n)

abbrev pub body_weight : Body → ℕ
body_weight b = folded weights_counted b

abbrev pub branch_weight : Branches → ℕ
branch_weight bs = folded_branches weights_counted bs

abbrev pub weight : RoutineTree → ℕ
weight a = 2 + body_weight a.body
