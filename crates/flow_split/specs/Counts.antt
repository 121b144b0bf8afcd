-- How much of a class each body takes: blocks beyond that in which it begins, locals, and groups. All of it is known
-- before a body is lowered, so no number is filled in afterwards.
use Rattle.std.specs.Prelude.{ℕ, suc, ◌+◌, Bool, true, false, if◌then◌else◌}
use Rattle.std.specs.declared.option.Option.{Option}
use Rattle.std.specs.declared.option.Option.TheVariants.{None, Some}
use Rattle.flow_tree.specs.Tree.{ExprTree}
use Rattle.flow_tree.specs.Body.{IntoTree, WaitTree, Body, End, BlockStmt, IfStmt, IfElseStmt, WhileStmt, ForStmt, LoopStmt, BreakStmt, ContinueStmt, ReturnStmt, ThrowStmt, TryStmt, ChooseStmt, DeclareStmt, AssignStmt, ModifyStmt, CallStmt, WaitStmt, Branches, NoBranches, MoreBranches}
use Rattle.flow_tree.specs.Folds.{Fold, folded, folded_branches, counting}
use Rattle.flow_ast.specs.Leaving.{has_statement}

-- behind a statement that nothing goes on from a block begins only if a statement stands there
abbrev pub behind : Body → ℕ → ℕ
behind k n = if has_statement k then suc n else 0

-- a break or a continue out of a try body has a block outside it
abbrev pub exit_blocks : Bool → ℕ
exit_blocks tried = if tried then 1 else 0

-- the test of a `for` has a block of its own
abbrev pub test_blocks : Option ExprTree → ℕ
test_blocks None = 0
test_blocks (Some e) = 1

-- The blocks of a body beyond that in which it begins. Whether a try body stands between it and its loop matters to a
-- break or a continue.
abbrev mutual
  pub blocks_in : (tried : Bool) → Body → ℕ
  blocks_in t End = 0
  blocks_in t (BlockStmt at b k) = blocks_in t b + suc (blocks_in t k)
  blocks_in t (IfStmt at e b k) = suc (blocks_in t b) + suc (blocks_in t k)
  blocks_in t (IfElseStmt at e b c k) = suc (blocks_in t b) + suc (blocks_in t c) + suc (blocks_in t k)
  blocks_in t (WhileStmt at e b k) = 1 + suc (blocks_in false b) + suc (blocks_in t k)
  blocks_in t (ForStmt at i e p b k) =
      blocks_in t i + test_blocks e + suc (blocks_in false b) + suc (blocks_in t p) + suc (blocks_in t k)
  blocks_in t (LoopStmt at b k) = suc (blocks_in false b) + suc (blocks_in t k)
  blocks_in t (BreakStmt at k) = exit_blocks t + behind k (blocks_in t k)
  blocks_in t (ContinueStmt at k) = exit_blocks t + behind k (blocks_in t k)
  blocks_in t (ReturnStmt at e k) = behind k (blocks_in t k)
  blocks_in t (ThrowStmt at e k) = behind k (blocks_in t k)
  blocks_in t (TryStmt at b p x h k) = suc (blocks_in true b) + suc (blocks_in t h) + suc (blocks_in t k)
  blocks_in t (ChooseStmt at bs k) = branch_blocks t bs + suc (blocks_in t k)
  blocks_in t (DeclareStmt at i e k) = blocks_in t k
  blocks_in t (AssignStmt at xs e k) = blocks_in t k
  blocks_in t (ModifyStmt at xs c k) = blocks_in t k
  blocks_in t (CallStmt at xs es k) = blocks_in t k
  blocks_in t (WaitStmt at w k) = suc (blocks_in t k)

  pub branch_blocks : (tried : Bool) → Branches → ℕ
  branch_blocks t NoBranches = 0
  branch_blocks t (MoreBranches at w b bs) = suc (blocks_in t b) + branch_blocks t bs

-- a declared variable is a local, but for a state variable
abbrev pub local_count : IntoTree → ℕ
local_count i = if i.state then 0 else 1

abbrev pub into_count : Option IntoTree → ℕ
into_count None = 0
into_count (Some i) = local_count i

abbrev pub waited_count : WaitTree → ℕ → ℕ
waited_count w n = into_count w.into + n

-- a statement declares a local by itself, or none
abbrev pub stmt_locals_counted : Body → ℕ → ℕ
stmt_locals_counted (DeclareStmt at i e k) n = local_count i + n
stmt_locals_counted (WaitStmt at w k) n = waited_count w n
stmt_locals_counted b n = n

-- the locals of a body, and the variables of its catches
abbrev pub locals_counted : Fold ℕ
locals_counted = counting stmt_locals_counted (λ x n. suc n) waited_count

abbrev pub locals_in : Body → ℕ
locals_in b = folded locals_counted b

abbrev pub branch_local_count : Branches → ℕ
branch_local_count bs = folded_branches locals_counted bs

-- a wait is a group, and a choose
abbrev pub stmt_groups_counted : Body → ℕ → ℕ
stmt_groups_counted (ChooseStmt at bs k) n = suc n
stmt_groups_counted (WaitStmt at w k) n = suc n
stmt_groups_counted b n = n

abbrev pub groups_counted : Fold ℕ
groups_counted = counting stmt_groups_counted (λ x n. n) (λ w n. n)

abbrev pub groups_in : Body → ℕ
groups_in b = folded groups_counted b

abbrev pub branch_group_count : Branches → ℕ
branch_group_count bs = folded_branches groups_counted bs

-- the numbers that come next: of a block, a local and a group
pub record Next : Type 0 where
  pub block : ℕ
  pub local : ℕ
  pub group : ℕ

-- a block takes the next number
abbrev pub begun : Next → Next
begun n = record n { block = suc n.block }

-- the variable of a wait does, and a group
abbrev pub taken : Option IntoTree → Next → Next
taken i n = record n { local = into_count i + n.local }

abbrev pub grouped : Next → Next
grouped n = record n { group = suc n.group }

-- the numbers behind a body
abbrev pub past : (tried : Bool) → Body → Next → Next
past t b n = record { block = n.block + blocks_in t b; local = n.local + locals_in b; group = n.group + groups_in b }

abbrev pub past_branches : (tried : Bool) → Branches → Next → Next
past_branches t bs n = record {
  block = n.block + branch_blocks t bs;
  local = n.local + branch_local_count bs;
  group = n.group + branch_group_count bs;
}

-- whether nothing goes on from the first statement of a body
abbrev pub ends_with : Body → Bool
ends_with (BreakStmt at k) = true
ends_with (ContinueStmt at k) = true
ends_with (ReturnStmt at e k) = true
ends_with (ThrowStmt at e k) = true
ends_with _ = false

-- where nothing goes on from a statement, the next one begins a block
abbrev pub begin_blocks : (goes_on : Bool) → ℕ
begin_blocks true = 0
begin_blocks false = 1

-- the blocks of what stands behind a statement
abbrev pub rest_blocks : (goes_on : Bool) → (tried : Bool) → Body → ℕ
rest_blocks true t k = blocks_in t k
rest_blocks false t k = behind k (blocks_in t k)
