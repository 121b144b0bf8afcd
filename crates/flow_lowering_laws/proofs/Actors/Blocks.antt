-- The class of an actor has no more blocks than the actor weighs.
use Rattle.std.proofs.Common.{ℕ, suc, ◌≤◌, Bool, true, false, if◌then◌else◌, [], arith, length}
use Rattle.std.specs.declared.option.Option.{Option}
use Rattle.std.specs.declared.option.Option.TheVariants.{None, Some}
use Rattle.flow_tree.specs.Tree.{ExprTree}
use Rattle.flow_tree.specs.Body.{Body, End, BlockStmt, IfStmt, IfElseStmt, WhileStmt, ForStmt, LoopStmt, BreakStmt, ContinueStmt, ReturnStmt, ThrowStmt, TryStmt, ChooseStmt, DeclareStmt, AssignStmt, ModifyStmt, CallStmt, WaitStmt, Branches, NoBranches, MoreBranches}
use Rattle.flow_tree.specs.Decls.{RoutineTree}
use Rattle.flow_ast.specs.Leaving.{has_statement}
use Rattle.flow_layout.specs.Laying.{LayoutTree}
use Rattle.flow_meaning.specs.Evaluating.{Names}
use Rattle.flow_split.specs.Around.{whole}
use Rattle.flow_split.specs.Counts.{behind, exit_blocks, test_blocks, blocks_in, branch_blocks}
use Rattle.flow_split.specs.Lowered.{lowered_class, close_of}
use Rattle.flow_split.specs.Weight.{body_weight, branch_weight, weight}
use Rattle.flow_split.proofs.Lengths.{lowered_more}

behind_within : (k : Body) (n : ℕ) → behind k n ≤ suc n
behind_within k n = by_cases (has_statement k) n
  where
    by_cases : (b : Bool) (n : ℕ) → (if b then suc n else 0) ≤ suc n
    by_cases true n = omega arith
    by_cases false n = omega arith

exit_within : (t : Bool) → exit_blocks t ≤ 1
exit_within true = omega arith
exit_within false = omega arith

test_within : (e : Option ExprTree) → test_blocks e ≤ 1
test_within None = omega arith
test_within (Some e) = omega arith

mutual
  blocks_within : (t : Bool) (b : Body) → blocks_in t b ≤ body_weight b
  blocks_within t End = omega arith
  blocks_within t (BlockStmt at b k) = omega (arith, blocks_within t b, blocks_within t k)
  blocks_within t (IfStmt at e b k) = omega (arith, blocks_within t b, blocks_within t k)
  blocks_within t (IfElseStmt at e b c k) = omega (arith, blocks_within t b, blocks_within t c, blocks_within t k)
  blocks_within t (WhileStmt at e b k) = omega (arith, blocks_within false b, blocks_within t k)
  blocks_within t (ForStmt at i e p b k) = omega (arith, test_within e, blocks_within t i, blocks_within t p, blocks_within false b, blocks_within t k)
  blocks_within t (LoopStmt at b k) = omega (arith, blocks_within false b, blocks_within t k)
  blocks_within t (BreakStmt at k) = omega (arith, exit_within t, behind_within k (blocks_in t k), blocks_within t k)
  blocks_within t (ContinueStmt at k) = omega (arith, exit_within t, behind_within k (blocks_in t k), blocks_within t k)
  blocks_within t (ReturnStmt at e k) = omega (arith, behind_within k (blocks_in t k), blocks_within t k)
  blocks_within t (ThrowStmt at e k) = omega (arith, behind_within k (blocks_in t k), blocks_within t k)
  blocks_within t (TryStmt at b p x h k) = omega (arith, blocks_within true b, blocks_within t h, blocks_within t k)
  blocks_within t (ChooseStmt at bs k) = omega (arith, branches_within t bs, blocks_within t k)
  blocks_within t (DeclareStmt at i e k) = omega (arith, blocks_within t k)
  blocks_within t (AssignStmt at xs e k) = omega (arith, blocks_within t k)
  blocks_within t (ModifyStmt at xs c k) = omega (arith, blocks_within t k)
  blocks_within t (CallStmt at xs es k) = omega (arith, blocks_within t k)
  blocks_within t (WaitStmt at w k) = omega (arith, blocks_within t k)

  branches_within : (t : Bool) (bs : Branches) → branch_blocks t bs ≤ branch_weight bs
  branches_within t NoBranches = omega arith
  branches_within t (MoreBranches at w b bs) = omega (arith, blocks_within t b, branches_within t bs)

pub lowered_within : (ns : Names) (l : LayoutTree) (a : RoutineTree) → length (lowered_class ns l a).blocks ≤ weight a
lowered_within ns l a =
    let e = lowered_more ns l.slots [] (whole (close_of a)) (record { block = 1; local = 0; group = 1 }) a.body in
    omega (arith, e, blocks_within false a.body)
