-- A lowered body stands in its class, and so the class of an actor carries it.
use Rattle.std.proofs.Common.{◌^◌, ◌<◌, length}
use Rattle.flow_tree.specs.Body.{Body, End, BlockStmt, IfStmt, IfElseStmt, WhileStmt, ForStmt, LoopStmt, BreakStmt, ContinueStmt, ReturnStmt, ThrowStmt, TryStmt, ChooseStmt, DeclareStmt, AssignStmt, ModifyStmt, CallStmt, WaitStmt, Branches, NoBranches, MoreBranches}
use Rattle.flow_class.specs.Classes.{ClassTree}
use Rattle.flow_meaning.specs.Evaluating.{Names}
use Rattle.flow_lowering_laws.proofs.Actors.Further.{Carried}
use Rattle.flow_lowering_laws.proofs.Actors.Compounds.{end_stands, block_stands, if_stands, if_else_stands, while_stands, loop_stands, try_stands, break_stands, continue_stands, return_stands, throw_stands}
use Rattle.flow_lowering_laws.proofs.Actors.ForStands.{for_stands}
use Rattle.flow_lowering_laws.proofs.Actors.Waits.{declare_stands, assign_stands, modify_stands, call_stands, wait_stands, BranchesCarried, no_branches_stand, more_branches_stand, choose_stands}

module _ (ns : Names) (c : ClassTree) (few_slots : length c.slots < 2 ^ 64) (few_locals : length c.locals < 2 ^ 64) where
  mutual
    pub carried : (b : Body) → Carried ns c b
    carried End = end_stands ns c few_slots few_locals
    carried (BlockStmt at b k) = block_stands ns c few_slots few_locals at b k (carried b) (carried k)
    carried (IfStmt at e b k) = if_stands ns c few_slots few_locals at e b k (carried b) (carried k)
    carried (IfElseStmt at e b d k) = if_else_stands ns c few_slots few_locals at e b d k (carried b) (carried d) (carried k)
    carried (WhileStmt at e b k) = while_stands ns c few_slots few_locals at e b k (carried b) (carried k)
    carried (ForStmt at i e p b k) = for_stands ns c few_slots few_locals at i e p b k (carried b) (carried k)
    carried (LoopStmt at b k) = loop_stands ns c few_slots few_locals at b k (carried b) (carried k)
    carried (BreakStmt at k) = break_stands ns c few_slots few_locals at k (carried k)
    carried (ContinueStmt at k) = continue_stands ns c few_slots few_locals at k (carried k)
    carried (ReturnStmt at e k) = return_stands ns c few_slots few_locals at e k (carried k)
    carried (ThrowStmt at e k) = throw_stands ns c few_slots few_locals at e k (carried k)
    carried (TryStmt at b q x d k) = try_stands ns c few_slots few_locals at q x b d k (carried b) (carried d) (carried k)
    carried (ChooseStmt at bs k) = choose_stands ns c few_slots few_locals at bs k (branches_carried bs) (carried k)
    carried (DeclareStmt at i e k) = declare_stands ns c few_slots few_locals at i e k (carried k)
    carried (AssignStmt at xs e k) = assign_stands ns c few_slots few_locals at xs e k (carried k)
    carried (ModifyStmt at xs d k) = modify_stands ns c few_slots few_locals at xs d k (carried k)
    carried (CallStmt at xs es k) = call_stands ns c few_slots few_locals at xs es k (carried k)
    carried (WaitStmt at w k) = wait_stands ns c few_slots few_locals at w k (carried k)

    pub branches_carried : (bs : Branches) → BranchesCarried ns c few_slots few_locals bs
    branches_carried NoBranches = no_branches_stand ns c few_slots few_locals
    branches_carried (MoreBranches at w b bs) = more_branches_stand ns c few_slots few_locals at w b bs (carried b) (branches_carried bs)
