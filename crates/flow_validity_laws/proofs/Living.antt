-- Wherever a body is reached, its blocks are kept.
use Rattle.std.proofs.Common.{◌≡◌, ℕ, ◌^◌, ◌<◌, List, length}
use Rattle.flow_tree.specs.Body.{Body, End, BlockStmt, IfStmt, IfElseStmt, WhileStmt, ForStmt, LoopStmt, BreakStmt, ContinueStmt, ReturnStmt, ThrowStmt, TryStmt, ChooseStmt, DeclareStmt, AssignStmt, ModifyStmt, CallStmt, WaitStmt, Branches, NoBranches, MoreBranches}
use Rattle.flow_ast.specs.Typing.{is_there}
use Rattle.flow_class.specs.Classes.{ClassTree}
use Rattle.flow_rules.specs.Judged.{Setting, called}
use Rattle.flow_meaning.specs.Evaluating.{Names, effectful}
use Rattle.flow_valid.specs.Validity.{calls_effect}
use Rattle.flow_validity_laws.proofs.Alive.{Lives, end_lives, assign_lives, modify_lives, call_lives, declare_lives}
use Rattle.flow_validity_laws.proofs.Jumping.{return_lives, throw_lives, break_lives, continue_lives, block_lives}
use Rattle.flow_validity_laws.proofs.Choosings.{if_lives, if_else_lives, while_lives, loop_lives}
use Rattle.flow_validity_laws.proofs.Waitings.{BranchesLive, wait_lives, no_branches_live, more_branches_live, choose_lives}
use Rattle.flow_validity_laws.proofs.Handling.{try_lives}
use Rattle.flow_validity_laws.proofs.Rounds.{for_lives}
use Rattle.flow_validity_laws.proofs.Agreeing.{EffectsAgree}

module _ (base : Setting) (ns : Names) (c : ClassTree) (few_slots : length c.slots < 2 ^ 64) (few_locals : length c.locals < 2 ^ 64)
    (agree : EffectsAgree base ns) where
  -- one level up, as what is said of branches
  record LivesUp (b : Body) : Type 1 where
    lives : Lives base ns c few_slots few_locals agree b

  mutual
    lives_up : (b : Body) → LivesUp b
    lives_up End = record { lives = end_lives base ns c few_slots few_locals agree }
    lives_up (BlockStmt at b k) = record { lives = block_lives base ns c few_slots few_locals agree at b k (lives_up b).lives (lives_up k).lives }
    lives_up (IfStmt at e b k) = record { lives = if_lives base ns c few_slots few_locals agree at e b k (lives_up b).lives (lives_up k).lives }
    lives_up (IfElseStmt at e b d k) = record { lives = if_else_lives base ns c few_slots few_locals agree at e b d k (lives_up b).lives (lives_up d).lives (lives_up k).lives }
    lives_up (WhileStmt at e b k) = record { lives = while_lives base ns c few_slots few_locals agree at e b k (lives_up b).lives (lives_up k).lives }
    lives_up (ForStmt at i e p b k) = record { lives = for_lives base ns c few_slots few_locals agree at i e p b k (lives_up b).lives (lives_up k).lives }
    lives_up (LoopStmt at b k) = record { lives = loop_lives base ns c few_slots few_locals agree at b k (lives_up b).lives (lives_up k).lives }
    lives_up (BreakStmt at k) = record { lives = break_lives base ns c few_slots few_locals agree at k }
    lives_up (ContinueStmt at k) = record { lives = continue_lives base ns c few_slots few_locals agree at k }
    lives_up (ReturnStmt at e k) = record { lives = return_lives base ns c few_slots few_locals agree at e k }
    lives_up (ThrowStmt at e k) = record { lives = throw_lives base ns c few_slots few_locals agree at e k }
    lives_up (TryStmt at b q x d k) = record { lives = try_lives base ns c few_slots few_locals agree at q x b d k (lives_up b).lives (lives_up d).lives (lives_up k).lives }
    lives_up (ChooseStmt at bs k) = record { lives = choose_lives base ns c few_slots few_locals agree at bs k (branches_live bs) (lives_up k).lives }
    lives_up (DeclareStmt at i e k) = record { lives = declare_lives base ns c few_slots few_locals agree at i e k (lives_up k).lives }
    lives_up (AssignStmt at xs e k) = record { lives = assign_lives base ns c few_slots few_locals agree at xs e k (lives_up k).lives }
    lives_up (ModifyStmt at xs d k) = record { lives = modify_lives base ns c few_slots few_locals agree at xs d k (lives_up k).lives }
    lives_up (CallStmt at xs es k) = record { lives = call_lives base ns c few_slots few_locals agree at xs es k (lives_up k).lives }
    lives_up (WaitStmt at w k) = record { lives = wait_lives base ns c few_slots few_locals agree at w k (lives_up k).lives }

    branches_live : (bs : Branches) → BranchesLive base ns c few_slots few_locals agree bs
    branches_live NoBranches = no_branches_live base ns c few_slots few_locals agree
    branches_live (MoreBranches at w b bs) = more_branches_live base ns c few_slots few_locals agree at w b bs (lives_up b).lives (branches_live bs)

  pub all_live : (b : Body) → Lives base ns c few_slots few_locals agree b
  all_live b = (lives_up b).lives
