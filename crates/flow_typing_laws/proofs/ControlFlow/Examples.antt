-- The control graphs, uses and waits of some small bodies.
use Rattle.std.proofs.Common.{◌≡◌, ℕ, true, false, [], ◌∷◌, refl}
use Rattle.std.specs.declared.option.Option.TheVariants.{None, Some}
use Rattle.flow_base.specs.declared.place.Place.{Place}
use Rattle.flow_tree.specs.declared.ty.Ident.{Ident}
use Rattle.flow_tree.specs.Tree.{ExprTree, BoolExpr, VoidExpr, VarExpr, IntType}
use Rattle.flow_tree.specs.Body.{WaitTree, Body, End, IfElseStmt, WhileStmt, ForStmt, LoopStmt, BreakStmt, ContinueStmt, ReturnStmt, ThrowStmt, TryStmt, ChooseStmt, DeclareStmt, AssignStmt, WaitStmt, NoBranches, MoreBranches}
use Rattle.flow_typing_laws.specs.ControlFlow.Control.{control, edge}
use Rattle.flow_typing_laws.specs.ControlFlow.Mentions.{Mention, routine_mentions, waits}

abbrev here : ℕ → Place
here n = record { line = 1; column = n; byte = n }

abbrev named : ℕ → ℕ → Ident
named x n = record { name = x ∷ []; at = here n }

abbrev test : ExprTree
test = BoolExpr true

abbrev waiting : ExprTree → WaitTree
waiting e = record { into = None; next = false; operand = e }

-- while (true) { wait(..); } return ..;
abbrev rounds : Body
rounds = WhileStmt (here 1) test (WaitStmt (here 2) (waiting test) End) (ReturnStmt (here 3) (Some VoidExpr) End)

rounds_lead : control rounds ≡ edge 0 1 ∷ edge 1 2 ∷ edge 1 3 ∷ edge 2 1 ∷ []
rounds_lead = refl

-- for (i = true; true; i = true) { if (true) { break; } else { continue; } }
abbrev counting : Body
counting =
    ForStmt (here 1) (AssignStmt (here 2) (named 105 2 ∷ []) test End) (Some test) (AssignStmt (here 3) (named 105 3 ∷ []) test End)
    (IfElseStmt (here 4) test (BreakStmt (here 5) End) (ContinueStmt (here 6) End) End) End

counting_leads : control counting ≡ edge 0 1 ∷ edge 1 2 ∷ edge 2 4 ∷ edge 2 7 ∷ edge 3 2 ∷ edge 4 5 ∷ edge 4 6 ∷ edge 5 7 ∷ edge 6 3 ∷ []
counting_leads = refl

-- loop { choose { when (..) { break; } when (..) {} } } return ..; : only the `break` leads on
abbrev choosing : Body
choosing =
    LoopStmt (here 1)
    (ChooseStmt (here 2) (MoreBranches (here 3) (waiting test) (BreakStmt (here 4) End) (MoreBranches (here 5) (waiting test) End NoBranches)) End)
    (ReturnStmt (here 6) (Some VoidExpr) End)

choosing_leads : control choosing ≡ edge 0 1 ∷ edge 1 2 ∷ edge 2 3 ∷ edge 2 5 ∷ edge 3 4 ∷ edge 4 6 ∷ edge 5 1 ∷ []
choosing_leads = refl

-- try { try { wait(..); } catch (Error& e) {} } catch (Error& f) { throw; } : neither the wait nor the inner `catch`, whose
-- handler is empty, leads to the outer one, but the inner `try` does
abbrev catching : Body
catching =
    TryStmt (here 1) (TryStmt (here 2) (WaitStmt (here 3) (waiting test) End) (here 4) (named 101 4) End End) (here 5) (named 102 5)
    (ThrowStmt (here 6) None End) End

catching_leads : control catching ≡ edge 0 1 ∷ edge 1 2 ∷ edge 2 3 ∷ edge 2 5 ∷ edge 3 7 ∷ edge 3 4 ∷ edge 4 7 ∷ edge 5 6 ∷ []
catching_leads = refl

-- int x; loop { wait(.. x ..); x = x; } : the operand of the wait is read at the wait
abbrev lost : Body
lost =
    DeclareStmt (here 1) (record { state = false; ty = IntType; name = named 120 2 }) None
    (LoopStmt (here 3) (WaitStmt (here 4) (waiting (VarExpr (named 120 5))) (AssignStmt (here 6) (named 120 6 ∷ []) (VarExpr (named 120 7)) End)) End)

abbrev of_x : (at point : ℕ) → Mention
of_x n m = record { at = here n; point = m; declared = record { at = here 2; point = 1 } }

lost_uses : routine_mentions [] lost ≡ of_x 5 3 ∷ of_x 6 4 ∷ of_x 7 4 ∷ []
lost_uses = refl

lost_waits : waits lost 1 ≡ record { at = here 4; point = 3 } ∷ []
lost_waits = refl
