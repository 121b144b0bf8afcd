-- How the control graph leaves a body of statements.
use Rattle.std.specs.Prelude.{Bool, true, false, ◌&&◌, ◌||◌}
use Rattle.flow_tree.specs.Body.{Body, End, BlockStmt, IfStmt, IfElseStmt, WhileStmt, ForStmt, LoopStmt, BreakStmt, ContinueStmt, ReturnStmt, ThrowStmt, TryStmt, ChooseStmt, DeclareStmt, AssignStmt, ModifyStmt, CallStmt, WaitStmt}
use Rattle.flow_ast.specs.Typing.{is_there}

-- whether there is a statement
abbrev pub has_statement : Body → Bool
has_statement End = false
has_statement b = true

-- Whether the control graph leads to the end of a body: an `if` leads into both bodies, whatever its
-- condition says, and past it without an `else`; a `while`, and a `for` with a condition, lead past
-- it; a `loop`, and a `for` without one, only by a `break` that is reached; each statement of a `try`
-- leads to its handler besides.
abbrev mutual
  pub reaches_end : Body → Bool
  reaches_end End = true
  reaches_end (BlockStmt at b k) = reaches_end b && reaches_end k
  reaches_end (IfStmt at e b k) = reaches_end k
  reaches_end (IfElseStmt at e b c k) = (reaches_end b || reaches_end c) && reaches_end k
  reaches_end (WhileStmt at e b k) = reaches_end k
  reaches_end (ForStmt at i e t b k) = (is_there e || reaches_break b) && reaches_end k
  reaches_end (LoopStmt at b k) = reaches_break b && reaches_end k
  reaches_end (BreakStmt at k) = false
  reaches_end (ContinueStmt at k) = false
  reaches_end (ReturnStmt at e k) = false
  reaches_end (ThrowStmt at e k) = false
  reaches_end (TryStmt at b q x h k) = (reaches_end b || reaches_end h) && reaches_end k
  reaches_end (ChooseStmt at bs k) = reaches_end k
  reaches_end (DeclareStmt at i e k) = reaches_end k
  reaches_end (AssignStmt at xs e k) = reaches_end k
  reaches_end (ModifyStmt at xs c k) = reaches_end k
  reaches_end (CallStmt at xs es k) = reaches_end k
  reaches_end (WaitStmt at w k) = reaches_end k

  -- whether it leads to a `break` of the loop around the body
  pub reaches_break : Body → Bool
  reaches_break End = false
  reaches_break (BlockStmt at b k) = reaches_break b || (reaches_end b && reaches_break k)
  reaches_break (IfStmt at e b k) = reaches_break b || reaches_break k
  reaches_break (IfElseStmt at e b c k) = reaches_break b || reaches_break c || ((reaches_end b || reaches_end c) && reaches_break k)
  reaches_break (WhileStmt at e b k) = reaches_break k
  reaches_break (ForStmt at i e t b k) = (is_there e || reaches_break b) && reaches_break k
  reaches_break (LoopStmt at b k) = reaches_break b && reaches_break k
  reaches_break (BreakStmt at k) = true
  reaches_break (ContinueStmt at k) = false
  reaches_break (ReturnStmt at e k) = false
  reaches_break (ThrowStmt at e k) = false
  reaches_break (TryStmt at b q x h k) = reaches_break b || (has_statement b && reaches_break h)
      || ((reaches_end b || reaches_end h) && reaches_break k)
  reaches_break (ChooseStmt at bs k) = reaches_break k
  reaches_break (DeclareStmt at i e k) = reaches_break k
  reaches_break (AssignStmt at xs e k) = reaches_break k
  reaches_break (ModifyStmt at xs c k) = reaches_break k
  reaches_break (CallStmt at xs es k) = reaches_break k
  reaches_break (WaitStmt at w k) = reaches_break k
