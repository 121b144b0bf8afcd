-- Whether the control graph leads to the closing brace of a body.
use Rattle.std.specs.Prelude.{Bool, true, false, ◌&&◌, ◌||◌}
use Rattle.std.specs.declared.option.Option.{Option}
use Rattle.std.specs.declared.option.Option.TheVariants.{None, Some}
use Rattle.flow_tree.specs.Body.{Body, End, BlockStmt, IfStmt, IfElseStmt, WhileStmt, ForStmt, LoopStmt, BreakStmt, ContinueStmt, ReturnStmt, ThrowStmt, TryStmt, ChooseStmt, DeclareStmt, AssignStmt, ModifyStmt, CallStmt, WaitStmt, Branches, NoBranches, MoreBranches}
use Rattle.flow_ast.specs.Typing.{is_there}
use Rattle.flow_ast.specs.Leaving.{has_statement}

-- how a body is left: whether the graph leads past its end, and to a `break` of the loop around it
pub record Ways : Type 0 where
  pub end : Bool
  pub breaks : Bool

abbrev pub nowhere : Ways
nowhere = record { end = false; breaks = false }

abbrev pub past : Ways
past = record { end = true; breaks = false }

-- one body and then the other
abbrev pub and_then : Ways → Ways → Ways
and_then a b = record { end = a.end && b.end; breaks = a.breaks || (a.end && b.breaks) }

-- one or the other
abbrev pub either : Ways → Ways → Ways
either a b = record { end = a.end || b.end; breaks = a.breaks || b.breaks }

-- a loop is left past its condition, or where it has none by a `break`
abbrev pub looped : Bool → Ways → Ways
looped tested b = record { end = tested || b.breaks; breaks = false }

-- each statement of a `try` leads to its handler besides
abbrev pub handled : Bool → Ways → Ways → Ways
handled some b h = record { end = b.end || h.end; breaks = b.breaks || (some && h.breaks) }

-- an `if` leads into both bodies, whatever its condition says, and past it without an `else`
abbrev mutual
  pub ways : Body → Ways
  ways End = past
  ways (BlockStmt at b k) = and_then (ways b) (ways k)
  ways (IfStmt at t b k) = and_then (either (ways b) past) (ways k)
  ways (IfElseStmt at t b c k) = and_then (either (ways b) (ways c)) (ways k)
  ways (WhileStmt at t b k) = and_then (looped true (ways b)) (ways k)
  ways (ForStmt at i t n b k) = and_then (looped (is_there t) (ways b)) (ways k)
  ways (LoopStmt at b k) = and_then (looped false (ways b)) (ways k)
  ways (BreakStmt at k) = record { end = false; breaks = true }
  ways (ContinueStmt at k) = nowhere
  ways (ReturnStmt at v k) = nowhere
  ways (ThrowStmt at v k) = nowhere
  ways (TryStmt at b q x h k) = and_then (handled (has_statement b) (ways b) (ways h)) (ways k)
  ways (ChooseStmt at bs k) = and_then (branch_ways bs) (ways k)
  ways (DeclareStmt at i v k) = ways k
  ways (AssignStmt at xs v k) = ways k
  ways (ModifyStmt at xs c k) = ways k
  ways (CallStmt at xs es k) = ways k
  ways (WaitStmt at w k) = ways k

  pub branch_ways : Branches → Ways
  branch_ways NoBranches = nowhere
  branch_ways (MoreBranches at w b bs) = either (ways b) (branch_ways bs)

-- of the body of an `else`, or where there is none
abbrev pub else_ways : Option Body → Ways
else_ways None = past
else_ways (Some b) = ways b
