use Rattle.std.proofs.Common.{◌≡◌, length}
use Rattle.flow_worldfile.specs.Lines.{pieces}
use Rattle.flow_worldfile.proofs.lines.first_piece.Given as goal

abbrev pub invariant-loop-piece : goal.invariant-loop-piece
invariant-loop-piece l = pieces l.rest ≡ pieces l.line

abbrev pub decreases-loop-piece : goal.decreases-loop-piece
decreases-loop-piece l = length l.rest
