use Rattle.std.proofs.Common.{ℕ, length}
use Rattle.flow_worldfile.specs.Lines.{lines}
use Rattle.flow_worldfile.specs.Reading.{IsCount}
use Rattle.flow_worldfile.proofs.reading.count_of.Given as goal

abbrev pub invariant-loop-rest : goal.invariant-loop-rest
invariant-loop-rest l = (n : ℕ) → IsCount (lines l.rest) n → IsCount (lines l.text) n

abbrev pub decreases-loop-rest : goal.decreases-loop-rest
decreases-loop-rest l = length l.rest
