use Rattle.std.proofs.Common.{◌+◌, ◌≤◌, length}
use Rattle.flow_worldfile.specs.Drafts.{drafted}
use Rattle.flow_worldfile.proofs.JudgeLemmas.{IsSoFar}
use Rattle.flow_worldfile.proofs.reading.read_lines.Given as goal

-- what was read decides with what is left
abbrev pub invariant-loop-rest : goal.invariant-loop-rest
invariant-loop-rest l = record {
  so_far : IsSoFar l.count l.number (drafted l.draft) l.rest l.text;
  few : l.number + length l.rest ≤ length l.text;
}

abbrev pub decreases-loop-rest : goal.decreases-loop-rest
decreases-loop-rest l = length l.rest
