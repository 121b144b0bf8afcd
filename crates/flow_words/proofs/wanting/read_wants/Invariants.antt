use Rattle.std.proofs.Common.{◌≡◌, length}
use Rattle.flow_words.specs.Wants.{wants_of}
use Rattle.flow_words.proofs.Lists.{behind}
use Rattle.flow_words.proofs.wanting.read_wants.Given as goal

abbrev pub invariant-loop-item : goal.invariant-loop-item
invariant-loop-item l = wants_of l.fn.list ≡ behind l.wanted.items (wants_of l.rest)

abbrev pub decreases-loop-item : goal.decreases-loop-item
decreases-loop-item l = length l.rest
