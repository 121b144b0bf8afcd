use Rattle.std.proofs.Common.{◌≡◌}
use Rattle.flow_cover.proofs.Marking.{MarkedTo}
use Rattle.flow_cover.proofs.marks.Marks.mark.Given as goal

abbrev pub invariant-loop-k : goal.invariant-loop-k
invariant-loop-k l =
    (l.self-inside.telling ≡ l.fn.self.telling)
    × MarkedTo l.fn.self.telling l.line l.branches l.fn.self.taken l.self-inside.taken.items l.k
