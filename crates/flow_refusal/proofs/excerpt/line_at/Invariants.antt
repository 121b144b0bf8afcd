use Rattle.std.proofs.Common.{◌≡◌, ◌-◌}
use Rattle.flow_refusal.specs.Note.{lines_on}
use Rattle.flow_refusal.proofs.excerpt.line_at.Given as goal

abbrev pub invariant-loop-left : goal.invariant-loop-left
invariant-loop-left l = lines_on l.left l.rest ≡ lines_on (l.fn.number - 1) l.fn.text

abbrev pub decreases-loop-left : goal.decreases-loop-left
decreases-loop-left l = l.left
