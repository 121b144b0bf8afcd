use Rattle.std.proofs.Common.{◌≡◌, ℕ, drop}
use Rattle.flow_numbered.specs.Numbered.{next_above}
use Rattle.flow_numbered.specs.Rows.{things_in}
use Rattle.flow_numbered.proofs.rows.live_from.Given as goal

-- what is left gives the answer
abbrev pub invariant-loop-place : goal.invariant-loop-place
invariant-loop-place g l =
    next_above (things_in (drop l.place l.rows)) l.number ≡ next_above (things_in (drop l.fn.from l.rows)) l.number
