use Rattle.std.proofs.Common.{◌≡◌, replicate, []}
use Rattle.flow_world.proofs.starting.fresh_disks.Given as goal

abbrev pub invariant-loop-number : goal.invariant-loop-number
invariant-loop-number l = l.disks.items ≡ replicate l._number (record { fails = 0; files = [] })
