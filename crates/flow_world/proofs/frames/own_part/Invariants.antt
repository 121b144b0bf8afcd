use Rattle.std.proofs.Common.{◌≡◌, ◌+◌, drop}
use Rattle.flow_world.specs.Tracing.{own_count}
use Rattle.flow_world.proofs.frames.own_part.Given as goal

abbrev pub invariant-loop-place : goal.invariant-loop-place
invariant-loop-place l = own_count l.actor l.callbacks ≡ l.place + own_count l.actor (drop l.place l.callbacks)
