use Rattle.std.proofs.Common.{◌≡◌, ◌++◌, drop}
use Rattle.flow_validate.proofs.Gathering.{args_read}
use Rattle.flow_validate.proofs.touch.+reads.Given as goal

abbrev pub invariant-add_args_reads-loop-arg : goal.invariant-add_args_reads-loop-arg
invariant-add_args_reads-loop-arg l = l.touches.items ++ args_read (drop l.arg-index l.args) ≡ l.fn.touches.items ++ args_read l.args
