use Rattle.flow_world.specs.Worlds.{world_seen}
use Rattle.flow_world.specs.Tracing.{process_lines}
use Rattle.flow_world.proofs.Putting.{none_put}
use Rattle.flow_world.proofs.frames.put_process.Goals as goal

pub returns-in_err-frames-clause-part : goal.returns-in_err-frames-clause-part
returns-in_err-frames-clause-part g c = none_put g.L.LineOut.puts c.from_residual.result c.args.out.now (process_lines (world_seen c.args.world.now) c.args.p)

pub returns-in_err-callbacks-clause-part : goal.returns-in_err-callbacks-clause-part
returns-in_err-callbacks-clause-part g c = none_put g.L.LineOut.puts c.from_residual-in_err-callbacks.result c.args.out.now (process_lines (world_seen c.args.world.now) c.args.p)
