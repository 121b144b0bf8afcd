use Rattle.std.proofs.Common.{[]}
use Rattle.flow_world.specs.Changes.{seen}
use Rattle.flow_world.proofs.ServedAround.{port_opened}
use Rattle.flow_world.proofs.Putting.{none_put}
use Rattle.flow_world.proofs.around.AroundHost.listen.Goals as goal

pub returns-clause-listens : goal.returns-clause-listens
returns-clause-listens g c =
    port_opened g.L.LineOut.puts c.args.self.now.me c.args.self.now.ports.now (seen c.args.self.now.outside.now)
    c.listen.result c.args.self.now.out.now c.listen.new.self c.args.port c.args.cell.0 c.listen.ensures

pub returns-clause-broke : goal.returns-clause-broke
returns-clause-broke g c = none_put g.L.LineOut.puts c.listen.result c.args.self.now.out.now []
