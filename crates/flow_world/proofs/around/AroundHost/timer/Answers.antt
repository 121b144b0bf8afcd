use Rattle.std.proofs.Common.{[]}
use Rattle.flow_world.specs.Changes.{seen}
use Rattle.flow_world.proofs.ServedAround.{timer_served}
use Rattle.flow_world.proofs.Putting.{none_put}
use Rattle.flow_world.proofs.around.AroundHost.timer.Goals as goal

pub returns-clause-served : goal.returns-clause-served
returns-clause-served g c =
    timer_served g.L.LineOut.puts c.args.self.now.me c.args.self.now.ports.now (seen c.args.self.now.outside.now)
    c.add.result c.args.self.now.out.now (seen c.add.new.self) c.args.cell c.args.at c.add.ensures.added

pub returns-clause-broke : goal.returns-clause-broke
returns-clause-broke g c = none_put g.L.LineOut.puts c.add.result c.args.self.now.out.now []
