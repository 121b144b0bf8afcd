use Rattle.flow_world.specs.Changes.{seen}
use Rattle.flow_world.proofs.ServedAround.{line_written, line_broke}
use Rattle.flow_world.proofs.around.AroundHost.line.Goals as goal

pub returns-clause-written : goal.returns-clause-written
returns-clause-written g c =
    line_written g.L.LineOut.puts c.args.self.now.me c.args.self.now.ports.now (seen c.args.self.now.outside.now)
    c.put.result c.args.self.now.out.now c.put.new.self c.args.line.now c.put.ensures.puts

pub returns-clause-broke : goal.returns-clause-broke
returns-clause-broke g c = line_broke g.L.LineOut.puts c.args.self.now.me c.args.self.now.ports.now (seen c.args.self.now.outside.now) c.put.result c.args.self.now.out.now c.put.new.self c.args.line.now c.put.ensures.puts
