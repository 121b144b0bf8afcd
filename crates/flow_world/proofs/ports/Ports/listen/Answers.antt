use Rattle.flow_world.proofs.Listening.{ports_opened}
use Rattle.flow_world.proofs.ports.Ports.listen.Goals as goal

pub returns : goal.returns
returns c =
    ports_opened c.args.self.now (record { streams = c.insert.new.self; ports = c.insert-2.new.self }) c.args.port c.args.cell.0
    c.in_ok-insert.ensures.updates.0 c.in_ok-insert-2.ensures.updates.0
