use Rattle.std.proofs.Common.{sym, ◌∙◌}
use Rattle.flow_world.proofs.Listening.{ports_closed}
use Rattle.flow_world.proofs.ports.Ports.unlisten.Goals as goal

pub returns-in-Some : goal.returns-in-Some
returns-in-Some c =
    ports_closed c.args.self.now (record { streams = c.remove-in-Some.new.self; ports = c.remove.new.self }) c.in-Some.port c.args.cell.0
    (sym c.in-Some.is ∙ c.remove.ensures.value) c.remove-in-Some.ensures.updates.0 c.remove.ensures.updates.0
