use Rattle.std.proofs.Common.{take}
use Rattle.flow_world.specs.Ports.{PortsRepresent}
use Rattle.flow_world.specs.Saving.{numbers_of}
use Rattle.flow_world.proofs.Made.{port_more}
use Rattle.flow_world.proofs.ports.Ports.of.Goals as goal

pub loop-entry-preserved : goal.loop-entry-preserved
loop-entry-preserved c =
    let listed = c.args.listed.now in
    let i = c.loop-entry.entry-index in
    port_more (PortsRepresent c.listen.new.self) listed i _ c.loop-entry-test.true c.requires
    (c.in_ok-listen.ensures (numbers_of (take i listed)) c.loop-entry.invariant)
