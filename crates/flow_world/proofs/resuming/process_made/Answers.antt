use Rattle.std.proofs.Common.{refl, subst}
use Rattle.flow_world.specs.Ports.{PortsRepresent}
use Rattle.flow_world.specs.Saving.{numbers_of}
use Rattle.flow_world.proofs.Made.{can_restore}
use Rattle.flow_world.proofs.resuming.process_made.Goals as goal

pub restore-requires : goal.restore-requires
restore-requires c = can_restore c.args.state.disk.files.items c.requires.can.files

pub returns-clause-place : goal.returns-clause-place
returns-clause-place c = record {
  memory = c.args.alloc;
  me = c.args.me;
  me_is = refl;
  heap = c.args.state.heap;
  heap_is = refl;
  rests = c.in_ok-machine.ensures.rests;
  made = c.in_ok-machine.ensures.made;
  up = refl;
  ports = subst (λ listed. PortsRepresent c.in_ok-ports.ports (numbers_of listed)) c.deref.ensures.value c.in_ok-ports.ensures;
}
