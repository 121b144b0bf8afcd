use Rattle.flow_worldfile.specs.Worlds.{seen}
use Rattle.flow_family.proofs.Ranges.{loss_room}
use Rattle.flow_family.proofs.family.Family.world_of.Goals as goal

pub returns-clause-room : goal.returns-clause-room
returns-clause-room c = loss_room c.args.self.now c.args.seed (seen c.args.world.now) (seen c.in_ok-own.own) c.requires c.in_ok-own.ensures.world
