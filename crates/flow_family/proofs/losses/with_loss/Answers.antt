use Rattle.flow_worldfile.specs.Worlds.{seen}
use Rattle.flow_family.proofs.Ranges.{loss_in_range}
use Rattle.flow_family.proofs.losses.with_loss.Goals as goal

pub returns-clause-range : goal.returns-clause-range
returns-clause-range c =
    loss_in_range c.args.down c.args.loss (seen c.args.world.now) (seen c.in_ok-own.own) c.requires.range c.requires.room c.requires.process
    c.requires.borne c.in_ok-own.ensures
