use Rattle.flow_worldfile.specs.Worlds.{seen}
use Rattle.flow_simplify.proofs.Edited.{edited_word, made_in_range}
use Rattle.flow_simplify.proofs.simpler.word_made_common.Goals as goal

pub returns-clause-made : goal.returns-clause-made
returns-clause-made c =
    edited_word c.args.common c.args.number (seen c.args.world.now) (seen c.in_ok-own.own) c.requires.within c.in_ok-own.ensures

pub returns-clause-range : goal.returns-clause-range
returns-clause-range c =
    made_in_range (seen c.args.world.now) (seen c.in_ok-own.own) c.args.common c.args.number c.requires.range c.ranges.common.fits c.in_ok-own.ensures
