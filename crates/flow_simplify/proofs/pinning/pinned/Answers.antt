use Rattle.flow_worldfile.specs.Worlds.{seen}
use Rattle.flow_simplify.proofs.WithWords.{pinned_in_range}
use Rattle.flow_simplify.proofs.pinning.pinned.Goals as goal

pub returns-clause-range : goal.returns-clause-range
returns-clause-range c =
    pinned_in_range (seen c.args.world.now) (seen c.in_ok-own.own) c.in_ok-words.words.items c.args.count c.requires.range c.in_ok-own.ensures
    c.in_ok-words.ensures.words c.in_ok-words.ensures.range c.requires.few
