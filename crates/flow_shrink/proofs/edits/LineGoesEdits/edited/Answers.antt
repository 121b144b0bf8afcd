use Rattle.flow_worldfile.specs.Worlds.{seen}
use Rattle.flow_shrink.proofs.Removing.{taken, range_taken}
use Rattle.flow_shrink.proofs.edits.LineGoesEdits.edited.Goals as goal

pub returns-clause-edited : goal.returns-clause-edited
returns-clause-edited c = taken (seen c.args.world.now) c.in_ok-edited.edited c.remove.new.self c.args.place c.in_ok-edited.ensures c.remove.ensures.items

pub returns-clause-range : goal.returns-clause-range
returns-clause-range c =
    range_taken (seen c.args.world.now) c.in_ok-edited.edited c.remove.new.self c.args.place c.in_ok-edited.ensures c.remove.ensures.items c.requires.within c.requires.range
