use Rattle.std.proofs.Common.{rules}
use Rattle.flow_value.specs.View.{value_of}
use Rattle.flow_code.specs.Resolved.View.{places_in}
use Rattle.flow_steps.proofs.Going.{part_ends}
use Rattle.flow_steps.proofs.calling.part.Goals as goal

pub returns-in_default-clause-none : goal.returns-in_default-clause-none
returns-in_default-clause-none c = λ _.
    part_ends (places_in c.args.fields.now) c.args.path.now c.loop-name.name-index 0 (value_of c.loop-name.part.now) (value_of c.args.value.now) c.loop-name-test.true
    (search rules) c.loop-name.invariant
