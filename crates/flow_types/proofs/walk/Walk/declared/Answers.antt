use Rattle.flow_tree.specs.StmtView.{into_of}
use Rattle.flow_types.proofs.Parts.{declared_after}
use Rattle.flow_types.proofs.walk.Walk.declared.Goals as goal

pub returns-clause-declared : goal.returns-clause-declared
returns-clause-declared c =
    declared_after c.args.self.now c.note_state.new.self c.declare.new.self (into_of c.args.into.now) c.of.result c.declare.result c.in_ok-note_state.ensures.noted c.of.ensures
    c.declare.ensures.declared
