use Rattle.flow_heap_refinement.proofs.Holds.{held_holds, all_held, filled_holds, given_holds}
use Rattle.flow_heap_refinement.proofs.counting.stored_references_count.Goals as goal

pub returns-clause-held : goal.returns-clause-held
returns-clause-held c = held_holds

pub returns-clause-all : goal.returns-clause-all
returns-clause-all c = all_held

pub returns-clause-filled : goal.returns-clause-filled
returns-clause-filled c = filled_holds

pub returns-clause-given : goal.returns-clause-given
returns-clause-given c = given_holds
