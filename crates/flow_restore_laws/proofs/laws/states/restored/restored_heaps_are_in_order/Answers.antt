use Rattle.flow_restore_laws.proofs.States.Ordered.{restored_in_order}
use Rattle.flow_restore_laws.proofs.laws.states.restored.restored_heaps_are_in_order.Goals as goal

pub returns : goal.returns
returns c = restored_in_order
