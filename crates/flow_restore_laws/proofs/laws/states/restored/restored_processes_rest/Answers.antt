use Rattle.flow_restore_laws.proofs.States.Alike.{processes_restored}
use Rattle.flow_restore_laws.proofs.laws.states.restored.restored_processes_rest.Goals as goal

pub returns : goal.returns
returns c = processes_restored
