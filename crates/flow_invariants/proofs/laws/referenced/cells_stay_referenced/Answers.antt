use Rattle.flow_invariants.proofs.Referenced.Worlds.{valid_referred}
use Rattle.flow_invariants.proofs.laws.referenced.cells_stay_referenced.Goals as goal

pub returns : goal.returns
returns c = record { states = valid_referred }
