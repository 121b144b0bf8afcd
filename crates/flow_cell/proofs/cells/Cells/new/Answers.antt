use Rattle.std.proofs.Common.{ap}
use Rattle.flow_numbered.specs.Numbered.{Store}
use Rattle.flow_cell.specs.Seen.{ends_in}
use Rattle.flow_cell.specs.declared.cell.Cell.{Cell}
use Rattle.flow_cell.proofs.Queues.{no_queues}
use Rattle.flow_cell.proofs.cells.Cells.new.Goals as goal

pub invariant_of-result : goal.invariant_of-result
invariant_of-result g c =
    no_queues _ _ _ (λ n. ap (λ (s : Store (Cell g.row.T.Denot)). ends_in s.things n) c.new.ensures) c.new-2.ensures.newest
