use Rattle.std.proofs.Common.{arith}
use Rattle.flow_cell.specs.Lines.{links_of}
use Rattle.flow_cell.proofs.SeenLemmas.{seen_above}
use Rattle.flow_cell.proofs.cells.Cells.next_cell.Goals as goal

pub returns : goal.returns
returns g c =
    let above = seen_above (links_of c.self.inside.lists) c.self.inside.cells.things c.args.after.0 in
    rw (← c.self.view_is, above) (grind (arith, c.next_above.ensures.value))
