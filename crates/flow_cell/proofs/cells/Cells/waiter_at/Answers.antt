use Rattle.std.proofs.Common.{◌≡◌, Some, arith}
use Rattle.flow_cell.specs.Lines.{links_of}
use Rattle.flow_numbered.specs.Numbered.{thing}
use Rattle.flow_cell.proofs.SeenLemmas.{cell_there, the_cell}
use Rattle.flow_cell.proofs.cells.Cells.waiter_at.Goals as goal

pub unwrap-found-requires : goal.unwrap-found-requires
unwrap-found-requires g c = let there = cell_there (links_of c.self.inside.lists) c.self.inside.cells.things c.args.cell.0 (rw (← c.self.view_is) at c.requires) in grind (arith, there)

pub returns : goal.returns
returns g c =
    rw (← c.self.view_is) (λ x is. let found : thing c.self.inside.cells.things c.args.cell.0 ≡ Some c.unwrap-found.result.now = grind arith in
    let same = the_cell (links_of c.self.inside.lists) c.self.inside.cells.things c.args.cell.0 _ x found is in rw same c.at.ensures)
