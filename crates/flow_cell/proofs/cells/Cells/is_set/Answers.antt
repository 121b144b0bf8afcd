use Rattle.std.proofs.Common.{◌≡◌, is_some, Option, Some, None, option_map, ap, sym, ◌∙◌, arith}
use Rattle.flow_cell.specs.Lines.{links_of}
use Rattle.flow_numbered.specs.Numbered.{thing}
use Rattle.flow_cell.specs.Cells.{CellTree}
use Rattle.flow_cell.proofs.SeenLemmas.{thing_seen, tree_of}
use Rattle.flow_cell.proofs.cells.Cells.is_set.Goals as goal

pub returns-in-Some : goal.returns-in-Some
returns-in-Some g c =
    let at = links_of c.self.inside.lists in
    let found : thing c.self.inside.cells.things c.args.cell.0 ≡ Some c.in-Some.found.now = grind arith in
    rw (← c.self.view_is, c.is_some.ensures) (sym (ap (λ (o : Option (CellTree g.row.T.Denot)). option_map (λ x. is_some x.content) o)
    (thing_seen at c.self.inside.cells.things c.args.cell.0 ∙ ap (tree_of at) found)))

pub returns-in-None : goal.returns-in-None
returns-in-None g c =
    let at = links_of c.self.inside.lists in
    let found : thing c.self.inside.cells.things c.args.cell.0 ≡ None = grind arith in
    rw (← c.self.view_is) (sym (ap (λ (o : Option (CellTree g.row.T.Denot)). option_map (λ x. is_some x.content) o) (thing_seen at c.self.inside.cells.things c.args.cell.0 ∙ ap (tree_of at) found)))
