use Rattle.std.proofs.Common.{refl, ap, ◌∙◌}
use Rattle.flow_cell.specs.Lines.{links_of}
use Rattle.flow_numbered.specs.Numbered.{Store}
use Rattle.flow_cell.specs.Seen.{tree, seen, ends_in}
use Rattle.flow_cell.specs.declared.cell.Cell.{Cell}
use Rattle.flow_cell.proofs.SeenLemmas.{cell_there, seen_is, the_cell, seen_removed, ends_are, ends_removed, no_waiters}
use Rattle.flow_cell.proofs.Queues.{gone_queues}
use Rattle.flow_cell.proofs.cells.Cells.remove.Goals as goal

pub remove-content-requires : goal.remove-content-requires
remove-content-requires g c = cell_there (links_of c.self.inside.lists) c.self.inside.cells.things c.args.cell.0 (rw (← c.self.view_is) at c.requires.there)

pub invariant_of-self : goal.invariant_of-self
invariant_of-self g c =
    let at = links_of c.self.inside.lists in
    let xs = c.self.inside.cells.things in
    let n = c.args.cell.0 in
    let there = c.remove-content.ensures.value in
    let nobody = c.requires.waiters (tree at c.remove-content.result) (rw (← c.self.view_is) (seen_is at xs n _ there)) in
    gone_queues _ _ _ c.self.invariant _ n _ (ends_are xs n _ there) (no_waiters at _ nobody)
    (λ m. ap (λ (s : Store (Cell g.row.T.Denot)). ends_in s.things m) c.remove-content.ensures.rest ∙ ends_removed xs _ n m c.remove-content.ensures.rising)

pub returns-clause-content : goal.returns-clause-content
returns-clause-content g c =
    rw (← c.self.view_is) (λ x is. let same = the_cell (links_of c.self.inside.lists) c.self.inside.cells.things c.args.cell.0 _ x c.remove-content.ensures.value is in rw same refl)

pub returns-clause-rest : goal.returns-clause-rest
returns-clause-rest g c =
    let at = links_of c.self.inside.lists in
    rw (← c.self.view_is)
    (ap (λ (s : Store (Cell g.row.T.Denot)). record { things = seen at s.things; greatest = s.greatest }) c.remove-content.ensures.rest
    ∙ ap (λ ys. record { things = ys; greatest = c.self.inside.cells.greatest }) (seen_removed at c.self.inside.cells.things c.args.cell.0))
