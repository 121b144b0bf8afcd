use Rattle.std.proofs.Common.{◌<◌, [], None, refl, ap, ◌∙◌, arith}
use Rattle.flow_cell.specs.Lines.{links_of}
use Rattle.flow_numbered.specs.Numbered.{Store, added}
use Rattle.flow_cell.specs.Cells.{CellTree}
use Rattle.flow_cell.specs.Seen.{seen, ends_in}
use Rattle.flow_cell.specs.declared.cell.Cell.{Cell}
use Rattle.flow_cell.proofs.SeenLemmas.{seen_added, ends_added, no_ends}
use Rattle.flow_cell.proofs.Queues.{same_queues, made_queues}
use Rattle.flow_cell.proofs.cells.Cells.make.Goals as goal

pub invariant_of-self : goal.invariant_of-self
invariant_of-self g c =
    same_queues _ _ _ c.self.invariant _ _ _ (λ m. ap (λ (s : Store (Cell g.row.T.Denot)). ends_in s.things m) c.in_err-insert.ensures.err) (λ k. refl) (λ s. refl)

pub invariant_of-self-2 : goal.invariant_of-self-2
invariant_of-self-2 g c =
    let xs = c.self.inside.cells.things in
    let most = c.self.inside.cells.greatest in
    let n = c.args.cell.0 in
    let above : most < n = omega (arith, c.requires, ap (λ (s : Store (CellTree g.row.T.Denot)). s.greatest) c.self.view_is) in
    let rising = c.in_ok-insert.ensures.rising in
    made_queues _ _ _ c.self.invariant _ n (no_ends xs most n rising above)
    (λ m. ap (λ (s : Store (Cell g.row.T.Denot)). ends_in s.things m) c.in_ok-insert.ensures.ok ∙ ends_added xs most n _ m rising above)

pub returns-clause-ok : goal.returns-clause-ok
returns-clause-ok g c =
    let at = links_of c.self.inside.lists in
    let xs = c.self.inside.cells.things in
    let n = c.args.cell.0 in
    rw (← c.self.view_is)
    (ap (λ (s : Store (Cell g.row.T.Denot)). record { things = seen at s.things; greatest = s.greatest }) c.in_ok-insert.ensures.ok
    ∙ ap (λ ys. record { things = ys; greatest = n }) (seen_added at xs n _
    ∙ ap (λ r. added (seen at xs) n (record { content = None; references = r; waiters = [] })) c.new.ensures))
