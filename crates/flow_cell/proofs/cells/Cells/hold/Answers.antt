use Rattle.std.proofs.Common.{refl, ap}
use Rattle.flow_cell.specs.Lines.{links_of, waiters_at}
use Rattle.flow_cell.specs.Cells.{Counts, held}
use Rattle.flow_cell.specs.Seen.{tree}
use Rattle.flow_cell.proofs.SeenLemmas.{cell_there, seen_is, written, ends_stay}
use Rattle.flow_cell.proofs.Queues.{same_queues}
use Rattle.flow_cell.proofs.cells.Cells.hold.Goals as goal

pub get_mut-requires : goal.get_mut-requires
get_mut-requires g c = cell_there (links_of c.self.inside.lists) c.self.inside.cells.things c.args.cell.0 (rw (← c.self.view_is) at c.requires.there)

pub invariant_of-self : goal.invariant_of-self
invariant_of-self g c = same_queues _ _ _ c.self.invariant _ _ _ (λ m. ends_stay _ _ _ _ m c.get_mut.ensures.value refl) (λ k. refl) (λ s. refl)

pub hold-requires : goal.hold-requires
hold-requires g c =
    c.requires.fits (tree (links_of c.self.inside.lists) c.get_mut.result.now)
    (rw (← c.self.view_is) (seen_is (links_of c.self.inside.lists) c.self.inside.cells.things c.args.cell.0 _ c.get_mut.ensures.value))

pub returns : goal.returns
returns g c =
    rw (← c.self.view_is) (λ x is. written _ _ _ _ _ _ _ x (λ t. record t { references = held c.args.side t.references }) c.get_mut.ensures.rising c.get_mut.ensures.value is
    (ap (λ (r : Counts). record { content = c.get_mut.result.now.content; references = r; waiters = waiters_at (links_of c.self.inside.lists) c.get_mut.result.now.waiters }) c.hold.ensures)
    (λ m d e other. refl))
