use Rattle.std.proofs.Common.{Some, refl}
use Rattle.flow_cell.specs.Lines.{links_of}
use Rattle.flow_cell.proofs.SeenLemmas.{cell_there, written, ends_stay}
use Rattle.flow_cell.proofs.Queues.{same_queues}
use Rattle.flow_cell.proofs.cells.Cells.set.Goals as goal

pub get_mut-requires : goal.get_mut-requires
get_mut-requires g c = cell_there (links_of c.self.inside.lists) c.self.inside.cells.things c.args.cell.0 (rw (← c.self.view_is) at c.requires.there)

pub invariant_of-self : goal.invariant_of-self
invariant_of-self g c = same_queues _ _ _ c.self.invariant _ _ _ (λ m. ends_stay _ _ _ _ m c.get_mut.ensures.value refl) (λ k. refl) (λ s. refl)

pub returns : goal.returns
returns g c =
    rw (← c.self.view_is) (λ x is. written _ _ _ _ _ _ _ x (λ t. record t { content = Some c.args.content }) c.get_mut.ensures.rising c.get_mut.ensures.value is refl (λ m d e other. refl))
