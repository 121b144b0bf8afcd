use Rattle.std.proofs.Common.{List, ap}
use Rattle.flow_cell.specs.Waiting.{without_newest}
use Rattle.flow_cell.specs.Lines.{AreEnds, line, links_of}
use Rattle.flow_cell.specs.Seen.{tree, ends_in}
use Rattle.flow_cell.specs.declared.waiter.Waiter.{Waiter}
use Rattle.flow_cell.proofs.SeenLemmas.{cell_there, seen_is, written, ends_are, ends_put, stays_by_ends}
use Rattle.flow_cell.proofs.cells.Cells.remove_waiter.Goals as goal

pub get_mut-entry-requires : goal.get_mut-entry-requires
get_mut-entry-requires g c = cell_there (links_of c.self.inside.lists) c.self.inside.cells.things c.args.cell.0 (rw (← c.self.view_is) at c.requires.there)

pub exit-requires-clause-cell : goal.exit-requires-clause-cell
exit-requires-clause-cell g c =
    let xs = c.self.inside.cells.things in
    (ends_in xs, record { here = ends_are xs c.args.cell.0 _ c.get_mut-entry.ensures.value; queues = c.self.invariant })

pub exit-requires-clause-waits : goal.exit-requires-clause-waits
exit-requires-clause-waits g c =
    let at = links_of c.self.inside.lists in
    let xs = c.self.inside.cells.things in
    let old = c.get_mut-entry.result.now in
    c.requires.waits (tree at old) (rw (← c.self.view_is) (seen_is at xs c.args.cell.0 old c.get_mut-entry.ensures.value))

pub invariant_of-self : goal.invariant_of-self
invariant_of-self g c =
    let n = c.args.cell.0 in
    let xs = c.self.inside.cells.things in
    let old = c.get_mut-entry.result.now in
    let value = c.get_mut-entry.ensures.value in
    let are : AreEnds n (line c.self.inside.lists old.waiters) (ends_in xs) = record { here = ends_are xs n old value; queues = c.self.invariant } in
    c.exit.ensures.queues (ends_in xs) _ are (λ m. ends_put xs n old _ m value)

pub returns : goal.returns
returns g c =
    let n = c.args.cell.0 in
    let at = links_of c.self.inside.lists in
    let xs = c.self.inside.cells.things in
    let old = c.get_mut-entry.result.now in
    let value = c.get_mut-entry.ensures.value in
    let are : AreEnds n (line c.self.inside.lists old.waiters) (ends_in xs) = record { here = ends_are xs n old value; queues = c.self.invariant } in
    let new = links_of c.exit.new.self in
    let less = c.exit.ensures in
    rw (← c.self.view_is) (λ x is. written at new xs _ n old _ x (λ t. record t { waiters = without_newest t.waiters c.args.waiter }) c.get_mut-entry.ensures.rising value is
    (ap (λ (ws : List Waiter). record { content = old.content; references = old.references; waiters = ws }) (less.told (ends_in xs) are))
    (stays_by_ends at new xs n (less.others (ends_in xs) are)))
