use Rattle.std.proofs.Common.{List, [], ◌∷◌, ◌++◌, ap, ◌∙◌, Result, Ok, Err, OnErr}
use Rattle.flow_cell.specs.Lines.{AreEnds, line, links_of}
use Rattle.flow_cell.specs.Seen.{ends_in}
use Rattle.flow_cell.specs.declared.waiter.Waiter.{Waiter}
use Rattle.flow_cell.proofs.SeenLemmas.{cell_there, written, unwritten, ends_are, ends_put, stays_by_ends}
use Rattle.flow_cell.proofs.cells.Cells.add_waiter.Goals as goal

on_err : {A E P : Type 0} (r : Result A E) → P → OnErr r P
on_err (Ok a) p = tt
on_err (Err e) p = p

pub get_mut-entry-requires : goal.get_mut-entry-requires
get_mut-entry-requires g c = cell_there (links_of c.self.inside.lists) c.self.inside.cells.things c.args.cell.0 (rw (← c.self.view_is) at c.requires)

pub invariant_of-self : goal.invariant_of-self
invariant_of-self g c =
    let n = c.args.cell.0 in
    let xs = c.self.inside.cells.things in
    let old = c.get_mut-entry.result.now in
    let value = c.get_mut-entry.ensures.value in
    let are : AreEnds n (line c.self.inside.lists old.waiters) (ends_in xs) = record { here = ends_are xs n old value; queues = c.self.invariant } in
    c.in_err-enter.ensures.err.queues (ends_in xs) _ are (λ m. ends_put xs n old _ m value)

pub returns-in_err-enter-clause-err : goal.returns-in_err-enter-clause-err
returns-in_err-enter-clause-err g c =
    let n = c.args.cell.0 in
    let at = links_of c.self.inside.lists in
    let xs = c.self.inside.cells.things in
    let old = c.get_mut-entry.result.now in
    let value = c.get_mut-entry.ensures.value in
    let are : AreEnds n (line c.self.inside.lists old.waiters) (ends_in xs) = record { here = ends_are xs n old value; queues = c.self.invariant } in
    let new = links_of c.enter.new.self in
    let kept = c.in_err-enter.ensures.err in
    let same = unwritten at new xs _ n old _ c.get_mut-entry.ensures.rising value
    (ap (λ (ws : List Waiter). record { content = old.content; references = old.references; waiters = ws }) (kept.told (ends_in xs) are))
    (stays_by_ends at new xs n (kept.others (ends_in xs) are)) in
    let whole = ap (λ ys. record { things = ys; greatest = c.self.inside.cells.greatest }) same ∙ c.self.view_is in
    on_err c.from_residual.result whole

pub invariant_of-self-2 : goal.invariant_of-self-2
invariant_of-self-2 g c =
    let n = c.args.cell.0 in
    let xs = c.self.inside.cells.things in
    let old = c.get_mut-entry.result.now in
    let value = c.get_mut-entry.ensures.value in
    let are : AreEnds n (line c.self.inside.lists old.waiters) (ends_in xs) = record { here = ends_are xs n old value; queues = c.self.invariant } in
    c.in_ok-enter.ensures.ok.queues (ends_in xs) _ are (λ m. ends_put xs n old _ m value)

pub returns-clause-ok : goal.returns-clause-ok
returns-clause-ok g c =
    let n = c.args.cell.0 in
    let at = links_of c.self.inside.lists in
    let xs = c.self.inside.cells.things in
    let old = c.get_mut-entry.result.now in
    let value = c.get_mut-entry.ensures.value in
    let are : AreEnds n (line c.self.inside.lists old.waiters) (ends_in xs) = record { here = ends_are xs n old value; queues = c.self.invariant } in
    let new = links_of c.enter.new.self in
    let more = c.in_ok-enter.ensures.ok in
    rw (← c.self.view_is) (λ x is. written at new xs _ n old _ x (λ t. record t { waiters = t.waiters ++ c.args.waiter ∷ [] }) c.get_mut-entry.ensures.rising value is
    (ap (λ (ws : List Waiter). record { content = old.content; references = old.references; waiters = ws }) (more.told (ends_in xs) are))
    (stays_by_ends at new xs n (more.others (ends_in xs) are)))
