use Rattle.std.proofs.Common.{◌≡◌, Some, None, ap, sym, ◌∙◌, arith}
use Rattle.flow_numbered.specs.Numbered.{thing}
use Rattle.flow_cell.specs.Waiting.{waits_at}
use Rattle.flow_cell.specs.Lines.{links_of}
use Rattle.flow_cell.specs.Seen.{ends_in}
use Rattle.flow_cell.proofs.SeenLemmas.{thing_seen, tree_of, ends_are}
use Rattle.flow_cell.proofs.cells.Cells.waits.Goals as goal

pub returns-in-Some : goal.returns-in-Some
returns-in-Some g c =
    let at = links_of c.self.inside.lists in
    let xs = c.self.inside.cells.things in
    let n = c.args.cell.0 in
    let found : thing xs n ≡ Some c.in-Some.found.now = grind arith in
    rw (← c.self.view_is) (c.has.ensures (ends_in xs) (record { here = ends_are xs n _ found; queues = c.self.invariant })
    ∙ sym (ap (λ o. waits_at o c.args.waiter) (thing_seen at xs n ∙ ap (tree_of at) found)))

pub returns-in-None : goal.returns-in-None
returns-in-None g c =
    let at = links_of c.self.inside.lists in
    let xs = c.self.inside.cells.things in
    let n = c.args.cell.0 in
    let found : thing xs n ≡ None = grind arith in
    rw (← c.self.view_is) (sym (ap (λ o. waits_at o c.args.waiter) (thing_seen at xs n ∙ ap (tree_of at) found)))
