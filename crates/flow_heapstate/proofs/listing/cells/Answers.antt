use Rattle.std.proofs.Common.{sym, ap, ◌∙◌, subst}
use Rattle.flow_numbered.specs.Numbered.{next_above}
use Rattle.flow_heapstate.specs.State.{cell_kept, cell_part}
use Rattle.flow_numbered.proofs.Above.{next_is}
use Rattle.flow_heapstate.proofs.Reading.{IsListed, next_found, listed_none, listed_next, listed_all}
use Rattle.flow_heapstate.proofs.listing.cells.Goals as goal

pub loop-cell-init : goal.loop-cell-init
loop-cell-init c = λ rising.
    subst (λ ys. IsListed cell_kept (cell_part c.args.heap.now.requests) c.args.heap.now.cells.things ys 0) (sym c.new-listed.ensures.items)
    (listed_none cell_kept (cell_part c.args.heap.now.requests) c.args.heap.now.cells.things c.args.heap.now.cells.greatest rising)

pub cell_state-requires : goal.cell_state-requires
cell_state-requires c =
    let found = next_found c.args.heap.now.cells.things c.loop-cell.last.0 c.in-Some.cell.0 (c.in-Some.ensures ∙ ap (λ s. next_above s.things c.loop-cell.last.0) c.cells.ensures) in
    found.there

pub loop-cell-smaller : goal.loop-cell-smaller
loop-cell-smaller c =
    let found = next_found c.args.heap.now.cells.things c.loop-cell.last.0 c.in-Some.cell.0 (c.in-Some.ensures ∙ ap (λ s. next_above s.things c.loop-cell.last.0) c.cells.ensures) in
    found.fewer

pub loop-cell-preserved : goal.loop-cell-preserved
loop-cell-preserved c = λ rising.
    let next = next_is 0 c.args.heap.now.cells.things c.args.heap.now.cells.greatest c.loop-cell.last.0 c.in-Some.cell.0 rising
    (c.in-Some.ensures ∙ ap (λ s. next_above s.things c.loop-cell.last.0) c.cells.ensures) in
    subst (λ ys. IsListed cell_kept (cell_part c.args.heap.now.requests) c.args.heap.now.cells.things ys c.in-Some.cell.0) (sym c.in_ok-push.ensures.items)
    (listed_next cell_kept (cell_part c.args.heap.now.requests) c.args.heap.now.cells.things c.loop-cell.listed.items c.in_ok-cell_state.field-0 c.loop-cell.last.0 c.in-Some.cell.0 next
    (c.loop-cell.invariant rising) (c.in_ok-cell_state.ensures next.what next.there))

pub returns : goal.returns
returns c = λ rising.
    listed_all cell_kept (cell_part c.args.heap.now.requests) c.args.heap.now.cells.things c.loop-cell.listed.items c.loop-cell.last.0 (c.loop-cell.invariant rising)
    (c.in_default.ensures ∙ ap (λ s. next_above s.things c.loop-cell.last.0) c.cells.ensures)
