use Rattle.std.proofs.Common.{sym, ap, ◌∙◌, subst}
use Rattle.flow_numbered.specs.Numbered.{next_above}
use Rattle.flow_heapstate.specs.State.{stream_kept, stream_part}
use Rattle.flow_numbered.proofs.Above.{next_is}
use Rattle.flow_heapstate.proofs.Reading.{IsListed, next_found, listed_none, listed_next, listed_all}
use Rattle.flow_heapstate.proofs.listing.streams.Goals as goal

pub loop-cell-init : goal.loop-cell-init
loop-cell-init c = λ rising.
    subst (λ ys. IsListed stream_kept (stream_part c.args.heap.now.ports) c.args.heap.now.streams.things ys 0) (sym c.new-listed.ensures.items)
    (listed_none stream_kept (stream_part c.args.heap.now.ports) c.args.heap.now.streams.things c.args.heap.now.streams.greatest rising)

pub stream_state-requires : goal.stream_state-requires
stream_state-requires c =
    let found = next_found c.args.heap.now.streams.things c.loop-cell.last.0 c.in-Some.cell.0 (c.in-Some.ensures ∙ ap (λ s. next_above s.things c.loop-cell.last.0) c.streams.ensures) in
    found.there

pub loop-cell-smaller : goal.loop-cell-smaller
loop-cell-smaller c =
    let found = next_found c.args.heap.now.streams.things c.loop-cell.last.0 c.in-Some.cell.0 (c.in-Some.ensures ∙ ap (λ s. next_above s.things c.loop-cell.last.0) c.streams.ensures) in
    found.fewer

pub loop-cell-preserved : goal.loop-cell-preserved
loop-cell-preserved c = λ rising.
    let next = next_is 0 c.args.heap.now.streams.things c.args.heap.now.streams.greatest c.loop-cell.last.0 c.in-Some.cell.0 rising
    (c.in-Some.ensures ∙ ap (λ s. next_above s.things c.loop-cell.last.0) c.streams.ensures) in
    subst (λ ys. IsListed stream_kept (stream_part c.args.heap.now.ports) c.args.heap.now.streams.things ys c.in-Some.cell.0) (sym c.in_ok-push.ensures.items)
    (listed_next stream_kept (stream_part c.args.heap.now.ports) c.args.heap.now.streams.things c.loop-cell.listed.items c.in_ok-stream_state.field-0 c.loop-cell.last.0 c.in-Some.cell.0 next
    (c.loop-cell.invariant rising) (c.in_ok-stream_state.ensures next.what next.there))

pub returns : goal.returns
returns c = λ rising.
    listed_all stream_kept (stream_part c.args.heap.now.ports) c.args.heap.now.streams.things c.loop-cell.listed.items c.loop-cell.last.0 (c.loop-cell.invariant rising)
    (c.in_default.ensures ∙ ap (λ s. next_above s.things c.loop-cell.last.0) c.streams.ensures)
