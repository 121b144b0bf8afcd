use Rattle.std.proofs.Common.{◌∙◌, ap, arith}
use Rattle.flow_cancel.specs.Heap.{HeapTree, no_heap, last_actor}
use Rattle.flow_heapstate.specs.Restoring.{with_cells, with_streams}
use Rattle.flow_heapstate.proofs.Filling.{streams_stay, last_stays, last_stays_too}
use Rattle.flow_heapstate.proofs.restoring.fill.Goals as goal

pub put_streams-requires-clause-rising : goal.put_streams-requires-clause-rising
put_streams-requires-clause-rising c =
    let before = c.in_ok-put_cells.ensures ∙ ap (with_cells c.args.state.cells.items) c.requires.none in
    let none = ap (λ (h : HeapTree). h.streams) before ∙ streams_stay c.args.state.cells.items no_heap in
    rw none (omega arith)

pub put_streams-requires-clause-above : goal.put_streams-requires-clause-above
put_streams-requires-clause-above c =
    let before = c.in_ok-put_cells.ensures ∙ ap (with_cells c.args.state.cells.items) c.requires.none in
    let none = ap (λ (h : HeapTree). h.streams) before ∙ streams_stay c.args.state.cells.items no_heap in
    rw none c.requires.order.streams

pub put_actors-requires : goal.put_actors-requires
put_actors-requires c =
    let before = c.in_ok-put_cells.ensures ∙ ap (with_cells c.args.state.cells.items) c.requires.none in
    let then_streams = c.in_ok-put_streams.ensures ∙ ap (with_streams c.args.state.streams.items) before in
    let none = ap last_actor then_streams ∙ last_stays_too c.args.state.streams.items (with_cells c.args.state.cells.items no_heap) ∙ last_stays c.args.state.cells.items no_heap in
    rw none c.requires.order.actors
