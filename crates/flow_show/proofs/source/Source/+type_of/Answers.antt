use Rattle.flow_tree.proofs.Views.{type_future_stream}
use Rattle.flow_show.proofs.source.Source.+type_of.Goals as goal

pub put_type-returns-in-FutureStream : goal.put_type-returns-in-FutureStream
put_type-returns-in-FutureStream t c =
    rw (c.in-FutureStream.is, type_future_stream c.in-FutureStream.of)
    (rw c.deref-in-FutureStream.ensures at c.put_wrapped-in-FutureStream.ensures)
