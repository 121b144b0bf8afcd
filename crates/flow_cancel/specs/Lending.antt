-- What a heap ends as, where one of its parts is lent.
use Rattle.std.specs.Borrow.{Lends, Fml, RattleType, MutBor}
use Rattle.flow_value.specs.declared.value.Value.{Value}
use Rattle.flow_value.specs.declared.value.Outcome.{Outcome}
use Rattle.flow_numbered.specs.Numbered.{Store}
use Rattle.flow_cell.specs.Cells.{CellTree}
use Rattle.flow_stream.specs.Streams.{StreamTree}
use Rattle.flow_frame.specs.Frames.{FrameTree}
use Rattle.flow_cancel.specs.Heap.{HeapTree}
use Rattle.flow_cancel.specs.contracts.heap.Heap.{the_row}
use Rattle.flow_cell.specs.contracts.cells.Cells as cells
use Rattle.flow_stream.specs.contracts.streams.Streams as streams
use Rattle.flow_frame.specs.contracts.frames.Frames as frames
use Rattle.flow_value.specs.contracts.value.Outcome as outcome
use Rattle.flow_value.specs.contracts.value.Value as value

-- once the borrow ends, the heap has that part as it was left
abbrev pub with_cells : HeapTree → Store (CellTree Outcome) → HeapTree
with_cells h s = record h { cells = s }

abbrev pub LendsCells : MutBor HeapTree → MutBor (Store (CellTree Outcome)) → Fml
LendsCells h r = Lends the_row (cells.the_row outcome.the_row) h r (with_cells h.now)

abbrev pub with_streams : HeapTree → Store (StreamTree Value) → HeapTree
with_streams h s = record h { streams = s }

abbrev pub LendsStreams : MutBor HeapTree → MutBor (Store (StreamTree Value)) → Fml
LendsStreams h r = Lends the_row (streams.the_row value.the_row) h r (with_streams h.now)

abbrev pub with_frames : HeapTree → Store (FrameTree Value) → HeapTree
with_frames h s = record h { frames = s }

abbrev pub LendsFrames : MutBor HeapTree → MutBor (Store (FrameTree Value)) → Fml
LendsFrames h r = Lends the_row (frames.the_row value.the_row) h r (with_frames h.now)
