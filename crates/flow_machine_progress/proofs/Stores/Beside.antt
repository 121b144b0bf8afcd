-- What is done to a heap beside results that are given: no task comes that stores something.
use Rattle.std.proofs.Common.{ℕ, zero, suc, Bool, true, false, List, [], ◌∷◌}
use Rattle.std.specs.Prelude.{◌-◌, length}
use Rattle.std.specs.declared.option.Option.{Option}
use Rattle.std.specs.declared.option.Option.TheVariants.{None, Some}
use Rattle.flow_base.specs.ErrorNumbers.{operation_cancelled}
use Rattle.flow_value.specs.declared.value.Value.{Value}
use Rattle.flow_value.specs.declared.value.Outcome.{Outcome}
use Rattle.flow_value.specs.declared.value.Kind.{Kind}
use Rattle.flow_value.specs.declared.value.Kind.TheVariants as kind
use Rattle.flow_numbered.specs.Numbered.{thing}
use Rattle.flow_cell.specs.declared.counts.Side.{Side}
use Rattle.flow_cell.specs.declared.counts.Side.TheVariants.{Promise, Future}
use Rattle.flow_cell.specs.declared.counts.Loss.{Loss}
use Rattle.flow_cell.specs.declared.counts.Loss.TheVariants as loss
use Rattle.flow_cell.specs.declared.waiter.Waiter.{Waiter}
use Rattle.flow_cell.specs.Cells.{CellTree, released}
use Rattle.flow_cell.specs.Cells as cells
use Rattle.flow_stream.specs.Streams.{StreamTree}
use Rattle.flow_frame.specs.declared.held.Held.{Held}
use Rattle.flow_frame.specs.Frames.{FrameTree}
use Rattle.flow_cancel.specs.declared.task.Task.{Task}
use Rattle.flow_cancel.specs.declared.task.Task.TheVariants.{Throw}
use Rattle.flow_cancel.specs.Heap.{HeapTree, actor_id, has_number, pushed}
use Rattle.flow_cancel.specs.Dropping.{refs_in, drops, content, cell_lost, cell_less, drop_cell, unheard, stream_lost, stream_less, drop_stream, dropped}
use Rattle.flow_cancel.specs.Leaving.{waiter_of, leave_cell_at, leave_all, withdrawn_from, withdrawn, suspended, marked, cancelled_by, cancelled}
use Rattle.flow_meaning.specs.Cells.{Ref}
use Rattle.flow_heap_refinement.specs.Holds.{held_cell, held_stream, hold, hold_all, set_cell, send_stream, filled_in}
use Rattle.flow_steps.specs.Delivering.{made, promise_ended, without_promise}
use Rattle.flow_steps.specs.Points.{reframed, with_frame, gone, noting, place_held, place_put, places_emptied, values, place_lost, places_lost, losing_from, lost_from}
use Rattle.flow_steps.specs.Waiting.{stream_awaited, awaited, register, Registered, registered_then, register_all}
use Rattle.flow_machine_progress.specs.Stores.{AllStoreNone, NoPromiseStored}

pub drops_none : (rs : List Ref) (ts : List Task) → AllStoreNone ts → AllStoreNone (drops rs ts)
drops_none [] ts p = p
drops_none (r ∷ rs) ts p = (tt, drops_none rs ts p)

pub making : (kd : Kind) (h : HeapTree) → NoPromiseStored h → NoPromiseStored (made kd h)
making kind.Promise h p = p
making kind.Future h p = p
making kind.PromiseStream h p = p
making kind.FutureStream h p = p

-- references that count
holding_cell : (s : Side) (k : ℕ) (x : Option (CellTree Outcome)) (h : HeapTree) → NoPromiseStored h → NoPromiseStored (held_cell s k x h)
holding_cell s k None h p = p
holding_cell s k (Some c) h p = p

holding_stream : (s : Side) (k : ℕ) (x : Option (StreamTree Value)) (h : HeapTree) → NoPromiseStored h → NoPromiseStored (held_stream s k x h)
holding_stream s k None h p = p
holding_stream s k (Some c) h p = p

pub holding : (kd : Kind) (k : ℕ) (h : HeapTree) → NoPromiseStored h → NoPromiseStored (hold kd k h)
holding kind.Promise k h p = holding_cell Promise k (thing h.cells.things k) h p
holding kind.Future k h p = holding_cell Future k (thing h.cells.things k) h p
holding kind.PromiseStream k h p = holding_stream Promise k (thing h.streams.things k) h p
holding kind.FutureStream k h p = holding_stream Future k (thing h.streams.things k) h p

pub holding_all : (rs : List Ref) (h : HeapTree) → NoPromiseStored h → NoPromiseStored (hold_all rs h)
holding_all [] h p = p
holding_all (r ∷ rs) h p = holding_all rs (hold r.0 r.1 h) (holding r.0 r.1 h p)

-- content
setting : (k : ℕ) (o : Outcome) (x : Option (CellTree Outcome)) (h : HeapTree) → NoPromiseStored h → NoPromiseStored (set_cell k o x h)
setting k o None h p = p
setting k o (Some m) h p = (tt, holding kind.Future k _ p)

sending : (k : ℕ) (o : Outcome) (x : Option (StreamTree Value)) (h : HeapTree) → NoPromiseStored h → NoPromiseStored (send_stream k o x h)
sending k o None h p = p
sending k o (Some m) h p = (tt, holding kind.FutureStream k _ p)

pub filling : (kd : Kind) (k : ℕ) (o : Outcome) (h : HeapTree) → NoPromiseStored h → NoPromiseStored (filled_in kd k o h)
filling kind.Promise k o h p = setting k o (thing h.cells.things k) h p
filling kind.Future k o h p = setting k o (thing h.cells.things k) h p
filling kind.PromiseStream k o h p = sending k o (thing h.streams.things k) h p
filling kind.FutureStream k o h p = sending k o (thing h.streams.things k) h p

promise_ending : (k : ℕ) (x : Option (CellTree Outcome)) (h : HeapTree) → NoPromiseStored h → NoPromiseStored (promise_ended k x h)
promise_ending k None h p = p
promise_ending k (Some c) h p = p

pub losing_promise : (k : ℕ) (h : HeapTree) → NoPromiseStored h → NoPromiseStored (without_promise k h)
losing_promise k h p = promise_ending k (thing h.cells.things k) h p

-- operands that leave their cells
leaving_cell : (k : ℕ) (w : Waiter) (o : Option (CellTree Outcome)) (h : HeapTree) → NoPromiseStored h → NoPromiseStored (leave_cell_at k w o h)
leaving_cell k w None h p = p
leaving_cell k w (Some c) h p = p

leaving_all : (j : ℕ) (xs : List Held) (h : HeapTree) → NoPromiseStored h → NoPromiseStored (leave_all j xs h)
leaving_all j [] h p = p
leaving_all j (x ∷ xs) h p =
    let g = leave_all j xs h in (tt, leaving_cell x.cell.0 (waiter_of j x) (thing g.cells.things x.cell.0) g (leaving_all j xs h p))

leaving : (i : ℕ) (o : Option (FrameTree Value)) (h : HeapTree) → NoPromiseStored h → NoPromiseStored (withdrawn_from i o h)
leaving i None h p = p
leaving i (Some f) h p = leaving_all i f.callbacks _ p

pub withdrawing : (i : ℕ) (h : HeapTree) → NoPromiseStored h → NoPromiseStored (withdrawn i h)
withdrawing i h p = leaving i (thing h.frames.things i) h p

cancelling_by : (b : Bool) (i : ℕ) (h : HeapTree) → NoPromiseStored h → NoPromiseStored (cancelled_by b i h)
cancelling_by false i h p = p
cancelling_by true i h p = withdrawing i (pushed (Throw (actor_id i) (record { 0 = operation_cancelled })) h) (tt, p)

pub cancelling : (i : ℕ) (h : HeapTree) → NoPromiseStored h → NoPromiseStored (cancelled i h)
cancelling i h p = cancelling_by (suspended i h) i (marked i h) p

-- and come to wait there
awaiting_stream : (k : ℕ) (w : Waiter) (s : StreamTree Value) (o : Option Waiter) (h : HeapTree) → NoPromiseStored h → NoPromiseStored (stream_awaited k w s o h).1
awaiting_stream k w s None h p = p
awaiting_stream k w s (Some v) h p = p

awaiting : (k : ℕ) (w : Waiter) (c : Option (CellTree Outcome)) (s : Option (StreamTree Value)) (h : HeapTree) → NoPromiseStored h → NoPromiseStored (awaited k w c s h).1
awaiting k w (Some c) s h p = p
awaiting k w None (Some s) h p = awaiting_stream k w s s.waiter h p
awaiting k w None None h p = p

pub registering : (j : ℕ) (xs : List Held) (h : HeapTree) → NoPromiseStored h → NoPromiseStored (register_all j xs h).1
registering j [] h p = p
registering j (x ∷ xs) h p = by_first (register j x h) (awaiting x.cell.0 (waiter_of j x) (thing h.cells.things x.cell.0) (thing h.streams.things x.cell.0) h p) (λ g. registering j xs g)
  where
    by_first : (r : Registered) → NoPromiseStored r.1 → ((g : HeapTree) → NoPromiseStored g → NoPromiseStored (register_all j xs g).1) → NoPromiseStored (registered_then (register_all j xs) r).1
    by_first (true, g) a rest = rest g a
    by_first (false, g) a rest = a

-- frames
framing : (f : FrameTree Value → FrameTree Value) (i : ℕ) (o : Option (FrameTree Value)) (h : HeapTree) → NoPromiseStored h → NoPromiseStored (reframed f i o h)
framing f i None h p = p
framing f i (Some x) h p = p

pub with_framed : (f : FrameTree Value → FrameTree Value) (i : ℕ) (h : HeapTree) → NoPromiseStored h → NoPromiseStored (with_frame f i h)
with_framed f i h p = framing f i (thing h.frames.things i) h p

pub going : (i b n : ℕ) (h : HeapTree) → NoPromiseStored h → NoPromiseStored (gone i b n h)
going i b n h p = with_framed _ i h p

pub told : (b : Bool) (i k n : ℕ) (h : HeapTree) → NoPromiseStored h → NoPromiseStored (noting b i k n h)
told true i k n h p = p
told false i k n h p = going i k n h p

pub putting : (i n : ℕ) (v : Option Value) (h : HeapTree) → NoPromiseStored h → NoPromiseStored (place_put i n v h)
putting i n v h p = with_framed _ i h p

pub emptying : (i : ℕ) (ns : List ℕ) (h : HeapTree) → NoPromiseStored h → NoPromiseStored (places_emptied i ns h)
emptying i [] h p = p
emptying i (n ∷ ns) h p = emptying i ns (place_put i n None h) (putting i n None h p)

losing_places : (i n m : ℕ) (h : HeapTree) → NoPromiseStored h → NoPromiseStored (places_lost i n m h)
losing_places i n zero h p = p
losing_places i n (suc m) h p =
    losing_places i (suc n) m (place_lost i n h) (drops_none (refs_in (values (place_held i n h))) (place_put i n None h).tasks (putting i n None h p))

losing_in : (i n : ℕ) (o : Option (FrameTree Value)) (h : HeapTree) → NoPromiseStored h → NoPromiseStored (losing_from i n o h)
losing_in i n None h p = p
losing_in i n (Some f) h p = losing_places i n (length f.places - n) h p

pub losing_all : (i n : ℕ) (h : HeapTree) → NoPromiseStored h → NoPromiseStored (lost_from i n h)
losing_all i n h p = losing_in i n (thing h.frames.things i) h p

-- what the loss of a reference leaves
cell_losing : (k : ℕ) (c : CellTree Outcome) (h : HeapTree) (l : Loss) → NoPromiseStored h → NoPromiseStored (cell_lost k c h l).0
cell_losing k c h loss.Kept p = p
cell_losing k c h loss.LastPromise p = p
cell_losing k c h loss.LastFuture p = p
cell_losing k c h loss.Gone p = drops_none (refs_in (content c.content)) h.tasks p

dropping_cell : (s : Side) (k : ℕ) (h : HeapTree) (o : Option (CellTree Outcome)) → NoPromiseStored h → NoPromiseStored (drop_cell s k h o).0
dropping_cell s k h None p = p
dropping_cell s k h (Some c) p = cell_losing k (cell_less s c) h (cells.loss s (released s c.references)) p

unhearing : (k : ℕ) (s : StreamTree Value) (h : HeapTree) (port : Bool) → NoPromiseStored h → NoPromiseStored (unheard k s h port).0
unhearing k s h false p = p
unhearing k s h true p = drops_none (refs_in s.queue) h.tasks p

stream_losing : (k : ℕ) (s : StreamTree Value) (h : HeapTree) (l : Loss) → NoPromiseStored h → NoPromiseStored (stream_lost k s h l).0
stream_losing k s h loss.Kept p = p
stream_losing k s h loss.LastPromise p = p
stream_losing k s h loss.LastFuture p = unhearing k s h (has_number h.ports k) p
stream_losing k s h loss.Gone p = drops_none (refs_in s.queue) h.tasks p

dropping_stream : (d : Side) (k : ℕ) (h : HeapTree) (o : Option (StreamTree Value)) → NoPromiseStored h → NoPromiseStored (drop_stream d k h o).0
dropping_stream d k h None p = p
dropping_stream d k h (Some s) p = stream_losing k (stream_less d s) h (cells.loss d (released d s.references)) p

pub losing : (kd : Kind) (k : ℕ) (h : HeapTree) → NoPromiseStored h → NoPromiseStored (dropped kd k h).0
losing kind.Promise k h p = dropping_cell Promise k h (thing h.cells.things k) p
losing kind.Future k h p = dropping_cell Future k h (thing h.cells.things k) p
losing kind.PromiseStream k h p = dropping_stream Promise k h (thing h.streams.things k) p
losing kind.FutureStream k h p = dropping_stream Future k h (thing h.streams.things k) p
