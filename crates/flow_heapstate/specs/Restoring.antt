-- A heap made from a state that was kept.
use Rattle.std.specs.Prelude.{◌≡◌, ◌<◌, ℕ, nat_lt, max, map, ◌^◌, ◌&&◌, Bool, true, false, List, [], ◌∷◌, ◌++◌, length, if◌then◌else◌}
use Rattle.std.specs.Option.{ForSome}
use Rattle.std.specs.declared.option.Option.{Option}
use Rattle.std.specs.declared.option.Option.TheVariants.{None, Some}
use Rattle.flow_base.specs.declared.ids.ErrorCode.{ErrorCode}
use Rattle.flow_value.specs.declared.value.Kind.TheVariants as kind
use Rattle.flow_value.specs.declared.value.Value.{Value}
use Rattle.flow_value.specs.declared.value.Outcome.{Outcome}
use Rattle.flow_numbered.specs.Numbered.{Store, thing, with_thing}
use Rattle.flow_cell.specs.declared.counts.Side.{Side}
use Rattle.flow_cell.specs.declared.counts.Side.TheVariants.{Promise, Future}
use Rattle.flow_cell.specs.declared.waiter.Waiter.{Waiter}
use Rattle.flow_cell.specs.Cells.{CellTree, no_counts, held}
use Rattle.flow_stream.specs.Streams.{StreamTree}
use Rattle.flow_frame.specs.declared.held.Held.{Held}
use Rattle.flow_frame.specs.Frames.{FrameTree, in_state}
use Rattle.flow_cancel.specs.Heap.{HeapTree, no_heap, with_new, with_number, may_start, promised_in, new_note, skipped_actors}
use Rattle.flow_heapstate.specs.State.{parts_kept}
use Rattle.flow_heapstate.specs.Referring.{Ref, stored_refs}
use Rattle.flow_heapstate.specs.declared.state.CellState.{CellState}
use Rattle.flow_heapstate.specs.declared.state.StreamState.{StreamState}
use Rattle.flow_heapstate.specs.declared.state.ActorState.{ActorState}
use Rattle.flow_heapstate.specs.declared.state.HeapState.{HeapState}

-- a single result and a stream without a reference, and the frame of an actor that waits
abbrev pub cell_of : CellState → CellTree Outcome
cell_of s = record { content = s.content; references = no_counts; waiters = s.waiters.items }

abbrev pub stream_of : StreamState → StreamTree Value
stream_of s = record { references = no_counts; queue = s.queue.items; end = s.end; waiter = s.waiter }

abbrev pub frame_of : ActorState → FrameTree Value
frame_of s = record {
  class = s.class;
  state = s.state;
  block = 0;
  instruction = 0;
  places = s.places.items;
  callbacks = s.callbacks.items;
}

-- more waiters, elements and callbacks behind those that are there
abbrev pub waiters_more : CellTree Outcome → List Waiter → CellTree Outcome
waiters_more c ws = record c { waiters = c.waiters ++ ws }

abbrev pub queue_more : StreamTree Value → List Value → StreamTree Value
queue_more s vs = record s { queue = s.queue ++ vs }

abbrev pub callbacks_more : FrameTree Value → List Held → FrameTree Value
callbacks_more f hs = record f { callbacks = f.callbacks ++ hs }

-- a frame with a state and more callbacks
abbrev pub stood : ℕ → List Held → FrameTree Value → FrameTree Value
stood state hs f = callbacks_more (in_state state f) hs

-- a thing that is there changes like this
abbrev pub Turns : {A : Type 0} → Store A → ℕ → (A → A) → Store A → Type 0
Turns old n f new = ForSome (thing old.things n) (λ a. new ≡ with_thing old n (f a))

-- other content, another end and another waiter
abbrev pub with_content : Option Outcome → CellTree Outcome → CellTree Outcome
with_content o c = record c { content = o }

abbrev pub with_end : Option ErrorCode → StreamTree Value → StreamTree Value
with_end o s = record s { end = o }

abbrev pub with_wait : Option Waiter → StreamTree Value → StreamTree Value
with_wait o s = record s { waiter = o }

abbrev pub noted_if : Bool → ℕ → List ℕ → List ℕ
noted_if false n ns = ns
noted_if true n ns = with_number ns n

-- Single results come in, with the requests that are open on them; then streams, with their ports.
abbrev pub with_cell : CellState → HeapTree → HeapTree
with_cell s h = record h {
  cells = with_new h.cells s.cell.0 (cell_of s);
  requests = noted_if s.requested s.cell.0 h.requests;
}

abbrev pub with_cells : List CellState → HeapTree → HeapTree
with_cells [] h = h
with_cells (s ∷ ss) h = with_cells ss (with_cell s h)

abbrev pub with_stream : StreamState → HeapTree → HeapTree
with_stream s h = record h {
  streams = with_new h.streams s.cell.0 (stream_of s);
  ports = noted_if s.port s.cell.0 h.ports;
}

abbrev pub with_streams : List StreamState → HeapTree → HeapTree
with_streams [] h = h
with_streams (s ∷ ss) h = with_streams ss (with_stream s h)

-- An actor comes in where it may start with its result, of which it counts as a promise, and where its
-- places are few enough for a frame.
abbrev pub can_begin : ActorState → HeapTree → Bool
can_begin s h = nat_lt (length s.places.items) (2 ^ 32) && may_start s.result h

abbrev pub begun : ActorState → HeapTree → HeapTree
begun s h = record h {
  cells = promised_in s.result h.cells;
  frames = with_new h.frames s.actor.0 (frame_of s);
  actors = with_new h.actors s.actor.0 (new_note s.result);
}

abbrev pub with_actor : ActorState → HeapTree → HeapTree
with_actor s h = if can_begin s h then begun s h else h

abbrev pub with_actors : List ActorState → HeapTree → HeapTree
with_actors [] h = h
with_actors (s ∷ ss) h = with_actors ss (with_actor s h)

-- A reference counts where its cell is.
abbrev pub cell_held : Side → ℕ → Option (CellTree Outcome) → Store (CellTree Outcome)
    → Store (CellTree Outcome)
cell_held side n None s = s
cell_held side n (Some c) s = with_thing s n (record c { references = held side c.references })

abbrev pub stream_held : Side → ℕ → Option (StreamTree Value) → Store (StreamTree Value)
    → Store (StreamTree Value)
stream_held side n None s = s
stream_held side n (Some c) s = with_thing s n (record c { references = held side c.references })

abbrev pub held_in_cells : Side → ℕ → HeapTree → HeapTree
held_in_cells side n h = record h { cells = cell_held side n (thing h.cells.things n) h.cells }

abbrev pub held_in_streams : Side → ℕ → HeapTree → HeapTree
held_in_streams side n h = record h { streams = stream_held side n (thing h.streams.things n) h.streams }

abbrev pub held_one : Ref → HeapTree → HeapTree
held_one (kind.Promise, n) h = held_in_cells Promise n h
held_one (kind.Future, n) h = held_in_cells Future n h
held_one (kind.PromiseStream, n) h = held_in_streams Promise n h
held_one (kind.FutureStream, n) h = held_in_streams Future n h

abbrev pub held_all : List Ref → HeapTree → HeapTree
held_all [] h = h
held_all (r ∷ rs) h = held_all rs (held_one r h)

-- the heap without what is stored in it counted, and with that
abbrev pub filled : HeapState → HeapTree
filled s = with_actors s.actors.items (with_streams s.streams.items (with_cells s.cells.items no_heap))

abbrev pub uncounted : HeapState → HeapTree
uncounted s =
    record (skipped_actors s.actors_made (filled s)) {
      made = max (filled s).made s.cells_made;
      main = s.main;
    }

abbrev pub restored : HeapState → HeapTree
restored s = held_all (stored_refs (parts_kept s)) (uncounted s)

-- Numbers rise from one on.
abbrev pub RisesFrom : ℕ → List ℕ → Type 0
RisesFrom low [] = Unit {0}
RisesFrom low (n ∷ ns) = (low < n) × RisesFrom n ns

-- a state whose parts are in the order of their numbers
pub record StateInOrder (s : HeapState) : Type 0 where
  pub cells : RisesFrom 0 (map (λ c. c.cell.0) s.cells.items)
  pub streams : RisesFrom 0 (map (λ c. c.cell.0) s.streams.items)
  pub actors : RisesFrom 0 (map (λ a. a.actor.0) s.actors.items)
