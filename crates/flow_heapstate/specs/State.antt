-- The state of a heap that rests, as plain data.
use Rattle.std.specs.Prelude.{◌≡◌, ℕ, Bool, true, false, List, [], map, IsSome}
use Rattle.std.specs.Option.{option_map}
use Rattle.std.specs.declared.option.Option.{Option}
use Rattle.std.specs.declared.option.Option.TheVariants.{None, Some}
use Rattle.std.specs.List.{AllByRecursion}
use Rattle.flow_base.specs.declared.ids.CellId.{CellId}
use Rattle.flow_base.specs.declared.ids.ErrorCode.{ErrorCode}
use Rattle.flow_value.specs.declared.value.Value.{Value}
use Rattle.flow_value.specs.declared.value.Outcome.{Outcome}
use Rattle.flow_value.specs.Values.{ValueTree, OutcomeTree}
use Rattle.flow_value.specs.View.{value_of, outcome_of}
use Rattle.flow_numbered.specs.Numbered.{Numbered, thing, IsRising}
use Rattle.flow_cell.specs.declared.waiter.Waiter.{Waiter}
use Rattle.flow_cell.specs.Cells.{CellTree}
use Rattle.flow_stream.specs.Streams.{StreamTree}
use Rattle.flow_frame.specs.declared.held.Held.{Held}
use Rattle.flow_frame.specs.Frames.{FrameTree}
use Rattle.flow_cancel.specs.declared.actors.Note.{Note}
use Rattle.flow_cancel.specs.Heap.{HeapTree, has_number, last_cell, last_actor}
use Rattle.flow_cancel.specs.Leaving.{suspended_in}
use Rattle.flow_heapstate.specs.declared.state.CellState.{CellState}
use Rattle.flow_heapstate.specs.declared.state.StreamState.{StreamState}
use Rattle.flow_heapstate.specs.declared.state.ActorState.{ActorState}
use Rattle.flow_heapstate.specs.declared.state.HeapState.{HeapState}

-- a single result, a stream, and an unfinished actor with its frame
pub record CellPart : Type 0 where
  pub cell : ℕ
  pub content : Option OutcomeTree
  pub waiters : List Waiter
  pub requested : Bool

pub record StreamPart : Type 0 where
  pub cell : ℕ
  pub queue : List ValueTree
  pub end : Option ErrorCode
  pub waiter : Option Waiter
  pub port : Bool

pub record ActorPart : Type 0 where
  pub actor : ℕ
  pub result : Option CellId
  pub class : ℕ
  pub state : ℕ
  pub places : List (Option ValueTree)
  pub callbacks : List Held

-- the greatest numbers given, the hold on the result of `main`, and the parts by rising number
pub record Parts : Type 0 where
  pub cells_made : ℕ
  pub actors_made : ℕ
  pub main : Option CellId
  pub cells : List CellPart
  pub streams : List StreamPart
  pub actors : List ActorPart

-- what a place holds
abbrev pub place_of : Option Value → Option ValueTree
place_of p = option_map value_of p

-- a state that is kept
abbrev pub cell_kept : CellState → CellPart
cell_kept s = record {
  cell = s.cell.0;
  content = option_map outcome_of s.content;
  waiters = s.waiters.items;
  requested = s.requested;
}

abbrev pub stream_kept : StreamState → StreamPart
stream_kept s = record {
  cell = s.cell.0;
  queue = map value_of s.queue.items;
  end = s.end;
  waiter = s.waiter;
  port = s.port;
}

abbrev pub actor_kept : ActorState → ActorPart
actor_kept s = record {
  actor = s.actor.0;
  result = s.result;
  class = s.class;
  state = s.state;
  places = map place_of s.places.items;
  callbacks = s.callbacks.items;
}

abbrev pub parts_kept : HeapState → Parts
parts_kept s = record {
  cells_made = s.cells_made;
  actors_made = s.actors_made;
  main = s.main;
  cells = map cell_kept s.cells.items;
  streams = map stream_kept s.streams.items;
  actors = map actor_kept s.actors.items;
}

-- what stands in a heap
abbrev pub cell_part : (requests : List ℕ) → ℕ × CellTree Outcome → CellPart
cell_part requests x = record {
  cell = x.0;
  content = option_map outcome_of x.1.content;
  waiters = x.1.waiters;
  requested = has_number requests x.0;
}

abbrev pub stream_part : (ports : List ℕ) → ℕ × StreamTree Value → StreamPart
stream_part ports x = record {
  cell = x.0;
  queue = map value_of x.1.queue;
  end = x.1.end;
  waiter = x.1.waiter;
  port = has_number ports x.0;
}

-- the result of an actor, if it has one
abbrev pub result_noted : Option Note → Option CellId
result_noted None = None
result_noted (Some n) = n.result

abbrev pub actor_part : Numbered Note → ℕ × FrameTree Value → ActorPart
actor_part notes x = record {
  actor = x.0;
  result = result_noted (thing notes x.0);
  class = x.1.class;
  state = x.1.state;
  places = map place_of x.1.places;
  callbacks = x.1.callbacks;
}

abbrev pub parts_of : HeapTree → Parts
parts_of h = record {
  cells_made = last_cell h;
  actors_made = last_actor h;
  main = h.main;
  cells = map (cell_part h.requests) h.cells.things;
  streams = map (stream_part h.ports) h.streams.things;
  actors = map (actor_part h.actors.things) h.frames.things;
}

-- numbers rise
pub record NumbersRise (h : HeapTree) : Type 0 where
  pub cells : IsRising 0 h.cells.things h.cells.greatest
  pub streams : IsRising 0 h.streams.things h.streams.greatest
  pub frames : IsRising 0 h.frames.things h.frames.greatest

-- A heap rests: there is no task; each unfinished actor is suspended and not marked, and has a frame,
-- and no other actor has one; numbers rise; and what is noted of ports and requests is noted of streams
-- and single results.
abbrev pub IsAtRest : HeapTree → ℕ × FrameTree Value → Type 0
IsAtRest h x =
    (n : Note) × (thing h.actors.things x.0 ≡ Some n) × (n.marked ≡ false)
    × (suspended_in (Some x.1) ≡ true)

pub record Rests (h : HeapTree) : Type 0 where
  pub no_task : h.tasks ≡ []
  pub cells_rise : IsRising 0 h.cells.things h.cells.greatest
  pub streams_rise : IsRising 0 h.streams.things h.streams.greatest
  pub frames_rise : IsRising 0 h.frames.things h.frames.greatest
  pub at_rest : AllByRecursion (IsAtRest h) h.frames.things
  pub framed : AllByRecursion (λ x. IsSome (thing h.frames.things x.0)) h.actors.things
  pub ports : AllByRecursion (λ k. IsSome (thing h.streams.things k)) h.ports
  pub requests : AllByRecursion (λ k. IsSome (thing h.cells.things k)) h.requests
