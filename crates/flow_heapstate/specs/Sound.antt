-- What is asked of a state that a heap is made from, and what that heap is.
use Rattle.std.specs.Prelude.{◌≡◌, ◌<◌, ◌≤◌, ◌+◌, ◌^◌, ℕ, nat_eq, Bool, true, false, ◌&&◌, ◌||◌, List, [], ◌∷◌, ◌++◌, map, length, IsSome, if◌then◌else◌}
use Rattle.std.specs.List.{AllByRecursion, flat_map}
use Rattle.std.specs.Option.{ForSome}
use Rattle.std.specs.declared.option.Option.{Option}
use Rattle.std.specs.declared.option.Option.TheVariants.{None, Some}
use Rattle.flow_base.specs.declared.ids.CellId.{CellId}
use Rattle.flow_value.specs.declared.value.Kind.TheVariants.{Promise, Future, PromiseStream, FutureStream}
use Rattle.flow_value.specs.Values.{refs_of}
use Rattle.flow_numbered.specs.Numbered.{thing}
use Rattle.flow_cell.specs.declared.waiter.Waiter.{Waiter}
use Rattle.flow_cell.specs.Cells.{Counts}
use Rattle.flow_cell.specs.Waiting.{has_waiter}
use Rattle.flow_frame.specs.declared.held.Held.{Held}
use Rattle.flow_cancel.specs.Heap.{HeapTree}
use Rattle.flow_cancel.specs.Leaving.{waits, waiter_of, is_waiter}
use Rattle.flow_heapstate.specs.State.{CellPart, StreamPart, ActorPart, Parts, parts_of, Rests}
use Rattle.flow_heapstate.specs.Referring.{Ref, content_refs, actor_refs, result_refs, references, times}

-- how many references to a single result, and to a stream, are among these
abbrev pub cell_times : ℕ → List Ref → Counts
cell_times n rs = record { promises = times Promise n rs; futures = times Future n rs }

abbrev pub stream_times : ℕ → List Ref → Counts
stream_times n rs = record { promises = times PromiseStream n rs; futures = times FutureStream n rs }

-- numbers that rise, each above the first bound and at most the second
abbrev pub RiseTo : ℕ → List ℕ → ℕ → Type 0
RiseTo low [] most = low ≤ most
RiseTo low (n ∷ ns) most = (low < n) × RiseTo n ns most

-- the single result, the stream and the actor with a number
abbrev pub at_number : {S : Type 0} → (S → ℕ) → List S → ℕ → Option S
at_number number [] n = None
at_number number (s ∷ ss) n = if nat_eq n (number s) then Some s else at_number number ss n

abbrev pub cell_at : Parts → ℕ → Option CellPart
cell_at p n = at_number (λ c. c.cell) p.cells n

abbrev pub stream_at : Parts → ℕ → Option StreamPart
stream_at p n = at_number (λ s. s.cell) p.streams n

abbrev pub actor_at : Parts → ℕ → Option ActorPart
actor_at p n = at_number (λ a. a.actor) p.actors n

-- a reference leads to what its kind says
abbrev pub IsNamed : Parts → Ref → Type 0
IsNamed p (Promise, n) = IsSome (cell_at p n)
IsNamed p (Future, n) = IsSome (cell_at p n)
IsNamed p (PromiseStream, n) = IsSome (stream_at p n)
IsNamed p (FutureStream, n) = IsSome (stream_at p n)

-- the references that stand in values, and the promises of results
abbrev pub value_refs : Parts → List Ref
value_refs p =
    flat_map (λ c. content_refs c.content) p.cells
    ++ (flat_map (λ s. flat_map refs_of s.queue) p.streams ++ flat_map actor_refs p.actors)

abbrev pub results : Parts → List Ref
results p = flat_map result_refs p.actors

-- a callback waits at its cell, and a waiter is a callback of its actor
abbrev pub waits_in : Option CellPart → Option StreamPart → Waiter → Bool
waits_in (Some c) o w = has_waiter c.waiters w
waits_in None (Some s) w = is_waiter w s.waiter
waits_in None None w = false

abbrev pub WaitsAt : Parts → ℕ → Held → Type 0
WaitsAt p i x = waits_in (cell_at p x.cell.0) (stream_at p x.cell.0) (waiter_of i x) ≡ true

abbrev pub has_held : List Held → ℕ → ℕ → Bool
has_held [] b k = false
has_held (x ∷ xs) b k = (nat_eq x.callback b && nat_eq x.cell.0 k) || has_held xs b k

abbrev pub calls_back : Option ActorPart → ℕ → ℕ → Bool
calls_back None b k = false
calls_back (Some a) b k = has_held a.callbacks b k

abbrev pub IsWaiting : Parts → ℕ → Waiter → Type 0
IsWaiting p k w = calls_back (actor_at p w.actor.0) w.callback k ≡ true

-- A single result is referenced, and a set one has no waiter; one on which a request is open is unset,
-- no actor's result, and no value names its promise.
pub record SoundCell (p : Parts) (c : CellPart) : Type 0 where
  pub apart : stream_at p c.cell ≡ None
  pub referenced : 0 < times Promise c.cell (references p) + times Future c.cell (references p)
  pub alone : IsSome c.content → c.waiters ≡ []
  pub waiters : AllByRecursion (IsWaiting p c.cell) c.waiters
  pub unset : c.requested ≡ true → c.content ≡ None
  pub own : c.requested ≡ true → times Promise c.cell (results p) ≡ 0
  pub unnamed : c.requested ≡ true → times Promise c.cell (value_refs p) ≡ 0

-- A stream is referenced, and has no waiter where it has an element or an end; that of a port has no
-- end, and no value names its promise.
pub record SoundStream (p : Parts) (s : StreamPart) : Type 0 where
  pub referenced : 0 < times PromiseStream s.cell (references p) + times FutureStream s.cell (references p)
  pub alone : IsSome s.waiter → (s.queue ≡ []) × (s.end ≡ None)
  pub waiter : (w : Waiter) → s.waiter ≡ Some w → IsWaiting p s.cell w
  pub open_port : s.port ≡ true → s.end ≡ None
  pub unnamed : s.port ≡ true → times PromiseStream s.cell (value_refs p) ≡ 0

-- An unfinished actor is suspended, its callbacks wait, and its result, if it has one, is an unset one
-- of its own, with a future, whose promise no value names. A frame has fewer than 2^32 places.
pub record OwnResult (p : Parts) (k : ℕ) : Type 0 where
  pub cell : CellPart
  pub there : cell_at p k ≡ Some cell
  pub unset : cell.content ≡ None
  pub own : times Promise k (results p) ≡ 1
  pub awaited : 0 < times Future k (references p)
  pub unnamed : times Promise k (value_refs p) ≡ 0

pub record SoundActor (p : Parts) (a : ActorPart) : Type 0 where
  pub suspended : waits a.state a.callbacks ≡ true
  pub callbacks : AllByRecursion (WaitsAt p a.actor) a.callbacks
  pub result : (k : CellId) → a.result ≡ Some k → OwnResult p k.0
  pub few : length a.places < 2 ^ 32

-- A state that can be restored: its parts stand in the order of their numbers, none above those given;
-- each reference leads to what its kind says; and its parts are sound.
pub record SoundHeap (p : Parts) : Type 0 where
  pub cells_rise : RiseTo 0 (map (λ c. c.cell) p.cells) p.cells_made
  pub streams_rise : RiseTo 0 (map (λ s. s.cell) p.streams) p.cells_made
  pub actors_rise : RiseTo 0 (map (λ a. a.actor) p.actors) p.actors_made
  pub named : AllByRecursion (IsNamed p) (references p)
  pub cells : AllByRecursion (SoundCell p) p.cells
  pub streams : AllByRecursion (SoundStream p) p.streams
  pub actors : AllByRecursion (SoundActor p) p.actors

-- a heap that rests, holds these parts, and counts each reference in them and no other
pub record RestsWith (p : Parts) (h : HeapTree) : Type 0 where
  pub rests : Rests h
  pub parts : parts_of h ≡ p
  pub cells : (n : ℕ)
      → ForSome (thing h.cells.things n) (λ c. c.references ≡ cell_times n (references p))
  pub streams : (n : ℕ)
      → ForSome (thing h.streams.things n) (λ s. s.references ≡ stream_times n (references p))
