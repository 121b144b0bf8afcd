-- Whether a heap can be made from a state: `SoundHeap`, as it is decided.
use Rattle.std.specs.Prelude.{◌≡◌, ℕ, ◌+◌, ◌^◌, nat_eq, nat_lt, nat_le, Bool, true, false, not, ◌&&◌, ◌||◌, List, [], ◌∷◌, map, length, is_some, is_none}
use Rattle.std.specs.List.{list_all, flat_map}
use Rattle.std.specs.declared.option.Option.{Option}
use Rattle.std.specs.declared.option.Option.TheVariants.{None, Some}
use Rattle.flow_base.specs.declared.ids.CellId.{CellId}
use Rattle.flow_value.specs.declared.value.Kind.TheVariants.{Promise, Future, PromiseStream, FutureStream}
use Rattle.flow_value.specs.Values.{refs_of}
use Rattle.flow_value.specs.View.{ref_of}
use Rattle.flow_cell.specs.declared.waiter.Waiter.{Waiter}
use Rattle.flow_frame.specs.declared.held.Held.{Held}
use Rattle.flow_cancel.specs.Leaving.{waits, waiter_of}
use Rattle.flow_heapstate.specs.State.{CellPart, StreamPart, ActorPart, Parts}
use Rattle.flow_heapstate.specs.Referring.{Ref, content_refs, references, times}
use Rattle.flow_heapstate.specs.declared.references.Found.{Found}
use Rattle.flow_heapstate.specs.Sound.{cell_at, stream_at, actor_at, value_refs, results, waits_in, calls_back}

-- numbers rise, each above the first bound and at most the second
abbrev pub rise_to : ℕ → List ℕ → ℕ → Bool
rise_to low [] most = nat_le low most
rise_to low (n ∷ ns) most = nat_lt low n && rise_to n ns most

-- the values that stand in a single result, and in a stream
abbrev pub held_refs : CellPart → List Ref
held_refs c = content_refs c.content

abbrev pub queue_refs : StreamPart → List Ref
queue_refs s = flat_map refs_of s.queue

-- what was found are the references of a state, those of its results, and those in its values
abbrev pub HasFound : Parts → Found → Type 0
HasFound p f =
    (map ref_of f.all.items ≡ references p) × (map ref_of f.results.items ≡ results p)
    × (map ref_of f.values.items ≡ value_refs p)

abbrev pub is_empty : {A : Type 0} → List A → Bool
is_empty [] = true
is_empty (x ∷ xs) = false

-- where one holds, the other does
abbrev pub only_if : Bool → Bool → Bool
only_if a b = not a || b

-- a single result is there, and unset
abbrev pub is_unset : Option CellPart → Bool
is_unset None = false
is_unset (Some c) = is_none c.content

module _ (p : Parts) where
  -- a reference leads to what its kind says
  abbrev pub is_named : Ref → Bool
  is_named (Promise, n) = is_some (cell_at p n)
  is_named (Future, n) = is_some (cell_at p n)
  is_named (PromiseStream, n) = is_some (stream_at p n)
  is_named (FutureStream, n) = is_some (stream_at p n)

  -- a waiter at a cell is a callback of its actor, and a callback waits at its cell
  abbrev pub is_waiting : ℕ → Waiter → Bool
  is_waiting k w = calls_back (actor_at p w.actor.0) w.callback k

  abbrev pub waits_at : ℕ → Held → Bool
  waits_at i x = waits_in (cell_at p x.cell.0) (stream_at p x.cell.0) (waiter_of i x)

  -- nothing else names the promise of what the process is to set itself
  abbrev pub cell_unowned : ℕ → Bool
  cell_unowned k = nat_eq (times Promise k (results p)) 0 && nat_eq (times Promise k (value_refs p)) 0

  -- a set one has no waiter, and one on which a request is open is unset, and nobody's
  abbrev pub cell_fits : CellPart → Bool
  cell_fits c =
      only_if (is_some c.content) (is_empty c.waiters)
      && only_if c.requested (is_none c.content && cell_unowned c.cell)

  abbrev pub cell_sound : CellPart → Bool
  cell_sound c =
      is_none (stream_at p c.cell) && (nat_lt 0 (times Promise c.cell (references p) + times Future c.cell (references p))
      && (list_all (is_waiting c.cell) c.waiters && cell_fits c))

  abbrev pub waiter_waits : ℕ → Option Waiter → Bool
  waiter_waits k None = true
  waiter_waits k (Some w) = is_waiting k w

  -- no value names the promise of a stream
  abbrev pub stream_unnamed : ℕ → Bool
  stream_unnamed k = nat_eq (times PromiseStream k (value_refs p)) 0

  -- one with a waiter has no element and no end, and that of a port has no end and no promise
  abbrev pub stream_fits : StreamPart → Bool
  stream_fits s =
      only_if (is_some s.waiter) (is_empty s.queue && is_none s.end)
      && only_if s.port (is_none s.end && stream_unnamed s.cell)

  abbrev pub stream_sound : StreamPart → Bool
  stream_sound s =
      nat_lt 0 (times PromiseStream s.cell (references p) + times FutureStream s.cell (references p))
      && (waiter_waits s.cell s.waiter && stream_fits s)

  -- the result of an actor is an unset one of its own, with a future
  abbrev pub result_sound : Option CellId → Bool
  result_sound None = true
  result_sound (Some k) =
      is_unset (cell_at p k.0) && (nat_eq (times Promise k.0 (results p)) 1 && (nat_lt 0 (times Future k.0 (references p))
      && nat_eq (times Promise k.0 (value_refs p)) 0))

  abbrev pub actor_sound : ActorPart → Bool
  actor_sound a =
      waits a.state a.callbacks && (list_all (waits_at a.actor) a.callbacks && (result_sound a.result
      && nat_lt (length a.places) (2 ^ 32)))

abbrev pub parts_rise : Parts → Bool
parts_rise p =
    rise_to 0 (map (λ c. c.cell) p.cells) p.cells_made && (rise_to 0 (map (λ s. s.cell) p.streams) p.cells_made
    && rise_to 0 (map (λ a. a.actor) p.actors) p.actors_made)

abbrev pub parts_sound : Parts → Bool
parts_sound p =
    list_all (cell_sound p) p.cells && (list_all (stream_sound p) p.streams && list_all (actor_sound p) p.actors)

abbrev pub is_sound : Parts → Bool
is_sound p = parts_rise p && (list_all (is_named p) (references p) && parts_sound p)
