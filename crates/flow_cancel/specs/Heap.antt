-- The heap of a process as plain lists.
use Rattle.std.specs.Prelude.{ℕ, suc, max, ◌^◌, ◌-◌, ◌&&◌, nat_eq, nat_lt, is_none, Bool, true, false, not, List, [], ◌∷◌, ◌++◌, if◌then◌else◌}
use Rattle.std.specs.Option.{option_map}
use Rattle.std.specs.Ordering.{nat_cmp}
use Rattle.std.specs.List.{list_any}
use Rattle.std.specs.BTreeMap.{is_at}
use Rattle.std.specs.BTreeSet.{insert_key}
use Rattle.std.specs.Set.{remove_key}
use Rattle.std.specs.declared.option.Option.{Option}
use Rattle.std.specs.declared.option.Option.TheVariants.{None, Some}
use Rattle.flow_base.specs.declared.ids.ActorId.{ActorId}
use Rattle.flow_base.specs.declared.ids.CellId.{CellId}
use Rattle.flow_value.specs.declared.value.Kind.{Kind}
use Rattle.flow_value.specs.declared.value.Kind.TheVariants as kind
use Rattle.flow_value.specs.declared.value.Value.{Value}
use Rattle.flow_value.specs.declared.value.Outcome.{Outcome}
use Rattle.flow_numbered.specs.Numbered.{Numbered, Store, thing, added, removed, with_thing}
use Rattle.flow_cell.specs.declared.counts.Side.{Side}
use Rattle.flow_cell.specs.declared.counts.Side.TheVariants.{Promise, Future}
use Rattle.flow_cell.specs.Cells.{CellTree, Counts, unset, held}
use Rattle.flow_stream.specs.Streams.{StreamTree, empty}
use Rattle.flow_frame.specs.Frames.{FrameTree, fresh, holding, all_empty}
use Rattle.flow_cancel.specs.declared.actors.Note.{Note}
use Rattle.flow_cancel.specs.declared.task.Task.{Task}

-- A heap: the tasks, newest first; single results, streams and frames by number; what is noted of each unfinished actor,
-- by number; the greatest number that was given to a cell; the cell whose future the process holds as the result of its
-- `main`; and the numbers of ports' streams and of cells with an open request, rising.
pub record HeapTree : Type 0 where
  pub tasks : List Task
  pub cells : Store (CellTree Outcome)
  pub streams : Store (StreamTree Value)
  pub frames : Store (FrameTree Value)
  pub actors : Store Note
  pub made : ℕ
  pub main : Option CellId
  pub ports : List ℕ
  pub requests : List ℕ

abbrev pub nothing : {A : Type 0} → Store A
nothing = record { things = []; greatest = 0 }

abbrev pub no_heap : HeapTree
no_heap = record {
  tasks = [];
  cells = nothing;
  streams = nothing;
  frames = nothing;
  actors = nothing;
  made = 0;
  main = None;
  ports = [];
  requests = [];
}

abbrev pub cell_id : ℕ → CellId
cell_id n = record { 0 = n }

abbrev pub actor_id : ℕ → ActorId
actor_id n = record { 0 = n }

-- numbers that rise: whether one is among them, one more, and one less
abbrev pub has_number : List ℕ → ℕ → Bool
has_number ns n = list_any (is_at (nat_cmp n)) ns

abbrev pub with_number : List ℕ → ℕ → List ℕ
with_number ns n = insert_key nat_cmp ns n

abbrev pub without_number : List ℕ → ℕ → List ℕ
without_number ns n = remove_key (is_at (nat_cmp n)) ns

-- the side of a cell to which a reference of a kind leads
abbrev pub side_of : Kind → Side
side_of kind.Promise = Promise
side_of kind.PromiseStream = Promise
side_of kind.Future = Future
side_of kind.FutureStream = Future

-- a task comes on top
abbrev pub pushed : Task → HeapTree → HeapTree
pushed t h = record h { tasks = t ∷ h.tasks }

-- the greatest numbers given to a cell and to an actor, and the numbers of the next ones
abbrev pub last_cell : HeapTree → ℕ
last_cell h = max h.made (max h.cells.greatest h.streams.greatest)

abbrev pub last_actor : HeapTree → ℕ
last_actor h = max h.actors.greatest h.frames.greatest

abbrev pub next_cell : HeapTree → ℕ
next_cell h = suc (last_cell h)

abbrev pub next_actor : HeapTree → ℕ
next_actor h = suc (last_actor h)

-- one more thing with a new number
abbrev pub with_new : {A : Type 0} → Store A → ℕ → A → Store A
with_new s n a = record { things = added s.things n a; greatest = n }

abbrev pub without : {A : Type 0} → Store A → ℕ → Store A
without s n = record s { things = removed s.things n }

-- a new single result, and a new stream, without a reference
abbrev pub with_result : ℕ → HeapTree → HeapTree
with_result k h = record h { made = k; cells = with_new h.cells k unset }

abbrev pub with_stream : ℕ → HeapTree → HeapTree
with_stream k h = record h { made = k; streams = with_new h.streams k empty }

-- the actor whose result a cell is
abbrev pub is_result : ℕ → Option CellId → Bool
is_result k None = false
is_result k (Some c) = nat_eq k c.0

abbrev pub owner : ℕ → Numbered Note → Option ℕ
owner k [] = None
owner k (x ∷ xs) = if is_result k x.1.result then Some x.0 else owner k xs

abbrev pub owner_of : Option CellId → Numbered Note → Option ℕ
owner_of None notes = None
owner_of (Some k) notes = owner k.0 notes

-- An actor may start with a result: none; or an unset single result of no unfinished actor, with a count of promises
-- that may rise.
abbrev pub may_start_at : Option ℕ → Option (CellTree Outcome) → Bool
may_start_at o None = false
may_start_at o (Some c) = nat_lt c.references.promises (2 ^ 64 - 1) && is_none c.content && is_none o

abbrev pub may_start : Option CellId → HeapTree → Bool
may_start None h = true
may_start (Some k) h = may_start_at (owner k.0 h.actors.things) (thing h.cells.things k.0)

abbrev pub new_note : Option CellId → Note
new_note cell = record { result = cell; marked = false }

-- An actor starts: it gets the next number, a frame, and a note of its result, for which it counts as a promise reference.
abbrev pub promised : CellTree Outcome → CellTree Outcome
promised c = record c { references = held Promise c.references }

abbrev pub promised_at : ℕ → Option (CellTree Outcome) → Store (CellTree Outcome) → Store (CellTree Outcome)
promised_at k None s = s
promised_at k (Some c) s = with_thing s k (promised c)

abbrev pub promised_in : Option CellId → Store (CellTree Outcome) → Store (CellTree Outcome)
promised_in None s = s
promised_in (Some k) s = promised_at k.0 (thing s.things k.0) s

abbrev pub started : (class places : ℕ) → Option CellId → HeapTree → HeapTree
started class places result h = record h {
  cells = promised_in result h.cells;
  frames = with_new h.frames (next_actor h) (fresh class places);
  actors = with_new h.actors (next_actor h) (new_note result);
}

-- the same, but the first places of its frame hold these
abbrev pub started_holding : (class places : ℕ) → List (Option Value) → Option CellId → HeapTree → HeapTree
started_holding class places xs result h = record h {
  cells = promised_in result h.cells;
  frames = with_new h.frames (next_actor h) (holding class places xs);
  actors = with_new h.actors (next_actor h) (new_note result);
}

-- a frame holds nothing: no value and no callback
abbrev pub is_empty : {A : Type 0} → List A → Bool
is_empty [] = true
is_empty (x ∷ xs) = false

abbrev pub holds_nothing : Option (FrameTree Value) → Bool
holds_nothing None = false
holds_nothing (Some f) = all_empty f.places && is_empty f.callbacks

abbrev pub may_finish : ℕ → HeapTree → Bool
may_finish i h = holds_nothing (thing h.frames.things i)

-- an actor is finished: its frame and its note are gone
abbrev pub finished : ℕ → HeapTree → HeapTree
finished i h = record h { frames = without h.frames i; actors = without h.actors i }

-- a heap without anything; the numbers given stay
abbrev pub emptied : {A : Type 0} → Store A → Store A
emptied s = record s { things = [] }

abbrev pub cleared : HeapTree → HeapTree
cleared h = record {
  tasks = [];
  cells = emptied h.cells;
  streams = emptied h.streams;
  frames = emptied h.frames;
  actors = emptied h.actors;
  made = h.made;
  main = None;
  ports = [];
  requests = [];
}

-- numbers up to this one count as given to an actor
abbrev pub skipped_actors : ℕ → HeapTree → HeapTree
skipped_actors i h = record h { frames = record h.frames { greatest = max h.frames.greatest i } }
