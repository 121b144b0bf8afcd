-- What is done to a heap keeps that numbers rise in its stores, and which cells are streams of ports.
use Rattle.std.proofs.Common.{◌≡◌, ℕ, zero, suc, ◌<◌, ◌≤◌, ◌-◌, nat_eq, Bool, true, false, List, [], ◌∷◌, length, if◌then◌else◌, refl, ◌∙◌, arith}
use Rattle.std.specs.Prelude.{max}
use Rattle.std.specs.declared.option.Option.{Option}
use Rattle.std.specs.declared.option.Option.TheVariants.{None, Some}
use Rattle.flow_value.specs.declared.value.Value.{Value}
use Rattle.flow_value.specs.declared.value.Outcome.{Outcome}
use Rattle.flow_value.specs.declared.value.Kind.{Kind}
use Rattle.flow_value.specs.declared.value.Kind.TheVariants as kind
use Rattle.flow_numbered.specs.Numbered.{Numbered, Store, thing, added, put, removed, with_thing, IsRising}
use Rattle.flow_cell.specs.declared.counts.Side.{Side}
use Rattle.flow_cell.specs.declared.counts.Side.TheVariants.{Promise, Future}
use Rattle.flow_cell.specs.declared.waiter.Waiter.{Waiter}
use Rattle.flow_cell.specs.Cells.{CellTree}
use Rattle.flow_cell.specs.Waiting.{has_waiter, without_newest}
use Rattle.flow_stream.specs.Streams.{StreamTree}
use Rattle.flow_frame.specs.Frames.{FrameTree}
use Rattle.flow_frame.specs.declared.held.Held.{Held}
use Rattle.flow_cancel.specs.declared.actors.Note.{Note}
use Rattle.flow_cancel.specs.declared.task.Task.{Task}
use Rattle.flow_cancel.specs.Heap.{HeapTree, without, next_cell, next_actor, pushed, with_result, with_stream, promised_at, promised_in, started_holding, finished}
use Rattle.flow_cancel.specs.Leaving.{is_waiter, leave_stream_at, leave_cell_at, waiter_of, leave_one, leave_all, withdrawn_from, withdrawn, marked_in, marked, cancelled_by, cancelled, suspended}
use Rattle.flow_meaning.specs.Cells.{Ref}
use Rattle.flow_heap_refinement.specs.Changes.{cell_put, stream_put}
use Rattle.flow_heap_refinement.specs.Acting.{frame_put}
use Rattle.flow_heap_refinement.specs.Holds.{held_cell, held_stream, hold, hold_all, set_cell, send_stream, filled_in}
use Rattle.flow_steps.specs.Delivering.{made, promise_ended, without_promise}
use Rattle.flow_steps.specs.Points.{reframed, with_frame, places_emptied, place_put, place_lost, places_lost, losing_from, lost_from, noting}
use Rattle.flow_steps.specs.Delivering.{gone_to}
use Rattle.flow_burst_refinement.specs.Invariants.Staying.{StoresRise}

-- stores
rise_put : {A : Type 0} (xs : Numbered A) (low most n : ℕ) (a : A) → IsRising low xs most → IsRising low (put xs n a) most
rise_put [] low most n a h = h
rise_put (x ∷ xs) low most n a h = by_test (nat_eq n x.0) (rise_put xs x.0 most n a h.1)
  where
    by_test : (b : Bool) → IsRising x.0 (put xs n a) most → IsRising low (if b then (x.0, a) ∷ xs else x ∷ put xs n a) most
    by_test true k = (h.0, h.1)
    by_test false k = (h.0, k)

rise_from : {A : Type 0} (xs : Numbered A) (low above most : ℕ) → low ≤ above → IsRising above xs most → IsRising low xs most
rise_from [] low above most l h = omega (arith, l, h)
rise_from (x ∷ xs) low above most l h = (omega (arith, l, h.0), h.1)

rise_removed : {A : Type 0} (xs : Numbered A) (low most n : ℕ) → IsRising low xs most → IsRising low (removed xs n) most
rise_removed [] low most n h = h
rise_removed (x ∷ xs) low most n h = by_test (nat_eq n x.0) (rise_removed xs x.0 most n h.1)
  where
    by_test : (b : Bool) → IsRising x.0 (removed xs n) most → IsRising low (if b then xs else x ∷ removed xs n) most
    by_test true k = rise_from xs low x.0 most (omega (arith, h.0)) h.1
    by_test false k = (h.0, k)

rise_added : {A : Type 0} (xs : Numbered A) (low most n : ℕ) (a : A) → most < n → IsRising low xs most → IsRising low (added xs n a) n
rise_added [] low most n a l h = (omega (arith, l, h), omega arith)
rise_added (x ∷ xs) low most n a l h = (h.0, rise_added xs x.0 most n a l h.1)

-- a heap and one that comes of it
pub record HeapStays (h g : HeapTree) : Type 0 where
  pub rise : StoresRise h → StoresRise g
  pub ports : g.ports ≡ h.ports

pub still : (h : HeapTree) → HeapStays h h
still h = record { rise = λ s. s; ports = refl }

pub and_then : (h g k : HeapTree) → HeapStays h g → HeapStays g k → HeapStays h k
and_then h g k a b = record { rise = λ s. b.rise (a.rise s); ports = b.ports ∙ a.ports }

pub other_tasks : (h : HeapTree) (ts : List Task) → HeapStays h (record h { tasks = ts })
other_tasks h ts = record { rise = λ s. record { cells = s.cells; streams = s.streams; actors = s.actors; frames = s.frames }; ports = refl }

pub push_stays : (t : Task) (h : HeapTree) → HeapStays h (pushed t h)
push_stays t h = other_tasks h (t ∷ h.tasks)

pub cell_put_stays : (k : ℕ) (m : CellTree Outcome) (h : HeapTree) → HeapStays h (cell_put k m h)
cell_put_stays k m h = record { rise = λ s. record { cells = rise_put h.cells.things 0 h.cells.greatest k m s.cells; streams = s.streams; actors = s.actors; frames = s.frames }; ports = refl }

pub stream_put_stays : (k : ℕ) (m : StreamTree Value) (h : HeapTree) → HeapStays h (stream_put k m h)
stream_put_stays k m h = record { rise = λ s. record { cells = s.cells; streams = rise_put h.streams.things 0 h.streams.greatest k m s.streams; actors = s.actors; frames = s.frames }; ports = refl }

pub frame_put_stays : (i : ℕ) (m : FrameTree Value) (h : HeapTree) → HeapStays h (frame_put i m h)
frame_put_stays i m h = record { rise = λ s. record { cells = s.cells; streams = s.streams; actors = s.actors; frames = rise_put h.frames.things 0 h.frames.greatest i m s.frames }; ports = refl }

note_put_stays : (i : ℕ) (n : Note) (h : HeapTree) → HeapStays h (record h { actors = with_thing h.actors i n })
note_put_stays i n h = record { rise = λ s. record { cells = s.cells; streams = s.streams; actors = rise_put h.actors.things 0 h.actors.greatest i n s.actors; frames = s.frames }; ports = refl }

pub cell_gone_stays : (k : ℕ) (h : HeapTree) → HeapStays h (record h { cells = without h.cells k })
cell_gone_stays k h = record { rise = λ s. record { cells = rise_removed h.cells.things 0 h.cells.greatest k s.cells; streams = s.streams; actors = s.actors; frames = s.frames }; ports = refl }

pub stream_gone_stays : (k : ℕ) (h : HeapTree) → HeapStays h (record h { streams = without h.streams k })
stream_gone_stays k h = record { rise = λ s. record { cells = s.cells; streams = rise_removed h.streams.things 0 h.streams.greatest k s.streams; actors = s.actors; frames = s.frames }; ports = refl }

pub finished_stays : (i : ℕ) (h : HeapTree) → HeapStays h (finished i h)
finished_stays i h = record {
  rise = λ s. record {
    cells = s.cells;
    streams = s.streams;
    actors = rise_removed h.actors.things 0 h.actors.greatest i s.actors;
    frames = rise_removed h.frames.things 0 h.frames.greatest i s.frames;
  };
  ports = refl;
}

-- new things
less_left : (a b c : ℕ) → b < suc (max a (max b c))
less_left a b c = omega arith

less_right : (a b c : ℕ) → c < suc (max a (max b c))
less_right a b c = omega arith

less_first : (a b : ℕ) → a < suc (max a b)
less_first a b = omega arith

less_second : (a b : ℕ) → b < suc (max a b)
less_second a b = omega arith

pub made_stays : (kd : Kind) (h : HeapTree) → HeapStays h (made kd h)
made_stays kd h = by_kind kd
  where
    result : HeapStays h (with_result (next_cell h) h)
    result = record {
      rise = λ s. record {
        cells = rise_added h.cells.things 0 h.cells.greatest (next_cell h) _ (less_left h.made h.cells.greatest h.streams.greatest) s.cells;
        streams = s.streams;
        actors = s.actors;
        frames = s.frames;
      };
      ports = refl;
    }

    stream : HeapStays h (with_stream (next_cell h) h)
    stream = record {
      rise = λ s. record {
        cells = s.cells;
        streams = rise_added h.streams.things 0 h.streams.greatest (next_cell h) _
            (less_right h.made h.cells.greatest h.streams.greatest) s.streams;
        actors = s.actors;
        frames = s.frames;
      };
      ports = refl;
    }

    by_kind : (kd : Kind) → HeapStays h (made kd h)
    by_kind kind.Promise = result
    by_kind kind.Future = result
    by_kind kind.PromiseStream = stream
    by_kind kind.FutureStream = stream

promised_rise : (o : Option _) (s : Store (CellTree Outcome)) → IsRising 0 s.things s.greatest → IsRising 0 (promised_in o s).things (promised_in o s).greatest
promised_rise None s h = h
promised_rise (Some k) s h = by_cell (thing s.things k.0)
  where
    by_cell : (x : Option (CellTree Outcome)) → IsRising 0 (promised_at k.0 x s).things (promised_at k.0 x s).greatest
    by_cell None = h
    by_cell (Some c) = rise_put s.things 0 s.greatest k.0 _ h

pub started_stays : (class places : ℕ) (xs : List (Option Value)) (o : Option _) (h : HeapTree) → HeapStays h (started_holding class places xs o h)
started_stays class places xs o h = record {
  rise = λ s. record {
    cells = promised_rise o h.cells s.cells;
    streams = s.streams;
    actors = rise_added h.actors.things 0 h.actors.greatest (next_actor h) _ (less_first h.actors.greatest h.frames.greatest) s.actors;
    frames = rise_added h.frames.things 0 h.frames.greatest (next_actor h) _ (less_second h.actors.greatest h.frames.greatest) s.frames;
  };
  ports = refl;
}

-- references that count
pub hold_stays : (kd : Kind) (k : ℕ) (h : HeapTree) → HeapStays h (hold kd k h)
hold_stays kd k h = by_kind kd
  where
    cell : (s : Side) (x : Option (CellTree Outcome)) → HeapStays h (held_cell s k x h)
    cell s None = still h
    cell s (Some c) = cell_put_stays k _ h

    stream : (s : Side) (x : Option (StreamTree Value)) → HeapStays h (held_stream s k x h)
    stream s None = still h
    stream s (Some c) = stream_put_stays k _ h

    by_kind : (kd : Kind) → HeapStays h (hold kd k h)
    by_kind kind.Promise = cell Promise (thing h.cells.things k)
    by_kind kind.Future = cell Future (thing h.cells.things k)
    by_kind kind.PromiseStream = stream Promise (thing h.streams.things k)
    by_kind kind.FutureStream = stream Future (thing h.streams.things k)

pub hold_all_stays : (rs : List Ref) (h : HeapTree) → HeapStays h (hold_all rs h)
hold_all_stays [] h = still h
hold_all_stays (r ∷ rs) h = and_then h (hold r.0 r.1 h) (hold_all rs (hold r.0 r.1 h)) (hold_stays r.0 r.1 h) (hold_all_stays rs (hold r.0 r.1 h))

-- content
pub filled_stays : (kd : Kind) (k : ℕ) (o : Outcome) (h : HeapTree) → HeapStays h (filled_in kd k o h)
filled_stays kd k o h = by_kind kd
  where
    fires : (kd : Kind) (g : HeapTree) (t : Task) → HeapStays h g → HeapStays h (pushed t (hold kd k g))
    fires kd g t a = and_then h g (pushed t (hold kd k g)) a (and_then g (hold kd k g) (pushed t (hold kd k g)) (hold_stays kd k g) (push_stays t (hold kd k g)))

    cell : (x : Option (CellTree Outcome)) → HeapStays h (set_cell k o x h)
    cell None = still h
    cell (Some m) = fires kind.Future (cell_put k (record m { content = Some o }) h) _ (cell_put_stays k (record m { content = Some o }) h)

    stream : (x : Option (StreamTree Value)) → HeapStays h (send_stream k o x h)
    stream None = still h
    stream (Some m) = fires kind.FutureStream (stream_put k _ h) _ (stream_put_stays k _ h)

    by_kind : (kd : Kind) → HeapStays h (filled_in kd k o h)
    by_kind kind.Promise = cell (thing h.cells.things k)
    by_kind kind.Future = cell (thing h.cells.things k)
    by_kind kind.PromiseStream = stream (thing h.streams.things k)
    by_kind kind.FutureStream = stream (thing h.streams.things k)

pub without_promise_stays : (k : ℕ) (h : HeapTree) → HeapStays h (without_promise k h)
without_promise_stays k h = by_cell (thing h.cells.things k)
  where
    by_cell : (x : Option (CellTree Outcome)) → HeapStays h (promise_ended k x h)
    by_cell None = still h
    by_cell (Some c) = cell_put_stays k _ h

-- frames
pub frame_stays : (g : FrameTree Value → FrameTree Value) (i : ℕ) (h : HeapTree) → HeapStays h (with_frame g i h)
frame_stays g i h = by_frame (thing h.frames.things i)
  where
    by_frame : (x : Option (FrameTree Value)) → HeapStays h (reframed g i x h)
    by_frame None = still h
    by_frame (Some f) = frame_put_stays i (g f) h

pub noting_stays : (b : Bool) (i block n : ℕ) (h : HeapTree) → HeapStays h (noting b i block n h)
noting_stays true i block n h = still h
noting_stays false i block n h = frame_stays (gone_to block n) i h

pub emptied_stays : (i : ℕ) (ns : List ℕ) (h : HeapTree) → HeapStays h (places_emptied i ns h)
emptied_stays i [] h = still h
emptied_stays i (n ∷ ns) h = and_then h (place_put i n None h) (places_emptied i ns (place_put i n None h)) (frame_stays _ i h) (emptied_stays i ns (place_put i n None h))

lost_stays : (i n m : ℕ) (h : HeapTree) → HeapStays h (places_lost i n m h)
lost_stays i n zero h = still h
lost_stays i n (suc m) h =
    and_then h (place_lost i n h) (places_lost i (suc n) m (place_lost i n h))
    (and_then h (place_put i n None h) (place_lost i n h) (frame_stays _ i h) (other_tasks (place_put i n None h) _)) (lost_stays i (suc n) m (place_lost i n h))

pub lost_from_stays : (i n : ℕ) (h : HeapTree) → HeapStays h (lost_from i n h)
lost_from_stays i n h = by_frame (thing h.frames.things i)
  where
    by_frame : (x : Option (FrameTree Value)) → HeapStays h (losing_from i n x h)
    by_frame None = still h
    by_frame (Some f) = lost_stays i n (length f.places - n) h

-- actors that leave their waits
leave_one_stays : (i : ℕ) (x : Held) (h : HeapTree) → HeapStays h (leave_one i x h)
leave_one_stays i x h = and_then h left (leave_one i x h) (by_cell (thing h.cells.things x.cell.0)) (push_stays _ left)
  where
    w : Waiter
    w = waiter_of i x

    left : HeapTree
    left = leave_cell_at x.cell.0 w (thing h.cells.things x.cell.0) h

    cell : (c : CellTree Outcome) (b : Bool) → HeapStays h (record h { cells = if b then with_thing h.cells x.cell.0 (record c { waiters = without_newest c.waiters w }) else h.cells })
    cell c true = cell_put_stays x.cell.0 _ h
    cell c false = record { rise = λ s. record { cells = s.cells; streams = s.streams; actors = s.actors; frames = s.frames }; ports = refl }

    stream_by : (s : StreamTree Value) (b : Bool) → HeapStays h (record h { streams = if b then with_thing h.streams x.cell.0 (record s { waiter = None }) else h.streams })
    stream_by s true = stream_put_stays x.cell.0 _ h
    stream_by s false = record { rise = λ s. record { cells = s.cells; streams = s.streams; actors = s.actors; frames = s.frames }; ports = refl }

    stream : (o : Option (StreamTree Value)) → HeapStays h (record h { streams = leave_stream_at x.cell.0 w o h.streams })
    stream None = record { rise = λ s. record { cells = s.cells; streams = s.streams; actors = s.actors; frames = s.frames }; ports = refl }
    stream (Some s) = stream_by s (is_waiter w s.waiter)

    by_cell : (o : Option (CellTree Outcome)) → HeapStays h (leave_cell_at x.cell.0 w o h)
    by_cell None = stream (thing h.streams.things x.cell.0)
    by_cell (Some c) = cell c (has_waiter c.waiters w)

leave_all_stays : (i : ℕ) (xs : List Held) (h : HeapTree) → HeapStays h (leave_all i xs h)
leave_all_stays i [] h = still h
leave_all_stays i (x ∷ xs) h = and_then h (leave_all i xs h) (leave_one i x (leave_all i xs h)) (leave_all_stays i xs h) (leave_one_stays i x (leave_all i xs h))

pub withdrawn_stays : (i : ℕ) (h : HeapTree) → HeapStays h (withdrawn i h)
withdrawn_stays i h = by_frame (thing h.frames.things i)
  where
    by_frame : (x : Option (FrameTree Value)) → HeapStays h (withdrawn_from i x h)
    by_frame None = still h
    by_frame (Some f) =
        let g = frame_put i (record f { callbacks = [] }) h in
        and_then h g (leave_all i f.callbacks g) (frame_put_stays i (record f { callbacks = [] }) h) (leave_all_stays i f.callbacks g)

pub cancelled_stays : (i : ℕ) (h : HeapTree) → HeapStays h (cancelled i h)
cancelled_stays i h = and_then h (marked i h) (cancelled i h) (by_note (thing h.actors.things i)) (by_wait (suspended i h) (marked i h))
  where
    by_note : (x : Option Note) → HeapStays h (record h { actors = marked_in i x h.actors })
    by_note None = record { rise = λ s. record { cells = s.cells; streams = s.streams; actors = s.actors; frames = s.frames }; ports = refl }
    by_note (Some n) = note_put_stays i _ h

    by_wait : (b : Bool) (g : HeapTree) → HeapStays g (cancelled_by b i g)
    by_wait false g = still g
    by_wait true g = and_then g (pushed _ g) (cancelled_by true i g) (push_stays _ g) (withdrawn_stays i (pushed _ g))
