-- What comes to wait at cells, beside the frames and tasks of a heap.
use Rattle.std.proofs.Common.{◌≡◌, ℕ, zero, suc, ◌-◌, true, false, List, [], ◌∷◌, length, refl, ap, ◌∙◌}
use Rattle.std.specs.declared.option.Option.{Option}
use Rattle.std.specs.declared.option.Option.TheVariants.{None, Some}
use Rattle.flow_value.specs.declared.value.Value.{Value}
use Rattle.flow_value.specs.declared.value.Outcome.{Outcome}
use Rattle.flow_numbered.specs.Numbered as stored
use Rattle.flow_cell.specs.declared.waiter.Waiter as memory
use Rattle.flow_cell.specs.Cells.{CellTree}
use Rattle.flow_stream.specs.Streams.{StreamTree}
use Rattle.flow_frame.specs.declared.held.Held.{Held}
use Rattle.flow_frame.specs.Frames.{FrameTree, with_place}
use Rattle.flow_frame.specs.Frames as frames
use Rattle.flow_cancel.specs.declared.task.Task.{Task}
use Rattle.flow_cancel.specs.Heap.{HeapTree}
use Rattle.flow_cancel.specs.Dropping.{dropping}
use Rattle.flow_cancel.specs.Leaving.{waiter_of}
use Rattle.flow_steps.specs.Points.{reframed, values, places_lost, losing_from, lost_from}
use Rattle.flow_steps.specs.Waiting.{Registered, stream_awaited, awaited, register, registered_then, register_all}

abbrev pub Frames : Type 0
Frames = stored.Store (FrameTree Value)

-- a heap with other frames and tasks
abbrev pub aside : Frames → List Task → HeapTree → HeapTree
aside fs ts h = record h { frames = fs; tasks = ts }

abbrev with_aside : Frames → List Task → Registered → Registered
with_aside fs ts y = (y.0, aside fs ts y.1)

module _ (i : ℕ) (fs : Frames) (ts : List Task) where
  stream_aside : (k : ℕ) (w : memory.Waiter) (s : StreamTree Value) (o : Option memory.Waiter) (h : HeapTree) → stream_awaited k w s o (aside fs ts h) ≡ with_aside fs ts (stream_awaited k w s o h)
  stream_aside k w s None h = refl
  stream_aside k w s (Some v) h = refl

  awaited_aside : (k : ℕ) (w : memory.Waiter) (a : Option (CellTree Outcome)) (b : Option (StreamTree Value)) (h : HeapTree) → awaited k w a b (aside fs ts h) ≡ with_aside fs ts (awaited k w a b h)
  awaited_aside k w (Some c) b h = refl
  awaited_aside k w None (Some s) h = stream_aside k w s s.waiter h
  awaited_aside k w None None h = refl

  then_aside : (others : HeapTree → Registered) → ((h : HeapTree) → others (aside fs ts h) ≡ with_aside fs ts (others h)) → (y : Registered)
      → registered_then others (with_aside fs ts y) ≡ with_aside fs ts (registered_then others y)
  then_aside others all (true, h) = all h
  then_aside others all (false, h) = refl

  pub register_aside : (xs : List Held) (h : HeapTree) → register_all i xs (aside fs ts h) ≡ with_aside fs ts (register_all i xs h)
  register_aside [] h = refl
  register_aside (x ∷ xs) h =
      ap (registered_then (register_all i xs)) (awaited_aside x.cell.0 (waiter_of i x) (stored.thing h.cells.things x.cell.0) (stored.thing h.streams.things x.cell.0) h)
      ∙ then_aside (register_all i xs) (register_aside xs) (register i x h)

-- two heaps that have the same frames and tasks now
pub record Alike (h k a b : HeapTree) : Type 0 where
  pub frames : Frames
  pub tasks : List Task
  pub one : a ≡ aside frames tasks h
  pub other : b ≡ aside frames tasks k

module _ (i : ℕ) (h k : HeapTree) where
  frame_alike : (n : ℕ) (fs : Frames) (ts : List Task) (vs : List Value) (o : Option (FrameTree Value))
      → Alike h k (dropping vs (reframed (λ f. with_place f n None) i o (aside fs ts h))) (dropping vs (reframed (λ f. with_place f n None) i o (aside fs ts k)))
  frame_alike n fs ts vs None = record { frames = fs; tasks = (dropping vs (aside fs ts h)).tasks; one = refl; other = refl }
  frame_alike n fs ts vs (Some f) = record {
    frames = stored.with_thing fs i (with_place f n None);
    tasks = (dropping vs (aside fs ts h)).tasks;
    one = refl;
    other = refl;
  }

  places_alike : (count n : ℕ) (fs : Frames) (ts : List Task) → Alike h k (places_lost i n count (aside fs ts h)) (places_lost i n count (aside fs ts k))
  places_alike zero n fs ts = record { frames = fs; tasks = ts; one = refl; other = refl }
  places_alike (suc c) n fs ts =
      let a = frame_alike n fs ts (values (frames.held_in n (stored.thing fs.things i))) (stored.thing fs.things i) in
      let b = places_alike c (suc n) a.frames a.tasks in record {
        frames = b.frames;
        tasks = b.tasks;
        one = ap (places_lost i (suc n) c) a.one ∙ b.one;
        other = ap (places_lost i (suc n) c) a.other ∙ b.other;
      }

  pub lost_alike : (n : ℕ) (fs : Frames) (ts : List Task) → Alike h k (lost_from i n (aside fs ts h)) (lost_from i n (aside fs ts k))
  lost_alike n fs ts = by_frame (stored.thing fs.things i)
    where
      by_frame : (o : Option (FrameTree Value)) → Alike h k (losing_from i n o (aside fs ts h)) (losing_from i n o (aside fs ts k))
      by_frame None = record { frames = fs; tasks = ts; one = refl; other = refl }
      by_frame (Some f) = places_alike (length f.places - n) n fs ts
