-- Changes of an actor in a heap that are changes of it in the process that the heap shows.
use Rattle.std.specs.Prelude.{◌≡◌, ℕ, suc, ◌+◌, List, [], ◌∷◌, length, slice_get}
use Rattle.std.specs.Option.{option_map}
use Rattle.std.specs.declared.option.Option.{Option}
use Rattle.std.specs.declared.option.Option.TheVariants.{Some}
use Rattle.flow_value.specs.declared.value.Value.{Value}
use Rattle.flow_class.specs.Classes.{ClassTree, RawTree}
use Rattle.flow_numbered.specs.Numbered as stored
use Rattle.flow_frame.specs.Frames.{FrameTree}
use Rattle.flow_cancel.specs.declared.actors.Note.{Note}
use Rattle.flow_cancel.specs.Heap.{HeapTree, cell_id, started, finished}
use Rattle.flow_numbered.specs.Numbered.{thing, added, put, removed}
use Rattle.flow_meaning.specs.Process.{Task, Keep, Entry, Core, Proc}
use Rattle.flow_meaning.specs.Step.{proc, entry_of}
use Rattle.flow_meaning.specs.Orderly.{Rising}
use Rattle.flow_meaning.specs.Frame.{Frame, blanks}
use Rattle.flow_heap_refinement.specs.Representing.{Represents, Somebody, OneActor, wait_spot}
use Rattle.flow_heap_refinement.specs.Counted.{branches_of, waiters_at}

-- no operand of an actor is to be kept
abbrev pub NoKeep : (actor : ℕ) → List Task → Type 0
NoKeep i [] = Unit {0}
NoKeep i (Keep j spot r ∷ ts) = (i ≡ j → ⊥) × NoKeep i ts
NoKeep i (t ∷ ts) = NoKeep i ts

-- An actor that waits nowhere and has no operand to keep: nothing says then where it stands.
pub record Free (i : ℕ) (c : Core) : Type 0 where
  pub waits : (k : ℕ) → branches_of i (waiters_at (thing c.cells k)) ≡ []
  pub keeps : NoKeep i c.tasks

-- all that stands at an actor's number
abbrev pub At : RawTree → HeapTree → Proc Frame → (actor : ℕ) → Type 0
At r h p i =
    Somebody r (stored.thing h.actors.things i) (stored.thing h.frames.things i) (thing p.core.entries i) (thing p.actors i)

-- an actor with another note and frame in memory, and with another entry and frame in the process
abbrev pub actor_put : (actor : ℕ) → Note → FrameTree Value → HeapTree → HeapTree
actor_put i n m h =
    record h { actors = stored.with_thing h.actors i n; frames = stored.with_thing h.frames i m }

abbrev pub put_actor : (actor : ℕ) → Entry → Frame → Proc Frame → Proc Frame
put_actor i e f p = proc (record p.core { entries = put p.core.entries i e }) (put p.actors i f)

abbrev pub frame_put : (actor : ℕ) → FrameTree Value → HeapTree → HeapTree
frame_put i m h = record h { frames = stored.with_thing h.frames i m }

abbrev pub put_frame : (actor : ℕ) → Frame → Proc Frame → Proc Frame
put_frame i f p = proc p.core (put p.actors i f)

-- the frame of an actor before its arguments fill the first slots
abbrev pub blank : ClassTree → Frame
blank c =
    record {
      code =
          c;
      mem = record { slots = blanks c.slots; locals = blanks c.locals };
      block = 0;
      instr = 0;
      state = 0;
    }

-- a process with one actor more, and with one less
abbrev pub with_actor : (class : ℕ) → (result : Option ℕ) → Frame → Proc Frame → Proc Frame
with_actor class result f p =
    proc
    (record p.core {
      entries =
          added p.core.entries (suc p.core.started) (entry_of class result);
      started = suc p.core.started;
    })
    (added p.actors (suc p.core.started) f)

abbrev pub without_actor : (actor : ℕ) → Proc Frame → Proc Frame
without_actor i p = proc (record p.core { entries = removed p.core.entries i }) (removed p.actors i)

module _ (r : RawTree) (h : HeapTree) (p : Proc Frame) where
  -- An actor changes: it stands at the same wait, with as many operands; or it is free.
  abbrev pub ActorKept : Type 0
  ActorKept =
      (i : ℕ) (n : Note) (m : FrameTree Value) (e : Entry) (f : Frame) → Represents r h p → (s : At r h p i)
      → OneActor r n m e f
      → wait_spot f ≡ wait_spot s.frame → length e.operands ≡ length s.entry.operands
      → Represents r (actor_put i n m h) (put_actor i e f p)

  abbrev pub ActorMoved : Type 0
  ActorMoved =
      (i : ℕ) (n : Note) (m : FrameTree Value) (e : Entry) (f : Frame) → Represents r h p → At r h p i
      → OneActor r n m e f → Free i p.core
      → Represents r (actor_put i n m h) (put_actor i e f p)

  -- only its frame does
  abbrev pub FrameKept : Type 0
  FrameKept =
      (i : ℕ) (m : FrameTree Value) (f : Frame) → Represents r h p → (s : At r h p i)
      → OneActor r s.note m s.entry f → wait_spot f ≡ wait_spot s.frame
      → Represents r (frame_put i m h) (put_frame i f p)

  abbrev pub FrameMoved : Type 0
  FrameMoved =
      (i : ℕ) (m : FrameTree Value) (f : Frame) → Represents r h p → (s : At r h p i)
      → OneActor r s.note m s.entry f → Free i p.core
      → Represents r (frame_put i m h) (put_frame i f p)

  -- an actor starts, and is finished
  abbrev pub Started : Type 0
  Started =
      (class places : ℕ) (result : Option ℕ) (c : ClassTree) → Represents r h p → slice_get r.classes class ≡ Some c
      → places ≡ length c.slots + length c.locals
      → Rising 0 p.core.started p.core.entries → Free (suc p.core.started) p.core
      → Represents r (started class places (option_map cell_id result) h) (with_actor class result (blank c) p)

  abbrev pub Finished : Type 0
  Finished =
      (i most : ℕ) → Represents r h p → At r h p i → Free i p.core
      → stored.IsRising 0 h.actors.things h.actors.greatest
      → stored.IsRising 0 h.frames.things h.frames.greatest
      → Rising 0 p.core.started p.core.entries → Rising 0 most p.actors
      → Represents r (finished i h) (without_actor i p)
