-- What becomes of the places of a frame in memory is what becomes of those of the frame that it shows.
use Rattle.std.specs.Prelude.{◌≡◌, ◌<◌, ℕ, ◌+◌, List, [], ◌∷◌, map, length}
use Rattle.std.specs.Option.{option_map}
use Rattle.std.specs.declared.option.Option.{Option}
use Rattle.std.specs.declared.option.Option.TheVariants.{Some}
use Rattle.flow_value.specs.declared.value.Value.{Value}
use Rattle.flow_value.specs.Values.{ValueTree}
use Rattle.flow_value.specs.View.{value_of}
use Rattle.flow_class.specs.declared.class.Slotted.{Slotted}
use Rattle.flow_class.specs.Classes.{RawTree}
use Rattle.flow_trace.specs.declared.line.Line.{Line}
use Rattle.flow_numbered.specs.Numbered as stored
use Rattle.flow_frame.specs.Frames.{FrameTree}
use Rattle.flow_cancel.specs.declared.actors.Note.{Note}
use Rattle.flow_cancel.specs.Heap.{HeapTree}
use Rattle.flow_numbered.specs.Numbered.{thing, put}
use Rattle.flow_meaning.specs.Cells.{Side}
use Rattle.flow_meaning.specs.Process.{Entry, Proc}
use Rattle.flow_meaning.specs.References.{Scan, refs_in}
use Rattle.flow_meaning.specs.Work.{dropping_values}
use Rattle.flow_meaning.specs.Step.{proc}
use Rattle.flow_meaning.specs.Frame.{Memory, Frame, read, write, held_in, emptied, blanks, lose, everything}
use Rattle.flow_heap_refinement.specs.Representing.{LiveFrameRepresents, cell_number}
use Rattle.flow_heap_refinement.specs.Acting.{put_frame}
use Rattle.flow_heap_refinement.specs.FrameChanges.{HasPlace, number_in}
use Rattle.flow_heap_refinement.specs.Holding.{held}
use Rattle.flow_heap_refinement.specs.Holds.{with_refs}
use Rattle.flow_steps.specs.declared.process.Process.{Process}
use Rattle.flow_steps.specs.Holding.{on_heap}
use Rattle.flow_steps.specs.Points.{place_held, place_put, places_taken, places_emptied, lost_from}
use Rattle.flow_operation_refinement.specs.Matching.{ProcessRepresents}

-- An actor that stands somewhere: what memory notes of it and its frame there, its entry, and its frame.
pub record Acts (r : RawTree) (h : HeapTree) (p : Proc Frame) (i : ℕ) (e : Entry) (f : Frame) : Type 0 where
  pub note : Note
  pub memory : FrameTree Value
  pub noted : stored.thing h.actors.things i ≡ Some note
  pub framed : stored.thing h.frames.things i ≡ Some memory
  pub entered : thing p.core.entries i ≡ Some e
  pub acting : thing p.actors i ≡ Some f
  pub class : e.class ≡ memory.class
  pub result : e.result ≡ option_map cell_number note.result
  pub marked : e.marked ≡ note.marked
  pub stands : LiveFrameRepresents r memory e f

-- A process in memory and an actor of it that stands somewhere.
pub record RepresentsActor (r : RawTree) (ls : List Line) (in_hand : Scan) (m : Process) (p : Proc Frame) (i : ℕ) (e : Entry) (f : Frame)
    : Type 0 where
  pub shown : ProcessRepresents r ls in_hand m p
  pub acts : Acts r m.heap p i e f

-- what is in hand before and after a value comes out of hand in place of an old one, which comes to hand
abbrev pub Exchanged : (x y : Scan) → (old new : Option ValueTree) → Type 0
Exchanged x y old new = (s : Side) (j : ℕ) → x s j + held s j old ≡ y s j + held s j new

-- the frame with other memory
abbrev pub with_memory : Memory → Frame → Frame
with_memory m f = record f { mem = m }

-- memory whose places are all empty
abbrev pub nothing_in : Memory → Memory
nothing_in m = record { slots = blanks m.slots; locals = blanks m.locals }

-- a frame has places for all these locals
abbrev pub HasLocals : Frame → List ℕ → Type 0
HasLocals f [] = Unit {0}
HasLocals f (n ∷ ns) = (n < length f.mem.locals) × HasLocals f ns

module _ (r : RawTree) (ls : List Line) (m : Process) (p : Proc Frame) (i : ℕ) (e : Entry) (f : Frame) where
  -- the number of a place in memory
  abbrev pub place : Slotted → ℕ
  place q = number_in (length f.code.slots) q

  abbrev pub locals : List ℕ → List ℕ
  locals ns = map (λ n. length f.code.slots + n) ns

  -- a place is read
  abbrev pub PlaceSeen : Type 0
  PlaceSeen =
      (x : Scan) (q : Slotted) → RepresentsActor r ls x m p i e f → HasPlace f q
      → option_map value_of (place_held i (place q) m.heap) ≡ read f.mem q

  -- a value comes out of hand into a place, and what stood there comes to hand
  abbrev pub PlacePut : Type 0
  PlacePut =
      (x y : Scan) (q : Slotted) (v : Option Value) → RepresentsActor r ls x m p i e f → HasPlace f q
      → Exchanged x y (read f.mem q) (option_map value_of v) → RepresentsActor r ls y (on_heap (place_put i (place q) v) m)
      (put_frame i (with_memory (write f.mem q (option_map value_of v)) f) p) i e (with_memory (write f.mem q (option_map value_of v)) f)

  -- locals are emptied one after another; what they held comes to hand
  abbrev pub LocalsTaken : Type 0
  LocalsTaken =
      (x : Scan) (ns : List ℕ) → RepresentsActor r ls x m p i e f → HasLocals f ns
      → (refs_in (map value_of (places_taken i (locals ns) m.heap)) ≡ refs_in (held_in f.mem ns))
      × RepresentsActor r ls (with_refs (refs_in (held_in f.mem ns)) x) (on_heap (places_emptied i (locals ns)) m)
      (put_frame i (with_memory (emptied ns f.mem) f) p) i e (with_memory (emptied ns f.mem) f)

  -- all locals are emptied, or all places, and what they held is dropped
  abbrev pub LocalsLost : Type 0
  LocalsLost =
      (x : Scan) → RepresentsActor r ls x m p i e f
      → RepresentsActor r ls x (on_heap (lost_from i (length f.code.slots)) m)
      (proc (dropping_values (lose f).0 p.core) (put p.actors i (lose f).1)) i e (lose f).1

  abbrev pub AllLost : Type 0
  AllLost =
      (x : Scan) → RepresentsActor r ls x m p i e f
      → RepresentsActor r ls x (on_heap (lost_from i 0) m)
      (proc (dropping_values (everything f.mem) p.core) (put p.actors i (with_memory (nothing_in f.mem) f))) i e
      (with_memory (nothing_in f.mem) f)

-- a law on each actor of each process in memory and of each of the definitions, whatever was written before
abbrev pub ForActors : (RawTree → List Line → Process → Proc Frame → ℕ → Entry → Frame → Type 0) → Type 0
ForActors law =
    (r : RawTree) (ls : List Line) (m : Process) (p : Proc Frame) (i : ℕ) (e : Entry) (f : Frame) → law r ls m p i e f
