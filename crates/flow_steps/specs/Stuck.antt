-- When a process in memory goes astray: something isn't there, or doesn't fit.
use Rattle.std.specs.Prelude.{◌≡◌, ◌⊎◌, ℕ, false, ◌≤◌, List, [], ◌∷◌, length, slice_get, Result, IfErr}
use Rattle.std.specs.Option.{IsSome, option_map}
use Rattle.std.specs.declared.option.Option.{Option}
use Rattle.std.specs.declared.option.Option.TheVariants.{None, Some}
use Rattle.flow_base.specs.declared.ids.ActorId.{ActorId}
use Rattle.flow_value.specs.declared.value.Kind.{Kind}
use Rattle.flow_value.specs.declared.value.Kind.TheVariants as kind
use Rattle.flow_value.specs.declared.value.Value.{Value}
use Rattle.flow_value.specs.declared.value.Value.TheVariants as value
use Rattle.flow_value.specs.declared.value.Outcome.{Outcome}
use Rattle.flow_value.specs.View.{value_of}
use Rattle.flow_numbered.specs.Numbered as stored
use Rattle.flow_code.specs.Resolved.View.{places_in}
use Rattle.flow_code.specs.declared.expr.names.FieldNames.{FieldNames}
use Rattle.flow_code.specs.declared.class.Class.{Class}
use Rattle.flow_code.specs.declared.class.Aim.{Aim}
use Rattle.flow_cell.specs.Cells.{CellTree}
use Rattle.flow_stream.specs.Streams.{StreamTree}
use Rattle.flow_frame.specs.declared.standing.Standing.{Standing}
use Rattle.flow_frame.specs.Frames.{FrameTree, standing_of}
use Rattle.flow_cancel.specs.declared.task.Dropped.TheVariants as after
use Rattle.flow_cancel.specs.Dropping.{dropped, may_drop}
use Rattle.flow_cancel.specs.Heap.{HeapTree, owner}
use Rattle.flow_meaning.specs.Cells.{Ref}
use Rattle.flow_heap_refinement.specs.Holds.{hold}
use Rattle.flow_steps.specs.Points.{block_in, place_held, place_put, field_path}
use Rattle.flow_steps.specs.declared.call.Goal.{Goal}
use Rattle.flow_steps.specs.declared.call.Goal.TheVariants as goal
use Rattle.flow_steps.specs.declared.errors.Fault.{Fault}
use Rattle.flow_steps.specs.declared.errors.Fault.TheVariants as fault

-- what is said of a fault where it is that a process went astray, and of a call that does so
abbrev pub IfStuck : Fault → Type 0 → Type 0
IfStuck fault.OutOfMemory X = Unit {0}
IfStuck fault.Stuck X = X

abbrev pub OnStuck : {T : Type 0} → Result T Fault → Type 0 → Type 0
OnStuck r X = IfErr r (λ e. IfStuck e X)

-- there is no such single result, or no such stream
abbrev pub CellMissing : (cell : ℕ) → HeapTree → Type 0
CellMissing k h = stored.thing h.cells.things k ≡ None

abbrev pub StreamMissing : (cell : ℕ) → HeapTree → Type 0
StreamMissing k h = stored.thing h.streams.things k ≡ None

-- a reference leads to no cell of its kind
abbrev pub Missing : Kind → (cell : ℕ) → HeapTree → Type 0
Missing kind.Promise k h = CellMissing k h
Missing kind.Future k h = CellMissing k h
Missing kind.PromiseStream k h = StreamMissing k h
Missing kind.FutureStream k h = StreamMissing k h

-- so does the first of these, or, once it counts, one of the others
abbrev pub SomeMissing : List Ref → HeapTree → Type 0
SomeMissing [] h = ⊥
SomeMissing (q ∷ qs) h = Missing q.0 q.1 h ⊎ SomeMissing qs (hold q.0 q.1 h)

-- a single result may not be set: it isn't there, or is set already; and a stream may not be sent to
abbrev pub MayNotSet : Option (CellTree Outcome) → Type 0
MayNotSet None = Unit {0}
MayNotSet (Some c) = IsSome c.content

abbrev pub MayNotSend : Option (StreamTree Value) → Type 0
MayNotSend None = Unit {0}
MayNotSend (Some s) = IsSome s.end

abbrev pub MayNotFill : Kind → (cell : ℕ) → HeapTree → Type 0
MayNotFill kind.Promise k h = MayNotSet (stored.thing h.cells.things k)
MayNotFill kind.Future k h = MayNotSet (stored.thing h.cells.things k)
MayNotFill kind.PromiseStream k h = MayNotSend (stored.thing h.streams.things k)
MayNotFill kind.FutureStream k h = MayNotSend (stored.thing h.streams.things k)

-- there is no such frame, or it has no such place; or so it is with the first of these places, or, once that is emptied,
-- with one of the others
abbrev pub FrameMissing : (actor : ℕ) → HeapTree → Type 0
FrameMissing i h = stored.thing h.frames.things i ≡ None

abbrev pub PlaceMissing : (place : ℕ) → Option (FrameTree Value) → Type 0
PlaceMissing n None = Unit {0}
PlaceMissing n (Some f) = length f.places ≤ n

abbrev pub NoPlace : (actor place : ℕ) → HeapTree → Type 0
NoPlace i n h = PlaceMissing n (stored.thing h.frames.things i)

abbrev pub SomePlaceMissing : (actor : ℕ) → List ℕ → HeapTree → Type 0
SomePlaceMissing i [] h = ⊥
SomePlaceMissing i (n ∷ ns) h = NoPlace i n h ⊎ SomePlaceMissing i ns (place_put i n None h)

-- a class has no block of a number
abbrev pub BlockMissing : Class → (block : ℕ) → Type 0
BlockMissing c n = slice_get c.blocks.items n ≡ None

-- a frame that stands so stands nowhere: its class isn't there, or the wait of its state, or the block
pub data Nowhere (classes : List Class) (at : Standing) : Type 0 where
  no_class : slice_get classes at.class ≡ None → Nowhere classes at
  no_wait : (c : Class) → slice_get classes at.class ≡ Some c → block_in c at.state at.block ≡ None → Nowhere classes at
  no_block : (c : Class) (n : ℕ) → slice_get classes at.class ≡ Some c → block_in c at.state at.block ≡ Some n
      → BlockMissing c n → Nowhere classes at

-- an actor has no frame, or one that stands nowhere
pub data HasNoPoint (classes : List Class) (actor : ℕ) (h : HeapTree) : Type 0 where
  no_frame : FrameMissing actor h → HasNoPoint classes actor h
  frame : (f : FrameTree Value) → stored.thing h.frames.things actor ≡ Some f → Nowhere classes (standing_of f)
      → HasNoPoint classes actor h

-- where an actor aims there is no place; or it aims at a part of what the place holds, and there is no such part
abbrev pub PartMissing : FieldNames → List ℕ → Option Value → Type 0
PartMissing fields path held = field_path (places_in fields) path (option_map value_of held) ≡ None

pub data AimsStuck (fields : FieldNames) (actor : ℕ) (aim : Aim) (h : HeapTree) : Type 0 where
  no_place : NoPlace actor aim.place h → AimsStuck fields actor aim h
  no_part : (f : ℕ) (fs : List ℕ) → aim.path.items ≡ f ∷ fs
      → PartMissing fields aim.path.items (place_held actor aim.place h) → AimsStuck fields actor aim h

-- what is to be kept as an operand is no reference
abbrev pub NoReference : Goal → Value → Type 0
NoReference goal.Stored v = ⊥
NoReference (goal.Kept n) (value.Ref kd k) = ⊥
NoReference (goal.Kept n) v = Unit {0}

-- an actor is no unfinished one, or has no frame; so is the one whose result a cell is
abbrev pub CancelsStuck : (actor : ℕ) → HeapTree → Type 0
CancelsStuck i h = (stored.thing h.actors.things i ≡ None) ⊎ FrameMissing i h

abbrev pub OwnerStuck : (cell : ℕ) → HeapTree → Type 0
OwnerStuck k h = (i : ℕ) × (owner k h.actors.things ≡ Some i) × CancelsStuck i h

-- A reference may not count no more, or what that leads to may not be done.
pub data LosesStuck (kd : Kind) (k : ℕ) (h : HeapTree) : Type 0 where
  may_not : may_drop kd k h ≡ false → LosesStuck kd k h
  breaks : (g : HeapTree) → dropped kd k h ≡ (g, after.Broken) → MayNotFill kd k g → LosesStuck kd k h
  cancels : (g : HeapTree) (a : ActorId) → dropped kd k h ≡ (g, after.Cancel a) → CancelsStuck a.0 g → LosesStuck kd k h
