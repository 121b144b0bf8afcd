-- What a frame in memory becomes is what the frame of the process becomes: places, positions, operands.
use Rattle.std.specs.Prelude.{◌≡◌, ℕ, suc, ◌+◌, ◌<◌, true, false, List, [], ◌∷◌, length}
use Rattle.std.specs.Option.{option_map}
use Rattle.std.specs.declared.option.Option.{Option}
use Rattle.flow_value.specs.declared.value.Value.{Value}
use Rattle.flow_value.specs.View.{value_of}
use Rattle.flow_class.specs.declared.class.Slotted.{Slotted}
use Rattle.flow_class.specs.declared.class.Slotted.TheVariants.{Slot, Local}
use Rattle.flow_class.specs.Classes.{RawTree}
use Rattle.flow_frame.specs.Frames.{FrameTree, held_at, with_place, with_callback, in_state, all_empty}
use Rattle.flow_cancel.specs.declared.actors.Note.{Note}
use Rattle.flow_cancel.specs.Heap.{cell_id}
use Rattle.flow_meaning.specs.Cells.{Ref}
use Rattle.flow_meaning.specs.Requests.{Spot}
use Rattle.flow_meaning.specs.Process.{Entry}
use Rattle.flow_meaning.specs.Step.{with_operand}
use Rattle.flow_meaning.specs.React.{at_spot}
use Rattle.flow_meaning.specs.Frame.{Frame, read, write, over}
use Rattle.flow_heap_refinement.specs.Representing.{LiveFrameRepresents, OneActor, wait_spot}

-- the number of a place in memory: the locals come behind the slots
abbrev pub number_in : (slots : ℕ) → Slotted → ℕ
number_in slots (Slot n) = n
number_in slots (Local n) = slots + n

-- a place that a frame has
abbrev pub HasPlace : Frame → Slotted → Type 0
HasPlace f (Slot n) = n < length f.mem.slots
HasPlace f (Local n) = n < length f.mem.locals

-- a callback of the next operand
abbrev pub next_callback : Entry → Frame → ℕ
next_callback e f = (wait_spot f).first + length e.operands

module _ (r : RawTree) (m : FrameTree Value) (e : Entry) (f : Frame) where
  -- a place is read, and written
  abbrev pub PlaceRead : Type 0
  PlaceRead =
      (q : Slotted) → LiveFrameRepresents r m e f → HasPlace f q
      → option_map value_of (held_at (number_in (length f.code.slots) q) m) ≡ read f.mem q

  abbrev pub PlaceWritten : Type 0
  PlaceWritten =
      (q : Slotted) (v : Option Value) → LiveFrameRepresents r m e f → HasPlace f q
      → LiveFrameRepresents r (with_place m (number_in (length f.code.slots) q) v) e (record f {
        mem =
            write f.mem q (option_map value_of v);
      })

  -- an actor without operands goes on elsewhere
  abbrev pub GoesOn : Type 0
  GoesOn =
      (b i : ℕ) → LiveFrameRepresents r m e f → e.operands ≡ []
      → LiveFrameRepresents r (record m {
        state =
            0;
        block = b;
        instruction = i;
      }) e (record f { block = b; instr = i; state = 0 })

  -- one operand more is kept, and with all of them the actor is suspended
  abbrev pub OperandKept : Type 0
  OperandKept =
      (x : Ref) (spot : Spot) → LiveFrameRepresents r m e f → m.state ≡ 0 → e.suspended ≡ false
      → LiveFrameRepresents r (with_callback m (record {
        callback =
            next_callback e f;
        cell = cell_id x.1;
      })) (with_operand spot x e) f

  abbrev pub Suspends : Type 0
  Suspends =
      (g : ℕ) (x : Ref) (xs : List Ref) → LiveFrameRepresents r m e f → (wait_spot f).group ≡ suc g → e.operands ≡ x ∷ xs
      → LiveFrameRepresents r (in_state (suc g) m) (record (at_spot (wait_spot f) e) {
        suspended =
            true;
      }) (record f { state = suc g })

  -- all has left an actor that is over
  abbrev pub IsOver : Type 0
  IsOver =
      (n : Note) → OneActor r n m e f → e.suspended ≡ false → e.operands ≡ []
      → all_empty m.places ≡ true → OneActor r n m e over
