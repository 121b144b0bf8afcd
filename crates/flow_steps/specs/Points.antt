-- Where actors stand, and what the places of their frames hold.
use Rattle.std.specs.Prelude.{◌≡◌, ℕ, zero, suc, Bool, true, false, List, [], ◌∷◌, ◌++◌, slice_get, length, ◌-◌}
use Rattle.std.specs.Option.{option_map}
use Rattle.std.specs.declared.option.Option.{Option}
use Rattle.std.specs.declared.option.Option.TheVariants.{None, Some}
use Rattle.flow_base.specs.declared.ids.ActorId.{ActorId}
use Rattle.flow_value.specs.declared.value.Value.{Value}
use Rattle.flow_value.specs.Values.{ValueTree, ValueTrees, CompositeValue, at_place, value_put, Whole, may_refer}
use Rattle.flow_value.specs.View.{value_of}
use Rattle.flow_code.specs.Resolved.Evaluation.{numbered_field}
use Rattle.flow_code.specs.Resolved.View.{places_in}
use Rattle.flow_code.specs.declared.expr.names.FieldNames.{FieldNames}
use Rattle.flow_code.specs.declared.class.Class.{Class}
use Rattle.flow_code.specs.declared.class.Group.{Group}
use Rattle.flow_code.specs.declared.class.Aim.{Aim}
use Rattle.flow_code.specs.View.{group_numbered}
use Rattle.flow_numbered.specs.Numbered.{thing}
use Rattle.flow_frame.specs.declared.standing.Standing.{Standing}
use Rattle.flow_frame.specs.Frames.{FrameTree, held_in, with_place, standing_of}
use Rattle.flow_cancel.specs.Heap.{HeapTree}
use Rattle.flow_cancel.specs.Dropping.{dropping}
use Rattle.flow_heap_refinement.specs.Acting.{frame_put}
use Rattle.flow_steps.specs.declared.frames.ControlPoint.{ControlPoint}
use Rattle.flow_steps.specs.declared.process.Process.{Process}
use Rattle.flow_steps.specs.Holding.{on_heap}
use Rattle.flow_steps.specs.Delivering.{gone_to}

-- the frame of an actor becomes another
abbrev pub reframed : (FrameTree Value → FrameTree Value) → (actor : ℕ) → Option (FrameTree Value) → HeapTree → HeapTree
reframed g i None h = h
reframed g i (Some f) h = frame_put i (g f) h

abbrev pub with_frame : (FrameTree Value → FrameTree Value) → (actor : ℕ) → HeapTree → HeapTree
with_frame g i h = reframed g i (thing h.frames.things i) h

-- it goes on at a block and an instruction of it
abbrev pub gone : (actor block instruction : ℕ) → HeapTree → HeapTree
gone i b n h = with_frame (gone_to b n) i h

-- the frame of an actor says where the actor stands, where it doesn't yet
abbrev pub noting : (noted : Bool) → (actor block instruction : ℕ) → HeapTree → HeapTree
noting true i b n h = h
noting false i b n h = gone i b n h

abbrev pub noted : ControlPoint → Process → Process
noted s p = on_heap (noting s.noted s.actor.0 s.place s.instruction) p

-- the block in which a frame stands; in a state other than 0 that of the wait
abbrev pub block_in : Class → (state block : ℕ) → Option ℕ
block_in c zero b = Some b
block_in c (suc g) b = option_map (λ (x : Group). x.block) (group_numbered (suc g) c.groups.items)

-- An actor whose frame stands so stands there.
pub record IsPointOf (classes : List Class) (i : ActorId) (f : Standing) (s : ControlPoint) : Type 0 where
  pub actor : s.actor ≡ i
  pub class : slice_get classes f.class ≡ Some s.class.now
  pub place : block_in s.class.now f.state f.block ≡ Some s.place
  pub block : slice_get s.class.now.blocks.items s.place ≡ Some s.block.now
  pub instruction : s.instruction ≡ f.instruction
  pub noted : s.noted ≡ true

pub record IsAtPoint (classes : List Class) (i : ActorId) (p : Process) (s : ControlPoint) : Type 0 where
  pub frame : FrameTree Value
  pub at : thing p.heap.frames.things i.0 ≡ Some frame
  pub stands : IsPointOf classes i (standing_of frame) s

-- It goes on at a block and an instruction, or at the next instruction; its frame doesn't say so yet.
pub record GoesTo (s : ControlPoint) (block instruction : ℕ) (t : ControlPoint) : Type 0 where
  pub same : t ≡ record s { place = block; block = t.block; instruction = instruction; noted = false }
  pub at : slice_get s.class.now.blocks.items block ≡ Some t.block.now

abbrev pub noted_stand : ControlPoint → ControlPoint
noted_stand s = record s { noted = true }

abbrev pub next_stand : ControlPoint → ControlPoint
next_stand s = record s { instruction = suc s.instruction; noted = false }

-- what a place of an actor holds, and the place with something else or nothing
abbrev pub place_held : (actor place : ℕ) → HeapTree → Option Value
place_held i n h = held_in n (thing h.frames.things i)

abbrev pub place_put : (actor place : ℕ) → Option Value → HeapTree → HeapTree
place_put i n v h = with_frame (λ f. with_place f n v) i h

abbrev pub if_refers : Bool → Value → List Value
if_refers true v = v ∷ []
if_refers false v = []

-- what a place held, where that may hold references
abbrev pub referring : Option Value → List Value
referring None = []
referring (Some v) = if_refers (may_refer (value_of v)) v

-- Places are emptied one after another. What they held that may hold references, the first first, and the heap afterwards.
abbrev pub places_taken : (actor : ℕ) → List ℕ → HeapTree → List Value
places_taken i [] h = []
places_taken i (n ∷ ns) h = referring (place_held i n h) ++ places_taken i ns (place_put i n None h)

abbrev pub places_emptied : (actor : ℕ) → List ℕ → HeapTree → HeapTree
places_emptied i [] h = h
places_emptied i (n ∷ ns) h = places_emptied i ns (place_put i n None h)

-- a place is emptied, and what it held is dropped; so are so many places from one on, the last one on top
abbrev pub values : Option Value → List Value
values None = []
values (Some v) = v ∷ []

abbrev pub place_lost : (actor place : ℕ) → HeapTree → HeapTree
place_lost i n h = dropping (values (place_held i n h)) (place_put i n None h)

abbrev pub places_lost : (actor first count : ℕ) → HeapTree → HeapTree
places_lost i n zero h = h
places_lost i n (suc m) h = places_lost i (suc n) m (place_lost i n h)

-- all places of an actor from one on are
abbrev pub losing_from : (actor first : ℕ) → Option (FrameTree Value) → HeapTree → HeapTree
losing_from i n None h = h
losing_from i n (Some f) h = places_lost i n (length f.places - n) h

abbrev pub lost_from : (actor first : ℕ) → HeapTree → HeapTree
lost_from i n h = losing_from i n (thing h.frames.things i) h

-- The part of a value to which fields with names of these numbers lead, and that part exchanged for another: what stood there,
-- and the value afterwards.
abbrev pub Numbering : Type 0
Numbering = Whole → ℕ → Option ℕ

abbrev pub field_path : Numbering → List ℕ → Option ValueTree → Option ValueTree
field_path at [] v = v
field_path at (f ∷ fs) None = None
field_path at (f ∷ fs) (Some v) = field_path at fs (numbered_field at v f)

abbrev pub Exchange : Type 0
Exchange = Option ValueTree × Option ValueTree

abbrev pub within : Whole → ValueTrees → Option ℕ → Option Exchange → Option Exchange
within w vs (Some k) (Some (old, Some new)) = Some (old, Some (CompositeValue w (value_put vs k new)))
within w vs _ _ = None

abbrev pub exchanged : Numbering → List ℕ → ValueTree → Option ValueTree → Option Exchange
exchanged at [] new old = Some (old, Some new)
exchanged at (f ∷ fs) new (Some (CompositeValue w vs)) = within w vs (at w f) (exchanged at fs new (at_place vs (at w f)))
exchanged at (f ∷ fs) new _ = None

-- Where an actor aims gets a value: what stood there, and the process afterwards.
pub record Assigns (fields : FieldNames) (i : ActorId) (aim : Aim) (new : Value) (p : Process) (old : Option Value)
    (q : Process) : Type 0 where
  pub root : Option Value
  pub parts : exchanged (places_in fields) aim.path.items (value_of new) (option_map value_of (place_held i.0 aim.place p.heap))
      ≡ Some (option_map value_of old, option_map value_of root)
  pub put : q ≡ on_heap (place_put i.0 aim.place root) p
