-- What is missing afterwards was missing before: nothing that comes in between takes away a cell, a frame or a place.
use Rattle.std.proofs.Common.{◌≡◌, ◌⊎◌, ℕ, zero, suc, ◌+◌, ◌-◌, ◌<◌, ◌≤◌, nat_eq, Bool, true, false, List, [], ◌∷◌, length, drop, get_or, inl, inr, refl, ap, sym, ◌∙◌, subst, arith}
use Rattle.std.proofs.lemmas.Bool.{false≢true}
use Rattle.std.proofs.lemmas.List.{drop_more, length-set}
use Rattle.std.specs.Option.{option_map}
use Rattle.std.specs.declared.option.Option.{Option}
use Rattle.std.specs.declared.option.Option.TheVariants.{None, Some}
use Rattle.flow_value.specs.declared.value.Value.{Value}
use Rattle.flow_value.specs.declared.value.Kind.{Kind}
use Rattle.flow_value.specs.declared.value.Kind.TheVariants as kind
use Rattle.flow_value.specs.Values.{ValueTree, ValueTrees, IntValue, BoolValue, TextValue, VoidValue, ErrorValue, CompositeValue, RefValue, at_place, value_at, Whole, RecordWhole, ListWhole}
use Rattle.flow_value.specs.View.{value_of, values_of}
use Rattle.flow_numbered.specs.Numbered.{Numbered, thing, put}
use Rattle.flow_frame.specs.declared.held.Held.{Held}
use Rattle.flow_frame.specs.Frames.{FrameTree, with_place}
use Rattle.flow_cell.specs.declared.counts.Side.{Side}
use Rattle.flow_cell.specs.declared.counts.Side.TheVariants as side
use Rattle.flow_cell.specs.Cells.{CellTree}
use Rattle.flow_stream.specs.Streams.{StreamTree}
use Rattle.flow_meaning.specs.Cells.{Ref}
use Rattle.flow_heap_refinement.specs.Holds.{hold, hold_all, held_cell, held_stream}
use Rattle.flow_value.specs.declared.value.Outcome.{Outcome}
use Rattle.flow_cancel.specs.Heap.{HeapTree}
use Rattle.flow_cancel.specs.Leaving.{leave_one, leave_all, withdrawn, withdrawn_from}
use Rattle.flow_cancel.proofs.Puts.{found_put}
use Rattle.flow_code.specs.Resolved.Evaluation.{numbered_field}
use Rattle.flow_code.specs.Resolved.View.{places_in}
use Rattle.flow_code.specs.declared.expr.names.FieldNames.{FieldNames}
use Rattle.flow_code.specs.declared.class.Aim.{Aim}
use Rattle.flow_steps.specs.Points.{Numbering, field_path, reframed, with_frame, place_held, place_put, place_lost, places_lost, losing_from, lost_from}
use Rattle.flow_steps.specs.Stuck.{FrameMissing, PlaceMissing, NoPlace, SomePlaceMissing, PartMissing, AimsStuck, no_place, no_part}

pub some_none : {A : Type 0} {x : A} → Some x ≡ None → ⊥
some_none h = cc

-- a thing that is put leaves the others
pub put_still : {A : Type 0} (xs : Numbered A) (n m : ℕ) (a : A) → thing (put xs n a) m ≡ None → thing xs m ≡ None
put_still [] n m a e = e
put_still (x ∷ xs) n m a e = at_head (nat_eq n x.0) refl (λ f. put_still xs n m a f)
  where
    first : (t : Bool) → nat_eq m x.0 ≡ t → thing ((x.0, a) ∷ xs) m ≡ None → thing (x ∷ xs) m ≡ None
    first true g e = absurd (some_none (rw g at e))
    first false g e = rw g (rw g at e)

    later : (t : Bool) → nat_eq m x.0 ≡ t → (thing (put xs n a) m ≡ None → thing xs m ≡ None) → thing (x ∷ put xs n a) m ≡ None
        → thing (x ∷ xs) m ≡ None
    later true g on e = absurd (some_none (rw g at e))
    later false g on e = rw g (on (rw g at e))

    at_head : (t : Bool) → nat_eq n x.0 ≡ t → (thing (put xs n a) m ≡ None → thing xs m ≡ None) → thing (x ∷ xs) m ≡ None
    at_head true g on = first (nat_eq m x.0) refl (rw g at e)
    at_head false g on = later (nat_eq m x.0) refl on (rw g at e)

-- frames
pub reframed_still : (g : FrameTree Value → FrameTree Value) (i m : ℕ) (o : Option (FrameTree Value)) (h : HeapTree) → FrameMissing m (reframed g i o h) → FrameMissing m h
reframed_still g i m None h e = e
reframed_still g i m (Some f) h e = put_still h.frames.things i m (g f) e

pub with_frame_still : (g : FrameTree Value → FrameTree Value) (i m : ℕ) (h : HeapTree) → FrameMissing m (with_frame g i h) → FrameMissing m h
with_frame_still g i m h e = reframed_still g i m (thing h.frames.things i) h e

places_still : (i n c m : ℕ) (h : HeapTree) → FrameMissing m (places_lost i n c h) → FrameMissing m h
places_still i n zero m h e = e
places_still i n (suc c) m h e = with_frame_still (λ f. with_place f n None) i m h (places_still i (suc n) c m (place_lost i n h) e)

losing_still : (i n m : ℕ) (o : Option (FrameTree Value)) (h : HeapTree) → FrameMissing m (losing_from i n o h) → FrameMissing m h
losing_still i n m None h e = e
losing_still i n m (Some f) h e = places_still i n (length f.places - n) m h e

pub lost_still : (i n m : ℕ) (h : HeapTree) → FrameMissing m (lost_from i n h) → FrameMissing m h
lost_still i n m h e = losing_still i n m (thing h.frames.things i) h e

leave_one_still : (i m : ℕ) (x : Held) (h : HeapTree) → FrameMissing m (leave_one i x h) → FrameMissing m h
leave_one_still i m x h e = by (thing h.cells.things x.cell.0) refl e
  where
    by : (o : Option (CellTree Outcome)) → thing h.cells.things x.cell.0 ≡ o → FrameMissing m (leave_one i x h) → FrameMissing m h
    by None at e = rw at at e
    by (Some c) at e = rw at at e

leave_all_still : (i m : ℕ) (xs : List Held) (h : HeapTree) → FrameMissing m (leave_all i xs h) → FrameMissing m h
leave_all_still i m [] h e = e
leave_all_still i m (x ∷ xs) h e = leave_all_still i m xs h (leave_one_still i m x (leave_all i xs h) e)

pub withdrawn_still : (i m : ℕ) (h : HeapTree) → FrameMissing m (withdrawn i h) → FrameMissing m h
withdrawn_still i m h e = by (thing h.frames.things i) e
  where
    by : (o : Option (FrameTree Value)) → FrameMissing m (withdrawn_from i o h) → FrameMissing m h
    by None e = e
    by (Some f) e = put_still h.frames.things i m (record f { callbacks = [] }) (leave_all_still i m f.callbacks _ e)

-- references leave frames
cell_frames : (s : Side) (k : ℕ) (o : Option (CellTree Outcome)) (h : HeapTree) → (held_cell s k o h).frames ≡ h.frames
cell_frames s k None h = refl
cell_frames s k (Some c) h = refl

stream_frames : (s : Side) (k : ℕ) (o : Option (StreamTree Value)) (h : HeapTree) → (held_stream s k o h).frames ≡ h.frames
stream_frames s k None h = refl
stream_frames s k (Some c) h = refl

pub hold_frames : (kd : Kind) (k : ℕ) (h : HeapTree) → (hold kd k h).frames ≡ h.frames
hold_frames kind.Promise k h = cell_frames side.Promise k (thing h.cells.things k) h
hold_frames kind.Future k h = cell_frames side.Future k (thing h.cells.things k) h
hold_frames kind.PromiseStream k h = stream_frames side.Promise k (thing h.streams.things k) h
hold_frames kind.FutureStream k h = stream_frames side.Future k (thing h.streams.things k) h

pub held_frames : (rs : List Ref) (h : HeapTree) → (hold_all rs h).frames ≡ h.frames
held_frames [] h = refl
held_frames (r ∷ rs) h = held_frames rs (hold r.0 r.1 h) ∙ hold_frames r.0 r.1 h

-- places
pub place_still : (i n m : ℕ) (v : Option Value) (h : HeapTree) → NoPlace i m (place_put i n v h) → NoPlace i m h
place_still i n m v h none = by (thing h.frames.things i) refl none
  where
    by : (o : Option (FrameTree Value)) → thing h.frames.things i ≡ o → PlaceMissing m (thing (reframed (λ f. with_place f n v) i o h).frames.things i) → PlaceMissing m o
    by None at none = tt
    by (Some f) at none =
        let le : PlaceMissing m (Some (with_place f n v)) = subst (PlaceMissing m) (found_put h.frames.things i f (with_place f n v) at) none in
        subst (λ k. k ≤ m) (length-set f.places n v) le

-- of places from one on
pub place_missing : (i : ℕ) (ns : List ℕ) (k d : ℕ) (h : HeapTree) (X : Type 0) → k < length ns → (SomePlaceMissing i (drop k ns) h → X) → NoPlace i (get_or ns k d) h → X
place_missing i ns k d h X lt on m = on (subst (λ l. SomePlaceMissing i l h) (sym (drop_more ns k d lt)) (inl m))

pub missing_place_step : (i : ℕ) (ns : List ℕ) (k d : ℕ) (h new : HeapTree) (X : Type 0) → k < length ns → new ≡ place_put i (get_or ns k d) None h
    → (SomePlaceMissing i (drop k ns) h → X) → SomePlaceMissing i (drop (k + 1) ns) new → X
missing_place_step i ns k d h new X lt is on m =
    on (subst (λ l. SomePlaceMissing i l h) (sym (drop_more ns k d lt)) (inr (subst (λ g. SomePlaceMissing i (drop (k + 1) ns) g) is m)))

-- parts of values
pub path_nowhere : (at : Numbering) (fs : List ℕ) → field_path at fs None ≡ None
path_nowhere at [] = refl
path_nowhere at (f ∷ fs) = refl

value_past : (vs : List Value) (k : ℕ) → length vs ≤ k → value_at (values_of vs) k ≡ None
value_past [] k le = refl
value_past (v ∷ vs) zero le = absurd (omega (arith, le))
value_past (v ∷ vs) (suc k) le = (let less : length vs ≤ k = omega (arith, le) in value_past vs k less)

pub field_nowhere : (at : Numbering) (w : Whole) (f : ℕ) (fs : List ℕ) (vs : ValueTrees) → at w f ≡ None → field_path at (f ∷ fs) (Some (CompositeValue w vs)) ≡ None
field_nowhere at w f fs vs none = ap (λ n. field_path at fs (at_place vs n)) none ∙ path_nowhere at fs

pub field_past : (at : Numbering) (w : Whole) (f : ℕ) (fs : List ℕ) (vs : List Value) (k : ℕ) → at w f ≡ Some k → length vs ≤ k
    → field_path at (f ∷ fs) (Some (CompositeValue w (values_of vs))) ≡ None
field_past at w f fs vs k is le = ap (λ n. field_path at fs (at_place (values_of vs) n)) is ∙ ap (field_path at fs) (value_past vs k le) ∙ path_nowhere at fs

abbrev pub is_record : ValueTree → Bool
is_record (CompositeValue (RecordWhole r) vs) = true
is_record _ = false

pub flat_as : (v w : Value) (t : ValueTree) → v ≡ w → value_of w ≡ t → is_record (value_of v) ≡ is_record t
flat_as v w t e is = ap (λ (x : Value). is_record (value_of x)) e ∙ ap is_record is

pub either : {A B : Type 0} (v : Value) → A ⊎ B → (A → is_record (value_of v) ≡ false) → (B → is_record (value_of v) ≡ false)
    → is_record (value_of v) ≡ false
either v (inl a) f g = f a
either v (inr b) f g = g b

flat_field : (names : FieldNames) (v : ValueTree) (f : ℕ) → is_record v ≡ false → numbered_field (places_in names) v f ≡ None
flat_field names (CompositeValue (RecordWhole r) vs) f flat = absurd (false≢true (sym flat))
flat_field names (CompositeValue ListWhole vs) f flat = refl
flat_field names (IntValue x) f flat = refl
flat_field names (BoolValue x) f flat = refl
flat_field names (TextValue x) f flat = refl
flat_field names VoidValue f flat = refl
flat_field names (ErrorValue x) f flat = refl
flat_field names (RefValue k x) f flat = refl

pub flat_path : (names : FieldNames) (f : ℕ) (fs path : List ℕ) (v : ValueTree) → path ≡ f ∷ fs → is_record v ≡ false → field_path (places_in names) path (Some v) ≡ None
flat_path names f fs path v is flat =
    ap (λ l. field_path (places_in names) l (Some v)) is ∙ ap (field_path (places_in names) fs) (flat_field names v f flat)
    ∙ path_nowhere (places_in names) fs

pub nothing_held : (fields : FieldNames) (path : List ℕ) (o : Option Value) → o ≡ None → PartMissing fields path o
nothing_held fields path o none = ap (λ (v : Option Value). field_path (places_in fields) path (option_map value_of v)) none ∙ path_nowhere (places_in fields) path

pub aims_stuck : (fields : FieldNames) (i : ℕ) (aim : Aim) (h : HeapTree) → (aim.path.items ≡ [] → ⊥)
    → NoPlace i aim.place h ⊎ PartMissing fields aim.path.items (place_held i aim.place h) → AimsStuck fields i aim h
aims_stuck fields i aim h some (inl none) = no_place none
aims_stuck fields i aim h some (inr missing) = by aim.path.items refl
  where
    by : (l : List ℕ) → aim.path.items ≡ l → AimsStuck fields i aim h
    by [] e = absurd (some e)
    by (f ∷ fs) e = no_part f fs e missing
