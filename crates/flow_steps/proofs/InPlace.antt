-- Vectors that change in place.
use Rattle.std.proofs.Common.{◌≡◌, ℕ, zero, suc, ◌<◌, ◌≤◌, Bool, true, false, nat_lt, List, [], ◌∷◌, ◌++◌, length, map, get_or, set, if◌then◌else◌, ltb, refl, ap, sym, subst, ◌∙◌, arith, Result, IfOk}
use Rattle.std.proofs.lemmas.Bool.Decides.{nat_tests}
use Rattle.std.proofs.lemmas.List.{length-set, get_or-set_same}
use Rattle.std.proofs.lemmas.Option.{same_Some}
use Rattle.std.proofs.lemmas.Result.{IfOk-weaker}
use Rattle.std.specs.Option.{option_map}
use Rattle.std.specs.declared.option.Option.{Option}
use Rattle.std.specs.declared.option.Option.TheVariants.{None, Some}
use Rattle.flow_base.specs.declared.errors.TheConstants.{TOO_LONG}
use Rattle.flow_base.specs.declared.ids.ActorId.{ActorId}
use Rattle.flow_tree.specs.declared.limits.TheConstants.{ELEMENTS}
use Rattle.flow_value.specs.declared.value.Value.{Value}
use Rattle.flow_value.specs.Values.{ValueTree, ValueTrees, NoValues, MoreValues, CompositeValue, Whole, ListWhole, at_place, value_at, value_put, values_of_list, count_of, with_last}
use Rattle.flow_value.specs.View.{value_of, values_of}
use Rattle.flow_eval.proofs.Lookups.{put_again}
use Rattle.flow_code.specs.Resolved.View.{places_in}
use Rattle.flow_code.specs.declared.class.Aim.{Aim}
use Rattle.flow_code.specs.declared.program.Code.{Code}
use Rattle.flow_numbered.specs.Numbered.{Store, thing}
use Rattle.flow_frame.specs.Frames.{FrameTree, held_in, with_place}
use Rattle.flow_cancel.specs.declared.task.Task.TheVariants as task
use Rattle.flow_cancel.specs.Heap.{HeapTree}
use Rattle.flow_cancel.proofs.Puts.{found_put}
use Rattle.flow_heap_refinement.specs.Holds.{hold_all}
use Rattle.flow_steps.specs.declared.frames.ControlPoint.{ControlPoint}
use Rattle.flow_steps.specs.declared.errors.Fault.{Fault}
use Rattle.flow_steps.specs.declared.next.Pace.{Pace}
use Rattle.flow_steps.specs.declared.next.Pace.TheVariants.{On, Off}
use Rattle.flow_steps.specs.declared.process.Process.{Process}
use Rattle.flow_steps.specs.Doing.{doing}
use Rattle.flow_steps.specs.Holding.{on_heap, value_refs}
use Rattle.flow_steps.specs.Points.{noted, next_stand, referring, Numbering, Exchange, field_path, within, exchanged, reframed, place_held, place_put, Assigns}
use Rattle.flow_steps.specs.Stepping.{aimed_value, IsChanged, Grows, grown, is_full, Clears, OnAfter}
use Rattle.flow_steps.specs.Stuck.{FrameMissing, PlaceMissing, NoPlace, AimsStuck, no_place, no_part}
use Rattle.flow_steps.specs.StuckSteps.{NoVectorAt}
use Rattle.flow_steps.proofs.Before.{some_none, held_frames, place_still, path_nowhere, with_frame_still}
use Rattle.flow_steps.proofs.Framing.{put_anew}

-- one more element behind some
one_behind : (vs : List Value) (v : Value) → values_of (vs ++ v ∷ []) ≡ with_last (values_of vs) (value_of v)
one_behind [] v = refl
one_behind (u ∷ us) v = ap (MoreValues (value_of u)) (one_behind us v)

pub grown_values : (owned items new : List Value) (v : Value) → map value_of owned ≡ map value_of items → new ≡ owned ++ v ∷ []
    → values_of new ≡ with_last (values_of items) (value_of v)
grown_values owned items new v e f = ap values_of f ∙ one_behind owned v ∙ ap (λ l. with_last (values_of_list l) (value_of v)) e

-- what is put in a place of a frame stands there, where something stood there
put_there : (xs : List (Option Value)) (n : ℕ) (u : Value) (v : Option Value) → (if ltb n (length xs) then get_or xs n None else None) ≡ Some u
    → (if ltb n (length (set xs n v)) then get_or (set xs n v) n None else None) ≡ v
put_there xs n u v e = by (ltb n (length xs)) refl e
  where
    by : (b : Bool) → ltb n (length xs) ≡ b → (if b then get_or xs n None else None) ≡ Some u
        → (if ltb n (length (set xs n v)) then get_or (set xs n v) n None else None) ≡ v
    by true is e =
        let lt : n < length xs = grind (arith, nat_tests, is) in
        ap (λ k. if ltb n k then get_or (set xs n v) n None else None) (length-set xs n v)
        ∙ ap (λ b. if b then get_or (set xs n v) n None else None) is
        ∙ get_or-set_same xs n v None lt
    by false is e = absurd (some_none (sym e))

place_there : (i n : ℕ) (u : Value) (v : Option Value) (h : HeapTree) → place_held i n h ≡ Some u → place_held i n (place_put i n v h) ≡ v
place_there i n u v h e = by (thing h.frames.things i) refl e
  where
    by : (o : Option (FrameTree Value)) → thing h.frames.things i ≡ o → held_in n o ≡ Some u
        → held_in n (thing (reframed (λ f. with_place f n v) i o h).frames.things i) ≡ v
    by None is e = absurd (some_none (sym e))
    by (Some f) is e = ap (held_in n) (found_put h.frames.things i f (with_place f n v) is) ∙ put_there f.places n u v e

-- a place that isn't there holds nothing
unheld : (i n : ℕ) (h : HeapTree) → NoPlace i n h → place_held i n h ≡ None
unheld i n h m = by (thing h.frames.things i) m
  where
    past : (xs : List (Option Value)) → length xs ≤ n → (if ltb n (length xs) then get_or xs n None else None) ≡ None
    past xs le = let no : ltb n (length xs) ≡ false = search (arith, le) in ap (λ b. if b then get_or xs n None else None) no

    by : (o : Option (FrameTree Value)) → PlaceMissing n o → held_in n o ≡ None
    by None m = refl
    by (Some f) le = past f.places le

-- parts of values that are exchanged
part_put : (vs : ValueTrees) (k : ℕ) (u w : ValueTree) → value_at vs k ≡ Some u → value_at (value_put vs k w) k ≡ Some w
part_put NoValues k u w e = absurd (some_none (sym e))
part_put (MoreValues v vs) zero u w e = refl
part_put (MoreValues v vs) (suc k) u w e = part_put vs k u w e

within_parts : (w : Whole) (vs : ValueTrees) (k : Option ℕ) (r : Option Exchange) (o y : Option ValueTree) → within w vs k r ≡ Some (o, y)
    → (j : ℕ) × (n : ValueTree) × (k ≡ Some j) × (r ≡ Some (o, Some n)) × (y ≡ Some (CompositeValue w (value_put vs j n)))
within_parts w vs (Some k) (Some (old, Some n)) o y e =
    let is = same_Some (old, Some (CompositeValue w (value_put vs k n))) (o, y) e in
    (k, n, refl, ap (λ (p : Exchange). Some (p.0, Some n)) is, ap (λ (p : Exchange). p.1) (sym is))
within_parts w vs k r o y e = absurd (some_none (sym e))

module _ (at : Numbering) where
  -- what comes out is what stood there
  old_part : (path : List ℕ) (new : ValueTree) (x o y : Option ValueTree) → exchanged at path new x ≡ Some (o, y) → field_path at path x ≡ o
  old_part [] new x o y e = ap (λ (p : Exchange). p.0) (same_Some (x, Some new) (o, y) e)
  old_part (f ∷ fs) new (Some (CompositeValue w vs)) o y e =
      let p = within_parts w vs (at w f) (exchanged at fs new (at_place vs (at w f))) o y e in
      old_part fs new (at_place vs (at w f)) o (Some p.1) p.3
  old_part (f ∷ fs) new x o y e = absurd (some_none (sym e))

  -- something did where something comes out
  whole_there : (path : List ℕ) (new : ValueTree) (x : Option ValueTree) (o : ValueTree) (y : Option ValueTree) → exchanged at path new x ≡ Some (Some o, y)
      → (u : ValueTree) × (x ≡ Some u)
  whole_there [] new x o y e = (o, ap (λ (p : Exchange). p.0) (same_Some (x, Some new) (Some o, y) e))
  whole_there (f ∷ fs) new (Some v) o y e = (v, refl)
  whole_there (f ∷ fs) new None o y e = absurd (some_none (sym e))

  -- the new value stands there afterwards
  new_part : (path : List ℕ) (new : ValueTree) (x : Option ValueTree) (o : ValueTree) (y : Option ValueTree) → exchanged at path new x ≡ Some (Some o, y)
      → field_path at path y ≡ Some new
  new_part [] new x o y e = sym (ap (λ (p : Exchange). p.1) (same_Some (x, Some new) (Some o, y) e))
  new_part (f ∷ fs) new (Some (CompositeValue w vs)) o y e =
      let p = within_parts w vs (at w f) (exchanged at fs new (at_place vs (at w f))) (Some o) y e in
      let here : exchanged at fs new (value_at vs p.0) ≡ Some (Some o, Some p.1) = ap (λ k. exchanged at fs new (at_place vs k)) (sym p.2) ∙ p.3 in
      let u = whole_there fs new (value_at vs p.0) o (Some p.1) here in
      ap (field_path at (f ∷ fs)) p.4
      ∙ ap (λ k. field_path at fs (at_place (value_put vs p.0 p.1) k)) p.2
      ∙ ap (field_path at fs) (part_put vs p.0 u.0 p.1 u.1)
      ∙ new_part fs new (value_at vs p.0) o (Some p.1) here
  new_part (f ∷ fs) new x o y e = absurd (some_none (sym e))

  -- after one value another: it is as with the other alone
  exchanged_twice : (path : List ℕ) (one two : ValueTree) (x : Option ValueTree) (o : ValueTree) (y p z : Option ValueTree) → exchanged at path one x ≡ Some (Some o, y)
      → exchanged at path two y ≡ Some (p, z) → exchanged at path two x ≡ Some (Some o, z)
  exchanged_twice [] one two x o y p z e g =
      ap (λ a. Some (a, Some two)) (ap (λ (q : Exchange). q.0) (same_Some (x, Some one) (Some o, y) e))
      ∙ ap (λ b. Some (Some o, b)) (ap (λ (q : Exchange). q.1) (same_Some (y, Some two) (p, z) g))
  exchanged_twice (f ∷ fs) one two (Some (CompositeValue w vs)) o y p z e g =
      let a = within_parts w vs (at w f) (exchanged at fs one (at_place vs (at w f))) (Some o) y e in
      let here : exchanged at fs one (value_at vs a.0) ≡ Some (Some o, Some a.1) = ap (λ k. exchanged at fs one (at_place vs k)) (sym a.2) ∙ a.3 in
      let u = whole_there fs one (value_at vs a.0) o (Some a.1) here in
      let put = value_put vs a.0 a.1 in
      let again : exchanged at (f ∷ fs) two (Some (CompositeValue w put)) ≡ Some (p, z) = ap (exchanged at (f ∷ fs) two) (sym a.4) ∙ g in
      let b = within_parts w put (at w f) (exchanged at fs two (at_place put (at w f))) p z again in
      let there : exchanged at fs two (Some a.1) ≡ Some (p, Some b.1) =
      ap (exchanged at fs two) (sym (ap (at_place put) a.2 ∙ part_put vs a.0 u.0 a.1 u.1)) ∙ b.3 in
      let inner = exchanged_twice fs one two (value_at vs a.0) o (Some a.1) p (Some b.1) here there in
      let same : b.0 ≡ a.0 = same_Some b.0 a.0 (sym b.2 ∙ a.2) in
      let after : value_put put b.0 b.1 ≡ value_put vs a.0 b.1 = ap (λ k. value_put put k b.1) same ∙ put_again vs a.0 a.1 b.1 in
      ap (λ k. within w vs k (exchanged at fs two (at_place vs k))) a.2
      ∙ ap (within w vs (Some a.0)) inner
      ∙ ap (λ l. Some (Some o, Some (CompositeValue w l))) (sym after)
      ∙ ap (λ q. Some (Some o, q)) (sym b.4)
  exchanged_twice (f ∷ fs) one two x o y p z e g = absurd (some_none (sym e))

held_value : (o : Option Value) (u : ValueTree) → option_map value_of o ≡ Some u → (v : Value) × (o ≡ Some v)
held_value None u e = absurd (some_none (sym e))
held_value (Some v) u e = (v, refl)

-- where an actor aims
module _ (code : Code) (i : ActorId) (aim : Aim) where
  abbrev at : Numbering
  at = places_in code.fields

  abbrev whole_in : HeapTree → Option ValueTree
  whole_in h = option_map value_of (place_held i.0 aim.place h)

  pub aimed_old : (v : Value) (old : Option Value) (p q : Process) → Assigns code.fields i aim v p old q → aimed_value code i.0 aim p ≡ option_map value_of old
  aimed_old v old p q a = old_part at aim.path.items (value_of v) (whole_in p.heap) (option_map value_of old) (option_map value_of a.root) a.parts

  no_value : (p : Process) → aimed_value code i.0 aim p ≡ None → NoVectorAt code i.0 aim p
  no_value p e = λ es h. some_none (sym h ∙ e)

  pub aims_at_none : (p : Process) → AimsStuck code.fields i.0 aim p.heap → NoVectorAt code i.0 aim p
  aims_at_none p (no_place m) =
      no_value p (ap (λ (o : Option Value). field_path at aim.path.items (option_map value_of o)) (unheld i.0 aim.place p.heap m) ∙ path_nowhere at aim.path.items)
  aims_at_none p (no_part f fs is m) = no_value p m

  pub other_old : (v : Value) (old : Option Value) (p q : Process) → Assigns code.fields i aim v p old q
      → ((es : ValueTrees) → option_map value_of old ≡ Some (CompositeValue ListWhole es) → ⊥) → NoVectorAt code i.0 aim p
  other_old v old p q a other = λ es h. other es (sym (aimed_old v old p q a) ∙ h)

  module _ (one : Value) (o : ValueTree) (old : Option Value) (p mid : Process) (is : option_map value_of old ≡ Some o) (a : Assigns code.fields i aim one p old mid) where
    first_parts : exchanged at aim.path.items (value_of one) (whole_in p.heap) ≡ Some (Some o, option_map value_of a.root)
    first_parts = a.parts ∙ ap (λ x. Some (x, option_map value_of a.root)) is

    root_held : place_held i.0 aim.place mid.heap ≡ a.root
    root_held =
        let u = whole_there at aim.path.items (value_of one) (whole_in p.heap) o (option_map value_of a.root) first_parts in
        let v = held_value (place_held i.0 aim.place p.heap) u.0 u.1 in
        ap (λ (x : Process). place_held i.0 aim.place x.heap) a.put ∙ place_there i.0 aim.place v.0 a.root p.heap v.1

    -- of two assignments in place of something the second counts
    pub assigned_twice : (two : Value) (later : Option Value) (q : Process) → Assigns code.fields i aim two mid later q → Assigns code.fields i aim two p old q
    assigned_twice two later q b = record {
      root = b.root;
      parts =
          let second = ap (λ (x : Option Value). exchanged at aim.path.items (value_of two) (option_map value_of x)) (sym root_held) ∙ b.parts in
          exchanged_twice at aim.path.items (value_of one) (value_of two) (whole_in p.heap) o (option_map value_of a.root) (option_map value_of later) (option_map value_of b.root)
          first_parts second ∙ ap (λ x. Some (x, option_map value_of b.root)) (sym is);
      put = b.put ∙ ap (on_heap (place_put i.0 aim.place b.root)) a.put
          ∙ ap (λ h. record p { heap = h }) (put_anew i.0 aim.place b.root a.root p.heap);
    }

    -- and where the first was made the second can be
    pub aims_again : AimsStuck code.fields i.0 aim mid.heap → ⊥
    aims_again (no_place m) =
        let u = whole_there at aim.path.items (value_of one) (whole_in p.heap) o (option_map value_of a.root) first_parts in
        let v = held_value (place_held i.0 aim.place p.heap) u.0 u.1 in
        let before = place_still i.0 aim.place aim.place a.root p.heap (subst (λ (x : Process). NoPlace i.0 aim.place x.heap) a.put m) in
        some_none (sym v.1 ∙ unheld i.0 aim.place p.heap before)
    aims_again (no_part f fs e m) =
        let there = new_part at aim.path.items (value_of one) (whole_in p.heap) o (option_map value_of a.root) first_parts in
        some_none (sym there ∙ ap (λ (x : Option Value). field_path at aim.path.items (option_map value_of x)) (sym root_held) ∙ m)

  -- a vector is put in place of one
  pub changed_by : (es new : ValueTrees) (v : Value) (old : Option Value) (p q : Process) → value_of v ≡ CompositeValue ListWhole new
      → option_map value_of old ≡ Some (CompositeValue ListWhole es) → Assigns code.fields i aim v p old q → IsChanged code i aim es new p old q
  changed_by es new v old p q e f a = record { vector = v; is = e; was = f; assigns = a }

  same_elements : (es fs : ValueTrees) → Some (CompositeValue ListWhole es) ≡ Some (CompositeValue ListWhole fs) → count_of es ≡ count_of fs
  same_elements es fs e = ap counted e
    where
      counted : Option ValueTree → ℕ
      counted (Some (CompositeValue w vs)) = count_of vs
      counted _ = 0

  -- what counts more changes no place
  pub aimed_held : (v : Value) (p held : Process) → held ≡ on_heap (hold_all (value_refs v)) p → aimed_value code i.0 aim held ≡ aimed_value code i.0 aim p
  aimed_held v p held e = ap in_frames (ap (λ (x : Process). x.heap.frames) e ∙ held_frames (value_refs v) p.heap)
    where
      in_frames : Store (FrameTree Value) → Option ValueTree
      in_frames fs = field_path at aim.path.items (option_map value_of (held_in aim.place (thing fs.things i.0)))

  pub counted_elements : (v : Value) (es fs new : ValueTrees) (old : Option Value) (p held q : Process) → held ≡ on_heap (hold_all (value_refs v)) p
      → aimed_value code i.0 aim p ≡ Some (CompositeValue ListWhole es) → IsChanged code i aim fs new held old q → count_of fs ≡ count_of es
  counted_elements v es fs new old p held q e is c =
      same_elements fs es (sym c.was ∙ sym (aimed_old c.vector old held q c.assigns) ∙ aimed_held v p held e ∙ is)

  pub none_held : (v : Value) (p held : Process) → held ≡ on_heap (hold_all (value_refs v)) p → NoVectorAt code i.0 aim held → NoVectorAt code i.0 aim p
  none_held v p held e none = λ es h. none es (aimed_held v p held e ∙ h)

  -- the frame is there afterwards if it was before
  pub frame_before_change : (v : Value) (old : Option Value) (p q : Process) → Assigns code.fields i aim v p old q → FrameMissing i.0 q.heap → FrameMissing i.0 p.heap
  frame_before_change v old p q a m =
      with_frame_still (λ f. with_place f aim.place a.root) i.0 i.0 p.heap (subst (λ (x : Process). FrameMissing i.0 x.heap) a.put m)

-- how many elements there are
pub vector_there : (code : Code) (i : ℕ) (aim : Aim) (p : Process) (root v : Value) (items : List Value) → Some root ≡ place_held i aim.place p.heap
    → field_path (places_in code.fields) aim.path.items (Some (value_of root)) ≡ Some (value_of v) → value_of v ≡ CompositeValue ListWhole (values_of items)
    → aimed_value code i aim p ≡ Some (CompositeValue ListWhole (values_of items))
vector_there code i aim p root v items held part is =
    ap (λ (o : Option Value). field_path (places_in code.fields) aim.path.items (option_map value_of o)) (sym held) ∙ part ∙ ap Some is

pub nothing_there : (code : Code) (i : ℕ) (aim : Aim) (p : Process) (o : Option Value) → o ≡ place_held i aim.place p.heap → o ≡ None → NoVectorAt code i aim p
nothing_there code i aim p o held none =
    λ es h. some_none (sym h ∙ ap (λ (x : Option Value). field_path (places_in code.fields) aim.path.items (option_map value_of x)) (sym held ∙ none)
    ∙ path_nowhere (places_in code.fields) aim.path.items)

pub no_part_there : (code : Code) (i : ℕ) (aim : Aim) (p : Process) (root : Value) → Some root ≡ place_held i aim.place p.heap
    → field_path (places_in code.fields) aim.path.items (Some (value_of root)) ≡ None → NoVectorAt code i aim p
no_part_there code i aim p root held none =
    λ es h. some_none (sym h ∙ ap (λ (o : Option Value). field_path (places_in code.fields) aim.path.items (option_map value_of o)) (sym held) ∙ none)

pub other_there : (code : Code) (i : ℕ) (aim : Aim) (p : Process) (root v : Value) → Some root ≡ place_held i aim.place p.heap
    → field_path (places_in code.fields) aim.path.items (Some (value_of root)) ≡ Some (value_of v)
    → ((es : ValueTrees) → value_of v ≡ CompositeValue ListWhole es → ⊥) → NoVectorAt code i aim p
other_there code i aim p root v held part other =
    λ es h. other es (same_Some (value_of v) (CompositeValue ListWhole es)
    (sym part ∙ ap (λ (o : Option Value). field_path (places_in code.fields) aim.path.items (option_map value_of o)) held ∙ h))

-- a vector that grows
pub grows_by : (code : Code) (s t : ControlPoint) (aim : Aim) (v : Value) (es : ValueTrees) (n : ℕ) (p held q : Process)
    → aimed_value code s.actor.0 aim p ≡ Some (CompositeValue ListWhole es) → count_of es ≡ n → n < ELEMENTS → held ≡ on_heap (hold_all (value_refs v)) p
    → ((fs : ValueTrees) × (old : Option Value) × IsChanged code s.actor aim fs (with_last fs (value_of v)) held old q) → t ≡ next_stand s
    → Grows code s aim v p (On t) q
grows_by code s t aim v es n p held q is count lt e c next =
    let same = counted_elements code s.actor aim v es c.0 (with_last c.0 (value_of v)) c.1 p held q e is c.2 in
    let room : nat_lt (count_of c.0) ELEMENTS ≡ true = search (arith, same, count, lt) in
    subst (λ x. Grows code s aim v p (On x) q) (sym next)
    (grown c.0 c.1 q room (subst (λ x. IsChanged code s.actor aim c.0 (with_last c.0 (value_of v)) x c.1 q) e c.2))

-- a vector that is cleared
pub cleared_by : (code : Code) (s t : ControlPoint) (aim : Aim) (es : ValueTrees) (v : Value) (items : List Value) (old : Option Value) (r : Result Pace Fault) (p between q : Process)
    → aimed_value code s.actor.0 aim p ≡ Some (CompositeValue ListWhole es) → value_of v ≡ CompositeValue ListWhole (values_of items) → items ≡ []
    → Assigns code.fields s.actor aim v p old between → t ≡ next_stand s
    → IfOk r (λ pace. OnAfter t (referring old) between pace q) → IfOk r (λ pace. Clears code s aim p pace q)
cleared_by code s t aim es v items old r p between q was e none a next after =
    IfOk-weaker r _ _ (λ pace is. record {
      elements = es;
      old = old;
      between = between;
      changed = changed_by code s.actor aim es NoValues v old p between (e ∙ ap (λ l. CompositeValue ListWhole (values_of l)) none)
          (sym (aimed_old code s.actor aim v old p between a) ∙ was) a;
      after = subst (λ x. OnAfter x (referring old) between pace q) next is;
    }) after

-- a vector that is full doesn't grow
pub full : (code : Code) (s : ControlPoint) (aim : Aim) (v : Value) (es : ValueTrees) (n : ℕ) (p told q : Process)
    → aimed_value code s.actor.0 aim p ≡ Some (CompositeValue ListWhole es) → count_of es ≡ n → ELEMENTS ≤ n → told ≡ noted s p
    → q ≡ doing (task.Throw s.actor TOO_LONG) told → Grows code s aim v p Off q
full code s aim v es n p told q is count le e f =
    let enough : nat_lt (count_of es) ELEMENTS ≡ false = search (arith, count, le) in
    is_full es q is enough (f ∙ ap (doing (task.Throw s.actor TOO_LONG)) e)
