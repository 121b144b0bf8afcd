-- A step of an actor in memory by which one of its variables gets a value is a step of the class machine, or two.
use Rattle.std.proofs.Common.{◌≡◌, ◌⊎◌, inl, inr, ℕ, suc, List, [], ◌∷◌, length, map, refl, sym, ap, ◌∙◌, subst, arith}
use Rattle.std.specs.Option.{option_map}
use Rattle.std.specs.declared.option.Option.TheVariants.{None, Some}
use Rattle.flow_base.specs.declared.ids.ActorId.{ActorId}
use Rattle.flow_base.specs.declared.ids.CellId.{CellId}
use Rattle.flow_tree.specs.declared.ty.Ident.{Ident}
use Rattle.flow_value.specs.declared.value.Value.{Value}
use Rattle.flow_value.specs.declared.value.Value.TheVariants.{Ref}
use Rattle.flow_value.specs.declared.value.Kind.{Kind}
use Rattle.flow_value.specs.declared.value.Kind.TheVariants as kind
use Rattle.flow_tree.specs.Tree.{TypeTree}
use Rattle.flow_value.specs.Values.{ValueTree, NoValues, CompositeValue, ListWhole, RefValue, refs_of}
use Rattle.flow_eval.specs.Eval.{Done}
use Rattle.flow_value.specs.View.{value_of}
use Rattle.flow_class.specs.declared.class.Slotted.{Slotted}
use Rattle.flow_class.specs.Classes.{NewInstr, RawTree}
use Rattle.flow_class.specs.Code.{Body, fetch, type_at}
use Rattle.flow_code.specs.declared.class.Aim.{Aim}
use Rattle.flow_code.specs.declared.program.Code.{Code}
use Rattle.flow_trace.specs.declared.line.Line.{Line}
use Rattle.flow_cancel.specs.Heap.{HeapTree, next_cell}
use Rattle.flow_numbered.specs.Numbered.{thing, added, put}
use Rattle.flow_meaning.specs.Requests.{Stored, Make, Effects, Drops, Supply}
use Rattle.flow_meaning.specs.Evaluating.{StepOf, bind, evaluated, given, asks}
use Rattle.flow_meaning.specs.Process.{Run, Store, Entry, Core, Proc}
use Rattle.flow_meaning.specs.References.{Scan, refs_in}
use Rattle.flow_meaning.specs.Orderly.{Rising}
use Rattle.flow_meaning.specs.Work as work
use Rattle.flow_meaning.specs.Work.{pushed, new_cell}
use Rattle.flow_meaning.specs.Effects.{empty_cell}
use Rattle.flow_meaning.specs.Step.{view, silent, replaced, store, step_if, step, proc, on_core}
use Rattle.flow_meaning.specs.Variables.{filled}
use Rattle.flow_meaning.specs.Class.{promise_kind, new_by, placed, store_at, fetched, next_step, class_names, classes}
use Rattle.flow_meaning.specs.Frame.{Memory, Frame, read, write, put_at, assign, next_instr}
use Rattle.flow_meaning.proofs.Posture.{each_number, thing_put, thing_added}
use Rattle.flow_heap_refinement.specs.Counted.{branches_of, waiters_at}
use Rattle.flow_heap_refinement.proofs.Finds.{none_above, thing_new}
use Rattle.flow_heap_refinement.specs.Acting.{Free, put_frame}
use Rattle.flow_heap_refinement.specs.FrameChanges.{HasPlace, number_in}
use Rattle.flow_heap_refinement.specs.Holding.{held}
use Rattle.flow_heap_refinement.specs.Holds.{with_refs, There, AllThere, hold, hold_all}
use Rattle.flow_steps.specs.declared.frames.ControlPoint.{ControlPoint}
use Rattle.flow_steps.specs.declared.next.Pace.{Pace}
use Rattle.flow_steps.specs.declared.process.Process.{Process}
use Rattle.flow_steps.specs.Holding.{on_heap, value_refs}
use Rattle.flow_steps.specs.Delivering.{made}
use Rattle.flow_steps.specs.Points.{place_held, place_put, referring, next_stand, Assigns}
use Rattle.flow_steps.specs.Evaluating.{with_left}
use Rattle.flow_steps.specs.Stepping.{OnAfter, IsSet}
use Rattle.flow_operation_refinement.specs.Placing.{RepresentsActor, with_memory}
use Rattle.flow_operation_refinement.specs.Continuing.{stale, MayBeStale}
use Rattle.flow_operation_refinement.specs.Carried.{Carries, StepsAs}
use Rattle.flow_operation_refinement.specs.Evaluated.{GivesValue}
use Rattle.flow_operation_refinement.proofs.Brought.{all_there_by}
use Rattle.flow_operation_refinement.proofs.Making.{ref_seen, cell_made, new_there}
use Rattle.flow_operation_refinement.proofs.Places.{place_seen, place_changed}
use Rattle.flow_operation_refinement.proofs.Lost.{put_over}
use Rattle.flow_operation_refinement.proofs.Emptied.{referring_refs}
use Rattle.flow_operation_refinement.proofs.Parting.{acts_by}
use Rattle.flow_operation_refinement.proofs.Carrying.{old, asked}
use Rattle.flow_operation_refinement.proofs.Evaluations.{evaluation_follows}
use Rattle.flow_step_refinement.specs.Continuing.{Silent, no_more, then_on}
use Rattle.flow_step_refinement.specs.Assigning as law
use Rattle.flow_step_refinement.specs.Assigning.{AimsAt, CanAssign}
use Rattle.flow_step_refinement.proofs.Onward.{carried, later_after, carries_over, stale_left, stale_held, with_held}
use Rattle.flow_step_refinement.proofs.Paths.{path_put}

-- a new cell changes no frame
made_frames : (kd : Kind) (h : HeapTree) → ((made kd h).frames ≡ h.frames) × ((made kd h).actors ≡ h.actors)
made_frames kind.Promise h = (refl, refl)
made_frames kind.Future h = (refl, refl)
made_frames kind.PromiseStream h = (refl, refl)
made_frames kind.FutureStream h = (refl, refl)

module _ (r : RawTree) (ls : List Line) (m : Process) (p : Proc Frame) (i : ℕ) (e : Entry) (f : Frame) where
  -- an assignment with its value known
  sets : (x : Scan) (s : ControlPoint) (w : Supply) (code : Code) (path : List Ident) (aim : Aim) (v : Value) (left : ℕ) (pace : Pace) (n : Process)
      → MayBeStale r ls x s m p i e f
      → next_step (class_names r) (view w i p.core) f ≡ given f (assign r.records f.mem path (value_of v)) (placed (class_names r) (view w i p.core) f left)
      → AllThere p (value_refs v) → AimsAt r.records code f path aim → CanAssign r.records f path (value_of v)
      → IsSet code s aim v (with_left left m) pace n → StepsAs r ls x w p i e pace n
  sets x s w code path aim v left pace n st next there aims can is =
      let q : Proc Frame = on_core (λ c. record c { left = left }) p in
      let m1 : Process = with_left left m in
      let st1 = stale_left r ls m p i e f x s st left in
      let qs = value_refs v in
      let m2 : Process = on_heap (hold_all qs) m1 in
      let st2 = stale_held r ls m1 q i e f x s st1 qs (all_there_by p q qs refl there) in
      let o : Frame = old r ls m2 q i e f (with_refs qs x) s st2 in
      let aims1 : AimsAt r.records code o path aim = record {
        name = aims.name;
        fields = aims.fields;
        place = aims.place;
        field = aims.field;
        names = aims.names;
        named = aims.named;
        has = aims.has;
        number = aims.number;
        numbering = aims.numbering;
        numbers = aims.numbers;
      } in
      let put_there = path_put r ls m2 (put_frame i o q) i e o x code path aim v is.old is.between st2.stood aims1 can
      (subst (λ (a : ActorId). Assigns code.fields a aim v m2 is.old is.between) st.standing.actor is.assigns) in
      let us = put_there.values in
      let same : refs_in (map value_of (referring is.old)) ≡ refs_in us = referring_refs is.old ∙ ap refs_in (sym put_there.same) in
      let asks_drops : next_step (class_names r) (view w i p.core) f ≡ asks left (Drops us) (next_instr put_there.memory f) =
      next ∙ ap (λ y. given f y (placed (class_names r) (view w i p.core) f left)) put_there.assigned in record {
        after = proc (work.dropping_values us (pushed (Run i) q.core)) (put p.actors i (next_instr put_there.memory f));
        steps = asked r ls m p i e f w (asks left (Drops us) (next_instr put_there.memory f)) st.stood.shown.goes st.acting asks_drops;
        carries = carries_over r ls m1 q i e f x s st1 put_there.memory us (referring is.old) is.between pace n put_there.stood same is.after;
      }

  abbrev assigned : Supply → List Ident → ValueTree → ℕ → StepOf Frame
  assigned w path u left = given f (assign r.records f.mem path u) (placed (class_names r) (view w i p.core) f left)

  pub set_step : law.SetStep r ls m p i e f
  set_step x s w code path t aim comes_to pace n st there same gives aims can evaluates =
      by_case (evaluation_follows r ls m p i e f x s w value_of comes_to (assigned w path) (IsSet code s aim) pace n st next evaluates)
    where
      next : next_step (class_names r) (view w i p.core) f ≡ evaluated f comes_to (assigned w path)
      next = ap (fetched (class_names r) (view w i p.core) f) there ∙ ap (λ k. evaluated f k (assigned w path)) (sym same)

      by_case : GivesValue value_of comes_to m (IsSet code s aim) pace n ⊎ StepsAs r ls x w p i e pace n → StepsAs r ls x w p i e pace n
      by_case (inl g) =
          sets x s w code path aim g.value g.left pace n st (next ∙ ap (λ k. evaluated f k (assigned w path)) g.done) (gives (value_of g.value) g.left g.done) aims
          (can (value_of g.value) g.left g.done) g.goes
      by_case (inr a) = a

  -- the empty vector refers to nothing, and a place takes any value
  pub empty_step : law.EmptyStep r ls m p i e f
  empty_step x s w code q u name aim pace n st there typed named aims evaluates =
      by_case (evaluation_follows r ls m p i e f x s w value_of (Done (CompositeValue ListWhole NoValues) m.left) (assigned w (name ∷ [])) (IsSet code s aim) pace n st next evaluates)
    where
      next : next_step (class_names r) (view w i p.core) f ≡ evaluated f (Done (CompositeValue ListWhole NoValues) m.left) (assigned w (name ∷ []))
      next =
          ap (fetched (class_names r) (view w i p.core) f) there
          ∙ ap (λ o. given f o (λ t. new_by (class_names r) (view w i p.core) f q t (promise_kind t))) typed
          ∙ ap (λ o. given f (bind o (λ y. put_at r.records f.mem y [] (CompositeValue ListWhole NoValues))) (placed (class_names r) (view w i p.core) f p.core.left)) (sym named)
          ∙ ap (λ l. assigned w (name ∷ []) (CompositeValue ListWhole NoValues) l) st.stood.shown.left

      can : (v : ValueTree) → CanAssign r.records f (name ∷ []) v
      can v k = let a = ap (λ o. bind o (λ y. put_at r.records f.mem y [] v)) named in cc (a, k)

      by_case : GivesValue value_of (Done (CompositeValue ListWhole NoValues) m.left) m (IsSet code s aim) pace n ⊎ StepsAs r ls x w p i e pace n → StepsAs r ls x w p i e pace n
      by_case (inl g) =
          let same : CompositeValue ListWhole NoValues ≡ value_of g.value = let d = g.done in cc (d) in
          sets x s w code (name ∷ []) aim g.value g.left pace n st (next ∙ ap (λ k. evaluated f k (assigned w (name ∷ []))) g.done) (subst (λ v. AllThere p (refs_of v)) same tt) aims
          (can (value_of g.value)) g.goes
      by_case (inr a) = a

-- nobody waits at a new cell
nobody_new : (i : ℕ) (kd : Kind) → branches_of i (waiters_at (Some (empty_cell kd))) ≡ []
nobody_new i kind.Promise = refl
nobody_new i kind.Future = refl
nobody_new i kind.PromiseStream = refl
nobody_new i kind.FutureStream = refl

free_new : (i : ℕ) (kd : Kind) (c : Core) → Rising 0 c.made c.cells → Free i c → Free i (new_cell (empty_cell kd) c)
free_new i kd c rising free = record {
  waits = each_number (suc c.made) (λ k. branches_of i (waiters_at (thing (added c.cells (suc c.made) (empty_cell kd)) k)) ≡ [])
      (ap (λ o. branches_of i (waiters_at o)) (thing_new c.cells (suc c.made) (empty_cell kd) (none_above c.cells 0 c.made (suc c.made) rising (omega arith))) ∙ nobody_new i kd)
      (λ k differ. ap (λ o. branches_of i (waiters_at o)) (thing_added c.cells (suc c.made) k (empty_cell kd) differ) ∙ free.waits k);
  keeps = free.keeps;
}

-- a new cell is made
module _ (r : RawTree) (ls : List Line) (m : Process) (p : Proc Frame) (i : ℕ) (e : Entry) (f : Frame) (x : Scan) (s : ControlPoint) (kd : Kind) where
  abbrev with_new : Proc Frame
  with_new = on_core (new_cell (empty_cell kd)) p

  abbrev stale_made : MayBeStale r ls x s m p i e f → Rising 0 p.core.made p.core.cells → MayBeStale r ls x s (on_heap (made kd) m) with_new i e f
  stale_made st rising =
      let o : Frame = stale st.block st.instr st.state f in
      let fr = made_frames kd m.heap in record {
        block = st.block;
        instr = st.instr;
        state = st.state;
        stood = record {
          shown = cell_made r ls x m (put_frame i o p) kd st.stood.shown rising;
          acts = acts_by r m.heap (made kd m.heap) (put_frame i o p) (put_frame i o with_new) i e o fr.0 fr.1 refl refl st.stood.acts;
        };
        told = st.told;
        acting = st.acting;
        standing = st.standing;
        instruction = st.instruction;
        free = free_new i kd p.core rising st.free;
        operands = st.operands;
      }

module _ (r : RawTree) (ls : List Line) (m : Process) (p : Proc Frame) (i : ℕ) (e : Entry) (f : Frame) (w : Supply) (q : Slotted) (kd : Kind) where
  abbrev place : ℕ
  place = number_in (length f.code.slots) q

  -- its reference, and what it replaces
  abbrev new_ref : ValueTree
  new_ref = RefValue kd (suc p.core.made)

  abbrev replaces : List ValueTree
  replaces = filled (read f.mem q ∷ [])

  abbrev then_on_frame : Frame
  then_on_frame = next_instr (write f.mem q (Some new_ref)) f

  -- the steps of the class machine: it is made, and stored
  abbrev making : Proc Frame
  making = proc (pushed (Store i new_ref) (pushed (Run i) (new_cell (empty_cell kd) p.core))) (put p.actors i f)

  abbrev storing : Proc Frame
  storing = proc (work.dropping_values replaces (pushed (Run i) (new_cell (empty_cell kd) p.core))) (put (put p.actors i f) i then_on_frame)

  first_step : (u : TypeTree) → p.core.halted ≡ None → thing p.actors i ≡ Some f → fetch f.code f.block f.instr ≡ Body (NewInstr q) → type_at f.code q ≡ Some u → promise_kind u ≡ Some kd
      → step (classes r) w (on_core (pushed (Run i)) p) ≡ Some (silent making)
  first_step u goes acting there typed kind =
      asked r ls m p i e f w (asks p.core.left (Effects Stored (Make kd)) f) goes acting
      (ap (fetched (class_names r) (view w i p.core) f) there
      ∙ ap (λ o. given f o (λ t. new_by (class_names r) (view w i p.core) f q t (promise_kind t))) typed ∙ ap (new_by (class_names r) (view w i p.core) f q u) kind)

  second_step : p.core.halted ≡ None → thing p.actors i ≡ Some f → fetch f.code f.block f.instr ≡ Body (NewInstr q)
      → step (classes r) w making ≡ Some (silent storing)
  second_step goes acting there =
      let after : Proc Frame = proc (pushed (Run i) (new_cell (empty_cell kd) p.core)) (put p.actors i f) in
      ap (λ h. step_if (classes r) w h making) goes
      ∙ ap (λ a. Some (store (classes r) i new_ref a after)) (thing_put p.actors i f f acting)
      ∙ ap (λ k. Some (replaced i (store_at (class_names r) new_ref f k) after)) there

  pub new_steps : (u : TypeTree) → p.core.halted ≡ None → thing p.actors i ≡ Some f → fetch f.code f.block f.instr ≡ Body (NewInstr q) → type_at f.code q ≡ Some u → promise_kind u ≡ Some kd
      → Silent r w (on_core (pushed (Run i)) p) storing
  new_steps u goes acting there typed kind =
      then_on (on_core (pushed (Run i)) p) making storing (first_step u goes acting there typed kind)
      (then_on making storing storing (second_step goes acting there) (no_more storing))

module _ (r : RawTree) (ls : List Line) (m : Process) (p : Proc Frame) (i : ℕ) (e : Entry) (f : Frame) (x : Scan) (s : ControlPoint) (q : Slotted) (kd : Kind)
    (st : MayBeStale r ls x s m p i e f) (rising : Rising 0 p.core.made p.core.cells) (cell : CellId) (is_next : cell.0 ≡ next_cell m.heap) where
  abbrev made_proc : Proc Frame
  made_proc = on_core (new_cell (empty_cell kd)) p

  abbrev made_heap : Process
  made_heap = on_heap (made kd) m

  abbrev over : List ValueTree
  over = filled (read f.mem q ∷ [])

  abbrev frame_before : Frame
  frame_before = stale st.block st.instr st.state f

  abbrev seen_made : Proc Frame
  seen_made = put_frame i frame_before made_proc

  abbrev held_heap : Process
  held_heap = on_heap (hold kd cell.0) made_heap

  abbrev number : ℕ
  number = number_in (length f.code.slots) q

  abbrev hand : Scan
  hand = with_refs ((kd, cell.0) ∷ []) x

  abbrev written : Memory
  written = write f.mem q (option_map value_of (Some (Ref kd cell)))

  number_is : cell.0 ≡ suc p.core.made
  number_is = is_next ∙ st.stood.shown.holds.shows.made

  pub written_is : written ≡ write f.mem q (Some (RefValue kd (suc p.core.made)))
  written_is = ap (λ v. write f.mem q (Some v)) (ref_seen kd cell ∙ ap (RefValue kd) number_is)

  -- the reference in hand
  in_hand : RepresentsActor r ls hand held_heap seen_made i e frame_before
  in_hand =
      with_held r ls made_heap seen_made i e frame_before x ((kd, cell.0) ∷ []) (stale_made r ls m p i e f x s kd st rising).stood
      (subst (λ c. There seen_made (kd, c)) (sym number_is) (new_there r ls x m (put_frame i frame_before p) kd rising), tt)

  -- and in its place
  in_place : HasPlace f q → RepresentsActor r ls (with_refs (refs_in over) x) (on_heap (place_put i number (Some (Ref kd cell))) held_heap)
      (put_frame i (with_memory written frame_before) seen_made) i e (with_memory written frame_before)
  in_place has =
      place_changed r ls held_heap seen_made i e frame_before hand (with_refs (refs_in over) x) q (Some (Ref kd cell)) in_hand has
      (λ z j. let a = ap (λ v. held z j (Some v)) (ref_seen kd cell) in omega (arith, a))

  same_over : HasPlace f q → refs_in (map value_of (referring (place_held i number held_heap.heap))) ≡ refs_in over
  same_over has =
      referring_refs (place_held i number held_heap.heap)
      ∙ ap (λ v. refs_in (filled (v ∷ []))) (place_seen r ls held_heap seen_made i e frame_before hand q in_hand has)

  pub new_carries : HasPlace f q → (pace : Pace) (n : Process)
      → OnAfter (next_stand s) (referring (place_held i number held_heap.heap)) (on_heap (place_put i number (Some (Ref kd cell))) held_heap) pace n
      → Carries r ls x i e pace n (proc (work.dropping_values over (pushed (Run i) made_proc.core)) (put p.actors i (next_instr written f)))
  new_carries has pace n after =
      carries_over r ls made_heap made_proc i e f x s (stale_made r ls m p i e f x s kd st rising) written over (referring (place_held i number held_heap.heap))
      (on_heap (place_put i number (Some (Ref kd cell))) held_heap) pace n (in_place has) (same_over has) after

module _ (r : RawTree) (ls : List Line) (m : Process) (p : Proc Frame) (i : ℕ) (e : Entry) (f : Frame) where
  pub new_step : law.NewStep r ls m p i e f
  new_step x s w q u kd pace n st there has typed kind rising is =
      let number : ℕ = number_in (length f.code.slots) q in
      let us : List ValueTree = filled (read f.mem q ∷ []) in
      let core : Core = work.dropping_values us (pushed (Run i) (new_cell (empty_cell kd) p.core)) in
      let g : Frame = next_instr (write f.mem q (Some (RefValue kd (suc p.core.made)))) f in
      let after = subst (λ (a : ActorId). OnAfter (next_stand s) (referring (place_held a.0 number (hold kd is.cell.0 (made kd m.heap))))
      (on_heap (λ h. place_put a.0 number (Some (Ref kd is.cell)) (hold kd is.cell.0 (made kd h))) m) pace n) st.standing.actor is.after in
      let carries = new_carries r ls m p i e f x s q kd st rising is.cell is.number has pace n after in
      let there_then = subst (λ y. Carries r ls x i e pace n (proc core (put p.actors i (next_instr y f)))) (written_is r ls m p i e f x s q kd st rising is.cell is.number) carries in record {
        after = storing r ls m p i e f w q kd;
        steps = new_steps r ls m p i e f w q kd u st.stood.shown.goes st.acting there typed kind;
        onward = carried r ls x w p i e pace n (storing r ls m p i e f w q kd) (λ t on. later_after s t _ _ n pace after on)
            (subst (λ xs. Carries r ls x i e pace n (proc core xs)) (sym (put_over p.actors i f g)) there_then);
      }
