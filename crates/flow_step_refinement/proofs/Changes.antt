-- A call statement by which an actor in memory changes a vector is a step of the class machine.
use Rattle.std.proofs.Common.{◌≡◌, ◌⊎◌, inl, inr, ℕ, List, [], ◌∷◌, map, refl, sym, ap, ◌∙◌, subst, arith}
use Rattle.std.specs.Option.{option_map}
use Rattle.std.specs.declared.option.Option.{Option}
use Rattle.std.specs.declared.option.Option.TheVariants.{None, Some}
use Rattle.flow_base.specs.declared.ids.ActorId.{ActorId}
use Rattle.flow_base.specs.declared.errors.TheConstants.{TOO_LONG}
use Rattle.flow_tree.specs.declared.ty.Ident.{Ident}
use Rattle.flow_tree.specs.Tree.{ExprTree, ExprTrees, NoExprs, MoreExprs}
use Rattle.flow_ast.specs.declared.predefined.Method.{Method}
use Rattle.flow_ast.specs.TypingNames.{named, method_names}
use Rattle.flow_value.specs.declared.value.Value.{Value}
use Rattle.flow_value.specs.Values.{ValueTree, NoValues, CompositeValue, ListWhole, refs_of, with_last}
use Rattle.flow_value.specs.View.{value_of}
use Rattle.flow_eval.specs.Eval.{Res, Done}
use Rattle.flow_eval.specs.Functions.{read_in}
use Rattle.flow_class.specs.Classes.{ActInstr, RawTree}
use Rattle.flow_class.specs.Code.{Body, fetch}
use Rattle.flow_code.specs.declared.class.Aim.{Aim}
use Rattle.flow_code.specs.declared.program.Code.{Code}
use Rattle.flow_trace.specs.declared.line.Line.{Line}
use Rattle.flow_numbered.specs.Numbered.{put}
use Rattle.flow_meaning.specs.Requests.{Drops, Supply}
use Rattle.flow_meaning.specs.Evaluating.{StepOf, Change, Grows, Clears, Storing, change_by, before_last, last_of, bind, grown_by, changed, call_by, evaluated, given, asks, value, values}
use Rattle.flow_meaning.specs.Process.{Run, Entry, Proc}
use Rattle.flow_meaning.specs.References.{Scan, count, refs_in}
use Rattle.flow_meaning.specs.Variables.{filled}
use Rattle.flow_meaning.specs.Work as work
use Rattle.flow_meaning.specs.Work.{pushed}
use Rattle.flow_meaning.specs.Step.{view, proc, on_core}
use Rattle.flow_meaning.specs.Class.{put_path, fetched, next_step, class_names}
use Rattle.flow_meaning.specs.Frame.{Memory, Frame, look, read, assign, next_instr}
use Rattle.flow_heap_refinement.specs.Acting.{put_frame}
use Rattle.flow_heap_refinement.specs.Holds.{with_refs, AllThere, hold_all}
use Rattle.flow_heap_refinement.proofs.Sums.{longer_refs, one_refs}
use Rattle.flow_steps.specs.declared.frames.ControlPoint.{ControlPoint}
use Rattle.flow_steps.specs.declared.next.Pace.{Pace}
use Rattle.flow_steps.specs.declared.process.Process.{Process}
use Rattle.flow_steps.specs.Holding.{on_heap, value_refs}
use Rattle.flow_steps.specs.Points.{referring, Assigns}
use Rattle.flow_steps.specs.Evaluating.{with_left, Evaluates}
use Rattle.flow_steps.specs.Stepping as stepping
use Rattle.flow_steps.specs.Stepping.{grown, is_full, IsChange}
use Rattle.flow_operation_refinement.specs.Continuing.{MayBeStale}
use Rattle.flow_operation_refinement.specs.Carried.{StepsAs}
use Rattle.flow_operation_refinement.specs.Evaluated.{GivesValue}
use Rattle.flow_operation_refinement.proofs.Brought.{all_there_by}
use Rattle.flow_operation_refinement.proofs.Emptied.{referring_refs}
use Rattle.flow_operation_refinement.proofs.Carrying.{old, asked, error_thrown}
use Rattle.flow_operation_refinement.proofs.Evaluations.{evaluation_follows}
use Rattle.flow_step_refinement.specs.Assigning.{AimsAt}
use Rattle.flow_step_refinement.proofs.Onward.{carries_over, stale_left, stale_held}
use Rattle.flow_step_refinement.proofs.Paths.{stood_there, can_change, put_by}
use Rattle.flow_step_refinement.proofs.Effects.Answering.{evaluated_then}
use Rattle.flow_step_refinement.proofs.Effects.Decoded.{path_seen}

module _ (r : RawTree) (ls : List Line) (m : Process) (p : Proc Frame) (i : ℕ) (e : Entry) (f : Frame) (x : Scan) (s : ControlPoint) (w : Supply) (code : Code) (path : List Ident) (aim : Aim)
    (st : MayBeStale r ls x s m p i e f) (aims : AimsAt r.records code f path aim) where
  -- how it goes on with what is put in place
  abbrev go : Storing → ℕ → StepOf Frame
  go c left = given f (put_path (class_names r) (view w i p.core) f path c.0) (λ a. asks left (Drops c.1) a)

  -- what stands where the path leads
  abbrev here : Option ValueTree
  here = read_in r.records (bind (Some aims.place) (read f.mem)) aims.fields

  abbrev before : Frame
  before = old r ls m p i e f x s st

  abbrev aims_before : AimsAt r.records code before path aim
  aims_before = record {
    name = aims.name;
    fields = aims.fields;
    place = aims.place;
    field = aims.field;
    names = aims.names;
    named = aims.named;
    has = aims.has;
    number = aims.number;
    numbering = aims.numbering;
    numbers = aims.numbers;
  }

  -- what is put in place, and what is asked then
  asks_after : (left : ℕ) (c : Storing) (us : List ValueTree) (mem : Memory) → assign r.records f.mem path c.0 ≡ Some (us, mem) → go c left ≡ asks left (Drops c.1) (next_instr mem f)
  asks_after left c us mem e = ap (λ o. given f (option_map (λ (y : List ValueTree × Memory). next_instr y.1 f) o) (λ a. asks left (Drops c.1) a)) e

  module _ (left : ℕ) where
    abbrev turned_to : Proc Frame
    turned_to = on_core (λ c. record c { left = left }) p

    abbrev m1 : Process
    m1 = with_left left m

    abbrev st1 : MayBeStale r ls x s m1 turned_to i e f
    st1 = stale_left r ls m p i e f x s st left

    -- a vector grows by what is in hand
    grows : (v : Value) (pace : Pace) (n : Process) → AllThere p (value_refs v)
        → next_step (class_names r) (view w i p.core) f ≡ evaluated f (changed Grows (value_of v ∷ []) here left) go
        → stepping.Grows code s aim v m1 pace n → StepsAs r ls x w p i e pace n
    grows v pace n there next (grown es was q room is) =
        let qs = value_refs v in
        let m2 : Process = on_heap (hold_all qs) m1 in
        let st2 = stale_held r ls m1 turned_to i e f x s st1 qs (all_there_by p turned_to qs refl there) in
        let assigns = subst (λ (a : ActorId). Assigns code.fields a aim is.vector m2 was q) st.standing.actor is.assigns in
        let c = CompositeValue ListWhole es in
        let t = CompositeValue ListWhole (with_last es (value_of v)) in
        let over : Proc Frame = put_frame i before turned_to in
        let can = can_change r ls m2 over i e before (with_refs qs x) code path aim is.vector was q st2.stood aims_before assigns c is.was in
        let read_there = stood_there r ls m2 over i e before (with_refs qs x) code path aim is.vector was q st2.stood aims_before assigns c is.was in
        let put_there = put_by r ls m2 over i e before (with_refs qs x) code path aim is.vector was q st2.stood aims_before assigns (λ vs. with_refs (refs_in []) x)
        (λ vs same z j.
        let a = ap (λ u. count z j (refs_of u)) is.is in
        let b = longer_refs z j es (value_of v) in
        let d = ap (λ us. count z j (refs_in us)) (same ∙ ap (λ o. filled (o ∷ [])) is.was) in
        let g = one_refs z j c in omega (arith, a, b, d, g)) can in
        let placed = ap (assign r.records f.mem path) (sym is.is) ∙ put_there.assigned in
        let asks_drops : next_step (class_names r) (view w i p.core) f ≡ asks left (Drops []) (next_instr put_there.memory f) =
        next
        ∙ ap (λ o. evaluated f (changed Grows (value_of v ∷ []) o left) go) read_there.read
        ∙ ap (λ b. evaluated f (grown_by b es (value_of v) left) go) room
        ∙ asks_after left (t, []) put_there.values put_there.memory placed in record {
          after = proc (work.dropping_values [] (pushed (Run i) turned_to.core)) (put p.actors i (next_instr put_there.memory f));
          steps = asked r ls m p i e f w (asks left (Drops []) (next_instr put_there.memory f)) st.stood.shown.goes st.acting asks_drops;
          carries = carries_over r ls m1 turned_to i e f x s st1 put_there.memory [] [] q pace n put_there.stood refl (refl, refl);
        }
    grows v pace n there next (is_full es q aimed full is) =
        let there = path_seen r ls m (put_frame i before p) i e before x code aims.name aims.fields aim aims.place aims.field st.stood aims.named aims.has aims.number aims.numbers aims.numbering in
        let at : here ≡ Some (CompositeValue ListWhole es) =
        ap (λ o. read_in r.records (bind o (read f.mem)) aims.fields) (sym aims.named) ∙ sym there ∙ subst (λ (a : ActorId). stepping.aimed_value code a.0 aim m1 ≡ Some (CompositeValue ListWhole es)) st.standing.actor aimed in
        error_thrown r ls m p i e f x s w TOO_LONG left n st is
        (next ∙ ap (λ o. evaluated f (changed Grows (value_of v ∷ []) o left) go) at ∙ ap (λ b. evaluated f (grown_by b es (value_of v) left) go) full)

    -- a vector is cleared
    clears : (vs : List ValueTree) (pace : Pace) (n : Process) → next_step (class_names r) (view w i p.core) f ≡ evaluated f (changed Clears vs here left) go
        → stepping.Clears code s aim m1 pace n → StepsAs r ls x w p i e pace n
    clears vs pace n next cl =
        let is = cl.changed in
        let assigns = subst (λ (a : ActorId). Assigns code.fields a aim is.vector m1 cl.old cl.between) st.standing.actor is.assigns in
        let c = CompositeValue ListWhole cl.elements in
        let over : Proc Frame = put_frame i before turned_to in
        let can = can_change r ls m1 over i e before x code path aim is.vector cl.old cl.between st1.stood aims_before assigns c is.was in
        let read_there = stood_there r ls m1 over i e before x code path aim is.vector cl.old cl.between st1.stood aims_before assigns c is.was in
        let put_there = put_by r ls m1 over i e before x code path aim is.vector cl.old cl.between st1.stood aims_before assigns (λ us. with_refs (refs_in us) x)
        (λ us same z j. let a = ap (λ u. count z j (refs_of u)) is.is in omega (arith, a)) can in
        let us = put_there.values in
        let placed = ap (assign r.records f.mem path) (sym is.is) ∙ put_there.assigned in
        let dropped : us ≡ c ∷ [] = put_there.same ∙ ap (λ o. filled (o ∷ [])) is.was in
        let same : refs_in (map value_of (referring cl.old)) ≡ refs_in us = referring_refs cl.old ∙ ap refs_in (sym put_there.same) in
        let asks_drops : next_step (class_names r) (view w i p.core) f ≡ asks left (Drops us) (next_instr put_there.memory f) =
        next
        ∙ ap (λ o. evaluated f (changed Clears vs o left) go) read_there.read
        ∙ asks_after left (CompositeValue ListWhole NoValues, c ∷ []) put_there.values put_there.memory placed
        ∙ ap (λ l. asks left (Drops l) (next_instr put_there.memory f)) (sym dropped) in record {
          after = proc (work.dropping_values us (pushed (Run i) turned_to.core)) (put p.actors i (next_instr put_there.memory f));
          steps = asked r ls m p i e f w (asks left (Drops us) (next_instr put_there.memory f)) st.stood.shown.goes st.acting asks_drops;
          carries = carries_over r ls m1 turned_to i e f x s st1 put_there.memory us (referring cl.old) cl.between pace n put_there.stood same cl.after;
        }

    -- a change with what is given to it known
    by_change : (how : Change) (v : Value) (pace : Pace) (n : Process) → AllThere p (value_refs v)
        → next_step (class_names r) (view w i p.core) f ≡ evaluated f (changed how (value_of v ∷ []) here left) go
        → IsChange code s aim how (Some v) m1 pace n → StepsAs r ls x w p i e pace n
    by_change Grows v pace n there next is = grows v pace n there next is
    by_change Clears v pace n there next is = clears (value_of v ∷ []) pace n next is

    by_change_alone : (how : Change) (pace : Pace) (n : Process) → next_step (class_names r) (view w i p.core) f ≡ evaluated f (changed how [] here left) go
        → IsChange code s aim how None m1 pace n → StepsAs r ls x w p i e pace n
    by_change_alone Grows pace n next is = absurd is
    by_change_alone Clears pace n next is = clears [] pace n next is

module _ (r : RawTree) (ls : List Line) (m : Process) (p : Proc Frame) (i : ℕ) (e : Entry) (f : Frame) (x : Scan) (s : ControlPoint) (w : Supply) (code : Code) (y z : Ident) (ys : List Ident)
    (aim : Aim) (called : Method) (how : Change) (pace : Pace) (n : Process)
    (st : MayBeStale r ls x s m p i e f) (aims : AimsAt r.records code f (y ∷ before_last z ys) aim) (is_called : named method_names (last_of z ys).name ≡ Some called)
    (by_how : change_by (Some called) ≡ Some how) where
  abbrev base : List Ident
  base = y ∷ before_last z ys

  abbrev onward : Storing → ℕ → StepOf Frame
  onward = go r ls m p i e f x s w code base aim st aims

  abbrev stands : Option ValueTree
  stands = here r ls m p i e f x s w code base aim st aims

  reads : read_in r.records (look f.mem y.name) (before_last z ys) ≡ stands
  reads =
      let same = aims.names in
      let first : y ≡ aims.name = cc (same) in
      let others : before_last z ys ≡ aims.fields = cc (same) in
      ap (λ (n : Ident). read_in r.records (look f.mem n.name) (before_last z ys)) first
      ∙ ap (read_in r.records (look f.mem aims.name.name)) others
      ∙ ap (λ o. read_in r.records (bind o (read f.mem)) aims.fields) aims.named

  -- the step by a change, with any arguments
  next_by : (es : ExprTrees) → fetch f.code f.block f.instr ≡ Body (ActInstr (y ∷ z ∷ ys) es)
      → next_step (class_names r) (view w i p.core) f
      ≡ evaluated f (values (class_names r) (view w i p.core) (look f.mem) es) (λ vs left. evaluated f (changed how vs stands left) onward)
  next_by es there =
      ap (fetched (class_names r) (view w i p.core) f) there
      ∙ ap (λ o. call_by (class_names r) (view w i p.core) (look f.mem) o f (next_instr f.mem f) (put_path (class_names r) (view w i p.core) f) (y ∷ z ∷ ys) es) (ap change_by is_called ∙ by_how)
      ∙ evaluated_then f (values (class_names r) (view w i p.core) (look f.mem) es) (λ vs left. changed how vs (read_in r.records (look f.mem y.name) (before_last z ys)) left) onward
      ∙ ap (λ o. evaluated f (values (class_names r) (view w i p.core) (look f.mem) es) (λ vs left. evaluated f (changed how vs o left) onward)) reads

  pub change_alone : fetch f.code f.block f.instr ≡ Body (ActInstr (y ∷ z ∷ ys) NoExprs) → IsChange code s aim how None m pace n → StepsAs r ls x w p i e pace n
  change_alone there is =
      by_change_alone r ls m p i e f x s w code base aim st aims p.core.left how pace n (next_by NoExprs there)
      (subst (λ l. IsChange code s aim how None (with_left l m) pace n) (sym st.stood.shown.left) is)

  pub change_with : (t : ExprTree) (comes_to : Res ValueTree) → fetch f.code f.block f.instr ≡ Body (ActInstr (y ∷ z ∷ ys) (MoreExprs t NoExprs))
      → ((v : ValueTree) (left : ℕ) → comes_to ≡ Done v left → AllThere p (refs_of v)) → comes_to ≡ value (class_names r) (view w i p.core) (look f.mem) t
      → Evaluates s value_of comes_to m (λ v. IsChange code s aim how (Some v)) pace n → StepsAs r ls x w p i e pace n
  change_with t comes_to there refer same evaluates =
      by_case (evaluation_follows r ls m p i e f x s w value_of comes_to (λ v left. evaluated f (changed how (v ∷ []) stands left) onward) (λ v. IsChange code s aim how (Some v)) pace n st next_is
      evaluates)
    where
      next_is : next_step (class_names r) (view w i p.core) f ≡ evaluated f comes_to (λ v left. evaluated f (changed how (v ∷ []) stands left) onward)
      next_is =
          next_by (MoreExprs t NoExprs) there
          ∙ evaluated_then f (value (class_names r) (view w i p.core) (look f.mem) t) (λ v left. Done (v ∷ []) left) (λ vs left. evaluated f (changed how vs stands left) onward)
          ∙ ap (λ k. evaluated f k (λ v left. evaluated f (changed how (v ∷ []) stands left) onward)) (sym same)

      by_case : GivesValue value_of comes_to m (λ v. IsChange code s aim how (Some v)) pace n ⊎ StepsAs r ls x w p i e pace n → StepsAs r ls x w p i e pace n
      by_case (inl v) =
          by_change r ls m p i e f x s w code base aim st aims v.left how v.value pace n (refer (value_of v.value) v.left v.done)
          (next_is ∙ ap (λ k. evaluated f k (λ v left. evaluated f (changed how (v ∷ []) stands left) onward)) v.done) v.goes
      by_case (inr a) = a
