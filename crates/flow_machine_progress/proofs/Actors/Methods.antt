-- A method of a reference has a meaning, and finds its cell.
use Rattle.std.proofs.Common.{◌≡◌, inl, inr, ℕ, List, [], ◌∷◌, map, refl, sym, ap, ◌∙◌, subst}
use Rattle.std.specs.Option.{option_map}
use Rattle.std.specs.declared.option.Option.{Option}
use Rattle.std.specs.declared.option.Option.TheVariants.{None, Some}
use Rattle.flow_base.specs.declared.ids.ActorId.{ActorId}
use Rattle.flow_base.specs.declared.ids.CellId.{CellId}
use Rattle.flow_ast.specs.declared.predefined.Method.{Method}
use Rattle.flow_ast.specs.declared.predefined.Method.TheVariants as method
use Rattle.flow_ast.specs.Typing.{type_in, types_in, more_types}
use Rattle.flow_ast.specs.TypingNames.{named, method_names}
use Rattle.flow_ast.specs.Fits.{scope_over}
use Rattle.flow_tree.specs.declared.ty.Ident.{Ident}
use Rattle.flow_tree.specs.Tree.{TypeTree, FutureType, PromiseType, PromiseStreamType, VectorType, ExprTree, ExprTrees, NoExprs, MoreExprs}
use Rattle.flow_value.specs.declared.value.Kind.{Kind}
use Rattle.flow_value.specs.declared.value.Kind.TheVariants as kind
use Rattle.flow_value.specs.declared.value.Value.{Value}
use Rattle.flow_value.specs.Values.{ValueTree, IntValue, BoolValue, TextValue, VoidValue, ErrorValue, CompositeValue, RecordWhole, ListWhole, RefValue, refs_of}
use Rattle.flow_value.specs.View.{value_of, outcome_of}
use Rattle.flow_eval.specs.Answers.{arg}
use Rattle.flow_eval.specs.Eval.{Res, Done}
use Rattle.flow_eval.specs.Functions.{read_in}
use Rattle.flow_code.specs.declared.expr.expr.Resolved.{Resolved}
use Rattle.flow_code.specs.Resolved.View.{node_of, nodes_of, places_in}
use Rattle.flow_code.specs.Resolved.Resolving.{resolved, resolved_all}
use Rattle.flow_class.specs.Classes.{InstrTree, ActInstr, RawTree}
use Rattle.flow_class.specs.Code.{Body, fetch}
use Rattle.flow_code.specs.declared.class.Aim.{Aim}
use Rattle.flow_code.specs.declared.program.Code.{Code}
use Rattle.flow_code.specs.Classes.{MethodCode}
use Rattle.flow_code.specs.View.{aim_of}
use Rattle.flow_code.specs.Coding.{aimed, coded_instruction}
use Rattle.flow_trace.specs.declared.line.Line.{Line}
use Rattle.flow_meaning.specs.Requests as asks
use Rattle.flow_meaning.specs.Requests.{Supply}
use Rattle.flow_meaning.specs.Cells.{Ref}
use Rattle.flow_meaning.specs.Evaluating.{StepOf, Change, Storing, change_by, changed, call_by, evaluated, done, sent, cancelled, method_act, based_act, value, values, before_last, last_of}
use Rattle.flow_meaning.specs.Evaluating as evaluating
use Rattle.flow_meaning.specs.Process.{Entry, Proc}
use Rattle.flow_meaning.specs.References.{Scan}
use Rattle.flow_meaning.specs.Step.{view}
use Rattle.flow_meaning.specs.Class.{class_names, put_path}
use Rattle.flow_meaning.specs.Frame.{Frame, look, next_instr}
use Rattle.flow_heap_refinement.specs.Holds.{There, AllThere}
use Rattle.flow_progress.specs.Places.{class_vars}
use Rattle.flow_progress.specs.Rules.{MessageFits, InstrFits}
use Rattle.flow_progress.specs.Written.{heads}
use Rattle.flow_steps.specs.declared.frames.ControlPoint.{ControlPoint}
use Rattle.flow_steps.specs.declared.process.Process.{Process}
use Rattle.flow_steps.specs.Holding.{outcome_refs, value_refs}
use Rattle.flow_steps.specs.Points.{noted, next_stand, place_held, field_path, values as given_values}
use Rattle.flow_steps.specs.Evaluating.{with_left}
use Rattle.flow_steps.specs.Stepping.{value_for}
use Rattle.flow_steps.specs.Stuck.{SomeMissing}
use Rattle.flow_steps.specs.StuckRequests.{SendsStuck, nothing_sent, cell_missing, refers_stuck, MethodStuck}
use Rattle.flow_steps.specs.StuckSteps.{CallsStuck, no_reference, frame_gone, method_stuck, NoVectorAt, ChangeStuck, MethodStuckBy, MethodDoneStuck, CallsStuckOf, MethodStepStuck}
use Rattle.flow_operation_refinement.specs.Placing.{RepresentsActor}
use Rattle.flow_operation_refinement.specs.Continuing.{MayBeStale}
use Rattle.flow_operation_refinement.proofs.Brought.{all_there_by}
use Rattle.flow_step_refinement.specs.Assigning.{AimsAt}
use Rattle.flow_step_refinement.proofs.Decodes.{aim_there}
use Rattle.flow_step_refinement.specs.Effects.Asking.{resumed}
use Rattle.flow_step_refinement.proofs.Effects.Answering.{evaluated_then}
use Rattle.flow_step_refinement.proofs.Effects.Calls.{next_stood}
use Rattle.flow_step_refinement.proofs.Effects.Decoded.{method_coded, path_seen}
use Rattle.flow_burst_refinement.specs.Requests.Next.{MayCallOn, MayAskNext}
use Rattle.flow_burst_refinement.proofs.Requests.Allowed.{ask_allowed}
use Rattle.flow_burst_refinement.specs.Enabled.Allowing.{Running}
use Rattle.flow_burst_refinement.proofs.Enabled.Steps.{gives_there}
use Rattle.flow_machine_progress.specs.Actors.{AtStep}
use Rattle.flow_machine_progress.proofs.Actors.Here.{Fit, own_rules, refers_there, owner_there, evaluation_there, fits_at, has_meaning, fits_onward}
use Rattle.flow_machine_progress.proofs.Actors.Assigns.{by, coding_now, old, seen, framed, refers, value_is_that}
use Rattle.flow_machine_progress.proofs.Lookups.References.{some_none}
use Rattle.flow_step_refinement.proofs.Effects.Methods.{sent_there}

-- no method has two arguments
no_message : (m : Method) (t a b : TypeTree) (cs : List TypeTree) → MessageFits m t (a ∷ b ∷ cs) → ⊥
no_message method.Send (PromiseType t) a b cs h = cc (h)
no_message method.Send (PromiseStreamType t) a b cs h = cc (h)
no_message method.SendError (PromiseType t) a b cs h = cc (h)
no_message method.SendError (PromiseStreamType t) a b cs h = cc (h)
no_message method.Cancel (FutureType t) a b cs h = cc (h)
no_message method.PushBack (VectorType t) a b cs h = cc (h)
no_message method.Clear (VectorType t) a b cs h = cc (h)
no_message m t a b cs h = h

two_typed : (a b : Option TypeTree) (c : Option (List TypeTree)) (ts : List TypeTree) → more_types a (more_types b c) ≡ Some ts
    → (t : TypeTree) × (u : TypeTree) × (us : List TypeTree) × (ts ≡ t ∷ u ∷ us)
two_typed None b c ts e = absurd (cc (e))
two_typed (Some t) None c ts e = absurd (cc (e))
two_typed (Some t) (Some u) None ts e = absurd (cc (e))
two_typed (Some t) (Some u) (Some us) ts e = let same : t ∷ u ∷ us ≡ ts = cc (e) in (t, u, us, sym same)

two_sent : (m : Method) (v : TypeTree) (ts : List TypeTree) → (t : TypeTree) × (u : TypeTree) × (us : List TypeTree) × (ts ≡ t ∷ u ∷ us) → MessageFits m v ts → ⊥
two_sent m v ts two message = no_message m v two.0 two.1 two.2 (subst (MessageFits m v) two.3 message)

-- nothing grows by nothing
no_growth : (m : Method) (t : TypeTree) → change_by (Some m) ≡ Some evaluating.Grows → MessageFits m t [] → ⊥
no_growth method.PushBack (VectorType t) e h = cc (h)
no_growth method.PushBack t e h = h
no_growth m t e h = cc (e)

module _ (r : RawTree) (code : Code) (w : Supply) (ls : List Line) (x : Scan) (s : ControlPoint) (m : Process) (p : Proc Frame) (i : ℕ) (e : Entry) (f : Frame)
    (now : AtStep r code w ls x s m p i e f) (st : MayBeStale r ls x s m p i e f) where
  abbrev run : Running r p i e f
  run = now.running

  -- the actor at its next instruction, with its frame told
  abbrev next : Frame
  next = next_instr f.mem f

  abbrev later : Process
  later = noted (next_stand s) (with_left m.left m)

  abbrev later_proc : Proc Frame
  later_proc = resumed i next m.left p

  later_stood : RepresentsActor r ls x later later_proc i e next
  later_stood = next_stood r ls m p i e f x s m.left st

  refers_later : (qs : List Ref) → AllThere p qs → SomeMissing qs later.heap → ⊥
  refers_later qs there = refers_there r ls x later later_proc i e next later_stood qs (all_there_by p later_proc qs refl there)

  abbrev onward : asks.Act → ℕ → StepOf Frame
  onward a left = evaluating.asks left a next

  -- a method of a reference, with what is sent
  abbrev given : Option Value → List ValueTree
  given o = map value_of (given_values o)

  sends_there : (called : Method) (kd : Kind) (k : ℕ) (arg_given : Option Value) (left : ℕ) → There p (kd, k) → AllThere p (refs_of (arg (given arg_given) 0))
      → Fit r w p i e f run (evaluated f (done (option_map (asks.Sends k) (sent called (given arg_given))) left) onward) → SendsStuck called kd k arg_given later.heap → ⊥
  sends_there called kd k o left there refer fit (nothing_sent none) =
      (subst (λ z. Fit r w p i e f run (evaluated f (done (option_map (asks.Sends k) z) left) onward)) none fit).0
  sends_there called kd k o left there refer fit (cell_missing gone) = refers_later ((kd, k) ∷ []) (there, tt) (inl gone)
  sends_there called kd k o left there refer fit (refers_stuck out is missing) =
      refers_later (outcome_refs out) (sent_there p called (given o) (outcome_of out) is refer) missing

  only_cancel : (called : Method) (k left : ℕ) → Fit r w p i e f run (evaluated f (done (cancelled called k) left) onward) → (called ≡ method.Cancel → ⊥) → ⊥
  only_cancel method.Cancel k left fit other = other refl
  only_cancel called k left fit other = fit.0

  method_there : (called : Method) (kd : Kind) (k : CellId) (o : Option Value) (left : ℕ) → There p (kd, k.0) → AllThere p (refs_of (arg (given o) 0))
      → Fit r w p i e f run (evaluated f (done (method_act called (RefValue kd k.0) (given o)) left) onward) → MethodStuck called kd k o later.heap → ⊥
  method_there called kind.Promise k o left there refer fit stuck = sends_there called kind.Promise k.0 o left there refer fit stuck
  method_there called kind.PromiseStream k o left there refer fit stuck = sends_there called kind.PromiseStream k.0 o left there refer fit stuck
  method_there called kind.Future k o left there refer fit (inl other) = only_cancel called k.0 left fit other
  method_there called kind.Future k o left there refer fit (inr stuck) = owner_there r ls x later later_proc k.0 later_stood.shown stuck
  method_there called kind.FutureStream k o left there refer fit stuck = fit.0

  module _ (y z : Ident) (ys : List Ident) (es : ExprTrees) (aim : Aim) (called : Method) (there : fetch f.code f.block f.instr ≡ Body (ActInstr (y ∷ z ∷ ys) es))
      (aims : aimed (coding_now r code w ls x s m p i e f now st) (y ∷ before_last z ys) ≡ Some (aim_of aim)) (name : named method_names (last_of z ys).name ≡ Some called) where
    -- what its path leads to
    abbrev path : Option ValueTree
    path = read_in r.records (look f.mem y.name) (before_last z ys)

    may : MayCallOn r code w p i e f y z ys es
    may = subst (MayAskNext r code w p i e f) there (ask_allowed r code w p i e f run now.standing.program)

    same_path : field_path (places_in code.fields) aim.path.items (option_map value_of (place_held s.actor.0 aim.place m.heap)) ≡ path
    same_path =
        ap (λ (a : ActorId). field_path (places_in code.fields) aim.path.items (option_map value_of (place_held a.0 aim.place m.heap))) st.standing.actor
        ∙ by_aim (aim_there r code.classes.items code f (y ∷ before_last z ys) aim (by r code w ls x s m p i e f now st) now.standing.program.coded.are_numbers may.rooted aims)
      where
        by_aim : AimsAt r.records code f (y ∷ before_last z ys) aim → field_path (places_in code.fields) aim.path.items (option_map value_of (place_held i aim.place m.heap)) ≡ path
        by_aim a =
            let first : a.name ≡ y = let b = a.names in cc (b) in
            let others : a.fields ≡ before_last z ys = let b = a.names in cc (b) in
            path_seen r ls m (seen r code w ls x s m p i e f now st) i e (old r code w ls x s m p i e f now st) x code a.name a.fields aim a.place a.field st.stood a.named a.has a.number a.numbers
            a.numbering
            ∙ ap (λ (k : Ident). read_in r.records (look f.mem k.name) a.fields) first ∙ ap (read_in r.records (look f.mem y.name)) others

    abbrev called_on : Option ValueTree → List ValueTree → ℕ → StepOf Frame
    called_on o us left = evaluated f (based_act (class_names r) (view w i p.core) (look f.mem) o (Some called) us left) onward

    -- it leads to a reference
    a_reference : (o : Option ValueTree) → path ≡ o → (us : List ValueTree) (left : ℕ) → Fit r w p i e f run (called_on o us left)
        → ((kd : Kind) (k : ℕ) → field_path (places_in code.fields) aim.path.items (option_map value_of (place_held s.actor.0 aim.place m.heap)) ≡ Some (RefValue kd k) → ⊥) → ⊥
    a_reference None is us left fit none = fit.0
    a_reference (Some (RefValue kd k)) is us left fit none = none kd k (same_path ∙ is)
    a_reference (Some (IntValue n)) is us left fit none = fit.0
    a_reference (Some (BoolValue b)) is us left fit none = fit.0
    a_reference (Some (TextValue t)) is us left fit none = fit.0
    a_reference (Some VoidValue) is us left fit none = fit.0
    a_reference (Some (ErrorValue n)) is us left fit none = fit.0
    a_reference (Some (CompositeValue n vs)) is us left fit none = fit.0

    calls_there : (o : Option Value) (left l : ℕ) → AllThere p (refs_of (arg (given o) 0)) → Fit r w p i e f run (called_on path (given o) left)
        → CallsStuck code s aim called o (with_left l m) → ⊥
    calls_there o left l refer fit (no_reference none) = a_reference path refl (given o) left fit none
    calls_there o left l refer fit (frame_gone none) = framed r code w ls x s m p i e f now st none
    calls_there o left l refer fit (method_stuck kd k is stuck) =
        let here : path ≡ Some (RefValue kd k.0) = sym same_path ∙ is in
        method_there called kd k o left (may.there kd k.0 here) refer (subst (λ q. Fit r w p i e f run (called_on q (given o) left)) here fit) stuck

    -- a change of the vector to which it leads
    abbrev put_behind : Storing → ℕ → StepOf Frame
    put_behind t left = evaluating.given f (put_path (class_names r) (view w i p.core) f (y ∷ before_last z ys) t.0) (λ a. evaluating.asks left (asks.Drops t.1) a)

    abbrev changed_on : Change → Option ValueTree → List ValueTree → ℕ → StepOf Frame
    changed_on how o us left = evaluated f (changed how us o left) put_behind

    a_vector : (how : Change) (o : Option ValueTree) → path ≡ o → (us : List ValueTree) (left : ℕ) → Fit r w p i e f run (changed_on how o us left) → NoVectorAt code s.actor.0 aim m → ⊥
    a_vector how (Some (CompositeValue ListWhole vs)) is us left fit none = none vs (same_path ∙ is)
    a_vector evaluating.Grows None is us left fit none = fit.0
    a_vector evaluating.Grows (Some (RefValue kd k)) is us left fit none = fit.0
    a_vector evaluating.Grows (Some (IntValue n)) is us left fit none = fit.0
    a_vector evaluating.Grows (Some (BoolValue b)) is us left fit none = fit.0
    a_vector evaluating.Grows (Some (TextValue t)) is us left fit none = fit.0
    a_vector evaluating.Grows (Some VoidValue) is us left fit none = fit.0
    a_vector evaluating.Grows (Some (ErrorValue n)) is us left fit none = fit.0
    a_vector evaluating.Grows (Some (CompositeValue (RecordWhole n) vs)) is us left fit none = fit.0
    a_vector evaluating.Clears None is us left fit none = fit.0
    a_vector evaluating.Clears (Some (RefValue kd k)) is us left fit none = fit.0
    a_vector evaluating.Clears (Some (IntValue n)) is us left fit none = fit.0
    a_vector evaluating.Clears (Some (BoolValue b)) is us left fit none = fit.0
    a_vector evaluating.Clears (Some (TextValue t)) is us left fit none = fit.0
    a_vector evaluating.Clears (Some VoidValue) is us left fit none = fit.0
    a_vector evaluating.Clears (Some (ErrorValue n)) is us left fit none = fit.0
    a_vector evaluating.Clears (Some (CompositeValue (RecordWhole n) vs)) is us left fit none = fit.0

    change_there : (how : Change) (o : Option Value) (left l : ℕ) → (how ≡ evaluating.Grows → o ≡ None → ⊥) → AllThere p (refs_of (arg (given o) 0)) → Fit r w p i e f run (changed_on how path (given o) left)
        → ChangeStuck code s aim how o (with_left l m) → ⊥
    change_there evaluating.Grows None left l some refer fit stuck = some refl refl
    change_there evaluating.Grows (Some v) left l some refer fit (inl none) = a_vector evaluating.Grows path refl (given (Some v)) left fit none
    change_there evaluating.Grows (Some v) left l some refer fit (inr (inl none)) = framed r code w ls x s m p i e f now st none
    change_there evaluating.Grows (Some v) left l some refer fit (inr (inr missing)) = refers r code w ls x s m p i e f now st (value_refs v) refer missing
    change_there evaluating.Clears o left l some refer fit (inl none) = a_vector evaluating.Clears path refl (given o) left fit none
    change_there evaluating.Clears o left l some refer fit (inr none) = framed r code w ls x s m p i e f now st none

    -- what the call comes to, by what it changes
    abbrev done_on : Option Change → List ValueTree → ℕ → StepOf Frame
    done_on None us left = called_on path us left
    done_on (Some how) us left = changed_on how path us left

    done_there : (c : Option Change) (o : Option Value) (left l : ℕ) → (c ≡ Some evaluating.Grows → o ≡ None → ⊥) → AllThere p (refs_of (arg (given o) 0)) → Fit r w p i e f run (done_on c (given o) left)
        → MethodStuckBy c code s aim called o (with_left l m) → ⊥
    done_there None o left l some refer fit stuck = calls_there o left l refer fit stuck
    done_there (Some how) o left l some refer fit stuck = change_there how o left l (λ grows. some (ap (λ h. Some h) grows)) refer fit stuck

    -- the step of the class machine, with the arguments known
    call_fits : (c : Option Change)
        → Fit r w p i e f run (call_by (class_names r) (view w i p.core) (look f.mem) c f next (put_path (class_names r) (view w i p.core) f) (y ∷ z ∷ ys) es)
        → Fit r w p i e f run (evaluated f (values (class_names r) (view w i p.core) (look f.mem) es) (done_on c))
    call_fits None fit =
        subst (λ o. Fit r w p i e f run (evaluated f (values (class_names r) (view w i p.core) (look f.mem) es)
        (λ us left. evaluated f (based_act (class_names r) (view w i p.core) (look f.mem) path o us left) onward))) name
        (subst (λ q. Fit r w p i e f run q)
        (evaluated_then f (values (class_names r) (view w i p.core) (look f.mem) es)
        (λ us left. based_act (class_names r) (view w i p.core) (look f.mem) path (named method_names (last_of z ys).name) us left) onward)
        fit)
    call_fits (Some how) fit =
        subst (λ q. Fit r w p i e f run q)
        (evaluated_then f (values (class_names r) (view w i p.core) (look f.mem) es) (λ us left. changed how us path left) put_behind)
        fit

    abbrev change_called : Option Change
    change_called = change_by (Some called)

    fit : Fit r w p i e f run (evaluated f (values (class_names r) (view w i p.core) (look f.mem) es) (done_on change_called))
    fit =
        call_fits change_called
        (subst (λ o. Fit r w p i e f run (call_by (class_names r) (view w i p.core) (look f.mem) (change_by o) f next (put_path (class_names r) (view w i p.core) f) (y ∷ z ∷ ys) es)) name
        (fits_at r w p i e f run (Body (ActInstr (y ∷ z ∷ ys) es)) there))

  -- without an argument, with one; none has two
  plain_there : (y z : Ident) (ys : List Ident) (aim : Aim) (called : Method) → fetch f.code f.block f.instr ≡ Body (ActInstr (y ∷ z ∷ ys) NoExprs)
      → aimed (coding_now r code w ls x s m p i e f now st) (y ∷ before_last z ys) ≡ Some (aim_of aim) → named method_names (last_of z ys).name ≡ Some called
      → MethodDoneStuck code s aim called None m → ⊥
  plain_there y z ys aim called there aims name stuck =
      done_there y z ys NoExprs aim called there aims name (change_by (Some called)) None p.core.left m.left no_element tt (fit y z ys NoExprs aim called there aims name) stuck
    where
      by_rules : change_by (Some called) ≡ Some evaluating.Grows → InstrFits r (heads r) f.code (class_vars f.code) (ActInstr (y ∷ z ∷ ys) NoExprs) → ⊥
      by_rules grows (ts, typed, on) =
          let method_is : on.1 ≡ called = let a = on.3 in cc (a, name) in
          let none : ts ≡ [] = let a = typed.0 in cc (a) in
          no_growth called on.0 grows (subst (λ us. MessageFits called on.0 us) none (subst (λ a. MessageFits a on.0 ts) method_is on.4))

      no_element : change_by (Some called) ≡ Some evaluating.Grows → ◌≡◌ {A = Option Value} None None → ⊥
      no_element grows is = by_rules grows ((own_rules r w p i e f run).instructions f.block f.instr (ActInstr (y ∷ z ∷ ys) NoExprs) there)

  module _ (y z : Ident) (ys : List Ident) (t : ExprTree) (aim : Aim) (called : Method) (a : Resolved) (there : fetch f.code f.block f.instr ≡ Body (ActInstr (y ∷ z ∷ ys) (MoreExprs t NoExprs)))
      (aims : aimed (coding_now r code w ls x s m p i e f now st) (y ∷ before_last z ys) ≡ Some (aim_of aim)) (name : named method_names (last_of z ys).name ≡ Some called)
      (node : node_of a ≡ resolved (coding_now r code w ls x s m p i e f now st).names t) where
    abbrev comes_to : Res ValueTree
    comes_to = value (class_names r) (view w i p.core) (look f.mem) t

    is : value_for code s.actor.0 a m ≡ comes_to
    is = value_is_that r code w ls x s m p i e f now st t a node

    abbrev on_path : List ValueTree → ℕ → StepOf Frame
    on_path us left = done_on y z ys (MoreExprs t NoExprs) aim called there aims name (change_by (Some called)) us left

    one : Fit r w p i e f run (evaluated f comes_to (λ v left. on_path (v ∷ []) left))
    one =
        subst (λ q. Fit r w p i e f run q) (evaluated_then f comes_to (λ v left. Done (v ∷ []) left) on_path)
        (fit y z ys (MoreExprs t NoExprs) aim called there aims name)

    calls_on : (v : Value) (left : ℕ) → value_for code s.actor.0 a m ≡ Done (value_of v) left → CallsStuckOf code s aim called v (with_left left m) → ⊥
    calls_on v left done stuck =
        done_there y z ys (MoreExprs t NoExprs) aim called there aims name (change_by (Some called)) (Some v) left left (λ grows none. some_none none)
        (gives_there r w p i e f run t (value_of v) left (sym is ∙ done))
        (fits_onward r w p i e f run comes_to (λ u l. on_path (u ∷ []) l) (value_of v) left one (sym is ∙ done)) stuck

    with_argument : MethodStepStuck code s aim called (a ∷ []) m → ⊥
    with_argument =
        evaluation_there s value_of (value_for code s.actor.0 a m) m (CallsStuckOf code s aim called)
        (λ none. has_meaning r w p i e f run comes_to (λ v left. on_path (v ∷ []) left) one (sym is ∙ none)) (framed r code w ls x s m p i e f now st) calls_on

  too_many : (y z : Ident) (ys : List Ident) (t u : ExprTree) (es : ExprTrees) → fetch f.code f.block f.instr ≡ Body (ActInstr (y ∷ z ∷ ys) (MoreExprs t (MoreExprs u es))) → ⊥
  too_many y z ys t u es there = by_rules ((own_rules r w p i e f run).instructions f.block f.instr (ActInstr (y ∷ z ∷ ys) (MoreExprs t (MoreExprs u es))) there)
    where
      by_rules : InstrFits r (heads r) f.code (class_vars f.code) (ActInstr (y ∷ z ∷ ys) (MoreExprs t (MoreExprs u es))) → ⊥
      by_rules (ts, typed, on) =
          let scope = scope_over r.records r.functions (heads r) (class_vars f.code) in
          two_sent on.1 on.0 ts (two_typed (type_in scope t) (type_in scope u) (types_in scope es) ts typed.0) on.4

  by_args : (y z : Ident) (ys : List Ident) (aim : Aim) (called : Method) (args : List Resolved) (es : ExprTrees) → fetch f.code f.block f.instr ≡ Body (ActInstr (y ∷ z ∷ ys) es)
      → aimed (coding_now r code w ls x s m p i e f now st) (y ∷ before_last z ys) ≡ Some (aim_of aim) → named method_names (last_of z ys).name ≡ Some called
      → nodes_of args ≡ resolved_all (coding_now r code w ls x s m p i e f now st).names es → MethodStepStuck code s aim called args m → ⊥
  by_args y z ys aim called [] NoExprs there aims name is stuck = plain_there y z ys aim called there aims name stuck
  by_args y z ys aim called (a ∷ []) (MoreExprs t NoExprs) there aims name is stuck =
      let node : node_of a ≡ resolved (coding_now r code w ls x s m p i e f now st).names t = cc (is) in with_argument y z ys t aim called a there aims name node stuck
  by_args y z ys aim called [] (MoreExprs t es) there aims name is stuck = cc (is)
  by_args y z ys aim called (a ∷ []) NoExprs there aims name is stuck = cc (is)
  by_args y z ys aim called (a ∷ []) (MoreExprs t (MoreExprs u es)) there aims name is stuck = cc (is)
  by_args y z ys aim called (a ∷ b ∷ cs) NoExprs there aims name is stuck = cc (is)
  by_args y z ys aim called (a ∷ b ∷ cs) (MoreExprs t NoExprs) there aims name is stuck = cc (is)
  by_args y z ys aim called (a ∷ b ∷ cs) (MoreExprs t (MoreExprs u es)) there aims name is stuck = too_many y z ys t u es there

  pub method_meant : (aim : Aim) (called : Method) (args : List Resolved) (text : InstrTree) → fetch f.code f.block f.instr ≡ Body text
      → MethodCode (aim_of aim) called (nodes_of args) ≡ coded_instruction (coding_now r code w ls x s m p i e f now st) f.code text → MethodStepStuck code s aim called args m → ⊥
  method_meant aim called args text there coded =
      let of = method_coded (coding_now r code w ls x s m p i e f now st) f.code text (aim_of aim) called (nodes_of args) coded in
      by_args of.root of.second of.others aim called args of.exprs (there ∙ ap Body of.is) of.aims of.named of.resolved
