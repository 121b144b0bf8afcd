-- A method of a reference, called by an actor in memory, is a step of the class machine.
use Rattle.std.proofs.Common.{◌≡◌, ◌⊎◌, inl, inr, ℕ, suc, nat_eq, nat_lt, Bool, true, false, List, [], ◌∷◌, ◌++◌, map, if◌then◌else◌, refl, sym, ap, ◌∙◌, subst, arith}
use Rattle.std.specs.Option.{option_map}
use Rattle.std.specs.declared.option.Option.{Option}
use Rattle.std.specs.declared.option.Option.TheVariants.{None, Some}
use Rattle.flow_base.specs.declared.ids.ActorId.{ActorId}
use Rattle.flow_base.specs.declared.ids.CellId.{CellId}
use Rattle.flow_ast.specs.declared.predefined.Method.{Method}
use Rattle.flow_ast.specs.declared.predefined.Method.TheVariants as method
use Rattle.flow_ast.specs.TypingNames.{named, method_names}
use Rattle.flow_tree.specs.declared.ty.Ident.{Ident}
use Rattle.flow_tree.specs.Tree.{ExprTrees, NoExprs, MoreExprs}
use Rattle.flow_value.specs.declared.value.Kind.{Kind}
use Rattle.flow_value.specs.declared.value.Kind.TheVariants as kind
use Rattle.flow_value.specs.declared.value.Outcome.{Outcome}
use Rattle.flow_value.specs.declared.value.Value.{Value}
use Rattle.flow_value.specs.Values.{ValueTree, RefValue, OutcomeTree, GoodOutcome, BadOutcome, refs_of}
use Rattle.flow_value.specs.View.{value_of, outcome_of}
use Rattle.flow_eval.specs.Answers.{arg, error_of}
use Rattle.flow_eval.specs.Eval.{Done}
use Rattle.flow_class.specs.Classes.{ActInstr, RawTree}
use Rattle.flow_class.specs.Code.{Body, fetch}
use Rattle.flow_code.specs.declared.class.Aim.{Aim}
use Rattle.flow_code.specs.declared.program.Code.{Code}
use Rattle.flow_trace.specs.declared.line.Line.{Line}
use Rattle.flow_numbered.specs.Numbered as stored
use Rattle.flow_frame.specs.Frames.{FrameTree}
use Rattle.flow_code.specs.Resolved.View.{places_in}
use Rattle.flow_cancel.specs.Heap.{HeapTree, actor_id}
use Rattle.flow_base.specs.ErrorNumbers.{already_set}
use Rattle.flow_cancel.specs.Heap as heap
use Rattle.flow_cancel.specs.Dropping as dropping
use Rattle.flow_cancel.specs.declared.task.Dropped.{Dropped}
use Rattle.flow_cancel.specs.declared.task.Dropped.TheVariants as after
use Rattle.flow_cancel.specs.declared.task.Task.TheVariants as task
use Rattle.flow_numbered.specs.Numbered.{thing}
use Rattle.flow_meaning.specs.Cells.{Side, PromiseSide, Ref}
use Rattle.flow_meaning.specs.Requests as asks
use Rattle.flow_meaning.specs.Requests.{Supply}
use Rattle.flow_meaning.specs.Evaluating.{StepOf, evaluated, done, sent, cancelled, method_act, based_act, change_by, call_by, value, values, asks as asking_for, last_of}
use Rattle.flow_meaning.specs.Process.{Run, Entry, Proc}
use Rattle.flow_meaning.specs.References.{Scan, refs_in, value_in}
use Rattle.flow_meaning.specs.Work.{pushed, owner, cancel_owner}
use Rattle.flow_meaning.specs.React.{send_in}
use Rattle.flow_meaning.specs.Step.{view, on_core}
use Rattle.flow_meaning.specs.Class.{fetched, next_step, class_names, put_path}
use Rattle.flow_meaning.specs.Frame.{Frame, look}
use Rattle.flow_heap_refinement.specs.Counted.{references}
use Rattle.flow_heap_refinement.specs.Rested.{Sorted}
use Rattle.flow_heap_refinement.specs.Holds.{There, AllThere}
use Rattle.flow_heap_refinement.proofs.Referring.{of_pushed, of_frame}
use Rattle.flow_steps.specs.declared.frames.ControlPoint.{ControlPoint}
use Rattle.flow_steps.specs.declared.next.Pace.{Pace}
use Rattle.flow_steps.specs.declared.next.Pace.TheVariants.{Off}
use Rattle.flow_steps.specs.declared.process.Process.{Process}
use Rattle.flow_steps.specs.Doing.{turned, doing}
use Rattle.flow_steps.specs.Holding.{on_heap, outcome_refs, cancelled_if, owner_cancelled}
use Rattle.flow_steps.specs.Delivering.{gone_to, complete_at, sent_into, sending}
use Rattle.flow_steps.specs.Points.{reframed, noted, next_stand, place_held, field_path, values as given_values}
use Rattle.flow_steps.specs.Evaluating.{with_left}
use Rattle.flow_steps.specs.Acting.{Sends, MethodCalled}
use Rattle.flow_steps.specs.Stepping.{IsCall}
use Rattle.flow_operation_refinement.specs.Stepped.{OnlyTells}
use Rattle.flow_operation_refinement.specs.Matching.{ProcessRepresents, Matches, shows, with_task, Sound}
use Rattle.flow_operation_refinement.specs.Continuing.{MayBeStale}
use Rattle.flow_operation_refinement.specs.Evaluated.{GivesValue}
use Rattle.flow_operation_refinement.proofs.Working.{as_many_shown, task_done}
use Rattle.flow_operation_refinement.proofs.Cancelling.{owner_stopped}
use Rattle.flow_operation_refinement.proofs.Brought.{there_by, all_there_by, sending_follows}
use Rattle.flow_operation_refinement.proofs.Takings.{turned_asked}
use Rattle.flow_step_refinement.specs.Effects.Asking.{resumed, Answered, by_itself}
use Rattle.flow_step_refinement.specs.Effects.Calling as law
use Rattle.flow_step_refinement.specs.Effects.Calling.{AimsAtRef, MayCall}
use Rattle.flow_step_refinement.proofs.Effects.Answering.{nothing_told, evaluated_then, evaluation_at}
use Rattle.flow_step_refinement.proofs.Effects.Calls.{may_ask, next, next_stood, stepped}

-- what is sent refers to what the argument does
there_over : (p : Proc Frame) (qs : List Ref) → AllThere p qs → AllThere p (qs ++ [])
there_over p [] t = tt
there_over p (q ∷ qs) t = (t.0, there_over p qs t.1)

pub sent_there : (p : Proc Frame) (called : Method) (us : List ValueTree) (o : OutcomeTree) → sent called us ≡ Some o → AllThere p (refs_of (arg us 0)) → AllThere p (refs_in (value_in o))
sent_there p method.Send us o e t =
    let same : GoodOutcome (arg us 0) ≡ o = cc (e) in subst (λ z. AllThere p (refs_in (value_in z))) same (there_over p (refs_of (arg us 0)) t)
sent_there p method.SendError us o e t = by_error (error_of (arg us 0)) e
  where
    by_error : (k : Option ℕ) → option_map BadOutcome k ≡ Some o → AllThere p (refs_in (value_in o))
    by_error None g = absurd (cc (g))
    by_error (Some k) g = let same : BadOutcome k ≡ o = cc (g) in subst (λ z. AllThere p (refs_in (value_in z))) same tt
sent_there p called us o e t = absurd (cc (e))

-- numbers rise where a thing is put
rising_put : {A : Type 0} (above most : ℕ) (xs : stored.Numbered A) (n : ℕ) (a : A) → stored.IsRising above xs most → stored.IsRising above (stored.put xs n a) most
rising_put above most [] n a h = h
rising_put above most (y ∷ ys) n a h = by_test (nat_eq n y.0) (rising_put y.0 most ys n a h.1)
  where
    by_test : (b : Bool) → stored.IsRising y.0 (stored.put ys n a) most → stored.IsRising above (if b then (y.0, a) ∷ ys else y ∷ stored.put ys n a) most
    by_test true rest = (h.0, h.1)
    by_test false rest = (h.0, rest)

sorted_put : (h : HeapTree) (i : ℕ) (o : Option (FrameTree Value)) (g : FrameTree Value → FrameTree Value) → Sorted h → Sorted (reframed g i o h)
sorted_put h i None g s = s
sorted_put h i (Some k) g s = record {
  cells = s.cells;
  streams = s.streams;
  actors = s.actors;
  frames = rising_put 0 h.frames.greatest h.frames.things i (g k) s.frames;
  ports = s.ports;
}

-- a send asks nothing, and a cancel only that its line be written
pub sending_asked : (i : ActorId) (kd : Kind) (k : ℕ) (o : Outcome) (m : Process) → (sending i kd k o m).asked ≡ m.asked
sending_asked i kd k o m = by_tests (complete_at kd k m.heap) (nat_lt 0 m.left)
  where
    by_tests : (b c : Bool)
        → (if b then doing (task.Throw i (record { 0 = already_set })) m else if c then on_heap (sent_into i kd k o) (turned m) else turned m).asked ≡ m.asked
    by_tests true c = refl
    by_tests false true = turned_asked m
    by_tests false false = turned_asked m

pub cancelled_told : (d : Dropped) (m : Process) → m.asked ≡ None → OnlyTells (cancelled_if d m).asked
cancelled_told (after.Cancel a) m none = tt
cancelled_told after.Nothing m none = nothing_told m.asked none
cancelled_told after.Freed m none = nothing_told m.asked none
cancelled_told after.Broken m none = nothing_told m.asked none
cancelled_told after.PortFreed m none = nothing_told m.asked none

module _ (r : RawTree) (ls : List Line) (m : Process) (p : Proc Frame) (i : ℕ) (e : Entry) (f : Frame) where
  -- what holds of the process holds where the actor stands further on, with its task on top
  abbrev ran : (left : ℕ) → Proc Frame
  ran left = on_core (pushed (Run i)) (resumed i (next r ls m p i e f) left p)

  as_many : (left : ℕ) (s : Side) (j : ℕ) → thing p.actors i ≡ Some f → references s j (ran left) ≡ references s j p
  as_many left s j at =
      let a = of_frame p s j i f (next r ls m p i e f) at in
      let b = of_pushed (resumed i (next r ls m p i e f) left p) s j (Run i) in omega (arith, a, b)

  sound_then : (left : ℕ) → thing p.actors i ≡ Some f → Sound p → Sound (ran left)
  sound_then left at sound = record {
    owned = record {
      result = λ j k y a b. let c = sound.owned.result j k y a b in (c.0, as_many left PromiseSide k at ∙ c.1);
      request = λ k a. let c = sound.owned.request k a in (c.0, as_many left PromiseSide k at ∙ c.1);
      port = λ q k a. let c = sound.owned.port q k a in (c.0, as_many left PromiseSide k at ∙ c.1);
    };
    numbers = record { ports = sound.numbers.ports; cells = sound.numbers.cells; requests = sound.numbers.requests };
    entries = sound.entries;
    waits = record {
      agree = sound.waits.agree;
      cells = sound.waits.cells;
      kinds = sound.waits.kinds;
      idle = λ j y a b. sound.waits.idle j y a b;
    };
  }

  module _ (x : Scan) (s : ControlPoint) (w : Supply) (st : MayBeStale r ls x s m p i e f) (may : MayCall m p) where
    abbrev onward : asks.Act → ℕ → StepOf Frame
    onward a left = asking_for left a (next r ls m p i e f)

    -- how it goes on with the arguments of a method
    abbrev called_on : Ident → Ident → List Ident → Method → List ValueTree → ℕ → StepOf Frame
    called_on y z ys called vs left =
        evaluated f (based_act (class_names r) (view w i p.core) (look f.mem) (law.based r ls m p i e f y z ys) (Some called) vs left) onward

    -- an outcome is sent
    by_sending : (called : Method) (kd : Kind) (k : CellId) (given : Option Value) (left : ℕ) (n : Process) → There p (kd, k.0) → AllThere p (refs_of (arg (map value_of (given_values given)) 0))
        → Sends (actor_id i) called kd k given (noted (next_stand s) (with_left left m)) n
        → next_step (class_names r) (view w i p.core) f ≡ evaluated f (done (option_map (asks.Sends k.0) (sent called (map value_of (given_values given)))) left) onward
        → Answered r ls x w p i e Off n
    by_sending called kd k given left n there refer t is =
        let q : Proc Frame = resumed i (next r ls m p i e f) left p in
        let o = outcome_of t.outcome in
        let there_now = next_stood r ls m p i e f x s left st in
        let all : AllThere q (outcome_refs t.outcome) = all_there_by p q (outcome_refs t.outcome) refl (sent_there p called (map value_of (given_values given)) o t.sent refer) in
        by_itself (record {
          after = on_core (λ c. send_in (thing c.cells k.0) i k.0 o c) q;
          steps = stepped r ls m p i e f x s w st left (asks.Sends k.0 o) (is ∙ ap (λ z. evaluated f (done (option_map (asks.Sends k.0) z) left) onward) t.sent);
          carries = subst (λ z. Matches r ls x z (on_core (λ c. send_in (thing c.cells k.0) i k.0 o c) q)) (sym t.sends)
              (sending_follows r ls x (noted (next_stand s) (with_left left m)) q (actor_id i) kd k.0 t.outcome there_now.shown all (there_by p q (kd, k.0) refl there));
        }) (nothing_told n.asked (ap (λ (z : Process). z.asked) t.sends ∙ sending_asked (actor_id i) kd k.0 t.outcome (noted (next_stand s) (with_left left m)) ∙ may.asked))

    -- an actor is cancelled
    by_cancelling : (k : CellId) (left : ℕ) (n : Process) → n ≡ owner_cancelled k.0 (doing (task.Run (actor_id i)) (noted (next_stand s) (with_left left m)))
        → next_step (class_names r) (view w i p.core) f ≡ asking_for left (asks.Cancels k.0) (next r ls m p i e f)
        → Answered r ls x w p i e Off n
    by_cancelling k left n out is =
        let q : Proc Frame = resumed i (next r ls m p i e f) left p in
        let n1 : Process = noted (next_stand s) (with_left left m) in
        let there_now = next_stood r ls m p i e f x s left st in
        let run = task_done r ls x n1 q (task.Run (actor_id i)) (Run i) (as_many_shown r ls x (with_task (Run i) x) n1 q (λ z j. omega arith) there_now.shown) refl in
        let sorted : Sorted n1.heap = sorted_put m.heap s.actor.0 (stored.thing m.heap.frames.things s.actor.0) (gone_to s.place (suc s.instruction)) may.sorted in
        let sorted_then : Sorted (doing (task.Run (actor_id i)) n1).heap =
        record { cells = sorted.cells; streams = sorted.streams; actors = sorted.actors; frames = sorted.frames; ports = sorted.ports } in
        by_itself (record {
          after = on_core (λ c. cancel_owner (owner k.0 c.entries) c) (ran left);
          steps = stepped r ls m p i e f x s w st left (asks.Cancels k.0) is;
          carries = shows (subst (λ z. ProcessRepresents r ls x z (on_core (λ c. cancel_owner (owner k.0 c.entries) c) (ran left))) (sym out)
              (owner_stopped r ls x (doing (task.Run (actor_id i)) n1) (ran left) k.0 run may.asked (sound_then left st.acting may.sound) sorted_then));
        }) (subst (λ (z : Process). OnlyTells z.asked) (sym out) (cancelled_told (dropping.cancel_owner n1.heap.actors.things (heap.owner k.0 n1.heap.actors.things))
        (doing (task.Run (actor_id i)) n1) may.asked))

    by_method : (called : Method) (kd : Kind) (k : CellId) (given : Option Value) (left : ℕ) (n : Process) → There p (kd, k.0) → AllThere p (refs_of (arg (map value_of (given_values given)) 0))
        → MethodCalled (actor_id i) called kd k given (noted (next_stand s) (with_left left m)) n
        → next_step (class_names r) (view w i p.core) f ≡ evaluated f (done (method_act called (RefValue kd k.0) (map value_of (given_values given))) left) onward
        → Answered r ls x w p i e Off n
    by_method called kind.Promise k given left n there refer t is = by_sending called kind.Promise k given left n there refer t is
    by_method called kind.PromiseStream k given left n there refer t is = by_sending called kind.PromiseStream k given left n there refer t is
    by_method called kind.Future k given left n there refer t is = by_cancelling k left n t.1 (is ∙ ap (λ z. evaluated f (done (cancelled z k.0) left) onward) t.0)
    by_method called kind.FutureStream k given left n there refer t is = absurd t

    -- at the reference to which its path leads
    by_aim : (code : Code) (called : Method) (aim : Aim) (path : Option ValueTree) (given : Option Value) (left : ℕ) (pace : Pace) (n : Process) → AimsAtRef r code m p i f aim path
        → AllThere p (refs_of (arg (map value_of (given_values given)) 0))
        → IsCall code s aim called given (with_left left m) pace n
        → next_step (class_names r) (view w i p.core) f ≡ evaluated f (based_act (class_names r) (view w i p.core) (look f.mem) path (Some called) (map value_of (given_values given)) left) onward
        → Answered r ls x w p i e pace n
    by_aim code called aim path given left pace n aims refer t is =
        let here : path ≡ Some (RefValue t.kind t.cell.0) = sym aims.same
        ∙ ap (λ (a : ActorId). field_path (places_in code.fields) aim.path.items (option_map value_of (place_held a.0 aim.place m.heap))) (sym st.standing.actor) ∙ t.aims in
        subst (λ z. Answered r ls x w p i e z n) (sym t.off)
        (by_method called t.kind t.cell given left n (aims.there t.kind t.cell.0 here) refer
        (subst (λ (a : ActorId). MethodCalled a called t.kind t.cell given (noted (next_stand s) (with_left left m)) n) st.standing.actor t.calls)
        (is ∙ ap (λ z. evaluated f (based_act (class_names r) (view w i p.core) (look f.mem) z (Some called) (map value_of (given_values given)) left) onward) here))

    -- the step by a call of a method, with any arguments
    next_by : (y z : Ident) (ys : List Ident) (es : ExprTrees) (called : Method) → fetch f.code f.block f.instr ≡ Body (ActInstr (y ∷ z ∷ ys) es) → named method_names (last_of z ys).name ≡ Some called
        → change_by (Some called) ≡ None
        → next_step (class_names r) (view w i p.core) f
        ≡ evaluated f (values (class_names r) (view w i p.core) (look f.mem) es)
        (λ vs left. evaluated f (based_act (class_names r) (view w i p.core) (look f.mem) (law.based r ls m p i e f y z ys) (Some called) vs left) onward)
    next_by y z ys es called there is changes =
        ap (fetched (class_names r) (view w i p.core) f) there
        ∙ ap (λ o. call_by (class_names r) (view w i p.core) (look f.mem) o f (next r ls m p i e f) (put_path (class_names r) (view w i p.core) f) (y ∷ z ∷ ys) es) (ap change_by is ∙ changes)
        ∙ evaluated_then f (values (class_names r) (view w i p.core) (look f.mem) es)
        (λ vs left. based_act (class_names r) (view w i p.core) (look f.mem) (law.based r ls m p i e f y z ys) (named method_names (last_of z ys).name) vs left) onward
        ∙ ap (λ o. evaluated f (values (class_names r) (view w i p.core) (look f.mem) es)
        (λ vs left. evaluated f (based_act (class_names r) (view w i p.core) (look f.mem) (law.based r ls m p i e f y z ys) o vs left) onward)) is

  pub method_step : law.MethodStep r ls m p i e f
  method_step x s w code y z ys aim called pace n st may there is changes aims t =
      by_aim x s w st may code called aim (law.based r ls m p i e f y z ys) None p.core.left pace n aims tt
      (subst (λ l. IsCall code s aim called None (with_left l m) pace n) (sym st.stood.shown.left) t)
      (next_by x s w st may y z ys NoExprs called there is changes)

  pub method_of_step : law.MethodOfStep r ls m p i e f
  method_of_step x s w code y z ys t aim called comes_to pace n st may there is changes aims refer same evaluates =
      by_case (evaluation_at r ls m p i e f x s w value_of comes_to (λ v left. called_on x s w st may y z ys called (v ∷ []) left) (λ v. IsCall code s aim called (Some v)) pace n
      (may_ask r ls m p i e f x s st may.asked) next_is evaluates)
    where
      next_is : next_step (class_names r) (view w i p.core) f ≡ evaluated f comes_to (λ v left. called_on x s w st may y z ys called (v ∷ []) left)
      next_is =
          next_by x s w st may y z ys (MoreExprs t NoExprs) called there is changes
          ∙ evaluated_then f (value (class_names r) (view w i p.core) (look f.mem) t) (λ v left. Done (v ∷ []) left) (called_on x s w st may y z ys called)
          ∙ ap (λ k. evaluated f k (λ v left. called_on x s w st may y z ys called (v ∷ []) left)) (sym same)

      by_case : GivesValue value_of comes_to m (λ v. IsCall code s aim called (Some v)) pace n ⊎ Answered r ls x w p i e pace n → Answered r ls x w p i e pace n
      by_case (inl v) =
          by_aim x s w st may code called aim (law.based r ls m p i e f y z ys) (Some v.value) v.left pace n aims (refer (value_of v.value) v.left v.done) v.goes
          (next_is ∙ ap (λ k. evaluated f k (λ v left. called_on x s w st may y z ys called (v ∷ []) left)) v.done)
      by_case (inr a) = a
