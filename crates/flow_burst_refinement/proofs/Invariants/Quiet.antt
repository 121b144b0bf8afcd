-- What the steps of an actor in memory keep.
use Rattle.std.proofs.Common.{◌≡◌, ℕ, Bool, true, false, List, [], ◌∷◌, if◌then◌else◌, refl, sym, ap, subst, ◌∙◌}
use Rattle.std.specs.Prelude.{nat_lt, ◌-◌}
use Rattle.std.specs.declared.option.Option.{Option}
use Rattle.std.specs.declared.option.Option.TheVariants.{None, Some}
use Rattle.flow_ast.specs.declared.predefined.Method.{Method}
use Rattle.flow_ast.specs.declared.predefined.Predefined.{Predefined}
use Rattle.flow_ast.specs.declared.predefined.Predefined.TheVariants as predefined
use Rattle.flow_base.specs.declared.ids.ActorId.{ActorId}
use Rattle.flow_base.specs.declared.ids.CellId.{CellId}
use Rattle.flow_value.specs.declared.value.Value.{Value}
use Rattle.flow_value.specs.declared.value.Outcome.{Outcome}
use Rattle.flow_value.specs.declared.value.Kind.{Kind}
use Rattle.flow_value.specs.declared.value.Kind.TheVariants as kind
use Rattle.flow_value.specs.Values.{ValueTree, ValueTrees, NoValues, IntValue, BoolValue, TextValue, VoidValue, ErrorValue, CompositeValue, RefValue}
use Rattle.flow_value.specs.View.{value_of}
use Rattle.flow_eval.specs.Eval.{Res}
use Rattle.flow_code.specs.declared.expr.expr.Resolved.{Resolved}
use Rattle.flow_code.specs.declared.class.Act.{Act}
use Rattle.flow_code.specs.declared.class.Act.TheVariants as act
use Rattle.flow_code.specs.declared.class.Aim.{Aim}
use Rattle.flow_code.specs.declared.class.Effect.{Effect}
use Rattle.flow_code.specs.declared.class.Effect.TheVariants as effect
use Rattle.flow_code.specs.declared.class.Group.{Group}
use Rattle.flow_code.specs.declared.class.Instruction.{Instruction}
use Rattle.flow_code.specs.declared.class.Instruction.TheVariants as instruction
use Rattle.flow_code.specs.declared.class.Last.{Last}
use Rattle.flow_code.specs.declared.class.Last.TheVariants as last
use Rattle.flow_code.specs.declared.class.Operand.{Operand}
use Rattle.flow_code.specs.declared.class.Operand.TheVariants as operand
use Rattle.flow_code.specs.declared.program.Code.{Code}
use Rattle.flow_numbered.specs.Numbered.{thing}
use Rattle.flow_cell.specs.Cells.{CellTree}
use Rattle.flow_stream.specs.Streams.{StreamTree}
use Rattle.flow_frame.specs.declared.held.Held.{Held}
use Rattle.flow_trace.specs.declared.line.Line.{Line}
use Rattle.flow_cancel.specs.declared.task.Task.{Task}
use Rattle.flow_cancel.specs.Heap.{HeapTree, pushed}
use Rattle.flow_cancel.specs.Dropping.{refs_in, dropping}
use Rattle.flow_cell.specs.declared.waiter.Waiter.{Waiter}
use Rattle.flow_cancel.specs.Leaving.{waiter_of, withdrawn}
use Rattle.flow_meaning.specs.Requests as asks
use Rattle.flow_meaning.specs.Evaluating.{Change, change_by}
use Rattle.flow_meaning.specs.Evaluating as change
use Rattle.flow_heap_refinement.specs.Changes.{stream_put}
use Rattle.flow_heap_refinement.specs.Holds.{hold, hold_all, filled_in, given}
use Rattle.flow_steps.specs.declared.call.Call.{Call}
use Rattle.flow_steps.specs.declared.call.Call.TheVariants as call
use Rattle.flow_steps.specs.declared.call.Goal.{Goal}
use Rattle.flow_steps.specs.declared.frames.ControlPoint.{ControlPoint}
use Rattle.flow_steps.specs.declared.next.Pace.{Pace}
use Rattle.flow_steps.specs.declared.next.Pace.TheVariants.{On, Off}
use Rattle.flow_steps.specs.declared.process.Process.{Process}
use Rattle.flow_steps.specs.Doing.{turned, doing, asking, telling, stopped}
use Rattle.flow_steps.specs.Holding.{on_heap, with_heap, Gives, cancelled_if, outcome_refs, value_refs}
use Rattle.flow_base.specs.ErrorNumbers.{already_set}
use Rattle.flow_cancel.specs.declared.task.Task.TheVariants as task
use Rattle.flow_steps.specs.Delivering.{made, complete_at, sent_into, sending}
use Rattle.flow_steps.specs.Points.{next_stand, noted, place_put, places_emptied, lost_from}
use Rattle.flow_steps.specs.Waiting.{operand_kept, Registered, stream_awaited, awaited, register, register_all, registered_then, left_for, Takes, copied, popped, TakesBranch, no_turn, takes_branch, KeepsOperand, kept_marked, kept_unready, kept_ready, Waits, waits_ready, waits_refused, waits_suspended}
use Rattle.flow_steps.specs.Evaluating.{with_left, Evaluates, gives, throws, runs_out}
use Rattle.flow_steps.specs.Acting.{Values, args_of, enrolled, with_args, EffectAsked, ActorCalled, not_called, actor_starts, enrolled_alone, VoidCalled, void_not_called, void_starts, EffectMade, EffectDone, PredefinedCalled, IsMessage, MethodCalled}
use Rattle.flow_steps.specs.Stepping.{OnAfter, IsSet, made_in_place, IsNew, IsAct, IsCall, IsChanged, Grows, grown, is_full, Clears, IsChange, IsMethodBy, IsMethod, MethodStep, Does, GoesOnAt, Passes, no_pass, pass_begins, IsTest, ReferenceKept, OperandStep, Chooses, asks_operand, all_kept, ended, IsReturn, ErrorThrown, Ends, StepsOn, by_instruction, by_last, Runs, runs_on, runs_off, GoesOn}
use Rattle.flow_burst_refinement.specs.Invariants.Staying.{ports_after, Stays}
use Rattle.flow_burst_refinement.proofs.Invariants.Rising.{HeapStays, still, and_then, other_tasks, push_stays, cell_put_stays, stream_put_stays, made_stays, started_stays, hold_stays, hold_all_stays, filled_stays, frame_stays, noting_stays, emptied_stays, lost_from_stays, withdrawn_stays, cancelled_stays}

-- the time stays, and the heap; and what is asked, or what is asked is about no port
pub record Calm (m n : Process) : Type 0 where
  pub time : n.time ≡ m.time
  pub heap : HeapStays m.heap n.heap

pub record Quiet (m n : Process) : Type 0 where
  pub calm : Calm m n
  pub asked : n.asked ≡ m.asked

abbrev pub NoPort : Process → Type 0
NoPort n = (ps : List ℕ) → ports_after n.asked ps ≡ ps

pub record Speaks (m n : Process) : Type 0 where
  pub calm : Calm m n
  pub says : NoPort n

pub calm_then : (m k n : Process) → Calm m k → Calm k n → Calm m n
calm_then m k n a b = record { time = b.time ∙ a.time; heap = and_then m.heap k.heap n.heap a.heap b.heap }

pub quiet_still : (m : Process) → Quiet m m
quiet_still m = record { calm = record { time = refl; heap = still m.heap }; asked = refl }

pub quiet_then : (m k n : Process) → Quiet m k → Quiet k n → Quiet m n
quiet_then m k n a b = record { calm = calm_then m k n a.calm b.calm; asked = b.asked ∙ a.asked }

pub then_speaks : (m k n : Process) → Calm m k → Speaks k n → Speaks m n
then_speaks m k n a b = record { calm = calm_then m k n a b.calm; says = b.says }

pub quiet_speaks : (m n : Process) → m.asked ≡ None → Quiet m n → Speaks m n
quiet_speaks m n none a = record { calm = a.calm; says = λ ps. ap (λ o. ports_after o ps) (a.asked ∙ none) }

pub tells : (m k : Process) (l : Line) → Calm m k → Speaks m (telling l k)
tells m k l a = record { calm = record { time = a.time; heap = a.heap }; says = λ ps. refl }

pub speaks_stay : (m n : Process) → Speaks m n → Stays m n
speaks_stay m n s = record { time = s.calm.time; rise = s.calm.heap.rise; ports = s.calm.heap.ports ∙ sym (s.says m.heap.ports) }

pub after_calm : (m k n : Process) → Calm m k → Stays k n → Stays m n
after_calm m k n a b = record { time = b.time ∙ a.time; rise = λ s. b.rise (a.heap.rise s); ports = b.ports ∙ ap (ports_after n.asked) a.heap.ports }

-- by an equation
pub quiet_is : (m n k : Process) → n ≡ k → Quiet m k → Quiet m n
quiet_is m n k e q = subst (Quiet m) (sym e) q

pub speaks_is : (m n k : Process) → n ≡ k → Speaks m k → Speaks m n
speaks_is m n k e q = subst (Speaks m) (sym e) q

pub on_heap_quiet : (f : HeapTree → HeapTree) (m : Process) → HeapStays m.heap (f m.heap) → Quiet m (on_heap f m)
on_heap_quiet f m h = record { calm = record { time = refl; heap = h }; asked = refl }

pub turned_quiet : (m : Process) → Quiet m (turned m)
turned_quiet m = by_turn (nat_lt 0 m.left)
  where
    by_turn : (b : Bool) → Quiet m (if b then record m { left = m.left - 1 } else record m { spent = true })
    by_turn true = record { calm = record { time = refl; heap = still m.heap }; asked = refl }
    by_turn false = record { calm = record { time = refl; heap = still m.heap }; asked = refl }

pub doing_quiet : (t : Task) (m : Process) → Quiet m (doing t m)
doing_quiet t m = record { calm = record { time = refl; heap = push_stays t m.heap }; asked = refl }

pub noted_quiet : (s : ControlPoint) (m : Process) → Quiet m (noted s m)
noted_quiet s m = record { calm = record { time = refl; heap = noting_stays s.noted s.actor.0 s.place s.instruction m.heap }; asked = refl }

left_quiet : (n : ℕ) (m : Process) → Quiet m (with_left n m)
left_quiet n m = record { calm = record { time = refl; heap = still m.heap }; asked = refl }

-- a task comes where the frame is told
noted_doing : (s : ControlPoint) (t : Task) (m : Process) → Quiet m (doing t (noted s m))
noted_doing s t m = quiet_then m (noted s m) (doing t (noted s m)) (noted_quiet s m) (doing_quiet t (noted s m))

-- after a step
abbrev pub After : Pace → Process → Process → Type 0
After (On t) m n = Quiet m n
After Off m n = Speaks m n

pub after_then : (pace : Pace) (m k n : Process) → Quiet m k → After pace k n → After pace m n
after_then (On t) m k n a b = quiet_then m k n a b
after_then Off m k n a b = then_speaks m k n a.calm b

off_is : (pace : Pace) (m n : Process) → pace ≡ Off → Speaks m n → After pace m n
off_is pace m n e s = subst (λ x. After x m n) (sym e) s

on_is : (pace : Pace) (t : ControlPoint) (m n : Process) → pace ≡ On t → Quiet m n → After pace m n
on_is pace t m n e s = subst (λ x. After x m n) (sym e) s

-- values are left over
pub left_over : (s : ControlPoint) (vs : List Value) (m n : Process) (pace : Pace) → m.asked ≡ None → OnAfter s vs m pace n → After pace m n
left_over s [] m n pace none h = on_is pace s m n h.0 (quiet_is m n m h.1 (quiet_still m))
left_over s (v ∷ vs) m n pace none h =
    let k = doing _ (noted s m) in
    off_is pace m n h.0 (quiet_speaks m n none (quiet_is m n (on_heap (dropping (v ∷ vs)) k) h.1
    (quiet_then m k (on_heap (dropping (v ∷ vs)) k) (noted_doing s _ m) (on_heap_quiet (dropping (v ∷ vs)) k (other_tasks k.heap _)))))

-- evaluation
pub evaluates : {A B : Type 0} (s : ControlPoint) (seen : B → A) (comes_to : Res A) (m n : Process) (goes : B → Process → Pace → Process → Type 0) (pace : Pace) → m.asked ≡ None
    → ((v : B) (k n : Process) (pace : Pace) → k.asked ≡ None → goes v k pace n → After pace k n) → Evaluates s seen comes_to m goes pace n → After pace m n
evaluates s seen comes_to m n goes pace none further (gives b left _ _ done h) =
    after_then pace m (with_left left m) n (left_quiet left m) (further b (with_left left m) n pace none h)
evaluates s seen comes_to m n goes pace none further (throws e left _ fails h) =
    let k = with_left left m in quiet_speaks m n none (quiet_is m n _ h (quiet_then m k _ (left_quiet left m) (noted_doing s _ k)))
evaluates s seen comes_to m n goes pace none further (runs_out _ spent h) =
    let k = with_left 0 m in
    quiet_speaks m n none (quiet_is m n _ h (quiet_then m k _ (left_quiet 0 m)
    (quiet_then k (noted s k) _ (noted_quiet s k) (record { calm = record { time = refl; heap = still (noted s k).heap }; asked = refl }))))

-- a result is given
pub gives_quiet : (g : Goal) (i : ActorId) (v : Value) (m n : Process) → Gives g i v m n → Quiet m n
gives_quiet g i v m n h =
    quiet_is m n _ h.given_by
    (on_heap_quiet (given i.0 h.task (value_refs v)) m
    (let one = hold_all (value_refs v) m.heap in
    let two = pushed _ one in
    and_then m.heap one (pushed h.task two) (hold_all_stays (value_refs v) m.heap) (and_then one two (pushed h.task two) (push_stays _ one) (push_stays h.task two))))

-- effects
effect_asked : (i : ActorId) (g : Goal) (x : Option asks.Effect) (m n : Process) → m.asked ≡ None → EffectAsked i g x m n → Speaks m n
effect_asked i g (Some (asks.Draw lo hi)) m n none h = speaks_is m n _ h (record { calm = record { time = refl; heap = still m.heap }; says = λ ps. refl })
effect_asked i g (Some (asks.Delay ticks)) m n none h = speaks_is m n _ h (record { calm = record { time = refl; heap = still m.heap }; says = λ ps. refl })
effect_asked i g (Some (asks.Listen port)) m n none h = speaks_is m n _ h (record { calm = record { time = refl; heap = still m.heap }; says = λ ps. refl })
effect_asked i g (Some asks.Never) m n none h =
    let k = on_heap (made kind.Future) m in
    quiet_speaks m n none (quiet_then m k n (on_heap_quiet (made kind.Future) m (made_stays kind.Future m.heap)) (gives_quiet g i _ k n h.given))
effect_asked i g (Some (asks.Disk request)) m n none h = speaks_is m n _ h.asks (record { calm = record { time = refl; heap = still m.heap }; says = λ ps. refl })
effect_asked i g (Some (asks.Make k)) m n none h = absurd h
effect_asked i g (Some (asks.Start k vs)) m n none h = absurd h
effect_asked i g None m n none h = absurd h

actor_called : (code : Code) (i : ActorId) (g : Goal) (class : ℕ) (vs : List Value) (m n : Process) → m.asked ≡ None → ActorCalled code i g class vs m n → Speaks m n
actor_called code i g class vs m n none (not_called t e) = quiet_speaks m n none (quiet_is m n (turned m) e (turned_quiet m))
actor_called code i g class vs m n none (actor_starts t h) =
    let a = turned m in
    let f = enrolled class h.enrols.of.places vs h.cell in
    let made_one = made_stays kind.Future a.heap in
    let held = hold_all_stays (refs_in vs) (made kind.Future a.heap) in
    let enrols : Quiet a h.enrolled =
    quiet_is a h.enrolled (on_heap f a) h.enrols.made
    (on_heap_quiet f a (and_then a.heap (with_args vs a.heap) _ (and_then a.heap (made kind.Future a.heap) (with_args vs a.heap) made_one held)
    (started_stays class h.enrols.of.places _ (Some h.cell) (with_args vs a.heap)))) in
    let all = quiet_then m a h.enrolled (turned_quiet m) enrols in
    let given = quiet_then m h.enrolled h.given all (gives_quiet g i _ h.enrolled h.given h.gives) in
    let runs = quiet_then m h.given _ given (doing_quiet _ h.given) in
    speaks_is m n _ h.starts.told (tells m _ _ runs.calm)

void_called : (code : Code) (i : ActorId) (class : ℕ) (vs : List Value) (m n : Process) → m.asked ≡ None → VoidCalled code i class vs m n → Speaks m n
void_called code i class vs m n none (void_not_called t e) = quiet_speaks m n none (quiet_is m n (turned m) e (turned_quiet m))
void_called code i class vs m n none (void_starts t h) =
    let a = turned m in
    let f = enrolled_alone class h.enrols.of.places vs in
    let with_held = hold_all (refs_in vs) a.heap in
    let enrols : Quiet a h.enrolled =
    quiet_is a h.enrolled (on_heap f a) h.enrols.made
    (on_heap_quiet f a (and_then a.heap with_held _ (hold_all_stays (refs_in vs) a.heap) (started_stays class h.enrols.of.places _ None with_held))) in
    let all = quiet_then m a h.enrolled (turned_quiet m) enrols in
    let caller = quiet_then m h.enrolled _ all (doing_quiet (task.Run i) h.enrolled) in
    let runs = quiet_then m (doing (task.Run i) h.enrolled) _ caller (doing_quiet (task.Run h.actor) (doing (task.Run i) h.enrolled)) in
    speaks_is m n _ h.starts.told (tells m _ _ runs.calm)

effect_made : (code : Code) (i : ActorId) (g : Goal) (e : Effect) (args : Values) (m n : Process) → m.asked ≡ None → EffectMade code i g e args m n → Speaks m n
effect_made code i g (effect.World called) args m n none h = effect_asked i g _ m n none h
effect_made code i g (effect.Actor class) args m n none h = actor_called code i g class args.items m n none h

effect_done : (code : Code) (s : ControlPoint) (g : Goal) (e : Effect) (args : Values) (m n : Process) (pace : Pace) → m.asked ≡ None → EffectDone code s g e args m pace n → After pace m n
effect_done code s g e args m n pace none h =
    off_is pace m n h.0 (then_speaks m (noted s m) n (noted_quiet s m).calm (effect_made code s.actor g e args (noted s m) n none h.1))

-- call statements
predefined_called : (i : ActorId) (p : Predefined) (args : Values) (m n : Process) → PredefinedCalled i p args m n → Speaks m n
predefined_called i predefined.Trace args m n h = speaks_is m n _ h.told (tells m (doing _ m) h.line (doing_quiet _ m).calm)
predefined_called i predefined.SendTo args m n h = speaks_is m n _ h.asks (by_call h.message h.is_message)
  where
    by_call : (c : Call) → IsMessage i (args_of args) c → Speaks m (asking c m)
    by_call (call.SendTo j process port text) is = record { calm = record { time = refl; heap = still m.heap }; says = λ ps. refl }
    by_call (call.Line l) is = absurd is
    by_call (call.Draw j g lo hi) is = absurd is
    by_call (call.Delay j g t) is = absurd is
    by_call (call.Listen j g port) is = absurd is
    by_call (call.Disk j g d) is = absurd is
    by_call (call.Unlisten k) is = absurd is
predefined_called i _ args m n h = absurd h

sending_quiet : (i : ActorId) (kd : Kind) (k : ℕ) (o : Outcome) (m : Process) → Quiet m (sending i kd k o m)
sending_quiet i kd k o m = by_test (complete_at kd k m.heap) (nat_lt 0 m.left)
  where
    by_test : (b c : Bool) → Quiet m (if b then doing (task.Throw i (record { 0 = already_set })) m else if c then on_heap (sent_into i kd k o) (turned m) else turned m)
    by_test true c = doing_quiet _ m
    by_test false false = turned_quiet m
    by_test false true =
        let a = turned m in
        let one = hold_all (outcome_refs o) a.heap in
        let two = pushed _ one in
        quiet_then m a (on_heap (sent_into i kd k o) a) (turned_quiet m)
        (on_heap_quiet (sent_into i kd k o) a (and_then a.heap one (filled_in kd k o two) (hold_all_stays (outcome_refs o) a.heap)
        (and_then one two (filled_in kd k o two) (push_stays _ one) (filled_stays kd k o two))))

pub stopped_speaks : (i : ℕ) (m : Process) → Speaks m (stopped i m)
stopped_speaks i m = record { calm = record { time = refl; heap = cancelled_stays i m.heap }; says = λ ps. refl }

owner_speaks : (d : _) (m : Process) → m.asked ≡ None → Speaks m (cancelled_if d m)
owner_speaks (Rattle.flow_cancel.specs.declared.task.Dropped.TheVariants.Cancel a) m none = stopped_speaks a.0 m
owner_speaks _ m none = quiet_speaks m m none (quiet_still m)

method_called : (i : ActorId) (called : Method) (kd : Kind) (k : CellId) (arg : Option Value) (m n : Process) → m.asked ≡ None → MethodCalled i called kd k arg m n → Speaks m n
method_called i called kind.Promise k arg m n none h = quiet_speaks m n none (quiet_is m n _ h.sends (sending_quiet i kind.Promise k.0 h.outcome m))
method_called i called kind.PromiseStream k arg m n none h = quiet_speaks m n none (quiet_is m n _ h.sends (sending_quiet i kind.PromiseStream k.0 h.outcome m))
method_called i called kind.Future k arg m n none h = speaks_is m n _ h.1 (then_speaks m (doing _ m) _ (doing_quiet _ m).calm (owner_speaks _ (doing _ m) none))
method_called i called kind.FutureStream k arg m n none h = absurd h

call_is : (code : Code) (s : ControlPoint) (aim : Aim) (called : Method) (sent : Option Value) (m n : Process) (pace : Pace) → m.asked ≡ None → IsCall code s aim called sent m pace n
    → After pace m n
call_is code s aim called sent m n pace none h =
    off_is pace m n h.off (then_speaks m (noted (next_stand s) m) n (noted_quiet (next_stand s) m).calm (method_called s.actor called h.kind h.cell sent (noted (next_stand s) m) n none h.calls))

-- a vector is changed in its place
changed_quiet : (code : Code) (i : ActorId) (aim : Aim) (es new : ValueTrees) (m n : Process) (old : Option Value) → IsChanged code i aim es new m old n → Quiet m n
changed_quiet code i aim es new m n old h =
    quiet_is m n _ h.assigns.put (on_heap_quiet (place_put i.0 aim.place h.assigns.root) m (frame_stays _ i.0 m.heap))

grows_is : (code : Code) (s : ControlPoint) (aim : Aim) (v : Value) (m n : Process) (pace : Pace) → m.asked ≡ None → Grows code s aim v m pace n → After pace m n
grows_is code s aim v m n pace none (grown es old _ room h) =
    let a = on_heap (hold_all (value_refs v)) m in
    quiet_then m a n (on_heap_quiet (hold_all (value_refs v)) m (hold_all_stays (value_refs v) m.heap)) (changed_quiet code s.actor aim es _ a n old h)
grows_is code s aim v m n pace none (is_full es _ at full e) = quiet_speaks m n none (quiet_is m n _ e (noted_doing s _ m))

clears_is : (code : Code) (s : ControlPoint) (aim : Aim) (m n : Process) (pace : Pace) → m.asked ≡ None → Clears code s aim m pace n → After pace m n
clears_is code s aim m n pace none h =
    let changed = changed_quiet code s.actor aim h.elements NoValues m h.between h.old h.changed in
    after_then pace m h.between n changed (left_over _ _ h.between n pace (changed.asked ∙ none) h.after)

change_is : (code : Code) (s : ControlPoint) (aim : Aim) (how : Change) (sent : Option Value) (m n : Process) (pace : Pace) → m.asked ≡ None → IsChange code s aim how sent m pace n
    → After pace m n
change_is code s aim change.Grows (Some v) m n pace none h = grows_is code s aim v m n pace none h
change_is code s aim change.Grows None m n pace none h = absurd h
change_is code s aim change.Clears sent m n pace none h = clears_is code s aim m n pace none h

method_is : (code : Code) (s : ControlPoint) (aim : Aim) (called : Method) (sent : Option Value) (m n : Process) (pace : Pace) → m.asked ≡ None → IsMethod code s aim called sent m pace n
    → After pace m n
method_is code s aim called sent m n pace none = by_change (change_by (Some called))
  where
    by_change : (o : Option Change) → IsMethodBy o code s aim called sent m pace n → After pace m n
    by_change None h = call_is code s aim called sent m n pace none h
    by_change (Some how) h = change_is code s aim how sent m n pace none h

method_step : (code : Code) (s : ControlPoint) (aim : Aim) (called : Method) (es : List Resolved) (m n : Process) (pace : Pace) → m.asked ≡ None → MethodStep code s aim called es m pace n
    → After pace m n
method_step code s aim called [] m n pace none h = method_is code s aim called None m n pace none h
method_step code s aim called (e ∷ []) m n pace none h =
    evaluates s value_of _ m n _ pace none (λ v k n pace none h. method_is code s aim called (Some v) k n pace none h) h
method_step code s aim called (e ∷ f ∷ es) m n pace none h = absurd h

act_is : (code : Code) (s : ControlPoint) (a : Act) (args : Values) (m n : Process) (pace : Pace) → m.asked ≡ None → IsAct code s a args m pace n → After pace m n
act_is code s (act.World called) args m n pace none h =
    off_is pace m n h.0 (then_speaks m (noted (next_stand s) m) n (noted_quiet (next_stand s) m).calm (predefined_called s.actor called args (noted (next_stand s) m) n h.1))
act_is code s (act.Function f) args m n pace none h =
    evaluates s value_of _ m n _ pace none (λ v k n pace none h. on_is pace _ k n h.0 (quiet_is k n k h.1 (quiet_still k))) h
act_is code s (act.Actor class) args m n pace none h =
    off_is pace m n h.0
    (then_speaks m (noted (next_stand s) m) n (noted_quiet (next_stand s) m).calm (void_called code s.actor class args.items (noted (next_stand s) m) n none h.1))

set_is : (code : Code) (s : ControlPoint) (aim : Aim) (v : Value) (m n : Process) (pace : Pace) → m.asked ≡ None → IsSet code s aim v m pace n → After pace m n
set_is code s aim v m n pace none h =
    let a = on_heap (hold_all (value_refs v)) m in
    let put = quiet_is a h.between _ h.assigns.put (on_heap_quiet (place_put s.actor.0 aim.place h.assigns.root) a (frame_stays _ s.actor.0 a.heap)) in
    let both = quiet_then m a h.between (on_heap_quiet (hold_all (value_refs v)) m (hold_all_stays (value_refs v) m.heap)) put in
    after_then pace m h.between n both (left_over _ _ h.between n pace (both.asked ∙ none) h.after)

new_is : (s : ControlPoint) (place : ℕ) (kd : Kind) (m n : Process) (pace : Pace) → m.asked ≡ None → IsNew s place kd m pace n → After pace m n
new_is s place kd m n pace none h =
    let f = made_in_place s.actor.0 place kd h.cell in
    let one = made kd m.heap in
    let two = hold kd h.cell.0 one in
    after_then pace m (on_heap f m) n (on_heap_quiet f m (and_then m.heap one (f m.heap) (made_stays kd m.heap)
    (and_then one two (f m.heap) (hold_stays kd h.cell.0 one) (frame_stays _ s.actor.0 two)))) (left_over _ _ (on_heap f m) n pace none h.after)

does : (code : Code) (s : ControlPoint) (x : Instruction) (m n : Process) (pace : Pace) → m.asked ≡ None → Does code s x m pace n → After pace m n
does code s (instruction.Set aim e) m n pace none h = evaluates s value_of _ m n _ pace none (λ v k n pace none h. set_is code s aim v k n pace none h) h
does code s (instruction.Effect aim e args) m n pace none h = evaluates s args_of _ m n _ pace none (λ v k n pace none h. effect_done code s _ e v k n pace none h) h
does code s (instruction.New place kd) m n pace none h = new_is s place kd m n pace none h
does code s (instruction.Act a args) m n pace none h = evaluates s args_of _ m n _ pace none (λ v k n pace none h. act_is code s a v k n pace none h) h
does code s (instruction.Method aim called args) m n pace none h = method_step code s aim called args.items m n pace none h
does code s (instruction.Drop places) m n pace none h =
    let f = places_emptied s.actor.0 places.items in
    after_then pace m (on_heap f m) n (on_heap_quiet f m (emptied_stays s.actor.0 places.items m.heap)) (left_over _ _ (on_heap f m) n pace none h)
does code s instruction.Invalid m n pace none h = absurd h

-- the ends of blocks
goes_at : (s : ControlPoint) (b : ℕ) (m n : Process) (pace : Pace) → GoesOnAt s b m pace n → After pace m n
goes_at s b m n pace h = on_is pace h.0 m n h.2 (quiet_is m n m h.3 (quiet_still m))

passes : (s : ControlPoint) (b : ℕ) (m n : Process) (pace : Pace) → m.asked ≡ None → Passes s b m pace n → After pace m n
passes s b m n pace none (no_pass t _ to left e) =
    let a = turned m in quiet_speaks m n none (quiet_is m n (noted t a) e (quiet_then m a (noted t a) (turned_quiet m) (noted_quiet t a)))
passes s b m n pace none (pass_begins t _ to left e) = quiet_is m n (turned m) e (turned_quiet m)

-- waits
pub left_for_stays : (s : ControlPoint) (t : Task) (h : HeapTree) → HeapStays h (left_for s t h)
left_for_stays s t h =
    let one = pushed t h in
    let two = lost_from s.actor.0 s.class.now.slots one in
    let three = withdrawn s.actor.0 two in
    and_then h one (left_for s t h) (push_stays t h)
    (and_then one two (left_for s t h) (lost_from_stays s.actor.0 s.class.now.slots one) (and_then two three (left_for s t h) (withdrawn_stays s.actor.0 two) (frame_stays _ s.actor.0 three)))

takes_quiet : (k : ℕ) (o : Outcome) (m n : Process) → Takes k o m n → Quiet m n
takes_quiet k o m n (copied at e) = quiet_is m n _ e (on_heap_quiet (hold_all (outcome_refs o)) m (hold_all_stays (outcome_refs o) m.heap))
takes_quiet k o m n (popped s none at head e) = quiet_is m n _ e (on_heap_quiet (stream_put k _) m (stream_put_stays k _ m.heap))

pub branch_speaks : (s : ControlPoint) (b : ℕ) (k : CellId) (m n : Process) → m.asked ≡ None → TakesBranch s b k m n → Speaks m n
branch_speaks s b k m n none (no_turn t e) = quiet_speaks m n none (quiet_is m n (turned m) e (turned_quiet m))
branch_speaks s b k m n none (takes_branch t h) =
    let a = turned m in
    let taken = quiet_then m a h.between (turned_quiet m) (takes_quiet k.0 h.outcome a h.between h.takes) in
    let left = quiet_then m h.between (on_heap (left_for s h.task) h.between) taken (on_heap_quiet (left_for s h.task) h.between (left_for_stays s h.task h.between.heap)) in
    speaks_is m n _ h.leaves (tells m (on_heap (left_for s h.task) h.between) _ left.calm)

pub keeps_after : (s : ControlPoint) (x : Held) (m n : Process) (pace : Pace) → m.asked ≡ None → KeepsOperand s x m pace n → After pace m n
keeps_after s x m n pace none (kept_marked _ marked e) =
    let k = on_heap (operand_kept s.actor.0 x) m in
    quiet_speaks m n none (quiet_is m n _ e (quiet_then m k _ (on_heap_quiet (operand_kept s.actor.0 x) m (frame_stays _ s.actor.0 m.heap))
    (on_heap_quiet (left_for s _) k (left_for_stays s _ k.heap))))
keeps_after s x m n pace none (kept_unready _ marked ready e) = quiet_is m n _ e (on_heap_quiet (operand_kept s.actor.0 x) m (frame_stays _ s.actor.0 m.heap))
keeps_after s x m n pace none (kept_ready _ b marked ready of h) =
    let k = on_heap (operand_kept s.actor.0 x) m in
    then_speaks m k n (on_heap_quiet (operand_kept s.actor.0 x) m (frame_stays _ s.actor.0 m.heap)).calm (branch_speaks s b x.cell k n none h)

register_stays : (i : ℕ) (x : Held) (h : HeapTree) → HeapStays h (register i x h).1
register_stays i x h = by_cell (thing h.cells.things x.cell.0) (thing h.streams.things x.cell.0)
  where
    by_waiter : (s : StreamTree Value) (w : Option Waiter) → HeapStays h (stream_awaited x.cell.0 (waiter_of i x) s w h).1
    by_waiter s None = stream_put_stays x.cell.0 _ h
    by_waiter s (Some old) = still h

    by_cell : (c : Option (CellTree Outcome)) (s : Option (StreamTree Value)) → HeapStays h (awaited x.cell.0 (waiter_of i x) c s h).1
    by_cell (Some c) s = cell_put_stays x.cell.0 _ h
    by_cell None (Some s) = by_waiter s s.waiter
    by_cell None None = still h

register_all_stays : (i : ℕ) (xs : List Held) (h : HeapTree) → HeapStays h (register_all i xs h).1
register_all_stays i [] h = still h
register_all_stays i (x ∷ xs) h = by_first (register i x h) (register_stays i x h) (λ g. register_all_stays i xs g)
  where
    by_first : (r : Registered) → HeapStays h r.1 → ((g : HeapTree) → HeapStays g (register_all i xs g).1) → HeapStays h (registered_then (register_all i xs) r).1
    by_first (true, g) a rest = and_then h g (register_all i xs g).1 a (rest g)
    by_first (false, g) a rest = a

pub waits_speak : (s : ControlPoint) (group : ℕ) (m n : Process) → m.asked ≡ None → Waits s group m n → Speaks m n
waits_speak s group m n none (waits_ready x b first of h) = branch_speaks s b x.cell m n none h
waits_speak s group m n none (waits_refused h first all e) =
    let k = with_heap h m in
    let a : HeapStays m.heap h = subst (HeapStays m.heap) (ap (λ (r : Registered). r.1) all) (register_all_stays s.actor.0 _ m.heap) in
    quiet_speaks m n none (quiet_is m n _ e (quiet_then m k _ (record { calm = record { time = refl; heap = a }; asked = refl }) (on_heap_quiet (left_for s _) k (left_for_stays s _ h))))
waits_speak s group m n none (waits_suspended h first all e) =
    let a : HeapStays m.heap h = subst (HeapStays m.heap) (ap (λ (r : Registered). r.1) all) (register_all_stays s.actor.0 _ m.heap) in
    let two = lost_from s.actor.0 s.class.now.slots h in
    speaks_is m n _ e (record {
      calm = record { time = refl; heap = and_then m.heap h _ a (and_then h two _ (lost_from_stays s.actor.0 s.class.now.slots h) (frame_stays _ s.actor.0 two)) };
      says = λ ps. refl;
    })

reference_kept : (s : ControlPoint) (n : ℕ) (v : ValueTree) (m k : Process) (pace : Pace) → m.asked ≡ None → ReferenceKept s n v m pace k → After pace m k
reference_kept s n (RefValue kd c) m k pace none h =
    let a = on_heap (hold kd c) m in after_then pace m a k (on_heap_quiet (hold kd c) m (hold_stays kd c m.heap)) (keeps_after s _ a k pace none h)
reference_kept s n (IntValue i) m k pace none h = absurd h
reference_kept s n (BoolValue b) m k pace none h = absurd h
reference_kept s n (TextValue t) m k pace none h = absurd h
reference_kept s n VoidValue m k pace none h = absurd h
reference_kept s n (ErrorValue e) m k pace none h = absurd h
reference_kept s n (CompositeValue r vs) m k pace none h = absurd h

operand_step : (code : Code) (s : ControlPoint) (c : ℕ) (o : Operand) (m n : Process) (pace : Pace) → m.asked ≡ None → OperandStep code s c o m pace n → After pace m n
operand_step code s c (operand.Value e) m n pace none h =
    evaluates s value_of _ m n _ pace none (λ v k n pace none h. reference_kept s c (value_of v) k n pace none h) h
operand_step code s c (operand.Effect e args) m n pace none h = evaluates s args_of _ m n _ pace none (λ v k n pace none h. effect_done code s _ e v k n pace none h) h

chooses : (code : Code) (s : ControlPoint) (number : ℕ) (g : Group) (m n : Process) (pace : Pace) → m.asked ≡ None → Chooses code s number g m pace n → After pace m n
chooses code s number g m n pace none (asks_operand b at h) = operand_step code s _ b.operand m n pace none h
chooses code s number g m n pace none (all_kept at off h) = off_is pace m n off (waits_speak s number m n none h)

thrown_is : (s : ControlPoint) (v : ValueTree) (m n : Process) (pace : Pace) → m.asked ≡ None → ErrorThrown s v m pace n → After pace m n
thrown_is s (ErrorValue e) m n pace none h = off_is pace m n h.0 (quiet_speaks m n none (quiet_is m n _ h.1 (noted_doing s _ m)))
thrown_is s (IntValue i) m n pace none h = absurd h
thrown_is s (BoolValue b) m n pace none h = absurd h
thrown_is s (TextValue t) m n pace none h = absurd h
thrown_is s VoidValue m n pace none h = absurd h
thrown_is s (RefValue kd c) m n pace none h = absurd h
thrown_is s (CompositeValue r vs) m n pace none h = absurd h

return_is : (s : ControlPoint) (v : Value) (m n : Process) (pace : Pace) → m.asked ≡ None → IsReturn s v m pace n → After pace m n
return_is s v m n pace none h =
    let a = on_heap (hold_all (value_refs v)) m in
    let b = noted s a in
    let one = pushed h.task b.heap in
    off_is pace m n h.off
    (quiet_speaks m n none
    (quiet_is m n _ h.ends
    (quiet_then m a _ (on_heap_quiet (hold_all (value_refs v)) m (hold_all_stays (value_refs v) m.heap))
    (quiet_then a b _ (noted_quiet s a) (on_heap_quiet (ended s h.task) b (and_then b.heap one _ (push_stays h.task b.heap) (lost_from_stays s.actor.0 0 one)))))))

test_is : (s : ControlPoint) (one other : ℕ) (b : Bool) (m n : Process) (pace : Pace) → IsTest s one other b m pace n → After pace m n
test_is s one other true m n pace h = goes_at s one m n pace h
test_is s one other false m n pace h = goes_at s other m n pace h

ends : (code : Code) (s : ControlPoint) (x : Last) (m n : Process) (pace : Pace) → m.asked ≡ None → Ends code s x m pace n → After pace m n
ends code s (last.Goto b) m n pace none h = goes_at s b m n pace h
ends code s (last.Pass b) m n pace none h = passes s b m n pace none h
ends code s (last.Test e one other) m n pace none h = evaluates s _ _ m n _ pace none (λ v k n pace none h. test_is s one other v k n pace h) h
ends code s (last.Choose g) m n pace none h =
    after_then pace m (noted s m) n (noted_quiet s m) (chooses code _ g h.group (noted s m) n pace none h.chooses)
ends code s (last.Return e) m n pace none h = evaluates s value_of _ m n _ pace none (λ v k n pace none h. return_is s v k n pace none h) h
ends code s (last.Throw e) m n pace none h = evaluates s value_of _ m n _ pace none (λ v k n pace none h. thrown_is s (value_of v) k n pace none h) h

pub step_after : (code : Code) (s : ControlPoint) (m n : Process) (pace : Pace) → m.asked ≡ None → StepsOn code s m pace n → After pace m n
step_after code s m n pace none (by_instruction x at h) = does code s x m n pace none h
step_after code s m n pace none (by_last end h) = ends code s s.block.now.last m n pace none h

-- a row of steps
pub runs_speak : (code : Code) (s : ControlPoint) (m n : Process) → m.asked ≡ None → Runs code s m n → Speaks m n
runs_speak code s m n none (runs_on _ t _ between _ one more) =
    let a = step_after code s m between (On t) none one in then_speaks m between n a.calm (runs_speak code t between n (a.asked ∙ none) more)
runs_speak code s m n none (runs_off _ _ _ one) = step_after code s m n Off none one

pub goes_on_speak : (code : Code) (pace : Pace) (m k n : Process) → m.asked ≡ None → After pace m k → GoesOn code pace k n → Speaks m n
goes_on_speak code (On t) m k n none a more = then_speaks m k n a.calm (runs_speak code t k n (a.asked ∙ none) more)
goes_on_speak code Off m k n none a more = speaks_is m n k more a
