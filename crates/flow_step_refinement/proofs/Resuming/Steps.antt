-- The steps of an actor in memory.
use Rattle.std.proofs.Common.{◌≡◌, ℕ, nat_lt, Bool, true, false, List, [], ◌∷◌, length, if◌then◌else◌, refl, sym, ap, subst, ◌∙◌}
use Rattle.std.specs.Prelude.{slice_get}
use Rattle.std.specs.declared.option.Option.{Option}
use Rattle.std.specs.declared.option.Option.TheVariants.{None, Some}
use Rattle.flow_ast.specs.declared.predefined.Method.{Method}
use Rattle.flow_ast.specs.declared.predefined.Predefined.{Predefined}
use Rattle.flow_ast.specs.declared.predefined.Predefined.TheVariants as predefined
use Rattle.flow_base.specs.ErrorNumbers.{already_set}
use Rattle.flow_base.specs.declared.ids.ActorId.{ActorId}
use Rattle.flow_base.specs.declared.ids.CellId.{CellId}
use Rattle.flow_value.specs.declared.value.Value.{Value}
use Rattle.flow_value.specs.declared.value.Outcome.{Outcome}
use Rattle.flow_value.specs.declared.value.Kind.{Kind}
use Rattle.flow_value.specs.declared.value.Kind.TheVariants as kind
use Rattle.flow_value.specs.Values.{ValueTree, IntValue, BoolValue, TextValue, VoidValue, ErrorValue, CompositeValue, RefValue}
use Rattle.flow_value.specs.View.{value_of}
use Rattle.flow_eval.specs.Eval.{Res}
use Rattle.flow_code.specs.declared.expr.expr.Resolved.{Resolved}
use Rattle.flow_code.specs.declared.class.Act.{Act}
use Rattle.flow_code.specs.declared.class.Act.TheVariants as act
use Rattle.flow_code.specs.declared.class.Aim.{Aim}
use Rattle.flow_code.specs.declared.class.Branch.{Branch}
use Rattle.flow_code.specs.declared.class.Effect.{Effect}
use Rattle.flow_code.specs.declared.class.Effect.TheVariants as effect
use Rattle.flow_code.specs.declared.class.Group.{Group}
use Rattle.flow_code.specs.declared.class.Instruction.{Instruction}
use Rattle.flow_code.specs.declared.class.Instruction.TheVariants as instruction
use Rattle.flow_code.specs.declared.class.Last.{Last}
use Rattle.flow_code.specs.declared.class.Last.TheVariants as last
use Rattle.flow_code.specs.declared.class.Operand.{Operand}
use Rattle.flow_code.specs.declared.class.Operand.TheVariants as operand
use Rattle.flow_code.specs.declared.program.Code.{Code}
use Rattle.flow_stream.specs.Streams.{tail}
use Rattle.flow_frame.specs.declared.held.Held.{Held}
use Rattle.flow_cancel.specs.declared.task.Task.{Task}
use Rattle.flow_cancel.specs.declared.task.Task.TheVariants as task
use Rattle.flow_cancel.specs.declared.task.Dropped.{Dropped}
use Rattle.flow_cancel.specs.declared.task.Dropped.TheVariants as after
use Rattle.flow_cancel.specs.Heap.{HeapTree, pushed}
use Rattle.flow_cancel.specs.Dropping.{refs_in}
use Rattle.flow_cancel.specs.Leaving.{withdrawn}
use Rattle.flow_meaning.specs.Requests as asks
use Rattle.flow_meaning.specs.Evaluating.{Change, Grows, Clears, change_by}
use Rattle.flow_heap_refinement.specs.Changes.{stream_put}
use Rattle.flow_heap_refinement.specs.Holds.{hold, hold_all, filled_in, given}
use Rattle.flow_steps.specs.declared.call.Goal.{Goal}
use Rattle.flow_steps.specs.declared.frames.ControlPoint.{ControlPoint}
use Rattle.flow_steps.specs.declared.next.Pace.{Pace}
use Rattle.flow_steps.specs.declared.next.Pace.TheVariants.{On, Off}
use Rattle.flow_steps.specs.declared.process.Process.{Process}
use Rattle.flow_steps.specs.Doing.{turned, doing, stopped}
use Rattle.flow_steps.specs.Holding.{on_heap, with_heap, value_refs, outcome_refs, Gives, cancelled_if}
use Rattle.flow_steps.specs.Delivering.{made, complete_at, sent_into, sending}
use Rattle.flow_steps.specs.Points.{next_stand, noted_stand, noted, place_put, places_emptied, lost_from}
use Rattle.flow_numbered.specs.Numbered.{thing}
use Rattle.flow_steps.specs.Waiting.{callbacks_in, callbacks_of, operand_kept, Registered, register_all, left_for, Takes, copied, popped, TakesBranch, no_turn, takes_branch, KeepsOperand, kept_marked, kept_unready, kept_ready, Waits, waits_ready, waits_refused, waits_suspended}
use Rattle.flow_steps.specs.Evaluating.{with_left, Evaluates, gives, throws, runs_out}
use Rattle.flow_steps.specs.Acting.{Values, args_of, with_args, EffectAsked, ActorCalled, not_called, actor_starts, EffectMade, EffectDone, PredefinedCalled, MethodCalled, VoidCalled, void_not_called, void_starts}
use Rattle.flow_steps.specs.Stepping.{OnAfter, IsSet, made_in_place, IsNew, IsAct, IsMethod, MethodStep, Does, GoesOnAt, Passes, no_pass, pass_begins, IsTest, ReferenceKept, OperandStep, Chooses, asks_operand, all_kept, IsReturn, ErrorThrown, Ends, StepsOn, by_instruction, by_last, Runs, runs_on, runs_off, GoesOn, grown, is_full, IsChange, IsMethodBy}
use Rattle.flow_operation_refinement.proofs.Takings.{turned_heap}
use Rattle.flow_step_refinement.specs.Continuing.{InClass}
use Rattle.flow_step_refinement.proofs.Stays.{in_class_stays}
use Rattle.flow_step_refinement.specs.Resuming.{NoStaleWaits, Branched}
use Rattle.flow_step_refinement.proofs.Resuming.Aside.{Aside, and_then, pushing, dropping_refs, making, holding, holding_all, filling, registering}
use Rattle.flow_step_refinement.proofs.Resuming.Framed.{all_but_none, but_none, but_one, aside_but, place_but, callback_but, gone_poised, told_poised, emptied_but, lost_from_but, lost_from_callbacks, withdrawn_but, cancelled_poised, suspended_poised, started_poised}

pub aside_poised : (h g : HeapTree) → Aside h g → NoStaleWaits h → NoStaleWaits g
aside_poised h g s p = all_but_none g (aside_but None h g s (but_none h p))

pub good_is : (n k : Process) → n ≡ k → NoStaleWaits k.heap → NoStaleWaits n.heap
good_is n k e p = subst (λ (y : Process). NoStaleWaits y.heap) (sym e) p

pub turned_good : (m : Process) → NoStaleWaits m.heap → NoStaleWaits (turned m).heap
turned_good m p = subst NoStaleWaits (sym (turned_heap m)) p

pub doing_good : (t : Task) (m : Process) → NoStaleWaits m.heap → NoStaleWaits (doing t m).heap
doing_good t m p = aside_poised m.heap (doing t m).heap (pushing t m.heap) p

pub noted_good : (s : ControlPoint) (m : Process) → NoStaleWaits m.heap → NoStaleWaits (noted s m).heap
noted_good s m p = told_poised s.noted s.actor.0 s.place s.instruction m.heap p

-- values are left over
pub left_over : (s : ControlPoint) (vs : List Value) (m n : Process) (pace : Pace) → OnAfter s vs m pace n → NoStaleWaits m.heap → NoStaleWaits n.heap
left_over s [] m n pace h p = good_is n m h.1 p
left_over s (v ∷ vs) m n pace h p =
    let k = doing (task.Run s.actor) (noted s m) in
    good_is n _ h.1 (aside_poised k.heap _ (dropping_refs (refs_in (v ∷ vs)) k.heap) (doing_good (task.Run s.actor) (noted s m) (noted_good s m p)))

-- evaluation
pub evaluates : {A B : Type 0} (s : ControlPoint) (seen : B → A) (comes_to : Res A) (m n : Process) (goes : B → Process → Pace → Process → Type 0) (pace : Pace)
    → ((v : B) (k n : Process) (pace : Pace) → goes v k pace n → NoStaleWaits k.heap → NoStaleWaits n.heap) → Evaluates s seen comes_to m goes pace n → NoStaleWaits m.heap → NoStaleWaits n.heap
evaluates s seen comes_to m n goes pace further (gives b left a q done h) p = further b (with_left left m) q a h p
evaluates s seen comes_to m n goes pace further (throws e left q fails h) p =
    let k = with_left left m in good_is q _ h (doing_good (task.Throw s.actor e) (noted s k) (noted_good s k p))
evaluates s seen comes_to m n goes pace further (runs_out q spent h) p = good_is q _ h (noted_good s (with_left 0 m) p)

-- a result is given
pub gives_good : (g : Goal) (i : ActorId) (v : Value) (m n : Process) → Gives g i v m n → NoStaleWaits m.heap → NoStaleWaits n.heap
gives_good g i v m n h p =
    let one = hold_all (value_refs v) m.heap in
    let two = pushed _ one in
    good_is n _ h.given_by
    (aside_poised m.heap (given i.0 h.task (value_refs v) m.heap)
    (and_then m.heap one _ (holding_all (value_refs v) m.heap) (and_then one two _ (pushing _ one) (pushing h.task two))) p)

-- effects
effect_asked : (i : ActorId) (g : Goal) (x : Option asks.Effect) (m n : Process) → EffectAsked i g x m n → NoStaleWaits m.heap → NoStaleWaits n.heap
effect_asked i g (Some (asks.Draw lo hi)) m n h p = good_is n _ h p
effect_asked i g (Some (asks.Delay ticks)) m n h p = good_is n _ h p
effect_asked i g (Some (asks.Listen port)) m n h p = good_is n _ h p
effect_asked i g (Some asks.Never) m n h p =
    gives_good g i _ (on_heap (made kind.Future) m) n h.given (aside_poised m.heap (made kind.Future m.heap) (making kind.Future m.heap) p)
effect_asked i g (Some (asks.Disk request)) m n h p = good_is n _ h.asks p
effect_asked i g (Some (asks.Make k)) m n h p = absurd h
effect_asked i g (Some (asks.Start k vs)) m n h p = absurd h
effect_asked i g None m n h p = absurd h

actor_called : (code : Code) (i : ActorId) (g : Goal) (class : ℕ) (vs : List Value) (m n : Process) → ActorCalled code i g class vs m n → NoStaleWaits m.heap → NoStaleWaits n.heap
actor_called code i g class vs m n (not_called t e) p = good_is n (turned m) e (turned_good m p)
actor_called code i g class vs m n (actor_starts t h) p =
    let a = turned m in
    let made_one = making kind.Future a.heap in
    let args = and_then a.heap (made kind.Future a.heap) (with_args vs a.heap) made_one (holding_all (refs_in vs) (made kind.Future a.heap)) in
    let enrolled = good_is h.enrolled _ h.enrols.made
    (started_poised class h.enrols.of.places _ (Some h.cell) (with_args vs a.heap) (aside_poised a.heap (with_args vs a.heap) args (turned_good m p))) in
    good_is n _ h.starts.told (doing_good (task.Run h.actor) h.given (gives_good g i _ h.enrolled h.given h.gives enrolled))

void_called : (code : Code) (i : ActorId) (class : ℕ) (vs : List Value) (m n : Process) → VoidCalled code i class vs m n → NoStaleWaits m.heap → NoStaleWaits n.heap
void_called code i class vs m n (void_not_called t e) p = good_is n (turned m) e (turned_good m p)
void_called code i class vs m n (void_starts t h) p =
    let a = turned m in
    let enrolled = good_is h.enrolled _ h.enrols.made
    (started_poised class h.enrols.of.places _ None (hold_all (refs_in vs) a.heap) (aside_poised a.heap (hold_all (refs_in vs) a.heap) (holding_all (refs_in vs) a.heap) (turned_good m p))) in
    good_is n _ h.starts.told (doing_good (task.Run h.actor) (doing (task.Run i) h.enrolled) (doing_good (task.Run i) h.enrolled enrolled))

effect_made : (code : Code) (i : ActorId) (g : Goal) (e : Effect) (args : Values) (m n : Process) → EffectMade code i g e args m n → NoStaleWaits m.heap → NoStaleWaits n.heap
effect_made code i g (effect.World called) args m n h p = effect_asked i g _ m n h p
effect_made code i g (effect.Actor class) args m n h p = actor_called code i g class args.items m n h p

effect_done : (code : Code) (s : ControlPoint) (g : Goal) (e : Effect) (args : Values) (m n : Process) (pace : Pace) → EffectDone code s g e args m pace n → NoStaleWaits m.heap → NoStaleWaits n.heap
effect_done code s g e args m n pace h p = effect_made code s.actor g e args (noted s m) n h.1 (noted_good s m p)

-- call statements
predefined_called : (i : ActorId) (q : Predefined) (args : Values) (m n : Process) → PredefinedCalled i q args m n → NoStaleWaits m.heap → NoStaleWaits n.heap
predefined_called i predefined.Trace args m n h p = good_is n _ h.told (doing_good (task.Run i) m p)
predefined_called i predefined.SendTo args m n h p = good_is n _ h.asks p
predefined_called i _ args m n h p = absurd h

sending_good : (i : ActorId) (kd : Kind) (k : ℕ) (o : Outcome) (m : Process) → NoStaleWaits m.heap → NoStaleWaits (sending i kd k o m).heap
sending_good i kd k o m p = by_test (complete_at kd k m.heap) (nat_lt 0 m.left)
  where
    by_test : (b c : Bool) → NoStaleWaits (if b then doing (task.Throw i (record { 0 = already_set })) m else if c then on_heap (sent_into i kd k o) (turned m) else turned m).heap
    by_test true c = doing_good _ m p
    by_test false false = turned_good m p
    by_test false true =
        let a = turned m in
        let one = hold_all (outcome_refs o) a.heap in
        let two = pushed (task.Run i) one in
        aside_poised a.heap (sent_into i kd k o a.heap) (and_then a.heap one (filled_in kd k o two) (holding_all (outcome_refs o) a.heap)
        (and_then one two (filled_in kd k o two) (pushing (task.Run i) one) (filling kd k o two))) (turned_good m p)

pub stopped_good : (i : ℕ) (m : Process) → NoStaleWaits m.heap → NoStaleWaits (stopped i m).heap
stopped_good i m p = cancelled_poised i m.heap p

owner_good : (d : Dropped) (m : Process) → NoStaleWaits m.heap → NoStaleWaits (cancelled_if d m).heap
owner_good (after.Cancel a) m p = stopped_good a.0 m p
owner_good _ m p = p

method_called : (i : ActorId) (called : Method) (kd : Kind) (k : CellId) (arg : Option Value) (m n : Process) → MethodCalled i called kd k arg m n → NoStaleWaits m.heap → NoStaleWaits n.heap
method_called i called kind.Promise k arg m n h p = good_is n _ h.sends (sending_good i kind.Promise k.0 h.outcome m p)
method_called i called kind.PromiseStream k arg m n h p = good_is n _ h.sends (sending_good i kind.PromiseStream k.0 h.outcome m p)
method_called i called kind.Future k arg m n h p = good_is n _ h.1 (owner_good _ (doing (task.Run i) m) (doing_good (task.Run i) m p))
method_called i called kind.FutureStream k arg m n h p = absurd h

put_good : (i n : ℕ) (v : Option Value) (m : Process) → NoStaleWaits m.heap → NoStaleWaits (on_heap (place_put i n v) m).heap
put_good i n v m p = all_but_none (place_put i n v m.heap) (place_but None i n v m.heap (but_none m.heap p))

change_is : (code : Code) (s : ControlPoint) (aim : Aim) (how : Change) (sent : Option Value) (m n : Process) (pace : Pace) → IsChange code s aim how sent m pace n → NoStaleWaits m.heap
    → NoStaleWaits n.heap
change_is code s aim Grows (Some v) m n pace (grown es old q room h) p =
    let a = on_heap (hold_all (value_refs v)) m in
    good_is q _ h.assigns.put (put_good s.actor.0 aim.place h.assigns.root a (aside_poised m.heap a.heap (holding_all (value_refs v) m.heap) p))
change_is code s aim Grows (Some v) m n pace (is_full es q aimed full e) p = good_is q _ e (doing_good _ (noted s m) (noted_good s m p))
change_is code s aim Grows None m n pace h p = absurd h
change_is code s aim Clears sent m n pace h p =
    left_over _ _ h.between n pace h.after (good_is h.between _ h.changed.assigns.put (put_good s.actor.0 aim.place h.changed.assigns.root m p))

method_by : (o : Option Change) (code : Code) (s : ControlPoint) (aim : Aim) (called : Method) (sent : Option Value) (m n : Process) (pace : Pace) → IsMethodBy o code s aim called sent m pace n
    → NoStaleWaits m.heap → NoStaleWaits n.heap
method_by None code s aim called sent m n pace h p = method_called s.actor called h.kind h.cell sent (noted (next_stand s) m) n h.calls (noted_good (next_stand s) m p)
method_by (Some how) code s aim called sent m n pace h p = change_is code s aim how sent m n pace h p

method_is : (code : Code) (s : ControlPoint) (aim : Aim) (called : Method) (sent : Option Value) (m n : Process) (pace : Pace) → IsMethod code s aim called sent m pace n → NoStaleWaits m.heap
    → NoStaleWaits n.heap
method_is code s aim called sent m n pace h p = method_by (change_by (Some called)) code s aim called sent m n pace h p

method_step : (code : Code) (s : ControlPoint) (aim : Aim) (called : Method) (es : List Resolved) (m n : Process) (pace : Pace) → MethodStep code s aim called es m pace n → NoStaleWaits m.heap
    → NoStaleWaits n.heap
method_step code s aim called [] m n pace h p = method_is code s aim called None m n pace h p
method_step code s aim called (e ∷ []) m n pace h p = evaluates s value_of _ m n _ pace (λ v k n pace h p. method_is code s aim called (Some v) k n pace h p) h p
method_step code s aim called (e ∷ f ∷ es) m n pace h p = absurd h

act_is : (code : Code) (s : ControlPoint) (a : Act) (args : Values) (m n : Process) (pace : Pace) → IsAct code s a args m pace n → NoStaleWaits m.heap → NoStaleWaits n.heap
act_is code s (act.World called) args m n pace h p = predefined_called s.actor called args (noted (next_stand s) m) n h.1 (noted_good (next_stand s) m p)
act_is code s (act.Actor class) args m n pace h p = void_called code s.actor class args.items (noted (next_stand s) m) n h.1 (noted_good (next_stand s) m p)
act_is code s (act.Function f) args m n pace h p = evaluates s value_of _ m n _ pace (λ v k n pace h p. good_is n k h.1 p) h p

set_is : (code : Code) (s : ControlPoint) (aim : Aim) (v : Value) (m n : Process) (pace : Pace) → IsSet code s aim v m pace n → NoStaleWaits m.heap → NoStaleWaits n.heap
set_is code s aim v m n pace h p =
    let a = on_heap (hold_all (value_refs v)) m in
    left_over _ _ h.between n pace h.after
    (good_is h.between _ h.assigns.put (put_good s.actor.0 aim.place h.assigns.root a (aside_poised m.heap a.heap (holding_all (value_refs v) m.heap) p)))

new_is : (s : ControlPoint) (place : ℕ) (kd : Kind) (m n : Process) (pace : Pace) → IsNew s place kd m pace n → NoStaleWaits m.heap → NoStaleWaits n.heap
new_is s place kd m n pace h p =
    let one = made kd m.heap in
    let two = hold kd h.cell.0 one in
    left_over _ _ (on_heap (made_in_place s.actor.0 place kd h.cell) m) n pace h.after
    (put_good s.actor.0 place _ (with_heap two m) (aside_poised m.heap two (and_then m.heap one two (making kd m.heap) (holding kd h.cell.0 one)) p))

does : (code : Code) (s : ControlPoint) (x : Instruction) (m n : Process) (pace : Pace) → Does code s x m pace n → NoStaleWaits m.heap → NoStaleWaits n.heap
does code s (instruction.Set aim e) m n pace h p = evaluates s value_of _ m n _ pace (λ v k n pace h p. set_is code s aim v k n pace h p) h p
does code s (instruction.Effect aim e args) m n pace h p = evaluates s args_of _ m n _ pace (λ v k n pace h p. effect_done code s _ e v k n pace h p) h p
does code s (instruction.New place kd) m n pace h p = new_is s place kd m n pace h p
does code s (instruction.Act a args) m n pace h p = evaluates s args_of _ m n _ pace (λ v k n pace h p. act_is code s a v k n pace h p) h p
does code s (instruction.Method aim called args) m n pace h p = method_step code s aim called args.items m n pace h p
does code s (instruction.Drop places) m n pace h p =
    left_over _ _ (on_heap (places_emptied s.actor.0 places.items) m) n pace h
    (all_but_none (places_emptied s.actor.0 places.items m.heap) (emptied_but None s.actor.0 places.items m.heap (but_none m.heap p)))
does code s instruction.Invalid m n pace h p = absurd h

-- the ends of blocks
goes_at : (s : ControlPoint) (b : ℕ) (m n : Process) (pace : Pace) → GoesOnAt s b m pace n → NoStaleWaits m.heap → NoStaleWaits n.heap
goes_at s b m n pace h p = good_is n m h.3 p

passes : (s : ControlPoint) (b : ℕ) (m n : Process) (pace : Pace) → Passes s b m pace n → NoStaleWaits m.heap → NoStaleWaits n.heap
passes s b m n pace (no_pass t q to left e) p = good_is q (noted t (turned m)) e (noted_good t (turned m) (turned_good m p))
passes s b m n pace (pass_begins t q to left e) p = good_is q (turned m) e (turned_good m p)

-- waits
left_for_poised : (s : ControlPoint) (t : Task) (h : HeapTree) → NoStaleWaits h → NoStaleWaits (left_for s t h)
left_for_poised s t h p =
    let i = s.actor.0 in
    let one = pushed t h in
    let two = lost_from i s.class.now.slots one in
    gone_poised i s.place _ (withdrawn i two)
    (withdrawn_but i two (lost_from_but (Some i) i s.class.now.slots one (aside_but (Some i) h one (pushing t h) (but_one i h p))))

takes_good : (k : ℕ) (o : Outcome) (m n : Process) → Takes k o m n → NoStaleWaits m.heap → NoStaleWaits n.heap
takes_good k o m n (copied at e) p = good_is n _ e (aside_poised m.heap _ (holding_all (outcome_refs o) m.heap) p)
takes_good k o m n (popped s none at first e) p =
    good_is n _ e (aside_poised m.heap (stream_put k (record s { queue = tail s.queue }) m.heap) (record { frames = refl; ends = λ i e. e }) p)

pub branch_good : (s : ControlPoint) (b : ℕ) (k : CellId) (m n : Process) → TakesBranch s b k m n → NoStaleWaits m.heap → NoStaleWaits n.heap
branch_good s b k m n (no_turn t e) p = good_is n (turned m) e (turned_good m p)
branch_good s b k m n (takes_branch t h) p =
    good_is n _ h.leaves (left_for_poised s h.task h.between.heap (takes_good k.0 h.outcome (turned m) h.between h.takes (turned_good m p)))

kept_good : (i : ℕ) (x : Held) (m : Process) → NoStaleWaits m.heap → NoStaleWaits (on_heap (operand_kept i x) m).heap
kept_good i x m p = all_but_none (operand_kept i x m.heap) (callback_but None i x m.heap (but_none m.heap p))

pub keeps_good : (s : ControlPoint) (x : Held) (m n : Process) (pace : Pace) → KeepsOperand s x m pace n → NoStaleWaits m.heap → NoStaleWaits n.heap
keeps_good s x m n pace (kept_marked q marked e) p = good_is q _ e (left_for_poised s _ _ (kept_good s.actor.0 x m p))
keeps_good s x m n pace (kept_unready q marked ready e) p = good_is q _ e (kept_good s.actor.0 x m p)
keeps_good s x m n pace (kept_ready q b marked ready of h) p = branch_good s b x.cell (on_heap (operand_kept s.actor.0 x) m) q h (kept_good s.actor.0 x m p)

registered_good : (i : ℕ) (xs : List Held) (m : Process) (b : Bool) (h : HeapTree) → register_all i xs m.heap ≡ (b, h) → Aside m.heap h
registered_good i xs m b h e = subst (Aside m.heap) (ap (λ (r : Registered). r.1) e) (registering i xs m.heap)

waits_good : (s : ControlPoint) (group : ℕ) (m n : Process) → ((x : Held) × ((xs : List Held) × (callbacks_of s.actor.0 m.heap ≡ x ∷ xs))) → Waits s group m n → NoStaleWaits m.heap
    → NoStaleWaits n.heap
waits_good s group m n some (waits_ready x b first of h) p = branch_good s b x.cell m n h p
waits_good s group m n some (waits_refused h first all e) p =
    good_is n _ e (left_for_poised s _ h (aside_poised m.heap h (registered_good s.actor.0 _ m false h all) p))
waits_good s group m n some (waits_suspended h first all e) p =
    let i = s.actor.0 in
    let beside = registered_good i _ m true h all in
    let two = lost_from i s.class.now.slots h in
    let same : callbacks_of i two ≡ callbacks_of i m.heap = lost_from_callbacks i s.class.now.slots h ∙ ap (λ (fs : _). callbacks_in (thing fs.things i)) beside.frames in
    good_is n _ e
    (suspended_poised i group two (some.0, (some.1.0, same ∙ some.1.1))
    (all_but_none two (lost_from_but None i s.class.now.slots h (but_none h (aside_poised m.heap h beside p)))))

reference_good : (s : ControlPoint) (c : ℕ) (v : ValueTree) (m n : Process) (pace : Pace) → ReferenceKept s c v m pace n → NoStaleWaits m.heap → NoStaleWaits n.heap
reference_good s c (RefValue kd k) m n pace h p = keeps_good s _ (on_heap (hold kd k) m) n pace h (aside_poised m.heap (hold kd k m.heap) (holding kd k m.heap) p)
reference_good s c (IntValue i) m n pace h p = absurd h
reference_good s c (BoolValue b) m n pace h p = absurd h
reference_good s c (TextValue t) m n pace h p = absurd h
reference_good s c VoidValue m n pace h p = absurd h
reference_good s c (ErrorValue e) m n pace h p = absurd h
reference_good s c (CompositeValue r vs) m n pace h p = absurd h

operand_good : (code : Code) (s : ControlPoint) (c : ℕ) (o : Operand) (m n : Process) (pace : Pace) → OperandStep code s c o m pace n → NoStaleWaits m.heap → NoStaleWaits n.heap
operand_good code s c (operand.Value e) m n pace h p = evaluates s value_of _ m n _ pace (λ v k n pace h p. reference_good s c (value_of v) k n pace h p) h p
operand_good code s c (operand.Effect e args) m n pace h p = evaluates s args_of _ m n _ pace (λ v k n pace h p. effect_done code s _ e v k n pace h p) h p

-- a wait with branches has operands when all are kept
nothing_there : (bs : List Branch) → slice_get bs 0 ≡ None → bs ≡ []
nothing_there [] e = refl
nothing_there (b ∷ bs) e = absurd (cc (e))

some_held : (xs : List Held) (bs : List Branch) → slice_get bs (length xs) ≡ None → (bs ≡ [] → ⊥) → (x : Held) × ((ys : List Held) × (xs ≡ x ∷ ys))
some_held [] bs e some = absurd (some (nothing_there bs e))
some_held (x ∷ xs) bs e some = (x, (xs, refl))

chooses_good : (code : Code) (s : ControlPoint) (number : ℕ) (g : Group) (m n : Process) (pace : Pace) → (g.branches.items ≡ [] → ⊥) → Chooses code s number g m pace n → NoStaleWaits m.heap
    → NoStaleWaits n.heap
chooses_good code s number g m n pace some (asks_operand b at h) p = operand_good code s _ b.operand m n pace h p
chooses_good code s number g m n pace some (all_kept at off h) p = waits_good s number m n (some_held (callbacks_of s.actor.0 m.heap) g.branches.items at some) h p

thrown_good : (s : ControlPoint) (v : ValueTree) (m n : Process) (pace : Pace) → ErrorThrown s v m pace n → NoStaleWaits m.heap → NoStaleWaits n.heap
thrown_good s (ErrorValue e) m n pace h p = good_is n _ h.1 (doing_good _ (noted s m) (noted_good s m p))
thrown_good s (IntValue i) m n pace h p = absurd h
thrown_good s (BoolValue b) m n pace h p = absurd h
thrown_good s (TextValue t) m n pace h p = absurd h
thrown_good s VoidValue m n pace h p = absurd h
thrown_good s (RefValue kd c) m n pace h p = absurd h
thrown_good s (CompositeValue r vs) m n pace h p = absurd h

return_good : (s : ControlPoint) (v : Value) (m n : Process) (pace : Pace) → IsReturn s v m pace n → NoStaleWaits m.heap → NoStaleWaits n.heap
return_good s v m n pace h p =
    let a = on_heap (hold_all (value_refs v)) m in
    let b = noted s a in
    let one = pushed h.task b.heap in
    let noted_then = noted_good s a (aside_poised m.heap a.heap (holding_all (value_refs v) m.heap) p) in
    good_is n _ h.ends (all_but_none (lost_from s.actor.0 0 one) (lost_from_but None s.actor.0 0 one (but_none one (aside_poised b.heap one (pushing h.task b.heap) noted_then))))

test_good : (s : ControlPoint) (one other : ℕ) (b : Bool) (m n : Process) (pace : Pace) → IsTest s one other b m pace n → NoStaleWaits m.heap → NoStaleWaits n.heap
test_good s one other true m n pace h p = goes_at s one m n pace h p
test_good s one other false m n pace h p = goes_at s other m n pace h p

module _ (code : Code) (branched : Branched code.classes.items) where
  ends : (s : ControlPoint) (k : ℕ) → InClass code k s → (x : Last) (m n : Process) (pace : Pace) → Ends code s x m pace n → NoStaleWaits m.heap → NoStaleWaits n.heap
  ends s k within (last.Goto b) m n pace h p = goes_at s b m n pace h p
  ends s k within (last.Pass b) m n pace h p = passes s b m n pace h p
  ends s k within (last.Test e one other) m n pace h p = evaluates s _ _ m n _ pace (λ v k n pace h p. test_good s one other v k n pace h p) h p
  ends s k within (last.Choose g) m n pace h p =
      chooses_good code (noted_stand s) g h.group (noted s m) n pace (branched k s.class.now g h.group within.class h.of_number) h.chooses (noted_good s m p)
  ends s k within (last.Return e) m n pace h p = evaluates s value_of _ m n _ pace (λ v k n pace h p. return_good s v k n pace h p) h p
  ends s k within (last.Throw e) m n pace h p = evaluates s value_of _ m n _ pace (λ v k n pace h p. thrown_good s (value_of v) k n pace h p) h p

  step_good : (s : ControlPoint) (k : ℕ) → InClass code k s → (m n : Process) (pace : Pace) → StepsOn code s m pace n → NoStaleWaits m.heap → NoStaleWaits n.heap
  step_good s k within m n pace (by_instruction x at h) p = does code s x m n pace h p
  step_good s k within m n pace (by_last at h) p = ends s k within s.block.now.last m n pace h p

  -- a row of steps
  pub runs_good : (s : ControlPoint) (k : ℕ) → InClass code k s → (m n : Process) → Runs code s m n → NoStaleWaits m.heap → NoStaleWaits n.heap
  runs_good s k within m n (runs_on a t b between c one more) p =
      runs_good t k (in_class_stays code k s t m between within one) between n more (step_good s k within m between (On t) one p)
  runs_good s k within m n (runs_off a b c one) p = step_good s k within m n Off one p

  pub goes_on_good : (pace : Pace) (k : ℕ) → ((t : ControlPoint) → pace ≡ On t → InClass code k t) → (m n : Process) → GoesOn code pace m n → NoStaleWaits m.heap → NoStaleWaits n.heap
  goes_on_good (On t) k within m n more p = runs_good t k (within t refl) m n more p
  goes_on_good Off k within m n more p = good_is n m more p
