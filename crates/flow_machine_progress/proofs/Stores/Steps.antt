-- The steps of an actor in memory.
use Rattle.std.proofs.Common.{◌≡◌, ℕ, nat_lt, Bool, true, false, List, [], ◌∷◌, length, if◌then◌else◌, sym, ap, subst, ◌∙◌}
use Rattle.std.specs.declared.option.Option.{Option}
use Rattle.std.specs.declared.option.Option.TheVariants.{None, Some}
use Rattle.flow_ast.specs.declared.predefined.Method.{Method}
use Rattle.flow_ast.specs.declared.predefined.Predefined.{Predefined}
use Rattle.flow_ast.specs.declared.predefined.Predefined.TheVariants as predefined
use Rattle.flow_base.specs.ErrorNumbers.{already_set}
use Rattle.flow_base.specs.declared.ids.ActorId.{ActorId}
use Rattle.flow_base.specs.declared.ids.CellId.{CellId}
use Rattle.flow_value.specs.declared.value.Value.{Value}
use Rattle.flow_value.specs.declared.value.Outcome.{Outcome}
use Rattle.flow_value.specs.declared.value.Kind.{Kind}
use Rattle.flow_value.specs.declared.value.Kind.TheVariants as kind
use Rattle.flow_value.specs.Values.{ValueTree, ValueTrees, NoValues, IntValue, BoolValue, TextValue, VoidValue, ErrorValue, CompositeValue, RefValue}
use Rattle.flow_value.specs.View.{value_of, value_step}
use Rattle.flow_eval.specs.Eval.{Res}
use Rattle.flow_code.specs.declared.expr.expr.Resolved.{Resolved}
use Rattle.flow_code.specs.declared.class.Act.{Act}
use Rattle.flow_code.specs.declared.class.Act.TheVariants as act
use Rattle.flow_code.specs.declared.class.Aim.{Aim}
use Rattle.flow_code.specs.declared.class.Effect.{Effect}
use Rattle.flow_code.specs.declared.class.Effect.TheVariants as effect
use Rattle.flow_code.specs.declared.class.Group.{Group}
use Rattle.flow_code.specs.declared.class.Instruction.{Instruction}
use Rattle.flow_code.specs.declared.class.Instruction.TheVariants as instruction
use Rattle.flow_code.specs.declared.class.Last.{Last}
use Rattle.flow_code.specs.declared.class.Last.TheVariants as last
use Rattle.flow_code.specs.declared.class.Operand.{Operand}
use Rattle.flow_code.specs.declared.class.Operand.TheVariants as operand
use Rattle.flow_code.specs.declared.program.Code.{Code}
use Rattle.flow_frame.specs.declared.held.Held.{Held}
use Rattle.flow_cancel.specs.declared.task.Task.{Task}
use Rattle.flow_cancel.specs.declared.task.Task.TheVariants as task
use Rattle.flow_cancel.specs.declared.task.Dropped.{Dropped}
use Rattle.flow_cancel.specs.declared.task.Dropped.TheVariants as after
use Rattle.flow_cancel.specs.Heap.{HeapTree, pushed}
use Rattle.flow_cancel.specs.Dropping.{refs_in}
use Rattle.flow_cancel.specs.Leaving.{withdrawn}
use Rattle.flow_meaning.specs.Requests as asks
use Rattle.flow_meaning.specs.Evaluating.{Change, change_by}
use Rattle.flow_meaning.specs.Evaluating as change
use Rattle.flow_heap_refinement.specs.Holds.{hold, hold_all}
use Rattle.flow_steps.specs.declared.call.Goal.{Goal}
use Rattle.flow_steps.specs.declared.frames.ControlPoint.{ControlPoint}
use Rattle.flow_steps.specs.declared.next.Pace.{Pace}
use Rattle.flow_steps.specs.declared.next.Pace.TheVariants.{On, Off}
use Rattle.flow_steps.specs.declared.process.Process.{Process}
use Rattle.flow_steps.specs.Doing.{turned, doing}
use Rattle.flow_steps.specs.Holding.{on_heap, IsGiving, value_refs, outcome_refs, Gives, cancelled_if}
use Rattle.flow_steps.specs.Delivering.{made, complete_at, sent_into, sending}
use Rattle.flow_steps.specs.Points.{next_stand, noted_stand, noted, places_emptied, lost_from}
use Rattle.flow_steps.specs.Waiting.{operand_kept, Registered, register_all, left_for, Takes, copied, popped, IsGive, TakesBranch, no_turn, takes_branch, KeepsOperand, kept_marked, kept_unready, kept_ready, Waits, waits_ready, waits_refused, waits_suspended}
use Rattle.flow_steps.specs.Evaluating.{with_left, Evaluates, gives, throws, runs_out}
use Rattle.flow_steps.specs.Acting.{Values, args_of, Enrols, EffectAsked, ActorCalled, not_called, actor_starts, VoidCalled, void_not_called, void_starts, EffectMade, EffectDone, PredefinedCalled, MethodCalled}
use Rattle.flow_steps.specs.Stepping.{OnAfter, IsSet, made_in_place, IsNew, IsAct, IsCall, IsChanged, Grows, grown, is_full, IsChange, IsMethodBy, IsMethod, MethodStep, Does, GoesOnAt, Passes, no_pass, pass_begins, IsTest, ReferenceKept, OperandStep, Chooses, asks_operand, all_kept, IsClose, IsReturn, ErrorThrown, Ends, StepsOn, by_instruction, by_last, Runs, runs_on, runs_off, GoesOn}
use Rattle.std.specs.Prelude.{ℤ, ◌-◌}
use Rattle.flow_value.specs.declared.value.Value.TheVariants.{Ref, Int, rolls-Ref, rolls-Int}
use Rattle.flow_value.specs.declared.value.Value.TheFolds.{fold-roll-Value}
use Rattle.flow_value.specs.declared.value.Value.TheOpen as layer
use Rattle.flow_steps.specs.declared.call.Goal.TheVariants as goal
use Rattle.flow_machine_progress.specs.Stores.{NoPromise, StoresNone, NoPromiseStored}
use Rattle.flow_machine_progress.proofs.Stores.Beside.{drops_none, making, holding, holding_all, filling, withdrawing, cancelling, registering, with_framed, going, told, putting, emptying, losing_all}

pub good_is : (n k : Process) → n ≡ k → NoPromiseStored k.heap → NoPromiseStored n.heap
good_is n k e p = subst (λ (y : Process). NoPromiseStored y.heap) (sym e) p

pub turned_good : (m : Process) → NoPromiseStored m.heap → NoPromiseStored (turned m).heap
turned_good m p = by_turn (nat_lt 0 m.left)
  where
    by_turn : (b : Bool) → NoPromiseStored (if b then record m { left = m.left - 1 } else record m { spent = true }).heap
    by_turn true = p
    by_turn false = p

pub noted_good : (s : ControlPoint) (m : Process) → NoPromiseStored m.heap → NoPromiseStored (noted s m).heap
noted_good s m p = told s.noted s.actor.0 s.place s.instruction m.heap p

-- values are left over
pub left_over : (s : ControlPoint) (vs : List Value) (m n : Process) (pace : Pace) → OnAfter s vs m pace n → NoPromiseStored m.heap → NoPromiseStored n.heap
left_over s [] m n pace h p = good_is n m h.1 p
left_over s (v ∷ vs) m n pace h p = good_is n _ h.1 (drops_none (refs_in (v ∷ vs)) (task.Run s.actor ∷ (noted s m).heap.tasks) (tt, noted_good s m p))

-- evaluation
pub evaluates : {A B : Type 0} (s : ControlPoint) (seen : B → A) (comes_to : Res A) (m n : Process) (goes : B → Process → Pace → Process → Type 0) (pace : Pace)
    → ((v : B) (k n : Process) (pace : Pace) → goes v k pace n → NoPromiseStored k.heap → NoPromiseStored n.heap) → Evaluates s seen comes_to m goes pace n
    → NoPromiseStored m.heap → NoPromiseStored n.heap
evaluates s seen comes_to m n goes pace further (gives b left a q done h) p = further b (with_left left m) q a h p
evaluates s seen comes_to m n goes pace further (throws e left q fails h) p = good_is q _ h (tt, noted_good s (with_left left m) p)
evaluates s seen comes_to m n goes pace further (runs_out q spent h) p = good_is q _ h (noted_good s (with_left 0 m) p)

-- A result that is given is no promise.
future_seen : (k : CellId) → NoPromise (value_of (Ref kind.Future k))
future_seen k = subst NoPromise (sym (ap value_of (sym (rolls-Ref kind.Future k)) ∙ fold-roll-Value ValueTree value_step (layer.Ref kind.Future k))) tt

pub stream_seen : (k : CellId) → NoPromise (value_of (Ref kind.FutureStream k))
stream_seen k = subst NoPromise (sym (ap value_of (sym (rolls-Ref kind.FutureStream k)) ∙ fold-roll-Value ValueTree value_step (layer.Ref kind.FutureStream k))) tt

pub number_seen : (n : ℤ) → NoPromise (value_of (Int n))
number_seen n = subst NoPromise (sym (ap value_of (sym (rolls-Int n)) ∙ fold-roll-Value ValueTree value_step (layer.Int n))) tt

stores_none : (g : Goal) (i : ActorId) (v : Value) (t : Task) → IsGiving g i v t → NoPromise (value_of v) → StoresNone t
stores_none goal.Stored i v (task.Store j b) is none = subst (λ (y : Value). NoPromise (value_of y)) (sym is.1) none
stores_none goal.Stored i v (task.Run j) is none = absurd is
stores_none goal.Stored i v (task.Give j b o) is none = absurd is
stores_none goal.Stored i v (task.Throw j e) is none = absurd is
stores_none goal.Stored i v (task.Catch j e) is none = absurd is
stores_none goal.Stored i v (task.Fire k) is none = absurd is
stores_none goal.Stored i v (task.Drop kd k) is none = absurd is
stores_none goal.Stored i v (task.Keep j n k) is none = absurd is
stores_none goal.Stored i v (task.Close j o) is none = absurd is
stores_none (goal.Kept m) i v (task.Keep j n k) is none = tt
stores_none (goal.Kept m) i v (task.Store j b) is none = absurd is
stores_none (goal.Kept m) i v (task.Run j) is none = absurd is
stores_none (goal.Kept m) i v (task.Give j b o) is none = absurd is
stores_none (goal.Kept m) i v (task.Throw j e) is none = absurd is
stores_none (goal.Kept m) i v (task.Catch j e) is none = absurd is
stores_none (goal.Kept m) i v (task.Fire k) is none = absurd is
stores_none (goal.Kept m) i v (task.Drop kd k) is none = absurd is
stores_none (goal.Kept m) i v (task.Close j o) is none = absurd is

pub gives_good : (g : Goal) (i : ActorId) (v : Value) (m n : Process) → NoPromise (value_of v) → Gives g i v m n → NoPromiseStored m.heap → NoPromiseStored n.heap
gives_good g i v m n none h p = good_is n _ h.given_by (stores_none g i v h.task h.giving none, (tt, holding_all (value_refs v) m.heap p))

pub gives_future : (g : Goal) (i : ActorId) (k : CellId) (m n : Process) → Gives g i (Ref kind.Future k) m n → NoPromiseStored m.heap → NoPromiseStored n.heap
gives_future g i k m n h p = gives_good g i (Ref kind.Future k) m n (future_seen k) h p

-- effects
effect_asked : (i : ActorId) (g : Goal) (x : Option asks.Effect) (m n : Process) → EffectAsked i g x m n → NoPromiseStored m.heap → NoPromiseStored n.heap
effect_asked i g (Some (asks.Draw lo hi)) m n h p = good_is n _ h p
effect_asked i g (Some (asks.Delay ticks)) m n h p = good_is n _ h p
effect_asked i g (Some (asks.Listen port)) m n h p = good_is n _ h p
effect_asked i g (Some asks.Never) m n h p = gives_future g i h.cell (on_heap (made kind.Future) m) n h.given (making kind.Future m.heap p)
effect_asked i g (Some (asks.Disk request)) m n h p = good_is n _ h.asks p
effect_asked i g (Some (asks.Make k)) m n h p = absurd h
effect_asked i g (Some (asks.Start k vs)) m n h p = absurd h
effect_asked i g None m n h p = absurd h

pub enrolled_good : (code : Code) (class : ℕ) (vs : List Value) (i : ActorId) (k : CellId) (m n : Process) → Enrols code class vs i k m n → NoPromiseStored m.heap → NoPromiseStored n.heap
enrolled_good code class vs i k m n h p = good_is n _ h.made (holding_all (refs_in vs) _ (making kind.Future m.heap p))

actor_called : (code : Code) (i : ActorId) (g : Goal) (class : ℕ) (vs : List Value) (m n : Process) → ActorCalled code i g class vs m n → NoPromiseStored m.heap → NoPromiseStored n.heap
actor_called code i g class vs m n (not_called t e) p = good_is n (turned m) e (turned_good m p)
actor_called code i g class vs m n (actor_starts t h) p =
    let enrolled = enrolled_good code class vs h.actor h.cell (turned m) h.enrolled h.enrols (turned_good m p) in
    good_is n _ h.starts.told (tt, gives_future g i h.cell h.enrolled h.given h.gives enrolled)

void_called : (code : Code) (i : ActorId) (class : ℕ) (vs : List Value) (m n : Process) → VoidCalled code i class vs m n → NoPromiseStored m.heap → NoPromiseStored n.heap
void_called code i class vs m n (void_not_called t e) p = good_is n (turned m) e (turned_good m p)
void_called code i class vs m n (void_starts t h) p =
    good_is n _ h.starts.told (tt, (tt, good_is h.enrolled _ h.enrols.made (holding_all (refs_in vs) (turned m).heap (turned_good m p))))

effect_made : (code : Code) (i : ActorId) (g : Goal) (e : Effect) (args : Values) (m n : Process) → EffectMade code i g e args m n → NoPromiseStored m.heap → NoPromiseStored n.heap
effect_made code i g (effect.World called) args m n h p = effect_asked i g _ m n h p
effect_made code i g (effect.Actor class) args m n h p = actor_called code i g class args.items m n h p

effect_done : (code : Code) (s : ControlPoint) (g : Goal) (e : Effect) (args : Values) (m n : Process) (pace : Pace) → EffectDone code s g e args m pace n → NoPromiseStored m.heap
    → NoPromiseStored n.heap
effect_done code s g e args m n pace h p = effect_made code s.actor g e args (noted s m) n h.1 (noted_good s m p)

-- call statements
predefined_called : (i : ActorId) (q : Predefined) (args : Values) (m n : Process) → PredefinedCalled i q args m n → NoPromiseStored m.heap → NoPromiseStored n.heap
predefined_called i predefined.Trace args m n h p = good_is n _ h.told (tt, p)
predefined_called i predefined.SendTo args m n h p = good_is n _ h.asks p
predefined_called i _ args m n h p = absurd h

sending_good : (i : ActorId) (kd : Kind) (k : ℕ) (o : Outcome) (m : Process) → NoPromiseStored m.heap → NoPromiseStored (sending i kd k o m).heap
sending_good i kd k o m p = by_test (complete_at kd k m.heap) (nat_lt 0 m.left)
  where
    by_test : (b c : Bool) → NoPromiseStored (if b then doing (task.Throw i (record { 0 = already_set })) m else if c then on_heap (sent_into i kd k o) (turned m) else turned m).heap
    by_test true c = (tt, p)
    by_test false false = turned_good m p
    by_test false true = filling kd k o _ (tt, holding_all (outcome_refs o) (turned m).heap (turned_good m p))

owner_good : (d : Dropped) (m : Process) → NoPromiseStored m.heap → NoPromiseStored (cancelled_if d m).heap
owner_good (after.Cancel a) m p = cancelling a.0 m.heap p
owner_good _ m p = p

method_called : (i : ActorId) (called : Method) (kd : Kind) (k : CellId) (arg : Option Value) (m n : Process) → MethodCalled i called kd k arg m n → NoPromiseStored m.heap → NoPromiseStored n.heap
method_called i called kind.Promise k arg m n h p = good_is n _ h.sends (sending_good i kind.Promise k.0 h.outcome m p)
method_called i called kind.PromiseStream k arg m n h p = good_is n _ h.sends (sending_good i kind.PromiseStream k.0 h.outcome m p)
method_called i called kind.Future k arg m n h p = good_is n _ h.1 (owner_good _ (doing (task.Run i) m) (tt, p))
method_called i called kind.FutureStream k arg m n h p = absurd h

call_is : (code : Code) (s : ControlPoint) (aim : Aim) (called : Method) (sent : Option Value) (m n : Process) (pace : Pace) → IsCall code s aim called sent m pace n → NoPromiseStored m.heap
    → NoPromiseStored n.heap
call_is code s aim called sent m n pace h p = method_called s.actor called h.kind h.cell sent (noted (next_stand s) m) n h.calls (noted_good (next_stand s) m p)

-- a vector is changed in its place
changed_good : (code : Code) (i : ActorId) (aim : Aim) (es new : ValueTrees) (m n : Process) (old : Option Value) → IsChanged code i aim es new m old n → NoPromiseStored m.heap
    → NoPromiseStored n.heap
changed_good code i aim es new m n old h p = good_is n _ h.assigns.put (putting i.0 aim.place h.assigns.root m.heap p)

grows_good : (code : Code) (s : ControlPoint) (aim : Aim) (v : Value) (m n : Process) (pace : Pace) → Grows code s aim v m pace n → NoPromiseStored m.heap → NoPromiseStored n.heap
grows_good code s aim v m n pace (grown es old q room h) p =
    changed_good code s.actor aim es _ (on_heap (hold_all (value_refs v)) m) q old h (holding_all (value_refs v) m.heap p)
grows_good code s aim v m n pace (is_full es q at full e) p = good_is q _ e (tt, noted_good s m p)

change_good : (code : Code) (s : ControlPoint) (aim : Aim) (how : Change) (sent : Option Value) (m n : Process) (pace : Pace) → IsChange code s aim how sent m pace n → NoPromiseStored m.heap
    → NoPromiseStored n.heap
change_good code s aim change.Grows (Some v) m n pace h p = grows_good code s aim v m n pace h p
change_good code s aim change.Grows None m n pace h p = absurd h
change_good code s aim change.Clears sent m n pace h p =
    left_over _ _ h.between n pace h.after (changed_good code s.actor aim h.elements NoValues m h.between h.old h.changed p)

method_is : (code : Code) (s : ControlPoint) (aim : Aim) (called : Method) (sent : Option Value) (m n : Process) (pace : Pace) → IsMethod code s aim called sent m pace n → NoPromiseStored m.heap
    → NoPromiseStored n.heap
method_is code s aim called sent m n pace = by_change (change_by (Some called))
  where
    by_change : (o : Option Change) → IsMethodBy o code s aim called sent m pace n → NoPromiseStored m.heap → NoPromiseStored n.heap
    by_change None h p = call_is code s aim called sent m n pace h p
    by_change (Some how) h p = change_good code s aim how sent m n pace h p

method_step : (code : Code) (s : ControlPoint) (aim : Aim) (called : Method) (es : List Resolved) (m n : Process) (pace : Pace) → MethodStep code s aim called es m pace n → NoPromiseStored m.heap
    → NoPromiseStored n.heap
method_step code s aim called [] m n pace h p = method_is code s aim called None m n pace h p
method_step code s aim called (e ∷ []) m n pace h p = evaluates s value_of _ m n _ pace (λ v k n pace h p. method_is code s aim called (Some v) k n pace h p) h p
method_step code s aim called (e ∷ f ∷ es) m n pace h p = absurd h

act_is : (code : Code) (s : ControlPoint) (a : Act) (args : Values) (m n : Process) (pace : Pace) → IsAct code s a args m pace n → NoPromiseStored m.heap → NoPromiseStored n.heap
act_is code s (act.World called) args m n pace h p = predefined_called s.actor called args (noted (next_stand s) m) n h.1 (noted_good (next_stand s) m p)
act_is code s (act.Actor class) args m n pace h p = void_called code s.actor class args.items (noted (next_stand s) m) n h.1 (noted_good (next_stand s) m p)
act_is code s (act.Function f) args m n pace h p = evaluates s value_of _ m n _ pace (λ v k n pace h p. good_is n k h.1 p) h p

set_is : (code : Code) (s : ControlPoint) (aim : Aim) (v : Value) (m n : Process) (pace : Pace) → IsSet code s aim v m pace n → NoPromiseStored m.heap → NoPromiseStored n.heap
set_is code s aim v m n pace h p =
    left_over _ _ h.between n pace h.after
    (good_is h.between _ h.assigns.put (putting s.actor.0 aim.place h.assigns.root _ (holding_all (value_refs v) m.heap p)))

new_is : (s : ControlPoint) (place : ℕ) (kd : Kind) (m n : Process) (pace : Pace) → IsNew s place kd m pace n → NoPromiseStored m.heap → NoPromiseStored n.heap
new_is s place kd m n pace h p =
    left_over _ _ (on_heap (made_in_place s.actor.0 place kd h.cell) m) n pace h.after
    (putting s.actor.0 place _ _ (holding kd h.cell.0 (made kd m.heap) (making kd m.heap p)))

does : (code : Code) (s : ControlPoint) (x : Instruction) (m n : Process) (pace : Pace) → Does code s x m pace n → NoPromiseStored m.heap → NoPromiseStored n.heap
does code s (instruction.Set aim e) m n pace h p = evaluates s value_of _ m n _ pace (λ v k n pace h p. set_is code s aim v k n pace h p) h p
does code s (instruction.Effect aim e args) m n pace h p = evaluates s args_of _ m n _ pace (λ v k n pace h p. effect_done code s _ e v k n pace h p) h p
does code s (instruction.New place kd) m n pace h p = new_is s place kd m n pace h p
does code s (instruction.Act a args) m n pace h p = evaluates s args_of _ m n _ pace (λ v k n pace h p. act_is code s a v k n pace h p) h p
does code s (instruction.Method aim called args) m n pace h p = method_step code s aim called args.items m n pace h p
does code s (instruction.Drop places) m n pace h p =
    left_over _ _ (on_heap (places_emptied s.actor.0 places.items) m) n pace h (emptying s.actor.0 places.items m.heap p)
does code s instruction.Invalid m n pace h p = absurd h

-- the ends of blocks
goes_at : (s : ControlPoint) (b : ℕ) (m n : Process) (pace : Pace) → GoesOnAt s b m pace n → NoPromiseStored m.heap → NoPromiseStored n.heap
goes_at s b m n pace h p = good_is n m h.3 p

passes : (s : ControlPoint) (b : ℕ) (m n : Process) (pace : Pace) → Passes s b m pace n → NoPromiseStored m.heap → NoPromiseStored n.heap
passes s b m n pace (no_pass t q to left e) p = good_is q (noted t (turned m)) e (noted_good t (turned m) (turned_good m p))
passes s b m n pace (pass_begins t q to left e) p = good_is q (turned m) e (turned_good m p)

-- waits
left_for_good : (s : ControlPoint) (t : Task) (h : HeapTree) → StoresNone t → NoPromiseStored h → NoPromiseStored (left_for s t h)
left_for_good s t h none p =
    let i = s.actor.0 in
    let two = lost_from i s.class.now.slots (pushed t h) in
    going i s.place (length s.block.now.body.items) (withdrawn i two) (withdrawing i two (losing_all i s.class.now.slots (pushed t h) (none, p)))

takes_good : (k : ℕ) (o : Outcome) (m n : Process) → Takes k o m n → NoPromiseStored m.heap → NoPromiseStored n.heap
takes_good k o m n (copied at e) p = good_is n _ e (holding_all (outcome_refs o) m.heap p)
takes_good k o m n (popped s none at first e) p = good_is n _ e p

give_stores : (i : ActorId) (b : ℕ) (o : Outcome) (t : Task) → IsGive i b o t → StoresNone t
give_stores i b o (task.Give j c x) is = tt
give_stores i b o (task.Run j) is = absurd is
give_stores i b o (task.Throw j e) is = absurd is
give_stores i b o (task.Catch j e) is = absurd is
give_stores i b o (task.Fire k) is = absurd is
give_stores i b o (task.Drop kd k) is = absurd is
give_stores i b o (task.Store j v) is = absurd is
give_stores i b o (task.Keep j n k) is = absurd is
give_stores i b o (task.Close j x) is = absurd is

pub branch_good : (s : ControlPoint) (b : ℕ) (k : CellId) (m n : Process) → TakesBranch s b k m n → NoPromiseStored m.heap → NoPromiseStored n.heap
branch_good s b k m n (no_turn t e) p = good_is n (turned m) e (turned_good m p)
branch_good s b k m n (takes_branch t h) p =
    good_is n _ h.leaves
    (left_for_good s h.task h.between.heap (give_stores s.actor b h.outcome h.task h.gives) (takes_good k.0 h.outcome (turned m) h.between h.takes (turned_good m p)))

pub keeps_good : (s : ControlPoint) (x : Held) (m n : Process) (pace : Pace) → KeepsOperand s x m pace n → NoPromiseStored m.heap → NoPromiseStored n.heap
keeps_good s x m n pace (kept_marked q marked e) p = good_is q _ e (left_for_good s _ _ tt (with_framed _ s.actor.0 m.heap p))
keeps_good s x m n pace (kept_unready q marked ready e) p = good_is q _ e (with_framed _ s.actor.0 m.heap p)
keeps_good s x m n pace (kept_ready q b marked ready of h) p = branch_good s b x.cell (on_heap (operand_kept s.actor.0 x) m) q h (with_framed _ s.actor.0 m.heap p)

registered_good : (i : ℕ) (xs : List Held) (m : Process) (b : Bool) (h : HeapTree) → register_all i xs m.heap ≡ (b, h) → NoPromiseStored m.heap → NoPromiseStored h
registered_good i xs m b h e p = subst NoPromiseStored (ap (λ (r : Registered). r.1) e) (registering i xs m.heap p)

waits_good : (s : ControlPoint) (group : ℕ) (m n : Process) → Waits s group m n → NoPromiseStored m.heap → NoPromiseStored n.heap
waits_good s group m n (waits_ready x b first of h) p = branch_good s b x.cell m n h p
waits_good s group m n (waits_refused h first all e) p = good_is n _ e (left_for_good s _ h tt (registered_good s.actor.0 _ m false h all p))
waits_good s group m n (waits_suspended h first all e) p =
    good_is n _ e (with_framed _ s.actor.0 _ (losing_all s.actor.0 s.class.now.slots h (registered_good s.actor.0 _ m true h all p)))

reference_good : (s : ControlPoint) (c : ℕ) (v : ValueTree) (m n : Process) (pace : Pace) → ReferenceKept s c v m pace n → NoPromiseStored m.heap → NoPromiseStored n.heap
reference_good s c (RefValue kd k) m n pace h p = keeps_good s _ (on_heap (hold kd k) m) n pace h (holding kd k m.heap p)
reference_good s c (IntValue i) m n pace h p = absurd h
reference_good s c (BoolValue b) m n pace h p = absurd h
reference_good s c (TextValue t) m n pace h p = absurd h
reference_good s c VoidValue m n pace h p = absurd h
reference_good s c (ErrorValue e) m n pace h p = absurd h
reference_good s c (CompositeValue r vs) m n pace h p = absurd h

operand_good : (code : Code) (s : ControlPoint) (c : ℕ) (o : Operand) (m n : Process) (pace : Pace) → OperandStep code s c o m pace n → NoPromiseStored m.heap → NoPromiseStored n.heap
operand_good code s c (operand.Value e) m n pace h p = evaluates s value_of _ m n _ pace (λ v k n pace h p. reference_good s c (value_of v) k n pace h p) h p
operand_good code s c (operand.Effect e args) m n pace h p = evaluates s args_of _ m n _ pace (λ v k n pace h p. effect_done code s _ e v k n pace h p) h p

chooses_good : (code : Code) (s : ControlPoint) (number : ℕ) (g : Group) (m n : Process) (pace : Pace) → Chooses code s number g m pace n → NoPromiseStored m.heap → NoPromiseStored n.heap
chooses_good code s number g m n pace (asks_operand b at h) p = operand_good code s _ b.operand m n pace h p
chooses_good code s number g m n pace (all_kept at off h) p = waits_good s number m n h p

thrown_good : (s : ControlPoint) (v : ValueTree) (m n : Process) (pace : Pace) → ErrorThrown s v m pace n → NoPromiseStored m.heap → NoPromiseStored n.heap
thrown_good s (ErrorValue e) m n pace h p = good_is n _ h.1 (tt, noted_good s m p)
thrown_good s (IntValue i) m n pace h p = absurd h
thrown_good s (BoolValue b) m n pace h p = absurd h
thrown_good s (TextValue t) m n pace h p = absurd h
thrown_good s VoidValue m n pace h p = absurd h
thrown_good s (RefValue kd c) m n pace h p = absurd h
thrown_good s (CompositeValue r vs) m n pace h p = absurd h

pub close_stores : (i : ActorId) (o : Outcome) (t : Task) → IsClose i o t → StoresNone t
close_stores i o (task.Close j x) is = tt
close_stores i o (task.Run j) is = absurd is
close_stores i o (task.Give j b v) is = absurd is
close_stores i o (task.Throw j v) is = absurd is
close_stores i o (task.Catch j v) is = absurd is
close_stores i o (task.Fire k) is = absurd is
close_stores i o (task.Drop kd k) is = absurd is
close_stores i o (task.Store j v) is = absurd is
close_stores i o (task.Keep j n k) is = absurd is

return_good : (s : ControlPoint) (v : Value) (m n : Process) (pace : Pace) → IsReturn s v m pace n → NoPromiseStored m.heap → NoPromiseStored n.heap
return_good s v m n pace h p =
    let held = on_heap (hold_all (value_refs v)) m in
    good_is n _ h.ends (losing_all s.actor.0 0 (pushed h.task (noted s held).heap) (close_stores s.actor _ h.task h.closes, noted_good s held (holding_all (value_refs v) m.heap p)))

test_good : (s : ControlPoint) (one other : ℕ) (b : Bool) (m n : Process) (pace : Pace) → IsTest s one other b m pace n → NoPromiseStored m.heap → NoPromiseStored n.heap
test_good s one other true m n pace h p = goes_at s one m n pace h p
test_good s one other false m n pace h p = goes_at s other m n pace h p

ends : (code : Code) (s : ControlPoint) (x : Last) (m n : Process) (pace : Pace) → Ends code s x m pace n → NoPromiseStored m.heap → NoPromiseStored n.heap
ends code s (last.Goto b) m n pace h p = goes_at s b m n pace h p
ends code s (last.Pass b) m n pace h p = passes s b m n pace h p
ends code s (last.Test e one other) m n pace h p = evaluates s _ _ m n _ pace (λ v k n pace h p. test_good s one other v k n pace h p) h p
ends code s (last.Choose g) m n pace h p = chooses_good code (noted_stand s) g h.group (noted s m) n pace h.chooses (noted_good s m p)
ends code s (last.Return e) m n pace h p = evaluates s value_of _ m n _ pace (λ v k n pace h p. return_good s v k n pace h p) h p
ends code s (last.Throw e) m n pace h p = evaluates s value_of _ m n _ pace (λ v k n pace h p. thrown_good s (value_of v) k n pace h p) h p

step_good : (code : Code) (s : ControlPoint) (m n : Process) (pace : Pace) → StepsOn code s m pace n → NoPromiseStored m.heap → NoPromiseStored n.heap
step_good code s m n pace (by_instruction x at h) p = does code s x m n pace h p
step_good code s m n pace (by_last at h) p = ends code s s.block.now.last m n pace h p

-- a row of steps
pub runs_good : (code : Code) (s : ControlPoint) (m n : Process) → Runs code s m n → NoPromiseStored m.heap → NoPromiseStored n.heap
runs_good code s m n (runs_on a t b between c one more) p = runs_good code t between n more (step_good code s m between (On t) one p)
runs_good code s m n (runs_off a b c one) p = step_good code s m n Off one p

pub goes_on_good : (code : Code) (pace : Pace) (m n : Process) → GoesOn code pace m n → NoPromiseStored m.heap → NoPromiseStored n.heap
goes_on_good code (On t) m n more p = runs_good code t m n more p
goes_on_good code Off m n more p = good_is n m more p
