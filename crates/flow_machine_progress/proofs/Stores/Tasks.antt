-- Each task, done in memory.
use Rattle.std.proofs.Common.{ℕ, pos, nat_lt, Bool, true, false, [], ◌∷◌, if◌then◌else◌, subst}
use Rattle.std.specs.declared.option.Option.{Option}
use Rattle.std.specs.declared.option.Option.TheVariants.{None, Some}
use Rattle.flow_base.specs.declared.ids.ActorId.{ActorId}
use Rattle.flow_base.specs.declared.ids.CellId.{CellId}
use Rattle.flow_base.specs.declared.ids.ErrorCode.{ErrorCode}
use Rattle.flow_value.specs.declared.value.Value.{Value}
use Rattle.flow_value.specs.declared.value.Value.TheVariants as value
use Rattle.flow_value.specs.declared.value.Outcome.{Outcome}
use Rattle.flow_value.specs.declared.value.Outcome.TheVariants as outcome
use Rattle.flow_value.specs.declared.value.Kind.{Kind}
use Rattle.flow_value.specs.declared.value.Kind.TheVariants as kind
use Rattle.flow_code.specs.declared.class.Catcher.{Catcher}
use Rattle.flow_code.specs.declared.program.Code.{Code}
use Rattle.flow_numbered.specs.Numbered.{thing}
use Rattle.flow_cell.specs.declared.waiter.Waiter.{Waiter}
use Rattle.flow_cancel.specs.declared.task.Task.{Task}
use Rattle.flow_cancel.specs.declared.task.Task.TheVariants as task
use Rattle.flow_cancel.specs.declared.task.Dropped.TheVariants as after
use Rattle.flow_cancel.specs.Heap.{HeapTree, pushed, finished}
use Rattle.flow_cancel.specs.Dropping.{Lost, refs_in, dropped, dropping}
use Rattle.flow_heap_refinement.specs.Holds.{filled_in}
use Rattle.flow_steps.specs.declared.process.Process.{Process}
use Rattle.flow_steps.specs.Doing.{turned, doing, telling}
use Rattle.flow_steps.specs.Holding.{on_heap, with_heap, broken, filled_broken, lost_by, lost, outcome_refs, refs_dropped, futures_of}
use Rattle.flow_steps.specs.Delivering.{without_promise, result_set, end_line, ended_with, closing, content_brought}
use Rattle.flow_steps.specs.Points.{values, next_stand, places_taken, places_emptied}
use Rattle.flow_cancel.specs.Leaving.{withdrawn}
use Rattle.flow_steps.specs.Tasks.{bound, Given, TopTaken, with_error, dropped_places, caught, Raises, FiresAt, IsDone, main_waits, main_starts}
use Rattle.flow_machine_progress.specs.Stores as law
use Rattle.flow_machine_progress.specs.Stores.{AllStoreNone, NoPromiseStored}
use Rattle.flow_machine_progress.proofs.Stores.Beside.{drops_none, holding, holding_all, filling, losing_promise, withdrawing, cancelling, going, putting, emptying, losing_all, losing}
use Rattle.flow_machine_progress.proofs.Stores.Steps.{good_is, turned_good, noted_good, left_over, enrolled_good, branch_good, keeps_good, close_stores, runs_good, goes_on_good}

-- the loss of a reference
broken_good : (kd : Kind) (k : ℕ) (m : Process) → NoPromiseStored m.heap → NoPromiseStored (broken kd k m).heap
broken_good kd k m p = by_turn (nat_lt 0 m.left)
  where
    by_turn : (b : Bool) → NoPromiseStored (if b then filled_broken kd k (turned m) else turned m).heap
    by_turn false = turned_good m p
    by_turn true = filling kd k _ (turned m).heap (turned_good m p)

lost_by_good : (kd : Kind) (k : ℕ) (l : Lost) (m : Process) → NoPromiseStored l.0 → NoPromiseStored (lost_by kd k l m).heap
lost_by_good kd k (h, after.Nothing) m p = p
lost_by_good kd k (h, after.Freed) m p = p
lost_by_good kd k (h, after.PortFreed) m p = p
lost_by_good kd k (h, after.Broken) m p = broken_good kd k (with_heap h m) p
lost_by_good kd k (h, after.Cancel a) m p = cancelling a.0 h p

lost_good : (kd : Kind) (k : ℕ) (m : Process) → NoPromiseStored m.heap → NoPromiseStored (lost kd k m).heap
lost_good kd k m p = lost_by_good kd k (dropped kd k m.heap) m (losing kd k m.heap p)

-- an actor ends
result_good : (k : ℕ) (o : Outcome) (m : Process) → NoPromiseStored m.heap → NoPromiseStored (result_set k o m).heap
result_good k o m p = by_turn (nat_lt 0 m.left)
  where
    by_turn : (b : Bool) → NoPromiseStored (if b then on_heap (filled_in kind.Future k o) (on_heap (without_promise k) (turned m)) else turned m).heap
    by_turn false = turned_good m p
    by_turn true = filling kind.Future k o _ (losing_promise k (turned m).heap (turned_good m p))

ended_good : (r : Option CellId) (o : Outcome) (m : Process) → NoPromiseStored m.heap → NoPromiseStored (ended_with r o m).heap
ended_good None o m p = drops_none (outcome_refs o) m.heap.tasks p
ended_good (Some k) o m p = by_futures (nat_lt 0 (futures_of (thing m.heap.cells.things k.0)))
  where
    by_futures : (b : Bool) → NoPromiseStored (if b then result_set k.0 o m else on_heap (refs_dropped (outcome_refs o)) (lost kind.Promise k.0 m)).heap
    by_futures true = result_good k.0 o m p
    by_futures false = drops_none (outcome_refs o) (lost kind.Promise k.0 m).heap.tasks (lost_good kind.Promise k.0 m p)

closing_good : (i : ActorId) (o : Outcome) (r : Option CellId) (m : Process) → NoPromiseStored m.heap → NoPromiseStored (closing i o r m).heap
closing_good i o r m p = by_turn (nat_lt 0 m.left)
  where
    by_turn : (b : Bool) → NoPromiseStored (if b then telling (end_line i o) (ended_with r o (turned m)) else turned m).heap
    by_turn true = ended_good r o (turned m) (turned_good m p)
    by_turn false = turned_good m p

-- an error is thrown
error_good : (i : ℕ) (n : Option ℕ) (e : ErrorCode) (h : HeapTree) → NoPromiseStored h → NoPromiseStored (with_error i n e h)
error_good i None e h p = p
error_good i (Some n) e h p = putting i n _ h p

caught_good : (i : ActorId) (c : Catcher) (e : ErrorCode) (h : HeapTree) → NoPromiseStored h → NoPromiseStored (caught i c e h)
caught_good i c e h p =
    let one = pushed (task.Catch i e) h in
    let places = places_emptied i.0 c.drops.items one in
    let two = dropped_places i.0 c.drops.items one in
    let three = with_error i.0 c.error e two in
    going i.0 c.block 0 (withdrawn i.0 three)
    (withdrawing i.0 three
    (error_good i.0 c.error e two (drops_none (refs_in (places_taken i.0 c.drops.items one)) places.tasks (emptying i.0 c.drops.items one (tt, p)))))

raised_good : (i : ActorId) (c : Option Catcher) (e : ErrorCode) (m n : Process) → Raises i c e m n → NoPromiseStored m.heap → NoPromiseStored n.heap
raised_good i (Some c) e m n h p = good_is n _ h (caught_good i c e m.heap p)
raised_good i None e m n h p =
    good_is n _ h.fails (withdrawing i.0 _ (losing_all i.0 0 (pushed h.task m.heap) (close_stores i _ h.task h.closes, p)))

-- a task is taken off
off : (t : Task) (m start : Process) → TopTaken t m start → NoPromiseStored m.heap → NoPromiseStored start.heap
off t m start taken p =
    let all : AllStoreNone (t ∷ taken.tasks) = subst AllStoreNone taken.top p in good_is start _ taken.rest all.1

bound_good : (i : ℕ) (o : Option ℕ) (v : Value) (h : HeapTree) → NoPromiseStored h → NoPromiseStored (bound i o v h)
bound_good i None v h p = p
bound_good i (Some n) v h p = putting i n (Some v) h p

given_good : (code : Code) (i : ActorId) (b : ℕ) (o : Outcome) (m n : Process) → Given code i b o m n → NoPromiseStored m.heap → NoPromiseStored n.heap
given_good code i b (outcome.Error e) m n h p = good_is n _ h (tt, p)
given_good code i b (outcome.Value v) m n h p =
    goes_on_good code h.pace h.between n h.further
    (left_over _ _ (on_heap (bound i.0 h.branch.into v) m) h.between h.pace h.after (bound_good i.0 h.branch.into v m.heap p))

fires_good : (code : Code) (kd : Kind) (k : CellId) (w : Option Waiter) (m n : Process) → FiresAt code kd k w m n → NoPromiseStored m.heap → NoPromiseStored n.heap
fires_good code kd k None m n h p = good_is n _ h (lost_good kd k.0 m p)
fires_good code kd k (Some w) m n h p = branch_good h.stand h.branch k (doing (task.Fire k) m) n h.takes (tt, p)

drop_good : (kd : Kind) (k : ℕ) (m : Process) → NoPromiseStored m.heap → NoPromiseStored (if nat_lt 0 m.left then lost kd k (turned m) else turned m).heap
drop_good kd k m p = by_turn (nat_lt 0 m.left)
  where
    by_turn : (b : Bool) → NoPromiseStored (if b then lost kd k (turned m) else turned m).heap
    by_turn true = lost_good kd k (turned m) (turned_good m p)
    by_turn false = turned_good m p

by_task : (code : Code) (t : Task) (m n : Process) → IsDone code t m n → NoPromiseStored m.heap → NoPromiseStored n.heap
by_task code (task.Run i) m n h p = runs_good code h.stand m n h.runs p
by_task code (task.Give i b o) m n h p = given_good code i b o.value m n h p
by_task code (task.Throw i e) m n h p = good_is n _ h.told (raised_good i _ e m h.between h.raises p)
by_task code (task.Catch i e) m n h p = good_is n _ h (tt, p)
by_task code (task.Fire k) m n h p = fires_good code h.kind k _ m n h.fires p
by_task code (task.Drop kd k) m n h p = good_is n _ h (drop_good kd k.0 m p)
by_task code (task.Store i v) m n h p =
    good_is n _ h.goes
    (noted_good (next_stand h.stand) (on_heap (dropping (values h.old)) h.between)
    (drops_none (refs_in (values h.old)) h.between.heap.tasks (good_is h.between _ h.assigns.put (putting i.0 h.aim.place h.assigns.root m.heap p))))
by_task code (task.Keep i c k) m n h p =
    goes_on_good code h.pace h.between n h.further (keeps_good h.stand _ h.start h.between h.pace h.keeps (off (task.Run i) m h.start h.next p))
by_task code (task.Close i o) m n h p = good_is n _ h.closes (closing_good i o.value h.note.result (on_heap (finished i.0) m) p)

pub task_stores : law.TaskStoresNone
task_stores code t m start n p taken h = by_task code t start n h (off t m start taken p)

pub main_stores : law.MainStoresNone
main_stores code me m n (main_waits t e) p = good_is n (turned m) e (turned_good m p)
main_stores code me m n (main_starts t h) p =
    good_is n _ h.starts.told
    (tt, holding kind.Future h.cell.0 h.between.heap (enrolled_good code h.class (value.Int (pos me.0) ∷ []) h.actor h.cell (turned m) h.between h.enrols (turned_good m p)))

pub brought_stores : law.DeliveredStoresNone
brought_stores kd k o m p = by_turn (nat_lt 0 m.left)
  where
    by_turn : (b : Bool) → NoPromiseStored (if b then on_heap (content_brought kd k o) (turned m) else turned m).heap
    by_turn true = filling kd k o _ (holding_all (outcome_refs o) (turned m).heap (turned_good m p))
    by_turn false = turned_good m p
