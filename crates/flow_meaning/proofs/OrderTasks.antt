-- Each task, and each delivery, keeps the order of tasks.
use Rattle.std.proofs.Common.{◌≡◌, ℕ, zero, suc, Bool, true, false, List, [], ◌∷◌, refl, sym, ap, ◌∙◌, subst}
use Rattle.std.specs.declared.option.Option.{Option}
use Rattle.std.specs.declared.option.Option.TheVariants.{None, Some}
use Rattle.flow_base.specs.ErrorNumbers.{operation_cancelled, broken_promise}
use Rattle.flow_value.specs.declared.value.Kind.{Kind}
use Rattle.flow_value.specs.declared.value.Kind.TheVariants as kind
use Rattle.flow_value.specs.Values.{ValueTree, OutcomeTree, GoodOutcome, BadOutcome}
use Rattle.flow_numbered.specs.Numbered.{thing, put, removed}
use Rattle.flow_meaning.specs.Cells.{Side, PromiseSide, FutureSide, side_of, Ref, Waiter, Cell, is_ready, waiters}
use Rattle.flow_meaning.specs.Requests.{Spot}
use Rattle.flow_meaning.specs.Process.{Task, Run, Give, Throw, Catch, Store, Keep, Close, Fire, Drop, Entry, Core, Raised}
use Rattle.flow_meaning.specs.Lines.{broken_line, throw_line, catch_line, end_line}
use Rattle.flow_meaning.specs.References.{value_in, Scan, reference_count}
use Rattle.flow_meaning.specs.Work.{writes, pushed, fill, take_branch, owner}
use Rattle.flow_meaning.specs.Dropping.{Loss, Kept, Freed, Broken, Orphan, Unheard, loss, port_of, suffer, lose_cell, lose_ref, drop, fire_to, fire_at, fire_cell, fire, set_result, give_result, close}
use Rattle.flow_meaning.specs.Step.{throw_core, OperandFate, GoesOn, Cancelled, Ready, with_operand, below, leave_kept, handle, enrol}
use Rattle.flow_meaning.specs.Deliver.{boot_core, stop_main, stop, closed_request, deliver, arrive}
use Rattle.flow_meaning.specs.Orderly.{tasks_of, Proceeds, steps, catches, ends, is_suspended, Stands, NextStep, Paired, AllWait, CellsWait, Rising}
use Rattle.flow_meaning.specs.Orderly as order
use Rattle.flow_meaning.proofs.Posture.{thing_removed_other, removed_none, Unless, unless, after_turn, Unmoved, IsOf, own_task, other_task, Awake}
use Rattle.flow_meaning.proofs.Shifts.{run_of, throw_of, catch_of, close_of, owned, OwnedLoss, owned_loss, cell_waits}
use Rattle.flow_meaning.proofs.TaskShifts.{Rest, rest_of, runs_by}
use Rattle.flow_meaning.proofs.Order.{Ordered, InHand, unmoved_stands, all_stand, rising_removed, waits_by, waits_removed}
use Rattle.flow_meaning.proofs.OrderWork.{dropping_ordered, fill_ordered, free_ordered, leave_ordered, branch_ordered, waits_in_hand, entry_ordered, cancel_ordered}
use Rattle.flow_meaning.proofs.OrderReact.{run_ordered, enrol_ordered}

-- drops
suffer_ordered : (k : ℕ) (l : Loss) (c : Core) → Ordered c → OwnedLoss c l → Unless Ordered (suffer k l c)
suffer_ordered k Kept c o h = unless c.halted o
suffer_ordered k Freed c o h = free_ordered k c o
suffer_ordered k Broken c o h = after_turn Ordered (λ d. fill k (BadOutcome broken_promise) (writes (broken_line k) d)) c c.left
    (λ n. fill_ordered k (BadOutcome broken_promise) (writes (broken_line k) (record c { left = n })) o)
suffer_ordered k (Orphan i e) c o h = unless (suffer k (Orphan i e) c).halted (cancel_ordered i e c o h)
suffer_ordered k (Unheard port) c o h = free_ordered k (record c { ports = removed c.ports port }) o

lose_cell_ordered : (scan : Scan) (s : Side) (k : ℕ) (x : Option Cell) (c : Core) → Ordered c → Unless Ordered (lose_cell scan s k x c)
lose_cell_ordered scan s k None c o = tt
lose_cell_ordered scan s k (Some cell) c o =
    let x = owner k c.entries in
    suffer_ordered k (loss s (reference_count scan PromiseSide k c) (reference_count scan FutureSide k c) cell x (port_of k c.ports)) c o
    (owned_loss c s (reference_count scan PromiseSide k c) (reference_count scan FutureSide k c) cell x (port_of k c.ports) (owned k c x o.3 refl))

lose_ref_ordered : (scan : Scan) (s : Side) (k : ℕ) (c : Core) → Ordered c → Unless Ordered (lose_ref scan s k c)
lose_ref_ordered scan s k c o = lose_cell_ordered scan s k (thing c.cells k) c o

pub drop_ordered : (scan : Scan) (kd : Kind) (k : ℕ) (c : Core) → Ordered c → Unless Ordered (drop scan kd k c)
drop_ordered scan kd k c o = after_turn Ordered (lose_ref scan (side_of kd) k) c c.left (λ n. lose_ref_ordered scan (side_of kd) k (record c { left = n }) o)

-- fires
fire_to_ordered : (k : ℕ) (cell : Cell) (w : Waiter) (x : Option Entry) (c : Core) → Ordered c → thing c.cells k ≡ Some cell → thing c.entries w.actor ≡ x
    → is_suspended (thing c.entries w.actor) ≡ Some true
    → Unless Ordered (fire_to k cell w x c)
fire_to_ordered k cell w None c o ck at h = tt
fire_to_ordered k cell w (Some e) c o ck at h =
    let p = pushed (Fire k) c in
    subst (λ y. Unless Ordered (take_branch w.actor w.branch k e [] y p)) ck (branch_ordered w.actor w.branch k e e [] p (waits_in_hand w.actor p o h) at)

fire_at_ordered : (scan : Scan) (k : ℕ) (cell : Cell) (r : Bool) (ws : List Waiter) (c : Core) → Ordered c → thing c.cells k ≡ Some cell → AllWait c.entries ws
    → Unless Ordered (fire_at scan k cell r ws c)
fire_at_ordered scan k cell r [] c o ck h = lose_ref_ordered scan FutureSide k c o
fire_at_ordered scan k cell false (w ∷ ws) c o ck h = lose_ref_ordered scan FutureSide k c o
fire_at_ordered scan k cell true (w ∷ ws) c o ck h = fire_to_ordered k cell w (thing c.entries w.actor) c o ck refl h.0

fire_cell_ordered : (scan : Scan) (k : ℕ) (x : Option Cell) (c : Core) → Ordered c → thing c.cells k ≡ x → Unless Ordered (fire_cell scan k x c)
fire_cell_ordered scan k None c o at = tt
fire_cell_ordered scan k (Some cell) c o at = fire_at_ordered scan k cell (is_ready cell) (waiters cell) c o at (cell_waits c.entries c.cells k cell o.2 at)

pub fire_ordered : (scan : Scan) (k : ℕ) (c : Core) → Ordered c → Unless Ordered (fire scan k c)
fire_ordered scan k c o = fire_cell_ordered scan k (thing c.cells k) c o refl

-- The newest task is off the stack: it was of no actor, or its actor is in hand.
paired_rest : (t : Task) (ts : List Task) → Paired (t ∷ ts) → Paired ts
paired_rest (Keep i spot r) ts h = h.1
paired_rest _ ts h = h

pub popped_other : (left : ℕ) (t : Task) (ts : List Task) (c : Core) → Ordered c → c.tasks ≡ t ∷ ts → ((j : ℕ) → tasks_of j (t ∷ ts) ≡ tasks_of j ts) → Ordered (record c { tasks = ts; left = left })
popped_other left t ts c o top h =
    (λ j. unmoved_stands j c (record c { tasks = ts; left = left }) (refl, sym (ap (tasks_of j) top ∙ h j)) (o.0 j), paired_rest t ts (subst Paired top o.1), o.2, o.3)

-- an actor whose task is off the stack
pub record Taken (i : ℕ) (t : Task) (ts : List Task) (c : Core) : Type 0 where
  pub awake : Awake i c
  pub rest : Rest i (t ∷ tasks_of i ts)
  pub others : (j : ℕ) → (i ≡ j → ⊥) → Unmoved j c (record c { tasks = ts })
  pub paired : Paired ts

pub taken_at : (i : ℕ) (t : Task) (ts : List Task) (c : Core) → Ordered c → c.tasks ≡ t ∷ ts → IsOf i t → Taken i t ts c
taken_at i t ts c o top h =
    let all : tasks_of i c.tasks ≡ t ∷ tasks_of i ts = ap (tasks_of i) top ∙ own_task i t ts h in
    let runs = runs_by i (is_suspended (thing c.entries i)) t (tasks_of i ts) (tasks_of i c.tasks) all (o.0 i) in record {
      awake = runs.0;
      rest = rest_of i (t ∷ tasks_of i ts) runs.1;
      others = λ j n. (refl, sym (ap (tasks_of j) top ∙ other_task i j t ts h n));
      paired = paired_rest t ts (subst Paired top o.1);
    }

pub in_hand : (i left : ℕ) (t : Task) (ts : List Task) (c : Core) → Ordered c → Taken i t ts c → tasks_of i ts ≡ [] → InHand i (record c { tasks = ts; left = left })
in_hand i left t ts c o h e = (e, λ j n. unmoved_stands j c (record c { tasks = ts }) (h.others j n) (o.0 j), h.paired, o.2, o.3)

-- the actor's next step is left
pub step_left : (i : ℕ) (t : Task) (ts : List Task) (c : Core) → Ordered c → Taken i t ts c → tasks_of i ts ≡ Run i ∷ [] → Ordered (record c { tasks = ts })
step_left i t ts c o h e =
    let d = record c { tasks = ts } in (
      all_stand i d (subst (λ s. Stands i s (tasks_of i ts)) (sym h.awake) (subst (Proceeds i) (sym e) steps)) (λ j n. unmoved_stands j c d (h.others j n) (o.0 j)),
      h.paired,
      o.2,
      o.3,
    )

pub below_in_hand : (i : ℕ) (c : Core) (ts : List Task) → Ordered c → c.tasks ≡ ts → NextStep i ts → InHand i (record c { tasks = below ts })
below_in_hand i c (Run j ∷ ts) o top h =
    let k = taken_at i (Run i) ts c o (top ∙ ap (λ n. Run n ∷ ts) (sym h)) (run_of i) in
    in_hand i c.left (Run i) ts c o k k.rest
below_in_hand i c ts o top h = absurd h

pub kept_ordered : (i : ℕ) (spot : Spot) (r : Ref) (e : Entry) (c : Core) → Ordered c → thing c.entries i ≡ Some e → Ordered (record c { entries = put c.entries i (with_operand spot r e) })
kept_ordered i spot r e c o at = entry_ordered i e (with_operand spot r e) c o at refl

pub leave_kept_ordered : (i b : ℕ) (v : OperandFate) (r : Ref) (en e0 : Entry) (vs : List ValueTree) (c : Core) → InHand i c → thing c.entries i ≡ Some e0 → (v ≡ GoesOn → ⊥)
    → Unless Ordered (leave_kept i b v r en vs c)
leave_kept_ordered i b GoesOn r en e0 vs c h at n = absurd (n refl)
leave_kept_ordered i b Cancelled r en e0 vs c h at n = unless c.halted (leave_ordered i en e0 vs (Throw i operation_cancelled) c h at (throw_of i operation_cancelled) order.throws h.2)
leave_kept_ordered i b Ready r en e0 vs c h at n = branch_ordered i b r.1 en e0 vs c h at

-- an error is thrown
pub throw_core_ordered : (i err : ℕ) (r : Raised) (x : Option Entry) (c : Core) → InHand i c → thing c.entries i ≡ x → Unless Ordered (throw_core i err r x c)
throw_core_ordered i err r None c h at = tt
throw_core_ordered i err r (Some e) c h at = unless c.halted (by_fate r.caught)
  where
    by_fate : (b : Bool) → Ordered (throw_core i err (record r { caught = b }) (Some e) c)
    by_fate true = leave_ordered i e e r.values (Catch i err) (writes (throw_line i err) c) h at (catch_of i err) catches h.2
    by_fate false = leave_ordered i e e r.values (Close i (BadOutcome err)) (writes (throw_line i err) c) h at (close_of i (BadOutcome err)) ends h.2

pub handle_ordered : (i err : ℕ) (c : Core) → InHand i c → Awake i c → Ordered (handle i err c)
handle_ordered i err c h a = run_ordered i (writes (catch_line i err) c) h a

-- an actor ends
result_ordered : (k : ℕ) (v : OutcomeTree) (f : ℕ) (c : Core) → Ordered c → Unless Ordered (set_result k v f c)
result_ordered k v zero c o = unless c.halted (dropping_ordered (value_in v) (record c { cells = removed c.cells k }) (o.0, o.1, waits_removed c.entries c.cells k o.2, o.3))
result_ordered k v (suc f) c o = after_turn Ordered (fill k v) c c.left (λ n. fill_ordered k v (record c { left = n }) o)

given_ordered : (scan : Scan) (r : Option ℕ) (v : OutcomeTree) (c : Core) → Ordered c → Unless Ordered (give_result scan r v c)
given_ordered scan None v c o = unless c.halted (dropping_ordered (value_in v) c o)
given_ordered scan (Some k) v c o = result_ordered k v (reference_count scan FutureSide k c) c o

gone_ordered : (i : ℕ) (c : Core) → InHand i c → Awake i c → Ordered (record c { entries = removed c.entries i })
gone_ordered i c h a = (
  all_stand i d (subst (λ x. Stands i (is_suspended x) (tasks_of i c.tasks)) (sym (removed_none c.entries 0 c.started i h.4)) h.0)
      (λ j n. unmoved_stands j c d (ap is_suspended (thing_removed_other c.entries i j n), refl) (h.1 j n)),
  h.2,
  waits_by c.entries d.entries c.cells stay h.3,
  rising_removed c.entries 0 c.started i h.4,
)
  where
    d : Core
    d = record c { entries = removed c.entries i }

    awake_asleep : {o : Option Bool} → o ≡ Some false → o ≡ Some true → ⊥
    awake_asleep f g = cc

    same_place : (j : ℕ) → i ≡ j → is_suspended (thing c.entries j) ≡ Some true → ⊥
    same_place j f s = awake_asleep (subst (λ n. is_suspended (thing c.entries n) ≡ Some false) f a) s

    stay : (j : ℕ) → is_suspended (thing c.entries j) ≡ Some true → is_suspended (thing d.entries j) ≡ Some true
    stay j s = ap is_suspended (thing_removed_other c.entries i j (λ f. same_place j f s)) ∙ s

pub close_ordered : (scan : Scan) (i : ℕ) (r : Option ℕ) (v : OutcomeTree) (c : Core) → InHand i c → Awake i c → Unless Ordered (close scan i r v c)
close_ordered scan i r v c h a =
    let d = record c { entries = removed c.entries i } in
    after_turn Ordered (λ d. give_result scan r v (writes (end_line i v) d)) d c.left (λ n. given_ordered scan r v (writes (end_line i v) (record d { left = n })) (gone_ordered i c h a))

-- what is delivered at the begin of an event
pub boot_ordered : (class : ℕ) (name : List ℕ) (c : Core) → Ordered c → Unless Ordered (boot_core class name c)
boot_ordered class name c o =
    after_turn Ordered (λ d. record (enrol class name d) { main = Some (suc d.made) }) c c.left (λ n. unless c.halted (enrol_ordered class name (record c { left = n }) o))

stop_main_ordered : (m : Option ℕ) (c : Core) → Ordered c → Ordered (stop_main m c)
stop_main_ordered None c o = o
stop_main_ordered (Some cell) c o = o

pub stop_ordered : (c : Core) → Ordered c → Ordered (stop c)
stop_ordered c o = stop_main_ordered c.main c o

pub deliver_ordered : (k : ℕ) (v : OutcomeTree) (c : Core) → Ordered c → Unless Ordered (deliver k v c)
deliver_ordered k v c o =
    let p = pushed (Drop kind.Promise k) (record c { requests = closed_request k c.requests }) in
    after_turn Ordered (fill k v) p c.left (λ n. fill_ordered k v (record p { left = n }) o)

pub arrive_ordered : (k : ℕ) (v : ValueTree) (c : Core) → Ordered c → Unless Ordered (arrive k v c)
arrive_ordered k v c o = after_turn Ordered (fill k (GoodOutcome v)) c c.left (λ n. fill_ordered k (GoodOutcome v) (record c { left = n }) o)
