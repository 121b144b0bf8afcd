-- How the phases of actors change with each task, from a process in order.
use Rattle.std.proofs.Common.{◌≡◌, ℕ, zero, suc, ◌<◌, ◌≤◌, nat_eq, Bool, true, false, List, [], ◌∷◌, if◌then◌else◌, refl, sym, ap, ◌∙◌, subst, arith}
use Rattle.std.specs.declared.option.Option.{Option}
use Rattle.std.specs.declared.option.Option.TheVariants.{None, Some}
use Rattle.flow_base.specs.ErrorNumbers.{operation_cancelled}
use Rattle.flow_value.specs.declared.value.Kind.TheVariants as kind
use Rattle.flow_value.specs.Values.{ValueTree, RefValue, OutcomeTree, GoodOutcome, BadOutcome}
use Rattle.flow_numbered.specs.Numbered.{Numbered, thing, added, put, removed}
use Rattle.flow_meaning.specs.Cells.{Ref, FutureSide, Single}
use Rattle.flow_meaning.specs.Requests.{Spot, Goal, Stored, Kept}
use Rattle.flow_meaning.specs.Process.{Task, Run, Throw, Catch, Store, Keep, Close, Drop, Entry, Core, Raised}
use Rattle.flow_meaning.specs.Lines.{throw_line, catch_line, end_line}
use Rattle.flow_meaning.specs.References.{Scan, reference_count, value_in}
use Rattle.flow_meaning.specs.Work.{writes, pushed, dropping_values, fill, new_cell}
use Rattle.flow_meaning.specs.Dropping.{set_result, give_result, close}
use Rattle.flow_meaning.specs.Effects.{result_task, push_result}
use Rattle.flow_meaning.specs.Step.{entry_of, enrol_with, enrol, start_void, start_core, throw_core, OperandFate, GoesOn, Cancelled, Ready, with_operand, below, leave_kept, handle}
use Rattle.flow_meaning.specs.Deliver.{boot_core, stop_main, stop, closed_request, deliver, arrive}
use Rattle.flow_meaning.specs.Orderly.{tasks_of, is_suspended, Proceeds, steps, stores, keeps, takes, throws, catches, ends, Stands, NextStep, Paired, Rising, Orderly, Phase, Free, Due, phase_first, phase_by, phase_of}
use Rattle.flow_meaning.proofs.Posture.{same_number, other_number, thing_put_other, thing_put, thing_added, thing_removed_other, removed_none, Unless, unless, unless_map, after_turn, Unmoved, AllUnmoved, dropping_unmoved, fill_unmoved, IsOf, own_task, other_task, rank, same_rank, Shifts, Eases, unmoved_phase, unmoved_eases, shifts_on, shifts_after, Awake, phase_awake, leave_shifts, by_number}
use Rattle.flow_meaning.proofs.Shifts.{run_of, throw_of, catch_of, store_of, keep_of, close_of, two_shifts, branch_shifts, run_shifts}

-- what is to be done for an actor after the first of its tasks
abbrev pub Rest : ℕ → List Task → Type 0
Rest i [] = Unit {0}
Rest i (Store j v ∷ ts) = ts ≡ Run i ∷ []
Rest i (Keep j spot r ∷ ts) = ts ≡ Run i ∷ []
Rest i (t ∷ ts) = ts ≡ []

pub rest_of : (i : ℕ) (ts : List Task) → Proceeds i ts → Rest i ts
rest_of i _ steps = refl
rest_of i _ _ = refl

-- an actor with a task runs
pub runs_by : (i : ℕ) (o : Option Bool) (t : Task) (us ts : List Task) → ts ≡ t ∷ us → Stands i o ts → (o ≡ Some false) × Proceeds i (t ∷ us)
runs_by i None t us ts e h = absurd (no_task (sym e ∙ h))
  where
    no_task : {t : Task} {us : List Task} → t ∷ us ≡ [] → ⊥
    no_task h = cc
runs_by i (Some true) t us ts e h = absurd (no_task (sym e ∙ h))
  where
    no_task : {t : Task} {us : List Task} → t ∷ us ≡ [] → ⊥
    no_task h = cc
runs_by i (Some false) t us ts e h = (refl, subst (Proceeds i) e h)

-- The newest task is off the stack: its actor runs, the others are as they were.
pub record Popped (i : ℕ) (t : Task) (c d : Core) : Type 0 where
  pub phase : phase_of c i ≡ phase_first (t ∷ tasks_of i d.tasks)
  pub awake : Awake i d
  pub rest : Rest i (t ∷ tasks_of i d.tasks)
  pub others : (j : ℕ) → (i ≡ j → ⊥) → Unmoved j c d
  pub rises : Rising 0 d.started d.entries

pub popped_at : (i left : ℕ) (t : Task) (ts : List Task) (c : Core) → Orderly c → c.tasks ≡ t ∷ ts → IsOf i t → Popped i t c (record c { tasks = ts; left = left })
popped_at i left t ts c o e h =
    let all : tasks_of i c.tasks ≡ t ∷ tasks_of i ts = ap (tasks_of i) e ∙ own_task i t ts h in
    let runs = runs_by i (is_suspended (thing c.entries i)) t (tasks_of i ts) (tasks_of i c.tasks) all (o.actors i) in record {
      phase = phase_awake i c t (tasks_of i ts) runs.0 all;
      awake = runs.0;
      rest = rest_of i (t ∷ tasks_of i ts) runs.1;
      others = λ j n. (refl, sym (ap (tasks_of j) e ∙ other_task i j t ts h n));
      rises = o.numbered;
    }

-- drops on top
dropped : (i : ℕ) (p : Phase) (vs : List ValueTree) (c d : Core) → Shifts i p c d → Shifts i p c (dropping_values vs d)
dropped i p vs c d h = shifts_on i p c d (dropping_values vs d) h (unmoved_eases d (dropping_values vs d) (dropping_unmoved vs d))

pub given_shifts : (i : ℕ) (vs : List ValueTree) (c : Core) → Awake i c → Shifts i Free c (dropping_values vs (pushed (Run i) c))
given_shifts i vs c a = dropped i Free vs c (pushed (Run i) c) (run_shifts i Free c a)

-- the actor's next step is all that is left to do for it
goes_on : (i : ℕ) (c d : Core) → Awake i d → tasks_of i d.tasks ≡ Run i ∷ [] → ((j : ℕ) → (i ≡ j → ⊥) → Unmoved j c d) → Shifts i Free c d
goes_on i c d a e u = (same_rank (phase_awake i d (Run i) [] a e), λ j n. same_rank (unmoved_phase j c d (u j n)))

pub stored_shifts : (i : ℕ) (vs : List ValueTree) (c : Core) → Awake i c → tasks_of i c.tasks ≡ Run i ∷ [] → Shifts i Free c (dropping_values vs c)
stored_shifts i vs c a e = dropped i Free vs c c (goes_on i c c a e (λ j n. (refl, refl)))

pub kept_shifts : (i : ℕ) (spot : Spot) (r : Ref) (e : Entry) (c : Core) → thing c.entries i ≡ Some e → Awake i c → tasks_of i c.tasks ≡ Run i ∷ []
    → Shifts i Free c (record c { entries = put c.entries i (with_operand spot r e) })
kept_shifts i spot r e c at a k =
    let d = record c { entries = put c.entries i (with_operand spot r e) } in
    goes_on i c d (ap is_suspended (thing_put c.entries i e (with_operand spot r e) at) ∙ sym (ap is_suspended at) ∙ a) k
    (λ j n. (ap is_suspended (thing_put_other c.entries i j (with_operand spot r e) n), refl))

-- the task below is the actor's next step
pub next_below : (i : ℕ) (spot : Spot) (r : Ref) (ts us : List Task) → ts ≡ Keep i spot r ∷ us → Paired ts → NextStep i us
next_below i spot r ts us e h = (subst Paired e h).0

pub below_unmoved : (i : ℕ) (c : Core) → NextStep i c.tasks → (j : ℕ) → (i ≡ j → ⊥) → Unmoved j c (record c { tasks = below c.tasks })
below_unmoved i c h j n = (refl, by_tasks c.tasks h)
  where
    by_tasks : (ts : List Task) → NextStep i ts → tasks_of j (below ts) ≡ tasks_of j ts
    by_tasks (Run k ∷ ts) h = sym (other_task k j (Run k) ts (run_of k) (λ e. n (h ∙ e)))
    by_tasks ts h = absurd h

pub leave_kept_shifts : (i b : ℕ) (v : OperandFate) (r : Ref) (en e0 : Entry) (vs : List ValueTree) (c : Core) → thing c.entries i ≡ Some e0 → (v ≡ GoesOn → ⊥)
    → Unless (Shifts i Due c) (leave_kept i b v r en vs c)
leave_kept_shifts i b GoesOn r en e0 vs c at h = absurd (h refl)
leave_kept_shifts i b Cancelled r en e0 vs c at h = unless c.halted (leave_shifts i Due en e0 vs (Throw i operation_cancelled) c (throw_of i operation_cancelled) at (λ ts. omega arith))
leave_kept_shifts i b Ready r en e0 vs c at h = branch_shifts i b r.1 en e0 vs (thing c.cells r.1) c at

-- an error is thrown
pub throw_core_shifts : (i err : ℕ) (r : Raised) (o : Option Entry) (c : Core) → thing c.entries i ≡ o → Unless (Shifts i Free c) (throw_core i err r o c)
throw_core_shifts i err r None c at = tt
throw_core_shifts i err r (Some e) c at = unless c.halted (by_fate r.caught)
  where
    by_fate : (b : Bool) → Shifts i Free c (throw_core i err (record r { caught = b }) (Some e) c)
    by_fate true = leave_shifts i Free e e r.values (Catch i err) (writes (throw_line i err) c) (catch_of i err) at (λ ts. omega arith)
    by_fate false = leave_shifts i Free e e r.values (Close i (BadOutcome err)) (writes (throw_line i err) c) (close_of i (BadOutcome err)) at (λ ts. omega arith)

pub handle_shifts : (i err : ℕ) (c : Core) → Awake i c → Shifts i Free c (handle i err c)
handle_shifts i err c a = run_shifts i Free (writes (catch_line i err) c) a

-- an actor ends
result_unmoved : (k : ℕ) (o : OutcomeTree) (f : ℕ) (c : Core) → Unless (AllUnmoved c) (set_result k o f c)
result_unmoved k o zero c = unless c.halted (dropping_unmoved (value_in o) (record c { cells = removed c.cells k }))
result_unmoved k o (suc f) c = after_turn (AllUnmoved c) (fill k o) c c.left (λ n. fill_unmoved k o (record c { left = n }) (thing c.cells k))

given_unmoved : (scan : Scan) (r : Option ℕ) (o : OutcomeTree) (c : Core) → Unless (AllUnmoved c) (give_result scan r o c)
given_unmoved scan None o c = unless c.halted (dropping_unmoved (value_in o) c)
given_unmoved scan (Some k) o c = result_unmoved k o (reference_count scan FutureSide k c) c

pub close_shifts : (scan : Scan) (i : ℕ) (r : Option ℕ) (o : OutcomeTree) (c : Core) → Rising 0 c.started c.entries → tasks_of i c.tasks ≡ [] → Unless (Shifts i Free c) (close scan i r o c)
close_shifts scan i r o c h e =
    let d = record c { entries = removed c.entries i } in
    let gone : phase_of d i ≡ Free = ap (λ x. phase_by (is_suspended x) (tasks_of i c.tasks)) (removed_none c.entries 0 c.started i h) ∙ ap phase_first e in
    let shifts : Shifts i Free c d = (same_rank gone, λ j n. same_rank (unmoved_phase j c d (ap is_suspended (thing_removed_other c.entries i j n), refl))) in
    after_turn (Shifts i Free c) (λ d. give_result scan r o (writes (end_line i o) d)) d c.left (λ n.
    let m = writes (end_line i o) (record d { left = n }) in
    unless_map (give_result scan r o m).halted (λ u. shifts_on i Free c d (give_result scan r o m) shifts (unmoved_eases m (give_result scan r o m) u)) (given_unmoved scan r o m))

-- an actor is made
pub beyond_none : {A : Type 0} (xs : Numbered A) (above n i : ℕ) → Rising above n xs → n < i → thing xs i ≡ None
beyond_none [] above n i h lt = refl
beyond_none (x ∷ xs) above n i h lt =
    ap (λ b. if b then Some x.1 else thing xs i) (other_number x.0 i (λ e. omega (arith, h.1))) ∙ beyond_none xs x.0 n i h.2 lt

pub thing_new : {A : Type 0} (xs : Numbered A) (i : ℕ) (a : A) → thing xs i ≡ None → thing (added xs i a) i ≡ Some a
thing_new [] i a h = ap (λ b. if b then Some a else None) (same_number i)
thing_new (x ∷ xs) i a h = by_test (nat_eq i x.0) h (thing_new xs i a)
  where
    by_test : (p : Bool) → (if p then Some x.1 else thing xs i) ≡ None → (thing xs i ≡ None → thing (added xs i a) i ≡ Some a) → (if p then Some x.1 else thing (added xs i a) i) ≡ Some a
    by_test true e k = cc
    by_test false e k = k e

enrol_shifts : (class : ℕ) (name : List ℕ) (r : Option ℕ) (c : Core) → Rising 0 c.started c.entries → Shifts (suc c.started) Free c (enrol_with class name r c)
enrol_shifts class name r c h =
    let n = suc c.started in
    let e = entry_of class r in
    let d = enrol_with class name r c in
    let a : Awake n d = ap is_suspended (thing_new c.entries n e (beyond_none c.entries 0 c.started n h (omega arith))) in (
      same_rank (phase_awake n d (Run n) (tasks_of n c.tasks) a (own_task n (Run n) c.tasks (run_of n))),
      λ j m. same_rank (unmoved_phase j c d (ap is_suspended (thing_added c.entries n j e m), other_task n j (Run n) c.tasks (run_of n) m)),
    )

-- the new actor, whose number is above all, has asked for nothing yet
abbrev pub Enrolled : Core → Core → Type 0
Enrolled c d = Eases c d × (rank (phase_of d (suc c.started)) ≤ 0)

pub enrolled : (class : ℕ) (name : List ℕ) (r : Option ℕ) (c : Core) → Rising 0 c.started c.entries → Enrolled c (enrol_with class name r c)
enrolled class name r c h =
    let d = enrol_with class name r c in
    let s = enrol_shifts class name r c h in
    (by_number (suc c.started) c d (omega (arith, s.0)) s.1, s.0)

-- the new actor with its result, which is a new cell
result_enrolled : (class : ℕ) (name : List ℕ) (c : Core) → Rising 0 c.started c.entries → Enrolled c (enrol class name c)
result_enrolled class name c h = enrolled class name (Some (suc c.made)) (new_cell (Single None []) c) h

-- its caller is in this phase then
abbrev pub StartsFor : (caller : ℕ) → Phase → Core → Core → Type 0
StartsFor i p c d = Shifts i p c d × (rank (phase_of d (suc c.started)) ≤ 0)

starts_by : (i : ℕ) (t : Task) (class : ℕ) (name : List ℕ) (c : Core) → IsOf i t → Awake i c → Rising 0 c.started c.entries → ((ts : List Task) → rank (phase_first (t ∷ ts)) ≤ 2)
    → StartsFor i Due c (enrol class name (pushed t (pushed (Run i) c)))
starts_by i t class name c o a h r =
    let m = pushed t (pushed (Run i) c) in
    let n = result_enrolled class name m h in
    (shifts_on i Due c m (enrol class name m) (two_shifts i t c o a r) n.0, n.1)

pub start_shifts : (i : ℕ) (goal : Goal) (class : ℕ) (name : List ℕ) (c : Core) → Awake i c → Rising 0 c.started c.entries → Unless (StartsFor i Due c) (start_core i goal class name c)
start_shifts i goal class name c a h =
    after_turn (StartsFor i Due c) (λ d. enrol class name (push_result i (result_task i goal (RefValue kind.Future (suc d.made))) d)) c c.left (by_goal goal)
  where
    by_goal : (g : Goal) (n : ℕ) → Unless (StartsFor i Due c) (enrol class name (push_result i (result_task i g (RefValue kind.Future (suc c.made))) (record c { left = n })))
    by_goal Stored n =
        let t = Store i (RefValue kind.Future (suc c.made)) in
        unless c.halted (starts_by i t class name (record c { left = n }) (store_of i (RefValue kind.Future (suc c.made))) a h (λ ts. omega arith))
    by_goal (Kept spot) n =
        let r : Ref = (kind.Future, suc c.made) in
        unless c.halted (starts_by i (Keep i spot r) class name (record c { left = n }) (keep_of i spot r) a h (λ ts. omega arith))

-- nothing comes back of a void actor, and its caller goes on
pub void_shifts : (i class : ℕ) (name : List ℕ) (c : Core) → Awake i c → Rising 0 c.started c.entries → Unless (StartsFor i Free c) (start_void i class name c)
void_shifts i class name c a h =
    after_turn (StartsFor i Free c) (λ d. enrol_with class name None (pushed (Run i) d)) c c.left (λ n.
    let m = pushed (Run i) (record c { left = n }) in
    let e = enrolled class name None m h in
    unless c.halted (shifts_on i Free c m (enrol_with class name None m) (run_shifts i Free c a) e.0, e.1))

filled_eases : (k : ℕ) (o : OutcomeTree) (c : Core) → Unless (Eases c) (fill k o c)
filled_eases k o c = unless_map (fill k o c).halted (unmoved_eases c (fill k o c)) (fill_unmoved k o c (thing c.cells k))

-- what is delivered at the begin of an event
pub booted_enrolled : (class : ℕ) (name : List ℕ) (c : Core) → Rising 0 c.started c.entries → Unless (Enrolled c) (boot_core class name c)
booted_enrolled class name c h =
    after_turn (Enrolled c) (λ d. record (enrol class name d) { main = Some (suc d.made) }) c c.left (λ n. unless c.halted (result_enrolled class name c h))

stop_main_eases : (m : Option ℕ) (c : Core) → Eases c (stop_main m c)
stop_main_eases None c j = omega arith
stop_main_eases (Some cell) c j = omega arith

pub stop_eases : (c : Core) → Eases c (stop c)
stop_eases c = stop_main_eases c.main c

pub deliver_eases : (k : ℕ) (o : OutcomeTree) (c : Core) → Unless (Eases c) (deliver k o c)
deliver_eases k o c =
    let p = pushed (Drop kind.Promise k) (record c { requests = closed_request k c.requests }) in
    after_turn (Eases c) (fill k o) p c.left (λ n. filled_eases k o (record p { left = n }))

pub arrive_eases : (k : ℕ) (v : ValueTree) (c : Core) → Unless (Eases c) (arrive k v c)
arrive_eases k v c = after_turn (Eases c) (fill k (GoodOutcome v)) c c.left (λ n. filled_eases k (GoodOutcome v) (record c { left = n }))

-- what a popped task's actor and the others may be handed, by what they asked before the task
pub popped_shifts : (i : ℕ) (t : Task) (p : Phase) (c d k : Core) → Popped i t c d → Unless (Shifts i p d) k → Unless (Shifts i p c) k
popped_shifts i t p c d k pop h = unless_map k.halted (shifts_after i p c d k pop.others) h

pub popped_eases : (i : ℕ) (t : Task) (p : Phase) (c d k : Core) → Popped i t c d → rank p ≤ rank (phase_first (t ∷ tasks_of i d.tasks)) → Unless (Shifts i p d) k → Unless (Eases c) k
popped_eases i t p c d k pop le h =
    unless_map k.halted (λ s. by_number i c k (omega (arith, s.0, le, same_rank (sym pop.phase))) s.1) (popped_shifts i t p c d k pop h)
