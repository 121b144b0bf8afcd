-- How the phases of actors change with each thing that a process does.
use Rattle.std.proofs.Common.{◌≡◌, ℕ, zero, suc, ◌+◌, ◌<◌, ◌≤◌, nat_eq, Bool, true, false, List, [], ◌∷◌, ◌++◌, if◌then◌else◌, refl, sym, ap, ◌∙◌, subst, arith}
use Rattle.std.specs.Prelude.{not, ℤ, pos, ◌-ℤ◌, ◌^◌, int_le, nat_le, nat_lt, ◌&&◌}
use Rattle.std.specs.declared.option.Option.{Option}
use Rattle.std.specs.declared.option.Option.TheVariants.{None, Some}
use Rattle.flow_base.specs.ErrorNumbers.{operation_cancelled, broken_promise, second_waiter, already_set, port_in_use, bad_argument, out_of_range}
use Rattle.flow_value.specs.declared.value.Kind.{Kind}
use Rattle.flow_value.specs.declared.value.Kind.TheVariants as kind
use Rattle.flow_value.specs.Values.{ValueTree, IntValue, BoolValue, TextValue, VoidValue, ErrorValue, CompositeValue, RefValue, OutcomeTree, GoodOutcome, BadOutcome}
use Rattle.flow_draw.specs.Words.{scaled}
use Rattle.flow_eval.specs.Predefined.{natural}
use Rattle.flow_trace.specs.declared.line.Line.{Line}
use Rattle.flow_numbered.specs.Numbered.{Numbered, thing, added, put, removed}
use Rattle.flow_meaning.specs.Cells.{Side, FutureSide, PromiseSide, side_of, Ref, Waiter, Cell, Single, Stream, is_complete, is_ready, waiters, taken, after_taking}
use Rattle.flow_meaning.specs.Requests.{Spot, Act, Goes, Pass, Drops, Effects, Starts, Operand, Waits, Sends, Cancels, Prints, SendsTo, Returns, Throws, RunsOut, Stuck, DiskCall, Effect, Make, Start, Draw, Delay, Never, Listen, Disk, Goal, Stored, Kept, Supply}
use Rattle.flow_meaning.specs.Process.{Task, Run, Give, Throw, Catch, Store, Keep, Close, Fire, Entry, Core}
use Rattle.flow_meaning.specs.Lines.{take_line, cancel_line, broken_line, print_line, wait_line}
use Rattle.flow_meaning.specs.References.{Scan, reference_count}
use Rattle.flow_meaning.specs.Work.{writes, pushed, dropping_values, new_cell, fill, free, give, take_branch, first_ready, Registration, Registered, Refused, Missing, register, owner, is_result, marked, cancel_by, cancel, cancel_owner}
use Rattle.flow_meaning.specs.Dropping.{Loss, Freed, Broken, Orphan, Unheard, promises_gone, loss, port_of, break_cell, suffer, lose_cell, lose_ref, drop, fire_to, fire_at, fire_cell, fire, set_result, give_result, close}
use Rattle.flow_meaning.specs.Dropping as dropping
use Rattle.flow_meaning.specs.Effects.{Reaction, throws, gives, gives_new, gives_open, empty_cell, between, is_port, open_port, judged, ask_disk, effect, send_to}
use Rattle.flow_meaning.specs.React.{send_by, send_in, print, at_spot, suspend, wait_by, wait, react}
use Rattle.flow_meaning.specs.Orderly.{is_suspended, AllWait, CellsWait, Rising, Phase, Free, Risky, Due, Waiting, phase_first}
use Rattle.flow_meaning.specs.Law.{phase_after}
use Rattle.flow_meaning.proofs.Posture.{same_number, other_number, thing_put_other, thing_put, Unless, unless, unless_map, after_turn, Unmoved, dropping_unmoved, fill_unmoved, free_unmoved, IsOf, rank, Shifts, Eases, unmoved_phase, unmoved_eases, shifts_on, shifts_after, Awake, pushed_shifts, leave_shifts, other_task, same_rank, least, phase_waits, by_number}

pub same_of : {X : Type 0} {x y : X} → Some x ≡ Some y → x ≡ y
same_of h = cc

-- the tasks of an actor are its own
pub run_of : (i : ℕ) → IsOf i (Run i)
run_of i = record { own = same_number i; other = other_number i }

pub give_of : (i b : ℕ) (o : OutcomeTree) → IsOf i (Give i b o)
give_of i b o = record { own = same_number i; other = other_number i }

pub throw_of : (i e : ℕ) → IsOf i (Throw i e)
throw_of i e = record { own = same_number i; other = other_number i }

pub catch_of : (i e : ℕ) → IsOf i (Catch i e)
catch_of i e = record { own = same_number i; other = other_number i }

pub store_of : (i : ℕ) (v : ValueTree) → IsOf i (Store i v)
store_of i v = record { own = same_number i; other = other_number i }

pub keep_of : (i : ℕ) (spot : Spot) (r : Ref) → IsOf i (Keep i spot r)
keep_of i spot r = record { own = same_number i; other = other_number i }

pub close_of : (i : ℕ) (o : OutcomeTree) → IsOf i (Close i o)
close_of i o = record { own = same_number i; other = other_number i }

-- the actor goes on at a branch, or the event was stopped
pub give_shifts : (i b : ℕ) (e e0 : Entry) (vs : List ValueTree) (o : Option OutcomeTree) (c : Core) → thing c.entries i ≡ Some e0 → Unless (Shifts i Due c) (give i b e vs o c)
give_shifts i b e e0 vs None c at = tt
give_shifts i b e e0 vs (Some o) c at = unless c.halted (leave_shifts i Due e e0 vs (Give i b o) c (give_of i b o) at (λ ts. omega arith))

pub branch_shifts : (i b k : ℕ) (e e0 : Entry) (vs : List ValueTree) (x : Option Cell) (c : Core) → thing c.entries i ≡ Some e0 → Unless (Shifts i Due c) (take_branch i b k e vs x c)
branch_shifts i b k e e0 vs None c at = tt
branch_shifts i b k e e0 vs (Some cell) c at =
    after_turn (Shifts i Due c) (λ d. give i b e vs (taken cell) (record (writes (take_line i e.spot.group b) d) { cells = put d.cells k (after_taking cell) })) c c.left
    (λ n. give_shifts i b e e0 vs (taken cell) (record (writes (take_line i e.spot.group b) (record c { left = n })) { cells = put c.cells k (after_taking cell) }) at)

-- the result of an effect, or an operand, comes before the actor's next step
pushed_run : (i j : ℕ) (c : Core) → (i ≡ j → ⊥) → Unmoved j c (pushed (Run i) c)
pushed_run i j c n = (refl, other_task i j (Run i) c.tasks (run_of i) n)

pub run_shifts : (i : ℕ) (p : Phase) (c : Core) → Awake i c → Shifts i p c (pushed (Run i) c)
run_shifts i p c a = pushed_shifts i p (Run i) c (run_of i) a (λ ts. omega arith)

pub throw_shifts : (i err : ℕ) (c : Core) → Awake i c → Shifts i Risky c (pushed (Throw i err) c)
throw_shifts i err c a = pushed_shifts i Risky (Throw i err) c (throw_of i err) a (λ ts. omega arith)

pub two_shifts : (i : ℕ) (t : Task) (c : Core) → IsOf i t → Awake i c → ((ts : List Task) → rank (phase_first (t ∷ ts)) ≤ 2) → Shifts i Due c (pushed t (pushed (Run i) c))
two_shifts i t c h a r = shifts_after i Due c (pushed (Run i) c) (pushed t (pushed (Run i) c)) (λ j n. pushed_run i j c n) (pushed_shifts i Due t (pushed (Run i) c) h a r)

pub gives_shifts : (i : ℕ) (goal : Goal) (v : ValueTree) (c : Core) → Awake i c → Unless (Shifts i Due c) (gives i goal v c)
gives_shifts i Stored v c a = unless c.halted (two_shifts i (Store i v) c (store_of i v) a (λ ts. omega arith))
gives_shifts i (Kept spot) (RefValue k cell) c a = unless c.halted (two_shifts i (Keep i spot (k, cell)) c (keep_of i spot (k, cell)) a (λ ts. omega arith))
gives_shifts i (Kept spot) (IntValue n) c a = tt
gives_shifts i (Kept spot) (BoolValue b) c a = tt
gives_shifts i (Kept spot) (TextValue t) c a = tt
gives_shifts i (Kept spot) VoidValue c a = tt
gives_shifts i (Kept spot) (ErrorValue n) c a = tt
gives_shifts i (Kept spot) (CompositeValue n vs) c a = tt

gives_new_shifts : (i : ℕ) (goal : Goal) (k : Kind) (cell : Cell) (c : Core) → Awake i c → Unless (Shifts i Due c) (gives_new i goal k cell c)
gives_new_shifts i goal k cell c a = gives_shifts i goal (RefValue k (suc c.made)) (new_cell cell c) a

bad_shifts : (i err : ℕ) (c : Core) → Awake i c → Unless (Shifts i Due c) (throws i err c).0
bad_shifts i err c a = unless c.halted (pushed_shifts i Due (Throw i err) c (throw_of i err) a (λ ts. omega arith))

-- one of two
pub either : (P : Core → Type 0) (b : Bool) (p q : Reaction) → Unless P p.0 → Unless P q.0 → Unless P (if b then p else q).0
either P true p q h k = h
either P false p q h k = k

open_shifts : (i : ℕ) (goal : Goal) (port : ℕ) (o : Option ℕ) (c : Core) → Awake i c → Unless (Shifts i Due c) (open_port i goal port o c).0
open_shifts i goal port (Some cell) c a = bad_shifts i port_in_use c a
open_shifts i goal port None c a = gives_new_shifts i goal kind.FutureStream (Stream [] None None) (record c { ports = added c.ports port (suc c.made) }) a

opened_shifts : (i : ℕ) (goal : Goal) (c : Core) → Awake i c → Unless (Shifts i Due c) (gives_open i goal c)
opened_shifts i goal c a = gives_new_shifts i goal kind.Future (Single None []) (record c { requests = c.requests ++ suc c.made ∷ [] }) a

disk_shifts : (i : ℕ) (goal : Goal) (call : Option (DiskCall ℕ)) (c : Core) → Awake i c → Unless (Shifts i Due c) (ask_disk i goal call c).0
disk_shifts i goal None c a = bad_shifts i bad_argument c a
disk_shifts i goal (Some call) c a = opened_shifts i goal c a

effect_shifts : (s : Supply) (i : ℕ) (goal : Goal) (eff : Effect) (c : Core) → Awake i c → Unless (Shifts i Due c) (effect s i goal eff c).0
effect_shifts s i goal (Make k) c a = gives_new_shifts i goal k (empty_cell k) c a
effect_shifts s i goal (Start class args) c a = tt
effect_shifts s i goal (Draw lo hi) c a =
    either (Shifts i Due c) (between (hi -ℤ lo) 1 (2 ^ 32)) _ (throws i bad_argument c) (gives_shifts i goal (IntValue (scaled lo (natural (hi -ℤ lo)) s.word)) c a) (bad_shifts i bad_argument c a)
effect_shifts s i goal (Delay ticks) c a =
    either (Shifts i Due c) (nat_le (s.now + natural ticks) (2 ^ 62)) _ (throws i out_of_range c) (opened_shifts i goal c a) (bad_shifts i out_of_range c a)
effect_shifts s i goal Never c a = gives_new_shifts i goal kind.Future (Single None []) c a
effect_shifts s i goal (Listen port) c a =
    either (Shifts i Due c) (is_port port) _ (throws i bad_argument c) (open_shifts i goal (natural port) (thing c.ports (natural port)) c a) (bad_shifts i bad_argument c a)
effect_shifts s i goal (Disk call) c a = disk_shifts i goal (judged call) c a

-- sends
send_by_shifts : (b : Bool) (i k : ℕ) (o : OutcomeTree) (c : Core) → Awake i c → Unless (Shifts i Risky c) (send_by b i k o c)
send_by_shifts true i k o c a = unless c.halted (throw_shifts i already_set c a)
send_by_shifts false i k o c a =
    after_turn (Shifts i Risky c) (λ d. fill k o (pushed (Run i) d)) c c.left (λ n.
    let d = pushed (Run i) (record c { left = n }) in
    unless_map (fill k o d).halted (λ u. shifts_on i Risky c d (fill k o d) (run_shifts i Risky c a) (unmoved_eases d (fill k o d) u)) (fill_unmoved k o d (thing d.cells k)))

send_in_shifts : (x : Option Cell) (i k : ℕ) (o : OutcomeTree) (c : Core) → Awake i c → Unless (Shifts i Risky c) (send_in x i k o c)
send_in_shifts None i k o c a = tt
send_in_shifts (Some cell) i k o c a = send_by_shifts (is_complete cell) i k o c a

send_to_shifts : (s : Supply) (i : ℕ) (q port : ℤ) (text : List ℕ) (c : Core) → Awake i c → Unless (Shifts i Risky c) (send_to s i q port text c).0
send_to_shifts s i q port text c a =
    either (Shifts i Risky c) (int_le (pos 0) q && nat_lt (natural q) s.processes && is_port port) _ (throws i bad_argument c) (unless c.halted (run_shifts i Risky c a))
    (unless c.halted (throw_shifts i bad_argument c a))

-- waits
suspended_shifts : (i : ℕ) (spot : Spot) (e : Entry) (vs : List ValueTree) (cells : Numbered Cell) (c : Core) → Shifts i Waiting c (suspend i spot e vs (Registered cells) c)
suspended_shifts i spot e vs cells c =
    let m = record (writes (wait_line i spot.group) c) { cells = cells; entries = put c.entries i (record e { suspended = true }) } in
    shifts_after i Waiting c m (dropping_values vs m) (λ j n. (ap is_suspended (thing_put_other c.entries i j (record e { suspended = true }) n), refl))
    (least _, λ j n. unmoved_eases m (dropping_values vs m) (dropping_unmoved vs m) j)

suspend_shifts : (i : ℕ) (spot : Spot) (e e0 : Entry) (vs : List ValueTree) (r : Registration) (c : Core) → thing c.entries i ≡ Some e0 → Unless (Shifts i Waiting c) (suspend i spot e vs r c)
suspend_shifts i spot e e0 vs Missing c at = tt
suspend_shifts i spot e e0 vs Refused c at = unless c.halted (leave_shifts i Waiting e e0 vs (Throw i second_waiter) c (throw_of i second_waiter) at (λ ts. omega arith))
suspend_shifts i spot e e0 vs (Registered cells) c at = unless c.halted (suspended_shifts i spot e vs cells c)

to_wait : (i : ℕ) (c d : Core) → Shifts i Due c d → Shifts i Waiting c d
to_wait i c d h = (omega (arith, h.0), h.1)

wait_by_shifts : (i : ℕ) (spot : Spot) (e e0 : Entry) (vs : List ValueTree) (b : Option (ℕ × ℕ)) (c : Core) → thing c.entries i ≡ Some e0 → Unless (Shifts i Waiting c) (wait_by i spot e vs b c)
wait_by_shifts i spot e e0 vs None c at = suspend_shifts i spot e e0 vs (register i 0 e.operands (Registered c.cells)) c at
wait_by_shifts i spot e e0 vs (Some b) c at =
    let d = take_branch i b.0 b.1 e vs (thing c.cells b.1) c in
    unless_map d.halted (to_wait i c d) (branch_shifts i b.0 b.1 e e0 vs (thing c.cells b.1) c at)

wait_shifts : (i : ℕ) (spot : Spot) (vs : List ValueTree) (c : Core) (o : Option Entry) → thing c.entries i ≡ o → Unless (Shifts i Waiting c) (wait i spot o vs c)
wait_shifts i spot vs c None at = tt
wait_shifts i spot vs c (Some e) at = wait_by_shifts i spot (at_spot spot e) e vs (first_ready c.cells 0 e.operands) c at

-- an actor is cancelled
cancel_by_eases : (s : Bool) (i : ℕ) (e : Entry) (c : Core) → thing c.entries i ≡ Some e → e.suspended ≡ s → Eases c (cancel_by s i e c)
cancel_by_eases true i e c at h =
    let w = phase_waits i c (ap is_suspended at ∙ ap Some h) in
    let k = leave_shifts i Risky (marked e) e [] (Throw i operation_cancelled) c (throw_of i operation_cancelled) at (λ ts. omega arith) in
    by_number i c (cancel_by true i e c) (omega (arith, k.0, same_rank (sym w))) k.1
cancel_by_eases false i e c at h =
    by_number i c (cancel_by false i e c) (same_rank (unmoved_phase i c (cancel_by false i e c) (ap is_suspended (thing_put c.entries i e (marked e) at) ∙ sym (ap is_suspended at), refl)))
    (λ j n. same_rank (unmoved_phase j c (cancel_by false i e c) (ap is_suspended (thing_put_other c.entries i j (marked e) n), refl)))

cancel_eases : (i : ℕ) (e : Entry) (c : Core) → thing c.entries i ≡ Some e → Eases c (cancel i e c)
cancel_eases i e c at = cancel_by_eases e.suspended i e (writes (cancel_line i) c) at refl

-- the actor of a result is found by its number
owner_found : (es : Numbered Entry) (above n k : ℕ) (o : ℕ × Entry) → Rising above n es → owner k es ≡ Some o → (above < o.0) × (thing es o.0 ≡ Some o.1)
owner_found [] above n k o h e = absurd (none_some e)
  where
    none_some : {X : Type 0} {x : X} → None ≡ Some x → ⊥
    none_some h = cc
owner_found (x ∷ xs) above n k o h e = by_test (is_result k x.1.result && not x.1.marked) e (owner_found xs x.0 n k o h.2)
  where
    by_test : (p : Bool) → (if p then Some x else owner k xs) ≡ Some o → (owner k xs ≡ Some o → (x.0 < o.0) × (thing xs o.0 ≡ Some o.1)) → (above < o.0) × (thing (x ∷ xs) o.0 ≡ Some o.1)
    by_test true e k =
        let f : x ≡ o = same_of e in
        subst (λ (y : ℕ × Entry). (above < y.0) × (thing (x ∷ xs) y.0 ≡ Some y.1)) f (h.0, ap (λ b. if b then Some x.1 else thing xs x.0) (same_number x.0))
    by_test false e k =
        let r = k e in
        (omega (arith, h.0, r.0), ap (λ b. if b then Some x.1 else thing xs o.0) (other_number x.0 o.0 (λ f. omega (arith, r.0))) ∙ r.1)

abbrev pub Owned : Core → Option (ℕ × Entry) → Type 0
Owned c None = Unit {0}
Owned c (Some o) = thing c.entries o.0 ≡ Some o.1

pub owned : (k : ℕ) (c : Core) (o : Option (ℕ × Entry)) → Rising 0 c.started c.entries → owner k c.entries ≡ o → Owned c o
owned k c None h e = tt
owned k c (Some o) h e = (owner_found c.entries 0 c.started k o h e).1

cancel_owner_eases : (o : Option (ℕ × Entry)) (c : Core) → Owned c o → Eases c (cancel_owner o c)
cancel_owner_eases None c h j = omega arith
cancel_owner_eases (Some o) c h j = cancel_eases o.0 o.1 c h j

-- each ask, whose actor is awake
pub react_shifts : (s : Supply) (i : ℕ) (act : Act) (c : Core) → Awake i c → Rising 0 c.started c.entries → Unless (Shifts i (phase_after act) c) (react s i act c).0
react_shifts s i Goes c a h = unless c.halted (run_shifts i Free c a)
react_shifts s i Pass c a h = after_turn (Shifts i Free c) (pushed (Run i)) c c.left (λ n. unless c.halted (run_shifts i Free c a))
react_shifts s i (Drops vs) c a h =
    let d = pushed (Run i) c in
    unless c.halted (shifts_on i Free c d (dropping_values vs d) (run_shifts i Free c a) (unmoved_eases d (dropping_values vs d) (dropping_unmoved vs d)))
react_shifts s i (Effects goal eff) c a h = effect_shifts s i goal eff c a
react_shifts s i (Starts class args) c a h = tt
react_shifts s i (Operand spot r) c a h = unless c.halted (two_shifts i (Keep i spot r) c (keep_of i spot r) a (λ ts. omega arith))
react_shifts s i (Waits spot vs) c a h = wait_shifts i spot vs c (thing c.entries i) refl
react_shifts s i (Sends k o) c a h = send_in_shifts (thing c.cells k) i k o c a
react_shifts s i (Cancels k) c a h =
    let d = pushed (Run i) c in
    let o = owner k c.entries in
    unless (cancel_owner o d).halted (shifts_on i Free c d (cancel_owner o d) (run_shifts i Free c a) (cancel_owner_eases o d (owned k c o h refl)))
react_shifts s i (Prints v) c a h = print_shifts (print_line i v)
  where
    print_shifts : (l : Option Line) → Unless (Shifts i Free c) (print i l c)
    print_shifts None = tt
    print_shifts (Some l) = unless c.halted (run_shifts i Free c a)
react_shifts s i (SendsTo q port text) c a h = send_to_shifts s i q port text c a
react_shifts s i (Returns v vs) c a h =
    let d = pushed (Close i (GoodOutcome v)) c in
    unless c.halted (shifts_on i Free c d (dropping_values vs d) (pushed_shifts i Free (Close i (GoodOutcome v)) c (close_of i (GoodOutcome v)) a (λ ts. omega arith))
    (unmoved_eases d (dropping_values vs d) (dropping_unmoved vs d)))
react_shifts s i (Throws e) c a h = unless c.halted (throw_shifts i e c a)
react_shifts s i RunsOut c a h = tt
react_shifts s i Stuck c a h = tt

-- drops
abbrev pub OwnedLoss : Core → Loss → Type 0
OwnedLoss c (Orphan i e) = thing c.entries i ≡ Some e
OwnedLoss c _ = Unit {0}

pub owned_loss : (c : Core) (s : Side) (p f : ℕ) (cell : Cell) (o : Option (ℕ × Entry)) (port : Option ℕ) → Owned c o → OwnedLoss c (loss s p f cell o port)
owned_loss c PromiseSide zero zero cell o port h = tt
owned_loss c FutureSide zero zero cell o port h = tt
owned_loss c PromiseSide zero (suc f) cell o port h = gone (is_complete cell)
  where
    gone : (b : Bool) → OwnedLoss c (promises_gone b)
    gone true = tt
    gone false = tt
owned_loss c PromiseSide (suc p) f cell o port h = tt
owned_loss c FutureSide (suc p) zero cell (Some o) port h = h
owned_loss c FutureSide (suc p) zero cell None (Some port) h = tt
owned_loss c FutureSide (suc p) zero cell None None h = tt
owned_loss c FutureSide zero (suc f) cell o port h = tt
owned_loss c FutureSide (suc p) (suc f) cell o port h = tt

suffer_eases : (k : ℕ) (l : Loss) (c : Core) → OwnedLoss c l → Unless (Eases c) (suffer k l c)
suffer_eases k dropping.Kept c h = unless c.halted (λ j. omega arith)
suffer_eases k Freed c h = unless_map (free k c).halted (unmoved_eases c (free k c)) (free_unmoved k c (thing c.cells k))
suffer_eases k Broken c h =
    after_turn (Eases c) (λ d. fill k (BadOutcome broken_promise) (writes (broken_line k) d)) c c.left (λ n.
    let d = writes (broken_line k) (record c { left = n }) in
    unless_map (fill k (BadOutcome broken_promise) d).halted (unmoved_eases d (fill k (BadOutcome broken_promise) d)) (fill_unmoved k (BadOutcome broken_promise) d (thing d.cells k)))
suffer_eases k (Orphan i e) c h = unless (cancel i e c).halted (cancel_eases i e c h)
suffer_eases k (Unheard port) c h =
    let d = record c { ports = removed c.ports port } in
    unless_map (free k d).halted (unmoved_eases d (free k d)) (free_unmoved k d (thing d.cells k))

lose_cell_eases : (scan : Scan) (s : Side) (k : ℕ) (x : Option Cell) (c : Core) → Rising 0 c.started c.entries → Unless (Eases c) (lose_cell scan s k x c)
lose_cell_eases scan s k None c h = tt
lose_cell_eases scan s k (Some cell) c h =
    let o = owner k c.entries in
    suffer_eases k (loss s (reference_count scan PromiseSide k c) (reference_count scan FutureSide k c) cell o (port_of k c.ports)) c
    (owned_loss c s (reference_count scan PromiseSide k c) (reference_count scan FutureSide k c) cell o (port_of k c.ports) (owned k c o h refl))

lose_ref_eases : (scan : Scan) (s : Side) (k : ℕ) (c : Core) → Rising 0 c.started c.entries → Unless (Eases c) (lose_ref scan s k c)
lose_ref_eases scan s k c h = lose_cell_eases scan s k (thing c.cells k) c h

pub drop_eases : (scan : Scan) (kd : Kind) (k : ℕ) (c : Core) → Rising 0 c.started c.entries → Unless (Eases c) (drop scan kd k c)
drop_eases scan kd k c h = after_turn (Eases c) (lose_ref scan (side_of kd) k) c c.left (λ n. lose_ref_eases scan (side_of kd) k (record c { left = n }) h)

-- fires: whoever waits at a cell is suspended
pub cell_waits : (es : Numbered Entry) (xs : Numbered Cell) (k : ℕ) (cell : Cell) → CellsWait es xs → thing xs k ≡ Some cell → AllWait es (waiters cell)
cell_waits es [] k cell h e = absurd (none_some e)
  where
    none_some : {X : Type 0} {x : X} → None ≡ Some x → ⊥
    none_some h = cc
cell_waits es (x ∷ xs) k cell h e = by_test (nat_eq k x.0) e (cell_waits es xs k cell h.1)
  where
    by_test : (p : Bool) → (if p then Some x.1 else thing xs k) ≡ Some cell → (thing xs k ≡ Some cell → AllWait es (waiters cell)) → AllWait es (waiters cell)
    by_test true e r = subst (λ y. AllWait es (waiters y)) (same_of e) h.0
    by_test false e r = r e

fire_to_eases : (k : ℕ) (cell : Cell) (w : Waiter) (o : Option Entry) (c : Core) → thing c.entries w.actor ≡ o → is_suspended (thing c.entries w.actor) ≡ Some true
    → Unless (Eases c) (fire_to k cell w o c)
fire_to_eases k cell w None c at h = tt
fire_to_eases k cell w (Some e) c at h =
    let p = pushed (Fire k) c in
    let d = take_branch w.actor w.branch k e [] (Some cell) p in
    unless_map d.halted (λ x. by_number w.actor c d (omega (arith, x.0, same_rank (sym (phase_waits w.actor c h)))) x.1) (branch_shifts w.actor w.branch k e e [] (Some cell) p at)

fire_at_eases : (scan : Scan) (k : ℕ) (cell : Cell) (r : Bool) (ws : List Waiter) (c : Core) → Rising 0 c.started c.entries → AllWait c.entries ws → Unless (Eases c) (fire_at scan k cell r ws c)
fire_at_eases scan k cell r [] c h w = lose_ref_eases scan FutureSide k c h
fire_at_eases scan k cell false (x ∷ ws) c h w = lose_ref_eases scan FutureSide k c h
fire_at_eases scan k cell true (x ∷ ws) c h w = fire_to_eases k cell x (thing c.entries x.actor) c refl w.0

fire_cell_eases : (scan : Scan) (k : ℕ) (o : Option Cell) (c : Core) → thing c.cells k ≡ o → Rising 0 c.started c.entries → CellsWait c.entries c.cells → Unless (Eases c) (fire_cell scan k o c)
fire_cell_eases scan k None c at h w = tt
fire_cell_eases scan k (Some cell) c at h w = fire_at_eases scan k cell (is_ready cell) (waiters cell) c h (cell_waits c.entries c.cells k cell w at)

pub fire_eases : (scan : Scan) (k : ℕ) (c : Core) → Rising 0 c.started c.entries → CellsWait c.entries c.cells → Unless (Eases c) (fire scan k c)
fire_eases scan k c h w = fire_cell_eases scan k (thing c.cells k) c refl h w
