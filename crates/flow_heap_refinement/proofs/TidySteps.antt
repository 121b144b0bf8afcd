-- Each step of a process keeps that waiters and operands agree, and that numbers rise.
use Rattle.std.proofs.Common.{◌≡◌, ℕ, zero, suc, ◌+◌, ◌<◌, ◌≤◌, nat_eq, Bool, true, false, List, [], ◌∷◌, ◌++◌, length, if◌then◌else◌, refl, sym, ap, subst, arith}
use Rattle.std.specs.Prelude.{ℤ, pos, ◌-ℤ◌, ◌^◌, int_le, nat_le, nat_lt, ◌&&◌}
use Rattle.std.specs.declared.option.Option.{Option}
use Rattle.std.specs.declared.option.Option.TheVariants.{None, Some}
use Rattle.flow_base.specs.ErrorNumbers.{operation_cancelled, broken_promise, bad_argument, out_of_range}
use Rattle.flow_value.specs.declared.value.Kind.{Kind}
use Rattle.flow_value.specs.declared.value.Kind.TheVariants as kind
use Rattle.flow_value.specs.Values.{ValueTree, IntValue, RefValue, OutcomeTree, GoodOutcome, BadOutcome}
use Rattle.flow_draw.specs.Words.{scaled}
use Rattle.flow_eval.specs.Predefined.{natural}
use Rattle.flow_trace.specs.declared.line.Line.{Line}
use Rattle.flow_numbered.specs.Numbered.{Numbered, thing, added, put, removed}
use Rattle.flow_meaning.specs.Cells.{Side, PromiseSide, FutureSide, side_of, Ref, Waiter, Cell, Single, Stream, is_complete, is_ready, waiters}
use Rattle.flow_meaning.specs.Requests.{Spot, Act, Pass, Effects, Starts, Waits, Sends, Cancels, Prints, SendsTo, RunsOut, Stuck, DiskCall, Effect, Make, Start, Draw, Delay, Never, Listen, Disk, Goal, Stored, Kept, Ask, Supply}
use Rattle.flow_meaning.specs.Process.{Task, Run, Give, Throw, Catch, Store, Keep, Close, Fire, Drop, Entry, Halt, Core, Proc, Raised, Engine}
use Rattle.flow_meaning.specs.Lines.{broken_line, end_line, throw_line, print_line}
use Rattle.flow_meaning.specs.References.{Scan, reference_count, scan_of}
use Rattle.flow_meaning.specs.Work.{writes, pushed, new_cell, fill, take_branch, first_ready, is_ready_at, owner, cancel, cancel_owner}
use Rattle.flow_meaning.specs.Dropping.{promises_gone, loss, port_of, suffer, lose_cell, lose_ref, drop, fire_to, fire_at, fire_cell, set_result, give_result, close}
use Rattle.flow_meaning.specs.Effects.{throws, result_task, push_result, gives_new, gives_open, empty_cell, between, is_port, open_port, judged, ask_disk, effect, send_to}
use Rattle.flow_meaning.specs.React.{send_by, send_in, print, at_spot, wait_by, wait, react}
use Rattle.flow_meaning.specs.Class.{classes}
use Rattle.flow_meaning.specs.Step.{proc, Stepped, view, enrol_with, enrol, start_core, start_void, start, start_alone, answer_effect, answer, run_next, run, give, store, fate, throw_core, throw, OperandFate, GoesOn, Cancelled, Ready, verdict, with_operand, below, leave_kept, keep_by, keep, close_actor, step_tasks, step_if, step}
use Rattle.flow_meaning.specs.Deliver.{boot_core, deliver, arrive, stop_main, closed_request}
use Rattle.flow_meaning.specs.Orderly.{Rising, Orderly}
use Rattle.flow_meaning.proofs.Posture.{Unless, unless, unless_map, after_turn, Awake}
use Rattle.flow_meaning.proofs.Shifts.{either, run_of, keep_of, close_of}
use Rattle.flow_meaning.proofs.Order.{Ordered, ordered, rising_added}
use Rattle.flow_meaning.proofs.OrderTasks.{taken_at}
use Rattle.flow_heap_refinement.specs.Rested.{NumbersRise}
use Rattle.flow_heap_refinement.specs.CellsTied as law
use Rattle.flow_heap_refinement.specs.CellsTied.{CellsTied}
use Rattle.flow_heap_refinement.specs.Alone.{owners_of}
use Rattle.flow_heap_refinement.proofs.Owners.{entry_found}
use Rattle.flow_heap_refinement.proofs.OwnersOnce.{Since, since, once_since, once_of, port_gone, request_gone, port_made, request_made}
use Rattle.flow_heap_refinement.proofs.Tidy.{Tidy, fill_tidy, gone_tidy, free_tidy, nobody_waits, new_agrees, new_tidy, number_added, numbers_more, ports_more, port_added, port_removed, leave_tidy, branch_tidy, cancel_tidy}
use Rattle.flow_heap_refinement.proofs.TidyWaits.{suspend_tidy, enrol_tidy, enrol_void_tidy, kept_tidy, over_tidy}

-- effects
push_tidy : (z : Since) → (i : ℕ) (o : Option Task) (c : Core) → Tidy z c → Unless (Tidy z) (push_result i o c)
push_tidy z i None c t = tt
push_tidy z i (Some u) c t = unless c.halted t

no_waiters : (k : Kind) → waiters (empty_cell k) ≡ []
no_waiters kind.Promise = refl
no_waiters kind.Future = refl
no_waiters kind.PromiseStream = refl
no_waiters kind.FutureStream = refl

made_tidy : (z : Since) → (i : ℕ) (goal : Goal) (k : Kind) (cell : Cell) (c : Core) → waiters cell ≡ [] → Tidy z c → Unless (Tidy z) (gives_new i goal k cell c)
made_tidy z i goal k cell c w t = push_tidy z i (result_task i goal (RefValue k (suc c.made))) (new_cell cell c) (new_tidy z cell c w t)

opened_tidy : (z : Since) → (i : ℕ) (goal : Goal) (c : Core) → Tidy z c → Unless (Tidy z) (gives_open i goal c)
opened_tidy z i goal c t =
    push_tidy z i (result_task i goal (RefValue kind.Future (suc c.made))) (new_cell (Single None []) (record c { requests = c.requests ++ suc c.made ∷ [] })) (
      new_agrees z (Single None []) c refl t,
      rising_added c.cells 0 c.made (Single None []) (omega arith) t.1,
      number_added 0 c.made c.requests
          (omega arith) t.2,
      ports_more 0 c.made c.ports t.3,
      request_made z c t.4,
    )

port_tidy : (z : Since) → (i : ℕ) (goal : Goal) (port : ℕ) (o : Option ℕ) (c : Core) → thing c.ports port ≡ o → Tidy z c → Unless (Tidy z) (open_port i goal port o c).0
port_tidy z i goal port (Some cell) c e t = unless c.halted t
port_tidy z i goal port None c e t =
    push_tidy z i (result_task i goal (RefValue kind.FutureStream (suc c.made))) (new_cell (Stream [] None None) (record c { ports = added c.ports port (suc c.made) })) (
      new_agrees z (Stream [] None None) c refl t,
      rising_added c.cells 0 c.made (Stream [] None None) (omega arith) t.1,
      numbers_more 0 c.made c.requests t.2,
      port_added 0 c.made port c.ports
          (omega arith) e t.3,
      port_made z c port t.4,
    )

disk_tidy : (z : Since) → (i : ℕ) (goal : Goal) (call : Option (DiskCall ℕ)) (c : Core) → Tidy z c → Unless (Tidy z) (ask_disk i goal call c).0
disk_tidy z i goal None c t = unless c.halted t
disk_tidy z i goal (Some call) c t = opened_tidy z i goal c t

effect_tidy : (z : Since) → (s : Supply) (i : ℕ) (goal : Goal) (eff : Effect) (c : Core) → Tidy z c → Unless (Tidy z) (effect s i goal eff c).0
effect_tidy z s i goal (Make k) c t = made_tidy z i goal k (empty_cell k) c (no_waiters k) t
effect_tidy z s i goal (Start class args) c t = tt
effect_tidy z s i goal (Draw lo hi) c t =
    either (Tidy z) (between (hi -ℤ lo) 1 (2 ^ 32)) _ (throws i bad_argument c) (push_tidy z i (result_task i goal (IntValue (scaled lo (natural (hi -ℤ lo)) s.word))) c t) (unless c.halted t)
effect_tidy z s i goal (Delay ticks) c t = either (Tidy z) (nat_le (s.now + natural ticks) (2 ^ 62)) _ (throws i out_of_range c) (opened_tidy z i goal c t) (unless c.halted t)
effect_tidy z s i goal Never c t = made_tidy z i goal kind.Future (Single None []) c refl t
effect_tidy z s i goal (Listen port) c t = either (Tidy z) (is_port port) _ (throws i bad_argument c) (port_tidy z i goal (natural port) (thing c.ports (natural port)) c refl t) (unless c.halted t)
effect_tidy z s i goal (Disk call) c t = disk_tidy z i goal (judged call) c t

-- sends
send_by_tidy : (z : Since) → (b : Bool) (i k : ℕ) (o : OutcomeTree) (c : Core) → Tidy z c → Unless (Tidy z) (send_by b i k o c)
send_by_tidy z true i k o c t = unless c.halted t
send_by_tidy z false i k o c t = after_turn (Tidy z) (λ d. fill k o (pushed (Run i) d)) c c.left (λ n. fill_tidy z k o (pushed (Run i) (record c { left = n })) t)

send_in_tidy : (z : Since) → (x : Option Cell) (i k : ℕ) (o : OutcomeTree) (c : Core) → Tidy z c → Unless (Tidy z) (send_in x i k o c)
send_in_tidy z None i k o c t = tt
send_in_tidy z (Some cell) i k o c t = send_by_tidy z (is_complete cell) i k o c t

send_to_tidy : (z : Since) → (s : Supply) (i : ℕ) (q port : ℤ) (text : List ℕ) (c : Core) → Tidy z c → Unless (Tidy z) (send_to s i q port text c).0
send_to_tidy z s i q port text c t = either (Tidy z) (int_le (pos 0) q && nat_lt (natural q) s.processes && is_port port) _ (throws i bad_argument c) (unless c.halted t) (unless c.halted t)

-- waits
wait_by_tidy : (z : Since) → (i : ℕ) (spot : Spot) (e e0 : Entry) (vs : List ValueTree) (b : Option (ℕ × ℕ)) (c : Core) → Awake i c → thing c.entries i ≡ Some e0 → e.result ≡ e0.result → Tidy z c
    → Unless (Tidy z) (wait_by i spot e vs b c)
wait_by_tidy z i spot e e0 vs None c a at same t = suspend_tidy z i spot e e0 vs c a at same t
wait_by_tidy z i spot e e0 vs (Some b) c a at same t = branch_tidy z i b.0 b.1 e e0 vs c at same t

wait_tidy : (z : Since) → (i : ℕ) (spot : Spot) (vs : List ValueTree) (c : Core) (o : Option Entry) → Awake i c → thing c.entries i ≡ o → Tidy z c → Unless (Tidy z) (wait i spot o vs c)
wait_tidy z i spot vs c None a at t = tt
wait_tidy z i spot vs c (Some e) a at t = wait_by_tidy z i spot (at_spot spot e) e vs (first_ready c.cells 0 e.operands) c a at refl t

cancel_owner_tidy : (z : Since) → (k : ℕ) (o : Option (ℕ × Entry)) (c : Core) → owner k c.entries ≡ o → Rising 0 c.started c.entries → Tidy z c → Tidy z (cancel_owner o c)
cancel_owner_tidy z k None c e r t = t
cancel_owner_tidy z k (Some x) c e r t = cancel_tidy z x.0 x.1 c (entry_found k 0 c.started x c.entries r e).0 t

print_tidy : (z : Since) → (i : ℕ) (l : Option Line) (c : Core) → Tidy z c → Unless (Tidy z) (print i l c)
print_tidy z i None c t = tt
print_tidy z i (Some l) c t = unless c.halted t

react_tidy : (z : Since) → (s : Supply) (i : ℕ) (act : Act) (c : Core) → Awake i c → Rising 0 c.started c.entries → Tidy z c → Unless (Tidy z) (react s i act c).0
react_tidy z s i Pass c a r t = after_turn (Tidy z) (pushed (Run i)) c c.left (λ n. unless c.halted t)
react_tidy z s i (Effects goal eff) c a r t = effect_tidy z s i goal eff c t
react_tidy z s i (Waits spot vs) c a r t = wait_tidy z i spot vs c (thing c.entries i) a refl t
react_tidy z s i (Sends k o) c a r t = send_in_tidy z (thing c.cells k) i k o c t
react_tidy z s i (Cancels k) c a r t =
    let d = pushed (Run i) c in unless (cancel_owner (owner k c.entries) d).halted (cancel_owner_tidy z k (owner k c.entries) d refl r t)
react_tidy z s i (Prints v) c a r t = print_tidy z i (print_line i v) c t
react_tidy z s i (SendsTo q port text) c a r t = send_to_tidy z s i q port text c t
react_tidy z s i (Starts class args) c a r t = tt
react_tidy z s i RunsOut c a r t = tt
react_tidy z s i Stuck c a r t = tt
react_tidy z s i _ c a r t = unless c.halted t

start_tidy : (z : Since) → (i : ℕ) (goal : Goal) (class : ℕ) (name : List ℕ) (c : Core) → Rising 0 c.started c.entries → Tidy z c → Unless (Tidy z) (start_core i goal class name c)
start_tidy z i goal class name c r t =
    after_turn (Tidy z) (λ d. enrol class name (push_result i (result_task i goal (RefValue kind.Future (suc d.made))) d)) c c.left
    (λ n. by_goal goal n)
  where
    by_goal : (g : Goal) (n : ℕ) → Unless (Tidy z) (enrol class name (push_result i (result_task i g (RefValue kind.Future (suc c.made))) (record c { left = n })))
    by_goal Stored n = let d = pushed (Store i (RefValue kind.Future (suc c.made))) (pushed (Run i) (record c { left = n })) in unless c.halted (enrol_tidy z class name d r t)
    by_goal (Kept spot) n = let d = pushed (Keep i spot (kind.Future, suc c.made)) (pushed (Run i) (record c { left = n })) in unless c.halted (enrol_tidy z class name d r t)

void_tidy : (z : Since) → (i class : ℕ) (name : List ℕ) (c : Core) → Rising 0 c.started c.entries → Tidy z c → Unless (Tidy z) (start_void i class name c)
void_tidy z i class name c r t =
    after_turn (Tidy z) (λ d. enrol_with class name None (pushed (Run i) d)) c c.left
    (λ n. unless c.halted (enrol_void_tidy z class name (pushed (Run i) (record c { left = n })) r t))

-- drops
suffer_tidy : (z : Since) → (scan : Scan) (s : Side) (k : ℕ) (cell : Cell) (a b : ℕ) (o : Option (ℕ × Entry)) (q : Option ℕ) (c : Core) → thing c.cells k ≡ Some cell
    → reference_count scan FutureSide k c ≡ b → owner k c.entries ≡ o
    → Rising 0 c.started c.entries → Tidy z c → Unless (Tidy z) (suffer k (loss s a b cell o q) c)
suffer_tidy z scan PromiseSide k cell zero zero o q c at f ow r t = free_tidy z k cell c at (nobody_waits scan k cell c at f) t
suffer_tidy z scan FutureSide k cell zero zero o q c at f ow r t = free_tidy z k cell c at (nobody_waits scan k cell c at f) t
suffer_tidy z scan PromiseSide k cell zero (suc b) o q c at f ow r t = by_complete (is_complete cell)
  where
    by_complete : (x : Bool) → Unless (Tidy z) (suffer k (promises_gone x) c)
    by_complete true = unless c.halted t
    by_complete false = after_turn (Tidy z) (λ d. fill k (BadOutcome broken_promise) (writes (broken_line k) d)) c c.left
        (λ n. fill_tidy z k (BadOutcome broken_promise) (writes (broken_line k) (record c { left = n })) t)
suffer_tidy z scan FutureSide k cell zero (suc b) o q c at f ow r t = unless c.halted t
suffer_tidy z scan PromiseSide k cell (suc a) b o q c at f ow r t = unless c.halted t
suffer_tidy z scan FutureSide k cell (suc a) (suc b) o q c at f ow r t = unless c.halted t
suffer_tidy z scan FutureSide k cell (suc a) zero (Some x) q c at f ow r t =
    unless (cancel x.0 x.1 c).halted (cancel_tidy z x.0 x.1 c (entry_found k 0 c.started x c.entries r ow).0 t)
suffer_tidy z scan FutureSide k cell (suc a) zero None (Some port) c at f ow r t =
    free_tidy z k cell (record c { ports = removed c.ports port }) at (nobody_waits scan k cell c at f) (t.0, t.1, t.2, port_removed 0 c.made port c.ports t.3, port_gone z c port t.4)
suffer_tidy z scan FutureSide k cell (suc a) zero None None c at f ow r t = unless c.halted t

lose_cell_tidy : (z : Since) → (scan : Scan) (s : Side) (k : ℕ) (x : Option Cell) (c : Core) → thing c.cells k ≡ x → Rising 0 c.started c.entries → Tidy z c → Unless (Tidy z) (lose_cell scan s k x c)
lose_cell_tidy z scan s k None c at r t = tt
lose_cell_tidy z scan s k (Some cell) c at r t = suffer_tidy z scan s k cell (reference_count scan PromiseSide k c) (reference_count scan FutureSide k c) (owner k c.entries)
    (port_of k c.ports) c at refl refl r t

lose_tidy : (z : Since) → (scan : Scan) (s : Side) (k : ℕ) (c : Core) → Rising 0 c.started c.entries → Tidy z c → Unless (Tidy z) (lose_ref scan s k c)
lose_tidy z scan s k c r t = lose_cell_tidy z scan s k (thing c.cells k) c refl r t

drop_tidy : (z : Since) → (scan : Scan) (kd : Kind) (k : ℕ) (c : Core) → Rising 0 c.started c.entries → Tidy z c → Unless (Tidy z) (drop scan kd k c)
drop_tidy z scan kd k c r t = after_turn (Tidy z) (lose_ref scan (side_of kd) k) c c.left (λ n. lose_tidy z scan (side_of kd) k (record c { left = n }) r t)

-- fires
fire_to_tidy : (z : Since) → (k : ℕ) (cell : Cell) (w : Waiter) (x : Option Entry) (c : Core) → thing c.cells k ≡ Some cell → thing c.entries w.actor ≡ x → Tidy z c
    → Unless (Tidy z) (fire_to k cell w x c)
fire_to_tidy z k cell w None c ck at t = tt
fire_to_tidy z k cell w (Some e) c ck at t =
    let p = pushed (Fire k) c in subst (λ y. Unless (Tidy z) (take_branch w.actor w.branch k e [] y p)) ck (branch_tidy z w.actor w.branch k e e [] p at refl t)

fire_at_tidy : (z : Since) → (scan : Scan) (k : ℕ) (cell : Cell) (b : Bool) (ws : List Waiter) (c : Core) → thing c.cells k ≡ Some cell → Rising 0 c.started c.entries → Tidy z c
    → Unless (Tidy z) (fire_at scan k cell b ws c)
fire_at_tidy z scan k cell b [] c ck r t = lose_tidy z scan FutureSide k c r t
fire_at_tidy z scan k cell false (w ∷ ws) c ck r t = lose_tidy z scan FutureSide k c r t
fire_at_tidy z scan k cell true (w ∷ ws) c ck r t = fire_to_tidy z k cell w (thing c.entries w.actor) c ck refl t

fire_cell_tidy : (z : Since) → (scan : Scan) (k : ℕ) (x : Option Cell) (c : Core) → thing c.cells k ≡ x → Rising 0 c.started c.entries → Tidy z c → Unless (Tidy z) (fire_cell scan k x c)
fire_cell_tidy z scan k None c at r t = tt
fire_cell_tidy z scan k (Some cell) c at r t = fire_at_tidy z scan k cell (is_ready cell) (waiters cell) c at r t

-- an actor ends
result_tidy : (z : Since) → (scan : Scan) (k : ℕ) (v : OutcomeTree) (f : ℕ) (c : Core) → reference_count scan FutureSide k c ≡ f → Tidy z c → Unless (Tidy z) (set_result k v f c)
result_tidy z scan k v zero c e t = unless c.halted (by_cell (thing c.cells k) refl)
  where
    no_thing : (k : ℕ) (cs : Numbered Cell) → thing cs k ≡ None → removed cs k ≡ cs
    no_thing k [] e = refl
    no_thing k (x ∷ xs) e = by_test (nat_eq k x.0) e (no_thing k xs)
      where
        by_test : (b : Bool) → (if b then Some x.1 else thing xs k) ≡ None → (thing xs k ≡ None → removed xs k ≡ xs) → (if b then xs else x ∷ removed xs k) ≡ x ∷ xs
        by_test true f rest = absurd (cc)
        by_test false f rest = ap (λ ys. x ∷ ys) (rest f)

    by_cell : (x : Option Cell) → thing c.cells k ≡ x → Tidy z (record c { cells = removed c.cells k })
    by_cell None at = subst (λ cs. Tidy z (record c { cells = cs })) (sym (no_thing k c.cells at)) t
    by_cell (Some cell) at = gone_tidy z k cell c at (nobody_waits scan k cell c at e) t
result_tidy z scan k v (suc f) c e t = after_turn (Tidy z) (fill k v) c c.left (λ n. fill_tidy z k v (record c { left = n }) t)

given_tidy : (z : Since) → (scan : Scan) (x : Option ℕ) (v : OutcomeTree) (c : Core) → Tidy z c → Unless (Tidy z) (give_result scan x v c)
given_tidy z scan None v c t = unless c.halted t
given_tidy z scan (Some k) v c t = result_tidy z scan k v (reference_count scan FutureSide k c) c refl t

close_tidy : (z : Since) → (scan : Scan) (i : ℕ) (x : Option ℕ) (v : OutcomeTree) (c : Core) → Awake i c → Rising 0 c.started c.entries → Tidy z c → Unless (Tidy z) (close scan i x v c)
close_tidy z scan i x v c a r t =
    let d = record c { entries = removed c.entries i } in
    after_turn (Tidy z) (λ d. give_result scan x v (writes (end_line i v) d)) d c.left (λ n. given_tidy z scan x v (writes (end_line i v) (record d { left = n })) (over_tidy z i c a r t))

leave_kept_tidy : (z : Since) → (i b : ℕ) (v : OperandFate) (x : Ref) (en e0 : Entry) (vs : List ValueTree) (c : Core) → thing c.entries i ≡ Some e0 → en.result ≡ e0.result → Tidy z c
    → Unless (Tidy z) (leave_kept i b v x en vs c)
leave_kept_tidy z i b GoesOn x en e0 vs c at same t = unless c.halted t
leave_kept_tidy z i b Cancelled x en e0 vs c at same t = unless c.halted (leave_tidy z i en e0 vs (Throw i operation_cancelled) c at same t)
leave_kept_tidy z i b Ready x en e0 vs c at same t = branch_tidy z i b x.1 en e0 vs c at same t

thrown_tidy : (z : Since) → (i err : ℕ) (x : Raised) (o : Option Entry) (c : Core) → thing c.entries i ≡ o → Tidy z c → Unless (Tidy z) (throw_core i err x o c)
thrown_tidy z i err x None c at t = tt
thrown_tidy z i err x (Some e) c at t = unless c.halted (leave_tidy z i e e x.values (fate i err x.caught) (writes (throw_line i err) c) at refl t)

module _ {A : Type 0} (z : Since) (e : Engine A) where
  abbrev Keeps : Stepped A → Type 0
  Keeps r = Unless (Tidy z) r.0.core

  give_keeps : (i b : ℕ) (o : OutcomeTree) (x : Option A) (k : Core) (xs : Numbered A) → Tidy z k → Keeps (give e i b o x (proc k xs))
  give_keeps i b o None k xs t = tt
  give_keeps i b (BadOutcome err) (Some x) k xs t = unless k.halted t
  give_keeps i b (GoodOutcome v) (Some x) k xs t = unless k.halted t

  store_keeps : (i : ℕ) (v : ValueTree) (x : Option A) (k : Core) (xs : Numbered A) → Tidy z k → Keeps (store e i v x (proc k xs))
  store_keeps i v None k xs t = tt
  store_keeps i v (Some x) k xs t = unless k.halted t

  throw_keeps : (i err : ℕ) (x : Option A) (k : Core) (xs : Numbered A) → Tidy z k → Keeps (throw e i err x (proc k xs))
  throw_keeps i err None k xs t = tt
  throw_keeps i err (Some x) k xs t = thrown_tidy z i err (e.raise err x).0 (thing k.entries i) k refl t

  keep_by_keeps : (i b : ℕ) (v : OperandFate) (spot : Spot) (r : Ref) (en : Entry) (x : A) (k : Core) (xs : Numbered A) → Awake i k → thing k.entries i ≡ Some en → Tidy z k
      → Keeps (keep_by e i b v r (with_operand spot r en) x (proc k xs))
  keep_by_keeps i b GoesOn spot r en x k xs a at t = unless k.halted (kept_tidy z i spot r en k a at t)
  keep_by_keeps i b Cancelled spot r en x k xs a at t = leave_kept_tidy z i b Cancelled r (with_operand spot r en) en (e.lose x).0 (record k { tasks = below k.tasks }) at refl t
  keep_by_keeps i b Ready spot r en x k xs a at t = leave_kept_tidy z i b Ready r (with_operand spot r en) en (e.lose x).0 (record k { tasks = below k.tasks }) at refl t

  keep_keeps : (i : ℕ) (spot : Spot) (r : Ref) (x : Option A) (en : Option Entry) (k : Core) (xs : Numbered A) → Awake i k → thing k.entries i ≡ en → Tidy z k
      → Keeps (keep e i spot r x en (proc k xs))
  keep_keeps i spot r None None k xs a at t = tt
  keep_keeps i spot r None (Some en) k xs a at t = tt
  keep_keeps i spot r (Some x) None k xs a at t = tt
  keep_keeps i spot r (Some x) (Some en) k xs a at t = keep_by_keeps i (length en.operands) (verdict en.marked (is_ready_at (thing k.cells r.1))) spot r en x k xs a at t

  close_keeps : (i : ℕ) (o : OutcomeTree) (en : Option Entry) (k : Core) (xs : Numbered A) → Awake i k → Rising 0 k.started k.entries → Tidy z k → Keeps (close_actor e i o en (proc k xs))
  close_keeps i o None k xs a r t = tt
  close_keeps i o (Some en) k xs a r t = close_tidy z (scan_of e.occ (removed xs i)) i en.result o k a r t

  start_keeps : (i : ℕ) (goal : Goal) (class : ℕ) (x : Option A) (k : Core) (xs : Numbered A) → Rising 0 k.started k.entries → Tidy z k → Keeps (start e i goal class x (proc k xs))
  start_keeps i goal class None k xs r t = tt
  start_keeps i goal class (Some x) k xs r t = start_tidy z i goal class (e.label class) k r t

  alone_keeps : (i class : ℕ) (x : Option A) (k : Core) (xs : Numbered A) → Rising 0 k.started k.entries → Tidy z k → Keeps (start_alone e i class x (proc k xs))
  alone_keeps i class None k xs r t = tt
  alone_keeps i class (Some x) k xs r t = void_tidy z i class (e.label class) k r t

  effect_keeps : (s : Supply) (i : ℕ) (goal : Goal) (eff : Effect) (k : Core) (xs : Numbered A) → Awake i k → Rising 0 k.started k.entries → Tidy z k → Keeps (answer_effect e s i goal eff (proc k xs))
  effect_keeps s i goal (Start class args) k xs a r t = start_keeps i goal class (e.fresh class args) k xs r t
  effect_keeps s i goal eff k xs a r t = react_tidy z s i (Effects goal eff) k a r t

  answer_keeps : (s : Supply) (i : ℕ) (act : Act) (k : Core) (xs : Numbered A) → Awake i k → Rising 0 k.started k.entries → Tidy z k → Keeps (answer e s i act (proc k xs))
  answer_keeps s i (Effects goal eff) k xs a r t = effect_keeps s i goal eff k xs a r t
  answer_keeps s i (Starts class args) k xs a r t = alone_keeps i class (e.fresh class args) k xs r t
  answer_keeps s i act k xs a r t = react_tidy z s i act k a r t

  next_keeps : (s : Supply) (i : ℕ) (ts : List Task) (p : Option Ask × A) (c : Core) (xs : Numbered A) → Awake i c → Rising 0 c.started c.entries → Tidy z c → Keeps (run_next e s i ts p (proc c xs))
  next_keeps s i ts (None, x) c xs a r t = unless c.halted t
  next_keeps s i ts (Some ask, x) c xs a r t = answer_keeps s i ask.act (record c { tasks = ts; left = ask.left }) (put xs i x) a r t

  run_keeps : (s : Supply) (i : ℕ) (ts : List Task) (x : Option A) (c : Core) (xs : Numbered A) → Awake i c → Rising 0 c.started c.entries → Tidy z c → Keeps (run e s i ts x (proc c xs))
  run_keeps s i ts None c xs a r t = tt
  run_keeps s i ts (Some x) c xs a r t = next_keeps s i ts (e.next (view s i c) x) c xs a r t

  -- a step
  abbrev KeepsMaybe : Option (Stepped A) → Type 0
  KeepsMaybe None = Unit {0}
  KeepsMaybe (Some r) = Keeps r

  tasks_keep : (s : Supply) (ts : List Task) (c : Core) (xs : Numbered A) → Ordered c → c.tasks ≡ ts → Tidy z c → KeepsMaybe (step_tasks e s ts (proc c xs))
  tasks_keep s [] c xs o top t = tt
  tasks_keep s (Run i ∷ ts) c xs o top t = run_keeps s i ts (thing xs i) c xs (taken_at i (Run i) ts c o top (run_of i)).awake o.3 t
  tasks_keep s (Give i b v ∷ ts) c xs o top t = give_keeps i b v (thing xs i) (record c { tasks = ts }) xs t
  tasks_keep s (Throw i err ∷ ts) c xs o top t = throw_keeps i err (thing xs i) (record c { tasks = ts }) xs t
  tasks_keep s (Catch i err ∷ ts) c xs o top t = unless c.halted t
  tasks_keep s (Store i v ∷ ts) c xs o top t = store_keeps i v (thing xs i) (record c { tasks = ts }) xs t
  tasks_keep s (Keep i spot r ∷ ts) c xs o top t = keep_keeps i spot r (thing xs i) (thing c.entries i) (record c { tasks = ts }) xs
      (taken_at i (Keep i spot r) ts c o top (keep_of i spot r)).awake refl t
  tasks_keep s (Close i v ∷ ts) c xs o top t = close_keeps i v (thing c.entries i) (record c { tasks = ts }) xs (taken_at i (Close i v) ts c o top (close_of i v)).awake o.3 t
  tasks_keep s (Fire n ∷ ts) c xs o top t = fire_cell_tidy z (scan_of e.occ xs) n (thing c.cells n) (record c { tasks = ts }) refl o.3 t
  tasks_keep s (Drop kd n ∷ ts) c xs o top t = drop_tidy z (scan_of e.occ xs) kd n (record c { tasks = ts }) o.3 t

  if_keeps : (s : Supply) (x : Option Halt) (c : Core) (xs : Numbered A) → Ordered c → Tidy z c → KeepsMaybe (step_if e s x (proc c xs))
  if_keeps s (Some x) c xs o t = tt
  if_keeps s None c xs o t = tasks_keep s c.tasks c xs o refl t

  pub step_keeps : (s : Supply) (p : Proc A) (q : Stepped A) → Orderly p.core → Tidy z p.core → step e s p ≡ Some q → Unless (Tidy z) q.0.core
  step_keeps s p q o t h = subst KeepsMaybe h (if_keeps s p.core.halted p.core p.actors (ordered p.core o) t)

-- as it is said
to_tied : (z : Since) (c : Core) → ((k : ℕ) → z.owners k < 2) → Tidy z c → CellsTied c
to_tied z c few t = record { agree = t.0; numbers = record { ports = t.3; cells = t.1; requests = t.2 }; once = once_of z c few t.4 }

to_tidy : (c : Core) → CellsTied c → Tidy (since c) c
to_tidy c t = (t.agree, t.numbers.cells, t.numbers.requests, t.numbers.ports, once_since c t.once)

few_then : (c : Core) → CellsTied c → (k : ℕ) → owners_of k c < 2
few_then c t k = (t.once k).0

pub steps_tied : law.StepsTied
steps_tied r s p q o t h = unless_map q.0.core.halted (to_tied (since p.core) q.0.core (few_then p.core t)) (step_keeps (since p.core) (classes r) s p q o (to_tidy p.core t) h)

pub owners_stay : law.OwnersStay
owners_stay r s p q o t h =
    unless_map q.0.core.halted (λ (u : Tidy (since p.core) q.0.core). (u.4.0, λ k l. (u.4.1 k).0 (omega (arith, l)))) (step_keeps (since p.core) (classes r) s p q o (to_tidy p.core t) h)

-- a request is closed
closed_rise : (k above n : ℕ) (ks : List ℕ) → NumbersRise above n ks → NumbersRise above n (closed_request k ks)
closed_rise k above n [] h = tt
closed_rise k above n (x ∷ xs) h = by_test (nat_eq k x) (closed_rise k x n xs h.2)
  where
    from : (low above : ℕ) (ks : List ℕ) → low ≤ above → NumbersRise above n ks → NumbersRise low n ks
    from low above [] l g = tt
    from low above (y ∷ ys) l g = (omega (arith, l, g.0), g.1, g.2)

    by_test : (b : Bool) → NumbersRise x n (closed_request k xs) → NumbersRise above n (if b then xs else x ∷ closed_request k xs)
    by_test true g = from above x xs (omega (arith, h.0)) h.2
    by_test false g = (h.0, h.1, g)

pub deliveries_since : (k : ℕ) (o : OutcomeTree) (c : Core) → CellsTied c → Unless (Tidy (since c)) (deliver k o c)
deliveries_since k o c t =
    let u = to_tidy c t in
    let d = pushed (Drop kind.Promise k) (record c { requests = closed_request k c.requests }) in
    after_turn (Tidy (since c)) (fill k o) d c.left
    (λ n. fill_tidy (since c) k o (record d { left = n }) (u.0, u.1, closed_rise k 0 c.made c.requests u.2, u.3, request_gone (since c) c k u.4))

pub deliveries_tied : law.DeliveriesTied
deliveries_tied k o c t = unless_map (deliver k o c).halted (to_tied (since c) (deliver k o c) (few_then c t)) (deliveries_since k o c t)

pub arrivals_since : (k : ℕ) (v : ValueTree) (c : Core) → CellsTied c → Unless (Tidy (since c)) (arrive k v c)
arrivals_since k v c t = after_turn (Tidy (since c)) (fill k (GoodOutcome v)) c c.left (λ n. fill_tidy (since c) k (GoodOutcome v) (record c { left = n }) (to_tidy c t))

pub arrivals_tied : law.ArrivalsTied
arrivals_tied k v c t = unless_map (arrive k v c).halted (to_tied (since c) (arrive k v c) (few_then c t)) (arrivals_since k v c t)

pub boots_since : (class : ℕ) (name : List ℕ) (c : Core) → Orderly c → CellsTied c → Unless (Tidy (since c)) (boot_core class name c)
boots_since class name c o t =
    after_turn (Tidy (since c)) (λ d. record (enrol class name d) { main = Some (suc d.made) }) c c.left
    (λ n. unless c.halted (enrol_tidy (since c) class name (record c { left = n }) o.numbered (to_tidy c t)))

pub boots_tied : law.BootsTied
boots_tied class name c o t = unless_map (boot_core class name c).halted (to_tied (since c) (boot_core class name c) (few_then c t)) (boots_since class name c o t)

stopped_tied : (m : Option ℕ) (c : Core) → CellsTied c → CellsTied (stop_main m c)
stopped_tied None c t = t
stopped_tied (Some k) c t = record { agree = t.agree; numbers = record { ports = t.numbers.ports; cells = t.numbers.cells; requests = t.numbers.requests }; once = t.once }

pub stops_tied : law.StopsTied
stops_tied c t = stopped_tied c.main c t

-- nothing is there
pub idle_tied : law.IdleTied
idle_tied = record { agree = λ i k. refl; numbers = record { ports = tt; cells = tt; requests = tt }; once = λ k. (omega arith, λ l. refl) }

pub vanished_tied : law.VanishedTied
vanished_tied p = record { agree = λ i k. refl; numbers = record { ports = tt; cells = tt; requests = tt }; once = λ k. (omega arith, λ l. refl) }
