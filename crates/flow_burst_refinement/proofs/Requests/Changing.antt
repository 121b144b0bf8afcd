-- What each thing that a process does makes of its ports.
use Rattle.std.proofs.Common.{◌≡◌, ◌≤◌, ◌^◌, ℕ, zero, suc, ◌+◌, nat_lt, Bool, true, false, List, [], ◌∷◌, ◌++◌, length, if◌then◌else◌, refl, ◌∙◌, subst, arith}
use Rattle.std.specs.Prelude.{pos, ◌-ℤ◌, int_le, nat_le, ◌&&◌}
use Rattle.std.specs.declared.option.Option.{Option}
use Rattle.std.specs.declared.option.Option.TheVariants.{None, Some}
use Rattle.flow_base.specs.ErrorNumbers.{bad_argument, out_of_range, broken_promise}
use Rattle.flow_trace.specs.declared.line.Line.{Line}
use Rattle.flow_eval.specs.Predefined.{natural}
use Rattle.flow_value.specs.declared.value.Kind.{Kind}
use Rattle.flow_value.specs.declared.value.Kind.TheVariants as kind
use Rattle.flow_value.specs.Values.{ValueTree, IntValue, RefValue, OutcomeTree, GoodOutcome, BadOutcome}
use Rattle.flow_numbered.specs.Numbered.{thing, added, put, removed}
use Rattle.flow_meaning.specs.Cells.{Side, PromiseSide, FutureSide, side_of, Ref, Waiter, Cell, Single, Stream, is_complete, is_ready, waiters, taken, after_taking}
use Rattle.flow_meaning.specs.Requests.{Spot, DiskCall, Effect, Make, Start, Draw, Delay, Never, Listen, Disk, Goal, Act, Goes, Pass, Drops, Effects, Starts, Operand, Waits, Sends, Cancels, Prints, SendsTo, Returns, Throws, RunsOut, Stuck, Ask, Drew, Timer, Packet, Supply}
use Rattle.flow_meaning.specs.Process.{Task, Run, Give, Throw, Catch, Store, Keep, Close, Fire, Drop, Entry, Halt, Core, Proc, Engine}
use Rattle.flow_meaning.specs.Lines.{take_line, cancel_line, broken_line, end_line, print_line}
use Rattle.flow_meaning.specs.References.{Scan, reference_count, scan_of}
use Rattle.flow_meaning.specs.Work as work
use Rattle.flow_meaning.specs.Work.{turn, turn_of, writes, pushed, new_cell, fill, fill_cell, free, free_cell, leave_for, take_branch, take_from, first_ready, is_ready_at, Registration, Registered, Refused, Missing, register, owner, cancel_by, cancel, cancel_owner}
use Rattle.flow_meaning.specs.Dropping.{Loss, Kept, Freed, Broken, Orphan, Unheard, loss, port_of, break_cell, suffer, lose_cell, lose_ref, drop, fire_to, fire_at, fire_cell, fire, set_result, give_result, close}
use Rattle.flow_meaning.specs.Effects.{Reaction, result_task, push_result, gives, gives_new, gives_open, throws, scaled, empty_cell, between, is_port, open_port, judged, ask_disk, effect}
use Rattle.flow_meaning.specs.React.{send_by, send_in, print, at_spot, suspend, wait_by, wait, react}
use Rattle.flow_meaning.specs.Step.{Stepped, proc, view, enrol_with, enrol, start, start_alone, start_core, start_void, answer, run_next, run, give, store, throw_core, throw, OperandFate, GoesOn, Cancelled, Ready, verdict, with_operand, below, keep_by, keep, close_actor, scanned, do_task, popped, step_if, step_tasks, step}
use Rattle.flow_meaning.specs.Class.{classes}
use Rattle.flow_burst_refinement.specs.Requests.Ports as law
use Rattle.flow_burst_refinement.specs.Requests.Ports.{PortsChange, same, more}

-- nothing changes, and no fewer cells are made
pub record Stays (c d : Core) : Type 0 where
  pub ports : d.ports ≡ c.ports
  pub made : c.made ≤ d.made

stay : (c d : Core) → d.ports ≡ c.ports → d.made ≡ c.made → Stays c d
stay c d a b = record { ports = a; made = omega (arith, b) }

stay_more : (c d : Core) → d.ports ≡ c.ports → d.made ≡ suc c.made → Stays c d
stay_more c d a b = record { ports = a; made = omega (arith, b) }

stays_then : (c d e : Core) → Stays c d → Stays d e → Stays c e
stays_then c d e a b = record { ports = b.ports ∙ a.ports; made = let x = a.made in let y = b.made in omega (arith, x, y) }

-- a turn
turn_stays : (c : Core) (act : Core → Core) → ((d : Core) → Stays d (act d)) → Stays c (turn c act)
turn_stays c act go = by_left c.left
  where
    by_left : (n : ℕ) → Stays c (turn_of n c act)
    by_left zero = stay c (turn_of zero c act) refl refl
    by_left (suc n) = let a = go (record c { left = n }) in record { ports = a.ports; made = a.made }

turn_changes : (c : Core) (act : Core → Core) → ((d : Core) → PortsChange d (act d)) → PortsChange c (turn c act)
turn_changes c act go = by_left c.left
  where
    again : (n : ℕ) (e : Core) → PortsChange (record c { left = n }) e → PortsChange c e
    again n e (same a b) = same a b
    again n e (law.lost port a b) = law.lost port a b
    again n e (more port a b) = more port a b

    by_left : (n : ℕ) → PortsChange c (turn_of n c act)
    by_left zero = same refl (omega arith)
    by_left (suc n) = again n (act (record c { left = n })) (go (record c { left = n }))

as_change : (c d : Core) → Stays c d → PortsChange c d
as_change c d a = same a.ports a.made

-- cells
fill_stays : (k : ℕ) (o : OutcomeTree) (c : Core) → Stays c (fill k o c)
fill_stays k o c = by_cell (thing c.cells k)
  where
    by_cell : (x : Option Cell) → Stays c (fill_cell k o x c)
    by_cell None = stay c (fill_cell k o None c) refl refl
    by_cell (Some cell) = stay c (fill_cell k o (Some cell) c) refl refl

free_stays : (k : ℕ) (c : Core) → Stays c (free k c)
free_stays k c = by_cell (thing c.cells k)
  where
    by_cell : (x : Option Cell) → Stays c (free_cell k x c)
    by_cell None = stay c (free_cell k None c) refl refl
    by_cell (Some cell) = stay c (free_cell k (Some cell) c) refl refl

-- waits
given_stays : (i b : ℕ) (e : Entry) (vs : List ValueTree) (o : Option OutcomeTree) (c : Core) → Stays c (work.give i b e vs o c)
given_stays i b e vs None c = stay c (work.give i b e vs None c) refl refl
given_stays i b e vs (Some o) c = stay c (work.give i b e vs (Some o) c) refl refl

branch_stays : (i b k : ℕ) (e : Entry) (vs : List ValueTree) (o : Option Cell) (c : Core) → Stays c (take_branch i b k e vs o c)
branch_stays i b k e vs None c = stay c (take_branch i b k e vs None c) refl refl
branch_stays i b k e vs (Some cell) c =
    turn_stays c (λ d. work.give i b e vs (taken cell) (record (writes (take_line i e.spot.group b) d) { cells = put d.cells k (after_taking cell) }))
    (λ d. let x : Core = record (writes (take_line i e.spot.group b) d) { cells = put d.cells k (after_taking cell) } in
    let a = given_stays i b e vs (taken cell) x in record { ports = a.ports; made = a.made })

cancel_stays : (i : ℕ) (e : Entry) (c : Core) → Stays c (cancel i e c)
cancel_stays i e c = by_wait e.suspended
  where
    by_wait : (b : Bool) → Stays c (cancel_by b i e (writes (cancel_line i) c))
    by_wait true = stay c (cancel_by true i e (writes (cancel_line i) c)) refl refl
    by_wait false = stay c (cancel_by false i e (writes (cancel_line i) c)) refl refl

owner_stays : (o : Option (ℕ × Entry)) (c : Core) → Stays c (cancel_owner o c)
owner_stays None c = stay c c refl refl
owner_stays (Some o) c = cancel_stays o.0 o.1 c

suspend_stays : (i : ℕ) (spot : Spot) (e : Entry) (vs : List ValueTree) (g : Registration) (c : Core) → Stays c (suspend i spot e vs g c)
suspend_stays i spot e vs Missing c = stay c (suspend i spot e vs Missing c) refl refl
suspend_stays i spot e vs Refused c = stay c (suspend i spot e vs Refused c) refl refl
suspend_stays i spot e vs (Registered cells) c = stay c (suspend i spot e vs (Registered cells) c) refl refl

wait_stays : (i : ℕ) (spot : Spot) (o : Option Entry) (vs : List ValueTree) (c : Core) → Stays c (wait i spot o vs c)
wait_stays i spot None vs c = stay c (wait i spot None vs c) refl refl
wait_stays i spot (Some e) vs c = by_ready (first_ready c.cells 0 e.operands)
  where
    by_ready : (b : Option (ℕ × ℕ)) → Stays c (wait_by i spot (at_spot spot e) vs b c)
    by_ready (Some b) = branch_stays i b.0 b.1 (at_spot spot e) vs (thing c.cells b.1) c
    by_ready None = suspend_stays i spot (at_spot spot e) vs (register i 0 e.operands (Registered c.cells)) c

-- a reference is lost
break_stays : (k : ℕ) (c : Core) → Stays c (break_cell k c)
break_stays k c =
    turn_stays c (λ d. fill k (BadOutcome broken_promise) (writes (broken_line k) d))
    (λ d. let a = fill_stays k (BadOutcome broken_promise) (writes (broken_line k) d) in record { ports = a.ports; made = a.made })

suffer_changes : (k : ℕ) (l : Loss) (c : Core) → PortsChange c (suffer k l c)
suffer_changes k Kept c = same refl (omega arith)
suffer_changes k Freed c = as_change c (free k c) (free_stays k c)
suffer_changes k Broken c = as_change c (break_cell k c) (break_stays k c)
suffer_changes k (Orphan i e) c = as_change c (cancel i e c) (cancel_stays i e c)
suffer_changes k (Unheard port) c = let a = free_stays k (record c { ports = removed c.ports port }) in law.lost port a.ports a.made

lose_changes : (scan : Scan) (s : Side) (k : ℕ) (c : Core) → PortsChange c (lose_ref scan s k c)
lose_changes scan s k c = by_cell (thing c.cells k)
  where
    by_cell : (o : Option Cell) → PortsChange c (lose_cell scan s k o c)
    by_cell None = same refl (omega arith)
    by_cell (Some cell) = suffer_changes k (loss s (reference_count scan PromiseSide k c) (reference_count scan FutureSide k c) cell (owner k c.entries) (port_of k c.ports)) c

drop_changes : (scan : Scan) (kd : Kind) (k : ℕ) (c : Core) → PortsChange c (drop scan kd k c)
drop_changes scan kd k c = turn_changes c (λ d. lose_ref scan (side_of kd) k d) (λ d. lose_changes scan (side_of kd) k d)

fire_changes : (scan : Scan) (k : ℕ) (c : Core) → PortsChange c (fire scan k c)
fire_changes scan k c = by_cell (thing c.cells k)
  where
    by_entry : (cell : Cell) (w : Waiter) (o : Option Entry) → PortsChange c (fire_to k cell w o c)
    by_entry cell w None = same refl (omega arith)
    by_entry cell w (Some e) = let a = branch_stays w.actor w.branch k e [] (Some cell) (pushed (Fire k) c) in same a.ports a.made

    by_waiters : (cell : Cell) (ready : Bool) (ws : List Waiter) → PortsChange c (fire_at scan k cell ready ws c)
    by_waiters cell ready [] = lose_changes scan FutureSide k c
    by_waiters cell false (w ∷ ws) = lose_changes scan FutureSide k c
    by_waiters cell true (w ∷ ws) = by_entry cell w (thing c.entries w.actor)

    by_cell : (o : Option Cell) → PortsChange c (fire_cell scan k o c)
    by_cell None = same refl (omega arith)
    by_cell (Some cell) = by_waiters cell (is_ready cell) (waiters cell)

-- the end of an actor
result_stays : (scan : Scan) (o : OutcomeTree) (result : Option ℕ) (c : Core) → Stays c (give_result scan result o c)
result_stays scan o None c = stay c (give_result scan None o c) refl refl
result_stays scan o (Some k) c = by_futures (reference_count scan FutureSide k c)
  where
    by_futures : (n : ℕ) → Stays c (set_result k o n c)
    by_futures zero = stay c (set_result k o zero c) refl refl
    by_futures (suc n) = turn_stays c (λ d. fill k o d) (λ d. fill_stays k o d)

close_stays : (scan : Scan) (i : ℕ) (result : Option ℕ) (o : OutcomeTree) (c : Core) → Stays c (close scan i result o c)
close_stays scan i result o c =
    let x : Core = record c { entries = removed c.entries i } in
    let a = turn_stays x (λ d. give_result scan result o (writes (end_line i o) d)) (λ d. let b = result_stays scan o result (writes (end_line i o) d) in record { ports = b.ports; made = b.made }) in
    record { ports = a.ports; made = a.made }

-- effects
push_stays : (i : ℕ) (o : Option Task) (c : Core) → Stays c (push_result i o c)
push_stays i None c = stay c (push_result i None c) refl refl
push_stays i (Some t) c = stay c (push_result i (Some t) c) refl refl

new_stays : (i : ℕ) (goal : Goal) (kd : Kind) (cell : Cell) (c : Core) → Stays c (gives_new i goal kd cell c)
new_stays i goal kd cell c =
    let a = push_stays i (result_task i goal (RefValue kd (suc c.made))) (new_cell cell c) in
    record { ports = a.ports; made = let b = a.made in omega (arith, b) }

open_stays : (i : ℕ) (goal : Goal) (c : Core) → Stays c (gives_open i goal c)
open_stays i goal c =
    let a = new_stays i goal kind.Future (Single None []) (record c { requests = c.requests ++ suc c.made ∷ [] }) in record { ports = a.ports; made = a.made }

send_stays : (o : Option Cell) (i k : ℕ) (out : OutcomeTree) (c : Core) → Stays c (send_in o i k out c)
send_stays None i k out c = stay c (send_in None i k out c) refl refl
send_stays (Some cell) i k out c = by_end (is_complete cell)
  where
    by_end : (b : Bool) → Stays c (send_by b i k out c)
    by_end true = stay c (send_by true i k out c) refl refl
    by_end false = turn_stays c (λ d. fill k out (pushed (Run i) d)) (λ d. let a = fill_stays k out (pushed (Run i) d) in record { ports = a.ports; made = a.made })

print_stays : (i : ℕ) (o : Option Line) (c : Core) → Stays c (print i o c)
print_stays i None c = stay c (print i None c) refl refl
print_stays i (Some l) c = stay c (print i (Some l) c) refl refl

-- one of two
either : (c : Core) (b : Bool) (x y : Reaction) → PortsChange c x.0 → PortsChange c y.0 → PortsChange c (if b then x else y).0
either c true x y a d = a
either c false x y a d = d

thrown : (i e : ℕ) (c : Core) → PortsChange c (pushed (Throw i e) c)
thrown i e c = same refl (omega arith)

effect_changes : (s : Supply) (i : ℕ) (goal : Goal) (eff : Effect) (c : Core) → PortsChange c (effect s i goal eff c).0
effect_changes s i goal (Make k) c = as_change c (gives_new i goal k (empty_cell k) c) (new_stays i goal k (empty_cell k) c)
effect_changes s i goal (Start class args) c = same refl (omega arith)
effect_changes s i goal (Draw lo hi) c =
    either c (between (hi -ℤ lo) 1 (2 ^ 32)) (gives i goal (IntValue (scaled lo (natural (hi -ℤ lo)) s.word)) c, Some (Drew (natural (hi -ℤ lo)))) (throws i bad_argument c)
    (as_change c (gives i goal (IntValue (scaled lo (natural (hi -ℤ lo)) s.word)) c) (push_stays i (result_task i goal (IntValue (scaled lo (natural (hi -ℤ lo)) s.word))) c)) (thrown i bad_argument c)
effect_changes s i goal (Delay ticks) c =
    either c (nat_le (s.now + natural ticks) (2 ^ 62)) (gives_open i goal c, Some (Timer (suc c.made) (s.now + natural ticks))) (throws i out_of_range c)
    (as_change c (gives_open i goal c) (open_stays i goal c)) (thrown i out_of_range c)
effect_changes s i goal Never c = as_change c (gives_new i goal kind.Future (Single None []) c) (new_stays i goal kind.Future (Single None []) c)
effect_changes s i goal (Listen port) c =
    either c (is_port port) (open_port i goal (natural port) (thing c.ports (natural port)) c) (throws i bad_argument c) (by_port (natural port) (thing c.ports (natural port)))
    (thrown i bad_argument c)
  where
    by_port : (number : ℕ) (o : Option ℕ) → PortsChange c (open_port i goal number o c).0
    by_port number (Some cell) = same refl (omega arith)
    by_port number None =
        let a = push_stays i (result_task i goal (RefValue kind.FutureStream (suc c.made))) (new_cell (Stream [] None None) (record c { ports = added c.ports number (suc c.made) }))
        in more number a.ports a.made
effect_changes s i goal (Disk call) c = by_call (judged call)
  where
    by_call : (o : Option (DiskCall ℕ)) → PortsChange c (ask_disk i goal o c).0
    by_call None = same refl (omega arith)
    by_call (Some asked) = as_change c (gives_open i goal c) (open_stays i goal c)

react_changes : (s : Supply) (i : ℕ) (act : Act) (c : Core) → PortsChange c (react s i act c).0
react_changes s i Goes c = same refl (omega arith)
react_changes s i Pass c = as_change c (turn c (λ d. pushed (Run i) d)) (turn_stays c (λ d. pushed (Run i) d) (λ d. stay d (pushed (Run i) d) refl refl))
react_changes s i (Drops vs) c = same refl (omega arith)
react_changes s i (Effects goal eff) c = effect_changes s i goal eff c
react_changes s i (Starts class args) c = same refl (omega arith)
react_changes s i (Operand spot r) c = same refl (omega arith)
react_changes s i (Waits spot vs) c = as_change c (wait i spot (thing c.entries i) vs c) (wait_stays i spot (thing c.entries i) vs c)
react_changes s i (Sends k o) c = as_change c (send_in (thing c.cells k) i k o c) (send_stays (thing c.cells k) i k o c)
react_changes s i (Cancels k) c = let a = owner_stays (owner k c.entries) (pushed (Run i) c) in same a.ports a.made
react_changes s i (Prints v) c = as_change c (print i (print_line i v) c) (print_stays i (print_line i v) c)
react_changes s i (SendsTo q port text) c =
    either c (int_le (pos 0) q && nat_lt (natural q) s.processes && is_port port) (pushed (Run i) c, Some (Packet (natural q) (natural port) text)) (throws i bad_argument c) (same refl (omega arith))
    (thrown i bad_argument c)
react_changes s i (Returns v vs) c = same refl (omega arith)
react_changes s i (Throws e) c = same refl (omega arith)
react_changes s i RunsOut c = same refl (omega arith)
react_changes s i Stuck c = same refl (omega arith)

-- with other tasks and turns
relay : (c : Core) (ts : List Task) (n : ℕ) (d : Core) → PortsChange (record c { tasks = ts; left = n }) d → PortsChange c d
relay c ts n d (same a b) = same a b
relay c ts n d (law.lost port a b) = law.lost port a b
relay c ts n d (more port a b) = more port a b

module _ {A : Type 0} (e : Engine A) (s : Supply) where
  start_changes : (i : ℕ) (goal : Goal) (class : ℕ) (o : Option A) (p : Proc A) → PortsChange p.core (start e i goal class o p).0.core
  start_changes i goal class None p = same refl (omega arith)
  start_changes i goal class (Some a) p =
      as_change p.core (start_core i goal class (e.label class) p.core)
      (turn_stays p.core (λ d. enrol class (e.label class) (push_result i (result_task i goal (RefValue kind.Future (suc d.made))) d))
      (λ d. let x = push_stays i (result_task i goal (RefValue kind.Future (suc d.made))) d in record { ports = x.ports; made = let y = x.made in omega (arith, y) }))

  alone_changes : (i class : ℕ) (o : Option A) (p : Proc A) → PortsChange p.core (start_alone e i class o p).0.core
  alone_changes i class None p = same refl (omega arith)
  alone_changes i class (Some a) p =
      as_change p.core (start_void i class (e.label class) p.core)
      (turn_stays p.core (λ d. enrol_with class (e.label class) None (pushed (Run i) d))
      (λ d. stay d (enrol_with class (e.label class) None (pushed (Run i) d)) refl refl))

  answer_changes : (i : ℕ) (act : Act) (p : Proc A) → PortsChange p.core (answer e s i act p).0.core
  answer_changes i (Effects goal (Start class args)) p = start_changes i goal class (e.fresh class args) p
  answer_changes i (Effects goal eff) p = react_changes s i (Effects goal eff) p.core
  answer_changes i (Starts class args) p = alone_changes i class (e.fresh class args) p
  answer_changes i act p = react_changes s i act p.core

  run_changes : (i : ℕ) (ts : List Task) (o : Option A) (p : Proc A) → PortsChange p.core (run e s i ts o p).0.core
  run_changes i ts None p = same refl (omega arith)
  run_changes i ts (Some a) p = by_ask (e.next (view s i p.core) a)
    where
      by_ask : (k : Option Ask × A) → PortsChange p.core (run_next e s i ts k p).0.core
      by_ask (None, b) = same refl (omega arith)
      by_ask (Some ask, b) = relay p.core ts ask.left _ (answer_changes i ask.act (proc (record p.core { tasks = ts; left = ask.left }) (put p.actors i b)))

  give_changes : (i b : ℕ) (out : OutcomeTree) (o : Option A) (p : Proc A) → PortsChange p.core (give e i b out o p).0.core
  give_changes i b out None p = same refl (omega arith)
  give_changes i b (BadOutcome x) (Some a) p = same refl (omega arith)
  give_changes i b (GoodOutcome v) (Some a) p = same refl (omega arith)

  store_changes : (i : ℕ) (v : ValueTree) (o : Option A) (p : Proc A) → PortsChange p.core (store e i v o p).0.core
  store_changes i v None p = same refl (omega arith)
  store_changes i v (Some a) p = same refl (omega arith)

  throw_changes : (i x : ℕ) (o : Option A) (p : Proc A) → PortsChange p.core (throw e i x o p).0.core
  throw_changes i x None p = same refl (omega arith)
  throw_changes i x (Some a) p = by_entry (thing p.core.entries i)
    where
      by_entry : (o : Option Entry) → PortsChange p.core (throw_core i x (e.raise x a).0 o p.core)
      by_entry None = same refl (omega arith)
      by_entry (Some en) = same refl (omega arith)

  keep_changes : (i : ℕ) (spot : Spot) (r : Ref) (o : Option A) (en : Option Entry) (p : Proc A) → PortsChange p.core (keep e i spot r o en p).0.core
  keep_changes i spot r None en p = same refl (omega arith)
  keep_changes i spot r (Some a) None p = same refl (omega arith)
  keep_changes i spot r (Some a) (Some en) p = by_verdict (verdict en.marked (is_ready_at (thing p.core.cells r.1)))
    where
      by_verdict : (v : OperandFate) → PortsChange p.core (keep_by e i (length en.operands) v r (with_operand spot r en) a p).0.core
      by_verdict GoesOn = same refl (omega arith)
      by_verdict Cancelled = same refl (omega arith)
      by_verdict Ready =
          let x : Core = record p.core { tasks = below p.core.tasks } in
          let y = branch_stays i (length en.operands) r.1 (with_operand spot r en) (e.lose a).0 (thing x.cells r.1) x in same y.ports y.made

  close_changes : (i : ℕ) (out : OutcomeTree) (o : Option Entry) (p : Proc A) → PortsChange p.core (close_actor e i out o p).0.core
  close_changes i out None p = same refl (omega arith)
  close_changes i out (Some en) p = as_change p.core (close (scan_of e.occ (removed p.actors i)) i en.result out p.core) (close_stays (scan_of e.occ (removed p.actors i)) i en.result out p.core)

  task_changes : (t : Task) (p : Proc A) → PortsChange p.core (do_task e s t p).0.core
  task_changes (Run i) p = same refl (omega arith)
  task_changes (Give i b o) p = give_changes i b o (thing p.actors i) p
  task_changes (Throw i x) p = throw_changes i x (thing p.actors i) p
  task_changes (Catch i x) p = same refl (omega arith)
  task_changes (Store i v) p = store_changes i v (thing p.actors i) p
  task_changes (Keep i spot r) p = keep_changes i spot r (thing p.actors i) (thing p.core.entries i) p
  task_changes (Close i o) p = close_changes i o (thing p.core.entries i) p
  task_changes (Fire k) p = fire_changes (scanned e p) k p.core
  task_changes (Drop kd k) p = drop_changes (scanned e p) kd k p.core

  other_changes : (t : Task) (ts : List Task) (p : Proc A) (k : Stepped A) → Some (do_task e s t (popped ts p)) ≡ Some k → PortsChange p.core k.0.core
  other_changes t ts p k h =
      let is : do_task e s t (popped ts p) ≡ k = cc (h) in
      subst (λ z. PortsChange p.core z.0.core) is (relay p.core ts p.core.left _ (task_changes t (popped ts p)))

  tasks_change : (ts : List Task) (p : Proc A) (k : Stepped A) → step_tasks e s ts p ≡ Some k → PortsChange p.core k.0.core
  tasks_change [] p k h = absurd (cc (h))
  tasks_change (Run i ∷ ts) p k h =
      let is : run e s i ts (thing p.actors i) p ≡ k = cc (h) in subst (λ z. PortsChange p.core z.0.core) is (run_changes i ts (thing p.actors i) p)
  tasks_change (Give i b o ∷ ts) p k h = other_changes (Give i b o) ts p k h
  tasks_change (Throw i x ∷ ts) p k h = other_changes (Throw i x) ts p k h
  tasks_change (Catch i x ∷ ts) p k h = other_changes (Catch i x) ts p k h
  tasks_change (Store i v ∷ ts) p k h = other_changes (Store i v) ts p k h
  tasks_change (Keep i spot r ∷ ts) p k h = other_changes (Keep i spot r) ts p k h
  tasks_change (Close i o ∷ ts) p k h = other_changes (Close i o) ts p k h
  tasks_change (Fire c ∷ ts) p k h = other_changes (Fire c) ts p k h
  tasks_change (Drop kd c ∷ ts) p k h = other_changes (Drop kd c) ts p k h

  step_changes : (p : Proc A) (k : Stepped A) → step e s p ≡ Some k → PortsChange p.core k.0.core
  step_changes p k h = by_halt p.core.halted h
    where
      by_halt : (o : Option Halt) → step_if e s o p ≡ Some k → PortsChange p.core k.0.core
      by_halt None g = tasks_change p.core.tasks p k g
      by_halt (Some x) g = absurd (cc (g))

pub step_ports : law.StepPorts
step_ports r s p t h = step_changes (classes r) s p t h
