-- What each write keeps, each step keeps, of any classes.
use Rattle.std.proofs.Common.{◌≡◌, ℕ, zero, suc, ◌+◌, Bool, true, false, List, [], ◌∷◌, ◌++◌, length, if◌then◌else◌, refl, subst}
use Rattle.std.specs.Prelude.{pos, int_le, nat_lt, nat_le, ◌&&◌, ◌^◌, ◌-ℤ◌}
use Rattle.std.specs.declared.option.Option.{Option}
use Rattle.std.specs.declared.option.Option.TheVariants.{None, Some}
use Rattle.flow_base.specs.ErrorNumbers.{broken_promise, operation_cancelled}
use Rattle.flow_value.specs.declared.value.Kind.TheVariants as kind
use Rattle.flow_value.specs.Values.{ValueTree, IntValue, RefValue, OutcomeTree, GoodOutcome, BadOutcome}
use Rattle.flow_draw.specs.Words.{scaled}
use Rattle.flow_trace.specs.declared.line.Line.{Line}
use Rattle.flow_eval.specs.Predefined.{natural}
use Rattle.flow_class.specs.Classes.{RawTree}
use Rattle.flow_numbered.specs.Numbered.{Numbered, thing, added, put, removed}
use Rattle.flow_meaning.specs.Cells.{Side, PromiseSide, FutureSide, side_of, Ref, Waiter, Cell, Single, Stream, is_complete, is_ready, waiters}
use Rattle.flow_meaning.specs.Requests.{DiskCall, Spot, Effect, Make, Start, Draw, Delay, Never, Listen, Disk, Goal, Act, Goes, Pass, Drops, Effects, Operand, Waits as WaitsFor, Sends, Cancels, Prints, SendsTo, Returns, Throws, RunsOut, Stuck, Ask, Supply, Starts}
use Rattle.flow_meaning.specs.Process.{Task, Run, Give, Throw, Catch, Store, Keep, Close, Fire, Drop, Entry, Halt, Core, Proc, Raised}
use Rattle.flow_meaning.specs.References.{Scan, reference_count, scan_of}
use Rattle.flow_meaning.specs.Orderly.{Orderly, Rising}
use Rattle.flow_meaning.specs.Work.{fill, new_cell, pushed, writes, owner, is_ready_at, take_branch}
use Rattle.flow_meaning.specs.Effects.{Reaction, result_task, push_result, gives_open, empty_cell, between, is_port, open_port, judged, ask_disk, effect}
use Rattle.flow_meaning.specs.React.{send_by, send_in, print, react}
use Rattle.flow_meaning.specs.Dropping.{port_of, promises_gone, futures_gone, loss, suffer, lose_cell, lose_ref, fire, fire_to, fire_at, fire_cell, set_result, give_result, close}
use Rattle.flow_meaning.specs.Lines.{print_line, end_line, throw_line, broken_line}
use Rattle.flow_meaning.specs.Step as steps
use Rattle.flow_meaning.specs.Step.{proc, Stepped, view, enrol, start, answer, run_next, run, fate, throw_core, OperandFate, GoesOn, Cancelled, Ready, verdict, with_operand, below, keep_by, keep, close_actor, scanned, do_task, step_tasks, step_if, step, start_alone, enrol_with}
use Rattle.flow_meaning.specs.Frame.{Frame}
use Rattle.flow_meaning.specs.Class.{classes}
use Rattle.flow_meaning.proofs.Posture.{Unless, unless, after_turn}
use Rattle.flow_meaning.proofs.Shifts.{owned}
use Rattle.flow_heap_refinement.specs.Alone.{owners_of, OwnedOnce}
use Rattle.flow_heap_refinement.specs.Rested.{PortsRise}
use Rattle.flow_heap_refinement.specs.CellsTied.{CellsTied}
use Rattle.flow_heap_refinement.specs.Lonely.{OwnedAlone}
use Rattle.flow_invariants.specs.Writes.{Things, HoldsOfThings, KeptByWrites}
use Rattle.flow_invariants.proofs.Writes.Owners.{without_promise, without_port, without_actor, NotOwn, AskNotOwn, asks_not_own}
use Rattle.flow_invariants.proofs.Writes.Works as work

tied_with : (c : Core) (ts : List Task) (left : ℕ) → CellsTied c → CellsTied (record c { tasks = ts; left = left })
tied_with c ts left t = let n = t.numbers in record { agree = t.agree; numbers = record { ports = n.ports; cells = n.cells; requests = n.requests }; once = t.once }

module _ (P : Things → Type 0) (by : KeptByWrites P) where
  abbrev K : Core → Type 0
  K c = HoldsOfThings P c

  -- a lost reference
  suffer_kept : (scan : Scan) (s : Side) (k m n : ℕ) (cell : Cell) (c : Core) → reference_count scan PromiseSide k c ≡ m → Rising 0 c.started c.entries → PortsRise 0 c.made c.ports → OwnedOnce c → K c
      → Unless K (suffer k (loss s m n cell (owner k c.entries) (port_of k c.ports)) c)
  suffer_kept scan PromiseSide k zero zero cell c z up ports once h = work.free_kept P by k c (without_promise k scan c z) h
  suffer_kept scan FutureSide k zero zero cell c z up ports once h = work.free_kept P by k c (without_promise k scan c z) h
  suffer_kept scan PromiseSide k zero (suc f) cell c z up ports once h = by_test (is_complete cell)
    where
      by_test : (b : Bool) → Unless K (suffer k (promises_gone b) c)
      by_test true = unless c.halted h
      by_test false =
          after_turn K (λ d. fill k (BadOutcome broken_promise) (writes (broken_line k) d)) c c.left
          (λ n. work.fill_kept P by k (BadOutcome broken_promise) (writes (broken_line k) (record c { left = n })) (without_promise k scan c z) h)
  suffer_kept scan PromiseSide k (suc m) zero cell c z up ports once h = unless c.halted h
  suffer_kept scan PromiseSide k (suc m) (suc f) cell c z up ports once h = unless c.halted h
  suffer_kept scan FutureSide k zero (suc f) cell c z up ports once h = unless c.halted h
  suffer_kept scan FutureSide k (suc m) (suc f) cell c z up ports once h = unless c.halted h
  suffer_kept scan FutureSide k (suc m) zero cell c z up ports once h = by_owner (owner k c.entries) refl (port_of k c.ports) refl
    where
      by_owner : (o : Option (ℕ × Entry)) → owner k c.entries ≡ o → (x : Option ℕ) → port_of k c.ports ≡ x → Unless K (suffer k (futures_gone o x) c)
      by_owner (Some o) e x q = work.cancel_kept P by o.0 o.1 c (owned k c (Some o) up e) h
      by_owner None e (Some port) q = work.free_kept P by k (record c { ports = removed c.ports port }) (without_port k c port once ports q) (by.unheard c port h)
      by_owner None e None q = unless c.halted h

  lose_kept : (scan : Scan) (s : Side) (k : ℕ) (c : Core) → Rising 0 c.started c.entries → PortsRise 0 c.made c.ports → OwnedOnce c → K c → Unless K (lose_ref scan s k c)
  lose_kept scan s k c up ports once h = by_cell (thing c.cells k)
    where
      by_cell : (x : Option Cell) → Unless K (lose_cell scan s k x c)
      by_cell None = tt
      by_cell (Some cell) = suffer_kept scan s k (reference_count scan PromiseSide k c) (reference_count scan FutureSide k c) cell c refl up ports once h

  fire_kept : (scan : Scan) (k : ℕ) (c : Core) → Rising 0 c.started c.entries → PortsRise 0 c.made c.ports → OwnedOnce c → K c → Unless K (fire scan k c)
  fire_kept scan k c up ports once h = by_cell (thing c.cells k) refl
    where
      by_waiters : (cell : Cell) → thing c.cells k ≡ Some cell → (ready : Bool) (ws : List Waiter) → Unless K (fire_at scan k cell ready ws c)
      by_waiters cell q ready [] = lose_kept scan FutureSide k c up ports once h
      by_waiters cell q false (w ∷ ws) = lose_kept scan FutureSide k c up ports once h
      by_waiters cell q true (w ∷ ws) = by_entry (thing c.entries w.actor) refl
        where
          by_entry : (x : Option Entry) → thing c.entries w.actor ≡ x → Unless K (fire_to k cell w x c)
          by_entry None f = tt
          by_entry (Some e) f =
              let d = pushed (Fire k) c in
              subst (λ z. Unless K (take_branch w.actor w.branch k e [] z d)) q (work.branch_kept P by w.actor w.branch k e e [] d f (record { result = refl; marked = λ m. m }) h)

      by_cell : (x : Option Cell) → thing c.cells k ≡ x → Unless K (fire_cell scan k x c)
      by_cell None q = tt
      by_cell (Some cell) q = by_waiters cell q (is_ready cell) (waiters cell)

  -- the end of an actor
  close_kept : (scan : Scan) (i : ℕ) (e : Entry) (o : OutcomeTree) (c : Core) → thing c.entries i ≡ Some e → Rising 0 c.started c.entries → OwnedOnce c → K c → Unless K (close scan i e.result o c)
  close_kept scan i e o c at up once h =
      after_turn K (λ z. give_result scan e.result o (writes (end_line i o) z)) gone c.left (λ n. by_result n e.result refl)
    where
      gone : Core
      gone = record c { entries = removed c.entries i }

      still : K gone
      still = by.ends c i up h

      by_futures : (n k : ℕ) → e.result ≡ Some k → (m : ℕ) → Unless K (set_result k o m (writes (end_line i o) (record gone { left = n })))
      by_futures n k own zero = unless c.halted (by.goes gone k (without_actor k c i e once at own) still)
      by_futures n k own (suc m) =
          let d = writes (end_line i o) (record gone { left = n }) in
          after_turn K (fill k o) d n (λ l. work.fill_kept P by k o (record d { left = l }) (without_actor k c i e once at own) still)

      by_result : (n : ℕ) (x : Option ℕ) → e.result ≡ x → Unless K (give_result scan x o (writes (end_line i o) (record gone { left = n })))
      by_result n None own = unless c.halted still
      by_result n (Some k) own = by_futures n k own (reference_count scan FutureSide k (writes (end_line i o) (record gone { left = n })))

  -- sends and prints
  send_kept : (i k : ℕ) (o : OutcomeTree) (c : Core) → owners_of k c ≡ 0 → K c → Unless K (send_in (thing c.cells k) i k o c)
  send_kept i k o c own h = by_cell (thing c.cells k)
    where
      by_test : (b : Bool) → Unless K (send_by b i k o c)
      by_test true = unless c.halted h
      by_test false = after_turn K (λ d. fill k o (pushed (Run i) d)) c c.left (λ n. work.fill_kept P by k o (pushed (Run i) (record c { left = n })) own h)

      by_cell : (x : Option Cell) → Unless K (send_in x i k o c)
      by_cell None = tt
      by_cell (Some cell) = by_test (is_complete cell)

  print_kept : (i : ℕ) (x : Option Line) (c : Core) → K c → Unless K (print i x c)
  print_kept i None c h = tt
  print_kept i (Some l) c h = unless c.halted h

  -- the result of an effect
  push_kept : (i : ℕ) (t : Option Task) (c : Core) → K c → Unless K (push_result i t c)
  push_kept i None c h = tt
  push_kept i (Some t) c h = unless c.halted h

  module _ (c : Core) (tied : CellsTied c) (h : K c) where
    request_kept : (i : ℕ) (goal : Goal) → Unless K (gives_open i goal c)
    request_kept i goal =
        push_kept i (result_task i goal (RefValue kind.Future (suc c.made))) (new_cell (Single None []) (record c { requests = c.requests ++ suc c.made ∷ [] })) (by.asks c tied h)

    either : (b : Bool) (x y : Reaction) → Unless K x.0 → Unless K y.0 → Unless K (if b then x else y).0
    either true x y f g = f
    either false x y f g = g

    listen_kept : (i : ℕ) (goal : Goal) (port : ℕ) (x : Option ℕ) → Unless K (open_port i goal port x c).0
    listen_kept i goal port (Some j) = unless c.halted h
    listen_kept i goal port None =
        push_kept i (result_task i goal (RefValue kind.FutureStream (suc c.made))) (new_cell (Stream [] None None) (record c { ports = added c.ports port (suc c.made) })) (by.listens c port tied h)

    disk_kept : (i : ℕ) (goal : Goal) (x : Option (DiskCall ℕ)) → Unless K (ask_disk i goal x c).0
    disk_kept i goal None = unless c.halted h
    disk_kept i goal (Some call) = request_kept i goal

    effect_kept : (s : Supply) (i : ℕ) (goal : Goal) (eff : Effect) → Unless K (effect s i goal eff c).0
    effect_kept s i goal (Make kd) = push_kept i (result_task i goal (RefValue kd (suc c.made))) (new_cell (empty_cell kd) c) (by.makes c (empty_cell kd) tied h)
    effect_kept s i goal (Start class args) = tt
    effect_kept s i goal (Draw lo hi) = either (between (hi -ℤ lo) 1 (2 ^ 32)) _ _ (push_kept i (result_task i goal (IntValue (scaled lo (natural (hi -ℤ lo)) s.word))) c h) (unless c.halted h)
    effect_kept s i goal (Delay ticks) = either (nat_le (s.now + natural ticks) (2 ^ 62)) _ _ (request_kept i goal) (unless c.halted h)
    effect_kept s i goal Never = push_kept i (result_task i goal (RefValue kind.Future (suc c.made))) (new_cell (Single None []) c) (by.makes c (Single None []) tied h)
    effect_kept s i goal (Listen port) = either (is_port port) _ _ (listen_kept i goal (natural port) (thing c.ports (natural port))) (unless c.halted h)
    effect_kept s i goal (Disk call) = disk_kept i goal (judged call)

    react_kept : (s : Supply) (i : ℕ) (act : Act) → Rising 0 c.started c.entries → NotOwn c act → Unless K (react s i act c).0
    react_kept s i Goes up n = unless c.halted h
    react_kept s i Pass up n = after_turn K (pushed (Run i)) c c.left (λ m. unless c.halted h)
    react_kept s i (Drops vs) up n = unless c.halted h
    react_kept s i (Effects goal eff) up n = effect_kept s i goal eff
    react_kept s i (Starts class args) up n = tt
    react_kept s i (Operand spot r) up n = unless c.halted h
    react_kept s i (WaitsFor spot vs) up n = work.wait_kept P by i spot vs c h
    react_kept s i (Sends k o) up n = send_kept i k o c n h
    react_kept s i (Cancels k) up n = work.owner_kept P by (owner k c.entries) (pushed (Run i) c) (owned k c (owner k c.entries) up refl) h
    react_kept s i (Prints v) up n = print_kept i (print_line i v) c h
    react_kept s i (SendsTo q port text) up n = either (int_le (pos 0) q && nat_lt (natural q) s.processes && is_port port) _ _ (unless c.halted h) (unless c.halted h)
    react_kept s i (Returns v vs) up n = unless c.halted h
    react_kept s i (Throws e) up n = unless c.halted h
    react_kept s i RunsOut up n = tt
    react_kept s i Stuck up n = tt

    -- a new actor
    pub enrolled_kept : (class : ℕ) (name : List ℕ) (m : ℕ) → K (enrol class name (record c { left = m }))
    enrolled_kept class name m = by.starts c class tied h

    start_kept : (i : ℕ) (t : Option Task) (class : ℕ) (name : List ℕ) (m : ℕ) → Unless K (enrol class name (push_result i t (record c { left = m })))
    start_kept i None class name m = tt
    start_kept i (Some t) class name m = unless c.halted (enrolled_kept class name m)

  module _ (r : RawTree) (s : Supply) (c : Core) (xs : Numbered Frame) (o : Orderly c) (t : CellsTied c) (alone : OwnedAlone (proc c xs)) (h : K c) where
    abbrev Kept : Stepped Frame → Type 0
    Kept q = Unless K q.0.core

    started_kept : (i : ℕ) (goal : Goal) (class : ℕ) (x : Option Frame) (ts : List Task) (left : ℕ) (ys : Numbered Frame)
        → Kept (start (classes r) i goal class x (proc (record c { tasks = ts; left = left }) ys))
    started_kept i goal class None ts left ys = tt
    started_kept i goal class (Some a) ts left ys =
        let d = record c { tasks = ts; left = left } in
        after_turn K (λ z. enrol class ((classes r).label class) (push_result i (result_task i goal (RefValue kind.Future (suc z.made))) z)) d left
        (λ n. start_kept d (tied_with c ts left t) h i (result_task i goal (RefValue kind.Future (suc c.made))) class ((classes r).label class) n)

    alone_kept : (i class : ℕ) (x : Option Frame) (ts : List Task) (left : ℕ) (ys : Numbered Frame) → Kept (start_alone (classes r) i class x (proc (record c { tasks = ts; left = left }) ys))
    alone_kept i class None ts left ys = tt
    alone_kept i class (Some a) ts left ys =
        after_turn K (λ z. enrol_with class ((classes r).label class) None (pushed (Run i) z)) (record c { tasks = ts; left = left }) left (λ n. unless c.halted (by.starts_alone c class h))

    answer_kept : (i : ℕ) (act : Act) (ts : List Task) (left : ℕ) (ys : Numbered Frame) → NotOwn c act → Kept (answer (classes r) s i act (proc (record c { tasks = ts; left = left }) ys))
    answer_kept i (Effects goal (Start class args)) ts left ys n = started_kept i goal class ((classes r).fresh class args) ts left ys
    answer_kept i (Effects goal eff) ts left ys n = effect_kept (record c { tasks = ts; left = left }) (tied_with c ts left t) h s i goal eff
    answer_kept i (Starts class args) ts left ys n = alone_kept i class ((classes r).fresh class args) ts left ys
    answer_kept i act ts left ys n = react_kept (record c { tasks = ts; left = left }) (tied_with c ts left t) h s i act o.numbered n

    next_kept : (i : ℕ) (ts : List Task) (x : Option Ask × Frame) → AskNotOwn c x.0 → Kept (run_next (classes r) s i ts x (proc c xs))
    next_kept i ts (None, a) n = unless c.halted h
    next_kept i ts (Some ask, a) n = answer_kept i ask.act ts ask.left (put xs i a) n

    run_kept : (i : ℕ) (ts : List Task) → Kept (run (classes r) s i ts (thing xs i) (proc c xs))
    run_kept i ts = by_frame (thing xs i) refl
      where
        by_frame : (x : Option Frame) → thing xs i ≡ x → Kept (run (classes r) s i ts x (proc c xs))
        by_frame None q = tt
        by_frame (Some f) q = next_kept i ts ((classes r).next (view s i c) f) (asks_not_own r s (proc c xs) i f alone q)

    module _ (ts : List Task) where
      abbrev now : Core
      now = record c { tasks = ts }

      give_kept : (i b : ℕ) (v : OutcomeTree) (x : Option Frame) → Kept (steps.give (classes r) i b v x (proc now xs))
      give_kept i b v None = tt
      give_kept i b (BadOutcome err) (Some a) = unless c.halted h
      give_kept i b (GoodOutcome v) (Some a) = unless c.halted h

      store_kept : (i : ℕ) (v : ValueTree) (x : Option Frame) → Kept (steps.store (classes r) i v x (proc now xs))
      store_kept i v None = tt
      store_kept i v (Some a) = unless c.halted h

      throw_kept : (i err : ℕ) (x : Option Frame) → Kept (steps.throw (classes r) i err x (proc now xs))
      throw_kept i err None = tt
      throw_kept i err (Some a) = by_entry ((classes r).raise err a).0 (thing c.entries i) refl
        where
          by_entry : (z : Raised) (x : Option Entry) → thing c.entries i ≡ x → Unless K (throw_core i err z x now)
          by_entry z None q = tt
          by_entry z (Some e) q = unless c.halted (work.leave_kept P by i e e z.values (fate i err z.caught) (writes (throw_line i err) now) q (record { result = refl; marked = λ m. m }) h)

      keep_kept : (i : ℕ) (spot : Spot) (q : Ref) (x : Option Frame) → Kept (keep (classes r) i spot q x (thing c.entries i) (proc now xs))
      keep_kept i spot q x = by_entry x (thing c.entries i) refl
        where
          by_verdict : (a : Frame) (e : Entry) → thing c.entries i ≡ Some e → (b : ℕ) (v : OperandFate) → Kept (keep_by (classes r) i b v q (with_operand spot q e) a (proc now xs))
          by_verdict a e at b GoesOn = unless c.halted (by.entry now i e (with_operand spot q e) at (record { result = refl; marked = λ m. m }) h)
          by_verdict a e at b Cancelled =
              unless c.halted
              (work.leave_kept P by i e (with_operand spot q e) ((classes r).lose a).0 (Throw i operation_cancelled) (record now { tasks = below ts }) at (record { result = refl; marked = λ m. m }) h)
          by_verdict a e at b Ready =
              work.branch_kept P by i b q.1 e (with_operand spot q e) ((classes r).lose a).0 (record now { tasks = below ts }) at (record { result = refl; marked = λ m. m }) h

          by_entry : (x : Option Frame) (y : Option Entry) → thing c.entries i ≡ y → Kept (keep (classes r) i spot q x y (proc now xs))
          by_entry (Some a) (Some e) at = by_verdict a e at (length e.operands) (verdict e.marked (is_ready_at (thing c.cells q.1)))
          by_entry None y at = tt
          by_entry (Some a) None at = tt

      close_actor_kept : (i : ℕ) (v : OutcomeTree) → Kept (close_actor (classes r) i v (thing c.entries i) (proc now xs))
      close_actor_kept i v = by_entry (thing c.entries i) refl
        where
          by_entry : (x : Option Entry) → thing c.entries i ≡ x → Kept (close_actor (classes r) i v x (proc now xs))
          by_entry None q = tt
          by_entry (Some e) q = close_kept (scan_of (classes r).occ (removed xs i)) i e v now q o.numbered t.once h

      task_kept : (x : Task) → Kept (do_task (classes r) s x (proc now xs))
      task_kept (Run i) = tt
      task_kept (Give i b v) = give_kept i b v (thing xs i)
      task_kept (Throw i err) = throw_kept i err (thing xs i)
      task_kept (Catch i err) = unless c.halted h
      task_kept (Store i v) = store_kept i v (thing xs i)
      task_kept (Keep i spot q) = keep_kept i spot q (thing xs i)
      task_kept (Close i v) = close_actor_kept i v
      task_kept (Fire k) = fire_kept (scanned (classes r) (proc now xs)) k now o.numbered t.numbers.ports t.once h
      task_kept (Drop kd k) =
          let scan = scanned (classes r) (proc now xs) in
          after_turn K (λ d. lose_ref scan (side_of kd) k d) now c.left (λ n. lose_kept scan (side_of kd) k (record now { left = n }) o.numbered t.numbers.ports t.once h)

    abbrev MaybeKept : Option (Stepped Frame) → Type 0
    MaybeKept None = Unit {0}
    MaybeKept (Some q) = Kept q

    tasks_kept : (ts : List Task) → MaybeKept (step_tasks (classes r) s ts (proc c xs))
    tasks_kept [] = tt
    tasks_kept (Run i ∷ ts) = run_kept i ts
    tasks_kept (Give i b v ∷ ts) = task_kept ts (Give i b v)
    tasks_kept (Throw i err ∷ ts) = task_kept ts (Throw i err)
    tasks_kept (Catch i err ∷ ts) = task_kept ts (Catch i err)
    tasks_kept (Store i v ∷ ts) = task_kept ts (Store i v)
    tasks_kept (Keep i spot q ∷ ts) = task_kept ts (Keep i spot q)
    tasks_kept (Close i v ∷ ts) = task_kept ts (Close i v)
    tasks_kept (Fire k ∷ ts) = task_kept ts (Fire k)
    tasks_kept (Drop kd k ∷ ts) = task_kept ts (Drop kd k)

    if_kept : (x : Option Halt) → MaybeKept (step_if (classes r) s x (proc c xs))
    if_kept (Some x) = tt
    if_kept None = tasks_kept c.tasks

  pub step_kept : (r : RawTree) (s : Supply) (p : Proc Frame) (q : Stepped Frame) → Orderly p.core → CellsTied p.core → OwnedAlone p → K p.core → step (classes r) s p ≡ Some q → Unless K q.0.core
  step_kept r s p q o t alone h e = subst (MaybeKept r s p.core p.actors o t alone h) e (if_kept r s p.core p.actors o t alone h p.core.halted)
