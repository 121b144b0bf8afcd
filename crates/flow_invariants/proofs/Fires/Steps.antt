-- Each step leaves nobody without a fire.
use Rattle.std.proofs.Common.{◌≡◌, ◌⊎◌, inl, inr, ℕ, zero, suc, Bool, true, false, List, [], ◌∷◌, ◌++◌, length, if◌then◌else◌, refl, sym, ap, subst, ◌∙◌}
use Rattle.std.specs.Prelude.{pos, int_le, nat_lt, nat_le, ◌&&◌, ◌^◌, ◌+◌, ◌-ℤ◌}
use Rattle.std.specs.declared.option.Option.{Option}
use Rattle.std.specs.declared.option.Option.TheVariants.{None, Some}
use Rattle.flow_base.specs.ErrorNumbers.{broken_promise, operation_cancelled}
use Rattle.flow_value.specs.declared.value.Kind.{Kind}
use Rattle.flow_value.specs.declared.value.Kind.TheVariants as kind
use Rattle.flow_value.specs.Values.{ValueTree, IntValue, RefValue, OutcomeTree, GoodOutcome, BadOutcome}
use Rattle.flow_draw.specs.Words.{scaled}
use Rattle.flow_trace.specs.declared.line.Line.{Line}
use Rattle.flow_eval.specs.Predefined.{natural}
use Rattle.flow_class.specs.Classes.{RawTree}
use Rattle.flow_numbered.specs.Numbered.{Numbered, thing, added, put, removed}
use Rattle.flow_meaning.specs.Cells.{Side, PromiseSide, FutureSide, side_of, Ref, Waiter, Cell, Single, Stream, is_complete, is_ready, waiters}
use Rattle.flow_meaning.specs.Requests.{DiskCall, Effect, Make, Start, Draw, Delay, Never, Listen, Disk, Goal, Act, Goes, Pass, Drops, Effects, Operand, Waits as WaitsFor, Sends, Cancels, Prints, SendsTo, Returns, Throws, RunsOut, Stuck, Ask, Spot, Supply, Starts}
use Rattle.flow_meaning.specs.Process.{Task, Run, Give, Throw, Catch, Store, Keep, Close, Fire, Drop, Entry, Halt, Core, Proc, Raised}
use Rattle.flow_meaning.specs.References.{Scan, reference_count, scan_of}
use Rattle.flow_meaning.specs.Orderly.{Rising, NextStep, Paired, Orderly}
use Rattle.flow_meaning.specs.Work.{fill, new_cell, pushed, writes, owner, is_ready_at, take_branch}
use Rattle.flow_meaning.specs.Effects.{Reaction, result_task, push_result, gives_open, empty_cell, between, is_port, open_port, judged, ask_disk, effect}
use Rattle.flow_meaning.specs.React.{send_by, send_in, print, react}
use Rattle.flow_meaning.specs.Dropping.{port_of, promises_gone, futures_gone, loss, suffer, lose_cell, lose_ref, fire, fire_to, fire_at, fire_cell, set_result, give_result, close}
use Rattle.flow_meaning.specs.Lines.{print_line, end_line, throw_line, broken_line}
use Rattle.flow_meaning.specs.References.{refs_in, value_in}
use Rattle.flow_meaning.specs.Step as steps
use Rattle.flow_meaning.specs.Step.{proc, Stepped, view, enrol, start, answer, run_next, run, fate, throw_core, OperandFate, GoesOn, Cancelled, Ready, verdict, with_operand, below, keep_by, keep, close_actor, scanned, do_task, step_tasks, step_if, step, start_alone, enrol_with}
use Rattle.flow_meaning.specs.Frame.{Frame}
use Rattle.flow_meaning.specs.Class.{classes}
use Rattle.flow_meaning.proofs.Posture.{Unless, unless, after_turn}
use Rattle.flow_heap_refinement.specs.CellsTied.{CellsTied}
use Rattle.flow_invariants.specs.Fires.{is_due, Fires}
use Rattle.flow_invariants.proofs.Fires.Cells.{P, alone, unready, more, under_drops, fill_fired, removed_due, free_fired, leave_fired, branch_fired, wait_fired, cancel_fired, owner_fired, new_due}

module _ (k : ℕ) where
  -- A lost reference.
  suffer_fired : (s : Side) (j m n : ℕ) (cell : Cell) (c : Core) → Rising 0 c.made c.cells → P k c → Unless (P k) (suffer j (loss s m n cell (owner j c.entries) (port_of j c.ports)) c)
  suffer_fired PromiseSide j zero zero cell c up h = free_fired k j c up h
  suffer_fired FutureSide j zero zero cell c up h = free_fired k j c up h
  suffer_fired PromiseSide j zero (suc f) cell c up h = by_test (is_complete cell)
    where
      by_test : (b : Bool) → Unless (P k) (suffer j (promises_gone b) c)
      by_test true = unless c.halted h
      by_test false = after_turn (P k) (λ d. fill j (BadOutcome broken_promise) (writes (broken_line j) d)) c c.left
          (λ n. fill_fired k j (BadOutcome broken_promise) (writes (broken_line j) (record c { left = n })) h)
  suffer_fired PromiseSide j (suc m) zero cell c up h = unless c.halted h
  suffer_fired PromiseSide j (suc m) (suc f) cell c up h = unless c.halted h
  suffer_fired FutureSide j zero (suc f) cell c up h = unless c.halted h
  suffer_fired FutureSide j (suc m) (suc f) cell c up h = unless c.halted h
  suffer_fired FutureSide j (suc m) zero cell c up h = by_owner (owner j c.entries) (port_of j c.ports)
    where
      by_owner : (o : Option (ℕ × Entry)) (x : Option ℕ) → Unless (P k) (suffer j (futures_gone o x) c)
      by_owner (Some o) x = cancel_fired k o.0 o.1 c h
      by_owner None (Some port) = free_fired k j (record c { ports = removed c.ports port }) up h
      by_owner None None = unless c.halted h

  lose_fired : (scan : Scan) (s : Side) (j : ℕ) (c : Core) → Rising 0 c.made c.cells → P k c → Unless (P k) (lose_ref scan s j c)
  lose_fired scan s j c up h = by_cell (thing c.cells j)
    where
      by_cell : (x : Option Cell) → Unless (P k) (lose_cell scan s j x c)
      by_cell None = tt
      by_cell (Some cell) = suffer_fired s j (reference_count scan PromiseSide j c) (reference_count scan FutureSide j c) cell c up h

  -- A fire ends only where nobody waits any more, or the cell isn't ready any more.
  module _ (scan : Scan) (j : ℕ) (c : Core) (up : Rising 0 c.made c.cells) (h : is_due (thing c.cells k) ≡ true → (j ≡ k) ⊎ Fires k c.tasks) where
    over : (cell : Cell) → thing c.cells j ≡ Some cell → (is_due (Some cell) ≡ true → ⊥) → P k c
    over cell q none d = by_fire (h d)
      where
        by_fire : (j ≡ k) ⊎ Fires k c.tasks → Fires k c.tasks
        by_fire (inl same) = absurd (none (sym (ap is_due q) ∙ ap (λ n. is_due (thing c.cells n)) same ∙ d))
        by_fire (inr f) = f

    by_waiters : (cell : Cell) → thing c.cells j ≡ Some cell → (ready : Bool) → is_ready cell ≡ ready → (ws : List Waiter) → waiters cell ≡ ws → Unless (P k) (fire_at scan j cell ready ws c)
    by_waiters cell q ready r [] none = lose_fired scan FutureSide j c up (over cell q (alone cell none))
    by_waiters cell q false r (w ∷ ws) some = lose_fired scan FutureSide j c up (over cell q (unready cell r))
    by_waiters cell q true r (w ∷ ws) some = by_entry (thing c.entries w.actor)
      where
        by_entry : (x : Option Entry) → Unless (P k) (fire_to j cell w x c)
        by_entry None = tt
        by_entry (Some e) =
            let d = pushed (Fire j) c in
            subst (λ z. Unless (P k) (take_branch w.actor w.branch j e [] z d)) q (branch_fired k w.actor w.branch j e [] d h)

    fire_fired : Unless (P k) (fire scan j c)
    fire_fired = by_cell (thing c.cells j) refl
      where
        by_cell : (x : Option Cell) → thing c.cells j ≡ x → Unless (P k) (fire_cell scan j x c)
        by_cell None q = tt
        by_cell (Some cell) q = by_waiters cell q (is_ready cell) refl (waiters cell) refl

  -- the end of an actor
  close_fired : (scan : Scan) (i : ℕ) (result : Option ℕ) (o : OutcomeTree) (c : Core) → Rising 0 c.made c.cells → P k c → Unless (P k) (close scan i result o c)
  close_fired scan i result o c up h =
      let d = record c { entries = removed c.entries i } in
      after_turn (P k) (λ z. give_result scan result o (writes (end_line i o) z)) d c.left (λ n. by_result (writes (end_line i o) (record d { left = n })) up h result)
    where
      by_futures : (d : Core) → Rising 0 d.made d.cells → P k d → (j m : ℕ) → Unless (P k) (set_result j o m d)
      by_futures d up h j zero = unless d.halted (λ e. under_drops k (refs_in (value_in o)) d.tasks (h (removed_due k j d.made d.cells up e)))
      by_futures d up h j (suc m) = after_turn (P k) (fill j o) d d.left (λ n. fill_fired k j o (record d { left = n }) h)

      by_result : (d : Core) → Rising 0 d.made d.cells → P k d → (x : Option ℕ) → Unless (P k) (give_result scan x o d)
      by_result d up h None = unless d.halted (λ e. under_drops k (refs_in (value_in o)) d.tasks (h e))
      by_result d up h (Some j) = by_futures d up h j (reference_count scan FutureSide j d)

  -- sends and prints
  send_fired : (i j : ℕ) (o : OutcomeTree) (c : Core) → P k c → Unless (P k) (send_in (thing c.cells j) i j o c)
  send_fired i j o c h = by_cell (thing c.cells j)
    where
      by_test : (b : Bool) → Unless (P k) (send_by b i j o c)
      by_test true = unless c.halted h
      by_test false = after_turn (P k) (λ d. fill j o (pushed (Run i) d)) c c.left (λ n. fill_fired k j o (pushed (Run i) (record c { left = n })) h)

      by_cell : (x : Option Cell) → Unless (P k) (send_in x i j o c)
      by_cell None = tt
      by_cell (Some cell) = by_test (is_complete cell)

  print_fired : (i : ℕ) (x : Option Line) (c : Core) → P k c → Unless (P k) (print i x c)
  print_fired i None c h = tt
  print_fired i (Some l) c h = unless c.halted h

  -- the result of an effect
  push_fired : (i : ℕ) (t : Option Task) (c : Core) → P k c → Unless (P k) (push_result i t c)
  push_fired i None c h = tt
  push_fired i (Some t) c h = unless c.halted (λ e. more k t (Run i ∷ c.tasks) (h e))

  none_waits : (kd : Kind) → waiters (empty_cell kd) ≡ []
  none_waits kind.Promise = refl
  none_waits kind.Future = refl
  none_waits kind.PromiseStream = refl
  none_waits kind.FutureStream = refl

  module _ (c : Core) (up : Rising 0 c.made c.cells) (h : P k c) where
    new_fired : (cell : Cell) (d : Core) → d.cells ≡ added c.cells (suc c.made) cell → waiters cell ≡ [] → d.tasks ≡ c.tasks → P k d
    new_fired cell d e none same due =
        subst (Fires k) (sym same) (h (new_due k cell c.made c.cells up none (sym (ap (λ cells. is_due (thing cells k)) e) ∙ due)))

    request_fired : (i : ℕ) (goal : Goal) → Unless (P k) (gives_open i goal c)
    request_fired i goal =
        let d = new_cell (Single None []) (record c { requests = c.requests ++ suc c.made ∷ [] }) in
        push_fired i (result_task i goal (RefValue kind.Future (suc c.made))) d (new_fired (Single None []) d refl refl refl)

    either : (b : Bool) (x y : Reaction) → Unless (P k) x.0 → Unless (P k) y.0 → Unless (P k) (if b then x else y).0
    either true x y f g = f
    either false x y f g = g

    listen_fired : (i : ℕ) (goal : Goal) (port : ℕ) (x : Option ℕ) → Unless (P k) (open_port i goal port x c).0
    listen_fired i goal port (Some j) = unless c.halted h
    listen_fired i goal port None =
        let d = new_cell (Stream [] None None) (record c { ports = added c.ports port (suc c.made) }) in
        push_fired i (result_task i goal (RefValue kind.FutureStream (suc c.made))) d (new_fired (Stream [] None None) d refl refl refl)

    disk_fired : (i : ℕ) (goal : Goal) (x : Option (DiskCall ℕ)) → Unless (P k) (ask_disk i goal x c).0
    disk_fired i goal None = unless c.halted h
    disk_fired i goal (Some call) = request_fired i goal

    effect_fired : (s : Supply) (i : ℕ) (goal : Goal) (eff : Effect) → Unless (P k) (effect s i goal eff c).0
    effect_fired s i goal (Make kd) =
        let d = new_cell (empty_cell kd) c in push_fired i (result_task i goal (RefValue kd (suc c.made))) d (new_fired (empty_cell kd) d refl (none_waits kd) refl)
    effect_fired s i goal (Start class args) = tt
    effect_fired s i goal (Draw lo hi) = either (between (hi -ℤ lo) 1 (2 ^ 32)) _ _ (push_fired i (result_task i goal (IntValue (scaled lo (natural (hi -ℤ lo)) s.word))) c h) (unless c.halted h)
    effect_fired s i goal (Delay ticks) = either (nat_le (s.now + natural ticks) (2 ^ 62)) _ _ (request_fired i goal) (unless c.halted h)
    effect_fired s i goal Never =
        let d = new_cell (Single None []) c in push_fired i (result_task i goal (RefValue kind.Future (suc c.made))) d (new_fired (Single None []) d refl refl refl)
    effect_fired s i goal (Listen port) = either (is_port port) _ _ (listen_fired i goal (natural port) (thing c.ports (natural port))) (unless c.halted h)
    effect_fired s i goal (Disk call) = disk_fired i goal (judged call)

    react_fired : (s : Supply) (i : ℕ) (act : Act) → Unless (P k) (react s i act c).0
    react_fired s i Goes = unless c.halted h
    react_fired s i Pass = after_turn (P k) (pushed (Run i)) c c.left (λ m. unless c.halted h)
    react_fired s i (Drops vs) = unless c.halted (λ e. under_drops k (refs_in vs) (Run i ∷ c.tasks) (h e))
    react_fired s i (Effects goal eff) = effect_fired s i goal eff
    react_fired s i (Starts class args) = tt
    react_fired s i (Operand spot r) = unless c.halted h
    react_fired s i (WaitsFor spot vs) = wait_fired k i spot vs c h
    react_fired s i (Sends j o) = send_fired i j o c h
    react_fired s i (Cancels j) = owner_fired k (owner j c.entries) (pushed (Run i) c) h
    react_fired s i (Prints v) = print_fired i (print_line i v) c h
    react_fired s i (SendsTo q port text) = either (int_le (pos 0) q && nat_lt (natural q) s.processes && is_port port) _ _ (unless c.halted h) (unless c.halted h)
    react_fired s i (Returns v vs) = unless c.halted (λ e. under_drops k (refs_in vs) (Close i (GoodOutcome v) ∷ c.tasks) (h e))
    react_fired s i (Throws e) = unless c.halted h
    react_fired s i RunsOut = tt
    react_fired s i Stuck = tt

    -- a new actor
    pub enrolled_fired : (class : ℕ) (name : List ℕ) (m : ℕ) → P k (enrol class name (record c { left = m }))
    enrolled_fired class name m due = h (new_due k (Single None []) c.made c.cells up refl due)

    start_fired : (i : ℕ) (t : Option Task) (class : ℕ) (name : List ℕ) (m : ℕ) → Unless (P k) (enrol class name (push_result i t (record c { left = m })))
    start_fired i None class name m = tt
    start_fired i (Some t) class name m = unless c.halted (λ due. more k t (Run i ∷ c.tasks) (enrolled_fired class name m due))

  module _ (r : RawTree) (s : Supply) (c : Core) (xs : Numbered Frame) (up : Rising 0 c.made c.cells) where
    abbrev Good : Stepped Frame → Type 0
    Good q = Unless (P k) q.0.core

    module _ (ts : List Task) (h : is_due (thing c.cells k) ≡ true → Fires k ts) where
      abbrev now : Core
      now = record c { tasks = ts }

      start_good : (i : ℕ) (goal : Goal) (class : ℕ) (x : Option Frame) (left : ℕ) (ys : Numbered Frame) → Good (start (classes r) i goal class x (proc (record now { left = left }) ys))
      start_good i goal class None left ys = tt
      start_good i goal class (Some a) left ys =
          let d = record now { left = left } in
          after_turn (P k) (λ z. enrol class ((classes r).label class) (push_result i (result_task i goal (RefValue kind.Future (suc z.made))) z)) d left
          (λ n. start_fired d up h i (result_task i goal (RefValue kind.Future (suc c.made))) class ((classes r).label class) n)

      alone_good : (i class : ℕ) (x : Option Frame) (left : ℕ) (ys : Numbered Frame) → Good (start_alone (classes r) i class x (proc (record now { left = left }) ys))
      alone_good i class None left ys = tt
      alone_good i class (Some a) left ys =
          after_turn (P k) (λ z. enrol_with class ((classes r).label class) None (pushed (Run i) z)) (record now { left = left }) left (λ n. unless c.halted h)

      answer_good : (i : ℕ) (act : Act) (left : ℕ) (ys : Numbered Frame) → Good (answer (classes r) s i act (proc (record now { left = left }) ys))
      answer_good i (Effects goal (Start class args)) left ys = start_good i goal class ((classes r).fresh class args) left ys
      answer_good i (Effects goal eff) left ys = effect_fired (record now { left = left }) up h s i goal eff
      answer_good i (Starts class args) left ys = alone_good i class ((classes r).fresh class args) left ys
      answer_good i act left ys = react_fired (record now { left = left }) up h s i act

      next_good : (i : ℕ) (x : Option Ask × Frame) → P k c → Good (run_next (classes r) s i ts x (proc c xs))
      next_good i (None, a) old = unless c.halted old
      next_good i (Some ask, a) old = answer_good i ask.act ask.left (put xs i a)

      run_good : (i : ℕ) → P k c → Good (run (classes r) s i ts (thing xs i) (proc c xs))
      run_good i old = by_frame (thing xs i)
        where
          by_frame : (x : Option Frame) → Good (run (classes r) s i ts x (proc c xs))
          by_frame None = tt
          by_frame (Some f) = next_good i ((classes r).next (view s i c) f) old

      give_good : (i b : ℕ) (v : OutcomeTree) (x : Option Frame) → Good (steps.give (classes r) i b v x (proc now xs))
      give_good i b v None = tt
      give_good i b (BadOutcome err) (Some a) = unless c.halted h
      give_good i b (GoodOutcome v) (Some a) = unless c.halted (λ e. under_drops k (refs_in ((classes r).take b v a).0) (Run i ∷ ts) (h e))

      store_good : (i : ℕ) (v : ValueTree) (x : Option Frame) → Good (steps.store (classes r) i v x (proc now xs))
      store_good i v None = tt
      store_good i v (Some a) = unless c.halted (λ e. under_drops k (refs_in ((classes r).store v a).0) ts (h e))

      throw_good : (i err : ℕ) (x : Option Frame) → Good (steps.throw (classes r) i err x (proc now xs))
      throw_good i err None = tt
      throw_good i err (Some a) = by_entry ((classes r).raise err a).0 (thing c.entries i)
        where
          by_entry : (z : Raised) (x : Option Entry) → Unless (P k) (throw_core i err z x now)
          by_entry z None = tt
          by_entry z (Some e) = unless c.halted (leave_fired k i e z.values (fate i err z.caught) (writes (throw_line i err) now) h)

      keep_good : (i : ℕ) (spot : Spot) (q : Ref) (x : Option Frame) → NextStep i ts → Good (keep (classes r) i spot q x (thing c.entries i) (proc now xs))
      keep_good i spot q x next = by_entry x (thing c.entries i)
        where
          rest : (us : List Task) → NextStep i us → Fires k us → Fires k (below us)
          rest [] n f = f
          rest (Run j ∷ us) n f = f
          rest (Give j b o ∷ us) n f = absurd n
          rest (Throw j e ∷ us) n f = absurd n
          rest (Catch j e ∷ us) n f = absurd n
          rest (Store j v ∷ us) n f = absurd n
          rest (Keep j w z ∷ us) n f = absurd n
          rest (Close j o ∷ us) n f = absurd n
          rest (Fire j ∷ us) n f = absurd n
          rest (Drop kd j ∷ us) n f = absurd n

          kept : P k (record now { tasks = below ts })
          kept e = rest ts next (h e)

          by_verdict : (a : Frame) (e : Entry) (b : ℕ) (v : OperandFate) → Good (keep_by (classes r) i b v q (with_operand spot q e) a (proc now xs))
          by_verdict a e b GoesOn = unless c.halted h
          by_verdict a e b Cancelled = unless c.halted (leave_fired k i (with_operand spot q e) ((classes r).lose a).0 (Throw i operation_cancelled) (record now { tasks = below ts }) kept)
          by_verdict a e b Ready = branch_fired k i b q.1 (with_operand spot q e) ((classes r).lose a).0 (record now { tasks = below ts }) kept

          by_entry : (x : Option Frame) (y : Option Entry) → Good (keep (classes r) i spot q x y (proc now xs))
          by_entry (Some a) (Some e) = by_verdict a e (length e.operands) (verdict e.marked (is_ready_at (thing c.cells q.1)))
          by_entry None y = tt
          by_entry (Some a) None = tt

      close_good : (i : ℕ) (v : OutcomeTree) → Good (close_actor (classes r) i v (thing c.entries i) (proc now xs))
      close_good i v = by_entry (thing c.entries i)
        where
          by_entry : (x : Option Entry) → Good (close_actor (classes r) i v x (proc now xs))
          by_entry None = tt
          by_entry (Some e) = close_fired (scan_of (classes r).occ (removed xs i)) i e.result v now up h

      drop_good : (kd : Kind) (j : ℕ) → Good (do_task (classes r) s (Drop kd j) (proc now xs))
      drop_good kd j =
          let scan = scanned (classes r) (proc now xs) in
          after_turn (P k) (λ d. lose_ref scan (side_of kd) j d) now c.left (λ n. lose_fired scan (side_of kd) j (record now { left = n }) up h)

    abbrev MaybeGood : Option (Stepped Frame) → Type 0
    MaybeGood None = Unit {0}
    MaybeGood (Some q) = Good q

    tasks_good : (ts : List Task) → P k (record c { tasks = ts }) → c.tasks ≡ ts → Paired ts → MaybeGood (step_tasks (classes r) s ts (proc c xs))
    tasks_good [] h e o = tt
    tasks_good (Run i ∷ ts) h e o = run_good ts h i (subst (λ us. is_due (thing c.cells k) ≡ true → Fires k us) (sym e) h)
    tasks_good (Give i b v ∷ ts) h e o = give_good ts h i b v (thing xs i)
    tasks_good (Throw i err ∷ ts) h e o = throw_good ts h i err (thing xs i)
    tasks_good (Catch i err ∷ ts) h e o = unless c.halted h
    tasks_good (Store i v ∷ ts) h e o = store_good ts h i v (thing xs i)
    tasks_good (Keep i spot q ∷ ts) h e o = keep_good ts h i spot q (thing xs i) o.0
    tasks_good (Close i v ∷ ts) h e o = close_good ts h i v
    tasks_good (Fire j ∷ ts) h e o = fire_fired (scanned (classes r) (proc (record c { tasks = ts }) xs)) j (record c { tasks = ts }) up h
    tasks_good (Drop kd j ∷ ts) h e o = drop_good ts h kd j

    if_good : (x : Option Halt) → P k c → Paired c.tasks → MaybeGood (step_if (classes r) s x (proc c xs))
    if_good (Some x) h o = tt
    if_good None h o = tasks_good c.tasks h refl o

  pub step_fired : (r : RawTree) (s : Supply) (p : Proc Frame) (q : Stepped Frame) → Orderly p.core → CellsTied p.core → P k p.core → step (classes r) s p ≡ Some q → Unless (P k) q.0.core
  step_fired r s p q o t h e = subst (MaybeGood r s p.core p.actors t.numbers.cells) e (if_good r s p.core p.actors t.numbers.cells p.core.halted h o.paired)
