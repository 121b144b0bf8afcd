-- What a process does for an actor that asks keeps each actor steady.
use Rattle.std.proofs.Common.{◌≡◌, ℕ, suc, ◌+◌, Bool, true, false, List, [], ◌∷◌, ◌++◌, refl, sym, subst, ◌∙◌, arith}
use Rattle.std.specs.Prelude.{pos, int_le, nat_lt, nat_le, ◌&&◌, ◌^◌, ◌-ℤ◌}
use Rattle.std.specs.declared.option.Option.{Option}
use Rattle.std.specs.declared.option.Option.TheVariants.{None, Some}
use Rattle.flow_base.specs.ErrorNumbers.{second_waiter, already_set, port_in_use, bad_argument, out_of_range}
use Rattle.flow_value.specs.declared.value.Kind.{Kind}
use Rattle.flow_value.specs.declared.value.Kind.TheVariants as kind
use Rattle.flow_value.specs.Values.{ValueTree, IntValue, BoolValue, TextValue, VoidValue, ErrorValue, CompositeValue, RefValue, OutcomeTree, GoodOutcome}
use Rattle.flow_draw.specs.Words.{scaled}
use Rattle.flow_eval.specs.Predefined.{natural}
use Rattle.flow_trace.specs.declared.line.Line.{Line}
use Rattle.flow_numbered.specs.Numbered.{thing, added, put}
use Rattle.flow_meaning.specs.Cells.{Cell, Single, Stream, is_complete}
use Rattle.flow_meaning.specs.Requests.{DiskCall, Spot, Effect, Make, Start, Draw, Delay, Never, Listen, Disk, Goal, Stored, Kept, Act, Goes, Pass, Drops, Effects, Operand, Waits, Sends, Cancels, Prints, SendsTo, Returns, Throws, RunsOut, Stuck, Supply, Starts}
use Rattle.flow_meaning.specs.Process.{Task, Run, Throw, Store, Keep, Close, Entry, Core}
use Rattle.flow_meaning.specs.Lines.{wait_line, print_line}
use Rattle.flow_meaning.specs.Orderly.{tasks_of, Rising}
use Rattle.flow_meaning.specs.Work.{writes, pushed, new_cell, fill, first_ready, Registration, Registered, Refused, Missing, register, owner, cancel_owner}
use Rattle.flow_meaning.specs.Effects.{throws, result_task, push_result, gives, gives_new, gives_open, empty_cell, between, is_port, open_port, judged, ask_disk, effect}
use Rattle.flow_meaning.specs.React.{send_by, send_in, print, at_spot, suspend, wait_by, wait, react}
use Rattle.flow_meaning.specs.Step.{enrol, entry_of, start_core, start_void, enrol_with}
use Rattle.flow_meaning.proofs.Posture.{Unless, unless, after_turn, thing_put_other, thing_added, other_task}
use Rattle.flow_meaning.proofs.Shifts.{run_of, throw_of, store_of, keep_of, close_of, either, owned}
use Rattle.flow_heap_refinement.proofs.Finds.{thing_new, none_above}
use Rattle.flow_invariants.proofs.Unmarked.Steady.{Steps, NoOperand, Steady, put_steady, runs_steady, S, by_number, kept, dropping_steady, fill_steady, leave_steady, branch_steady, owner_steady, push_steady, two_steady}

-- it isn't marked as cancelled
abbrev pub Unmarked : Option Entry → Type 0
Unmarked None = Unit {0}
Unmarked (Some e) = e.marked ≡ false

module _ (j : ℕ) where
  -- the actor goes on
  abbrev pub Unkept : ℕ → Core → Type 0
  Unkept i c = i ≡ j → NoOperand (thing c.entries j)

  pub run_steady : (i : ℕ) (c : Core) → Unkept i c → S j c → S j (pushed (Run i) c)
  run_steady i c none h = push_steady j i (Run i) c (run_of i) (λ ts s. none) h

  pub throw_steady : (i err : ℕ) (c : Core) → S j c → S j (pushed (Throw i err) c)
  throw_steady i err c h = push_steady j i (Throw i err) c (throw_of i err) (λ ts s q. absurd s) h

  -- effects
  gives_steady : (i : ℕ) (goal : Goal) (v : ValueTree) (c : Core) → S j c → Unless (S j) (gives i goal v c)
  gives_steady i Stored v c h = unless c.halted (two_steady j i (Store i v) c (store_of i v) (λ ts s. s) h)
  gives_steady i (Kept spot) (RefValue k cell) c h = unless c.halted (two_steady j i (Keep i spot (k, cell)) c (keep_of i spot (k, cell)) (λ ts s. s) h)
  gives_steady i (Kept spot) (IntValue n) c h = tt
  gives_steady i (Kept spot) (BoolValue b) c h = tt
  gives_steady i (Kept spot) (TextValue t) c h = tt
  gives_steady i (Kept spot) VoidValue c h = tt
  gives_steady i (Kept spot) (ErrorValue n) c h = tt
  gives_steady i (Kept spot) (CompositeValue n vs) c h = tt

  new_steady : (i : ℕ) (goal : Goal) (k : Kind) (cell : Cell) (c : Core) → S j c → Unless (S j) (gives_new i goal k cell c)
  new_steady i goal k cell c h = gives_steady i goal (RefValue k (suc c.made)) (new_cell cell c) h

  opened_steady : (i : ℕ) (goal : Goal) (c : Core) → S j c → Unless (S j) (gives_open i goal c)
  opened_steady i goal c h = new_steady i goal kind.Future (Single None []) (record c { requests = c.requests ++ suc c.made ∷ [] }) h

  bad_steady : (i err : ℕ) (c : Core) → S j c → Unless (S j) (throws i err c).0
  bad_steady i err c h = unless c.halted (throw_steady i err c h)

  port_steady : (i : ℕ) (goal : Goal) (port : ℕ) (o : Option ℕ) (c : Core) → S j c → Unless (S j) (open_port i goal port o c).0
  port_steady i goal port (Some cell) c h = bad_steady i port_in_use c h
  port_steady i goal port None c h = new_steady i goal kind.FutureStream (Stream [] None None) (record c { ports = added c.ports port (suc c.made) }) h

  disk_steady : (i : ℕ) (goal : Goal) (call : Option (DiskCall ℕ)) (c : Core) → S j c → Unless (S j) (ask_disk i goal call c).0
  disk_steady i goal None c h = bad_steady i bad_argument c h
  disk_steady i goal (Some call) c h = opened_steady i goal c h

  pub effect_steady : (s : Supply) (i : ℕ) (goal : Goal) (eff : Effect) (c : Core) → S j c → Unless (S j) (effect s i goal eff c).0
  effect_steady s i goal (Make k) c h = new_steady i goal k (empty_cell k) c h
  effect_steady s i goal (Start class args) c h = tt
  effect_steady s i goal (Draw lo hi) c h =
      either (S j) (between (hi -ℤ lo) 1 (2 ^ 32)) _ (throws i bad_argument c) (gives_steady i goal (IntValue (scaled lo (natural (hi -ℤ lo)) s.word)) c h) (bad_steady i bad_argument c h)
  effect_steady s i goal (Delay ticks) c h =
      either (S j) (nat_le (s.now + natural ticks) (2 ^ 62)) _ (throws i out_of_range c) (opened_steady i goal c h) (bad_steady i out_of_range c h)
  effect_steady s i goal Never c h = new_steady i goal kind.Future (Single None []) c h
  effect_steady s i goal (Listen port) c h =
      either (S j) (is_port port) _ (throws i bad_argument c) (port_steady i goal (natural port) (thing c.ports (natural port)) c h) (bad_steady i bad_argument c h)
  effect_steady s i goal (Disk call) c h = disk_steady i goal (judged call) c h

  -- a new actor
  alone_steady : (class : ℕ) (name : List ℕ) (result : Option ℕ) (c : Core) → Rising 0 c.started c.entries → S j c → S j (enrol_with class name result c)
  alone_steady class name result c up h =
      let n = suc c.started in
      let e = entry_of class result in
      let d = enrol_with class name result c in
      let none : thing c.entries n ≡ None = none_above c.entries 0 c.started n up (omega arith) in
      by_number j n (S j d)
      (λ q. subst (λ m. Steady (thing (added c.entries n e) m) (tasks_of j d.tasks)) q
      (subst (λ x. Steady x (tasks_of j d.tasks)) (sym (thing_new c.entries n e none)) (runs_steady e (tasks_of j d.tasks) refl refl)))
      (λ o. kept j c d (thing_added c.entries n j e o) (other_task n j (Run n) c.tasks (run_of n) o) h)

  pub enrol_steady : (class : ℕ) (name : List ℕ) (c : Core) → Rising 0 c.started c.entries → S j c → S j (enrol class name c)
  enrol_steady class name c up h = alone_steady class name (Some (suc c.made)) (new_cell (Single None []) c) up h

  pub start_steady : (i : ℕ) (goal : Goal) (class : ℕ) (name : List ℕ) (c : Core) → Rising 0 c.started c.entries → S j c → Unless (S j) (start_core i goal class name c)
  start_steady i goal class name c up h =
      after_turn (S j) (λ d. enrol class name (push_result i (result_task i goal (RefValue kind.Future (suc d.made))) d)) c c.left (λ n. by_goal n goal)
    where
      both : (n : ℕ) (t : Task) → S j (pushed t (pushed (Run i) (record c { left = n }))) → Unless (S j) (enrol class name (pushed t (pushed (Run i) (record c { left = n }))))
      both n t s = unless c.halted (enrol_steady class name (pushed t (pushed (Run i) (record c { left = n }))) up s)

      by_goal : (n : ℕ) (goal : Goal) → Unless (S j) (enrol class name (push_result i (result_task i goal (RefValue kind.Future (suc c.made))) (record c { left = n })))
      by_goal n Stored = let t = Store i (RefValue kind.Future (suc c.made)) in both n t (two_steady j i t (record c { left = n }) (store_of i (RefValue kind.Future (suc c.made))) (λ ts s. s) h)
      by_goal n (Kept spot) =
          let t = Keep i spot (kind.Future, suc c.made) in both n t (two_steady j i t (record c { left = n }) (keep_of i spot (kind.Future, suc c.made)) (λ ts s. s) h)

  -- a void one, whose caller goes on
  pub void_steady : (i class : ℕ) (name : List ℕ) (c : Core) → Rising 0 c.started c.entries → Unkept i c → S j c → Unless (S j) (start_void i class name c)
  void_steady i class name c up none h =
      after_turn (S j) (λ d. enrol_with class name None (pushed (Run i) d)) c c.left
      (λ n. let d = record c { left = n } in unless c.halted (alone_steady class name None (pushed (Run i) d) up (run_steady i d none h)))

  -- sends
  send_steady : (x : Option Cell) (i k : ℕ) (o : OutcomeTree) (c : Core) → Unkept i c → S j c → Unless (S j) (send_in x i k o c)
  send_steady None i k o c none h = tt
  send_steady (Some cell) i k o c none h = by_test (is_complete cell)
    where
      by_test : (b : Bool) → Unless (S j) (send_by b i k o c)
      by_test true = unless c.halted (throw_steady i already_set c h)
      by_test false =
          after_turn (S j) (λ d. fill k o (pushed (Run i) d)) c c.left (λ n. let d = record c { left = n } in fill_steady j k o (pushed (Run i) d) (run_steady i d none h))

  print_steady : (i : ℕ) (l : Option Line) (c : Core) → Unkept i c → S j c → Unless (S j) (print i l c)
  print_steady i None c none h = tt
  print_steady i (Some l) c none h = unless c.halted (run_steady i (writes l c) none h)

  -- waits: the actor isn't marked
  suspend_steady : (i : ℕ) (spot : Spot) (e : Entry) (vs : List ValueTree) (r : Registration) (c : Core) → (i ≡ j → e.marked ≡ false) → tasks_of i c.tasks ≡ [] → ((i ≡ j → ⊥) → S j c)
      → Unless (S j) (suspend i spot e vs r c)
  suspend_steady i spot e vs Missing c clear none h = tt
  suspend_steady i spot e vs Refused c clear none h = unless c.halted (leave_steady j i e vs (Throw i second_waiter) c (throw_of i second_waiter) h)
  suspend_steady i spot e vs (Registered cells) c clear none h = unless c.halted (dropping_steady j vs asleep waits)
    where
      waiter : Entry
      waiter = record e { suspended = true }

      asleep : Core
      asleep = record (writes (wait_line i spot.group) c) { cells = cells; entries = put c.entries i waiter }

      no_mark : i ≡ j → waiter.marked ≡ true → waiter.suspended ≡ false
      no_mark q m = absurd (clash (sym (clear q) ∙ m))
        where
          clash : false ≡ true → ⊥
          clash q = cc

      idle : (ts : List Task) → ts ≡ [] → Steps ts → waiter.operands ≡ []
      idle [] q s = absurd s
      idle (t ∷ ts) q s = cc

      waits : S j asleep
      waits =
          by_number j i (S j asleep)
          (λ q. subst (λ n. Steady (thing (put c.entries i waiter) n) (tasks_of n c.tasks)) q (put_steady c.entries i waiter (tasks_of i c.tasks) (no_mark q, idle (tasks_of i c.tasks) none)))
          (λ o. kept j c asleep (thing_put_other c.entries i j waiter o) refl (h o))

  wait_steady : (i : ℕ) (spot : Spot) (vs : List ValueTree) (c : Core) → (i ≡ j → Unmarked (thing c.entries i)) → tasks_of i c.tasks ≡ [] → ((i ≡ j → ⊥) → S j c)
      → Unless (S j) (wait i spot (thing c.entries i) vs c)
  wait_steady i spot vs c clear none h = by_entry (thing c.entries i) clear
    where
      by_ready : (e : Entry) → (i ≡ j → e.marked ≡ false) → (o : Option (ℕ × ℕ)) → Unless (S j) (wait_by i spot (at_spot spot e) vs o c)
      by_ready e m (Some b) = branch_steady j i b.0 b.1 (at_spot spot e) vs (thing c.cells b.1) c h
      by_ready e m None = suspend_steady i spot (at_spot spot e) vs (register i 0 e.operands (Registered c.cells)) c m none h

      by_entry : (x : Option Entry) → (i ≡ j → Unmarked x) → Unless (S j) (wait i spot x vs c)
      by_entry None m = tt
      by_entry (Some e) m = by_ready e m (first_ready c.cells 0 e.operands)

  -- what an actor has to be for what it asks
  abbrev pub Asks : (actor : ℕ) → Act → Core → Type 0
  Asks i (Waits spot vs) c = i ≡ j → Unmarked (thing c.entries i)
  Asks i Goes c = Unkept i c
  Asks i Pass c = Unkept i c
  Asks i (Drops vs) c = Unkept i c
  Asks i (Starts class args) c = Unkept i c
  Asks i (Sends k o) c = Unkept i c
  Asks i (Cancels k) c = Unkept i c
  Asks i (Prints v) c = Unkept i c
  Asks i (SendsTo q port text) c = Unkept i c
  Asks i _ c = Unit {0}

  pub react_steady : (s : Supply) (i : ℕ) (act : Act) (c : Core) → Rising 0 c.started c.entries → tasks_of i c.tasks ≡ [] → Asks i act c → S j c → Unless (S j) (react s i act c).0
  react_steady s i Goes c up none a h = unless c.halted (run_steady i c a h)
  react_steady s i Pass c up none a h = after_turn (S j) (pushed (Run i)) c c.left (λ n. unless c.halted (run_steady i (record c { left = n }) a h))
  react_steady s i (Drops vs) c up none a h = unless c.halted (dropping_steady j vs (pushed (Run i) c) (run_steady i c a h))
  react_steady s i (Effects goal eff) c up none a h = effect_steady s i goal eff c h
  react_steady s i (Starts class args) c up none a h = tt
  react_steady s i (Operand spot r) c up none a h = unless c.halted (two_steady j i (Keep i spot r) c (keep_of i spot r) (λ ts z. z) h)
  react_steady s i (Waits spot vs) c up none a h = wait_steady i spot vs c a none (λ o. h)
  react_steady s i (Sends k o) c up none a h = send_steady (thing c.cells k) i k o c a h
  react_steady s i (Cancels k) c up none a h =
      let d = pushed (Run i) c in
      let o = owner k c.entries in
      unless (cancel_owner o d).halted (owner_steady j o d (owned k c o up refl) (run_steady i c a h))
  react_steady s i (Prints v) c up none a h = print_steady i (print_line i v) c a h
  react_steady s i (SendsTo q port text) c up none a h =
      either (S j) (int_le (pos 0) q && nat_lt (natural q) s.processes && is_port port) _ (throws i bad_argument c) (unless c.halted (run_steady i c a h)) (bad_steady i bad_argument c h)
  react_steady s i (Returns v vs) c up none a h =
      unless c.halted (dropping_steady j vs (pushed (Close i (GoodOutcome v)) c) (push_steady j i (Close i (GoodOutcome v)) c (close_of i (GoodOutcome v)) (λ ts z q. absurd z) h))
  react_steady s i (Throws e) c up none a h = bad_steady i e c h
  react_steady s i RunsOut c up none a h = tt
  react_steady s i Stuck c up none a h = tt
