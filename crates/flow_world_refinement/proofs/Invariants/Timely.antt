-- A step asks for no timer after 2^62.
use Rattle.std.proofs.Common.{◌≡◌, ℕ, ◌≤◌, Bool, true, false, List, [], ◌∷◌, Option, Some, None, refl, subst, arith}
use Rattle.std.specs.Prelude.{◌+◌, ◌^◌, ◌&&◌, ◌-ℤ◌, pos, nat_le, nat_lt, int_le, length}
use Rattle.std.proofs.lemmas.Bool.Decides.{nat_tests}
use Rattle.flow_eval.specs.Predefined.{natural}
use Rattle.flow_value.specs.Values.{OutcomeTree, GoodOutcome, BadOutcome}
use Rattle.flow_numbered.specs.Numbered.{thing}
use Rattle.flow_meaning.specs.Requests.{DiskCall, Act, Goes, Pass, Drops, Effects, Starts, Operand, Waits, Sends, Cancels, Prints, SendsTo, Returns, Throws, RunsOut, Stuck, Ask, Effect, Make, Start, Draw, Delay, Never, Listen, Disk, Goal, Request, Timer, Supply}
use Rattle.flow_meaning.specs.Process.{Task, Run, Give, Throw, Catch, Store, Keep, Close, Fire, Drop, Entry, Halt, Core, Proc, Engine}
use Rattle.flow_meaning.specs.Effects.{draw, delay, open_port, listen, judged, ask_disk, effect, send_to, between, is_port}
use Rattle.flow_meaning.specs.React.{react}
use Rattle.flow_meaning.specs.Step.{Stepped, start, start_alone, answer_effect, answer, run_next, run, give, store, throw, OperandFate, GoesOn, Cancelled, Ready, verdict, keep_by, keep, close_actor, with_operand, do_task, popped, step_tasks, step_if, step}
use Rattle.flow_meaning.specs.Work.{is_ready_at}

-- a timer that is asked for comes by then
abbrev pub IsTimely : Option Request → Type 0
IsTimely (Some (Timer k t)) = t ≤ 2 ^ 62
IsTimely _ = Unit {0}

module _ (s : Supply) (i : ℕ) (goal : Goal) (c : Core) where
  delay_timely : (time : ℕ) → IsTimely (delay i goal time c).1
  delay_timely time = by_test (nat_le time (2 ^ 62)) refl
    where
      by_test : (b : Bool) → nat_le time (2 ^ 62) ≡ b → IsTimely (delay i goal time c).1
      by_test true e = rw e (within e)
        where
          within : nat_le time (2 ^ 62) ≡ true → time ≤ 2 ^ 62
          within q = grind (arith, nat_tests, q)
      by_test false e = rw e tt

  draw_timely : (lo hi : _) → IsTimely (draw s i goal lo hi c).1
  draw_timely lo hi = by_test (between (hi -ℤ lo) 1 (2 ^ 32)) refl
    where
      by_test : (b : Bool) → between (hi -ℤ lo) 1 (2 ^ 32) ≡ b → IsTimely (draw s i goal lo hi c).1
      by_test true e = rw e tt
      by_test false e = rw e tt

  listen_timely : (port : _) → IsTimely (listen i goal port c).1
  listen_timely port = by_test (is_port port) refl
    where
      by_port : (x : Option ℕ) → IsTimely (open_port i goal (natural port) x c).1
      by_port None = tt
      by_port (Some k) = tt

      by_test : (b : Bool) → is_port port ≡ b → IsTimely (listen i goal port c).1
      by_test true e = rw e (by_port (thing c.ports (natural port)))
      by_test false e = rw e tt

  disk_timely : (call : Option (DiskCall ℕ)) → IsTimely (ask_disk i goal call c).1
  disk_timely None = tt
  disk_timely (Some call) = tt

  effect_timely : (x : Effect) → IsTimely (effect s i goal x c).1
  effect_timely (Make k) = tt
  effect_timely (Start class args) = tt
  effect_timely (Draw lo hi) = draw_timely lo hi
  effect_timely (Delay ticks) = delay_timely (s.now + natural ticks)
  effect_timely Never = tt
  effect_timely (Listen port) = listen_timely port
  effect_timely (Disk call) = disk_timely (judged call)

module _ (s : Supply) (i : ℕ) (c : Core) where
  packet_timely : (q port : _) (text : List ℕ) → IsTimely (send_to s i q port text c).1
  packet_timely q port text = by_test (int_le (pos 0) q && nat_lt (natural q) s.processes && is_port port) refl
    where
      by_test : (b : Bool) → int_le (pos 0) q && nat_lt (natural q) s.processes && is_port port ≡ b → IsTimely (send_to s i q port text c).1
      by_test true e = rw e tt
      by_test false e = rw e tt

  react_timely : (x : Act) → IsTimely (react s i x c).1
  react_timely Goes = tt
  react_timely Pass = tt
  react_timely (Drops vs) = tt
  react_timely (Effects goal x) = effect_timely s i goal c x
  react_timely (Starts class args) = tt
  react_timely (Operand spot q) = tt
  react_timely (Waits spot vs) = tt
  react_timely (Sends k o) = tt
  react_timely (Cancels k) = tt
  react_timely (Prints v) = tt
  react_timely (SendsTo q port text) = packet_timely q port text
  react_timely (Returns v vs) = tt
  react_timely (Throws e) = tt
  react_timely RunsOut = tt
  react_timely Stuck = tt

module _ {A : Type 0} (e : Engine A) (s : Supply) where
  start_timely : (i : ℕ) (goal : Goal) (class : ℕ) (x : Option A) (p : Proc A) → IsTimely (start e i goal class x p).1
  start_timely i goal class None p = tt
  start_timely i goal class (Some a) p = tt

  alone_timely : (i class : ℕ) (x : Option A) (p : Proc A) → IsTimely (start_alone e i class x p).1
  alone_timely i class None p = tt
  alone_timely i class (Some a) p = tt

  by_effect : (i : ℕ) (goal : Goal) (x : Effect) (p : Proc A) → IsTimely (answer_effect e s i goal x p).1
  by_effect i goal (Make k) p = tt
  by_effect i goal (Start class args) p = start_timely i goal class (e.fresh class args) p
  by_effect i goal (Draw lo hi) p = effect_timely s i goal p.core (Draw lo hi)
  by_effect i goal (Delay ticks) p = effect_timely s i goal p.core (Delay ticks)
  by_effect i goal Never p = tt
  by_effect i goal (Listen port) p = effect_timely s i goal p.core (Listen port)
  by_effect i goal (Disk call) p = effect_timely s i goal p.core (Disk call)

  answer_timely : (i : ℕ) (x : Act) (p : Proc A) → IsTimely (answer e s i x p).1
  answer_timely i Goes p = tt
  answer_timely i Pass p = tt
  answer_timely i (Drops vs) p = tt
  answer_timely i (Effects goal x) p = by_effect i goal x p
  answer_timely i (Starts class args) p = alone_timely i class (e.fresh class args) p
  answer_timely i (Operand spot q) p = tt
  answer_timely i (Waits spot vs) p = tt
  answer_timely i (Sends k o) p = tt
  answer_timely i (Cancels k) p = tt
  answer_timely i (Prints v) p = tt
  answer_timely i (SendsTo q port text) p = packet_timely s i p.core q port text
  answer_timely i (Returns v vs) p = tt
  answer_timely i (Throws x) p = tt
  answer_timely i RunsOut p = tt
  answer_timely i Stuck p = tt

  next_timely : (i : ℕ) (ts : List Task) (x : Option Ask × A) (p : Proc A) → IsTimely (run_next e s i ts x p).1
  next_timely i ts (None, a) p = tt
  next_timely i ts (Some ask, a) p = answer_timely i ask.act _

  run_timely : (i : ℕ) (ts : List Task) (x : Option A) (p : Proc A) → IsTimely (run e s i ts x p).1
  run_timely i ts None p = tt
  run_timely i ts (Some a) p = next_timely i ts (e.next _ a) p

  give_timely : (i b : ℕ) (o : OutcomeTree) (x : Option A) (p : Proc A) → IsTimely (give e i b o x p).1
  give_timely i b o None p = tt
  give_timely i b (BadOutcome err) (Some a) p = tt
  give_timely i b (GoodOutcome v) (Some a) p = tt

  by_verdict : (i b : ℕ) (v : OperandFate) (q : _) (en : Entry) (a : A) (p : Proc A) → IsTimely (keep_by e i b v q en a p).1
  by_verdict i b GoesOn q en a p = tt
  by_verdict i b Cancelled q en a p = tt
  by_verdict i b Ready q en a p = tt

  keep_timely : (i : ℕ) (spot : _) (q : _) (x : Option A) (y : Option Entry) (p : Proc A) → IsTimely (keep e i spot q x y p).1
  keep_timely i spot q None None p = tt
  keep_timely i spot q None (Some en) p = tt
  keep_timely i spot q (Some a) None p = tt
  keep_timely i spot q (Some a) (Some en) p = by_verdict i (length en.operands) (verdict en.marked (is_ready_at (thing p.core.cells q.1))) q (with_operand spot q en) a p

  store_timely : (i : ℕ) (v : _) (x : Option A) (p : Proc A) → IsTimely (store e i v x p).1
  store_timely i v None p = tt
  store_timely i v (Some a) p = tt

  throw_timely : (i err : ℕ) (x : Option A) (p : Proc A) → IsTimely (throw e i err x p).1
  throw_timely i err None p = tt
  throw_timely i err (Some a) p = tt

  close_timely : (i : ℕ) (o : OutcomeTree) (y : Option Entry) (p : Proc A) → IsTimely (close_actor e i o y p).1
  close_timely i o None p = tt
  close_timely i o (Some en) p = tt

  task_timely : (t : Task) (p : Proc A) → IsTimely (do_task e s t p).1
  task_timely (Run i) p = tt
  task_timely (Give i b o) p = give_timely i b o (thing p.actors i) p
  task_timely (Throw i err) p = throw_timely i err (thing p.actors i) p
  task_timely (Catch i err) p = tt
  task_timely (Store i v) p = store_timely i v (thing p.actors i) p
  task_timely (Keep i spot q) p = keep_timely i spot q (thing p.actors i) (thing p.core.entries i) p
  task_timely (Close i o) p = close_timely i o (thing p.core.entries i) p
  task_timely (Fire k) p = tt
  task_timely (Drop kind k) p = tt

  abbrev MaybeTimely : Option (Stepped A) → Type 0
  MaybeTimely None = Unit {0}
  MaybeTimely (Some q) = IsTimely q.1

  tasks_timely : (ts : List Task) (p : Proc A) → MaybeTimely (step_tasks e s ts p)
  tasks_timely [] p = tt
  tasks_timely (Run i ∷ ts) p = run_timely i ts (thing p.actors i) p
  tasks_timely (Give i b o ∷ ts) p = task_timely (Give i b o) (popped ts p)
  tasks_timely (Throw i err ∷ ts) p = task_timely (Throw i err) (popped ts p)
  tasks_timely (Catch i err ∷ ts) p = tt
  tasks_timely (Store i v ∷ ts) p = task_timely (Store i v) (popped ts p)
  tasks_timely (Keep i spot q ∷ ts) p = task_timely (Keep i spot q) (popped ts p)
  tasks_timely (Close i o ∷ ts) p = task_timely (Close i o) (popped ts p)
  tasks_timely (Fire k ∷ ts) p = tt
  tasks_timely (Drop kind k ∷ ts) p = tt

  if_timely : (x : Option Halt) (p : Proc A) → MaybeTimely (step_if e s x p)
  if_timely (Some x) p = tt
  if_timely None p = tasks_timely p.core.tasks p

  pub step_timely : (p : Proc A) (q : Stepped A) → step e s p ≡ Some q → IsTimely q.1
  step_timely p q is = subst MaybeTimely is (if_timely p.core.halted p)
