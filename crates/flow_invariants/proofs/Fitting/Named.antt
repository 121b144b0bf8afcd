-- A step sends packets to processes of its world alone.
use Rattle.std.proofs.Common.{◌≡◌, ℕ, ◌<◌, Bool, true, false, List, [], ◌∷◌, length, if◌then◌else◌, refl, subst, arith}
use Rattle.std.specs.Prelude.{pos, int_le, nat_lt, nat_le, ◌&&◌, ◌+◌, ◌^◌, ◌-ℤ◌}
use Rattle.std.specs.declared.option.Option.{Option}
use Rattle.std.specs.declared.option.Option.TheVariants.{None, Some}
use Rattle.flow_value.specs.Values.{ValueTree, OutcomeTree, GoodOutcome, BadOutcome}
use Rattle.flow_eval.specs.Predefined.{natural}
use Rattle.flow_numbered.specs.Numbered.{thing}
use Rattle.flow_meaning.specs.Cells.{Ref}
use Rattle.flow_meaning.specs.Requests.{DiskCall, Spot, Effect, Make, Start, Draw, Delay, Never, Listen, Disk, Goal, Act, Goes, Pass, Drops, Effects, Operand, Waits, Sends, Cancels, Prints, SendsTo, Returns, Throws, RunsOut, Stuck, Ask, Request, Packet, Supply, Starts}
use Rattle.flow_meaning.specs.Process.{Task, Run, Give, Throw, Catch, Store, Keep, Close, Fire, Drop, Entry, Halt, Core, Proc, Engine}
use Rattle.flow_meaning.specs.Work.{is_ready_at}
use Rattle.flow_meaning.specs.Effects.{Reaction, between, is_port, open_port, judged, ask_disk, effect}
use Rattle.flow_meaning.specs.React.{react}
use Rattle.flow_meaning.specs.Step as steps
use Rattle.flow_meaning.specs.Step.{Stepped, view, start, answer, run_next, run, OperandFate, GoesOn, Cancelled, Ready, verdict, with_operand, keep_by, keep, close_actor, do_task, step_tasks, step_if, step, start_alone}

abbrev pub Names : (processes : ℕ) → Option Request → Type 0
Names n (Some (Packet q port text)) = q < n
Names n q = Unit {0}

module _ (s : Supply) where
  abbrev Named : Option Request → Type 0
  Named q = Names s.processes q

  either : (b : Bool) (x y : Reaction) → (b ≡ true → Named x.1) → Named y.1 → Named (if b then x else y).1
  either true x y h k = h refl
  either false x y h k = k

  port_named : (i : ℕ) (goal : Goal) (port : ℕ) (x : Option ℕ) (c : Core) → Named (open_port i goal port x c).1
  port_named i goal port (Some k) c = tt
  port_named i goal port None c = tt

  disk_named : (i : ℕ) (goal : Goal) (x : Option (DiskCall ℕ)) (c : Core) → Named (ask_disk i goal x c).1
  disk_named i goal None c = tt
  disk_named i goal (Some call) c = tt

  effect_named : (i : ℕ) (goal : Goal) (eff : Effect) (c : Core) → Named (effect s i goal eff c).1
  effect_named i goal (Make k) c = tt
  effect_named i goal (Start class args) c = tt
  effect_named i goal (Draw lo hi) c = either (between (hi -ℤ lo) 1 (2 ^ 32)) _ _ (λ h. tt) tt
  effect_named i goal (Delay ticks) c = either (nat_le (s.now + natural ticks) (2 ^ 62)) _ _ (λ h. tt) tt
  effect_named i goal Never c = tt
  effect_named i goal (Listen port) c = either (is_port port) _ _ (λ h. port_named i goal (natural port) (thing c.ports (natural port)) c) tt
  effect_named i goal (Disk call) c = disk_named i goal (judged call) c

  middle : (a b c : Bool) → a && b && c ≡ true → b ≡ true
  middle true true c h = refl
  middle true false c h = absurd cc
  middle false b c h = absurd cc

  react_named : (i : ℕ) (act : Act) (c : Core) → Named (react s i act c).1
  react_named i (Effects goal eff) c = effect_named i goal eff c
  react_named i (SendsTo q port text) c =
      either (int_le (pos 0) q && nat_lt (natural q) s.processes && is_port port) _ _
      (λ h. let m = middle (int_le (pos 0) q) (nat_lt (natural q) s.processes) (is_port port) h in
      let l : natural q < s.processes = grind (arith, m) in l) tt
  react_named i Goes c = tt
  react_named i Pass c = tt
  react_named i (Drops vs) c = tt
  react_named i (Starts class args) c = tt
  react_named i (Operand spot r) c = tt
  react_named i (Waits spot vs) c = tt
  react_named i (Sends k o) c = tt
  react_named i (Cancels k) c = tt
  react_named i (Prints v) c = tt
  react_named i (Returns v vs) c = tt
  react_named i (Throws e) c = tt
  react_named i RunsOut c = tt
  react_named i Stuck c = tt

  module _ {A : Type 0} (e : Engine A) where
    start_named : (i : ℕ) (goal : Goal) (class : ℕ) (x : Option A) (p : Proc A) → Named (start e i goal class x p).1
    start_named i goal class None p = tt
    start_named i goal class (Some a) p = tt

    alone_named : (i class : ℕ) (x : Option A) (p : Proc A) → Named (start_alone e i class x p).1
    alone_named i class None p = tt
    alone_named i class (Some a) p = tt

    answer_named : (i : ℕ) (act : Act) (p : Proc A) → Named (answer e s i act p).1
    answer_named i (Effects goal (Start class args)) p = start_named i goal class (e.fresh class args) p
    answer_named i (Effects goal eff) p = effect_named i goal eff p.core
    answer_named i (Starts class args) p = alone_named i class (e.fresh class args) p
    answer_named i act p = react_named i act p.core

    next_named : (i : ℕ) (ts : List Task) (x : Option Ask × A) (p : Proc A) → Named (run_next e s i ts x p).1
    next_named i ts (None, a) p = tt
    next_named i ts (Some ask, a) p = answer_named i ask.act (steps.proc (record p.core { tasks = ts; left = ask.left }) (Rattle.flow_numbered.specs.Numbered.put p.actors i a))

    run_named : (i : ℕ) (ts : List Task) (x : Option A) (p : Proc A) → Named (run e s i ts x p).1
    run_named i ts None p = tt
    run_named i ts (Some a) p = next_named i ts (e.next (view s i p.core) a) p

    give_named : (i b : ℕ) (o : OutcomeTree) (x : Option A) (p : Proc A) → Named (steps.give e i b o x p).1
    give_named i b o None p = tt
    give_named i b (BadOutcome err) (Some a) p = tt
    give_named i b (GoodOutcome v) (Some a) p = tt

    store_named : (i : ℕ) (v : ValueTree) (x : Option A) (p : Proc A) → Named (steps.store e i v x p).1
    store_named i v None p = tt
    store_named i v (Some a) p = tt

    throw_named : (i err : ℕ) (x : Option A) (p : Proc A) → Named (steps.throw e i err x p).1
    throw_named i err None p = tt
    throw_named i err (Some a) p = tt

    keep_by_named : (i b : ℕ) (v : OperandFate) (r : Ref) (en : Entry) (a : A) (p : Proc A) → Named (keep_by e i b v r en a p).1
    keep_by_named i b GoesOn r en a p = tt
    keep_by_named i b Cancelled r en a p = tt
    keep_by_named i b Ready r en a p = tt

    keep_named : (i : ℕ) (spot : Spot) (r : Ref) (x : Option A) (o : Option Entry) (p : Proc A) → Named (keep e i spot r x o p).1
    keep_named i spot r (Some a) (Some en) p = keep_by_named i (length en.operands) (verdict en.marked (is_ready_at (thing p.core.cells r.1))) r (with_operand spot r en) a p
    keep_named i spot r None o p = tt
    keep_named i spot r (Some a) None p = tt

    close_named : (i : ℕ) (o : OutcomeTree) (x : Option Entry) (p : Proc A) → Named (close_actor e i o x p).1
    close_named i o None p = tt
    close_named i o (Some en) p = tt

    task_named : (t : Task) (p : Proc A) → Named (do_task e s t p).1
    task_named (Run i) p = tt
    task_named (Give i b o) p = give_named i b o (thing p.actors i) p
    task_named (Throw i err) p = throw_named i err (thing p.actors i) p
    task_named (Catch i err) p = tt
    task_named (Store i v) p = store_named i v (thing p.actors i) p
    task_named (Keep i spot r) p = keep_named i spot r (thing p.actors i) (thing p.core.entries i) p
    task_named (Close i o) p = close_named i o (thing p.core.entries i) p
    task_named (Fire k) p = tt
    task_named (Drop kind k) p = tt

    abbrev MaybeNamed : Option (Stepped A) → Type 0
    MaybeNamed None = Unit {0}
    MaybeNamed (Some t) = Named t.1

    tasks_named : (ts : List Task) (p : Proc A) → MaybeNamed (step_tasks e s ts p)
    tasks_named [] p = tt
    tasks_named (Run i ∷ ts) p = run_named i ts (thing p.actors i) p
    tasks_named (Give i b o ∷ ts) p = task_named (Give i b o) (steps.popped ts p)
    tasks_named (Throw i err ∷ ts) p = task_named (Throw i err) (steps.popped ts p)
    tasks_named (Catch i err ∷ ts) p = task_named (Catch i err) (steps.popped ts p)
    tasks_named (Store i v ∷ ts) p = task_named (Store i v) (steps.popped ts p)
    tasks_named (Keep i spot r ∷ ts) p = task_named (Keep i spot r) (steps.popped ts p)
    tasks_named (Close i o ∷ ts) p = task_named (Close i o) (steps.popped ts p)
    tasks_named (Fire k ∷ ts) p = task_named (Fire k) (steps.popped ts p)
    tasks_named (Drop kind k ∷ ts) p = task_named (Drop kind k) (steps.popped ts p)

    if_named : (x : Option Halt) (p : Proc A) → MaybeNamed (step_if e s x p)
    if_named (Some h) p = tt
    if_named None p = tasks_named p.core.tasks p

    pub step_named : (p : Proc A) (t : Stepped A) → step e s p ≡ Some t → Named t.1
    step_named p t q = subst MaybeNamed q (if_named p.core.halted p)
