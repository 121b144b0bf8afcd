-- One step of a process, over any kind of actor.
use Rattle.std.specs.Prelude.{ℕ, suc, Bool, true, false, List, [], ◌∷◌, ◌++◌, length}
use Rattle.std.specs.declared.option.Option.{Option}
use Rattle.std.specs.declared.option.Option.TheVariants.{None, Some}
use Rattle.flow_base.specs.ErrorNumbers.{operation_cancelled}
use Rattle.flow_value.specs.declared.value.Kind.TheVariants as kind
use Rattle.flow_value.specs.Values.{ValueTree, RefValue, OutcomeTree, GoodOutcome, BadOutcome}
use Rattle.flow_numbered.specs.Numbered.{Numbered, thing, added, put, removed}
use Rattle.flow_meaning.specs.Cells.{Ref, Single, outcome}
use Rattle.flow_meaning.specs.Requests.{Spot, Act, Effects, Effect, Start, Starts, Goal, Ask, Request, Supply}
use Rattle.flow_meaning.specs.Process.{Task, Run, Give, Throw, Catch, Store, Keep, Close, Fire, Drop, Entry, Halt, NoMeaning, Core, Proc, View, Raised, Engine}
use Rattle.flow_meaning.specs.Lines.{start_line, throw_line, catch_line}
use Rattle.flow_meaning.specs.References.{Scan, scan_of}
use Rattle.flow_meaning.specs.Work.{halt, turn, writes, pushed, dropping_values, new_cell, leave_for, take_branch, is_ready_at}
use Rattle.flow_meaning.specs.Dropping.{drop, fire, close}
use Rattle.flow_meaning.specs.Effects.{Reaction, result_task, push_result}
use Rattle.flow_meaning.specs.React.{react}

abbrev pub proc : {A : Type 0} → Core → Numbered A → Proc A
proc c xs = record { core = c; actors = xs }

-- a process after a step, and what it asks of the world
abbrev pub Stepped : Type 0 → Type 0
Stepped A = Proc A × Option Request

abbrev pub silent : {A : Type 0} → Proc A → Stepped A
silent p = (p, None)

abbrev pub stuck : {A : Type 0} → Proc A → Stepped A
stuck p = silent (proc (halt NoMeaning p.core) p.actors)

-- what an actor sees
abbrev pub kept_by : Option Entry → ℕ
kept_by None = 0
kept_by (Some e) = length e.operands

abbrev pub view : Supply → (actor : ℕ) → Core → View
view s i c = record { cells = λ k. outcome (thing c.cells k); now = s.now; left = c.left; kept = kept_by (thing c.entries i) }

-- An actor is made: its result, which a void one has none of, and the actor get their numbers, the line is written, and its task
-- comes on top.
abbrev pub entry_of : (class : ℕ) → (result : Option ℕ) → Entry
entry_of class result = record {
  class = class;
  result = result;
  marked = false;
  suspended = false;
  spot = record { group = 0; first = 0 };
  operands = [];
}

abbrev pub enrol_with : (class : ℕ) → List ℕ → (result : Option ℕ) → Core → Core
enrol_with class name result c =
    record (writes (start_line (suc c.started) name) c) {
      entries = added c.entries (suc c.started) (entry_of class result);
      started = suc c.started;
      tasks = Run (suc c.started) ∷ c.tasks;
    }

abbrev pub enrol : (class : ℕ) → List ℕ → Core → Core
enrol class name c = enrol_with class name (Some (suc c.made)) (new_cell (Single None []) c)

-- The call of an actor: a turn, and the new actor runs; its result is then stored or kept, and the caller goes on.
abbrev pub start_core : (actor : ℕ) → Goal → (class : ℕ) → List ℕ → Core → Core
start_core i goal class name c = turn c (λ d. enrol class name (push_result i (result_task i goal (RefValue kind.Future (suc d.made))) d))

-- The call of a void actor: a turn, and the new actor runs; then the caller goes on.
abbrev pub start_void : (actor class : ℕ) → List ℕ → Core → Core
start_void i class name c = turn c (λ d. enrol_with class name None (pushed (Run i) d))

abbrev pub start : {A : Type 0} → Engine A → (actor : ℕ) → Goal → (class : ℕ) → Option A → Proc A → Stepped A
start e i goal class None p = stuck p
start e i goal class (Some a) p = silent (proc (start_core i goal class (e.label class) p.core) (added p.actors (suc p.core.started) a))

abbrev pub start_alone : {A : Type 0} → Engine A → (actor class : ℕ) → Option A → Proc A → Stepped A
start_alone e i class None p = stuck p
start_alone e i class (Some a) p = silent (proc (start_void i class (e.label class) p.core) (added p.actors (suc p.core.started) a))

-- the process answers an ask
abbrev pub reacted : {A : Type 0} → Numbered A → Reaction → Stepped A
reacted xs r = (proc r.0 xs, r.1)

abbrev pub answer_effect : {A : Type 0} → Engine A → Supply → (actor : ℕ) → Goal → Effect → Proc A → Stepped A
answer_effect e s i goal (Start class args) p = start e i goal class (e.fresh class args) p
answer_effect e s i goal eff p = reacted p.actors (react s i (Effects goal eff) p.core)

abbrev pub answer : {A : Type 0} → Engine A → Supply → (actor : ℕ) → Act → Proc A → Stepped A
answer e s i (Effects goal eff) p = answer_effect e s i goal eff p
answer e s i (Starts class args) p = start_alone e i class (e.fresh class args) p
answer e s i act p = reacted p.actors (react s i act p.core)

-- The task Run: the actor asks for nothing and goes on, or the process answers.
abbrev pub run_next : {A : Type 0} → Engine A → Supply → (actor : ℕ) → List Task → Option Ask × A → Proc A → Stepped A
run_next e s i ts (None, a) p = silent (proc p.core (put p.actors i a))
run_next e s i ts (Some ask, a) p = answer e s i ask.act (proc (record p.core { tasks = ts; left = ask.left }) (put p.actors i a))

abbrev pub run : {A : Type 0} → Engine A → Supply → (actor : ℕ) → List Task → Option A → Proc A → Stepped A
run e s i ts None p = stuck p
run e s i ts (Some a) p = run_next e s i ts (e.next (view s i p.core) a) p

-- The actor hands out values, which are dropped in order, and goes on.
abbrev pub replaced : {A : Type 0} → (actor : ℕ) → List ValueTree × A → Proc A → Stepped A
replaced i r p = silent (proc (dropping_values r.0 p.core) (put p.actors i r.1))

-- The task Give: a value goes to the branch that was taken, and an error is thrown.
abbrev pub give : {A : Type 0} → Engine A → (actor branch : ℕ) → OutcomeTree → Option A → Proc A → Stepped A
give e i b o None p = stuck p
give e i b (BadOutcome err) (Some a) p = silent (proc (pushed (Throw i err) p.core) p.actors)
give e i b (GoodOutcome v) (Some a) p = replaced i (e.take b v a) (proc (pushed (Run i) p.core) p.actors)

-- The task Store.
abbrev pub store : {A : Type 0} → Engine A → (actor : ℕ) → ValueTree → Option A → Proc A → Stepped A
store e i v None p = stuck p
store e i v (Some a) p = replaced i (e.store v a) p

-- The task Throw: the line; then the operands that are kept are dropped in order, and the values that left the
-- variables; then the handler begins, or the actor ends.
abbrev pub fate : (actor error : ℕ) → (caught : Bool) → Task
fate i err true = Catch i err
fate i err false = Close i (BadOutcome err)

abbrev pub throw_core : (actor error : ℕ) → Raised → Option Entry → Core → Core
throw_core i err r None c = halt NoMeaning c
throw_core i err r (Some e) c = leave_for i e r.values (fate i err r.caught) (writes (throw_line i err) c)

abbrev pub throw_with : {A : Type 0} → (actor error : ℕ) → Raised × A → Proc A → Stepped A
throw_with i err r p = silent (proc (throw_core i err r.0 (thing p.core.entries i) p.core) (put p.actors i r.1))

abbrev pub throw : {A : Type 0} → Engine A → (actor error : ℕ) → Option A → Proc A → Stepped A
throw e i err None p = stuck p
throw e i err (Some a) p = throw_with i err (e.raise err a) p

-- The task Keep, with the actor's task under it: the operand is kept. A marked actor then leaves its wait and throws
-- `operation_cancelled`; an operand that is ready is taken; otherwise the actor goes on.
pub data OperandFate : Type 0 where
  GoesOn : OperandFate
  Cancelled : OperandFate
  Ready : OperandFate

abbrev pub verdict : (marked ready : Bool) → OperandFate
verdict true ready = Cancelled
verdict false true = Ready
verdict false false = GoesOn

abbrev pub with_operand : Spot → Ref → Entry → Entry
with_operand spot r e = record e { spot = spot; operands = e.operands ++ r ∷ [] }

-- the tasks under the actor's own
abbrev pub below : List Task → List Task
below [] = []
below (t ∷ ts) = ts

abbrev pub leave_kept : (actor branch : ℕ) → OperandFate → Ref → Entry → List ValueTree → Core → Core
leave_kept i b GoesOn r en vs c = c
leave_kept i b Cancelled r en vs c = leave_for i en vs (Throw i operation_cancelled) c
leave_kept i b Ready r en vs c = take_branch i b r.1 en vs (thing c.cells r.1) c

abbrev pub lost : {A : Type 0} → (actor branch : ℕ) → OperandFate → Ref → Entry → List ValueTree × A → Proc A → Stepped A
lost i b v r en l p = silent (proc (leave_kept i b v r en l.0 (record p.core { tasks = below p.core.tasks })) (put p.actors i l.1))

abbrev pub keep_by : {A : Type 0} → Engine A → (actor branch : ℕ) → OperandFate → Ref → Entry → A → Proc A → Stepped A
keep_by e i b GoesOn r en a p = silent (proc (record p.core { entries = put p.core.entries i en }) p.actors)
keep_by e i b v r en a p = lost i b v r en (e.lose a) p

abbrev pub keep : {A : Type 0} → Engine A → (actor : ℕ) → Spot → Ref → Option A → Option Entry → Proc A → Stepped A
keep e i spot r (Some a) (Some en) p =
    keep_by e i (length en.operands) (verdict en.marked (is_ready_at (thing p.core.cells r.1))) r (with_operand spot r en) a p
keep e i spot r _ _ p = stuck p

-- The task Catch: the line, and the handler runs.
abbrev pub handle : (actor error : ℕ) → Core → Core
handle i err c = pushed (Run i) (writes (catch_line i err) c)

-- The task Close: the actor is gone from the process.
abbrev pub close_actor : {A : Type 0} → Engine A → (actor : ℕ) → OutcomeTree → Option Entry → Proc A → Stepped A
close_actor e i o None p = stuck p
close_actor e i o (Some en) p = silent (proc (close (scan_of e.occ (removed p.actors i)) i en.result o p.core) (removed p.actors i))

-- what the variables of all actors of a process hold
abbrev pub scanned : {A : Type 0} → Engine A → Proc A → Scan
scanned e p = scan_of e.occ p.actors

abbrev pub on_core : {A : Type 0} → (Core → Core) → Proc A → Proc A
on_core f p = proc (f p.core) p.actors

abbrev pub popped : {A : Type 0} → List Task → Proc A → Proc A
popped ts p = proc (record p.core { tasks = ts }) p.actors

-- the newest task is done
abbrev pub do_task : {A : Type 0} → Engine A → Supply → Task → Proc A → Stepped A
do_task e s (Run i) p = stuck p
do_task e s (Give i b o) p = give e i b o (thing p.actors i) p
do_task e s (Throw i err) p = throw e i err (thing p.actors i) p
do_task e s (Catch i err) p = silent (on_core (handle i err) p)
do_task e s (Store i v) p = store e i v (thing p.actors i) p
do_task e s (Keep i spot r) p = keep e i spot r (thing p.actors i) (thing p.core.entries i) p
do_task e s (Close i o) p = close_actor e i o (thing p.core.entries i) p
do_task e s (Fire k) p = silent (on_core (fire (scanned e p) k) p)
do_task e s (Drop kind k) p = silent (on_core (drop (scanned e p) kind k) p)

-- One step; none, where no task is left or the event was stopped.
abbrev pub step_tasks : {A : Type 0} → Engine A → Supply → List Task → Proc A → Option (Stepped A)
step_tasks e s [] p = None
step_tasks e s (Run i ∷ ts) p = Some (run e s i ts (thing p.actors i) p)
step_tasks e s (t ∷ ts) p = Some (do_task e s t (popped ts p))

abbrev pub step_if : {A : Type 0} → Engine A → Supply → Option Halt → Proc A → Option (Stepped A)
step_if e s (Some h) p = None
step_if e s None p = step_tasks e s p.core.tasks p

abbrev pub step : {A : Type 0} → Engine A → Supply → Proc A → Option (Stepped A)
step e s p = step_if e s p.core.halted p
