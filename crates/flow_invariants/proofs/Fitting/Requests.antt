-- The open requests of a process after a step: those before it, and the one for whose cell the world was asked.
use Rattle.std.proofs.Common.{◌≡◌, ℕ, zero, suc, Bool, true, false, List, [], ◌∷◌, ◌++◌, length, if◌then◌else◌, refl, sym, subst, ◌∙◌}
use Rattle.std.proofs.lemmas.List.{append-nil}
use Rattle.std.specs.Prelude.{pos, int_le, nat_lt, nat_le, ◌&&◌, ◌+◌, ◌^◌, ◌-ℤ◌}
use Rattle.std.specs.declared.option.Option.{Option}
use Rattle.std.specs.declared.option.Option.TheVariants.{None, Some}
use Rattle.flow_value.specs.declared.value.Kind.{Kind}
use Rattle.flow_value.specs.declared.value.Kind.TheVariants as kind
use Rattle.flow_draw.specs.Words.{scaled}
use Rattle.flow_value.specs.Values.{ValueTree, IntValue, RefValue, OutcomeTree, GoodOutcome, BadOutcome}
use Rattle.flow_trace.specs.declared.line.Line.{Line}
use Rattle.flow_eval.specs.Predefined.{natural}
use Rattle.flow_numbered.specs.Numbered.{thing, added, put, removed}
use Rattle.flow_meaning.specs.Cells.{Side, FutureSide, side_of, Ref, Waiter, Cell, is_complete, is_ready, waiters, taken, Single, Stream}
use Rattle.flow_meaning.specs.Requests.{DiskCall, Spot, Effect, Make, Start, Draw, Delay, Never, Listen, Disk, Goal, Act, Goes, Pass, Drops, Effects, Operand, Waits, Sends, Cancels, Prints, SendsTo, Returns, Throws, RunsOut, Stuck, Ask, Supply, Starts}
use Rattle.flow_meaning.specs.Process.{Task, Run, Give, Throw, Catch, Store, Keep, Close, Fire, Drop, Entry, Halt, Core, Proc, Raised, Engine}
use Rattle.flow_meaning.specs.References.{Scan, scan_of}
use Rattle.flow_meaning.specs.Work.{turn_of, turn, fill_cell, fill, free_cell, free, give, take_branch, Registration, Registered, Refused, Missing, owner, cancel_by, cancel, cancel_owner, new_cell, pushed, writes, is_ready_at}
use Rattle.flow_meaning.specs.Effects.{Reaction, result_task, push_result, gives_open, gives_new, empty_cell, between, is_port, open_port, judged, ask_disk, effect}
use Rattle.flow_meaning.specs.React.{send_by, send_in, print, suspend, wait_by, wait, at_spot, react}
use Rattle.flow_meaning.specs.Dropping.{Loss, Kept, Freed, Broken, Orphan, Unheard, suffer, lose_cell, lose_ref, fire_to, fire_at, fire_cell, fire, set_result, give_result}
use Rattle.flow_meaning.specs.Lines.{print_line, end_line}
use Rattle.flow_meaning.specs.Step as steps
use Rattle.flow_meaning.specs.Step.{proc, Stepped, view, start, enrol, scanned, popped, answer_effect, answer, run_next, run, throw_core, throw_with, OperandFate, GoesOn, Cancelled, Ready, verdict, with_operand, below, leave_kept, lost, keep_by, keep, close_actor, do_task, step_tasks, step_if, step, start_alone, enrol_with}
use Rattle.flow_invariants.specs.Fitting.Due.{asked}

-- the open requests stay
abbrev pub Same : Core → Core → Type 0
Same c d = d.requests ≡ c.requests

pub turn_same : (f : Core → Core) (c : Core) → ((n : ℕ) → Same c (f (record c { left = n }))) → Same c (turn c f)
turn_same f c h = by_left c.left
  where
    by_left : (l : ℕ) → Same c (turn_of l c f)
    by_left zero = refl
    by_left (suc n) = h n

fill_cell_same : (k : ℕ) (o : OutcomeTree) (x : Option Cell) (c : Core) → Same c (fill_cell k o x c)
fill_cell_same k o None c = refl
fill_cell_same k o (Some cell) c = refl

pub fill_same : (k : ℕ) (o : OutcomeTree) (c : Core) → Same c (fill k o c)
fill_same k o c = fill_cell_same k o (thing c.cells k) c

free_cell_same : (k : ℕ) (x : Option Cell) (c : Core) → Same c (free_cell k x c)
free_cell_same k None c = refl
free_cell_same k (Some cell) c = refl

free_same : (k : ℕ) (c : Core) → Same c (free k c)
free_same k c = free_cell_same k (thing c.cells k) c

give_same : (i b : ℕ) (e : Entry) (vs : List ValueTree) (o : Option OutcomeTree) (c : Core) → Same c (give i b e vs o c)
give_same i b e vs None c = refl
give_same i b e vs (Some o) c = refl

branch_same : (i b k : ℕ) (e : Entry) (vs : List ValueTree) (x : Option Cell) (c : Core) → Same c (take_branch i b k e vs x c)
branch_same i b k e vs None c = refl
branch_same i b k e vs (Some cell) c = turn_same _ c (λ n. give_same i b e vs (taken cell) _)

cancel_by_same : (x : Bool) (i : ℕ) (e : Entry) (c : Core) → Same c (cancel_by x i e c)
cancel_by_same true i e c = refl
cancel_by_same false i e c = refl

cancel_same : (i : ℕ) (e : Entry) (c : Core) → Same c (cancel i e c)
cancel_same i e c = cancel_by_same e.suspended i e _

owner_same : (o : Option (ℕ × Entry)) (c : Core) → Same c (cancel_owner o c)
owner_same None c = refl
owner_same (Some o) c = cancel_same o.0 o.1 c

-- what is lost
suffer_same : (k : ℕ) (l : Loss) (c : Core) → Same c (suffer k l c)
suffer_same k Kept c = refl
suffer_same k Freed c = free_same k c
suffer_same k Broken c = turn_same _ c (λ n. fill_same k _ _)
suffer_same k (Orphan i e) c = cancel_same i e c
suffer_same k (Unheard port) c = free_same k _

lose_cell_same : (scan : Scan) (s : Side) (k : ℕ) (x : Option Cell) (c : Core) → Same c (lose_cell scan s k x c)
lose_cell_same scan s k None c = refl
lose_cell_same scan s k (Some cell) c = suffer_same k _ c

lose_same : (scan : Scan) (s : Side) (k : ℕ) (c : Core) → Same c (lose_ref scan s k c)
lose_same scan s k c = lose_cell_same scan s k (thing c.cells k) c

fire_to_same : (k : ℕ) (cell : Cell) (w : Waiter) (x : Option Entry) (c : Core) → Same c (fire_to k cell w x c)
fire_to_same k cell w None c = refl
fire_to_same k cell w (Some e) c = branch_same w.actor w.branch k e [] (Some cell) _

fire_at_same : (scan : Scan) (k : ℕ) (cell : Cell) (ready : Bool) (ws : List Waiter) (c : Core) → Same c (fire_at scan k cell ready ws c)
fire_at_same scan k cell ready [] c = lose_same scan FutureSide k c
fire_at_same scan k cell false (w ∷ ws) c = lose_same scan FutureSide k c
fire_at_same scan k cell true (w ∷ ws) c = fire_to_same k cell w (thing c.entries w.actor) c

fire_cell_same : (scan : Scan) (k : ℕ) (x : Option Cell) (c : Core) → Same c (fire_cell scan k x c)
fire_cell_same scan k None c = refl
fire_cell_same scan k (Some cell) c = fire_at_same scan k cell (is_ready cell) (waiters cell) c

set_same : (k : ℕ) (o : OutcomeTree) (n : ℕ) (c : Core) → Same c (set_result k o n c)
set_same k o zero c = refl
set_same k o (suc n) c = turn_same _ c (λ m. fill_same k o _)

result_same : (scan : Scan) (x : Option ℕ) (o : OutcomeTree) (c : Core) → Same c (give_result scan x o c)
result_same scan None o c = refl
result_same scan (Some k) o c = set_same k o _ c

-- what an actor asks
send_by_same : (x : Bool) (i k : ℕ) (o : OutcomeTree) (c : Core) → Same c (send_by x i k o c)
send_by_same true i k o c = refl
send_by_same false i k o c = turn_same _ c (λ n. fill_same k o _)

send_same : (x : Option Cell) (i k : ℕ) (o : OutcomeTree) (c : Core) → Same c (send_in x i k o c)
send_same None i k o c = refl
send_same (Some cell) i k o c = send_by_same (is_complete cell) i k o c

print_same : (i : ℕ) (x : Option Line) (c : Core) → Same c (print i x c)
print_same i None c = refl
print_same i (Some l) c = refl

suspend_same : (i : ℕ) (spot : Spot) (e : Entry) (vs : List ValueTree) (x : Registration) (c : Core) → Same c (suspend i spot e vs x c)
suspend_same i spot e vs Missing c = refl
suspend_same i spot e vs Refused c = refl
suspend_same i spot e vs (Registered cells) c = refl

wait_by_same : (i : ℕ) (spot : Spot) (e : Entry) (vs : List ValueTree) (x : Option (ℕ × ℕ)) (c : Core) → Same c (wait_by i spot e vs x c)
wait_by_same i spot e vs (Some b) c = branch_same i b.0 b.1 e vs (thing c.cells b.1) c
wait_by_same i spot e vs None c = suspend_same i spot e vs _ c

wait_same : (i : ℕ) (spot : Spot) (x : Option Entry) (vs : List ValueTree) (c : Core) → Same c (wait i spot x vs c)
wait_same i spot None vs c = refl
wait_same i spot (Some e) vs c = wait_by_same i spot (at_spot spot e) vs _ c

push_same : (i : ℕ) (t : Option Task) (c : Core) → Same c (push_result i t c)
push_same i None c = refl
push_same i (Some t) c = refl

-- a reaction, with what it asks of the world
abbrev Grows : Core → Reaction → Type 0
Grows c x = x.0.requests ≡ c.requests ++ asked x.1

none_more : (ks js : List ℕ) → js ≡ ks → js ≡ ks ++ []
none_more ks js h = h ∙ sym (append-nil ks)

either : (b : Bool) (x y : Reaction) (c : Core) → Grows c x → Grows c y → Grows c (if b then x else y)
either true x y c h k = h
either false x y c h k = k

throws_grow : (c : Core) → c.requests ≡ c.requests ++ []
throws_grow c = sym (append-nil c.requests)

port_grows : (i : ℕ) (goal : Goal) (port : ℕ) (x : Option ℕ) (c : Core) → Grows c (open_port i goal port x c)
port_grows i goal port (Some k) c = throws_grow c
port_grows i goal port None c = none_more c.requests _ (push_same i (result_task i goal (RefValue kind.FutureStream (suc c.made)))
    (new_cell (Stream [] None None) (record c { ports = added c.ports port (suc c.made) })))

-- a new cell, with an open request
open_same : (i : ℕ) (goal : Goal) (c : Core) → (gives_open i goal c).requests ≡ c.requests ++ suc c.made ∷ []
open_same i goal c = push_same i (result_task i goal (RefValue kind.Future (suc c.made))) (new_cell (Single None []) (record c { requests = c.requests ++ suc c.made ∷ [] }))

new_same : (i : ℕ) (goal : Goal) (k : Kind) (cell : Cell) (c : Core) → Same c (gives_new i goal k cell c)
new_same i goal k cell c = push_same i (result_task i goal (RefValue k (suc c.made))) (new_cell cell c)

disk_grows : (i : ℕ) (goal : Goal) (x : Option (DiskCall ℕ)) (c : Core) → Grows c (ask_disk i goal x c)
disk_grows i goal None c = throws_grow c
disk_grows i goal (Some call) c = open_same i goal c

effect_grows : (s : Supply) (i : ℕ) (goal : Goal) (eff : Effect) (c : Core) → Grows c (effect s i goal eff c)
effect_grows s i goal (Make k) c = none_more c.requests _ (new_same i goal k (empty_cell k) c)
effect_grows s i goal (Start class args) c = throws_grow c
effect_grows s i goal (Draw lo hi) c = either (between (hi -ℤ lo) 1 (2 ^ 32)) _ _ c (none_more c.requests _ (push_same i (result_task i goal (IntValue (scaled lo (natural (hi -ℤ lo)) s.word))) c))
    (throws_grow c)
effect_grows s i goal (Delay ticks) c = either (nat_le (s.now + natural ticks) (2 ^ 62)) _ _ c (open_same i goal c) (throws_grow c)
effect_grows s i goal Never c = none_more c.requests _ (new_same i goal kind.Future (Single None []) c)
effect_grows s i goal (Listen port) c = either (is_port port) _ _ c (port_grows i goal (natural port) (thing c.ports (natural port)) c) (throws_grow c)
effect_grows s i goal (Disk call) c = disk_grows i goal (judged call) c

react_grows : (s : Supply) (i : ℕ) (act : Act) (c : Core) → Grows c (react s i act c)
react_grows s i Goes c = throws_grow c
react_grows s i Pass c = none_more c.requests _ (turn_same _ c (λ n. refl))
react_grows s i (Drops vs) c = throws_grow c
react_grows s i (Effects goal eff) c = effect_grows s i goal eff c
react_grows s i (Starts class args) c = throws_grow c
react_grows s i (Operand spot r) c = throws_grow c
react_grows s i (Waits spot vs) c = none_more c.requests _ (wait_same i spot (thing c.entries i) vs c)
react_grows s i (Sends k o) c = none_more c.requests _ (send_same (thing c.cells k) i k o c)
react_grows s i (Cancels k) c = none_more c.requests _ (owner_same (owner k c.entries) (pushed (Run i) c))
react_grows s i (Prints v) c = none_more c.requests _ (print_same i (print_line i v) c)
react_grows s i (SendsTo q port text) c = either (int_le (pos 0) q && nat_lt (natural q) s.processes && is_port port) _ _ c (throws_grow c) (throws_grow c)
react_grows s i (Returns v vs) c = throws_grow c
react_grows s i (Throws e) c = throws_grow c
react_grows s i RunsOut c = throws_grow c
react_grows s i Stuck c = throws_grow c

module _ {A : Type 0} (e : Engine A) (s : Supply) where
  abbrev StepGrows : Core → Stepped A → Type 0
  StepGrows c t = t.0.core.requests ≡ c.requests ++ asked t.1

  start_grows : (i : ℕ) (goal : Goal) (class : ℕ) (x : Option A) (p : Proc A) → StepGrows p.core (start e i goal class x p)
  start_grows i goal class None p = throws_grow p.core
  start_grows i goal class (Some a) p =
      let f : Core → Core = λ d. enrol class (e.label class) (push_result i (result_task i goal (RefValue kind.Future (suc d.made))) d) in
      none_more p.core.requests (turn p.core f).requests (turn_same f p.core (λ n. push_same i (result_task i goal (RefValue kind.Future (suc p.core.made))) (record p.core { left = n })))

  alone_grows : (i class : ℕ) (x : Option A) (p : Proc A) → StepGrows p.core (start_alone e i class x p)
  alone_grows i class None p = throws_grow p.core
  alone_grows i class (Some a) p =
      let f : Core → Core = λ d. enrol_with class (e.label class) None (pushed (Run i) d) in none_more p.core.requests (turn p.core f).requests (turn_same f p.core (λ n. refl))

  answer_grows : (i : ℕ) (act : Act) (p : Proc A) → StepGrows p.core (answer e s i act p)
  answer_grows i (Effects goal (Start class args)) p = start_grows i goal class (e.fresh class args) p
  answer_grows i (Effects goal eff) p = effect_grows s i goal eff p.core
  answer_grows i (Starts class args) p = alone_grows i class (e.fresh class args) p
  answer_grows i act p = react_grows s i act p.core

  next_grows : (i : ℕ) (ts : List Task) (x : Option Ask × A) (p : Proc A) → StepGrows p.core (run_next e s i ts x p)
  next_grows i ts (None, a) p = throws_grow p.core
  next_grows i ts (Some ask, a) p = answer_grows i ask.act (proc (record p.core { tasks = ts; left = ask.left }) (put p.actors i a))

  run_grows : (i : ℕ) (ts : List Task) (x : Option A) (p : Proc A) → StepGrows p.core (run e s i ts x p)
  run_grows i ts None p = throws_grow p.core
  run_grows i ts (Some a) p = next_grows i ts (e.next (view s i p.core) a) p

  give_grows : (i b : ℕ) (o : OutcomeTree) (x : Option A) (p : Proc A) → StepGrows p.core (steps.give e i b o x p)
  give_grows i b o None p = throws_grow p.core
  give_grows i b (BadOutcome err) (Some a) p = throws_grow p.core
  give_grows i b (GoodOutcome v) (Some a) p = throws_grow p.core

  store_grows : (i : ℕ) (v : ValueTree) (x : Option A) (p : Proc A) → StepGrows p.core (steps.store e i v x p)
  store_grows i v None p = throws_grow p.core
  store_grows i v (Some a) p = throws_grow p.core

  throw_core_same : (i err : ℕ) (x : Raised) (o : Option Entry) (c : Core) → Same c (throw_core i err x o c)
  throw_core_same i err x None c = refl
  throw_core_same i err x (Some en) c = refl

  throw_grows : (i err : ℕ) (x : Option A) (p : Proc A) → StepGrows p.core (steps.throw e i err x p)
  throw_grows i err None p = throws_grow p.core
  throw_grows i err (Some a) p = none_more p.core.requests (throw_core i err (e.raise err a).0 (thing p.core.entries i) p.core).requests
      (throw_core_same i err (e.raise err a).0 (thing p.core.entries i) p.core)

  leave_kept_same : (i b : ℕ) (v : OperandFate) (r : Ref) (en : Entry) (vs : List ValueTree) (c : Core) → Same c (leave_kept i b v r en vs c)
  leave_kept_same i b GoesOn r en vs c = refl
  leave_kept_same i b Cancelled r en vs c = refl
  leave_kept_same i b Ready r en vs c = branch_same i b r.1 en vs (thing c.cells r.1) c

  keep_by_grows : (i b : ℕ) (v : OperandFate) (r : Ref) (en : Entry) (a : A) (p : Proc A) → StepGrows p.core (keep_by e i b v r en a p)
  keep_by_grows i b GoesOn r en a p = throws_grow p.core
  keep_by_grows i b Cancelled r en a p = throws_grow p.core
  keep_by_grows i b Ready r en a p =
      let k = record p.core { tasks = below p.core.tasks } in
      none_more p.core.requests (leave_kept i b Ready r en (e.lose a).0 k).requests (leave_kept_same i b Ready r en (e.lose a).0 k)

  keep_grows : (i : ℕ) (spot : Spot) (r : Ref) (x : Option A) (o : Option Entry) (p : Proc A) → StepGrows p.core (keep e i spot r x o p)
  keep_grows i spot r (Some a) (Some en) p = keep_by_grows i (length en.operands) (verdict en.marked (is_ready_at (thing p.core.cells r.1))) r (with_operand spot r en) a p
  keep_grows i spot r None o p = throws_grow p.core
  keep_grows i spot r (Some a) None p = throws_grow p.core

  close_grows : (i : ℕ) (o : OutcomeTree) (x : Option Entry) (p : Proc A) → StepGrows p.core (close_actor e i o x p)
  close_grows i o None p = throws_grow p.core
  close_grows i o (Some en) p =
      let scan = scan_of e.occ (removed p.actors i) in
      let c = record p.core { entries = removed p.core.entries i } in
      let f : Core → Core = λ d. give_result scan en.result o (writes (end_line i o) d) in
      none_more p.core.requests (turn c f).requests (turn_same f c (λ n. result_same scan en.result o (writes (end_line i o) (record c { left = n }))))

  task_grows : (t : Task) (p : Proc A) → StepGrows p.core (do_task e s t p)
  task_grows (Run i) p = throws_grow p.core
  task_grows (Give i b o) p = give_grows i b o (thing p.actors i) p
  task_grows (Throw i err) p = throw_grows i err (thing p.actors i) p
  task_grows (Catch i err) p = throws_grow p.core
  task_grows (Store i v) p = store_grows i v (thing p.actors i) p
  task_grows (Keep i spot r) p = keep_grows i spot r (thing p.actors i) (thing p.core.entries i) p
  task_grows (Close i o) p = close_grows i o (thing p.core.entries i) p
  task_grows (Fire k) p = let scan = scanned e p in none_more p.core.requests (fire scan k p.core).requests (fire_cell_same scan k (thing p.core.cells k) p.core)
  task_grows (Drop kind k) p =
      let scan = scanned e p in
      let f : Core → Core = λ d. lose_ref scan (side_of kind) k d in
      none_more p.core.requests (turn p.core f).requests (turn_same f p.core (λ n. lose_same scan (side_of kind) k (record p.core { left = n })))

  abbrev MaybeGrows : Core → Option (Stepped A) → Type 0
  MaybeGrows c None = Unit {0}
  MaybeGrows c (Some t) = StepGrows c t

  tasks_grow : (ts : List Task) (p : Proc A) → MaybeGrows p.core (step_tasks e s ts p)
  tasks_grow [] p = tt
  tasks_grow (Run i ∷ ts) p = run_grows i ts (thing p.actors i) p
  tasks_grow (Give i b o ∷ ts) p = task_grows (Give i b o) (popped ts p)
  tasks_grow (Throw i err ∷ ts) p = task_grows (Throw i err) (popped ts p)
  tasks_grow (Catch i err ∷ ts) p = task_grows (Catch i err) (popped ts p)
  tasks_grow (Store i v ∷ ts) p = task_grows (Store i v) (popped ts p)
  tasks_grow (Keep i spot r ∷ ts) p = task_grows (Keep i spot r) (popped ts p)
  tasks_grow (Close i o ∷ ts) p = task_grows (Close i o) (popped ts p)
  tasks_grow (Fire k ∷ ts) p = task_grows (Fire k) (popped ts p)
  tasks_grow (Drop kind k ∷ ts) p = task_grows (Drop kind k) (popped ts p)

  if_grows : (x : Option Halt) (p : Proc A) → MaybeGrows p.core (step_if e s x p)
  if_grows (Some h) p = tt
  if_grows None p = tasks_grow p.core.tasks p

  pub step_grows : (p : Proc A) (t : Stepped A) → step e s p ≡ Some t → StepGrows p.core t
  step_grows p t q = subst (MaybeGrows p.core) q (if_grows p.core.halted p)
