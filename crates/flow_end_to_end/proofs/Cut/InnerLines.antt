-- The lines of an event are an event line and then none at which an event begins or a run ends.
use Rattle.std.proofs.Common.{◌≡◌, ℕ, zero, suc, List, [], ◌∷◌, ◌++◌, refl}
use Rattle.std.specs.Prelude.{Bool, true, false, ◌+◌, ◌^◌, ◌-ℤ◌, pos, int_le, nat_le, nat_lt, ◌&&◌, if◌then◌else◌, length}
use Rattle.std.specs.List.{AllByRecursion}
use Rattle.std.specs.declared.option.Option.{Option}
use Rattle.std.specs.declared.option.Option.TheVariants.{None, Some}
use Rattle.flow_base.specs.ErrorNumbers.{bad_argument, out_of_range, broken_promise}
use Rattle.flow_value.specs.declared.value.Kind.{Kind}
use Rattle.flow_value.specs.declared.value.Kind.TheVariants as kind
use Rattle.flow_eval.specs.Predefined.{natural}
use Rattle.flow_value.specs.Values.{ValueTree, IntValue, BoolValue, TextValue, VoidValue, ErrorValue, RefValue, CompositeValue, OutcomeTree, GoodOutcome, BadOutcome}
use Rattle.flow_trace.specs.declared.line.Line.{Line}
use Rattle.flow_numbered.specs.Numbered.{thing, added, put, removed}
use Rattle.flow_meaning.specs.Cells.{side_of, Side, FutureSide, PromiseSide, Single, Stream, Ref, Waiter, Cell, is_complete, is_ready, waiters, taken, after_taking}
use Rattle.flow_meaning.specs.Requests.{Spot, Act, Goes, Pass, Drops, Effects, Starts, Operand, Waits, Sends, Cancels, Prints, SendsTo, Returns, Throws, RunsOut, Stuck, Supply, Effect, Make, Start, Draw, Delay, Never, Listen, Disk, Goal, Ask, Drew, Timer, Packet, DiskCall}
use Rattle.flow_meaning.specs.Process.{Task, Run, Give, Throw, Catch, Store, Keep, Close, Fire, Drop, Entry, Core, Proc, Raised, Engine}
use Rattle.flow_meaning.specs.Lines.{take_line, cancel_line, broken_line, end_line, wait_line, print_line, throw_line, catch_line, start_line}
use Rattle.flow_meaning.specs.References.{Scan, scan_of, reference_count}
use Rattle.flow_meaning.specs.Work.{is_ready_at, turn, turn_of, writes, pushed, new_cell, fill, fill_cell, free, free_cell, give, take_branch, first_ready, Registration, Registered, Refused, Missing, register, owner, cancel, cancel_by, cancel_owner}
use Rattle.flow_meaning.specs.Dropping.{Loss, Kept, Freed, Broken, Orphan, Unheard, loss, port_of, suffer, lose_cell, lose_ref, drop, fire_to, fire_at, fire_cell, set_result, give_result, close}
use Rattle.flow_meaning.specs.Effects.{Reaction, throws, result_task, push_result, gives, gives_new, gives_open, empty_cell, between, is_port, judged, effect, open_port, ask_disk, scaled}
use Rattle.flow_meaning.specs.React.{send_by, send_in, print, suspend, at_spot, wait_by, wait, react}
use Rattle.flow_meaning.specs.Step as step
use Rattle.flow_meaning.specs.Step.{proc, Stepped, silent, enrol_with, enrol, start_core, start_void, start, start_alone, answer, answer_effect, reacted, run_next, run, replaced, store, fate, throw_core, throw_with, throw, OperandFate, GoesOn, Cancelled, Ready, verdict, with_operand, leave_kept, lost, keep_by, keep, handle, close_actor, scanned, popped, do_task, step_tasks, step_if}
use Rattle.flow_monitor.specs.Cut.{is_boundary}

-- none of these begins an event or ends a run
abbrev pub AllInner : List Line → Type 0
AllInner = AllByRecursion (λ l. is_boundary l ≡ false)

pub inner_more : (ls ms : List Line) → AllInner ls → AllInner ms → AllInner (ls ++ ms)
inner_more [] ms h k = k
inner_more (l ∷ ls) ms h k = (h.0, inner_more ls ms h.1 k)

-- what is done with a process adds inner lines alone
abbrev pub Inner : Core → Type 0
Inner c = AllInner c.lines

abbrev pub Adds : (Core → Core) → Type 0
Adds f = (c : Core) → Inner c → Inner (f c)

by_turn : (f : Core → Core) → Adds f → (left : ℕ) → Adds (λ c. turn_of left c f)
by_turn f k zero c h = h
by_turn f k (suc n) c h = k (record c { left = n }) h

pub after_turn : (f : Core → Core) → Adds f → Adds (λ c. turn c f)
after_turn f k c h = by_turn f k c.left c h

written : (l : Line) → is_boundary l ≡ false → Adds (writes l)
written l e c h = inner_more c.lines (l ∷ []) h (e, tt)

cell_filled : (k : ℕ) (o : OutcomeTree) (x : Option Cell) → Adds (fill_cell k o x)
cell_filled k o None c h = h
cell_filled k o (Some cell) c h = h

pub filled : (k : ℕ) (o : OutcomeTree) → Adds (fill k o)
filled k o c h = cell_filled k o (thing c.cells k) c h

cell_freed : (k : ℕ) (x : Option Cell) → Adds (free_cell k x)
cell_freed k None c h = h
cell_freed k (Some cell) c h = h

freed : (k : ℕ) → Adds (free k)
freed k c h = cell_freed k (thing c.cells k) c h

given : (i b : ℕ) (e : Entry) (vs : List ValueTree) (o : Option OutcomeTree) → Adds (give i b e vs o)
given i b e vs None c h = h
given i b e vs (Some o) c h = h

branch_taken : (i b k : ℕ) (e : Entry) (vs : List ValueTree) (x : Option Cell) → Adds (take_branch i b k e vs x)
branch_taken i b k e vs None c h = h
branch_taken i b k e vs (Some cell) c h =
    after_turn (λ d. give i b e vs (taken cell) (record (writes (take_line i e.spot.group b) d) { cells = put d.cells k (after_taking cell) }))
    (λ d g. given i b e vs (taken cell) (record (writes (take_line i e.spot.group b) d) { cells = put d.cells k (after_taking cell) })
    (written (take_line i e.spot.group b) refl d g)) c h

cancelled_by : (s : Bool) (i : ℕ) (e : Entry) → Adds (cancel_by s i e)
cancelled_by true i e c h = h
cancelled_by false i e c h = h

cancelled : (i : ℕ) (e : Entry) → Adds (cancel i e)
cancelled i e c h = cancelled_by e.suspended i e (writes (cancel_line i) c) (written (cancel_line i) refl c h)

owner_cancelled : (o : Option (ℕ × Entry)) → Adds (cancel_owner o)
owner_cancelled None c h = h
owner_cancelled (Some o) c h = cancelled o.0 o.1 c h

suffered : (k : ℕ) (l : Loss) → Adds (suffer k l)
suffered k Kept c h = h
suffered k Freed c h = freed k c h
suffered k Broken c h =
    after_turn (λ d. fill k (BadOutcome broken_promise) (writes (broken_line k) d))
    (λ d g. filled k (BadOutcome broken_promise) (writes (broken_line k) d) (written (broken_line k) refl d g)) c h
suffered k (Orphan i e) c h = cancelled i e c h
suffered k (Unheard port) c h = freed k (record c { ports = removed c.ports port }) h

cell_lost : (scan : Scan) (s : Side) (k : ℕ) (x : Option Cell) → Adds (lose_cell scan s k x)
cell_lost scan s k None c h = h
cell_lost scan s k (Some cell) c h =
    suffered k (loss s (reference_count scan PromiseSide k c) (reference_count scan FutureSide k c) cell (owner k c.entries) (port_of k c.ports)) c h

ref_lost : (scan : Scan) (s : Side) (k : ℕ) → Adds (lose_ref scan s k)
ref_lost scan s k c h = cell_lost scan s k (thing c.cells k) c h

dropped : (scan : Scan) (kind : Kind) (k : ℕ) → Adds (drop scan kind k)
dropped scan kind k c h = after_turn (λ d. lose_ref scan (side_of kind) k d) (ref_lost scan (side_of kind) k) c h

fired_to : (k : ℕ) (cell : Cell) (w : Waiter) (x : Option Entry) → Adds (fire_to k cell w x)
fired_to k cell w None c h = h
fired_to k cell w (Some e) c h = branch_taken w.actor w.branch k e [] (Some cell) (pushed (Fire k) c) h

fired_at : (scan : Scan) (k : ℕ) (cell : Cell) (ready : Bool) (ws : List Waiter) → Adds (fire_at scan k cell ready ws)
fired_at scan k cell ready [] c h = ref_lost scan FutureSide k c h
fired_at scan k cell false (w ∷ ws) c h = ref_lost scan FutureSide k c h
fired_at scan k cell true (w ∷ ws) c h = fired_to k cell w (thing c.entries w.actor) c h

cell_fired : (scan : Scan) (k : ℕ) (x : Option Cell) → Adds (fire_cell scan k x)
cell_fired scan k None c h = h
cell_fired scan k (Some cell) c h = fired_at scan k cell (is_ready cell) (waiters cell) c h

result_set : (k : ℕ) (o : OutcomeTree) (n : ℕ) → Adds (set_result k o n)
result_set k o zero c h = h
result_set k o (suc n) c h = after_turn (λ d. fill k o d) (filled k o) c h

result_given : (scan : Scan) (r : Option ℕ) (o : OutcomeTree) → Adds (give_result scan r o)
result_given scan None o c h = h
result_given scan (Some k) o c h = result_set k o (reference_count scan FutureSide k c) c h

end_inner : (i : ℕ) (o : OutcomeTree) → is_boundary (end_line i o) ≡ false
end_inner i (GoodOutcome v) = refl
end_inner i (BadOutcome e) = refl

closed : (scan : Scan) (i : ℕ) (r : Option ℕ) (o : OutcomeTree) → Adds (close scan i r o)
closed scan i r o c h =
    after_turn (λ d. give_result scan r o (writes (end_line i o) d))
    (λ d g. result_given scan r o (writes (end_line i o) d) (written (end_line i o) (end_inner i o) d g)) (record c { entries = removed c.entries i }) h

-- asks
sent_by : (complete : Bool) (i k : ℕ) (o : OutcomeTree) → Adds (send_by complete i k o)
sent_by true i k o c h = h
sent_by false i k o c h = after_turn (λ d. fill k o (pushed (Run i) d)) (λ d g. filled k o (pushed (Run i) d) g) c h

sent : (x : Option Cell) (i k : ℕ) (o : OutcomeTree) → Adds (send_in x i k o)
sent None i k o c h = h
sent (Some cell) i k o c h = sent_by (is_complete cell) i k o c h

printed : (i : ℕ) (v : ValueTree) → Adds (print i (print_line i v))
printed i (IntValue n) c h = written _ refl c h
printed i (BoolValue b) c h = written _ refl c h
printed i (TextValue t) c h = written _ refl c h
printed i VoidValue c h = h
printed i (ErrorValue e) c h = h
printed i (RefValue k n) c h = h
printed i (CompositeValue r vs) c h = h

suspended : (i : ℕ) (spot : Spot) (e : Entry) (vs : List ValueTree) (r : Registration) → Adds (suspend i spot e vs r)
suspended i spot e vs Missing c h = h
suspended i spot e vs Refused c h = h
suspended i spot e vs (Registered cells) c h = written (wait_line i spot.group) refl c h

waited_by : (i : ℕ) (spot : Spot) (e : Entry) (vs : List ValueTree) (x : Option (ℕ × ℕ)) → Adds (wait_by i spot e vs x)
waited_by i spot e vs (Some b) c h = branch_taken i b.0 b.1 e vs (thing c.cells b.1) c h
waited_by i spot e vs None c h = suspended i spot e vs (register i 0 e.operands (Registered c.cells)) c h

waited : (i : ℕ) (spot : Spot) (x : Option Entry) (vs : List ValueTree) → Adds (wait i spot x vs)
waited i spot None vs c h = h
waited i spot (Some e) vs c h = waited_by i spot (at_spot spot e) vs (first_ready c.cells 0 e.operands) c h

result_pushed : (i : ℕ) (t : Option Task) → Adds (push_result i t)
result_pushed i None c h = h
result_pushed i (Some t) c h = h

-- what a process does for an ask
abbrev AddsTo : (Core → Reaction) → Type 0
AddsTo f = (c : Core) → Inner c → Inner (f c).0

if_asked : (b : Bool) (r q : Reaction) → Inner r.0 → Inner q.0 → Inner (if b then r else q).0
if_asked true r q h k = h
if_asked false r q h k = k

goal_given : (i : ℕ) (g : Goal) (v : ValueTree) → Adds (gives i g v)
goal_given i g v c h = result_pushed i (result_task i g v) c h

new_given : (i : ℕ) (g : Goal) (k : Kind) (x : Cell) → Adds (gives_new i g k x)
new_given i g k x c h = goal_given i g (RefValue k (suc c.made)) (new_cell x c) h

open_given : (i : ℕ) (g : Goal) → Adds (gives_open i g)
open_given i g c h = new_given i g kind.Future (Single None []) (record c { requests = c.requests ++ suc c.made ∷ [] }) h

port_opened : (i : ℕ) (g : Goal) (port : ℕ) (x : Option ℕ) → AddsTo (open_port i g port x)
port_opened i g port (Some cell) c h = h
port_opened i g port None c h = new_given i g kind.FutureStream (Stream [] None None) (record c { ports = added c.ports port (suc c.made) }) h

disk_asked : (i : ℕ) (g : Goal) (x : Option (DiskCall ℕ)) → AddsTo (ask_disk i g x)
disk_asked i g None c h = h
disk_asked i g (Some call) c h = open_given i g c h

effected : (s : Supply) (i : ℕ) (g : Goal) (f : Effect) → AddsTo (effect s i g f)
effected s i g (Make k) c h = new_given i g k (empty_cell k) c h
effected s i g (Start class args) c h = h
effected s i g (Draw lo hi) c h =
    if_asked (between (hi -ℤ lo) 1 (2 ^ 32)) (gives i g (IntValue (scaled lo (natural (hi -ℤ lo)) s.word)) c, Some (Drew (natural (hi -ℤ lo)))) (throws i bad_argument c)
    (goal_given i g (IntValue (scaled lo (natural (hi -ℤ lo)) s.word)) c h) h
effected s i g (Delay ticks) c h =
    let time = s.now + natural ticks in
    if_asked (nat_le time (2 ^ 62)) (gives_open i g c, Some (Timer (suc c.made) time)) (throws i out_of_range c) (open_given i g c h) h
effected s i g Never c h = new_given i g kind.Future (Single None []) c h
effected s i g (Listen port) c h =
    if_asked (is_port port) (open_port i g (natural port) (thing c.ports (natural port)) c) (throws i bad_argument c)
    (port_opened i g (natural port) (thing c.ports (natural port)) c h) h
effected s i g (Disk call) c h = disk_asked i g (judged call) c h

answered : (s : Supply) (i : ℕ) (a : Act) → AddsTo (react s i a)
answered s i Goes c h = h
answered s i Pass c h = after_turn (λ d. pushed (Run i) d) (λ d g. g) c h
answered s i (Drops vs) c h = h
answered s i (Effects goal f) c h = effected s i goal f c h
answered s i (Starts class args) c h = h
answered s i (Operand spot r) c h = h
answered s i (Waits spot vs) c h = waited i spot (thing c.entries i) vs c h
answered s i (Sends k o) c h = sent (thing c.cells k) i k o c h
answered s i (Cancels k) c h = owner_cancelled (owner k c.entries) (pushed (Run i) c) h
answered s i (Prints v) c h = printed i v c h
answered s i (SendsTo q port text) c h =
    if_asked (int_le (pos 0) q && nat_lt (natural q) s.processes && is_port port) (pushed (Run i) c, Some (Packet (natural q) (natural port) text))
    (throws i bad_argument c) h h
answered s i (Returns v vs) c h = h
answered s i (Throws e) c h = h
answered s i RunsOut c h = h
answered s i Stuck c h = h

enrolled_with : (class : ℕ) (name : List ℕ) (r : Option ℕ) → Adds (enrol_with class name r)
enrolled_with class name r c h = written (start_line (suc c.started) name) refl c h

pub enrolled : (class : ℕ) (name : List ℕ) → Adds (enrol class name)
enrolled class name c h = enrolled_with class name (Some (suc c.made)) (new_cell (Single None []) c) h

started : (i : ℕ) (g : Goal) (class : ℕ) (name : List ℕ) → Adds (start_core i g class name)
started i g class name c h =
    after_turn (λ d. enrol class name (push_result i (result_task i g (RefValue kind.Future (suc d.made))) d))
    (λ d k. let t = result_task i g (RefValue kind.Future (suc d.made)) in enrolled class name (push_result i t d) (result_pushed i t d k)) c h

started_alone : (i class : ℕ) (name : List ℕ) → Adds (start_void i class name)
started_alone i class name c h =
    after_turn (λ d. enrol_with class name None (pushed (Run i) d)) (λ d k. enrolled_with class name None (pushed (Run i) d) k) c h

thrown : (i err : ℕ) (r : Raised) (x : Option Entry) → Adds (throw_core i err r x)
thrown i err r None c h = h
thrown i err r (Some e) c h = written (throw_line i err) refl c h

kept_left : (i b : ℕ) (v : OperandFate) (r : Ref) (en : Entry) (vs : List ValueTree) → Adds (leave_kept i b v r en vs)
kept_left i b GoesOn r en vs c h = h
kept_left i b Cancelled r en vs c h = h
kept_left i b Ready r en vs c h = branch_taken i b r.1 en vs (thing c.cells r.1) c h

-- each step of a process adds inner lines alone
module _ {A : Type 0} (e : Engine A) (s : Supply) where
  abbrev StepAdds : Proc A → Stepped A → Type 0
  StepAdds p r = Inner p.core → Inner r.0.core

  begun : (i : ℕ) (g : Goal) (class : ℕ) (x : Option A) (p : Proc A) → StepAdds p (start e i g class x p)
  begun i g class None p h = h
  begun i g class (Some a) p h = started i g class (e.label class) p.core h

  begun_alone : (i class : ℕ) (x : Option A) (p : Proc A) → StepAdds p (start_alone e i class x p)
  begun_alone i class None p h = h
  begun_alone i class (Some a) p h = started_alone i class (e.label class) p.core h

  effect_answered : (i : ℕ) (g : Goal) (f : Effect) (p : Proc A) → StepAdds p (answer_effect e s i g f p)
  effect_answered i g (Start class args) p h = begun i g class (e.fresh class args) p h
  effect_answered i g (Make kind) p h = effected s i g (Make kind) p.core h
  effect_answered i g (Draw lo hi) p h = effected s i g (Draw lo hi) p.core h
  effect_answered i g (Delay t) p h = effected s i g (Delay t) p.core h
  effect_answered i g Never p h = effected s i g Never p.core h
  effect_answered i g (Listen port) p h = effected s i g (Listen port) p.core h
  effect_answered i g (Disk call) p h = effected s i g (Disk call) p.core h

  act_answered : (i : ℕ) (a : Act) (p : Proc A) → StepAdds p (answer e s i a p)
  act_answered i (Effects g f) p h = effect_answered i g f p h
  act_answered i (Starts class args) p h = begun_alone i class (e.fresh class args) p h
  act_answered i Goes p h = answered s i Goes p.core h
  act_answered i Pass p h = answered s i Pass p.core h
  act_answered i (Drops vs) p h = answered s i (Drops vs) p.core h
  act_answered i (Operand spot r) p h = answered s i (Operand spot r) p.core h
  act_answered i (Waits spot vs) p h = answered s i (Waits spot vs) p.core h
  act_answered i (Sends k o) p h = answered s i (Sends k o) p.core h
  act_answered i (Cancels k) p h = answered s i (Cancels k) p.core h
  act_answered i (Prints v) p h = answered s i (Prints v) p.core h
  act_answered i (SendsTo q port t) p h = answered s i (SendsTo q port t) p.core h
  act_answered i (Returns v vs) p h = answered s i (Returns v vs) p.core h
  act_answered i (Throws n) p h = answered s i (Throws n) p.core h
  act_answered i RunsOut p h = answered s i RunsOut p.core h
  act_answered i Stuck p h = answered s i Stuck p.core h

  next_ran : (i : ℕ) (ts : List Task) (r : Option Ask × A) (p : Proc A) → StepAdds p (run_next e s i ts r p)
  next_ran i ts (None, a) p h = h
  next_ran i ts (Some ask, a) p h = act_answered i ask.act (proc (record p.core { tasks = ts; left = ask.left }) (put p.actors i a)) h

  pub ran : (i : ℕ) (ts : List Task) (x : Option A) (p : Proc A) → StepAdds p (run e s i ts x p)
  ran i ts None p h = h
  ran i ts (Some a) p h = next_ran i ts (e.next (step.view s i p.core) a) p h

  value_given : (i b : ℕ) (o : OutcomeTree) (x : Option A) (p : Proc A) → StepAdds p (step.give e i b o x p)
  value_given i b o None p h = h
  value_given i b (BadOutcome err) (Some a) p h = h
  value_given i b (GoodOutcome v) (Some a) p h = h

  stored : (i : ℕ) (v : ValueTree) (x : Option A) (p : Proc A) → StepAdds p (store e i v x p)
  stored i v None p h = h
  stored i v (Some a) p h = h

  error_thrown : (i err : ℕ) (x : Option A) (p : Proc A) → StepAdds p (throw e i err x p)
  error_thrown i err None p h = h
  error_thrown i err (Some a) p h = thrown i err (e.raise err a).0 (thing p.core.entries i) p.core h

  kept_by : (i b : ℕ) (v : OperandFate) (r : Ref) (en : Entry) (a : A) (p : Proc A) → StepAdds p (keep_by e i b v r en a p)
  kept_by i b GoesOn r en a p h = h
  kept_by i b Cancelled r en a p h = kept_left i b Cancelled r en (e.lose a).0 (record p.core { tasks = step.below p.core.tasks }) h
  kept_by i b Ready r en a p h = kept_left i b Ready r en (e.lose a).0 (record p.core { tasks = step.below p.core.tasks }) h

  operand_kept : (i : ℕ) (spot : Spot) (r : Ref) (x : Option A) (y : Option Entry) (p : Proc A) → StepAdds p (keep e i spot r x y p)
  operand_kept i spot r None None p h = h
  operand_kept i spot r None (Some en) p h = h
  operand_kept i spot r (Some a) None p h = h
  operand_kept i spot r (Some a) (Some en) p h = kept_by i (length en.operands) (verdict en.marked (is_ready_at (thing p.core.cells r.1))) r (with_operand spot r en) a p h

  actor_closed : (i : ℕ) (o : OutcomeTree) (y : Option Entry) (p : Proc A) → StepAdds p (close_actor e i o y p)
  actor_closed i o None p h = h
  actor_closed i o (Some en) p h = closed (scan_of e.occ (removed p.actors i)) i en.result o p.core h

  pub task_done : (t : Task) (p : Proc A) → StepAdds p (do_task e s t p)
  task_done (Run i) p h = h
  task_done (Give i b o) p h = value_given i b o (thing p.actors i) p h
  task_done (Throw i err) p h = error_thrown i err (thing p.actors i) p h
  task_done (Catch i err) p h = written (catch_line i err) refl p.core h
  task_done (Store i v) p h = stored i v (thing p.actors i) p h
  task_done (Keep i spot r) p h = operand_kept i spot r (thing p.actors i) (thing p.core.entries i) p h
  task_done (Close i o) p h = actor_closed i o (thing p.core.entries i) p h
  task_done (Fire k) p h = cell_fired (scanned e p) k (thing p.core.cells k) p.core h
  task_done (Drop kind k) p h = dropped (scanned e p) kind k p.core h
