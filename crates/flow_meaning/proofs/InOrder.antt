-- A process that is in order stays so, with actors of any kind.
use Rattle.std.proofs.Common.{◌≡◌, ℕ, Bool, true, false, List, [], ◌∷◌, length, refl, sym, ap, ◌∙◌, subst}
use Rattle.std.specs.declared.option.Option.{Option}
use Rattle.std.specs.declared.option.Option.TheVariants.{None, Some}
use Rattle.flow_value.specs.Values.{ValueTree, OutcomeTree, GoodOutcome, BadOutcome}
use Rattle.flow_numbered.specs.Numbered.{Numbered, thing, put, removed}
use Rattle.flow_meaning.specs.Cells.{Ref}
use Rattle.flow_meaning.specs.Requests.{Spot, Act, Effects, Effect, Start, Goal, Ask, Request, Supply, Starts}
use Rattle.flow_meaning.specs.Process.{Task, Run, Give, Throw, Catch, Store, Keep, Close, Fire, Drop, Entry, Halt, Core, Proc, Engine}
use Rattle.flow_meaning.specs.References.{scan_of}
use Rattle.flow_meaning.specs.Work.{pushed, is_ready_at}
use Rattle.flow_meaning.specs.Step.{Stepped, proc, view, start, answer_effect, answer, run_next, run, give, store, throw, OperandFate, GoesOn, Cancelled, Ready, verdict, with_operand, below, keep_by, keep, close_actor, step_tasks, step_if, step, start_alone}
use Rattle.flow_meaning.specs.Deliver.{begin, boot_core, stop, deliver, arrive}
use Rattle.flow_meaning.specs.Burst.{Host, Live, add_lines, serve, advanced, advance, Burst, rests}
use Rattle.flow_meaning.specs.Burst as burst
use Rattle.flow_meaning.specs.Orderly.{tasks_of, Proceeds, steps, stores, keeps, takes, throws, catches, ends, is_suspended, Stands, NextStep, Orderly, OrderlyUnlessStopped, UnlessStopped, Waiting, phase_of}
use Rattle.flow_meaning.specs.Law.{AtRest, KeepsOrder}
use Rattle.flow_meaning.proofs.Posture.{Unless, unless, unless_map, Awake, phase_waits}
use Rattle.flow_meaning.proofs.Shifts.{run_of, give_of, throw_of, catch_of, store_of, keep_of, close_of}
use Rattle.flow_meaning.proofs.TaskShifts.{next_below}
use Rattle.flow_meaning.proofs.Order.{Ordered, InHand, ordered, orderly}
use Rattle.flow_meaning.proofs.OrderWork.{dropping_ordered}
use Rattle.flow_meaning.proofs.OrderReact.{run_ordered, throw_ordered, react_ordered, start_ordered, void_ordered}
use Rattle.flow_meaning.proofs.OrderTasks.{drop_ordered, fire_ordered, popped_other, Taken, taken_at, in_hand, step_left, below_in_hand, kept_ordered, leave_kept_ordered, throw_core_ordered, handle_ordered, close_ordered, boot_ordered, stop_ordered, deliver_ordered, arrive_ordered}

module _ {A : Type 0} (e : Engine A) where
  abbrev Keeps : Stepped A → Type 0
  Keeps r = Unless Ordered r.0.core

  -- the tasks of an actor that is in hand
  give_keeps : (i b : ℕ) (o : OutcomeTree) (x : Option A) (k : Core) (xs : Numbered A) → InHand i k → Awake i k → Keeps (give e i b o x (proc k xs))
  give_keeps i b o None k xs h a = tt
  give_keeps i b (BadOutcome err) (Some x) k xs h a = unless k.halted (throw_ordered i err k h a)
  give_keeps i b (GoodOutcome v) (Some x) k xs h a = unless k.halted (dropping_ordered (e.take b v x).0 (pushed (Run i) k) (run_ordered i k h a))

  store_keeps : (i : ℕ) (v : ValueTree) (x : Option A) (k : Core) (xs : Numbered A) → Ordered k → Keeps (store e i v x (proc k xs))
  store_keeps i v None k xs o = tt
  store_keeps i v (Some x) k xs o = unless k.halted (dropping_ordered (e.store v x).0 k o)

  throw_keeps : (i err : ℕ) (x : Option A) (k : Core) (xs : Numbered A) → InHand i k → Keeps (throw e i err x (proc k xs))
  throw_keeps i err None k xs h = tt
  throw_keeps i err (Some x) k xs h = throw_core_ordered i err (e.raise err x).0 (thing k.entries i) k h refl

  keep_by_keeps : (i b : ℕ) (v : OperandFate) (spot : Spot) (r : Ref) (en : Entry) (x : A) (k : Core) (xs : Numbered A) → Ordered k → NextStep i k.tasks → thing k.entries i ≡ Some en
      → Keeps (keep_by e i b v r (with_operand spot r en) x (proc k xs))
  keep_by_keeps i b GoesOn spot r en x k xs o n at = unless k.halted (kept_ordered i spot r en k o at)
  keep_by_keeps i b Cancelled spot r en x k xs o n at =
      leave_kept_ordered i b Cancelled r (with_operand spot r en) en (e.lose x).0 (record k { tasks = below k.tasks }) (below_in_hand i k k.tasks o refl n) at cancels
    where
      cancels : Cancelled ≡ GoesOn → ⊥
      cancels q = cc
  keep_by_keeps i b Ready spot r en x k xs o n at =
      leave_kept_ordered i b Ready r (with_operand spot r en) en (e.lose x).0 (record k { tasks = below k.tasks }) (below_in_hand i k k.tasks o refl n) at readies
    where
      readies : Ready ≡ GoesOn → ⊥
      readies q = cc

  keep_keeps : (i : ℕ) (spot : Spot) (r : Ref) (x : Option A) (en : Option Entry) (k : Core) (xs : Numbered A) → Ordered k → NextStep i k.tasks → thing k.entries i ≡ en
      → Keeps (keep e i spot r x en (proc k xs))
  keep_keeps i spot r None None k xs o n at = tt
  keep_keeps i spot r None (Some en) k xs o n at = tt
  keep_keeps i spot r (Some x) None k xs o n at = tt
  keep_keeps i spot r (Some x) (Some en) k xs o n at = keep_by_keeps i (length en.operands) (verdict en.marked (is_ready_at (thing k.cells r.1))) spot r en x k xs o n at

  close_keeps : (i : ℕ) (o : OutcomeTree) (en : Option Entry) (k : Core) (xs : Numbered A) → InHand i k → Awake i k → Keeps (close_actor e i o en (proc k xs))
  close_keeps i o None k xs h a = tt
  close_keeps i o (Some en) k xs h a = close_ordered (scan_of e.occ (removed xs i)) i en.result o k h a

  -- the answer to an ask
  start_keeps : (i : ℕ) (goal : Goal) (class : ℕ) (x : Option A) (k : Core) (xs : Numbered A) → InHand i k → Awake i k → Keeps (start e i goal class x (proc k xs))
  start_keeps i goal class None k xs h a = tt
  start_keeps i goal class (Some x) k xs h a = start_ordered i goal class (e.label class) k h a

  effect_keeps : (s : Supply) (i : ℕ) (goal : Goal) (eff : Effect) (k : Core) (xs : Numbered A) → InHand i k → Awake i k → Keeps (answer_effect e s i goal eff (proc k xs))
  effect_keeps s i goal (Start class args) k xs h a = start_keeps i goal class (e.fresh class args) k xs h a
  effect_keeps s i goal eff k xs h a = react_ordered s i (Effects goal eff) k h a

  alone_keeps : (i class : ℕ) (x : Option A) (k : Core) (xs : Numbered A) → InHand i k → Awake i k → Keeps (start_alone e i class x (proc k xs))
  alone_keeps i class None k xs h a = tt
  alone_keeps i class (Some x) k xs h a = void_ordered i class (e.label class) k h a

  answer_keeps : (s : Supply) (i : ℕ) (act : Act) (k : Core) (xs : Numbered A) → InHand i k → Awake i k → Keeps (answer e s i act (proc k xs))
  answer_keeps s i (Effects goal eff) k xs h a = effect_keeps s i goal eff k xs h a
  answer_keeps s i (Starts class args) k xs h a = alone_keeps i class (e.fresh class args) k xs h a
  answer_keeps s i act k xs h a = react_ordered s i act k h a

  next_keeps : (s : Supply) (i : ℕ) (ts : List Task) (p : Option Ask × A) (c : Core) (xs : Numbered A) → Ordered c → Taken i (Run i) ts c → Keeps (run_next e s i ts p (proc c xs))
  next_keeps s i ts (None, a) c xs o h = unless c.halted o
  next_keeps s i ts (Some ask, a) c xs o h = answer_keeps s i ask.act (record c { tasks = ts; left = ask.left }) (put xs i a) (in_hand i ask.left (Run i) ts c o h h.rest) h.awake

  run_keeps : (s : Supply) (i : ℕ) (ts : List Task) (x : Option A) (c : Core) (xs : Numbered A) → Ordered c → Taken i (Run i) ts c → Keeps (run e s i ts x (proc c xs))
  run_keeps s i ts None c xs o h = tt
  run_keeps s i ts (Some a) c xs o h = next_keeps s i ts (e.next (view s i c) a) c xs o h

  -- a step
  abbrev KeepsMaybe : Option (Stepped A) → Type 0
  KeepsMaybe None = Unit {0}
  KeepsMaybe (Some r) = Keeps r

  tasks_keep : (s : Supply) (ts : List Task) (c : Core) (xs : Numbered A) → Ordered c → c.tasks ≡ ts → KeepsMaybe (step_tasks e s ts (proc c xs))
  tasks_keep s [] c xs o top = tt
  tasks_keep s (Run i ∷ ts) c xs o top = run_keeps s i ts (thing xs i) c xs o (taken_at i (Run i) ts c o top (run_of i))
  tasks_keep s (Give i b v ∷ ts) c xs o top =
      let h = taken_at i (Give i b v) ts c o top (give_of i b v) in
      give_keeps i b v (thing xs i) (record c { tasks = ts }) xs (in_hand i c.left (Give i b v) ts c o h h.rest) h.awake
  tasks_keep s (Throw i err ∷ ts) c xs o top =
      let h = taken_at i (Throw i err) ts c o top (throw_of i err) in
      throw_keeps i err (thing xs i) (record c { tasks = ts }) xs (in_hand i c.left (Throw i err) ts c o h h.rest)
  tasks_keep s (Catch i err ∷ ts) c xs o top =
      let h = taken_at i (Catch i err) ts c o top (catch_of i err) in
      unless c.halted (handle_ordered i err (record c { tasks = ts }) (in_hand i c.left (Catch i err) ts c o h h.rest) h.awake)
  tasks_keep s (Store i v ∷ ts) c xs o top =
      let h = taken_at i (Store i v) ts c o top (store_of i v) in
      store_keeps i v (thing xs i) (record c { tasks = ts }) xs (step_left i (Store i v) ts c o h h.rest)
  tasks_keep s (Keep i spot r ∷ ts) c xs o top =
      let h = taken_at i (Keep i spot r) ts c o top (keep_of i spot r) in
      keep_keeps i spot r (thing xs i) (thing c.entries i) (record c { tasks = ts }) xs (step_left i (Keep i spot r) ts c o h h.rest) (next_below i spot r c.tasks ts top o.1) refl
  tasks_keep s (Close i v ∷ ts) c xs o top =
      let h = taken_at i (Close i v) ts c o top (close_of i v) in
      close_keeps i v (thing c.entries i) (record c { tasks = ts }) xs (in_hand i c.left (Close i v) ts c o h h.rest) h.awake
  tasks_keep s (Fire n ∷ ts) c xs o top = fire_ordered (scan_of e.occ xs) n (record c { tasks = ts }) (popped_other c.left (Fire n) ts c o top (λ j. refl))
  tasks_keep s (Drop kd n ∷ ts) c xs o top = drop_ordered (scan_of e.occ xs) kd n (record c { tasks = ts }) (popped_other c.left (Drop kd n) ts c o top (λ j. refl))

  if_keeps : (s : Supply) (x : Option Halt) (c : Core) (xs : Numbered A) → UnlessStopped x (Ordered c) → KeepsMaybe (step_if e s x (proc c xs))
  if_keeps s (Some x) c xs o = tt
  if_keeps s None c xs o = tasks_keep s c.tasks c xs o refl

-- with the world around it
module _ {W A : Type 0} (e : Engine A) (h : Host W) where
  serve_keeps : (q : Option Request) (p : Proc A) (w : W) → Unless Ordered p.core → Unless Ordered (serve h q p w).proc.core
  serve_keeps None p w o = o
  serve_keeps (Some q) p w o = o

  abbrev KeepsLive : Option (Live W A) → Type 0
  KeepsLive None = Unit {0}
  KeepsLive (Some l) = Unless Ordered l.proc.core

  advanced_keeps : (w : W) (o : Option (Stepped A)) → KeepsMaybe e o → KeepsLive (advanced h w o)
  advanced_keeps w None k = tt
  advanced_keeps w (Some r) k = serve_keeps r.1 r.0 w k

  pub advance_in_order : (s l : Live W A) → OrderlyUnlessStopped s.proc.core → advance e h s ≡ Some l → OrderlyUnlessStopped l.proc.core
  advance_in_order s l o a =
      let k = advanced_keeps s.out (step e (h.supply s.out) s.proc) (if_keeps e (h.supply s.out) s.proc.core.halted s.proc.core s.proc.actors (unless_map s.proc.core.halted (ordered s.proc.core) o))
      in
      unless_map l.proc.core.halted (orderly l.proc.core) (subst KeepsLive a k)

-- what is delivered at the begin of an event
pub boot_in_order : (class : ℕ) (name : List ℕ) (c : Core) → Orderly c → OrderlyUnlessStopped (boot_core class name c)
boot_in_order class name c o = let d = boot_core class name c in unless_map d.halted (orderly d) (boot_ordered class name c (ordered c o))

pub deliver_in_order : (k : ℕ) (v : OutcomeTree) (c : Core) → Orderly c → OrderlyUnlessStopped (deliver k v c)
deliver_in_order k v c o = let d = deliver k v c in unless_map d.halted (orderly d) (deliver_ordered k v c (ordered c o))

pub arrive_in_order : (k : ℕ) (v : ValueTree) (c : Core) → Orderly c → OrderlyUnlessStopped (arrive k v c)
arrive_in_order k v c o = let d = arrive k v c in unless_map d.halted (orderly d) (arrive_ordered k v c (ordered c o))

pub begin_in_order : (turns : ℕ) (c : Core) → Orderly c → Orderly (begin turns c)
begin_in_order turns c o = orderly (begin turns c) (ordered c o)

pub stop_in_order : (c : Core) → Orderly c → Orderly (stop c)
stop_in_order c o = orderly (stop c) (stop_ordered c (ordered c o))

-- where nothing is left to do, every unfinished actor is suspended
pub no_thing : {X : Type 0} {x : X} → None ≡ Some x → ⊥
no_thing h = cc

all_suspended : (c : Core) → Orderly c → c.tasks ≡ [] → (i : ℕ) (e : Entry) → thing c.entries i ≡ Some e → e.suspended ≡ true
all_suspended c o t i e at = by_flag e.suspended (subst (λ x. Stands i (is_suspended x) (tasks_of i [])) at (subst (λ ts. Stands i (is_suspended (thing c.entries i)) (tasks_of i ts)) t (o.actors i)))
  where
    nothing_proceeds : (ts : List Task) → ts ≡ [] → Proceeds i ts → ⊥
    nothing_proceeds _ h steps = cc
    nothing_proceeds _ h stores = cc
    nothing_proceeds _ h keeps = cc
    nothing_proceeds _ h takes = cc
    nothing_proceeds _ h throws = cc
    nothing_proceeds _ h catches = cc
    nothing_proceeds _ h ends = cc

    by_flag : (b : Bool) → Stands i (Some b) [] → b ≡ true
    by_flag true h = refl
    by_flag false h = absurd (nothing_proceeds [] refl h)

rests_by : {A : Type 0} (e : Engine A) (s : Supply) (p : Proc A) (ts : List Task) → p.core.tasks ≡ ts → step_tasks e s ts p ≡ None → p.core.tasks ≡ []
rests_by e s p [] t h = t
rests_by e s p (Run i ∷ ts) t h = absurd (no_thing (sym h))
rests_by e s p (t ∷ ts) q h = absurd (no_thing (sym h))

rests_unless : {A : Type 0} (e : Engine A) (s : Supply) (p : Proc A) (x : Option Halt) → UnlessStopped x (Orderly p.core) → step_if e s x p ≡ None → UnlessStopped x (AtRest p.core)
rests_unless e s p (Some x) o h = tt
rests_unless e s p None o h =
    let t = rests_by e s p p.core.tasks refl h in
    record { orderly = o; no_tasks = t; suspended = all_suspended p.core o t }

no_advance : {W A : Type 0} (h : Host W) (w : W) (o : Option (Stepped A)) → advanced h w o ≡ None → o ≡ None
no_advance h w None k = refl
no_advance h w (Some r) k = absurd (no_thing (sym k))

pub burst_at_rest : {W A : Type 0} (e : Engine A) (h : Host W) (s t : Live W A) → OrderlyUnlessStopped s.proc.core → Burst e h s t → UnlessStopped t.proc.core.halted (AtRest t.proc.core)
burst_at_rest e h s t o (rests a) = rests_unless e (h.supply s.out) s.proc s.proc.core.halted o (no_advance h s.out (step e (h.supply s.out) s.proc) a)
burst_at_rest e h s t o (burst.steps r a b) = burst_at_rest e h r t (advance_in_order e h s r o a) b

pub keeps_order : {W A : Type 0} (e : Engine A) (h : Host W) → KeepsOrder e h
keeps_order e h s t o b = burst_at_rest e h s t (unless s.proc.core.halted o) b

-- so at rest every unfinished actor waits
pub waits_at_rest : (c : Core) (i : ℕ) (x : Entry) → AtRest c → thing c.entries i ≡ Some x → phase_of c i ≡ Waiting
waits_at_rest c i x r at = phase_waits i c (ap is_suspended at ∙ ap Some (r.suspended i x at))
