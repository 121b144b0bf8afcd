-- Lines only grow: those of a burst start with those of any state of it.
use Rattle.std.proofs.Common.{◌≡◌, ℕ, suc, List, [], ◌∷◌, refl, sym, ◌∙◌, subst}
use Rattle.std.specs.Prelude.{length}
use Rattle.std.specs.declared.option.Option.{Option}
use Rattle.std.specs.declared.option.Option.TheVariants.{None, Some}
use Rattle.flow_base.specs.ErrorNumbers.{operation_cancelled}
use Rattle.flow_value.specs.declared.value.Kind.TheVariants as kind
use Rattle.flow_value.specs.Values.{ValueTree, RefValue, OutcomeTree, GoodOutcome, BadOutcome}
use Rattle.flow_numbered.specs.Numbered.{Numbered, thing, put, removed}
use Rattle.flow_meaning.specs.Cells.{Ref}
use Rattle.flow_meaning.specs.Requests.{Spot, Act, Goes, Pass, Drops, Effects, Operand, Waits, Sends, Cancels, Prints, SendsTo, Returns, Throws, RunsOut, Stuck, Effect, Make, Start, Draw, Delay, Never, Listen, Disk, Goal, Ask, Request, Supply}
use Rattle.flow_meaning.specs.Requests as requests
use Rattle.flow_meaning.specs.Process.{Task, Run, Give, Throw, Catch, Store, Keep, Close, Fire, Drop, Entry, Halt, NoMeaning, Core, Proc, Raised, Engine}
use Rattle.flow_meaning.specs.Lines.{start_line, throw_line, catch_line}
use Rattle.flow_meaning.specs.References.{scan_of, refs_in}
use Rattle.flow_meaning.specs.Work.{writes, pushed, leave_for, take_branch, is_ready_at}
use Rattle.flow_meaning.specs.Effects.{result_task, push_result}
use Rattle.flow_meaning.specs.Step.{proc, Stepped, stuck, view, enrol_with, enrol, start_core, start_void, start, start_alone, answer_effect, answer, run_next, run, replaced, give, store, fate, throw_core, throw, OperandFate, GoesOn, Cancelled, Ready, verdict, with_operand, below, leave_kept, lost, keep_by, keep, handle, close_actor, step_tasks, step_if, step}
use Rattle.flow_meaning.specs.Burst.{Host, Live, serve, advanced, advance, Burst, rests, steps}
use Rattle.flow_meaning.specs.Turns.{Starts}
use Rattle.flow_meaning.proofs.More.{starts_same, starts_on, Fair, Even, fair, after_turn, then_even, own_fair, same_even, halt_even, writes_even, pushed_even, dropping_even, leave_for_even, take_branch_fair, drop_fair, fire_fair, close_fair}
use Rattle.flow_meaning.proofs.MoreReact.{push_result_even, react_fair}
use Rattle.flow_progress.specs.Ending.{Reaches, here, onward}

enrol_even : (class : ℕ) (name : List ℕ) → Even (enrol class name)
enrol_even class name = record { even = λ k c. refl; adds = λ c. (start_line (suc c.started) name ∷ [], refl) }

alone_even : (class : ℕ) (name : List ℕ) (r : Option ℕ) → Even (enrol_with class name r)
alone_even class name r = record { even = λ k c. refl; adds = λ c. (start_line (suc c.started) name ∷ [], refl) }

void_fair : (i class : ℕ) (name : List ℕ) → Fair (start_void i class name)
void_fair i class name =
    after_turn (λ d. enrol_with class name None (pushed (Run i) d)) (fair _ (then_even (pushed (Run i)) (enrol_with class name None) (pushed_even (Run i)) (alone_even class name None)))

start_fair : (i : ℕ) (g : Goal) (class : ℕ) (name : List ℕ) → Fair (start_core i g class name)
start_fair i g class name =
    after_turn (λ d. enrol class name (push_result i (result_task i g (RefValue kind.Future (suc d.made))) d))
    (own_fair (λ n d. enrol class name (push_result i (result_task i g (RefValue kind.Future (suc n))) d)) (λ d. d.made) (λ k c. refl)
    (λ n. fair _ (then_even (push_result i (result_task i g (RefValue kind.Future (suc n)))) (enrol class name) (push_result_even i _) (enrol_even class name))))

throw_even : (i err : ℕ) (r : Raised) (x : Option Entry) → Even (throw_core i err r x)
throw_even i err r None = halt_even NoMeaning
throw_even i err r (Some e) = then_even (writes (throw_line i err)) (leave_for i e r.values (fate i err r.caught)) (writes_even (throw_line i err)) (leave_for_even i e r.values (fate i err r.caught))

leave_kept_fair : (i b : ℕ) (v : OperandFate) (r : Ref) (en : Entry) (vs : List ValueTree) → Fair (leave_kept i b v r en vs)
leave_kept_fair i b GoesOn r en vs = fair _ same_even
leave_kept_fair i b Cancelled r en vs = fair _ (leave_for_even i en vs (Throw i operation_cancelled))
leave_kept_fair i b Ready r en vs = own_fair (take_branch i b r.1 en vs) (λ c. thing c.cells r.1) (λ k c. refl) (take_branch_fair i b r.1 en vs)

handle_even : (i err : ℕ) → Even (handle i err)
handle_even i err = then_even (writes (catch_line i err)) (pushed (Run i)) (writes_even (catch_line i err)) (pushed_even (Run i))

module _ {A : Type 0} where
  -- a step of a process that has these actors writes some lines behind those of before, or none
  abbrev Grows : (Core → Stepped A) → Type 0
  Grows f = (c : Core) → Starts c.lines (f c).0.core.lines

  stuck_grows : (xs : Numbered A) → Grows (λ c. stuck (proc c xs))
  stuck_grows xs c = (halt_even NoMeaning).adds c

  start_grows : (e : Engine A) (i : ℕ) (g : Goal) (class : ℕ) (o : Option A) (xs : Numbered A) → Grows (λ c. start e i g class o (proc c xs))
  start_grows e i g class None xs c = stuck_grows xs c
  start_grows e i g class (Some a) xs c = (start_fair i g class (e.label class)).grows c

  alone_grows : (e : Engine A) (i class : ℕ) (o : Option A) (xs : Numbered A) → Grows (λ c. start_alone e i class o (proc c xs))
  alone_grows e i class None xs c = stuck_grows xs c
  alone_grows e i class (Some a) xs c = (void_fair i class (e.label class)).grows c

  effect_grows : (e : Engine A) (s : Supply) (i : ℕ) (g : Goal) (f : Effect) (xs : Numbered A) → Grows (λ c. answer_effect e s i g f (proc c xs))
  effect_grows e s i g (Start class args) xs c = start_grows e i g class (e.fresh class args) xs c
  effect_grows e s i g (Make kd) xs c = (react_fair s i (Effects g (Make kd))).grows c
  effect_grows e s i g (Draw lo hi) xs c = (react_fair s i (Effects g (Draw lo hi))).grows c
  effect_grows e s i g (Delay t) xs c = (react_fair s i (Effects g (Delay t))).grows c
  effect_grows e s i g Never xs c = (react_fair s i (Effects g Never)).grows c
  effect_grows e s i g (Listen p) xs c = (react_fair s i (Effects g (Listen p))).grows c
  effect_grows e s i g (Disk call) xs c = (react_fair s i (Effects g (Disk call))).grows c

  answer_grows : (e : Engine A) (s : Supply) (i : ℕ) (a : Act) (xs : Numbered A) → Grows (λ c. answer e s i a (proc c xs))
  answer_grows e s i (Effects g f) xs c = effect_grows e s i g f xs c
  answer_grows e s i (requests.Starts class args) xs c = alone_grows e i class (e.fresh class args) xs c
  answer_grows e s i Goes xs c = (react_fair s i Goes).grows c
  answer_grows e s i Pass xs c = (react_fair s i Pass).grows c
  answer_grows e s i (Drops vs) xs c = (react_fair s i (Drops vs)).grows c
  answer_grows e s i (Operand p r) xs c = (react_fair s i (Operand p r)).grows c
  answer_grows e s i (Waits p vs) xs c = (react_fair s i (Waits p vs)).grows c
  answer_grows e s i (Sends k o) xs c = (react_fair s i (Sends k o)).grows c
  answer_grows e s i (Cancels k) xs c = (react_fair s i (Cancels k)).grows c
  answer_grows e s i (Prints v) xs c = (react_fair s i (Prints v)).grows c
  answer_grows e s i (SendsTo q p t) xs c = (react_fair s i (SendsTo q p t)).grows c
  answer_grows e s i (Returns v vs) xs c = (react_fair s i (Returns v vs)).grows c
  answer_grows e s i (Throws n) xs c = (react_fair s i (Throws n)).grows c
  answer_grows e s i RunsOut xs c = (react_fair s i RunsOut).grows c
  answer_grows e s i Stuck xs c = (react_fair s i Stuck).grows c

  next_grows : (e : Engine A) (s : Supply) (i : ℕ) (ts : List Task) (r : Option Ask × A) (c : Core) (xs : Numbered A) → Starts c.lines (run_next e s i ts r (proc c xs)).0.core.lines
  next_grows e s i ts (None, a) c xs = starts_same c.lines
  next_grows e s i ts (Some q, a) c xs = answer_grows e s i q.act (put xs i a) (record c { tasks = ts; left = q.left })

  run_grows : (e : Engine A) (s : Supply) (i : ℕ) (ts : List Task) (o : Option A) (xs : Numbered A) → Grows (λ c. run e s i ts o (proc c xs))
  run_grows e s i ts None xs c = stuck_grows xs c
  run_grows e s i ts (Some a) xs c = next_grows e s i ts (e.next (view s i c) a) c xs

  replaced_grows : (i : ℕ) (r : List ValueTree × A) (xs : Numbered A) → Grows (λ c. replaced i r (proc c xs))
  replaced_grows i r xs c = (dropping_even (refs_in r.0)).adds c

  give_grows : (e : Engine A) (i b : ℕ) (o : OutcomeTree) (x : Option A) (xs : Numbered A) → Grows (λ c. give e i b o x (proc c xs))
  give_grows e i b o None xs c = stuck_grows xs c
  give_grows e i b (BadOutcome err) (Some a) xs c = (pushed_even (Throw i err)).adds c
  give_grows e i b (GoodOutcome v) (Some a) xs c = starts_on c.lines ((pushed_even (Run i)).adds c) (replaced_grows i (e.take b v a) xs (pushed (Run i) c))

  store_grows : (e : Engine A) (i : ℕ) (v : ValueTree) (x : Option A) (xs : Numbered A) → Grows (λ c. store e i v x (proc c xs))
  store_grows e i v None xs c = stuck_grows xs c
  store_grows e i v (Some a) xs c = replaced_grows i (e.store v a) xs c

  throw_grows : (e : Engine A) (i err : ℕ) (x : Option A) (xs : Numbered A) → Grows (λ c. throw e i err x (proc c xs))
  throw_grows e i err None xs c = stuck_grows xs c
  throw_grows e i err (Some a) xs c = (throw_even i err (e.raise err a).0 (thing c.entries i)).adds c

  lost_grows : (i b : ℕ) (v : OperandFate) (r : Ref) (en : Entry) (l : List ValueTree × A) (xs : Numbered A) → Grows (λ c. lost i b v r en l (proc c xs))
  lost_grows i b v r en l xs c = (leave_kept_fair i b v r en l.0).grows (record c { tasks = below c.tasks })

  keep_by_grows : (e : Engine A) (i b : ℕ) (v : OperandFate) (r : Ref) (en : Entry) (a : A) (xs : Numbered A) → Grows (λ c. keep_by e i b v r en a (proc c xs))
  keep_by_grows e i b GoesOn r en a xs c = starts_same c.lines
  keep_by_grows e i b Cancelled r en a xs c = lost_grows i b Cancelled r en (e.lose a) xs c
  keep_by_grows e i b Ready r en a xs c = lost_grows i b Ready r en (e.lose a) xs c

  keep_grows : (e : Engine A) (i : ℕ) (spot : Spot) (r : Ref) (x : Option A) (y : Option Entry) (xs : Numbered A) → Grows (λ c. keep e i spot r x y (proc c xs))
  keep_grows e i spot r None None xs c = stuck_grows xs c
  keep_grows e i spot r None (Some en) xs c = stuck_grows xs c
  keep_grows e i spot r (Some a) None xs c = stuck_grows xs c
  keep_grows e i spot r (Some a) (Some en) xs c = keep_by_grows e i (length en.operands) (verdict en.marked (is_ready_at (thing c.cells r.1))) r (with_operand spot r en) a xs c

  close_grows : (e : Engine A) (i : ℕ) (o : OutcomeTree) (y : Option Entry) (xs : Numbered A) → Grows (λ c. close_actor e i o y (proc c xs))
  close_grows e i o None xs c = stuck_grows xs c
  close_grows e i o (Some en) xs c = (close_fair (scan_of e.occ (removed xs i)) i en.result o).grows c

  abbrev GrowsMaybe : Core → Option (Stepped A) → Type 0
  GrowsMaybe c None = Unit {0}
  GrowsMaybe c (Some r) = Starts c.lines r.0.core.lines

  tasks_grow : (e : Engine A) (s : Supply) (ts : List Task) (xs : Numbered A) (c : Core) → GrowsMaybe c (step_tasks e s ts (proc c xs))
  tasks_grow e s [] xs c = tt
  tasks_grow e s (Run i ∷ ts) xs c = run_grows e s i ts (thing xs i) xs c
  tasks_grow e s (Give i b o ∷ ts) xs c = give_grows e i b o (thing xs i) xs (record c { tasks = ts })
  tasks_grow e s (Throw i err ∷ ts) xs c = throw_grows e i err (thing xs i) xs (record c { tasks = ts })
  tasks_grow e s (Catch i err ∷ ts) xs c = (handle_even i err).adds (record c { tasks = ts })
  tasks_grow e s (Store i v ∷ ts) xs c = store_grows e i v (thing xs i) xs (record c { tasks = ts })
  tasks_grow e s (Keep i spot r ∷ ts) xs c = keep_grows e i spot r (thing xs i) (thing c.entries i) xs (record c { tasks = ts })
  tasks_grow e s (Close i o ∷ ts) xs c = close_grows e i o (thing c.entries i) xs (record c { tasks = ts })
  tasks_grow e s (Fire n ∷ ts) xs c = (fire_fair (scan_of e.occ xs) n).grows (record c { tasks = ts })
  tasks_grow e s (Drop kd n ∷ ts) xs c = (drop_fair (scan_of e.occ xs) kd n).grows (record c { tasks = ts })

  if_grows : (e : Engine A) (s : Supply) (h : Option Halt) (xs : Numbered A) (c : Core) → GrowsMaybe c (step_if e s h (proc c xs))
  if_grows e s (Some h) xs c = tt
  if_grows e s None xs c = tasks_grow e s c.tasks xs c

module _ {W A : Type 0} (e : Engine A) (h : Host W) where
  serve_grows : (q : Option Request) (p : Proc A) (w : W) → Starts p.core.lines (serve h q p w).proc.core.lines
  serve_grows None p w = starts_same p.core.lines
  serve_grows (Some q) p w = ((h.serve q w).0, refl)

  abbrev GrowsLive : Live W A → Option (Live W A) → Type 0
  GrowsLive s None = Unit {0}
  GrowsLive s (Some r) = Starts s.proc.core.lines r.proc.core.lines

  advanced_grows : (s : Live W A) (o : Option (Stepped A)) → GrowsMaybe s.proc.core o → GrowsLive s (advanced h s.out o)
  advanced_grows s None x = tt
  advanced_grows s (Some r) x = starts_on s.proc.core.lines x (serve_grows r.1 r.0 s.out)

  advance_grows : (s : Live W A) → GrowsLive s (advance e h s)
  advance_grows s = advanced_grows s (step e (h.supply s.out) s.proc) (if_grows e (h.supply s.out) s.proc.core.halted s.proc.actors s.proc.core)

  -- lines of a burst start with those of before
  pub burst_grows : {s t : Live W A} → Burst e h s t → Starts s.proc.core.lines t.proc.core.lines
  burst_grows {s = s} (rests a) = starts_same s.proc.core.lines
  burst_grows {s = s} (steps r a b) = starts_on s.proc.core.lines (subst (GrowsLive s) a (advance_grows s)) (burst_grows b)

  no_step : {q : Live W A} → None ≡ Some q → ⊥
  no_step h = cc

  same_step : {r q : Live W A} → Some r ≡ Some q → r ≡ q
  same_step h = cc

  rest_of_burst : {s u : Live W A} → Burst e h s u → (q : Live W A) → advance e h s ≡ Some q → Burst e h q u
  rest_of_burst (rests a) q b = absurd (no_step (sym a ∙ b))
  rest_of_burst {u = u} (steps r a b) q c = subst (λ y. Burst e h y u) (same_step (sym a ∙ c)) b

  -- a burst goes on from what some of its steps reach
  pub burst_from_reached : (s t u : Live W A) → Reaches e h s t → Burst e h s u → Burst e h t u
  burst_from_reached s t u here b = b
  burst_from_reached s t u (onward next a rest) b = burst_from_reached next t u rest (rest_of_burst b next a)
