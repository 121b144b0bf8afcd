-- What a burst does with more turns: a burst that is spent has written a first part of what it writes with more.
use Rattle.std.proofs.Common.{◌≡◌, ℕ, suc, ◌+◌, List, [], ◌∷◌, ◌⊎◌, inl, inr, refl, sym, ap, ◌∙◌, subst}
use Rattle.std.specs.Prelude.{length}
use Rattle.std.specs.declared.option.Option.{Option}
use Rattle.std.specs.declared.option.Option.TheVariants.{None, Some}
use Rattle.flow_base.specs.ErrorNumbers.{operation_cancelled}
use Rattle.flow_value.specs.declared.value.Kind.TheVariants as kind
use Rattle.flow_value.specs.Values.{ValueTree, RefValue, OutcomeTree, GoodOutcome, BadOutcome}
use Rattle.flow_numbered.specs.Numbered.{Numbered, thing, added, put, removed}
use Rattle.flow_meaning.specs.Cells.{Ref}
use Rattle.flow_meaning.specs.Requests.{Spot, Act, Goes, Pass, Drops, Effects, Operand, Waits, Sends, Cancels, Prints, SendsTo, Returns, Throws, RunsOut, Stuck, Effect, Make, Start, Draw, Delay, Never, Listen, Disk, Goal, Ask, Request, Supply}
use Rattle.flow_meaning.specs.Requests as requests
use Rattle.flow_meaning.specs.Process.{Task, Run, Give, Throw, Catch, Store, Keep, Close, Fire, Drop, Entry, Halt, Spent, NoMeaning, Core, Proc, Raised, Engine}
use Rattle.flow_meaning.specs.Lines.{start_line, throw_line, catch_line}
use Rattle.flow_meaning.specs.References.{scan_of, refs_in}
use Rattle.flow_meaning.specs.Work.{halt, writes, pushed, dropping, leave_for, take_branch, is_ready_at}
use Rattle.flow_meaning.specs.Dropping.{drop, fire, close}
use Rattle.flow_meaning.specs.Effects.{Reaction, result_task, push_result}
use Rattle.flow_meaning.specs.React.{react}
use Rattle.flow_meaning.specs.Step.{proc, Stepped, silent, stuck, view, enrol, start_core, start, reacted, answer_effect, answer, run_next, run, replaced, give, store, fate, throw_core, throw, OperandFate, GoesOn, Cancelled, Ready, verdict, with_operand, below, leave_kept, lost, keep_by, keep, handle, close_actor, do_task, step_tasks, step_if, step, enrol_with, start_void, start_alone}
use Rattle.flow_meaning.specs.Burst.{Host, Live, serve, advanced, advance, Burst, rests, steps}
use Rattle.flow_meaning.specs.Turns.{Starts, more, more_live, later, Asks, IsOut, Thrifty, IsHalted, WritesFirst}
use Rattle.flow_meaning.proofs.More.{starts_same, starts_on, Ahead, Fair, Even, fair, still, after_turn, then_even, own_fair, same_even, halt_even, writes_even, pushed_even, dropping_even, leave_for_even, take_branch_fair, drop_fair, fire_fair, close_fair}
use Rattle.flow_meaning.proofs.MoreReact.{AheadAsked, FairAsk, push_result_even, react_fair}
use Rattle.flow_meaning.proofs.BurstOnce.{burst_once}

enrol_even : (class : ℕ) (name : List ℕ) → Even (enrol class name)
enrol_even class name = record { even = λ k c. refl; adds = λ c. (start_line (suc c.started) name ∷ [], refl) }

alone_even : (class : ℕ) (name : List ℕ) (r : Option ℕ) → Even (enrol_with class name r)
alone_even class name r = record { even = λ k c. refl; adds = λ c. (start_line (suc c.started) name ∷ [], refl) }

void_fair : (i class : ℕ) (name : List ℕ) → Fair (start_void i class name)
void_fair i class name =
    after_turn (λ d. enrol_with class name None (pushed (Run i) d)) (fair _ (then_even (pushed (Run i)) (enrol_with class name None) (pushed_even (Run i)) (alone_even class name None)))

start_fair : (i : ℕ) (g : Goal) (class : ℕ) (name : List ℕ) → Fair (start_core i g class name)
start_fair i g class name =
    after_turn (λ d. enrol class name (push_result i (result_task i g (RefValue kind.Future (suc d.made))) d))
    (own_fair (λ n d. enrol class name (push_result i (result_task i g (RefValue kind.Future (suc n))) d)) (λ d. d.made) (λ k c. refl)
    (λ n. fair _ (then_even (push_result i (result_task i g (RefValue kind.Future (suc n)))) (enrol class name) (push_result_even i _) (enrol_even class name))))

throw_even : (i err : ℕ) (r : Raised) (x : Option Entry) → Even (throw_core i err r x)
throw_even i err r None = halt_even NoMeaning
throw_even i err r (Some e) = then_even (writes (throw_line i err)) (leave_for i e r.values (fate i err r.caught)) (writes_even (throw_line i err)) (leave_for_even i e r.values (fate i err r.caught))

leave_kept_fair : (i b : ℕ) (v : OperandFate) (r : Ref) (en : Entry) (vs : List ValueTree) → Fair (leave_kept i b v r en vs)
leave_kept_fair i b GoesOn r en vs = fair _ same_even
leave_kept_fair i b Cancelled r en vs = fair _ (leave_for_even i en vs (Throw i operation_cancelled))
leave_kept_fair i b Ready r en vs = own_fair (take_branch i b r.1 en vs) (λ c. thing c.cells r.1) (λ k c. refl) (take_branch_fair i b r.1 en vs)

handle_even : (i err : ℕ) → Even (handle i err)
handle_even i err = then_even (writes (catch_line i err)) (pushed (Run i)) (writes_even (catch_line i err)) (pushed_even (Run i))

module _ {A : Type 0} where
  abbrev more_step : ℕ → Stepped A → Stepped A
  more_step k r = (proc (more k r.0.core) r.0.actors, r.1)

  abbrev AheadStep : ℕ → Stepped A → Stepped A → Type 0
  AheadStep k r s = (s ≡ more_step k r) ⊎ (IsHalted r.0.core × (r.1 ≡ None) × Starts r.0.core.lines s.0.core.lines)

  -- a step of a process that has these actors
  record FairStep (f : Core → Stepped A) : Type 0 where
    alike : (k : ℕ) (c : Core) → AheadStep k (f c) (f (more k c))
    grows : (c : Core) → Starts c.lines (f c).0.core.lines

  core_ahead : (xs : Numbered A) (k : ℕ) (c d : Core) → Ahead k c d → AheadStep k (silent (proc c xs)) (silent (proc d xs))
  core_ahead xs k c d (inl e) = inl (ap (λ x. silent (proc x xs)) e)
  core_ahead xs k c d (inr s) = inr (s.0, refl, s.1)

  core_step : (f : Core → Core) (xs : Numbered A) → Fair f → FairStep (λ c. silent (proc (f c) xs))
  core_step f xs h = record { alike = λ k c. core_ahead xs k (f c) (f (more k c)) (h.alike k c); grows = h.grows }

  asked_ahead : (xs : Numbered A) (k : ℕ) (r s : Reaction) → AheadAsked k r s → AheadStep k (reacted xs r) (reacted xs s)
  asked_ahead xs k r s (inl e) = inl (ap (reacted xs) e)
  asked_ahead xs k r s (inr h) = inr h

  asked_step : (f : Core → Reaction) (xs : Numbered A) → FairAsk f → FairStep (λ c. reacted xs (f c))
  asked_step f xs h = record { alike = λ k c. asked_ahead xs k (f c) (f (more k c)) (h.alike k c); grows = h.grows }

  own_step : {X : Type 0} (f : X → Core → Stepped A) (x : Core → X) → ((k : ℕ) (c : Core) → x (more k c) ≡ x c) → ((y : X) → FairStep (f y)) → FairStep (λ c. f (x c) c)
  own_step f x e h = record {
    alike = λ k c. subst (λ y. AheadStep k (f (x c) c) (f y (more k c))) (sym (e k c)) ((h (x c)).alike k c);
    grows = λ c. (h (x c)).grows c;
  }

  then_step : (g : Core → Core) (f : Core → Stepped A) → Even g → FairStep f → FairStep (λ c. f (g c))
  then_step g f e h = record {
    alike = λ k c. subst (λ x. AheadStep k (f (g c)) (f x)) (sym (e.even k c)) (h.alike k (g c));
    grows = λ c. starts_on c.lines (e.adds c) (h.grows (g c));
  }

  stuck_step : (xs : Numbered A) → FairStep (λ c. stuck (proc c xs))
  stuck_step xs = core_step (halt NoMeaning) xs (fair _ (halt_even NoMeaning))

  start_step : (e : Engine A) (i : ℕ) (g : Goal) (class : ℕ) (o : Option A) (xs : Numbered A) → FairStep (λ c. start e i g class o (proc c xs))
  start_step e i g class None xs = stuck_step xs
  start_step e i g class (Some a) xs =
      own_step (λ n c. silent (proc (start_core i g class (e.label class) c) (added xs (suc n) a))) (λ c. c.started) (λ k c. refl)
      (λ n. core_step (start_core i g class (e.label class)) (added xs (suc n) a) (start_fair i g class (e.label class)))

  alone_step : (e : Engine A) (i class : ℕ) (o : Option A) (xs : Numbered A) → FairStep (λ c. start_alone e i class o (proc c xs))
  alone_step e i class None xs = stuck_step xs
  alone_step e i class (Some a) xs =
      own_step (λ n c. silent (proc (start_void i class (e.label class) c) (added xs (suc n) a))) (λ c. c.started) (λ k c. refl)
      (λ n. core_step (start_void i class (e.label class)) (added xs (suc n) a) (void_fair i class (e.label class)))

  effect_step : (e : Engine A) (s : Supply) (i : ℕ) (g : Goal) (f : Effect) (xs : Numbered A) → FairStep (λ c. answer_effect e s i g f (proc c xs))
  effect_step e s i g (Start class args) xs = start_step e i g class (e.fresh class args) xs
  effect_step e s i g (Make kd) xs = asked_step (react s i (Effects g (Make kd))) xs (react_fair s i (Effects g (Make kd)))
  effect_step e s i g (Draw lo hi) xs = asked_step (react s i (Effects g (Draw lo hi))) xs (react_fair s i (Effects g (Draw lo hi)))
  effect_step e s i g (Delay t) xs = asked_step (react s i (Effects g (Delay t))) xs (react_fair s i (Effects g (Delay t)))
  effect_step e s i g Never xs = asked_step (react s i (Effects g Never)) xs (react_fair s i (Effects g Never))
  effect_step e s i g (Listen p) xs = asked_step (react s i (Effects g (Listen p))) xs (react_fair s i (Effects g (Listen p)))
  effect_step e s i g (Disk call) xs = asked_step (react s i (Effects g (Disk call))) xs (react_fair s i (Effects g (Disk call)))

  act_step : (s : Supply) (i : ℕ) (a : Act) (xs : Numbered A) → FairStep (λ c. reacted xs (react s i a c))
  act_step s i a xs = asked_step (react s i a) xs (react_fair s i a)

  answer_step : (e : Engine A) (s : Supply) (i : ℕ) (a : Act) (xs : Numbered A) → FairStep (λ c. answer e s i a (proc c xs))
  answer_step e s i (Effects g f) xs = effect_step e s i g f xs
  answer_step e s i (requests.Starts class args) xs = alone_step e i class (e.fresh class args) xs
  answer_step e s i Goes xs = act_step s i Goes xs
  answer_step e s i Pass xs = act_step s i Pass xs
  answer_step e s i (Drops vs) xs = act_step s i (Drops vs) xs
  answer_step e s i (Operand p r) xs = act_step s i (Operand p r) xs
  answer_step e s i (Waits p vs) xs = act_step s i (Waits p vs) xs
  answer_step e s i (Sends k o) xs = act_step s i (Sends k o) xs
  answer_step e s i (Cancels k) xs = act_step s i (Cancels k) xs
  answer_step e s i (Prints v) xs = act_step s i (Prints v) xs
  answer_step e s i (SendsTo q p t) xs = act_step s i (SendsTo q p t) xs
  answer_step e s i (Returns v vs) xs = act_step s i (Returns v vs) xs
  answer_step e s i (Throws n) xs = act_step s i (Throws n) xs
  answer_step e s i RunsOut xs = act_step s i RunsOut xs
  answer_step e s i Stuck xs = act_step s i Stuck xs

  -- the actor on top
  next_grows : (e : Engine A) (s : Supply) (i : ℕ) (ts : List Task) (r : Option Ask × A) (c : Core) (xs : Numbered A) → Starts c.lines (run_next e s i ts r (proc c xs)).0.core.lines
  next_grows e s i ts (None, a) c xs = starts_same c.lines
  next_grows e s i ts (Some q, a) c xs = (answer_step e s i q.act (put xs i a)).grows (record c { tasks = ts; left = q.left })

  next_alike : (e : Engine A) (s : Supply) (i : ℕ) (ts : List Task) (k : ℕ) (r : Option Ask × A) (c : Core) (xs : Numbered A)
      → AheadStep k (run_next e s i ts r (proc c xs)) (run_next e s i ts (later k r) (proc (more k c) xs))
  next_alike e s i ts k (None, a) c xs = inl refl
  next_alike e s i ts k (Some q, a) c xs = (answer_step e s i q.act (put xs i a)).alike k (record c { tasks = ts; left = q.left })

  asks_ahead : (e : Engine A) (s : Supply) (i : ℕ) (ts : List Task) (k : ℕ) (act : Act) (r q : Option Ask × A) (c : Core) (xs : Numbered A) → Asks act r
      → ((left : ℕ) (a : A) → IsHalted (answer e s i act (proc (record c { tasks = ts; left = left }) (put xs i a))).0.core
      × ((answer e s i act (proc (record c { tasks = ts; left = left }) (put xs i a))).1 ≡ None)
      × ((answer e s i act (proc (record c { tasks = ts; left = left }) (put xs i a))).0.core.lines ≡ c.lines))
      → AheadStep k (run_next e s i ts r (proc c xs)) (run_next e s i ts q (proc (more k c) xs))
  asks_ahead e s i ts k act r q c xs h halts =
      let f = halts h.0 h.1 in
      subst (λ x. AheadStep k (run_next e s i ts x (proc c xs)) (run_next e s i ts q (proc (more k c) xs))) (sym h.2)
      (inr (f.0, f.1, subst (λ ls. Starts ls (run_next e s i ts q (proc (more k c) xs)).0.core.lines) (sym f.2) (next_grows e s i ts q (more k c) xs)))

  out_ahead : (e : Engine A) (s : Supply) (i : ℕ) (ts : List Task) (k : ℕ) (r q : Option Ask × A) (c : Core) (xs : Numbered A)
      → IsOut r → AheadStep k (run_next e s i ts r (proc c xs)) (run_next e s i ts q (proc (more k c) xs))
  out_ahead e s i ts k r q c xs (inl h) = asks_ahead e s i ts k RunsOut r q c xs h (λ left a. ((Spent, refl), refl, refl))
  out_ahead e s i ts k r q c xs (inr h) = asks_ahead e s i ts k Stuck r q c xs h (λ left a. ((NoMeaning, refl), refl, refl))

  turned : (e : Engine A) (s : Supply) (i : ℕ) (ts : List Task) (k : ℕ) (r q : Option Ask × A) (c : Core) (xs : Numbered A)
      → (q ≡ later k r) ⊎ IsOut r → AheadStep k (run_next e s i ts r (proc c xs)) (run_next e s i ts q (proc (more k c) xs))
  turned e s i ts k r q c xs (inl h) = subst (λ x. AheadStep k (run_next e s i ts r (proc c xs)) (run_next e s i ts x (proc (more k c) xs))) (sym h) (next_alike e s i ts k r c xs)
  turned e s i ts k r q c xs (inr h) = out_ahead e s i ts k r q c xs h

  run_step : (e : Engine A) → Thrifty e → (s : Supply) (i : ℕ) (ts : List Task) (o : Option A) (xs : Numbered A) → FairStep (λ c. run e s i ts o (proc c xs))
  run_step e t s i ts None xs = stuck_step xs
  run_step e t s i ts (Some a) xs = record {
    alike = λ k c. turned e s i ts k (e.next (view s i c) a) (e.next (view s i (more k c)) a) c xs (t.same k (c.left + k) (view s i c) a refl);
    grows = λ c. next_grows e s i ts (e.next (view s i c) a) c xs;
  }

  -- the other tasks
  replaced_step : (i : ℕ) (r : List ValueTree × A) (xs : Numbered A) → FairStep (λ c. replaced i r (proc c xs))
  replaced_step i r xs = core_step (dropping (refs_in r.0)) (put xs i r.1) (fair _ (dropping_even (refs_in r.0)))

  give_step : (e : Engine A) (i b : ℕ) (o : OutcomeTree) (x : Option A) (xs : Numbered A) → FairStep (λ c. give e i b o x (proc c xs))
  give_step e i b o None xs = stuck_step xs
  give_step e i b (BadOutcome err) (Some a) xs = core_step (pushed (Throw i err)) xs (fair _ (pushed_even (Throw i err)))
  give_step e i b (GoodOutcome v) (Some a) xs = then_step (pushed (Run i)) (λ c. replaced i (e.take b v a) (proc c xs)) (pushed_even (Run i)) (replaced_step i (e.take b v a) xs)

  store_step : (e : Engine A) (i : ℕ) (v : ValueTree) (x : Option A) (xs : Numbered A) → FairStep (λ c. store e i v x (proc c xs))
  store_step e i v None xs = stuck_step xs
  store_step e i v (Some a) xs = replaced_step i (e.store v a) xs

  throw_step : (e : Engine A) (i err : ℕ) (x : Option A) (xs : Numbered A) → FairStep (λ c. throw e i err x (proc c xs))
  throw_step e i err None xs = stuck_step xs
  throw_step e i err (Some a) xs =
      own_step (λ y c. silent (proc (throw_core i err (e.raise err a).0 y c) (put xs i (e.raise err a).1))) (λ c. thing c.entries i) (λ k c. refl)
      (λ y. core_step (throw_core i err (e.raise err a).0 y) (put xs i (e.raise err a).1) (fair _ (throw_even i err (e.raise err a).0 y)))

  lost_step : (i b : ℕ) (v : OperandFate) (r : Ref) (en : Entry) (l : List ValueTree × A) (xs : Numbered A) → FairStep (λ c. lost i b v r en l (proc c xs))
  lost_step i b v r en l xs =
      then_step (λ c. record c { tasks = below c.tasks }) (λ c. silent (proc (leave_kept i b v r en l.0 c) (put xs i l.1)))
      (still (λ c. record c { tasks = below c.tasks }) (λ k c. refl) (λ c. refl)) (core_step (leave_kept i b v r en l.0) (put xs i l.1) (leave_kept_fair i b v r en l.0))

  keep_by_step : (e : Engine A) (i b : ℕ) (v : OperandFate) (r : Ref) (en : Entry) (a : A) (xs : Numbered A) → FairStep (λ c. keep_by e i b v r en a (proc c xs))
  keep_by_step e i b GoesOn r en a xs = core_step (λ c. record c { entries = put c.entries i en }) xs (fair _ (still (λ c. record c { entries = put c.entries i en }) (λ k c. refl) (λ c. refl)))
  keep_by_step e i b Cancelled r en a xs = lost_step i b Cancelled r en (e.lose a) xs
  keep_by_step e i b Ready r en a xs = lost_step i b Ready r en (e.lose a) xs

  kept_step : (e : Engine A) (i : ℕ) (spot : Spot) (r : Ref) (x : Option A) (y : Option Entry) (xs : Numbered A) → FairStep (λ c. keep e i spot r x y (proc c xs))
  kept_step e i spot r None None xs = stuck_step xs
  kept_step e i spot r None (Some en) xs = stuck_step xs
  kept_step e i spot r (Some a) None xs = stuck_step xs
  kept_step e i spot r (Some a) (Some en) xs =
      own_step (λ z c. keep_by e i (length en.operands) (verdict en.marked (is_ready_at z)) r (with_operand spot r en) a (proc c xs)) (λ c. thing c.cells r.1) (λ k c. refl)
      (λ z. keep_by_step e i (length en.operands) (verdict en.marked (is_ready_at z)) r (with_operand spot r en) a xs)

  keep_step : (e : Engine A) (i : ℕ) (spot : Spot) (r : Ref) (x : Option A) (xs : Numbered A) → FairStep (λ c. keep e i spot r x (thing c.entries i) (proc c xs))
  keep_step e i spot r x xs = own_step (λ y c. keep e i spot r x y (proc c xs)) (λ c. thing c.entries i) (λ k c. refl) (λ y. kept_step e i spot r x y xs)

  closed_step : (e : Engine A) (i : ℕ) (o : OutcomeTree) (y : Option Entry) (xs : Numbered A) → FairStep (λ c. close_actor e i o y (proc c xs))
  closed_step e i o None xs = stuck_step xs
  closed_step e i o (Some en) xs = core_step (close (scan_of e.occ (removed xs i)) i en.result o) (removed xs i) (close_fair (scan_of e.occ (removed xs i)) i en.result o)

  task_step : (e : Engine A) (s : Supply) (t : Task) (xs : Numbered A) → FairStep (λ c. do_task e s t (proc c xs))
  task_step e s (Run i) xs = stuck_step xs
  task_step e s (Give i b o) xs = give_step e i b o (thing xs i) xs
  task_step e s (Throw i err) xs = throw_step e i err (thing xs i) xs
  task_step e s (Catch i err) xs = core_step (handle i err) xs (fair _ (handle_even i err))
  task_step e s (Store i v) xs = store_step e i v (thing xs i) xs
  task_step e s (Keep i spot r) xs = keep_step e i spot r (thing xs i) xs
  task_step e s (Close i o) xs = own_step (λ y c. close_actor e i o y (proc c xs)) (λ c. thing c.entries i) (λ k c. refl) (λ y. closed_step e i o y xs)
  task_step e s (Fire k) xs = core_step (fire (scan_of e.occ xs) k) xs (fire_fair (scan_of e.occ xs) k)
  task_step e s (Drop kd k) xs = core_step (drop (scan_of e.occ xs) kd k) xs (drop_fair (scan_of e.occ xs) kd k)

  -- a step, and then a burst
  abbrev AheadMaybe : ℕ → Option (Stepped A) → Option (Stepped A) → Type 0
  AheadMaybe k None None = Unit {0}
  AheadMaybe k (Some r) (Some s) = AheadStep k r s
  AheadMaybe k None (Some s) = ⊥
  AheadMaybe k (Some r) None = ⊥

  tasks_alike : (e : Engine A) → Thrifty e → (s : Supply) (ts : List Task) (xs : Numbered A) (k : ℕ) (c : Core) → AheadMaybe k (step_tasks e s ts (proc c xs)) (step_tasks e s ts (proc (more k c) xs))
  tasks_alike e t s [] xs k c = tt
  tasks_alike e t s (Run i ∷ ts) xs k c = (run_step e t s i ts (thing xs i) xs).alike k c
  tasks_alike e t s (Give i b o ∷ ts) xs k c = (task_step e s (Give i b o) xs).alike k (record c { tasks = ts })
  tasks_alike e t s (Throw i err ∷ ts) xs k c = (task_step e s (Throw i err) xs).alike k (record c { tasks = ts })
  tasks_alike e t s (Catch i err ∷ ts) xs k c = (task_step e s (Catch i err) xs).alike k (record c { tasks = ts })
  tasks_alike e t s (Store i v ∷ ts) xs k c = (task_step e s (Store i v) xs).alike k (record c { tasks = ts })
  tasks_alike e t s (Keep i spot r ∷ ts) xs k c = (task_step e s (Keep i spot r) xs).alike k (record c { tasks = ts })
  tasks_alike e t s (Close i o ∷ ts) xs k c = (task_step e s (Close i o) xs).alike k (record c { tasks = ts })
  tasks_alike e t s (Fire n ∷ ts) xs k c = (task_step e s (Fire n) xs).alike k (record c { tasks = ts })
  tasks_alike e t s (Drop kd n ∷ ts) xs k c = (task_step e s (Drop kd n) xs).alike k (record c { tasks = ts })

  if_alike : (e : Engine A) → Thrifty e → (s : Supply) (h : Option Halt) (xs : Numbered A) (k : ℕ) (c : Core) → AheadMaybe k (step_if e s h (proc c xs)) (step_if e s h (proc (more k c) xs))
  if_alike e t s (Some h) xs k c = tt
  if_alike e t s None xs k c = tasks_alike e t s c.tasks xs k c

  abbrev GrowsMaybe : Core → Option (Stepped A) → Type 0
  GrowsMaybe c None = Unit {0}
  GrowsMaybe c (Some r) = Starts c.lines r.0.core.lines

  tasks_grow : (e : Engine A) (s : Supply) (ts : List Task) (xs : Numbered A) (c : Core) → GrowsMaybe c (step_tasks e s ts (proc c xs))
  tasks_grow e s [] xs c = tt
  tasks_grow e s (Run i ∷ ts) xs c = run_grows (thing xs i)
    where
      run_grows : (o : Option A) → Starts c.lines (run e s i ts o (proc c xs)).0.core.lines
      run_grows None = starts_same c.lines
      run_grows (Some a) = next_grows e s i ts (e.next (view s i c) a) c xs
  tasks_grow e s (Give i b o ∷ ts) xs c = (task_step e s (Give i b o) xs).grows (record c { tasks = ts })
  tasks_grow e s (Throw i err ∷ ts) xs c = (task_step e s (Throw i err) xs).grows (record c { tasks = ts })
  tasks_grow e s (Catch i err ∷ ts) xs c = (task_step e s (Catch i err) xs).grows (record c { tasks = ts })
  tasks_grow e s (Store i v ∷ ts) xs c = (task_step e s (Store i v) xs).grows (record c { tasks = ts })
  tasks_grow e s (Keep i spot r ∷ ts) xs c = (task_step e s (Keep i spot r) xs).grows (record c { tasks = ts })
  tasks_grow e s (Close i o ∷ ts) xs c = (task_step e s (Close i o) xs).grows (record c { tasks = ts })
  tasks_grow e s (Fire n ∷ ts) xs c = (task_step e s (Fire n) xs).grows (record c { tasks = ts })
  tasks_grow e s (Drop kd n ∷ ts) xs c = (task_step e s (Drop kd n) xs).grows (record c { tasks = ts })

  if_grows : (e : Engine A) (s : Supply) (h : Option Halt) (xs : Numbered A) (c : Core) → GrowsMaybe c (step_if e s h (proc c xs))
  if_grows e s (Some h) xs c = tt
  if_grows e s None xs c = tasks_grow e s c.tasks xs c

-- the same in the world
module _ {W A : Type 0} (e : Engine A) (h : Host W) where
  abbrev Ahead_live : ℕ → Live W A → Live W A → Type 0
  Ahead_live k r s = (s ≡ more_live k r) ⊎ (IsHalted r.proc.core × Starts r.proc.core.lines s.proc.core.lines)

  abbrev Maybe_live : ℕ → Option (Live W A) → Option (Live W A) → Type 0
  Maybe_live k None None = Unit {0}
  Maybe_live k (Some r) (Some s) = Ahead_live k r s
  Maybe_live k None (Some s) = ⊥
  Maybe_live k (Some r) None = ⊥

  serve_grows : (q : Option Request) (p : Proc A) (w : W) → Starts p.core.lines (serve h q p w).proc.core.lines
  serve_grows None p w = starts_same p.core.lines
  serve_grows (Some q) p w = ((h.serve q w).0, refl)

  serve_alike : (k : ℕ) (q : Option Request) (p : Proc A) (w : W) → serve h q (proc (more k p.core) p.actors) w ≡ more_live k (serve h q p w)
  serve_alike k None p w = refl
  serve_alike k (Some q) p w = refl

  served_ahead : (k : ℕ) (w : W) (r s : Stepped A) → AheadStep k r s → Ahead_live k (serve h r.1 r.0 w) (serve h s.1 s.0 w)
  served_ahead k w r s (inl x) = inl (ap (λ y. serve h y.1 y.0 w) x ∙ serve_alike k r.1 r.0 w)
  served_ahead k w r s (inr x) =
      subst (λ q. Ahead_live k (serve h q r.0 w) (serve h s.1 s.0 w)) (sym x.1)
      (inr (x.0, starts_on r.0.core.lines x.2 (serve_grows s.1 s.0 w)))

  advanced_ahead : (k : ℕ) (w : W) (o p : Option (Stepped A)) → AheadMaybe k o p → Maybe_live k (advanced h w o) (advanced h w p)
  advanced_ahead k w None None x = tt
  advanced_ahead k w None (Some s) x = absurd x
  advanced_ahead k w (Some r) None x = absurd x
  advanced_ahead k w (Some r) (Some s) x = served_ahead k w r s x

  advance_alike : Thrifty e → (k : ℕ) (s : Live W A) → Maybe_live k (advance e h s) (advance e h (more_live k s))
  advance_alike t k s =
      advanced_ahead k s.out (step e (h.supply s.out) s.proc) (step e (h.supply s.out) (proc (more k s.proc.core) s.proc.actors))
      (if_alike e t (h.supply s.out) s.proc.core.halted s.proc.actors k s.proc.core)

  abbrev Grows_live : Live W A → Option (Live W A) → Type 0
  Grows_live s None = Unit {0}
  Grows_live s (Some r) = Starts s.proc.core.lines r.proc.core.lines

  advanced_grows : (s : Live W A) (o : Option (Stepped A)) → GrowsMaybe s.proc.core o → Grows_live s (advanced h s.out o)
  advanced_grows s None x = tt
  advanced_grows s (Some r) x = starts_on s.proc.core.lines x (serve_grows r.1 r.0 s.out)

  advance_grows : (s : Live W A) → Grows_live s (advance e h s)
  advance_grows s = advanced_grows s (step e (h.supply s.out) s.proc) (if_grows e (h.supply s.out) s.proc.core.halted s.proc.actors s.proc.core)

  burst_grows : {s t : Live W A} → Burst e h s t → Starts s.proc.core.lines t.proc.core.lines
  burst_grows {s = s} (rests a) = starts_same s.proc.core.lines
  burst_grows {s = s} (steps r a b) = starts_on s.proc.core.lines (subst (Grows_live s) a (advance_grows s)) (burst_grows b)

  -- a process that was halted does nothing
  rests_at : (s : Live W A) (x : Halt) → s.proc.core.halted ≡ Some x → Burst e h s s
  rests_at s x a = rests (ap (λ o. advanced h s.out (step_if e (h.supply s.out) o s.proc)) a)

  abbrev Prefix : Live W A → Live W A → Type 0
  Prefix t u = Starts t.proc.core.lines u.proc.core.lines

  after_step : (k : ℕ) (r t u : Live W A) (o : Option (Live W A)) → Maybe_live k (Some r) o → IsHalted t.proc.core → Burst e h r t → ((q : Live W A) → o ≡ Some q → Burst e h q u)
      → (Burst e h (more_live k r) u → Prefix t u) → Prefix t u
  after_step k r t u None x g b c rec = absurd x
  after_step k r t u (Some q) (inl x) g b c rec = rec (subst (λ y. Burst e h y u) x (c q refl))
  after_step k r t u (Some q) (inr x) g b c rec =
      let at : t ≡ r = burst_once e h r t r b (rests_at r x.0.0 x.0.1) in
      subst (λ y. Prefix y u) (sym at) (starts_on r.proc.core.lines x.1 (burst_grows (c q refl)))

  rest_of_burst : {s u : Live W A} → Burst e h s u → (q : Live W A) → advance e h s ≡ Some q → Burst e h q u
  rest_of_burst (rests a) q b = absurd (no_step (sym a ∙ b))
    where
      no_step : {q : Live W A} → None ≡ Some q → ⊥
      no_step h = cc
  rest_of_burst {u = u} (steps r a b) q c = subst (λ y. Burst e h y u) (same_step (sym a ∙ c)) b
    where
      same_step : {r q : Live W A} → Some r ≡ Some q → r ≡ q
      same_step h = cc

  pub stopped_first : Thrifty e → WritesFirst e h
  stopped_first t k s end u (rests a) g b =
      let at = burst_once e h (more_live k s) u (more_live k s) b (rests_at (more_live k s) g.0 g.1) in
      subst (λ y. Prefix s y) (sym at) (starts_same s.proc.core.lines)
  stopped_first t k s end u (steps r a b) g c =
      after_step k r end u (advance e h (more_live k s)) (subst (λ o. Maybe_live k o (advance e h (more_live k s))) a (advance_alike t k s)) g b (rest_of_burst c)
      (stopped_first t k r end u b g)
