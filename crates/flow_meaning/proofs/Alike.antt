-- One step of a process, with actors of two kinds whose steps ask alike.
use Rattle.std.proofs.Common.{◌≡◌, ℕ, suc, ◌≤◌, List, [], ◌∷◌, length, refl, sym, ap, subst, arith}
use Rattle.std.proofs.Math.Path.{fun_ext}
use Rattle.std.specs.declared.option.Option.{Option}
use Rattle.std.specs.declared.option.Option.TheVariants.{None, Some}
use Rattle.flow_value.specs.Values.{ValueTree, OutcomeTree, GoodOutcome, BadOutcome}
use Rattle.flow_numbered.specs.Numbered.{Numbered, thing, put, removed, added}
use Rattle.flow_meaning.specs.Cells.{Side, Ref}
use Rattle.flow_meaning.specs.Requests.{Spot, Act, Effects, Starts, Effect, Start, Goal, Supply}
use Rattle.flow_meaning.specs.Process.{Task, Run, Give, Throw, Catch, Store, Keep, Close, Fire, Drop, Entry, Core, Engine}
use Rattle.flow_meaning.specs.References.{scan_of}
use Rattle.flow_meaning.specs.Work.{pushed, dropping_values, is_ready_at}
use Rattle.flow_meaning.specs.Dropping.{drop, fire, close}
use Rattle.flow_meaning.specs.React.{react}
use Rattle.flow_meaning.specs.Step.{Stepped, proc, answer, answer_effect, start, start_core, start_alone, start_void, give, store, throw, throw_core, OperandFate, GoesOn, Cancelled, Ready, verdict, with_operand, lost, leave_kept, below, keep_by, keep, handle, close_actor, do_task}
use Rattle.flow_meaning.specs.Orderly.{tasks_of, phase_first, Paired, Orderly, Phase, Free, Risky, Due}
use Rattle.flow_meaning.specs.Law.{BothOrNone, Simulates, AllRelated, Related, phase_after}
use Rattle.flow_meaning.proofs.TaskShifts.{Popped, popped_at, popped_shifts, popped_eases, given_shifts, stored_shifts, kept_shifts, leave_kept_shifts, next_below, below_unmoved, throw_core_shifts, handle_shifts, close_shifts, StartsFor, start_shifts, void_shifts}
use Rattle.flow_meaning.proofs.Shifts.{give_of, throw_of, catch_of, store_of, keep_of, close_of, throw_shifts, react_shifts, fire_eases, drop_eases}
use Rattle.flow_meaning.proofs.Posture.{IsOf, shifts_after, eases_on, unmoved_eases, rank, Shifts, Unless, unless, unless_map}
use Rattle.flow_meaning.proofs.Relating.{related_removed, related_eased, related_shifts, related_gone, related_new}

module _ {A B : Type 0} (e : Engine A) (d : Engine B) (R : Phase → A → B → Type 0) (sim : Simulates e d R) where
  -- both scans find the same
  scans_at : (xs : Numbered A) (ys : Numbered B) (s : Side) (k : ℕ) → AllRelated (R Free) xs ys → scan_of e.occ xs s k ≡ scan_of d.occ ys s k
  scans_at [] [] s k h = refl
  scans_at [] (y ∷ ys) s k h = absurd h
  scans_at (x ∷ xs) [] s k h = absurd h
  scans_at (x ∷ xs) (y ∷ ys) s k h = let a = sim.occ s k x.1 y.1 h.1 in let b = scans_at xs ys s k h.2 in omega arith

  pub scans : (xs : Numbered A) (ys : Numbered B) → AllRelated (R Free) xs ys → scan_of e.occ xs ≡ scan_of d.occ ys
  scans xs ys h = fun_ext (λ s. fun_ext (λ k. scans_at xs ys s k h))

  -- two steps with the same core and the same request, and, unless the event was stopped, related actors
  abbrev pub Matches : Stepped A → Stepped B → Type 0
  Matches r q = (r.0.core ≡ q.0.core) × (r.1 ≡ q.1) × Unless (λ k. Related R k r.0.actors q.0.actors) r.0.core

  -- A task of an actor is off the stack. Its actors are at its number.
  record TaskOf (i : ℕ) (t : Task) (c k : Core) (xs : Numbered A) (ys : Numbered B) (x : Option A) (y : Option B) : Type 0 where
    pop : Popped i t c k
    rs : Related R c xs ys
    first : thing xs i ≡ x
    second : thing ys i ≡ y

  -- the actor is another, or none is
  replaced_related : (i : ℕ) (t : Task) (p : Phase) (c k m : Core) (xs : Numbered A) (ys : Numbered B) (x a : A) (y b : B) → TaskOf i t c k xs ys (Some x) (Some y)
      → Unless (Shifts i p k) m → R p a b → Unless (λ m. Related R m (put xs i a) (put ys i b)) m
  replaced_related i t p c k m xs ys x a y b h s r =
      unless_map m.halted (λ s. related_shifts e d R sim i p c m xs ys x a y b h.first h.second h.rs s r) (popped_shifts i t p c k m h.pop s)

  same_related : (i : ℕ) (t : Task) (p : Phase) (c k m : Core) (xs : Numbered A) (ys : Numbered B) (x : Option A) (y : Option B) → TaskOf i t c k xs ys x y
      → rank p ≤ rank (phase_first (t ∷ tasks_of i k.tasks)) → Unless (Shifts i p k) m → Unless (λ m. Related R m xs ys) m
  same_related i t p c k m xs ys x y h le s = unless_map m.halted (related_eased e d R sim c m xs ys h.rs) (popped_eases i t p c k m h.pop le s)

  give_alike : (i b : ℕ) (o : OutcomeTree) (x : Option A) (y : Option B) (c k : Core) (xs : Numbered A) (ys : Numbered B) → TaskOf i (Give i b o) c k xs ys x y → BothOrNone (R Due) x y
      → Matches (give e i b o x (proc k xs)) (give d i b o y (proc k ys))
  give_alike i b o None None c k xs ys h r = (refl, refl, tt)
  give_alike i b o None (Some y) c k xs ys h r = absurd r
  give_alike i b o (Some x) None c k xs ys h r = absurd r
  give_alike i b (BadOutcome err) (Some x) (Some y) c k xs ys h r =
      (refl, refl, same_related i (Give i b (BadOutcome err)) Risky c k (pushed (Throw i err) k) xs ys (Some x) (Some y) h (omega arith) (unless k.halted (throw_shifts i err k h.pop.awake)))
  give_alike i b (GoodOutcome v) (Some x) (Some y) c k xs ys h r =
      let s = sim.take b v x y r in
      let vs = (e.take b v x).0 in
      let m = pushed (Run i) k in (
        ap (λ us. dropping_values us m) s.0,
        refl,
        replaced_related i (Give i b (GoodOutcome v)) Free c k (dropping_values vs m) xs ys x (e.take b v x).1 y (d.take b v y).1 h (unless k.halted (given_shifts i vs k h.pop.awake)) s.1,
      )

  store_alike : (i : ℕ) (v : ValueTree) (x : Option A) (y : Option B) (c k : Core) (xs : Numbered A) (ys : Numbered B) → TaskOf i (Store i v) c k xs ys x y → BothOrNone (R Due) x y
      → Matches (store e i v x (proc k xs)) (store d i v y (proc k ys))
  store_alike i v None None c k xs ys h r = (refl, refl, tt)
  store_alike i v None (Some y) c k xs ys h r = absurd r
  store_alike i v (Some x) None c k xs ys h r = absurd r
  store_alike i v (Some x) (Some y) c k xs ys h r =
      let s = sim.store v x y r in
      let vs = (e.store v x).0 in (
        ap (λ us. dropping_values us k) s.0,
        refl,
        replaced_related i (Store i v) Free c k (dropping_values vs k) xs ys x (e.store v x).1 y (d.store v y).1 h (unless k.halted (stored_shifts i vs k h.pop.awake h.pop.rest)) s.1,
      )

  throw_alike : (i err : ℕ) (x : Option A) (y : Option B) (c k : Core) (xs : Numbered A) (ys : Numbered B) → TaskOf i (Throw i err) c k xs ys x y → BothOrNone (R Risky) x y
      → Matches (throw e i err x (proc k xs)) (throw d i err y (proc k ys))
  throw_alike i err None None c k xs ys h r = (refl, refl, tt)
  throw_alike i err None (Some y) c k xs ys h r = absurd r
  throw_alike i err (Some x) None c k xs ys h r = absurd r
  throw_alike i err (Some x) (Some y) c k xs ys h r =
      let s = sim.raise err x y r in
      let o = thing k.entries i in
      let m = throw_core i err (e.raise err x).0 o k in (
        ap (λ r. throw_core i err r o k) s.0,
        refl,
        replaced_related i (Throw i err) Free c k m xs ys x (e.raise err x).1 y (d.raise err y).1 h (throw_core_shifts i err (e.raise err x).0 o k refl) s.1,
      )

  -- an operand is kept; its actor's next step is the task below
  lost_alike : (i b : ℕ) (v : OperandFate) (spot : Spot) (r : Ref) (en e0 : Entry) (x : A) (y : B) (c k : Core) (xs : Numbered A) (ys : Numbered B) → (v ≡ GoesOn → ⊥) → thing k.entries i ≡ Some e0
      → Paired c.tasks
      → c.tasks ≡ Keep i spot r ∷ k.tasks → TaskOf i (Keep i spot r) c k xs ys (Some x) (Some y) → R Due x y → Matches (lost i b v r en (e.lose x) (proc k xs)) (lost i b v r en (d.lose y) (proc k ys))
  lost_alike i b v spot r en e0 x y c k xs ys n at paired top h rel =
      let s = sim.lose x y rel in
      let f = record k { tasks = below k.tasks } in
      let m = leave_kept i b v r en (e.lose x).0 f in (
        ap (λ vs. leave_kept i b v r en vs f) s.0,
        refl,
        replaced_related i (Keep i spot r) Due c k m xs ys x (e.lose x).1 y (d.lose y).1 h
            (unless_map m.halted (shifts_after i Due k f m (below_unmoved i k (next_below i spot r c.tasks k.tasks top paired))) (leave_kept_shifts i b v r en e0 (e.lose x).0 f at n)) s.1,
      )

  keep_by_alike : (i b : ℕ) (v : OperandFate) (spot : Spot) (r : Ref) (e0 : Entry) (x : A) (y : B) (c k : Core) (xs : Numbered A) (ys : Numbered B) → thing k.entries i ≡ Some e0 → Paired c.tasks
      → c.tasks ≡ Keep i spot r ∷ k.tasks → TaskOf i (Keep i spot r) c k xs ys (Some x) (Some y) → R Due x y
      → Matches (keep_by e i b v r (with_operand spot r e0) x (proc k xs)) (keep_by d i b v r (with_operand spot r e0) y (proc k ys))
  keep_by_alike i b GoesOn spot r e0 x y c k xs ys at paired top h rel =
      let m = record k { entries = put k.entries i (with_operand spot r e0) } in
      (refl, refl, same_related i (Keep i spot r) Free c k m xs ys (Some x) (Some y) h (omega arith) (unless k.halted (kept_shifts i spot r e0 k at h.pop.awake h.pop.rest)))
  keep_by_alike i b Cancelled spot r e0 x y c k xs ys at paired top h rel =
      lost_alike i b Cancelled spot r (with_operand spot r e0) e0 x y c k xs ys cancels at paired top h rel
    where
      cancels : Cancelled ≡ GoesOn → ⊥
      cancels q = cc
  keep_by_alike i b Ready spot r e0 x y c k xs ys at paired top h rel =
      lost_alike i b Ready spot r (with_operand spot r e0) e0 x y c k xs ys readies at paired top h rel
    where
      readies : Ready ≡ GoesOn → ⊥
      readies q = cc

  keep_alike : (i : ℕ) (spot : Spot) (r : Ref) (x : Option A) (y : Option B) (en : Option Entry) (c k : Core) (xs : Numbered A) (ys : Numbered B) → thing k.entries i ≡ en → Paired c.tasks
      → c.tasks ≡ Keep i spot r ∷ k.tasks → TaskOf i (Keep i spot r) c k xs ys x y → BothOrNone (R Due) x y → Matches (keep e i spot r x en (proc k xs)) (keep d i spot r y en (proc k ys))
  keep_alike i spot r None None en c k xs ys at paired top h rel = (refl, refl, tt)
  keep_alike i spot r None (Some y) en c k xs ys at paired top h rel = absurd rel
  keep_alike i spot r (Some x) None en c k xs ys at paired top h rel = absurd rel
  keep_alike i spot r (Some x) (Some y) None c k xs ys at paired top h rel = (refl, refl, tt)
  keep_alike i spot r (Some x) (Some y) (Some en) c k xs ys at paired top h rel =
      keep_by_alike i (length en.operands) (verdict en.marked (is_ready_at (thing k.cells r.1))) spot r en x y c k xs ys at paired top h rel

  close_alike : (i : ℕ) (o : OutcomeTree) (en : Option Entry) (x : Option A) (y : Option B) (c k : Core) (xs : Numbered A) (ys : Numbered B) → TaskOf i (Close i o) c k xs ys x y
      → Matches (close_actor e i o en (proc k xs)) (close_actor d i o en (proc k ys))
  close_alike i o None x y c k xs ys h = (refl, refl, tt)
  close_alike i o (Some en) x y c k xs ys h =
      let scan = scan_of e.occ (removed xs i) in
      let m = close scan i en.result o k in (
        ap (λ f. close f i en.result o k) (scans (removed xs i) (removed ys i) (related_removed (R Free) xs ys i h.rs.all)),
        refl,
        unless_map m.halted (λ s. related_gone e d R sim i c m xs ys h.rs s) (popped_shifts i (Close i o) Free c k m h.pop (close_shifts scan i en.result o k h.pop.rises h.pop.rest)),
      )

  -- each task but the step of an actor
  abbrev AlikeFor : Supply → Task → List Task → Core → Numbered A → Numbered B → Type 0
  AlikeFor s t ts c xs ys = Matches (do_task e s t (proc (record c { tasks = ts }) xs)) (do_task d s t (proc (record c { tasks = ts }) ys))

  task_for : (i : ℕ) (t : Task) (ts : List Task) (c : Core) (xs : Numbered A) (ys : Numbered B) → IsOf i t → Orderly c → c.tasks ≡ t ∷ ts → Related R c xs ys
      → TaskOf i t c (record c { tasks = ts }) xs ys (thing xs i) (thing ys i)
  task_for i t ts c xs ys h o top rs = record { pop = popped_at i c.left t ts c o top h; rs = rs; first = refl; second = refl }

  by_phase : (i : ℕ) (t : Task) (c k : Core) (xs : Numbered A) (ys : Numbered B) (x : Option A) (y : Option B) → TaskOf i t c k xs ys x y
      → BothOrNone (R (phase_first (t ∷ tasks_of i k.tasks))) (thing xs i) (thing ys i)
  by_phase i t c k xs ys x y h = subst (λ p. BothOrNone (R p) (thing xs i) (thing ys i)) h.pop.phase (h.rs.phases i)

  pub task_alike : (s : Supply) (t : Task) (ts : List Task) (c : Core) (xs : Numbered A) (ys : Numbered B) → Orderly c → c.tasks ≡ t ∷ ts → Related R c xs ys → AlikeFor s t ts c xs ys
  task_alike s (Run i) ts c xs ys o top rs = (refl, refl, tt)
  task_alike s (Give i b v) ts c xs ys o top rs =
      let h = task_for i (Give i b v) ts c xs ys (give_of i b v) o top rs in
      give_alike i b v (thing xs i) (thing ys i) c (record c { tasks = ts }) xs ys h (by_phase i (Give i b v) c (record c { tasks = ts }) xs ys _ _ h)
  task_alike s (Throw i err) ts c xs ys o top rs =
      let h = task_for i (Throw i err) ts c xs ys (throw_of i err) o top rs in
      throw_alike i err (thing xs i) (thing ys i) c (record c { tasks = ts }) xs ys h (by_phase i (Throw i err) c (record c { tasks = ts }) xs ys _ _ h)
  task_alike s (Catch i err) ts c xs ys o top rs =
      let k = record c { tasks = ts } in
      let h = task_for i (Catch i err) ts c xs ys (catch_of i err) o top rs in
      (refl, refl, same_related i (Catch i err) Free c k (handle i err k) xs ys _ _ h (omega arith) (unless k.halted (handle_shifts i err k h.pop.awake)))
  task_alike s (Store i v) ts c xs ys o top rs =
      let h = task_for i (Store i v) ts c xs ys (store_of i v) o top rs in
      store_alike i v (thing xs i) (thing ys i) c (record c { tasks = ts }) xs ys h (by_phase i (Store i v) c (record c { tasks = ts }) xs ys _ _ h)
  task_alike s (Keep i spot r) ts c xs ys o top rs =
      let h = task_for i (Keep i spot r) ts c xs ys (keep_of i spot r) o top rs in
      keep_alike i spot r (thing xs i) (thing ys i) (thing c.entries i) c (record c { tasks = ts }) xs ys refl o.paired top h (by_phase i (Keep i spot r) c (record c { tasks = ts }) xs ys _ _ h)
  task_alike s (Close i v) ts c xs ys o top rs =
      close_alike i v (thing c.entries i) (thing xs i) (thing ys i) c (record c { tasks = ts }) xs ys (task_for i (Close i v) ts c xs ys (close_of i v) o top rs)
  task_alike s (Fire n) ts c xs ys o top rs =
      let k = record c { tasks = ts } in
      let m = fire (scan_of e.occ xs) n k in (
        ap (λ f. fire f n k) (scans xs ys rs.all),
        refl,
        unless_map m.halted (λ h. related_eased e d R sim c m xs ys rs (eases_on c k m (unmoved_eases c k (λ j. (refl, sym (ap (tasks_of j) top)))) h))
            (fire_eases (scan_of e.occ xs) n k o.numbered o.waiting),
      )
  task_alike s (Drop kind n) ts c xs ys o top rs =
      let k = record c { tasks = ts } in
      let m = drop (scan_of e.occ xs) kind n k in (
        ap (λ f. drop f kind n k) (scans xs ys rs.all),
        refl,
        unless_map m.halted (λ h. related_eased e d R sim c m xs ys rs (eases_on c k m (unmoved_eases c k (λ j. (refl, sym (ap (tasks_of j) top)))) h))
            (drop_eases (scan_of e.occ xs) kind n k o.numbered),
      )

  -- The process's answer to an ask of an actor, which is another afterwards.
  pub record Asked (i : ℕ) (p : Phase) (c k : Core) (xs : Numbered A) (ys : Numbered B) (a : A) (b : B) : Type 0 where
    pub pop : Popped i (Run i) c k
    pub rs : Related R c xs ys
    pub first : (a0 : A) × (thing xs i ≡ Some a0)
    pub second : (b0 : B) × (thing ys i ≡ Some b0)
    pub after : R p a b

  asked_related : (i : ℕ) (p : Phase) (c k m : Core) (xs : Numbered A) (ys : Numbered B) (a : A) (b : B) → Asked i p c k xs ys a b → Unless (Shifts i p k) m
      → Unless (λ m. Related R m (put xs i a) (put ys i b)) m
  asked_related i p c k m xs ys a b h s =
      unless_map m.halted (λ s. related_shifts e d R sim i p c m xs ys h.first.0 a h.second.0 b h.first.1 h.second.1 h.rs s h.after) (popped_shifts i (Run i) p c k m h.pop s)

  -- an actor is made, which is fresh for both
  made_alike : (i : ℕ) (p : Phase) (m : Core) (x : A) (y : B) (c k : Core) (xs : Numbered A) (ys : Numbered B) (a : A) (b : B) → Asked i p c k xs ys a b → R Free x y → Unless (StartsFor i p k) m
      → Unless (λ m. Related R m (added (put xs i a) (suc k.started) x) (added (put ys i b) (suc k.started) y)) m
  made_alike i p m x y c k xs ys a b h r =
      unless_map m.halted
      (λ s. let both = shifts_after i p c k m h.pop.others s.0 in
      related_new e d R sim (suc k.started) m m (put xs i a) (put ys i b) x y (related_shifts e d R sim i p c m xs ys h.first.0 a h.second.0 b h.first.1 h.second.1 h.rs both h.after)
      (λ j. omega arith) s.1 r)

  start_alike : (i : ℕ) (goal : Goal) (class : ℕ) (x : Option A) (y : Option B) (c k : Core) (xs : Numbered A) (ys : Numbered B) (a : A) (b : B) → Asked i Due c k xs ys a b → BothOrNone (R Free) x y
      → Matches (start e i goal class x (proc k (put xs i a))) (start d i goal class y (proc k (put ys i b)))
  start_alike i goal class None None c k xs ys a b h r = (refl, refl, tt)
  start_alike i goal class None (Some y) c k xs ys a b h r = absurd r
  start_alike i goal class (Some x) None c k xs ys a b h r = absurd r
  start_alike i goal class (Some x) (Some y) c k xs ys a b h r = (
    ap (λ name. start_core i goal class name k) (sim.label class),
    refl,
    made_alike i Due (start_core i goal class (e.label class) k) x y c k xs ys a b h r (start_shifts i goal class (e.label class) k h.pop.awake h.pop.rises),
  )

  alone_alike : (i class : ℕ) (x : Option A) (y : Option B) (c k : Core) (xs : Numbered A) (ys : Numbered B) (a : A) (b : B) → Asked i Free c k xs ys a b → BothOrNone (R Free) x y
      → Matches (start_alone e i class x (proc k (put xs i a))) (start_alone d i class y (proc k (put ys i b)))
  alone_alike i class None None c k xs ys a b h r = (refl, refl, tt)
  alone_alike i class None (Some y) c k xs ys a b h r = absurd r
  alone_alike i class (Some x) None c k xs ys a b h r = absurd r
  alone_alike i class (Some x) (Some y) c k xs ys a b h r = (
    ap (λ name. start_void i class name k) (sim.label class),
    refl,
    made_alike i Free (start_void i class (e.label class) k) x y c k xs ys a b h r (void_shifts i class (e.label class) k h.pop.awake h.pop.rises),
  )

  effect_alike : (s : Supply) (i : ℕ) (goal : Goal) (eff : Effect) (c k : Core) (xs : Numbered A) (ys : Numbered B) (a : A) (b : B) → Asked i Due c k xs ys a b
      → Matches (answer_effect e s i goal eff (proc k (put xs i a))) (answer_effect d s i goal eff (proc k (put ys i b)))
  effect_alike s i goal (Start class args) c k xs ys a b h = start_alike i goal class (e.fresh class args) (d.fresh class args) c k xs ys a b h (sim.fresh class args)
  effect_alike s i goal eff c k xs ys a b h = (refl, refl, asked_related i Due c k (react s i (Effects goal eff) k).0 xs ys a b h (react_shifts s i (Effects goal eff) k h.pop.awake h.pop.rises))

  pub answer_alike : (s : Supply) (i : ℕ) (act : Act) (c k : Core) (xs : Numbered A) (ys : Numbered B) (a : A) (b : B) → Asked i (phase_after act) c k xs ys a b
      → Matches (answer e s i act (proc k (put xs i a))) (answer d s i act (proc k (put ys i b)))
  answer_alike s i (Effects goal eff) c k xs ys a b h = effect_alike s i goal eff c k xs ys a b h
  answer_alike s i (Starts class args) c k xs ys a b h = alone_alike i class (e.fresh class args) (d.fresh class args) c k xs ys a b h (sim.fresh class args)
  answer_alike s i act c k xs ys a b h = (refl, refl, asked_related i (phase_after act) c k (react s i act k).0 xs ys a b h (react_shifts s i act k h.pop.awake h.pop.rises))
