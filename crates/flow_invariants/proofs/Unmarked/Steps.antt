-- Each step of a process that fits keeps each of its actors steady, or has it about to take its next step, unmarked.
use Rattle.std.proofs.Common.{◌≡◌, ◌⊎◌, inl, inr, ℕ, nat_eq, Bool, true, false, List, [], ◌∷◌, length, refl, sym, ap, subst, ◌∙◌, arith}
use Rattle.std.specs.Prelude.{slice_get}
use Rattle.std.specs.declared.option.Option.{Option}
use Rattle.std.specs.declared.option.Option.TheVariants.{None, Some}
use Rattle.flow_base.specs.ErrorNumbers.{operation_cancelled}
use Rattle.flow_tree.specs.Decls.{RoutineTree}
use Rattle.flow_value.specs.Values.{OutcomeTree, ValueTree, GoodOutcome, BadOutcome}
use Rattle.flow_class.specs.Classes.{ClassTree, RawTree}
use Rattle.flow_class.specs.Code.{callback_at}
use Rattle.flow_numbered.specs.Numbered.{Numbered, thing, put, removed}
use Rattle.flow_meaning.specs.Cells.{Ref}
use Rattle.flow_meaning.specs.Requests.{Spot, Act, Goes, Pass, Drops, Effects, Operand, Waits, Sends, Cancels, Prints, SendsTo, Returns, Throws, RunsOut, Stuck, Effect, Make, Start, Draw, Delay, Never, Listen, Disk, Goal, Ask, Supply, Starts}
use Rattle.flow_meaning.specs.Process.{Task, Run, Give, Throw, Catch, Store, Keep, Close, Fire, Drop, Entry, Halt, Core, Proc, Raised}
use Rattle.flow_meaning.specs.Lines.{throw_line, catch_line}
use Rattle.flow_meaning.specs.References.{scan_of}
use Rattle.flow_meaning.specs.Orderly.{Orderly, tasks_of, is_of, NextStep}
use Rattle.flow_meaning.specs.Dropping.{close, drop, fire}
use Rattle.flow_meaning.specs.Effects.{effect}
use Rattle.flow_meaning.specs.React.{react}
use Rattle.flow_meaning.specs.Work.{writes, pushed, take_branch, is_ready_at}
use Rattle.flow_meaning.specs.Step as steps
use Rattle.flow_meaning.specs.Step.{Stepped, proc, kept_by, view, start, answer_effect, answer, run_next, run, fate, throw_core, OperandFate, GoesOn, Cancelled, Ready as IsReady, verdict, with_operand, below, keep_by, keep, handle, close_actor, scanned, do_task, step_tasks, step_if, step, start_alone}
use Rattle.flow_meaning.specs.Frame.{Frame}
use Rattle.flow_meaning.specs.Class.{classes, class_names, next_step}
use Rattle.flow_meaning.proofs.Posture.{Unless, unless, unless_map, thing_put, thing_put_other, IsOf, own_task, other_task}
use Rattle.flow_meaning.proofs.Shifts.{run_of, give_of, throw_of, catch_of, store_of, keep_of, close_of, same_of}
use Rattle.flow_meaning.proofs.TaskShifts.{popped_at, next_below, below_unmoved}
use Rattle.flow_progress.specs.Places.{class_vars}
use Rattle.flow_progress.specs.Rules.{ClassRules}
use Rattle.flow_progress.specs.Asking.{AsksFit}
use Rattle.flow_progress.specs.Fitting.{CellTypes, typed_by, ProcessFits}
use Rattle.flow_progress.proofs.Asks.{next_fits}
use Rattle.flow_progress.proofs.KeptNone.{OfWait, AsksOfWaitAt, none_kept}
use Rattle.flow_progress.proofs.StepFits.{Actor, actor_here, cells_seen, frame_rules}
use Rattle.flow_invariants.proofs.Unmarked.Groups.{Begins}
use Rattle.flow_invariants.proofs.Unmarked.Steady.{Steps, NoOperand, Steady, S, by_number, kept, dropping_steady, leave_steady, branch_steady, drop_steady, fire_steady, close_steady}
use Rattle.flow_invariants.proofs.Unmarked.Acts.{Unkept, run_steady, throw_steady, effect_steady, start_steady, Unmarked, Asks, react_steady, void_steady}

-- an unmarked actor that takes its next step before anything else
pub record Ready (j : ℕ) (c : Core) : Type 0 where
  pub entry : Entry
  pub rest : List Task
  pub at : thing c.entries j ≡ Some entry
  pub unmarked : entry.marked ≡ false
  pub next : c.tasks ≡ Run j ∷ rest

abbrev pub Fine : ℕ → Core → Type 0
Fine j c = S j c ⊎ Ready j c

first_same : {t u : Task} {ts us : List Task} → t ∷ ts ≡ u ∷ us → t ≡ u
first_same h = cc

next_is : (i : ℕ) (ts : List Task) → NextStep i ts → (rest : List Task) × (ts ≡ Run i ∷ rest)
next_is i (Run k ∷ ts) h = (ts, ap (λ n. Run n ∷ ts) (sym h))
next_is i ts h = absurd h

fate_of : (i err : ℕ) (b : Bool) → IsOf i (fate i err b)
fate_of i err true = catch_of i err
fate_of i err false = close_of i (BadOutcome err)

module _ (j : ℕ) (r : RawTree) (actors : List RoutineTree) (rules : ClassRules r actors) (begins : (k : ℕ) (c : ClassTree) → slice_get r.classes k ≡ Some c → Begins c) (s : Supply) where
  abbrev Good : Stepped Frame → Type 0
  Good q = Unless (Fine j) q.0.core

  steady : (d : Core) → Unless (S j) d → Unless (Fine j) d
  steady d h = unless_map d.halted (λ x. inl x) h

  module _ (types : CellTypes) (c : Core) (xs : Numbered Frame) (o : Orderly c) (p : ProcessFits r types c xs) (h : Fine j c) where
    -- the newest task off the stack: another actor's
    other : (i : ℕ) (t : Task) (ts : List Task) (n : ℕ) → c.tasks ≡ t ∷ ts → IsOf i t → (i ≡ j → ⊥) → S j (record c { tasks = ts; left = n })
    other i t ts n top own diff = kept j c (record c { tasks = ts; left = n }) refl (sym (ap (tasks_of j) top ∙ other_task i j t ts own diff)) (by_fine h)
      where
        by_fine : Fine j c → S j c
        by_fine (inl x) = x
        by_fine (inr x) =
            let same : t ≡ Run j = first_same (sym top ∙ x.next) in
            let e : nat_eq i j ≡ true = subst (λ u. is_of i u ≡ true) same own.own in absurd (diff (grind (arith, e)))

    -- or nobody's
    nobody : (t : Task) (ts : List Task) (n : ℕ) → c.tasks ≡ t ∷ ts → ((i : ℕ) → t ≡ Run i → ⊥) → tasks_of j (t ∷ ts) ≡ tasks_of j ts → S j (record c { tasks = ts; left = n })
    nobody t ts n top unlike same = kept j c (record c { tasks = ts; left = n }) refl (sym (ap (tasks_of j) top ∙ same)) (by_fine h)
      where
        by_fine : Fine j c → S j c
        by_fine (inl x) = x
        by_fine (inr x) = absurd (unlike j (first_same (sym top ∙ x.next)))

    -- or its own
    popped : (i : ℕ) (t : Task) (ts : List Task) (n : ℕ) (a : Actor r types i t ts c xs) → c.tasks ≡ t ∷ ts → IsOf i t → (Steps (tasks_of i ts) → a.entry.operands ≡ [])
        → S j (record c { tasks = ts; left = n })
    popped i t ts n a top own none =
        by_number j i (S j (record c { tasks = ts; left = n }))
        (λ q. subst (λ m. Steady (thing c.entries m) (tasks_of m ts)) q (subst (λ x. Steady x (tasks_of i ts)) (sym a.at) ((λ m. a.awake), none))) (λ diff. other i t ts n top own diff)

    no_steps : (ts : List Task) → ts ≡ [] → Steps ts → ⊥
    no_steps [] q w = w
    no_steps (t ∷ ts) q w = cc

    -- an actor's step
    module _ (i : ℕ) (ts : List Task) (top : c.tasks ≡ Run i ∷ ts) (a : Actor r types i (Run i) ts c xs) where
      alone : tasks_of i ts ≡ []
      alone = (popped_at i c.left (Run i) ts c o top (run_of i)).rest

      -- it has an operand and waits, so it isn't marked
      clear : (a.entry.operands ≡ [] → ⊥) → i ≡ j → Unmarked (thing c.entries i)
      clear some q = subst Unmarked (sym a.at) (by_fine (subst (λ m. Fine m c) (sym q) h))
        where
          stepping : tasks_of i c.tasks ≡ Run i ∷ tasks_of i ts
          stepping = ap (tasks_of i) top ∙ own_task i (Run i) ts (run_of i)

          by_fine : Fine i c → a.entry.marked ≡ false
          by_fine (inl x) =
              let y : Steady (Some a.entry) (Run i ∷ tasks_of i ts) = subst (λ z. Steady z (Run i ∷ tasks_of i ts)) a.at (subst (Steady (thing c.entries i)) stepping x) in absurd (some (y.1 tt))
          by_fine (inr x) = let same : x.entry ≡ a.entry = same_of (sym x.at ∙ a.at) in subst (λ (e : Entry). e.marked ≡ false) same x.unmarked

      unkept : a.entry.operands ≡ [] → Unkept j i c
      unkept none q = subst (λ m. NoOperand (thing c.entries m)) q (subst NoOperand (sym a.at) none)

      -- a wait has operands
      waits_some : (g : Frame) (spot : Spot) (vs : List ValueTree)
          → AsksFit r (class_vars a.frame.code) (typed_by types) a.frame.code (view s i c).kept (Some (record { left = 0; act = Waits spot vs }), g) → a.entry.operands ≡ [] → ⊥
      waits_some g spot vs fit none =
          let kept : (view s i c).kept ≡ 0 = ap kept_by a.at ∙ ap length none in
          let code : g.code ≡ a.class = fit.1 ∙ a.doing.0 in
          let x = fit.0.2 fit.0.0.group fit.0.0.there in
          subst Begins (sym code) (begins a.entry.class a.class a.owner.is) g.block g.instr fit.0.0.group fit.0.0.there (subst (λ n. callback_at g.code fit.0.0.group n ≡ None) kept x)

      asks_of : (left : ℕ) (act : Act) (g : Frame) → AsksFit r (class_vars a.frame.code) (typed_by types) a.frame.code (view s i c).kept (Some (record { left = left; act = act }), g)
          → ((OfWait act → ⊥) → a.entry.operands ≡ [])
          → Asks j i act (record c { tasks = ts; left = left })
      asks_of left Goes g fit none = unkept (none (λ w. w))
      asks_of left Pass g fit none = unkept (none (λ w. w))
      asks_of left (Drops vs) g fit none = unkept (none (λ w. w))
      asks_of left (Effects goal eff) g fit none = tt
      asks_of left (Starts class args) g fit none = unkept (none (λ w. w))
      asks_of left (Operand spot q) g fit none = tt
      asks_of left (Waits spot vs) g fit none = clear (waits_some g spot vs fit)
      asks_of left (Sends k x) g fit none = unkept (none (λ w. w))
      asks_of left (Cancels k) g fit none = unkept (none (λ w. w))
      asks_of left (Prints v) g fit none = unkept (none (λ w. w))
      asks_of left (SendsTo q port text) g fit none = unkept (none (λ w. w))
      asks_of left (Returns v vs) g fit none = tt
      asks_of left (Throws e) g fit none = tt
      asks_of left RunsOut g fit none = tt
      asks_of left Stuck g fit none = tt

      module _ (left : ℕ) (ys : Numbered Frame) where
        abbrev now : Core
        now = record c { tasks = ts; left = left }

        steady_now : S j now
        steady_now = popped i (Run i) ts left a top (run_of i) (λ w. absurd (no_steps (tasks_of i ts) alone w))

        started : (goal : Goal) (class : ℕ) (x : Option Frame) → Good (start (classes r) i goal class x (proc now ys))
        started goal class None = tt
        started goal class (Some b) =
            let d = steps.start_core i goal class ((classes r).label class) now in steady d (start_steady j i goal class ((classes r).label class) now o.numbered steady_now)

        started_alone : (class : ℕ) (x : Option Frame) → Unkept j i now → Good (start_alone (classes r) i class x (proc now ys))
        started_alone class None none = tt
        started_alone class (Some b) none =
            let d = steps.start_void i class ((classes r).label class) now in steady d (void_steady j i class ((classes r).label class) now o.numbered none steady_now)

        by_effect : (goal : Goal) (eff : Effect) → Unless (Fine j) (effect s i goal eff now).0
        by_effect goal eff = steady (effect s i goal eff now).0 (effect_steady j s i goal eff now steady_now)

        effect_good : (goal : Goal) (eff : Effect) → Good (answer_effect (classes r) s i goal eff (proc now ys))
        effect_good goal (Start class args) = started goal class ((classes r).fresh class args)
        effect_good goal (Make kd) = by_effect goal (Make kd)
        effect_good goal (Draw lo hi) = by_effect goal (Draw lo hi)
        effect_good goal (Delay ticks) = by_effect goal (Delay ticks)
        effect_good goal Never = by_effect goal Never
        effect_good goal (Listen port) = by_effect goal (Listen port)
        effect_good goal (Disk call) = by_effect goal (Disk call)

        answer_good : (act : Act) → Asks j i act now → Good (answer (classes r) s i act (proc now ys))
        answer_good (Effects goal eff) asks = effect_good goal eff
        answer_good (Starts class args) asks = started_alone class ((classes r).fresh class args) asks
        answer_good act asks = steady (react s i act now).0 (react_steady j s i act now o.numbered alone asks steady_now)

      next_good : (q : Option Ask × Frame) → next_step (class_names r) (view s i c) a.frame ≡ q → AsksFit r (class_vars a.frame.code) (typed_by types) a.frame.code (view s i c).kept q
          → Good (run_next (classes r) s i ts q (proc c xs))
      next_good (None, g) e fit = unless c.halted h
      next_good (Some ask, g) e fit =
          let none = (λ (n : OfWait ask.act → ⊥). none_kept r types (class_names r) (view s i c) a.frame a.entry.operands a.doing.2 (λ w. n (subst (AsksOfWaitAt a.frame) e w).0)) in
          answer_good ask.left (put xs i g) ask.act (asks_of ask.left ask.act g fit none)

    run_good : (i : ℕ) (ts : List Task) → c.tasks ≡ Run i ∷ ts → Good (run (classes r) s i ts (thing xs i) (proc c xs))
    run_good i ts top =
        let a = actor_here r types i (Run i) ts c xs o top (run_of i) p in
        let f = a.frame in
        let v = view s i c in
        let fit = next_fits r actors (class_vars f.code) (typed_by types) v f (frame_rules r actors rules s types a.entry a.class f a.owner a.doing.0) rules.functions
        (cells_seen r types s i c xs p) a.doing.1 in
        subst (λ x. Good (run (classes r) s i ts x (proc c xs))) (sym a.stands) (next_good i ts top a (next_step (class_names r) v f) refl fit)

    module _ (ts : List Task) where
      abbrev after : Core
      after = record c { tasks = ts }

      give_good : (i b : ℕ) (v : OutcomeTree) (x : Option Frame) → c.tasks ≡ Give i b v ∷ ts → Good (steps.give (classes r) i b v x (proc after xs))
      give_good i b v None top = tt
      give_good i b v (Some f) top =
          let a = actor_here r types i (Give i b v) ts c xs o top (give_of i b v) p in
          let none : a.entry.operands ≡ [] = a.doing.2 in
          by_outcome v (popped i (Give i b v) ts c.left a top (give_of i b v) (λ w. none)) (λ q. subst (λ m. NoOperand (thing c.entries m)) q (subst NoOperand (sym a.at) none))
        where
          by_outcome : (v : OutcomeTree) → S j after → Unkept j i after → Good (steps.give (classes r) i b v (Some f) (proc after xs))
          by_outcome (BadOutcome err) w n = unless c.halted (inl (throw_steady j i err after w))
          by_outcome (GoodOutcome u) w n = unless c.halted (inl (dropping_steady j ((classes r).take b u f).0 (pushed (Run i) after) (run_steady j i after n w)))

      store_good : (i : ℕ) (v : ValueTree) (x : Option Frame) → c.tasks ≡ Store i v ∷ ts → Good (steps.store (classes r) i v x (proc after xs))
      store_good i v None top = tt
      store_good i v (Some f) top =
          let a = actor_here r types i (Store i v) ts c xs o top (store_of i v) p in
          unless c.halted (inl (dropping_steady j ((classes r).store v f).0 after (popped i (Store i v) ts c.left a top (store_of i v) (λ w. a.doing.3))))

      throw_good : (i err : ℕ) (x : Option Frame) → c.tasks ≡ Throw i err ∷ ts → Good (steps.throw (classes r) i err x (proc after xs))
      throw_good i err None top = tt
      throw_good i err (Some f) top = by_entry ((classes r).raise err f).0 (thing c.entries i)
        where
          by_entry : (z : Raised) (x : Option Entry) → Unless (Fine j) (throw_core i err z x after)
          by_entry z None = tt
          by_entry z (Some e) =
              unless c.halted (inl (leave_steady j i e z.values (fate i err z.caught) (writes (throw_line i err) after) (fate_of i err z.caught)
              (λ diff. other i (Throw i err) ts c.left top (throw_of i err) diff)))

      catch_good : (i err : ℕ) → c.tasks ≡ Catch i err ∷ ts → Unless (Fine j) (handle i err after)
      catch_good i err top =
          let a = actor_here r types i (Catch i err) ts c xs o top (catch_of i err) p in
          let none : a.entry.operands ≡ [] = a.doing.2 in
          unless c.halted
          (inl (run_steady j i (writes (catch_line i err) after) (λ q. subst (λ m. NoOperand (thing c.entries m)) q (subst NoOperand (sym a.at) none))
          (popped i (Catch i err) ts c.left a top (catch_of i err) (λ w. none))))

      keep_good : (i : ℕ) (spot : Spot) (q : Ref) (x : Option Frame) → c.tasks ≡ Keep i spot q ∷ ts → Good (keep (classes r) i spot q x (thing c.entries i) (proc after xs))
      keep_good i spot q x top = by_entry x (thing c.entries i) refl
        where
          step : NextStep i ts
          step = next_below i spot q c.tasks ts top o.paired

          others : (i ≡ j → ⊥) → S j after
          others diff = other i (Keep i spot q) ts c.left top (keep_of i spot q) diff

          under : Core
          under = record after { tasks = below ts }

          others_under : (i ≡ j → ⊥) → S j under
          others_under diff = kept j after under refl (below_unmoved i after step j diff).1 (others diff)

          by_verdict : (f : Frame) (e : Entry) (b : ℕ) (m ready : Bool) → thing c.entries i ≡ Some e → e.marked ≡ m
              → Good (keep_by (classes r) i b (verdict m ready) q (with_operand spot q e) f (proc after xs))
          by_verdict f e b true ready at is = unless c.halted (inl
              (leave_steady j i (with_operand spot q e) ((classes r).lose f).0 (Throw i operation_cancelled) under (throw_of i operation_cancelled) others_under))
          by_verdict f e b false true at is =
              let en = with_operand spot q e in
              let vs = ((classes r).lose f).0 in
              steady (take_branch i b q.1 en vs (thing under.cells q.1) under) (branch_steady j i b q.1 en vs (thing under.cells q.1) under others_under)
          by_verdict f e b false false at is = unless c.halted (by_number j i (Fine j held) (λ z. inr (own z))
              (λ diff. inl (kept j after held (thing_put_other c.entries i j (with_operand spot q e) diff) refl (others diff))))
            where
              held : Core
              held = record after { entries = put after.entries i (with_operand spot q e) }

              own : i ≡ j → Ready j held
              own z =
                  let n = next_is i ts step in
                  subst (λ m. Ready m held) z (record { entry = with_operand spot q e; rest = n.0; at = thing_put c.entries i e (with_operand spot q e) at; unmarked = is; next = n.1 })

          by_entry : (x : Option Frame) (y : Option Entry) → thing c.entries i ≡ y → Good (keep (classes r) i spot q x y (proc after xs))
          by_entry (Some f) (Some e) at = by_verdict f e (length e.operands) e.marked (is_ready_at (thing c.cells q.1)) at refl
          by_entry None y at = tt
          by_entry (Some f) None at = tt

      close_good : (i : ℕ) (v : OutcomeTree) → c.tasks ≡ Close i v ∷ ts → Good (close_actor (classes r) i v (thing c.entries i) (proc after xs))
      close_good i v top = by_entry (thing c.entries i)
        where
          by_entry : (x : Option Entry) → Good (close_actor (classes r) i v x (proc after xs))
          by_entry None = tt
          by_entry (Some e) =
              let scan = scan_of (classes r).occ (removed xs i) in
              steady (close scan i e.result v after) (close_steady j scan i e.result v after o.numbered (λ diff. other i (Close i v) ts c.left top (close_of i v) diff))

    abbrev MaybeGood : Option (Stepped Frame) → Type 0
    MaybeGood None = Unit {0}
    MaybeGood (Some q) = Good q

    tasks_good : (ts : List Task) → c.tasks ≡ ts → MaybeGood (step_tasks (classes r) s ts (proc c xs))
    tasks_good [] top = tt
    tasks_good (Run i ∷ ts) top = run_good i ts top
    tasks_good (Give i b v ∷ ts) top = give_good ts i b v (thing xs i) top
    tasks_good (Throw i err ∷ ts) top = throw_good ts i err (thing xs i) top
    tasks_good (Catch i err ∷ ts) top = catch_good ts i err top
    tasks_good (Store i v ∷ ts) top = store_good ts i v (thing xs i) top
    tasks_good (Keep i spot q ∷ ts) top = keep_good ts i spot q (thing xs i) top
    tasks_good (Close i v ∷ ts) top = close_good ts i v top
    tasks_good (Fire k ∷ ts) top =
        let d = record c { tasks = ts } in
        let scan = scanned (classes r) (proc d xs) in
        steady (fire scan k d) (fire_steady j scan k d o.numbered (nobody (Fire k) ts c.left top (λ i q. cc) refl))
    tasks_good (Drop kd k ∷ ts) top =
        let d = record c { tasks = ts } in
        let scan = scanned (classes r) (proc d xs) in
        steady (drop scan kd k d) (drop_steady j scan kd k d o.numbered (nobody (Drop kd k) ts c.left top (λ i q. cc) refl))

    if_good : (x : Option Halt) → MaybeGood (step_if (classes r) s x (proc c xs))
    if_good (Some x) = tt
    if_good None = tasks_good c.tasks refl

  pub step_fine : (types : CellTypes) (p : Proc Frame) (q : Stepped Frame) → Orderly p.core → ProcessFits r types p.core p.actors → Fine j p.core → step (classes r) s p ≡ Some q
      → Unless (Fine j) q.0.core
  step_fine types p q o f h e = subst (MaybeGood types p.core p.actors o f h) e (if_good types p.core p.actors o f h p.core.halted)
