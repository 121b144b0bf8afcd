-- Each task leaves each cell of a process that fits with a reference, and each unmarked actor with a future of its result.
use Rattle.std.proofs.Common.{◌≡◌, ◌⊎◌, inl, inr, ℕ, Bool, true, false, List, [], ◌∷◌, refl, sym, ap, subst, ◌∙◌, arith}
use Rattle.flow_tree.specs.Decls.{RoutineTree}
use Rattle.flow_value.specs.Values.{ValueTree, OutcomeTree, GoodOutcome, BadOutcome}
use Rattle.flow_class.specs.Classes.{RawTree}
use Rattle.flow_class.specs.Code.{fetch, catcher_at}
use Rattle.flow_numbered.specs.Numbered.{Numbered, thing, put}
use Rattle.flow_meaning.specs.Cells.{Side}
use Rattle.flow_meaning.specs.Process.{Task, Run, Give, Throw, Catch, Store, Core}
use Rattle.flow_meaning.specs.References.{in_task}
use Rattle.flow_meaning.specs.Orderly.{Orderly}
use Rattle.flow_meaning.specs.Work.{pushed, writes, dropping_values, leave_for}
use Rattle.flow_meaning.specs.Lines.{throw_line}
use Rattle.flow_meaning.specs.Step as steps
use Rattle.flow_meaning.specs.Step.{proc, with_operand, below, fate, throw_core, OperandFate, GoesOn, Cancelled, Ready, verdict, keep_by, keep, handle, do_task}
use Rattle.flow_meaning.specs.Frame.{Frame, raised}
use Rattle.flow_meaning.specs.Class.{classes}
use Rattle.flow_meaning.proofs.Posture.{Unless, unless}
use Rattle.flow_meaning.proofs.Shifts.{give_of, throw_of, store_of}
use Rattle.flow_heap_refinement.specs.CellsTied.{CellsTied}
use Rattle.flow_progress.specs.Places.{class_vars, HoldsTypes}
use Rattle.flow_progress.specs.Rules.{ClassRules, KeepsRules}
use Rattle.flow_progress.specs.Fitting.{CellTypes, typed_by, Standing, Waiting, ProcessFits}
use Rattle.flow_progress.proofs.Handed.{has_place}
use Rattle.flow_progress.proofs.StepFits.{Actor, actor_here, frame_rules}
use Rattle.flow_invariants.proofs.Referenced.Onward.{Refers, refers_on}
use Rattle.flow_invariants.proofs.Referenced.Hands.{store_takes, take_takes, raise_takes}
use Rattle.flow_invariants.proofs.Referenced.Tasks.{right_kinds, Kept, now, swapped, handed_on, stored_on, leaves_on}

module _ (k : ℕ) (r : RawTree) (actors : List RoutineTree) (rules : ClassRules r actors) (types : CellTypes) (c : Core) (xs : Numbered Frame) (o : Orderly c) (p : ProcessFits r types c xs)
    (t : CellsTied c) (ts : List Task) (h : Refers k c xs) where
  abbrev After : steps.Stepped Frame → Type 0
  After q = Unless (λ d. Refers k d q.0.actors) q.0.core

  after_kept : (d : Core) (ys : Numbered Frame) → Kept k c xs ts d ys → Unless (λ d. Refers k d ys) d
  after_kept d ys f = unless d.halted (refers_on k c xs d ys f h)

  rules_of : (i : ℕ) (u : Task) (a : Actor r types i u ts c xs) → a.frame.code ≡ a.class → KeepsRules r actors a.frame.code (class_vars a.frame.code)
  rules_of i u a code = frame_rules r actors rules (record { now = 0; processes = 0; word = 0 }) types a.entry a.class a.frame a.owner code

  -- a handler begins
  pub catch_refers : (i err : ℕ) → c.tasks ≡ Catch i err ∷ ts → Unless (λ d. Refers k d xs) (handle i err (now k c xs ts))
  catch_refers i err top = after_kept (handle i err (now k c xs ts)) xs (swapped k c xs ts (Catch i err) (Run i) top (λ s. omega arith))

  -- a branch that was taken
  pub give_refers : (i b : ℕ) (v : OutcomeTree) → c.tasks ≡ Give i b v ∷ ts → After (steps.give (classes r) i b v (thing xs i) (proc (now k c xs ts) xs))
  give_refers i b v top = by_outcome v (actor_here r types i (Give i b v) ts c xs o top (give_of i b v) p) top
    where
      by_outcome : (v : OutcomeTree) (a : Actor r types i (Give i b v) ts c xs) → c.tasks ≡ Give i b v ∷ ts → After (steps.give (classes r) i b v (thing xs i) (proc (now k c xs ts) xs))
      by_outcome (BadOutcome err) a top =
          subst (λ x. After (steps.give (classes r) i b (BadOutcome err) x (proc (now k c xs ts) xs))) (sym a.stands)
          (after_kept (pushed (Throw i err) (now k c xs ts)) xs (swapped k c xs ts (Give i b (BadOutcome err)) (Throw i err) top (λ s. omega arith)))
      by_outcome (GoodOutcome u) a top =
          let f = a.frame in
          let d = a.doing.1 in
          let w = rules_of i (Give i b (GoodOutcome u)) a a.doing.0 in
          let z = (classes r).take b u f in
          subst (λ x. After (steps.give (classes r) i b (GoodOutcome u) x (proc (now k c xs ts) xs))) (sym a.stands)
          (after_kept (dropping_values z.0 (pushed (Run i) (now k c xs ts))) (put xs i z.1)
          (handed_on k c xs ts (Give i b (GoodOutcome u)) i f z.1 z.0 (Run i) top a.stands
          (λ s. take_takes r (typed_by types) (class_vars f.code) f w.places d.waiting.holds s k b u d.waiting.group d.callback d.waiting.there d.there
          (λ q e. (d.takes, sym (ap (Rattle.flow_progress.specs.Rules.takes_type f.code) e) ∙ d.into)))))

  -- the result of an effect
  pub store_refers : (i : ℕ) (v : ValueTree) → c.tasks ≡ Store i v ∷ ts → After (steps.store (classes r) i v (thing xs i) (proc (now k c xs ts) xs))
  store_refers i v top =
      let a = actor_here r types i (Store i v) ts c xs o top (store_of i v) p in
      let f = a.frame in
      let w = rules_of i (Store i v) a a.doing.0 in
      let z = (classes r).store v f in
      let d = a.doing.2 in
      subst (λ x. After (steps.store (classes r) i v x (proc (now k c xs ts) xs))) (sym a.stands)
      (after_kept (dropping_values z.0 (now k c xs ts)) (put xs i z.1)
      (stored_on k c xs ts (Store i v) i f z.1 z.0 top a.stands
      (λ s. let m = store_takes r (typed_by types) (class_vars f.code) f w.places a.doing.1.holds s k v d.0 (fetch f.code f.block f.instr) d.1
      (λ path e here none. has_place r actors (class_vars f.code) (typed_by types) f w v d.0 path e a.doing.1 here
      (subst (λ z. Rattle.flow_progress.specs.Asking.Stores r f.code (class_vars f.code) z d.0) here d.1) d.2 none) in
      let n = Rattle.flow_heap_refinement.proofs.Sums.count_joined s k (Rattle.flow_value.specs.Values.refs_of v) [] in omega (arith, m, n))))

  -- an error that is thrown
  holds_of : (f : Frame) → Standing r types f ⊎ Waiting r types f → HoldsTypes r.records (typed_by types) f.code f.mem
  holds_of f (inl z) = z.holds
  holds_of f (inr z) = z.holds

  pub throw_refers : (i err : ℕ) → c.tasks ≡ Throw i err ∷ ts → After (steps.throw (classes r) i err (thing xs i) (proc (now k c xs ts) xs))
  throw_refers i err top =
      let a = actor_here r types i (Throw i err) ts c xs o top (throw_of i err) p in
      let f = a.frame in
      let w = rules_of i (Throw i err) a a.doing.0 in
      let x = catcher_at f.code f.block in
      let z = raised err f x in
      let d = writes (throw_line i err) (now k c xs ts) in
      let u = fate i err z.0.caught in
      let m = leaves_on k c xs ts (Throw i err) i f z.1 a.entry z.0.values u d top a.stands
      (λ s. let n = raise_takes r (typed_by types) (class_vars f.code) f w.places (holds_of f a.doing.1) s k err x (λ y n e q. (w.catchers f.block y e).1 n q) in
      let v = no_task s z.0.caught in omega (arith, n, v)) (λ b. ((λ g. g), (λ s. omega arith), (λ g. g))) a.at t.agree (right_kinds r types c p.cells f 0 a.entry.operands a.doing.2) p.numbered in
      subst (λ x. After (steps.throw (classes r) i err x (proc (now k c xs ts) xs))) (sym a.stands)
      (subst (λ y. Unless (λ d. Refers k d (put xs i z.1)) (throw_core i err z.0 y (now k c xs ts))) (sym a.at) (after_kept (leave_for i a.entry z.0.values u d) (put xs i z.1) m))
    where
      no_task : (s : Side) (b : Bool) → in_task s k (fate i err b) ≡ 0
      no_task s true = refl
      no_task s false = refl
