-- The tasks of actors keep a process fitting, and have a meaning.
use Rattle.std.proofs.Common.{◌≡◌, ℕ, suc, ◌+◌, Bool, true, false, List, [], ◌∷◌, ◌++◌, length, ◌⊎◌, inl, inr, refl, sym, ◌∙◌, subst, arith}
use Rattle.std.specs.declared.option.Option.{Option}
use Rattle.std.specs.declared.option.Option.TheVariants.{None, Some}
use Rattle.flow_base.specs.ErrorNumbers.{operation_cancelled}
use Rattle.flow_tree.specs.Tree.{TypeTree}
use Rattle.flow_tree.specs.Decls.{RoutineTree}
use Rattle.flow_value.specs.Values.{ValueTree, RefValue, OutcomeTree, GoodOutcome, BadOutcome}
use Rattle.flow_class.specs.Classes.{CatcherTree, RawTree}
use Rattle.flow_class.specs.Code.{catcher_at, fetch}
use Rattle.flow_numbered.specs.Numbered.{Numbered, thing, put}
use Rattle.flow_meaning.specs.Cells.{Ref, Cell, is_ready}
use Rattle.flow_meaning.specs.Requests.{Spot, Supply}
use Rattle.flow_meaning.specs.Process.{Task, Run, Give, Throw, Catch, Store, Keep, Close, Entry, Core}
use Rattle.flow_meaning.specs.Lines.{throw_line, catch_line}
use Rattle.flow_meaning.specs.Work.{writes, pushed, running, dropping_values, leave_for, is_ready_at}
use Rattle.flow_meaning.specs.Step.{Stepped, proc, give, store, throw, throw_core, OperandFate, GoesOn, Cancelled, Ready, verdict, with_operand, below, keep_by, keep, handle}
use Rattle.flow_meaning.specs.Orderly.{tasks_of, NextStep, Orderly}
use Rattle.flow_meaning.specs.Frame.{Frame, everything, lose, raise, raised}
use Rattle.flow_meaning.specs.Class.{classes}
use Rattle.flow_meaning.proofs.Posture.{IsOf, thing_put_other, thing_put}
use Rattle.flow_meaning.proofs.Shifts.{run_of, give_of, throw_of, catch_of, store_of, keep_of, close_of}
use Rattle.flow_meaning.proofs.TaskShifts.{popped_at, next_below, below_unmoved}
use Rattle.flow_progress.specs.Places.{class_vars, HoldsTypes}
use Rattle.flow_progress.specs.Rules.{ClassRules}
use Rattle.flow_progress.specs.Asking.{NextOperand, HaveSome}
use Rattle.flow_progress.specs.Fitting.{CellTypes, typed_by, Fits, OperandsFit, Standing, Waiting, DoingFits, ActorFits, ActorAt, TasksFit, ProcessFits}
use Rattle.flow_progress.proofs.Asks.{everything_some}
use Rattle.flow_progress.proofs.Handed.{Onward, store_fits, lose_fits, take_fits, caught_standing, caught_waiting}
use Rattle.flow_progress.proofs.States.{Fine, fine_same, FitsBut, put_back, frame_but, actor_at, operands_exist, dropping_fits}
use Rattle.flow_progress.proofs.CellStates.{leave_state}
use Rattle.flow_progress.proofs.KeptNone.{SamePoint, next_moved, operands_moved}
use Rattle.flow_progress.proofs.HandFits.{HandFits, doing_actor, goes_by, branch_fits}
use Rattle.flow_progress.proofs.WaitFits.{operand_typed}
use Rattle.flow_progress.proofs.StepFits.{Actor, actor_here, After, frame_rules}
use Rattle.flow_progress.proofs.Registered.{awake_registered, entry_registered}

-- the operand that is kept last
operands_last : (r : RawTree) (types : CellTypes) (f : Frame) (n : ℕ) (qs : List Ref) (q : Ref) → OperandsFit r types f n (qs ++ q ∷ [])
    → (t : TypeTree) × NextOperand f (n + length qs) t × Fits r types (RefValue q.0 q.1) t
operands_last r types f n [] q h = let e : n ≡ n + 0 = omega arith in (h.0.0, subst (λ m. NextOperand f m h.0.0) e h.0.1, h.0.2)
operands_last r types f n (x ∷ qs) q h =
    let k = operands_last r types f (suc n) qs q h.1 in
    let e : suc n + length qs ≡ n + suc (length qs) = omega arith in
    (k.0, subst (λ m. NextOperand f m k.0) e k.1, k.2)

below_fit : (r : RawTree) (types : CellTypes) (i : ℕ) (ts : List Task) → NextStep i ts → TasksFit r types ts → TasksFit r types (below ts)
below_fit r types i (Run j ∷ ts) n h = h
below_fit r types i _ n h = absurd n

ready_cell : (o : Option Cell) → is_ready_at o ≡ true → (cell : Cell) × (o ≡ Some cell) × (is_ready cell ≡ true)
ready_cell None h = absurd cc
ready_cell (Some cell) h = (cell, refl, h)

module _ (r : RawTree) (actors : List RoutineTree) (rules : ClassRules r actors) (s : Supply) (types : CellTypes) (i : ℕ) (ts : List Task) (c : Core) (xs : Numbered Frame) (o : Orderly c)
    (go : c.halted ≡ None) (p : ProcessFits r types c xs) where
  abbrev Fits_after : Stepped Frame → Type 0
  Fits_after q = After r actors rules s types q

  abbrev popped_core : Core
  popped_core = record c { tasks = ts }

  -- with another frame
  put_hand : (t : Task) (a : Actor r types i t ts c xs) (g : Frame) → HandFits r types i popped_core (put xs i g) a.entry g a.class
  put_hand t a g = record { entry = a.at; awake = a.awake; frame = thing_put xs i a.frame g a.stands; owner = a.owner; rest = frame_but r types i popped_core xs g a.running o.waiting a.rest }

  same_hand : (t : Task) (a : Actor r types i t ts c xs) → HandFits r types i popped_core xs a.entry a.frame a.class
  same_hand t a = record { entry = a.at; awake = a.awake; frame = a.stands; owner = a.owner; rest = a.rest }

  no_operands : (g : Frame) (e : Entry) → e.operands ≡ [] → OperandsFit r types g 0 e.operands
  no_operands g e q = subst (OperandsFit r types g 0) (sym q) tt

  pub give_fits : (b : ℕ) (v : OutcomeTree) → c.tasks ≡ Give i b v ∷ ts → Fits_after (give (classes r) i b v (thing xs i) (proc popped_core xs))
  give_fits b v top = by_outcome v (actor_here r types i (Give i b v) ts c xs o top (give_of i b v) p)
    where
      by_outcome : (v : OutcomeTree) (a : Actor r types i (Give i b v) ts c xs) → Fits_after (give (classes r) i b v (thing xs i) (proc popped_core xs))
      by_outcome (BadOutcome err) a =
          subst (λ x. Fits_after (give (classes r) i b (BadOutcome err) x (proc popped_core xs))) (sym a.stands)
          (fine_same r types c.halted (pushed (Throw i err) popped_core) xs go
          (goes_by r types i (Throw i err) popped_core xs a.entry a.frame a.class (same_hand (Give i b (BadOutcome err)) a) (throw_of i err)
          (λ us. (a.doing.0, inr a.doing.1.waiting, no_operands a.frame a.entry a.doing.2))))
      by_outcome (GoodOutcome u) a =
          let f = a.frame in
          let d = a.doing.1 in
          let k = frame_rules r actors rules s types a.entry a.class f a.owner a.doing.0 in
          let out = take_fits r actors (class_vars f.code) (typed_by types) f k d.waiting b d.callback u d.takes d.there d.into d.outcome in
          let z = (classes r).take b u f in
          subst (λ x. Fits_after (give (classes r) i b (GoodOutcome u) x (proc popped_core xs))) (sym a.stands)
          (fine_same r types c.halted (dropping_values z.0 (pushed (Run i) popped_core)) (put xs i z.1) go (dropping_fits r types z.0 (pushed (Run i) popped_core) (put xs i z.1) out.1
          (goes_by r types i (Run i) popped_core (put xs i z.1) a.entry z.1 a.class (put_hand (Give i b (GoodOutcome u)) a z.1) (run_of i)
          (λ us. (out.2 ∙ a.doing.0, out.0, no_operands z.1 a.entry a.doing.2)))))

  pub store_keeps : (v : ValueTree) → c.tasks ≡ Store i v ∷ ts → Fits_after (store (classes r) i v (thing xs i) (proc popped_core xs))
  store_keeps v top =
      let a = actor_here r types i (Store i v) ts c xs o top (store_of i v) p in
      let pop = popped_at i c.left (Store i v) ts c o top (store_of i v) in
      let f = a.frame in
      let k = frame_rules r actors rules s types a.entry a.class f a.owner a.doing.0 in
      let out = store_fits r actors (class_vars f.code) (typed_by types) f k v a.doing.2.0 (fetch f.code f.block f.instr) a.doing.1 refl a.doing.2.1 a.doing.2.2 in
      let z = (classes r).store v f in
      let h = put_hand (Store i v) a z.1 in
      let state = put_back r types i popped_core (put xs i z.1) h.rest
      (actor_at r types a.entry z.1 (thing c.entries i) (thing (put xs i z.1) i) (tasks_of i ts) a.at h.frame
      (subst (ActorFits r types a.entry z.1) (sym pop.rest) (doing_actor r types a.entry z.1 a.class (Run i ∷ []) a.owner a.awake (out.2 ∙ a.doing.0, out.0, no_operands z.1 a.entry a.doing.3))))
      (awake_registered i c.entries c.cells a.entry a.at a.awake) in
      subst (λ x. Fits_after (store (classes r) i v x (proc popped_core xs))) (sym a.stands)
      (fine_same r types c.halted (dropping_values z.0 popped_core) (put xs i z.1) go (dropping_fits r types z.0 popped_core (put xs i z.1) out.1 state))

  pub catch_fits : (err : ℕ) → c.tasks ≡ Catch i err ∷ ts → Fine r types (handle i err popped_core).halted (handle i err popped_core) xs
  catch_fits err top =
      let a = actor_here r types i (Catch i err) ts c xs o top (catch_of i err) p in
      let d = writes (catch_line i err) popped_core in
      let b = a.rest in
      let h : HandFits r types i d xs a.entry a.frame a.class = record {
        entry = a.at;
        awake = a.awake;
        frame = a.stands;
        owner = a.owner;
        rest = record {
          cells = b.cells;
          waiting = b.waiting;
          actors = b.actors;
          work = b.work;
          ports = b.ports;
          main = b.main;
          requests = b.requests;
          numbered = b.numbered;
          framed = b.framed;
          registered = b.registered;
        };
      } in
      fine_same r types c.halted (pushed (Run i) d) xs go (goes_by r types i (Run i) d xs a.entry a.frame a.class h (run_of i) (λ us. (a.doing.0, a.doing.1, no_operands a.frame a.entry a.doing.2)))

  -- an error is thrown
  pub throw_fits : (err : ℕ) → c.tasks ≡ Throw i err ∷ ts → Fits_after (throw (classes r) i err (thing xs i) (proc popped_core xs))
  throw_fits err top =
      let a = actor_here r types i (Throw i err) ts c xs o top (throw_of i err) p in
      subst (λ x. Fits_after (throw (classes r) i err x (proc popped_core xs))) (sym a.stands)
      (subst (λ x. Fine r types (throw_core i err (raise err a.frame).0 x popped_core).halted (throw_core i err (raise err a.frame).0 x popped_core) (put xs i (raise err a.frame).1)) (sym a.at)
      (by_catcher a (catcher_at a.frame.code a.frame.block) refl))
    where
      holds_of : (f : Frame) → Standing r types f ⊎ Waiting r types f → HoldsTypes r.records (typed_by types) f.code f.mem
      holds_of f (inl h) = h.holds
      holds_of f (inr h) = h.holds

      -- the actor leaves with these values, and this is first to be done
      leaves : (a : Actor r types i (Throw i err) ts c xs) (g : Frame) (vs : List ValueTree) (t : Task) → IsOf i t → HaveSome r.records (typed_by types) vs
          → ((us : List Task) → DoingFits r types a.class (running a.entry) g (t ∷ us))
          → Fine r types c.halted (leave_for i a.entry vs t (writes (throw_line i err) popped_core)) (put xs i g)
      leaves a g vs t own some d =
          let h = put_hand (Throw i err) a g in
          let b = h.rest in
          let k = writes (throw_line i err) popped_core in
          let rest : FitsBut r types i k (put xs i g) = record {
            cells = b.cells;
            waiting = b.waiting;
            actors = b.actors;
            work = b.work;
            ports = b.ports;
            main = b.main;
            requests = b.requests;
            numbered = b.numbered;
            framed = b.framed;
            registered = b.registered;
          } in
          fine_same r types c.halted (leave_for i a.entry vs t k) (put xs i g) go
          (leave_state r types i a.entry a.entry vs t k (put xs i g) g rest a.at h.frame own (operands_exist r types a.frame 0 a.entry.operands a.doing.2) some
          (λ us. doing_actor r types (running a.entry) g a.class (t ∷ us) (record { is = a.owner.is; owns = a.owner.owns }) refl (d us)))

      caught : (a : Actor r types i (Throw i err) ts c xs) (x : CatcherTree) → catcher_at a.frame.code a.frame.block ≡ Some x → Standing r types a.frame ⊎ Waiting r types a.frame
          → Onward r actors (class_vars a.frame.code) (typed_by types) a.frame.code ((raised err a.frame (Some x)).0.values, (raised err a.frame (Some x)).1)
      caught a x q (inl h) = caught_standing r actors (class_vars a.frame.code) (typed_by types) a.frame (frame_rules r actors rules s types a.entry a.class a.frame a.owner a.doing.0) err x q h.holds
          h
      caught a x q (inr h) = caught_waiting r actors (class_vars a.frame.code) (typed_by types) a.frame (frame_rules r actors rules s types a.entry a.class a.frame a.owner a.doing.0) err x q h.holds h

      by_catcher : (a : Actor r types i (Throw i err) ts c xs) (x : Option CatcherTree) → catcher_at a.frame.code a.frame.block ≡ x
          → Fine r types (throw_core i err (raised err a.frame x).0 (Some a.entry) popped_core).halted (throw_core i err (raised err a.frame x).0 (Some a.entry) popped_core)
          (put xs i (raised err a.frame x).1)
      by_catcher a None q =
          leaves a (raised err a.frame None).1 (everything a.frame.mem) (Close i (BadOutcome err)) (close_of i (BadOutcome err))
          (everything_some r.records (typed_by types) a.frame.code a.frame.mem (holds_of a.frame a.doing.1)) (λ us. (tt, refl, refl))
      by_catcher a (Some x) q =
          let out = caught a x q a.doing.1 in
          leaves a (raised err a.frame (Some x)).1 (raised err a.frame (Some x)).0.values (Catch i err) (catch_of i err) out.1 (λ us. (out.2 ∙ a.doing.0, out.0, refl))

  -- an operand is kept
  pub keep_fits : (spot : Spot) (q : Ref) → c.tasks ≡ Keep i spot q ∷ ts → Fits_after (keep (classes r) i spot q (thing xs i) (thing c.entries i) (proc popped_core xs))
  keep_fits spot q top =
      let a = actor_here r types i (Keep i spot q) ts c xs o top (keep_of i spot q) p in
      subst (λ x. Fits_after (keep (classes r) i spot q x (thing c.entries i) (proc popped_core xs))) (sym a.stands)
      (subst (λ x. Fits_after (keep (classes r) i spot q (Some a.frame) x (proc popped_core xs))) (sym a.at)
      (by_verdict a (verdict a.entry.marked (is_ready_at (thing c.cells q.1))) (ready_of a.entry.marked (is_ready_at (thing c.cells q.1)))))
    where
      ready_of : (m b : Bool) → verdict m b ≡ Ready → b ≡ true
      ready_of true b h = absurd (no_ready h)
        where
          no_ready : Cancelled ≡ Ready → ⊥
          no_ready h = cc
      ready_of false true h = refl
      ready_of false false h = absurd (no_ready h)
        where
          no_ready : GoesOn ≡ Ready → ⊥
          no_ready h = cc

      -- the actor's step is off too
      stepless : (a : Actor r types i (Keep i spot q) ts c xs) (g : Frame) → FitsBut r types i (record popped_core { tasks = below ts }) (put xs i g)
      stepless a g =
          let b = (put_hand (Keep i spot q) a g).rest in
          let next = next_below i spot q c.tasks ts top o.paired in record {
            cells = b.cells;
            waiting = b.waiting;
            actors = λ j n. subst (ActorAt r types (thing c.entries j) (thing (put xs i g) j)) (sym (below_unmoved i popped_core next j n).1) (b.actors j n);
            work = below_fit r types i ts next b.work;
            ports = b.ports;
            main = b.main;
            requests = b.requests;
            numbered = b.numbered;
            framed = b.framed;
            registered = b.registered;
          }

      lost : (a : Actor r types i (Keep i spot q) ts c xs) → Waiting r types (lose a.frame).1 × HaveSome r.records (typed_by types) (lose a.frame).0
      lost a =
          let last = operands_last r types a.frame 0 a.entry.operands q a.doing.2 in
          lose_fits r actors (class_vars a.frame.code) (typed_by types) a.frame (frame_rules r actors rules s types a.entry a.class a.frame a.owner a.doing.0) last.1.group a.doing.1 last.1.there

      by_verdict : (a : Actor r types i (Keep i spot q) ts c xs) (v : OperandFate) → (v ≡ Ready → is_ready_at (thing c.cells q.1) ≡ true)
          → Fits_after (keep_by (classes r) i (length a.entry.operands) v q (with_operand spot q a.entry) a.frame (proc popped_core xs))
      by_verdict a GoesOn ready =
          let pop = popped_at i c.left (Keep i spot q) ts c o top (keep_of i spot q) in
          let e = with_operand spot q a.entry in
          let d = record popped_core { entries = put c.entries i e } in
          let b = a.rest in
          let rest : FitsBut r types i d xs = record {
            cells = b.cells;
            waiting = b.waiting;
            actors = λ j n. subst (λ x. ActorAt r types x (thing xs j) (tasks_of j ts)) (sym (thing_put_other c.entries i j e n)) (b.actors j n);
            work = b.work;
            ports = b.ports;
            main = b.main;
            requests = b.requests;
            numbered = b.numbered;
            framed = b.framed;
            registered = λ j n. entry_registered i j c.entries c.cells e n (b.registered j n);
          } in
          fine_same r types c.halted d xs go (put_back r types i d xs rest
          (actor_at r types e a.frame (thing (put c.entries i e) i) (thing xs i) (tasks_of i ts) (thing_put c.entries i a.entry e a.at) a.stands
          (subst (ActorFits r types e a.frame) (sym pop.rest) (doing_actor r types e a.frame a.class (Run i ∷ [])
          (record { is = a.owner.is; owns = a.owner.owns }) a.awake a.doing)))
          (awake_registered i (put c.entries i e) c.cells e (thing_put c.entries i a.entry e a.at) a.awake))
      by_verdict a Cancelled ready =
          let g = (lose a.frame).1 in
          let e = with_operand spot q a.entry in
          let z = lost a in
          let t = Throw i operation_cancelled in
          let k = record popped_core { tasks = below ts } in
          fine_same r types c.halted (leave_for i e (lose a.frame).0 t k) (put xs i g) go
          (leave_state r types i e a.entry (lose a.frame).0 t k (put xs i g) g (stepless a g) a.at (thing_put xs i a.frame g a.stands) (throw_of i operation_cancelled)
          (operands_exist r types a.frame 0 e.operands a.doing.2) z.1
          (λ us. doing_actor r types (running e) g a.class (t ∷ us) (record { is = a.owner.is; owns = a.owner.owns }) refl (a.doing.0, inr z.0, tt)))
      by_verdict a Ready ready =
          let g = (lose a.frame).1 in
          let e = with_operand spot q a.entry in
          let z = lost a in
          let k = record popped_core { tasks = below ts } in
          let last = operands_last r types a.frame 0 a.entry.operands q a.doing.2 in
          let zero_plus : 0 + length a.entry.operands ≡ length a.entry.operands = omega arith in
          let same : SamePoint a.frame g = (refl, refl, refl) in
          let next = next_moved a.frame g (length a.entry.operands) last.0 same (subst (λ m. NextOperand a.frame m last.0) zero_plus last.1) in
          let cell = ready_cell (thing c.cells q.1) (ready refl) in
          branch_fits r types i (length a.entry.operands) q.1 e a.entry (lose a.frame).0 k (put xs i g) g a.class last.0 cell.0 cell.1 cell.2 go a.at (thing_put xs i a.frame g a.stands) (stepless a g)
          (record { is = a.owner.is; owns = a.owner.owns }) a.doing.0 z.0 next
          (operand_typed r types a.frame (0 + length a.entry.operands) q last.0 last.1 last.2)
          (operands_moved r types a.frame g 0 e.operands same a.doing.2) z.1
