-- Operands that are kept, ends of actors, fires and drops leave each cell with a reference.
use Rattle.std.proofs.Common.{◌≡◌, inr, ℕ, ◌+◌, ◌≤◌, false, List, [], ◌∷◌, ◌++◌, length, refl, sym, ap, subst, ◌∙◌, arith}
use Rattle.std.specs.declared.option.Option.{Option}
use Rattle.std.specs.declared.option.Option.TheVariants.{None, Some}
use Rattle.flow_base.specs.ErrorNumbers.{operation_cancelled}
use Rattle.flow_tree.specs.Decls.{RoutineTree}
use Rattle.flow_value.specs.Values.{ValueTree, OutcomeTree}
use Rattle.flow_class.specs.Classes.{RawTree}
use Rattle.flow_numbered.specs.Numbered.{Numbered, thing, put}
use Rattle.flow_meaning.specs.Cells.{Side, Ref, Cell, Single, Stream, taken, after_taking}
use Rattle.flow_meaning.specs.Process.{Task, Run, Give, Throw, Catch, Store, Keep, Close, Fire, Drop, Entry, Core}
use Rattle.flow_meaning.specs.References.{refs_in, count, count_kept, in_task}
use Rattle.flow_meaning.specs.Orderly.{Orderly, Rising, tasks_of}
use Rattle.flow_meaning.specs.Work.{writes, leave_for, take_branch, give, is_ready_at}
use Rattle.flow_meaning.specs.Lines.{take_line}
use Rattle.flow_meaning.specs.Step as steps
use Rattle.flow_meaning.specs.Step.{proc, with_operand, below, OperandFate, GoesOn, Cancelled, Ready, verdict, leave_kept, keep_by, keep, close_actor}
use Rattle.flow_meaning.specs.Frame.{Frame, lose}
use Rattle.flow_meaning.specs.Class.{classes}
use Rattle.flow_meaning.proofs.Order.{taking_waiters}
use Rattle.flow_meaning.proofs.Posture.{Unless, unless, after_turn, thing_put, each_number, thing_put_other}
use Rattle.flow_meaning.proofs.Shifts.{keep_of}
use Rattle.flow_heap_refinement.specs.Counted.{Agree, frames_hold, waiters_at}
use Rattle.flow_heap_refinement.specs.CellsTied.{CellsTied}
use Rattle.flow_heap_refinement.specs.Leaving.{wait_kind, RightKinds}
use Rattle.flow_heap_refinement.specs.References.{entry_holds}
use Rattle.flow_heap_refinement.proofs.Tidy.{agree_by}
use Rattle.flow_progress.specs.Fitting.{CellTypes, ProcessFits}
use Rattle.flow_invariants.proofs.Referenced.Onward.{IsThere, no_refs, refs, Wants, Onward, onward_on, Refers, refers_on, taking_onward, leave_onward, replaced_onward}

-- a cell that is taken from has the waiters that it had, and its kind
module _ (c : Core) (j : ℕ) (cell : Cell) (at : thing c.cells j ≡ Some cell) where
  abbrev less : Core
  less = record c { cells = put c.cells j (after_taking cell) }

  pub taken_agrees : Agree c → Agree less
  taken_agrees h =
      agree_by c less
      (each_number j (λ n. waiters_at (thing less.cells n) ≡ waiters_at (thing c.cells n))
      (ap waiters_at (thing_put c.cells j cell (after_taking cell) at) ∙ taking_waiters cell ∙ sym (ap waiters_at at))
      (λ n o. ap waiters_at (thing_put_other c.cells j n (after_taking cell) o))) (λ i. refl) h

  same_kind : (cell : Cell) → wait_kind (Some (after_taking cell)) ≡ wait_kind (Some cell)
  same_kind (Single o ws) = refl
  same_kind (Stream [] e w) = refl
  same_kind (Stream (v ∷ vs) e w) = refl

  pub taken_kinds : (qs : List Ref) → RightKinds c.cells qs → RightKinds less.cells qs
  taken_kinds [] h = tt
  taken_kinds (q ∷ qs) h = (
    h.0
        ∙ each_number j (λ n. wait_kind (thing c.cells n) ≡ wait_kind (thing less.cells n))
        (ap wait_kind at ∙ sym (same_kind cell) ∙ sym (ap wait_kind (thing_put c.cells j cell (after_taking cell) at)))
        (λ n o. ap wait_kind (sym (thing_put_other c.cells j n (after_taking cell) o))) q.1,
    taken_kinds qs h.1,
  )

-- a branch is taken: from the same process, whose actor leaves with these values
module _ (k : ℕ) (c : Core) (xs : Numbered Frame) (i b j : ℕ) (e : Entry) (vs : List ValueTree) where
  pub given_onward : (cell : Cell) (o : OutcomeTree) (m : ℕ) → thing c.cells j ≡ Some cell → taken cell ≡ Some o → thing c.entries i ≡ Some e → Agree c → RightKinds c.cells e.operands
      → Rising 0 c.made c.cells
      → (let d = record (writes (take_line i e.spot.group b) (record c { left = m })) { cells = put c.cells j (after_taking cell) } in
      Onward k (λ s. count s k (refs_in vs)) no_refs c xs (leave_for i e vs (Give i b o) d) xs)
  given_onward cell o m at got entry agree kinds up =
      let d = record (writes (take_line i e.spot.group b) (record c { left = m })) { cells = put c.cells j (after_taking cell) } in
      let a = taking_onward k j cell o c xs at got in
      let l = leave_onward k i e vs (Give i b o) d xs entry (taken_agrees c j cell at agree) (taken_kinds c j cell at e.operands kinds)
      (Rattle.flow_meaning.proofs.Order.rising_put c.cells 0 c.made j (after_taking cell) up) in
      ((λ z. a.0 (l.0 z)), (λ s. let x = a.1 s in let y = l.1 s in let w : in_task s k (Give i b o) ≡ in_task s k (Give 0 0 o) = refl in omega (arith, x, y, w)), (λ w. a.2 (l.2 w)))

module _ (k : ℕ) (r : RawTree) (actors : List RoutineTree) (rules : Rattle.flow_progress.specs.Rules.ClassRules r actors) (types : CellTypes) (c : Core) (xs : Numbered Frame) (o : Orderly c)
    (p : ProcessFits r types c xs) (t : CellsTied c) (ts : List Task) (h : Refers k c xs) where
  abbrev now : Core
  now = record c { tasks = ts }

  abbrev Fine : Core → Numbered Frame → Type 0
  Fine d ys = Unless (λ d. Refers k d ys) d

  fine_on : (d : Core) (ys : Numbered Frame) → Onward k no_refs no_refs c xs d ys → Fine d ys
  fine_on d ys f = unless d.halted (refers_on k c xs d ys f h)

  -- the actor leaves with what its frame lost
  lost_frame : (i : ℕ) (f : Frame) → thing xs i ≡ Some f → (a : Side → ℕ) → Onward k a (λ s. count s k (refs_in (lose f).0) + a s) now xs now (put xs i (lose f).1)
  lost_frame i f at a =
      Rattle.flow_invariants.proofs.Referenced.Onward.frame_onward k a (λ s. count s k (refs_in (lose f).0) + a s) i f (lose f).1 now xs at
      (λ s. let m = Rattle.flow_heap_refinement.proofs.Holding.of_all_locals s k f.mem in omega (arith, m))

  -- an operand is kept
  kept_holds : (s : Side) (spot : _) (q : Ref) (e : Entry) → e.suspended ≡ false → entry_holds s k e + in_task s k (Keep 0 spot q) ≤ entry_holds s k (with_operand spot q e)
  kept_holds s spot q e awake =
      let a = ap (λ b. count_kept s k b e.operands) awake in
      let b = ap (λ b. count_kept s k b (e.operands ++ q ∷ [])) awake in
      let d = Rattle.flow_heap_refinement.proofs.Sums.count_joined s k e.operands (q ∷ []) in omega (arith, a, b, d)

  -- nothing but the actor's next step is taken from below
  below_onward : (i : ℕ) (us : List Task) (ys : Numbered Frame) → Rattle.flow_meaning.specs.Orderly.NextStep i us → (b : Side → ℕ)
      → Onward k b b (record c { tasks = us }) ys (record c { tasks = below us }) ys
  below_onward i [] ys n b = absurd n
  below_onward i (Run j ∷ us) ys n b =
      let m = Rattle.flow_invariants.proofs.Referenced.Onward.pop_onward k (Run j) us (record c { tasks = Run j ∷ us }) ys refl in
      (m.0, (λ s. let x = m.1 s in let z : in_task s k (Run j) ≡ 0 = refl in omega (arith, x, z)), m.2)
  below_onward i (Give j b o ∷ us) ys n g = absurd n
  below_onward i (Throw j e ∷ us) ys n g = absurd n
  below_onward i (Catch j e ∷ us) ys n g = absurd n
  below_onward i (Store j v ∷ us) ys n g = absurd n
  below_onward i (Keep j spot q ∷ us) ys n g = absurd n
  below_onward i (Close j o ∷ us) ys n g = absurd n
  below_onward i (Fire j ∷ us) ys n g = absurd n
  below_onward i (Drop kd j ∷ us) ys n g = absurd n

  module _ (i : ℕ) (spot : _) (q : Ref) (top : c.tasks ≡ Keep i spot q ∷ ts) where
    task : Side → ℕ
    task s = in_task s k (Keep i spot q)

    popped : Onward k no_refs (λ s. in_task s k (Keep i spot q)) c xs now xs
    popped = Rattle.flow_invariants.proofs.Referenced.Onward.pop_onward k (Keep i spot q) ts c xs top

    next_there : Rattle.flow_meaning.specs.Orderly.NextStep i ts
    next_there = (subst Rattle.flow_meaning.specs.Orderly.Paired top o.paired).0

    -- one more is kept
    goes_on : (e : Entry) → thing c.entries i ≡ Some e → e.suspended ≡ false → Fine (record now { entries = put c.entries i (with_operand spot q e) }) xs
    goes_on e at awake =
        let a : Side → ℕ = λ s. in_task s k (Keep i spot q) in
        let d = record now { entries = put c.entries i (with_operand spot q e) } in
        let m = Rattle.flow_invariants.proofs.Referenced.Onward.entry_onward k a no_refs i e (with_operand spot q e) now xs at (inr (refl, refl))
        (λ s. let n = kept_holds s spot q e awake in omega (arith, n)) in
        fine_on d xs (onward_on k no_refs a no_refs c xs now xs d xs popped m)

    -- the actor leaves its wait with what its frame lost: by a task that holds nothing, or by a branch that it takes
    module _ (e : Entry) (f : Frame) (at : thing c.entries i ≡ Some e) (awake : e.suspended ≡ false) (stands : thing xs i ≡ Some f) (kinds : RightKinds c.cells (e.operands ++ q ∷ [])) where
      abbrev kept : Entry
      kept = with_operand spot q e

      abbrev low : Core
      low = record c { tasks = below ts }

      abbrev ys : Numbered Frame
      ys = put xs i (lose f).1

      agree : Agree (record c { entries = put c.entries i kept })
      agree = Rattle.flow_invariants.proofs.Referenced.Tasks.agree_put c i e kept at
          (ap (λ b. Rattle.flow_heap_refinement.specs.Counted.waiting_by b (e.operands ++ q ∷ [])) awake ∙ sym (ap (λ b. Rattle.flow_heap_refinement.specs.Counted.waiting_by b e.operands) awake))
          t.agree

      -- so far: the tasks are off, the frame has lost
      so_far : Onward k no_refs (λ s. count s k (refs_in (lose f).0) + in_task s k (Keep i spot q)) c xs low ys
      so_far =
          let a : Side → ℕ = λ s. in_task s k (Keep i spot q) in
          let b : Side → ℕ = λ s. count s k (refs_in (lose f).0) + in_task s k (Keep i spot q) in
          onward_on k no_refs b b c xs now ys low ys (onward_on k no_refs a b c xs now xs now ys popped (lost_frame i f stands a)) (below_onward i ts ys next_there b)

      cancelled_on : Fine (leave_for i kept (lose f).0 (Throw i operation_cancelled) low) ys
      cancelled_on =
          let a : Side → ℕ = λ s. in_task s k (Keep i spot q) in
          let b : Side → ℕ = λ s. count s k (refs_in (lose f).0) + in_task s k (Keep i spot q) in
          let d = leave_for i kept (lose f).0 (Throw i operation_cancelled) low in
          let m = replaced_onward k a i e kept (lose f).0 (Throw i operation_cancelled) low ys at (inr (refl, refl)) (λ s. kept_holds s spot q e awake) agree kinds p.numbered in
          fine_on d ys (onward_on k no_refs b no_refs c xs low ys d ys so_far (m.0, (λ s. let x = m.1 s in omega (arith, x)), m.2))

      -- the operand that is kept is the branch that is taken
      taken_on : (b : ℕ) (x : Option Cell) → thing c.cells q.1 ≡ x → Fine (take_branch i b q.1 kept (lose f).0 x low) ys
      taken_on b None found = tt
      taken_on b (Some cell) found = after_turn (λ d. Refers k d ys)
          (λ d. give i b kept (lose f).0 (taken cell) (record (writes (take_line i kept.spot.group b) d) { cells = put d.cells q.1 (after_taking cell) })) low c.left
          (λ n. by_taken n (taken cell) refl)
        where
          by_taken : (n : ℕ) (o : Option OutcomeTree) → taken cell ≡ o
              → Fine (give i b kept (lose f).0 o (record (writes (take_line i kept.spot.group b) (record low { left = n })) { cells = put c.cells q.1 (after_taking cell) })) ys
          by_taken n None got = tt
          by_taken n (Some o) got =
              let a : Side → ℕ = λ s. in_task s k (Keep i spot q) in
              let g : Side → ℕ = λ s. count s k (refs_in (lose f).0) + in_task s k (Keep i spot q) in
              let d = record (writes (take_line i kept.spot.group b) (record low { left = n })) { cells = put c.cells q.1 (after_taking cell) } in
              let z = leave_for i kept (lose f).0 (Give i b o) d in
              let m = taking_onward k q.1 cell o low ys found got in
              let l = replaced_onward k a i e kept (lose f).0 (Give i b o) d ys at (inr (refl, refl)) (λ s. kept_holds s spot q e awake)
              (taken_agrees (record c { entries = put c.entries i kept }) q.1 cell found agree) (taken_kinds c q.1 cell found kept.operands kinds)
              (Rattle.flow_meaning.proofs.Order.rising_put c.cells 0 c.made q.1 (after_taking cell) p.numbered) in
              fine_on z ys (onward_on k no_refs g no_refs c xs low ys z ys so_far
              ((λ w. m.0 (l.0 w)), (λ s. let x = m.1 s in let y = l.1 s in let w : in_task s k (Give i b o) ≡ in_task s k (Give 0 0 o) = refl in omega (arith, x, y, w)), (λ w. m.2 (l.2 w))))

      by_verdict : (b : ℕ) (v : OperandFate) → Fine (keep_by (classes r) i b v q kept f (proc now xs)).0.core (keep_by (classes r) i b v q kept f (proc now xs)).0.actors
      by_verdict b GoesOn = goes_on e at awake
      by_verdict b Cancelled = cancelled_on
      by_verdict b Ready = taken_on b (thing c.cells q.1) refl

    abbrev Kept_on : steps.Stepped Frame → Type 0
    Kept_on z = Fine z.0.core z.0.actors

    pub keep_refers : Kept_on (keep (classes r) i spot q (thing xs i) (thing c.entries i) (proc now xs))
    keep_refers =
        let a = Rattle.flow_progress.proofs.StepFits.actor_here r types i (Keep i spot q) ts c xs o top (keep_of i spot q) p in
        subst (λ x. Kept_on (keep (classes r) i spot q x (thing c.entries i) (proc now xs))) (sym a.stands)
        (subst (λ x. Kept_on (keep (classes r) i spot q (Some a.frame) x (proc now xs))) (sym a.at)
        (by_verdict a.entry a.frame a.at a.awake a.stands (Rattle.flow_invariants.proofs.Referenced.Tasks.right_kinds r types c p.cells a.frame 0 (a.entry.operands ++ q ∷ []) a.doing.2)
        (length a.entry.operands) (verdict a.entry.marked (is_ready_at (thing c.cells q.1)))))
