-- A fire leaves each cell with a reference.
use Rattle.std.proofs.Common.{◌≡◌, ℕ, Bool, true, false, List, [], ◌∷◌, refl, sym, ap, subst, arith}
use Rattle.std.specs.declared.option.Option.{Option}
use Rattle.std.specs.declared.option.Option.TheVariants.{None, Some}
use Rattle.flow_value.specs.Values.{OutcomeTree}
use Rattle.flow_class.specs.Classes.{RawTree}
use Rattle.flow_numbered.specs.Numbered.{Numbered, thing, put}
use Rattle.flow_meaning.specs.Cells.{FutureSide, Waiter, Cell, is_ready, waiters, taken, after_taking}
use Rattle.flow_meaning.specs.Process.{Task, Give, Fire, Entry, Core}
use Rattle.flow_meaning.specs.Orderly.{Orderly, AllWait, is_suspended, tasks_of}
use Rattle.flow_meaning.specs.Lines.{take_line}
use Rattle.flow_meaning.specs.Work.{writes, leave_for, give, take_branch}
use Rattle.flow_meaning.specs.Dropping.{fire_to, fire_at, fire_cell, fire}
use Rattle.flow_meaning.specs.Frame.{Frame}
use Rattle.flow_meaning.proofs.Posture.{Unless, unless, after_turn}
use Rattle.flow_meaning.proofs.Shifts.{cell_waits}
use Rattle.flow_heap_refinement.specs.Counted.{frames_hold}
use Rattle.flow_heap_refinement.specs.CellsTied.{CellsTied}
use Rattle.flow_heap_refinement.specs.Leaving.{RightKinds}
use Rattle.flow_progress.specs.Alone.{ResultsAlone}
use Rattle.flow_progress.specs.Fitting.{CellTypes, ActorAt, PostureFits, TasksFit, ProcessFits}
use Rattle.flow_invariants.proofs.Referenced.Onward.{Refers, refers_on}
use Rattle.flow_invariants.proofs.Referenced.Tasks.{right_kinds, swapped}
use Rattle.flow_invariants.proofs.Referenced.Ends.{given_onward}
use Rattle.flow_invariants.proofs.Referenced.Drops.{off_fits, lose_refers}

suspended_of : (o : Option Entry) → is_suspended o ≡ Some true → (e : Entry) × (o ≡ Some e) × (e.suspended ≡ true)
suspended_of None h = absurd cc
suspended_of (Some e) h = (e, refl, same e.suspended h)
  where
    same : (b : Bool) → Some b ≡ Some true → b ≡ true
    same b h = cc

module _ (k : ℕ) (r : RawTree) (types : CellTypes) (c : Core) (xs : Numbered Frame) (o : Orderly c) (p : ProcessFits r types c xs) (t : CellsTied c) (results : ResultsAlone c xs) (ts : List Task)
    (h : Refers k c xs) (j : ℕ) (top : c.tasks ≡ Fire j ∷ ts) where
  abbrev now : Core
  now = record c { tasks = ts }

  abbrev again : Core
  again = record c { tasks = Fire j ∷ ts }

  abbrev Fine : Core → Type 0
  Fine d = Unless (λ d. Refers k d xs) d

  ends : Fine (Rattle.flow_meaning.specs.Dropping.lose_ref (frames_hold xs) FutureSide j now)
  ends = lose_refers k r types c xs o p t results ts h FutureSide j (Fire j) top (λ z. refl) c.left
      (off_fits k r types c xs o p t results ts h c.left (subst (TasksFit r types) top p.work).1 (λ i. ap (tasks_of i) top))

  -- whoever waits has operands of the kinds of their cells
  kinds_of : (i : ℕ) (e : Entry) → thing c.entries i ≡ Some e → e.suspended ≡ true → RightKinds c.cells e.operands
  kinds_of i e at s = by_frame (thing xs i) (subst (λ z. ActorAt r types z (thing xs i) (tasks_of i c.tasks)) at (p.actors i))
    where
      by_frame : (x : Option Frame) → ActorAt r types (Some e) x (tasks_of i c.tasks) → RightKinds c.cells e.operands
      by_frame None f = absurd f
      by_frame (Some f) a = right_kinds r types c p.cells f 0 e.operands (subst (λ b. PostureFits r types b a.class e f (tasks_of i c.tasks)) s a.posture).2

  module _ (cell : Cell) (at : thing c.cells j ≡ Some cell) where
    takes : (i b : ℕ) (e : Entry) → thing c.entries i ≡ Some e → e.suspended ≡ true → Fine (take_branch i b j e [] (Some cell) again)
    takes i b e here s = after_turn (λ d. Refers k d xs) (λ d. give i b e [] (taken cell) (record (writes (take_line i e.spot.group b) d) { cells = put d.cells j (after_taking cell) })) again c.left
        (λ n. by_taken n (taken cell) refl)
      where
        by_taken : (n : ℕ) (x : Option OutcomeTree) → taken cell ≡ x
            → Fine (give i b e [] x (record (writes (take_line i e.spot.group b) (record again { left = n })) { cells = put c.cells j (after_taking cell) }))
        by_taken n None got = tt
        by_taken n (Some x) got =
            let d = record (writes (take_line i e.spot.group b) (record again { left = n })) { cells = put c.cells j (after_taking cell) } in
            let z = leave_for i e [] (Give i b x) d in
            let m = swapped k c xs ts (Fire j) (Fire j) top (λ s. omega arith) in
            let l = given_onward k again xs i b j e [] cell x n at got here t.agree (kinds_of i e here s) p.numbered in
            unless z.halted (refers_on k c xs z xs ((λ w. m.0 (l.0 w)), (λ s. let a = m.1 s in let b = l.1 s in omega (arith, a, b)), (λ w. m.2 (l.2 w))) h)

    sent : (w : Waiter) (ws : List Waiter) → waiters cell ≡ w ∷ ws → Fine (fire_to j cell w (thing c.entries w.actor) now)
    sent w ws q =
        let all : AllWait c.entries (w ∷ ws) = subst (AllWait c.entries) q (cell_waits c.entries c.cells j cell o.waiting at) in
        let e = suspended_of (thing c.entries w.actor) all.0 in
        subst (λ x. Fine (fire_to j cell w x now)) (sym e.1) (takes w.actor w.branch e.0 e.1 e.2)

    by_ready : (b : Bool) (ws : List Waiter) → waiters cell ≡ ws → Fine (fire_at (frames_hold xs) j cell b ws now)
    by_ready b [] q = ends
    by_ready false (w ∷ ws) q = ends
    by_ready true (w ∷ ws) q = sent w ws q

  pub fire_refers : Fine (fire (frames_hold xs) j now)
  fire_refers = by_cell (thing c.cells j) refl
    where
      by_cell : (x : Option Cell) → thing c.cells j ≡ x → Fine (fire_cell (frames_hold xs) j x now)
      by_cell None q = tt
      by_cell (Some cell) q = by_ready cell q (is_ready cell) (waiters cell) refl
