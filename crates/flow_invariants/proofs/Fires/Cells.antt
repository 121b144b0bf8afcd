-- What a process does to its cells leaves nobody without a fire.
use Rattle.std.proofs.Common.{◌≡◌, inl, inr, ℕ, suc, nat_eq, Bool, true, false, List, [], ◌∷◌, if◌then◌else◌, refl, sym, ap, ◌∙◌, subst, arith}
use Rattle.std.proofs.lemmas.Bool.{and_parts, and_from}
use Rattle.std.specs.Option.{option_map}
use Rattle.std.specs.declared.option.Option.{Option}
use Rattle.std.specs.declared.option.Option.TheVariants.{None, Some}
use Rattle.flow_base.specs.ErrorNumbers.{operation_cancelled, second_waiter}
use Rattle.flow_value.specs.Values.{ValueTree, OutcomeTree}
use Rattle.flow_numbered.specs.Numbered.{Numbered, thing, added, put, removed}
use Rattle.flow_meaning.specs.Cells.{Ref, Waiter, Cell, Single, Stream, is_busy, is_ready, waiters, taken, after_taking, with_waiter, without, without_one, as_list, left_by, filled, held}
use Rattle.flow_meaning.specs.Requests.{Spot}
use Rattle.flow_meaning.specs.Process.{Task, Run, Give, Throw, Catch, Store, Keep, Close, Fire, Drop, Entry, Core}
use Rattle.flow_meaning.specs.Lines.{take_line, cancel_line}
use Rattle.flow_meaning.specs.References.{refs_in}
use Rattle.flow_meaning.specs.Orderly.{Rising}
use Rattle.flow_meaning.specs.React.{at_spot, suspend, wait_by, wait}
use Rattle.flow_meaning.specs.Work.{drops, fill_cell, fill, free_cell, free, leave_for, give, take_branch, is_ready_at, first_ready, Registration, Registered, Refused, Missing, register_at, register, marked, cancel_by, cancel, cancel_owner, writes}
use Rattle.flow_meaning.proofs.Posture.{Unless, unless, after_turn, each_number, thing_put, thing_put_other, thing_removed_other, thing_added}
use Rattle.flow_meaning.proofs.InOrder.{no_thing}
use Rattle.flow_heap_refinement.proofs.Finds.{thing_new, none_above, thing_removed}
use Rattle.flow_heap_refinement.proofs.Left.{found_left}
use Rattle.flow_invariants.specs.Fires.{some_wait, is_due, Fires}

no_true : false ≡ true → ⊥
no_true e = cc

-- nobody is due where nobody waits, or where the cell isn't ready
pub alone : (cell : Cell) → waiters cell ≡ [] → is_due (Some cell) ≡ true → ⊥
alone cell none e = no_true (sym (ap some_wait none) ∙ (and_parts (is_ready cell) (some_wait (waiters cell)) e).1)

pub unready : (cell : Cell) → is_ready cell ≡ false → is_due (Some cell) ≡ true → ⊥
unready cell not e = no_true (sym not ∙ (and_parts (is_ready cell) (some_wait (waiters cell)) e).0)

-- a cell at which nobody more waits, and which is ready only where it was
less : (old new : Cell) → (is_ready new ≡ true → is_ready old ≡ true) → (some_wait (waiters new) ≡ true → some_wait (waiters old) ≡ true) → is_due (Some new) ≡ true → is_due (Some old) ≡ true
less old new ready wait e =
    let both = and_parts (is_ready new) (some_wait (waiters new)) e in
    and_from (is_ready old) (some_wait (waiters old)) (ready both.0) (wait both.1)

-- a cell is taken from, or left by an actor
less_taken : (cell : Cell) → is_due (Some (after_taking cell)) ≡ true → is_due (Some cell) ≡ true
less_taken (Single o ws) e = e
less_taken (Stream [] x w) e = e
less_taken (Stream (v ∷ vs) x w) e = less (Stream (v ∷ vs) x w) (Stream vs x w) (λ r. refl) (λ s. s) e

fewer : (ws : List Waiter) (i : ℕ) → some_wait (without ws i) ≡ true → some_wait ws ≡ true
fewer [] i e = e
fewer (w ∷ ws) i e = refl

maybe_fewer : (o : Option Waiter) (i : ℕ) → some_wait (as_list (without_one o i)) ≡ true → some_wait (as_list o) ≡ true
maybe_fewer None i e = e
maybe_fewer (Some w) i e = refl

same_ready : (queue : List ValueTree) (x : Option ℕ) (v w : Option Waiter) → is_ready (Stream queue x v) ≡ true → is_ready (Stream queue x w) ≡ true
same_ready [] x v w e = e
same_ready (u ∷ us) x v w e = refl

less_left : (i : ℕ) (x : Option Cell) → is_due (option_map (left_by i) x) ≡ true → is_due x ≡ true
less_left i None e = e
less_left i (Some (Single o ws)) e = less (Single o ws) (Single o (without ws i)) (λ r. r) (fewer ws i) e
less_left i (Some (Stream q x w)) e = less (Stream q x w) (Stream q x (without_one w i)) (same_ready q x (without_one w i) w) (maybe_fewer w i) e

-- one more waits
ready_with : (cell : Cell) (w : Waiter) → is_ready (with_waiter cell w) ≡ is_ready cell
ready_with (Single o ws) w = refl
ready_with (Stream [] x v) w = refl
ready_with (Stream (u ∷ us) x v) w = refl

-- what is ready after a waiter came was ready
ready_put : (j : ℕ) (cell : Cell) (w : Waiter) (cells : Numbered Cell) → thing cells j ≡ Some cell → (n : ℕ) → is_ready_at (thing (put cells j (with_waiter cell w)) n) ≡ is_ready_at (thing cells n)
ready_put j cell w cells at =
    each_number j (λ n. is_ready_at (thing (put cells j (with_waiter cell w)) n) ≡ is_ready_at (thing cells n))
    (ap is_ready_at (thing_put cells j cell (with_waiter cell w) at) ∙ ready_with cell w ∙ sym (ap is_ready_at at))
    (λ n other. ap is_ready_at (thing_put_other cells j n (with_waiter cell w) other))

-- operands that aren't ready
abbrev AllUnready : Numbered Cell → List Ref → Type 0
AllUnready cells [] = Unit {0}
AllUnready cells (q ∷ qs) = (is_ready_at (thing cells q.1) ≡ false) × AllUnready cells qs

none_ready : (cells : Numbered Cell) (b : ℕ) (qs : List Ref) → first_ready cells b qs ≡ None → AllUnready cells qs
none_ready cells b [] e = tt
none_ready cells b (q ∷ qs) e = by_test (is_ready_at (thing cells q.1)) refl e (none_ready cells (suc b) qs)
  where
    by_test : (t : Bool) → is_ready_at (thing cells q.1) ≡ t → (if t then Some (b, q.1) else first_ready cells (suc b) qs) ≡ None → (first_ready cells (suc b) qs ≡ None → AllUnready cells qs)
        → AllUnready cells (q ∷ qs)
    by_test true g f rest = absurd (no_thing (sym f))
    by_test false g f rest = (g, rest f)

still_unready : (j : ℕ) (cell : Cell) (w : Waiter) (cells : Numbered Cell) → thing cells j ≡ Some cell → (qs : List Ref) → AllUnready cells qs → AllUnready (put cells j (with_waiter cell w)) qs
still_unready j cell w cells at [] u = tt
still_unready j cell w cells at (q ∷ qs) u = (ready_put j cell w cells at q.1 ∙ u.0, still_unready j cell w cells at qs u.1)

module _ (k : ℕ) where
  -- whoever waits at this cell, if it is ready, is owed a fire
  abbrev pub P : Core → Type 0
  P c = is_due (thing c.cells k) ≡ true → Fires k c.tasks

  -- more tasks
  pub more : (t : Task) (ts : List Task) → Fires k ts → Fires k (t ∷ ts)
  more (Run i) ts f = f
  more (Give i b o) ts f = f
  more (Throw i e) ts f = f
  more (Catch i e) ts f = f
  more (Store i v) ts f = f
  more (Keep i spot r) ts f = f
  more (Close i o) ts f = f
  more (Fire j) ts f = inr f
  more (Drop kd j) ts f = f

  pub under_drops : (rs : List Ref) (ts : List Task) → Fires k ts → Fires k (drops rs ts)
  under_drops [] ts f = f
  under_drops (r ∷ rs) ts f = under_drops rs ts f

  -- this cell or another
  by_number : (j : ℕ) (X : Type 0) → ((j ≡ k) → X) → ((j ≡ k → ⊥) → X) → X
  by_number j X same other = by_test (nat_eq j k) refl
    where
      by_test : (b : Bool) → nat_eq j k ≡ b → X
      by_test true e = same (grind (arith, e))
      by_test false e = other (λ q. let f : ⊥ = grind (arith, e, q) in f)

  put_due : (j : ℕ) (cell new : Cell) (cells : Numbered Cell) → thing cells j ≡ Some cell → (is_due (Some new) ≡ true → is_due (Some cell) ≡ true) → is_due (thing (put cells j new) k) ≡ true
      → is_due (thing cells k) ≡ true
  put_due j cell new cells at f =
      each_number j (λ n. is_due (thing (put cells j new) n) ≡ true → is_due (thing cells n) ≡ true)
      (λ e. ap is_due at ∙ f (sym (ap is_due (thing_put cells j cell new at)) ∙ e))
      (λ n other e. sym (ap is_due (thing_put_other cells j n new other)) ∙ e) k

  -- content comes, and a fire with it
  fill_cell_fired : (j : ℕ) (o : OutcomeTree) (x : Option Cell) (c : Core) → P c → Unless P (fill_cell j o x c)
  fill_cell_fired j o None c h = tt
  fill_cell_fired j o (Some cell) c h =
      unless c.halted (λ e. by_number j (Fires k (Fire j ∷ c.tasks)) (λ same. inl same) (λ other. inr (h (sym (ap is_due (thing_put_other c.cells j k (filled cell o) other)) ∙ e))))

  pub fill_fired : (j : ℕ) (o : OutcomeTree) (c : Core) → P c → Unless P (fill j o c)
  fill_fired j o c h = fill_cell_fired j o (thing c.cells j) c h

  -- a cell goes
  pub removed_due : (j made : ℕ) (cells : Numbered Cell) → Rising 0 made cells → is_due (thing (removed cells j) k) ≡ true → is_due (thing cells k) ≡ true
  removed_due j made cells up e =
      by_number j (is_due (thing cells k) ≡ true)
      (λ same. absurd (no_true (sym (ap is_due (subst (λ n. thing (removed cells j) n ≡ None) same (thing_removed cells 0 made j up))) ∙ e)))
      (λ other. sym (ap is_due (thing_removed_other cells j k other)) ∙ e)

  free_cell_fired : (j : ℕ) (x : Option Cell) (c : Core) → Rising 0 c.made c.cells → P c → Unless P (free_cell j x c)
  free_cell_fired j None c up h = tt
  free_cell_fired j (Some cell) c up h = unless c.halted (λ e. under_drops (refs_in (held cell)) c.tasks (h (removed_due j c.made c.cells up e)))

  pub free_fired : (j : ℕ) (c : Core) → Rising 0 c.made c.cells → P c → Unless P (free j c)
  free_fired j c up h = free_cell_fired j (thing c.cells j) c up h

  -- an actor leaves its wait
  pub leave_fired : (i : ℕ) (e : Entry) (vs : List ValueTree) (t : Task) (c : Core) → P c → P (leave_for i e vs t c)
  leave_fired i e vs t c h d =
      under_drops e.operands (drops (refs_in vs) (t ∷ c.tasks))
      (under_drops (refs_in vs) (t ∷ c.tasks) (more t c.tasks (h (less_left i (thing c.cells k) (sym (ap is_due (found_left i c.cells k)) ∙ d)))))

  -- a branch is taken
  pub branch_fired : (i b j : ℕ) (e : Entry) (vs : List ValueTree) (c : Core) → P c → Unless P (take_branch i b j e vs (thing c.cells j) c)
  branch_fired i b j e vs c h = by_cell (thing c.cells j) refl
    where
      by_cell : (x : Option Cell) → thing c.cells j ≡ x → Unless P (take_branch i b j e vs x c)
      by_cell None q = tt
      by_cell (Some cell) q =
          after_turn P (λ d. give i b e vs (taken cell) (record (writes (take_line i e.spot.group b) d) { cells = put d.cells j (after_taking cell) })) c c.left (λ m. by_outcome m (taken cell))
        where
          by_outcome : (m : ℕ) (o : Option OutcomeTree) → Unless P
              (give i b e vs o (record (writes (take_line i e.spot.group b) (record c { left = m })) { cells = put c.cells j (after_taking cell) }))
          by_outcome m None = tt
          by_outcome m (Some o) =
              let d = record (writes (take_line i e.spot.group b) (record c { left = m })) { cells = put c.cells j (after_taking cell) } in
              unless c.halted (leave_fired i e vs (Give i b o) d (λ w. h (put_due j cell (after_taking cell) c.cells q (less_taken cell) w)))

  -- the actor registers at its operands
  module _ (ts : List Task) where
    abbrev After : Registration → Type 0
    After (Registered cells) = is_due (thing cells k) ≡ true → Fires k ts
    After Refused = Unit {0}
    After Missing = Unit {0}

    refused : (i b : ℕ) (qs : List Ref) → After (register i b qs Refused)
    refused i b [] = tt
    refused i b (q ∷ qs) = refused i (suc b) qs

    missing : (i b : ℕ) (qs : List Ref) → After (register i b qs Missing)
    missing i b [] = tt
    missing i b (q ∷ qs) = missing i (suc b) qs

    all_registered : (i b : ℕ) (qs : List Ref) (cells : Numbered Cell) → AllUnready cells qs → (is_due (thing cells k) ≡ true → Fires k ts) → After (register i b qs (Registered cells))
    all_registered i b [] cells u h = h
    all_registered i b (q ∷ qs) cells u h = by_cell (thing cells q.1) refl (λ more u h. all_registered i (suc b) qs more u h)
      where
        w : Waiter
        w = record { actor = i; branch = b }

        by_cell : (x : Option Cell) → thing cells q.1 ≡ x → ((more : Numbered Cell) → AllUnready more qs → (is_due (thing more k) ≡ true → Fires k ts)
            → After (register i (suc b) qs (Registered more)))
            → After (register i (suc b) qs (register_at w q.1 cells x))
        by_cell None g rest = missing i (suc b) qs
        by_cell (Some cell) g rest = by_test (is_busy cell)
          where
            not : is_ready (with_waiter cell w) ≡ false
            not = ready_with cell w ∙ sym (ap is_ready_at g) ∙ u.0

            due : is_due (thing (put cells q.1 (with_waiter cell w)) k) ≡ true → Fires k ts
            due e = h (put_due q.1 cell (with_waiter cell w) cells g (λ d. absurd (unready (with_waiter cell w) not d)) e)

            by_test : (t : Bool) → After (register i (suc b) qs (if t then Refused else Registered (put cells q.1 (with_waiter cell w))))
            by_test true = refused i (suc b) qs
            by_test false = rest (put cells q.1 (with_waiter cell w)) (still_unready q.1 cell w cells g qs u.1) due

  suspend_fired : (i : ℕ) (spot : Spot) (e : Entry) (vs : List ValueTree) (x : Registration) (c : Core) → After c.tasks x → P c → Unless P (suspend i spot e vs x c)
  suspend_fired i spot e vs Missing c f h = tt
  suspend_fired i spot e vs Refused c f h = unless c.halted (leave_fired i e vs (Throw i second_waiter) c h)
  suspend_fired i spot e vs (Registered cells) c f h = unless c.halted (λ d. under_drops (refs_in vs) c.tasks (f d))

  wait_by_fired : (i : ℕ) (spot : Spot) (e : Entry) (vs : List ValueTree) (x : Option (ℕ × ℕ)) (c : Core) → first_ready c.cells 0 e.operands ≡ x → P c → Unless P (wait_by i spot e vs x c)
  wait_by_fired i spot e vs (Some b) c q h = branch_fired i b.0 b.1 e vs c h
  wait_by_fired i spot e vs None c q h =
      suspend_fired i spot e vs (register i 0 e.operands (Registered c.cells)) c (all_registered c.tasks i 0 e.operands c.cells (none_ready c.cells 0 e.operands q) h) h

  pub wait_fired : (i : ℕ) (spot : Spot) (vs : List ValueTree) (c : Core) → P c → Unless P (wait i spot (thing c.entries i) vs c)
  wait_fired i spot vs c h = by_entry (thing c.entries i)
    where
      by_entry : (x : Option Entry) → Unless P (wait i spot x vs c)
      by_entry None = tt
      by_entry (Some e) = wait_by_fired i spot (at_spot spot e) vs (first_ready c.cells 0 e.operands) c refl h

  -- an actor is cancelled
  cancel_by_fired : (b : Bool) (i : ℕ) (e : Entry) (c : Core) → P c → Unless P (cancel_by b i e c)
  cancel_by_fired true i e c h = unless c.halted (leave_fired i (marked e) [] (Throw i operation_cancelled) c h)
  cancel_by_fired false i e c h = unless c.halted h

  pub cancel_fired : (i : ℕ) (e : Entry) (c : Core) → P c → Unless P (cancel i e c)
  cancel_fired i e c h = cancel_by_fired e.suspended i e (writes (cancel_line i) c) h

  pub owner_fired : (o : Option (ℕ × Entry)) (c : Core) → P c → Unless P (cancel_owner o c)
  owner_fired None c h = unless c.halted h
  owner_fired (Some o) c h = cancel_fired o.0 o.1 c h

  -- a new cell, at which nobody waits
  pub new_due : (cell : Cell) (made : ℕ) (cells : Numbered Cell) → Rising 0 made cells → waiters cell ≡ [] → is_due (thing (added cells (suc made) cell) k) ≡ true → is_due (thing cells k) ≡ true
  new_due cell made cells up none e =
      by_number (suc made) (is_due (thing cells k) ≡ true)
      (λ same. absurd (alone cell none
      (sym (ap is_due (subst (λ n. thing (added cells (suc made) cell) n ≡ Some cell) same (thing_new cells (suc made) cell (none_above cells 0 made (suc made) up (omega arith))))) ∙ e)))
      (λ other. sym (ap is_due (thing_added cells (suc made) k cell other)) ∙ e)
