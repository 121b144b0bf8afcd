-- Waiters and operands agree, numbers rise, and a cell is made for one thing at most, after each thing that a process does to itself.
use Rattle.std.proofs.Common.{◌≡◌, ℕ, suc, ◌≤◌, nat_eq, Bool, true, false, List, [], ◌∷◌, ◌++◌, if◌then◌else◌, refl, sym, ap, ◌∙◌, subst, arith}
use Rattle.std.proofs.lemmas.Bool.Decides.{nat_tests}
use Rattle.std.specs.Option.{option_map}
use Rattle.std.specs.declared.option.Option.{Option}
use Rattle.std.specs.declared.option.Option.TheVariants.{None, Some}
use Rattle.flow_base.specs.ErrorNumbers.{operation_cancelled}
use Rattle.flow_value.specs.Values.{ValueTree, OutcomeTree}
use Rattle.flow_numbered.specs.Numbered.{Numbered, thing, added, put, removed}
use Rattle.flow_meaning.specs.Cells.{FutureSide, Waiter, Cell, Single, Stream, waiters, filled, taken, after_taking, as_list, without, left_by}
use Rattle.flow_meaning.specs.Process.{Task, Give, Throw, Entry, Core}
use Rattle.flow_meaning.specs.References.{Scan, reference_count}
use Rattle.flow_meaning.specs.Lines.{take_line, cancel_line}
use Rattle.flow_meaning.specs.Work.{writes, new_cell, fill, fill_cell, free, free_cell, left_cells, running, leave_for, give, take_branch, marked, cancel_by, cancel}
use Rattle.flow_meaning.specs.Orderly.{Rising}
use Rattle.flow_meaning.proofs.Posture.{other_number, each_number, thing_put, thing_put_other, thing_added, thing_removed_other, Unless, unless, after_turn}
use Rattle.flow_meaning.proofs.Order.{rising_put, rising_removed, rising_added, filled_waiters, taking_waiters}
use Rattle.flow_heap_refinement.specs.Counted.{branches_of, branches_at, waiters_at, waiting_by, waiting_of, Agree}
use Rattle.flow_heap_refinement.specs.Rested.{NumbersRise, PortsRise}
use Rattle.flow_heap_refinement.specs.References.{cell_holds}
use Rattle.flow_heap_refinement.proofs.Finds.{none_above, thing_new, thing_removed}
use Rattle.flow_heap_refinement.proofs.Left.{found_left}
use Rattle.flow_heap_refinement.proofs.Sums.{cells_sum, sum_removed}
use Rattle.flow_heap_refinement.proofs.Losing.{unwaited}
use Rattle.flow_heap_refinement.proofs.OwnersOnce.{Since, OnceSince, entry_once, made_once}

-- the parts of what is kept
abbrev pub Tidy : Since → Core → Type 0
Tidy z c = Agree c × Rising 0 c.made c.cells × NumbersRise 0 c.made c.requests × PortsRise 0 c.made c.ports × OnceSince z c

-- the same waiters at each cell, and the same waits of each actor
pub agree_by : (c d : Core) → ((k : ℕ) → waiters_at (thing d.cells k) ≡ waiters_at (thing c.cells k)) → ((i : ℕ) → waiting_of (thing d.entries i) ≡ waiting_of (thing c.entries i)) → Agree c → Agree d
agree_by c d w e a i k = ap (branches_of i) (w k) ∙ a i k ∙ ap (branches_at k 0) (sym (e i))

-- a cell changes, but not its waiters
cell_waiters : (k : ℕ) (cell new : Cell) (cs : Numbered Cell) → thing cs k ≡ Some cell → waiters new ≡ waiters cell → (j : ℕ) → waiters_at (thing (put cs k new) j) ≡ waiters_at (thing cs j)
cell_waiters k cell new cs at w =
    each_number k (λ j. waiters_at (thing (put cs k new) j) ≡ waiters_at (thing cs j))
    (ap waiters_at (thing_put cs k cell new at) ∙ w ∙ sym (ap waiters_at at)) (λ j n. ap waiters_at (thing_put_other cs k j new n))

cell_tidy : (z : Since) → (k : ℕ) (cell new : Cell) (c : Core) → thing c.cells k ≡ Some cell → waiters new ≡ waiters cell → Tidy z c → Tidy z (record c { cells = put c.cells k new })
cell_tidy z k cell new c at w t =
    (agree_by c (record c { cells = put c.cells k new }) (cell_waiters k cell new c.cells at w) (λ i. refl) t.0, rising_put c.cells 0 c.made k new t.1, t.2, t.3, t.4)

fill_cell_tidy : (z : Since) → (k : ℕ) (v : OutcomeTree) (c : Core) (x : Option Cell) → thing c.cells k ≡ x → Tidy z c → Unless (Tidy z) (fill_cell k v x c)
fill_cell_tidy z k v c None at t = tt
fill_cell_tidy z k v c (Some cell) at t = unless c.halted (cell_tidy z k cell (filled cell v) c at (filled_waiters cell v) t)

pub fill_tidy : (z : Since) → (k : ℕ) (v : OutcomeTree) (c : Core) → Tidy z c → Unless (Tidy z) (fill k v c)
fill_tidy z k v c t = fill_cell_tidy z k v c (thing c.cells k) refl t

-- a cell goes at which nobody waits
pub gone_tidy : (z : Since) → (k : ℕ) (cell : Cell) (c : Core) → thing c.cells k ≡ Some cell → waiters cell ≡ [] → Tidy z c → Tidy z (record c { cells = removed c.cells k })
gone_tidy z k cell c at w t = (
  agree_by c (record c { cells = removed c.cells k })
      (each_number k (λ j. waiters_at (thing (removed c.cells k) j) ≡ waiters_at (thing c.cells j))
      (ap waiters_at (thing_removed c.cells 0 c.made k t.1) ∙ sym w ∙ sym (ap waiters_at at)) (λ j n. ap waiters_at (thing_removed_other c.cells k j n)))
      (λ i. refl) t.0,
  rising_removed c.cells 0 c.made k t.1,
  t.2,
  t.3,
  t.4,
)

pub free_tidy : (z : Since) → (k : ℕ) (cell : Cell) (c : Core) → thing c.cells k ≡ Some cell → waiters cell ≡ [] → Tidy z c → Unless (Tidy z) (free k c)
free_tidy z k cell c at w t =
    subst (λ x. Unless (Tidy z) (free_cell k x c)) (sym at) (unless c.halted (gone_tidy z k cell c at w t))

-- where no future is left, nobody waits
pub nobody_waits : (scan : Scan) (k : ℕ) (cell : Cell) (c : Core) → thing c.cells k ≡ Some cell → reference_count scan FutureSide k c ≡ 0 → waiters cell ≡ []
nobody_waits scan k cell c at e =
    unwaited k (waiters cell)
    (let a = cells_sum FutureSide k c.cells in
    let b = sum_removed (cell_holds FutureSide k) c.cells k cell at in omega (arith, a, b, e))

-- a new cell
waiters_new : (cs : Numbered Cell) (n : ℕ) (cell : Cell) → thing cs n ≡ None → waiters cell ≡ [] → (j : ℕ) → waiters_at (thing (added cs n cell) j) ≡ waiters_at (thing cs j)
waiters_new cs n cell none w =
    each_number n (λ j. waiters_at (thing (added cs n cell) j) ≡ waiters_at (thing cs j))
    (ap waiters_at (thing_new cs n cell none) ∙ w ∙ sym (ap waiters_at none)) (λ j d. ap waiters_at (thing_added cs n j cell d))

pub numbers_more : (above n : ℕ) (ks : List ℕ) → NumbersRise above n ks → NumbersRise above (suc n) ks
numbers_more above n [] h = tt
numbers_more above n (k ∷ ks) h = (h.0, omega (arith, h.1), numbers_more k n ks h.2)

pub number_added : (above n : ℕ) (ks : List ℕ) → above ≤ n → NumbersRise above n ks → NumbersRise above (suc n) (ks ++ suc n ∷ [])
number_added above n [] l h = (omega (arith, l), omega arith, tt)
number_added above n (k ∷ ks) l h = (h.0, omega (arith, h.1), number_added k n ks (omega (arith, h.1)) h.2)

pub ports_more : (above n : ℕ) (xs : Numbered ℕ) → PortsRise above n xs → PortsRise above (suc n) xs
ports_more above n [] h = tt
ports_more above n (x ∷ xs) h = (h.0, omega (arith, h.1), h.2, ports_more x.1 n xs h.3)

pub port_added : (above n q : ℕ) (xs : Numbered ℕ) → above ≤ n → thing xs q ≡ None → PortsRise above n xs → PortsRise above (suc n) (added xs q (suc n))
port_added above n q [] l none h = (omega (arith, l), omega arith, refl, tt)
port_added above n q (x ∷ xs) l none h = by_test (nat_eq q x.0) refl none (λ f. port_added x.1 n q xs (omega (arith, h.1)) f h.3)
  where
    by_test : (t : Bool) → nat_eq q x.0 ≡ t → (if t then Some x.1 else thing xs q) ≡ None → (thing xs q ≡ None → PortsRise x.1 (suc n) (added xs q (suc n)))
        → PortsRise above (suc n) (added (x ∷ xs) q (suc n))
    by_test true e f rest = absurd (cc)
    by_test false e f rest = (h.0, omega (arith, h.1), thing_added xs q x.0 (suc n) (λ g. differ g e) ∙ h.2, rest f)
      where
        differ : q ≡ x.0 → nat_eq q x.0 ≡ false → ⊥
        differ g i = grind (arith, nat_tests)

ports_from : (low above n : ℕ) (xs : Numbered ℕ) → low ≤ above → PortsRise above n xs → PortsRise low n xs
ports_from low above n [] l h = tt
ports_from low above n (x ∷ xs) l h = (omega (arith, l, h.0), h.1, h.2, h.3)

pub port_removed : (above n q : ℕ) (xs : Numbered ℕ) → PortsRise above n xs → PortsRise above n (removed xs q)
port_removed above n q [] h = tt
port_removed above n q (x ∷ xs) h = by_test (nat_eq q x.0) (port_removed x.1 n q xs h.3)
  where
    still : (xs : Numbered ℕ) (j : ℕ) → thing xs j ≡ None → thing (removed xs q) j ≡ None
    still [] j e = refl
    still (y ∷ ys) j e = by_tests (nat_eq j y.0) (nat_eq q y.0) e (still ys j)
      where
        by_tests : (t u : Bool) → (if t then Some y.1 else thing ys j) ≡ None → (thing ys j ≡ None → thing (removed ys q) j ≡ None) → thing (if u then ys else y ∷ removed ys q) j ≡ None
        by_tests true u f rest = absurd (cc)
        by_tests false true f rest = f
        by_tests false false f rest = by_first (nat_eq j y.0) refl
          where
            by_first : (v : Bool) → nat_eq j y.0 ≡ v → (if v then Some y.1 else thing (removed ys q) j) ≡ None
            by_first true g = absurd (cc)
            by_first false g = rest f

    by_test : (t : Bool) → PortsRise x.1 n (removed xs q) → PortsRise above n (if t then xs else x ∷ removed xs q)
    by_test true k = ports_from above x.1 n xs (omega (arith, h.0)) h.3
    by_test false k = (h.0, h.1, still xs x.0 h.2, k)

-- the parts of a core with a new cell
pub new_agrees : (z : Since) → (cell : Cell) (c : Core) → waiters cell ≡ [] → Tidy z c → Agree (new_cell cell c)
new_agrees z cell c w t = agree_by c (new_cell cell c) (waiters_new c.cells (suc c.made) cell (none_above c.cells 0 c.made (suc c.made) t.1 (omega arith)) w) (λ i. refl) t.0

pub new_tidy : (z : Since) → (cell : Cell) (c : Core) → waiters cell ≡ [] → Tidy z c → Tidy z (new_cell cell c)
new_tidy z cell c w t = (new_agrees z cell c w t, rising_added c.cells 0 c.made cell (omega arith) t.1, numbers_more 0 c.made c.requests t.2, ports_more 0 c.made c.ports t.3, made_once z c t.4)

-- an entry changes, but not where its actor waits
pub entry_tidy : (z : Since) → (i : ℕ) (e new : Entry) (c : Core) → thing c.entries i ≡ Some e → waiting_by new.suspended new.operands ≡ waiting_by e.suspended e.operands → new.result ≡ e.result
    → Tidy z c → Tidy z (record c { entries = put c.entries i new })
entry_tidy z i e new c at w same t = (
  agree_by c (record c { entries = put c.entries i new }) (λ k. refl)
      (each_number i (λ j. waiting_of (thing (put c.entries i new) j) ≡ waiting_of (thing c.entries j))
      (ap waiting_of (thing_put c.entries i e new at) ∙ w ∙ sym (ap waiting_of at)) (λ j n. ap waiting_of (thing_put_other c.entries i j new n)))
      t.0,
  t.1,
  t.2,
  t.3,
  entry_once z c i e new at same t.4,
)

-- the waiters of an actor leave a cell
none_left : (i : ℕ) (ws : List Waiter) → branches_of i (without ws i) ≡ []
none_left i [] = refl
none_left i (w ∷ ws) = by_test (nat_eq w.actor i) refl (none_left i ws)
  where
    by_test : (t : Bool) → nat_eq w.actor i ≡ t → branches_of i (without ws i) ≡ [] → branches_of i (if t then without ws i else w ∷ without ws i) ≡ []
    by_test true e k = k
    by_test false e k = ap (λ b. if b then w.branch ∷ branches_of i (without ws i) else branches_of i (without ws i)) e ∙ k

others_left : (i j : ℕ) (ws : List Waiter) → (i ≡ j → ⊥) → branches_of j (without ws i) ≡ branches_of j ws
others_left i j [] n = refl
others_left i j (w ∷ ws) n = by_test (nat_eq w.actor i) refl (others_left i j ws n)
  where
    by_test : (t : Bool) → nat_eq w.actor i ≡ t → branches_of j (without ws i) ≡ branches_of j ws → branches_of j (if t then without ws i else w ∷ without ws i) ≡ branches_of j (w ∷ ws)
    by_test true e k =
        let same : w.actor ≡ i = grind (arith, nat_tests) in
        let f : nat_eq w.actor j ≡ false = other_number j w.actor (λ g. n (sym same ∙ sym g)) in
        k ∙ sym (ap (λ b. if b then w.branch ∷ branches_of j ws else branches_of j ws) f)
    by_test false e k = ap (λ bs. if nat_eq w.actor j then w.branch ∷ bs else bs) k

left_list : (i : ℕ) (c : Cell) → waiters (left_by i c) ≡ without (waiters c) i
left_list i (Single o ws) = refl
left_list i (Stream q x None) = refl
left_list i (Stream q x (Some w)) = by_test (nat_eq w.actor i)
  where
    by_test : (t : Bool) → as_list (if t then None else Some w) ≡ (if t then [] else w ∷ [])
    by_test true = refl
    by_test false = refl

left_waiters : (i k : ℕ) (cs : Numbered Cell) → waiters_at (thing (left_cells i cs) k) ≡ without (waiters_at (thing cs k)) i
left_waiters i k cs = ap waiters_at (found_left i cs k) ∙ by_cell (thing cs k)
  where
    by_cell : (o : Option Cell) → waiters_at (option_map (left_by i) o) ≡ without (waiters_at o) i
    by_cell None = refl
    by_cell (Some c) = left_list i c

rising_left : (i above n : ℕ) (cs : Numbered Cell) → Rising above n cs → Rising above n (left_cells i cs)
rising_left i above n [] h = tt
rising_left i above n (x ∷ xs) h = (h.0, h.1, rising_left i x.0 n xs h.2)

pub leave_tidy : (z : Since) → (i : ℕ) (e e0 : Entry) (vs : List ValueTree) (u : Task) (c : Core) → thing c.entries i ≡ Some e0 → e.result ≡ e0.result → Tidy z c → Tidy z (leave_for i e vs u c)
leave_tidy z i e e0 vs u c at same t = (
  each_number i (λ j. (k : ℕ) → branches_of j (waiters_at (thing (left_cells i c.cells) k)) ≡ branches_at k 0 (waiting_of (thing (put c.entries i (running e)) j)))
      (λ k. ap (branches_of i) (left_waiters i k c.cells) ∙ none_left i (waiters_at (thing c.cells k)) ∙ sym (ap (λ o. branches_at k 0 (waiting_of o)) (thing_put c.entries i e0 (running e) at)))
      (λ j n k. ap (branches_of j) (left_waiters i k c.cells) ∙ others_left i j (waiters_at (thing c.cells k)) n ∙ t.0 j k
      ∙ ap (λ o. branches_at k 0 (waiting_of o)) (sym (thing_put_other c.entries i j (running e) n))),
  rising_left i 0 c.made c.cells t.1,
  t.2,
  t.3,
  entry_once z c i e0 (running e) at same t.4,
)

give_tidy : (z : Since) → (i b : ℕ) (e e0 : Entry) (vs : List ValueTree) (o : Option OutcomeTree) (c : Core) → thing c.entries i ≡ Some e0 → e.result ≡ e0.result → Tidy z c
    → Unless (Tidy z) (give i b e vs o c)
give_tidy z i b e e0 vs None c at same t = tt
give_tidy z i b e e0 vs (Some o) c at same t = unless c.halted (leave_tidy z i e e0 vs (Give i b o) c at same t)

branch_at : (z : Since) → (i b k : ℕ) (e e0 : Entry) (vs : List ValueTree) (x : Option Cell) (c : Core) → thing c.cells k ≡ x → thing c.entries i ≡ Some e0 → e.result ≡ e0.result → Tidy z c
    → Unless (Tidy z) (take_branch i b k e vs x c)
branch_at z i b k e e0 vs None c ck at same t = tt
branch_at z i b k e e0 vs (Some cell) c ck at same t =
    after_turn (Tidy z) (λ d. give i b e vs (taken cell) (record (writes (take_line i e.spot.group b) d) { cells = put d.cells k (after_taking cell) })) c c.left
    (λ n. give_tidy z i b e e0 vs (taken cell) (record (writes (take_line i e.spot.group b) (record c { left = n })) { cells = put c.cells k (after_taking cell) }) at same
    (cell_tidy z k cell (after_taking cell) c ck (taking_waiters cell) t))

pub branch_tidy : (z : Since) → (i b k : ℕ) (e e0 : Entry) (vs : List ValueTree) (c : Core) → thing c.entries i ≡ Some e0 → e.result ≡ e0.result → Tidy z c
    → Unless (Tidy z) (take_branch i b k e vs (thing c.cells k) c)
branch_tidy z i b k e e0 vs c at same t = branch_at z i b k e e0 vs (thing c.cells k) c refl at same t

cancel_by_tidy : (z : Since) → (s : Bool) (i : ℕ) (e : Entry) (c : Core) → thing c.entries i ≡ Some e → Tidy z c → Tidy z (cancel_by s i e c)
cancel_by_tidy z true i e c at t = leave_tidy z i (marked e) e [] (Throw i operation_cancelled) c at refl t
cancel_by_tidy z false i e c at t = entry_tidy z i e (marked e) c at refl refl t

pub cancel_tidy : (z : Since) → (i : ℕ) (e : Entry) (c : Core) → thing c.entries i ≡ Some e → Tidy z c → Tidy z (cancel i e c)
cancel_tidy z i e c at t = cancel_by_tidy z e.suspended i e (writes (cancel_line i) c) at t
