-- What a process does to itself keeps a rule on references.
use Rattle.std.proofs.Common.{◌≡◌, ℕ, zero, suc, nat_eq, Bool, true, false, List, [], ◌∷◌, ◌++◌, if◌then◌else◌, refl, subst}
use Rattle.std.specs.Prelude.{◌&&◌, not}
use Rattle.std.specs.declared.option.Option.{Option}
use Rattle.std.specs.declared.option.Option.TheVariants.{None, Some}
use Rattle.flow_base.specs.ErrorNumbers.{operation_cancelled, second_waiter, broken_promise}
use Rattle.flow_value.specs.declared.value.Kind.{Kind}
use Rattle.flow_value.specs.Values.{ValueTree, OutcomeTree, GoodOutcome, BadOutcome, refs_of}
use Rattle.flow_value.proofs.References.{listed_both, refs_listed}
use Rattle.flow_numbered.specs.Numbered.{Numbered, thing, added, put, removed}
use Rattle.flow_meaning.specs.Cells.{Side, PromiseSide, FutureSide, side_of, Ref, Waiter, Cell, Single, Stream, waiters, held, filled, taken, after_taking, left_by, with_waiter, is_busy, is_complete, is_ready}
use Rattle.flow_meaning.specs.Requests.{Spot}
use Rattle.flow_meaning.specs.Process.{Task, Give, Throw, Fire, Entry, Core}
use Rattle.flow_meaning.specs.Lines.{take_line, cancel_line, broken_line, wait_line, end_line}
use Rattle.flow_meaning.specs.References.{Scan, reference_count, refs_in, value_in}
use Rattle.flow_meaning.specs.Work.{turn_of, writes, pushed, drops, dropping_values, fill, fill_cell, free, free_cell, left_cells, running, leave_for, give, take_branch, Registration, Registered, Refused, Missing, register_at, register_one, register, is_result, owner, marked, cancel_by, cancel, cancel_owner}
use Rattle.flow_meaning.specs.Dropping.{promises_gone, loss, port_of, suffer, lose_cell, lose_ref, drop, fire_to, fire_at, fire_cell, fire, set_result, give_result, close}
use Rattle.flow_meaning.specs.React.{suspend}
use Rattle.flow_heap_refinement.specs.Evaluation.{Rule, Named, AllNamed, RefNamed}
use Rattle.flow_heap_refinement.specs.Naming.{Each, OutcomeNamed, ContentNamed, RefsNamed, CellNamed, CellsNamed, EntriesNamed, TaskNamed, TasksNamed, CoreNamed}

-- so it is with each thing after a change
module _ {A : Type 0} (P : A → Type 0) where
  pub each_put : (xs : Numbered A) (n : ℕ) (a : A) → Each P xs → P a → Each P (put xs n a)
  each_put [] n a h k = tt
  each_put (x ∷ xs) n a h k = by_test (nat_eq n x.0) (each_put xs n a h.1 k)
    where
      by_test : (t : Bool) → Each P (put xs n a) → Each P (if t then (x.0, a) ∷ xs else x ∷ put xs n a)
      by_test true r = (k, h.1)
      by_test false r = (h.0, r)

  pub each_removed : (xs : Numbered A) (n : ℕ) → Each P xs → Each P (removed xs n)
  each_removed [] n h = tt
  each_removed (x ∷ xs) n h = by_test (nat_eq n x.0) (each_removed xs n h.1)
    where
      by_test : (t : Bool) → Each P (removed xs n) → Each P (if t then xs else x ∷ removed xs n)
      by_test true r = h.1
      by_test false r = (h.0, r)

  pub each_added : (xs : Numbered A) (n : ℕ) (a : A) → Each P xs → P a → Each P (added xs n a)
  each_added [] n a h k = (k, tt)
  each_added (x ∷ xs) n a h k = (h.0, each_added xs n a h.1 k)

  pub each_at : (xs : Numbered A) (n : ℕ) (a : A) → Each P xs → thing xs n ≡ Some a → P a
  each_at [] n a h e = absurd (cc)
  each_at (x ∷ xs) n a h e = by_test (nat_eq n x.0) e (each_at xs n a h.1)
    where
      by_test : (t : Bool) → (if t then Some x.1 else thing xs n) ≡ Some a → (thing xs n ≡ Some a → P a) → P a
      by_test true f r = subst P (cc (f)) h.0
      by_test false f r = r f

module _ (p : Rule) where
  -- references of values
  pub all_refs : (vs : List ValueTree) → AllNamed p vs → RefsNamed p (refs_in vs)
  all_refs [] h = tt
  all_refs (v ∷ vs) h = listed_both (RefNamed p) (refs_of v) (refs_in vs) (refs_listed (RefNamed p) v h.0) (all_refs vs h.1)

  drops_named : (rs : List Ref) (ts : List Task) → RefsNamed p rs → TasksNamed p ts → TasksNamed p (drops rs ts)
  drops_named [] ts h k = k
  drops_named (r ∷ rs) ts h k = (h.0, drops_named rs ts h.1 k)

  pub dropping_named : (vs : List ValueTree) (c : Core) → AllNamed p vs → CoreNamed p c → CoreNamed p (dropping_values vs c)
  dropping_named vs c h n = (n.0, n.1, drops_named (refs_in vs) c.tasks (all_refs vs h) n.2)

  pub push_named : (t : Task) (c : Core) → TaskNamed p t → CoreNamed p c → CoreNamed p (pushed t c)
  push_named t c h n = (n.0, n.1, (h, n.2))

  pub turn_named : (left : ℕ) (c : Core) (f : Core → Core) → CoreNamed p c → ((n : ℕ) → CoreNamed p (f (record c { left = n }))) → CoreNamed p (turn_of left c f)
  turn_named zero c f n h = n
  turn_named (suc m) c f n h = h m

  pub outcome_values : (o : OutcomeTree) → OutcomeNamed p o → AllNamed p (value_in o)
  outcome_values (GoodOutcome v) h = (h, tt)
  outcome_values (BadOutcome e) h = tt

  -- cells
  more_named : (vs : List ValueTree) (v : ValueTree) → AllNamed p vs → Named p v → AllNamed p (vs ++ v ∷ [])
  more_named [] v h k = (k, tt)
  more_named (u ∷ vs) v h k = (h.0, more_named vs v h.1 k)

  filled_named : (c : Cell) (o : OutcomeTree) → CellNamed p c → OutcomeNamed p o → CellNamed p (filled c o)
  filled_named (Single x ws) o h k = k
  filled_named (Stream q e w) (GoodOutcome v) h k = more_named q v h k
  filled_named (Stream q e w) (BadOutcome x) h k = h

  pub held_named : (c : Cell) → CellNamed p c → AllNamed p (held c)
  held_named (Single None ws) h = tt
  held_named (Single (Some (GoodOutcome v)) ws) h = (h, tt)
  held_named (Single (Some (BadOutcome e)) ws) h = tt
  held_named (Stream q e w) h = h

  taken_named : (c : Cell) → CellNamed p c → ContentNamed p (taken c)
  taken_named (Single x ws) h = h
  taken_named (Stream [] None w) h = tt
  taken_named (Stream [] (Some e) w) h = tt
  taken_named (Stream (v ∷ vs) e w) h = h.0

  after_named : (c : Cell) → CellNamed p c → CellNamed p (after_taking c)
  after_named (Single x ws) h = h
  after_named (Stream [] e w) h = h
  after_named (Stream (v ∷ vs) e w) h = h.1

  left_named : (i : ℕ) (c : Cell) → CellNamed p c → CellNamed p (left_by i c)
  left_named i (Single x ws) h = h
  left_named i (Stream q e w) h = h

  waiting_named : (c : Cell) (w : Waiter) → CellNamed p c → CellNamed p (with_waiter c w)
  waiting_named (Single x ws) w h = h
  waiting_named (Stream q e x) w h = h

  all_left : (i : ℕ) (cs : Numbered Cell) → CellsNamed p cs → CellsNamed p (left_cells i cs)
  all_left i [] h = tt
  all_left i (x ∷ xs) h = (left_named i x.1 h.0, all_left i xs h.1)

  fill_cell_named : (k : ℕ) (o : OutcomeTree) (x : Option Cell) (c : Core) → thing c.cells k ≡ x → OutcomeNamed p o → CoreNamed p c → CoreNamed p (fill_cell k o x c)
  fill_cell_named k o None c e h n = n
  fill_cell_named k o (Some cell) c e h n =
      (each_put (CellNamed p) c.cells k (filled cell o) n.0 (filled_named cell o (each_at (CellNamed p) c.cells k cell n.0 e) h), n.1, (tt, n.2))

  pub fill_named : (k : ℕ) (o : OutcomeTree) (c : Core) → OutcomeNamed p o → CoreNamed p c → CoreNamed p (fill k o c)
  fill_named k o c h n = fill_cell_named k o (thing c.cells k) c refl h n

  free_cell_named : (k : ℕ) (x : Option Cell) (c : Core) → thing c.cells k ≡ x → CoreNamed p c → CoreNamed p (free_cell k x c)
  free_cell_named k None c e n = n
  free_cell_named k (Some cell) c e n =
      dropping_named (held cell) (record c { cells = removed c.cells k }) (held_named cell (each_at (CellNamed p) c.cells k cell n.0 e)) (each_removed (CellNamed p) c.cells k n.0, n.1, n.2)

  free_named : (k : ℕ) (c : Core) → CoreNamed p c → CoreNamed p (free k c)
  free_named k c n = free_cell_named k (thing c.cells k) c refl n

  -- an actor leaves its wait
  pub leave_named : (i : ℕ) (e : Entry) (vs : List ValueTree) (t : Task) (c : Core) → RefsNamed p e.operands → AllNamed p vs → TaskNamed p t → CoreNamed p c → CoreNamed p (leave_for i e vs t c)
  leave_named i e vs t c h k m n = (
    all_left i c.cells n.0,
    each_put (λ e. RefsNamed p e.operands) c.entries i (running e) n.1 tt,
    drops_named e.operands (drops (refs_in vs) (t ∷ c.tasks)) h
        (drops_named (refs_in vs) (t ∷ c.tasks) (all_refs vs k) (m, n.2)),
  )

  give_named : (i b : ℕ) (e : Entry) (vs : List ValueTree) (o : Option OutcomeTree) (c : Core) → RefsNamed p e.operands → AllNamed p vs → ContentNamed p o → CoreNamed p c
      → CoreNamed p (give i b e vs o c)
  give_named i b e vs None c h k m n = n
  give_named i b e vs (Some o) c h k m n = leave_named i e vs (Give i b o) c h k m n

  branch_at : (i b k : ℕ) (e : Entry) (vs : List ValueTree) (x : Option Cell) (c : Core) → thing c.cells k ≡ x → RefsNamed p e.operands → AllNamed p vs → CoreNamed p c
      → CoreNamed p (take_branch i b k e vs x c)
  branch_at i b k e vs None c at h a n = n
  branch_at i b k e vs (Some cell) c at h a n =
      let cn = each_at (CellNamed p) c.cells k cell n.0 at in
      turn_named c.left c (λ d. give i b e vs (taken cell) (record (writes (take_line i e.spot.group b) d) { cells = put d.cells k (after_taking cell) })) n
      (λ m. give_named i b e vs (taken cell) (record (writes (take_line i e.spot.group b) (record c { left = m })) { cells = put c.cells k (after_taking cell) }) h a (taken_named cell cn)
      (each_put (CellNamed p) c.cells k (after_taking cell) n.0 (after_named cell cn), n.1, n.2))

  pub branch_named : (i b k : ℕ) (e : Entry) (vs : List ValueTree) (c : Core) → RefsNamed p e.operands → AllNamed p vs → CoreNamed p c → CoreNamed p (take_branch i b k e vs (thing c.cells k) c)
  branch_named i b k e vs c h a n = branch_at i b k e vs (thing c.cells k) c refl h a n

  pub operands_named : (i : ℕ) (e : Entry) (c : Core) → thing c.entries i ≡ Some e → CoreNamed p c → RefsNamed p e.operands
  operands_named i e c at n = each_at (λ e. RefsNamed p e.operands) c.entries i e n.1 at

  cancel_by_named : (s : Bool) (i : ℕ) (e : Entry) (c : Core) → RefsNamed p e.operands → CoreNamed p c → CoreNamed p (cancel_by s i e c)
  cancel_by_named true i e c h n = leave_named i (marked e) [] (Throw i operation_cancelled) c h tt tt n
  cancel_by_named false i e c h n = (n.0, each_put (λ e. RefsNamed p e.operands) c.entries i (marked e) n.1 h, n.2)

  pub cancel_named : (i : ℕ) (e : Entry) (c : Core) → RefsNamed p e.operands → CoreNamed p c → CoreNamed p (cancel i e c)
  cancel_named i e c h n = cancel_by_named e.suspended i e (writes (cancel_line i) c) h n

  owner_named : (k : ℕ) (o : ℕ × Entry) (xs : Numbered Entry) → EntriesNamed p xs → owner k xs ≡ Some o → RefsNamed p o.1.operands
  owner_named k o [] h e = absurd (cc)
  owner_named k o (x ∷ xs) h e = by_test (is_result k x.1.result && not x.1.marked) e (owner_named k o xs h.1)
    where
      by_test : (t : Bool) → (if t then Some x else owner k xs) ≡ Some o → (owner k xs ≡ Some o → RefsNamed p o.1.operands) → RefsNamed p o.1.operands
      by_test true f r = let same : x ≡ o = cc (f) in subst (λ (y : ℕ × Entry). RefsNamed p y.1.operands) same h.0
      by_test false f r = r f

  pub cancels_named : (k : ℕ) (o : Option (ℕ × Entry)) (c d : Core) → owner k c.entries ≡ o → CoreNamed p c → CoreNamed p d → CoreNamed p (cancel_owner o d)
  cancels_named k None c d e n m = m
  cancels_named k (Some x) c d e n m = cancel_named x.0 x.1 d (owner_named k x c.entries n.1 e) m

  -- an actor waits
  abbrev Registers : Registration → Type 0
  Registers (Registered cells) = CellsNamed p cells
  Registers Refused = Unit {0}
  Registers Missing = Unit {0}

  at_named : (w : Waiter) (k : ℕ) (cells : Numbered Cell) (x : Option Cell) → thing cells k ≡ x → CellsNamed p cells → Registers (register_at w k cells x)
  at_named w k cells None e h = tt
  at_named w k cells (Some cell) e h = by_test (is_busy cell)
    where
      by_test : (t : Bool) → Registers (if t then Refused else Registered (put cells k (with_waiter cell w)))
      by_test true = tt
      by_test false = each_put (CellNamed p) cells k (with_waiter cell w) h (waiting_named cell w (each_at (CellNamed p) cells k cell h e))

  one_named : (w : Waiter) (k : ℕ) (q : Registration) → Registers q → Registers (register_one w k q)
  one_named w k (Registered cells) h = at_named w k cells (thing cells k) refl h
  one_named w k Refused h = tt
  one_named w k Missing h = tt

  register_named : (i b : ℕ) (rs : List Ref) (q : Registration) → Registers q → Registers (register i b rs q)
  register_named i b [] q h = h
  register_named i b (r ∷ rs) q h = register_named i (suc b) rs (register_one (record { actor = i; branch = b }) r.1 q) (one_named (record { actor = i; branch = b }) r.1 q h)

  pub suspend_named : (i : ℕ) (spot : Spot) (e : Entry) (vs : List ValueTree) (c : Core) → RefsNamed p e.operands → AllNamed p vs → CoreNamed p c
      → CoreNamed p (suspend i spot e vs (register i 0 e.operands (Registered c.cells)) c)
  suspend_named i spot e vs c h a n = by_registration (register i 0 e.operands (Registered c.cells)) (register_named i 0 e.operands (Registered c.cells) n.0)
    where
      by_registration : (q : Registration) → Registers q → CoreNamed p (suspend i spot e vs q c)
      by_registration Missing k = n
      by_registration Refused k = leave_named i e vs (Throw i second_waiter) c h a tt n
      by_registration (Registered cells) k =
          dropping_named vs (record (writes (wait_line i spot.group) c) { cells = cells; entries = put c.entries i (record e { suspended = true }) }) a
          (k, each_put (λ e. RefsNamed p e.operands) c.entries i (record e { suspended = true }) n.1 h, n.2)

  -- losses
  suffer_named : (s : Side) (k : ℕ) (cell : Cell) (a b : ℕ) (o : Option (ℕ × Entry)) (q : Option ℕ) (c : Core) → owner k c.entries ≡ o → CoreNamed p c → CoreNamed p (suffer k (loss s a b cell o q) c)
  suffer_named PromiseSide k cell zero zero o q c e n = free_named k c n
  suffer_named FutureSide k cell zero zero o q c e n = free_named k c n
  suffer_named PromiseSide k cell zero (suc b) o q c e n = by_complete (is_complete cell)
    where
      by_complete : (x : Bool) → CoreNamed p (suffer k (promises_gone x) c)
      by_complete true = n
      by_complete false = turn_named c.left c (λ d. fill k (BadOutcome broken_promise) (writes (broken_line k) d)) n
          (λ m. fill_named k (BadOutcome broken_promise) (writes (broken_line k) (record c { left = m })) tt n)
  suffer_named FutureSide k cell zero (suc b) o q c e n = n
  suffer_named PromiseSide k cell (suc a) b o q c e n = n
  suffer_named FutureSide k cell (suc a) (suc b) o q c e n = n
  suffer_named FutureSide k cell (suc a) zero (Some x) q c e n = cancel_named x.0 x.1 c (owner_named k x c.entries n.1 e) n
  suffer_named FutureSide k cell (suc a) zero None (Some port) c e n = free_named k (record c { ports = removed c.ports port }) n
  suffer_named FutureSide k cell (suc a) zero None None c e n = n

  lose_cell_named : (scan : Scan) (s : Side) (k : ℕ) (x : Option Cell) (c : Core) → CoreNamed p c → CoreNamed p (lose_cell scan s k x c)
  lose_cell_named scan s k None c n = n
  lose_cell_named scan s k (Some cell) c n = suffer_named s k cell (reference_count scan PromiseSide k c) (reference_count scan FutureSide k c) (owner k c.entries) (port_of k c.ports) c refl n

  pub lose_named : (scan : Scan) (s : Side) (k : ℕ) (c : Core) → CoreNamed p c → CoreNamed p (lose_ref scan s k c)
  lose_named scan s k c n = lose_cell_named scan s k (thing c.cells k) c n

  pub drop_named : (scan : Scan) (kd : Kind) (k : ℕ) (c : Core) → CoreNamed p c → CoreNamed p (drop scan kd k c)
  drop_named scan kd k c n = turn_named c.left c (lose_ref scan (side_of kd) k) n (λ m. lose_named scan (side_of kd) k (record c { left = m }) n)

  fire_to_named : (k : ℕ) (cell : Cell) (w : Waiter) (x : Option Entry) (c : Core) → thing c.cells k ≡ Some cell → thing c.entries w.actor ≡ x → CoreNamed p c → CoreNamed p (fire_to k cell w x c)
  fire_to_named k cell w None c ck at n = n
  fire_to_named k cell w (Some e) c ck at n =
      let d = pushed (Fire k) c in
      subst (λ y. CoreNamed p (take_branch w.actor w.branch k e [] y d)) ck (branch_named w.actor w.branch k e [] d (operands_named w.actor e c at n) tt (push_named (Fire k) c tt n))

  fire_at_named : (scan : Scan) (k : ℕ) (cell : Cell) (b : Bool) (ws : List Waiter) (c : Core) → thing c.cells k ≡ Some cell → CoreNamed p c → CoreNamed p (fire_at scan k cell b ws c)
  fire_at_named scan k cell b [] c ck n = lose_named scan FutureSide k c n
  fire_at_named scan k cell false (w ∷ ws) c ck n = lose_named scan FutureSide k c n
  fire_at_named scan k cell true (w ∷ ws) c ck n = fire_to_named k cell w (thing c.entries w.actor) c ck refl n

  fire_cell_named : (scan : Scan) (k : ℕ) (x : Option Cell) (c : Core) → thing c.cells k ≡ x → CoreNamed p c → CoreNamed p (fire_cell scan k x c)
  fire_cell_named scan k None c e n = n
  fire_cell_named scan k (Some cell) c e n = fire_at_named scan k cell (is_ready cell) (waiters cell) c e n

  pub fire_named : (scan : Scan) (k : ℕ) (c : Core) → CoreNamed p c → CoreNamed p (fire scan k c)
  fire_named scan k c n = fire_cell_named scan k (thing c.cells k) c refl n

  -- an actor ends
  result_named : (k : ℕ) (o : OutcomeTree) (f : ℕ) (c : Core) → OutcomeNamed p o → CoreNamed p c → CoreNamed p (set_result k o f c)
  result_named k o zero c h n = dropping_named (value_in o) (record c { cells = removed c.cells k }) (outcome_values o h) (each_removed (CellNamed p) c.cells k n.0, n.1, n.2)
  result_named k o (suc f) c h n = turn_named c.left c (fill k o) n (λ m. fill_named k o (record c { left = m }) h n)

  given_named : (scan : Scan) (x : Option ℕ) (o : OutcomeTree) (c : Core) → OutcomeNamed p o → CoreNamed p c → CoreNamed p (give_result scan x o c)
  given_named scan None o c h n = dropping_named (value_in o) c (outcome_values o h) n
  given_named scan (Some k) o c h n = result_named k o (reference_count scan FutureSide k c) c h n

  pub close_named : (scan : Scan) (i : ℕ) (x : Option ℕ) (o : OutcomeTree) (c : Core) → OutcomeNamed p o → CoreNamed p c → CoreNamed p (close scan i x o c)
  close_named scan i x o c h n =
      let d = record c { entries = removed c.entries i } in
      let m : CoreNamed p d = (n.0, each_removed (λ e. RefsNamed p e.operands) c.entries i n.1, n.2) in
      turn_named c.left d (λ d. give_result scan x o (writes (end_line i o) d)) m (λ l. given_named scan x o (writes (end_line i o) (record d { left = l })) h m)
