-- What a process does to its actors keeps each steady: one that is marked as cancelled isn't suspended, and one that is to take
-- its next step holds no operand.
use Rattle.std.proofs.Common.{◌≡◌, ℕ, zero, suc, nat_eq, Bool, true, false, List, [], ◌∷◌, if◌then◌else◌, refl, sym, subst, ◌∙◌, arith}
use Rattle.std.specs.declared.option.Option.{Option}
use Rattle.std.specs.declared.option.Option.TheVariants.{None, Some}
use Rattle.flow_base.specs.ErrorNumbers.{operation_cancelled, broken_promise}
use Rattle.flow_value.specs.declared.value.Kind.{Kind}
use Rattle.flow_value.specs.Values.{ValueTree, OutcomeTree, BadOutcome}
use Rattle.flow_numbered.specs.Numbered.{Numbered, thing, put, removed}
use Rattle.flow_meaning.specs.Cells.{Side, PromiseSide, FutureSide, side_of, Waiter, Cell, held, is_ready, waiters, taken, after_taking}
use Rattle.flow_meaning.specs.Process.{Task, Run, Give, Throw, Entry, Core}
use Rattle.flow_meaning.specs.Lines.{take_line, cancel_line, broken_line, end_line}
use Rattle.flow_meaning.specs.References.{refs_in, value_in, Scan, reference_count}
use Rattle.flow_meaning.specs.Orderly.{tasks_of, Rising}
use Rattle.flow_meaning.specs.Work.{writes, pushed, dropping_values, fill_cell, fill, free_cell, free, running, leave_for, give, take_branch, owner, marked, cancel_by, cancel, cancel_owner}
use Rattle.flow_meaning.specs.Dropping.{Loss, Kept, Freed, Broken, Orphan, Unheard, loss, port_of, suffer, lose_cell, lose_ref, drop, fire_to, fire_at, fire_cell, fire, set_result, give_result, close}
use Rattle.flow_meaning.proofs.Posture.{Unless, unless, after_turn, thing_put_other, thing_removed_other, removed_none, drops_tasks, left_tasks, IsOf, own_task, other_task}
use Rattle.flow_meaning.proofs.Shifts.{run_of, give_of, throw_of, Owned, owned, OwnedLoss, owned_loss}

-- the next step of an actor is to be taken, and nothing before it
abbrev pub Steps : List Task → Type 0
Steps (Run i ∷ ts) = Unit {0}
Steps _ = ⊥

abbrev pub NoOperand : Option Entry → Type 0
NoOperand None = Unit {0}
NoOperand (Some e) = e.operands ≡ []

-- an actor, and what is to be done for it
abbrev pub Steady : Option Entry → List Task → Type 0
Steady None ts = Unit {0}
Steady (Some e) ts = (e.marked ≡ true → e.suspended ≡ false) × (Steps ts → e.operands ≡ [])

-- an actor without operands that runs
pub runs_steady : (e : Entry) (ts : List Task) → e.suspended ≡ false → e.operands ≡ [] → Steady (Some e) ts
runs_steady e ts awake none = ((λ m. awake), (λ s. none))

-- an entry that is replaced
pub put_steady : (xs : Numbered Entry) (i : ℕ) (e : Entry) (ts : List Task) → Steady (Some e) ts → Steady (thing (put xs i e) i) ts
put_steady [] i e ts h = tt
put_steady (x ∷ xs) i e ts h = by_test (nat_eq i x.0) refl (put_steady xs i e ts h)
  where
    by_test : (b : Bool) → nat_eq i x.0 ≡ b → Steady (thing (put xs i e) i) ts → Steady (thing (if b then (x.0, e) ∷ xs else x ∷ put xs i e) i) ts
    by_test true q rest = subst (λ b. Steady (if b then Some e else thing xs i) ts) (sym q) h
    by_test false q rest = subst (λ b. Steady (if b then Some x.1 else thing (put xs i e) i) ts) (sym q) rest

module _ (j : ℕ) where
  -- of the actor with this number
  abbrev pub S : Core → Type 0
  S c = Steady (thing c.entries j) (tasks_of j c.tasks)

  pub by_number : (i : ℕ) (X : Type 0) → (i ≡ j → X) → ((i ≡ j → ⊥) → X) → X
  by_number i X same other = by_test (nat_eq i j) refl
    where
      by_test : (b : Bool) → nat_eq i j ≡ b → X
      by_test true e = same (grind (arith, e))
      by_test false e = other (λ q. let f : ⊥ = grind (arith, e, q) in f)

  -- the same entry, with the same to be done
  pub kept : (c d : Core) → thing d.entries j ≡ thing c.entries j → tasks_of j d.tasks ≡ tasks_of j c.tasks → S c → S d
  kept c d e t h = subst (λ x. Steady x (tasks_of j d.tasks)) (sym e) (subst (Steady (thing c.entries j)) (sym t) h)

  pub dropping_steady : (vs : List ValueTree) (c : Core) → S c → S (dropping_values vs c)
  dropping_steady vs c h = kept c (dropping_values vs c) refl (drops_tasks j (refs_in vs) c.tasks) h

  pub fill_steady : (k : ℕ) (o : OutcomeTree) (c : Core) → S c → Unless S (fill k o c)
  fill_steady k o c h = by_cell (thing c.cells k)
    where
      by_cell : (x : Option Cell) → Unless S (fill_cell k o x c)
      by_cell None = tt
      by_cell (Some cell) = unless c.halted h

  pub free_steady : (k : ℕ) (c : Core) → S c → Unless S (free k c)
  free_steady k c h = by_cell (thing c.cells k)
    where
      by_cell : (x : Option Cell) → Unless S (free_cell k x c)
      by_cell None = tt
      by_cell (Some cell) = unless c.halted (dropping_steady (held cell) (record c { cells = removed c.cells k }) h)

  -- an actor leaves its wait: it runs, and holds no operand
  pub leave_steady : (i : ℕ) (e : Entry) (vs : List ValueTree) (t : Task) (c : Core) → IsOf i t → ((i ≡ j → ⊥) → S c) → S (leave_for i e vs t c)
  leave_steady i e vs t c own h =
      let d = leave_for i e vs t c in
      by_number i (S d)
      (λ q. subst (λ n. Steady (thing (put c.entries i (running e)) n) (tasks_of j d.tasks)) q
      (put_steady c.entries i (running e) (tasks_of j d.tasks) (runs_steady (running e) (tasks_of j d.tasks) refl refl)))
      (λ o. kept c d (thing_put_other c.entries i j (running e) o) (left_tasks j e vs (t ∷ c.tasks) ∙ other_task i j t c.tasks own o) (h o))

  pub branch_steady : (i b k : ℕ) (e : Entry) (vs : List ValueTree) (x : Option Cell) (c : Core) → ((i ≡ j → ⊥) → S c) → Unless S (take_branch i b k e vs x c)
  branch_steady i b k e vs None c h = tt
  branch_steady i b k e vs (Some cell) c h =
      after_turn S (λ d. give i b e vs (taken cell) (record (writes (take_line i e.spot.group b) d) { cells = put d.cells k (after_taking cell) })) c c.left (λ n. by_taken n (taken cell))
    where
      by_taken : (n : ℕ) (o : Option OutcomeTree) → Unless S (give i b e vs o (record (writes (take_line i e.spot.group b) (record c { left = n })) { cells = put c.cells k (after_taking cell) }))
      by_taken n None = tt
      by_taken n (Some o) =
          unless c.halted (leave_steady i e vs (Give i b o) (record (writes (take_line i e.spot.group b) (record c { left = n })) { cells = put c.cells k (after_taking cell) }) (give_of i b o) h)

  -- an actor is cancelled
  cancel_by_steady : (b : Bool) (i : ℕ) (e : Entry) (c : Core) → e.suspended ≡ b → thing c.entries i ≡ Some e → S c → S (cancel_by b i e c)
  cancel_by_steady true i e c s at h = leave_steady i (marked e) [] (Throw i operation_cancelled) c (throw_of i operation_cancelled) (λ o. h)
  cancel_by_steady false i e c s at h =
      by_number i (S (cancel_by false i e c))
      (λ q. let here : Steady (Some e) (tasks_of j c.tasks) = subst (λ x. Steady x (tasks_of j c.tasks)) at (subst (λ n. Steady (thing c.entries n) (tasks_of j c.tasks)) (sym q) h) in
      subst (λ n. Steady (thing (put c.entries i (marked e)) n) (tasks_of j c.tasks)) q (put_steady c.entries i (marked e) (tasks_of j c.tasks) ((λ m. s), here.1)))
      (λ o. kept c (cancel_by false i e c) (thing_put_other c.entries i j (marked e) o) refl h)

  pub cancel_steady : (i : ℕ) (e : Entry) (c : Core) → thing c.entries i ≡ Some e → S c → S (cancel i e c)
  cancel_steady i e c at h = cancel_by_steady e.suspended i e (writes (cancel_line i) c) refl at h

  pub owner_steady : (o : Option (ℕ × Entry)) (c : Core) → Owned c o → S c → S (cancel_owner o c)
  owner_steady None c own h = h
  owner_steady (Some o) c own h = cancel_steady o.0 o.1 c own h

  -- a lost reference
  suffer_steady : (k : ℕ) (l : Loss) (c : Core) → OwnedLoss c l → S c → Unless S (suffer k l c)
  suffer_steady k Kept c own h = unless c.halted h
  suffer_steady k Freed c own h = free_steady k c h
  suffer_steady k Broken c own h =
      after_turn S (λ d. fill k (BadOutcome broken_promise) (writes (broken_line k) d)) c c.left (λ n. fill_steady k (BadOutcome broken_promise) (writes (broken_line k) (record c { left = n })) h)
  suffer_steady k (Orphan i e) c own h = unless (suffer k (Orphan i e) c).halted (cancel_steady i e c own h)
  suffer_steady k (Unheard port) c own h = free_steady k (record c { ports = removed c.ports port }) h

  pub lose_steady : (scan : Scan) (s : Side) (k : ℕ) (c : Core) → Rising 0 c.started c.entries → S c → Unless S (lose_ref scan s k c)
  lose_steady scan s k c up h = by_cell (thing c.cells k)
    where
      by_cell : (x : Option Cell) → Unless S (lose_cell scan s k x c)
      by_cell None = tt
      by_cell (Some cell) =
          let o = owner k c.entries in
          suffer_steady k (loss s (reference_count scan PromiseSide k c) (reference_count scan FutureSide k c) cell o (port_of k c.ports)) c
          (owned_loss c s (reference_count scan PromiseSide k c) (reference_count scan FutureSide k c) cell o (port_of k c.ports) (owned k c o up refl)) h

  pub drop_steady : (scan : Scan) (kd : Kind) (k : ℕ) (c : Core) → Rising 0 c.started c.entries → S c → Unless S (drop scan kd k c)
  drop_steady scan kd k c up h = after_turn S (lose_ref scan (side_of kd) k) c c.left (λ n. lose_steady scan (side_of kd) k (record c { left = n }) up h)

  -- a fire
  pub fire_steady : (scan : Scan) (k : ℕ) (c : Core) → Rising 0 c.started c.entries → S c → Unless S (fire scan k c)
  fire_steady scan k c up h = by_cell (thing c.cells k)
    where
      by_waiters : (cell : Cell) (ready : Bool) (ws : List Waiter) → Unless S (fire_at scan k cell ready ws c)
      by_waiters cell ready [] = lose_steady scan FutureSide k c up h
      by_waiters cell false (w ∷ ws) = lose_steady scan FutureSide k c up h
      by_waiters cell true (w ∷ ws) = by_entry (thing c.entries w.actor)
        where
          by_entry : (x : Option Entry) → Unless S (fire_to k cell w x c)
          by_entry None = tt
          by_entry (Some e) = branch_steady w.actor w.branch k e [] (Some cell) (pushed (Rattle.flow_meaning.specs.Process.Fire k) c) (λ o. h)

      by_cell : (x : Option Cell) → Unless S (fire_cell scan k x c)
      by_cell None = tt
      by_cell (Some cell) = by_waiters cell (is_ready cell) (waiters cell)

  -- the end of an actor
  pub close_steady : (scan : Scan) (i : ℕ) (result : Option ℕ) (o : OutcomeTree) (c : Core) → Rising 0 c.started c.entries → ((i ≡ j → ⊥) → S c) → Unless S (close scan i result o c)
  close_steady scan i result o c up h = after_turn S (λ d. give_result scan result o (writes (end_line i o) d)) gone c.left
      (λ n. by_result (writes (end_line i o) (record gone { left = n })) result left)
    where
      gone : Core
      gone = record c { entries = removed c.entries i }

      left : S gone
      left =
          by_number i (S gone)
          (λ q. subst (λ n. Steady (thing (removed c.entries i) n) (tasks_of j c.tasks)) q (subst (λ x. Steady x (tasks_of j c.tasks)) (sym (removed_none c.entries 0 c.started i up)) tt))
          (λ other. kept c gone (thing_removed_other c.entries i j other) refl (h other))

      by_futures : (d : Core) (k m : ℕ) → S d → Unless S (set_result k o m d)
      by_futures d k zero s = unless d.halted (dropping_steady (value_in o) (record d { cells = removed d.cells k }) s)
      by_futures d k (suc m) s = after_turn S (fill k o) d d.left (λ n. fill_steady k o (record d { left = n }) s)

      by_result : (d : Core) (x : Option ℕ) → S d → Unless S (give_result scan x o d)
      by_result d None s = unless d.halted (dropping_steady (value_in o) d s)
      by_result d (Some k) s = by_futures d k (reference_count scan FutureSide k d) s

  -- a task on top
  pub push_steady : (i : ℕ) (t : Task) (c : Core) → IsOf i t → ((ts : List Task) → Steps (t ∷ ts) → i ≡ j → NoOperand (thing c.entries j)) → S c → S (pushed t c)
  push_steady i t c own none h =
      by_number i (S (pushed t c))
      (λ q. subst (Steady (thing c.entries j)) (sym (subst (λ n. tasks_of n (t ∷ c.tasks) ≡ t ∷ tasks_of n c.tasks) q (own_task i t c.tasks own)))
      (here (thing c.entries j) (λ s. none (tasks_of j c.tasks) s q) h))
      (λ o. kept c (pushed t c) refl (other_task i j t c.tasks own o) h)
    where
      here : (x : Option Entry) → (Steps (t ∷ tasks_of j c.tasks) → NoOperand x) → Steady x (tasks_of j c.tasks) → Steady x (t ∷ tasks_of j c.tasks)
      here None n h = tt
      here (Some e) n h = (h.0, n)

  -- one before the actor's next step
  pub two_steady : (i : ℕ) (t : Task) (c : Core) → IsOf i t → ((ts : List Task) → Steps (t ∷ ts) → ⊥) → S c → S (pushed t (pushed (Run i) c))
  two_steady i t c own first h =
      let d = pushed t (pushed (Run i) c) in
      by_number i (S d)
      (λ q. subst (Steady (thing c.entries j)) (sym (subst (λ n. tasks_of n (t ∷ (Run i ∷ c.tasks)) ≡ t ∷ tasks_of n (Run i ∷ c.tasks)) q (own_task i t (Run i ∷ c.tasks) own)))
      (here (thing c.entries j) h))
      (λ o. kept c d refl (other_task i j t (Run i ∷ c.tasks) own o ∙ other_task i j (Run i) c.tasks (run_of i) o) h)
    where
      here : (x : Option Entry) → Steady x (tasks_of j c.tasks) → Steady x (t ∷ tasks_of j (Run i ∷ c.tasks))
      here None h = tt
      here (Some e) h = (h.0, λ s. absurd (first (tasks_of j (Run i ∷ c.tasks)) s))
