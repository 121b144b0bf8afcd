-- Each thing that a process does to itself keeps the order of its tasks.
use Rattle.std.proofs.Common.{◌≡◌, ℕ, suc, Bool, true, false, List, [], ◌∷◌, ◌++◌, if◌then◌else◌, refl, sym, ap, ◌∙◌, subst}
use Rattle.std.specs.declared.option.Option.{Option}
use Rattle.std.specs.declared.option.Option.TheVariants.{None, Some}
use Rattle.flow_base.specs.ErrorNumbers.{operation_cancelled, second_waiter}
use Rattle.flow_value.specs.Values.{ValueTree, OutcomeTree}
use Rattle.flow_numbered.specs.Numbered.{Numbered, thing, put, removed}
use Rattle.flow_meaning.specs.Cells.{Ref, Waiter, Cell, Single, Stream, waiters, filled, after_taking, taken, with_waiter, is_busy, held}
use Rattle.flow_meaning.specs.Requests.{Spot}
use Rattle.flow_meaning.specs.Process.{Task, Run, Give, Throw, Entry, Core}
use Rattle.flow_meaning.specs.References.{refs_in}
use Rattle.flow_meaning.specs.Lines.{take_line, cancel_line, wait_line}
use Rattle.flow_meaning.specs.Work.{writes, pushed, drops, dropping_values, fill, fill_cell, free, free_cell, running, leave_for, give, take_branch, Registration, Registered, Refused, Missing, register_at, register_one, register, marked, cancel_by, cancel}
use Rattle.flow_meaning.specs.React.{suspend}
use Rattle.flow_meaning.specs.Orderly.{tasks_of, Proceeds, takes, throws, is_suspended, Stands, Paired, AllWait, CellsWait}
use Rattle.flow_meaning.proofs.Posture.{each_number, thing_put_other, thing_put, Unless, unless, after_turn, dropping_unmoved, IsOf, own_task, other_task, left_tasks, Awake}
use Rattle.flow_meaning.proofs.Shifts.{give_of, throw_of, cell_waits}
use Rattle.flow_meaning.proofs.Order.{Ordered, InHand, unmoved_stands, all_stand, rising_put, waits_by, waits_put, waits_removed, waits_left, filled_waiters, taking_waiters}

pub paired_drops : (rs : List Ref) (ts : List Task) → Paired ts → Paired (drops rs ts)
paired_drops [] ts h = h
paired_drops (r ∷ rs) ts h = paired_drops rs ts h

pub dropping_ordered : (vs : List ValueTree) (c : Core) → Ordered c → Ordered (dropping_values vs c)
dropping_ordered vs c o = (λ j. unmoved_stands j c (dropping_values vs c) (dropping_unmoved vs c j) (o.0 j), paired_drops (refs_in vs) c.tasks o.1, o.2, o.3)

-- cells
cell_ordered : (k : ℕ) (cell new : Cell) (c : Core) → thing c.cells k ≡ Some cell → waiters new ≡ waiters cell → CellsWait c.entries c.cells → CellsWait c.entries (put c.cells k new)
cell_ordered k cell new c at e h = waits_put c.entries c.cells k new (subst (AllWait c.entries) (sym e) (cell_waits c.entries c.cells k cell h at)) h

fill_cell_ordered : (k : ℕ) (v : OutcomeTree) (c : Core) (x : Option Cell) → thing c.cells k ≡ x → Ordered c → Unless Ordered (fill_cell k v x c)
fill_cell_ordered k v c None at o = tt
fill_cell_ordered k v c (Some cell) at o = unless c.halted (o.0, o.1, cell_ordered k cell (filled cell v) c at (filled_waiters cell v) o.2, o.3)

pub fill_ordered : (k : ℕ) (v : OutcomeTree) (c : Core) → Ordered c → Unless Ordered (fill k v c)
fill_ordered k v c o = fill_cell_ordered k v c (thing c.cells k) refl o

free_cell_ordered : (k : ℕ) (c : Core) (x : Option Cell) → Ordered c → Unless Ordered (free_cell k x c)
free_cell_ordered k c None o = tt
free_cell_ordered k c (Some cell) o =
    unless c.halted (dropping_ordered (held cell) (record c { cells = removed c.cells k }) (o.0, o.1, waits_removed c.entries c.cells k o.2, o.3))

pub free_ordered : (k : ℕ) (c : Core) → Ordered c → Unless Ordered (free k c)
free_ordered k c o = free_cell_ordered k c (thing c.cells k) o

-- an actor in hand goes on by a task
pub push_ordered : (i : ℕ) (t : Task) (c : Core) → InHand i c → Awake i c → IsOf i t → Proceeds i (t ∷ []) → Paired (t ∷ c.tasks) → Ordered (pushed t c)
push_ordered i t c h a f p pair = (
  all_stand i (pushed t c) (one_stands i c (t ∷ c.tasks) (t ∷ []) a (own_task i t c.tasks f ∙ ap (λ ts. t ∷ ts) h.0) p)
      (λ j n. unmoved_stands j c (pushed t c) (refl, other_task i j t c.tasks f n) (h.1 j n)),
  pair,
  h.3,
  h.4,
)
  where
    one_stands : (i : ℕ) (c : Core) (ts us : List Task) → Awake i c → tasks_of i ts ≡ us → Proceeds i us → Stands i (is_suspended (thing c.entries i)) (tasks_of i ts)
    one_stands i c ts us a e p = subst (λ o. Stands i o (tasks_of i ts)) (sym a) (subst (Proceeds i) (sym e) p)

pub two_ordered : (i : ℕ) (t : Task) (c : Core) → InHand i c → Awake i c → IsOf i t → IsOf i (Run i) → Proceeds i (t ∷ Run i ∷ []) → Paired (t ∷ Run i ∷ c.tasks)
    → Ordered (pushed t (pushed (Run i) c))
two_ordered i t c h a f g p pair =
    let d = pushed t (pushed (Run i) c) in
    let own : tasks_of i d.tasks ≡ t ∷ Run i ∷ [] = own_task i t (Run i ∷ c.tasks) f ∙ ap (λ ts. t ∷ ts) (own_task i (Run i) c.tasks g ∙ ap (λ ts. Run i ∷ ts) h.0) in (
      all_stand i d (subst (λ o. Stands i o (tasks_of i d.tasks)) (sym a) (subst (Proceeds i) (sym own) p))
          (λ j n. unmoved_stands j c d (refl, other_task i j t (Run i ∷ c.tasks) f n ∙ other_task i j (Run i) c.tasks g n) (h.1 j n)),
      pair,
      h.3,
      h.4,
    )

-- an actor in hand leaves its wait and goes on by a task
stays_put : (i : ℕ) (e : Entry) (c : Core) (j : ℕ) → (i ≡ j → ⊥) → is_suspended (thing c.entries j) ≡ Some true → is_suspended (thing (put c.entries i e) j) ≡ Some true
stays_put i e c j n h = ap is_suspended (thing_put_other c.entries i j e n) ∙ h

pub leave_ordered : (i : ℕ) (e e0 : Entry) (vs : List ValueTree) (t : Task) (c : Core) → InHand i c → thing c.entries i ≡ Some e0 → IsOf i t → Proceeds i (t ∷ []) → Paired (t ∷ c.tasks)
    → Ordered (leave_for i e vs t c)
leave_ordered i e e0 vs t c h at f p pair =
    let d = leave_for i e vs t c in
    let a : Awake i d = ap is_suspended (thing_put c.entries i e0 (running e) at) in
    let own : tasks_of i d.tasks ≡ t ∷ [] = left_tasks i e vs (t ∷ c.tasks) ∙ own_task i t c.tasks f ∙ ap (λ ts. t ∷ ts) h.0 in (
      all_stand i d (subst (λ o. Stands i o (tasks_of i d.tasks)) (sym a) (subst (Proceeds i) (sym own) p))
          (λ j n. unmoved_stands j c d (ap is_suspended (thing_put_other c.entries i j (running e) n), left_tasks j e vs (t ∷ c.tasks) ∙ other_task i j t c.tasks f n) (h.1 j n)),
      paired_drops e.operands (drops (refs_in vs) (t ∷ c.tasks)) (paired_drops (refs_in vs) (t ∷ c.tasks) pair),
      waits_left i c.entries (put c.entries i (running e)) c.cells (stays_put i (running e) c) h.3,
      rising_put c.entries 0 c.started i (running e) h.4,
    )

give_ordered : (i b : ℕ) (e e0 : Entry) (vs : List ValueTree) (o : Option OutcomeTree) (c : Core) → InHand i c → thing c.entries i ≡ Some e0 → Unless Ordered (give i b e vs o c)
give_ordered i b e e0 vs None c h at = tt
give_ordered i b e e0 vs (Some o) c h at = unless c.halted (leave_ordered i e e0 vs (Give i b o) c h at (give_of i b o) takes h.2)

branch_at : (i b k : ℕ) (e e0 : Entry) (vs : List ValueTree) (x : Option Cell) (c : Core) → thing c.cells k ≡ x → InHand i c → thing c.entries i ≡ Some e0 → Unless Ordered (take_branch i b k e vs x c)
branch_at i b k e e0 vs None c ck h at = tt
branch_at i b k e e0 vs (Some cell) c ck h at =
    after_turn Ordered (λ d. give i b e vs (taken cell) (record (writes (take_line i e.spot.group b) d) { cells = put d.cells k (after_taking cell) })) c c.left
    (λ n. give_ordered i b e e0 vs (taken cell) (record (writes (take_line i e.spot.group b) (record c { left = n })) { cells = put c.cells k (after_taking cell) })
    (h.0, h.1, h.2, cell_ordered k cell (after_taking cell) c ck (taking_waiters cell) h.3, h.4) at)

pub branch_ordered : (i b k : ℕ) (e e0 : Entry) (vs : List ValueTree) (c : Core) → InHand i c → thing c.entries i ≡ Some e0 → Unless Ordered (take_branch i b k e vs (thing c.cells k) c)
branch_ordered i b k e e0 vs c h at = branch_at i b k e e0 vs (thing c.cells k) c refl h at

-- a suspended actor is in hand
pub waits_in_hand : (i : ℕ) (c : Core) → Ordered c → is_suspended (thing c.entries i) ≡ Some true → InHand i c
waits_in_hand i c o h = (subst (λ s. Stands i s (tasks_of i c.tasks)) h (o.0 i), λ j n. o.0 j, o.1, o.2, o.3)

-- an entry changes, but not whether its actor is suspended
stays_same : (i : ℕ) (e : Entry) (c : Core) → is_suspended (thing (put c.entries i e) i) ≡ is_suspended (thing c.entries i) → (j : ℕ) → is_suspended (thing c.entries j) ≡ Some true
    → is_suspended (thing (put c.entries i e) j) ≡ Some true
stays_same i e c own = each_number i (λ j. is_suspended (thing c.entries j) ≡ Some true → is_suspended (thing (put c.entries i e) j) ≡ Some true) (λ s. own ∙ s) (λ j n s. stays_put i e c j n s)

pub entry_ordered : (i : ℕ) (e new : Entry) (c : Core) → Ordered c → thing c.entries i ≡ Some e → new.suspended ≡ e.suspended → Ordered (record c { entries = put c.entries i new })
entry_ordered i e new c o at h =
    let d = record c { entries = put c.entries i new } in
    let own = ap is_suspended (thing_put c.entries i e new at) ∙ ap Some h ∙ sym (ap is_suspended at) in (
      all_stand i d (unmoved_stands i c d (own, refl) (o.0 i)) (λ j n. unmoved_stands j c d (ap is_suspended (thing_put_other c.entries i j new n), refl) (o.0 j)),
      o.1,
      waits_by c.entries d.entries c.cells (stays_same i new c own) o.2,
      rising_put c.entries 0 c.started i new o.3,
    )

cancel_by_ordered : (s : Bool) (i : ℕ) (e : Entry) (c : Core) → Ordered c → thing c.entries i ≡ Some e → e.suspended ≡ s → Ordered (cancel_by s i e c)
cancel_by_ordered true i e c o at h =
    leave_ordered i (marked e) e [] (Throw i operation_cancelled) c (waits_in_hand i c o (ap is_suspended at ∙ ap Some h)) at (throw_of i operation_cancelled) throws o.1
cancel_by_ordered false i e c o at h = entry_ordered i e (marked e) c o at refl

pub cancel_ordered : (i : ℕ) (e : Entry) (c : Core) → Ordered c → thing c.entries i ≡ Some e → Ordered (cancel i e c)
cancel_ordered i e c o at = cancel_by_ordered e.suspended i e (writes (cancel_line i) c) o at refl

-- an actor in hand waits: it alone is registered, and it is suspended
abbrev Registers : Numbered Entry → Registration → Type 0
Registers fs (Registered cells) = CellsWait fs cells
Registers fs Refused = Unit {0}
Registers fs Missing = Unit {0}

one_more : (fs : Numbered Entry) (ws : List Waiter) (w : Waiter) → AllWait fs ws → is_suspended (thing fs w.actor) ≡ Some true → AllWait fs (ws ++ w ∷ [])
one_more fs [] w h s = (s, tt)
one_more fs (x ∷ ws) w h s = (h.0, one_more fs ws w h.1 s)

waiter_waits : (fs : Numbered Entry) (cell : Cell) (w : Waiter) → AllWait fs (waiters cell) → is_suspended (thing fs w.actor) ≡ Some true → AllWait fs (waiters (with_waiter cell w))
waiter_waits fs (Single o ws) w h s = one_more fs ws w h s
waiter_waits fs (Stream q end None) w h s = (s, tt)
waiter_waits fs (Stream q end (Some old)) w h s = h

register_at_waits : (fs : Numbered Entry) (w : Waiter) (k : ℕ) (cells : Numbered Cell) (x : Option Cell) → thing cells k ≡ x → is_suspended (thing fs w.actor) ≡ Some true → CellsWait fs cells
    → Registers fs (register_at w k cells x)
register_at_waits fs w k cells None at s h = tt
register_at_waits fs w k cells (Some cell) at s h = by_test (is_busy cell)
  where
    by_test : (b : Bool) → Registers fs (if b then Refused else Registered (put cells k (with_waiter cell w)))
    by_test true = tt
    by_test false = waits_put fs cells k (with_waiter cell w) (waiter_waits fs cell w (cell_waits fs cells k cell h at) s) h

register_one_waits : (fs : Numbered Entry) (w : Waiter) (k : ℕ) (r : Registration) → is_suspended (thing fs w.actor) ≡ Some true → Registers fs r → Registers fs (register_one w k r)
register_one_waits fs w k (Registered cells) s h = register_at_waits fs w k cells (thing cells k) refl s h
register_one_waits fs w k Refused s h = tt
register_one_waits fs w k Missing s h = tt

register_waits : (fs : Numbered Entry) (i b : ℕ) (rs : List Ref) (r : Registration) → is_suspended (thing fs i) ≡ Some true → Registers fs r → Registers fs (register i b rs r)
register_waits fs i b [] r s h = h
register_waits fs i b (x ∷ rs) r s h = register_waits fs i (suc b) rs (register_one (record { actor = i; branch = b }) x.1 r) s (register_one_waits fs (record { actor = i; branch = b }) x.1 r s h)

pub suspend_ordered : (i : ℕ) (spot : Spot) (e e0 : Entry) (vs : List ValueTree) (c : Core) → InHand i c → Awake i c → thing c.entries i ≡ Some e0
    → Unless Ordered (suspend i spot e vs (register i 0 e.operands (Registered c.cells)) c)
suspend_ordered i spot e e0 vs c h a at =
    by_registration (register i 0 e.operands (Registered c.cells))
    (register_waits fs i 0 e.operands (Registered c.cells) now (waits_by c.entries fs c.cells stay h.3))
  where
    asleep : Entry
    asleep = record e { suspended = true }

    fs : Numbered Entry
    fs = put c.entries i asleep

    now : is_suspended (thing fs i) ≡ Some true
    now = ap is_suspended (thing_put c.entries i e0 asleep at)

    awake_asleep : {o : Option Bool} → o ≡ Some false → o ≡ Some true → ⊥
    awake_asleep f g = cc

    same_place : (j : ℕ) → i ≡ j → is_suspended (thing c.entries j) ≡ Some true → ⊥
    same_place j f s = awake_asleep (subst (λ n. is_suspended (thing c.entries n) ≡ Some false) f a) s

    stay : (j : ℕ) → is_suspended (thing c.entries j) ≡ Some true → is_suspended (thing fs j) ≡ Some true
    stay j s = stays_put i asleep c j (λ f. same_place j f s) s

    by_registration : (r : Registration) → Registers fs r → Unless Ordered (suspend i spot e vs r c)
    by_registration Missing k = tt
    by_registration Refused k = unless c.halted (leave_ordered i e e0 vs (Throw i second_waiter) c h at (throw_of i second_waiter) throws h.2)
    by_registration (Registered cells) k =
        let m = record (writes (wait_line i spot.group) c) { cells = cells; entries = fs } in
        unless c.halted (dropping_ordered vs m (
          all_stand i m (subst (λ o. Stands i o (tasks_of i c.tasks)) (sym now) h.0) (λ j n. unmoved_stands j c m (ap is_suspended (thing_put_other c.entries i j asleep n), refl) (h.1 j n)),
          h.2,
          k,
          rising_put c.entries 0 c.started i asleep h.4,
        ))
