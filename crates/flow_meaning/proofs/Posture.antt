-- How an actor's posture, whether it is suspended and what is to be done for it, changes with what a process does.
use Rattle.std.proofs.Common.{◌≡◌, ℕ, zero, suc, ◌≤◌, nat_eq, Bool, true, false, List, [], ◌∷◌, if◌then◌else◌, refl, sym, ap, ◌∙◌, subst, arith}
use Rattle.std.specs.declared.option.Option.{Option}
use Rattle.std.specs.declared.option.Option.TheVariants.{None, Some}
use Rattle.flow_value.specs.Values.{ValueTree, OutcomeTree}
use Rattle.flow_numbered.specs.Numbered.{Numbered, thing, added, put, removed}
use Rattle.flow_meaning.specs.Cells.{Ref, Cell, held}
use Rattle.flow_meaning.specs.Process.{Task, Entry, Halt, Core}
use Rattle.flow_meaning.specs.References.{refs_in}
use Rattle.flow_meaning.specs.Work.{turn_of, pushed, running, drops, dropping_values, fill_cell, free_cell, leave_for}
use Rattle.flow_meaning.specs.Orderly.{is_of, tasks_of, is_suspended, UnlessStopped, Phase, Free, Risky, Due, Waiting, phase_first, phase_by, phase_of, Rising}

pub same_number : (i : ℕ) → nat_eq i i ≡ true
same_number i = grind arith

pub other_number : (i j : ℕ) → (i ≡ j → ⊥) → nat_eq j i ≡ false
other_number i j h = by_test (nat_eq j i) refl
  where
    by_test : (p : Bool) → nat_eq j i ≡ p → p ≡ false
    by_test true e = absurd (h (grind arith))
    by_test false e = refl

-- what holds at one number and at all others
pub each_number : (i : ℕ) (P : ℕ → Type 0) → P i → ((j : ℕ) → (i ≡ j → ⊥) → P j) → (j : ℕ) → P j
each_number i P own others j = by_test (nat_eq j i) refl
  where
    differ : i ≡ j → nat_eq j i ≡ false → ⊥
    differ f e = grind arith

    by_test : (p : Bool) → nat_eq j i ≡ p → P j
    by_test true e = let f : i ≡ j = grind arith in subst P f own
    by_test false e = others j (λ f. differ f e)

-- what stands at another number
pub thing_put_other : {A : Type 0} (xs : Numbered A) (i j : ℕ) (a : A) → (i ≡ j → ⊥) → thing (put xs i a) j ≡ thing xs j
thing_put_other [] i j a h = refl
thing_put_other (x ∷ xs) i j a h = by_test (nat_eq i x.0) refl (thing_put_other xs i j a h)
  where
    by_test : (p : Bool) → nat_eq i x.0 ≡ p → thing (put xs i a) j ≡ thing xs j → thing (if p then (x.0, a) ∷ xs else x ∷ put xs i a) j ≡ thing (x ∷ xs) j
    by_test true e k =
        let n : i ≡ x.0 = grind arith in
        let f : nat_eq j x.0 ≡ false = subst (λ m. nat_eq j m ≡ false) n (other_number i j h) in
        ap (λ b. if b then Some a else thing xs j) f ∙ sym (ap (λ b. if b then Some x.1 else thing xs j) f)
    by_test false e k = ap (λ o. if nat_eq j x.0 then Some x.1 else o) k

pub thing_put : {A : Type 0} (xs : Numbered A) (i : ℕ) (a b : A) → thing xs i ≡ Some a → thing (put xs i b) i ≡ Some b
thing_put [] i a b h = cc
thing_put (x ∷ xs) i a b h = grind (arith, thing_put xs i a b)

pub thing_added : {A : Type 0} (xs : Numbered A) (i j : ℕ) (a : A) → (i ≡ j → ⊥) → thing (added xs i a) j ≡ thing xs j
thing_added [] i j a h = ap (λ b. if b then Some a else None) (other_number i j h)
thing_added (x ∷ xs) i j a h = ap (λ o. if nat_eq j x.0 then Some x.1 else o) (thing_added xs i j a h)

pub thing_removed_other : {A : Type 0} (xs : Numbered A) (i j : ℕ) → (i ≡ j → ⊥) → thing (removed xs i) j ≡ thing xs j
thing_removed_other [] i j h = refl
thing_removed_other (x ∷ xs) i j h = by_test (nat_eq i x.0) refl (thing_removed_other xs i j h)
  where
    by_test : (p : Bool) → nat_eq i x.0 ≡ p → thing (removed xs i) j ≡ thing xs j → thing (if p then xs else x ∷ removed xs i) j ≡ thing (x ∷ xs) j
    by_test true e k =
        let n : i ≡ x.0 = grind arith in
        sym (ap (λ b. if b then Some x.1 else thing xs j) (subst (λ m. nat_eq j m ≡ false) n (other_number i j h)))
    by_test false e k = ap (λ o. if nat_eq j x.0 then Some x.1 else o) k

-- numbers that rise are found where they are, and nowhere else
pub above_none : {A : Type 0} (xs : Numbered A) (above n i : ℕ) → Rising above n xs → i ≤ above → thing xs i ≡ None
above_none [] above n i h le = refl
above_none (x ∷ xs) above n i h le =
    let f : nat_eq i x.0 ≡ false = other_number x.0 i (λ e. omega (arith, h.0)) in
    ap (λ b. if b then Some x.1 else thing xs i) f ∙ above_none xs x.0 n i h.2 (omega (arith, h.0))

-- unless the event was stopped
abbrev pub Unless : (Core → Type 0) → Core → Type 0
Unless P d = UnlessStopped d.halted (P d)

pub unless : {X : Type 0} (o : Option Halt) → X → UnlessStopped o X
unless None x = x
unless (Some h) x = tt

pub unless_map : {X Y : Type 0} (o : Option Halt) → (X → Y) → UnlessStopped o X → UnlessStopped o Y
unless_map None f x = f x
unless_map (Some h) f x = tt

pub unless_both : (X Y : Type 0) (o : Option Halt) → UnlessStopped o X → UnlessStopped o Y → UnlessStopped o (X × Y)
unless_both X Y None x y = (x, y)
unless_both X Y (Some h) x y = tt

-- what takes a turn stops the event or is done
pub after_turn : (P : Core → Type 0) (f : Core → Core) (c : Core) (left : ℕ) → ((n : ℕ) → Unless P (f (record c { left = n }))) → Unless P (turn_of left c f)
after_turn P f c zero h = tt
after_turn P f c (suc n) h = h n

-- the posture of an actor is the same in both
abbrev pub Unmoved : ℕ → Core → Core → Type 0
Unmoved j c d = (is_suspended (thing d.entries j) ≡ is_suspended (thing c.entries j)) × (tasks_of j d.tasks ≡ tasks_of j c.tasks)

abbrev pub AllUnmoved : Core → Core → Type 0
AllUnmoved c d = (j : ℕ) → Unmoved j c d

pub unmoved_phase : (j : ℕ) (c d : Core) → Unmoved j c d → phase_of d j ≡ phase_of c j
unmoved_phase j c d u = ap (λ o. phase_by o (tasks_of j d.tasks)) u.0 ∙ ap (phase_by (is_suspended (thing c.entries j))) u.1

pub drops_tasks : (j : ℕ) (rs : List Ref) (ts : List Task) → tasks_of j (drops rs ts) ≡ tasks_of j ts
drops_tasks j [] ts = refl
drops_tasks j (r ∷ rs) ts = drops_tasks j rs ts

pub dropping_unmoved : (vs : List ValueTree) (c : Core) → AllUnmoved c (dropping_values vs c)
dropping_unmoved vs c j = (refl, drops_tasks j (refs_in vs) c.tasks)

pub fill_unmoved : (k : ℕ) (o : OutcomeTree) (c : Core) (x : Option Cell) → Unless (AllUnmoved c) (fill_cell k o x c)
fill_unmoved k o c None = tt
fill_unmoved k o c (Some cell) = unless c.halted (λ j. (refl, refl))

pub free_unmoved : (k : ℕ) (c : Core) (x : Option Cell) → Unless (AllUnmoved c) (free_cell k x c)
free_unmoved k c None = tt
free_unmoved k c (Some cell) = unless c.halted (λ j. (refl, drops_tasks j (refs_in (held cell)) c.tasks))

-- what a task of one actor is to the others
pub record IsOf (i : ℕ) (t : Task) : Type 0 where
  pub own : is_of i t ≡ true
  pub other : (j : ℕ) → (i ≡ j → ⊥) → is_of j t ≡ false

pub own_task : (i : ℕ) (t : Task) (ts : List Task) → IsOf i t → tasks_of i (t ∷ ts) ≡ t ∷ tasks_of i ts
own_task i t ts h = ap (λ b. if b then t ∷ tasks_of i ts else tasks_of i ts) h.own

pub other_task : (i j : ℕ) (t : Task) (ts : List Task) → IsOf i t → (i ≡ j → ⊥) → tasks_of j (t ∷ ts) ≡ tasks_of j ts
other_task i j t ts h n = ap (λ b. if b then t ∷ tasks_of j ts else tasks_of j ts) (h.other j n)

-- each phase says more than those with a lower rank
abbrev pub rank : Phase → ℕ
rank Free = 0
rank Risky = 1
rank Due = 2
rank Waiting = 3

-- an actor may be handed no more than by these phases: the others by what they asked before
abbrev pub Shifts : (own : ℕ) → Phase → Core → Core → Type 0
Shifts i p c d = (rank (phase_of d i) ≤ rank p) × ((j : ℕ) → (i ≡ j → ⊥) → rank (phase_of d j) ≤ rank (phase_of c j))

-- for all actors
abbrev pub Eases : Core → Core → Type 0
Eases c d = (j : ℕ) → rank (phase_of d j) ≤ rank (phase_of c j)

pub same_rank : {p q : Phase} → p ≡ q → rank p ≤ rank q
same_rank e = let f = ap rank e in omega arith

pub unmoved_eases : (c d : Core) → AllUnmoved c d → Eases c d
unmoved_eases c d u j = same_rank (unmoved_phase j c d (u j))

pub eases_on : (c d f : Core) → Eases c d → Eases d f → Eases c f
eases_on c d f a b j = omega (arith, a j, b j)

-- then something in which no actor moves, or moves only so
pub shifts_on : (i : ℕ) (p : Phase) (c d f : Core) → Shifts i p c d → Eases d f → Shifts i p c f
shifts_on i p c d f h u = (omega (arith, h.0, u i), λ j n. omega (arith, h.1 j n, u j))

pub shifts_after : (i : ℕ) (p : Phase) (c d f : Core) → ((j : ℕ) → (i ≡ j → ⊥) → Unmoved j c d) → Shifts i p d f → Shifts i p c f
shifts_after i p c d f u h = (h.0, λ j n. omega (arith, h.1 j n, same_rank (unmoved_phase j c d (u j n))))

pub eases_shifts : (i : ℕ) (c d : Core) → Eases c d → Shifts i (phase_of c i) c d
eases_shifts i c d h = (h i, λ j n. h j)

-- an actor that runs
abbrev pub Awake : ℕ → Core → Type 0
Awake i c = is_suspended (thing c.entries i) ≡ Some false

pub awake_entry : (i : ℕ) (c : Core) (o : Option Entry) → is_suspended o ≡ Some false → (e : Entry) × (o ≡ Some e) × (e.suspended ≡ false)
awake_entry i c None h = absurd (none_some h)
  where
    none_some : {b : Bool} → None ≡ Some b → ⊥
    none_some h = cc
awake_entry i c (Some e) h = (e, refl, cc)

-- the phase of one that runs is by its first task
pub phase_awake : (i : ℕ) (c : Core) (t : Task) (ts : List Task) → Awake i c → tasks_of i c.tasks ≡ t ∷ ts → phase_of c i ≡ phase_first (t ∷ ts)
phase_awake i c t ts a e = ap (λ o. phase_by o (tasks_of i c.tasks)) a ∙ ap phase_first e

-- a task on top
pub pushed_shifts : (i : ℕ) (p : Phase) (t : Task) (c : Core) → IsOf i t → Awake i c → ((ts : List Task) → rank (phase_first (t ∷ ts)) ≤ rank p) → Shifts i p c (pushed t c)
pushed_shifts i p t c h a r = (
  omega (arith, r (tasks_of i c.tasks), same_rank (phase_awake i (pushed t c) t (tasks_of i c.tasks) a (own_task i t c.tasks h))),
  λ j n. same_rank (unmoved_phase j c (pushed t c) (refl, other_task i j t c.tasks h n)),
)

-- an actor leaves its wait, or has none, and goes on by a task
pub left_tasks : (j : ℕ) (e : Entry) (vs : List ValueTree) (ts : List Task) → tasks_of j (drops e.operands (drops (refs_in vs) ts)) ≡ tasks_of j ts
left_tasks j e vs ts = drops_tasks j e.operands (drops (refs_in vs) ts) ∙ drops_tasks j (refs_in vs) ts

pub leave_shifts : (i : ℕ) (p : Phase) (e e0 : Entry) (vs : List ValueTree) (t : Task) (c : Core) → IsOf i t → thing c.entries i ≡ Some e0 → ((ts : List Task) → rank (phase_first (t ∷ ts)) ≤ rank p)
    → Shifts i p c (leave_for i e vs t c)
leave_shifts i p e e0 vs t c h at r =
    let d = leave_for i e vs t c in
    let a : Awake i d = ap is_suspended (thing_put c.entries i e0 (running e) at) in (
      omega (arith, r (tasks_of i c.tasks), same_rank (phase_awake i d t (tasks_of i c.tasks) a (left_tasks i e vs (t ∷ c.tasks) ∙ own_task i t c.tasks h))),
      λ j n. same_rank (unmoved_phase j c d (ap is_suspended (thing_put_other c.entries i j (running e) n), left_tasks j e vs (t ∷ c.tasks) ∙ other_task i j t c.tasks h n)),
    )

-- a phase says no more than that of an actor that waits
pub least : (p : Phase) → rank p ≤ 3
least Free = omega arith
least _ = omega arith

pub phase_waits : (i : ℕ) (c : Core) → is_suspended (thing c.entries i) ≡ Some true → phase_of c i ≡ Waiting
phase_waits i c h = ap (λ o. phase_by o (tasks_of i c.tasks)) h

-- numbers that rise: what is removed is found no more
pub removed_none : {A : Type 0} (xs : Numbered A) (above n i : ℕ) → Rising above n xs → thing (removed xs i) i ≡ None
removed_none [] above n i h = refl
removed_none (x ∷ xs) above n i h = by_test (nat_eq i x.0) refl (removed_none xs x.0 n i h.2)
  where
    by_test : (p : Bool) → nat_eq i x.0 ≡ p → thing (removed xs i) i ≡ None → thing (if p then xs else x ∷ removed xs i) i ≡ None
    by_test true e k = let n : i ≡ x.0 = grind arith in above_none xs x.0 _ i h.2 (omega arith)
    by_test false e k = ap (λ b. if b then Some x.1 else thing (removed xs i) i) e ∙ k

-- all actors are one and the others
pub by_number : (i : ℕ) (c d : Core) → rank (phase_of d i) ≤ rank (phase_of c i) → ((j : ℕ) → (i ≡ j → ⊥) → rank (phase_of d j) ≤ rank (phase_of c j)) → Eases c d
by_number i c d h k = each_number i (λ j. rank (phase_of d j) ≤ rank (phase_of c j)) h k
