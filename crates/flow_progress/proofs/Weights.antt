-- What a process still has to do before it takes a turn, as a number.
use Rattle.std.proofs.Common.{◌≡◌, ℕ, zero, suc, ◌+◌, ◌<◌, ◌≤◌, nat_eq, Bool, true, false, List, [], ◌∷◌, length, ◌⊎◌, inl, inr, refl, sym, ap, ◌∙◌, subst, arith}
use Rattle.std.specs.declared.option.Option.{Option}
use Rattle.std.specs.declared.option.Option.TheVariants.{None, Some}
use Rattle.flow_value.specs.Values.{ValueTree}
use Rattle.flow_class.specs.Code.{Fetched, Last, fetch}
use Rattle.flow_numbered.specs.Numbered.{Numbered, thing}
use Rattle.flow_meaning.specs.Cells.{Ref}
use Rattle.flow_meaning.specs.Process.{Task, Run, Give, Throw, Catch, Store, Keep, Fire, Entry, Core}
use Rattle.flow_meaning.specs.References.{refs_in}
use Rattle.flow_meaning.specs.Work.{turn_of, turn, pushed, running, drops, dropping_values, leave_for}
use Rattle.flow_meaning.specs.Step.{kept_by}
use Rattle.flow_meaning.specs.Orderly.{is_of, tasks_of, is_suspended, Rising}
use Rattle.flow_meaning.specs.Frame.{Frame}
use Rattle.flow_meaning.proofs.Posture.{each_number, thing_put_other, thing_put, Unless, drops_tasks, Unmoved, IsOf, own_task, other_task}
use Rattle.flow_meaning.proofs.TaskShifts.{beyond_none}
use Rattle.flow_progress.proofs.Ahead.{behind, ahead, whole}

abbrev pub fires : List Task → ℕ
fires [] = 0
fires (Fire k ∷ ts) = 1 + fires ts
fires (t ∷ ts) = fires ts

-- what is ahead when the result of an effect has come
abbrev pub stored_room : Fetched → Frame → (kept : ℕ) → ℕ
stored_room (Last l) f kept = ahead f.code f.block f.instr kept
stored_room o f kept = ahead f.code f.block (suc f.instr) kept

-- What is ahead of an actor that runs, by the first of its tasks, with so many operands kept. What takes a turn weighs
-- nothing.
abbrev pub busy : Frame → (kept : ℕ) → List Task → ℕ
busy f kept (Run i ∷ ts) = ahead f.code f.block f.instr kept
busy f kept (Store i v ∷ ts) = 1 + stored_room (fetch f.code f.block f.instr) f kept
busy f kept (Keep i spot r ∷ ts) = 1 + ahead f.code f.block f.instr (suc kept)
busy f kept (Give i b o ∷ ts) = 5 + whole f.code
busy f kept (Throw i e ∷ ts) = 3 + behind f.code f.block
busy f kept (Catch i e ∷ ts) = 1 + ahead f.code f.block f.instr kept
busy f kept ts = 0

-- where no frame stands, the event is stopped at the next step
abbrev pub lonely : List Task → ℕ
lonely (Catch i e ∷ ts) = 1
lonely ts = 0

-- an actor that is suspended may be cancelled without a turn
abbrev pub weigh : Option Bool → (kept : ℕ) → List Task → Option Frame → ℕ
weigh (Some true) kept ts (Some f) = 4 + behind f.code f.block
weigh (Some false) kept ts (Some f) = busy f kept ts
weigh (Some false) kept ts None = lonely ts
weigh s kept ts o = 0

abbrev pub weight : Core → Numbered Frame → ℕ → ℕ
weight c xs j = weigh (is_suspended (thing c.entries j)) (kept_by (thing c.entries j)) (tasks_of j c.tasks) (thing xs j)

abbrev pub total : (ℕ → ℕ) → ℕ → ℕ
total w zero = w zero
total w (suc n) = w (suc n) + total w n

abbrev pub load : Core → Numbered Frame → ℕ
load c xs = fires c.tasks + total (weight c xs) c.started

-- sums
total_less : (w v : ℕ → ℕ) (n : ℕ) → ((j : ℕ) → w j ≤ v j) → total w n ≤ total v n
total_less w v zero h = h zero
total_less w v (suc n) h = omega (arith, h (suc n), total_less w v n h)

total_fewer : (w v : ℕ → ℕ) (i n : ℕ) → i ≤ n → w i < v i → ((j : ℕ) → w j ≤ v j) → total w n < total v n
total_fewer w v zero zero le lt h = lt
total_fewer w v (suc i) zero le lt h = absurd (omega (arith, le))
total_fewer w v i (suc n) le lt h = by_test (nat_eq i (suc n)) refl (λ le2. total_fewer w v i n le2 lt h)
  where
    by_test : (p : Bool) → nat_eq i (suc n) ≡ p → (i ≤ n → total w n < total v n) → w (suc n) + total w n < v (suc n) + total v n
    by_test true e k =
        let f : i ≡ suc n = grind arith in
        let lt2 : w (suc n) < v (suc n) = subst (λ k. w k < v k) f lt in
        omega (arith, lt2, total_less w v n h)
    by_test false e k =
        let le2 : i ≤ n = grind arith in
        omega (arith, h (suc n), k le2)

-- what the process became
abbrev pub Less : (c : Core) (n : ℕ) (d : Core) (m : ℕ) → Type 0
Less c n d m = (d.left < c.left) ⊎ ((d.left ≤ c.left) × (m < n))

-- no actor has become heavier
abbrev pub Lighter : Core → Core → Numbered Frame → Type 0
Lighter c d xs = (d.left ≤ c.left) × (fires d.tasks ≤ fires c.tasks) × (d.started ≡ c.started) × ((j : ℕ) → weight d xs j ≤ weight c xs j)

abbrev pub Eased : Core → Core → Numbered Frame → Type 0
Eased c d xs = (d.left < c.left) ⊎ Lighter c d xs

-- one actor weighs less than a number, and no other has become heavier
abbrev pub Falls : (actor : ℕ) → ℕ → Core → Core → Numbered Frame → Type 0
Falls i n c d xs =
    (d.left < c.left)
    ⊎ ((d.left ≤ c.left) × (fires d.tasks ≤ fires c.tasks) × (d.started ≡ c.started) × (weight d xs i < n) × ((j : ℕ) → (i ≡ j → ⊥) → weight d xs j ≤ weight c xs j))

pub lighter_self : (c : Core) (xs : Numbered Frame) → Lighter c c xs
lighter_self c xs = (omega arith, omega arith, refl, λ j. omega arith)

pub falls_on : (i n : ℕ) (c d m : Core) (xs : Numbered Frame) → Falls i n c d xs → Eased d m xs → Falls i n c m xs
falls_on i n c d m xs (inl t) (inl u) = inl (omega (arith, t, u))
falls_on i n c d m xs (inl t) (inr l) = inl (omega (arith, t, l.0))
falls_on i n c d m xs (inr h) (inl u) = inl (omega (arith, h.0, u))
falls_on i n c d m xs (inr h) (inr l) =
    inr (omega (arith, h.0, l.0), omega (arith, h.1, l.1), l.2 ∙ h.2, omega (arith, h.3, l.3 i), λ j k. omega (arith, h.4 j k, l.3 j))

pub lighter_on : (c d m : Core) (xs : Numbered Frame) → Lighter c d xs → Lighter d m xs → Lighter c m xs
lighter_on c d m xs h l = (omega (arith, h.0, l.0), omega (arith, h.1, l.1), l.2 ∙ h.2, λ j. omega (arith, h.3 j, l.3 j))

-- The posture of an actor, and how many operands it has kept, are the same.
abbrev pub Still : ℕ → Core → Core → Type 0
Still j c d = Unmoved j c d × (kept_by (thing d.entries j) ≡ kept_by (thing c.entries j))

pub still_weight : (j : ℕ) (c d : Core) (xs : Numbered Frame) → Still j c d → weight d xs j ≡ weight c xs j
still_weight j c d xs h =
    ap (λ s. weigh s (kept_by (thing d.entries j)) (tasks_of j d.tasks) (thing xs j)) h.0.0
    ∙ ap (λ k. weigh (is_suspended (thing c.entries j)) k (tasks_of j d.tasks) (thing xs j)) h.1
    ∙ ap (λ ts. weigh (is_suspended (thing c.entries j)) (kept_by (thing c.entries j)) ts (thing xs j)) h.0.1

pub still_less : (j : ℕ) (c d : Core) (xs : Numbered Frame) → Still j c d → weight d xs j ≤ weight c xs j
still_less j c d xs h = let e = still_weight j c d xs h in omega (arith, e)

-- where all actors are still
pub all_lighter : (c d : Core) (xs : Numbered Frame) → d.left ≤ c.left → fires d.tasks ≤ fires c.tasks → d.started ≡ c.started → ((j : ℕ) → Still j c d) → Lighter c d xs
all_lighter c d xs l f s h = (l, f, s, λ j. still_less j c d xs (h j))

-- tasks
pub quiet_task : (i : ℕ) (t : Task) (ts : List Task) → is_of i t ≡ true → fires (t ∷ ts) ≡ fires ts
quiet_task i (Fire k) ts h = absurd (no_true h)
  where
    no_true : false ≡ true → ⊥
    no_true h = cc
quiet_task i _ ts h = refl

pub drops_fires : (rs : List Ref) (ts : List Task) → fires (drops rs ts) ≡ fires ts
drops_fires [] ts = refl
drops_fires (r ∷ rs) ts = drops_fires rs ts

pub dropping_lighter : (vs : List ValueTree) (c : Core) (xs : Numbered Frame) → Lighter c (dropping_values vs c) xs
dropping_lighter vs c xs =
    let e = drops_fires (refs_in vs) c.tasks in
    all_lighter c (dropping_values vs c) xs (omega arith) (omega (arith, e)) refl (λ j. ((refl, drops_tasks j (refs_in vs) c.tasks), refl))

-- An actor that runs, with its entry and its frame.
pub record Hand (i : ℕ) (c : Core) (xs : Numbered Frame) (e : Entry) (f : Frame) : Type 0 where
  pub entry : thing c.entries i ≡ Some e
  pub awake : e.suspended ≡ false
  pub frame : thing xs i ≡ Some f

pub weight_at : (i : ℕ) (c : Core) (xs : Numbered Frame) (e : Entry) (o : Option Frame) (ts : List Task) → thing c.entries i ≡ Some e → e.suspended ≡ false → thing xs i ≡ o → tasks_of i c.tasks ≡ ts
    → weight c xs i ≡ weigh (Some false) (length e.operands) ts o
weight_at i c xs e o ts at awake fr t =
    ap (λ o. weigh (is_suspended o) (kept_by o) (tasks_of i c.tasks) (thing xs i)) at
    ∙ ap (λ b. weigh (Some b) (length e.operands) (tasks_of i c.tasks) (thing xs i)) awake
    ∙ ap (λ us. weigh (Some false) (length e.operands) us (thing xs i)) t
    ∙ ap (weigh (Some false) (length e.operands) ts) fr

pub hand_weight : (i : ℕ) (c : Core) (xs : Numbered Frame) (e : Entry) (f : Frame) (ts : List Task) → Hand i c xs e f → tasks_of i c.tasks ≡ ts → weight c xs i ≡ busy f (length e.operands) ts
hand_weight i c xs e f ts h t = weight_at i c xs e (Some f) ts h.entry h.awake h.frame t

-- a task on top
pub push_falls : (i n : ℕ) (t : Task) (c : Core) (xs : Numbered Frame) (e : Entry) (f : Frame) → Hand i c xs e f → IsOf i t → ((ts : List Task) → busy f (length e.operands) (t ∷ ts) < n)
    → Falls i n c (pushed t c) xs
push_falls i n t c xs e f h own room =
    let d = pushed t c in
    let w : weight d xs i ≡ busy f (length e.operands) (t ∷ tasks_of i c.tasks) =
    hand_weight i d xs e f (t ∷ tasks_of i c.tasks) (record { entry = h.entry; awake = h.awake; frame = h.frame }) (own_task i t c.tasks own) in
    let q = quiet_task i t c.tasks own.own in
    inr (omega arith, omega (arith, q), refl, omega (arith, w, room (tasks_of i c.tasks)), λ j k. still_less j c d xs ((refl, other_task i j t c.tasks own k), refl))

-- a result over the next step
pub two_falls : (i n : ℕ) (t : Task) (c : Core) (xs : Numbered Frame) (e : Entry) (f : Frame) → Hand i c xs e f → IsOf i t → IsOf i (Run i)
    → ((ts : List Task) → busy f (length e.operands) (t ∷ ts) < n)
    → Falls i n c (pushed t (pushed (Run i) c)) xs
two_falls i n t c xs e f h own next room =
    let k = pushed (Run i) c in
    let d = pushed t k in
    let w : weight d xs i ≡ busy f (length e.operands) (t ∷ tasks_of i k.tasks) =
    hand_weight i d xs e f (t ∷ tasks_of i k.tasks) (record { entry = h.entry; awake = h.awake; frame = h.frame }) (own_task i t k.tasks own) in
    let q = quiet_task i t k.tasks own.own in
    inr (
      omega arith,
      omega (arith, q),
      refl,
      omega (arith, w, room (tasks_of i k.tasks)),
      λ j o. still_less j c d xs ((refl, other_task i j t k.tasks own o ∙ other_task i j (Run i) c.tasks next o), refl),
    )

-- an actor leaves its wait and goes on by a task
pub leave_still : (i : ℕ) (e : Entry) (vs : List ValueTree) (t : Task) (c : Core) → IsOf i t → (j : ℕ) → (i ≡ j → ⊥) → Still j c (leave_for i e vs t c)
leave_still i e vs t c own j k =
    let ts = drops (refs_in vs) (t ∷ c.tasks) in (
      (ap is_suspended (thing_put_other c.entries i j (running e) k), drops_tasks j e.operands ts ∙ drops_tasks j (refs_in vs) (t ∷ c.tasks) ∙ other_task i j t c.tasks own k),
      ap kept_by (thing_put_other c.entries i j (running e) k),
    )

pub leave_fires : (i : ℕ) (e : Entry) (vs : List ValueTree) (t : Task) (c : Core) → IsOf i t → fires (leave_for i e vs t c).tasks ≡ fires c.tasks
leave_fires i e vs t c own = drops_fires e.operands (drops (refs_in vs) (t ∷ c.tasks)) ∙ drops_fires (refs_in vs) (t ∷ c.tasks) ∙ quiet_task i t c.tasks own.own

pub leave_weight : (i : ℕ) (e e0 : Entry) (vs : List ValueTree) (t : Task) (c : Core) (xs : Numbered Frame) (o : Option Frame) → thing c.entries i ≡ Some e0 → thing xs i ≡ o → IsOf i t
    → weight (leave_for i e vs t c) xs i ≡ weigh (Some false) 0 (t ∷ tasks_of i c.tasks) o
leave_weight i e e0 vs t c xs o at fr own =
    weight_at i (leave_for i e vs t c) xs (running e) o (t ∷ tasks_of i c.tasks) (thing_put c.entries i e0 (running e) at) refl fr
    (drops_tasks i e.operands (drops (refs_in vs) (t ∷ c.tasks)) ∙ drops_tasks i (refs_in vs) (t ∷ c.tasks) ∙ own_task i t c.tasks own)

pub leave_falls : (i n : ℕ) (e e0 : Entry) (vs : List ValueTree) (t : Task) (c : Core) (xs : Numbered Frame) (f : Frame) → thing c.entries i ≡ Some e0 → thing xs i ≡ Some f → IsOf i t
    → ((ts : List Task) → busy f 0 (t ∷ ts) < n)
    → Falls i n c (leave_for i e vs t c) xs
leave_falls i n e e0 vs t c xs f at fr own room =
    let d = leave_for i e vs t c in
    let w = leave_weight i e e0 vs t c xs (Some f) at fr own in
    let q = leave_fires i e vs t c own in
    inr (omega arith, omega (arith, q), refl, omega (arith, w, room (tasks_of i c.tasks)), λ j k. still_less j c d xs (leave_still i e vs t c own j k))

-- a turn is taken, or none was left
pub took : (P : Core → Type 0) (f : Core → Core) (c : Core) → ((n : ℕ) → n < c.left → Unless P (f (record c { left = n }))) → Unless P (turn c f)
took P f c h = by_left c.left refl
  where
    by_left : (l : ℕ) → l ≡ c.left → Unless P (turn_of l c f)
    by_left zero e = tt
    by_left (suc n) e = h n (omega (arith, e))

-- an actor with an entry has one of the numbers given so far
pub within_started : (c : Core) (i : ℕ) (e : Entry) → Rising 0 c.started c.entries → thing c.entries i ≡ Some e → i ≤ c.started
within_started c i e h q = by_test (nat_le_or i c.started)
  where
    none_some : {X : Type 0} {x : X} → None ≡ Some x → ⊥
    none_some h = cc

    nat_le_or : (a b : ℕ) → (a ≤ b) ⊎ (b < a)
    nat_le_or zero b = inl (omega arith)
    nat_le_or (suc a) zero = inr (omega arith)
    nat_le_or (suc a) (suc b) = up (nat_le_or a b)
      where
        up : (a ≤ b) ⊎ (b < a) → (suc a ≤ suc b) ⊎ (suc b < suc a)
        up (inl h) = inl (omega (arith, h))
        up (inr h) = inr (omega (arith, h))

    by_test : (i ≤ c.started) ⊎ (c.started < i) → i ≤ c.started
    by_test (inl h) = h
    by_test (inr lt) = absurd (none_some (sym (beyond_none c.entries 0 c.started i h lt) ∙ q))

-- what became of one actor, of a core whose newest task is off
pub fallen : (i n : ℕ) (c k d : Core) (xs ys : Numbered Frame) → i ≤ c.started → n ≤ weight c xs i → k.left ≤ c.left → fires k.tasks ≤ fires c.tasks → k.started ≡ c.started
    → ((j : ℕ) → (i ≡ j → ⊥) → weight k ys j ≡ weight c xs j) → Falls i n k d ys → Less c (load c xs) d (load d ys)
fallen i n c k d xs ys within w l f s same (inl t) = inl (omega (arith, t, l))
fallen i n c k d xs ys within w l f s same (inr h) =
    let all : (j : ℕ) → weight d ys j ≤ weight c xs j =
    each_number i (λ j. weight d ys j ≤ weight c xs j) (omega (arith, h.3, w)) (λ j o. let e = same j o in omega (arith, h.4 j o, e)) in
    let e : d.started ≡ c.started = h.2 ∙ s in
    let t : total (weight d ys) c.started < total (weight c xs) c.started = total_fewer (weight d ys) (weight c xs) i c.started within (omega (arith, h.3, w)) all in
    let t2 : total (weight d ys) d.started < total (weight c xs) c.started = subst (λ m. total (weight d ys) m < total (weight c xs) c.started) (sym e) t in
    inr (omega (arith, h.0, l), omega (arith, h.1, f, t2))

-- no actor became heavier, and there is a fire less
pub eased_less : (c k d : Core) (xs : Numbered Frame) → k.left ≤ c.left → fires k.tasks < fires c.tasks → k.started ≡ c.started → ((j : ℕ) → weight k xs j ≡ weight c xs j) → Eased k d xs
    → Less c (load c xs) d (load d xs)
eased_less c k d xs l f s same (inl t) = inl (omega (arith, t, l))
eased_less c k d xs l f s same (inr h) =
    let e : d.started ≡ c.started = h.2 ∙ s in
    let t : total (weight d xs) c.started ≤ total (weight c xs) c.started = total_less (weight d xs) (weight c xs) c.started (λ j. let g = same j in omega (arith, h.3 j, g)) in
    let t2 : total (weight d xs) d.started ≤ total (weight c xs) c.started = subst (λ m. total (weight d xs) m ≤ total (weight c xs) c.started) (sym e) t in
    inr (omega (arith, h.0, l), omega (arith, h.1, f, t2))
