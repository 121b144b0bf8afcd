-- A process that refers to neither side of a cell sees nothing of it.
use Rattle.std.proofs.Common.{◌≡◌, ℕ, zero, suc, ◌+◌, nat_eq, Bool, true, false, List, [], ◌∷◌, ◌++◌, refl, sym, ap, subst, ◌∙◌, arith, if◌then◌else◌}
use Rattle.std.specs.Prelude.{slice_get}
use Rattle.std.specs.declared.option.Option.{Option}
use Rattle.std.specs.declared.option.Option.TheVariants.{None, Some}
use Rattle.flow_value.specs.declared.value.Kind.{Kind}
use Rattle.flow_value.specs.declared.value.Kind.TheVariants as kind
use Rattle.flow_value.specs.Values.{ValueTree, OutcomeTree, GoodOutcome, BadOutcome, refs_of}
use Rattle.flow_value.proofs.References.{listed_refs}
use Rattle.flow_class.specs.declared.class.Slotted.TheVariants.{Slot, Local}
use Rattle.flow_numbered.specs.Numbered.{Numbered, thing}
use Rattle.flow_meaning.specs.Cells.{Side, PromiseSide, FutureSide, Ref, side_of, Waiter, Cell, Single, Stream, waiters, held}
use Rattle.flow_meaning.specs.Process.{Task, Run, Give, Throw, Catch, Store, Keep, Close, Fire, Drop, Entry}
use Rattle.flow_meaning.specs.References.{refs_in, value_in, one, count, count_maybe, count_waiters, in_cells, count_kept, in_entries, in_task, in_tasks, in_ports, in_requests, scan_of}
use Rattle.flow_meaning.specs.Variables.{flat, filled}
use Rattle.flow_meaning.specs.Frame.{Memory, Frame, reversed, everything, occ_memory}
use Rattle.flow_progress.proofs.Retyped.{Seen, Sees, OutcomeSees, QueueSees, CellSees, MemorySees, OperandsSee, TaskSees, TasksSee, AllSeen}

-- another number
abbrev pub Off : ℕ → ℕ → Type 0
Off k n = n ≡ k → ⊥

pub zero_first : (a b : ℕ) → a + b ≡ 0 → a ≡ 0
zero_first a b e = omega (arith, e)

pub zero_second : (a b : ℕ) → a + b ≡ 0 → b ≡ 0
zero_second a b e = omega (arith, e)

abbrev pub mark : Bool → ℕ
mark b = if b then 1 else 0

side_off : (k n : ℕ) → mark (nat_eq k n) ≡ 0 → Off k n
side_off k n e q = by_test (nat_eq k n) refl e
  where
    by_test : (b : Bool) → nat_eq k n ≡ b → mark b ≡ 0 → ⊥
    by_test true f e = omega (arith, e)
    by_test false f e = grind (arith, f, q)

refs_append : (xs ys : List ValueTree) → refs_in (xs ++ ys) ≡ refs_in xs ++ refs_in ys
refs_append [] ys = refl
refs_append (x ∷ xs) ys = ap (λ l. refs_of x ++ l) (refs_append xs ys) ∙ sym (again (refs_of x) (refs_in xs) (refs_in ys))
  where
    again : (us ws zs : List Ref) → (us ++ ws) ++ zs ≡ us ++ (ws ++ zs)
    again [] ws zs = refl
    again (u ∷ us) ws zs = ap (λ l. u ∷ l) (again us ws zs)

filled_append : (xs ys : List (Option ValueTree)) → filled (xs ++ ys) ≡ filled xs ++ filled ys
filled_append [] ys = refl
filled_append (None ∷ xs) ys = filled_append xs ys
filled_append (Some v ∷ xs) ys = ap (λ l. v ∷ l) (filled_append xs ys)

pub count_append : (s : Side) (k : ℕ) (xs ys : List Ref) → count s k (xs ++ ys) ≡ count s k xs + count s k ys
count_append s k [] ys = omega arith
count_append s k (x ∷ xs) ys = let h = count_append s k xs ys in omega (arith, h)

module _ (k : ℕ) where
  -- neither side is referred to
  abbrev Nil : List Ref → Type 0
  Nil qs = (count PromiseSide k qs ≡ 0) × (count FutureSide k qs ≡ 0)

  nil_first : (xs ys : List Ref) → Nil (xs ++ ys) → Nil xs
  nil_first xs ys h = (
    zero_first (count PromiseSide k xs) (count PromiseSide k ys) (sym (count_append PromiseSide k xs ys) ∙ h.0),
    zero_first (count FutureSide k xs) (count FutureSide k ys) (sym (count_append FutureSide k xs ys) ∙ h.1),
  )

  nil_second : (xs ys : List Ref) → Nil (xs ++ ys) → Nil ys
  nil_second xs ys h = (
    zero_second (count PromiseSide k xs) (count PromiseSide k ys) (sym (count_append PromiseSide k xs ys) ∙ h.0),
    zero_second (count FutureSide k xs) (count FutureSide k ys) (sym (count_append FutureSide k xs ys) ∙ h.1),
  )

  kind_off : (kd : Kind) (n : ℕ) → one PromiseSide k (side_of kd) n ≡ 0 → one FutureSide k (side_of kd) n ≡ 0 → Off k n
  kind_off kind.Promise n a b = side_off k n a
  kind_off kind.PromiseStream n a b = side_off k n a
  kind_off kind.Future n a b = side_off k n b
  kind_off kind.FutureStream n a b = side_off k n b

  pub refs_off : (qs : List Ref) → Nil qs → OperandsSee (Off k) qs
  refs_off [] h = tt
  refs_off (q ∷ qs) h = (
    kind_off q.0 q.1 (zero_first (one PromiseSide k (side_of q.0) q.1) (count PromiseSide k qs) h.0) (zero_first (one FutureSide k (side_of q.0) q.1) (count FutureSide k qs) h.1),
    refs_off qs (zero_second (one PromiseSide k (side_of q.0) q.1) (count PromiseSide k qs) h.0, zero_second (one FutureSide k (side_of q.0) q.1) (count FutureSide k qs) h.1),
  )

  value_off : (v : ValueTree) → Nil (refs_of v) → Sees (Off k) v
  value_off v h = listed_refs (Seen (Off k)) v (refs_off (refs_of v) h)

  queue_off : (vs : List ValueTree) → Nil (refs_in vs) → QueueSees (Off k) vs
  queue_off [] h = tt
  queue_off (v ∷ vs) h = (value_off v (nil_first (refs_of v) (refs_in vs) h), queue_off vs (nil_second (refs_of v) (refs_in vs) h))

  pub outcome_off : (o : OutcomeTree) → Nil (refs_in (value_in o)) → OutcomeSees (Off k) o
  outcome_off (GoodOutcome v) h = value_off v (nil_first (refs_of v) [] h)
  outcome_off (BadOutcome e) h = tt

  pub cell_off : (cell : Cell) → Nil (refs_in (held cell)) → CellSees (Off k) cell
  cell_off (Single None ws) h = tt
  cell_off (Single (Some (GoodOutcome v)) ws) h = value_off v (nil_first (refs_of v) [] h)
  cell_off (Single (Some (BadOutcome e)) ws) h = tt
  cell_off (Stream q end w) h = queue_off q h

  place_off : (xs : List (Option ValueTree)) → Nil (refs_in (filled (reversed xs))) → (n : ℕ) (v : ValueTree) → flat (slice_get xs n) ≡ Some v → Sees (Off k) v
  place_off [] h n v e = absurd cc
  place_off (x ∷ xs) h n v e =
      let q = subst Nil (ap refs_in (filled_append (reversed xs) (x ∷ [])) ∙ refs_append (filled (reversed xs)) (filled (x ∷ []))) h in
      by_number n e (place_off xs (nil_first (refs_in (filled (reversed xs))) (refs_in (filled (x ∷ []))) q)) (nil_second (refs_in (filled (reversed xs))) (refs_in (filled (x ∷ []))) q)
    where
      here_off : (x : Option ValueTree) → x ≡ Some v → Nil (refs_in (filled (x ∷ []))) → Sees (Off k) v
      here_off None e h = absurd cc
      here_off (Some u) e h = subst (Sees (Off k)) (same u e) (value_off u (nil_first (refs_of u) [] h))
        where
          same : (u : ValueTree) → Some u ≡ Some v → u ≡ v
          same u e = cc

      by_number : (n : ℕ) → flat (slice_get (x ∷ xs) n) ≡ Some v → ((n : ℕ) (v : ValueTree) → flat (slice_get xs n) ≡ Some v → Sees (Off k) v) → Nil (refs_in (filled (x ∷ []))) → Sees (Off k) v
      by_number zero e f g = here_off x e g
      by_number (suc n) e f g = f n v e

  pub memory_off : (m : Memory) → Nil (refs_in (everything m)) → MemorySees (Off k) m
  memory_off m h = by_place (subst Nil (refs_append (filled (reversed m.locals)) (filled (reversed m.slots))) h)
    where
      by_place : Nil (refs_in (filled (reversed m.locals)) ++ refs_in (filled (reversed m.slots))) → MemorySees (Off k) m
      by_place h (Slot n) v e = place_off m.slots (nil_second (refs_in (filled (reversed m.locals))) (refs_in (filled (reversed m.slots))) h) n v e
      by_place h (Local n) v e = place_off m.locals (nil_first (refs_in (filled (reversed m.locals))) (refs_in (filled (reversed m.slots))) h) n v e

  task_off : (t : Task) → in_task PromiseSide k t ≡ 0 → in_task FutureSide k t ≡ 0 → TaskSees (Off k) t
  task_off (Run i) a b = tt
  task_off (Give i n o) a b = outcome_off o (a, b)
  task_off (Throw i e) a b = tt
  task_off (Catch i e) a b = tt
  task_off (Store i v) a b = value_off v (a, b)
  task_off (Keep i spot q) a b = kind_off q.0 q.1 a b
  task_off (Close i o) a b = outcome_off o (a, b)
  task_off (Fire n) a b = side_off k n b
  task_off (Drop kd n) a b = kind_off kd n a b

  pub tasks_off : (ts : List Task) → in_tasks PromiseSide k ts ≡ 0 → in_tasks FutureSide k ts ≡ 0 → TasksSee (Off k) ts
  tasks_off [] a b = tt
  tasks_off (t ∷ ts) a b = (
    task_off t (zero_first (in_task PromiseSide k t) (in_tasks PromiseSide k ts) a) (zero_first (in_task FutureSide k t) (in_tasks FutureSide k ts) b),
    tasks_off ts (zero_second (in_task PromiseSide k t) (in_tasks PromiseSide k ts) a) (zero_second (in_task FutureSide k t) (in_tasks FutureSide k ts) b),
  )

  pub requests_off : (ns : List ℕ) → in_requests PromiseSide k ns ≡ 0 → AllSeen (Off k) ns
  requests_off [] a = tt
  requests_off (n ∷ ns) a = (
    side_off k n (zero_first (one PromiseSide k PromiseSide n) (in_requests PromiseSide k ns) a),
    requests_off ns
        (zero_second (one PromiseSide k PromiseSide n) (in_requests PromiseSide k ns) a),
  )

  pub maybe_off : (o : Option ℕ) (n : ℕ) → count_maybe PromiseSide k PromiseSide o ≡ 0 → o ≡ Some n → Off k n
  maybe_off None n a e = absurd cc
  maybe_off (Some m) n a e = subst (Off k) (same m e) (side_off k m a)
    where
      same : (m : ℕ) → Some m ≡ Some n → m ≡ n
      same m e = cc

  pub main_off : (o : Option ℕ) (n : ℕ) → count_maybe FutureSide k FutureSide o ≡ 0 → o ≡ Some n → Off k n
  main_off None n a e = absurd cc
  main_off (Some m) n a e = subst (Off k) (same m e) (side_off k m a)
    where
      same : (m : ℕ) → Some m ≡ Some n → m ≡ n
      same m e = cc

  -- what is found among numbered things
  same_thing : {A : Type 0} (x y : A) → Some x ≡ Some y → x ≡ y
  same_thing x y e = cc

  pub ports_off : (ps : Numbered ℕ) (p n : ℕ) → in_ports PromiseSide k ps ≡ 0 → thing ps p ≡ Some n → Off k n
  ports_off [] p n a e = absurd cc
  ports_off (x ∷ xs) p n a e = by_test (nat_eq p x.0) e (ports_off xs p n (zero_second (one PromiseSide k PromiseSide x.1) (in_ports PromiseSide k xs) a))
    where
      by_test : (b : Bool) → (if b then Some x.1 else thing xs p) ≡ Some n → (thing xs p ≡ Some n → Off k n) → Off k n
      by_test true e f = subst (Off k) (same_thing x.1 n e) (side_off k x.1 (zero_first (one PromiseSide k PromiseSide x.1) (in_ports PromiseSide k xs) a))
      by_test false e f = f e

  pub entry_zero : (s : Side) (es : Numbered Entry) (i : ℕ) (e : Entry) → in_entries s k es ≡ 0 → thing es i ≡ Some e
      → (count_maybe s k PromiseSide e.result ≡ 0) × (count_kept s k e.suspended e.operands ≡ 0)
  entry_zero s [] i e a h = absurd cc
  entry_zero s (x ∷ xs) i e a h =
      let first = zero_first (count_maybe s k PromiseSide x.1.result + count_kept s k x.1.suspended x.1.operands) (in_entries s k xs) a in
      by_test (nat_eq i x.0) h first (entry_zero s xs i e (zero_second (count_maybe s k PromiseSide x.1.result + count_kept s k x.1.suspended x.1.operands) (in_entries s k xs) a))
    where
      by_test : (b : Bool) → (if b then Some x.1 else thing xs i) ≡ Some e → count_maybe s k PromiseSide x.1.result + count_kept s k x.1.suspended x.1.operands ≡ 0
          → (thing xs i ≡ Some e → (count_maybe s k PromiseSide e.result ≡ 0) × (count_kept s k e.suspended e.operands ≡ 0))
          → (count_maybe s k PromiseSide e.result ≡ 0) × (count_kept s k e.suspended e.operands ≡ 0)
      by_test true h z f =
          subst (λ (e : Entry). (count_maybe s k PromiseSide e.result ≡ 0) × (count_kept s k e.suspended e.operands ≡ 0)) (same_thing x.1 e h) (
            zero_first (count_maybe s k PromiseSide x.1.result) (count_kept s k x.1.suspended x.1.operands) z,
            zero_second (count_maybe s k PromiseSide x.1.result)
                (count_kept s k x.1.suspended x.1.operands) z,
          )
      by_test false h z f = f h

  pub cell_zero : (s : Side) (cells : Numbered Cell) (n : ℕ) (cell : Cell) → in_cells s k cells ≡ 0 → thing cells n ≡ Some cell
      → (count_waiters s k n (waiters cell) ≡ 0) × (count s k (refs_in (held cell)) ≡ 0)
  cell_zero s [] n cell a h = absurd cc
  cell_zero s (x ∷ xs) n cell a h =
      let first = zero_first (count_waiters s k x.0 (waiters x.1) + count s k (refs_in (held x.1))) (in_cells s k xs) a in
      by_test (nat_eq n x.0) refl h first (cell_zero s xs n cell (zero_second (count_waiters s k x.0 (waiters x.1) + count s k (refs_in (held x.1))) (in_cells s k xs) a))
    where
      by_test : (b : Bool) → nat_eq n x.0 ≡ b → (if b then Some x.1 else thing xs n) ≡ Some cell → count_waiters s k x.0 (waiters x.1) + count s k (refs_in (held x.1)) ≡ 0
          → (thing xs n ≡ Some cell → (count_waiters s k n (waiters cell) ≡ 0) × (count s k (refs_in (held cell)) ≡ 0))
          → (count_waiters s k n (waiters cell) ≡ 0) × (count s k (refs_in (held cell)) ≡ 0)
      by_test true q h z f =
          let m : x.0 ≡ n = grind (arith, q) in
          subst (λ (c : Cell). (count_waiters s k n (waiters c) ≡ 0) × (count s k (refs_in (held c)) ≡ 0)) (same_thing x.1 cell h) (
            subst (λ j. count_waiters s k j (waiters x.1) ≡ 0) m (zero_first (count_waiters s k x.0 (waiters x.1)) (count s k (refs_in (held x.1))) z),
            zero_second (count_waiters s k x.0 (waiters x.1))
                (count s k (refs_in (held x.1))) z,
          )
      by_test false q h z f = f h

  pub none_wait : (ws : List Waiter) → count_waiters FutureSide k k ws ≡ 0 → ws ≡ []
  none_wait [] a = refl
  none_wait (w ∷ ws) a = absurd (side_off k k (zero_first (one FutureSide k FutureSide k) (count_waiters FutureSide k k ws) a) refl)

  pub frame_zero : (s : Side) (xs : Numbered Frame) (i : ℕ) (f : Frame) → scan_of (λ s k (f : Frame). occ_memory s k f.mem) xs s k ≡ 0 → thing xs i ≡ Some f
      → count s k (refs_in (everything f.mem)) ≡ 0
  frame_zero s [] i f a h = absurd cc
  frame_zero s (x ∷ xs) i f a h =
      by_test (nat_eq i x.0) h (zero_first (occ_memory s k x.1.mem) (scan_of (λ s k (f : Frame). occ_memory s k f.mem) xs s k) a)
      (frame_zero s xs i f (zero_second (occ_memory s k x.1.mem) (scan_of (λ s k (f : Frame). occ_memory s k f.mem) xs s k) a))
    where
      by_test : (b : Bool) → (if b then Some x.1 else thing xs i) ≡ Some f → count s k (refs_in (everything x.1.mem)) ≡ 0 → (thing xs i ≡ Some f → count s k (refs_in (everything f.mem)) ≡ 0)
          → count s k (refs_in (everything f.mem)) ≡ 0
      by_test true h z g = subst (λ (f : Frame). count s k (refs_in (everything f.mem)) ≡ 0) (same_thing x.1 f h) z
      by_test false h z g = g h
