-- Whoever is suspended stays registered at its operands.
use Rattle.std.proofs.Common.{◌≡◌, ℕ, suc, nat_eq, Bool, true, false, List, [], ◌∷◌, ◌++◌, ◌⊎◌, inl, inr, if◌then◌else◌, refl, sym, ap, ◌∙◌, subst, arith}
use Rattle.std.specs.declared.option.Option.{Option}
use Rattle.std.specs.declared.option.Option.TheVariants.{None, Some}
use Rattle.flow_numbered.specs.Numbered.{Numbered, thing, added, put, removed}
use Rattle.flow_meaning.specs.Cells.{Ref, Waiter, Cell, Single, Stream, is_busy, waiters, with_waiter, without, left_by}
use Rattle.flow_meaning.specs.Process.{Entry}
use Rattle.flow_meaning.specs.Work.{left_cells, Registration, Registered, Refused, Missing, register_at, register_one, register}
use Rattle.flow_meaning.proofs.Posture.{each_number, thing_put_other, thing_put, thing_added, thing_removed_other}
use Rattle.flow_progress.specs.Registering.{Among, WaitsAt, AtEach, IsRegistered}

pub same_entry : {x y : Entry} → Some x ≡ Some y → x ≡ y
same_entry h = cc

-- an actor that runs
pub awake_registered : (i : ℕ) (es : Numbered Entry) (cells : Numbered Cell) (e : Entry) → thing es i ≡ Some e → e.suspended ≡ false → IsRegistered i es cells
awake_registered i es cells e at a x at2 s = absurd (differ (sym a ∙ ap (λ (z : Entry). z.suspended) (same_entry (sym at ∙ at2)) ∙ s))
  where
    differ : false ≡ true → ⊥
    differ h = cc

-- another entry at another number
pub entry_registered : (i j : ℕ) (es : Numbered Entry) (cells : Numbered Cell) (e : Entry) → (i ≡ j → ⊥) → IsRegistered j es cells → IsRegistered j (put es i e) cells
entry_registered i j es cells e n h x at s = h x (sym (thing_put_other es i j e n) ∙ at) s

-- other cells where each wait stays
at_each_on : (j : ℕ) (xs ys : Numbered Cell) (qs : List Ref) → ((n : ℕ) → WaitsAt j (thing xs n) → WaitsAt j (thing ys n)) → AtEach j xs qs → AtEach j ys qs
at_each_on j xs ys [] f h = tt
at_each_on j xs ys (q ∷ qs) f h = (f q.1 h.0, at_each_on j xs ys qs f h.1)

pub cells_registered : (j : ℕ) (es : Numbered Entry) (xs ys : Numbered Cell) → ((n : ℕ) → WaitsAt j (thing xs n) → WaitsAt j (thing ys n)) → IsRegistered j es xs → IsRegistered j es ys
cells_registered j es xs ys f h e at s = at_each_on j xs ys e.operands f (h e at s)

pub put_keeps : (j k : ℕ) (cells : Numbered Cell) (cell new : Cell) → thing cells k ≡ Some cell → (Among j (waiters cell) → Among j (waiters new)) → (n : ℕ) → WaitsAt j (thing cells n)
    → WaitsAt j (thing (put cells k new) n)
put_keeps j k cells cell new at f =
    each_number k (λ n. WaitsAt j (thing cells n) → WaitsAt j (thing (put cells k new) n))
    (λ h. subst (WaitsAt j) (sym (thing_put cells k cell new at)) (f (subst (WaitsAt j) at h)))
    (λ n o h. subst (WaitsAt j) (sym (thing_put_other cells k n new o)) h)

pub added_keeps : (j k : ℕ) (cells : Numbered Cell) (new : Cell) → thing cells k ≡ None → (n : ℕ) → WaitsAt j (thing cells n) → WaitsAt j (thing (added cells k new) n)
added_keeps j k cells new none =
    each_number k (λ n. WaitsAt j (thing cells n) → WaitsAt j (thing (added cells k new) n))
    (λ h. absurd (subst (WaitsAt j) none h)) (λ n o h. subst (WaitsAt j) (sym (thing_added cells k n new o)) h)

-- a cell at which the actor doesn't wait is gone
pub removed_keeps : (j k : ℕ) (cells : Numbered Cell) → (WaitsAt j (thing cells k) → ⊥) → (n : ℕ) → WaitsAt j (thing cells n) → WaitsAt j (thing (removed cells k) n)
removed_keeps j k cells out =
    each_number k (λ n. WaitsAt j (thing cells n) → WaitsAt j (thing (removed cells k) n))
    (λ h. absurd (out h)) (λ n o h. subst (WaitsAt j) (sym (thing_removed_other cells k n o)) h)

-- another actor leaves all cells
without_keeps : (i j : ℕ) (ws : List Waiter) → (i ≡ j → ⊥) → Among j ws → Among j (without ws i)
without_keeps i j [] n h = h
without_keeps i j (w ∷ ws) n h = by_test (nat_eq w.actor i) refl h (λ k. without_keeps i j ws n k)
  where
    by_test : (b : Bool) → nat_eq w.actor i ≡ b → (w.actor ≡ j) ⊎ Among j ws → (Among j ws → Among j (without ws i)) → Among j (if b then without ws i else w ∷ without ws i)
    by_test true e (inl q) k = absurd (n (let f : w.actor ≡ i = grind (arith, e) in sym f ∙ q))
    by_test true e (inr q) k = k q
    by_test false e (inl q) k = inl q
    by_test false e (inr q) k = inr (k q)

left_keeps_cell : (i j : ℕ) (cell : Cell) → (i ≡ j → ⊥) → Among j (waiters cell) → Among j (waiters (left_by i cell))
left_keeps_cell i j (Single o ws) n h = without_keeps i j ws n h
left_keeps_cell i j (Stream q end None) n h = h
left_keeps_cell i j (Stream q end (Some w)) n h = by_test (nat_eq w.actor i) refl h
  where
    by_test : (b : Bool) → nat_eq w.actor i ≡ b → (w.actor ≡ j) ⊎ ⊥ → Among j (waiters (Stream q end (if b then None else Some w)))
    by_test true e (inl q) = absurd (n (let f : w.actor ≡ i = grind (arith, e) in sym f ∙ q))
    by_test true e (inr q) = absurd q
    by_test false e (inl q) = inl q
    by_test false e (inr q) = absurd q

pub left_keeps : (i j : ℕ) (cells : Numbered Cell) → (i ≡ j → ⊥) → (n : ℕ) → WaitsAt j (thing cells n) → WaitsAt j (thing (left_cells i cells) n)
left_keeps i j [] o n h = h
left_keeps i j (x ∷ xs) o n h = by_test (nat_eq n x.0) h (left_keeps i j xs o n)
  where
    by_test : (b : Bool) → WaitsAt j (if b then Some x.1 else thing xs n) → (WaitsAt j (thing xs n) → WaitsAt j (thing (left_cells i xs) n))
        → WaitsAt j (if b then Some (left_by i x.1) else thing (left_cells i xs) n)
    by_test true h k = left_keeps_cell i j x.1 o h
    by_test false h k = k h

-- registration adds waiters and takes none away
more_among : (j : ℕ) (ws : List Waiter) (w : Waiter) → Among j ws → Among j (ws ++ w ∷ [])
more_among j [] w h = absurd h
more_among j (x ∷ ws) w (inl q) = inl q
more_among j (x ∷ ws) w (inr q) = inr (more_among j ws w q)

last_among : (j : ℕ) (ws : List Waiter) (w : Waiter) → w.actor ≡ j → Among j (ws ++ w ∷ [])
last_among j [] w h = inl h
last_among j (x ∷ ws) w h = inr (last_among j ws w h)

waiter_keeps : (j : ℕ) (cell : Cell) (w : Waiter) → Among j (waiters cell) → Among j (waiters (with_waiter cell w))
waiter_keeps j (Single o ws) w h = more_among j ws w h
waiter_keeps j (Stream q end None) w h = absurd h
waiter_keeps j (Stream q end (Some old)) w h = h

waiter_among : (j : ℕ) (cell : Cell) (w : Waiter) → is_busy cell ≡ false → w.actor ≡ j → Among j (waiters (with_waiter cell w))
waiter_among j (Single o ws) w b h = last_among j ws w h
waiter_among j (Stream q end None) w b h = inl h
waiter_among j (Stream q end (Some old)) w b h = absurd cc

-- what registration comes to keeps what waited, and the actor waits where it was registered
abbrev pub Keeping : ℕ → Numbered Cell → Registration → Type 0
Keeping j xs (Registered ys) = (n : ℕ) → WaitsAt j (thing xs n) → WaitsAt j (thing ys n)
Keeping j xs Refused = Unit {0}
Keeping j xs Missing = Unit {0}

at_keeping : (j : ℕ) (w : Waiter) (k : ℕ) (cells : Numbered Cell) (x : Option Cell) → thing cells k ≡ x → Keeping j cells (register_at w k cells x)
at_keeping j w k cells None at = tt
at_keeping j w k cells (Some cell) at = by_test (is_busy cell)
  where
    by_test : (b : Bool) → Keeping j cells (if b then Refused else Registered (put cells k (with_waiter cell w)))
    by_test true = tt
    by_test false = put_keeps j k cells cell (with_waiter cell w) at (waiter_keeps j cell w)

one_keeping : (j : ℕ) (w : Waiter) (k : ℕ) (xs : Numbered Cell) (r : Registration) → Keeping j xs r → Keeping j xs (register_one w k r)
one_keeping j w k xs (Registered ys) h = on (register_at w k ys (thing ys k)) (at_keeping j w k ys (thing ys k) refl)
  where
    on : (r : Registration) → Keeping j ys r → Keeping j xs r
    on (Registered zs) f = λ n x. f n (h n x)
    on Refused f = tt
    on Missing f = tt
one_keeping j w k xs Refused h = tt
one_keeping j w k xs Missing h = tt

pub all_keeping : (j i b : ℕ) (qs : List Ref) (xs : Numbered Cell) (r : Registration) → Keeping j xs r → Keeping j xs (register i b qs r)
all_keeping j i b [] xs r h = h
all_keeping j i b (q ∷ qs) xs r h = all_keeping j i (suc b) qs xs (register_one (record { actor = i; branch = b }) q.1 r) (one_keeping j (record { actor = i; branch = b }) q.1 xs r h)

-- the actor itself
abbrev WaitsNow : ℕ → ℕ → Registration → Type 0
WaitsNow i k (Registered ys) = WaitsAt i (thing ys k)
WaitsNow i k Refused = Unit {0}
WaitsNow i k Missing = Unit {0}

one_waits : (i b k : ℕ) (r : Registration) → WaitsNow i k (register_one (record { actor = i; branch = b }) k r)
one_waits i b k (Registered cells) = at_cell (thing cells k) refl
  where
    at_cell : (x : Option Cell) → thing cells k ≡ x → WaitsNow i k (register_at (record { actor = i; branch = b }) k cells x)
    at_cell None at = tt
    at_cell (Some cell) at = by_test (is_busy cell) refl
      where
        by_test : (p : Bool) → is_busy cell ≡ p → WaitsNow i k (if p then Refused else Registered (put cells k (with_waiter cell (record { actor = i; branch = b }))))
        by_test true e = tt
        by_test false e = subst (WaitsAt i) (sym (thing_put cells k cell (with_waiter cell (record { actor = i; branch = b })) at)) (waiter_among i cell (record { actor = i; branch = b }) e refl)
one_waits i b k Refused = tt
one_waits i b k Missing = tt

abbrev pub AllNow : ℕ → List Ref → Registration → Type 0
AllNow i qs (Registered ys) = AtEach i ys qs
AllNow i qs Refused = Unit {0}
AllNow i qs Missing = Unit {0}

refused_stays : (i b : ℕ) (qs : List Ref) → register i b qs Refused ≡ Refused
refused_stays i b [] = refl
refused_stays i b (q ∷ qs) = refused_stays i (suc b) qs

missing_stays : (i b : ℕ) (qs : List Ref) → register i b qs Missing ≡ Missing
missing_stays i b [] = refl
missing_stays i b (q ∷ qs) = missing_stays i (suc b) qs

now_first : (i : ℕ) (q : Ref) (qs : List Ref) (ys : Numbered Cell) (y : Registration) → WaitsAt i (thing ys q.1) → Keeping i ys y → AllNow i qs y → AllNow i (q ∷ qs) y
now_first i q qs ys (Registered zs) w s a = (s q.1 w, a)
now_first i q qs ys Refused w s a = tt
now_first i q qs ys Missing w s a = tt

now_more : (i b : ℕ) (q : Ref) (qs : List Ref) (x : Registration) → WaitsNow i q.1 x → AllNow i qs (register i b qs x) → AllNow i (q ∷ qs) (register i b qs x)
now_more i b q qs (Registered ys) w a = now_first i q qs ys (register i b qs (Registered ys)) w (all_keeping i i b qs ys (Registered ys) (λ n h. h)) a
now_more i b q qs Refused w a = subst (AllNow i (q ∷ qs)) (sym (refused_stays i b qs)) tt
now_more i b q qs Missing w a = subst (AllNow i (q ∷ qs)) (sym (missing_stays i b qs)) tt

pub all_now : (i b : ℕ) (qs : List Ref) (r : Registration) → AllNow i qs (register i b qs r)
all_now i b [] (Registered ys) = tt
all_now i b [] Refused = tt
all_now i b [] Missing = tt
all_now i b (q ∷ qs) r =
    let x = register_one (record { actor = i; branch = b }) q.1 r in
    now_more i (suc b) q qs x (one_waits i b q.1 r) (all_now i (suc b) qs x)
