-- What sweeps over records mark is what holds a reference.
use Rattle.std.proofs.Common.{◌≡◌, ℕ, zero, suc, ◌+◌, ◌-◌, ◌≤◌, ◌<◌, Bool, true, false, ◌||◌, List, [], ◌∷◌, length, drop, set, replicate, get_or, slice_get, unwrap_or, refl, sym, ap, subst, ◌∙◌, arith, add-one, ◌⊎◌, inl, inr, ⊎_elim}
use Rattle.std.specs.List.{list_any}
use Rattle.std.specs.declared.option.Option.{Option}
use Rattle.std.specs.declared.option.Option.TheVariants.{None, Some}
use Rattle.std.proofs.Math.Dec.{eqb}
use Rattle.std.proofs.lemmas.Bool.{eqb-true, eqb-false}
use Rattle.flow_types.specs.declared.holding.Uses.{Uses}
use Rattle.flow_types.specs.Holding.{marked, uses_hold, some_hold, held, level, one_if, trues, replicated, set_mark, Sound, Closed, SweptTo, Swept}
use Rattle.flow_types.proofs.Steps.{drop_more, drop_all}

-- any of some numbers
pub any_step : (g : ℕ → Bool) (ns : List ℕ) (i n : ℕ) (total : Bool) → i < length ns → n ≡ get_or ns i n → g n ≡ false → list_any g (drop i ns) ≡ total → list_any g (drop (i + 1) ns) ≡ total
any_step g ns i n total lt at unheld h =
    sym (ap (λ b. b || list_any g (drop (i + 1) ns)) unheld) ∙ ap (list_any g) (sym (drop_more ns i n lt at)) ∙ h

pub any_found : (g : ℕ → Bool) (ns : List ℕ) (i n : ℕ) (total : Bool) → i < length ns → n ≡ get_or ns i n → g n ≡ true → list_any g (drop i ns) ≡ total → true ≡ total
any_found g ns i n total lt at is h =
    sym (ap (λ b. b || list_any g (drop (i + 1) ns)) is) ∙ ap (list_any g) (sym (drop_more ns i n lt at)) ∙ h

pub any_end : (g : ℕ → Bool) (ns : List ℕ) (i : ℕ) (total : Bool) → length ns ≤ i → list_any g (drop i ns) ≡ total → false ≡ total
any_end g ns i total le h = ap (list_any g) (sym (drop_all ns i le)) ∙ h

-- more marks, more that holds a reference
abbrev Under : (ℕ → Bool) → (ℕ → Bool) → Type 0
Under g h = (i : ℕ) → g i ≡ true → h i ≡ true

or_left : (a b : Bool) → a ≡ true → (a || b) ≡ true
or_left true b h = refl
or_left false b h = cc

or_right : (a b : Bool) → b ≡ true → (a || b) ≡ true
or_right true b h = refl
or_right false b h = h

any_more : (g h : ℕ → Bool) (n : ℕ) (ns : List ℕ) → Under g h → (list_any g ns ≡ true → list_any h ns ≡ true) → (b : Bool) → g n ≡ b → (g n || list_any g ns) ≡ true → (h n || list_any h ns) ≡ true
any_more g h n ns u rest true is e = or_left (h n) (list_any h ns) (u n is)
any_more g h n ns u rest false is e = or_right (h n) (list_any h ns) (rest (sym (ap (λ b. b || list_any g ns) is) ∙ e))

any_under : (g h : ℕ → Bool) (ns : List ℕ) → Under g h → list_any g ns ≡ true → list_any h ns ≡ true
any_under g h [] u e = e
any_under g h (n ∷ ns) u e = any_more g h n ns u (any_under g h ns u) (g n) refl e

use_under : (g h : ℕ → Bool) (o : Option Uses) → Under g h → some_hold g o ≡ true → some_hold h o ≡ true
use_under g h None u e = e
use_under g h (Some r) u e =
    elim r.direct as (λ d. (d || list_any g r.records.items) ≡ true → (d || list_any h r.records.items) ≡ true)
    [ true ↦ (λ k. refl) | false ↦ any_under g h r.records.items u ] e

held_under : (us : List Uses) (g h : ℕ → Bool) → Under g h → Under (held us g) (held us h)
held_under us g h u i e = use_under g h (slice_get us i) u e

level_more : (us : List Uses) (n : ℕ) → Under (level us n) (level us (suc n))
level_more us zero i e = cc
level_more us (suc n) i e = held_under us (level us n) (level us (suc n)) (level_more us n) i e

level_add : (us : List Uses) (n k m : ℕ) → m ≡ k + n → Under (level us n) (level us m)
level_add us n zero m is i e = let same : n ≡ m = omega (arith, is) in subst (λ l. level us l i ≡ true) same e
level_add us n (suc k) m is i e =
    let next : suc (k + n) ≡ m = omega (arith, is) in
    subst (λ l. level us l i ≡ true) next (level_more us (k + n) i (level_add us n k (k + n) refl i e))

level_upto : (us : List Uses) (m n : ℕ) → m ≤ n → Under (level us m) (level us n)
level_upto us m n le i e = let d : n ≡ (n - m) + m = omega arith in level_add us m (n - m) n d i e

-- marks
trues_set : (bs : List Bool) (i : ℕ) → i < length bs → marked bs i ≡ false → trues (set_mark bs i) ≡ suc (trues bs)
trues_set [] i lt unheld = absurd (omega arith)
trues_set (true ∷ bs) zero lt unheld = cc
trues_set (false ∷ bs) zero lt unheld = let e : 1 + trues bs ≡ suc (0 + trues bs) = omega arith in e
trues_set (b ∷ bs) (suc i) lt unheld =
    let m : i < length bs = omega arith in
    let e : trues (set_mark bs i) ≡ suc (trues bs) = trues_set bs i m unheld in
    omega (arith, e)

marked_set : (bs : List Bool) (i j : ℕ) → marked (set_mark bs i) j ≡ true → (marked bs j ≡ true) ⊎ (i ≡ j)
marked_set [] i j e = inl e
marked_set (c ∷ bs) zero zero e = inr refl
marked_set (c ∷ bs) zero (suc j) e = inl e
marked_set (c ∷ bs) (suc i) zero e = inl e
marked_set (c ∷ bs) (suc i) (suc j) e = ⊎_elim (λ m. inl m) (λ m. inr (ap suc m)) (marked_set bs i j e)

pub length_set : (bs : List Bool) (i : ℕ) → length (set_mark bs i) ≡ length bs
length_set [] i = refl
length_set (b ∷ bs) zero = refl
length_set (b ∷ bs) (suc i) = ap suc (length_set bs i)

pub trues_length : (bs : List Bool) → trues bs ≤ length bs
trues_length [] = omega arith
trues_length (true ∷ bs) = let e = trues_length bs in omega (arith, e)
trues_length (false ∷ bs) = let e = trues_length bs in omega (arith, e)

sound_set : (us : List Uses) (bs : List Bool) (i : ℕ) → i < length bs → marked bs i ≡ false → held us (marked bs) i ≡ true → Sound us bs → Sound us (set_mark bs i)
sound_set us bs i lt unheld is s j e =
    let more : trues (set_mark bs i) ≡ suc (trues bs) = trues_set bs i lt unheld in
    subst (λ n. level us n j ≡ true) (sym more)
    (⊎_elim (λ m. level_more us (trues bs) j (s j m))
    (λ m. subst (λ k. level us (suc (trues bs)) k ≡ true) m (held_under us (marked bs) (level us (trues bs)) s i is))
    (marked_set bs i j e))

pub get_at : {A : Type 0} (xs : List A) (i : ℕ) (x : A) → i < length xs → x ≡ get_or xs i x → slice_get xs i ≡ Some x
get_at [] i x lt e = absurd (omega arith)
get_at (y ∷ ys) zero x lt e = ap Some (sym e)
get_at (y ∷ ys) (suc i) x lt e = let m : i < length ys = omega arith in get_at ys i x m e

pub get_none : {A : Type 0} (xs : List A) (i : ℕ) → length xs ≤ i → slice_get xs i ≡ None
get_none [] i le = refl
get_none (y ∷ ys) zero le = absurd (omega arith)
get_none (y ∷ ys) (suc i) le = let m : length ys ≤ i = omega arith in get_none ys i m

absurd_false : {A : Type 0} → false ≡ true → A
absurd_false h = cc

none_marked : (n i : ℕ) → marked (replicated n) i ≡ false
none_marked zero i = refl
none_marked (suc n) zero = refl
none_marked (suc n) (suc i) = none_marked n i

both : (a b : Bool) → (a ≡ true → b ≡ true) → (b ≡ true → a ≡ true) → a ≡ b
both true b f g = sym (f refl)
both false true f g = g refl
both false false f g = refl

closed_case : (us : List Uses) (bs : List Bool) (i : ℕ) (u : Uses) → i < length us → u ≡ get_or us i u → (marked bs i ≡ false → uses_hold (marked bs) u ≡ false)
    → Closed us bs i → (j : ℕ) → j < i + 1 → held us (marked bs) j ≡ true → (b : Bool) → eqb j i ≡ b → (d : Bool) → marked bs i ≡ d → marked bs j ≡ true
closed_case us bs i u lt at unheld c j below h false e d f =
    let other : (j ≡ i) → ⊥ = eqb-false j i e in
    c j (omega (arith, below, other)) h
closed_case us bs i u lt at unheld c j below h true e true f = ap (marked bs) (eqb-true j i e) ∙ f
closed_case us bs i u lt at unheld c j below h true e false f =
    absurd_false (sym (unheld f) ∙ sym (ap (some_hold (marked bs)) (get_at us i u lt at)) ∙ ap (held us (marked bs)) (sym (eqb-true j i e)) ∙ h)

closed_next : (us : List Uses) (bs : List Bool) (i : ℕ) (u : Uses) → i < length us → u ≡ get_or us i u → (marked bs i ≡ false → uses_hold (marked bs) u ≡ false)
    → Closed us bs i → Closed us bs (i + 1)
closed_next us bs i u lt at unheld c j below h = closed_case us bs i u lt at unheld c j below h (eqb j i) refl (marked bs i) refl

held_within : (us : List Uses) (g : ℕ → Bool) (j i : ℕ) → length us ≤ i → held us g j ≡ true → j < i
held_within [] g j i le h = absurd_false h
held_within (u ∷ us) g zero i le h = omega arith
held_within (u ∷ us) g (suc j) zero le h = absurd (omega arith)
held_within (u ∷ us) g (suc j) (suc i) le h = let m : length us ≤ i = omega arith in let k = held_within us g j i m h in omega (arith, k)

-- one more record of a sweep
pub record Sweeping (us : List Uses) (old bs : List Bool) (i : ℕ) (more : Bool) : Type 0 where
  pub same_length : length bs ≡ length us
  pub sound : Sound us old → Sound us bs
  pub grows : trues old ≤ trues bs
  pub more_trues : more ≡ true → trues old < trues bs
  pub done : more ≡ false → Closed us bs i

pub sweep_first : (us : List Uses) (bs : List Bool) → length bs ≡ length us → Sweeping us bs bs 0 false
sweep_first us bs h = record {
  same_length = h;
  sound = λ s. s;
  grows = omega arith;
  more_trues = λ e. cc;
  done = λ e i lt. absurd (omega (arith, lt));
}

pub sweep_marks : (us : List Uses) (old bs new : List Bool) (i : ℕ) (more : Bool) (u : Uses) → i < length us → u ≡ get_or us i u → marked bs i ≡ false → uses_hold (marked bs) u ≡ true
    → new ≡ set_mark bs i → Sweeping us old bs i more → Sweeping us old new (i + 1) true
sweep_marks us old bs new i more u lt at unheld is n w =
    let within : i < length bs = omega (arith, lt, w.same_length) in
    let holds : held us (marked bs) i ≡ true = ap (some_hold (marked bs)) (get_at us i u lt at) ∙ is in
    let t : trues new ≡ suc (trues bs) = ap trues n ∙ trues_set bs i within unheld in
    let g = w.grows in
    record {
      same_length = ap length n ∙ length_set bs i ∙ w.same_length;
      sound = λ s. subst (Sound us) (sym n) (sound_set us bs i within unheld holds (w.sound s));
      grows = omega (arith, t, g);
      more_trues = λ e. omega (arith, t, g);
      done = λ e. cc;
    }

pub sweep_passes : (us : List Uses) (old bs : List Bool) (i : ℕ) (more : Bool) (u : Uses) → i < length us → u ≡ get_or us i u → (marked bs i ≡ false → uses_hold (marked bs) u ≡ false)
    → Sweeping us old bs i more → Sweeping us old bs (i + 1) more
sweep_passes us old bs i more u lt at unheld w = record {
  same_length = w.same_length;
  sound = w.sound;
  grows = w.grows;
  more_trues = w.more_trues;
  done = λ e j below h. closed_next us bs i u lt at unheld (w.done e) j below h;
}

pub sweep_end : (us : List Uses) (old new : List Bool) (i : ℕ) (more : Bool) → length us ≤ i → Sweeping us old new i more → Swept us old new more
sweep_end us old new i more le w n = record {
  sound = w.sound;
  grows = w.grows;
  marks_more = w.more_trues;
  done = λ e j lt h. w.done e j (held_within us (marked new) j i le h) h;
}

-- sweeps that mark all that holds a reference
pub sound_none : (us : List Uses) (n : ℕ) → Sound us (replicated n)
sound_none us n i e = absurd_false (sym (none_marked n i) ∙ e)

level_closed : (us : List Uses) (bs : List Bool) → ((n : ℕ) → Closed us bs n) → (n : ℕ) → Under (level us n) (marked bs)
level_closed us bs c zero i e = cc
level_closed us bs c (suc n) i e = c (suc i) i (omega arith) (held_under us (level us n) (marked bs) (level_closed us bs c n) i e)

pub settled_is : (us : List Uses) (bs : List Bool) (n i : ℕ) → length bs ≡ length us → Sound us bs → ((k : ℕ) → Closed us bs k) → length us ≤ n → marked bs i ≡ level us n i
settled_is us bs n i len s c le =
    let t = trues_length bs in
    let few : trues bs ≤ n = omega (arith, t, len, le) in
    both (marked bs i) (level us n i) (λ e. level_upto us (trues bs) n few i (s i e)) (level_closed us bs c n i)

-- marks in the words of the library
pub set_marked : (bs : List Bool) (i : ℕ) → set bs i true ≡ set_mark bs i
set_marked [] i = refl
set_marked (b ∷ bs) zero = refl
set_marked (b ∷ bs) (suc i) = ap (λ l. b ∷ l) (set_marked bs i)

pub replicated_marks : (n : ℕ) → replicate n false ≡ replicated n
replicated_marks zero = refl
replicated_marks (suc n) = ap (λ l. false ∷ l) (replicated_marks n)

length_marks : (n : ℕ) → length (replicated n) ≡ n
length_marks zero = refl
length_marks (suc n) = ap suc (length_marks n)

-- one more sweep that marks a record, and the last
pub sweeps_start : (us : List Uses) (bs : List Bool) (n : ℕ) → n ≡ length us → bs ≡ replicated n → (length bs ≡ length us) × Sound us bs
sweeps_start us bs n len is = (ap length is ∙ length_marks n ∙ len, subst (Sound us) (sym is) (sound_none us n))

pub sweeps_less : (us : List Uses) (old new : List Bool) → length old ≡ length us → length new ≡ length us → Swept us old new true → length us - trues new < length us - trues old
sweeps_less us old new h n w =
    let few = trues_length new in
    let more = (w 0).marks_more refl in
    omega (arith, few, more, n)

pub sweeps_end : (us : List Uses) (old new : List Bool) → length new ≡ length us → Sound us old → Swept us old new false → (n : ℕ) → length us ≤ n → (i : ℕ) → marked new i ≡ level us n i
sweeps_end us old new len s w n le i = settled_is us new n i len ((w 0).sound s) (λ k. (w k).done refl) le
