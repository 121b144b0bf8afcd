-- How entries widen.
use Rattle.std.proofs.Common.{Result, Ok, Err, IfOk, ◌≡◌, ◌⊎◌, inl, inr, ℕ, zero, suc, ◌+◌, ◌*◌, ◌^◌, ◌<◌, ◌≤◌, nat_eq, Bool, true, false, ◌||◌, List, [], ◌∷◌, ◌++◌, length, set, get_or, slice_get, Contains, bit_or, if◌then◌else◌, refl, sym, subst, ap, ◌∙◌, arith}
use Rattle.std.specs.List.{sum_by}
use Rattle.std.proofs.lemmas.Bool.{cases_eq, eqb-false, eqb-true}
use Rattle.std.proofs.lemmas.Nat.{le_or_l}
use Rattle.std.proofs.lemmas.List.{length-set}
use Rattle.std.proofs.lemmas.List.Sums.{sum_by-set}
use Rattle.std.proofs.lemmas.List.Elements.{Contains-push, Contains-append_left}
use Rattle.std.proofs.lemmas.Option.{slice_get_within, get_or_from_slice_get}
use Rattle.std.specs.declared.option.Option.{Option}
use Rattle.std.specs.declared.option.Option.TheVariants.{None, Some}
use Rattle.flow_validate.specs.Entered.{Covers}
use Rattle.flow_validate.specs.Following.{has_bit}
use Rattle.flow_validate.specs.WalkStates.{WalkState, widened, entry_bit, entry_of, Way, plain_way, Widens, room, work, Grows, AreCovered, Led, Entered}
use Rattle.flow_validate.proofs.Bits.{has_or}

same_some : {A : Type 0} (a b : A) → Some a ≡ Some b → a ≡ b
same_some a b e = cc

none_some : {A : Type 0} (a : A) → None ≡ Some a → ⊥
none_some a e = cc

pub set_here : {A : Type 0} (xs : List A) (i : ℕ) (y : A) → i < length xs → slice_get (set xs i y) i ≡ Some y
set_here [] i y lt = absurd (omega arith)
set_here (x ∷ xs) zero y lt = refl
set_here (x ∷ xs) (suc i) y lt = let m : i < length xs = omega arith in set_here xs i y m

pub set_else : {A : Type 0} (xs : List A) (i j : ℕ) (y : A) → (j ≡ i → ⊥) → slice_get (set xs i y) j ≡ slice_get xs j
set_else [] i j y ne = refl
set_else (x ∷ xs) zero zero y ne = absurd (ne refl)
set_else (x ∷ xs) zero (suc j) y ne = refl
set_else (x ∷ xs) (suc i) zero y ne = refl
set_else (x ∷ xs) (suc i) (suc j) y ne = set_else xs i j y (λ e. ne (ap suc e))

pub there : {A : Type 0} (xs : List A) (i : ℕ) → i < length xs → (x : A) × (slice_get xs i ≡ Some x)
there [] i lt = absurd (omega arith)
there (x ∷ xs) zero lt = (x, refl)
there (x ∷ xs) (suc i) lt = let m : i < length xs = omega arith in there xs i m

-- what an entry becomes
abbrev bit_before : Option ℕ → ℕ → Bool
bit_before None j = false
bit_before (Some x) j = has_bit x j

chosen : (b : Bool) (n all : ℕ) → (if b then None else Some n) ≡ Some all → (b ≡ false) × (n ≡ all)
chosen true n all h = absurd (none_some all h)
chosen false n all h = (refl, same_some n all h)

unchosen : (b : Bool) (n : ℕ) → (if b then None else Some n) ≡ None → b ≡ true
unchosen true n h = refl
unchosen false n h = absurd (none_some n (sym h))

widened_bit : (e : Option ℕ) (empty all j : ℕ) → widened e empty ≡ Some all → has_bit all j ≡ (bit_before e j || has_bit empty j)
widened_bit None empty all j h = ap (λ x. has_bit x j) (sym (same_some empty all h))
widened_bit (Some x) empty all j h = ap (λ y. has_bit y j) (sym (chosen (nat_eq (bit_or x empty) x) (bit_or x empty) all h).1) ∙ has_or x empty j

widened_room : (e : Option ℕ) (empty all : ℕ) → widened e empty ≡ Some all → all < 2 ^ 64 → room (Some all) + 1 ≤ room e
widened_room None empty all h small = omega arith
widened_room (Some x) empty all h small =
    let parts = chosen (nat_eq (bit_or x empty) x) (bit_or x empty) all h in
    let more : x ≤ all = subst (λ (y : ℕ). x ≤ y) parts.1 (le_or_l x empty) in
    by (cases_eq all x) more parts
  where
    by : ((all ≡ x) ⊎ (all ≡ x → ⊥)) → x ≤ all → (nat_eq (bit_or x empty) x ≡ false) × (bit_or x empty ≡ all) → room (Some all) + 1 ≤ room (Some x)
    by (inl same) more parts = absurd (eqb-false (bit_or x empty) x parts.0 (parts.1 ∙ same))
    by (inr other) more parts = let less : x < all = omega arith in omega (arith, less, small)

same_widens : (e : Option ℕ) → Widens e e
same_widens None = tt
same_widens (Some x) = λ j h. h

left_true : (a b : Bool) → a ≡ true → (a || b) ≡ true
left_true true b h = refl
left_true false b h = cc

right_true : (a b : Bool) → b ≡ true → (a || b) ≡ true
right_true true b h = refl
right_true false b h = h

widened_widens : (e : Option ℕ) (empty all : ℕ) → widened e empty ≡ Some all → Widens e (Some all)
widened_widens None empty all h = tt
widened_widens (Some x) empty all h = λ j t. widened_bit (Some x) empty all j h ∙ left_true (has_bit x j) (has_bit empty j) t

pub same_grows : (s : WalkState) → Grows s s
same_grows s = record {
  same_length = refl;
  widens = λ b x y h i. subst (Widens x) (same_some x y (sym h ∙ i)) (same_widens x);
  todo = λ b h. h;
  changed = λ b. inl refl;
  less = omega arith;
}

-- a block that isn't there, and one whose entry says so already
pub beyond : (s : WalkState) (empty b : ℕ) → length s.entries ≤ b → Entered s s (plain_way empty b ∷ [])
beyond s empty b le = record {
  grows = same_grows s;
  covers = ((λ j lt less. absurd (omega (arith, le, less))), tt);
  from = λ i y j h lt. inl (y, h, refl);
}

pub stays : (s : WalkState) (empty b : ℕ) (e : Option ℕ) → slice_get s.entries b ≡ Some e → widened e empty ≡ None → Entered s s (plain_way empty b ∷ [])
stays s empty b None is h = absurd (none_some empty (sym h))
stays s empty b (Some x) is h =
    let same : bit_or x empty ≡ x = eqb-true (bit_or x empty) x (unchosen (nat_eq (bit_or x empty) x) (bit_or x empty) h) in
    record {
      grows = same_grows s;
      covers = (
        (λ j lt less. subst (λ (o : Option (Option ℕ)). Covers (entry_bit o j) (has_bit empty j)) (sym is)
            (λ t. sym (ap (λ y. has_bit y j) same) ∙ has_or x empty j ∙ right_true (has_bit x j) (has_bit empty j) t)),
        tt,
      );
      from = λ i y j g lt. inl (y, g, refl);
    }

module _ (s : WalkState) (empty b : ℕ) (e : Option ℕ) (all : ℕ) (is : slice_get s.entries b ≡ Some e) (h : widened e empty ≡ Some all) (small : all < 2 ^ 64) where
  within : b < length s.entries
  within = slice_get_within s.entries b e is

  abbrev wider : WalkState
  wider = record { entries = set s.entries b (Some all); todo = s.todo ++ b ∷ [] }

  less_work : work wider ≤ work s
  less_work =
      let sums = sum_by-set room s.entries b (Some all) e within in
      let here : room (get_or s.entries b e) ≡ room e = ap room (get_or_from_slice_get s.entries b e e is) in
      let room_less = widened_room e empty all h small in
      let longer : length (s.todo ++ b ∷ []) ≡ length s.todo + 1 = length_push s.todo b in
      numbers (sum_by room (set s.entries b (Some all))) (sum_by room s.entries) (room (get_or s.entries b e)) (room e) (room (Some all)) (length (s.todo ++ b ∷ []))
      (length s.todo) sums here room_less longer
    where
      numbers : (new old at_b before now l m : ℕ) → new + at_b ≡ old + now → at_b ≡ before → now + 1 ≤ before → l ≡ m + 1 → 2 * new + l ≤ 2 * old + m
      numbers new old at_b before now l m a c d f = omega arith

      length_push : (xs : List ℕ) (x : ℕ) → length (xs ++ x ∷ []) ≡ length xs + 1
      length_push [] x = refl
      length_push (y ∷ ys) x = let m = length_push ys x in omega (arith, m)

  here : slice_get (set s.entries b (Some all)) b ≡ Some (Some all)
  here = set_here s.entries b (Some all) within

  widens_at : (i : ℕ) (x y : Option ℕ) → slice_get s.entries i ≡ Some x → slice_get (set s.entries b (Some all)) i ≡ Some y → Widens x y
  widens_at i x y f g = by (cases_eq i b)
    where
      by : (i ≡ b) ⊎ (i ≡ b → ⊥) → Widens x y
      by (inl same) =
          let own : e ≡ x = same_some e x (sym is ∙ ap (slice_get s.entries) (sym same) ∙ f) in
          let new : Some all ≡ y = same_some (Some all) y (sym here ∙ ap (slice_get (set s.entries b (Some all))) (sym same) ∙ g) in
          subst (λ (o : Option ℕ). Widens o y) own (subst (Widens e) new (widened_widens e empty all h))
      by (inr other) = subst (Widens x) (same_some x y (sym f ∙ sym (set_else s.entries b i (Some all) other) ∙ g)) (same_widens x)

  changed_at : (i : ℕ) → (slice_get (set s.entries b (Some all)) i ≡ slice_get s.entries i) ⊎ Contains (s.todo ++ b ∷ []) i
  changed_at i = by (cases_eq i b)
    where
      by : (i ≡ b) ⊎ (i ≡ b → ⊥) → (slice_get (set s.entries b (Some all)) i ≡ slice_get s.entries i) ⊎ Contains (s.todo ++ b ∷ []) i
      by (inl same) = inr (subst (Contains (s.todo ++ b ∷ [])) (sym same) (Contains-push s.todo b))
      by (inr other) = inl (set_else s.entries b i (Some all) other)

  from_bits : (o : Option ℕ) (y j : ℕ) → slice_get s.entries b ≡ Some o → has_bit y j ≡ (bit_before o j || has_bit empty j)
      → ((x : ℕ) × (slice_get s.entries b ≡ Some (Some x)) × (has_bit x j ≡ has_bit y j)) ⊎ Led (plain_way empty b ∷ []) b j (has_bit y j)
  from_bits None y j f g = inr (inl (refl, sym g))
  from_bits (Some x) y j f g = by (has_bit x j) refl
    where
      by : (t : Bool) → has_bit x j ≡ t → ((z : ℕ) × (slice_get s.entries b ≡ Some (Some z)) × (has_bit z j ≡ has_bit y j)) ⊎ Led (plain_way empty b ∷ []) b j (has_bit y j)
      by true t = inl (x, f, t ∙ sym (g ∙ ap (λ (z : Bool). z || has_bit empty j) t))
      by false t = inr (inl (refl, sym (g ∙ ap (λ (z : Bool). z || has_bit empty j) t)))

  from_at : (i y j : ℕ) → slice_get (set s.entries b (Some all)) i ≡ Some (Some y) → j < 64
      → ((x : ℕ) × (slice_get s.entries i ≡ Some (Some x)) × (has_bit x j ≡ has_bit y j)) ⊎ Led (plain_way empty b ∷ []) i j (has_bit y j)
  from_at i y j f lt = by (cases_eq i b)
    where
      by : (i ≡ b) ⊎ (i ≡ b → ⊥) → ((x : ℕ) × (slice_get s.entries i ≡ Some (Some x)) × (has_bit x j ≡ has_bit y j)) ⊎ Led (plain_way empty b ∷ []) i j (has_bit y j)
      by (inr other) = inl (y, sym (set_else s.entries b i (Some all) other) ∙ f, refl)
      by (inl same) =
          let new : all ≡ y = same_some all y (same_some (Some all) (Some y) (sym here ∙ ap (slice_get (set s.entries b (Some all))) (sym same) ∙ f)) in
          subst (λ (k : ℕ). ((x : ℕ) × (slice_get s.entries k ≡ Some (Some x)) × (has_bit x j ≡ has_bit y j)) ⊎ Led (plain_way empty b ∷ []) k j (has_bit y j)) (sym same)
          (from_bits e y j is (ap (λ z. has_bit z j) (sym new) ∙ widened_bit e empty all j h))

  pub widens : Entered s (record { entries = set s.entries b (Some all); todo = s.todo ++ b ∷ [] }) (plain_way empty b ∷ [])
  widens = record {
    grows = record {
      same_length = length-set s.entries b (Some all);
      widens = widens_at;
      todo = λ i f. Contains-append_left s.todo (b ∷ []) i f;
      changed = changed_at;
      less = less_work;
    };
    covers = (
      (λ j lt less. subst (λ (o : Option (Option ℕ)). Covers (entry_bit o j) (has_bit empty j)) (sym here)
          (λ t. widened_bit e empty all j h ∙ right_true (bit_before e j) (has_bit empty j) t)),
      tt,
    );
    from = from_at;
  }

-- one way after another
widens_then : (x y z : Option ℕ) → Widens x y → Widens y z → Widens x z
widens_then None y z f g = tt
widens_then (Some x) None z f g = absurd f
widens_then (Some x) (Some y) None f g = absurd g
widens_then (Some x) (Some y) (Some z) f g = λ j t. g j (f j t)

pub grows_then : (a b c : WalkState) → Grows a b → Grows b c → Grows a c
grows_then a b c f g = record {
  same_length = g.same_length ∙ f.same_length;
  widens = λ i x z h k.
      let lt : i < length b.entries = subst (λ (n : ℕ). i < n) (sym f.same_length) (slice_get_within a.entries i x h) in
      let mid = there b.entries i lt in
      widens_then x mid.0 z (f.widens i x mid.0 h mid.1) (g.widens i mid.0 z mid.1 k);
  todo = λ i h. g.todo i (f.todo i h);
  changed = λ i. by i (f.changed i) (g.changed i);
  less = let x = f.less in let y = g.less in steps (work a) (work b) (work c) x y;
}
  where
    steps : (k l m : ℕ) → l ≤ k → m ≤ l → m ≤ k
    steps k l m x y = omega arith

    by : (i : ℕ) → (slice_get b.entries i ≡ slice_get a.entries i) ⊎ Contains b.todo i → (slice_get c.entries i ≡ slice_get b.entries i) ⊎ Contains c.todo i
        → (slice_get c.entries i ≡ slice_get a.entries i) ⊎ Contains c.todo i
    by i x (inr y) = inr y
    by i (inr x) (inl y) = inr (g.todo i x)
    by i (inl x) (inl y) = inl (y ∙ x)

still_covers : (x y : Option ℕ) (j : ℕ) (e : Bool) → Widens x y → Covers (entry_bit (Some x) j) e → Covers (entry_bit (Some y) j) e
still_covers None y j e w cov = absurd cov
still_covers (Some x) None j e w cov = absurd w
still_covers (Some x) (Some y) j e w cov = λ t. w j (cov t)

pub covers_then : (a b : WalkState) → Grows a b → (j i : ℕ) (e : Bool) → i < length b.entries → Covers (entry_of a.entries j i) e → Covers (entry_of b.entries j i) e
covers_then a b g j i e lt cov =
    let old = there a.entries i (subst (λ (n : ℕ). i < n) g.same_length lt) in
    let new = there b.entries i lt in
    subst (λ (o : Option (Option ℕ)). Covers (entry_bit o j) e) (sym new.1)
    (still_covers old.0 new.0 j e (g.widens i old.0 new.0 old.1 new.1) (subst (λ (o : Option (Option ℕ)). Covers (entry_bit o j) e) old.1 cov))

covered_then : (a b : WalkState) → Grows a b → (vs : List Way) → AreCovered a.entries vs → AreCovered b.entries vs
covered_then a b g [] cov = tt
covered_then a b g (v ∷ vs) cov =
    ((λ j lt less. covers_then a b g j v.block (v.empty j) less (cov.0 j lt (subst (λ (n : ℕ). v.block < n) g.same_length less))), covered_then a b g vs cov.1)

covered_both : (es : List (Option ℕ)) (vs ws : List Way) → AreCovered es vs → AreCovered es ws → AreCovered es (vs ++ ws)
covered_both es [] ws f g = g
covered_both es (v ∷ vs) ws f g = (f.0, covered_both es vs ws f.1 g)

led_left : (vs ws : List Way) (b j : ℕ) (e : Bool) → Led vs b j e → Led (vs ++ ws) b j e
led_left [] ws b j e h = absurd h
led_left (v ∷ vs) ws b j e (inl h) = inl h
led_left (v ∷ vs) ws b j e (inr h) = inr (led_left vs ws b j e h)

led_right : (vs ws : List Way) (b j : ℕ) (e : Bool) → Led ws b j e → Led (vs ++ ws) b j e
led_right [] ws b j e h = h
led_right (v ∷ vs) ws b j e h = inr (led_right vs ws b j e h)

pub entered_then : (a b c : WalkState) (vs ws : List Way) → Entered a b vs → Entered b c ws → Entered a c (vs ++ ws)
entered_then a b c vs ws f g = record {
  grows = grows_then a b c f.grows g.grows;
  covers = covered_both c.entries vs ws (covered_then b c g.grows vs f.covers) g.covers;
  from = λ i z j h lt. by i z j lt (g.from i z j h lt);
}
  where
    before : (i z j y : ℕ) → has_bit y j ≡ has_bit z j → ((x : ℕ) × (slice_get a.entries i ≡ Some (Some x)) × (has_bit x j ≡ has_bit y j)) ⊎ Led vs i j (has_bit y j)
        → ((x : ℕ) × (slice_get a.entries i ≡ Some (Some x)) × (has_bit x j ≡ has_bit z j)) ⊎ Led (vs ++ ws) i j (has_bit z j)
    before i z j y same (inl (x, there, bit)) = inl (x, there, bit ∙ same)
    before i z j y same (inr led) = inr (subst (Led (vs ++ ws) i j) same (led_left vs ws i j (has_bit y j) led))

    by : (i z j : ℕ) → j < 64 → ((y : ℕ) × (slice_get b.entries i ≡ Some (Some y)) × (has_bit y j ≡ has_bit z j)) ⊎ Led ws i j (has_bit z j)
        → ((x : ℕ) × (slice_get a.entries i ≡ Some (Some x)) × (has_bit x j ≡ has_bit z j)) ⊎ Led (vs ++ ws) i j (has_bit z j)
    by i z j lt (inl (y, there, bit)) = before i z j y bit (f.from i y j there lt)
    by i z j lt (inr led) = inr (led_right vs ws i j (has_bit z j) led)

-- a way whose places are seen otherwise
pub entered_as : (a b : WalkState) (to : ℕ) (f g : ℕ → Bool) → ((j : ℕ) → j < 64 → f j ≡ g j) → Entered a b (record { block = to; empty = f } ∷ [])
    → Entered a b (record { block = to; empty = g } ∷ [])
entered_as a b to f g same h = record {
  grows = h.grows;
  covers = ((λ j lt less. subst (Covers (entry_of b.entries j to)) (same j lt) (h.covers.0 j lt less)), tt);
  from = λ i y j k lt. by i y j lt (h.from i y j k lt);
}
  where
    by : (i y j : ℕ) → j < 64 → ((x : ℕ) × (slice_get a.entries i ≡ Some (Some x)) × (has_bit x j ≡ has_bit y j)) ⊎ Led (record { block = to; empty = f } ∷ []) i j (has_bit y j)
        → ((x : ℕ) × (slice_get a.entries i ≡ Some (Some x)) × (has_bit x j ≡ has_bit y j)) ⊎ Led (record { block = to; empty = g } ∷ []) i j (has_bit y j)
    by i y j lt (inl h) = inl h
    by i y j lt (inr (inl (at, bit))) = inr (inl (at, sym (same j lt) ∙ bit))
    by i y j lt (inr (inr none)) = absurd none

-- what holds where a call answers `Ok`
pub ok_then : {A E : Type 0} (r : Result A E) (p q : Type 0) → (p → q) → IfOk r (λ x. p) → IfOk r (λ x. q)
ok_then (Ok a) p q f h = f h
ok_then (Err e) p q f h = tt
