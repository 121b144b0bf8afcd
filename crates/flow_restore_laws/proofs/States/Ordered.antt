-- Numbers that rise strictly, and the heap that is filled from a sound state.
use Rattle.std.proofs.Common.{◌≡◌, ℕ, ◌<◌, nat_eq, nat_lt, Bool, true, false, List, [], ◌∷◌, map, refl, sym, ap, ap₂, ◌∙◌, subst, arith, if◌then◌else◌}
use Rattle.std.specs.Prelude.{IsSome, cond}
use Rattle.std.proofs.lemmas.Bool.Decides.{nat_tests}
use Rattle.std.specs.List.{AllByRecursion}
use Rattle.std.specs.declared.option.Option.TheVariants.{None}
use Rattle.flow_numbered.specs.Numbered as stored
use Rattle.flow_numbered.specs.Numbered.{Numbered, thing}
use Rattle.flow_cancel.specs.Heap.{has_number, with_number, without_number}
use Rattle.flow_cancel.proofs.Noted.{at_number}
use Rattle.flow_heapstate.specs.declared.state.ActorState.{ActorState}
use Rattle.flow_heapstate.specs.declared.state.HeapState.{HeapState}
use Rattle.flow_heapstate.specs.State.{parts_kept}
use Rattle.flow_heapstate.specs.Sound.{SoundHeap}
use Rattle.flow_heapstate.specs.Restoring.{noted_if, RisesFrom}
use Rattle.flow_heapstate.proofs.Recounting.{cell_number, stream_number}
use Rattle.flow_heapstate.proofs.Filled.{last_of, all_noted, requested, ported, actor_number, notes_of}
use Rattle.flow_heapstate.proofs.Restored.{in_order, whole, restored_is}
use Rattle.flow_heapstate.proofs.Whole.{is_restored}
use Rattle.flow_meaning.proofs.Posture.{same_number}
use Rattle.flow_heap_refinement.specs.Rested.{NumbersRise, has}
use Rattle.flow_restore_laws.specs.States.Restored.{Increase, HeapInOrder, RestoredInOrder}
use Rattle.flow_restore_laws.proofs.States.Standing.{no_true}
use Rattle.flow_restore_laws.proofs.States.Counting.{noted_has}

-- each of them is above the first bound
above : (low k : ℕ) (ks : List ℕ) → RisesFrom low ks → has k ks ≡ true → low < k
above low k [] h e = absurd (no_true e)
above low k (n ∷ ns) h e = by_test (nat_eq k n) refl e (λ t. above n k ns h.1 t)
  where
    by_test : (t : Bool) → nat_eq k n ≡ t → (if t then true else has k ns) ≡ true → (has k ns ≡ true → n < k) → low < k
    by_test true z e rest = let same : k ≡ n = grind (arith, nat_tests, z) in omega (arith, h.0, same)
    by_test false z e rest = let a = rest e in omega (arith, h.0, a)

among : (k : ℕ) (ks : List ℕ) → has k (k ∷ ks) ≡ true
among k ks = ap (λ b. if b then true else has k ks) (same_number k)

not_above : (k : ℕ) (ks : List ℕ) → RisesFrom k ks → has k ks ≡ false
not_above k ks h = by_test (has k ks) refl
  where
    by_test : (t : Bool) → has k ks ≡ t → t ≡ false
    by_test true e = let a = above k k ks h e in absurd (omega (arith, a))
    by_test false e = refl

pub increase : (low : ℕ) (ks : List ℕ) → RisesFrom low ks → Increase ks
increase low [] h = tt
increase low (k ∷ ks) h = h.1

pub rises : (low most : ℕ) (ks : List ℕ) → NumbersRise low most ks → RisesFrom low ks
rises low most [] h = tt
rises low most (k ∷ ks) h = (h.0, rises k most ks h.2)

-- two such lists with the same numbers are one
pub same_numbers : (xs ys : List ℕ) → Increase xs → Increase ys → ((k : ℕ) → has k xs ≡ has k ys) → xs ≡ ys
same_numbers [] [] a b e = refl
same_numbers [] (y ∷ ys) a b e = absurd (no_true (e y ∙ among y ys))
same_numbers (x ∷ xs) [] a b e = absurd (no_true (sym (e x) ∙ among x xs))
same_numbers (x ∷ xs) (y ∷ ys) a b e =
    let same : x ≡ y = first (nat_eq x y) refl in
    ap₂ (λ k ks. k ∷ ks) same (same_numbers xs ys (increase x xs a) (increase y ys b) (λ k. rest same k (nat_eq k x) refl))
  where
    later : (n m : ℕ) (ms : List ℕ) → RisesFrom m ms → nat_eq n m ≡ false → has n (m ∷ ms) ≡ true → m < n
    later n m ms h z t = above m n ms h (sym (ap (λ b. if b then true else has n ms) z) ∙ t)

    first : (t : Bool) → nat_eq x y ≡ t → x ≡ y
    first true z = grind (arith, nat_tests, z)
    first false z =
        let other : nat_eq y x ≡ false = grind (arith, nat_tests, z) in
        let c = later x y ys b z (sym (e x) ∙ among x xs) in
        let d = later y x xs a other (e y ∙ among y ys) in absurd (omega (arith, c, d))

    rest : x ≡ y → (k : ℕ) (t : Bool) → nat_eq k x ≡ t → has k xs ≡ has k ys
    rest same k true z =
        let is : k ≡ x = grind (arith, nat_tests, z) in
        ap (λ n. has n xs) is ∙ not_above x xs a ∙ sym (ap (λ n. has n ys) (is ∙ same) ∙ not_above y ys b)
    rest same k false z =
        let other : nat_eq k y ≡ false = ap (nat_eq k) (sym same) ∙ z in
        sym (ap (λ b. if b then true else has k xs) z) ∙ e k ∙ ap (λ b. if b then true else has k ys) other

-- each stands there once
pub once : (ns : List ℕ) → Increase ns → (k : ℕ) → has_number (without_number ns k) k ≡ false
once ns h k = noted_has (without_number ns k) k ∙ none_left ns h
  where
    none_left : (ms : List ℕ) → Increase ms → has k (without_number ms k) ≡ false
    none_left [] h = refl
    none_left (m ∷ ms) h = ap (λ b. has k (cond b ms (m ∷ without_number ms k))) (at_number k m) ∙ by_test (nat_eq k m) refl (none_left ms (increase m ms h))
      where
        by_test : (t : Bool) → nat_eq k m ≡ t → has k (without_number ms k) ≡ false → has k (cond t ms (m ∷ without_number ms k)) ≡ false
        by_test true z rest = let is : k ≡ m = grind (arith, nat_tests, z) in ap (λ n. has n ms) is ∙ not_above m ms h
        by_test false z rest = ap (λ b. if b then true else has k (without_number ms k)) z ∙ rest

-- what isn't there isn't noted
pub none_noted : {A : Type 0} (xs : Numbered A) (ns : List ℕ) → AllByRecursion (λ k. IsSome (thing xs k)) ns → (k : ℕ) → thing xs k ≡ None → has_number ns k ≡ false
none_noted xs ns a k e = noted_has ns k ∙ none_among ns a
  where
    none_among : (ms : List ℕ) → AllByRecursion (λ j. IsSome (thing xs j)) ms → has k ms ≡ false
    none_among [] a = refl
    none_among (m ∷ ms) a = by_test (nat_eq k m) refl (none_among ms a.1)
      where
        by_test : (t : Bool) → nat_eq k m ≡ t → has k ms ≡ false → (if t then true else has k ms) ≡ false
        by_test true z rest = let is : m ≡ k = grind (arith, nat_tests, z) in absurd (no_true (subst IsSome (ap (thing xs) is ∙ e) a.0))
        by_test false z rest = rest

-- one more
more : (low k : ℕ) (ns : List ℕ) → low < k → RisesFrom low ns → RisesFrom low (with_number ns k)
more low k [] l h = (l, tt)
more low k (n ∷ ns) l h = by_order (nat_lt k n) refl (nat_eq k n) refl (λ less. more n k ns less h.1)
  where
    by_order : (t : Bool) → nat_lt k n ≡ t → (u : Bool) → nat_eq k n ≡ u → (n < k → RisesFrom n (with_number ns k)) → RisesFrom low (with_number (n ∷ ns) k)
    by_order true e u f rest = let less : k < n = grind (arith, nat_tests, e) in rw e (l, (less, h.1))
    by_order false e true f rest = rw (e, f) h
    by_order false e false f rest = let less : n < k = grind (arith, nat_tests, e, f) in rw (e, f) (h.0, rest less)

noted_rise : {S : Type 0} (number : S → ℕ) (flag : S → Bool) (low : ℕ) (ss : List S) (ns : List ℕ) → RisesFrom low (map number ss) → RisesFrom 0 ns → RisesFrom 0 (all_noted number flag ss ns)
noted_rise number flag low [] ns h a = a
noted_rise number flag low (s ∷ ss) ns h a = noted_rise number flag (number s) ss (noted_if (flag s) (number s) ns) h.1 (by_flag (flag s))
  where
    by_flag : (t : Bool) → RisesFrom 0 (noted_if t (number s) ns)
    by_flag true = more 0 (number s) ns (omega (arith, h.0)) a
    by_flag false = a

notes_rise : (low : ℕ) (ss : List ActorState) → RisesFrom low (map actor_number ss) → stored.IsRising low (notes_of ss) (last_of actor_number low ss)
notes_rise low [] h = omega arith
notes_rise low (s ∷ ss) h = (h.0, notes_rise s.actor.0 ss h.1)

whole_in_order : (s : HeapState) → SoundHeap (parts_kept s) → HeapInOrder (whole s)
whole_in_order s h =
    let order = in_order s h in
    record {
      actors = notes_rise 0 s.actors.items order.actors;
      ports = increase 0 (all_noted stream_number ported s.streams.items []) (noted_rise stream_number ported 0 s.streams.items [] order.streams tt);
      requests = increase 0 (all_noted cell_number requested s.cells.items []) (noted_rise cell_number requested 0 s.cells.items [] order.cells tt);
    }

pub restored_in_order : RestoredInOrder
restored_in_order s h = (is_restored s h, subst HeapInOrder (sym (restored_is s h)) (whole_in_order s h))
