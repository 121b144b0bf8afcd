-- The links that are cut: a table in memory, a list in the definitions.
use Rattle.std.proofs.Common.{◌≡◌, ℕ, zero, suc, ◌<◌, nat_eq, Bool, true, false, List, [], ◌∷◌, length, refl, sym, ap, ◌∙◌, arith, if◌then◌else◌}
use Rattle.std.specs.Prelude.{◌&&◌, ◌||◌, slice_set, slice_index_or}
use Rattle.std.proofs.lemmas.Bool.Decides.{nat_tests}
use Rattle.flow_simnet.specs.Links.{link}
use Rattle.flow_meaning.specs.Outside.{is_link, is_cut, healed}

first_and_later : (j : ℕ) → nat_eq zero (suc j) ≡ false
first_and_later j = grind (arith, nat_tests)

later_and_first : (i : ℕ) → nat_eq (suc i) zero ≡ false
later_and_first i = grind (arith, nat_tests)

both_later : (i j : ℕ) → nat_eq i j ≡ nat_eq (suc i) (suc j)
both_later i j = by_tests (nat_eq i j) refl (nat_eq (suc i) (suc j)) refl
  where
    by_tests : (t : Bool) → nat_eq i j ≡ t → (u : Bool) → nat_eq (suc i) (suc j) ≡ u → nat_eq i j ≡ nat_eq (suc i) (suc j)
    by_tests true e true f = e ∙ sym f
    by_tests false e false f = e ∙ sym f
    by_tests true e false f = absurd (grind (arith, nat_tests, e, f))
    by_tests false e true f = absurd (grind (arith, nat_tests, e, f))

-- a table with one place set
pub at_set : (xs : List Bool) (i j : ℕ) (v : Bool) → i < length xs → slice_index_or (slice_set xs i v) j false ≡ (if nat_eq i j then v else slice_index_or xs j false)
at_set [] i j v h = absurd (omega (arith, h))
at_set (x ∷ xs) zero zero v h = refl
at_set (x ∷ xs) zero (suc j) v h = sym (ap (λ t. if t then v else slice_index_or xs j false) (first_and_later j))
at_set (x ∷ xs) (suc i) zero v h = sym (ap (λ t. if t then v else x) (later_and_first i))
at_set (x ∷ xs) (suc i) (suc j) v h = at_set xs i j v (omega (arith, h)) ∙ ap (λ t. if t then v else slice_index_or xs j false) (both_later i j)

pub set_length : (xs : List Bool) (i : ℕ) (v : Bool) → length (slice_set xs i v) ≡ length xs
set_length [] i v = refl
set_length (x ∷ xs) zero v = refl
set_length (x ∷ xs) (suc i) v = ap suc (set_length xs i v)

both_ways : (s t : Bool) → (s ≡ true → t ≡ true) → (t ≡ true → s ≡ true) → s ≡ t
both_ways true true f g = refl
both_ways true false f g = sym (f refl)
both_ways false true f g = g refl
both_ways false false f g = refl

same_numbers : (m n : ℕ) → m ≡ n → nat_eq m n ≡ true
same_numbers m n e = grind (arith, nat_tests, e)

-- links have the same place where they are the same
module _ (p q a b : ℕ) (h : p < 64) (i : q < 64) (j : a < 64) (k : b < 64) where
  same_then : nat_eq (link p q) (link a b) ≡ true → is_link a b (p, q) ≡ true
  same_then e = split (nat_eq a p) refl
    where
      same : link p q ≡ link a b
      same = grind (arith, nat_tests, e)

      split : (t : Bool) → nat_eq a p ≡ t → is_link a b (p, q) ≡ true
      split true f =
          let first : a ≡ p = grind (arith, nat_tests, f) in
          let second : b ≡ q = omega (arith, same, first, h, i, j, k) in
          rw (f, same_numbers b q second) refl
      split false f =
          let apart : (a ≡ p) → ⊥ = λ g. grind (arith, nat_tests, f, g) in
          let first : a ≡ q = omega (arith, same, apart, h, i, j, k) in
          let second : b ≡ p = omega (arith, same, first, h, i, j, k) in
          rw (f, same_numbers a q first, same_numbers b p second) refl

  straight : a ≡ p → b ≡ q → nat_eq (link p q) (link a b) ≡ true
  straight x y = same_numbers (link p q) (link a b) (omega (arith, x, y))

  crossed : a ≡ q → b ≡ p → nat_eq (link p q) (link a b) ≡ true
  crossed x y = same_numbers (link p q) (link a b) (omega (arith, x, y))

  then_same : is_link a b (p, q) ≡ true → nat_eq (link p q) (link a b) ≡ true
  then_same e = split (nat_eq a p) refl (nat_eq b q) refl (nat_eq a q) refl (nat_eq b p) refl e
    where
      split : (s : Bool) → nat_eq a p ≡ s → (t : Bool) → nat_eq b q ≡ t → (u : Bool) → nat_eq a q ≡ u → (v : Bool) → nat_eq b p ≡ v
          → ((s && t) || (u && v)) ≡ true → nat_eq (link p q) (link a b) ≡ true
      split true f true g u m v l x = straight (grind (arith, nat_tests, f)) (grind (arith, nat_tests, g))
      split true f false g true m true l x = crossed (grind (arith, nat_tests, m)) (grind (arith, nat_tests, l))
      split true f false g true m false l x = absurd (cc)
      split true f false g false m v l x = absurd (cc)
      split false f t g true m true l x = crossed (grind (arith, nat_tests, m)) (grind (arith, nat_tests, l))
      split false f t g true m false l x = absurd (cc)
      split false f t g false m v l x = absurd (cc)

  pub same_place : nat_eq (link p q) (link a b) ≡ is_link a b (p, q)
  same_place = both_ways (nat_eq (link p q) (link a b)) (is_link a b (p, q)) same_then then_same

pub link_within : (p q : ℕ) → p < 64 → q < 64 → link p q < 4096
link_within p q h i = omega (arith, h, i)

-- the lists of cut links, with one healed
pub healed_cuts : (cs : List (ℕ × ℕ)) (p q a b : ℕ) → p < 64 → q < 64 → a < 64 → b < 64
    → is_cut (healed cs p q) a b ≡ (if is_link a b (p, q) then false else is_cut cs a b)
healed_cuts [] p q a b h i j k = by_test (is_link a b (p, q))
  where
    by_test : (t : Bool) → false ≡ (if t then false else false)
    by_test true = refl
    by_test false = refl
healed_cuts (c ∷ cs) p q a b h i j k = by_tests (is_link p q c) refl (is_link a b (p, q)) refl (is_link a b c) refl (healed_cuts cs p q a b h i j k)
  where
    apart : is_link p q c ≡ true → is_link a b (p, q) ≡ false → is_link a b c ≡ true → ⊥
    apart e f g = grind (arith, nat_tests, e, f, g)

    joined : is_link p q c ≡ false → is_link a b (p, q) ≡ true → is_link a b c ≡ true → ⊥
    joined e f g = grind (arith, nat_tests, e, f, g)

    by_tests : (s : Bool) → is_link p q c ≡ s → (t : Bool) → is_link a b (p, q) ≡ t → (u : Bool) → is_link a b c ≡ u
        → is_cut (healed cs p q) a b ≡ (if t then false else is_cut cs a b)
        → is_cut (if s then healed cs p q else c ∷ healed cs p q) a b ≡ (if t then false else (u || is_cut cs a b))
    by_tests true e true f u g rest = rest
    by_tests true e false f true g rest = absurd (apart e f g)
    by_tests true e false f false g rest = rest
    by_tests false e true f true g rest = absurd (joined e f g)
    by_tests false e true f false g rest = rw g rest
    by_tests false e false f u g rest = rw g (ap (λ t. u || t) rest)
