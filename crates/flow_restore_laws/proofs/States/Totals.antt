-- Sums over things by number as sums over numbers.
use Rattle.std.proofs.Common.{◌≡◌, ℕ, zero, suc, ◌+◌, ◌<◌, ◌≤◌, nat_eq, Bool, true, false, [], ◌∷◌, map, if◌then◌else◌, refl, sym, ap, ◌∙◌, arith}
use Rattle.std.proofs.lemmas.Bool.Decides.{nat_tests}
use Rattle.std.specs.List.{AllByRecursion}
use Rattle.std.specs.declared.option.Option.{Option}
use Rattle.std.specs.declared.option.Option.TheVariants.{None, Some}
use Rattle.flow_numbered.specs.Numbered as stored
use Rattle.flow_numbered.specs.Numbered.{Numbered, thing, removed}
use Rattle.flow_meaning.specs.Orderly.{Rising}
use Rattle.flow_meaning.proofs.Posture.{same_number, above_none}
use Rattle.flow_meaning.proofs.InOrder.{no_thing}
use Rattle.flow_heap_refinement.proofs.Sums.{sum_by, sum_removed}

-- the sum over the numbers from 1 on
abbrev pub upto : (ℕ → ℕ) → ℕ → ℕ
upto f zero = 0
upto f (suc n) = f (suc n) + upto f n

pub upto_same : (f g : ℕ → ℕ) → ((k : ℕ) → f k ≡ g k) → (n : ℕ) → upto f n ≡ upto g n
upto_same f g h zero = refl
upto_same f g h (suc n) = let a = h (suc n) in let b = upto_same f g h n in omega (arith, a, b)

pub upto_sum : (f g : ℕ → ℕ) (n : ℕ) → upto (λ k. f k + g k) n ≡ upto f n + upto g n
upto_sum f g zero = refl
upto_sum f g (suc n) = let a = upto_sum f g n in omega (arith, a)

upto_none : (n : ℕ) → upto (λ k. 0) n ≡ 0
upto_none zero = refl
upto_none (suc n) = let a = upto_none n in omega (arith, a)

-- what counts at one number alone
abbrev at_one : ℕ → ℕ → ℕ → ℕ
at_one j c k = if nat_eq k j then c else 0

beyond : (j c n : ℕ) → n < j → upto (at_one j c) n ≡ 0
beyond j c zero l = refl
beyond j c (suc n) l =
    let other : nat_eq (suc n) j ≡ false = grind (arith, nat_tests, l) in
    let a : at_one j c (suc n) ≡ 0 = ap (λ b. if b then c else 0) other in
    let b = beyond j c n (omega (arith, l)) in omega (arith, a, b)

upto_one : (j c n : ℕ) → 0 < j → j ≤ n → upto (at_one j c) n ≡ c
upto_one j c zero up l = absurd (omega (arith, up, l))
upto_one j c (suc n) up l = by_test (nat_eq (suc n) j) refl (λ less. upto_one j c n up less)
  where
    by_test : (b : Bool) → nat_eq (suc n) j ≡ b → (j ≤ n → upto (at_one j c) n ≡ c) → upto (at_one j c) (suc n) ≡ c
    by_test true e rest =
        let same : suc n ≡ j = grind (arith, nat_tests, e) in
        let a : at_one j c (suc n) ≡ c = ap (λ b. if b then c else 0) e in
        let b = beyond j c n (omega (arith, same)) in omega (arith, a, b)
    by_test false e rest =
        let less : j ≤ n = grind (arith, nat_tests, e, l) in
        let a : at_one j c (suc n) ≡ 0 = ap (λ b. if b then c else 0) e in
        let b = rest less in omega (arith, a, b)

-- what a thing counts, if it is there
abbrev pub if_there : {A : Type 0} → (ℕ → A → ℕ) → ℕ → Option A → ℕ
if_there w k None = 0
if_there w k (Some a) = w k a

module _ {A : Type 0} where
  pub sum_upto : (w : ℕ → A → ℕ) (xs : Numbered A) (low n : ℕ) → Rising low n xs → sum_by w xs ≡ upto (λ k. if_there w k (thing xs k)) n
  sum_upto w [] low n h = sym (upto_none n)
  sum_upto w (x ∷ xs) low n h =
      let rest = sum_upto w xs x.0 n h.2 in
      let split = upto_sum (at_one x.0 (w x.0 x.1)) (λ k. if_there w k (thing xs k)) n in
      let one = upto_one x.0 (w x.0 x.1) n (omega (arith, h.0)) (omega (arith, h.1)) in
      let same = upto_same (λ k. at_one x.0 (w x.0 x.1) k + if_there w k (thing xs k)) (λ k. if_there w k (thing (x ∷ xs) k)) at n in
      omega (arith, rest, split, one, same)
    where
      gone : thing xs x.0 ≡ None
      gone = above_none xs x.0 n x.0 h.2 (omega arith)

      by_test : (k : ℕ) (b : Bool) → nat_eq k x.0 ≡ b → (if b then w x.0 x.1 else 0) + if_there w k (thing xs k) ≡ if_there w k (if b then Some x.1 else thing xs k)
      by_test k true e =
          let same : k ≡ x.0 = grind (arith, nat_tests, e) in
          let a = ap (if_there w k) (ap (thing xs) same ∙ gone) in
          let b = ap (λ m. w m x.1) same in omega (arith, a, b)
      by_test k false e = omega arith

      at : (k : ℕ) → at_one x.0 (w x.0 x.1) k + if_there w k (thing xs k) ≡ if_there w k (thing (x ∷ xs) k)
      at k = by_test k (nat_eq k x.0) refl

  -- what stands at a number is among all
  pub sum_at : (w : ℕ → A → ℕ) (xs : Numbered A) (n : ℕ) (a : A) → thing xs n ≡ Some a → w n a ≤ sum_by w xs
  sum_at w xs n a e = let b = sum_removed w xs n a e in omega (arith, b)

  -- what holds of the thing at each number holds of all
  pub all_by : {P : Type 0} (Q : P → Type 0) (part : ℕ × A → P) (xs : Numbered A) (low n : ℕ) → Rising low n xs → ((k : ℕ) (a : A) → thing xs k ≡ Some a → Q (part (k, a)))
      → AllByRecursion Q (map part xs)
  all_by Q part [] low n h f = tt
  all_by Q part (x ∷ xs) low n h f = (f x.0 x.1 (ap (λ b. if b then Some x.1 else thing xs x.0) (same_number x.0)), all_by Q part xs x.0 n h.2 later)
    where
      gone : thing xs x.0 ≡ None
      gone = above_none xs x.0 n x.0 h.2 (omega arith)

      later : (k : ℕ) (a : A) → thing xs k ≡ Some a → Q (part (k, a))
      later k a e = f k a (by_test (nat_eq k x.0) refl)
        where
          by_test : (b : Bool) → nat_eq k x.0 ≡ b → (if b then Some x.1 else thing xs k) ≡ Some a
          by_test true g =
              let same : k ≡ x.0 = grind (arith, nat_tests, g) in
              absurd (no_thing (sym gone ∙ sym (ap (thing xs) same) ∙ e))
          by_test false g = e

  -- numbers that rise in memory rise
  upper : (low most : ℕ) (xs : Numbered A) → stored.IsRising low xs most → low ≤ most
  upper low most [] h = h
  upper low most (x ∷ xs) h = let a = upper x.0 most xs h.1 in omega (arith, h.0, a)

  pub rising : (low most n : ℕ) (xs : Numbered A) → stored.IsRising low xs most → most ≤ n → Rising low n xs
  rising low most n [] h l = tt
  rising low most n (x ∷ xs) h l = let a = upper x.0 most xs h.1 in (h.0, omega (arith, a, l), rising x.0 most n xs h.1 l)
