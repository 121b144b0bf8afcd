-- Places of which the last hold nothing.
use Rattle.std.proofs.Common.{◌≡◌, ℕ, zero, suc, ◌<◌, ◌≤◌, List, [], ◌∷◌, ◌++◌, length, get_or, set, Bool, true, is_none, take, Option, Some, None, refl, ap, arith}
use Rattle.std.specs.List.{list_all}
use Rattle.flow_frame.specs.Frames.{padded, all_empty}

module _ {T : Type 0} where
  pub length_padded : (n : ℕ) (xs : List (Option T)) → length (padded n xs) ≡ n
  length_padded zero xs = refl
  length_padded (suc n) [] = omega (arith, length_padded n [])
  length_padded (suc n) (x ∷ xs) = omega (arith, length_padded n xs)

  pub at_padded : (n : ℕ) (xs : List (Option T)) (k : ℕ) → k < n → get_or (padded n xs) k None ≡ get_or xs k None
  at_padded zero xs k h = absurd (omega arith)
  at_padded (suc n) [] zero h = refl
  at_padded (suc n) [] (suc k) h = at_padded n [] k (omega arith)
  at_padded (suc n) (x ∷ xs) zero h = refl
  at_padded (suc n) (x ∷ xs) (suc k) h = at_padded n xs k (omega arith)

  pub set_padded : (n : ℕ) (xs : List (Option T)) (k : ℕ) (v : Option T) → k < length xs → padded n (set xs k v) ≡ set (padded n xs) k v
  set_padded zero xs k v h = refl
  set_padded (suc n) [] k v h = absurd (omega arith)
  set_padded (suc n) (x ∷ xs) zero v h = refl
  set_padded (suc n) (x ∷ xs) (suc k) v h = ap (λ r. x ∷ r) (set_padded n xs k v (omega arith))

  -- one more that holds nothing
  pub more_padded : (n : ℕ) (xs : List (Option T)) → padded n (xs ++ None ∷ []) ≡ padded n xs
  more_padded zero xs = refl
  more_padded (suc n) [] = refl
  more_padded (suc n) (x ∷ xs) = ap (λ r. x ∷ r) (more_padded n xs)

  -- nothing put where nothing stood
  pub unset_padded : (n : ℕ) (xs : List (Option T)) (k : ℕ) → length xs ≤ k → set (padded n xs) k None ≡ padded n xs
  unset_padded zero xs k h = refl
  unset_padded (suc n) [] zero h = refl
  unset_padded (suc n) [] (suc k) h = ap (λ r. None ∷ r) (unset_padded n [] k (omega arith))
  unset_padded (suc n) (x ∷ xs) zero h = absurd (omega arith)
  unset_padded (suc n) (x ∷ xs) (suc k) h = ap (λ r. x ∷ r) (unset_padded n xs k (omega arith))

  pub past_padded : (n : ℕ) (xs : List (Option T)) (k : ℕ) → length xs ≤ k → get_or (padded n xs) k None ≡ None
  past_padded zero xs k h = refl
  past_padded (suc n) [] zero h = refl
  past_padded (suc n) [] (suc k) h = past_padded n [] k (omega arith)
  past_padded (suc n) (x ∷ xs) zero h = absurd (omega arith)
  past_padded (suc n) (x ∷ xs) (suc k) h = past_padded n xs k (omega arith)

  -- whether all are empty
  none_padded : (n : ℕ) (xs : List (Option T)) → xs ≡ [] → all_empty (padded n xs) ≡ true
  none_padded zero xs e = refl
  none_padded (suc n) [] e = none_padded n [] refl
  none_padded (suc n) (x ∷ xs) e = absurd (cc (e))

  pub empty_padded : (n : ℕ) (xs : List (Option T)) → all_empty (padded n xs) ≡ list_all is_none (take n xs)
  empty_padded zero [] = refl
  empty_padded zero (x ∷ xs) = refl
  empty_padded (suc n) [] = none_padded n [] refl
  empty_padded (suc n) (None ∷ xs) = empty_padded n xs
  empty_padded (suc n) (Some v ∷ xs) = refl

  -- no more of them than there are places
  pub front_padded : (n : ℕ) (xs : List (Option T)) → padded n (take n xs) ≡ padded n xs
  front_padded zero xs = refl
  front_padded (suc n) [] = refl
  front_padded (suc n) (x ∷ xs) = ap (λ r. x ∷ r) (front_padded n xs)

  short : (n : ℕ) (xs : List (Option T)) → length (take n xs) ≤ n
  short zero xs = omega arith
  short (suc n) [] = omega arith
  short (suc n) (x ∷ xs) = omega (arith, short n xs)

  pub front_short : (n : ℕ) (xs ys : List (Option T)) → length (take n xs) ≤ length (padded n ys)
  front_short n xs ys = omega (arith, short n xs, length_padded n ys)
