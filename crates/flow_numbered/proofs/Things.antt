-- Lists of things by number.
use Rattle.std.proofs.Common.{◌≡◌, ℕ, ◌<◌, ◌≤◌, nat_eq, Bool, true, false, [], ◌∷◌, Option, Some, None, refl, ap, arith, if◌then◌else◌}
use Rattle.std.proofs.lemmas.Bool.Decides.{nat_tests}
use Rattle.flow_numbered.specs.Numbered.{Numbered, Store, thing, added, put, removed, with_thing, IsRising}

module _ {A : Type 0} where
  -- what stands there, put there again
  pub put_same : (xs : Numbered A) (n : ℕ) (a : A) → thing xs n ≡ Some a → put xs n a ≡ xs
  put_same [] n a e = refl
  put_same (x ∷ xs) n a e = at_head (nat_eq n x.0) refl (λ t. put_same xs n a t)
    where
      at_head : (t : Bool) → nat_eq n x.0 ≡ t → (thing xs n ≡ Some a → put xs n a ≡ xs) → put (x ∷ xs) n a ≡ x ∷ xs
      at_head true g rest = let is : x.1 ≡ a = cc (rw g at e) in rw g (ap (λ v. (x.0, v) ∷ xs) (cc (is)))
      at_head false g rest = rw g (ap (λ ys. x ∷ ys) (rest (rw g at e)))

  pub with_same : (s : Store A) (n : ℕ) (a : A) → thing s.things n ≡ Some a → with_thing s n a ≡ s
  with_same s n a e = ap (λ xs. record s { things = xs }) (put_same s.things n a e)

  -- what is found among things after a change
  pub thing_put : (xs : Numbered A) (n : ℕ) (old a : A) (m : ℕ) → thing xs n ≡ Some old → thing (put xs n a) m ≡ (if nat_eq m n then Some a else thing xs m)
  thing_put [] n old a m e = absurd (cc)
  thing_put (x ∷ xs) n old a m e = at_head (nat_eq n x.0) refl (λ t. thing_put xs n old a m t)
    where
      at_head : (t : Bool) → nat_eq n x.0 ≡ t → (thing xs n ≡ Some old → thing (put xs n a) m ≡ (if nat_eq m n then Some a else thing xs m))
          → thing (put (x ∷ xs) n a) m ≡ (if nat_eq m n then Some a else thing (x ∷ xs) m)
      at_head true g rest =
          let same : n ≡ x.0 = grind (arith, nat_tests) in
          rw g (at_same (nat_eq m x.0) refl (ap (nat_eq m) same))
        where
          at_same : (t : Bool) → nat_eq m x.0 ≡ t → nat_eq m n ≡ nat_eq m x.0
              → (if nat_eq m x.0 then Some a else thing xs m) ≡ (if nat_eq m n then Some a else (if nat_eq m x.0 then Some x.1 else thing xs m))
          at_same true f s = rw (s, f) refl
          at_same false f s = rw (s, f) refl
      at_head false g rest = rw g (at_other (nat_eq m x.0) refl (rest (rw g at e)))
        where
          at_other : (t : Bool) → nat_eq m x.0 ≡ t → thing (put xs n a) m ≡ (if nat_eq m n then Some a else thing xs m)
              → (if nat_eq m x.0 then Some x.1 else thing (put xs n a) m) ≡ (if nat_eq m n then Some a else (if nat_eq m x.0 then Some x.1 else thing xs m))
          at_other true f s = let other : nat_eq m n ≡ false = grind (arith, nat_tests) in rw (f, other) refl
          at_other false f s = rw f s

  -- things with rising numbers
  pub above : (low : ℕ) (xs : Numbered A) (most n : ℕ) (a : A) → IsRising low xs most → thing xs n ≡ Some a → (low < n) × (n ≤ most)
  above low [] most n a h e = absurd (cc)
  above low (x ∷ xs) most n a h e = at_head (nat_eq n x.0) refl (λ t. above x.0 xs most n a h.1 t)
    where
      upper : (b : ℕ) (ys : Numbered A) → IsRising b ys most → b ≤ most
      upper b [] r = r
      upper b (y ∷ ys) r = let rest = upper y.0 ys r.1 in omega (arith, r.0)

      at_head : (t : Bool) → nat_eq n x.0 ≡ t → (thing xs n ≡ Some a → (x.0 < n) × (n ≤ most)) → (low < n) × (n ≤ most)
      at_head true g rest =
          let same : n ≡ x.0 = grind (arith, nat_tests) in
          let most_is = upper x.0 xs h.1 in
          (omega (arith, h.0), omega arith)
      at_head false g rest = let r = rest (rw g at e) in (omega (arith, h.0, r.0), r.1)

  pub nothing_above : (low : ℕ) (xs : Numbered A) (most n : ℕ) → IsRising low xs most → most < n → thing xs n ≡ None
  nothing_above low xs most n h l = by_case (thing xs n) refl
    where
      by_case : (o : Option A) → thing xs n ≡ o → thing xs n ≡ None
      by_case None e = e
      by_case (Some a) e = let r = above low xs most n a h e in absurd (omega (arith, r.1))

  pub thing_added : (low : ℕ) (xs : Numbered A) (most n : ℕ) (a : A) (m : ℕ) → IsRising low xs most → most < n
      → thing (added xs n a) m ≡ (if nat_eq m n then Some a else thing xs m)
  thing_added low [] most n a m h l = refl
  thing_added low (x ∷ xs) most n a m h l = at_head (nat_eq m x.0) refl (thing_added x.0 xs most n a m h.1 l)
    where
      upper : (b : ℕ) (ys : Numbered A) → IsRising b ys most → b ≤ most
      upper b [] r = r
      upper b (y ∷ ys) r = let rest = upper y.0 ys r.1 in omega (arith, r.0)

      at_head : (t : Bool) → nat_eq m x.0 ≡ t → thing (added xs n a) m ≡ (if nat_eq m n then Some a else thing xs m)
          → thing (added (x ∷ xs) n a) m ≡ (if nat_eq m n then Some a else thing (x ∷ xs) m)
      at_head true g rest =
          let most_is = upper x.0 xs h.1 in
          let other : nat_eq m n ≡ false = grind (arith, nat_tests) in rw (g, other) refl
      at_head false g rest = rw g rest

  pub thing_removed : (low : ℕ) (xs : Numbered A) (most n m : ℕ) → IsRising low xs most → thing (removed xs n) m ≡ (if nat_eq m n then None else thing xs m)
  thing_removed low [] most n m h = by_case (nat_eq m n) None
    where
      by_case : (t : Bool) (o : Option A) → o ≡ (if t then o else o)
      by_case true o = refl
      by_case false o = refl
  thing_removed low (x ∷ xs) most n m h = at_head (nat_eq n x.0) refl (thing_removed x.0 xs most n m h.1)
    where
      at_head : (t : Bool) → nat_eq n x.0 ≡ t → thing (removed xs n) m ≡ (if nat_eq m n then None else thing xs m)
          → thing (removed (x ∷ xs) n) m ≡ (if nat_eq m n then None else thing (x ∷ xs) m)
      at_head true g rest = rw g (at_same (nat_eq m n) refl)
        where
          no_other : (o : Option A) → thing xs m ≡ o → nat_eq m n ≡ true → thing xs m ≡ None
          no_other None e f = e
          no_other (Some a) e f =
              let r = above x.0 xs most m a h.1 e in
              let same : m ≡ x.0 = grind (arith, nat_tests) in absurd (omega (arith, r.0))

          at_same : (t : Bool) → nat_eq m n ≡ t → thing xs m ≡ (if nat_eq m n then None else (if nat_eq m x.0 then Some x.1 else thing xs m))
          at_same true f = rw f (no_other (thing xs m) refl f)
          at_same false f = let other : nat_eq m x.0 ≡ false = grind (arith, nat_tests) in rw (f, other) refl
      at_head false g rest = rw g (at_other (nat_eq m x.0) refl rest)
        where
          at_other : (t : Bool) → nat_eq m x.0 ≡ t → thing (removed xs n) m ≡ (if nat_eq m n then None else thing xs m)
              → (if nat_eq m x.0 then Some x.1 else thing (removed xs n) m) ≡ (if nat_eq m n then None else (if nat_eq m x.0 then Some x.1 else thing xs m))
          at_other true f s = let other : nat_eq m n ≡ false = grind (arith, nat_tests) in rw (f, other) refl
          at_other false f s = rw f s
