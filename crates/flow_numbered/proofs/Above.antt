-- The things above a number, and the next of them.
use Rattle.std.proofs.Common.{◌≡◌, ℕ, ◌<◌, ◌≤◌, [], ◌∷◌, nat_eq, nat_lt, Some, None, sym, ap, ap₂, ◌∙◌, refl, arith, if◌then◌else◌}
use Rattle.std.specs.Prelude.{Bool, true, false}
use Rattle.std.proofs.lemmas.Bool.Decides.{nat_tests}
use Rattle.flow_numbered.specs.Numbered.{Numbered, thing, next_above, IsRising}

module _ {A : Type 0} where
  -- the things above a number
  abbrev pub things_above : ℕ → Numbered A → Numbered A
  things_above n [] = []
  things_above n (x ∷ xs) = if nat_lt n x.0 then x ∷ things_above n xs else things_above n xs

  pub all_above : (n low : ℕ) (xs : Numbered A) (most : ℕ) → n ≤ low → IsRising low xs most → things_above n xs ≡ xs
  all_above n low [] most below rising = refl
  all_above n low (x ∷ xs) most below rising =
      let here : nat_lt n x.0 ≡ true = grind (arith, nat_tests, rising.0) in
      rw here (ap (λ ys. x ∷ ys) (all_above n x.0 xs most (omega (arith, rising.0)) rising.1))

  -- the next thing is the first of those above
  pub record IsNext (xs : Numbered A) (n m : ℕ) : Type 0 where
    pub what : A
    pub there : thing xs m ≡ Some what
    pub first : things_above n xs ≡ (m, what) ∷ things_above m xs
    pub above : n < m

  pub next_is : (low : ℕ) (xs : Numbered A) (most n m : ℕ) → IsRising low xs most → Some m ≡ next_above xs n → IsNext xs n m
  next_is low [] most n m rising e = absurd (cc)
  next_is low (x ∷ xs) most n m rising e = by (nat_lt n x.0) refl (λ h. next_is x.0 xs most n m rising.1 h)
    where
      some : {Y : Type 0} {a b : Y} → Some a ≡ Some b → a ≡ b
      some h = cc

      by : (b : Bool) → nat_lt n x.0 ≡ b → (Some m ≡ next_above xs n → IsNext xs n m) → IsNext (x ∷ xs) n m
      by true t go =
          let is : m ≡ x.0 = some (rw t at e) in
          let here : nat_eq m x.0 ≡ true = grind (arith, nat_tests) in
          let past : nat_lt m x.0 ≡ false = grind (arith, nat_tests) in
          let low_enough : n < x.0 = grind (arith, nat_tests) in
          record {
            what = x.1;
            there = rw here refl;
            first = rw (t, past) (ap₂ (λ k ys. (k, x.1) ∷ ys) (sym is) (all_above n x.0 xs most (omega (arith, low_enough)) rising.1 ∙ sym (all_above m x.0 xs most (omega (arith, is)) rising.1)));
            above = omega (arith, is, low_enough);
          }
      by false t go =
          let rest = go (rw t at e) in
          let before : x.0 < m = grind (arith, nat_tests, rest.above) in
          let other : nat_eq m x.0 ≡ false = grind (arith, nat_tests) in
          let past : nat_lt m x.0 ≡ false = grind (arith, nat_tests) in
          record {
            what = rest.what;
            there = rw other rest.there;
            first = rw (t, past) rest.first;
            above = rest.above;
          }

  pub none_above : (xs : Numbered A) (n : ℕ) → None ≡ next_above xs n → things_above n xs ≡ []
  none_above [] n e = refl
  none_above (x ∷ xs) n e = by (nat_lt n x.0) refl (none_above xs n)
    where
      by : (b : Bool) → nat_lt n x.0 ≡ b → (None ≡ next_above xs n → things_above n xs ≡ []) → things_above n (x ∷ xs) ≡ []
      by true t go = absurd (cc (rw t at e))
      by false t go = rw t (go (rw t at e))
