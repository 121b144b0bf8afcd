-- Lists that are read item by item, and things that are read number by number.
use Rattle.std.proofs.Common.{◌≡◌, ℕ, zero, suc, ◌-◌, ◌<◌, ◌≤◌, List, [], ◌∷◌, ◌++◌, length, map, nat_eq, nat_lt, Option, Some, None, sym, ap, ◌∙◌, refl, arith}
use Rattle.std.specs.Prelude.{Bool, true, false, take, slice_get, IsSome}
use Rattle.std.proofs.lemmas.List.{append-nil, append_assoc, map-append, length_push}
use Rattle.std.proofs.lemmas.Bool.Decides.{nat_tests}
use Rattle.flow_numbered.specs.Numbered.{Numbered, thing, next_above, IsRising}
use Rattle.flow_numbered.proofs.Above.{things_above, all_above, IsNext, none_above}

-- the first items of a list, and one more; and all of them
pub take_next : {A : Type 0} (xs : List A) (n : ℕ) (x : A) → Some x ≡ slice_get xs n → take (suc n) xs ≡ take n xs ++ x ∷ []
take_next [] n x e = absurd (cc)
take_next (y ∷ ys) zero x e = ap (λ z. z ∷ []) (sym (some e))
  where
    some : {Y : Type 0} {a b : Y} → Some a ≡ Some b → a ≡ b
    some h = cc
take_next (y ∷ ys) (suc n) x e = ap (λ zs. y ∷ zs) (take_next ys n x e)

pub take_all : {A : Type 0} (xs : List A) (n : ℕ) → None ≡ slice_get xs n → take n xs ≡ xs
take_all [] zero e = refl
take_all [] (suc n) e = refl
take_all (y ∷ ys) zero e = absurd (cc)
take_all (y ∷ ys) (suc n) e = ap (λ zs. y ∷ zs) (take_all ys n e)

module _ {A B S : Type 0} (kept : S → B) (part : A → B) where
  -- the items that were read so far
  abbrev pub IsReadOf : List A → List S → Type 0
  IsReadOf xs ys = map kept ys ≡ map part (take (length ys) xs)

  pub read_next : (xs : List A) (ys : List S) (x : A) (y : S) → IsReadOf xs ys → Some x ≡ slice_get xs (length ys) → kept y ≡ part x → IsReadOf xs (ys ++ y ∷ [])
  read_next xs ys x y read e same =
      let longer : suc (length ys) ≡ length (ys ++ y ∷ []) = omega (arith, length_push ys y) in
      map-append kept ys (y ∷ [])
      ∙ ap (λ zs. zs ++ kept y ∷ []) read
      ∙ ap (λ z. map part (take (length ys) xs) ++ z ∷ []) same
      ∙ sym (map-append part (take (length ys) xs) (x ∷ []))
      ∙ ap (map part) (sym (take_next xs (length ys) x e))
      ∙ ap (λ n. map part (take n xs)) longer

  pub read_all : (xs : List A) (ys : List S) → IsReadOf xs ys → None ≡ slice_get xs (length ys) → map kept ys ≡ map part xs
  read_all xs ys read e = read ∙ ap (map part) (take_all xs (length ys) e)

module _ {A : Type 0} where
  pub no_more : (xs : Numbered A) (n m : ℕ) → n ≤ m → length (things_above m xs) ≤ length (things_above n xs)
  no_more [] n m l = omega arith
  no_more (x ∷ xs) n m l = by (nat_lt n x.0) refl (nat_lt m x.0) refl (no_more xs n m l)
    where
      by : (a : Bool) → nat_lt n x.0 ≡ a → (b : Bool) → nat_lt m x.0 ≡ b → length (things_above m xs) ≤ length (things_above n xs)
          → length (things_above m (x ∷ xs)) ≤ length (things_above n (x ∷ xs))
      by true s true t r = rw (s, t) (omega (arith, r))
      by true s false t r = rw (s, t) (omega (arith, r))
      by false s true t r =
          let over : m < x.0 = grind (arith, nat_tests) in
          let under : x.0 ≤ n = grind (arith, nat_tests) in
          absurd (omega (arith, over, under, l))
      by false s false t r = rw (s, t) r

  -- what is read next is there and above, whatever the order
  pub record IsFound (xs : Numbered A) (n m : ℕ) : Type 0 where
    pub there : IsSome (thing xs m)
    pub above : n < m
    pub fewer : length (things_above m xs) < length (things_above n xs)

  pub next_found : (xs : Numbered A) (n m : ℕ) → Some m ≡ next_above xs n → IsFound xs n m
  next_found [] n m e = absurd (cc)
  next_found (x ∷ xs) n m e = by (nat_lt n x.0) refl (λ h. next_found xs n m h)
    where
      some : {Y : Type 0} {a b : Y} → Some a ≡ Some b → a ≡ b
      some h = cc

      by : (b : Bool) → nat_lt n x.0 ≡ b → (Some m ≡ next_above xs n → IsFound xs n m) → IsFound (x ∷ xs) n m
      by true t go =
          let is : m ≡ x.0 = some (rw t at e) in
          let here : nat_eq m x.0 ≡ true = grind (arith, nat_tests) in
          let past : nat_lt m x.0 ≡ false = grind (arith, nat_tests) in
          let over : n < x.0 = grind (arith, nat_tests) in
          let rest = no_more xs n m (omega (arith, is, over)) in
          record {
            there = rw here refl;
            above = omega (arith, is, over);
            fewer = rw (t, past) (omega (arith, rest));
          }
      by false t go =
          let rest = go (rw t at e) in
          let before : x.0 < m = grind (arith, nat_tests, rest.above) in
          let other : nat_eq m x.0 ≡ false = grind (arith, nat_tests) in
          let past : nat_lt m x.0 ≡ false = grind (arith, nat_tests) in
          record {
            there = rw other rest.there;
            above = rest.above;
            fewer = rw (t, past) rest.fewer;
          }

module _ {A B S : Type 0} (kept : S → B) (part : ℕ × A → B) where
  -- the things that were read up to a number, and those above it, are all
  abbrev pub IsListed : Numbered A → List S → ℕ → Type 0
  IsListed xs ys n = map kept ys ++ map part (things_above n xs) ≡ map part xs

  pub listed_none : (xs : Numbered A) (most : ℕ) → IsRising 0 xs most → IsListed xs [] 0
  listed_none xs most rising = ap (map part) (all_above 0 0 xs most (omega arith) rising)

  pub listed_next : (xs : Numbered A) (ys : List S) (y : S) (n m : ℕ) (next : IsNext xs n m) → IsListed xs ys n → kept y ≡ part (m, next.what) → IsListed xs (ys ++ y ∷ []) m
  listed_next xs ys y n m next listed same =
      ap (λ zs. zs ++ map part (things_above m xs)) (map-append kept ys (y ∷ []))
      ∙ append_assoc (map kept ys) (kept y ∷ []) (map part (things_above m xs))
      ∙ ap (λ z. map kept ys ++ z ∷ map part (things_above m xs)) same
      ∙ ap (λ zs. map kept ys ++ map part zs) (sym next.first)
      ∙ listed

  pub listed_all : (xs : Numbered A) (ys : List S) (n : ℕ) → IsListed xs ys n → None ≡ next_above xs n → map kept ys ≡ map part xs
  listed_all xs ys n listed none = sym (append-nil (map kept ys)) ∙ ap (λ zs. map kept ys ++ map part zs) (sym (none_above xs n none)) ∙ listed

inside : {A : Type 0} (xs : List A) (n : ℕ) (x : A) → Some x ≡ slice_get xs n → n < length xs
inside [] n x e = absurd (cc)
inside (y ∷ ys) zero x e = omega arith
inside (y ∷ ys) (suc n) x e = let rest = inside ys n x e in omega (arith, rest)

-- how many items are left to be read
abbrev pub left_of : {X B : Type 0} → (X → List B) → Option X → ℕ → ℕ
left_of f None n = 0
left_of f (Some x) n = length (f x) - n

pub fewer_left : {X B S : Type 0} (f : X → List B) (o : Option X) (ys : List S) (y : S) (x : X) → o ≡ Some x → (b : B) → Some b ≡ slice_get (f x) (length ys)
    → left_of f o (length (ys ++ y ∷ [])) < left_of f o (length ys)
fewer_left f o ys y x is b e = rw is (let here = inside (f x) (length ys) b e in omega (arith, length_push ys y, here))

-- what is there
pub what_is : {X : Type 0} (o : Option X) → IsSome o → (x : X) × (o ≡ Some x)
what_is None there = absurd (cc)
what_is (Some x) there = (x, refl)
