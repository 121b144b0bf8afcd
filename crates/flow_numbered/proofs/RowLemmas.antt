-- Rows of numbers that rise: where a number stands, and what each call on them does to their things.
use Rattle.std.proofs.Common.{◌≡◌, ◌≢◌, ℕ, zero, suc, ◌+◌, ◌<◌, ◌≤◌, nat_eq, nat_lt, Bool, true, false, List, [], ◌∷◌, ◌++◌, length, get_or, set, drop, cond, Option, Some, None, refl, sym, ap, ◌∙◌, subst, arith, if◌then◌else◌}
use Rattle.std.specs.Prelude.{slice_get, is_some}
use Rattle.std.specs.List.{filter}
use Rattle.std.specs.Option.{option_map, IsSome}
use Rattle.std.proofs.lemmas.Bool.Decides.{nat_tests}
use Rattle.flow_numbered.specs.declared.rows.Row.{Row}
use Rattle.flow_numbered.specs.Numbered.{Numbered, thing, added, put, removed, next_above, IsRising}
use Rattle.flow_numbered.specs.Rows.{with_row, things_in, place_in, RowsRise, IsAt}

module _ {A : Type 0} where
  -- the row at a place
  pub row_at : (rs : List (Row A)) (i : ℕ) (r : Row A) → i < length rs → r ≡ get_or rs i r → slice_get rs i ≡ Some r
  row_at [] i r h e = absurd (omega arith)
  row_at (x ∷ rs) zero r h e = ap Some (sym e)
  row_at (x ∷ rs) (suc i) r h e = row_at rs i r (omega arith) e

  pub row_above : (low : ℕ) (rs : List (Row A)) (most i : ℕ) (r : Row A) → RowsRise low rs most → slice_get rs i ≡ Some r → low < r.number
  row_above low [] most i r h e = absurd (cc)
  row_above low (x ∷ rs) most zero r h e = let is : x ≡ r = cc in subst (λ (q : Row A). low < q.number) is h.0
  row_above low (x ∷ rs) most (suc i) r h e = let rest = row_above x.number rs most i r h.1 e in omega (arith, h.0)

  -- rows with rising numbers stand in their order
  pub in_order : (low : ℕ) (rs : List (Row A)) (most i j : ℕ) (r q : Row A) → RowsRise low rs most
      → slice_get rs i ≡ Some r → slice_get rs j ≡ Some q → r.number < q.number → i < j
  in_order low [] most i j r q h e f l = absurd (cc)
  in_order low (x ∷ rs) most zero zero r q h e f l =
      let same : r ≡ q = cc in absurd (omega (arith, ap (λ (y : Row A). y.number) same))
  in_order low (x ∷ rs) most zero (suc j) r q h e f l = omega arith
  in_order low (x ∷ rs) most (suc i) zero r q h e f l =
      let is : x ≡ q = cc in
      let above = row_above x.number rs most i r h.1 e in
      absurd (omega (arith, ap (λ (y : Row A). y.number) is))
  in_order low (x ∷ rs) most (suc i) (suc j) r q h e f l = let rest = in_order x.number rs most i j r q h.1 e f l in omega arith

  -- a row with a number is the place of it
  pub place_hit : (low : ℕ) (rs : List (Row A)) (most i : ℕ) (r : Row A) → RowsRise low rs most → slice_get rs i ≡ Some r
      → place_in rs r.number ≡ Some i
  place_hit low [] most i r h e = absurd (cc)
  place_hit low (x ∷ rs) most zero r h e =
      let is : x ≡ r = cc in
      let same : nat_eq r.number x.number ≡ true = grind (arith, nat_tests, ap (λ (y : Row A). y.number) is) in rw same refl
  place_hit low (x ∷ rs) most (suc i) r h e =
      let above = row_above x.number rs most i r h.1 e in
      let other : nat_eq r.number x.number ≡ false = grind (arith, nat_tests) in
      rw other (ap (option_map suc) (place_hit x.number rs most i r h.1 e))

  pub place_at : (rs : List (Row A)) (n i : ℕ) → place_in rs n ≡ Some i → IsAt rs n i
  place_at [] n i e = absurd (cc)
  place_at (x ∷ rs) n i e = at_head (nat_eq n x.number) refl (place_at rs n)
    where
      later : (o : Option ℕ) → ((j : ℕ) → o ≡ Some j → IsAt rs n j) → option_map suc o ≡ Some i → IsAt (x ∷ rs) n i
      later None rest g = absurd (cc)
      later (Some j) rest g =
          let at = rest j refl in
          let is : suc j ≡ i = cc in
          subst (IsAt (x ∷ rs) n) is (record { row = at.row; here = at.here; number = at.number })

      at_head : (t : Bool) → nat_eq n x.number ≡ t → ((j : ℕ) → place_in rs n ≡ Some j → IsAt rs n j) → IsAt (x ∷ rs) n i
      at_head true g rest =
          let is : 0 ≡ i = cc (rw g at e) in
          subst (IsAt (x ∷ rs) n) is (record { row = x; here = refl; number = grind (arith, nat_tests) })
      at_head false g rest = later (place_in rs n) rest (rw g at e)

  get_within : (rs : List (Row A)) (i : ℕ) (r : Row A) → slice_get rs i ≡ Some r → i < length rs
  get_within [] i r e = absurd (cc)
  get_within (x ∷ rs) zero r e = omega arith
  get_within (x ∷ rs) (suc i) r e = let rest = get_within rs i r e in omega arith

  pub place_within : (rs : List (Row A)) (n i : ℕ) → place_in rs n ≡ Some i → i < length rs
  place_within rs n i e = let at = place_at rs n i e in get_within rs i at.row at.here

  pub place_of_at : (low : ℕ) (rs : List (Row A)) (most n i : ℕ) → RowsRise low rs most → IsAt rs n i → place_in rs n ≡ Some i
  place_of_at low rs most n i h at = subst (λ m. place_in rs m ≡ Some i) at.number (place_hit low rs most i at.row h at.here)

  pub at_here : (rs : List (Row A)) (n i : ℕ) (r : Row A) → i < length rs → r ≡ get_or rs i r → r.number ≡ n → IsAt rs n i
  at_here rs n i r l is e = record { row = r; here = row_at rs i r l is; number = e }

  -- a number stands behind the rows with smaller ones, and before those with greater ones
  pub after_it : (low : ℕ) (rs : List (Row A)) (most n m i : ℕ) (r : Row A) → RowsRise low rs most → m < length rs → r ≡ get_or rs m r
      → r.number < n → place_in rs n ≡ Some i → m < i
  after_it low rs most n m i r h l is less e =
      let at = place_at rs n i e in
      in_order low rs most m i r at.row h (row_at rs m r l is) at.here (omega (arith, less, at.number))

  pub before_it : (low : ℕ) (rs : List (Row A)) (most n m i : ℕ) (r : Row A) → RowsRise low rs most → m < length rs → r ≡ get_or rs m r
      → n < r.number → place_in rs n ≡ Some i → i < m
  before_it low rs most n m i r h l is more e =
      let at = place_at rs n i e in
      in_order low rs most i m at.row r h at.here (row_at rs m r l is) (omega (arith, more, at.number))

  -- nothing is found below the first number, or where no row has it
  pub thing_below : (low : ℕ) (rs : List (Row A)) (most n : ℕ) → RowsRise low rs most → n ≤ low → thing (things_in rs) n ≡ None
  thing_below low [] most n h l = refl
  thing_below low (x ∷ rs) most n h l = by_value x.value (thing_below x.number rs most n h.1 (omega (arith, h.0)))
    where
      by_value : (o : Option A) → thing (things_in rs) n ≡ None → thing (with_row x.number o (things_in rs)) n ≡ None
      by_value None rest = rest
      by_value (Some a) rest = let other : nat_eq n x.number ≡ false = grind (arith, nat_tests, h.0) in rw other rest

  pub thing_miss : (rs : List (Row A)) (n : ℕ) → place_in rs n ≡ None → thing (things_in rs) n ≡ None
  thing_miss [] n e = refl
  thing_miss (x ∷ rs) n e = at_head (nat_eq n x.number) refl (thing_miss rs n)
    where
      later : (o : Option ℕ) → option_map suc o ≡ None → o ≡ None
      later None g = refl
      later (Some j) g = absurd (cc)

      by_value : (o : Option A) → nat_eq n x.number ≡ false → thing (things_in rs) n ≡ None → thing (with_row x.number o (things_in rs)) n ≡ None
      by_value None g rest = rest
      by_value (Some a) g rest = rw g rest

      at_head : (t : Bool) → nat_eq n x.number ≡ t → (place_in rs n ≡ None → thing (things_in rs) n ≡ None) → thing (things_in (x ∷ rs)) n ≡ None
      at_head true g rest = absurd (cc (rw g at e))
      at_head false g rest = by_value x.value g (rest (later (place_in rs n) (rw g at e)))

  -- the row with a number tells its thing
  pub thing_hit : (low : ℕ) (rs : List (Row A)) (most i : ℕ) (r : Row A) → RowsRise low rs most → slice_get rs i ≡ Some r
      → thing (things_in rs) r.number ≡ r.value
  thing_hit low [] most i r h e = absurd (cc)
  thing_hit low (x ∷ rs) most zero r h e =
      let is : x ≡ r = cc in
      subst (λ (y : Row A). thing (things_in (x ∷ rs)) y.number ≡ y.value) is (by_value x.value refl)
    where
      by_value : (o : Option A) → x.value ≡ o → thing (with_row x.number x.value (things_in rs)) x.number ≡ x.value
      by_value None f = rw f (thing_below x.number rs most x.number h.1 (omega arith))
      by_value (Some a) f = let same : nat_eq x.number x.number ≡ true = grind (arith, nat_tests) in rw (f, same) refl
  thing_hit low (x ∷ rs) most (suc i) r h e = by_value x.value (thing_hit x.number rs most i r h.1 e)
    where
      above : x.number < r.number
      above = row_above x.number rs most i r h.1 e

      by_value : (o : Option A) → thing (things_in rs) r.number ≡ r.value → thing (with_row x.number o (things_in rs)) r.number ≡ r.value
      by_value None rest = rest
      by_value (Some a) rest = let other : nat_eq r.number x.number ≡ false = grind (arith, nat_tests, above) in rw other rest

  pub record IsFound (rs : List (Row A)) (n i : ℕ) (r : Row A) : Type 0 where
    pub here : slice_get rs i ≡ Some r
    pub number : r.number ≡ n
    pub value : thing (things_in rs) n ≡ r.value

  pub found : (low : ℕ) (rs : List (Row A)) (most n i : ℕ) (r : Row A) → RowsRise low rs most → place_in rs n ≡ Some i → r ≡ get_or rs i r
      → IsFound rs n i r
  found low rs most n i r h e is =
      let at = place_at rs n i e in
      let here = row_at rs i r (get_within rs i at.row at.here) is in
      let same : r ≡ at.row = the_row r at.row here at.here in
      let number = ap (λ (y : Row A). y.number) same ∙ at.number in
      record { here = here; number = number; value = subst (λ m. thing (things_in rs) m ≡ r.value) number (thing_hit low rs most i r h here) }
    where
      the_row : (p q : Row A) → slice_get rs i ≡ Some p → slice_get rs i ≡ Some q → p ≡ q
      the_row p q f g = cc

  pub place_there : (rs : List (Row A)) (n : ℕ) → IsSome (thing (things_in rs) n) → (i : ℕ) × (place_in rs n ≡ Some i)
  place_there rs n there = by_case (place_in rs n) refl
    where
      by_case : (o : Option ℕ) → place_in rs n ≡ o → (i : ℕ) × (place_in rs n ≡ Some i)
      by_case None e = let bad = rw (thing_miss rs n e) at there in absurd (cc)
      by_case (Some i) e = (i, e)

  -- the numbers of the things rise too
  pub lower : (low below : ℕ) (rs : List (Row A)) (most : ℕ) → below ≤ low → RowsRise low rs most → RowsRise below rs most
  lower low below [] most l h = omega arith
  lower low below (x ∷ rs) most l h = (omega (arith, h.0), h.1)

  lower_things : (low below : ℕ) (xs : Numbered A) (most : ℕ) → below ≤ low → IsRising low xs most → IsRising below xs most
  lower_things low below [] most l h = omega arith
  lower_things low below (x ∷ xs) most l h = (omega (arith, h.0), h.1)

  pub rising_in : (low : ℕ) (rs : List (Row A)) (most : ℕ) → RowsRise low rs most → IsRising low (things_in rs) most
  rising_in low [] most h = h
  rising_in low (x ∷ rs) most h = by_value x.value (rising_in x.number rs most h.1)
    where
      by_value : (o : Option A) → IsRising x.number (things_in rs) most → IsRising low (with_row x.number o (things_in rs)) most
      by_value None rest = lower_things x.number low (things_in rs) most (omega (arith, h.0)) rest
      by_value (Some a) rest = (h.0, rest)

  -- one row more
  pub things_more : (rs : List (Row A)) (n : ℕ) (a : A) → things_in (rs ++ record { number = n; value = Some a } ∷ []) ≡ added (things_in rs) n a
  things_more [] n a = refl
  things_more (x ∷ rs) n a = by_value x.value (things_more rs n a)
    where
      by_value : (o : Option A) → things_in (rs ++ record { number = n; value = Some a } ∷ []) ≡ added (things_in rs) n a
          → with_row x.number o (things_in (rs ++ record { number = n; value = Some a } ∷ [])) ≡ added (with_row x.number o (things_in rs)) n a
      by_value None rest = rest
      by_value (Some b) rest = ap (λ xs. (x.number, b) ∷ xs) rest

  pub rise_more : (low : ℕ) (rs : List (Row A)) (most n : ℕ) (o : Option A) → RowsRise low rs most → most < n
      → RowsRise low (rs ++ record { number = n; value = o } ∷ []) n
  rise_more low [] most n o h l = (omega arith, omega arith)
  rise_more low (x ∷ rs) most n o h l = (h.0, rise_more x.number rs most n o h.1 l)

  -- the rows that aren't empty
  abbrev pub is_live : Row A → Bool
  is_live r = is_some r.value

  pub things_kept : (rs : List (Row A)) → things_in (filter is_live rs) ≡ things_in rs
  things_kept [] = refl
  things_kept (x ∷ rs) = by_value x.value refl (things_kept rs)
    where
      by_value : (o : Option A) → x.value ≡ o → things_in (filter is_live rs) ≡ things_in rs → things_in (filter is_live (x ∷ rs)) ≡ things_in (x ∷ rs)
      by_value None f rest = rw f rest
      by_value (Some a) f rest = rw f (ap (λ xs. (x.number, a) ∷ xs) rest)

  pub rise_to : (low : ℕ) (rs : List (Row A)) (most more : ℕ) → most ≤ more → RowsRise low rs most → RowsRise low rs more
  rise_to low [] most more l h = omega (arith, l, h)
  rise_to low (r ∷ rs) most more l h = (h.0, rise_to r.number rs most more l h.1)

  pub rise_kept : (low : ℕ) (rs : List (Row A)) (most : ℕ) → RowsRise low rs most → RowsRise low (filter is_live rs) most
  rise_kept low [] most h = h
  rise_kept low (x ∷ rs) most h = by_test (is_live x) (rise_kept x.number rs most h.1)
    where
      by_test : (t : Bool) → RowsRise x.number (filter is_live rs) most → RowsRise low (cond t (x ∷ filter is_live rs) (filter is_live rs)) most
      by_test true rest = (h.0, rest)
      by_test false rest = lower x.number low (filter is_live rs) most (omega (arith, h.0)) rest

  -- another value in a row
  pub rise_set : (low : ℕ) (rs : List (Row A)) (most i : ℕ) (r q : Row A) → RowsRise low rs most → slice_get rs i ≡ Some r
      → q.number ≡ r.number → RowsRise low (set rs i q) most
  rise_set low [] most i r q h e f = absurd (cc)
  rise_set low (x ∷ rs) most zero r q h e f =
      let is : x ≡ r = cc in
      let number : q.number ≡ x.number = f ∙ ap (λ (y : Row A). y.number) (sym is) in
      (omega (arith, h.0, number), subst (λ n. RowsRise n rs most) (sym number) h.1)
  rise_set low (x ∷ rs) most (suc i) r q h e f = (h.0, rise_set x.number rs most i r q h.1 e f)

  pub things_put : (low : ℕ) (rs : List (Row A)) (most i : ℕ) (r : Row A) (a b : A) → RowsRise low rs most → slice_get rs i ≡ Some r
      → r.value ≡ Some a → things_in (set rs i (record r { value = Some b })) ≡ put (things_in rs) r.number b
  things_put low [] most i r a b h e f = absurd (cc)
  things_put low (x ∷ rs) most zero r a b h e f =
      let is : r ≡ x = cc in
      let value : x.value ≡ Some a = subst (λ (y : Row A). y.value ≡ Some a) is f in
      let same : nat_eq x.number x.number ≡ true = grind (arith, nat_tests) in
      subst (λ (y : Row A). things_in (record y { value = Some b } ∷ rs) ≡ put (things_in (x ∷ rs)) y.number b) (sym is) (rw (value, same) refl)
  things_put low (x ∷ rs) most (suc i) r a b h e f = by_value x.value (things_put x.number rs most i r a b h.1 e f)
    where
      above : x.number < r.number
      above = row_above x.number rs most i r h.1 e

      by_value : (o : Option A) → things_in (set rs i (record r { value = Some b })) ≡ put (things_in rs) r.number b
          → with_row x.number o (things_in (set rs i (record r { value = Some b }))) ≡ put (with_row x.number o (things_in rs)) r.number b
      by_value None rest = rest
      by_value (Some v) rest = let other : nat_eq r.number x.number ≡ false = grind (arith, nat_tests, above) in rw other (ap (λ xs. (x.number, v) ∷ xs) rest)

  pub things_less : (low : ℕ) (rs : List (Row A)) (most i : ℕ) (r : Row A) (a : A) → RowsRise low rs most → slice_get rs i ≡ Some r
      → r.value ≡ Some a → things_in (set rs i (record r { value = None })) ≡ removed (things_in rs) r.number
  things_less low [] most i r a h e f = absurd (cc)
  things_less low (x ∷ rs) most zero r a h e f =
      let is : r ≡ x = cc in
      let value : x.value ≡ Some a = subst (λ (y : Row A). y.value ≡ Some a) is f in
      let same : nat_eq x.number x.number ≡ true = grind (arith, nat_tests) in
      subst (λ (y : Row A). things_in (record y { value = None } ∷ rs) ≡ removed (things_in (x ∷ rs)) y.number) (sym is) (rw (value, same) refl)
  things_less low (x ∷ rs) most (suc i) r a h e f = by_value x.value (things_less x.number rs most i r a h.1 e f)
    where
      above : x.number < r.number
      above = row_above x.number rs most i r h.1 e

      by_value : (o : Option A) → things_in (set rs i (record r { value = None })) ≡ removed (things_in rs) r.number
          → with_row x.number o (things_in (set rs i (record r { value = None }))) ≡ removed (with_row x.number o (things_in rs)) r.number
      by_value None rest = rest
      by_value (Some v) rest = let other : nat_eq r.number x.number ≡ false = grind (arith, nat_tests, above) in rw other (ap (λ xs. (x.number, v) ∷ xs) rest)

  pub put_found : (low : ℕ) (rs : List (Row A)) (most n i : ℕ) (r : Row A) (a b : A) → RowsRise low rs most → IsFound rs n i r
      → r.value ≡ Some a → things_in (set rs i (record r { value = Some b })) ≡ put (things_in rs) n b
  put_found low rs most n i r a b h f e =
      subst (λ m. things_in (set rs i (record r { value = Some b })) ≡ put (things_in rs) m b) f.number (things_put low rs most i r a b h f.here e)

  pub less_found : (low : ℕ) (rs : List (Row A)) (most n i : ℕ) (r : Row A) (a : A) → RowsRise low rs most → IsFound rs n i r
      → r.value ≡ Some a → things_in (set rs i (record r { value = None })) ≡ removed (things_in rs) n
  less_found low rs most n i r a h f e =
      subst (λ m. things_in (set rs i (record r { value = None })) ≡ removed (things_in rs) m) f.number (things_less low rs most i r a h f.here e)

  -- the next number: read from a place on, and after the place of a number
  rest_at : (rs : List (Row A)) (i : ℕ) (r : Row A) → slice_get rs i ≡ Some r → drop i rs ≡ r ∷ drop (suc i) rs
  rest_at [] i r e = absurd (cc)
  rest_at (x ∷ rs) zero r e = let is : x ≡ r = cc in ap (λ y. y ∷ rs) is
  rest_at (x ∷ rs) (suc i) r e = rest_at rs i r e

  pub above_here : (rs : List (Row A)) (i : ℕ) (r : Row A) (n : ℕ) (a : A) → slice_get rs i ≡ Some r → r.value ≡ Some a → n < r.number
      → next_above (things_in (drop i rs)) n ≡ Some r.number
  above_here rs i r n a e f l =
      let more : nat_lt n r.number ≡ true = grind (arith, nat_tests) in
      rw (rest_at rs i r e, f, more) refl

  passed : (r : Row A) (xs : Numbered A) (n : ℕ) (o : Option A) → (is_some o ≡ true → r.number ≤ n)
      → next_above (with_row r.number o xs) n ≡ next_above xs n
  passed r xs n None f = refl
  passed r xs n (Some a) f =
      let few : r.number ≤ n = f refl in
      let less : nat_lt n r.number ≡ false = grind (arith, nat_tests, few) in rw less refl

  pub above_next : (rs : List (Row A)) (i j : ℕ) (r : Row A) (n : ℕ) → j ≡ suc i → slice_get rs i ≡ Some r → (is_some r.value ≡ true → r.number ≤ n)
      → next_above (things_in (drop j rs)) n ≡ next_above (things_in (drop i rs)) n
  above_next rs i j r n next e f =
      rw (next, rest_at rs i r e) (sym (passed r (things_in (drop (suc i) rs)) n r.value f))

  pub above_after : (low : ℕ) (rs : List (Row A)) (most i j : ℕ) (r : Row A) → j ≡ suc i → RowsRise low rs most → slice_get rs i ≡ Some r
      → next_above (things_in (drop j rs)) r.number ≡ next_above (things_in rs) r.number
  above_after low [] most i j r next h e = absurd (cc)
  above_after low (x ∷ rs) most zero j r next h e =
      let is : x ≡ r = cc in
      rw next (sym (passed x (things_in rs) r.number x.value (λ _. omega (arith, ap (λ (y : Row A). y.number) is))))
  above_after low (x ∷ rs) most (suc i) j r next h e =
      let above = row_above x.number rs most i r h.1 e in
      let rest = above_after x.number rs most i (suc i) r refl h.1 e in
      rw next (rest ∙ sym (passed x (things_in rs) r.number x.value (λ _. omega (arith, above))))

  pub after_found : (low : ℕ) (rs : List (Row A)) (most n i j : ℕ) → j ≡ suc i → RowsRise low rs most → place_in rs n ≡ Some i
      → next_above (things_in (drop j rs)) n ≡ next_above (things_in rs) n
  after_found low rs most n i j next h e =
      let at = place_at rs n i e in
      subst (λ m. next_above (things_in (drop j rs)) m ≡ next_above (things_in rs) m) at.number (above_after low rs most i j at.row next h at.here)
