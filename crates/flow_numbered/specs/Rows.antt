-- Rows of numbers that rise, some of them empty.
use Rattle.std.specs.Prelude.{◌≡◌, ℕ, zero, suc, ◌<◌, ◌≤◌, nat_eq, slice_get, List, [], ◌∷◌, if◌then◌else◌}
use Rattle.std.specs.Option.{option_map}
use Rattle.std.specs.declared.option.Option.{Option}
use Rattle.std.specs.declared.option.Option.TheVariants.{None, Some}
use Rattle.flow_numbered.specs.declared.rows.Row.{Row}
use Rattle.flow_numbered.specs.Numbered.{Numbered}

module _ {A : Type 0} where
  -- the things of the rows that aren't empty
  abbrev pub with_row : ℕ → Option A → Numbered A → Numbered A
  with_row n None xs = xs
  with_row n (Some a) xs = (n, a) ∷ xs

  abbrev pub things_in : List (Row A) → Numbered A
  things_in [] = []
  things_in (r ∷ rs) = with_row r.number r.value (things_in rs)

  -- the place, from 0, of the first row with a number
  abbrev pub place_in : List (Row A) → ℕ → Option ℕ
  place_in [] n = None
  place_in (r ∷ rs) n = if nat_eq n r.number then Some 0 else option_map suc (place_in rs n)

  -- the numbers rise, each above the first bound and at most the second
  abbrev pub RowsRise : (above : ℕ) → List (Row A) → (most : ℕ) → Type 0
  RowsRise above [] most = above ≤ most
  RowsRise above (r ∷ rs) most = (above < r.number) × RowsRise r.number rs most

  abbrev pub Rise : List (Row A) → Type 0
  Rise rs = (most : ℕ) × RowsRise 0 rs most

  -- the row at a place has a number
  pub record IsAt (rs : List (Row A)) (n i : ℕ) : Type 0 where
    pub row : Row A
    pub here : slice_get rs i ≡ Some row
    pub number : row.number ≡ n
