-- Records that hold a reference, by their numbers.
use Rattle.std.specs.Prelude.{◌≡◌, ℕ, zero, suc, ◌+◌, ◌≤◌, ◌<◌, Bool, true, false, ◌||◌, List, [], ◌∷◌, slice_get, unwrap_or}
use Rattle.std.specs.List.{list_any}
use Rattle.std.specs.declared.option.Option.{Option}
use Rattle.std.specs.declared.option.Option.TheVariants.{None, Some}
use Rattle.flow_types.specs.declared.holding.Uses.{Uses}

abbrev pub marked : List Bool → ℕ → Bool
marked bs i = unwrap_or (slice_get bs i) false

-- a record holds a reference of its own, or a record that does
abbrev pub uses_hold : (ℕ → Bool) → Uses → Bool
uses_hold g u = u.direct || list_any g u.records.items

abbrev pub some_hold : (ℕ → Bool) → Option Uses → Bool
some_hold g None = false
some_hold g (Some u) = uses_hold g u

-- the record with a number, where those with these do
abbrev pub held : List Uses → (ℕ → Bool) → ℕ → Bool
held us g i = some_hold g (slice_get us i)

-- through so many records inside one another
abbrev pub level : List Uses → ℕ → ℕ → Bool
level us zero i = false
level us (suc n) i = held us (level us n) i

abbrev pub one_if : Bool → ℕ
one_if true = 1
one_if false = 0

abbrev pub trues : List Bool → ℕ
trues [] = 0
trues (b ∷ bs) = one_if b + trues bs

abbrev pub replicated : ℕ → List Bool
replicated zero = []
replicated (suc n) = false ∷ replicated n

abbrev pub set_mark : List Bool → ℕ → List Bool
set_mark [] i = []
set_mark (b ∷ bs) zero = true ∷ bs
set_mark (b ∷ bs) (suc i) = b ∷ set_mark bs i

-- what is marked holds a reference, through no more records than are marked
abbrev pub Sound : List Uses → List Bool → Type 0
Sound us bs = (i : ℕ) → marked bs i ≡ true → level us (trues bs) i ≡ true

-- what holds a reference as far as the marks say is marked, up to a number
abbrev pub Closed : List Uses → List Bool → ℕ → Type 0
Closed us bs n = (i : ℕ) → i < n → held us (marked bs) i ≡ true → marked bs i ≡ true

-- one sweep over so many records: nothing else was marked; and more are, or all is as it was and closed
pub record SweptTo (us : List Uses) (n : ℕ) (old new : List Bool) (more : Bool) : Type 0 where
  pub sound : Sound us old → Sound us new
  pub grows : trues old ≤ trues new
  pub marks_more : more ≡ true → trues old < trues new
  pub done : more ≡ false → Closed us new n

abbrev pub Swept : List Uses → List Bool → List Bool → Bool → Type 0
Swept us old new more = (n : ℕ) → SweptTo us n old new more
