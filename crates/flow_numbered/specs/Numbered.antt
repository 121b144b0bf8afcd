-- Things by number, in the order in which they were numbered.
use Rattle.std.specs.Prelude.{ℕ, ◌<◌, ◌≤◌, nat_eq, nat_lt, List, [], ◌∷◌, ◌++◌, if◌then◌else◌, refl}
use Rattle.std.specs.Coded.{Coded, code_by, coded×, coded_ℕ, coded_list}
use Rattle.std.specs.declared.option.Option.{Option}
use Rattle.std.specs.declared.option.Option.TheVariants.{None, Some}

abbrev pub Numbered : Type 0 → Type 0
Numbered A = List (ℕ × A)

-- the thing with a number, where there is one
abbrev pub thing : {A : Type 0} → Numbered A → ℕ → Option A
thing [] n = None
thing (x ∷ xs) n = if nat_eq n x.0 then Some x.1 else thing xs n

-- one more thing, the newest
abbrev pub added : {A : Type 0} → Numbered A → ℕ → A → Numbered A
added xs n a = xs ++ (n, a) ∷ []

-- the thing with a number replaced
abbrev pub put : {A : Type 0} → Numbered A → ℕ → A → Numbered A
put [] n a = []
put (x ∷ xs) n a = if nat_eq n x.0 then (x.0, a) ∷ xs else x ∷ put xs n a

-- the thing with a number gone
abbrev pub removed : {A : Type 0} → Numbered A → ℕ → Numbered A
removed [] n = []
removed (x ∷ xs) n = if nat_eq n x.0 then xs else x ∷ removed xs n

-- the least number above this one that a thing has
abbrev pub next_above : {A : Type 0} → Numbered A → ℕ → Option ℕ
next_above [] n = None
next_above (x ∷ xs) n = if nat_lt n x.0 then Some x.0 else next_above xs n

-- the numbers rise, each above the first bound and at most the second
abbrev pub IsRising : {A : Type 0} → (above : ℕ) → Numbered A → (most : ℕ) → Type 0
IsRising above [] most = above ≤ most
IsRising above (x ∷ xs) most = (above < x.0) × IsRising x.0 xs most

-- things by number, and the greatest number that one ever had, 0 at first
pub record Store (A : Type 0) : Type 0 where
  pub things : Numbered A
  pub greatest : ℕ

abbrev pub store_code : {A : Type 0} → Coded A → Coded (Store A)
store_code {A} code =
    code_by
    (List (ℕ × A) × ℕ)
    (coded× (coded_list (coded× coded_ℕ code)) coded_ℕ)
    (λ s. (s.things, s.greatest))
    (λ p. record { things = p.0; greatest = p.1 })
    (λ _. refl)

-- the store with another thing at a number
abbrev pub with_thing : {A : Type 0} → Store A → ℕ → A → Store A
with_thing s n a = record s { things = put s.things n a }
