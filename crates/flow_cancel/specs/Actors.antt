-- The notes of actors in memory: the map tells the actor of each result.
use Rattle.std.specs.Prelude.{◌≡◌, ℕ, nat_eq, if◌then◌else◌}
use Rattle.std.specs.declared.option.Option.{Option}
use Rattle.std.specs.declared.option.Option.TheVariants.{None, Some}
use Rattle.flow_numbered.specs.Numbered.{Numbered, thing}
use Rattle.flow_cancel.specs.declared.actors.Note.{Note}
use Rattle.flow_base.specs.declared.ids.CellId.{CellId}

pub record IsTold (owners : ℕ → Option ℕ) (notes : Numbered Note) : Type 0 where
  pub noted : (k i : ℕ) → owners k ≡ Some i → (n : Note) × (thing notes i ≡ Some n) × (n.result ≡ Some (record { 0 = k }))
  pub told : (i : ℕ) (n : Note) (c : CellId) → thing notes i ≡ Some n → n.result ≡ Some c → owners c.0 ≡ Some i

-- the owners with one more, or without one
abbrev pub owners_with : Option CellId → ℕ → (ℕ → Option ℕ) → ℕ → Option ℕ
owners_with None i o k = o k
owners_with (Some c) i o k = if nat_eq c.0 k then Some i else o k

abbrev pub owners_without : Option CellId → (ℕ → Option ℕ) → ℕ → Option ℕ
owners_without None o k = o k
owners_without (Some c) o k = if nat_eq c.0 k then None else o k
