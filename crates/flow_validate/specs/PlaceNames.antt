-- The names of places, in a list from the first one on.
use Rattle.std.specs.Prelude.{◌≡◌, ℕ, ◌<◌, ◌≤◌, Bool, List, length, slice_get, if◌then◌else◌}
use Rattle.std.specs.declared.option.Option.TheVariants.{Some}
use Rattle.flow_class.specs.declared.class.Slotted.{Slotted}
use Rattle.flow_class.specs.declared.class.Slotted.TheVariants.{Slot, Local}
use Rattle.flow_class.specs.Places.{place_name}
use Rattle.flow_class.specs.Classes.{ClassTree}

abbrev pub place_of : (locals : Bool) → ℕ → Slotted
place_of locals n = if locals then Local n else Slot n

abbrev pub AreNames : (locals : Bool) → List (List ℕ) → Type 0
AreNames locals names = (n : ℕ) → n < length names → slice_get names n ≡ Some (place_name (place_of locals n))

-- names enough for all places of a class, and of these classes
pub record AreEnough (slots locals : List (List ℕ)) (c : ClassTree) : Type 0 where
  pub enough_slots : length c.slots ≤ length slots
  pub enough_locals : length c.locals ≤ length locals

abbrev pub AreEnoughFor : (slots locals : List (List ℕ)) → List ClassTree → Type 0
AreEnoughFor slots locals cs = (i : ℕ) (c : ClassTree) → slice_get cs i ≡ Some c → AreEnough slots locals c
