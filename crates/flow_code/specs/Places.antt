-- The places of frames by their names in class text.
use Rattle.std.specs.Prelude.{ℕ, ◌+◌, ◌^◌, nat_lt, List, if◌then◌else◌}
use Rattle.std.specs.Option.{option_and_then}
use Rattle.std.specs.declared.option.Option.{Option}
use Rattle.std.specs.declared.option.Option.TheVariants.{None, Some}
use Rattle.flow_class.specs.declared.class.Slotted.{Slotted}
use Rattle.flow_class.specs.declared.class.Slotted.TheVariants.{Slot, Local}
use Rattle.flow_class.specs.Places.{place_named, small_place}

-- the number of a place in its frame: the locals come behind the slots
abbrev pub place_of : (slots : ℕ) → Slotted → Option ℕ
place_of slots (Slot n) = if nat_lt n slots then Some n else None
place_of slots (Local n) = if nat_lt (slots + n) (2 ^ 32) then Some (slots + n) else None

abbrev pub place_in : (slots : ℕ) → List ℕ → Option ℕ
place_in slots name = option_and_then (place_of slots) (small_place (place_named name))
