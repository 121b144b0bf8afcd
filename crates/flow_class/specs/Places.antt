-- The names of places in class text: that of a slot is `s` and its number, that of a local `l` and its number.
use Rattle.std.specs.Prelude.{ℕ, ◌^◌, nat_lt, Bool, true, false, ◌&&◌, not, ◌==◌, List, [], ◌∷◌, decimal, if◌then◌else◌}
use Rattle.std.specs.Option.{option_map}
use Rattle.std.specs.declared.option.Option.{Option}
use Rattle.std.specs.declared.option.Option.TheVariants.{None, Some}
use Rattle.flow_base.specs.Names.{are_digits, digits_from}
use Rattle.flow_class.specs.declared.class.Slotted.{Slotted}
use Rattle.flow_class.specs.declared.class.Slotted.TheVariants.{Slot, Local}

-- the name of a place
abbrev pub place_name : Slotted → List ℕ
place_name (Slot n) = 115 ∷ decimal n
place_name (Local n) = 108 ∷ decimal n

-- a number is one or more digits with no zero in front
abbrev pub is_number : List ℕ → Bool
is_number [] = false
is_number (d ∷ []) = are_digits (d ∷ [])
is_number (d ∷ e ∷ ds) = not (d == 48) && are_digits (d ∷ e ∷ ds)

abbrev pub number_of : List ℕ → Option ℕ
number_of ds = if is_number ds then Some (digits_from 0 ds) else None

-- the place of a name, if it is one
abbrev pub place_named : List ℕ → Option Slotted
place_named [] = None
place_named (c ∷ ds) =
    if c == 115 then option_map Slot (number_of ds) else if c == 108 then option_map Local (number_of ds) else None

-- a number below 2^32, and a place with such a number
abbrev pub small : Option ℕ → Option ℕ
small None = None
small (Some n) = if nat_lt n (2 ^ 32) then Some n else None

abbrev pub small_place : Option Slotted → Option Slotted
small_place None = None
small_place (Some (Slot n)) = option_map Slot (small (Some n))
small_place (Some (Local n)) = option_map Local (small (Some n))
