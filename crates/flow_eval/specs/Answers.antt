-- What an operator, a call or a method makes of values, before turns are looked at.
use Rattle.std.specs.Prelude.{◌≡◌, ℕ, ℤ, pos, negsuc, ◌^◌, ◌-◌, int_le, Bool, ◌&&◌, List, [], ◌∷◌, if◌then◌else◌}
use Rattle.std.specs.declared.option.Option.{Option}
use Rattle.std.specs.declared.option.Option.TheVariants.{None, Some}
use Rattle.flow_base.specs.ErrorNumbers.{out_of_range}
use Rattle.flow_value.specs.Values.{ValueTree, IntValue, BoolValue, TextValue, VoidValue, ErrorValue}

-- a value, an error by its number, or no meaning: only what has no type comes to that
pub data Answer : Type 0 where
  Given : ValueTree → Answer
  Throws : ℕ → Answer
  NoMeaning : Answer

-- the whole numbers of 64 signed bits
abbrev pub is_int : ℤ → Bool
is_int z = int_le (negsuc (2 ^ 63 - 1)) z && int_le z (pos (2 ^ 63 - 1))

abbrev pub if_int : ℤ → ℤ → Option ℤ
if_int test z = if is_int test then Some z else None

-- a whole number, or the error of one that is out of range
abbrev pub whole : Option ℤ → Answer
whole None = Throws out_of_range
whole (Some z) = Given (IntValue z)

abbrev pub truth : Option Bool → Answer
truth None = NoMeaning
truth (Some b) = Given (BoolValue b)

-- a value by its kind
abbrev pub int_of : ValueTree → Option ℤ
int_of (IntValue z) = Some z
int_of _ = None

abbrev pub bool_of : ValueTree → Option Bool
bool_of (BoolValue b) = Some b
bool_of _ = None

abbrev pub text_of : ValueTree → Option (List ℕ)
text_of (TextValue t) = Some t
text_of _ = None

abbrev pub error_of : ValueTree → Option ℕ
error_of (ErrorValue e) = Some e
error_of _ = None

-- the argument at a place, from 0
abbrev pub arg : List ValueTree → ℕ → ValueTree
arg vs k = Rattle.std.specs.Prelude.slice_index_or vs k VoidValue
