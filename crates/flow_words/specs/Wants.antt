-- Numbers among the words, and the list of the monitors that are wanted.
use Rattle.std.specs.Prelude.{ℕ, ◌+◌, ◌-◌, ◌^◌, ◌==◌, ◌&&◌, nat_le, List, [], ◌∷◌, length, take, drop, option_map, option_and_then, if◌then◌else◌}
use Rattle.std.specs.List.{slice_split, position}
use Rattle.std.specs.Str.Parse.{digits_value}
use Rattle.std.specs.declared.option.Option.{Option}
use Rattle.std.specs.declared.option.Option.TheVariants.{None, Some}
use Rattle.flow_base.specs.Names.{is_name_text}
use Rattle.flow_worldfile.specs.Lines.{is_number}
use Rattle.flow_monitor.specs.declared.attach.Want.{Want}

-- the number of 1 to 20 digits from the least to the most that a word is
abbrev pub number_within : (least most : ℕ) → (word : List ℕ) → Option ℕ
number_within least most word =
    if is_number word && (nat_le least (digits_value 10 word) && nat_le (digits_value 10 word) most)
    then Some (digits_value 10 word) else None

-- a number below 2^64
abbrev pub number_of : (word : List ℕ) → Option ℕ
number_of = number_within 0 (2 ^ 64 - 1)

-- how many events, in 1 to 7 digits
abbrev pub events_of : (word : List ℕ) → Option ℕ
events_of word = if nat_le (length word) 7 then number_within 0 1000000 word else None

-- a monitor that is wanted with a limit, if its name has the form of names and there is a limit
abbrev pub named : (name : List ℕ) → Option ℕ → Option Want
named name None = None
named name (Some limit) =
    if is_name_text name && nat_le (length name) 255 then Some (record { name = name; limit = limit }) else None

-- the parts of a text before and behind the first place of a byte
abbrev pub cut_at : (byte : ℕ) → (text : List ℕ) → Option (List ℕ × List ℕ)
cut_at byte text = option_map (λ place. (take place text, drop (place + 1) text)) (position (λ b. b == byte) text)

-- `name=n`: the name stands before the first `=`, and its limit behind it
abbrev pub want_of : (item : List ℕ) → Option Want
want_of item = option_and_then (λ parts. named parts.0 (number_of parts.1)) (cut_at 61 item)

abbrev pub joined : Option Want → Option (List Want) → Option (List Want)
joined None more = None
joined (Some want) None = None
joined (Some want) (Some more) = Some (want ∷ more)

abbrev pub each_want : (items : List (List ℕ)) → Option (List Want)
each_want [] = Some []
each_want (item ∷ items) = joined (want_of item) (each_want items)

-- `name=n` items with commas between them
abbrev pub wants_of : (list : List ℕ) → Option (List Want)
wants_of list = each_want (slice_split (λ b. b == 44) list)

-- the one monitor of a list of one
abbrev pub sole : List Want → Option Want
sole [] = None
sole (want ∷ []) = Some want
sole (want ∷ second ∷ more) = None

-- no monitor is wanted where there is no list
abbrev pub listed : Option (List ℕ) → Option (List Want)
listed None = Some []
listed (Some list) = wants_of list
