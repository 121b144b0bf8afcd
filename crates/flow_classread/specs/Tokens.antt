-- What single tokens of class text are.
use Rattle.std.specs.Prelude.{ℕ, ℤ, pos, List}
use Rattle.std.specs.declared.option.Option.{Option}
use Rattle.std.specs.declared.option.Option.TheVariants.{None, Some}
use Rattle.flow_tree.specs.declared.token.Token.{Token}
use Rattle.flow_tree.specs.declared.token.Token.TheVariants as token
use Rattle.flow_tree.specs.declared.token.Spot.{Spot}
use Rattle.flow_tree.specs.declared.ty.Ident.{Ident}
use Rattle.flow_exprs.specs.Answer.{ident_at}
use Rattle.flow_parse.specs.Reading.{token_at}
use Rattle.flow_class.specs.declared.class.Slotted.{Slotted}
use Rattle.flow_class.specs.declared.class.Slotted.TheVariants.{Local}
use Rattle.flow_class.specs.Places.{place_named, small_place, small}

-- a number below 2^32
abbrev pub small_int : ℤ → Option ℕ
small_int (pos n) = small (Some n)
small_int _ = None

abbrev pub number_of_token : Token → Option ℕ
number_of_token (token.Number n) = small_int n
number_of_token _ = None

abbrev pub number_in : Option Token → Option ℕ
number_in None = None
number_in (Some t) = number_of_token t

-- a slot or a local with such a number
abbrev pub place_of_token : Token → Option Slotted
place_of_token (token.Name x) = small_place (place_named x)
place_of_token _ = None

abbrev pub place_in : Option Token → Option Slotted
place_in None = None
place_in (Some t) = place_of_token t

abbrev pub local_number : Option Slotted → Option ℕ
local_number (Some (Local n)) = Some n
local_number _ = None

-- a local with such a number
abbrev pub local_in : Option Token → Option ℕ
local_in o = local_number (place_in o)

-- the name that stands here, where it is one of such a place
abbrev pub if_there : Option Slotted → Option Ident → Option Ident
if_there None x = None
if_there (Some p) x = x

abbrev pub place_ident_at : List Spot → ℕ → Option Ident
place_ident_at spots k = if_there (place_in (token_at spots k)) (ident_at spots k)
