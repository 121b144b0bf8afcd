-- Variables of an expression that name a place with too great a number, as its tokens show them.
use Rattle.std.specs.Prelude.{◌≡◌, ℕ, suc, ◌<◌, ◌≤◌, Bool, true, false, ◌&&◌, ◌||◌, ◌==◌, List, [], ◌∷◌, length, is_none, Result, Ok, Err}
use Rattle.std.specs.declared.option.Option.{Option}
use Rattle.std.specs.declared.option.Option.TheVariants.{None, Some}
use Rattle.flow_base.specs.declared.place.Place.{Place}
use Rattle.flow_tree.specs.declared.expr.Expr.{Expr}
use Rattle.flow_tree.specs.declared.fault.SourceFault.{SourceFault}
use Rattle.flow_tree.specs.declared.fault.SourceFault.TheVariants.{Refused, AcrossWait, OutOfMemory}
use Rattle.flow_tree.specs.declared.token.Token.{Token}
use Rattle.flow_tree.specs.declared.token.Token.TheVariants as token
use Rattle.flow_tree.specs.declared.token.Sign.TheVariants as sign
use Rattle.flow_tree.specs.declared.token.Spot.{Spot}
use Rattle.flow_tree.specs.declared.token.Tokens.{Tokens}
use Rattle.flow_tree.specs.GrammarAnswer.{place_at}
use Rattle.flow_class.specs.Places.{is_number}
use Rattle.flow_parse.specs.Reading.{token_at}
use Rattle.flow_classread.specs.Tokens.{place_in}

-- the name of a slot or a local, whatever its number
abbrev pub names_place : List ℕ → Bool
names_place [] = false
names_place (c ∷ ds) = (c == 115 || c == 108) && is_number ds

abbrev pub names_place_token : Token → Bool
names_place_token (token.Name x) = names_place x
names_place_token _ = false

abbrev pub place_is_named : Option Token → Bool
place_is_named None = false
place_is_named (Some t) = names_place_token t

-- a place with a number from 2^32 on is named here
abbrev pub is_far : Option Token → Bool
is_far o = place_is_named o && is_none (place_in o)

-- a token that names such a place, with no bracket behind it
pub record IsLone (spots : List Spot) (k : ℕ) : Type 0 where
  pub far : is_far (token_at spots k) ≡ true
  pub alone : token_at spots (suc k) ≡ Some (token.Sign sign.OpenRound) → ⊥

-- that would be a variable of an expression that begins at a token: no dot stands before it
pub record IsStray (spots : List Spot) (from k : ℕ) : Type 0 where
  pub lone : IsLone spots k
  pub undotted : (j : ℕ) → from ≤ j → k ≡ suc j → token_at spots j ≡ Some (token.Sign sign.Dot) → ⊥

-- none of the tokens from one to another is so
abbrev pub NoStrays : List Spot → (from to : ℕ) → Type 0
NoStrays spots from to = (k : ℕ) → from ≤ k → k < to → IsStray spots from k → ⊥

-- The first one from a token on, of those that stand before this many bytes, if there is one.
abbrev pub IsFirstStray : Tokens → (from until : ℕ) → Option ℕ → Type 0
IsFirstStray t from until None = (k : ℕ) → from ≤ k → (place_at t k).byte < until → IsStray t.spots.items from k → ⊥
IsFirstStray t from until (Some k) =
    (from ≤ k) × (k < length t.spots.items) × ((place_at t k).byte < until) × IsStray t.spots.items from k × NoStrays t.spots.items from k

-- where a reader came to an end or failed
abbrev pub Reaches : Tokens → Result (Expr × ℕ) SourceFault → Option Place → Type 0
Reaches t (Ok x) o = o ≡ Some (place_at t x.1)
Reaches t (Err (Refused rule at)) o = o ≡ Some at
Reaches t (Err (AcrossWait at declared wait)) o = o ≡ None
Reaches t (Err OutOfMemory) o = o ≡ None
