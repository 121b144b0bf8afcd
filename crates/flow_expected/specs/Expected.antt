-- What could stand at a place of a text.
use Rattle.std.specs.Prelude.{◌≡◌, ℕ, ◌<◌, Bool, true, false, List, [], ◌∷◌, ◌++◌, take, slice_get, Some, codes, pos}
use Rattle.flow_tree.specs.declared.token.Token.{Token}
use Rattle.flow_tree.specs.declared.token.Token.TheVariants as token
use Rattle.flow_tree.specs.declared.token.Tokens.{Tokens}
use Rattle.flow_tree.specs.GrammarToken.{Good}
use Rattle.flow_tree.specs.GrammarDecl.{ProgramRule}
use Rattle.flow_tree.specs.GrammarAnswer.{place_at}
use Rattle.flow_parse.specs.ParseAnswer.{GoodTo}
use Rattle.flow_expected.specs.declared.kind.Kind.{Kind}
use Rattle.flow_expected.specs.declared.kind.Kind.TheVariants.{Name, Number, Text, Word, Sign}

-- a token of a kind, as it may be spelled
abbrev pub spelled : Kind → Token
spelled Name = token.Name (codes "x")
spelled Number = token.Number (pos 0)
spelled Text = token.Text []
spelled (Word w) = token.Word w
spelled (Sign s) = token.Sign s

-- some program begins with the tokens before this number and one of this kind behind them, whatever limits it keeps
abbrev pub CouldStand : Tokens → ℕ → Kind → Type 0
CouldStand t k kind = Good (ProgramRule t.end) 2 (take k t.spots.items ++ record { token = spelled kind; at = place_at t k } ∷ [])

-- no token before the one of this number is refused
abbrev pub IsReached : Tokens → ℕ → Type 0
IsReached t k = (j : ℕ) → j < k → GoodTo t 7 j

-- each kind is among these
abbrev pub AreAll : List Kind → Type 0
AreAll kinds = (k : Kind) → (i : ℕ) × (slice_get kinds i ≡ Some k)

-- an answer says whether something holds
abbrev pub Decides : Bool → Type 0 → Type 0
Decides true P = P
Decides false P = P → ⊥

-- of some things, in their order, those of which something holds, and no others
pub data Picks {A : Type 0} (P : A → Type 0) : List A → List A → Type 0 where
  none : Picks P [] []
  picked : {x : A} {xs ys : List A} → P x → Picks P xs ys → Picks P (xs ++ x ∷ []) (ys ++ x ∷ [])
  passed : {x : A} {xs ys : List A} → (P x → ⊥) → Picks P xs ys → Picks P (xs ++ x ∷ []) ys
