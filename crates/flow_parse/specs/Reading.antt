-- What a reader of a part of a program answers. A part is a relation between the tokens that it
-- consists of, each with what begins at it, and what they mean.
use Rattle.std.specs.Prelude.{◌≡◌, ℕ, ◌≤◌, List, [], ◌∷◌, ◌++◌, ◌-◌, drop, length, slice_get, Result, Ok, Err}
use Rattle.std.specs.Option.{option_map}
use Rattle.std.specs.declared.option.Option.{Option}
use Rattle.flow_tree.specs.declared.limits.Limits.{Limits}
use Rattle.flow_base.specs.declared.place.Place.{Place}
use Rattle.flow_tree.specs.declared.token.Token.{Token}
use Rattle.flow_tree.specs.declared.token.Spot.{Spot}
use Rattle.flow_tree.specs.declared.token.Tokens.{Tokens}
use Rattle.flow_tree.specs.declared.ty.Ident.{Ident}
use Rattle.flow_tree.specs.declared.fault.SourceFault.{SourceFault}
use Rattle.flow_tree.specs.GrammarToken.{Part, Marked, opens, spots_of, KeepsOf}
use Rattle.flow_tree.specs.Grammar.{name_at}
use Rattle.flow_parse.specs.Failing.{Only, Fails}

abbrev pub token_at : List Spot → ℕ → Option Token
token_at spots k = option_map (λ s. s.token) (slice_get spots k)

-- one token, with which these parts begin; it means its place
abbrev pub Opening : List Part → Token → List Marked → Place → Type 0
Opening ps x w p = w ≡ opens ps x p ∷ []

abbrev pub Tok : Token → List Marked → Place → Type 0
Tok x w p = Opening [] x w p

abbrev pub Named : List Marked → Ident → Type 0
Named w x = w ≡ name_at x ∷ []

-- one part and then another, which may depend on the first
pub record Then {A B : Type 0} (R : List Marked → A → Type 0) (S : A → List Marked → B → Type 0) (w : List Marked)
    (x : A × B) : Type 0 where
  pub first : List Marked
  pub rest : List Marked
  pub is : w ≡ first ++ rest
  pub front : R first x.0
  pub back : S x.0 rest x.1

-- any tokens may follow
abbrev pub Any : {A : Type 0} → A → List Marked → Type 0
Any a z = Unit {0}

-- The tokens from one number to another are this part, and it is the only one that can be read here:
-- no other begins with these tokens and the next where what follows is what may follow.
pub record Reads (limits : Limits) {A : Type 0} (R : List Marked → A → Type 0) (F : A → List Marked → Type 0)
    (spots : List Spot) (from : ℕ) (a : A) (to : ℕ) : Type 0 where
  pub after : from ≤ to
  pub within : to ≤ length spots
  pub marked : List Marked
  pub rule : R marked a
  pub is : drop from spots ≡ spots_of marked ++ drop to spots
  pub keeps : KeepsOf limits 7 marked
  pub only : Only limits R F a (to - from) (drop from spots)

-- what is read is this part; or no part is, and the refusal says why
abbrev pub Answer : Limits → {A X : Type 0} → (List Marked → A → Type 0) → (A → List Marked → Type 0) → (X → A) → (X → ℕ) → Tokens → ℕ
    → Result X SourceFault → Type 0
Answer limits R F view to t from (Ok x) = Reads limits R F t.spots.items from (view x) (to x)
Answer limits R F view to t from (Err e) = Fails limits R F t from e

-- what is answered in every kind of text: of such a part the depth alone is limited, and that is the same in all
abbrev pub AnswerAlways : {A X : Type 0} → (List Marked → A → Type 0) → (A → List Marked → Type 0) → (X → A) → (X → ℕ) → Tokens → ℕ
    → Result X SourceFault → Type 0
AnswerAlways R F view to t from r = (limits : Limits) → Answer limits R F view to t from r
