-- The next token, and what it says of a part.
use Rattle.std.proofs.Common.{◌≡◌, true, false, List, [], ◌∷◌}
use Rattle.std.specs.declared.option.Option.{Option}
use Rattle.std.specs.declared.option.Option.TheVariants.{None, Some}
use Rattle.flow_tree.specs.declared.token.Token.{Token}
use Rattle.flow_tree.specs.declared.token.Spot.{Spot}
use Rattle.flow_tree.specs.GrammarToken.{Marked}

-- the next token, or the end, as a marked list has it
abbrev pub Looks : Option Token → List Marked → Type 0
Looks None [] = Unit {0}
Looks None (x ∷ m) = ⊥
Looks (Some t) [] = ⊥
Looks (Some t) (x ∷ m) = x.spot.token ≡ t

abbrev pub first_of : List Spot → Option Token
first_of [] = None
first_of (t ∷ ts) = Some t.token

-- where the next token says that a part is another one
pub record Back {B C : Type 0} (V : List Marked → B → Type 0) (FV : B → List Marked → Type 0) (U : List Marked → C → Type 0) (FU : C → List Marked → Type 0) (h : C → B) (w z : List Marked)
    (b : B) : Type 0 where
  pub tree : C
  pub rule : U w tree
  pub is : b ≡ h tree
  pub follows : FU tree z

-- what a test says that came out false
pub not_true : false ≡ true → ⊥
not_true e = cc
