-- Which tokens may stand behind a part that could go on.
use Rattle.std.specs.Prelude.{◌≡◌, List, [], ◌∷◌}
use Rattle.flow_tree.specs.declared.token.Token.{Token}
use Rattle.flow_tree.specs.GrammarToken.{Marked}
use Rattle.flow_exprs.specs.declared.kind.Kind.{Kind}
use Rattle.flow_exprs.specs.declared.kind.Kind.TheVariants as kind
use Rattle.flow_exprs.specs.Kinds.{kind_of}

-- no expression goes on with a token of this kind
abbrev pub EndsExpr : Kind → Type 0
EndsExpr kind.Close = Unit {0}
EndsExpr kind.CloseSquare = Unit {0}
EndsExpr kind.Comma = Unit {0}
EndsExpr kind.Other = Unit {0}
EndsExpr _ = ⊥

abbrev pub ExprEnds : {A : Type 0} → A → List Marked → Type 0
ExprEnds a [] = Unit {0}
ExprEnds a (x ∷ z) = EndsExpr (kind_of x.spot.token)

-- the next token is this one
abbrev pub Before : Token → {A : Type 0} → A → List Marked → Type 0
Before x a [] = ⊥
Before x a (y ∷ z) = y.spot.token ≡ x

-- the next token isn't this one
abbrev pub NotBefore : Token → {A : Type 0} → A → List Marked → Type 0
NotBefore x a [] = Unit {0}
NotBefore x a (y ∷ z) = y.spot.token ≡ x → ⊥

abbrev pub AtEnd : {A : Type 0} → A → List Marked → Type 0
AtEnd a z = z ≡ []
