-- What stands behind a part.
use Rattle.std.proofs.Common.{◌≡◌, List, [], ◌∷◌, ◌++◌, refl, sym, ap, ◌∙◌, subst}
use Rattle.std.specs.declared.option.Option.{Option}
use Rattle.std.specs.declared.option.Option.TheVariants.{Some}
use Rattle.flow_base.specs.declared.place.Place.{Place}
use Rattle.flow_tree.specs.declared.token.Token.{Token}
use Rattle.flow_tree.specs.declared.token.Token.TheVariants as token
use Rattle.flow_tree.specs.declared.token.Sign.TheVariants as sign
use Rattle.flow_tree.specs.GrammarToken.{Marked, opens}
use Rattle.flow_exprs.specs.Kinds.{kind_of}
use Rattle.flow_parse.specs.Reading.{Tok, Then}
use Rattle.flow_parse.specs.Follow.{EndsExpr, ExprEnds, Before, NotBefore}
use Rattle.flow_parse.proofs.Looking.{Looks}
use Rattle.flow_parse.proofs.Begins.{Starts, looks_is}

-- a part begins with a token of its own
pub then_tok_looks : {B : Type 0} (x : Token) (S : Place → List Marked → B → Type 0) (o : Option Token) (w z : List Marked) (y : Place × B) → Then (Tok x) S w y → Looks o (w ++ z) → o ≡ Some x
then_tok_looks x S o w z y r l = looks_is o (opens [] x y.0) r.rest z (r.is ∙ ap (λ k. k ++ r.rest) r.front) l

-- what follows
pub starts_not : {A : Type 0} (a : A) (P : Token → Type 0) (x : Token) → (P x → ⊥) → (w z : List Marked) → Starts P w → NotBefore x a (w ++ z)
starts_not a P x f [] z h = absurd h
starts_not a P x f (y ∷ w) z h = λ e. f (subst P e h)

pub not_before_is : {A : Type 0} (a : A) (x : Token) (y : Marked) (w m z : List Marked) → w ≡ y ∷ m → (y.spot.token ≡ x → ⊥) → NotBefore x a (w ++ z)
not_before_is a x y w m z e f = subst (λ k. NotBefore x a (k ++ z)) (sym e) f

pub ends_is : {A : Type 0} (a : A) (y : Marked) (w m z : List Marked) → w ≡ y ∷ m → EndsExpr (kind_of y.spot.token) → ExprEnds a (w ++ z)
ends_is a y w m z e f = subst (λ k. ExprEnds a (k ++ z)) (sym e) f

pub before_is : {A : Type 0} (a : A) (y : Marked) (w m z : List Marked) → w ≡ y ∷ m → Before y.spot.token a (w ++ z)
before_is a y w m z e = subst (λ k. Before y.spot.token a (k ++ z)) (sym e) refl

-- an expression may stand before a semicolon
pub semicolon_ends : {A B : Type 0} (a : A) (e : B) (z : List Marked) → Before (token.Sign sign.Semicolon) a z → ExprEnds e z
semicolon_ends a e [] h = absurd h
semicolon_ends a e (y ∷ z) h = subst (λ t. EndsExpr (kind_of t)) (sym h) tt

-- what follows doesn't depend on what the part means
pub ends_same : {A B : Type 0} (a : A) (e : B) (z : List Marked) → ExprEnds a z → ExprEnds e z
ends_same a e [] h = tt
ends_same a e (y ∷ z) h = h

pub before_same : {A B : Type 0} (x : Token) (a : A) (e : B) (z : List Marked) → Before x a z → Before x e z
before_same x a e [] h = absurd h
before_same x a e (y ∷ z) h = h

pub not_before_same : {A B : Type 0} (x : Token) (a : A) (e : B) (z : List Marked) → NotBefore x a z → NotBefore x e z
not_before_same x a e [] h = tt
not_before_same x a e (y ∷ z) h = h
