-- Parts that are put together of others, and how they are read.
use Rattle.std.proofs.Common.{◌≡◌, ℕ, ◌+◌, List, [], ◌∷◌, ◌++◌, refl, sym, ap, ◌∙◌, subst}
use Rattle.std.specs.declared.option.Option.{Option}
use Rattle.std.specs.declared.option.Option.TheVariants.{Some}
use Rattle.flow_base.specs.declared.place.Place.{Place}
use Rattle.flow_tree.specs.declared.limits.TheConstants.{OF_CLASS_TEXT}
use Rattle.flow_tree.specs.declared.fault.SourceFault.{SourceFault}
use Rattle.flow_tree.specs.declared.token.Token.{Token}
use Rattle.flow_tree.specs.declared.token.Tokens.{Tokens}
use Rattle.flow_tree.specs.GrammarToken.{Marked, opens}
use Rattle.flow_exprs.proofs.Goes.{nowhere}
use Rattle.flow_parse.specs.Reading.{token_at, Tok, Any, Reads}
use Rattle.flow_parse.specs.Failing.{Fails}
use Rattle.flow_parse.specs.Follow.{EndsExpr, ExprEnds}
use Rattle.flow_tree.specs.declared.token.Sign.{Sign}
use Rattle.flow_tree.specs.declared.token.Token.TheVariants as token
use Rattle.flow_tree.specs.Tree.{ExprTree}
use Rattle.flow_exprs.specs.Kinds.{sign_kind}
use Rattle.flow_parse.proofs.Failing.{Inhabited}
use Rattle.flow_parse.proofs.Inhabitants.{some_then, some_opening}
use Rattle.flow_parse.proofs.Leaves.{Leaves, Link, Turns, free, narrow, then_reads, tok_reads, first_fails}
use Rattle.flow_classread.specs.Parts.{Behind, Closed, Mapped, Both}

-- some part of each
pub some_behind : {A : Type 0} (x : Token) (R : List Marked → A → Type 0) → Inhabited R → Inhabited (Behind x R)
some_behind x R r = record { marked = opens [] x nowhere ∷ r.marked; tree = r.tree; rule = (nowhere, r.marked, r.rule, refl) }

pub some_closed : {A : Type 0} (x : Token) (R : List Marked → A → Type 0) → Inhabited R → Inhabited (Closed x R)
some_closed x R r = record { marked = r.marked ++ opens [] x nowhere ∷ []; tree = r.tree; rule = (nowhere, r.marked, r.rule, refl) }

pub some_both : {A B : Type 0} (R : List Marked → A → Type 0) (S : List Marked → B → Type 0) → Inhabited R → Inhabited S → Inhabited (Both R S)
some_both R S r s = some_then R (λ a. S) r (λ a. s)

pub some_mapped : {A B : Type 0} (g : A → B) (R : List Marked → A → Type 0) → Inhabited R → Inhabited (Mapped g R)
some_mapped g R r = record { marked = r.marked; tree = g r.tree; rule = (r.tree, r.rule, refl) }

-- a token and then a part, as one part and then another
behind_turns : {A : Type 0} (x : Token) (R : List Marked → A → Type 0) (F : A → List Marked → Type 0) (o : Option Token) → Turns (Behind x R) F (Both (Tok x) R) (λ y. F y.1) (λ y. y.1) o
behind_turns x R F o = record {
  back = λ w z b r f l. record { tree = (r.0, b); rule = record { first = opens [] x r.0 ∷ []; rest = r.1; is = r.3; front = refl; back = r.2 }; is = refl; follows = f };
  forth = λ w c r. (c.0, r.rest, r.back, r.is ∙ ap (λ z. z ++ r.rest) r.front);
}

closed_turns : {A : Type 0} (x : Token) (R : List Marked → A → Type 0) (F : A → List Marked → Type 0) (o : Option Token) → Turns (Closed x R) F (Both R (Tok x)) (λ y. F y.0) (λ y. y.0) o
closed_turns x R F o = record {
  back = λ w z b r f l. record { tree = (b, r.0); rule = record { first = r.1; rest = opens [] x r.0 ∷ []; is = r.3; front = r.2; back = refl }; is = refl; follows = f };
  forth = λ w c r. (c.1, r.first, r.front, r.is ∙ ap (λ z. r.first ++ z) r.back);
}

pub mapped_turns : {A B : Type 0} (g : A → B) (R : List Marked → A → Type 0) (F : A → List Marked → Type 0) (G : B → List Marked → Type 0) (o : Option Token)
    → ((a : A) (z : List Marked) → G (g a) z → F a z) → Turns (Mapped g R) G R F g o
mapped_turns g R F G o f = record {
  back = λ w z b r h l. record { tree = r.0; rule = r.1; is = r.2; follows = f r.0 z (subst (λ y. G y z) r.2 h) };
  forth = λ w c r. (c, r, refl);
}

module _ {A B : Type 0} {W : List Marked → A → Type 0} {FW : A → List Marked → Type 0} {R : List Marked → B → Type 0} {F : B → List Marked → Type 0} {g : B → A} (t : Tokens) {from at : ℕ} (x : Token)
    (some : Inhabited R) (l : Leaves OF_CLASS_TEXT W FW (Behind x R) F g t.spots.items from at) where
  behind_left : Leaves OF_CLASS_TEXT W FW (Both (Tok x) R) (λ y. F y.1) (λ y. g y.1) t.spots.items from at
  behind_left = narrow OF_CLASS_TEXT t.spots.items refl (behind_turns x R F (token_at t.spots.items at)) l

  -- the token stands here, or doesn't
  pub behind_reads : {p : Place} {to : ℕ} → Reads OF_CLASS_TEXT (Tok x) Any t.spots.items at p to → Leaves OF_CLASS_TEXT W FW R F g t.spots.items from to
  behind_reads r = then_reads OF_CLASS_TEXT t.spots.items (free (λ p. some)) behind_left r

  pub behind_fails : (e : SourceFault) → Fails OF_CLASS_TEXT (Tok x) Any t at e → Fails OF_CLASS_TEXT W FW t from e
  behind_fails e a = first_fails OF_CLASS_TEXT t (free (λ p. some)) behind_left e a

  pub behind_here : token_at t.spots.items at ≡ Some x → Leaves OF_CLASS_TEXT W FW R F g t.spots.items from (at + 1)
  behind_here e = behind_reads (tok_reads OF_CLASS_TEXT t at x e)

module _ {A B : Type 0} {W : List Marked → A → Type 0} {FW : A → List Marked → Type 0} {R : List Marked → B → Type 0} {F : B → List Marked → Type 0} {g : B → A} (t : Tokens) {from at : ℕ} (x : Token)
    (FR : B → List Marked → Type 0) (follows : (b : B) (p : Place) (z : List Marked) → FR b (opens [] x p ∷ z)) (l : Leaves OF_CLASS_TEXT W FW (Closed x R) F g t.spots.items from at) where
  closed_link : Link R FR (λ b. Tok x) (λ y. F y.0)
  closed_link = record { follows = λ a b v z s f. subst (λ k. FR a (k ++ z)) (sym s) (follows a b z); more = λ a. some_opening [] x }

  closed_left : Leaves OF_CLASS_TEXT W FW (Both R (Tok x)) (λ y. F y.0) (λ y. g y.0) t.spots.items from at
  closed_left = narrow OF_CLASS_TEXT t.spots.items refl (closed_turns x R F (token_at t.spots.items at)) l

  -- the part is read, and the token is left; or it isn't
  pub closed_reads : {b : B} {to : ℕ} → Reads OF_CLASS_TEXT R FR t.spots.items at b to → Leaves OF_CLASS_TEXT W FW (Tok x) (λ p. F b) (λ p. g b) t.spots.items from to
  closed_reads r = then_reads OF_CLASS_TEXT t.spots.items closed_link closed_left r

  pub closed_fails : (e : SourceFault) → Fails OF_CLASS_TEXT R FR t at e → Fails OF_CLASS_TEXT W FW t from e
  closed_fails e a = first_fails OF_CLASS_TEXT t closed_link closed_left e a

-- a part that means something else
pub as_left : {A B C : Type 0} (h : B → C) (R : List Marked → B → Type 0) {W : List Marked → A → Type 0} {FW : A → List Marked → Type 0} {g : C → A} (t : Tokens) {from at : ℕ}
    → Leaves OF_CLASS_TEXT W FW (Mapped h R) Any g t.spots.items from at → Leaves OF_CLASS_TEXT W FW R Any (λ b. g (h b)) t.spots.items from at
as_left h R t {at = at} l = narrow OF_CLASS_TEXT t.spots.items refl (mapped_turns h R Any Any (token_at t.spots.items at) (λ a z f. tt)) l

-- what may follow anything
pub any_token : {A : Type 0} (x : Token) (b : A) (p : Place) (z : List Marked) → Any b (opens [] x p ∷ z)
any_token x b p z = tt

pub expr_then : (s : Sign) → EndsExpr (sign_kind s) → (b : ExprTree) (p : Place) (z : List Marked) → ExprEnds b (opens [] (token.Sign s) p ∷ z)
expr_then s h b p z = h
