-- Arguments of calls in class text.
use Rattle.std.proofs.Common.{◌≡◌, ℕ, ◌+◌, ◌≤◌, List, [], ◌∷◌, ◌++◌, length, refl, sym, ap, ◌∙◌, subst, append_assoc}
use Rattle.std.specs.declared.option.Option.{Option}
use Rattle.std.specs.declared.option.Option.TheVariants.{Some}
use Rattle.flow_base.specs.declared.place.Place.{Place}
use Rattle.flow_tree.specs.declared.limits.TheConstants.{OF_CLASS_TEXT}
use Rattle.flow_tree.specs.declared.token.Token.{Token}
use Rattle.flow_tree.specs.declared.token.Token.TheVariants as token
use Rattle.flow_tree.specs.declared.token.Sign.TheVariants as sign
use Rattle.flow_tree.specs.declared.token.Tokens.{Tokens}
use Rattle.flow_tree.specs.GrammarToken.{Marked}
use Rattle.flow_tree.specs.Grammar.{sign_at}
use Rattle.flow_parse.specs.Reading.{token_at, Tok, Any, Reads}
use Rattle.flow_parse.specs.Openers.{ExprToken}
use Rattle.flow_parse.proofs.Looking.{Looks, Back}
use Rattle.flow_parse.proofs.Begins.{starts_looks, expr_starts, looks_is}
use Rattle.flow_parse.proofs.Failing.{Inhabited}
use Rattle.flow_parse.proofs.Leaves.{Leaves, Link, Turns}
use Rattle.flow_parse.proofs.Leaves.{nothing, narrow}
use Rattle.flow_classread.specs.Parts.{Behind}
use Rattle.flow_classread.proofs.Combine.{behind_here}
-- nothing stands there, or a token and a part
use Rattle.flow_tree.specs.declared.expr.Expr.{Expr}
use Rattle.flow_tree.specs.Tree.{ExprTree, ExprTrees, NoExprs, MoreExprs}
use Rattle.flow_tree.specs.View.{expr_of, exprs_of}
use Rattle.flow_tree.specs.Grammar.{ExprRule, ArgsRule, no_args, some_args, MoreArgsRule, end_args, more_args}
use Rattle.flow_parse.specs.Follow.{ExprEnds}
use Rattle.flow_parse.proofs.Leaves.{nothing, narrow, then_reads, first_fails, means}
use Rattle.flow_tree.specs.declared.fault.SourceFault.{SourceFault}
use Rattle.flow_parse.specs.Failing.{Fails}
use Rattle.flow_classprint.specs.ClassGrammar.{WholeRule, AllAreFree}
use Rattle.flow_classread.specs.Parts.{Behind, Both, MoreFreeArgs, Args, MoreArgs}
use Rattle.flow_classread.proofs.Combine.{some_closed, some_both, behind_here}
use Rattle.flow_classread.proofs.Links.{some_whole}
use Rattle.flow_classread.proofs.Equal.{then_same}

pub none_turns : Turns Args Any (Tok (token.Sign sign.CloseRound)) Any (λ p. NoExprs) (Some (token.Sign sign.CloseRound))
none_turns = record { back = λ w z b r f l. of w z b r.0 r.1 r.2.0 r.3 l; forth = λ w p r. (p, [], (no_args, tt), r) }
  where
    opens_expr : {d : ℕ} {w : List Marked} {e : ExprTree} (z : List Marked) → ExprRule 0 d w e → Looks (Some (token.Sign sign.CloseRound)) (w ++ z) → ⊥
    opens_expr {w = w} z r l = starts_looks ExprToken w z (Some (token.Sign sign.CloseRound)) (expr_starts r) l

    of : (w z : List Marked) (b : ExprTrees) (p : Place) (of : List Marked) → ArgsRule 1 of b → w ≡ of ++ sign_at sign.CloseRound p ∷ [] → Looks (Some (token.Sign sign.CloseRound)) (w ++ z)
        → Back Args Any (Tok (token.Sign sign.CloseRound)) Any (λ p. NoExprs) w z b
    of w z b p k no_args e l = record { tree = p; rule = e; is = refl; follows = tt }
    of w z b p k (some_args first more r s f) e l =
        absurd (opens_expr (more ++ (sign_at sign.CloseRound p ∷ z)) r (subst (Looks (Some (token.Sign sign.CloseRound)))
        (ap (λ y. y ++ z) (e ∙ ap (λ y. y ++ sign_at sign.CloseRound p ∷ []) f) ∙ append_assoc (first ++ more) (sign_at sign.CloseRound p ∷ []) z ∙ append_assoc first more
        (sign_at sign.CloseRound p ∷ z)) l))

pub first_turns : (o : Option Token) → (o ≡ Some (token.Sign sign.CloseRound) → ⊥) → Turns Args Any (Both WholeRule MoreArgs) Any (λ x. MoreExprs x.0 x.1) o
first_turns o nope = record {
  back = λ w z b r f l. of w z b r.0 r.1 r.2.0 r.2.1 r.3 l;
  forth = λ w x r.
      let m = r.back in (
        m.0,
        r.first ++ m.1,
        (some_args r.first m.1 r.front.rule m.2.0 refl, (r.front.free, m.2.1)),
        r.is ∙ ap (λ y. r.first ++ y) m.3 ∙ sym (append_assoc r.first m.1 (sign_at sign.CloseRound m.0 ∷ [])),
      );
}
  where
    of : (w z : List Marked) (b : ExprTrees) (p : Place) (of : List Marked) → ArgsRule 1 of b → AllAreFree b → w ≡ of ++ sign_at sign.CloseRound p ∷ [] → Looks o (w ++ z)
        → Back Args Any (Both WholeRule MoreArgs) Any (λ x. MoreExprs x.0 x.1) w z b
    of w z b p k no_args h e l = absurd (nope (looks_is o (sign_at sign.CloseRound p) [] z e l))
    of w z b p k (some_args {t = t} {ts = ts} first more r s f) h e l = record {
      tree = (t, ts);
      rule = record {
        first = first;
        rest = more ++ sign_at sign.CloseRound p ∷ [];
        is = e ∙ ap (λ y. y ++ sign_at sign.CloseRound p ∷ []) f ∙ append_assoc first more (sign_at sign.CloseRound p ∷ []);
        front = record { rule = r; free = h.0 };
        back = (p, more, (s, h.1), refl);
      };
      is = refl;
      follows = tt;
    }

comma_turns : Turns MoreArgs Any (Behind (token.Sign sign.Comma) (Both WholeRule MoreArgs)) Any (λ x. MoreExprs x.0 x.1) (Some (token.Sign sign.Comma))
comma_turns = record {
  back = λ w z b r f l. of w z b r.0 r.1 r.2.0 r.2.1 r.3 l;
  forth = λ w x r.
      let k = r.2 in
      let m = k.back in (
        m.0,
        sign_at sign.Comma r.0 ∷ (k.first ++ m.1),
        (more_args r.0 k.first m.1 k.front.rule m.2.0 refl, (k.front.free, m.2.1)),
        then_same r.3 (k.is ∙ ap (λ y. k.first ++ y) m.3 ∙ sym (append_assoc k.first m.1 (sign_at sign.CloseRound m.0 ∷ []))),
      );
}
  where
    of : (w z : List Marked) (b : ExprTrees) (p : Place) (of : List Marked) → MoreArgsRule 1 of b → AllAreFree b → w ≡ of ++ sign_at sign.CloseRound p ∷ []
        → Looks (Some (token.Sign sign.Comma)) (w ++ z)
        → Back MoreArgs Any (Behind (token.Sign sign.Comma) (Both WholeRule MoreArgs)) Any (λ x. MoreExprs x.0 x.1) w z b
    of w z b p k end_args h e l = absurd (let q = looks_is (Some (token.Sign sign.Comma)) (sign_at sign.CloseRound p) [] z e l in cc)
    of w z b p k (more_args {t = t} {ts = ts} q next more r s f) h e l = record {
      tree = (t, ts);
      rule = (
        q,
        next ++ (more ++ sign_at sign.CloseRound p ∷ []),
        record {
          first = next;
          rest = more ++ sign_at sign.CloseRound p ∷ [];
          is = refl;
          front = record { rule = r; free = h.0 };
          back = (p, more, (s, h.1), refl);
        },
        e ∙ ap (λ y. y ++ sign_at sign.CloseRound p ∷ []) f ∙ ap (λ y. sign_at sign.Comma q ∷ y) (append_assoc next more (sign_at sign.CloseRound p ∷ [])),
      );
      is = refl;
      follows = tt;
    }

pub end_turns : (o : Option Token) → (o ≡ Some (token.Sign sign.Comma) → ⊥) → Turns MoreArgs Any (Tok (token.Sign sign.CloseRound)) Any (λ p. NoExprs) o
end_turns o nope = record { back = λ w z b r f l. of w z b r.0 r.1 r.2.0 r.3 l; forth = λ w p r. (p, [], (end_args, tt), r) }
  where
    of : (w z : List Marked) (b : ExprTrees) (p : Place) (of : List Marked) → MoreArgsRule 1 of b → w ≡ of ++ sign_at sign.CloseRound p ∷ [] → Looks o (w ++ z)
        → Back MoreArgs Any (Tok (token.Sign sign.CloseRound)) Any (λ p. NoExprs) w z b
    of w z b p k end_args e l = record { tree = p; rule = e; is = refl; follows = tt }
    of w z b p k (more_args q next more r s f) e l =
        absurd (nope (looks_is o (sign_at sign.Comma q) ((next ++ more) ++ sign_at sign.CloseRound p ∷ []) z (e ∙ ap (λ y. y ++ sign_at sign.CloseRound p ∷ []) f) l))

some_more : Inhabited MoreArgs
some_more = some_closed (token.Sign sign.CloseRound) MoreFreeArgs (record { marked = []; tree = NoExprs; rule = (end_args, tt) })

-- behind a first argument stands a comma or the bracket
more_ends : (e : ExprTree) (b : ExprTrees) (v z : List Marked) → MoreArgs v b → ExprEnds e (v ++ z)
more_ends e b v z r = of b r.0 r.1 r.2.0 r.3
  where
    of : (b : ExprTrees) (p : Place) (inner : List Marked) → MoreArgsRule 1 inner b → v ≡ inner ++ sign_at sign.CloseRound p ∷ [] → ExprEnds e (v ++ z)
    of b p k end_args h = subst (λ y. ExprEnds e (y ++ z)) (sym h) tt
    of b p k (more_args q next more r s f) h = subst (λ y. ExprEnds e (y ++ z)) (sym (h ∙ ap (λ y. y ++ sign_at sign.CloseRound p ∷ []) f)) tt

pub args_link : Link WholeRule ExprEnds (λ e. MoreArgs) Any
args_link = record { follows = λ a b v z s f. more_ends a b v z s; more = λ e. some_more }

-- what was read, put before what follows
abbrev pub args_before : List Expr → ExprTrees → ExprTrees
args_before [] ts = ts
args_before (e ∷ es) ts = MoreExprs (expr_of e) (args_before es ts)

args_push : (es : List Expr) (e : Expr) (ts : ExprTrees) → args_before es (MoreExprs (expr_of e) ts) ≡ args_before (es ++ e ∷ []) ts
args_push [] e ts = refl
args_push (x ∷ es) e ts = ap (MoreExprs (expr_of x)) (args_push es e ts)

pub args_end : (es : List Expr) → args_before es NoExprs ≡ exprs_of es
args_end [] = refl
args_end (x ∷ es) = ap (MoreExprs (expr_of x)) (args_end es)

module _ (t : Tokens) where
  pub args_left : (at : ℕ) → at ≤ length t.spots.items → (token_at t.spots.items at ≡ Some (token.Sign sign.CloseRound) → ⊥)
      → Leaves OF_CLASS_TEXT Args Any (Both WholeRule MoreArgs) Any (λ x. MoreExprs x.0 x.1) t.spots.items at at
  args_left at h nope = narrow OF_CLASS_TEXT t.spots.items refl (first_turns (token_at t.spots.items at) nope) (nothing OF_CLASS_TEXT t.spots.items Args Any at h)

  pub args_init : (at to : ℕ) (es : List Expr) (e : Expr) → at ≤ length t.spots.items → (token_at t.spots.items at ≡ Some (token.Sign sign.CloseRound) → ⊥) → es ≡ e ∷ []
      → Reads OF_CLASS_TEXT WholeRule ExprEnds t.spots.items at (expr_of e) to → Leaves OF_CLASS_TEXT Args Any MoreArgs Any (args_before es) t.spots.items at to
  args_init at to es e h nope q r = means OF_CLASS_TEXT t.spots.items (args_before es) (λ ts. ap (λ z. args_before z ts) (sym q))
      (then_reads OF_CLASS_TEXT t.spots.items args_link (args_left at h nope) r)

  module _ (from at : ℕ) (es : List Expr) (l : Leaves OF_CLASS_TEXT Args Any MoreArgs Any (args_before es) t.spots.items from at) where
    comma_left : token_at t.spots.items at ≡ Some (token.Sign sign.Comma)
        → Leaves OF_CLASS_TEXT Args Any (Both WholeRule MoreArgs) Any (λ x. args_before es (MoreExprs x.0 x.1)) t.spots.items from (at + 1)
    comma_left e = behind_here t (token.Sign sign.Comma) (some_both WholeRule MoreArgs some_whole some_more) (narrow OF_CLASS_TEXT t.spots.items e comma_turns l) e

    pub next_fails : token_at t.spots.items at ≡ Some (token.Sign sign.Comma) → (e : SourceFault) → Fails OF_CLASS_TEXT WholeRule ExprEnds t (at + 1) e → Fails OF_CLASS_TEXT Args Any t from e
    next_fails h e a = first_fails OF_CLASS_TEXT t args_link (comma_left h) e a

    pub next_reads : (to : ℕ) (fs : List Expr) (e : Expr) → token_at t.spots.items at ≡ Some (token.Sign sign.Comma) → fs ≡ es ++ e ∷ []
        → Reads OF_CLASS_TEXT WholeRule ExprEnds t.spots.items (at + 1) (expr_of e) to → Leaves OF_CLASS_TEXT Args Any MoreArgs Any (args_before fs) t.spots.items from to
    next_reads to fs e h q r = means OF_CLASS_TEXT t.spots.items (args_before fs) (λ ts. args_push es e ts ∙ ap (λ z. args_before z ts) (sym q))
        (then_reads OF_CLASS_TEXT t.spots.items args_link (comma_left h) r)

    pub close_left : (token_at t.spots.items at ≡ Some (token.Sign sign.Comma) → ⊥)
        → Leaves OF_CLASS_TEXT Args Any (Tok (token.Sign sign.CloseRound)) Any (λ p. args_before es NoExprs) t.spots.items from at
    close_left nope = narrow OF_CLASS_TEXT t.spots.items refl (end_turns (token_at t.spots.items at) nope) l
