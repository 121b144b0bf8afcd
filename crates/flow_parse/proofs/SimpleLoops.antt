-- What the loops over arguments and names have read so far.
use Rattle.std.proofs.Common.{◌≡◌, ℕ, ◌+◌, ◌≤◌, List, [], ◌∷◌, ◌++◌, length, sym, ap, ◌∙◌, subst, append_assoc}
use Rattle.std.specs.declared.option.Option.TheVariants.{Some}
use Rattle.flow_tree.specs.declared.limits.Limits.{Limits}
use Rattle.flow_base.specs.declared.place.Place.{Place}
use Rattle.flow_tree.specs.declared.fault.SourceFault.{SourceFault}
use Rattle.flow_tree.specs.declared.token.Token.TheVariants as token
use Rattle.flow_tree.specs.declared.token.Sign.TheVariants as sign
use Rattle.flow_tree.specs.declared.token.Tokens.{Tokens}
use Rattle.flow_tree.specs.declared.ty.Ident.{Ident}
use Rattle.flow_tree.specs.declared.expr.Expr.{Expr}
use Rattle.flow_tree.specs.View.{expr_of, exprs_of}
use Rattle.flow_tree.specs.Grammar.{ExprRule}
use Rattle.flow_tree.specs.GrammarAnswer.{place_at}
use Rattle.flow_parse.specs.Failing.{Fails}
use Rattle.flow_parse.specs.Reading.{token_at, Tok, Named, Any, Reads}
use Rattle.flow_parse.specs.Follow.{ExprEnds, NotBefore}
use Rattle.flow_parse.specs.Parts.{Args, MoreArgs, MoreNames}
use Rattle.flow_parse.proofs.Leaves.{Leaves, means, then_reads, done, first_fails, fails, tok_reads}
use Rattle.flow_parse.proofs.Variables.{args_left, args_link, more_args_left, comma_link, end_args_left, dot_left, dot_link, next_name_link, no_dot_reads}
use Rattle.flow_parse.proofs.Lists.{exprs_before, exprs_push, exprs_end}

pub args_init : (limits : Limits) (t : Tokens) (at d to : ℕ) (es : List Expr) (e : Expr) → at ≤ length t.spots.items → (token_at t.spots.items at ≡ Some (token.Sign sign.CloseRound) → ⊥) → es ≡ e ∷ []
    → Reads limits (ExprRule 0 d) ExprEnds t.spots.items at (expr_of e) to
    → Leaves limits (Args d) Any (MoreArgs d) Any (exprs_before es) t.spots.items at to
args_init limits t at d to es e h n q r = means limits t.spots.items (exprs_before es) (λ ts. ap (λ z. exprs_before z ts) (sym q))
    (then_reads limits t.spots.items (args_link d) (args_left limits t at d h n) r)

-- behind a comma
module _ (limits : Limits) (t : Tokens) (from at d : ℕ) (es : List Expr) (l : Leaves limits (Args d) Any (MoreArgs d) Any (exprs_before es) t.spots.items from at)
    (e : token_at t.spots.items at ≡ Some (token.Sign sign.Comma)) where
  pub args_step : (to : ℕ) (fs : List Expr) (x : Expr) → fs ≡ es ++ x ∷ [] → Reads limits (ExprRule 0 d) ExprEnds t.spots.items (at + 1) (expr_of x) to
      → Leaves limits (Args d) Any (MoreArgs d) Any (exprs_before fs) t.spots.items from to
  args_step to fs x q r = means limits t.spots.items (exprs_before fs) (λ ts. exprs_push es x ts ∙ ap (λ z. exprs_before z ts) (sym q))
      (then_reads limits t.spots.items (args_link d) (then_reads limits t.spots.items (comma_link d) (more_args_left limits t.spots.items e l) (tok_reads limits t at (token.Sign sign.Comma) e)) r)

  pub args_step_fails : (f : SourceFault) → Fails limits (ExprRule 0 d) ExprEnds t (at + 1) f → Fails limits (Args d) Any t from f
  args_step_fails f a = first_fails limits t (args_link d) (then_reads limits t.spots.items (comma_link d) (more_args_left limits t.spots.items e l) (tok_reads limits t at (token.Sign sign.Comma) e))
      f a

module _ (limits : Limits) (t : Tokens) (from at d : ℕ) (es : List Expr) (l : Leaves limits (Args d) Any (MoreArgs d) Any (exprs_before es) t.spots.items from at)
    (n : token_at t.spots.items at ≡ Some (token.Sign sign.Comma) → ⊥) where
  pub args_done : (to : ℕ) (p : Place) → Reads limits (Tok (token.Sign sign.CloseRound)) Any t.spots.items at p to → Reads limits (Args d) Any t.spots.items from (exprs_of es) to
  args_done to p r = subst (λ z. Reads limits (Args d) Any t.spots.items from z to) (exprs_end es) (done limits t.spots.items (end_args_left limits t.spots.items n l) r)

  pub args_end_fails : (f : SourceFault) → Fails limits (Tok (token.Sign sign.CloseRound)) Any t at f → Fails limits (Args d) Any t from f
  args_end_fails f a = fails limits t (end_args_left limits t.spots.items n l) f a

-- behind a dot
module _ (limits : Limits) (t : Tokens) (from at : ℕ) (first last : Ident) (before : List Ident)
    (l : Leaves limits (MoreNames first) (NotBefore (token.Sign sign.Dot)) (MoreNames last) (NotBefore (token.Sign sign.Dot)) (λ ys. before ++ ys) t.spots.items from at) where
  pub names_step : token_at t.spots.items at ≡ Some (token.Sign sign.Dot) → (to : ℕ) (next : Ident) → Reads limits Named Any t.spots.items (at + 1) next to
      → Leaves limits (MoreNames first) (NotBefore (token.Sign sign.Dot)) (MoreNames next) (NotBefore (token.Sign sign.Dot)) (λ ys. (before ++ last ∷ []) ++ ys) t.spots.items from to
  names_step e to next r = means limits t.spots.items (λ ys. (before ++ last ∷ []) ++ ys) (λ ys. sym (append_assoc before (last ∷ []) ys))
      (then_reads limits t.spots.items (next_name_link (place_at t at)) (then_reads limits t.spots.items dot_link (dot_left limits t.spots.items e l) (tok_reads limits t at (token.Sign sign.Dot) e))
      r)

  pub names_step_fails : token_at t.spots.items at ≡ Some (token.Sign sign.Dot) → (f : SourceFault) → Fails limits Named Any t (at + 1) f
      → Fails limits (MoreNames first) (NotBefore (token.Sign sign.Dot)) t from f
  names_step_fails e f a = first_fails limits t (next_name_link (place_at t at))
      (then_reads limits t.spots.items dot_link (dot_left limits t.spots.items e l) (tok_reads limits t at (token.Sign sign.Dot) e)) f a

  pub names_done : (xs : List Ident) → xs ≡ before ++ last ∷ [] → (token_at t.spots.items at ≡ Some (token.Sign sign.Dot) → ⊥) → at ≤ length t.spots.items
      → Reads limits (MoreNames first) (NotBefore (token.Sign sign.Dot)) t.spots.items from xs at
  names_done xs q n h = subst (λ z. Reads limits (MoreNames first) (NotBefore (token.Sign sign.Dot)) t.spots.items from z at) (sym q)
      (done limits t.spots.items l (no_dot_reads limits t.spots.items at last h n))
