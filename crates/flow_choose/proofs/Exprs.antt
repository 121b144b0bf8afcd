-- Expressions over places, one more at a time.
use Rattle.std.proofs.Common.{◌≡◌, ℕ, ◌+◌, ◌<◌, List, [], ◌∷◌, ◌++◌, length, map, take, get_or, refl, ap, ap₂, sym, ◌∙◌}
use Rattle.std.proofs.lemmas.List.{take_more}
use Rattle.flow_tree.specs.declared.expr.Expr.{Expr}
use Rattle.flow_tree.specs.Tree.{ExprTree, ExprTrees, NoExprs, MoreExprs}
use Rattle.flow_tree.specs.Decls.{SlotTree}
use Rattle.flow_tree.specs.View.{expr_of, exprs_of}
use Rattle.flow_class.specs.Scopes.{Scope, over, over_all}

abbrev with_last : ExprTrees → ExprTree → ExprTrees
with_last NoExprs e = MoreExprs e NoExprs
with_last (MoreExprs x es) e = MoreExprs x (with_last es e)

exprs_push : (es : List Expr) (e : Expr) → exprs_of (es ++ e ∷ []) ≡ with_last (exprs_of es) (expr_of e)
exprs_push [] e = refl
exprs_push (x ∷ es) e = ap (MoreExprs (expr_of x)) (exprs_push es e)

over_last : (slots : List SlotTree) (s : Scope) (es : ExprTrees) (e : ExprTree) → over_all slots s (with_last es e) ≡ with_last (over_all slots s es) (over slots s e)
over_last slots s NoExprs e = refl
over_last slots s (MoreExprs x es) e = ap (MoreExprs (over slots s x)) (over_last slots s es e)

pub exprs_step : (slots : List SlotTree) (s : Scope) (es : List Expr) (i : ℕ) (e r : Expr) (old new : List Expr) → i < length es → e ≡ get_or es i e
    → expr_of r ≡ over slots s (expr_of e) → new ≡ old ++ r ∷ [] → exprs_of old ≡ over_all slots s (exprs_of (take i es))
    → exprs_of new ≡ over_all slots s (exprs_of (take (i + 1) es))
exprs_step slots s es i e r old new lt got over_e pushed h =
    ap exprs_of pushed ∙ exprs_push old r ∙ ap₂ with_last h over_e
    ∙ ap (λ x. with_last (over_all slots s (exprs_of (take i es))) (over slots s (expr_of x))) got
    ∙ sym (over_last slots s (exprs_of (take i es)) (expr_of (get_or es i e)))
    ∙ ap (over_all slots s) (sym (exprs_push (take i es) (get_or es i e)))
    ∙ ap (λ l. over_all slots s (exprs_of l)) (sym (take_more es i e lt))
