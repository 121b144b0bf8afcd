use Rattle.std.proofs.Common.{◌≡◌, ℕ, ◌+◌, ◌<◌, List, length, drop, get_or, ap, sym, ◌∙◌, arith}
use Rattle.std.proofs.lemmas.List.{drop_more}
use Rattle.flow_tree.specs.declared.ty.Ident.{Ident}
use Rattle.flow_tree.specs.Tree.{ExprTree, FieldExpr}
use Rattle.flow_meaning.specs.Items.{path_from}
use Rattle.flow_split.proofs.context.Context.read_over.Goals as goal

-- one more field of a path
path_next : (old new : ExprTree) (xs : List Ident) (i : ℕ) (x : Ident) (whole : ExprTree) → i < length xs → x ≡ get_or xs i x → new ≡ FieldExpr old x → path_from old (drop i xs) ≡ whole
    → path_from new (drop (i + 1) xs) ≡ whole
path_next old new xs i x whole lt got is inv =
    let rest = drop (i + 1) xs in
    ap (λ e. path_from e rest) is ∙ ap (λ y. path_from (FieldExpr old y) rest) got ∙ ap (path_from old) (sym (drop_more xs i x lt)) ∙ inv

pub loop-name-preserved : goal.loop-name-preserved
loop-name-preserved c = path_next _ _ c.args.rest.now c.loop-name.name-index c.name-item.result _ (omega (arith, c.loop-name-test.true)) c.name-item.is c.in_ok-expr.ensures c.loop-name.invariant
