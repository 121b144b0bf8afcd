use Rattle.std.proofs.Common.{ap, sym, ◌∙◌, map}
use Rattle.flow_tree.specs.StmtView.{kind_of, stmt_of, body_of_list}
use Rattle.flow_tree.proofs.Views.{modify_same, for_same}
use Rattle.flow_tree.proofs.stmt.+copy.Goals as goal

pub StmtKind::copy-returns-in_ok-copy_maybe-in-For :
    goal.StmtKind::copy-returns-in_ok-copy_maybe-in-For
StmtKind::copy-returns-in_ok-copy_maybe-in-For t c =
    for_same _ _ _ _ _ _ c.in_ok-body-in-For.body c.in-For.body
    c.in_ok-init-in-For.ensures
    c.in_ok-copy_maybe-in-For.ensures
    c.in_ok-step-in-For.ensures
    (ap body_of_list (c.in_ok-body-in-For.ensures ∙ ap (map stmt_of) c.deref-in-For.ensures.value))
    ∙ ap kind_of (sym c.in-For.is)

pub StmtKind::copy-returns-in_ok-copy-in-Modify-2 :
    goal.StmtKind::copy-returns-in_ok-copy-in-Modify-2
StmtKind::copy-returns-in_ok-copy-in-Modify-2 t c =
    modify_same _ _ _ _ c.in_ok-copy-in-Modify.ensures c.in_ok-copy-in-Modify-2.ensures ∙ ap kind_of (sym c.in-Modify.is)
