-- An `if` with an `else`, seen as plain data.
use Rattle.std.proofs.Common.{◌≡◌, ap, sym, ◌∙◌}
use Rattle.std.specs.declared.option.Option.TheVariants.{Some}
use Rattle.std.specs.declared.alloc.Global.{Global}
use Rattle.std.specs.declared.vec.Vec.{Vec}
use Rattle.flow_base.specs.declared.place.Place.{Place}
use Rattle.flow_tree.specs.declared.expr.Expr.{Expr}
use Rattle.flow_tree.specs.declared.stmt.Stmt.{Stmt}
use Rattle.flow_tree.specs.declared.stmt.StmtKind.{fold-roll-StmtKind}
use Rattle.flow_tree.specs.declared.stmt.StmtKind.TheOpen as layer
use Rattle.flow_tree.specs.declared.stmt.StmtKind.TheVariants as kind
use Rattle.flow_tree.specs.View.{expr_of}
use Rattle.flow_tree.specs.StmtView.{kind_of, kind_step, stmt_step, branch_step, body_of}
use Rattle.flow_tree.specs.Body.{Body, Branches, IfElseStmt}

pub kind_if_else : (e : Expr) (b o : Vec Stmt Global) → kind_of (kind.If e b (Some o)) ≡ (λ at rest. IfElseStmt at (expr_of e) (body_of b.items) (body_of o.items) rest)
kind_if_else e b o = ap kind_of (sym (kind.rolls-If e b (Some o)))
    ∙ fold-roll-StmtKind (Place → Body → Body) (Body → Body) (Branches → Branches) kind_step stmt_step branch_step (layer.If e b (Some o))
