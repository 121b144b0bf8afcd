use Rattle.std.proofs.Common.{◌≡◌, drop}
use Rattle.flow_tree.specs.Tree.{VarExpr}
use Rattle.flow_tree.specs.View.{expr_of}
use Rattle.flow_class.specs.Scopes.{ident_over}
use Rattle.flow_meaning.specs.Items.{path_from}
use Rattle.flow_split.specs.Contexts.{slots_in}
use Rattle.flow_split.proofs.context.Context.read_over.Given as goal

abbrev pub invariant-loop-name : goal.invariant-loop-name
invariant-loop-name l = path_from (expr_of l.expr) (drop l.name-index l.rest) ≡ path_from (VarExpr (ident_over (slots_in l.self) l.scopes l.first)) l.rest
