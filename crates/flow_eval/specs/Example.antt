-- A function as a tree, of which the tests speak:
-- `int f(int n) { if (n == 0) { return 0; } return f(n - 1) + 1; }`.
use Rattle.std.specs.Prelude.{ℕ, pos, List, [], ◌∷◌, codes}
use Rattle.std.specs.declared.option.Option.TheVariants.{Some}
use Rattle.flow_base.specs.declared.place.Place.{Place}
use Rattle.flow_tree.specs.declared.ty.Ident.{Ident}
use Rattle.flow_tree.specs.declared.expr.Op.TheVariants.{Eq, Add, Sub}
use Rattle.flow_tree.specs.Tree.{IntType, ExprTree, IntExpr, VarExpr, CallExpr, BinaryExpr, NoExprs, MoreExprs}
use Rattle.flow_tree.specs.Body.{Body, End, IfStmt, ReturnStmt}
use Rattle.flow_tree.specs.Decls.{RoutineTree}

abbrev pub start : Place
start = record { line = 1; column = 1; byte = 0 }

abbrev pub word : List ℕ → Ident
word x = record { name = x; at = start }

abbrev pub n : ExprTree
n = VarExpr (word (codes "n"))

abbrev pub call_f : ExprTree → ExprTree
call_f e = CallExpr (word (codes "f")) (MoreExprs e NoExprs)

abbrev pub countdown_body : Body
countdown_body =
    IfStmt start (BinaryExpr Eq n (IntExpr (pos 0))) (ReturnStmt start (Some (IntExpr (pos 0))) End)
    (ReturnStmt start (Some (BinaryExpr Add (call_f (BinaryExpr Sub n (IntExpr (pos 1)))) (IntExpr (pos 1)))) End)

abbrev pub countdown : RoutineTree
countdown = record {
  at = start;
  returns = IntType;
  name = word (codes "f");
  params = record { ty = IntType; name = word (codes "n") } ∷ [];
  body = countdown_body;
  close = start;
}
