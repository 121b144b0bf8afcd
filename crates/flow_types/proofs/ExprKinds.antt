-- Kinds of expressions and types, as they are seen.
use Rattle.std.proofs.Common.{◌≡◌, ℕ, List, sym, ap, ◌∙◌}
use Rattle.std.specs.declared.alloc.Global.{Global}
use Rattle.std.specs.declared.boxed.Box.{Box}
use Rattle.std.specs.declared.vec.Vec.{Vec}
use Rattle.flow_tree.specs.declared.ty.Ident.{Ident}
use Rattle.flow_tree.specs.declared.ty.Ty.{Ty}
use Rattle.flow_tree.specs.declared.ty.Ty.TheOpen as type_layer
use Rattle.flow_tree.specs.declared.ty.Ty.TheVariants as type
use Rattle.flow_tree.specs.declared.ty.Ty.TheFolds.{fold-roll-Ty}
use Rattle.flow_tree.specs.declared.expr.Op.{Op}
use Rattle.flow_tree.specs.declared.expr.Expr.{Expr}
use Rattle.flow_tree.specs.declared.expr.Expr.TheOpen as layer
use Rattle.flow_tree.specs.declared.expr.Expr.TheVariants as expr
use Rattle.flow_tree.specs.declared.expr.Expr.TheFolds.{fold-roll-Expr}
use Rattle.flow_tree.specs.View.{type_of, type_step, expr_of, expr_step, exprs_of}
use Rattle.flow_tree.specs.Tree.{ByName, TypeTree, NamedType, VectorType, ExprTree, CallExpr, MethodExpr, NotExpr, NegExpr, BinaryExpr, indexed}

pub is_call : (x : Expr) (f : Ident) (xs : Vec Expr Global) → x ≡ expr.Call f xs → expr_of x ≡ CallExpr f (exprs_of xs.items)
is_call x f xs is = ap expr_of is ∙ ap expr_of (sym (expr.rolls-Call f xs)) ∙ fold-roll-Expr ExprTree expr_step (layer.Call f xs)

pub is_method : (x : Expr) (e : Box Expr Global) (f : Ident) (xs : Vec Expr Global) → x ≡ expr.Method e f xs → expr_of x ≡ MethodExpr (expr_of e.value) (ByName f) (exprs_of xs.items)
is_method x e f xs is = ap expr_of is ∙ ap expr_of (sym (expr.rolls-Method e f xs)) ∙ fold-roll-Expr ExprTree expr_step (layer.Method e f xs)

pub is_index : (x : Expr) (e i : Box Expr Global) → x ≡ expr.Index e i → expr_of x ≡ indexed (expr_of e.value) (expr_of i.value)
is_index x e i is = ap expr_of is ∙ ap expr_of (sym (expr.rolls-Index e i)) ∙ fold-roll-Expr ExprTree expr_step (layer.Index e i)

pub is_not : (x : Expr) (e : Box Expr Global) → x ≡ expr.Not e → expr_of x ≡ NotExpr (expr_of e.value)
is_not x e is = ap expr_of is ∙ ap expr_of (sym (expr.rolls-Not e)) ∙ fold-roll-Expr ExprTree expr_step (layer.Not e)

pub is_negative : (x : Expr) (e : Box Expr Global) → x ≡ expr.Neg e → expr_of x ≡ NegExpr (expr_of e.value)
is_negative x e is = ap expr_of is ∙ ap expr_of (sym (expr.rolls-Neg e)) ∙ fold-roll-Expr ExprTree expr_step (layer.Neg e)

pub is_binary : (x : Expr) (op : Op) (a b : Box Expr Global) → x ≡ expr.Binary op a b → expr_of x ≡ BinaryExpr op (expr_of a.value) (expr_of b.value)
is_binary x op a b is = ap expr_of is ∙ ap expr_of (sym (expr.rolls-Binary op a b)) ∙ fold-roll-Expr ExprTree expr_step (layer.Binary op a b)

pub is_named : (t : Ty) (n : List ℕ) → t ≡ type.Named n → type_of t ≡ NamedType n
is_named t n is = ap type_of is ∙ ap type_of (sym (type.rolls-Named n)) ∙ fold-roll-Ty TypeTree type_step (type_layer.Named n)

pub is_vector : (t : Ty) (u : Box Ty Global) → t ≡ type.Vector u → type_of t ≡ VectorType (type_of u.value)
is_vector t u is = ap type_of is ∙ ap type_of (sym (type.rolls-Vector u)) ∙ fold-roll-Ty TypeTree type_step (type_layer.Vector u)
