-- Expressions, with their arguments resolved one by one.
use Rattle.std.proofs.Common.{◌≡◌, List, [], ◌∷◌, map, refl, ap, sym, ◌∙◌}
use Rattle.std.specs.declared.alloc.Global.{Global}
use Rattle.std.specs.declared.boxed.Box.{Box}
use Rattle.std.specs.declared.option.Option.{Option}
use Rattle.std.specs.declared.vec.Vec.{Vec}
use Rattle.flow_tree.specs.declared.ty.Ident.{Ident}
use Rattle.flow_tree.specs.declared.expr.Expr.{Expr}
use Rattle.flow_tree.specs.declared.expr.Expr.TheVariants as text
use Rattle.flow_tree.specs.declared.expr.Expr.TheOpen as layer
use Rattle.flow_tree.specs.declared.expr.Expr.TheFolds.{fold-roll-Expr}
use Rattle.flow_tree.specs.Tree.{ByName, ExprTree, CallExpr, MethodExpr, indexed}
use Rattle.flow_tree.specs.View.{expr_of, exprs_of, expr_step}
use Rattle.flow_ast.specs.declared.predefined.Method.{Method}
use Rattle.flow_code.specs.declared.expr.expr.Resolved.{Resolved}
use Rattle.flow_code.specs.declared.expr.expr.Resolved.TheVariants as code
use Rattle.flow_code.specs.declared.expr.expr.Resolved.TheOpen as open_resolved
use Rattle.flow_code.specs.declared.expr.expr.Resolved.TheFolds.{fold-roll-Resolved}
use Rattle.flow_code.specs.Resolved.Tree.{Node, MethodNode, indexed_node, nodes_of_list, MoreNodes}
use Rattle.flow_code.specs.Resolved.View.{node_of, nodes_of, node_step}
use Rattle.flow_code.specs.Resolved.Resolving.{Naming, resolved, resolved_all}

pub all_resolved : (n : Naming) (es : List Expr) → nodes_of_list (map (λ e. resolved n (expr_of e)) es) ≡ resolved_all n (exprs_of es)
all_resolved n [] = refl
all_resolved n (e ∷ es) = ap (MoreNodes (resolved n (expr_of e))) (all_resolved n es)

pub args_resolved : (n : Naming) (vs : List Resolved) (es : List Expr) → map node_of vs ≡ map (λ e. resolved n (expr_of e)) es → nodes_of vs ≡ resolved_all n (exprs_of es)
args_resolved n vs es e = ap nodes_of_list e ∙ all_resolved n es

pub call_text : (f : Ident) (xs : Vec Expr Global) → expr_of (text.Call f xs) ≡ CallExpr f (exprs_of xs.items)
call_text f xs = ap expr_of (sym (text.rolls-Call f xs)) ∙ fold-roll-Expr ExprTree expr_step (layer.Call f xs)

pub method_text : (e : Box Expr Global) (f : Ident) (xs : Vec Expr Global) → expr_of (text.Method e f xs) ≡ MethodExpr (expr_of e.value) (ByName f) (exprs_of xs.items)
method_text e f xs = ap expr_of (sym (text.rolls-Method e f xs)) ∙ fold-roll-Expr ExprTree expr_step (layer.Method e f xs)

pub index_text : (e i : Box Expr Global) → expr_of (text.Index e i) ≡ indexed (expr_of e.value) (expr_of i.value)
index_text e i = ap expr_of (sym (text.rolls-Index e i)) ∙ fold-roll-Expr ExprTree expr_step (layer.Index e i)

pub index_node : (e i : Box Resolved Global) → node_of (code.Index e i) ≡ indexed_node (node_of e.value) (node_of i.value)
index_node e i = ap node_of (sym (code.rolls-Index e i)) ∙ fold-roll-Resolved Node node_step (open_resolved.Index e i)

-- an index taken apart
pub index_parts : (x a b : Resolved) (e i : Box Resolved Global) → x ≡ code.Index e i → a ≡ e.value → b ≡ i.value → indexed_node (node_of a) (node_of b) ≡ node_of x
index_parts x a b e i is f g =
    ap (λ r. indexed_node (node_of r) (node_of b)) f ∙ ap (λ r. indexed_node (node_of e.value) (node_of r)) g ∙ sym (ap node_of is ∙ index_node e i)

pub method_node : (e : Box Resolved Global) (m : Option Method) (xs : Vec Resolved Global) → node_of (code.Method e m xs) ≡ MethodNode (node_of e.value) m (nodes_of xs.items)
method_node e m xs = ap node_of (sym (code.rolls-Method e m xs)) ∙ fold-roll-Resolved Node node_step (open_resolved.Method e m xs)
