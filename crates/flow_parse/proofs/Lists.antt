-- What a loop has read, put before what follows.
use Rattle.std.proofs.Common.{◌≡◌, List, [], ◌∷◌, ◌++◌, map, length, suc, refl, ap}
use Rattle.flow_tree.specs.declared.expr.Expr.{Expr}
use Rattle.flow_tree.specs.declared.stmt.Stmt.{Stmt}
use Rattle.flow_tree.specs.declared.stmt.When.{When}
use Rattle.flow_tree.specs.declared.decl.Param.{Param}
use Rattle.flow_tree.specs.declared.decl.Decl.{Decl}
use Rattle.flow_tree.specs.Tree.{ExprTrees, NoExprs, MoreExprs}
use Rattle.flow_tree.specs.Body.{Body, End, Branches, NoBranches}
use Rattle.flow_tree.specs.Decls.{ParamTree, DeclTree}
use Rattle.flow_tree.specs.View.{expr_of, exprs_of}
use Rattle.flow_tree.specs.StmtView.{stmt_of, body_of, branch_of, branches_of}
use Rattle.flow_tree.specs.DeclView.{param_of, params_of, decl_of}

abbrev pub exprs_before : List Expr → ExprTrees → ExprTrees
exprs_before [] ts = ts
exprs_before (e ∷ es) ts = MoreExprs (expr_of e) (exprs_before es ts)

pub exprs_push : (es : List Expr) (e : Expr) (ts : ExprTrees) → exprs_before es (MoreExprs (expr_of e) ts) ≡ exprs_before (es ++ e ∷ []) ts
exprs_push [] e ts = refl
exprs_push (x ∷ es) e ts = ap (MoreExprs (expr_of x)) (exprs_push es e ts)

pub exprs_end : (es : List Expr) → exprs_before es NoExprs ≡ exprs_of es
exprs_end [] = refl
exprs_end (x ∷ es) = ap (MoreExprs (expr_of x)) (exprs_end es)

abbrev pub stmts_before : List Stmt → Body → Body
stmts_before [] b = b
stmts_before (s ∷ ss) b = stmt_of s (stmts_before ss b)

pub stmts_push : (ss : List Stmt) (s : Stmt) (b : Body) → stmts_before ss (stmt_of s b) ≡ stmts_before (ss ++ s ∷ []) b
stmts_push [] s b = refl
stmts_push (x ∷ ss) s b = ap (stmt_of x) (stmts_push ss s b)

pub stmts_end : (ss : List Stmt) → stmts_before ss End ≡ body_of ss
stmts_end [] = refl
stmts_end (x ∷ ss) = ap (stmt_of x) (stmts_end ss)

abbrev pub branches_before : List When → Branches → Branches
branches_before [] b = b
branches_before (s ∷ ss) b = branch_of s (branches_before ss b)

pub branches_push : (ss : List When) (s : When) (b : Branches) → branches_before ss (branch_of s b) ≡ branches_before (ss ++ s ∷ []) b
branches_push [] s b = refl
branches_push (x ∷ ss) s b = ap (branch_of x) (branches_push ss s b)

pub branches_end : (ss : List When) → branches_before ss NoBranches ≡ branches_of ss
branches_end [] = refl
branches_end (x ∷ ss) = ap (branch_of x) (branches_end ss)

pub params_push : (ps : List Param) (p : Param) (qs : List ParamTree) → params_of ps ++ (param_of p ∷ qs) ≡ params_of (ps ++ p ∷ []) ++ qs
params_push [] p qs = refl
params_push (x ∷ ps) p qs = ap (λ z. param_of x ∷ z) (params_push ps p qs)

pub decls_push : (ds : List Decl) (d : Decl) (qs : List DeclTree) → map decl_of ds ++ (decl_of d ∷ qs) ≡ map decl_of (ds ++ d ∷ []) ++ qs
decls_push [] d qs = refl
decls_push (x ∷ ds) d qs = ap (λ z. decl_of x ∷ z) (decls_push ds d qs)

pub params_length : (ps : List Param) → length ps ≡ length (params_of ps)
params_length [] = refl
params_length (x ∷ ps) = ap suc (params_length ps)
