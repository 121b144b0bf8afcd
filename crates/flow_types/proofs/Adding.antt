-- Variables are added one after another.
use Rattle.std.proofs.Common.{◌≡◌, ℕ, zero, suc, ◌+◌, ◌<◌, ◌≤◌, List, [], ◌∷◌, ◌++◌, length, map, drop, get_or, refl, sym, ap, ◌∙◌, append_assoc, append-nil, arith, add-one}
use Rattle.std.specs.declared.alloc.Global.{Global}
use Rattle.std.specs.declared.vec.Vec.{Vec}
use Rattle.flow_tree.specs.declared.decl.Decl.{Decl}
use Rattle.flow_tree.specs.declared.decl.Param.{Param}
use Rattle.flow_tree.specs.declared.stmt.Stmt.{Stmt}
use Rattle.flow_tree.specs.declared.stmt.When.{When}
use Rattle.flow_tree.specs.DeclView.{param_of, params_of, decl_of}
use Rattle.flow_tree.specs.StmtView.{stmt_of, body_of, branch_of, branches_of}
use Rattle.flow_types.specs.declared.variable.Variable.{Variable}
use Rattle.flow_types.specs.Variables.{VariableTree, param_variable, body_variables, branch_variables, variables_of}
use Rattle.flow_types.specs.VariablesView.{variable_of, variable_list, AddsOf, AddsBranch}
use Rattle.flow_types.proofs.Steps.{drop_more, drop_all}

pub map_end : {A B : Type 0} (f : A → B) (xs : List A) (x : A) → map f (xs ++ x ∷ []) ≡ map f xs ++ f x ∷ []
map_end f [] x = refl
map_end f (y ∷ ys) x = ap (λ l. f y ∷ l) (map_end f ys x)

pub body_step : (ss : List Stmt) (i : ℕ) (s : Stmt) (old new : List Variable) (total : List VariableTree) → i < length ss → s ≡ get_or ss i s → AddsOf (stmt_of s) old new
    → variable_list old ++ body_variables (body_of (drop i ss)) ≡ total → variable_list new ++ body_variables (body_of (drop (i + 1) ss)) ≡ total
body_step ss i s old new total lt e adds h =
    adds (body_of (drop (i + 1) ss)) ∙ ap (λ l. variable_list old ++ body_variables (body_of l)) (sym (drop_more ss i s lt e)) ∙ h

pub body_end : (ss : List Stmt) (i : ℕ) (new : List Variable) (total : List VariableTree) → length ss ≤ i → variable_list new ++ body_variables (body_of (drop i ss)) ≡ total
    → variable_list new ≡ total
body_end ss i new total le h = sym (append-nil (variable_list new)) ∙ ap (λ l. variable_list new ++ body_variables (body_of l)) (sym (drop_all ss i le)) ∙ h

pub branches_step : (ss : List When) (i : ℕ) (s : When) (old new : List Variable) (total : List VariableTree) → i < length ss → s ≡ get_or ss i s → AddsBranch (branch_of s) old new
    → variable_list old ++ branch_variables (branches_of (drop i ss)) ≡ total → variable_list new ++ branch_variables (branches_of (drop (i + 1) ss)) ≡ total
branches_step ss i s old new total lt e adds h =
    adds (branches_of (drop (i + 1) ss)) ∙ ap (λ l. variable_list old ++ branch_variables (branches_of l)) (sym (drop_more ss i s lt e)) ∙ h

pub branches_end : (ss : List When) (i : ℕ) (new : List Variable) (total : List VariableTree) → length ss ≤ i → variable_list new ++ branch_variables (branches_of (drop i ss)) ≡ total
    → variable_list new ≡ total
branches_end ss i new total le h = sym (append-nil (variable_list new)) ∙ ap (λ l. variable_list new ++ branch_variables (branches_of l)) (sym (drop_all ss i le)) ∙ h

-- one more variable at the end
pub params_step : (ps : List Param) (i : ℕ) (p : Param) (v : Variable) (old new : List Variable) (total : List VariableTree) → i < length ps → p ≡ get_or ps i p
    → variable_of v ≡ param_variable (param_of p) → new ≡ old ++ v ∷ []
    → variable_list old ++ map param_variable (params_of (drop i ps)) ≡ total → variable_list new ++ map param_variable (params_of (drop (i + 1) ps)) ≡ total
params_step ps i p v old new total lt e is n h =
    let rest = map param_variable (params_of (drop (i + 1) ps)) in
    ap (λ l. variable_list l ++ rest) n ∙ ap (λ l. l ++ rest) (map_end variable_of old v) ∙ append_assoc (variable_list old) (variable_of v ∷ []) rest
    ∙ ap (λ x. variable_list old ++ (x ∷ rest)) is ∙ ap (λ l. variable_list old ++ map param_variable (params_of l)) (sym (drop_more ps i p lt e)) ∙ h

pub params_end : (ps : List Param) (i : ℕ) (new : List Variable) (total : List VariableTree) → length ps ≤ i → variable_list new ++ map param_variable (params_of (drop i ps)) ≡ total
    → variable_list new ≡ total
params_end ps i new total le h = sym (append-nil (variable_list new)) ∙ ap (λ l. variable_list new ++ map param_variable (params_of l)) (sym (drop_all ps i le)) ∙ h
