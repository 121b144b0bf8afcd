-- The variables of functions and actors.
use Rattle.std.specs.Prelude.{Bool, true, false, List, [], ◌∷◌, ◌++◌, map}
use Rattle.std.specs.declared.option.Option.{Option}
use Rattle.std.specs.declared.option.Option.TheVariants.{None, Some}
use Rattle.flow_tree.specs.declared.ty.Ident.{Ident}
use Rattle.flow_tree.specs.Tree.{TypeTree, ErrorType}
use Rattle.flow_tree.specs.Body.{IntoTree, WaitTree, Body, DeclareStmt, WaitStmt, Branches}
use Rattle.flow_tree.specs.Folds.{Fold, folded, folded_branches, listing}
use Rattle.flow_tree.specs.Decls.{ParamTree, RoutineTree, DeclTree, StructDecl, FunctionDecl, ActorDecl}
use Rattle.flow_types.specs.declared.variable.VarKind.{VarKind}
use Rattle.flow_types.specs.declared.variable.VarKind.TheVariants.{Param, State, Local}

-- a variable: its name, whether it is a parameter, a state variable or a local, and its type
pub record VariableTree : Type 0 where
  pub name : Ident
  pub kind : VarKind
  pub ty : TypeTree

abbrev pub param_variable : ParamTree → VariableTree
param_variable p = record { name = p.name; kind = Param; ty = p.ty }

abbrev pub kind_if : Bool → VarKind
kind_if true = State
kind_if false = Local

abbrev pub into_variable : IntoTree → VariableTree
into_variable i = record { name = i.name; kind = kind_if i.state; ty = i.ty }

abbrev pub into_variables : Option IntoTree → List VariableTree
into_variables None = []
into_variables (Some i) = into_variable i ∷ []

abbrev pub error_variable : Ident → VariableTree
error_variable x = record { name = x; kind = Local; ty = ErrorType }

abbrev pub waited_variables : WaitTree → List VariableTree
waited_variables w = into_variables w.into

abbrev pub stmt_variables : Body → List VariableTree
stmt_variables (DeclareStmt at i v k) = into_variable i ∷ []
stmt_variables (WaitStmt at w k) = waited_variables w
stmt_variables b = []

-- what the statements of a body declare, in the order of the text; a `catch` declares its error
abbrev pub variables_listed : Fold (List VariableTree)
variables_listed = listing stmt_variables (λ x. error_variable x ∷ []) waited_variables

abbrev pub body_variables : Body → List VariableTree
body_variables b = folded variables_listed b

abbrev pub branch_variables : Branches → List VariableTree
branch_variables bs = folded_branches variables_listed bs

-- the parameters, and then the others; a record has none
abbrev pub routine_variables : RoutineTree → List VariableTree
routine_variables f = map param_variable f.params ++ body_variables f.body

abbrev pub variables_of : DeclTree → List VariableTree
variables_of (StructDecl r) = []
variables_of (FunctionDecl f) = routine_variables f
variables_of (ActorDecl f) = routine_variables f
