-- Well-typed input of an evaluation, and what is said of it.
use Rattle.std.specs.Prelude.{◌≡◌, ℕ, List, slice_get}
use Rattle.std.specs.declared.option.Option.{Option}
use Rattle.std.specs.declared.option.Option.TheVariants.{Some}
use Rattle.flow_tree.specs.Tree.{TypeTree, ExprTree}
use Rattle.flow_tree.specs.Decls.{ParamTree, RoutineTree}
use Rattle.flow_ast.specs.Typing.{param_types}
use Rattle.flow_value.specs.Values.{ValueTree, values_of_list}
use Rattle.flow_eval.specs.Eval.{Res, Done, Fails, Spent, Meaningless, Setting, function_called}
use Rattle.flow_eval.specs.Functions.{Eval, run_function, deepest}
use Rattle.flow_ast.specs.Fits.{Yields, FunctionsFit}
use Rattle.flow_eval.specs.Typed.{HasType, HaveTypes, CellsFit, VariablesFit}

-- an evaluation means something, and a thing that it comes to has a property
abbrev pub Safe : {A : Type 0} → (A → Type 0) → Res A → Type 0
Safe P (Done x left) = P x
Safe P (Fails e left) = Unit {0}
Safe P Spent = Unit {0}
Safe P Meaningless = ⊥

abbrev pub HasMeaning : Res ValueTree → Type 0
HasMeaning r = Safe (λ v. Unit {0}) r

-- cells have these types
abbrev pub cell_typed : (ℕ → Option TypeTree) → ℕ → TypeTree → Type 0
cell_typed types c t = types c ≡ Some t

-- a call of the function at a place
abbrev pub CallAt : Setting → ℕ → List ValueTree → ℕ → Res ValueTree
CallAt s k vs left = function_called s (run_function s deepest) (slice_get s.functions k) vs left

-- An expression has a type and no effects, for some types of cells (those of their future sides) and of variables that the cells
-- and the variables have, in a program whose functions are well typed. Actors' names may stand in the
-- scope, since they have types too.
pub record WellTyped (s : Setting) (look : List ℕ → Option ValueTree) (e : ExprTree) : Type 0 where
  pub cell_types : ℕ → Option TypeTree
  pub actors : List RoutineTree
  pub vars : List ParamTree
  pub type : TypeTree
  pub functions_fit : FunctionsFit s.records s.functions actors
  pub cells_fit : CellsFit s.records (cell_typed cell_types) s.cells
  pub variables_fit : VariablesFit s.records (cell_typed cell_types) look vars
  pub yields : Yields s.records s.functions actors vars e type

-- the function at a place is called with arguments of its parameters' types
pub record WellTypedCall (s : Setting) (k : ℕ) (vs : List ValueTree) : Type 0 where
  pub cell_types : ℕ → Option TypeTree
  pub actors : List RoutineTree
  pub called : RoutineTree
  pub there : slice_get s.functions k ≡ Some called
  pub functions_fit : FunctionsFit s.records s.functions actors
  pub cells_fit : CellsFit s.records (cell_typed cell_types) s.cells
  pub arguments_fit : HaveTypes s.records (cell_typed cell_types) (values_of_list vs) (param_types called.params)

-- a well-typed expression always means something, and its value has its type; so does a call
pub record KeepsTypes : Type 0 where
  pub of_expressions : (s : Setting) (look : List ℕ → Option ValueTree) (e : ExprTree) (w : WellTyped s look e) (left : ℕ)
      → Safe (λ v. HasType s.records (cell_typed w.cell_types) v w.type) (Eval s look e left)
  pub of_calls : (s : Setting) (k : ℕ) (vs : List ValueTree) (w : WellTypedCall s k vs) (left : ℕ)
      → Safe (λ v. HasType s.records (cell_typed w.cell_types) v w.called.returns) (CallAt s k vs left)
