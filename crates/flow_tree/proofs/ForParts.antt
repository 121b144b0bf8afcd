-- The init and the step of a `for`, by kind.
use Rattle.std.proofs.Common.{List}
use Rattle.std.specs.declared.option.Option.{Option}
use Rattle.flow_base.specs.declared.place.Place.{Place}
use Rattle.flow_tree.specs.declared.ty.Ident.{Ident}
use Rattle.flow_tree.specs.Tree.{ExprTree}
use Rattle.flow_tree.specs.Body.{IntoTree, ChangeTree, Body, End, DeclareStmt, AssignStmt, ModifyStmt}
use Rattle.flow_tree.specs.Formed.{IsStep, IsInit}

pub data InitKind : Body → Type 0 where
  no_init : InitKind End
  declares : (at : Place) (i : IntoTree) (v : Option ExprTree) → InitKind (DeclareStmt at i v End)
  assigns : (at : Place) (xs : List Ident) (v : ExprTree) → InitKind (AssignStmt at xs v End)
  modifies : (at : Place) (xs : List Ident) (c : ChangeTree) → InitKind (ModifyStmt at xs c End)

pub init_kind : (i : Body) → IsInit i → InitKind i
init_kind End s = no_init
init_kind (DeclareStmt at i v End) s = declares at i v
init_kind (AssignStmt at xs v End) s = assigns at xs v
init_kind (ModifyStmt at xs c End) s = modifies at xs c
init_kind b s = absurd s

pub data StepKind : Body → Type 0 where
  no_step : StepKind End
  assigned : (at : Place) (xs : List Ident) (v : ExprTree) → StepKind (AssignStmt at xs v End)
  modified : (at : Place) (xs : List Ident) (c : ChangeTree) → StepKind (ModifyStmt at xs c End)

pub step_kind : (t : Body) → IsStep t → StepKind t
step_kind End s = no_step
step_kind (AssignStmt at xs v End) s = assigned at xs v
step_kind (ModifyStmt at xs c End) s = modified at xs c
step_kind b s = absurd s
