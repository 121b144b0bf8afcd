-- Statements as plain data: a body is a first statement and the body after it, or the end.
use Rattle.std.specs.Prelude.{Bool, List}
use Rattle.std.specs.declared.option.Option.{Option}
use Rattle.flow_base.specs.declared.place.Place.{Place}
use Rattle.flow_tree.specs.declared.ty.Ident.{Ident}
use Rattle.flow_tree.specs.Tree.{TypeTree, ExprTree, ExprTrees}

-- a declared variable: a state variable or a local
pub record IntoTree : Type 0 where
  pub state : Bool
  pub ty : TypeTree
  pub name : Ident

-- a wait for a single result, or for the next element of a stream, and the variable that it declares
pub record WaitTree : Type 0 where
  pub into : Option IntoTree
  pub next : Bool
  pub operand : ExprTree

-- a change of a variable in place
pub data ChangeTree : Type 0 where
  PlusChange : ExprTree → ChangeTree
  MinusChange : ExprTree → ChangeTree
  UpChange : ChangeTree
  DownChange : ChangeTree

-- Each statement has its place first and the body after it last. The init and the step of a `for`
-- are bodies of one statement, or of none where the part is absent. A branch of a `choose` has the
-- place of its `when`, its wait, its body, and the branches after it.
mutual
  pub data Body : Type 0 where
    End : Body
    BlockStmt : Place → (inner rest : Body) → Body
    IfStmt : Place → ExprTree → (then rest : Body) → Body
    IfElseStmt : Place → ExprTree → (then otherwise rest : Body) → Body
    WhileStmt : Place → ExprTree → (inner rest : Body) → Body
    ForStmt : Place → (init : Body) → Option ExprTree → (step inner rest : Body) → Body
    LoopStmt : Place → (inner rest : Body) → Body
    BreakStmt : Place → (rest : Body) → Body
    ContinueStmt : Place → (rest : Body) → Body
    ReturnStmt : Place → Option ExprTree → (rest : Body) → Body
    ThrowStmt : Place → Option ExprTree → (rest : Body) → Body
    TryStmt : Place → (inner : Body) → (catch : Place) → Ident → (handler rest : Body) → Body
    ChooseStmt : Place → Branches → (rest : Body) → Body
    DeclareStmt : Place → IntoTree → Option ExprTree → (rest : Body) → Body
    AssignStmt : Place → List Ident → ExprTree → (rest : Body) → Body
    ModifyStmt : Place → List Ident → ChangeTree → (rest : Body) → Body
    CallStmt : Place → List Ident → ExprTrees → (rest : Body) → Body
    WaitStmt : Place → WaitTree → (rest : Body) → Body

  pub data Branches : Type 0 where
    NoBranches : Branches
    MoreBranches : Place → WaitTree → (inner : Body) → (more : Branches) → Branches
