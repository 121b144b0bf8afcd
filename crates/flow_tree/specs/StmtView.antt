-- The statements of the code, seen as plain data: a statement is what it puts before a body.
use Rattle.std.specs.Prelude.{List, [], ◌∷◌, map}
use Rattle.std.specs.Option.{option_map}
use Rattle.std.specs.declared.option.Option.{Option}
use Rattle.std.specs.declared.option.Option.TheVariants.{None, Some}
use Rattle.std.specs.declared.alloc.Global.{Global}
use Rattle.std.specs.declared.boxed.Box.{Box}
use Rattle.std.specs.declared.vec.Vec.{Vec}
use Rattle.flow_base.specs.declared.place.Place.{Place}
use Rattle.flow_tree.specs.declared.stmt.Into as code
use Rattle.flow_tree.specs.declared.stmt.Waiting.{Waiting}
use Rattle.flow_tree.specs.declared.stmt.Change.{Change}
use Rattle.flow_tree.specs.declared.stmt.Change.TheVariants.{Plus, Minus, Up, Down}
use Rattle.flow_tree.specs.declared.stmt.Stmt.{Stmt, Stmt-F, fold-Stmt}
use Rattle.flow_tree.specs.declared.stmt.When.{When, When-F, fold-When}
use Rattle.flow_tree.specs.declared.stmt.StmtKind.{StmtKind, StmtKind-F, fold-StmtKind}
use Rattle.flow_tree.specs.declared.stmt.StmtKind.TheOpen.{Block, If, While, For, Loop, Break, Continue, Return, Throw, Try, Choose, Declare, Assign, Modify, Call, Wait}
use Rattle.flow_tree.specs.View.{type_of, expr_of, exprs_of}
use Rattle.flow_tree.specs.Tree.{ExprTree}
use Rattle.flow_tree.specs.Body.{IntoTree, WaitTree, ChangeTree, PlusChange, MinusChange, UpChange, DownChange, Body, End, BlockStmt, IfStmt, IfElseStmt, WhileStmt, ForStmt, LoopStmt, BreakStmt, ContinueStmt, ReturnStmt, ThrowStmt, TryStmt, ChooseStmt, DeclareStmt, AssignStmt, ModifyStmt, CallStmt, WaitStmt, Branches, NoBranches, MoreBranches}

abbrev pub into_of : code.Into → IntoTree
into_of i = record { state = i.state; ty = type_of i.ty; name = i.name }

abbrev pub waiting_of : Waiting → WaitTree
waiting_of w = record { into = option_map into_of w.into; next = w.next; operand = expr_of w.operand }

abbrev pub change_of : Change → ChangeTree
change_of (Plus e) = PlusChange (expr_of e)
change_of (Minus e) = MinusChange (expr_of e)
change_of Up = UpChange
change_of Down = DownChange

-- statements one after another, each put before what follows it
abbrev pub body_of_list : List (Body → Body) → Body
body_of_list [] = End
body_of_list (f ∷ fs) = f (body_of_list fs)

abbrev pub branches_of_list : List (Branches → Branches) → Branches
branches_of_list [] = NoBranches
branches_of_list (f ∷ fs) = f (branches_of_list fs)

-- a part of a `for`: a body of one statement, or of none
abbrev pub simple_step : Option (Box (Body → Body) Global) → Body
simple_step None = End
simple_step (Some f) = f.value End

abbrev pub if_step : Place → ExprTree → Body → Option (Vec (Body → Body) Global) → Body → Body
if_step at e then None rest = IfStmt at e then rest
if_step at e then (Some fs) rest = IfElseStmt at e then (body_of_list fs.items) rest

-- one layer of a statement, with the mirrors of its parts in their places
abbrev pub kind_step : StmtKind-F (Place → Body → Body) (Body → Body) (Branches → Branches) → Place → Body → Body
kind_step (Block fs) at rest = BlockStmt at (body_of_list fs.items) rest
kind_step (If e fs otherwise) at rest = if_step at (expr_of e) (body_of_list fs.items) otherwise rest
kind_step (While e fs) at rest = WhileStmt at (expr_of e) (body_of_list fs.items) rest
kind_step (For init e step fs) at rest =
    ForStmt at (simple_step init) (option_map expr_of e) (simple_step step) (body_of_list fs.items) rest
kind_step (Loop fs) at rest = LoopStmt at (body_of_list fs.items) rest
kind_step Break at rest = BreakStmt at rest
kind_step Continue at rest = ContinueStmt at rest
kind_step (Return e) at rest = ReturnStmt at (option_map expr_of e) rest
kind_step (Throw e) at rest = ThrowStmt at (option_map expr_of e) rest
kind_step (Try fs p x hs) at rest = TryStmt at (body_of_list fs.items) p x (body_of_list hs.items) rest
kind_step (Choose bs) at rest = ChooseStmt at (branches_of_list bs.items) rest
kind_step (Declare i e) at rest = DeclareStmt at (into_of i) (option_map expr_of e) rest
kind_step (Assign t e) at rest = AssignStmt at t.path.items (expr_of e) rest
kind_step (Modify t c) at rest = ModifyStmt at t.path.items (change_of c) rest
kind_step (Call t es) at rest = CallStmt at t.path.items (exprs_of es.items) rest
kind_step (Wait w) at rest = WaitStmt at (waiting_of w) rest

abbrev pub stmt_step : Stmt-F (Place → Body → Body) (Body → Body) (Branches → Branches) → Body → Body
stmt_step s = s.kind s.at

abbrev pub branch_step : When-F (Place → Body → Body) (Body → Body) (Branches → Branches) → Branches → Branches
branch_step w more = MoreBranches w.at (waiting_of w.waiting) (body_of_list w.body.items) more

abbrev pub kind_of : StmtKind → Place → Body → Body
kind_of = fold-StmtKind (Place → Body → Body) (Body → Body) (Branches → Branches) kind_step stmt_step branch_step

-- a statement, put before a body
abbrev pub stmt_of : Stmt → Body → Body
stmt_of = fold-Stmt (Place → Body → Body) (Body → Body) (Branches → Branches) kind_step stmt_step branch_step

-- a branch, put before others
abbrev pub branch_of : When → Branches → Branches
branch_of = fold-When (Place → Body → Body) (Body → Body) (Branches → Branches) kind_step stmt_step branch_step

abbrev pub body_of : List Stmt → Body
body_of ss = body_of_list (map stmt_of ss)

abbrev pub branches_of : List When → Branches
branches_of ws = branches_of_list (map branch_of ws)

-- a part of a `for`, and the body of an `else`
abbrev pub simple_of : Option (Box Stmt Global) → Body
simple_of None = End
simple_of (Some s) = stmt_of s.value End

abbrev pub else_of : Option (Vec Stmt Global) → Option Body
else_of None = None
else_of (Some ss) = Some (body_of ss.items)
