-- The canonical text of a program, and when two programs are equal, places aside.
use Rattle.std.specs.Prelude.{ℕ, zero, suc, Bool, true, false, List, [], ◌∷◌, ◌++◌, map, codes, if◌then◌else◌}
use Rattle.std.specs.Fmt.{signed_decimal}
use Rattle.std.specs.Option.{option_map}
use Rattle.std.specs.declared.option.Option.{Option}
use Rattle.std.specs.declared.option.Option.TheVariants.{None, Some}
use Rattle.flow_base.specs.declared.place.Place.{Place}
use Rattle.flow_base.specs.Quote.{quoted}
use Rattle.flow_tree.specs.declared.ty.Ident.{Ident}
use Rattle.flow_tree.specs.Spelling.{sign_bytes}
use Rattle.flow_tree.specs.Tree.{Selector, ByName, ByIndex, TypeTree, IntType, BoolType, StringType, VoidType, ErrorType, NamedType, FutureType, FutureStreamType, PromiseType, PromiseStreamType, VectorType, NothingType, ExprTree, ExprTrees, IntExpr, TextExpr, BoolExpr, VoidExpr, VarExpr, CallExpr, FieldExpr, MethodExpr, NotExpr, NegExpr, BinaryExpr, ParenExpr, NoExprs, MoreExprs}
use Rattle.flow_tree.specs.Grammar.{op_sign}
use Rattle.flow_tree.specs.Body.{IntoTree, WaitTree, ChangeTree, PlusChange, MinusChange, UpChange, DownChange, Body, End, BlockStmt, IfStmt, IfElseStmt, WhileStmt, ForStmt, LoopStmt, BreakStmt, ContinueStmt, ReturnStmt, ThrowStmt, TryStmt, ChooseStmt, DeclareStmt, AssignStmt, ModifyStmt, CallStmt, WaitStmt, Branches, NoBranches, MoreBranches}
use Rattle.flow_tree.specs.Decls.{ParamTree, RecordTree, RoutineTree, DeclTree, StructDecl, FunctionDecl, ActorDecl, ProgramTree}

-- a type, without spaces
abbrev pub type_text : TypeTree → List ℕ
type_text IntType = codes "int"
type_text BoolType = codes "bool"
type_text StringType = codes "string"
type_text VoidType = codes "Void"
type_text ErrorType = codes "Error"
type_text (NamedType n) = n
type_text (FutureType t) = codes "Future<" ++ type_text t ++ codes ">"
type_text (FutureStreamType t) = codes "FutureStream<" ++ type_text t ++ codes ">"
type_text (PromiseType t) = codes "Promise<" ++ type_text t ++ codes ">"
type_text (PromiseStreamType t) = codes "PromiseStream<" ++ type_text t ++ codes ">"
type_text (VectorType t) = codes "vector<" ++ type_text t ++ codes ">"
type_text NothingType = codes "void"

abbrev pub bool_text : Bool → List ℕ
bool_text true = codes "true"
bool_text false = codes "false"

-- what stands between a unary `-` and its operand: one space before another unary `-`, else nothing
abbrev pub minus_gap : ExprTree → List ℕ
minus_gap (NegExpr e) = codes " "
minus_gap e = []

-- a selector behind the text of its base, with that of its arguments
abbrev pub selected_text : List ℕ → Selector → List ℕ → List ℕ
selected_text base (ByName f) args = base ++ codes "." ++ f.name ++ codes "(" ++ args ++ codes ")"
selected_text base ByIndex args = base ++ codes "[" ++ args ++ codes "]"

-- An expression: one space around a sign between two operands and after a comma, none after a sign
-- before an operand and none in a call.
abbrev mutual
  pub expr_text : ExprTree → List ℕ
  expr_text (IntExpr n) = signed_decimal n
  expr_text (TextExpr t) = quoted t
  expr_text (BoolExpr b) = bool_text b
  expr_text VoidExpr = codes "Void()"
  expr_text (VarExpr x) = x.name
  expr_text (CallExpr f es) = f.name ++ codes "(" ++ args_text es ++ codes ")"
  expr_text (FieldExpr e x) = expr_text e ++ codes "." ++ x.name
  expr_text (MethodExpr e m es) = selected_text (expr_text e) m (args_text es)
  expr_text (NotExpr e) = codes "!" ++ expr_text e
  expr_text (NegExpr e) = codes "-" ++ minus_gap e ++ expr_text e
  expr_text (BinaryExpr op a b) = expr_text a ++ codes " " ++ sign_bytes (op_sign op) ++ codes " " ++ expr_text b
  expr_text (ParenExpr e) = codes "(" ++ expr_text e ++ codes ")"

  pub args_text : ExprTrees → List ℕ
  args_text NoExprs = []
  args_text (MoreExprs e es) = expr_text e ++ more_args_text es

  -- arguments behind another
  pub more_args_text : ExprTrees → List ℕ
  more_args_text NoExprs = []
  more_args_text (MoreExprs e es) = codes ", " ++ expr_text e ++ more_args_text es

-- names with a dot between two
abbrev pub path_text : List Ident → List ℕ
path_text [] = []
path_text (x ∷ []) = x.name
path_text (x ∷ y ∷ xs) = x.name ++ codes "." ++ path_text (y ∷ xs)

-- a type and the name that it is the type of
abbrev pub named_text : TypeTree → Ident → List ℕ
named_text t x = type_text t ++ codes " " ++ x.name

abbrev pub into_text : IntoTree → List ℕ
into_text i = (if i.state then codes "state " else []) ++ named_text i.ty i.name

-- the variable that a wait declares, and the sign after it
abbrev pub into_part : Option IntoTree → List ℕ
into_part None = []
into_part (Some i) = into_text i ++ codes " = "

abbrev pub waiting_text : WaitTree → List ℕ
waiting_text w = into_part w.into ++ (if w.next then codes "waitNext(" else codes "wait(") ++ expr_text w.operand ++ codes ")"

-- an expression that may be absent, with these bytes before it
abbrev pub maybe_text : List ℕ → Option ExprTree → List ℕ
maybe_text before None = []
maybe_text before (Some e) = before ++ expr_text e

abbrev pub declare_text : IntoTree → Option ExprTree → List ℕ
declare_text i value = into_text i ++ maybe_text (codes " = ") value

abbrev pub assign_text : List Ident → ExprTree → List ℕ
assign_text path e = path_text path ++ codes " = " ++ expr_text e

abbrev pub change_text : ChangeTree → List ℕ
change_text (PlusChange e) = codes " += " ++ expr_text e
change_text (MinusChange e) = codes " -= " ++ expr_text e
change_text UpChange = codes "++"
change_text DownChange = codes "--"

abbrev pub modify_text : List Ident → ChangeTree → List ℕ
modify_text path c = path_text path ++ change_text c

abbrev pub call_text : List Ident → ExprTrees → List ℕ
call_text path es = path_text path ++ codes "(" ++ args_text es ++ codes ")"

-- the init or the step of a `for`: a declaration or a change, or nothing
abbrev pub part_text : Body → List ℕ
part_text (DeclareStmt at i value rest) = declare_text i value
part_text (AssignStmt at path e rest) = assign_text path e
part_text (ModifyStmt at path c rest) = modify_text path c
part_text other = []

-- four spaces for each level
abbrev pub indent : ℕ → List ℕ
indent zero = []
indent (suc k) = indent k ++ codes "    "

-- a line at this level
abbrev pub line : ℕ → List ℕ → List ℕ
line k text = indent k ++ text ++ 10 ∷ []

-- Statements at this level, each on a line of its own: a body stands one level further in, between a
-- line that ends in `{` and one that begins with `}`.
abbrev mutual
  pub body_text : ℕ → Body → List ℕ
  body_text k End = []
  body_text k (BlockStmt at inner rest) =
      line k (codes "{") ++ body_text (suc k) inner ++ line k (codes "}") ++ body_text k rest
  body_text k (IfStmt at e body rest) =
      line k (codes "if (" ++ expr_text e ++ codes ") {") ++ body_text (suc k) body ++ line k (codes "}") ++ body_text k rest
  body_text k (IfElseStmt at e body otherwise rest) =
      line k (codes "if (" ++ expr_text e ++ codes ") {") ++ body_text (suc k) body
      ++ line k (codes "} else {") ++ body_text (suc k) otherwise ++ line k (codes "}") ++ body_text k rest
  body_text k (WhileStmt at e inner rest) =
      line k (codes "while (" ++ expr_text e ++ codes ") {") ++ body_text (suc k) inner ++ line k (codes "}") ++ body_text k rest
  body_text k (ForStmt at init e step inner rest) =
      line k (codes "for (" ++ part_text init ++ codes "; " ++ maybe_text [] e ++ codes "; " ++ part_text step ++ codes ") {")
      ++ body_text (suc k) inner ++ line k (codes "}") ++ body_text k rest
  body_text k (LoopStmt at inner rest) =
      line k (codes "loop {") ++ body_text (suc k) inner ++ line k (codes "}") ++ body_text k rest
  body_text k (BreakStmt at rest) = line k (codes "break;") ++ body_text k rest
  body_text k (ContinueStmt at rest) = line k (codes "continue;") ++ body_text k rest
  body_text k (ReturnStmt at e rest) = line k (codes "return" ++ maybe_text (codes " ") e ++ codes ";") ++ body_text k rest
  body_text k (ThrowStmt at e rest) = line k (codes "throw" ++ maybe_text (codes " ") e ++ codes ";") ++ body_text k rest
  body_text k (TryStmt at inner p x handler rest) =
      line k (codes "try {") ++ body_text (suc k) inner
      ++ line k (codes "} catch (Error& " ++ x.name ++ codes ") {") ++ body_text (suc k) handler ++ line k (codes "}") ++ body_text k rest
  body_text k (ChooseStmt at branches rest) =
      line k (codes "choose {") ++ branches_text (suc k) branches ++ line k (codes "}") ++ body_text k rest
  body_text k (DeclareStmt at i value rest) = line k (declare_text i value ++ codes ";") ++ body_text k rest
  body_text k (AssignStmt at path e rest) = line k (assign_text path e ++ codes ";") ++ body_text k rest
  body_text k (ModifyStmt at path c rest) = line k (modify_text path c ++ codes ";") ++ body_text k rest
  body_text k (CallStmt at path es rest) = line k (call_text path es ++ codes ";") ++ body_text k rest
  body_text k (WaitStmt at w rest) = line k (waiting_text w ++ codes ";") ++ body_text k rest

  pub branches_text : ℕ → Branches → List ℕ
  branches_text k NoBranches = []
  branches_text k (MoreBranches at w inner more) =
      line k (codes "when (" ++ waiting_text w ++ codes ") {") ++ body_text (suc k) inner ++ line k (codes "}") ++ branches_text k more

-- each field on a line
abbrev pub fields_text : List ParamTree → List ℕ
fields_text [] = []
fields_text (f ∷ fs) = line 1 (named_text f.ty f.name ++ codes ";") ++ fields_text fs

-- parameters behind another
abbrev pub more_params_text : List ParamTree → List ℕ
more_params_text [] = []
more_params_text (p ∷ ps) = codes ", " ++ named_text p.ty p.name ++ more_params_text ps

abbrev pub params_text : List ParamTree → List ℕ
params_text [] = []
params_text (p ∷ ps) = named_text p.ty p.name ++ more_params_text ps

-- a function or an actor whose result is spelled so
abbrev pub routine_text : List ℕ → RoutineTree → List ℕ
routine_text returns r =
    line 0 (returns ++ codes " " ++ r.name.name ++ codes "(" ++ params_text r.params ++ codes ") {")
    ++ body_text 1 r.body ++ line 0 (codes "}")

-- what stands before the name of an actor that gives this
abbrev pub actor_text : TypeTree → List ℕ
actor_text NothingType = codes "ACTOR void"
actor_text t = codes "ACTOR Future<" ++ type_text t ++ codes ">"

abbrev pub decl_text : DeclTree → List ℕ
decl_text (StructDecl r) = line 0 (codes "struct " ++ r.name.name ++ codes " {") ++ fields_text r.fields ++ line 0 (codes "};")
decl_text (FunctionDecl f) = routine_text (type_text f.returns) f
decl_text (ActorDecl a) = routine_text (actor_text a.returns) a

abbrev pub decls_text : List DeclTree → List ℕ
decls_text [] = []
decls_text (d ∷ ds) = decl_text d ++ decls_text ds

-- The canonical text of a program: one statement or field per line, four spaces for each level, no
-- empty line and no comment. It doesn't depend on places.
abbrev pub Canon : ProgramTree → List ℕ
Canon p = decls_text p.decls

-- Equal, places aside: equal once every place is the first one.

abbrev pub first_place : Place
first_place = record { line = 1; column = 1; byte = 0 }

abbrev pub placeless_ident : Ident → Ident
placeless_ident x = record { name = x.name; at = first_place }

abbrev pub placeless_selector : Selector → Selector
placeless_selector (ByName f) = ByName (placeless_ident f)
placeless_selector ByIndex = ByIndex

abbrev mutual
  pub placeless_expr : ExprTree → ExprTree
  placeless_expr (IntExpr n) = IntExpr n
  placeless_expr (TextExpr t) = TextExpr t
  placeless_expr (BoolExpr b) = BoolExpr b
  placeless_expr VoidExpr = VoidExpr
  placeless_expr (VarExpr x) = VarExpr (placeless_ident x)
  placeless_expr (CallExpr f es) = CallExpr (placeless_ident f) (placeless_exprs es)
  placeless_expr (FieldExpr e x) = FieldExpr (placeless_expr e) (placeless_ident x)
  placeless_expr (MethodExpr e m es) = MethodExpr (placeless_expr e) (placeless_selector m) (placeless_exprs es)
  placeless_expr (NotExpr e) = NotExpr (placeless_expr e)
  placeless_expr (NegExpr e) = NegExpr (placeless_expr e)
  placeless_expr (BinaryExpr op a b) = BinaryExpr op (placeless_expr a) (placeless_expr b)
  placeless_expr (ParenExpr e) = ParenExpr (placeless_expr e)

  pub placeless_exprs : ExprTrees → ExprTrees
  placeless_exprs NoExprs = NoExprs
  placeless_exprs (MoreExprs e es) = MoreExprs (placeless_expr e) (placeless_exprs es)

abbrev pub placeless_into : IntoTree → IntoTree
placeless_into i = record { state = i.state; ty = i.ty; name = placeless_ident i.name }

abbrev pub placeless_wait : WaitTree → WaitTree
placeless_wait w = record { into = option_map placeless_into w.into; next = w.next; operand = placeless_expr w.operand }

abbrev pub placeless_change : ChangeTree → ChangeTree
placeless_change (PlusChange e) = PlusChange (placeless_expr e)
placeless_change (MinusChange e) = MinusChange (placeless_expr e)
placeless_change UpChange = UpChange
placeless_change DownChange = DownChange

abbrev mutual
  pub placeless_body : Body → Body
  placeless_body End = End
  placeless_body (BlockStmt at inner rest) = BlockStmt first_place (placeless_body inner) (placeless_body rest)
  placeless_body (IfStmt at e body rest) = IfStmt first_place (placeless_expr e) (placeless_body body) (placeless_body rest)
  placeless_body (IfElseStmt at e body otherwise rest) =
      IfElseStmt first_place (placeless_expr e) (placeless_body body) (placeless_body otherwise) (placeless_body rest)
  placeless_body (WhileStmt at e inner rest) = WhileStmt first_place (placeless_expr e) (placeless_body inner) (placeless_body rest)
  placeless_body (ForStmt at init e step inner rest) =
      ForStmt first_place (placeless_body init) (option_map placeless_expr e) (placeless_body step) (placeless_body inner)
      (placeless_body rest)
  placeless_body (LoopStmt at inner rest) = LoopStmt first_place (placeless_body inner) (placeless_body rest)
  placeless_body (BreakStmt at rest) = BreakStmt first_place (placeless_body rest)
  placeless_body (ContinueStmt at rest) = ContinueStmt first_place (placeless_body rest)
  placeless_body (ReturnStmt at e rest) = ReturnStmt first_place (option_map placeless_expr e) (placeless_body rest)
  placeless_body (ThrowStmt at e rest) = ThrowStmt first_place (option_map placeless_expr e) (placeless_body rest)
  placeless_body (TryStmt at inner p x handler rest) =
      TryStmt first_place (placeless_body inner) first_place (placeless_ident x) (placeless_body handler) (placeless_body rest)
  placeless_body (ChooseStmt at branches rest) = ChooseStmt first_place (placeless_branches branches) (placeless_body rest)
  placeless_body (DeclareStmt at i value rest) =
      DeclareStmt first_place (placeless_into i) (option_map placeless_expr value) (placeless_body rest)
  placeless_body (AssignStmt at path e rest) = AssignStmt first_place (map placeless_ident path) (placeless_expr e) (placeless_body rest)
  placeless_body (ModifyStmt at path c rest) = ModifyStmt first_place (map placeless_ident path) (placeless_change c) (placeless_body rest)
  placeless_body (CallStmt at path es rest) = CallStmt first_place (map placeless_ident path) (placeless_exprs es) (placeless_body rest)
  placeless_body (WaitStmt at w rest) = WaitStmt first_place (placeless_wait w) (placeless_body rest)

  pub placeless_branches : Branches → Branches
  placeless_branches NoBranches = NoBranches
  placeless_branches (MoreBranches at w inner more) =
      MoreBranches first_place (placeless_wait w) (placeless_body inner) (placeless_branches more)

abbrev pub placeless_param : ParamTree → ParamTree
placeless_param p = record { ty = p.ty; name = placeless_ident p.name }

abbrev pub placeless_record : RecordTree → RecordTree
placeless_record r = record { at = first_place; name = placeless_ident r.name; fields = map placeless_param r.fields }

abbrev pub placeless_routine : RoutineTree → RoutineTree
placeless_routine r = record {
  at = first_place;
  returns = r.returns;
  name = placeless_ident r.name;
  params = map placeless_param r.params;
  body = placeless_body r.body;
  close = first_place;
}

abbrev pub placeless_decl : DeclTree → DeclTree
placeless_decl (StructDecl r) = StructDecl (placeless_record r)
placeless_decl (FunctionDecl f) = FunctionDecl (placeless_routine f)
placeless_decl (ActorDecl a) = ActorDecl (placeless_routine a)

-- the program with every place the first one
abbrev pub bare : ProgramTree → ProgramTree
bare p = record { decls = map placeless_decl p.decls; end = first_place }
