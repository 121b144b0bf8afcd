-- The canonical text doesn't depend on places.
use Rattle.std.proofs.Common.{◌≡◌, ℕ, suc, List, [], ◌∷◌, ◌++◌, map, refl, sym, ap, ap₂, ◌∙◌}
use Rattle.std.specs.Prelude.{codes, if◌then◌else◌}
use Rattle.std.specs.Option.{option_map}
use Rattle.std.specs.declared.option.Option.{Option}
use Rattle.std.specs.declared.option.Option.TheVariants.{None, Some}
use Rattle.flow_tree.specs.declared.ty.Ident.{Ident}
use Rattle.flow_tree.specs.Spelling.{sign_bytes}
use Rattle.flow_tree.specs.Grammar.{op_sign}
use Rattle.flow_tree.specs.Tree.{ByName, ByIndex, ExprTree, ExprTrees, IntExpr, TextExpr, BoolExpr, VoidExpr, VarExpr, CallExpr, FieldExpr, MethodExpr, NotExpr, NegExpr, BinaryExpr, ParenExpr, NoExprs, MoreExprs}
use Rattle.flow_tree.specs.Body.{IntoTree, WaitTree, ChangeTree, PlusChange, MinusChange, UpChange, DownChange, Body, End, BlockStmt, IfStmt, IfElseStmt, WhileStmt, ForStmt, LoopStmt, BreakStmt, ContinueStmt, ReturnStmt, ThrowStmt, TryStmt, ChooseStmt, DeclareStmt, AssignStmt, ModifyStmt, CallStmt, WaitStmt, Branches, NoBranches, MoreBranches}
use Rattle.flow_tree.specs.Decls.{ParamTree, RoutineTree, DeclTree, StructDecl, FunctionDecl, ActorDecl, ProgramTree}
use Rattle.flow_tree.specs.Canon.{type_text, minus_gap, selected_text, expr_text, args_text, more_args_text, path_text, named_text, into_text, into_part, waiting_text, maybe_text, declare_text, assign_text, change_text, modify_text, call_text, part_text, line, body_text, branches_text, fields_text, more_params_text, params_text, routine_text, actor_text, decl_text, decls_text, Canon, placeless_ident, placeless_expr, placeless_exprs, placeless_into, placeless_wait, placeless_change, placeless_body, placeless_branches, placeless_param, placeless_routine, placeless_decl, bare}

gap_same : (e : ExprTree) → minus_gap e ≡ minus_gap (placeless_expr e)
gap_same (NegExpr e) = refl
gap_same (IntExpr n) = refl
gap_same _ = refl

mutual
  expr_same : (e : ExprTree) → expr_text e ≡ expr_text (placeless_expr e)
  expr_same (IntExpr n) = refl
  expr_same (TextExpr t) = refl
  expr_same (BoolExpr b) = refl
  expr_same VoidExpr = refl
  expr_same (VarExpr x) = refl
  expr_same (CallExpr f es) = ap (λ l. f.name ++ codes "(" ++ l ++ codes ")") (args_same es)
  expr_same (FieldExpr e x) = ap (λ l. l ++ codes "." ++ x.name) (expr_same e)
  expr_same (MethodExpr e (ByName f) es) = ap₂ (λ k l. selected_text k (ByName f) l) (expr_same e) (args_same es)
  expr_same (MethodExpr e ByIndex es) = ap₂ (λ k l. selected_text k ByIndex l) (expr_same e) (args_same es)
  expr_same (NotExpr e) = ap (λ l. codes "!" ++ l) (expr_same e)
  expr_same (NegExpr e) = ap₂ (λ k l. codes "-" ++ k ++ l) (gap_same e) (expr_same e)
  expr_same (BinaryExpr op a b) = ap₂ (λ k l. k ++ codes " " ++ sign_bytes (op_sign op) ++ codes " " ++ l) (expr_same a) (expr_same b)
  expr_same (ParenExpr e) = ap (λ l. codes "(" ++ l ++ codes ")") (expr_same e)

  args_same : (es : ExprTrees) → args_text es ≡ args_text (placeless_exprs es)
  args_same NoExprs = refl
  args_same (MoreExprs e es) = ap₂ (λ k l. k ++ l) (expr_same e) (more_args_same es)

  more_args_same : (es : ExprTrees) → more_args_text es ≡ more_args_text (placeless_exprs es)
  more_args_same NoExprs = refl
  more_args_same (MoreExprs e es) = ap₂ (λ k l. codes ", " ++ k ++ l) (expr_same e) (more_args_same es)

path_same : (xs : List Ident) → path_text xs ≡ path_text (map placeless_ident xs)
path_same [] = refl
path_same (x ∷ []) = refl
path_same (x ∷ y ∷ xs) = ap (λ l. x.name ++ codes "." ++ l) (path_same (y ∷ xs))

part_same : (i : Option IntoTree) → into_part i ≡ into_part (option_map placeless_into i)
part_same None = refl
part_same (Some i) = refl

waiting_same : (w : WaitTree) → waiting_text w ≡ waiting_text (placeless_wait w)
waiting_same w = λ i. part_same w.into i ++ (if w.next then codes "waitNext(" else codes "wait(") ++ expr_same w.operand i ++ codes ")"

maybe_same : (w : List ℕ) (e : Option ExprTree) → maybe_text w e ≡ maybe_text w (option_map placeless_expr e)
maybe_same w None = refl
maybe_same w (Some e) = ap (λ l. w ++ l) (expr_same e)

change_same : (c : ChangeTree) → change_text c ≡ change_text (placeless_change c)
change_same (PlusChange e) = ap (λ l. codes " += " ++ l) (expr_same e)
change_same (MinusChange e) = ap (λ l. codes " -= " ++ l) (expr_same e)
change_same UpChange = refl
change_same DownChange = refl

declare_same : (i : IntoTree) (e : Option ExprTree) → declare_text i e ≡ declare_text (placeless_into i) (option_map placeless_expr e)
declare_same i e = ap (λ l. into_text i ++ l) (maybe_same (codes " = ") e)

assign_same : (xs : List Ident) (e : ExprTree) → assign_text xs e ≡ assign_text (map placeless_ident xs) (placeless_expr e)
assign_same xs e = ap₂ (λ k l. k ++ codes " = " ++ l) (path_same xs) (expr_same e)

modify_same : (xs : List Ident) (c : ChangeTree) → modify_text xs c ≡ modify_text (map placeless_ident xs) (placeless_change c)
modify_same xs c = ap₂ (λ k l. k ++ l) (path_same xs) (change_same c)

call_same : (xs : List Ident) (es : ExprTrees) → call_text xs es ≡ call_text (map placeless_ident xs) (placeless_exprs es)
call_same xs es = ap₂ (λ k l. k ++ codes "(" ++ l ++ codes ")") (path_same xs) (args_same es)

part_text_same : (b : Body) → part_text b ≡ part_text (placeless_body b)
part_text_same (DeclareStmt at i e rest) = declare_same i e
part_text_same (AssignStmt at xs e rest) = assign_same xs e
part_text_same (ModifyStmt at xs c rest) = modify_same xs c
part_text_same End = refl
part_text_same _ = refl

mutual
  body_same : (k : ℕ) (b : Body) → body_text k b ≡ body_text k (placeless_body b)
  body_same k End = refl
  body_same k (BlockStmt at inner rest) = ap₂ (λ a b. line k (codes "{") ++ a ++ line k (codes "}") ++ b) (body_same (suc k) inner) (body_same k rest)
  body_same k (IfStmt at e body rest) = λ i. line k (codes "if (" ++ expr_same e i ++ codes ") {") ++ body_same (suc k) body i ++ line k (codes "}") ++ body_same k rest i
  body_same k (IfElseStmt at e body other rest) = λ i. line k (codes "if (" ++ expr_same e i ++ codes ") {") ++ body_same (suc k) body i ++ line k (codes "} else {") ++ body_same (suc k) other i
      ++ line k (codes "}") ++ body_same k rest i
  body_same k (WhileStmt at e inner rest) = λ i. line k (codes "while (" ++ expr_same e i ++ codes ") {") ++ body_same (suc k) inner i ++ line k (codes "}") ++ body_same k rest i
  body_same k (ForStmt at init e step inner rest) = λ i.
      line k (codes "for (" ++ part_text_same init i ++ codes "; " ++ maybe_same [] e i ++ codes "; " ++ part_text_same step i ++ codes ") {")
      ++ body_same (suc k) inner i ++ line k (codes "}") ++ body_same k rest i
  body_same k (LoopStmt at inner rest) = ap₂ (λ a b. line k (codes "loop {") ++ a ++ line k (codes "}") ++ b) (body_same (suc k) inner) (body_same k rest)
  body_same k (BreakStmt at rest) = ap (λ b. line k (codes "break;") ++ b) (body_same k rest)
  body_same k (ContinueStmt at rest) = ap (λ b. line k (codes "continue;") ++ b) (body_same k rest)
  body_same k (ReturnStmt at e rest) = λ i. line k (codes "return" ++ maybe_same (codes " ") e i ++ codes ";") ++ body_same k rest i
  body_same k (ThrowStmt at e rest) = λ i. line k (codes "throw" ++ maybe_same (codes " ") e i ++ codes ";") ++ body_same k rest i
  body_same k (TryStmt at inner p x handler rest) = λ i. line k (codes "try {") ++ body_same (suc k) inner i ++ line k (codes "} catch (Error& " ++ x.name ++ codes ") {")
      ++ body_same (suc k) handler i ++ line k (codes "}") ++ body_same k rest i
  body_same k (ChooseStmt at branches rest) = λ i. line k (codes "choose {") ++ branches_same (suc k) branches i ++ line k (codes "}") ++ body_same k rest i
  body_same k (DeclareStmt at v e rest) = λ i. line k (declare_same v e i ++ codes ";") ++ body_same k rest i
  body_same k (AssignStmt at xs e rest) = λ i. line k (assign_same xs e i ++ codes ";") ++ body_same k rest i
  body_same k (ModifyStmt at xs c rest) = λ i. line k (modify_same xs c i ++ codes ";") ++ body_same k rest i
  body_same k (CallStmt at xs es rest) = λ i. line k (call_same xs es i ++ codes ";") ++ body_same k rest i
  body_same k (WaitStmt at w rest) = λ i. line k (waiting_same w i ++ codes ";") ++ body_same k rest i

  branches_same : (k : ℕ) (bs : Branches) → branches_text k bs ≡ branches_text k (placeless_branches bs)
  branches_same k NoBranches = refl
  branches_same k (MoreBranches at w inner more) = λ i. line k (codes "when (" ++ waiting_same w i ++ codes ") {") ++ body_same (suc k) inner i ++ line k (codes "}") ++ branches_same k more i

fields_same : (fs : List ParamTree) → fields_text fs ≡ fields_text (map placeless_param fs)
fields_same [] = refl
fields_same (f ∷ fs) = ap (λ l. line 1 (named_text f.ty f.name ++ codes ";") ++ l) (fields_same fs)

more_params_same : (ps : List ParamTree) → more_params_text ps ≡ more_params_text (map placeless_param ps)
more_params_same [] = refl
more_params_same (p ∷ ps) = ap (λ l. codes ", " ++ named_text p.ty p.name ++ l) (more_params_same ps)

params_same : (ps : List ParamTree) → params_text ps ≡ params_text (map placeless_param ps)
params_same [] = refl
params_same (p ∷ ps) = ap (λ l. named_text p.ty p.name ++ l) (more_params_same ps)

routine_same : (w : List ℕ) (r : RoutineTree) → routine_text w r ≡ routine_text w (placeless_routine r)
routine_same w r = λ i. line 0 (w ++ codes " " ++ r.name.name ++ codes "(" ++ params_same r.params i ++ codes ") {") ++ body_same 1 r.body i ++ line 0 (codes "}")

decl_same : (d : DeclTree) → decl_text d ≡ decl_text (placeless_decl d)
decl_same (StructDecl r) = ap (λ l. line 0 (codes "struct " ++ r.name.name ++ codes " {") ++ l ++ line 0 (codes "};")) (fields_same r.fields)
decl_same (FunctionDecl f) = routine_same (type_text f.returns) f
decl_same (ActorDecl a) = routine_same (actor_text a.returns) a

decls_same : (ds : List DeclTree) → decls_text ds ≡ decls_text (map placeless_decl ds)
decls_same [] = refl
decls_same (d ∷ ds) = ap₂ (λ k l. k ++ l) (decl_same d) (decls_same ds)

pub same_text : (p q : ProgramTree) → bare p ≡ bare q → Canon p ≡ Canon q
same_text p q e = decls_same p.decls ∙ ap Canon e ∙ sym (decls_same q.decls)
