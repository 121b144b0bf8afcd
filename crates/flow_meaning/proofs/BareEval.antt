-- Evaluation doesn't depend on places.
use Rattle.std.proofs.Common.{◌≡◌, ℕ, zero, suc, List, [], ◌∷◌, map, refl, ap, ap₂, ◌∙◌}
use Rattle.std.proofs.Math.Path.{fun_ext}
use Rattle.std.specs.Prelude.{position, slice_get, slice_set, option_map}
use Rattle.std.specs.Str.{bytes_eq}
use Rattle.std.specs.declared.option.Option.{Option}
use Rattle.std.specs.declared.option.Option.TheVariants.{None, Some}
use Rattle.flow_tree.specs.declared.ty.Ident.{Ident}
use Rattle.flow_tree.specs.Tree.{Selector, ByName, ByIndex, ExprTree, ExprTrees, IntExpr, TextExpr, BoolExpr, VoidExpr, VarExpr, CallExpr, FieldExpr, MethodExpr, NotExpr, NegExpr, BinaryExpr, ParenExpr, NoExprs, MoreExprs}
use Rattle.flow_tree.specs.Body.{IntoTree, ChangeTree, PlusChange, MinusChange, UpChange, DownChange, Body, BlockStmt, IfStmt, IfElseStmt, WhileStmt, ForStmt, LoopStmt, ReturnStmt, ThrowStmt, TryStmt, DeclareStmt, AssignStmt, ModifyStmt, CallStmt}
use Rattle.flow_tree.specs.Decls.{ParamTree, RoutineTree}
use Rattle.flow_tree.specs.Canon.{placeless_ident, placeless_selector, placeless_expr, placeless_exprs, placeless_into, placeless_change, placeless_body, placeless_param, placeless_routine}
use Rattle.flow_ast.specs.declared.predefined.Predefined.{Predefined}
use Rattle.flow_ast.specs.TypingNames.{named, selected, call_names}
use Rattle.flow_ast.specs.Typing.{routine_named}
use Rattle.flow_value.specs.declared.value.RecordId.{RecordId}
use Rattle.flow_value.specs.Values.{ValueTree}
use Rattle.flow_eval.specs.Answers.{bool_of, error_of}
use Rattle.flow_eval.specs.Operators.{operated, negated, inverted}
use Rattle.flow_eval.specs.Records.{record_id, field, field_answer}
use Rattle.flow_eval.specs.Eval.{Res, Done, Fails, Spent, Meaningless, Setting, Runner, then, at_once, second, method_called, function_called, declared_called, called, eval, eval_all}
use Rattle.flow_eval.specs.Functions.{Locals, Run, Goes, Returns, after, valued, chosen, looped, stepped, thrown, declared, put_at_var, put_place, put_path, read_path, assigned, with_first, entered, finished, scope, skip, leave_loop, change_sign, try_run, if_run, turn_run, loop_run, for_run, throw_run, declare_run, assign_run, change_operand, changed, modify_run, call_by, call_run, return_run, exec, body_run, run_function, deepest, Eval, Call}
use Rattle.flow_meaning.specs.Placeless.{placeless_setting}
use Rattle.flow_meaning.proofs.BareParts.{routine_bare, record_bare, field_bare, put_in_bare, read_in_bare}

selected_bare : (m : Selector) → selected (placeless_selector m) ≡ selected m
selected_bare (ByName x) = refl
selected_bare ByIndex = refl

pub then_same : {A B : Type 0} (go next : A → ℕ → Res B) (r q : Res A) → r ≡ q → ((x : A) (left : ℕ) → go x left ≡ next x left) → then r go ≡ then q next
then_same go next (Done x left) q h f = f x left ∙ ap (λ y. then y next) h
then_same go next (Fails e left) q h f = ap (λ y. then y next) h
then_same go next Spent q h f = ap (λ y. then y next) h
then_same go next Meaningless q h f = ap (λ y. then y next) h

valued_same : {A : Type 0} (go next : A → ℕ → Run) (vars : Locals) (r q : Res A) → r ≡ q → ((x : A) (left : ℕ) → go x left ≡ next x left) → valued r vars go ≡ valued q vars next
valued_same go next vars (Done x left) q h f = f x left ∙ ap (λ y. valued y vars next) h
valued_same go next vars (Fails e left) q h f = ap (λ y. valued y vars next) h
valued_same go next vars Spent q h f = ap (λ y. valued y vars next) h
valued_same go next vars Meaningless q h f = ap (λ y. valued y vars next) h

-- what runs statements
abbrev Go : Type 0
Go = Locals → ℕ → Run

pub entered_bare : (ps : List ParamTree) (vs : List ValueTree) → entered (map placeless_param ps) vs ≡ entered ps vs
entered_bare [] [] = refl
entered_bare [] (v ∷ vs) = refl
entered_bare (p ∷ ps) [] = refl
entered_bare (p ∷ ps) (v ∷ vs) = ap (with_first (p.name.name, v)) (entered_bare ps vs)

sign_bare : (c : ChangeTree) → change_sign (placeless_change c) ≡ change_sign c
sign_bare (PlusChange e) = refl
sign_bare _ = refl

-- s is the setting, and both runs do the same with a function
module _ (s : Setting) (run other : Runner) (runs : (f : RoutineTree) (vs : List ValueTree) (left : ℕ) → other (placeless_routine f) vs left ≡ run f vs left) where
  abbrev b : Setting
  b = placeless_setting s

  function_bare : (o : Option RoutineTree) (vs : List ValueTree) (left : ℕ) → function_called b other (option_map placeless_routine o) vs left ≡ function_called s run o vs left
  function_bare None vs left = refl
  function_bare (Some f) vs left = runs f vs left

  named_bare : (x : List ℕ) (vs : List ValueTree) (left : ℕ) → function_called b other (routine_named b.functions x) vs left ≡ function_called s run (routine_named s.functions x) vs left
  named_bare x vs left = ap (λ o. function_called b other o vs left) (routine_bare s.functions x) ∙ function_bare (routine_named s.functions x) vs left

  declared_bare : (r : Option RecordId) (f : List ℕ) (vs : List ValueTree) (left : ℕ) → declared_called b other r f vs left ≡ declared_called s run r f vs left
  declared_bare None f vs left = named_bare f vs left
  declared_bare (Some r) f vs left = refl

  called_bare : (p : Option Predefined) (f : List ℕ) (vs : List ValueTree) (left : ℕ) → called b other p f vs left ≡ called s run p f vs left
  called_bare None f vs left =
      ap (λ o. declared_called b other o f vs left) (record_bare s.records f) ∙ declared_bare (record_id s.records f) f vs left
  called_bare (Some p) f vs left = refl

  mutual
    pub eval_bare : (look : List ℕ → Option ValueTree) (e : ExprTree) (left : ℕ) → eval b other look (placeless_expr e) left ≡ eval s run look e left
    eval_bare look (CallExpr f xs) left =
        then_same (λ vs left. called b other (named call_names f.name) f.name vs left) (λ vs left. called s run (named call_names f.name) f.name vs left)
        (eval_all b other look (placeless_exprs xs) left) (eval_all s run look xs left) (all_bare look xs left)
        (called_bare (named call_names f.name) f.name)
    eval_bare look (FieldExpr e x) left =
        then_same (λ v left. at_once (field_answer (field b.records v x.name)) left) (λ v left. at_once (field_answer (field s.records v x.name)) left)
        (eval b other look (placeless_expr e) left) (eval s run look e left) (eval_bare look e left)
        (λ v l. ap (λ o. at_once (field_answer o) l) (field_bare s.records v x.name))
    eval_bare look (MethodExpr e m xs) left =
        ap (λ o. then (eval b other look (placeless_expr e) left) (λ v left. then (eval_all b other look (placeless_exprs xs) left) (λ vs left. at_once (method_called s.cells o v vs) left)))
        (selected_bare m)
        ∙ then_same (λ v left. then (eval_all b other look (placeless_exprs xs) left) (λ vs left. at_once (method_called s.cells (selected m) v vs) left))
        (λ v left. then (eval_all s run look xs left) (λ vs left. at_once (method_called s.cells (selected m) v vs) left))
        (eval b other look (placeless_expr e) left) (eval s run look e left) (eval_bare look e left)
        (λ v l. ap (λ r. then r (λ vs left. at_once (method_called s.cells (selected m) v vs) left)) (all_bare look xs l))
    eval_bare look (NotExpr e) left = ap (λ r. then r (λ v left. at_once (inverted v) left)) (eval_bare look e left)
    eval_bare look (NegExpr e) left = ap (λ r. then r (λ v left. at_once (negated v) left)) (eval_bare look e left)
    eval_bare look (BinaryExpr op x y) left =
        then_same (λ v left. second op v (eval b other look (placeless_expr y)) left) (λ v left. second op v (eval s run look y) left)
        (eval b other look (placeless_expr x) left) (eval s run look x left) (eval_bare look x left)
        (λ v l. ap (λ g. second op v g l) (fun_ext (eval_bare look y)))
    eval_bare look (ParenExpr e) left = eval_bare look e left
    eval_bare look _ left = refl

    pub all_bare : (look : List ℕ → Option ValueTree) (es : ExprTrees) (left : ℕ) → eval_all b other look (placeless_exprs es) left ≡ eval_all s run look es left
    all_bare look NoExprs left = refl
    all_bare look (MoreExprs e es) left =
        then_same (λ v left. then (eval_all b other look (placeless_exprs es) left) (λ vs left. Done (v ∷ vs) left))
        (λ v left. then (eval_all s run look es left) (λ vs left. Done (v ∷ vs) left))
        (eval b other look (placeless_expr e) left) (eval s run look e left) (eval_bare look e left)
        (λ v l. ap (λ r. then r (λ vs left. Done (v ∷ vs) left)) (all_bare look es l))

  if_bare : (e : ExprTree) (main otherwise : Go) (vars : Locals) (left : ℕ) → if_run b other (placeless_expr e) main otherwise vars left ≡ if_run s run e main otherwise vars left
  if_bare e main otherwise vars left = ap (λ r. valued r vars (λ v left. chosen (bool_of v) main otherwise vars left)) (eval_bare (named vars) e left)

  turn_bare : (e : ExprTree) (step body : Go) → turn_run b other (Some (placeless_expr e)) step body ≡ turn_run s run (Some e) step body
  turn_bare e step body = fun_ext (λ vars. fun_ext (λ left. ap (λ r. stepped r step) (if_bare e (scope body) leave_loop vars left)))

  loop_bare : (e : Option ExprTree) (step body : Go) → loop_run b other (option_map placeless_expr e) step body ≡ loop_run s run e step body
  loop_bare None step body = refl
  loop_bare (Some e) step body = ap looped (turn_bare e step body)

  for_bare : (init : Go) (e : Option ExprTree) (step body : Go) → for_run b other init (option_map placeless_expr e) step body ≡ for_run s run init e step body
  for_bare init e step body = fun_ext (λ vars. fun_ext (λ left. ap (after (init vars left)) (loop_bare e step body)))

  throw_bare : (e : Option ExprTree) (caught : Option (List ℕ)) (vars : Locals) (left : ℕ) → throw_run b other (option_map placeless_expr e) caught vars left ≡ throw_run s run e caught vars left
  throw_bare None caught vars left = refl
  throw_bare (Some e) caught vars left = ap (λ r. valued r vars (λ v left. thrown (error_of v) vars left)) (eval_bare (named vars) e left)

  declare_bare : (i : IntoTree) (e : Option ExprTree) (vars : Locals) (left : ℕ) → declare_run b other (placeless_into i) (option_map placeless_expr e) vars left ≡ declare_run s run i e vars left
  declare_bare i None vars left = refl
  declare_bare i (Some e) vars left = ap (λ r. valued r vars (λ v left. declared (Some v) i.name.name vars left)) (eval_bare (named vars) e left)

  at_var_bare : (vars : Locals) (k : ℕ) (o : Option (List ℕ × ValueTree)) (xs : List Ident) (w : ValueTree)
      → put_at_var b.records vars k o (map placeless_ident xs) w ≡ put_at_var s.records vars k o xs w
  at_var_bare vars k None xs w = refl
  at_var_bare vars k (Some v) xs w = ap (option_map (λ u. slice_set vars k (v.0, u))) (put_in_bare s.records (Some v.1) xs w)

  put_place_bare : (vars : Locals) (k : Option ℕ) (xs : List Ident) (w : ValueTree) → put_place b.records vars k (map placeless_ident xs) w ≡ put_place s.records vars k xs w
  put_place_bare vars None xs w = refl
  put_place_bare vars (Some k) xs w = at_var_bare vars k (slice_get vars k) xs w

  put_path_bare : (vars : Locals) (xs : List Ident) (w : ValueTree) → put_path b.records vars (map placeless_ident xs) w ≡ put_path s.records vars xs w
  put_path_bare vars [] w = refl
  put_path_bare vars (x ∷ xs) w = put_place_bare vars (position (λ v. bytes_eq x.name v.0) vars) xs w

  read_path_bare : (vars : Locals) (xs : List Ident) → read_path b.records vars (map placeless_ident xs) ≡ read_path s.records vars xs
  read_path_bare vars [] = refl
  read_path_bare vars (x ∷ xs) = read_in_bare s.records (named vars x.name) xs

  assign_bare : (xs : List Ident) (e : ExprTree) (vars : Locals) (left : ℕ) → assign_run b other (map placeless_ident xs) (placeless_expr e) vars left ≡ assign_run s run xs e vars left
  assign_bare xs e vars left =
      valued_same (λ v left. assigned (put_path b.records vars (map placeless_ident xs) v) left) (λ v left. assigned (put_path s.records vars xs v) left)
      vars (eval b other (named vars) (placeless_expr e) left) (eval s run (named vars) e left) (eval_bare (named vars) e left)
      (λ v l. ap (λ o. assigned o l) (put_path_bare vars xs v))

  operand_bare : (c : ChangeTree) (vars : Locals) (left : ℕ) → change_operand b other (placeless_change c) vars left ≡ change_operand s run c vars left
  operand_bare (PlusChange e) vars left = eval_bare (named vars) e left
  operand_bare (MinusChange e) vars left = eval_bare (named vars) e left
  operand_bare UpChange vars left = refl
  operand_bare DownChange vars left = refl

  changed_bare : (o : Option ValueTree) (c : ChangeTree) (xs : List Ident) (vars : Locals) (left : ℕ)
      → changed b other o (placeless_change c) (map placeless_ident xs) vars left ≡ changed s run o c xs vars left
  changed_bare None c xs vars left = refl
  changed_bare (Some v) c xs vars left =
      valued_same
      (λ w left. valued (at_once (operated (change_sign (placeless_change c)) v w) left) vars (λ u left. assigned (put_path b.records vars (map placeless_ident xs) u) left))
      (λ w left. valued (at_once (operated (change_sign c) v w) left) vars (λ u left. assigned (put_path s.records vars xs u) left))
      vars (change_operand b other (placeless_change c) vars left) (change_operand s run c vars left) (operand_bare c vars left)
      (λ w l.
      valued_same (λ u left. assigned (put_path b.records vars (map placeless_ident xs) u) left) (λ u left. assigned (put_path s.records vars xs u) left)
      vars (at_once (operated (change_sign (placeless_change c)) v w) l) (at_once (operated (change_sign c) v w) l)
      (ap (λ g. at_once (operated g v w) l) (sign_bare c))
      (λ u k. ap (λ o. assigned o k) (put_path_bare vars xs u)))

  modify_bare : (xs : List Ident) (c : ChangeTree) (vars : Locals) (left : ℕ) → modify_run b other (map placeless_ident xs) (placeless_change c) vars left ≡ modify_run s run xs c vars left
  modify_bare xs c vars left =
      ap (λ o. changed b other o (placeless_change c) (map placeless_ident xs) vars left) (read_path_bare vars xs) ∙ changed_bare (read_path s.records vars xs) c xs vars left

  call_by_bare : (xs : List Ident) (vs : List ValueTree) (left : ℕ) → call_by b other (map placeless_ident xs) vs left ≡ call_by s run xs vs left
  call_by_bare [] vs left = refl
  call_by_bare (x ∷ []) vs left = named_bare x.name vs left
  call_by_bare (x ∷ y ∷ ys) vs left = refl

  call_run_bare : (xs : List Ident) (es : ExprTrees) (vars : Locals) (left : ℕ) → call_run b other (map placeless_ident xs) (placeless_exprs es) vars left ≡ call_run s run xs es vars left
  call_run_bare xs es vars left =
      valued_same (λ vs left. valued (call_by b other (map placeless_ident xs) vs left) vars (λ v left. Goes vars left)) (λ vs left. valued (call_by s run xs vs left) vars (λ v left. Goes vars left))
      vars (eval_all b other (named vars) (placeless_exprs es) left) (eval_all s run (named vars) es left) (all_bare (named vars) es left)
      (λ vs l. ap (λ r. valued r vars (λ v left. Goes vars left)) (call_by_bare xs vs l))

  return_bare : (e : Option ExprTree) (vars : Locals) (left : ℕ) → return_run b other (option_map placeless_expr e) vars left ≡ return_run s run e vars left
  return_bare None vars left = refl
  return_bare (Some e) vars left = ap (λ r. valued r vars (λ v left. Returns v left)) (eval_bare (named vars) e left)

  -- statements as a whole
  exec_same : (x : Body) (c : Option (List ℕ)) → ((vars : Locals) (left : ℕ) → exec b other (placeless_body x) c vars left ≡ exec s run x c vars left)
      → exec b other (placeless_body x) c ≡ exec s run x c
  exec_same x c f = fun_ext (λ vars. fun_ext (λ left. f vars left))

  pub exec_bare : (x : Body) (c : Option (List ℕ)) (vars : Locals) (left : ℕ) → exec b other (placeless_body x) c vars left ≡ exec s run x c vars left
  exec_bare (BlockStmt at x k) c vars left = ap₂ (λ (g h : Go). after (scope g vars left) h) (exec_same x c (exec_bare x c)) (exec_same k c (exec_bare k c))
  exec_bare (IfStmt at e x k) c vars left =
      ap₂ (λ (g h : Go). after (if_run b other (placeless_expr e) (scope g) skip vars left) h) (exec_same x c (exec_bare x c)) (exec_same k c (exec_bare k c))
      ∙ ap (λ r. after r (exec s run k c)) (if_bare e (scope (exec s run x c)) skip vars left)
  exec_bare (IfElseStmt at e x y k) c vars left =
      ap₂ (λ (g h : Go). after (if_run b other (placeless_expr e) (scope g) (scope (exec b other (placeless_body y) c)) vars left) h) (exec_same x c (exec_bare x c)) (exec_same k c (exec_bare k c))
      ∙ ap (λ (g : Go). after (if_run b other (placeless_expr e) (scope (exec s run x c)) (scope g) vars left) (exec s run k c)) (exec_same y c (exec_bare y c))
      ∙ ap (λ r. after r (exec s run k c)) (if_bare e (scope (exec s run x c)) (scope (exec s run y c)) vars left)
  exec_bare (WhileStmt at e x k) c vars left =
      ap₂ (λ (g h : Go). after (loop_run b other (Some (placeless_expr e)) skip g vars left) h) (exec_same x c (exec_bare x c)) (exec_same k c (exec_bare k c))
      ∙ ap (λ (l : Go). after (l vars left) (exec s run k c)) (loop_bare (Some e) skip (exec s run x c))
  exec_bare (ForStmt at i e t x k) c vars left =
      ap₂ (λ (g h : Go). after (scope (for_run b other g (option_map placeless_expr e) (exec b other (placeless_body t) c) h) vars left) (exec b other (placeless_body k) c))
      (exec_same i c (exec_bare i c)) (exec_same x c (exec_bare x c))
      ∙ ap₂ (λ (g h : Go). after (scope (for_run b other (exec s run i c) (option_map placeless_expr e) g (exec s run x c)) vars left) h) (exec_same t c (exec_bare t c))
      (exec_same k c (exec_bare k c))
      ∙ ap (λ (l : Go). after (scope l vars left) (exec s run k c)) (for_bare (exec s run i c) e (exec s run t c) (exec s run x c))
  exec_bare (LoopStmt at x k) c vars left =
      ap₂ (λ (g h : Go). after (loop_run b other None skip g vars left) h) (exec_same x c (exec_bare x c)) (exec_same k c (exec_bare k c))
      ∙ ap (λ (l : Go). after (l vars left) (exec s run k c)) (loop_bare None skip (exec s run x c))
  exec_bare (ReturnStmt at e k) c vars left = ap₂ after (return_bare e vars left) (exec_same k c (exec_bare k c))
  exec_bare (ThrowStmt at e k) c vars left = ap₂ after (throw_bare e c vars left) (exec_same k c (exec_bare k c))
  exec_bare (TryStmt at x q n y k) c vars left =
      ap₂ (λ (g h : Go). after (try_run g n.name h vars left) (exec b other (placeless_body k) c)) (exec_same x c (exec_bare x c)) (exec_same y (Some n.name) (exec_bare y (Some n.name)))
      ∙ ap (λ (h : Go). after (try_run (exec s run x c) n.name (exec s run y (Some n.name)) vars left) h) (exec_same k c (exec_bare k c))
  exec_bare (DeclareStmt at i e k) c vars left = ap₂ after (declare_bare i e vars left) (exec_same k c (exec_bare k c))
  exec_bare (AssignStmt at xs e k) c vars left = ap₂ after (assign_bare xs e vars left) (exec_same k c (exec_bare k c))
  exec_bare (ModifyStmt at xs m k) c vars left = ap₂ after (modify_bare xs m vars left) (exec_same k c (exec_bare k c))
  exec_bare (CallStmt at xs es k) c vars left = ap₂ after (call_run_bare xs es vars left) (exec_same k c (exec_bare k c))
  exec_bare _ c vars left = refl

  body_bare : (f : RoutineTree) (o : Option Locals) (left : ℕ) → body_run b other (placeless_routine f) o left ≡ body_run s run f o left
  body_bare f None left = refl
  body_bare f (Some vars) left = ap finished (exec_bare f.body None vars left)

pub run_bare : (s : Setting) (n : ℕ) (f : RoutineTree) (vs : List ValueTree) (left : ℕ) → run_function (placeless_setting s) n (placeless_routine f) vs left ≡ run_function s n f vs left
run_bare s zero f vs zero = refl
run_bare s zero f vs (suc left) = refl
run_bare s (suc n) f vs zero = refl
run_bare s (suc n) f vs (suc left) =
    ap (λ o. body_run (placeless_setting s) (run_function (placeless_setting s) n) (placeless_routine f) o left) (entered_bare f.params vs)
    ∙ body_bare s (run_function s n) (run_function (placeless_setting s) n) (run_bare s n) f (entered f.params vs) left

pub whole_bare : (s : Setting) (look : List ℕ → Option ValueTree) (e : ExprTree) (left : ℕ) → Eval (placeless_setting s) look (placeless_expr e) left ≡ Eval s look e left
whole_bare s look e left = eval_bare s (run_function s deepest) (run_function (placeless_setting s) deepest) (run_bare s deepest) look e left

pub whole_all_bare : (s : Setting) (look : List ℕ → Option ValueTree) (es : ExprTrees) (left : ℕ)
    → eval_all (placeless_setting s) (run_function (placeless_setting s) deepest) look (placeless_exprs es) left ≡ eval_all s (run_function s deepest) look es left
whole_all_bare s look es left = all_bare s (run_function s deepest) (run_function (placeless_setting s) deepest) (run_bare s deepest) look es left

pub call_bare : (s : Setting) (f : RoutineTree) (vs : List ValueTree) (left : ℕ) → Call (placeless_setting s) (placeless_routine f) vs left ≡ Call s f vs left
call_bare s f vs left = run_bare s deepest f vs left
