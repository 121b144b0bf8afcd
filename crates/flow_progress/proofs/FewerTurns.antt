-- Evaluation leaves no more turns than it has.
use Rattle.std.proofs.Common.{ℕ, zero, suc, ◌≤◌, List, [], ◌∷◌, arith}
use Rattle.std.specs.Prelude.{Bool, true, false, length}
use Rattle.std.specs.declared.option.Option.{Option}
use Rattle.std.specs.declared.option.Option.TheVariants.{None, Some}
use Rattle.flow_tree.specs.declared.ty.Ident.{Ident}
use Rattle.flow_tree.specs.declared.expr.Op.{Op}
use Rattle.flow_tree.specs.declared.expr.Op.TheVariants.{Or, And}
use Rattle.flow_ast.specs.declared.predefined.Predefined as code
use Rattle.flow_tree.specs.Tree.{ExprTree, ExprTrees, VarExpr, CallExpr, FieldExpr, MethodExpr, NotExpr, NegExpr, BinaryExpr, ParenExpr, NoExprs, MoreExprs}
use Rattle.flow_tree.specs.Body.{IntoTree, ChangeTree, PlusChange, MinusChange, UpChange, DownChange, Body, End, BlockStmt, IfStmt, IfElseStmt, WhileStmt, ForStmt, LoopStmt, BreakStmt, ContinueStmt, ReturnStmt, ThrowStmt, TryStmt, ChooseStmt, DeclareStmt, AssignStmt, ModifyStmt, CallStmt, WaitStmt}
use Rattle.flow_tree.specs.Decls.{RoutineTree}
use Rattle.flow_ast.specs.TypingNames.{named, selected, call_names, constant_names}
use Rattle.flow_ast.specs.Typing.{routine_named}
use Rattle.flow_value.specs.declared.value.RecordId.{RecordId}
use Rattle.flow_value.specs.Values.{ValueTree}
use Rattle.flow_eval.specs.Answers.{Answer, Given, Throws, NoMeaning, truth, bool_of, error_of}
use Rattle.flow_eval.specs.Operators.{operated, negated, inverted}
use Rattle.flow_eval.specs.Predefined.{call_answer}
use Rattle.flow_eval.specs.Records.{record_id, field, field_answer}
use Rattle.flow_eval.specs.Eval.{Res, Done, Fails, Spent, Meaningless, Setting, Runner, then, at_once, variable, truth_of, or_then, and_then, both, second, method_called, function_called, declared_called, called, eval, eval_all}
use Rattle.flow_eval.specs.Functions.{Locals, Run, Goes, Breaks, Continues, Returns, Raises, SpentRun, NoRun, after, scoped, valued, chosen, again, passes, stepped, caught_by, thrown, error_at, rethrown, default_value, declared, put_path, read_path, assigned, entered, finished, scope, skip, leave_loop, change_sign, handled, try_run, evaluated, if_run, pass_run, turn_run, loop_run, for_run, throw_run, declare_run, assign_run, change_operand, changed, modify_run, call_by, call_run, return_run, exec, body_run, run_function, deepest, Eval, Call}

-- what is left after an evaluation, or after statements, is n at most
abbrev pub AtMost : {A : Type 0} → ℕ → Res A → Type 0
AtMost n (Done x left) = left ≤ n
AtMost n (Fails e left) = left ≤ n
AtMost n Spent = Unit {0}
AtMost n Meaningless = Unit {0}

abbrev RunAtMost : ℕ → Run → Type 0
RunAtMost n (Goes vars left) = left ≤ n
RunAtMost n (Breaks vars left) = left ≤ n
RunAtMost n (Continues vars left) = left ≤ n
RunAtMost n (Returns v left) = left ≤ n
RunAtMost n (Raises e vars left) = left ≤ n
RunAtMost n SpentRun = Unit {0}
RunAtMost n NoRun = Unit {0}

-- what goes on with n turns at most leaves n at most
abbrev pub Fewer : {A B : Type 0} → ℕ → (A → ℕ → Res B) → Type 0
Fewer {A = A} n go = (x : A) (left : ℕ) → left ≤ n → AtMost n (go x left)

abbrev FewerRuns : {A : Type 0} → ℕ → (A → ℕ → Run) → Type 0
FewerRuns {A = A} n go = (x : A) (left : ℕ) → left ≤ n → RunAtMost n (go x left)

pub then_fewer : {A B : Type 0} (n : ℕ) (r : Res A) (go : A → ℕ → Res B) → AtMost n r → Fewer n go → AtMost n (then r go)
then_fewer n (Done x left) go h f = f x left h
then_fewer n (Fails e left) go h f = h
then_fewer n Spent go h f = tt
then_fewer n Meaningless go h f = tt

once_fewer : (n : ℕ) (a : Answer) (left : ℕ) → left ≤ n → AtMost n (at_once a left)
once_fewer n (Given v) left h = h
once_fewer n (Throws e) left h = h
once_fewer n NoMeaning left h = tt

abbrev pub RunnerFewer : ℕ → Runner → Type 0
RunnerFewer n run = (f : RoutineTree) (vs : List ValueTree) (left : ℕ) → left ≤ n → AtMost n (run f vs left)

module _ (n : ℕ) (s : Setting) (run : Runner) (runs : RunnerFewer n run) where
  pub function_fewer : (f : Option RoutineTree) (vs : List ValueTree) (left : ℕ) → left ≤ n → AtMost n (function_called s run f vs left)
  function_fewer None vs left h = tt
  function_fewer (Some f) vs left h = runs f vs left h

  declared_fewer : (r : Option RecordId) (f : List ℕ) (vs : List ValueTree) (left : ℕ) → left ≤ n → AtMost n (declared_called s run r f vs left)
  declared_fewer None f vs left h = function_fewer (routine_named s.functions f) vs left h
  declared_fewer (Some r) f vs left h = h

  called_fewer : (p : Option code.Predefined) (f : List ℕ) (vs : List ValueTree) (left : ℕ) → left ≤ n → AtMost n (called s run p f vs left)
  called_fewer None f vs left h = declared_fewer (record_id s.records f) f vs left h
  called_fewer (Some p) f vs left h = once_fewer n (call_answer p s.now vs) left h

  truth_fewer : (r : Res ValueTree) → AtMost n r → AtMost n (truth_of r)
  truth_fewer r h = then_fewer n r (λ v left. at_once (truth (bool_of v)) left) h (λ v left le. once_fewer n (truth (bool_of v)) left le)

  both_fewer : (op : Op) (v : ValueTree) (r : Res ValueTree) → AtMost n r → AtMost n (both op v r)
  both_fewer op v r h = then_fewer n r (λ w left. at_once (operated op v w) left) h (λ w left le. once_fewer n (operated op v w) left le)

  abbrev Lazy : (ℕ → Res ValueTree) → Type 0
  Lazy go = (left : ℕ) → left ≤ n → AtMost n (go left)

  or_fewer : (b : Option Bool) (go : ℕ → Res ValueTree) → Lazy go → Lazy (or_then b go)
  or_fewer None go h left le = tt
  or_fewer (Some true) go h left le = le
  or_fewer (Some false) go h left le = truth_fewer (go left) (h left le)

  and_fewer : (b : Option Bool) (go : ℕ → Res ValueTree) → Lazy go → Lazy (and_then b go)
  and_fewer None go h left le = tt
  and_fewer (Some true) go h left le = truth_fewer (go left) (h left le)
  and_fewer (Some false) go h left le = le

  second_fewer : (op : Op) (v : ValueTree) (go : ℕ → Res ValueTree) → Lazy go → Lazy (second op v go)
  second_fewer Or v go h left le = or_fewer (bool_of v) go h left le
  second_fewer And v go h left le = and_fewer (bool_of v) go h left le
  second_fewer op v go h left le = both_fewer op v (go left) (h left le)

  mutual
    pub eval_fewer : (look : List ℕ → Option ValueTree) (e : ExprTree) (left : ℕ) → left ≤ n → AtMost n (eval s run look e left)
    eval_fewer look (VarExpr x) left h = once_fewer n (variable look x.name (named constant_names x.name)) left h
    eval_fewer look (CallExpr f xs) left h =
        then_fewer n (eval_all s run look xs left) (λ vs left. called s run (named call_names f.name) f.name vs left) (eval_all_fewer look xs left h)
        (λ vs left le. called_fewer (named call_names f.name) f.name vs left le)
    eval_fewer look (FieldExpr e x) left h =
        then_fewer n (eval s run look e left) (λ v left. at_once (field_answer (field s.records v x.name)) left) (eval_fewer look e left h)
        (λ v left le. once_fewer n (field_answer (field s.records v x.name)) left le)
    eval_fewer look (MethodExpr e m xs) left h =
        then_fewer n (eval s run look e left) (λ v left. then (eval_all s run look xs left) (λ vs left. at_once (method_called s.cells (selected m) v vs) left))
        (eval_fewer look e left h)
        (λ v left le. then_fewer n (eval_all s run look xs left) (λ vs left. at_once (method_called s.cells (selected m) v vs) left)
        (eval_all_fewer look xs left le) (λ vs left le. once_fewer n (method_called s.cells (selected m) v vs) left le))
    eval_fewer look (NotExpr e) left h = then_fewer n (eval s run look e left) (λ v left. at_once (inverted v) left) (eval_fewer look e left h) (λ v left le. once_fewer n (inverted v) left le)
    eval_fewer look (NegExpr e) left h = then_fewer n (eval s run look e left) (λ v left. at_once (negated v) left) (eval_fewer look e left h) (λ v left le. once_fewer n (negated v) left le)
    eval_fewer look (BinaryExpr op a b) left h =
        then_fewer n (eval s run look a left) (λ v left. second op v (eval s run look b) left) (eval_fewer look a left h)
        (λ v left le. second_fewer op v (eval s run look b) (λ l m. eval_fewer look b l m) left le)
    eval_fewer look (ParenExpr e) left h = eval_fewer look e left h
    eval_fewer look _ left h = h

    pub eval_all_fewer : (look : List ℕ → Option ValueTree) (es : ExprTrees) (left : ℕ) → left ≤ n → AtMost n (eval_all s run look es left)
    eval_all_fewer look NoExprs left h = h
    eval_all_fewer look (MoreExprs e es) left h =
        then_fewer n (eval s run look e left) (λ v left. then (eval_all s run look es left) (λ vs left. Done (v ∷ vs) left)) (eval_fewer look e left h)
        (λ v left le. then_fewer n (eval_all s run look es left) (λ vs left. Done (v ∷ vs) left) (eval_all_fewer look es left le) (λ vs left le. le))

  after_fewer : (r : Run) (go : Locals → ℕ → Run) → RunAtMost n r → FewerRuns n go → RunAtMost n (after r go)
  after_fewer (Goes vars left) go h f = f vars left h
  after_fewer SpentRun go h f = tt
  after_fewer NoRun go h f = tt
  after_fewer _ go h f = h

  scoped_fewer : (k : ℕ) (r : Run) → RunAtMost n r → RunAtMost n (scoped k r)
  scoped_fewer k SpentRun h = tt
  scoped_fewer k NoRun h = tt
  scoped_fewer k _ h = h

  scope_fewer : (go : Locals → ℕ → Run) → FewerRuns n go → FewerRuns n (scope go)
  scope_fewer go f vars left le = scoped_fewer (length vars) (go vars left) (f vars left le)

  valued_fewer : {A : Type 0} (r : Res A) (vars : Locals) (go : A → ℕ → Run) → AtMost n r → FewerRuns n go → RunAtMost n (valued r vars go)
  valued_fewer (Done x left) vars go h f = f x left h
  valued_fewer (Fails e left) vars go h f = h
  valued_fewer Spent vars go h f = tt
  valued_fewer Meaningless vars go h f = tt

  chosen_fewer : (b : Option Bool) (main other : Locals → ℕ → Run) → FewerRuns n main → FewerRuns n other → FewerRuns n (chosen b main other)
  chosen_fewer None main other f g vars left le = tt
  chosen_fewer (Some true) main other f g vars left le = f vars left le
  chosen_fewer (Some false) main other f g vars left le = g vars left le

  again_fewer : (r : Run) (go : Locals → ℕ → Run) → RunAtMost n r → FewerRuns n go → RunAtMost n (again r go)
  again_fewer (Goes vars left) go h f = f vars left h
  again_fewer (Continues vars left) go h f = f vars left h
  again_fewer (Breaks vars left) go h f = h
  again_fewer (Returns v left) go h f = h
  again_fewer (Raises e vars left) go h f = h
  again_fewer SpentRun go h f = tt
  again_fewer NoRun go h f = tt

  passes_fewer : (pass : Locals → ℕ → Run) → FewerRuns n pass → (most : ℕ) → FewerRuns n (passes pass most)
  passes_fewer pass f zero vars zero le = tt
  passes_fewer pass f zero vars (suc left) le = tt
  passes_fewer pass f (suc most) vars zero le = tt
  passes_fewer pass f (suc most) vars (suc left) le = again_fewer (pass vars left) (passes pass most) (f vars left (omega (arith, le))) (passes_fewer pass f most)

  stepped_fewer : (r : Run) (step : Locals → ℕ → Run) → RunAtMost n r → FewerRuns n step → RunAtMost n (stepped r step)
  stepped_fewer (Goes vars left) step h f = f vars left h
  stepped_fewer (Continues vars left) step h f = f vars left h
  stepped_fewer (Breaks vars left) step h f = h
  stepped_fewer (Returns v left) step h f = h
  stepped_fewer (Raises e vars left) step h f = h
  stepped_fewer SpentRun step h f = tt
  stepped_fewer NoRun step h f = tt

  caught_fewer : (r : Run) (handler : ℕ → Locals → ℕ → Run) → RunAtMost n r → ((err : ℕ) → FewerRuns n (handler err)) → RunAtMost n (caught_by r handler)
  caught_fewer (Raises e vars left) handler h f = f e vars left h
  caught_fewer SpentRun handler h f = tt
  caught_fewer NoRun handler h f = tt
  caught_fewer _ handler h f = h

  thrown_fewer : (o : Option ℕ) → FewerRuns n (thrown o)
  thrown_fewer None vars left le = tt
  thrown_fewer (Some e) vars left le = le

  rethrown_fewer : (x : Option (List ℕ)) → FewerRuns n (rethrown x)
  rethrown_fewer None vars left le = tt
  rethrown_fewer (Some x) vars left le = thrown_fewer (error_at (named vars x)) vars left le

  declared_run_fewer : (o : Option ValueTree) (x : List ℕ) → FewerRuns n (declared o x)
  declared_run_fewer None x vars left le = tt
  declared_run_fewer (Some v) x vars left le = le

  assigned_fewer : (o : Option Locals) (left : ℕ) → left ≤ n → RunAtMost n (assigned o left)
  assigned_fewer None left le = tt
  assigned_fewer (Some vars) left le = le

  evaluated_fewer : (e : ExprTree) → Fewer n (evaluated s run e)
  evaluated_fewer e vars left le = eval_fewer (named vars) e left le

  if_fewer : (e : ExprTree) (main other : Locals → ℕ → Run) → FewerRuns n main → FewerRuns n other → FewerRuns n (if_run s run e main other)
  if_fewer e main other f g vars left le =
      valued_fewer (evaluated s run e vars left) vars (λ v left. chosen (bool_of v) main other vars left) (evaluated_fewer e vars left le)
      (λ v l m. chosen_fewer (bool_of v) main other f g vars l m)

  skip_fewer : FewerRuns n skip
  skip_fewer vars left le = le

  leave_fewer : FewerRuns n leave_loop
  leave_fewer vars left le = le

  pass_fewer : (e : Option ExprTree) (body : Locals → ℕ → Run) → FewerRuns n body → FewerRuns n (pass_run s run e body)
  pass_fewer None body f = scope_fewer body f
  pass_fewer (Some e) body f = if_fewer e (scope body) leave_loop (scope_fewer body f) leave_fewer

  loop_fewer : (e : Option ExprTree) (step body : Locals → ℕ → Run) → FewerRuns n step → FewerRuns n body → FewerRuns n (loop_run s run e step body)
  loop_fewer e step body f g vars left le =
      passes_fewer (turn_run s run e step body) (λ vars left le. stepped_fewer (pass_run s run e body vars left) step (pass_fewer e body g vars left le) f) left vars left le

  for_fewer : (init : Locals → ℕ → Run) (e : Option ExprTree) (step body : Locals → ℕ → Run) → FewerRuns n init → FewerRuns n step → FewerRuns n body → FewerRuns n (for_run s run init e step body)
  for_fewer init e step body f g h vars left le = after_fewer (init vars left) (loop_run s run e step body) (f vars left le) (loop_fewer e step body g h)

  throw_fewer : (e : Option ExprTree) (caught : Option (List ℕ)) → FewerRuns n (throw_run s run e caught)
  throw_fewer None caught vars left le = rethrown_fewer caught vars left le
  throw_fewer (Some e) caught vars left le =
      valued_fewer (evaluated s run e vars left) vars (λ v left. thrown (error_of v) vars left) (evaluated_fewer e vars left le) (λ v l m. thrown_fewer (error_of v) vars l m)

  declare_fewer : (i : IntoTree) (e : Option ExprTree) → FewerRuns n (declare_run s run i e)
  declare_fewer i None vars left le = declared_run_fewer (default_value i.ty) i.name.name vars left le
  declare_fewer i (Some e) vars left le =
      valued_fewer (evaluated s run e vars left) vars (λ v left. declared (Some v) i.name.name vars left) (evaluated_fewer e vars left le) (λ v l m. declared_run_fewer (Some v) i.name.name vars l m)

  assign_fewer : (xs : List Ident) (e : ExprTree) → FewerRuns n (assign_run s run xs e)
  assign_fewer xs e vars left le =
      valued_fewer (evaluated s run e vars left) vars (λ v left. assigned (put_path s.records vars xs v) left) (evaluated_fewer e vars left le)
      (λ v l m. assigned_fewer (put_path s.records vars xs v) l m)

  operand_fewer : (c : ChangeTree) → Fewer n (change_operand s run c)
  operand_fewer (PlusChange e) vars left le = evaluated_fewer e vars left le
  operand_fewer (MinusChange e) vars left le = evaluated_fewer e vars left le
  operand_fewer UpChange vars left le = le
  operand_fewer DownChange vars left le = le

  changed_fewer : (o : Option ValueTree) (c : ChangeTree) (xs : List Ident) → FewerRuns n (changed s run o c xs)
  changed_fewer None c xs vars left le = tt
  changed_fewer (Some v) c xs vars left le =
      valued_fewer (change_operand s run c vars left) vars (λ w left. valued (at_once (operated (change_sign c) v w) left) vars (λ u left. assigned (put_path s.records vars xs u) left))
      (operand_fewer c vars left le)
      (λ w l m. valued_fewer (at_once (operated (change_sign c) v w) l) vars (λ u left. assigned (put_path s.records vars xs u) left)
      (once_fewer n (operated (change_sign c) v w) l m) (λ u i j. assigned_fewer (put_path s.records vars xs u) i j))

  call_by_fewer : (xs : List Ident) → Fewer n (call_by s run xs)
  call_by_fewer [] vs left le = tt
  call_by_fewer (x ∷ []) vs left le = function_fewer (routine_named s.functions x.name) vs left le
  call_by_fewer (x ∷ y ∷ ys) vs left le = tt

  call_fewer : (xs : List Ident) (es : ExprTrees) → FewerRuns n (call_run s run xs es)
  call_fewer xs es vars left le =
      valued_fewer (eval_all s run (named vars) es left) vars (λ vs left. valued (call_by s run xs vs left) vars (λ v left. Goes vars left)) (eval_all_fewer (named vars) es left le)
      (λ vs l m. valued_fewer (call_by s run xs vs l) vars (λ v left. Goes vars left) (call_by_fewer xs vs l m) (λ v i j. j))

  return_fewer : (o : Option ExprTree) → FewerRuns n (return_run s run o)
  return_fewer None vars left le = tt
  return_fewer (Some e) vars left le = valued_fewer (evaluated s run e vars left) vars (λ v left. Returns v left) (evaluated_fewer e vars left le) (λ v l m. m)

  try_fewer : (body : Locals → ℕ → Run) (x : List ℕ) (handler : Locals → ℕ → Run) → FewerRuns n body → FewerRuns n handler → FewerRuns n (try_run body x handler)
  try_fewer body x handler f g vars left le =
      caught_fewer (scope body vars left) (handled x handler) (scope_fewer body f vars left le) (λ err vs l m. scoped_fewer (length vs) _ (g _ l m))

  -- what follows statements
  follow_fewer : (b : Body) (caught : Option (List ℕ)) (go : Locals → ℕ → Run) → FewerRuns n go → FewerRuns n (exec s run b caught)
      → FewerRuns n (λ vars left. after (go vars left) (exec s run b caught))
  follow_fewer b caught go f g vars left le = after_fewer (go vars left) (exec s run b caught) (f vars left le) g

  exec_fewer : (b : Body) (caught : Option (List ℕ)) → FewerRuns n (exec s run b caught)
  exec_fewer End caught = skip_fewer
  exec_fewer (BlockStmt at b k) caught = follow_fewer k caught (scope (exec s run b caught)) (scope_fewer (exec s run b caught) (exec_fewer b caught)) (exec_fewer k caught)
  exec_fewer (IfStmt at e b k) caught =
      follow_fewer k caught (if_run s run e (scope (exec s run b caught)) skip)
      (if_fewer e (scope (exec s run b caught)) skip (scope_fewer (exec s run b caught) (exec_fewer b caught)) skip_fewer) (exec_fewer k caught)
  exec_fewer (IfElseStmt at e b c k) caught =
      follow_fewer k caught (if_run s run e (scope (exec s run b caught)) (scope (exec s run c caught)))
      (if_fewer e (scope (exec s run b caught)) (scope (exec s run c caught)) (scope_fewer (exec s run b caught) (exec_fewer b caught)) (scope_fewer (exec s run c caught) (exec_fewer c caught)))
      (exec_fewer k caught)
  exec_fewer (WhileStmt at e b k) caught =
      follow_fewer k caught (loop_run s run (Some e) skip (exec s run b caught)) (loop_fewer (Some e) skip (exec s run b caught) skip_fewer (exec_fewer b caught)) (exec_fewer k caught)
  exec_fewer (ForStmt at i e t b k) caught =
      follow_fewer k caught (scope (for_run s run (exec s run i caught) e (exec s run t caught) (exec s run b caught)))
      (scope_fewer (for_run s run (exec s run i caught) e (exec s run t caught) (exec s run b caught))
      (for_fewer (exec s run i caught) e (exec s run t caught) (exec s run b caught) (exec_fewer i caught) (exec_fewer t caught) (exec_fewer b caught)))
      (exec_fewer k caught)
  exec_fewer (LoopStmt at b k) caught =
      follow_fewer k caught (loop_run s run None skip (exec s run b caught)) (loop_fewer None skip (exec s run b caught) skip_fewer (exec_fewer b caught)) (exec_fewer k caught)
  exec_fewer (BreakStmt at k) caught = λ vars left le. le
  exec_fewer (ContinueStmt at k) caught = λ vars left le. le
  exec_fewer (ReturnStmt at e k) caught = follow_fewer k caught (return_run s run e) (return_fewer e) (exec_fewer k caught)
  exec_fewer (ThrowStmt at e k) caught = follow_fewer k caught (throw_run s run e caught) (throw_fewer e caught) (exec_fewer k caught)
  exec_fewer (TryStmt at b q x h k) caught =
      follow_fewer k caught (try_run (exec s run b caught) x.name (exec s run h (Some x.name)))
      (try_fewer (exec s run b caught) x.name (exec s run h (Some x.name)) (exec_fewer b caught) (exec_fewer h (Some x.name))) (exec_fewer k caught)
  exec_fewer (ChooseStmt at bs k) caught = λ vars left le. tt
  exec_fewer (DeclareStmt at i e k) caught = follow_fewer k caught (declare_run s run i e) (declare_fewer i e) (exec_fewer k caught)
  exec_fewer (AssignStmt at xs e k) caught = follow_fewer k caught (assign_run s run xs e) (assign_fewer xs e) (exec_fewer k caught)
  exec_fewer (ModifyStmt at xs c k) caught =
      follow_fewer k caught (modify_run s run xs c) (λ vars left le. changed_fewer (read_path s.records vars xs) c xs vars left le) (exec_fewer k caught)
  exec_fewer (CallStmt at xs es k) caught = follow_fewer k caught (call_run s run xs es) (call_fewer xs es) (exec_fewer k caught)
  exec_fewer (WaitStmt at w k) caught = λ vars left le. tt

  finished_fewer : (r : Run) → RunAtMost n r → AtMost n (finished r)
  finished_fewer (Returns v left) h = h
  finished_fewer (Raises e vars left) h = h
  finished_fewer _ h = tt

  body_fewer : (f : RoutineTree) (o : Option Locals) (left : ℕ) → left ≤ n → AtMost n (body_run s run f o left)
  body_fewer f None left le = tt
  body_fewer f (Some vars) left le = finished_fewer (exec s run f.body None vars left) (exec_fewer f.body None vars left le)

pub function_runs_fewer : (n : ℕ) (s : Setting) (nest : ℕ) → RunnerFewer n (run_function s nest)
function_runs_fewer n s zero f vs zero le = tt
function_runs_fewer n s zero f vs (suc left) le = omega (arith, le)
function_runs_fewer n s (suc nest) f vs zero le = tt
function_runs_fewer n s (suc nest) f vs (suc left) le = body_fewer n s (run_function s nest) (function_runs_fewer n s nest) f (entered f.params vs) left (omega (arith, le))

-- an expression, arguments and a call of a function
pub whole_fewer : (s : Setting) (look : List ℕ → Option ValueTree) (e : ExprTree) (left : ℕ) → AtMost left (Eval s look e left)
whole_fewer s look e left = eval_fewer left s (run_function s deepest) (function_runs_fewer left s deepest) look e left (omega arith)

pub all_fewer : (s : Setting) (look : List ℕ → Option ValueTree) (es : ExprTrees) (left : ℕ) → AtMost left (eval_all s (run_function s deepest) look es left)
all_fewer s look es left = eval_all_fewer left s (run_function s deepest) (function_runs_fewer left s deepest) look es left (omega arith)

pub call_fewer_whole : (n : ℕ) (s : Setting) (f : RoutineTree) (vs : List ValueTree) (left : ℕ) → left ≤ n → AtMost n (Call s f vs left)
call_fewer_whole n s f vs left le = function_runs_fewer n s deepest f vs left le
