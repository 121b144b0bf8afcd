-- Statements of plain functions, and their calls.
use Rattle.std.specs.Prelude.{ℕ, zero, suc, pos, Bool, true, false, List, [], ◌∷◌, ◌++◌, length, take, position, slice_get, slice_set}
use Rattle.std.specs.Option.{option_map}
use Rattle.std.specs.Str.{bytes_eq}
use Rattle.std.specs.declared.option.Option.{Option}
use Rattle.std.specs.declared.option.Option.TheVariants.{None, Some}
use Rattle.flow_tree.specs.declared.limits.TheConstants.{CALL_DEPTH}
use Rattle.flow_base.specs.ErrorNumbers.{out_of_range}
use Rattle.flow_tree.specs.declared.ty.Ident.{Ident}
use Rattle.flow_tree.specs.declared.expr.Op.{Op}
use Rattle.flow_tree.specs.declared.expr.Op.TheVariants.{Add, Sub}
use Rattle.flow_tree.specs.Tree.{TypeTree, IntType, BoolType, StringType, VectorType, ExprTree, ExprTrees}
use Rattle.flow_tree.specs.Body.{IntoTree, ChangeTree, PlusChange, MinusChange, UpChange, DownChange, Body, End, BlockStmt, IfStmt, IfElseStmt, WhileStmt, ForStmt, LoopStmt, BreakStmt, ContinueStmt, ReturnStmt, ThrowStmt, TryStmt, ChooseStmt, DeclareStmt, AssignStmt, ModifyStmt, CallStmt, WaitStmt}
use Rattle.flow_tree.specs.Decls.{ParamTree, RecordTree, RoutineTree}
use Rattle.flow_ast.specs.TypingNames.{named}
use Rattle.flow_ast.specs.Typing.{routine_named}
use Rattle.flow_value.specs.Values.{ValueTree, IntValue, BoolValue, TextValue, ErrorValue, CompositeValue, ListWhole, NoValues, value_put}
use Rattle.flow_eval.specs.Answers.{bool_of, error_of}
use Rattle.flow_eval.specs.Operators.{operated}
use Rattle.flow_eval.specs.Records.{field_place, field}
use Rattle.flow_eval.specs.Eval.{Res, Done, Fails, Spent, Meaningless, Setting, Runner, at_once, eval, eval_all, function_called}

-- the variables in force, the oldest first; no two have one name
abbrev pub Locals : Type 0
Locals = List (List ℕ × ValueTree)

-- what statements come to, with the variables and the turns left: they go on to what follows, leave
-- or go round the loop, return, or throw
pub data Run : Type 0 where
  Goes : Locals → ℕ → Run
  Breaks : Locals → ℕ → Run
  Continues : Locals → ℕ → Run
  Returns : ValueTree → ℕ → Run
  Raises : ℕ → Locals → ℕ → Run
  SpentRun : Run
  NoRun : Run

-- what follows is run where the statements before go on
abbrev pub after : Run → (Locals → ℕ → Run) → Run
after (Goes vars left) go = go vars left
after r go = r

-- a scope of n variables ends: the later ones are gone
abbrev pub scoped : ℕ → Run → Run
scoped n (Goes vars left) = Goes (take n vars) left
scoped n (Breaks vars left) = Breaks (take n vars) left
scoped n (Continues vars left) = Continues (take n vars) left
scoped n (Raises e vars left) = Raises e (take n vars) left
scoped n r = r

-- an expression is evaluated for a statement
abbrev pub valued : {A : Type 0} → Res A → Locals → (A → ℕ → Run) → Run
valued (Done v left) vars go = go v left
valued (Fails e left) vars go = Raises e vars left
valued Spent vars go = SpentRun
valued Meaningless vars go = NoRun

-- one of two by a condition
abbrev pub chosen : Option Bool → (Locals → ℕ → Run) → (Locals → ℕ → Run) → Locals → ℕ → Run
chosen None main other vars left = NoRun
chosen (Some true) main other vars left = main vars left
chosen (Some false) main other vars left = other vars left

-- a pass of a loop has been made: the next one follows, or the loop is left
abbrev pub again : Run → (Locals → ℕ → Run) → Run
again (Goes vars left) go = go vars left
again (Continues vars left) go = go vars left
again (Breaks vars left) go = Goes vars left
again r go = r

-- each pass takes a turn before it; there are no more passes than turns
abbrev pub passes : (Locals → ℕ → Run) → ℕ → Locals → ℕ → Run
passes pass most vars zero = SpentRun
passes pass zero vars (suc left) = SpentRun
passes pass (suc most) vars (suc left) = again (pass vars left) (passes pass most)

abbrev pub looped : (Locals → ℕ → Run) → Locals → ℕ → Run
looped pass vars left = passes pass left vars left

-- the step of a `for` comes after a pass
abbrev pub stepped : Run → (Locals → ℕ → Run) → Run
stepped (Goes vars left) step = step vars left
stepped (Continues vars left) step = step vars left
stepped r step = r

-- an error is caught
abbrev pub caught_by : Run → (ℕ → Locals → ℕ → Run) → Run
caught_by (Raises e vars left) handler = handler e vars left
caught_by r handler = r

abbrev pub thrown : Option ℕ → Locals → ℕ → Run
thrown None vars left = NoRun
thrown (Some e) vars left = Raises e vars left

abbrev pub error_at : Option ValueTree → Option ℕ
error_at None = None
error_at (Some v) = error_of v

abbrev pub rethrown : Option (List ℕ) → Locals → ℕ → Run
rethrown None vars left = NoRun
rethrown (Some x) vars left = thrown (error_at (named vars x)) vars left

-- the value of a declaration that gives none
abbrev pub default_value : TypeTree → Option ValueTree
default_value IntType = Some (IntValue (pos 0))
default_value BoolType = Some (BoolValue false)
default_value StringType = Some (TextValue [])
default_value (VectorType t) = Some (CompositeValue ListWhole NoValues)
default_value _ = None

-- one more variable
abbrev pub bound : Locals → List ℕ → ValueTree → Locals
bound vars x v = vars ++ (x, v) ∷ []

abbrev pub declared : Option ValueTree → List ℕ → Locals → ℕ → Run
declared None x vars left = NoRun
declared (Some v) x vars left = Goes (bound vars x v) left

-- a value with the field put in place to which the names lead
abbrev pub put_at : ValueTree → Option ℕ → Option ValueTree → Option ValueTree
put_at (CompositeValue r vs) (Some k) (Some w) = Some (CompositeValue r (value_put vs k w))
put_at _ _ _ = None

abbrev pub with_first : (List ℕ × ValueTree) → Option Locals → Option Locals
with_first v None = None
with_first v (Some vars) = Some (v ∷ vars)

module _ (rs : List RecordTree) where
  abbrev pub place_of : ValueTree → List ℕ → Option ℕ
  place_of (CompositeValue r vs) x = field_place rs r x
  place_of _ x = None

  abbrev pub put_in : Option ValueTree → List Ident → ValueTree → Option ValueTree
  put_in None xs w = None
  put_in (Some v) [] w = Some w
  put_in (Some v) (x ∷ xs) w = put_at v (place_of v x.name) (put_in (field rs v x.name) xs w)

  -- the value that a path leads to
  abbrev pub read_in : Option ValueTree → List Ident → Option ValueTree
  read_in None xs = None
  read_in (Some v) [] = Some v
  read_in (Some v) (x ∷ xs) = read_in (field rs v x.name) xs

  abbrev pub read_path : Locals → List Ident → Option ValueTree
  read_path vars [] = None
  read_path vars (x ∷ xs) = read_in (named vars x.name) xs

  -- the variables after an assignment to the one at a place
  abbrev pub put_at_var : Locals → ℕ → Option (List ℕ × ValueTree) → List Ident → ValueTree → Option Locals
  put_at_var vars k None xs w = None
  put_at_var vars k (Some v) xs w = option_map (λ u. slice_set vars k (v.0, u)) (put_in (Some v.1) xs w)

  abbrev pub put_place : Locals → Option ℕ → List Ident → ValueTree → Option Locals
  put_place vars None xs w = None
  put_place vars (Some k) xs w = put_at_var vars k (slice_get vars k) xs w

  abbrev pub put_path : Locals → List Ident → ValueTree → Option Locals
  put_path vars [] w = None
  put_path vars (x ∷ xs) w = put_place vars (position (λ v. bytes_eq x.name v.0) vars) xs w

abbrev pub assigned : Option Locals → ℕ → Run
assigned None left = NoRun
assigned (Some vars) left = Goes vars left

-- the variables that the parameters are, where there is an argument for each
abbrev pub entered : List ParamTree → List ValueTree → Option Locals
entered [] [] = Some []
entered [] (v ∷ vs) = None
entered (p ∷ ps) [] = None
entered (p ∷ ps) (v ∷ vs) = with_first (p.name.name, v) (entered ps vs)

-- a function has its value where its body returns one
abbrev pub finished : Run → Res ValueTree
finished (Returns v left) = Done v left
finished (Raises e vars left) = Fails e left
finished SpentRun = Spent
finished _ = Meaningless

-- statements as a scope of their own
abbrev pub scope : (Locals → ℕ → Run) → Locals → ℕ → Run
scope go vars left = scoped (length vars) (go vars left)

abbrev pub skip : Locals → ℕ → Run
skip vars left = Goes vars left

abbrev pub leave_loop : Locals → ℕ → Run
leave_loop vars left = Breaks vars left

-- `x += e` is `x = x + (e)`, and `++` adds 1
abbrev pub change_sign : ChangeTree → Op
change_sign (PlusChange e) = Add
change_sign (MinusChange e) = Sub
change_sign UpChange = Add
change_sign DownChange = Sub

abbrev pub handled : List ℕ → (Locals → ℕ → Run) → ℕ → Locals → ℕ → Run
handled x handler e vars left = scoped (length vars) (handler (bound vars x (ErrorValue e)) left)

abbrev pub try_run : (body : Locals → ℕ → Run) → List ℕ → (handler : Locals → ℕ → Run) → Locals → ℕ → Run
try_run body x handler vars left = caught_by (scope body vars left) (handled x handler)

module _ (s : Setting) (run : Runner) where
  abbrev pub evaluated : ExprTree → Locals → ℕ → Res ValueTree
  evaluated e vars left = eval s run (named vars) e left

  abbrev pub if_run : ExprTree → (Locals → ℕ → Run) → (Locals → ℕ → Run) → Locals → ℕ → Run
  if_run e main other vars left = valued (evaluated e vars left) vars (λ v left. chosen (bool_of v) main other vars left)

  -- a pass of a loop: the condition, where there is one, and then the body, or past the loop
  abbrev pub pass_run : Option ExprTree → (Locals → ℕ → Run) → Locals → ℕ → Run
  pass_run None body = scope body
  pass_run (Some e) body = if_run e (scope body) leave_loop

  -- a pass and the step after it
  abbrev pub turn_run : Option ExprTree → (step body : Locals → ℕ → Run) → Locals → ℕ → Run
  turn_run e step body vars left = stepped (pass_run e body vars left) step

  -- a loop with a condition and a step, where it has them
  abbrev pub loop_run : Option ExprTree → (step body : Locals → ℕ → Run) → Locals → ℕ → Run
  loop_run e step body = looped (turn_run e step body)

  abbrev pub for_run : (init : Locals → ℕ → Run) → Option ExprTree → (step body : Locals → ℕ → Run) → Locals → ℕ → Run
  for_run init e step body vars left = after (init vars left) (loop_run e step body)

  abbrev pub throw_run : Option ExprTree → Option (List ℕ) → Locals → ℕ → Run
  throw_run None caught vars left = rethrown caught vars left
  throw_run (Some e) caught vars left = valued (evaluated e vars left) vars (λ v left. thrown (error_of v) vars left)

  abbrev pub declare_run : IntoTree → Option ExprTree → Locals → ℕ → Run
  declare_run i None vars left = declared (default_value i.ty) i.name.name vars left
  declare_run i (Some e) vars left = valued (evaluated e vars left) vars (λ v left. declared (Some v) i.name.name vars left)

  abbrev pub assign_run : List Ident → ExprTree → Locals → ℕ → Run
  assign_run xs e vars left = valued (evaluated e vars left) vars (λ v left. assigned (put_path s.records vars xs v) left)

  abbrev pub change_operand : ChangeTree → Locals → ℕ → Res ValueTree
  change_operand (PlusChange e) vars left = evaluated e vars left
  change_operand (MinusChange e) vars left = evaluated e vars left
  change_operand UpChange vars left = Done (IntValue (pos 1)) left
  change_operand DownChange vars left = Done (IntValue (pos 1)) left

  abbrev pub changed : Option ValueTree → ChangeTree → List Ident → Locals → ℕ → Run
  changed None c xs vars left = NoRun
  changed (Some v) c xs vars left =
      valued (change_operand c vars left) vars
      (λ w left. valued (at_once (operated (change_sign c) v w) left) vars (λ u left. assigned (put_path s.records vars xs u) left))

  abbrev pub modify_run : List Ident → ChangeTree → Locals → ℕ → Run
  modify_run xs c vars left = changed (read_path s.records vars xs) c xs vars left

  -- a function's call as a statement
  abbrev pub call_by : List Ident → List ValueTree → ℕ → Res ValueTree
  call_by (x ∷ []) vs left = function_called s run (routine_named s.functions x.name) vs left
  call_by _ vs left = Meaningless

  abbrev pub call_run : List Ident → ExprTrees → Locals → ℕ → Run
  call_run xs es vars left =
      valued (eval_all s run (named vars) es left) vars (λ vs left. valued (call_by xs vs left) vars (λ v left. Goes vars left))

  -- a function returns a value
  abbrev pub return_run : Option ExprTree → Locals → ℕ → Run
  return_run None vars left = NoRun
  return_run (Some e) vars left = valued (evaluated e vars left) vars (λ v left. Returns v left)

  -- a body, with the name of the innermost catch's variable
  abbrev pub exec : Body → Option (List ℕ) → Locals → ℕ → Run
  exec End caught vars left = Goes vars left
  exec (BlockStmt at b k) caught vars left = after (scope (exec b caught) vars left) (exec k caught)
  exec (IfStmt at e b k) caught vars left = after (if_run e (scope (exec b caught)) skip vars left) (exec k caught)
  exec (IfElseStmt at e b c k) caught vars left = after (if_run e (scope (exec b caught)) (scope (exec c caught)) vars left) (exec k caught)
  exec (WhileStmt at e b k) caught vars left = after (loop_run (Some e) skip (exec b caught) vars left) (exec k caught)
  exec (ForStmt at i e t b k) caught vars left =
      after (scope (for_run (exec i caught) e (exec t caught) (exec b caught)) vars left) (exec k caught)
  exec (LoopStmt at b k) caught vars left = after (loop_run None skip (exec b caught) vars left) (exec k caught)
  exec (BreakStmt at k) caught vars left = Breaks vars left
  exec (ContinueStmt at k) caught vars left = Continues vars left
  exec (ReturnStmt at e k) caught vars left = after (return_run e vars left) (exec k caught)
  exec (ThrowStmt at e k) caught vars left = after (throw_run e caught vars left) (exec k caught)
  exec (TryStmt at b q x h k) caught vars left = after (try_run (exec b caught) x.name (exec h (Some x.name)) vars left) (exec k caught)
  exec (ChooseStmt at bs k) caught vars left = NoRun
  exec (DeclareStmt at i e k) caught vars left = after (declare_run i e vars left) (exec k caught)
  exec (AssignStmt at xs e k) caught vars left = after (assign_run xs e vars left) (exec k caught)
  exec (ModifyStmt at xs c k) caught vars left = after (modify_run xs c vars left) (exec k caught)
  exec (CallStmt at xs es k) caught vars left = after (call_run xs es vars left) (exec k caught)
  exec (WaitStmt at w k) caught vars left = NoRun

abbrev pub body_run : Setting → Runner → RoutineTree → Option Locals → ℕ → Res ValueTree
body_run s run f None left = Meaningless
body_run s run f (Some vars) left = finished (exec s run f.body None vars left)

-- the routine at a place, where there is one
abbrev pub routine_at : List RoutineTree → Option ℕ → Option RoutineTree
routine_at fs None = None
routine_at fs (Some k) = slice_get fs k

abbrev pub called_body : Setting → Runner → Option RoutineTree → List ValueTree → ℕ → Res ValueTree
called_body s run None vs left = Meaningless
called_body s run (Some f) vs left = body_run s run f (entered f.params vs) left

-- a call of a function whose arguments are known, where calls may still be nested so deep: it takes a
-- turn, is judged for its depth, and runs
abbrev pub run_function : Setting → ℕ → Runner
run_function s zero f vs zero = Spent
run_function s zero f vs (suc left) = Fails out_of_range left
run_function s (suc nest) f vs zero = Spent
run_function s (suc nest) f vs (suc left) = body_run s (run_function s nest) f (entered f.params vs) left

-- a part of evaluation, where calls of functions may still be nested so deep
abbrev pub nested : {A : Type 0} → (Setting → Runner → A) → Setting → ℕ → A
nested part s nest = part s (run_function s nest)

-- how deep calls of functions may be nested
abbrev pub deepest : ℕ
deepest = CALL_DEPTH

-- the meaning of an expression, and of a call of a function
abbrev pub Eval : Setting → (List ℕ → Option ValueTree) → ExprTree → ℕ → Res ValueTree
Eval s look e left = eval s (run_function s deepest) look e left

abbrev pub Call : Setting → RoutineTree → List ValueTree → ℕ → Res ValueTree
Call s f vs left = run_function s deepest f vs left
