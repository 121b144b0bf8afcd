-- Evaluation keeps a rule on references.
use Rattle.std.proofs.Common.{◌≡◌, ℕ, zero, suc, Bool, true, false, List, [], ◌∷◌, length, if◌then◌else◌, refl, subst}
use Rattle.std.specs.Prelude.{take, slice_get, slice_set, position}
use Rattle.std.specs.Option.{option_map}
use Rattle.std.specs.Str.{bytes_eq}
use Rattle.std.specs.declared.option.Option.{Option}
use Rattle.std.specs.declared.option.Option.TheVariants.{None, Some}
use Rattle.flow_tree.specs.declared.ty.Ident.{Ident}
use Rattle.flow_tree.specs.Tree.{ExprTree, ExprTrees, VarExpr, CallExpr, FieldExpr, MethodExpr, NotExpr, NegExpr, BinaryExpr, ParenExpr, NoExprs, MoreExprs}
use Rattle.flow_tree.specs.Body.{IntoTree, ChangeTree, PlusChange, MinusChange, UpChange, DownChange, Body, End, BlockStmt, IfStmt, IfElseStmt, WhileStmt, ForStmt, LoopStmt, BreakStmt, ContinueStmt, ReturnStmt, ThrowStmt, TryStmt, ChooseStmt, DeclareStmt, AssignStmt, ModifyStmt, CallStmt, WaitStmt}
use Rattle.flow_tree.specs.Decls.{ParamTree, RoutineTree}
use Rattle.flow_ast.specs.declared.predefined.Predefined.{Predefined}
use Rattle.flow_ast.specs.TypingNames.{named, selected, call_names, constant_names}
use Rattle.flow_ast.specs.Typing.{routine_named}
use Rattle.flow_value.specs.declared.value.RecordId.{RecordId}
use Rattle.flow_value.specs.Values.{ValueTree, ErrorValue}
use Rattle.flow_eval.specs.Answers.{bool_of, error_of}
use Rattle.flow_eval.specs.Operators.{operated, negated, inverted}
use Rattle.flow_eval.specs.Predefined.{call_answer}
use Rattle.flow_eval.specs.Records.{record_id, field, field_answer}
use Rattle.flow_eval.specs.Eval.{Res, Done, Fails, Spent, Meaningless, Setting, Runner, then as goes_on, at_once, variable, second, method_called, function_called, declared_called, called, eval, eval_all}
use Rattle.flow_eval.specs.Functions.{Locals, Run, Goes, Breaks, Continues, Returns, Raises, SpentRun, NoRun, after, scoped, valued, chosen, again, passes, stepped, caught_by, thrown, error_at, rethrown, default_value, bound, declared, with_first, put_in, read_path, put_at_var, put_place, put_path, assigned, entered, finished, scope, skip, leave_loop, change_sign, handled, try_run, evaluated, if_run, pass_run, turn_run, loop_run, for_run, throw_run, declare_run, assign_run, change_operand, changed, modify_run, call_by, call_run, return_run, exec, body_run, run_function, deepest}
use Rattle.flow_heap_refinement.specs.Evaluation as law
use Rattle.flow_heap_refinement.specs.Evaluation.{Rule, GivesFutures, Named, AllNamed, MaybeNamed, ResNamed, AllResNamed, CellsNamed, LookNamed}
use Rattle.flow_heap_refinement.proofs.Evaluation.Answering.{default_named, put_in_named, read_in_named, same_of, AnswerNamed, answer_named, call_named, field_named, found_named, inverted_named, maybe_method, more_named, negated_named, once_named, operated_named, record_named, second_named, value_then, values_then}

module _ (p : Rule) where
  module _ (s : Setting) (run : Runner) (gives : GivesFutures p) (cells : CellsNamed p s) (runs : (f : RoutineTree) (vs : List ValueTree) (left : ℕ) → AllNamed p vs → ResNamed p (run f vs left)) where
    function_named : (o : Option RoutineTree) (vs : List ValueTree) (left : ℕ) → AllNamed p vs → ResNamed p (function_called s run o vs left)
    function_named None vs left h = tt
    function_named (Some f) vs left h = runs f vs left h

    declared_named : (r : Option RecordId) (f : List ℕ) (vs : List ValueTree) (left : ℕ) → AllNamed p vs → ResNamed p (declared_called s run r f vs left)
    declared_named None f vs left h = function_named (routine_named s.functions f) vs left h
    declared_named (Some r) f vs left h = record_named p vs h

    called_named : (c : Option Predefined) (f : List ℕ) (vs : List ValueTree) (left : ℕ) → AllNamed p vs → ResNamed p (called s run c f vs left)
    called_named None f vs left h = declared_named (record_id s.records f) f vs left h
    called_named (Some c) f vs left h = once_named p (call_answer c s.now vs) left (call_named p c s.now vs)

    var_named : (look : List ℕ → Option ValueTree) (x : List ℕ) (o : Option ℕ) → LookNamed p look → AnswerNamed p (variable look x o)
    var_named look x None h = found_named p (look x) (h x)
    var_named look x (Some n) h = tt

    mutual
      pub eval_named : (look : List ℕ → Option ValueTree) (e : ExprTree) (left : ℕ) → LookNamed p look → ResNamed p (eval s run look e left)
      eval_named look (VarExpr x) left h = once_named p (variable look x.name (named constant_names x.name)) left (var_named look x.name (named constant_names x.name) h)
      eval_named look (CallExpr f xs) left h =
          values_then p (eval_all s run look xs left) (λ vs left. called s run (named call_names f.name) f.name vs left) (all_named look xs left h)
          (λ vs l n. called_named (named call_names f.name) f.name vs l n)
      eval_named look (FieldExpr e x) left h =
          value_then p (eval s run look e left) (λ v left. at_once (field_answer (field s.records v x.name)) left) (eval_named look e left h)
          (λ v l n. once_named p (field_answer (field s.records v x.name)) l (answer_named p (field s.records v x.name) (field_named p s.records v x.name n)))
      eval_named look (MethodExpr e m xs) left h =
          value_then p (eval s run look e left) (λ v left. goes_on (eval_all s run look xs left) (λ vs left. at_once (method_called s.cells (selected m) v vs) left))
          (eval_named look e left h)
          (λ v l n. values_then p (eval_all s run look xs l) (λ vs left. at_once (method_called s.cells (selected m) v vs) left) (all_named look xs l h)
          (λ vs k a. once_named p (method_called s.cells (selected m) v vs) k (maybe_method p gives s.cells cells (selected m) v vs n)))
      eval_named look (NotExpr e) left h = value_then p (eval s run look e left) (λ v left. at_once (inverted v) left) (eval_named look e left h)
          (λ v l n. once_named p (inverted v) l (inverted_named p v))
      eval_named look (NegExpr e) left h = value_then p (eval s run look e left) (λ v left. at_once (negated v) left) (eval_named look e left h)
          (λ v l n. once_named p (negated v) l (negated_named p v))
      eval_named look (BinaryExpr op x y) left h =
          value_then p (eval s run look x left) (λ v left. second op v (eval s run look y) left) (eval_named look x left h) (λ v l n. second_named p op v (eval s run look y) l)
      eval_named look (ParenExpr e) left h = eval_named look e left h
      eval_named look _ left h = tt

      pub all_named : (look : List ℕ → Option ValueTree) (es : ExprTrees) (left : ℕ) → LookNamed p look → AllResNamed p (eval_all s run look es left)
      all_named look NoExprs left h = tt
      all_named look (MoreExprs e es) left h = more_named p (eval s run look e left) (eval_all s run look es) (eval_named look e left h) (λ l. all_named look es l h)

    -- variables
    abbrev VarsNamed : Locals → Type 0
    VarsNamed [] = Unit {0}
    VarsNamed (x ∷ xs) = Named p x.1 × VarsNamed xs

    abbrev RunNamed : Run → Type 0
    RunNamed (Goes vars left) = VarsNamed vars
    RunNamed (Breaks vars left) = VarsNamed vars
    RunNamed (Continues vars left) = VarsNamed vars
    RunNamed (Returns v left) = Named p v
    RunNamed (Raises e vars left) = VarsNamed vars
    RunNamed SpentRun = Unit {0}
    RunNamed NoRun = Unit {0}

    abbrev GoNamed : (Locals → ℕ → Run) → Type 0
    GoNamed go = (vars : Locals) (left : ℕ) → VarsNamed vars → RunNamed (go vars left)

    vars_look : (vars : Locals) → VarsNamed vars → LookNamed p (named vars)
    vars_look [] h x = tt
    vars_look (v ∷ vs) h x = by_test (bytes_eq x v.0) (vars_look vs h.1 x)
      where
        by_test : (t : Bool) → MaybeNamed p (named vs x) → MaybeNamed p (if t then Some v.1 else named vs x)
        by_test true k = h.0
        by_test false k = k

    vars_take : (n : ℕ) (vars : Locals) → VarsNamed vars → VarsNamed (take n vars)
    vars_take zero vars h = tt
    vars_take (suc n) [] h = tt
    vars_take (suc n) (v ∷ vs) h = (h.0, vars_take n vs h.1)

    vars_more : (vars : Locals) (x : List ℕ) (v : ValueTree) → VarsNamed vars → Named p v → VarsNamed (bound vars x v)
    vars_more [] x v h n = (n, tt)
    vars_more (y ∷ ys) x v h n = (h.0, vars_more ys x v h.1 n)

    vars_set : (vars : Locals) (k : ℕ) (x : List ℕ) (v : ValueTree) → VarsNamed vars → Named p v → VarsNamed (slice_set vars k (x, v))
    vars_set [] k x v h n = tt
    vars_set (y ∷ ys) zero x v h n = (n, h.1)
    vars_set (y ∷ ys) (suc k) x v h n = (h.0, vars_set ys k x v h.1 n)

    var_at : (vars : Locals) (k : ℕ) (o : Option (List ℕ × ValueTree)) → slice_get vars k ≡ o → VarsNamed vars → MaybeNamed p (option_map (λ v. v.1) o)
    var_at vars k None e h = tt
    var_at [] k (Some v) e h = absurd (cc)
    var_at (y ∷ ys) zero (Some v) e h = subst (λ (z : List ℕ × ValueTree). Named p z.1) (same_of e) h.0
    var_at (y ∷ ys) (suc k) (Some v) e h = var_at ys k (Some v) e h.1

    -- statements
    after_named : (r : Run) (go : Locals → ℕ → Run) → RunNamed r → GoNamed go → RunNamed (after r go)
    after_named (Goes vars left) go h f = f vars left h
    after_named SpentRun go h f = tt
    after_named NoRun go h f = tt
    after_named _ go h f = h

    scoped_named : (n : ℕ) (r : Run) → RunNamed r → RunNamed (scoped n r)
    scoped_named n (Goes vars left) h = vars_take n vars h
    scoped_named n (Breaks vars left) h = vars_take n vars h
    scoped_named n (Continues vars left) h = vars_take n vars h
    scoped_named n (Raises e vars left) h = vars_take n vars h
    scoped_named n (Returns v left) h = h
    scoped_named n SpentRun h = tt
    scoped_named n NoRun h = tt

    scope_named : (go : Locals → ℕ → Run) → GoNamed go → GoNamed (scope go)
    scope_named go f vars left h = scoped_named (length vars) (go vars left) (f vars left h)

    valued_named : (r : Res ValueTree) (vars : Locals) (go : ValueTree → ℕ → Run) → ResNamed p r → VarsNamed vars → ((v : ValueTree) (left : ℕ) → Named p v → RunNamed (go v left))
        → RunNamed (valued r vars go)
    valued_named (Done v left) vars go n h f = f v left n
    valued_named (Fails e left) vars go n h f = h
    valued_named Spent vars go n h f = tt
    valued_named Meaningless vars go n h f = tt

    valued_all : (r : Res (List ValueTree)) (vars : Locals) (go : List ValueTree → ℕ → Run) → AllResNamed p r → VarsNamed vars
        → ((vs : List ValueTree) (left : ℕ) → AllNamed p vs → RunNamed (go vs left)) → RunNamed (valued r vars go)
    valued_all (Done v left) vars go n h f = f v left n
    valued_all (Fails e left) vars go n h f = h
    valued_all Spent vars go n h f = tt
    valued_all Meaningless vars go n h f = tt

    chosen_named : (b : Option Bool) (main other : Locals → ℕ → Run) → GoNamed main → GoNamed other → GoNamed (chosen b main other)
    chosen_named None main other f g vars left h = tt
    chosen_named (Some true) main other f g vars left h = f vars left h
    chosen_named (Some false) main other f g vars left h = g vars left h

    again_named : (r : Run) (go : Locals → ℕ → Run) → RunNamed r → GoNamed go → RunNamed (again r go)
    again_named (Goes vars left) go h f = f vars left h
    again_named (Continues vars left) go h f = f vars left h
    again_named (Breaks vars left) go h f = h
    again_named (Returns v left) go h f = h
    again_named (Raises e vars left) go h f = h
    again_named SpentRun go h f = tt
    again_named NoRun go h f = tt

    passes_named : (pass : Locals → ℕ → Run) (most : ℕ) → GoNamed pass → GoNamed (passes pass most)
    passes_named pass most f vars zero h = tt
    passes_named pass zero f vars (suc left) h = tt
    passes_named pass (suc most) f vars (suc left) h = again_named (pass vars left) (passes pass most) (f vars left h) (passes_named pass most f)

    stepped_named : (r : Run) (step : Locals → ℕ → Run) → RunNamed r → GoNamed step → RunNamed (stepped r step)
    stepped_named (Goes vars left) step h f = f vars left h
    stepped_named (Continues vars left) step h f = f vars left h
    stepped_named (Breaks vars left) step h f = h
    stepped_named (Returns v left) step h f = h
    stepped_named (Raises e vars left) step h f = h
    stepped_named SpentRun step h f = tt
    stepped_named NoRun step h f = tt

    thrown_named : (o : Option ℕ) → GoNamed (thrown o)
    thrown_named None vars left h = tt
    thrown_named (Some e) vars left h = h

    rethrown_named : (o : Option (List ℕ)) → GoNamed (rethrown o)
    rethrown_named None vars left h = tt
    rethrown_named (Some x) vars left h = thrown_named (error_at (named vars x)) vars left h

    declared_maybe : (o : Option ValueTree) (x : List ℕ) → MaybeNamed p o → GoNamed (declared o x)
    declared_maybe None x n vars left h = tt
    declared_maybe (Some v) x n vars left h = vars_more vars x v h n

    read_path_named : (vars : Locals) (xs : List Ident) → VarsNamed vars → MaybeNamed p (read_path s.records vars xs)
    read_path_named vars [] h = tt
    read_path_named vars (x ∷ xs) h = read_in_named p s.records (named vars x.name) xs (vars_look vars h x.name)

    abbrev MaybeVars : Option Locals → Type 0
    MaybeVars None = Unit {0}
    MaybeVars (Some vars) = VarsNamed vars

    set_var : (vars : Locals) (k : ℕ) (x : List ℕ) (o : Option ValueTree) → VarsNamed vars → MaybeNamed p o → MaybeVars (option_map (λ u. slice_set vars k (x, u)) o)
    set_var vars k x None h n = tt
    set_var vars k x (Some u) h n = vars_set vars k x u h n

    put_var : (vars : Locals) (k : ℕ) (o : Option (List ℕ × ValueTree)) (xs : List Ident) (w : ValueTree) → slice_get vars k ≡ o → VarsNamed vars → Named p w
        → MaybeVars (put_at_var s.records vars k o xs w)
    put_var vars k None xs w e h n = tt
    put_var vars k (Some v) xs w e h n = set_var vars k v.0 (put_in s.records (Some v.1) xs w) h (put_in_named p s.records (Some v.1) xs w (var_at vars k (Some v) e h) n)

    put_place_named : (vars : Locals) (k : Option ℕ) (xs : List Ident) (w : ValueTree) → VarsNamed vars → Named p w → MaybeVars (put_place s.records vars k xs w)
    put_place_named vars None xs w h n = tt
    put_place_named vars (Some k) xs w h n = put_var vars k (slice_get vars k) xs w refl h n

    put_path_named : (vars : Locals) (xs : List Ident) (w : ValueTree) → VarsNamed vars → Named p w → MaybeVars (put_path s.records vars xs w)
    put_path_named vars [] w h n = tt
    put_path_named vars (x ∷ xs) w h n = put_place_named vars (position (λ v. bytes_eq x.name v.0) vars) xs w h n

    assigned_named : (o : Option Locals) (left : ℕ) → MaybeVars o → RunNamed (assigned o left)
    assigned_named None left h = tt
    assigned_named (Some vars) left h = h

    -- each statement
    value_of : (e : ExprTree) (vars : Locals) (left : ℕ) → VarsNamed vars → ResNamed p (evaluated s run e vars left)
    value_of e vars left h = eval_named (named vars) e left (vars_look vars h)

    if_named : (e : ExprTree) (main other : Locals → ℕ → Run) → GoNamed main → GoNamed other → GoNamed (if_run s run e main other)
    if_named e main other f g vars left h = valued_named (evaluated s run e vars left) vars (λ v left. chosen (bool_of v) main other vars left) (value_of e vars left h) h
        (λ v l n. chosen_named (bool_of v) main other f g vars l h)

    pass_named : (o : Option ExprTree) (body : Locals → ℕ → Run) → GoNamed body → GoNamed (pass_run s run o body)
    pass_named None body f = scope_named body f
    pass_named (Some e) body f = if_named e (scope body) leave_loop (scope_named body f) (λ vars left h. h)

    loop_named : (o : Option ExprTree) (step body : Locals → ℕ → Run) → GoNamed step → GoNamed body → GoNamed (loop_run s run o step body)
    loop_named o step body f g vars left h =
        passes_named (turn_run s run o step body) left (λ vars left h. stepped_named (pass_run s run o body vars left) step (pass_named o body g vars left h) f) vars left h

    throw_named : (o : Option ExprTree) (caught : Option (List ℕ)) → GoNamed (throw_run s run o caught)
    throw_named None caught vars left h = rethrown_named caught vars left h
    throw_named (Some e) caught vars left h = valued_named (evaluated s run e vars left) vars (λ v left. thrown (error_of v) vars left) (value_of e vars left h) h
        (λ v l n. thrown_named (error_of v) vars l h)

    declare_named : (i : IntoTree) (o : Option ExprTree) → GoNamed (declare_run s run i o)
    declare_named i None vars left h = declared_maybe (default_value i.ty) i.name.name (default_named p i.ty) vars left h
    declare_named i (Some e) vars left h = valued_named (evaluated s run e vars left) vars (λ v left. declared (Some v) i.name.name vars left) (value_of e vars left h) h
        (λ v l n. vars_more vars i.name.name v h n)

    assign_named : (xs : List Ident) (e : ExprTree) → GoNamed (assign_run s run xs e)
    assign_named xs e vars left h =
        valued_named (evaluated s run e vars left) vars (λ v left. assigned (put_path s.records vars xs v) left) (value_of e vars left h) h
        (λ v l n. assigned_named (put_path s.records vars xs v) l (put_path_named vars xs v h n))

    operand_named : (c : ChangeTree) (vars : Locals) (left : ℕ) → VarsNamed vars → ResNamed p (change_operand s run c vars left)
    operand_named (PlusChange e) vars left h = value_of e vars left h
    operand_named (MinusChange e) vars left h = value_of e vars left h
    operand_named UpChange vars left h = tt
    operand_named DownChange vars left h = tt

    changed_named : (o : Option ValueTree) (c : ChangeTree) (xs : List Ident) (vars : Locals) (left : ℕ) → VarsNamed vars → RunNamed (changed s run o c xs vars left)
    changed_named None c xs vars left h = tt
    changed_named (Some v) c xs vars left h =
        valued_named (change_operand s run c vars left) vars (λ w left. valued (at_once (operated (change_sign c) v w) left) vars (λ u left. assigned (put_path s.records vars xs u) left))
        (operand_named c vars left h) h
        (λ w l n. valued_named (at_once (operated (change_sign c) v w) l) vars (λ u left. assigned (put_path s.records vars xs u) left)
        (once_named p (operated (change_sign c) v w) l (operated_named p (change_sign c) v w)) h
        (λ u k m. assigned_named (put_path s.records vars xs u) k (put_path_named vars xs u h m)))

    call_by_named : (xs : List Ident) (vs : List ValueTree) (left : ℕ) → AllNamed p vs → ResNamed p (call_by s run xs vs left)
    call_by_named [] vs left h = tt
    call_by_named (x ∷ []) vs left h = function_named (routine_named s.functions x.name) vs left h
    call_by_named (x ∷ y ∷ ys) vs left h = tt

    call_run_named : (xs : List Ident) (es : ExprTrees) → GoNamed (call_run s run xs es)
    call_run_named xs es vars left h =
        valued_all (eval_all s run (named vars) es left) vars (λ vs left. valued (call_by s run xs vs left) vars (λ v left. Goes vars left)) (all_named (named vars) es left (vars_look vars h)) h
        (λ vs l n. valued_named (call_by s run xs vs l) vars (λ v left. Goes vars left) (call_by_named xs vs l n) h (λ v k m. h))

    return_named : (o : Option ExprTree) → GoNamed (return_run s run o)
    return_named None vars left h = tt
    return_named (Some e) vars left h = valued_named (evaluated s run e vars left) vars (λ v left. Returns v left) (value_of e vars left h) h (λ v l n. n)

    caught_named : (r : Run) (handler : ℕ → Locals → ℕ → Run) → RunNamed r → ((e : ℕ) → GoNamed (handler e)) → RunNamed (caught_by r handler)
    caught_named (Raises e vars left) handler h f = f e vars left h
    caught_named SpentRun handler h f = tt
    caught_named NoRun handler h f = tt
    caught_named _ handler h f = h

    try_named : (body : Locals → ℕ → Run) (x : List ℕ) (handler : Locals → ℕ → Run) → GoNamed body → GoNamed handler → GoNamed (try_run body x handler)
    try_named body x handler f g vars left h =
        caught_named (scope body vars left) (handled x handler) (scope_named body f vars left h)
        (λ e vars left h. scoped_named (length vars) (handler (bound vars x (ErrorValue e)) left) (g (bound vars x (ErrorValue e)) left (vars_more vars x (ErrorValue e) h tt)))

    pub exec_named : (x : Body) (c : Option (List ℕ)) → GoNamed (exec s run x c)
    exec_named End c vars left h = h
    exec_named (BlockStmt at b k) c vars left h = after_named (scope (exec s run b c) vars left) (exec s run k c) (scope_named (exec s run b c) (exec_named b c) vars left h) (exec_named k c)
    exec_named (IfStmt at e b k) c vars left h =
        after_named (if_run s run e (scope (exec s run b c)) skip vars left) (exec s run k c)
        (if_named e (scope (exec s run b c)) skip (scope_named (exec s run b c) (exec_named b c)) (λ vars left h. h) vars left h) (exec_named k c)
    exec_named (IfElseStmt at e b d k) c vars left h =
        after_named (if_run s run e (scope (exec s run b c)) (scope (exec s run d c)) vars left) (exec s run k c)
        (if_named e (scope (exec s run b c)) (scope (exec s run d c)) (scope_named (exec s run b c) (exec_named b c)) (scope_named (exec s run d c) (exec_named d c)) vars left h) (exec_named k c)
    exec_named (WhileStmt at e b k) c vars left h =
        after_named (loop_run s run (Some e) skip (exec s run b c) vars left) (exec s run k c) (loop_named (Some e) skip (exec s run b c) (λ vars left h. h) (exec_named b c) vars left h)
        (exec_named k c)
    exec_named (ForStmt at i e t b k) c vars left h =
        after_named (scope (for_run s run (exec s run i c) e (exec s run t c) (exec s run b c)) vars left) (exec s run k c)
        (scope_named (for_run s run (exec s run i c) e (exec s run t c) (exec s run b c))
        (λ vars left h. after_named (exec s run i c vars left) (loop_run s run e (exec s run t c) (exec s run b c)) (exec_named i c vars left h)
        (loop_named e (exec s run t c) (exec s run b c) (exec_named t c) (exec_named b c))) vars left h)
        (exec_named k c)
    exec_named (LoopStmt at b k) c vars left h =
        after_named (loop_run s run None skip (exec s run b c) vars left) (exec s run k c) (loop_named None skip (exec s run b c) (λ vars left h. h) (exec_named b c) vars left h) (exec_named k c)
    exec_named (BreakStmt at k) c vars left h = h
    exec_named (ContinueStmt at k) c vars left h = h
    exec_named (ReturnStmt at e k) c vars left h = after_named (return_run s run e vars left) (exec s run k c) (return_named e vars left h) (exec_named k c)
    exec_named (ThrowStmt at e k) c vars left h = after_named (throw_run s run e c vars left) (exec s run k c) (throw_named e c vars left h) (exec_named k c)
    exec_named (TryStmt at b q x y k) c vars left h =
        after_named (try_run (exec s run b c) x.name (exec s run y (Some x.name)) vars left) (exec s run k c)
        (try_named (exec s run b c) x.name (exec s run y (Some x.name)) (exec_named b c) (exec_named y (Some x.name)) vars left h) (exec_named k c)
    exec_named (ChooseStmt at bs k) c vars left h = tt
    exec_named (DeclareStmt at i e k) c vars left h = after_named (declare_run s run i e vars left) (exec s run k c) (declare_named i e vars left h) (exec_named k c)
    exec_named (AssignStmt at xs e k) c vars left h = after_named (assign_run s run xs e vars left) (exec s run k c) (assign_named xs e vars left h) (exec_named k c)
    exec_named (ModifyStmt at xs m k) c vars left h = after_named (modify_run s run xs m vars left) (exec s run k c) (changed_named (read_path s.records vars xs) m xs vars left h) (exec_named k c)
    exec_named (CallStmt at xs es k) c vars left h = after_named (call_run s run xs es vars left) (exec s run k c) (call_run_named xs es vars left h) (exec_named k c)
    exec_named (WaitStmt at w k) c vars left h = tt

    -- a function's body
    entered_named : (ps : List ParamTree) (vs : List ValueTree) → AllNamed p vs → MaybeVars (entered ps vs)
    entered_named [] [] h = tt
    entered_named [] (v ∷ vs) h = tt
    entered_named (q ∷ ps) [] h = tt
    entered_named (q ∷ ps) (v ∷ vs) h = first (entered ps vs) (entered_named ps vs h.1)
      where
        first : (o : Option Locals) → MaybeVars o → MaybeVars (with_first (q.name.name, v) o)
        first None k = tt
        first (Some vars) k = (h.0, k)

    finished_named : (r : Run) → RunNamed r → ResNamed p (finished r)
    finished_named (Returns v left) h = h
    finished_named _ h = tt

    pub body_named : (f : RoutineTree) (o : Option Locals) (left : ℕ) → MaybeVars o → ResNamed p (body_run s run f o left)
    body_named f None left h = tt
    body_named f (Some vars) left h = finished_named (exec s run f.body None vars left) (exec_named f.body None vars left h)

  run_named : (s : Setting) → GivesFutures p → CellsNamed p s → (n : ℕ) (f : RoutineTree) (vs : List ValueTree) (left : ℕ) → AllNamed p vs → ResNamed p (run_function s n f vs left)
  run_named s g c zero f vs zero h = tt
  run_named s g c zero f vs (suc left) h = tt
  run_named s g c (suc n) f vs zero h = tt
  run_named s g c (suc n) f vs (suc left) h = body_named s (run_function s n) g c (run_named s g c n) f (entered f.params vs) left
      (entered_named s (run_function s n) g c (run_named s g c n) f.params vs h)

pub eval_names : law.EvalNamed
eval_names p s look e left g c h = eval_named p s (run_function s deepest) g c (run_named p s g c deepest) look e left h

pub all_names : law.AllEvalNamed
all_names p s look es left g c h = all_named p s (run_function s deepest) g c (run_named p s g c deepest) look es left h

pub call_names_kept : law.CallNamed
call_names_kept p s f vs left g c h = run_named p s g c deepest f vs left h
