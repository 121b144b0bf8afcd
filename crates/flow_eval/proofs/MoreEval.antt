-- Evaluation with more turns: the same, with as many turns more left, or the turns ran out.
use Rattle.std.proofs.Common.{◌≡◌, ℕ, zero, suc, ◌+◌, ◌≤◌, List, [], ◌∷◌, ◌⊎◌, inl, inr, refl, sym, ap, subst, arith}
use Rattle.std.specs.Prelude.{pos, Bool, true, false, length}
use Rattle.std.specs.declared.option.Option.{Option}
use Rattle.std.specs.declared.option.Option.TheVariants.{None, Some}
use Rattle.flow_base.specs.ErrorNumbers.{out_of_range}
use Rattle.flow_tree.specs.declared.ty.Ident.{Ident}
use Rattle.flow_tree.specs.declared.expr.Op.{Op}
use Rattle.flow_tree.specs.declared.expr.Op.TheVariants.{Or, And, Eq, Ne, Lt, Le, Gt, Ge, Add, Sub, Mul, Div, Rem}
use Rattle.flow_ast.specs.declared.predefined.Predefined as code
use Rattle.flow_tree.specs.Tree.{ExprTree, ExprTrees, IntExpr, TextExpr, BoolExpr, VoidExpr, VarExpr, CallExpr, FieldExpr, MethodExpr, NotExpr, NegExpr, BinaryExpr, ParenExpr, NoExprs, MoreExprs}
use Rattle.flow_tree.specs.Body.{IntoTree, ChangeTree, PlusChange, MinusChange, UpChange, DownChange, Body, End, BlockStmt, IfStmt, IfElseStmt, WhileStmt, ForStmt, LoopStmt, BreakStmt, ContinueStmt, ReturnStmt, ThrowStmt, TryStmt, ChooseStmt, DeclareStmt, AssignStmt, ModifyStmt, CallStmt, WaitStmt}
use Rattle.flow_tree.specs.Decls.{RoutineTree}
use Rattle.flow_ast.specs.TypingNames.{named, selected, call_names, constant_names}
use Rattle.flow_ast.specs.Typing.{routine_named}
use Rattle.flow_value.specs.declared.value.RecordId.{RecordId}
use Rattle.flow_value.specs.Values.{ValueTree, IntValue, BoolValue, values_of_list, CompositeValue, RecordWhole}
use Rattle.flow_eval.specs.Answers.{Answer, Given, Throws, NoMeaning, truth, bool_of, error_of}
use Rattle.flow_eval.specs.Operators.{operated, negated, inverted}
use Rattle.flow_eval.specs.Predefined.{call_answer}
use Rattle.flow_eval.specs.Records.{record_id, field, field_answer}
use Rattle.flow_eval.specs.Eval.{Res, Done, Fails, Spent, Meaningless, Setting, Runner, then, at_once, variable, truth_of, or_then, and_then, both, second, method_called, function_called, declared_called, called, eval, eval_all}
use Rattle.flow_eval.specs.MoreTurns.{Later, MoreTurns}
use Rattle.flow_eval.specs.Functions.{Locals, Run, Goes, Breaks, Continues, Returns, Raises, SpentRun, NoRun, after, scoped, valued, chosen, again, passes, looped, stepped, caught_by, thrown, error_at, rethrown, default_value, bound, declared, put_path, read_path, assigned, entered, finished, scope, skip, leave_loop, change_sign, handled, try_run, evaluated, if_run, pass_run, turn_run, loop_run, for_run, throw_run, declare_run, assign_run, change_operand, changed, modify_run, call_by, call_run, return_run, exec, body_run, run_function, deepest, Eval, Call}

abbrev plus_run : ℕ → Run → Run
plus_run k (Goes vars left) = Goes vars (left + k)
plus_run k (Breaks vars left) = Breaks vars (left + k)
plus_run k (Continues vars left) = Continues vars (left + k)
plus_run k (Returns v left) = Returns v (left + k)
plus_run k (Raises e vars left) = Raises e vars (left + k)
plus_run k SpentRun = SpentRun
plus_run k NoRun = NoRun

abbrev LaterRun : ℕ → Run → Run → Type 0
LaterRun k r s = (s ≡ plus_run k r) ⊎ (r ≡ SpentRun)

-- what goes on from a thing and turns does alike with more turns
abbrev Follows : {A B : Type 0} → ℕ → (A → ℕ → Res B) → Type 0
Follows {A = A} k go = (x : A) (left sum : ℕ) → sum ≡ left + k → Later k (go x left) (go x sum)

abbrev Runs : ℕ → (Locals → ℕ → Run) → Type 0
Runs k go = (vars : Locals) (left sum : ℕ) → sum ≡ left + k → LaterRun k (go vars left) (go vars sum)

pub done_later : {A : Type 0} (k : ℕ) (v : A) (left sum : ℕ) → sum ≡ left + k → Later k (Done v left) (Done v sum)
done_later k v left sum e = inl (ap (Done v) e)

fails_later : {A : Type 0} (k err left sum : ℕ) → sum ≡ left + k → Later {A = A} k (Fails err left) (Fails err sum)
fails_later k err left sum e = inl (ap (Fails err) e)

pub then_later : {A B : Type 0} (k : ℕ) (go : A → ℕ → Res B) (r s : Res A) → Later k r s → Follows k go → Later k (then r go) (then s go)
then_later k go r s (inr e) f = inr (ap (λ x. then x go) e)
then_later k go (Done v left) s (inl e) f = subst (λ x. Later k (go v left) (then x go)) (sym e) (f v left (left + k) refl)
then_later k go (Fails err left) s (inl e) f = inl (ap (λ x. then x go) e)
then_later k go Spent s (inl e) f = inr refl
then_later k go Meaningless s (inl e) f = inl (ap (λ x. then x go) e)

at_once_later : (k : ℕ) (a : Answer) (left sum : ℕ) → sum ≡ left + k → Later k (at_once a left) (at_once a sum)
at_once_later k (Given v) left sum e = done_later k v left sum e
at_once_later k (Throws err) left sum e = fails_later k err left sum e
at_once_later k NoMeaning left sum e = inl refl

-- a function's run with more turns
abbrev RunsMore : ℕ → Runner → Type 0
RunsMore k run = (f : RoutineTree) (vs : List ValueTree) (left sum : ℕ) → sum ≡ left + k → Later k (run f vs left) (run f vs sum)

module _ (k : ℕ) (s : Setting) (run : Runner) (runs : RunsMore k run) where
  function_later : (f : Option RoutineTree) (vs : List ValueTree) (left sum : ℕ) → sum ≡ left + k → Later k (function_called s run f vs left) (function_called s run f vs sum)
  function_later None vs left sum e = inl refl
  function_later (Some f) vs left sum e = runs f vs left sum e

  declared_later : (r : Option RecordId) (f : List ℕ) (vs : List ValueTree) (left sum : ℕ) → sum ≡ left + k → Later k (declared_called s run r f vs left) (declared_called s run r f vs sum)
  declared_later None f vs left sum e = function_later (routine_named s.functions f) vs left sum e
  declared_later (Some r) f vs left sum e = at_once_later k (Given (CompositeValue (RecordWhole r) (values_of_list vs))) left sum e

  called_later : (p : Option code.Predefined) (f : List ℕ) (vs : List ValueTree) (left sum : ℕ) → sum ≡ left + k → Later k (called s run p f vs left) (called s run p f vs sum)
  called_later None f vs left sum e = declared_later (record_id s.records f) f vs left sum e
  called_later (Some p) f vs left sum e = at_once_later k (call_answer p s.now vs) left sum e

  truth_later : (r q : Res ValueTree) → Later k r q → Later k (truth_of r) (truth_of q)
  truth_later r q h = then_later k (λ v left. at_once (truth (bool_of v)) left) r q h (λ v left sum e. at_once_later k (truth (bool_of v)) left sum e)

  both_later : (op : Op) (v : ValueTree) (r q : Res ValueTree) → Later k r q → Later k (both op v r) (both op v q)
  both_later op v r q h = then_later k (λ w left. at_once (operated op v w) left) r q h (λ w left sum e. at_once_later k (operated op v w) left sum e)

  abbrev Goes_later : (ℕ → Res ValueTree) → Type 0
  Goes_later go = (left sum : ℕ) → sum ≡ left + k → Later k (go left) (go sum)

  or_later : (b : Option Bool) (go : ℕ → Res ValueTree) → Goes_later go → Goes_later (or_then b go)
  or_later None go h left sum e = inl refl
  or_later (Some true) go h left sum e = done_later k (BoolValue true) left sum e
  or_later (Some false) go h left sum e = truth_later (go left) (go sum) (h left sum e)

  and_later : (b : Option Bool) (go : ℕ → Res ValueTree) → Goes_later go → Goes_later (and_then b go)
  and_later None go h left sum e = inl refl
  and_later (Some true) go h left sum e = truth_later (go left) (go sum) (h left sum e)
  and_later (Some false) go h left sum e = done_later k (BoolValue false) left sum e

  second_later : (op : Op) (v : ValueTree) (go : ℕ → Res ValueTree) → Goes_later go → Goes_later (second op v go)
  second_later Or v go h left sum e = or_later (bool_of v) go h left sum e
  second_later And v go h left sum e = and_later (bool_of v) go h left sum e
  second_later Eq v go h left sum e = both_later Eq v (go left) (go sum) (h left sum e)
  second_later Ne v go h left sum e = both_later Ne v (go left) (go sum) (h left sum e)
  second_later Lt v go h left sum e = both_later Lt v (go left) (go sum) (h left sum e)
  second_later Le v go h left sum e = both_later Le v (go left) (go sum) (h left sum e)
  second_later Gt v go h left sum e = both_later Gt v (go left) (go sum) (h left sum e)
  second_later Ge v go h left sum e = both_later Ge v (go left) (go sum) (h left sum e)
  second_later Add v go h left sum e = both_later Add v (go left) (go sum) (h left sum e)
  second_later Sub v go h left sum e = both_later Sub v (go left) (go sum) (h left sum e)
  second_later Mul v go h left sum e = both_later Mul v (go left) (go sum) (h left sum e)
  second_later Div v go h left sum e = both_later Div v (go left) (go sum) (h left sum e)
  second_later Rem v go h left sum e = both_later Rem v (go left) (go sum) (h left sum e)

  mutual
    pub eval_later : (look : List ℕ → Option ValueTree) (e : ExprTree) (left sum : ℕ) → sum ≡ left + k → Later k (eval s run look e left) (eval s run look e sum)
    eval_later look (IntExpr n) left sum q = done_later k _ left sum q
    eval_later look (TextExpr t) left sum q = done_later k _ left sum q
    eval_later look (BoolExpr b) left sum q = done_later k _ left sum q
    eval_later look VoidExpr left sum q = done_later k _ left sum q
    eval_later look (VarExpr x) left sum q = at_once_later k (variable look x.name (named constant_names x.name)) left sum q
    eval_later look (CallExpr f xs) left sum q =
        then_later k (λ vs left. called s run (named call_names f.name) f.name vs left) (eval_all s run look xs left) (eval_all s run look xs sum) (eval_all_later look xs left sum q)
        (λ vs l m e. called_later (named call_names f.name) f.name vs l m e)
    eval_later look (FieldExpr e x) left sum q =
        then_later k (λ v left. at_once (field_answer (field s.records v x.name)) left) (eval s run look e left) (eval s run look e sum) (eval_later look e left sum q)
        (λ v l m h. at_once_later k (field_answer (field s.records v x.name)) l m h)
    eval_later look (MethodExpr e m xs) left sum q =
        then_later k (λ v left. then (eval_all s run look xs left) (λ vs left. at_once (method_called s.cells (selected m) v vs) left)) (eval s run look e left) (eval s run look e sum)
        (eval_later look e left sum q)
        (λ v l n h. then_later k (λ vs left. at_once (method_called s.cells (selected m) v vs) left) (eval_all s run look xs l) (eval_all s run look xs n) (eval_all_later look xs l n h)
        (λ vs i j g. at_once_later k (method_called s.cells (selected m) v vs) i j g))
    eval_later look (NotExpr e) left sum q =
        then_later k (λ v left. at_once (inverted v) left) (eval s run look e left) (eval s run look e sum) (eval_later look e left sum q) (λ v l m h. at_once_later k (inverted v) l m h)
    eval_later look (NegExpr e) left sum q =
        then_later k (λ v left. at_once (negated v) left) (eval s run look e left) (eval s run look e sum) (eval_later look e left sum q) (λ v l m h. at_once_later k (negated v) l m h)
    eval_later look (BinaryExpr op a b) left sum q =
        then_later k (λ v left. second op v (eval s run look b) left) (eval s run look a left) (eval s run look a sum) (eval_later look a left sum q)
        (λ v l m h. second_later op v (eval s run look b) (eval_later look b) l m h)
    eval_later look (ParenExpr e) left sum q = eval_later look e left sum q

    pub eval_all_later : (look : List ℕ → Option ValueTree) (es : ExprTrees) (left sum : ℕ) → sum ≡ left + k → Later k (eval_all s run look es left) (eval_all s run look es sum)
    eval_all_later look NoExprs left sum q = done_later k [] left sum q
    eval_all_later look (MoreExprs e es) left sum q =
        then_later k (λ v left. then (eval_all s run look es left) (λ vs left. Done (v ∷ vs) left)) (eval s run look e left) (eval s run look e sum) (eval_later look e left sum q)
        (λ v l m h. then_later k (λ vs left. Done (v ∷ vs) left) (eval_all s run look es l) (eval_all s run look es m) (eval_all_later look es l m h) (λ vs i j g. done_later k (v ∷ vs) i j g))

  -- statements
  goes_later : (vars : Locals) (left sum : ℕ) → sum ≡ left + k → LaterRun k (Goes vars left) (Goes vars sum)
  goes_later vars left sum e = inl (ap (Goes vars) e)

  after_later : (go : Locals → ℕ → Run) → Runs k go → (r q : Run) → LaterRun k r q → LaterRun k (after r go) (after q go)
  after_later go f r q (inr e) = inr (ap (λ x. after x go) e)
  after_later go f (Goes vars left) q (inl e) = subst (λ x. LaterRun k (go vars left) (after x go)) (sym e) (f vars left (left + k) refl)
  after_later go f (Breaks vars left) q (inl e) = inl (ap (λ x. after x go) e)
  after_later go f (Continues vars left) q (inl e) = inl (ap (λ x. after x go) e)
  after_later go f (Returns v left) q (inl e) = inl (ap (λ x. after x go) e)
  after_later go f (Raises err vars left) q (inl e) = inl (ap (λ x. after x go) e)
  after_later go f SpentRun q (inl e) = inr refl
  after_later go f NoRun q (inl e) = inl (ap (λ x. after x go) e)

  scoped_later : (n : ℕ) (r q : Run) → LaterRun k r q → LaterRun k (scoped n r) (scoped n q)
  scoped_later n r q (inr e) = inr (ap (scoped n) e)
  scoped_later n (Goes vars left) q (inl e) = inl (ap (scoped n) e)
  scoped_later n (Breaks vars left) q (inl e) = inl (ap (scoped n) e)
  scoped_later n (Continues vars left) q (inl e) = inl (ap (scoped n) e)
  scoped_later n (Returns v left) q (inl e) = inl (ap (scoped n) e)
  scoped_later n (Raises err vars left) q (inl e) = inl (ap (scoped n) e)
  scoped_later n SpentRun q (inl e) = inr refl
  scoped_later n NoRun q (inl e) = inl (ap (scoped n) e)

  scope_later : (go : Locals → ℕ → Run) → Runs k go → Runs k (scope go)
  scope_later go f vars left sum e = scoped_later (length vars) (go vars left) (go vars sum) (f vars left sum e)

  valued_later : {A : Type 0} (vars : Locals) (go : A → ℕ → Run) → ((x : A) (left sum : ℕ) → sum ≡ left + k → LaterRun k (go x left) (go x sum)) → (r q : Res A) → Later k r q
      → LaterRun k (valued r vars go) (valued q vars go)
  valued_later vars go f r q (inr e) = inr (ap (λ x. valued x vars go) e)
  valued_later vars go f (Done v left) q (inl e) = subst (λ x. LaterRun k (go v left) (valued x vars go)) (sym e) (f v left (left + k) refl)
  valued_later vars go f (Fails err left) q (inl e) = inl (ap (λ x. valued x vars go) e)
  valued_later vars go f Spent q (inl e) = inr refl
  valued_later vars go f Meaningless q (inl e) = inl (ap (λ x. valued x vars go) e)

  chosen_later : (b : Option Bool) (main other : Locals → ℕ → Run) → Runs k main → Runs k other → Runs k (chosen b main other)
  chosen_later None main other f g vars left sum e = inl refl
  chosen_later (Some true) main other f g vars left sum e = f vars left sum e
  chosen_later (Some false) main other f g vars left sum e = g vars left sum e

  again_later : (go next : Locals → ℕ → Run) → ((vars : Locals) (left sum : ℕ) → sum ≡ left + k → LaterRun k (go vars left) (next vars sum)) → (r q : Run) → LaterRun k r q
      → LaterRun k (again r go) (again q next)
  again_later go next f r q (inr e) = inr (ap (λ x. again x go) e)
  again_later go next f (Goes vars left) q (inl e) = subst (λ x. LaterRun k (go vars left) (again x next)) (sym e) (f vars left (left + k) refl)
  again_later go next f (Continues vars left) q (inl e) = subst (λ x. LaterRun k (go vars left) (again x next)) (sym e) (f vars left (left + k) refl)
  again_later go next f (Breaks vars left) q (inl e) = inl (ap (λ x. again x next) e)
  again_later go next f (Returns v left) q (inl e) = inl (ap (λ x. again x next) e)
  again_later go next f (Raises err vars left) q (inl e) = inl (ap (λ x. again x next) e)
  again_later go next f SpentRun q (inl e) = inr refl
  again_later go next f NoRun q (inl e) = inl (ap (λ x. again x next) e)

  passes_later : (pass : Locals → ℕ → Run) → Runs k pass → (most many : ℕ) → most ≤ many → (vars : Locals) (left sum : ℕ) → sum ≡ left + k
      → LaterRun k (passes pass most vars left) (passes pass many vars sum)
  passes_later pass f zero many le vars zero sum e = inr refl
  passes_later pass f zero many le vars (suc left) sum e = inr refl
  passes_later pass f (suc most) many le vars zero sum e = inr refl
  passes_later pass f (suc most) zero le vars (suc left) sum e = absurd (omega (arith, le))
  passes_later pass f (suc most) (suc many) le vars (suc left) zero e = absurd (omega (arith, e))
  passes_later pass f (suc most) (suc many) le vars (suc left) (suc sum) e =
      again_later (passes pass most) (passes pass many) (passes_later pass f most many (omega (arith, le))) (pass vars left) (pass vars sum) (f vars left sum (omega (arith, e)))

  looped_later : (pass : Locals → ℕ → Run) → Runs k pass → Runs k (looped pass)
  looped_later pass f vars left sum e = passes_later pass f left sum (omega (arith, e)) vars left sum e

  stepped_later : (step : Locals → ℕ → Run) → Runs k step → (r q : Run) → LaterRun k r q → LaterRun k (stepped r step) (stepped q step)
  stepped_later step f r q (inr e) = inr (ap (λ x. stepped x step) e)
  stepped_later step f (Goes vars left) q (inl e) = subst (λ x. LaterRun k (step vars left) (stepped x step)) (sym e) (f vars left (left + k) refl)
  stepped_later step f (Continues vars left) q (inl e) = subst (λ x. LaterRun k (step vars left) (stepped x step)) (sym e) (f vars left (left + k) refl)
  stepped_later step f (Breaks vars left) q (inl e) = inl (ap (λ x. stepped x step) e)
  stepped_later step f (Returns v left) q (inl e) = inl (ap (λ x. stepped x step) e)
  stepped_later step f (Raises err vars left) q (inl e) = inl (ap (λ x. stepped x step) e)
  stepped_later step f SpentRun q (inl e) = inr refl
  stepped_later step f NoRun q (inl e) = inl (ap (λ x. stepped x step) e)

  caught_later : (handler : ℕ → Locals → ℕ → Run) → ((err : ℕ) → Runs k (handler err)) → (r q : Run) → LaterRun k r q → LaterRun k (caught_by r handler) (caught_by q handler)
  caught_later handler f r q (inr e) = inr (ap (λ x. caught_by x handler) e)
  caught_later handler f (Raises err vars left) q (inl e) = subst (λ x. LaterRun k (handler err vars left) (caught_by x handler)) (sym e) (f err vars left (left + k) refl)
  caught_later handler f (Goes vars left) q (inl e) = inl (ap (λ x. caught_by x handler) e)
  caught_later handler f (Breaks vars left) q (inl e) = inl (ap (λ x. caught_by x handler) e)
  caught_later handler f (Continues vars left) q (inl e) = inl (ap (λ x. caught_by x handler) e)
  caught_later handler f (Returns v left) q (inl e) = inl (ap (λ x. caught_by x handler) e)
  caught_later handler f SpentRun q (inl e) = inr refl
  caught_later handler f NoRun q (inl e) = inl (ap (λ x. caught_by x handler) e)

  thrown_later : (o : Option ℕ) → Runs k (thrown o)
  thrown_later None vars left sum e = inl refl
  thrown_later (Some err) vars left sum e = inl (ap (Raises err vars) e)

  rethrown_later : (x : Option (List ℕ)) → Runs k (rethrown x)
  rethrown_later None vars left sum e = inl refl
  rethrown_later (Some x) vars left sum e = thrown_later (error_at (named vars x)) vars left sum e

  declared_run_later : (o : Option ValueTree) (x : List ℕ) → Runs k (declared o x)
  declared_run_later None x vars left sum e = inl refl
  declared_run_later (Some v) x vars left sum e = goes_later (bound vars x v) left sum e

  assigned_later : (o : Option Locals) (left sum : ℕ) → sum ≡ left + k → LaterRun k (assigned o left) (assigned o sum)
  assigned_later None left sum e = inl refl
  assigned_later (Some vars) left sum e = goes_later vars left sum e

  evaluated_later : (e : ExprTree) (vars : Locals) (left sum : ℕ) → sum ≡ left + k → Later k (evaluated s run e vars left) (evaluated s run e vars sum)
  evaluated_later e vars left sum q = eval_later (named vars) e left sum q

  if_later : (e : ExprTree) (main other : Locals → ℕ → Run) → Runs k main → Runs k other → Runs k (if_run s run e main other)
  if_later e main other f g vars left sum q =
      valued_later vars (λ v left. chosen (bool_of v) main other vars left) (λ v l m h. chosen_later (bool_of v) main other f g vars l m h) (evaluated s run e vars left) (evaluated s run e vars sum)
      (evaluated_later e vars left sum q)

  skip_later : Runs k skip
  skip_later vars left sum e = goes_later vars left sum e

  leave_later : Runs k leave_loop
  leave_later vars left sum e = inl (ap (Breaks vars) e)

  pass_later : (e : Option ExprTree) (body : Locals → ℕ → Run) → Runs k body → Runs k (pass_run s run e body)
  pass_later None body f = scope_later body f
  pass_later (Some e) body f = if_later e (scope body) leave_loop (scope_later body f) leave_later

  loop_later : (e : Option ExprTree) (step body : Locals → ℕ → Run) → Runs k step → Runs k body → Runs k (loop_run s run e step body)
  loop_later e step body f g =
      looped_later (turn_run s run e step body) (λ vars left sum q. stepped_later step f (pass_run s run e body vars left) (pass_run s run e body vars sum) (pass_later e body g vars left sum q))

  for_later : (init : Locals → ℕ → Run) (e : Option ExprTree) (step body : Locals → ℕ → Run) → Runs k init → Runs k step → Runs k body → Runs k (for_run s run init e step body)
  for_later init e step body f g h vars left sum q = after_later (loop_run s run e step body) (loop_later e step body g h) (init vars left) (init vars sum) (f vars left sum q)

  throw_later : (e : Option ExprTree) (caught : Option (List ℕ)) → Runs k (throw_run s run e caught)
  throw_later None caught vars left sum q = rethrown_later caught vars left sum q
  throw_later (Some e) caught vars left sum q =
      valued_later vars (λ v left. thrown (error_of v) vars left) (λ v l m h. thrown_later (error_of v) vars l m h) (evaluated s run e vars left) (evaluated s run e vars sum)
      (evaluated_later e vars left sum q)

  declare_later : (i : IntoTree) (e : Option ExprTree) → Runs k (declare_run s run i e)
  declare_later i None vars left sum q = declared_run_later (default_value i.ty) i.name.name vars left sum q
  declare_later i (Some e) vars left sum q =
      valued_later vars (λ v left. declared (Some v) i.name.name vars left) (λ v l m h. declared_run_later (Some v) i.name.name vars l m h) (evaluated s run e vars left) (evaluated s run e vars sum)
      (evaluated_later e vars left sum q)

  assign_later : (xs : List Ident) (e : ExprTree) → Runs k (assign_run s run xs e)
  assign_later xs e vars left sum q =
      valued_later vars (λ v left. assigned (put_path s.records vars xs v) left) (λ v l m h. assigned_later (put_path s.records vars xs v) l m h) (evaluated s run e vars left)
      (evaluated s run e vars sum) (evaluated_later e vars left sum q)

  operand_later : (c : ChangeTree) (vars : Locals) (left sum : ℕ) → sum ≡ left + k → Later k (change_operand s run c vars left) (change_operand s run c vars sum)
  operand_later (PlusChange e) vars left sum q = evaluated_later e vars left sum q
  operand_later (MinusChange e) vars left sum q = evaluated_later e vars left sum q
  operand_later UpChange vars left sum q = done_later k (IntValue (pos 1)) left sum q
  operand_later DownChange vars left sum q = done_later k (IntValue (pos 1)) left sum q

  changed_later : (o : Option ValueTree) (c : ChangeTree) (xs : List Ident) → Runs k (changed s run o c xs)
  changed_later None c xs vars left sum q = inl refl
  changed_later (Some v) c xs vars left sum q =
      valued_later vars (λ w left. valued (at_once (operated (change_sign c) v w) left) vars (λ u left. assigned (put_path s.records vars xs u) left))
      (λ w l m h. valued_later vars (λ u left. assigned (put_path s.records vars xs u) left) (λ u i j g. assigned_later (put_path s.records vars xs u) i j g)
      (at_once (operated (change_sign c) v w) l) (at_once (operated (change_sign c) v w) m) (at_once_later k (operated (change_sign c) v w) l m h))
      (change_operand s run c vars left) (change_operand s run c vars sum) (operand_later c vars left sum q)

  call_by_later : (xs : List Ident) (vs : List ValueTree) (left sum : ℕ) → sum ≡ left + k → Later k (call_by s run xs vs left) (call_by s run xs vs sum)
  call_by_later [] vs left sum q = inl refl
  call_by_later (x ∷ []) vs left sum q = function_later (routine_named s.functions x.name) vs left sum q
  call_by_later (x ∷ y ∷ ys) vs left sum q = inl refl

  call_later : (xs : List Ident) (es : ExprTrees) → Runs k (call_run s run xs es)
  call_later xs es vars left sum q =
      valued_later vars (λ vs left. valued (call_by s run xs vs left) vars (λ v left. Goes vars left))
      (λ vs l m h. valued_later vars (λ v left. Goes vars left) (λ v i j g. goes_later vars i j g) (call_by s run xs vs l) (call_by s run xs vs m) (call_by_later xs vs l m h))
      (eval_all s run (named vars) es left) (eval_all s run (named vars) es sum) (eval_all_later (named vars) es left sum q)

  return_later : (e : Option ExprTree) → Runs k (return_run s run e)
  return_later None vars left sum q = inl refl
  return_later (Some e) vars left sum q = valued_later vars (λ v left. Returns v left) (λ v l m h. inl (ap (Returns v) h)) (evaluated s run e vars left) (evaluated s run e vars sum)
      (evaluated_later e vars left sum q)

  try_later : (body : Locals → ℕ → Run) (x : List ℕ) (handler : Locals → ℕ → Run) → Runs k body → Runs k handler → Runs k (try_run body x handler)
  try_later body x handler f g vars left sum q =
      caught_later (handled x handler) (λ err vs l m h. scoped_later (length vs) _ _ (g _ l m h)) (scope body vars left) (scope body vars sum) (scope_later body f vars left sum q)

  follow_later : (b : Body) (caught : Option (List ℕ)) (go : Locals → ℕ → Run) → Runs k go → Runs k (exec s run b caught) → Runs k (λ vars left. after (go vars left) (exec s run b caught))
  follow_later b caught go f g vars left sum q = after_later (exec s run b caught) g (go vars left) (go vars sum) (f vars left sum q)

  exec_later : (b : Body) (caught : Option (List ℕ)) → Runs k (exec s run b caught)
  exec_later End caught = skip_later
  exec_later (BlockStmt at b n) caught = follow_later n caught (scope (exec s run b caught)) (scope_later (exec s run b caught) (exec_later b caught)) (exec_later n caught)
  exec_later (IfStmt at e b n) caught = follow_later n caught (if_run s run e (scope (exec s run b caught)) skip)
      (if_later e (scope (exec s run b caught)) skip (scope_later (exec s run b caught) (exec_later b caught)) skip_later) (exec_later n caught)
  exec_later (IfElseStmt at e b c n) caught =
      follow_later n caught (if_run s run e (scope (exec s run b caught)) (scope (exec s run c caught)))
      (if_later e (scope (exec s run b caught)) (scope (exec s run c caught)) (scope_later (exec s run b caught) (exec_later b caught)) (scope_later (exec s run c caught) (exec_later c caught)))
      (exec_later n caught)
  exec_later (WhileStmt at e b n) caught = follow_later n caught (loop_run s run (Some e) skip (exec s run b caught)) (loop_later (Some e) skip (exec s run b caught) skip_later (exec_later b caught))
      (exec_later n caught)
  exec_later (ForStmt at i e t b n) caught =
      follow_later n caught (scope (for_run s run (exec s run i caught) e (exec s run t caught) (exec s run b caught)))
      (scope_later (for_run s run (exec s run i caught) e (exec s run t caught) (exec s run b caught))
      (for_later (exec s run i caught) e (exec s run t caught) (exec s run b caught) (exec_later i caught) (exec_later t caught) (exec_later b caught))) (exec_later n caught)
  exec_later (LoopStmt at b n) caught = follow_later n caught (loop_run s run None skip (exec s run b caught)) (loop_later None skip (exec s run b caught) skip_later (exec_later b caught))
      (exec_later n caught)
  exec_later (BreakStmt at n) caught = λ vars left sum q. inl (ap (Breaks vars) q)
  exec_later (ContinueStmt at n) caught = λ vars left sum q. inl (ap (Continues vars) q)
  exec_later (ReturnStmt at e n) caught = follow_later n caught (return_run s run e) (return_later e) (exec_later n caught)
  exec_later (ThrowStmt at e n) caught = follow_later n caught (throw_run s run e caught) (throw_later e caught) (exec_later n caught)
  exec_later (TryStmt at b q x h n) caught =
      follow_later n caught (try_run (exec s run b caught) x.name (exec s run h (Some x.name)))
      (try_later (exec s run b caught) x.name (exec s run h (Some x.name)) (exec_later b caught) (exec_later h (Some x.name))) (exec_later n caught)
  exec_later (ChooseStmt at bs n) caught = λ vars left sum q. inl refl
  exec_later (DeclareStmt at i e n) caught = follow_later n caught (declare_run s run i e) (declare_later i e) (exec_later n caught)
  exec_later (AssignStmt at xs e n) caught = follow_later n caught (assign_run s run xs e) (assign_later xs e) (exec_later n caught)
  exec_later (ModifyStmt at xs c n) caught = follow_later n caught (modify_run s run xs c) (λ vars left sum q. changed_later (read_path s.records vars xs) c xs vars left sum q) (exec_later n caught)
  exec_later (CallStmt at xs es n) caught = follow_later n caught (call_run s run xs es) (call_later xs es) (exec_later n caught)
  exec_later (WaitStmt at w n) caught = λ vars left sum q. inl refl

  finished_later : (r q : Run) → LaterRun k r q → Later k (finished r) (finished q)
  finished_later r q (inr e) = inr (ap finished e)
  finished_later (Goes vars left) q (inl e) = inl (ap finished e)
  finished_later (Breaks vars left) q (inl e) = inl (ap finished e)
  finished_later (Continues vars left) q (inl e) = inl (ap finished e)
  finished_later (Returns v left) q (inl e) = inl (ap finished e)
  finished_later (Raises err vars left) q (inl e) = inl (ap finished e)
  finished_later SpentRun q (inl e) = inr refl
  finished_later NoRun q (inl e) = inl (ap finished e)

  body_later : (f : RoutineTree) (o : Option Locals) (left sum : ℕ) → sum ≡ left + k → Later k (body_run s run f o left) (body_run s run f o sum)
  body_later f None left sum q = inl refl
  body_later f (Some vars) left sum q = finished_later (exec s run f.body None vars left) (exec s run f.body None vars sum) (exec_later f.body None vars left sum q)

function_runs : (k : ℕ) (s : Setting) (nest : ℕ) → RunsMore k (run_function s nest)
function_runs k s zero f vs zero sum q = inr refl
function_runs k s zero f vs (suc left) zero q = absurd (omega (arith, q))
function_runs k s zero f vs (suc left) (suc sum) q = fails_later k out_of_range left sum (omega (arith, q))
function_runs k s (suc nest) f vs zero sum q = inr refl
function_runs k s (suc nest) f vs (suc left) zero q = absurd (omega (arith, q))
function_runs k s (suc nest) f vs (suc left) (suc sum) q =
    body_later k s (run_function s nest) (function_runs k s nest) f (entered f.params vs) left sum (omega (arith, q))

pub whole_later : (k : ℕ) (s : Setting) (look : List ℕ → Option ValueTree) (e : ExprTree) (left sum : ℕ) → sum ≡ left + k → Later k (Eval s look e left) (Eval s look e sum)
whole_later k s look e left sum q = eval_later k s (run_function s deepest) (function_runs k s deepest) look e left sum q

pub all_later : (k : ℕ) (s : Setting) (look : List ℕ → Option ValueTree) (es : ExprTrees) (left sum : ℕ) → sum ≡ left + k
    → Later k (eval_all s (run_function s deepest) look es left) (eval_all s (run_function s deepest) look es sum)
all_later k s look es left sum q = eval_all_later k s (run_function s deepest) (function_runs k s deepest) look es left sum q

pub call_whole_later : (k : ℕ) (s : Setting) (f : RoutineTree) (vs : List ValueTree) (left sum : ℕ) → sum ≡ left + k → Later k (Call s f vs left) (Call s f vs sum)
call_whole_later k s f vs left sum q = function_runs k s deepest f vs left sum q

pub more_turns : MoreTurns
more_turns = record {
  value = λ k s look e left. whole_later k s look e left (left + k) refl;
  values = λ k s look es left. all_later k s look es left (left + k) refl;
  call = λ k s f vs left. call_whole_later k s f vs left (left + k) refl;
}
