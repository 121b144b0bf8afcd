-- Well-typed statements come to something, and keep the variables well typed.
use Rattle.std.proofs.Common.{◌≡◌, ℕ, zero, suc, Bool, true, false, ◌&&◌, ◌||◌, List, [], ◌∷◌, ◌++◌, length, take, refl, ap, sym, subst, ◌∙◌, append_assoc, append-nil, ◌⊎◌, inl, inr, ⊎_elim}
use Rattle.std.specs.Prelude.{pos}
use Rattle.std.specs.Str.{bytes_eq}
use Rattle.std.specs.declared.option.Option.{Option}
use Rattle.std.specs.declared.option.Option.TheVariants.{None, Some}
use Rattle.flow_tree.specs.declared.ty.Ident.{Ident}
use Rattle.flow_tree.specs.declared.expr.Op.TheVariants.{Add, Sub}
use Rattle.flow_tree.specs.Tree.{TypeTree, IntType, BoolType, StringType, ErrorType, VectorType, ExprTree, ExprTrees}
use Rattle.flow_tree.specs.Body.{IntoTree, ChangeTree, PlusChange, MinusChange, UpChange, DownChange, Body, End, BlockStmt, IfStmt, IfElseStmt, WhileStmt, ForStmt, LoopStmt, BreakStmt, ContinueStmt, ReturnStmt, ThrowStmt, TryStmt, ChooseStmt, DeclareStmt, AssignStmt, ModifyStmt, CallStmt, WaitStmt}
use Rattle.flow_tree.specs.Decls.{ParamTree, RoutineTree}
use Rattle.flow_ast.specs.TypingNames.{named}
use Rattle.flow_ast.specs.Typing.{is_there, sign_type, param_types}
use Rattle.flow_value.specs.Values.{ValueTree, IntValue, BoolValue, TextValue, ErrorValue, CompositeValue, ListWhole, NoValues, values_of_list}
use Rattle.flow_eval.specs.Answers.{bool_of, error_of}
use Rattle.flow_eval.specs.Operators.{operated}
use Rattle.flow_eval.specs.Eval.{Res, Done, Fails, Spent, Meaningless, Setting, Runner, at_once, eval_all, function_called}
use Rattle.flow_eval.specs.Functions.{Locals, Run, Goes, Breaks, Continues, Returns, Raises, SpentRun, NoRun, after, scoped, valued, chosen, again, passes, stepped, caught_by, thrown, error_at, default_value, bound, declared, assigned, scope, skip, leave_loop, change_sign, handled, try_run, put_path, evaluated, if_run, pass_run, turn_run, loop_run, for_run, throw_run, declare_run, assign_run, change_operand, changed, modify_run, call_by, call_run, return_run, exec, finished, entered, body_run, run_function}
use Rattle.flow_ast.specs.Leaving.{has_statement, reaches_end, reaches_break}
use Rattle.flow_ast.specs.Fits.{declared_in, path_type, has_plain_default, Yields, MaybeYields, ChangeFits, DeclareFits, CallFits, ThrowFits, ReturnFits, BodyFits, FunctionFits, FunctionsFit}
use Rattle.flow_eval.specs.Typed.{HasType, HaveTypes, CellsFit}
use Rattle.flow_eval.specs.WellTyped.{Safe}
use Rattle.flow_eval.proofs.TypedValues.{first_there, is_bool_value, is_error_value}
use Rattle.flow_eval.proofs.TypedAnswers.{is_strict, types_same, operated_typed}
use Rattle.flow_eval.proofs.TypedExprs.{RunnerFits, once_good, eval_good, all_good}
use Rattle.flow_eval.proofs.TypedLocals.{LocalsFit, locals_look, bound_fits, entered_fits, locals_count, cut_fits, path_reads, path_puts}

both_true : (a b : Bool) → a ≡ true → b ≡ true → a && b ≡ true
both_true a b e h = ap (λ a. a && b) e ∙ h

first_true : (a b : Bool) → a ≡ true → a || b ≡ true
first_true a b e = ap (λ a. a || b) e

second_true : (a b : Bool) → b ≡ true → a || b ≡ true
second_true true b e = refl
second_true false b e = e

-- these variables stand before others
abbrev pub Grows : List ParamTree → List ParamTree → Type 0
Grows ps qs = (more : List ParamTree) × (qs ≡ ps ++ more)

grows_same : (ps : List ParamTree) → Grows ps ps
grows_same ps = ([], sym (append-nil ps))

grows_by : (ps more : List ParamTree) → Grows ps (ps ++ more)
grows_by ps more = (more, refl)

grows_on : (ps qs rs : List ParamTree) → Grows ps qs → Grows qs rs → Grows ps rs
grows_on ps qs rs g h = (g.0 ++ h.0, h.1 ∙ ap (λ l. l ++ h.0) g.1 ∙ append_assoc ps g.0 h.0)

module _ (s : Setting) (typed : ℕ → TypeTree → Type 0) where
  abbrev Fit : List ParamTree → Locals → Type 0
  Fit ps ls = LocalsFit s.records typed ps ls

  -- the variables in force, before further ones
  abbrev Extends : List ParamTree → Locals → Type 0
  Extends ps ls = (qs : List ParamTree) × Grows ps qs × Fit qs ls

  extends_same : (ps : List ParamTree) (ls : Locals) → Fit ps ls → Extends ps ls
  extends_same ps ls h = (ps, grows_same ps, h)

  extends_on : (ps qs : List ParamTree) (ls : Locals) → Grows ps qs → Extends qs ls → Extends ps ls
  extends_on ps qs ls g h = (h.0, grows_on ps qs h.0 g h.1, h.2)

  -- a scope's end leaves the variables before it
  cut : (ps : List ParamTree) (ls : Locals) (n : ℕ) → n ≡ length ps → Extends ps ls → Fit ps (take n ls)
  cut ps ls n e h = subst (λ n. Fit ps (take n ls)) (sym e) (cut_fits s.records typed ps h.1.0 ls (subst (λ qs. Fit qs ls) h.1.1 h.2))

  -- what a run comes to, where it goes on, leaves the loop, goes round it, or throws with such variables
  abbrev Comes : TypeTree → (goes breaks continues raises : Locals → Type 0) → Run → Type 0
  Comes r G B C X (Goes ls left) = G ls
  Comes r G B C X (Breaks ls left) = B ls
  Comes r G B C X (Continues ls left) = C ls
  Comes r G B C X (Returns v left) = HasType s.records typed v r
  Comes r G B C X (Raises e ls left) = X ls
  Comes r G B C X SpentRun = Unit {0}
  Comes r G B C X NoRun = ⊥

  comes_as : (r : TypeTree) (G B C X H D E Y : Locals → Type 0) (x : Run) → ((ls : Locals) → G ls → H ls) → ((ls : Locals) → B ls → D ls) → ((ls : Locals) → C ls → E ls)
      → ((ls : Locals) → X ls → Y ls)
      → Comes r G B C X x → Comes r H D E Y x
  comes_as r G B C X H D E Y (Goes ls left) g b c t h = g ls h
  comes_as r G B C X H D E Y (Breaks ls left) g b c t h = b ls h
  comes_as r G B C X H D E Y (Continues ls left) g b c t h = c ls h
  comes_as r G B C X H D E Y (Returns v left) g b c t h = h
  comes_as r G B C X H D E Y (Raises e ls left) g b c t h = t ls h
  comes_as r G B C X H D E Y SpentRun g b c t h = tt {0}
  comes_as r G B C X H D E Y NoRun g b c t h = h

  after_comes : (r : TypeTree) (G H B C X : Locals → Type 0) (x : Run) (go : Locals → ℕ → Run) → Comes r G B C X x → ((ls : Locals) (left : ℕ) → G ls → Comes r H B C X (go ls left))
      → Comes r H B C X (after x go)
  after_comes r G H B C X (Goes ls left) go h k = k ls left h
  after_comes r G H B C X (Breaks ls left) go h k = h
  after_comes r G H B C X (Continues ls left) go h k = h
  after_comes r G H B C X (Returns v left) go h k = h
  after_comes r G H B C X (Raises e ls left) go h k = h
  after_comes r G H B C X SpentRun go h k = tt {0}
  after_comes r G H B C X NoRun go h k = absurd h

  valued_comes : {A : Type 0} (r : TypeTree) (P : A → Type 0) (G B C X : Locals → Type 0) (x : Res A) (ls : Locals) (go : A → ℕ → Run) → Safe P x → X ls
      → ((v : A) (left : ℕ) → P v → Comes r G B C X (go v left)) → Comes r G B C X (valued x ls go)
  valued_comes r P G B C X (Done v left) ls go h t k = k v left h
  valued_comes r P G B C X (Fails e left) ls go h t k = t
  valued_comes r P G B C X Spent ls go h t k = tt {0}
  valued_comes r P G B C X Meaningless ls go h t k = absurd h

  -- a run that goes on past some end, or leaves a loop
  abbrev Went : Bool → List ParamTree → Locals → Type 0
  Went p ps ls = (p ≡ true) × Fit ps ls

  abbrev Left : Bool → Bool → (Locals → Type 0) → Locals → Type 0
  Left loop b E ls = (loop ≡ true) × (b ≡ true) × E ls

  -- the run of a body in the scope of these variables, up to those then, or of a scope
  abbrev Runs : TypeTree → Bool → List ParamTree → List ParamTree → Bool → Bool → Run → Type 0
  Runs r loop ps qs p b x = Comes r (Went p qs) (Left loop b (Extends ps)) (Left loop true (Extends ps)) (Extends ps) x

  abbrev Scoped : TypeTree → Bool → List ParamTree → Bool → Bool → Run → Type 0
  Scoped r loop ps p b x = Comes r (Went p ps) (Left loop b (Fit ps)) (Left loop true (Fit ps)) (Fit ps) x

  scoped_comes : (r : TypeTree) (loop : Bool) (ps qs : List ParamTree) (p b : Bool) (n : ℕ) (x : Run) → Grows ps qs → n ≡ length ps → Runs r loop ps qs p b x → Scoped r loop ps p b (scoped n x)
  scoped_comes r loop ps qs p b n (Goes ls left) g e h = (h.0, cut ps ls n e (qs, g, h.1))
  scoped_comes r loop ps qs p b n (Breaks ls left) g e h = (h.0, h.1, cut ps ls n e h.2)
  scoped_comes r loop ps qs p b n (Continues ls left) g e h = (h.0, h.1, cut ps ls n e h.2)
  scoped_comes r loop ps qs p b n (Returns v left) g e h = h
  scoped_comes r loop ps qs p b n (Raises c ls left) g e h = cut ps ls n e h
  scoped_comes r loop ps qs p b n SpentRun g e h = tt {0}
  scoped_comes r loop ps qs p b n NoRun g e h = h

  scope_comes : (r : TypeTree) (loop : Bool) (ps qs : List ParamTree) (p b : Bool) (go : Locals → ℕ → Run) (ls : Locals) (left : ℕ) → Grows ps qs → Fit ps ls
      → Runs r loop ps qs p b (go ls left) → Scoped r loop ps p b (scope go ls left)
  scope_comes r loop ps qs p b go ls left g f h = scoped_comes r loop ps qs p b (length ls) (go ls left) g (locals_count s.records typed ps ls f) h

  scoped_runs : (r : TypeTree) (loop : Bool) (ps : List ParamTree) (p b q c : Bool) (x : Run) → (p ≡ true → q ≡ true) → (b ≡ true → c ≡ true) → Scoped r loop ps p b x → Runs r loop ps ps q c x
  scoped_runs r loop ps p b q c x pq bc h =
      comes_as r (Went p ps) (Left loop b (Fit ps)) (Left loop true (Fit ps)) (Fit ps) (Went q ps) (Left loop c (Extends ps)) (Left loop true (Extends ps)) (Extends ps) x
      (λ ls h. (pq h.0, h.1)) (λ ls h. (h.0, bc h.1, extends_same ps ls h.2)) (λ ls h. (h.0, h.1, extends_same ps ls h.2)) (λ ls h. extends_same ps ls h) h

  -- a statement, and what follows it
  then_runs : (r : TypeTree) (loop : Bool) (ps mid qs : List ParamTree) (p b q c e d : Bool) (x : Run) (go : Locals → ℕ → Run)
      → Grows ps mid → Runs r loop ps mid p b x → ((ls : Locals) (left : ℕ) → Fit mid ls → Runs r loop mid qs q c (go ls left))
      → (b ≡ true → d ≡ true) → (p ≡ true → q ≡ true → e ≡ true) → (p ≡ true → c ≡ true → d ≡ true) → Runs r loop ps qs e d (after x go)
  then_runs r loop ps mid qs p b q c e d x go g h k bd pqe pcd =
      after_comes r (Went p mid) (Went e qs) (Left loop d (Extends ps)) (Left loop true (Extends ps)) (Extends ps) x go
      (comes_as r (Went p mid) (Left loop b (Extends ps)) (Left loop true (Extends ps)) (Extends ps) (Went p mid) (Left loop d (Extends ps)) (Left loop true (Extends ps)) (Extends ps) x
      (λ ls h. h) (λ ls h. (h.0, bd h.1, h.2)) (λ ls h. h) (λ ls h. h) h)
      (λ ls left w. comes_as r (Went q qs) (Left loop c (Extends mid)) (Left loop true (Extends mid)) (Extends mid) (Went e qs) (Left loop d (Extends ps)) (Left loop true (Extends ps)) (Extends ps)
      (go ls left)
      (λ ls h. (pqe w.0 h.0, h.1)) (λ ls h. (h.0, pcd w.0 h.1, extends_on ps mid ls g h.2)) (λ ls h. (h.0, h.1, extends_on ps mid ls g h.2)) (λ ls h. extends_on ps mid ls g h) (k ls left w.1))

  scoped_as : (r : TypeTree) (loop : Bool) (ps : List ParamTree) (p b q c : Bool) (x : Run) → (p ≡ true → q ≡ true) → (b ≡ true → c ≡ true) → Scoped r loop ps p b x → Scoped r loop ps q c x
  scoped_as r loop ps p b q c x pq bc h =
      comes_as r (Went p ps) (Left loop b (Fit ps)) (Left loop true (Fit ps)) (Fit ps) (Went q ps) (Left loop c (Fit ps)) (Left loop true (Fit ps)) (Fit ps) x
      (λ ls h. (pq h.0, h.1)) (λ ls h. (h.0, bc h.1, h.2)) (λ ls h. h) (λ ls h. h) h

  -- nothing leaves the loop, or goes round it
  abbrev Never : Locals → Type 0
  Never ls = ⊥

  -- a pass with its step, and a loop, which is left only where a pass leaves it
  abbrev Turned : TypeTree → List ParamTree → Bool → Run → Type 0
  Turned r ps b x = Comes r (Fit ps) (Went b ps) Never (Extends ps) x

  abbrev Looped : TypeTree → List ParamTree → Bool → Run → Type 0
  Looped r ps b x = Comes r (Went b ps) Never Never (Extends ps) x

  abbrev Steps : TypeTree → List ParamTree → (Locals → ℕ → Run) → Type 0
  Steps r ps step = (ls : Locals) (left : ℕ) → Fit ps ls → Comes r (Fit ps) Never Never (Extends ps) (step ls left)

  step_turned : (r : TypeTree) (ps : List ParamTree) (b : Bool) (x : Run) → Comes r (Fit ps) Never Never (Extends ps) x → Turned r ps b x
  step_turned r ps b x h = comes_as r (Fit ps) Never Never (Extends ps) (Fit ps) (Went b ps) Never (Extends ps) x (λ ls h. h) (λ ls h. absurd h) (λ ls h. h) (λ ls h. h) h

  stepped_comes : (r : TypeTree) (ps : List ParamTree) (p b : Bool) (x : Run) (step : Locals → ℕ → Run) → Scoped r true ps p b x → Steps r ps step → Turned r ps b (stepped x step)
  stepped_comes r ps p b (Goes ls left) step h k = step_turned r ps b (step ls left) (k ls left h.1)
  stepped_comes r ps p b (Breaks ls left) step h k = (h.1, h.2)
  stepped_comes r ps p b (Continues ls left) step h k = step_turned r ps b (step ls left) (k ls left h.2)
  stepped_comes r ps p b (Returns v left) step h k = h
  stepped_comes r ps p b (Raises e ls left) step h k = extends_same ps ls h
  stepped_comes r ps p b SpentRun step h k = tt {0}
  stepped_comes r ps p b NoRun step h k = h

  again_comes : (r : TypeTree) (ps : List ParamTree) (b : Bool) (x : Run) (go : Locals → ℕ → Run) → Turned r ps b x → ((ls : Locals) (left : ℕ) → Fit ps ls → Looped r ps b (go ls left))
      → Looped r ps b (again x go)
  again_comes r ps b (Goes ls left) go h k = k ls left h
  again_comes r ps b (Breaks ls left) go h k = h
  again_comes r ps b (Continues ls left) go h k = absurd h
  again_comes r ps b (Returns v left) go h k = h
  again_comes r ps b (Raises e ls left) go h k = h
  again_comes r ps b SpentRun go h k = tt {0}
  again_comes r ps b NoRun go h k = absurd h

  passes_comes : (r : TypeTree) (ps : List ParamTree) (b : Bool) (pass : Locals → ℕ → Run) → ((ls : Locals) (left : ℕ) → Fit ps ls → Turned r ps b (pass ls left))
      → (most : ℕ) (ls : Locals) (left : ℕ) → Fit ps ls → Looped r ps b (passes pass most ls left)
  passes_comes r ps b pass k most ls zero f = tt {0}
  passes_comes r ps b pass k zero ls (suc left) f = tt {0}
  passes_comes r ps b pass k (suc most) ls (suc left) f =
      again_comes r ps b (pass ls left) (passes pass most) (k ls left f) (λ ls left f. passes_comes r ps b pass k most ls left f)

  looped_runs : (r : TypeTree) (loop : Bool) (ps : List ParamTree) (b : Bool) (x : Run) → Looped r ps b x → Runs r loop ps ps b false x
  looped_runs r loop ps b x h =
      comes_as r (Went b ps) Never Never (Extends ps) (Went b ps) (Left loop false (Extends ps)) (Left loop true (Extends ps)) (Extends ps) x
      (λ ls h. h) (λ ls h. absurd h) (λ ls h. absurd h) (λ ls h. h) h

  module _ (actors : List RoutineTree) (run : Runner) (cells : CellsFit s.records typed s.cells) (runs : RunnerFits s.records typed s.functions run) where
    abbrev Yield : List ParamTree → ExprTree → TypeTree → Type 0
    Yield ps e t = Yields s.records s.functions actors ps e t

    value_good : (ps : List ParamTree) (ls : Locals) (e : ExprTree) (t : TypeTree) (left : ℕ) → Fit ps ls → Yield ps e t → Safe (λ v. HasType s.records typed v t) (evaluated s run e ls left)
    value_good ps ls e t left f y = eval_good s typed actors run ps (named ls) (locals_look s.records typed ps ls f) cells runs e t left y.0 y.1

    if_comes : (r : TypeTree) (G B C X : Locals → Type 0) (ps : List ParamTree) (e : ExprTree) (main other : Locals → ℕ → Run) (ls : Locals) (left : ℕ) → Fit ps ls → Yield ps e BoolType → X ls
        → ((left : ℕ) → Comes r G B C X (main ls left)) → ((left : ℕ) → Comes r G B C X (other ls left)) → Comes r G B C X (if_run s run e main other ls left)
    if_comes r G B C X ps e main other ls left f y t m o =
        valued_comes r (λ v. HasType s.records typed v BoolType) G B C X (evaluated s run e ls left) ls (λ v left. chosen (bool_of v) main other ls left) (value_good ps ls e BoolType left f y) t
        (λ v left h. let b = is_bool_value s.records typed v h in
        subst (λ v. Comes r G B C X (chosen (bool_of v) main other ls left)) (sym b.1) (by b.0 left))
      where
        by : (b : Bool) (left : ℕ) → Comes r G B C X (chosen (Some b) main other ls left)
        by true left = m left
        by false left = o left

    pass_comes : (r : TypeTree) (ps : List ParamTree) (e : Option ExprTree) (body : Locals → ℕ → Run) (p b : Bool) (ls : Locals) (left : ℕ) → Fit ps ls
        → MaybeYields s.records s.functions actors ps e BoolType → ((left : ℕ) → Scoped r true ps p b (scope body ls left)) → Scoped r true ps true (is_there e || b) (pass_run s run e body ls left)
    pass_comes r ps None body p b ls left f y k = scoped_as r true ps p b true b (scope body ls left) (λ e. refl) (λ e. e) (k left)
    pass_comes r ps (Some e) body p b ls left f y k =
        if_comes r (Went true ps) (Left true true (Fit ps)) (Left true true (Fit ps)) (Fit ps) ps e (scope body) leave_loop ls left f y f
        (λ left. scoped_as r true ps p b true true (scope body ls left) (λ e. refl) (λ e. refl) (k left)) (λ left. (refl, refl, f))

    loop_comes : (r : TypeTree) (ps : List ParamTree) (e : Option ExprTree) (step body : Locals → ℕ → Run) (p b : Bool) (ls : Locals) (left : ℕ) → Fit ps ls
        → MaybeYields s.records s.functions actors ps e BoolType → Steps r ps step → ((ls : Locals) (left : ℕ) → Fit ps ls → Scoped r true ps p b (scope body ls left))
        → Looped r ps (is_there e || b) (loop_run s run e step body ls left)
    loop_comes r ps e step body p b ls left f y k h =
        passes_comes r ps (is_there e || b) (turn_run s run e step body)
        (λ ls left f. stepped_comes r ps true (is_there e || b) (pass_run s run e body ls left) step (pass_comes r ps e body p b ls left f y (λ left. h ls left f)) k)
        left ls left f

    -- what goes on without a declaration
    abbrev Goes_on : TypeTree → Bool → List ParamTree → Run → Type 0
    Goes_on r loop ps x = Runs r loop ps ps true false x

    assigned_runs : (r : TypeTree) (loop : Bool) (ps : List ParamTree) (ls : Locals) (xs : List Ident) (t : TypeTree) (v : ValueTree) (left : ℕ) → Fit ps ls → path_type s.records ps xs ≡ Some t
        → HasType s.records typed v t → Goes_on r loop ps (assigned (put_path s.records ls xs v) left)
    assigned_runs r loop ps ls xs t v left f e h =
        let put = path_puts s.records typed ps ls xs t v f e h in
        subst (λ o. Goes_on r loop ps (assigned o left)) (sym put.1) (refl, put.2)

    change_good : (ps : List ParamTree) (ls : Locals) (c : ChangeTree) (t : TypeTree) (left : ℕ) → Fit ps ls → ChangeFits s.records s.functions actors ps c t
        → (Safe (λ v. HasType s.records typed v t) (change_operand s run c ls left)) × (sign_type (change_sign c) t ≡ Some t)
    change_good ps ls (PlusChange e) t left f y = (value_good ps ls e t left f y.1, y.0)
    change_good ps ls (MinusChange e) t left f y = (value_good ps ls e t left f y.1, y.0)
    change_good ps ls UpChange t left f y = (y, subst (λ t. sign_type Add t ≡ Some t) (sym y) refl)
    change_good ps ls DownChange t left f y = (y, subst (λ t. sign_type Sub t ≡ Some t) (sym y) refl)

    modify_runs : (r : TypeTree) (loop : Bool) (ps : List ParamTree) (ls : Locals) (xs : List Ident) (c : ChangeTree) (t : TypeTree) (left : ℕ) → Fit ps ls → path_type s.records ps xs ≡ Some t
        → ChangeFits s.records s.functions actors ps c t → Goes_on r loop ps (modify_run s run xs c ls left)
    modify_runs r loop ps ls xs c t left f e y =
        let old = path_reads s.records typed ps ls xs t f e in
        let c_good = change_good ps ls c t left f y in
        subst (λ o. Goes_on r loop ps (changed s run o c xs ls left)) (sym old.1)
        (valued_comes r (λ v. HasType s.records typed v t) (Went true ps) (Left loop false (Extends ps)) (Left loop true (Extends ps)) (Extends ps) (change_operand s run c ls left) ls
        (λ w left. valued (at_once (operated (change_sign c) old.0 w) left) ls (λ u left. assigned (put_path s.records ls xs u) left)) c_good.0 (extends_same ps ls f)
        (λ w left h. valued_comes r (λ v. HasType s.records typed v t) (Went true ps) (Left loop false (Extends ps)) (Left loop true (Extends ps)) (Extends ps)
        (at_once (operated (change_sign c) old.0 w) left) ls
        (λ u left. assigned (put_path s.records ls xs u) left)
        (once_good (λ v. HasType s.records typed v t) (operated (change_sign c) old.0 w) left (operated_typed s.records typed (change_sign c) old.0 w t t (strict c) old.2 h c_good.1))
        (extends_same ps ls f)
        (λ u left k. assigned_runs r loop ps ls xs t u left f e k)))
      where
        strict : (c : ChangeTree) → is_strict (change_sign c) ≡ true
        strict (PlusChange e) = refl
        strict (MinusChange e) = refl
        strict UpChange = refl
        strict DownChange = refl

    assign_runs : (r : TypeTree) (loop : Bool) (ps : List ParamTree) (ls : Locals) (xs : List Ident) (e : ExprTree) (t : TypeTree) (left : ℕ) → Fit ps ls → path_type s.records ps xs ≡ Some t
        → Yield ps e t
        → Goes_on r loop ps (assign_run s run xs e ls left)
    assign_runs r loop ps ls xs e t left f p y =
        valued_comes r (λ v. HasType s.records typed v t) (Went true ps) (Left loop false (Extends ps)) (Left loop true (Extends ps)) (Extends ps) (evaluated s run e ls left) ls
        (λ v left. assigned (put_path s.records ls xs v) left) (value_good ps ls e t left f y) (extends_same ps ls f) (λ v left h. assigned_runs r loop ps ls xs t v left f p h)

    default_there : (t : TypeTree) → has_plain_default t ≡ true → (v : ValueTree) × (default_value t ≡ Some v) × HasType s.records typed v t
    default_there IntType e = (IntValue (pos 0), refl, refl)
    default_there BoolType e = (BoolValue false, refl, refl)
    default_there StringType e = (TextValue [], refl, refl)
    default_there (VectorType t) e = (CompositeValue ListWhole NoValues, refl, ([], (t, refl, tt), refl))
    default_there t e = absurd (cc)

    declare_runs : (r : TypeTree) (loop : Bool) (ps : List ParamTree) (ls : Locals) (i : IntoTree) (e : Option ExprTree) (left : ℕ) → Fit ps ls → DeclareFits s.records s.functions actors ps i e
        → Runs r loop ps (ps ++ record { ty = i.ty; name = i.name } ∷ []) true false (declare_run s run i e ls left)
    declare_runs r loop ps ls i None left f y =
        let v = default_there i.ty y in
        subst (λ o. Runs r loop ps (ps ++ record { ty = i.ty; name = i.name } ∷ []) true false (declared o i.name.name ls left)) (sym v.1)
        (refl, bound_fits s.records typed ps ls i.name i.ty v.0 f v.2)
    declare_runs r loop ps ls i (Some e) left f y =
        valued_comes r (λ v. HasType s.records typed v i.ty) (Went true (ps ++ record { ty = i.ty; name = i.name } ∷ [])) (Left loop false (Extends ps)) (Left loop true (Extends ps)) (Extends ps)
        (evaluated s run e ls left) ls
        (λ v left. declared (Some v) i.name.name ls left) (value_good ps ls e i.ty left f y) (extends_same ps ls f) (λ v left h. (refl, bound_fits s.records typed ps ls i.name i.ty v f h))

    return_runs : (r : TypeTree) (loop : Bool) (ps : List ParamTree) (ls : Locals) (e : Option ExprTree) (left : ℕ) → Fit ps ls → ReturnFits s.records s.functions actors ps e r
        → Runs r loop ps ps false false (return_run s run e ls left)
    return_runs r loop ps ls None left f y = absurd y
    return_runs r loop ps ls (Some e) left f y =
        valued_comes r (λ v. HasType s.records typed v r) (Went false ps) (Left loop false (Extends ps)) (Left loop true (Extends ps)) (Extends ps) (evaluated s run e ls left) ls
        (λ v left. Returns v left) (value_good ps ls e r left f y) (extends_same ps ls f) (λ v left h. h)

    thrown_runs : (r : TypeTree) (loop : Bool) (ps : List ParamTree) (ls : Locals) (v : ValueTree) (left : ℕ) → Fit ps ls → HasType s.records typed v ErrorType
        → Runs r loop ps ps false false (thrown (error_of v) ls left)
    thrown_runs r loop ps ls v left f h =
        let e = is_error_value s.records typed v h in
        subst (λ v. Runs r loop ps ps false false (thrown (error_of v) ls left)) (sym e.1) (extends_same ps ls f)

    throw_runs : (r : TypeTree) (loop : Bool) (caught : Option (List ℕ)) (ps : List ParamTree) (ls : Locals) (e : Option ExprTree) (left : ℕ) → Fit ps ls
        → ThrowFits s.records s.functions actors ps caught e
        → Runs r loop ps ps false false (throw_run s run e caught ls left)
    throw_runs r loop None ps ls None left f y = absurd y
    throw_runs r loop (Some x) ps ls None left f y =
        let v = locals_look s.records typed ps ls f x y.0 y.1 in
        subst (λ o. Runs r loop ps ps false false (thrown (error_at o) ls left)) (sym v.1) (thrown_runs r loop ps ls v.0 left f (subst (HasType s.records typed v.0) y.2 v.2))
    throw_runs r loop caught ps ls (Some e) left f y =
        valued_comes r (λ v. HasType s.records typed v ErrorType) (Went false ps) (Left loop false (Extends ps)) (Left loop true (Extends ps)) (Extends ps) (evaluated s run e ls left) ls
        (λ v left. thrown (error_of v) ls left) (value_good ps ls e ErrorType left f y) (extends_same ps ls f) (λ v left h. thrown_runs r loop ps ls v left f h)

    call_runs : (r : TypeTree) (loop : Bool) (ps : List ParamTree) (ls : Locals) (xs : List Ident) (es : ExprTrees) (left : ℕ) → Fit ps ls → CallFits s.records s.functions actors ps xs es
        → Goes_on r loop ps (call_run s run xs es ls left)
    call_runs r loop ps ls xs es left f y =
        valued_comes r (λ vs. HaveTypes s.records typed (values_of_list vs) y.2) (Went true ps) (Left loop false (Extends ps)) (Left loop true (Extends ps)) (Extends ps)
        (eval_all s run (named ls) es left) ls
        (λ vs left. valued (call_by s run xs vs left) ls (λ v left. Goes ls left))
        (all_good s typed actors run ps (named ls) (locals_look s.records typed ps ls f) cells runs es y.2 left y.5 y.7) (extends_same ps ls f)
        (λ vs left h. subst (λ xs. Goes_on r loop ps (valued (call_by s run xs vs left) ls (λ v left. Goes ls left))) (sym y.3)
        (subst (λ o. Goes_on r loop ps (valued (function_called s run o vs left) ls (λ v left. Goes ls left))) (sym y.4)
        (valued_comes r (λ v. HasType s.records typed v y.1.returns) (Went true ps) (Left loop false (Extends ps)) (Left loop true (Extends ps)) (Extends ps) (run y.1 vs left) ls
        (λ v left. Goes ls left)
        (runs y.0.name y.1 vs left y.4 (subst (HaveTypes s.records typed (values_of_list vs)) (sym (types_same (param_types y.1.params) y.2 y.6)) h)) (extends_same ps ls f)
        (λ v left h. (refl, f)))))

    -- the handler of a `try` is run only where its body has a statement
    caught_comes : (r : TypeTree) (loop : Bool) (ps : List ParamTree) (p b q c e d : Bool) (x : Run) (handler : ℕ → Locals → ℕ → Run) → Scoped r loop ps p b x
        → ((n : ℕ) (ls : Locals) (left : ℕ) → Fit ps ls → Scoped r loop ps q c (handler n ls left))
        → (p ≡ true → e ≡ true) → (b ≡ true → d ≡ true) → (q ≡ true → e ≡ true) → (c ≡ true → d ≡ true) → Scoped r loop ps e d (caught_by x handler)
    caught_comes r loop ps p b q c e d (Goes ls left) handler h k pe bd qe cd = (pe h.0, h.1)
    caught_comes r loop ps p b q c e d (Breaks ls left) handler h k pe bd qe cd = (h.0, bd h.1, h.2)
    caught_comes r loop ps p b q c e d (Continues ls left) handler h k pe bd qe cd = h
    caught_comes r loop ps p b q c e d (Returns v left) handler h k pe bd qe cd = h
    caught_comes r loop ps p b q c e d (Raises n ls left) handler h k pe bd qe cd = scoped_as r loop ps q c e d (handler n ls left) qe cd (k n ls left h)
    caught_comes r loop ps p b q c e d SpentRun handler h k pe bd qe cd = tt {0}
    caught_comes r loop ps p b q c e d NoRun handler h k pe bd qe cd = h

    handled_comes : (r : TypeTree) (loop : Bool) (ps qs : List ParamTree) (x : Ident) (q c : Bool) (handler : Locals → ℕ → Run) → Grows (ps ++ record { ty = ErrorType; name = x } ∷ []) qs
        → ((ls : Locals) (left : ℕ) → Fit (ps ++ record { ty = ErrorType; name = x } ∷ []) ls → Runs r loop (ps ++ record { ty = ErrorType; name = x } ∷ []) qs q c (handler ls left))
        → (n : ℕ) (ls : Locals) (left : ℕ) → Fit ps ls → Scoped r loop ps q c (handled x.name handler n ls left)
    handled_comes r loop ps qs x q c handler g k n ls left f =
        let more = ps ++ record { ty = ErrorType; name = x } ∷ [] in
        let inner = k (bound ls x.name (ErrorValue n)) left (bound_fits s.records typed ps ls x ErrorType (ErrorValue n) f refl) in
        scoped_comes r loop ps qs q c (length ls) (handler (bound ls x.name (ErrorValue n)) left) (grows_on ps more qs (grows_by ps (record { ty = ErrorType; name = x } ∷ [])) g)
        (locals_count s.records typed ps ls f)
        (comes_as r (Went q qs) (Left loop c (Extends more)) (Left loop true (Extends more)) (Extends more) (Went q qs) (Left loop c (Extends ps)) (Left loop true (Extends ps)) (Extends ps)
        (handler (bound ls x.name (ErrorValue n)) left)
        (λ ls h. h) (λ ls h. (h.0, h.1, extends_on ps more ls (grows_by ps (record { ty = ErrorType; name = x } ∷ [])) h.2))
        (λ ls h. (h.0, h.1, extends_on ps more ls (grows_by ps (record { ty = ErrorType; name = x } ∷ [])) h.2))
        (λ ls h. extends_on ps more ls (grows_by ps (record { ty = ErrorType; name = x } ∷ [])) h) inner)

    end_or_not : (b : Body) → (b ≡ End) ⊎ (has_statement b ≡ true)
    end_or_not End = inl refl
    end_or_not b = inr refl

    try_comes : (r : TypeTree) (loop : Bool) (ps : List ParamTree) (b : Body) (caught : Option (List ℕ)) (x : Ident) (handler : Locals → ℕ → Run) (q c : Bool) (ls : Locals) (left : ℕ) → Fit ps ls
        → Scoped r loop ps (reaches_end b) (reaches_break b) (scope (exec s run b caught) ls left)
        → ((n : ℕ) (ls : Locals) (left : ℕ) → Fit ps ls → Scoped r loop ps q c (handled x.name handler n ls left))
        → Scoped r loop ps (reaches_end b || q) (reaches_break b || (has_statement b && c)) (try_run (exec s run b caught) x.name handler ls left)
    try_comes r loop ps b caught x handler q c ls left f h k =
        ⊎_elim
        (λ e. subst (λ b. Scoped r loop ps (reaches_end b || q) (reaches_break b || (has_statement b && c)) (try_run (exec s run b caught) x.name handler ls left)) (sym e)
        (refl, cut ps ls (length ls) (locals_count s.records typed ps ls f) (extends_same ps ls f)))
        (λ e. caught_comes r loop ps (reaches_end b) (reaches_break b) q c (reaches_end b || q) (reaches_break b || (has_statement b && c)) (scope (exec s run b caught) ls left)
        (handled x.name handler) h k
        (first_true (reaches_end b) q) (first_true (reaches_break b) (has_statement b && c)) (second_true (reaches_end b) q)
        (λ t. second_true (reaches_break b) (has_statement b && c) (both_true (has_statement b) c e t)))
        (end_or_not b)

    -- the init of a `for`, and the step, leave no loop
    inside_for : (r : TypeTree) (ps qs : List ParamTree) (p b : Bool) (x : Run) → Runs r false ps qs p b x → Comes r (Fit qs) Never Never (Extends ps) x
    inside_for r ps qs p b x h =
        comes_as r (Went p qs) (Left false b (Extends ps)) (Left false true (Extends ps)) (Extends ps) (Fit qs) Never Never (Extends ps) x
        (λ ls h. h.1) (λ ls h. let e = h.0 in absurd (cc)) (λ ls h. let e = h.0 in absurd (cc)) (λ ls h. h) h

    for_comes : (r : TypeTree) (loop : Bool) (ps qs : List ParamTree) (e : Option ExprTree) (init step body : Locals → ℕ → Run) (p b : Bool) (ls : Locals) (left : ℕ) → Grows ps qs → Fit ps ls
        → Comes r (Fit qs) Never Never (Extends ps) (init ls left) → MaybeYields s.records s.functions actors qs e BoolType → Steps r qs step
        → ((ls : Locals) (left : ℕ) → Fit qs ls → Scoped r true qs p b (scope body ls left))
        → Runs r loop ps ps (is_there e || b) false (scope (for_run s run init e step body) ls left)
    for_comes r loop ps qs e init step body p b ls left g f i y k h =
        scoped_runs r loop ps (is_there e || b) false (is_there e || b) false (scope (for_run s run init e step body) ls left) (λ e. e) (λ e. e)
        (scope_comes r loop ps qs (is_there e || b) false (for_run s run init e step body) ls left g f
        (comes_as r (Went (is_there e || b) qs) Never Never (Extends ps) (Went (is_there e || b) qs) (Left loop false (Extends ps)) (Left loop true (Extends ps)) (Extends ps)
        (for_run s run init e step body ls left)
        (λ ls h. h) (λ ls h. absurd h) (λ ls h. absurd h) (λ ls h. h)
        (after_comes r (Fit qs) (Went (is_there e || b) qs) Never Never (Extends ps) (init ls left) (loop_run s run e step body) i
        (λ ls left f. comes_as r (Went (is_there e || b) qs) Never Never (Extends qs) (Went (is_there e || b) qs) Never Never (Extends ps) (loop_run s run e step body ls left)
        (λ ls h. h) (λ ls h. h) (λ ls h. h) (λ ls h. extends_on ps qs ls g h) (loop_comes r qs e step body p b ls left f y k h)))))

    pub exec_good : (b : Body) (r : TypeTree) (loop : Bool) (caught : Option (List ℕ)) (ps : List ParamTree) (ls : Locals) (left : ℕ) → BodyFits s.records s.functions actors r loop caught ps b
        → Fit ps ls
        → Runs r loop ps (ps ++ declared_in b) (reaches_end b) (reaches_break b) (exec s run b caught ls left)
    exec_good End r loop caught ps ls left h f = (refl, subst (λ ps. Fit ps ls) (sym (append-nil ps)) f)
    exec_good (BlockStmt at b k) r loop caught ps ls left h f =
        then_runs r loop ps ps (ps ++ declared_in k) (reaches_end b) (reaches_break b) (reaches_end k) (reaches_break k) (reaches_end b && reaches_end k)
        (reaches_break b || (reaches_end b && reaches_break k))
        (scope (exec s run b caught) ls left) (exec s run k caught) (grows_same ps)
        (scoped_runs r loop ps (reaches_end b) (reaches_break b) (reaches_end b) (reaches_break b) (scope (exec s run b caught) ls left) (λ e. e) (λ e. e)
        (scope_comes r loop ps (ps ++ declared_in b) (reaches_end b) (reaches_break b) (exec s run b caught) ls left (grows_by ps (declared_in b)) f (exec_good b r loop caught ps ls left h.0 f)))
        (λ ls left f. exec_good k r loop caught ps ls left h.1 f)
        (first_true (reaches_break b) (reaches_end b && reaches_break k)) (both_true (reaches_end b) (reaches_end k))
        (λ p c. second_true (reaches_break b) (reaches_end b && reaches_break k) (both_true (reaches_end b) (reaches_break k) p c))
    exec_good (IfStmt at e b k) r loop caught ps ls left h f =
        then_runs r loop ps ps (ps ++ declared_in k) true (reaches_break b) (reaches_end k) (reaches_break k) (reaches_end k) (reaches_break b || reaches_break k)
        (if_run s run e (scope (exec s run b caught)) skip ls left) (exec s run k caught) (grows_same ps)
        (if_comes r (Went true ps) (Left loop (reaches_break b) (Extends ps)) (Left loop true (Extends ps)) (Extends ps) ps e (scope (exec s run b caught)) skip ls left f h.0 (extends_same ps ls f)
        (λ left. scoped_runs r loop ps (reaches_end b) (reaches_break b) true (reaches_break b) (scope (exec s run b caught) ls left) (λ e. refl) (λ e. e)
        (scope_comes r loop ps (ps ++ declared_in b) (reaches_end b) (reaches_break b) (exec s run b caught) ls left (grows_by ps (declared_in b)) f (exec_good b r loop caught ps ls left h.1 f)))
        (λ left. (refl, f)))
        (λ ls left f. exec_good k r loop caught ps ls left h.2 f)
        (first_true (reaches_break b) (reaches_break k)) (λ p q. q) (λ p c. second_true (reaches_break b) (reaches_break k) c)
    exec_good (IfElseStmt at e b c k) r loop caught ps ls left h f =
        then_runs r loop ps ps (ps ++ declared_in k) (reaches_end b || reaches_end c) (reaches_break b || reaches_break c) (reaches_end k) (reaches_break k)
        ((reaches_end b || reaches_end c) && reaches_end k)
        (reaches_break b || reaches_break c || ((reaches_end b || reaches_end c) && reaches_break k))
        (if_run s run e (scope (exec s run b caught)) (scope (exec s run c caught)) ls left) (exec s run k caught) (grows_same ps)
        (if_comes r (Went (reaches_end b || reaches_end c) ps) (Left loop (reaches_break b || reaches_break c) (Extends ps)) (Left loop true (Extends ps)) (Extends ps) ps e
        (scope (exec s run b caught)) (scope (exec s run c caught)) ls left f h.0 (extends_same ps ls f)
        (λ left. scoped_runs r loop ps (reaches_end b) (reaches_break b) (reaches_end b || reaches_end c) (reaches_break b || reaches_break c) (scope (exec s run b caught) ls left)
        (first_true (reaches_end b) (reaches_end c)) (first_true (reaches_break b) (reaches_break c))
        (scope_comes r loop ps (ps ++ declared_in b) (reaches_end b) (reaches_break b) (exec s run b caught) ls left (grows_by ps (declared_in b)) f (exec_good b r loop caught ps ls left h.1 f)))
        (λ left. scoped_runs r loop ps (reaches_end c) (reaches_break c) (reaches_end b || reaches_end c) (reaches_break b || reaches_break c) (scope (exec s run c caught) ls left)
        (second_true (reaches_end b) (reaches_end c)) (second_true (reaches_break b) (reaches_break c))
        (scope_comes r loop ps (ps ++ declared_in c) (reaches_end c) (reaches_break c) (exec s run c caught) ls left (grows_by ps (declared_in c)) f (exec_good c r loop caught ps ls left h.2 f))))
        (λ ls left f. exec_good k r loop caught ps ls left h.3 f)
        (first_true (reaches_break b || reaches_break c) ((reaches_end b || reaches_end c) && reaches_break k)) (both_true (reaches_end b || reaches_end c) (reaches_end k))
        (λ p q. second_true (reaches_break b || reaches_break c) ((reaches_end b || reaches_end c) && reaches_break k) (both_true (reaches_end b || reaches_end c) (reaches_break k) p q))
    exec_good (WhileStmt at e b k) r loop caught ps ls left h f =
        then_runs r loop ps ps (ps ++ declared_in k) true false (reaches_end k) (reaches_break k) (reaches_end k) (reaches_break k)
        (loop_run s run (Some e) skip (exec s run b caught) ls left) (exec s run k caught) (grows_same ps)
        (looped_runs r loop ps true (loop_run s run (Some e) skip (exec s run b caught) ls left)
        (loop_comes r ps (Some e) skip (exec s run b caught) (reaches_end b) (reaches_break b) ls left f h.0 (λ ls left f. f)
        (λ ls left f. scope_comes r true ps (ps ++ declared_in b) (reaches_end b) (reaches_break b) (exec s run b caught) ls left (grows_by ps (declared_in b)) f
        (exec_good b r true caught ps ls left h.1 f))))
        (λ ls left f. exec_good k r loop caught ps ls left h.2 f)
        (λ b. let e = b in absurd (cc)) (λ p q. q) (λ p c. c)
    exec_good (ForStmt at i e t b k) r loop caught ps ls left h f =
        let mid = ps ++ declared_in i in
        then_runs r loop ps ps (ps ++ declared_in k) (is_there e || reaches_break b) false (reaches_end k) (reaches_break k) ((is_there e || reaches_break b) && reaches_end k)
        ((is_there e || reaches_break b) && reaches_break k)
        (scope (for_run s run (exec s run i caught) e (exec s run t caught) (exec s run b caught)) ls left) (exec s run k caught) (grows_same ps)
        (for_comes r loop ps mid e (exec s run i caught) (exec s run t caught) (exec s run b caught) (reaches_end b) (reaches_break b) ls left (grows_by ps (declared_in i)) f
        (inside_for r ps mid (reaches_end i) (reaches_break i) (exec s run i caught ls left) (exec_good i r false caught ps ls left h.0 f)) h.1
        (λ ls left f. inside_for r mid mid (reaches_end t) (reaches_break t) (exec s run t caught ls left)
        (subst (λ qs. Runs r false mid qs (reaches_end t) (reaches_break t) (exec s run t caught ls left)) (ap (λ l. mid ++ l) h.3 ∙ append-nil mid) (exec_good t r false caught mid ls left h.2 f)))
        (λ ls left f. scope_comes r true mid (mid ++ declared_in b) (reaches_end b) (reaches_break b) (exec s run b caught) ls left (grows_by mid (declared_in b)) f
        (exec_good b r true caught mid ls left h.4 f)))
        (λ ls left f. exec_good k r loop caught ps ls left h.5 f)
        (λ b. let e = b in absurd (cc)) (both_true (is_there e || reaches_break b) (reaches_end k)) (both_true (is_there e || reaches_break b) (reaches_break k))
    exec_good (LoopStmt at b k) r loop caught ps ls left h f =
        then_runs r loop ps ps (ps ++ declared_in k) (reaches_break b) false (reaches_end k) (reaches_break k) (reaches_break b && reaches_end k) (reaches_break b && reaches_break k)
        (loop_run s run None skip (exec s run b caught) ls left) (exec s run k caught) (grows_same ps)
        (looped_runs r loop ps (reaches_break b) (loop_run s run None skip (exec s run b caught) ls left)
        (loop_comes r ps None skip (exec s run b caught) (reaches_end b) (reaches_break b) ls left f (tt {0}) (λ ls left f. f)
        (λ ls left f. scope_comes r true ps (ps ++ declared_in b) (reaches_end b) (reaches_break b) (exec s run b caught) ls left (grows_by ps (declared_in b)) f
        (exec_good b r true caught ps ls left h.0 f))))
        (λ ls left f. exec_good k r loop caught ps ls left h.1 f)
        (λ b. let e = b in absurd (cc)) (both_true (reaches_break b) (reaches_end k)) (both_true (reaches_break b) (reaches_break k))
    exec_good (BreakStmt at k) r loop caught ps ls left h f = (h.0, refl, extends_same ps ls f)
    exec_good (ContinueStmt at k) r loop caught ps ls left h f = (h.0, refl, extends_same ps ls f)
    exec_good (ReturnStmt at e k) r loop caught ps ls left h f =
        then_runs r loop ps ps (ps ++ declared_in k) false false (reaches_end k) (reaches_break k) false false (return_run s run e ls left) (exec s run k caught) (grows_same ps)
        (return_runs r loop ps ls e left f h.0) (λ ls left f. exec_good k r loop caught ps ls left h.1 f) (λ b. b) (λ p q. p) (λ p c. p)
    exec_good (ThrowStmt at e k) r loop caught ps ls left h f =
        then_runs r loop ps ps (ps ++ declared_in k) false false (reaches_end k) (reaches_break k) false false (throw_run s run e caught ls left) (exec s run k caught) (grows_same ps)
        (throw_runs r loop caught ps ls e left f h.0) (λ ls left f. exec_good k r loop caught ps ls left h.1 f) (λ b. b) (λ p q. p) (λ p c. p)
    exec_good (TryStmt at b q x g k) r loop caught ps ls left h f =
        let more = ps ++ record { ty = ErrorType; name = x } ∷ [] in
        then_runs r loop ps ps (ps ++ declared_in k) (reaches_end b || reaches_end g) (reaches_break b || (has_statement b && reaches_break g)) (reaches_end k) (reaches_break k)
        ((reaches_end b || reaches_end g) && reaches_end k)
        (reaches_break b || (has_statement b && reaches_break g) || ((reaches_end b || reaches_end g) && reaches_break k))
        (try_run (exec s run b caught) x.name (exec s run g (Some x.name)) ls left) (exec s run k caught) (grows_same ps)
        (scoped_runs r loop ps (reaches_end b || reaches_end g) (reaches_break b || (has_statement b && reaches_break g)) (reaches_end b || reaches_end g)
        (reaches_break b || (has_statement b && reaches_break g))
        (try_run (exec s run b caught) x.name (exec s run g (Some x.name)) ls left) (λ e. e) (λ e. e)
        (try_comes r loop ps b caught x (exec s run g (Some x.name)) (reaches_end g) (reaches_break g) ls left f
        (scope_comes r loop ps (ps ++ declared_in b) (reaches_end b) (reaches_break b) (exec s run b caught) ls left (grows_by ps (declared_in b)) f (exec_good b r loop caught ps ls left h.0 f))
        (handled_comes r loop ps (more ++ declared_in g) x (reaches_end g) (reaches_break g) (exec s run g (Some x.name)) (grows_by more (declared_in g))
        (λ ls left f. exec_good g r loop (Some x.name) more ls left h.1 f))))
        (λ ls left f. exec_good k r loop caught ps ls left h.2 f)
        (first_true (reaches_break b || (has_statement b && reaches_break g)) ((reaches_end b || reaches_end g) && reaches_break k)) (both_true (reaches_end b || reaches_end g) (reaches_end k))
        (λ p q. second_true (reaches_break b || (has_statement b && reaches_break g)) ((reaches_end b || reaches_end g) && reaches_break k)
        (both_true (reaches_end b || reaches_end g) (reaches_break k) p q))
    exec_good (ChooseStmt at bs k) r loop caught ps ls left h f = absurd h
    exec_good (DeclareStmt at i e k) r loop caught ps ls left h f =
        subst (λ qs. Runs r loop ps qs (reaches_end k) (reaches_break k) (after (declare_run s run i e ls left) (exec s run k caught)))
        (append_assoc ps (record { ty = i.ty; name = i.name } ∷ []) (declared_in k))
        (then_runs r loop ps (ps ++ record { ty = i.ty; name = i.name } ∷ []) ((ps ++ record { ty = i.ty; name = i.name } ∷ []) ++ declared_in k) true false (reaches_end k) (reaches_break k)
        (reaches_end k) (reaches_break k)
        (declare_run s run i e ls left) (exec s run k caught) (grows_by ps (record { ty = i.ty; name = i.name } ∷ []))
        (declare_runs r loop ps ls i e left f h.0) (λ ls left f. exec_good k r loop caught (ps ++ record { ty = i.ty; name = i.name } ∷ []) ls left h.1 f) (λ b. let e = b in absurd (cc)) (λ p q. q)
        (λ p c. c))
    exec_good (AssignStmt at xs e k) r loop caught ps ls left h f =
        then_runs r loop ps ps (ps ++ declared_in k) true false (reaches_end k) (reaches_break k) (reaches_end k) (reaches_break k) (assign_run s run xs e ls left) (exec s run k caught)
        (grows_same ps)
        (assign_runs r loop ps ls xs e h.0.0 left f h.0.1 h.0.2) (λ ls left f. exec_good k r loop caught ps ls left h.1 f) (λ b. let e = b in absurd (cc)) (λ p q. q) (λ p c. c)
    exec_good (ModifyStmt at xs c k) r loop caught ps ls left h f =
        then_runs r loop ps ps (ps ++ declared_in k) true false (reaches_end k) (reaches_break k) (reaches_end k) (reaches_break k) (modify_run s run xs c ls left) (exec s run k caught)
        (grows_same ps)
        (modify_runs r loop ps ls xs c h.0.0 left f h.0.1 h.0.2) (λ ls left f. exec_good k r loop caught ps ls left h.1 f) (λ b. let e = b in absurd (cc)) (λ p q. q) (λ p c. c)
    exec_good (CallStmt at xs es k) r loop caught ps ls left h f =
        then_runs r loop ps ps (ps ++ declared_in k) true false (reaches_end k) (reaches_break k) (reaches_end k) (reaches_break k) (call_run s run xs es ls left) (exec s run k caught) (grows_same ps)
        (call_runs r loop ps ls xs es left f h.0) (λ ls left f. exec_good k r loop caught ps ls left h.1 f) (λ b. let e = b in absurd (cc)) (λ p q. q) (λ p c. c)
    exec_good (WaitStmt at w k) r loop caught ps ls left h f = absurd h

  -- a well-typed function on arguments of its types means something, however deep calls may be nested
  module _ (actors : List RoutineTree) (cells : CellsFit s.records typed s.cells) (functions : FunctionsFit s.records s.functions actors) where
    finished_good : (r : TypeTree) (ps qs : List ParamTree) (p b : Bool) (x : Run) → p ≡ false → Runs r false ps qs p b x → Safe (λ v. HasType s.records typed v r) (finished x)
    finished_good r ps qs p b (Goes ls left) e h = let d = h.0 in absurd (cc)
    finished_good r ps qs p b (Breaks ls left) e h = let d = h.0 in absurd (cc)
    finished_good r ps qs p b (Continues ls left) e h = let d = h.0 in absurd (cc)
    finished_good r ps qs p b (Returns v left) e h = h
    finished_good r ps qs p b (Raises n ls left) e h = tt {0}
    finished_good r ps qs p b SpentRun e h = tt {0}
    finished_good r ps qs p b NoRun e h = h

    body_good : (run : Runner) → RunnerFits s.records typed s.functions run → (f : RoutineTree) (vs : List ValueTree) (left : ℕ) → FunctionFits s.records s.functions actors f
        → HaveTypes s.records typed (values_of_list vs) (param_types f.params) → Safe (λ v. HasType s.records typed v f.returns) (body_run s run f (entered f.params vs) left)
    body_good run runs f vs left y h =
        let ls = entered_fits s.records typed f.params vs h in
        subst (λ o. Safe (λ v. HasType s.records typed v f.returns) (body_run s run f o left)) (sym ls.1)
        (finished_good f.returns f.params (f.params ++ declared_in f.body) (reaches_end f.body) (reaches_break f.body) (exec s run f.body None ls.0 left) y.1
        (exec_good actors run cells runs f.body f.returns false None f.params ls.0 left y.0 ls.2))

    pub function_good : (nest : ℕ) (f : RoutineTree) (vs : List ValueTree) (left : ℕ) → FunctionFits s.records s.functions actors f
        → HaveTypes s.records typed (values_of_list vs) (param_types f.params) → Safe (λ v. HasType s.records typed v f.returns) (run_function s nest f vs left)
    function_good zero f vs zero y h = tt {0}
    function_good zero f vs (suc left) y h = tt {0}
    function_good (suc nest) f vs zero y h = tt {0}
    function_good (suc nest) f vs (suc left) y h =
        body_good (run_function s nest)
        (λ x g ws left e k. let at = first_there (λ (g : RoutineTree). bytes_eq g.name.name x) s.functions g e in function_good nest g ws left (functions at.0 g at.2) k) f vs left y h

    pub runner_good : (nest : ℕ) → RunnerFits s.records typed s.functions (run_function s nest)
    runner_good nest x f vs left e h =
        let at = first_there (λ (g : RoutineTree). bytes_eq g.name.name x) s.functions f e in
        function_good nest f vs left (functions at.0 f at.2) h
