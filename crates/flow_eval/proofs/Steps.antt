-- Statements and loops, as far as the code has come.
use Rattle.std.proofs.Common.{◌≡◌, ℕ, zero, suc, ◌+◌, ◌<◌, ◌≤◌, List, [], ◌∷◌, ◌++◌, length, map, take, drop, get_or, slice_get, Bool, true, false, cond, ◌-◌, refl, ap, sym, subst, ◌∙◌, arith, add-one, append_assoc}
use Rattle.std.specs.declared.result.Result.{Result}
use Rattle.std.specs.declared.result.Result.TheVariants.{Ok, Err}
use Rattle.flow_base.specs.ErrorNumbers.{out_of_range}
use Rattle.flow_tree.specs.declared.expr.Expr.{Expr}
use Rattle.flow_tree.specs.declared.stmt.Stmt.{Stmt}
use Rattle.std.specs.Str.{bytes_eq}
use Rattle.std.specs.declared.option.Option.{Option}
use Rattle.std.specs.declared.option.Option.TheVariants.{None, Some}
use Rattle.flow_tree.specs.declared.decl.FunctionDecl.{FunctionDecl}
use Rattle.flow_tree.specs.DeclView.{function_of, param_of}
use Rattle.flow_tree.specs.Decls.{RoutineTree}
use Rattle.flow_ast.specs.Typing.{routine_named}
use Rattle.flow_tree.specs.Body.{Body}
use Rattle.flow_tree.specs.View.{expr_of, exprs_of}
use Rattle.flow_tree.specs.StmtView.{stmt_of, body_of}
use Rattle.flow_value.specs.declared.value.Value.{Value}
use Rattle.flow_value.specs.Values.{ValueTree}
use Rattle.flow_eval.specs.declared.stop.Halt.{Halt}
use Rattle.flow_eval.specs.declared.stop.Halt.TheVariants as halt
use Rattle.flow_eval.specs.declared.statements.Flow.{Flow}
use Rattle.flow_eval.specs.declared.statements.Flow.TheVariants as flow
use Rattle.flow_eval.specs.Answers.{Given, NoMeaning}
use Rattle.flow_eval.specs.Eval.{Setting, Runner, Res, Done, Fails, Spent, Meaningless, then, eval, eval_all, more_args, function_called, found}
use Rattle.flow_eval.specs.Functions.{valued, chosen, Locals, Run, Goes, Breaks, Continues, Returns, Raises, SpentRun, NoRun, after, scoped, passes, again, caught_by, exec, entered, finished, body_run, called_body, run_function}
use Rattle.flow_eval.specs.declared.variables.Var.{Var}
use Rattle.flow_eval.specs.Variables.{var_of}
use Rattle.flow_eval.specs.View.{Gives, GivesAll, Ran, StmtRan}

-- one statement comes to r, and what follows comes after it
pub settled : (r : Run) (f : Body → Run) (next : Body → Locals → ℕ → Run) (q : Result Flow Halt) (vars : Locals) (left : ℕ)
    → Ran r q vars left → ((k : Body) → f k ≡ after r (next k)) → StmtRan f next q vars left
settled r f next (Ok flow.Next) vars left h e = λ k. e k ∙ ap (λ r. after r (next k)) h
settled r f next (Ok flow.Break) vars left h e = λ k. e k ∙ ap (λ r. after r (next k)) h
settled r f next (Ok flow.Continue) vars left h e = λ k. e k ∙ ap (λ r. after r (next k)) h
settled r f next (Ok (flow.Return v)) vars left h e = λ k. e k ∙ ap (λ r. after r (next k)) h
settled r f next (Err (halt.Thrown c)) vars left h e = λ k. e k ∙ ap (λ r. after r (next k)) h
settled r f next (Err halt.Spent) vars left h e = (λ k. e k ∙ ap (λ r. after r (next k)) h.0, h.1)
settled r f next (Err halt.NoMeaning) vars left h e = λ k. e k ∙ ap (λ r. after r (next k)) h
settled r f next (Err halt.OutOfMemory) vars left h e = tt

-- a scope ends whatever was met in it
pub scope_ends : (n : ℕ) (r : Run) (q : Result Flow Halt) (vars : Locals) (left : ℕ) → Ran r q vars left → Ran (scoped n r) q (take n vars) left
scope_ends n r (Ok flow.Next) vars left h = ap (scoped n) h
scope_ends n r (Ok flow.Break) vars left h = ap (scoped n) h
scope_ends n r (Ok flow.Continue) vars left h = ap (scoped n) h
scope_ends n r (Ok (flow.Return v)) vars left h = ap (scoped n) h
scope_ends n r (Err (halt.Thrown c)) vars left h = ap (scoped n) h
scope_ends n r (Err halt.Spent) vars left h = (ap (scoped n) h.0, h.1)
scope_ends n r (Err halt.NoMeaning) vars left h = ap (scoped n) h
scope_ends n r (Err halt.OutOfMemory) vars left h = tt

map-take : {X Y : Type 0} (f : X → Y) (n : ℕ) (xs : List X) → map f (take n xs) ≡ take n (map f xs)
map-take f zero xs = refl
map-take f (suc n) [] = refl
map-take f (suc n) (x ∷ xs) = ap (λ l. f x ∷ l) (map-take f n xs)

length-mapped : {X Y : Type 0} (f : X → Y) (xs : List X) → length (map f xs) ≡ length xs
length-mapped f [] = refl
length-mapped f (x ∷ xs) = ap suc (length-mapped f xs)

-- the variables are cut back to those that were there before
pub scope_cut : (n : ℕ) (r : Run) (q : Result Flow Halt) (old vs ws : List Var) (left : ℕ) → n ≡ length old → ws ≡ take n vs
    → Ran r q (map var_of vs) left → Ran (scoped (length (map var_of old)) r) q (map var_of ws) left
scope_cut n r q old vs ws left e f h =
    let cut = subst (λ l. Ran (scoped n r) q l left) (sym (map-take var_of n vs) ∙ ap (map var_of) (sym f)) (scope_ends n r q (map var_of vs) left h) in
    subst (λ m. Ran (scoped m r) q (map var_of ws) left) (e ∙ sym (length-mapped var_of old)) cut

-- an error is not caught where there is none
pub uncaught : (r : Run) (go : ℕ → Locals → ℕ → Run) (f : Flow) (vars : Locals) (left : ℕ) → Ran r (Ok f) vars left → Ran (caught_by r go) (Ok f) vars left
uncaught r go flow.Next vars left h = ap (λ r. caught_by r go) h
uncaught r go flow.Break vars left h = ap (λ r. caught_by r go) h
uncaught r go flow.Continue vars left h = ap (λ r. caught_by r go) h
uncaught r go (flow.Return v) vars left h = ap (λ r. caught_by r go) h

-- the first of what is left of a body, and the rest
body_at : (ss : List Stmt) (i : ℕ) (d : Stmt) → i < length ss → body_of (drop i ss) ≡ stmt_of (get_or ss i d) (body_of (drop (suc i) ss))
body_at [] i d lt = absurd (omega arith)
body_at (s ∷ ss) zero d lt = refl
body_at (s ∷ ss) (suc i) d lt = let lt' : i < length ss = omega arith in body_at ss i d lt'

module _ (s : Setting) (run : Runner) where
  -- arguments so far, before those of the rest
  abbrev pub prefixed : List ValueTree → Res (List ValueTree) → Res (List ValueTree)
  prefixed vs r = then r (λ us left. Done (vs ++ us) left)

  prefixed_more : (vs : List ValueTree) (v : ValueTree) (r : Res (List ValueTree)) → prefixed vs (then r (λ us left. Done (v ∷ us) left)) ≡ prefixed (vs ++ v ∷ []) r
  prefixed_more vs v (Done us left) = ap (λ l. Done l left) (sym (append_assoc vs (v ∷ []) us))
  prefixed_more vs v (Fails e left) = refl
  prefixed_more vs v Spent = refl
  prefixed_more vs v Meaningless = refl

  pub prefixed_none : (r : Res (List ValueTree)) → prefixed [] r ≡ r
  prefixed_none (Done us left) = refl
  prefixed_none (Fails e left) = refl
  prefixed_none Spent = refl
  prefixed_none Meaningless = refl

  args_at : (look : List ℕ → _) (es : List Expr) (i : ℕ) (d : Expr) (left : ℕ) → i < length es
      → eval_all s run look (exprs_of (drop i es)) left ≡ more_args (eval s run look (expr_of (get_or es i d)) left) (eval_all s run look (exprs_of (drop (suc i) es)))
  args_at look [] i d left lt = absurd (omega arith)
  args_at look (e ∷ es) zero d left lt = refl
  args_at look (e ∷ es) (suc i) d left lt = let lt' : i < length es = omega arith in args_at look es i d left lt'

  pub args_more : (look : List ℕ → _) (es : List Expr) (i : ℕ) (d : Expr) (vs : List ValueTree) (v : ValueTree) (left rest : ℕ) → i < length es
      → eval s run look (expr_of (get_or es i d)) left ≡ Done v rest
      → prefixed vs (eval_all s run look (exprs_of (drop i es)) left) ≡ prefixed (vs ++ v ∷ []) (eval_all s run look (exprs_of (drop (i + 1) es)) rest)
  args_more look es i d vs v left rest lt e =
      rw add-one
      (ap (prefixed vs) (args_at look es i d left lt)
      ∙ ap (λ r. prefixed vs (more_args r (eval_all s run look (exprs_of (drop (suc i) es))))) e
      ∙ prefixed_more vs v (eval_all s run look (exprs_of (drop (suc i) es)) rest))

  args_stop : (vs : List ValueTree) (go : ℕ → Res (List ValueTree)) (r : Res ValueTree) (h : Halt) (left : ℕ) → Gives r (Err h) left → GivesAll (prefixed vs (more_args r go)) (Err h) left
  args_stop vs go r (halt.Thrown e) left g = ap (λ r. prefixed vs (more_args r go)) g
  args_stop vs go r halt.Spent left g = (ap (λ r. prefixed vs (more_args r go)) g.0, g.1)
  args_stop vs go r halt.NoMeaning left g = ap (λ r. prefixed vs (more_args r go)) g
  args_stop vs go r halt.OutOfMemory left g = tt

  pub args_stopped : (look : List ℕ → _) (es : List Expr) (i : ℕ) (d : Expr) (vs : List ValueTree) (q : Res (List ValueTree)) (h : Halt) (left rest : ℕ) → i < length es
      → q ≡ prefixed vs (eval_all s run look (exprs_of (drop i es)) left) → Gives (eval s run look (expr_of (get_or es i d)) left) (Err h) rest → GivesAll q (Err h) rest
  args_stopped look es i d vs q h left rest lt e g =
      subst (λ r. GivesAll r (Err h) rest) (sym (e ∙ ap (prefixed vs) (args_at look es i d left lt)))
      (args_stop vs (eval_all s run look (exprs_of (drop (suc i) es))) (eval s run look (expr_of (get_or es i d)) left) h rest g)

-- a statement of a body has run: what follows, or how the body ends
pub body_more : (f : Body → Locals → ℕ → Run) (ss : List Stmt) (i : ℕ) (d : Stmt) (r : Run) (vars ws : Locals) (left rest : ℕ) → i < length ss
    → r ≡ f (body_of (drop i ss)) vars left → ((k : Body) → f (stmt_of (get_or ss i d) k) vars left ≡ f k ws rest) → r ≡ f (body_of (drop (i + 1) ss)) ws rest
body_more f ss i d r vars ws left rest lt e h =
    rw add-one (e ∙ ap (λ b. f b vars left) (body_at ss i d lt) ∙ h (body_of (drop (suc i) ss)))

pub body_ends : (f : Body → Locals → ℕ → Run) (ss : List Stmt) (i : ℕ) (d : Stmt) (r q : Run) (vars : Locals) (left : ℕ) → i < length ss
    → r ≡ f (body_of (drop i ss)) vars left → ((k : Body) → f (stmt_of (get_or ss i d) k) vars left ≡ q) → r ≡ q
body_ends f ss i d r q vars left lt e h = e ∙ ap (λ b. f b vars left) (body_at ss i d lt) ∙ h (body_of (drop (suc i) ss))

pub body_stops : (f : Body → Locals → ℕ → Run) (ss : List Stmt) (i : ℕ) (d : Stmt) (r : Run) (h : Halt) (vars ws : Locals) (left rest : ℕ) → i < length ss
    → r ≡ f (body_of (drop i ss)) vars left → StmtRan (λ k. f (stmt_of (get_or ss i d) k) vars left) f (Err h) ws rest → Ran r (Err h) ws rest
body_stops f ss i d r (halt.Thrown e) vars ws left rest lt q g = body_ends f ss i d r (Raises e.0 ws rest) vars left lt q g
body_stops f ss i d r halt.Spent vars ws left rest lt q g = (body_ends f ss i d r SpentRun vars left lt q g.0, g.1)
body_stops f ss i d r halt.NoMeaning vars ws left rest lt q g = body_ends f ss i d r NoRun vars left lt q g
body_stops f ss i d r halt.OutOfMemory vars ws left rest lt q g = tt

-- a loop has come so far: it goes on with at most so many passes
pub record LoopAt (pass : Locals → ℕ → Run) (r : Run) (vars : Locals) (left : ℕ) : Type 0 where
  pub most : ℕ
  pub enough : left ≤ most
  pub comes : r ≡ passes pass most vars left

pub loop_start : (pass : Locals → ℕ → Run) (vars : Locals) (left : ℕ) → LoopAt pass (passes pass left vars left) vars left
loop_start pass vars left = record { most = left; enough = omega arith; comes = refl }

pass_of : (pass : Locals → ℕ → Run) (most : ℕ) (vars : Locals) (left : ℕ) → suc left ≤ most → (m : ℕ) × (left ≤ m) × (passes pass most vars (suc left) ≡ again (pass vars left) (passes pass m))
pass_of pass zero vars left le = absurd (omega arith)
pass_of pass (suc m) vars left le = (m, omega arith, refl)

pub loop_more : (pass : Locals → ℕ → Run) (r : Run) (vars ws : Locals) (left rest : ℕ) → LoopAt pass r vars (suc left) → rest ≤ left → pass vars left ≡ Goes ws rest → LoopAt pass r ws rest
loop_more pass r vars ws left rest at le e =
    let one = pass_of pass at.most vars left at.enough in
    record { most = one.0; enough = omega (arith, one.1); comes = at.comes ∙ one.2 ∙ ap (λ q. again q (passes pass one.0)) e }

pub loop_round : (pass : Locals → ℕ → Run) (r : Run) (vars ws : Locals) (left rest : ℕ) → LoopAt pass r vars (suc left) → rest ≤ left → pass vars left ≡ Continues ws rest → LoopAt pass r ws rest
loop_round pass r vars ws left rest at le e =
    let one = pass_of pass at.most vars left at.enough in
    record { most = one.0; enough = omega (arith, one.1); comes = at.comes ∙ one.2 ∙ ap (λ q. again q (passes pass one.0)) e }

pub loop_left : (pass : Locals → ℕ → Run) (r : Run) (vars ws : Locals) (left rest : ℕ) → LoopAt pass r vars (suc left) → pass vars left ≡ Breaks ws rest → r ≡ Goes ws rest
loop_left pass r vars ws left rest at e =
    let one = pass_of pass at.most vars left at.enough in
    at.comes ∙ one.2 ∙ ap (λ q. again q (passes pass one.0)) e

pub loop_returns : (pass : Locals → ℕ → Run) (r : Run) (vars : Locals) (v : ValueTree) (left rest : ℕ) → LoopAt pass r vars (suc left) → pass vars left ≡ Returns v rest → r ≡ Returns v rest
loop_returns pass r vars v left rest at e =
    let one = pass_of pass at.most vars left at.enough in
    at.comes ∙ one.2 ∙ ap (λ q. again q (passes pass one.0)) e

again_stops : (q : Run) (go : Locals → ℕ → Run) (h : Halt) (ws : Locals) (rest : ℕ) → Ran q (Err h) ws rest → Ran (again q go) (Err h) ws rest
again_stops q go (halt.Thrown e) ws rest g = ap (λ q. again q go) g
again_stops q go halt.Spent ws rest g = (ap (λ q. again q go) g.0, g.1)
again_stops q go halt.NoMeaning ws rest g = ap (λ q. again q go) g
again_stops q go halt.OutOfMemory ws rest g = tt

pub loop_stops : (pass : Locals → ℕ → Run) (r : Run) (vars ws : Locals) (h : Halt) (left rest : ℕ) → LoopAt pass r vars (suc left) → Ran (pass vars left) (Err h) ws rest → Ran r (Err h) ws rest
loop_stops pass r vars ws h left rest at g =
    let one = pass_of pass at.most vars left at.enough in
    subst (λ q. Ran q (Err h) ws rest) (sym (at.comes ∙ one.2)) (again_stops (pass vars left) (passes pass one.0) h ws rest g)

spent_loop : (pass : Locals → ℕ → Run) (most : ℕ) (vars : Locals) → passes pass most vars 0 ≡ SpentRun
spent_loop pass zero vars = refl
spent_loop pass (suc most) vars = refl

pub loop_spent : (pass : Locals → ℕ → Run) (r : Run) (vars : Locals) (left : ℕ) → LoopAt pass r vars left → left ≡ 0 → r ≡ SpentRun
loop_spent pass r vars left at e = at.comes ∙ ap (passes pass at.most vars) e ∙ spent_loop pass at.most vars

-- a call where a turn is left and calls may still be nested, where no turn is left, and where it is nested too deep
pub run_deeper : (s : Setting) (n : ℕ) (o : Option RoutineTree) (vs : List ValueTree) (left : ℕ) (q : Result Value Halt) (rest : ℕ) → 0 < n → 0 < left
    → Gives (called_body s (run_function s (n - 1)) o vs (left - 1)) q rest → Gives (function_called s (run_function s n) o vs left) q rest
run_deeper s zero o vs left q rest p l h = absurd (omega arith)
run_deeper s (suc n) o vs zero q rest p l h = absurd (omega arith)
run_deeper s (suc n) None vs (suc left) q rest p l h = h
run_deeper s (suc n) (Some f) vs (suc left) q rest p l h =
    let e : suc n - 1 ≡ n = omega arith in
    let d : suc left - 1 ≡ left = omega arith in
    subst (λ m. Gives (body_run s (run_function s n) f (entered f.params vs) m) q rest) d
    (subst (λ m. Gives (body_run s (run_function s m) f (entered f.params vs) (suc left - 1)) q rest) e h)

pub run_spent : (s : Setting) (n : ℕ) (f : RoutineTree) (vs : List ValueTree) (left : ℕ) → left ≡ 0 → run_function s n f vs left ≡ Spent
run_spent s zero f vs left e = ap (run_function s zero f vs) e
run_spent s (suc n) f vs left e = ap (run_function s (suc n) f vs) e

pub run_too_deep : (s : Setting) (n : ℕ) (f : RoutineTree) (vs : List ValueTree) (left : ℕ) → n ≡ 0 → 0 < left → run_function s n f vs left ≡ Fails out_of_range (left - 1)
run_too_deep s (suc n) f vs left e l = absurd (omega arith)
run_too_deep s zero f vs zero e l = absurd (omega arith)
run_too_deep s zero f vs (suc left) e l = let d : left ≡ suc left - 1 = omega arith in ap (Fails out_of_range) d

pub function_got : (fs : List FunctionDecl) (k : ℕ) (d : FunctionDecl) → k < length fs → slice_get (map function_of fs) k ≡ Some (function_of (get_or fs k d))
function_got [] k d lt = absurd (omega arith)
function_got (f ∷ fs) zero d lt = refl
function_got (f ∷ fs) (suc k) d lt = let lt' : k < length fs = omega arith in function_got fs k d lt'

named_first : (b : Bool) (f : RoutineTree) (o : Option RoutineTree) → b ≡ true → cond b (Some f) o ≡ Some f
named_first true f o e = refl
named_first false f o e = cc

-- the first routine of what is left is the one at the place
pub place_found : (fs : List FunctionDecl) (k : ℕ) (d : FunctionDecl) (x : List ℕ) → k < length fs → bytes_eq (get_or fs k d).name.name x ≡ true
    → routine_named (map function_of (drop k fs)) x ≡ slice_get (map function_of fs) k
place_found [] k d x lt e = absurd (omega arith)
place_found (f ∷ fs) zero d x lt e = named_first (bytes_eq f.name.name x) (function_of f) (routine_named (map function_of fs) x) e
place_found (f ∷ fs) (suc k) d x lt e = let lt' : k < length fs = omega arith in place_found fs k d x lt' e

-- the body of the function at a place, with its arguments or without
pub entered_body : (s : Setting) (run : Runner) (fs : List FunctionDecl) (k : ℕ) (d : FunctionDecl) (vs : List ValueTree) (vars : Locals) (left : ℕ) → k < length fs
    → entered (map param_of (get_or fs k d).params.items) vs ≡ Some vars
    → called_body s run (slice_get (map function_of fs) k) vs left ≡ finished (exec s run (body_of (get_or fs k d).body.items) None vars left)
entered_body s run fs k d vs vars left lt e =
    ap (λ o. called_body s run o vs left) (function_got fs k d lt) ∙ ap (λ o. body_run s run (function_of (get_or fs k d)) o left) e

pub entered_none : (s : Setting) (run : Runner) (fs : List FunctionDecl) (k : ℕ) (d : FunctionDecl) (vs : List ValueTree) (left : ℕ) → k < length fs
    → entered (map param_of (get_or fs k d).params.items) vs ≡ None → called_body s run (slice_get (map function_of fs) k) vs left ≡ Meaningless
entered_none s run fs k d vs left lt e =
    ap (λ o. called_body s run o vs left) (function_got fs k d lt) ∙ ap (λ o. body_run s run (function_of (get_or fs k d)) o left) e

-- a call of the function at a place where no turn is left, and where it is nested too deep
pub spent_at : (s : Setting) (n : ℕ) (fs : List FunctionDecl) (k : ℕ) (vs : List ValueTree) (left : ℕ) → k < length fs → left ≡ 0
    → function_called s (run_function s n) (slice_get (map function_of fs) k) vs left ≡ Spent
spent_at s n [] k vs left lt e = absurd (omega arith)
spent_at s n (f ∷ fs) zero vs left lt e = run_spent s n (function_of f) vs left e
spent_at s n (f ∷ fs) (suc k) vs left lt e = let lt' : k < length fs = omega arith in spent_at s n fs k vs left lt' e

pub too_deep_at : (s : Setting) (n : ℕ) (fs : List FunctionDecl) (k : ℕ) (vs : List ValueTree) (left : ℕ) → k < length fs → n ≡ 0 → 0 < left
    → function_called s (run_function s n) (slice_get (map function_of fs) k) vs left ≡ Fails out_of_range (left - 1)
too_deep_at s n [] k vs left lt e p = absurd (omega arith)
too_deep_at s n (f ∷ fs) zero vs left lt e p = run_too_deep s n (function_of f) vs left e p
too_deep_at s n (f ∷ fs) (suc k) vs left lt e p = let lt' : k < length fs = omega arith in too_deep_at s n fs k vs left lt' e p

-- a value is known, and what is done with it comes to q
pub valued_ran : (r : Res ValueTree) (v : ValueTree) (vars : Locals) (go : ValueTree → ℕ → Run) (q : Result Flow Halt) (ws : Locals) (left rest : ℕ)
    → r ≡ Done v left → Ran (go v left) q ws rest → Ran (valued r vars go) q ws rest
valued_ran r v vars go q ws left rest e h = subst (λ r. Ran (valued r vars go) q ws rest) (sym e) h

-- there is none, and the statement ends with that
pub valued_stops : (r : Res ValueTree) (vars : Locals) (go : ValueTree → ℕ → Run) (h : Halt) (left : ℕ) → Gives r (Err h) left → Ran (valued r vars go) (Err h) vars left
valued_stops r vars go (halt.Thrown e) left g = ap (λ r. valued r vars go) g
valued_stops r vars go halt.Spent left g = (ap (λ r. valued r vars go) g.0, g.1)
valued_stops r vars go halt.NoMeaning left g = ap (λ r. valued r vars go) g
valued_stops r vars go halt.OutOfMemory left g = tt

pub chosen_ran : (o : Option Bool) (b : Bool) (main other : Locals → ℕ → Run) (q : Result Flow Halt) (vars ws : Locals) (left rest : ℕ)
    → o ≡ Some b → Ran (chosen (Some b) main other vars left) q ws rest → Ran (chosen o main other vars left) q ws rest
chosen_ran o b main other q vars ws left rest e h = subst (λ o. Ran (chosen o main other vars left) q ws rest) (sym e) h

pub found_some : (o : Option ValueTree) (v : ValueTree) → found o ≡ Given v → o ≡ Some v
found_some None v e = cc
found_some (Some w) v e = cc

pub found_none : (o : Option ValueTree) → found o ≡ NoMeaning → o ≡ None
found_none None e = refl
found_none (Some w) e = cc

pub after_goes : (r : Run) (vars : Locals) (left : ℕ) (go : Locals → ℕ → Run) (q : Result Flow Halt) (ws : Locals) (rest : ℕ)
    → r ≡ Goes vars left → Ran (go vars left) q ws rest → Ran (after r go) q ws rest
after_goes r vars left go q ws rest e h = subst (λ r. Ran (after r go) q ws rest) (sym e) h

at_suc : (pass : Locals → ℕ → Run) (r : Run) (vars : Locals) (left : ℕ) → 0 < left → LoopAt pass r vars left → LoopAt pass r vars (suc (left - 1))
at_suc pass r vars left pos at = let e : left ≡ suc (left - 1) = omega arith in subst (λ n. LoopAt pass r vars n) e at

-- a pass has been made where a turn was left
pub loop_next : (pass : Locals → ℕ → Run) (r : Run) (vars ws : Locals) (left rest : ℕ) (f : Flow) → LoopAt pass r vars left → 0 < left → rest ≤ left - 1
    → Ran (pass vars (left - 1)) (Ok f) ws rest → f ≡ flow.Next → LoopAt pass r ws rest
loop_next pass r vars ws left rest f at pos le g e =
    let goes : Ran (pass vars (left - 1)) (Ok flow.Next) ws rest = subst (λ f. Ran (pass vars (left - 1)) (Ok f) ws rest) e g in
    loop_more pass r vars ws (left - 1) rest (at_suc pass r vars left pos at) le goes

pub loop_continue : (pass : Locals → ℕ → Run) (r : Run) (vars ws : Locals) (left rest : ℕ) (f : Flow) → LoopAt pass r vars left → 0 < left → rest ≤ left - 1
    → Ran (pass vars (left - 1)) (Ok f) ws rest → f ≡ flow.Continue → LoopAt pass r ws rest
loop_continue pass r vars ws left rest f at pos le g e =
    let goes : Ran (pass vars (left - 1)) (Ok flow.Continue) ws rest = subst (λ f. Ran (pass vars (left - 1)) (Ok f) ws rest) e g in
    loop_round pass r vars ws (left - 1) rest (at_suc pass r vars left pos at) le goes

pub loop_halts : (pass : Locals → ℕ → Run) (r : Run) (vars ws : Locals) (left rest : ℕ) (h : Halt) → LoopAt pass r vars left → 0 < left
    → Ran (pass vars (left - 1)) (Err h) ws rest → Ran r (Err h) ws rest
loop_halts pass r vars ws left rest h at pos g = loop_stops pass r vars ws h (left - 1) rest (at_suc pass r vars left pos at) g
