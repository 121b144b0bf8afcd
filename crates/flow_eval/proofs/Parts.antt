-- What statements come to, from what their parts come to.
use Rattle.std.proofs.Common.{◌≡◌, ℕ, List, length, map, take, true, false, ap, sym, subst, ◌∙◌}
use Rattle.std.specs.Option.{option_map}
use Rattle.std.specs.declared.option.Option.{Option}
use Rattle.std.specs.declared.option.Option.TheVariants.{None, Some}
use Rattle.std.specs.declared.result.Result.{Result}
use Rattle.std.specs.declared.result.Result.TheVariants.{Ok, Err}
use Rattle.std.specs.declared.alloc.Global.{Global}
use Rattle.std.specs.declared.boxed.Box.{Box}
use Rattle.flow_tree.specs.declared.expr.Expr.{Expr}
use Rattle.flow_tree.specs.declared.stmt.Stmt.{Stmt}
use Rattle.flow_tree.specs.View.{expr_of}
use Rattle.flow_tree.specs.StmtView.{simple_of, body_of}
use Rattle.flow_eval.specs.declared.statements.Flow.TheVariants as flow
use Rattle.flow_eval.specs.declared.variables.Var.{Var}
use Rattle.flow_eval.specs.Variables.{var_of}
use Rattle.flow_tree.specs.declared.ty.Ident.{Ident}
use Rattle.flow_tree.specs.Tree.{ExprTree}
use Rattle.flow_tree.specs.Body.{IntoTree, ChangeTree}
use Rattle.flow_value.specs.Values.{ValueTree, ErrorValue}
use Rattle.flow_eval.specs.declared.stop.Halt.{Halt}
use Rattle.flow_eval.specs.declared.statements.Flow.{Flow}
use Rattle.flow_eval.specs.Answers.{Given, bool_of, error_of}
use Rattle.flow_eval.specs.Operators.{operated}
use Rattle.flow_eval.specs.Eval.{Setting, Runner, Done, at_once}
use Rattle.flow_eval.specs.Functions.{Locals, Run, Goes, Breaks, Raises, valued, chosen, scope, leave_loop, evaluated, if_run, pass_run, loop_run, for_run, throw_run, thrown, rethrown, declare_run, declared, default_value, assign_run, assigned, put_path, read_path, modify_run, changed, change_operand, change_sign, exec, bound, handled}
use Rattle.flow_eval.specs.View.{Gives, Ran}
use Rattle.flow_eval.proofs.Steps.{valued_ran, valued_stops, chosen_ran, after_goes, scope_cut}

module _ (s : Setting) (run : Runner) where
  pub if_true : (e : ExprTree) (main other : Locals → ℕ → Run) (v : ValueTree) (q : Result Flow Halt) (vars ws : Locals) (left l rest : ℕ)
      → evaluated s run e vars left ≡ Done v l → bool_of v ≡ Some true → Ran (main vars l) q ws rest → Ran (if_run s run e main other vars left) q ws rest
  if_true e main other v q vars ws left l rest h b r =
      valued_ran (evaluated s run e vars left) v vars (λ v left. chosen (bool_of v) main other vars left) q ws l rest h
      (chosen_ran (bool_of v) true main other q vars ws l rest b r)

  pub if_false : (e : ExprTree) (main other : Locals → ℕ → Run) (v : ValueTree) (q : Result Flow Halt) (vars ws : Locals) (left l rest : ℕ)
      → evaluated s run e vars left ≡ Done v l → bool_of v ≡ Some false → Ran (other vars l) q ws rest → Ran (if_run s run e main other vars left) q ws rest
  if_false e main other v q vars ws left l rest h b r =
      valued_ran (evaluated s run e vars left) v vars (λ v left. chosen (bool_of v) main other vars left) q ws l rest h
      (chosen_ran (bool_of v) false main other q vars ws l rest b r)

  pub pass_none : (o : Option ExprTree) (body : Locals → ℕ → Run) (q : Result Flow Halt) (vars ws : Locals) (left rest : ℕ)
      → o ≡ None → Ran (scope body vars left) q ws rest → Ran (pass_run s run o body vars left) q ws rest
  pass_none o body q vars ws left rest e r = subst (λ o. Ran (pass_run s run o body vars left) q ws rest) (sym e) r

  pub pass_true : (o : Option ExprTree) (e : ExprTree) (body : Locals → ℕ → Run) (v : ValueTree) (q : Result Flow Halt) (vars ws : Locals) (left l rest : ℕ)
      → o ≡ Some e → evaluated s run e vars left ≡ Done v l → bool_of v ≡ Some true → Ran (scope body vars l) q ws rest → Ran (pass_run s run o body vars left) q ws rest
  pass_true o e body v q vars ws left l rest p h b r =
      subst (λ o. Ran (pass_run s run o body vars left) q ws rest) (sym p) (if_true e (scope body) leave_loop v q vars ws left l rest h b r)

  pub pass_false : (o : Option ExprTree) (e : ExprTree) (body : Locals → ℕ → Run) (v : ValueTree) (vars : Locals) (left l : ℕ)
      → o ≡ Some e → evaluated s run e vars left ≡ Done v l → bool_of v ≡ Some false → pass_run s run o body vars left ≡ Breaks vars l
  pass_false o e body v vars left l p h b =
      ap (λ o. pass_run s run o body vars left) p
      ∙ ap (λ r. valued r vars (λ v left. chosen (bool_of v) (scope body) leave_loop vars left)) h
      ∙ ap (λ o. chosen o (scope body) leave_loop vars l) b

  pub pass_stops : (o : Option ExprTree) (e : ExprTree) (body : Locals → ℕ → Run) (h : Halt) (vars : Locals) (left rest : ℕ)
      → o ≡ Some e → Gives (evaluated s run e vars left) (Err h) rest → Ran (pass_run s run o body vars left) (Err h) vars rest
  pass_stops o e body h vars left rest p g =
      subst (λ o. Ran (pass_run s run o body vars left) (Err h) vars rest) (sym p)
      (valued_stops (evaluated s run e vars left) vars (λ v left. chosen (bool_of v) (scope body) leave_loop vars left) h rest g)

  pub throw_none : (o : Option ExprTree) (caught : Option (List ℕ)) (q : Result Flow Halt) (vars ws : Locals) (left : ℕ)
      → o ≡ None → ((l : ℕ) → Ran (rethrown caught vars l) q ws l) → Ran (throw_run s run o caught vars left) q ws left
  throw_none o caught q vars ws left e r = subst (λ o. Ran (throw_run s run o caught vars left) q ws left) (sym e) (r left)

  pub throw_some : (o : Option ExprTree) (e : ExprTree) (caught : Option (List ℕ)) (v : ValueTree) (n : ℕ) (vars : Locals) (left l : ℕ)
      → o ≡ Some e → evaluated s run e vars left ≡ Done v l → error_of v ≡ Some n → throw_run s run o caught vars left ≡ Raises n vars l
  throw_some o e caught v n vars left l p h b =
      ap (λ o. throw_run s run o caught vars left) p
      ∙ ap (λ r. valued r vars (λ v left. thrown (error_of v) vars left)) h
      ∙ ap (λ o. thrown o vars l) b

  pub throw_stops : (o : Option ExprTree) (e : ExprTree) (caught : Option (List ℕ)) (h : Halt) (vars : Locals) (left rest : ℕ)
      → o ≡ Some e → Gives (evaluated s run e vars left) (Err h) rest → Ran (throw_run s run o caught vars left) (Err h) vars rest
  throw_stops o e caught h vars left rest p g =
      subst (λ o. Ran (throw_run s run o caught vars left) (Err h) vars rest) (sym p)
      (valued_stops (evaluated s run e vars left) vars (λ v left. thrown (error_of v) vars left) h rest g)

  pub assign_ran : (xs : List Ident) (e : ExprTree) (v : ValueTree) (q : Result Flow Halt) (vars ws : Locals) (left l : ℕ)
      → evaluated s run e vars left ≡ Done v l → ((k : ℕ) → Ran (assigned (put_path s.records vars xs v) k) q ws k) → Ran (assign_run s run xs e vars left) q ws l
  assign_ran xs e v q vars ws left l h r =
      valued_ran (evaluated s run e vars left) v vars (λ v left. assigned (put_path s.records vars xs v) left) q ws l l h (r l)

  pub declare_ran : (i : IntoTree) (o : Option ExprTree) (e : ExprTree) (v : ValueTree) (q : Result Flow Halt) (vars ws : Locals) (left l : ℕ)
      → o ≡ Some e → evaluated s run e vars left ≡ Done v l → ((k : ℕ) → Ran (declared (Some v) i.name.name vars k) q ws k) → Ran (declare_run s run i o vars left) q ws l
  declare_ran i o e v q vars ws left l p h r =
      subst (λ o. Ran (declare_run s run i o vars left) q ws l) (sym p)
      (valued_ran (evaluated s run e vars left) v vars (λ v left. declared (Some v) i.name.name vars left) q ws l l h (r l))

  pub declare_none : (i : IntoTree) (o : Option ExprTree) (q : Result Flow Halt) (vars ws : Locals) (left : ℕ)
      → o ≡ None → ((k : ℕ) → Ran (declared (default_value i.ty) i.name.name vars k) q ws k) → Ran (declare_run s run i o vars left) q ws left
  declare_none i o q vars ws left p r = subst (λ o. Ran (declare_run s run i o vars left) q ws left) (sym p) (r left)

  pub modify_ran : (xs : List Ident) (c : ChangeTree) (v w u : ValueTree) (q : Result Flow Halt) (vars ws : Locals) (left l : ℕ)
      → read_path s.records vars xs ≡ Some v → change_operand s run c vars left ≡ Done w l → operated (change_sign c) v w ≡ Given u
      → ((k : ℕ) → Ran (assigned (put_path s.records vars xs u) k) q ws k) → Ran (modify_run s run xs c vars left) q ws l
  modify_ran xs c v w u q vars ws left l a b d r =
      subst (λ o. Ran (changed s run o c xs vars left) q ws l) (sym a)
      (valued_ran (change_operand s run c vars left) w vars (λ w left. valued (at_once (operated (change_sign c) v w) left) vars (λ u left. assigned (put_path s.records vars xs u) left)) q ws l l b
      (valued_ran (at_once (operated (change_sign c) v w) l) u vars (λ u left. assigned (put_path s.records vars xs u) left) q ws l l (ap (λ a. at_once a l) d) (r l)))

  pub for_ran : (init : Locals → ℕ → Run) (o p : Option ExprTree) (step body : Locals → ℕ → Run) (q : Result Flow Halt) (vars ws xs : Locals) (left l rest : ℕ)
      → init vars left ≡ Goes ws l → p ≡ o → Ran (loop_run s run p step body ws l) q xs rest → Ran (for_run s run init o step body vars left) q xs rest
  for_ran init o p step body q vars ws xs left l rest h e r =
      after_goes (init vars left) ws l (loop_run s run o step body) q xs rest h (subst (λ o. Ran (loop_run s run o step body ws l) q xs rest) e r)

  pub for_parts_ran : (caught : Option (List ℕ)) (i i' : Option (Box Stmt Global)) (t t' : Option Expr) (u u' : Option (Box Stmt Global)) (body : Locals → ℕ → Run) (f : Flow) (q : Result Flow Halt)
      (vars ws xs : Locals) (left l rest : ℕ)
      → i' ≡ i → t' ≡ t → u' ≡ u → f ≡ flow.Next
      → Ran (exec s run (simple_of i') caught vars left) (Ok f) ws l
      → Ran (loop_run s run (option_map expr_of t') (exec s run (simple_of u') caught) body ws l) q xs rest
      → Ran (for_run s run (exec s run (simple_of i) caught) (option_map expr_of t) (exec s run (simple_of u) caught) body vars left) q xs rest
  for_parts_ran caught i i' t t' u u' body f q vars ws xs left l rest ei et eu ef g h =
      let started : Ran (exec s run (simple_of i') caught vars left) (Ok flow.Next) ws l = subst (λ f. Ran (exec s run (simple_of i') caught vars left) (Ok f) ws l) ef g in
      let stepped' = subst (λ u. Ran (loop_run s run (option_map expr_of t') (exec s run (simple_of u) caught) body ws l) q xs rest) eu h in
      for_ran (exec s run (simple_of i) caught) (option_map expr_of t) (option_map expr_of t') (exec s run (simple_of u) caught) body q vars ws xs left l rest
      (ap (λ i. exec s run (simple_of i) caught vars left) (sym ei) ∙ started) (ap (option_map expr_of) et) stepped'

  pub handler_ran : (x : List ℕ) (b b' : List Stmt) (e n : ℕ) (q : Result Flow Halt) (old vs ws : List Var) (mid : Locals) (left rest : ℕ)
      → b' ≡ b → mid ≡ bound (map var_of old) x (ErrorValue e) → n ≡ length old → ws ≡ take n vs
      → Ran (exec s run (body_of b') (Some x) mid left) q (map var_of vs) rest
      → Ran (handled x (exec s run (body_of b) (Some x)) e (map var_of old) left) q (map var_of ws) rest
  handler_ran x b b' e n q old vs ws mid left rest eb em en ew h =
      scope_cut n (exec s run (body_of b) (Some x) (bound (map var_of old) x (ErrorValue e)) left) q old vs ws rest en ew
      (subst (λ m. Ran (exec s run (body_of b) (Some x) m left) q (map var_of vs) rest) em
      (subst (λ b. Ran (exec s run (body_of b) (Some x) mid left) q (map var_of vs) rest) eb h))
