-- Each quiet step of an actor that is run from its text makes it lighter.
use Rattle.std.proofs.Common.{◌≡◌, ℕ, ◌+◌, ◌<◌, Bool, true, false, List, [], ◌∷◌, refl, arith}
use Rattle.std.specs.declared.option.Option.{Option}
use Rattle.std.specs.declared.option.Option.TheVariants.{None, Some}
use Rattle.flow_tree.specs.Tree.{TypeTree, PromiseType, PromiseStreamType, ExprTree, ExprTrees, returned_expr}
use Rattle.flow_tree.specs.Body.{IntoTree, Body, IfStmt, IfElseStmt, WhileStmt, ForStmt, BreakStmt, ContinueStmt, ReturnStmt, ThrowStmt, ChooseStmt, DeclareStmt, AssignStmt, ModifyStmt, CallStmt, WaitStmt, End}
use Rattle.flow_tree.specs.declared.ty.Ident.{Ident}
use Rattle.flow_value.specs.Values.{ValueTree, RefValue}
use Rattle.flow_eval.specs.Eval.{Res, Done, Fails, Spent, Meaningless}
use Rattle.flow_eval.specs.Answers.{bool_of, error_of}
use Rattle.flow_eval.specs.Functions.{default_value}
use Rattle.flow_meaning.specs.Requests.{Spot, Goal, Stored, Kept, Effects, Returns, Act, Drops}
use Rattle.flow_meaning.specs.Process.{View}
use Rattle.flow_meaning.specs.Evaluating.{Names, bind, StepOf, asks, given, evaluated, Effectful, effect_in, effect_of, value, values, call_act, Change, change_of, base_of, storing, call_by}
use Rattle.flow_meaning.specs.Variables.{Vars, look}
use Rattle.flow_meaning.specs.Items.{Site, Loop, Single, OneOf, Target, Declared, Path, Item, Do, Leave, Round, Check, Made, Handler, Over, Actor, actor, over, leave_scope, everything, put_goal, change, operand}
use Rattle.flow_meaning.specs.SourceStep.{Exit, Breaks, Continues, exit, choose, test, placed, place, effects, store_by, store, declare_new, declares, throw_value, throws, operand_ref, operand_by, await, do_body, check, do_item, end_body, put_path}
use Rattle.flow_class.specs.Scopes.{scope, outside}
use Rattle.flow_compile_laws.specs.Simulation.Weights.{body_weight, rest_weight, actor_weight}

-- a step that asks for nothing leads to an actor that weighs less
abbrev Falls : StepOf Actor → ℕ → Type 0
Falls x n = x.0 ≡ None → actor_weight x.1 < n

given_falls : {B : Type 0} (a : Actor) (o : Option B) (go : B → StepOf Actor) (n : ℕ) → ((x : B) → Falls (go x) n) → Falls (given a o go) n
given_falls a None go n h = λ e. cc
given_falls a (Some x) go n h = h x

evaluated_falls : {B : Type 0} (a : Actor) (q : Res B) (go : B → ℕ → StepOf Actor) (n : ℕ) → ((x : B) (left : ℕ) → Falls (go x left) n) → Falls (evaluated a q go) n
evaluated_falls a (Done x left) go n h = h x left
evaluated_falls a (Fails e left) go n h = λ e. cc
evaluated_falls a Spent go n h = λ e. cc
evaluated_falls a Meaningless go n h = λ e. cc

leave_falls : (os : List (Option ValueTree)) (left : ℕ) (vars : Vars) (r : List Item) (n : ℕ) → rest_weight r < n → Falls (leave_scope os left (actor vars r)) n
leave_falls [] left vars r n h = λ e. h
leave_falls (o ∷ os) left vars r n h = λ e. cc

-- a break or a continue weighs nothing itself
exit_falls : (left : ℕ) (how : Exit) (x : Site) (k : Body) (a : Actor) (r : List Item) → body_weight k ≡ 0 → Falls (exit left how (Do x k) a r) (1 + body_weight k + rest_weight r)
exit_falls left how x k a [] w = λ e. cc
exit_falls left how x k a (Do y b ∷ r) w = λ e. omega arith
exit_falls left how x k a (Handler n y h ∷ r) w = λ e. omega arith
exit_falls left how x k a (Leave ∷ r) w =
    leave_falls (scope a.vars.locals) left (record a.vars { locals = outside a.vars.locals }) (Do x k ∷ r) (1 + body_weight k + rest_weight (Leave ∷ r)) (omega arith)
exit_falls left Breaks x k a (Made l ∷ r) w = λ e. omega arith
exit_falls left Continues x k a (Made l ∷ r) w = λ e. omega arith
exit_falls left how x k a (Round l ∷ r) w = λ e. cc
exit_falls left how x k a (Check l ∷ r) w = λ e. cc
exit_falls left how x k a (Over ∷ r) w = λ e. cc

module _ (ns : Names) (v : View) where
  choose_falls : (left : ℕ) (a : Actor) (o : Option Bool) (main other : Actor) (n : ℕ) → Falls (choose left a o main other) n
  choose_falls left a None main other n = λ e. cc
  choose_falls left a (Some true) main other n = λ e. cc
  choose_falls left a (Some false) main other n = λ e. cc

  test_falls : (a : Actor) (e : ExprTree) (main other : Actor) (n : ℕ) → Falls (test ns v a e main other) n
  test_falls a e main other n =
      evaluated_falls a (value ns v (look a.vars) e) (λ u left. choose left a (bool_of u) main other) n
      (λ u left. choose_falls left a (bool_of u) main other n)

  place_falls : (left : ℕ) (a : Actor) (goal : Target) (u : ValueTree) (r : List Item) (n : ℕ) → Falls (place ns v left a goal u r) n
  place_falls left a goal u r n = given_falls a (put_goal ns.records goal u a.vars) (placed ns v left a r) n (λ p e. cc)

  effects_falls : (a : Actor) (goal : Goal) (g : Effectful × ExprTrees) (n : ℕ) → Falls (effects ns v a goal g) n
  effects_falls a goal g n =
      evaluated_falls a (values ns v (look a.vars) g.1) (λ vs left. given a (effect_of g.0 vs) (λ eff. asks left (Effects goal eff) a)) n
      (λ vs left. given_falls a (effect_of g.0 vs) (λ eff. asks left (Effects goal eff) a) n (λ eff e. cc))

  by_falls : (o : Option (Effectful × ExprTrees)) (a : Actor) (goal : Target) (e : ExprTree) (r : List Item) (n : ℕ) → Falls (store_by ns v o a goal e r) n
  by_falls (Some g) a goal e r n = effects_falls a Stored g n
  by_falls None a goal e r n =
      evaluated_falls a (value ns v (look a.vars) e) (λ u left. place ns v left a goal u r) n (λ u left. place_falls left a goal u r n)

  store_falls : (a : Actor) (goal : Target) (e : ExprTree) (r : List Item) (n : ℕ) → Falls (store ns v a goal e r) n
  store_falls a goal e r n = by_falls (effect_in ns e) a goal e r n

  new_falls : (a : Actor) (i : IntoTree) (r : List Item) (t : TypeTree) (n : ℕ) → Falls (declare_new ns v a i r t) n
  new_falls a i r (PromiseType t) n = λ e. cc
  new_falls a i r (PromiseStreamType t) n = λ e. cc
  new_falls a i r t n = given_falls a (default_value t) (λ u. place ns v v.left a (Declared i) u r) n (λ u. place_falls v.left a (Declared i) u r n)

  declares_falls : (a : Actor) (i : IntoTree) (e : Option ExprTree) (r : List Item) (n : ℕ) → Falls (declares ns v a i e r) n
  declares_falls a i (Some e) r n = store_falls a (Declared i) e r n
  declares_falls a i None r n = new_falls a i r i.ty n

  value_falls : (a : Actor) (o : Option ℕ) (left n : ℕ) → Falls (throw_value ns v a o left) n
  value_falls a None left n = λ e. cc
  value_falls a (Some err) left n = λ e. cc

  throws_falls : (a : Actor) (e : Option ExprTree) (caught : Option (List ℕ)) (n : ℕ) → Falls (throws ns v a e caught) n
  throws_falls a (Some e) caught n =
      evaluated_falls a (value ns v (look a.vars) e) (λ u left. throw_value ns v a (error_of u) left) n (λ u left. value_falls a (error_of u) left n)
  throws_falls a None None n = λ e. cc
  throws_falls a None (Some x) n = value_falls a (bind (look a.vars x) error_of) v.left n

  ref_falls : (left : ℕ) (spot : Spot) (a : Actor) (u : ValueTree) (n : ℕ) → Falls (operand_ref ns v left spot a u) n
  ref_falls left spot a (RefValue k cell) n = λ e. cc
  ref_falls left spot a u n = λ e. cc

  operand_falls : (o : Option (Effectful × ExprTrees)) (a : Actor) (spot : Spot) (e : ExprTree) (n : ℕ) → Falls (operand_by ns v o a spot e) n
  operand_falls (Some g) a spot e n = effects_falls a (Kept spot) g n
  operand_falls None a spot e n =
      evaluated_falls a (value ns v (look a.vars) e) (λ u left. operand_ref ns v left spot a u) n (λ u left. ref_falls left spot a u n)

  await_falls : (a : Actor) (spot : Spot) (o : Option ExprTree) (n : ℕ) → Falls (await ns v a spot o) n
  await_falls a spot (Some e) n = operand_falls (effect_in ns e) a spot e n
  await_falls a spot None n = λ e. cc

  call_by_falls : (o : Option Change) (a next : Actor) (put : List Ident → ValueTree → Option Actor) (path : List Ident) (es : ExprTrees) (n : ℕ)
      → Falls (call_by ns v (look a.vars) o a next put path es) n
  call_by_falls None a next put path es n = evaluated_falls a (call_act ns v (look a.vars) path es) (λ act left. asks left act next) n (λ act left e. cc)
  call_by_falls (Some how) a next put path es n =
      evaluated_falls a (storing ns v (look a.vars) how (base_of path) es) (λ s left. given a (put (base_of path) s.0) (λ b. asks left (Drops s.1) b)) n
      (λ s left. given_falls a (put (base_of path) s.0) (λ b. asks left (Drops s.1) b) n (λ b e. cc))

  end_falls : (a : Actor) (void : Bool) (r : List Item) → Falls (end_body ns v a void r) (1 + rest_weight r)
  end_falls a void (i ∷ r) = λ e. omega arith
  end_falls a true [] = λ e. cc
  end_falls a false [] = λ e. cc

  body_falls : (a : Actor) (x : Site) (b : Body) (r : List Item) → Falls (do_body ns v a x b r) (1 + body_weight b + rest_weight r)
  body_falls a x End r = end_falls a x.is_void r
  body_falls a x (IfStmt at e b k) r = test_falls a e _ _ _
  body_falls a x (IfElseStmt at e b c k) r = test_falls a e _ _ _
  body_falls a x (WhileStmt at e b k) r = λ e. omega arith
  body_falls a x (ForStmt at i e t b k) r = λ e. omega arith
  body_falls a x (BreakStmt at k) r = exit_falls v.left Breaks x (BreakStmt at k) a r refl
  body_falls a x (ContinueStmt at k) r = exit_falls v.left Continues x (ContinueStmt at k) a r refl
  body_falls a x (ReturnStmt at e k) r = evaluated_falls a (value ns v (look a.vars) (returned_expr e)) (λ u left. asks left (Returns u (everything a.vars)) over) _ (λ u left e. cc)
  body_falls a x (ThrowStmt at e k) r = throws_falls a e x.caught _
  body_falls a x (ChooseStmt at bs k) r = await_falls a x.spot (operand (OneOf bs) v.kept) _
  body_falls a x (DeclareStmt at i e k) r = declares_falls a i e (Do x k ∷ r) _
  body_falls a x (AssignStmt at xs e k) r = store_falls a (Path xs) e (Do x k ∷ r) _
  body_falls a x (ModifyStmt at xs c k) r = given_falls a (change xs c) (λ e. store ns v a (Path xs) e (Do x k ∷ r)) _ (λ e. store_falls a (Path xs) e (Do x k ∷ r) _)
  body_falls a x (CallStmt at xs es k) r = call_by_falls (change_of xs) a (actor a.vars (Do x k ∷ r)) (put_path ns v a (Do x k ∷ r)) xs es _
  body_falls a x (WaitStmt at w k) r = await_falls a x.spot (operand (Single w) v.kept) _
  body_falls a x _ r = λ e. omega arith

  check_falls : (a : Actor) (l : Loop) (o : Option ExprTree) (r : List Item) → Falls (check ns v a l o r) (rest_weight (Check l ∷ r))
  check_falls a l None r = λ e. omega arith
  check_falls a l (Some e) r = test_falls a e _ _ _

  item_falls : (a : Actor) (r : List Item) → Falls (do_item ns v a r) (rest_weight r)
  item_falls a [] = λ e. cc
  item_falls a (Do x b ∷ r) = body_falls a x b r
  item_falls a (Leave ∷ r) =
      leave_falls (scope a.vars.locals) v.left (record a.vars { locals = outside a.vars.locals }) r (rest_weight (Leave ∷ r)) (omega arith)
  item_falls a (Round l ∷ r) = λ e. cc
  item_falls a (Check l ∷ r) = check_falls a l l.condition r
  item_falls a (Made l ∷ r) = λ e. omega arith
  item_falls a (Handler x y h ∷ r) = λ e. omega arith
  item_falls a (Over ∷ r) = λ e. cc

  pub falls : (a : Actor) → Falls (do_item ns v a a.rest) (actor_weight a)
  falls a = item_falls a a.rest
