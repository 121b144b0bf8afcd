-- Actors that are run from their text do the same whatever the places are.
use Rattle.std.proofs.Common.{◌≡◌, ℕ, zero, suc, ◌++◌, Bool, true, false, List, [], ◌∷◌, map, refl, sym, ap, ap₂, ◌∙◌}
use Rattle.std.specs.Prelude.{option_map, slice_get, unwrap_or}
use Rattle.std.specs.declared.option.Option.{Option}
use Rattle.std.specs.declared.option.Option.TheVariants.{None, Some}
use Rattle.flow_tree.specs.declared.ty.Ident.{Ident}
use Rattle.flow_tree.specs.Tree.{TypeTree, PromiseType, PromiseStreamType, ExprTree, ExprTrees, VarExpr, FieldExpr}
use Rattle.flow_tree.specs.Body.{IntoTree, WaitTree, ChangeTree, PlusChange, MinusChange, UpChange, DownChange, Body, End, BlockStmt, IfStmt, IfElseStmt, WhileStmt, ForStmt, LoopStmt, BreakStmt, ContinueStmt, ReturnStmt, ThrowStmt, TryStmt, ChooseStmt, DeclareStmt, AssignStmt, ModifyStmt, CallStmt, WaitStmt, Branches, NoBranches, MoreBranches}
use Rattle.flow_tree.specs.Decls.{ParamTree, RecordTree, RoutineTree, DeclTree, StructDecl, FunctionDecl, ActorDecl, ProgramTree}
use Rattle.flow_tree.specs.Canon.{placeless_ident, placeless_expr, placeless_into, placeless_wait, placeless_change, placeless_body, placeless_branches, placeless_param, placeless_record, placeless_routine, placeless_decl, bare}
use Rattle.flow_ast.specs.Slots.{into_slots, body_slots, branch_slots}
use Rattle.flow_value.specs.Values.{ValueTree, RefValue}
use Rattle.flow_eval.specs.Answers.{bool_of, error_of}
use Rattle.flow_eval.specs.Functions.{default_value}
use Rattle.flow_class.specs.Scopes.{Local, scope, outside}
use Rattle.flow_meaning.specs.Cells.{is_some}
use Rattle.flow_meaning.specs.Requests.{Spot, Goal, Stored, Kept, Effects, Returns}
use Rattle.flow_meaning.specs.Process.{View}
use Rattle.flow_meaning.specs.Evaluating.{Names, bind, StepOf, asks, quietly, given, Effectful, effect_in, effect_of, value, values, call_act}
use Rattle.flow_meaning.specs.Variables.{Vars, look, place_in}
use Rattle.flow_meaning.specs.Text.{branch_count, next_spot, past, past_branches}
use Rattle.flow_meaning.specs.Items.{Site, Loop, Single, OneOf, Target, Declared, Path, Item, Do, Leave, Round, Check, Made, Handler, Over, Actor, actor, over, site_past, site_at, entered, with_locals, is_there, leave_scope, left_scope, everything, declare, assign_root, assign_at, assign_old, assign, put_goal, path_from, modified, change, branch_operand, operand, Unwound, unwind, raised}
use Rattle.flow_meaning.specs.SourceStep as step
use Rattle.flow_meaning.specs.Source as whole
use Rattle.flow_meaning.specs.Views.{spot_in}
use Rattle.flow_meaning.proofs.BareParts.{get-map, put_in_bare, read_in_bare}
use Rattle.flow_meaning.proofs.BareActs.{placeless_names, through, placeless_effect, evaluated_through, given_same, given_through, effect_in_bare, value_bare, values_bare, call_act_bare, call_through}
use Rattle.flow_meaning.proofs.Mirrors.{Mirrors}

abbrev placeless_loop : Loop → Loop
placeless_loop l = record { site = l.site; condition = option_map placeless_expr l.condition; step = placeless_body l.step; inner = placeless_body l.inner }

abbrev placeless_item : Item → Item
placeless_item (Do s x) = Do s (placeless_body x)
placeless_item Leave = Leave
placeless_item (Round l) = Round (placeless_loop l)
placeless_item (Check l) = Check (placeless_loop l)
placeless_item (Made l) = Made (placeless_loop l)
placeless_item (Handler x s h) = Handler x s (placeless_body h)
placeless_item Over = Over

abbrev pub placeless_actor : Actor → Actor
placeless_actor a = actor a.vars (map placeless_item a.rest)

abbrev placeless_target : Target → Target
placeless_target (Declared i) = Declared (placeless_into i)
placeless_target (Path xs) = Path (map placeless_ident xs)

-- the numbers of waits
branch_count_bare : (bs : Branches) → branch_count (placeless_branches bs) ≡ branch_count bs
branch_count_bare NoBranches = refl
branch_count_bare (MoreBranches at w x bs) = ap suc (branch_count_bare bs)

mutual
  past_bare : (x : Body) (s : Spot) → past (placeless_body x) s ≡ past x s
  past_bare End s = refl
  past_bare (BlockStmt at x k) s = ap (past (placeless_body k)) (past_bare x s) ∙ past_bare k (past x s)
  past_bare (IfStmt at e x k) s = ap (past (placeless_body k)) (past_bare x s) ∙ past_bare k (past x s)
  past_bare (IfElseStmt at e x y k) s =
      ap (λ z. past (placeless_body k) (past (placeless_body y) z)) (past_bare x s) ∙ ap (past (placeless_body k)) (past_bare y (past x s)) ∙ past_bare k (past y (past x s))
  past_bare (WhileStmt at e x k) s = ap (past (placeless_body k)) (past_bare x s) ∙ past_bare k (past x s)
  past_bare (ForStmt at i e t x k) s =
      ap (λ z. past (placeless_body k) (past (placeless_body x) (past (placeless_body t) z))) (past_bare i s)
      ∙ ap (λ z. past (placeless_body k) (past (placeless_body x) z)) (past_bare t (past i s))
      ∙ ap (past (placeless_body k)) (past_bare x (past t (past i s)))
      ∙ past_bare k (past x (past t (past i s)))
  past_bare (LoopStmt at x k) s = ap (past (placeless_body k)) (past_bare x s) ∙ past_bare k (past x s)
  past_bare (BreakStmt at k) s = past_bare k s
  past_bare (ContinueStmt at k) s = past_bare k s
  past_bare (ReturnStmt at e k) s = past_bare k s
  past_bare (ThrowStmt at e k) s = past_bare k s
  past_bare (TryStmt at x q n h k) s =
      ap (λ z. past (placeless_body k) (past (placeless_body h) z)) (past_bare x s) ∙ ap (past (placeless_body k)) (past_bare h (past x s)) ∙ past_bare k (past h (past x s))
  past_bare (ChooseStmt at bs k) s =
      ap (λ n. past (placeless_body k) (past_branches (placeless_branches bs) (next_spot n s))) (branch_count_bare bs)
      ∙ ap (past (placeless_body k)) (branches_bare bs (next_spot (branch_count bs) s))
      ∙ past_bare k (past_branches bs (next_spot (branch_count bs) s))
  past_bare (DeclareStmt at i e k) s = past_bare k s
  past_bare (AssignStmt at xs e k) s = past_bare k s
  past_bare (ModifyStmt at xs c k) s = past_bare k s
  past_bare (CallStmt at xs es k) s = past_bare k s
  past_bare (WaitStmt at w k) s = past_bare k (next_spot 1 s)

  branches_bare : (bs : Branches) (s : Spot) → past_branches (placeless_branches bs) s ≡ past_branches bs s
  branches_bare NoBranches s = refl
  branches_bare (MoreBranches at w x bs) s = ap (past_branches (placeless_branches bs)) (past_bare x s) ∙ branches_bare bs (past x s)

site_bare : (x : Body) (s : Site) → site_past (placeless_body x) s ≡ site_past x s
site_bare x s = ap (λ p. site_at p s) (past_bare x s.spot)

-- the slots of state variables
into_slots_bare : (o : Option IntoTree) → into_slots (option_map placeless_into o) ≡ into_slots o
into_slots_bare None = refl
into_slots_bare (Some i) = refl

mutual
  slots_bare : (x : Body) → body_slots (placeless_body x) ≡ body_slots x
  slots_bare End = refl
  slots_bare (BlockStmt at x k) = ap₂ (λ p q. p ++ q) (slots_bare x) (slots_bare k)
  slots_bare (IfStmt at e x k) = ap₂ (λ p q. p ++ q) (slots_bare x) (slots_bare k)
  slots_bare (IfElseStmt at e x y k) = ap₂ (λ p q. p ++ q) (ap₂ (λ p q. p ++ q) (slots_bare x) (slots_bare y)) (slots_bare k)
  slots_bare (WhileStmt at e x k) = ap₂ (λ p q. p ++ q) (slots_bare x) (slots_bare k)
  slots_bare (ForStmt at i e t x k) = ap₂ (λ p q. p ++ q) (ap₂ (λ p q. p ++ q) (ap₂ (λ p q. p ++ q) (slots_bare i) (slots_bare t)) (slots_bare x)) (slots_bare k)
  slots_bare (LoopStmt at x k) = ap₂ (λ p q. p ++ q) (slots_bare x) (slots_bare k)
  slots_bare (BreakStmt at k) = slots_bare k
  slots_bare (ContinueStmt at k) = slots_bare k
  slots_bare (ReturnStmt at e k) = slots_bare k
  slots_bare (ThrowStmt at e k) = slots_bare k
  slots_bare (TryStmt at x q n h k) = ap₂ (λ p q. p ++ q) (ap₂ (λ p q. p ++ q) (slots_bare x) (slots_bare h)) (slots_bare k)
  slots_bare (ChooseStmt at bs k) = ap₂ (λ p q. p ++ q) (branch_slots_bare bs) (slots_bare k)
  slots_bare (DeclareStmt at i e k) = ap₂ (λ p q. p ++ q) (into_slots_bare (Some i)) (slots_bare k)
  slots_bare (AssignStmt at xs e k) = slots_bare k
  slots_bare (ModifyStmt at xs c k) = slots_bare k
  slots_bare (CallStmt at xs es k) = slots_bare k
  slots_bare (WaitStmt at w k) = ap₂ (λ p q. p ++ q) (into_slots_bare w.into) (slots_bare k)

  branch_slots_bare : (bs : Branches) → branch_slots (placeless_branches bs) ≡ branch_slots bs
  branch_slots_bare NoBranches = refl
  branch_slots_bare (MoreBranches at w x bs) = ap₂ (λ p q. p ++ q) (ap₂ (λ p q. p ++ q) (into_slots_bare w.into) (slots_bare x)) (branch_slots_bare bs)

-- assignments
module _ (rs : List RecordTree) where
  old_bare : (x : Ident) (xs : List Ident) (v : ValueTree) (vars : Vars) (old : Option ValueTree)
      → assign_old (map placeless_record rs) (placeless_ident x) (map placeless_ident xs) v vars old ≡ assign_old rs x xs v vars old
  old_bare x [] v vars old = refl
  old_bare x (y ∷ ys) v vars old = ap₂ (λ p q. assign_root x.name p (is_there q) vars) (put_in_bare rs old (y ∷ ys) v) (read_in_bare rs old (y ∷ ys))

  at_bare : (x : Ident) (xs : List Ident) (v : ValueTree) (vars : Vars) (o : Option (Option ValueTree))
      → assign_at (map placeless_record rs) (placeless_ident x) (map placeless_ident xs) v vars o ≡ assign_at rs x xs v vars o
  at_bare x xs v vars None = refl
  at_bare x xs v vars (Some old) = old_bare x xs v vars old

  assign_bare : (xs : List Ident) (v : ValueTree) (vars : Vars) → assign (map placeless_record rs) (map placeless_ident xs) v vars ≡ assign rs xs v vars
  assign_bare [] v vars = refl
  assign_bare (x ∷ xs) v vars = at_bare x xs v vars (place_in vars x.name)

  goal_bare : (g : Target) (v : ValueTree) (vars : Vars) → put_goal (map placeless_record rs) (placeless_target g) v vars ≡ put_goal rs g v vars
  goal_bare (Declared i) v vars = refl
  goal_bare (Path xs) v vars = assign_bare xs v vars

-- `x += e` is `x = x + (e)`
path_bare : (e : ExprTree) (xs : List Ident) → path_from (placeless_expr e) (map placeless_ident xs) ≡ placeless_expr (path_from e xs)
path_bare e [] = refl
path_bare e (x ∷ xs) = path_bare (FieldExpr e x) xs

modified_bare : (c : ChangeTree) (e : ExprTree) → modified (placeless_change c) (placeless_expr e) ≡ placeless_expr (modified c e)
modified_bare (PlusChange x) e = refl
modified_bare _ e = refl

change_bare : (xs : List Ident) (c : ChangeTree) → change (map placeless_ident xs) (placeless_change c) ≡ option_map placeless_expr (change xs c)
change_bare [] c = refl
change_bare (x ∷ xs) c = ap (λ e. Some (modified (placeless_change c) e)) (path_bare (VarExpr x) xs) ∙ ap Some (modified_bare c (path_from (VarExpr x) xs))

-- operands of waits
branch_bare : (bs : Branches) (n : ℕ) → branch_operand (placeless_branches bs) n ≡ option_map placeless_expr (branch_operand bs n)
branch_bare NoBranches n = refl
branch_bare (MoreBranches at w x bs) zero = refl
branch_bare (MoreBranches at w x bs) (suc n) = branch_bare bs n

single_bare : (w : WaitTree) (n : ℕ) → operand (Single (placeless_wait w)) n ≡ option_map placeless_expr (operand (Single w) n)
single_bare w zero = refl
single_bare w (suc n) = refl

-- ends of scopes, breaks and continues
leave_through : (os : List (Option ValueTree)) (left : ℕ) (a : Actor) → leave_scope os left (placeless_actor a) ≡ through placeless_actor (leave_scope os left a)
leave_through [] left a = refl
leave_through (o ∷ os) left a = refl

left_through : (left : ℕ) (vars : Vars) (r : List Item) → left_scope left vars (map placeless_item r) ≡ through placeless_actor (left_scope left vars r)
left_through left vars r = leave_through (scope vars.locals) left (actor (with_locals vars (outside vars.locals)) r)

exit_through : (left : ℕ) (how : step.Exit) (me : Item) (a : Actor) (r : List Item)
    → step.exit left how (placeless_item me) (placeless_actor a) (map placeless_item r) ≡ through placeless_actor (step.exit left how me a r)
exit_through left how me a [] = refl
exit_through left how me a (Do s x ∷ r) = refl
exit_through left how me a (Handler x s h ∷ r) = refl
exit_through left how me a (Leave ∷ r) = left_through left a.vars (me ∷ r)
exit_through left step.Breaks me a (Made l ∷ r) = refl
exit_through left step.Continues me a (Made l ∷ r) = refl
exit_through left how me a (Round l ∷ r) = refl
exit_through left how me a (Check l ∷ r) = refl
exit_through left how me a (Over ∷ r) = refl

choose_through : (left : ℕ) (a : Actor) (o : Option Bool) (main other : Actor)
    → step.choose left (placeless_actor a) o (placeless_actor main) (placeless_actor other) ≡ through placeless_actor (step.choose left a o main other)
choose_through left a None main other = refl
choose_through left a (Some true) main other = refl
choose_through left a (Some false) main other = refl

module _ (ns : Names) (v : View) where
  abbrev b : Names
  b = placeless_names ns

  test_through : (a : Actor) (e : ExprTree) (main other : Actor) → step.test b v (placeless_actor a) (placeless_expr e) (placeless_actor main) (placeless_actor other)
      ≡ through placeless_actor (step.test ns v a e main other)
  test_through a e main other =
      evaluated_through placeless_actor a (λ u left. step.choose left a (bool_of u) main other)
      (λ u left. step.choose left (placeless_actor a) (bool_of u) (placeless_actor main) (placeless_actor other))
      (value ns v (look a.vars) e) (value b v (look a.vars) (placeless_expr e)) (value_bare ns v (look a.vars) e)
      (λ u left. choose_through left a (bool_of u) main other)

  place_through : (left : ℕ) (a : Actor) (g : Target) (u : ValueTree) (r : List Item)
      → step.place b v left (placeless_actor a) (placeless_target g) u (map placeless_item r) ≡ through placeless_actor (step.place ns v left a g u r)
  place_through left a g u r =
      ap (λ o. given (placeless_actor a) o (step.placed b v left (placeless_actor a) (map placeless_item r))) (goal_bare ns.records g u a.vars)
      ∙ given_same placeless_actor a (step.placed ns v left a r) (step.placed b v left (placeless_actor a) (map placeless_item r)) (put_goal ns.records g u a.vars) (λ p. refl)

  effects_through : (a : Actor) (g : Goal) (x : Effectful × ExprTrees) → step.effects b v (placeless_actor a) g (placeless_effect x) ≡ through placeless_actor (step.effects ns v a g x)
  effects_through a g x =
      evaluated_through placeless_actor a
      (λ vs left. given a (effect_of x.0 vs) (λ eff. asks left (Effects g eff) a)) (λ vs left. given (placeless_actor a) (effect_of x.0 vs) (λ eff. asks left (Effects g eff) (placeless_actor a)))
      (values ns v (look a.vars) x.1) (values b v (look a.vars) (placeless_effect x).1) (values_bare ns v (look a.vars) x.1)
      (λ vs left. given_same placeless_actor a (λ eff. asks left (Effects g eff) a) (λ eff. asks left (Effects g eff) (placeless_actor a)) (effect_of x.0 vs) (λ eff. refl))

  store_by_through : (o : Option (Effectful × ExprTrees)) (a : Actor) (g : Target) (e : ExprTree) (r : List Item)
      → step.store_by b v (option_map placeless_effect o) (placeless_actor a) (placeless_target g) (placeless_expr e) (map placeless_item r) ≡ through placeless_actor (step.store_by ns v o a g e r)
  store_by_through (Some x) a g e r = effects_through a Stored x
  store_by_through None a g e r =
      evaluated_through placeless_actor a (λ u left. step.place ns v left a g u r) (λ u left. step.place b v left (placeless_actor a) (placeless_target g) u (map placeless_item r))
      (value ns v (look a.vars) e) (value b v (look a.vars) (placeless_expr e)) (value_bare ns v (look a.vars) e)
      (λ u left. place_through left a g u r)

  store_through : (a : Actor) (g : Target) (e : ExprTree) (r : List Item)
      → step.store b v (placeless_actor a) (placeless_target g) (placeless_expr e) (map placeless_item r) ≡ through placeless_actor (step.store ns v a g e r)
  store_through a g e r =
      ap (λ o. step.store_by b v o (placeless_actor a) (placeless_target g) (placeless_expr e) (map placeless_item r)) (effect_in_bare ns e) ∙ store_by_through (effect_in ns e) a g e r

  new_through : (a : Actor) (i : IntoTree) (r : List Item) (t : TypeTree)
      → step.declare_new b v (placeless_actor a) (placeless_into i) (map placeless_item r) t ≡ through placeless_actor (step.declare_new ns v a i r t)
  new_through a i r (PromiseType t) = refl
  new_through a i r (PromiseStreamType t) = refl
  new_through a i r t =
      given_same placeless_actor a (λ u. step.place ns v v.left a (Declared i) u r) (λ u. step.place b v v.left (placeless_actor a) (Declared (placeless_into i)) u (map placeless_item r))
      (default_value t)
      (λ u. place_through v.left a (Declared i) u r)

  declares_through : (a : Actor) (i : IntoTree) (e : Option ExprTree) (r : List Item)
      → step.declares b v (placeless_actor a) (placeless_into i) (option_map placeless_expr e) (map placeless_item r) ≡ through placeless_actor (step.declares ns v a i e r)
  declares_through a i (Some e) r = store_through a (Declared i) e r
  declares_through a i None r = new_through a i r i.ty

  throw_through : (a : Actor) (o : Option ℕ) (left : ℕ) → step.throw_value b v (placeless_actor a) o left ≡ through placeless_actor (step.throw_value ns v a o left)
  throw_through a None left = refl
  throw_through a (Some err) left = refl

  throws_through : (a : Actor) (e : Option ExprTree) (c : Option (List ℕ)) → step.throws b v (placeless_actor a) (option_map placeless_expr e) c ≡ through placeless_actor (step.throws ns v a e c)
  throws_through a (Some e) c =
      evaluated_through placeless_actor a (λ u left. step.throw_value ns v a (error_of u) left) (λ u left. step.throw_value b v (placeless_actor a) (error_of u) left)
      (value ns v (look a.vars) e) (value b v (look a.vars) (placeless_expr e)) (value_bare ns v (look a.vars) e)
      (λ u left. throw_through a (error_of u) left)
  throws_through a None None = refl
  throws_through a None (Some x) = throw_through a (bind (look a.vars x) error_of) v.left

  ref_through : (left : ℕ) (p : Spot) (a : Actor) (u : ValueTree) → step.operand_ref b v left p (placeless_actor a) u ≡ through placeless_actor (step.operand_ref ns v left p a u)
  ref_through left p a (RefValue k cell) = refl
  ref_through left p a u = refl

  operand_through : (o : Option (Effectful × ExprTrees)) (a : Actor) (p : Spot) (e : ExprTree)
      → step.operand_by b v (option_map placeless_effect o) (placeless_actor a) p (placeless_expr e) ≡ through placeless_actor (step.operand_by ns v o a p e)
  operand_through (Some x) a p e = effects_through a (Kept p) x
  operand_through None a p e =
      evaluated_through placeless_actor a (λ u left. step.operand_ref ns v left p a u) (λ u left. step.operand_ref b v left p (placeless_actor a) u)
      (value ns v (look a.vars) e) (value b v (look a.vars) (placeless_expr e)) (value_bare ns v (look a.vars) e)
      (λ u left. ref_through left p a u)

  await_through : (a : Actor) (p : Spot) (o : Option ExprTree) → step.await b v (placeless_actor a) p (option_map placeless_expr o) ≡ through placeless_actor (step.await ns v a p o)
  await_through a p (Some e) = ap (λ o. step.operand_by b v o (placeless_actor a) p (placeless_expr e)) (effect_in_bare ns e) ∙ operand_through (effect_in ns e) a p e
  await_through a p None = refl

  -- after the first step of a `for` and of a `try`, with the sites of what follows
  abbrev in_for : Actor → Site → Body → Option ExprTree → Body → Body → Body → List Item → Site → Site → StepOf Actor
  in_for a s i e t x k r y z = quietly (actor (entered a.vars) (Do s i ∷ Round (record { site = y; condition = e; step = t; inner = x }) ∷ Leave ∷ Do z k ∷ r))

  abbrev in_try : Actor → Site → Body → List ℕ → Body → Body → List Item → Site → Site → StepOf Actor
  in_try a s x n h k r y z = quietly (step.in_scope a.vars s x (Handler n (record y { caught = Some n }) h ∷ Do z k ∷ r))

  end_through : (a : Actor) (void : Bool) (r : List Item) → step.end_body b v (placeless_actor a) void (map placeless_item r) ≡ through placeless_actor (step.end_body ns v a void r)
  end_through a void (i ∷ r) = refl
  end_through a true [] = refl
  end_through a false [] = refl

  put_through : (a : Actor) (r : List Item) (xs : List Ident) (u : ValueTree)
      → step.put_path b v (placeless_actor a) (map placeless_item r) (map placeless_ident xs) u ≡ option_map placeless_actor (step.put_path ns v a r xs u)
  put_through a r xs u = ap (λ o. option_map (λ (p : List ValueTree × Vars). actor p.1 (map placeless_item r)) o) (assign_bare ns.records xs u a.vars) ∙ by_thing (assign ns.records xs u a.vars)
    where
      by_thing : (o : Option (List ValueTree × Vars))
          → option_map (λ (p : List ValueTree × Vars). actor p.1 (map placeless_item r)) o ≡ option_map placeless_actor (option_map (λ (p : List ValueTree × Vars). actor p.1 r) o)
      by_thing None = refl
      by_thing (Some p) = refl

  body_through : (a : Actor) (s : Site) (x : Body) (r : List Item)
      → step.do_body b v (placeless_actor a) s (placeless_body x) (map placeless_item r) ≡ through placeless_actor (step.do_body ns v a s x r)
  body_through a s End r = end_through a s.is_void r
  body_through a s (BlockStmt at x k) r = ap (λ z. quietly (step.in_scope a.vars s (placeless_body x) (Do z (placeless_body k) ∷ map placeless_item r))) (site_bare x s)
  body_through a s (IfStmt at e x k) r =
      ap (λ z. step.test b v (placeless_actor a) (placeless_expr e) (step.in_scope a.vars s (placeless_body x) (Do z (placeless_body k) ∷ map placeless_item r))
      (actor a.vars (Do z (placeless_body k) ∷ map placeless_item r))) (site_bare x s)
      ∙ test_through a e (step.in_scope a.vars s x (Do (site_past x s) k ∷ r)) (actor a.vars (Do (site_past x s) k ∷ r))
  body_through a s (IfElseStmt at e x y k) r =
      ap (λ z. step.test b v (placeless_actor a) (placeless_expr e) (step.in_scope a.vars s (placeless_body x) (Do (site_past (placeless_body y) z) (placeless_body k) ∷ map placeless_item r))
      (step.in_scope a.vars z (placeless_body y) (Do (site_past (placeless_body y) z) (placeless_body k) ∷ map placeless_item r))) (site_bare x s)
      ∙ ap (λ z. step.test b v (placeless_actor a) (placeless_expr e) (step.in_scope a.vars s (placeless_body x) (Do z (placeless_body k) ∷ map placeless_item r))
      (step.in_scope a.vars (site_past x s) (placeless_body y) (Do z (placeless_body k) ∷ map placeless_item r))) (site_bare y (site_past x s))
      ∙ test_through a e (step.in_scope a.vars s x (Do (site_past y (site_past x s)) k ∷ r)) (step.in_scope a.vars (site_past x s) y (Do (site_past y (site_past x s)) k ∷ r))
  body_through a s (WhileStmt at e x k) r =
      ap (λ z. quietly (actor a.vars (Round (record { site = s; condition = Some (placeless_expr e); step = End; inner = placeless_body x }) ∷ Do z (placeless_body k) ∷ map placeless_item r)))
      (site_bare x s)
  body_through a s (LoopStmt at x k) r =
      ap (λ z. quietly (actor a.vars (Round (record { site = s; condition = None; step = End; inner = placeless_body x }) ∷ Do z (placeless_body k) ∷ map placeless_item r))) (site_bare x s)
  body_through a s (ForStmt at i e t x k) r =
      ap (λ z. in_for a s (placeless_body i) (option_map placeless_expr e) (placeless_body t) (placeless_body x) (placeless_body k) (map placeless_item r) (site_past (placeless_body t) z)
      (site_past (placeless_body x) (site_past (placeless_body t) z))) (site_bare i s)
      ∙ ap (λ z. in_for a s (placeless_body i) (option_map placeless_expr e) (placeless_body t) (placeless_body x) (placeless_body k) (map placeless_item r) z (site_past (placeless_body x) z))
      (site_bare t (site_past i s))
      ∙ ap (in_for a s (placeless_body i) (option_map placeless_expr e) (placeless_body t) (placeless_body x) (placeless_body k) (map placeless_item r) (site_past t (site_past i s)))
      (site_bare x (site_past t (site_past i s)))
  body_through a s (BreakStmt at k) r = exit_through v.left step.Breaks (Do s (BreakStmt at k)) a r
  body_through a s (ContinueStmt at k) r = exit_through v.left step.Continues (Do s (ContinueStmt at k)) a r
  body_through a s (ReturnStmt at None k) r = refl
  body_through a s (ReturnStmt at (Some e) k) r =
      evaluated_through placeless_actor a (λ u left. asks left (Returns u (everything a.vars)) over) (λ u left. asks left (Returns u (everything a.vars)) over)
      (value ns v (look a.vars) e) (value b v (look a.vars) (placeless_expr e)) (value_bare ns v (look a.vars) e) (λ u left. refl)
  body_through a s (ThrowStmt at e k) r = throws_through a e s.caught
  body_through a s (TryStmt at x q n h k) r =
      ap (λ z. in_try a s (placeless_body x) n.name (placeless_body h) (placeless_body k) (map placeless_item r) z (site_past (placeless_body h) z)) (site_bare x s)
      ∙ ap (in_try a s (placeless_body x) n.name (placeless_body h) (placeless_body k) (map placeless_item r) (site_past x s)) (site_bare h (site_past x s))
  body_through a s (ChooseStmt at bs k) r = ap (step.await b v (placeless_actor a) s.spot) (branch_bare bs v.kept) ∙ await_through a s.spot (operand (OneOf bs) v.kept)
  body_through a s (DeclareStmt at i e k) r = declares_through a i e (Do s k ∷ r)
  body_through a s (AssignStmt at xs e k) r = store_through a (Path xs) e (Do s k ∷ r)
  body_through a s (ModifyStmt at xs c k) r =
      given_through placeless_actor a (λ e. step.store ns v a (Path xs) e (Do s k ∷ r))
      (λ e. step.store b v (placeless_actor a) (Path (map placeless_ident xs)) e (Do s (placeless_body k) ∷ map placeless_item r)) placeless_expr
      (change xs c) (change (map placeless_ident xs) (placeless_change c)) (change_bare xs c) (λ e. store_through a (Path xs) e (Do s k ∷ r))
  body_through a s (CallStmt at xs es k) r =
      call_through ns v (look a.vars) placeless_actor a (actor a.vars (Do s k ∷ r)) (step.put_path ns v a (Do s k ∷ r))
      (step.put_path b v (placeless_actor a) (Do s (placeless_body k) ∷ map placeless_item r)) (put_through a (Do s k ∷ r)) xs es
  body_through a s (WaitStmt at w k) r = ap (step.await b v (placeless_actor a) s.spot) (single_bare w v.kept) ∙ await_through a s.spot (operand (Single w) v.kept)

  check_through : (a : Actor) (l : Loop) (o : Option ExprTree) (r : List Item)
      → step.check b v (placeless_actor a) (placeless_loop l) (option_map placeless_expr o) (map placeless_item r) ≡ through placeless_actor (step.check ns v a l o r)
  check_through a l None r = refl
  check_through a l (Some e) r = test_through a e (step.pass ns v a l r) (actor a.vars r)

  item_through : (a : Actor) (r : List Item) → step.do_item b v (placeless_actor a) (map placeless_item r) ≡ through placeless_actor (step.do_item ns v a r)
  item_through a (Do s x ∷ r) = body_through a s x r
  item_through a (Leave ∷ r) = left_through v.left a.vars r
  item_through a (Check l ∷ r) = check_through a l l.condition r
  item_through a _ = refl

-- the results of effects, and branches
module _ (ns : Names) where
  effect_there : (e : ExprTree) → whole.is_effect_in (placeless_names ns) (placeless_expr e) ≡ whole.is_effect_in ns e
  effect_there e = ap is_some (effect_in_bare ns e) ∙ by_effect (effect_in ns e)
    where
      by_effect : (o : Option (Effectful × ExprTrees)) → is_some (option_map placeless_effect o) ≡ is_some o
      by_effect None = refl
      by_effect (Some x) = refl

  store_if_through : (asked : Bool) (a : Actor) (r : List Item) (o : Option (List ValueTree × Vars))
      → whole.store_if asked (placeless_actor a) (map placeless_item r) o ≡ through placeless_actor (whole.store_if asked a r o)
  store_if_through false a r o = refl
  store_if_through true a r None = refl
  store_if_through true a r (Some p) = refl

  stored_through : (u : ValueTree) (a : Actor) (r : List Item) → whole.store_at (placeless_names ns) u (placeless_actor a) (map placeless_item r) ≡ through placeless_actor (whole.store_at ns u a r)
  stored_through u a (Do s (DeclareStmt at i (Some e) k) ∷ r) =
      ap (λ z. whole.store_if z (placeless_actor a) (Do s (placeless_body k) ∷ map placeless_item r) (Some (declare i u a.vars))) (effect_there e)
      ∙ store_if_through (whole.is_effect_in ns e) a (Do s k ∷ r) (Some (declare i u a.vars))
  stored_through u a (Do s (DeclareStmt at i None k) ∷ r) = store_if_through (whole.makes_cell i.ty) a (Do s k ∷ r) (Some (declare i u a.vars))
  stored_through u a (Do s (AssignStmt at xs e k) ∷ r) =
      ap₂ (λ z o. whole.store_if z (placeless_actor a) (Do s (placeless_body k) ∷ map placeless_item r) o) (effect_there e) (assign_bare ns.records xs u a.vars)
      ∙ store_if_through (whole.is_effect_in ns e) a (Do s k ∷ r) (assign ns.records xs u a.vars)
  stored_through u a r = refl

bound_bare : (o : Option IntoTree) (u : ValueTree) (vars : Vars) → whole.bound (option_map placeless_into o) u vars ≡ whole.bound o u vars
bound_bare None u vars = refl
bound_bare (Some i) u vars = refl

case_through : (bs : Branches) (n : ℕ) (s : Site) (u : ValueTree) (a : Actor) (r : List Item)
    → whole.take_case (placeless_branches bs) n s u (placeless_actor a) (map placeless_item r) ≡ through placeless_actor (whole.take_case bs n s u a r)
case_through NoBranches n s u a r = refl
case_through (MoreBranches at w x bs) zero s u a r = ap (whole.onward (Do s (placeless_body x) ∷ Leave ∷ map placeless_item r)) (bound_bare w.into u (entered a.vars))
case_through (MoreBranches at w x bs) (suc n) s u a r =
    ap (λ z. whole.take_case (placeless_branches bs) n (site_at z s) u (placeless_actor a) (map placeless_item r)) (past_bare x s.spot) ∙ case_through bs n (site_at (past x s.spot) s) u a r

branch_through : (n : ℕ) (u : ValueTree) (a : Actor) (s : Site) (bs : Branches) (k : Body) (r : List Item)
    → whole.take_case (placeless_branches bs) n (site_at (next_spot (branch_count (placeless_branches bs)) s.spot) s) u (placeless_actor a)
    (Do (site_at (past_branches (placeless_branches bs) (next_spot (branch_count (placeless_branches bs)) s.spot)) s) (placeless_body k) ∷ map placeless_item r)
    ≡ through placeless_actor (whole.take_case bs n (site_at (next_spot (branch_count bs) s.spot) s) u a (Do (site_at (past_branches bs (next_spot (branch_count bs) s.spot)) s) k ∷ r))
branch_through n u a s bs k r =
    ap (λ m. whole.take_case (placeless_branches bs) n (site_at (next_spot m s.spot) s) u (placeless_actor a)
    (Do (site_at (past_branches (placeless_branches bs) (next_spot m s.spot)) s) (placeless_body k) ∷ map placeless_item r)) (branch_count_bare bs)
    ∙ ap (λ z. whole.take_case (placeless_branches bs) n (site_at (next_spot (branch_count bs) s.spot) s) u (placeless_actor a) (Do (site_at z s) (placeless_body k) ∷ map placeless_item r))
    (branches_bare bs (next_spot (branch_count bs) s.spot))
    ∙ case_through bs n (site_at (next_spot (branch_count bs) s.spot) s) u a (Do (site_at (past_branches bs (next_spot (branch_count bs) s.spot)) s) k ∷ r)

take_through : (n : ℕ) (u : ValueTree) (a : Actor) (r : List Item) → whole.take_at n u (placeless_actor a) (map placeless_item r) ≡ through placeless_actor (whole.take_at n u a r)
take_through zero u a (Do s (WaitStmt at w k) ∷ r) = ap (whole.onward (Do (site_at (next_spot 1 s.spot) s) (placeless_body k) ∷ map placeless_item r)) (bound_bare w.into u a.vars)
take_through zero u a (Do s (ChooseStmt at bs k) ∷ r) = branch_through zero u a s bs k r
take_through (suc n) u a (Do s (ChooseStmt at bs k) ∷ r) = branch_through (suc n) u a s bs k r
take_through zero u a r = refl
take_through (suc n) u a r = refl

-- errors
abbrev placeless_unwound : {P : Type 0} → Unwound P → Unwound P
placeless_unwound u = record u { handler = placeless_body u.handler; rest = map placeless_item u.rest }

unwind_bare : {P : Type 0} (ps : List P) (es : List (Local P)) (r : List Item) → unwind ps es (map placeless_item r) ≡ option_map placeless_unwound (unwind ps es r)
unwind_bare ps es [] = refl
unwind_bare ps es (Leave ∷ r) = unwind_bare (ps ++ scope es) (outside es) r
unwind_bare ps es (Handler x s h ∷ r) = refl
unwind_bare ps es (Do s x ∷ r) = unwind_bare ps es r
unwind_bare ps es (Round l ∷ r) = unwind_bare ps es r
unwind_bare ps es (Check l ∷ r) = unwind_bare ps es r
unwind_bare ps es (Made l ∷ r) = unwind_bare ps es r
unwind_bare ps es (Over ∷ r) = unwind_bare ps es r

raised_through : (err : ℕ) (vars : Vars) (o : Option (Unwound (Option ValueTree))) → raised err vars (option_map placeless_unwound o) ≡ through placeless_actor (raised err vars o)
raised_through err vars None = refl
raised_through err vars (Some u) = refl

-- an actor at the begin of its text
args_bare : (ps : List ParamTree) (vs : List ValueTree) (ss : List (List ℕ × Option ValueTree)) → whole.with_args (map placeless_param ps) vs ss ≡ whole.with_args ps vs ss
args_bare [] [] ss = refl
args_bare [] (u ∷ vs) ss = refl
args_bare (p ∷ ps) [] ss = refl
args_bare (p ∷ ps) (u ∷ vs) ss = ap (whole.more (p.name.name, Some u)) (args_bare ps vs ss)

fresh_through : (o : Option RoutineTree) (vs : List ValueTree) → whole.fresh_from (option_map placeless_routine o) vs ≡ option_map placeless_actor (whole.fresh_from o vs)
fresh_through None vs = refl
fresh_through (Some f) vs =
    ap (λ z. bind (whole.with_args (map placeless_param f.params) vs (whole.no_values z)) (λ ss. Some (whole.begun (placeless_routine f) ss))) (slots_bare f.body)
    ∙ ap (λ z. bind z (λ ss. Some (whole.begun (placeless_routine f) ss))) (args_bare f.params vs (whole.no_values (body_slots f.body)))
    ∙ by_args (whole.with_args f.params vs (whole.no_values (body_slots f.body)))
  where
    by_args : (z : Option (List (List ℕ × Option ValueTree))) → bind z (λ ss. Some (whole.begun (placeless_routine f) ss)) ≡ option_map placeless_actor (bind z (λ ss. Some (whole.begun f ss)))
    by_args None = refl
    by_args (Some ss) = refl

-- what a program names
records_bare : (ds : List DeclTree) → whole.records_in (map placeless_decl ds) ≡ map placeless_record (whole.records_in ds)
records_bare [] = refl
records_bare (StructDecl r ∷ ds) = ap (λ z. placeless_record r ∷ z) (records_bare ds)
records_bare (FunctionDecl f ∷ ds) = records_bare ds
records_bare (ActorDecl f ∷ ds) = records_bare ds

functions_bare : (ds : List DeclTree) → whole.functions_in (map placeless_decl ds) ≡ map placeless_routine (whole.functions_in ds)
functions_bare [] = refl
functions_bare (StructDecl r ∷ ds) = functions_bare ds
functions_bare (FunctionDecl f ∷ ds) = ap (λ z. placeless_routine f ∷ z) (functions_bare ds)
functions_bare (ActorDecl f ∷ ds) = functions_bare ds

actors_bare : (ds : List DeclTree) → whole.actors_in (map placeless_decl ds) ≡ map placeless_routine (whole.actors_in ds)
actors_bare [] = refl
actors_bare (StructDecl r ∷ ds) = actors_bare ds
actors_bare (FunctionDecl f ∷ ds) = actors_bare ds
actors_bare (ActorDecl f ∷ ds) = ap (λ z. placeless_routine f ∷ z) (actors_bare ds)

routine_names : (fs : List RoutineTree) → map whole.routine_name (map placeless_routine fs) ≡ map whole.routine_name fs
routine_names [] = refl
routine_names (f ∷ fs) = ap (λ z. f.name.name ∷ z) (routine_names fs)

abbrev named_so : List RecordTree → List RoutineTree → List (List ℕ) → Names
named_so x y z = record { records = x; functions = y; actors = z }

names_bare : (p : ProgramTree) → whole.names_of (bare p) ≡ placeless_names (whole.names_of p)
names_bare p =
    ap₂ (λ x y. named_so x y (map whole.routine_name (whole.actors_in (map placeless_decl p.decls)))) (records_bare p.decls) (functions_bare p.decls)
    ∙ ap (named_so (map placeless_record (whole.records_in p.decls)) (map placeless_routine (whole.functions_in p.decls)))
    (ap (map whole.routine_name) (actors_bare p.decls) ∙ routine_names (whole.actors_in p.decls))

pub source_mirrors : (p : ProgramTree) → Mirrors (whole.source p) (whole.source (bare p)) placeless_actor
source_mirrors p = record {
  main = sym_main;
  label = λ k. sym_label k;
  fresh = λ k vs. ap (λ o. whole.fresh_from o vs) (ap (λ xs. slice_get xs k) (actors_bare p.decls) ∙ get-map placeless_routine (whole.actors_in p.decls) k)
      ∙ fresh_through (slice_get (whole.actors_in p.decls) k) vs;
  next = λ v a. ap (λ n. step.next_step n v (placeless_actor a)) (names_bare p) ∙ item_through (whole.names_of p) v a a.rest;
  lose = λ a. refl;
  store = λ u a. ap (λ n. whole.store_at n u (placeless_actor a) (map placeless_item a.rest)) (names_bare p) ∙ stored_through (whole.names_of p) u a a.rest;
  take = λ n u a. take_through n u a a.rest;
  raise = λ err a. ap (raised err a.vars) (unwind_bare [] a.vars.locals a.rest) ∙ raised_through err a.vars (unwind [] a.vars.locals a.rest);
  occ = λ s k a. refl;
}
  where
    sym_main : (whole.source p).main ≡ (whole.source (bare p)).main
    sym_main = sym (ap (λ (n : Names). whole.main_of n.actors) (names_bare p))

    sym_label : (k : ℕ) → (whole.source p).label k ≡ (whole.source (bare p)).label k
    sym_label k = sym (ap (λ (n : Names). unwrap_or (slice_get n.actors k) []) (names_bare p))

-- where an actor waits
pub spot_bare : (a : Actor) → spot_in a.rest ≡ spot_in (placeless_actor a).rest
spot_bare a = by_rest a.rest
  where
    by_rest : (r : List Item) → spot_in r ≡ spot_in (map placeless_item r)
    by_rest (Do s (WaitStmt at w k) ∷ r) = refl
    by_rest (Do s (ChooseStmt at bs k) ∷ r) = refl
    by_rest r = refl
