-- The rest of an actor stays part of its text.
use Rattle.std.proofs.Common.{ℕ, zero, suc, Bool, true, false, List, [], ◌∷◌, ◌++◌, refl, sym, subst, append-nil, arith}
use Rattle.std.specs.declared.option.Option.{Option}
use Rattle.std.specs.declared.option.Option.TheVariants.{None, Some}
use Rattle.std.specs.Option.{option_map}
use Rattle.flow_base.specs.declared.place.Place.{Place}
use Rattle.flow_tree.specs.declared.ty.Ident.{Ident}
use Rattle.flow_tree.specs.Tree.{TypeTree, PromiseType, PromiseStreamType, ExprTree, ExprTrees, returned_expr}
use Rattle.flow_tree.specs.Body.{IntoTree, Body, End, BlockStmt, IfStmt, IfElseStmt, WhileStmt, ForStmt, LoopStmt, BreakStmt, ContinueStmt, ReturnStmt, ThrowStmt, TryStmt, ChooseStmt, DeclareStmt, AssignStmt, ModifyStmt, CallStmt, WaitStmt, Branches, NoBranches, MoreBranches}
use Rattle.flow_tree.specs.Decls.{RoutineTree}
use Rattle.flow_value.specs.Values.{ValueTree, RefValue}
use Rattle.flow_eval.specs.Eval.{Res, Done, Fails, Spent, Meaningless}
use Rattle.flow_eval.specs.Answers.{bool_of, error_of}
use Rattle.flow_eval.specs.Functions.{default_value}
use Rattle.flow_staterule.specs.StateRule.{wait_places, branch_places}
use Rattle.flow_typing_laws.specs.ControlFlow.Laws.{HasSimpleParts, HaveSimpleParts}
use Rattle.flow_class.specs.Scopes.{Local, scope, outside}
use Rattle.flow_meaning.specs.Requests.{Spot, Goal, Stored, Kept, Drops, Effects}
use Rattle.flow_meaning.specs.Process.{View}
use Rattle.flow_meaning.specs.Evaluating.{Names, bind, StepOf, asks, given, evaluated, Effectful, effect_in, effect_of, value, values, Change, change_of, base_of, call_act, storing, call_by}
use Rattle.flow_meaning.specs.Variables.{Vars, look}
use Rattle.flow_meaning.specs.Text.{past, past_branches, next_spot, branch_count}
use Rattle.flow_meaning.specs.Items.{Site, Loop, Single, OneOf, Target, Declared, Path, Item, Do, Leave, Round, Check, Made, Handler, Over, Actor, actor, leave_scope, put_goal, change, operand, site_past, site_at, Unwound, unwind, raised, raise, assign, declare}
use Rattle.flow_meaning.specs.SourceStep.{Exit, Breaks, Continues, exit, choose, test, placed, place, effects, store_by, store, declare_new, declares, throw_value, throws, operand_ref, operand_by, await, put_path, end_body, do_body, check, do_item, next_step}
use Rattle.flow_meaning.specs.Source.{begun, store_if, makes_cell, is_effect_in, store_at, take_case, take_at}
use Rattle.flow_view_laws.specs.Within.{PartOf, BodyWithin, LoopWithin, ItemWithin, RestWithin, ActorWithin}
use Rattle.flow_view_laws.proofs.Parts.{both_pass, past_passes, branches_pass, step_stays, first_part, later_part, first_body, later_body, two_bodies, three_bodies, empty_body}

module _ (all : List Place) where
  -- so is that of the actor after a step
  abbrev Stays : StepOf Actor → Type 0
  Stays x = ActorWithin all x.1

  given_stays : {B : Type 0} (a : Actor) (o : Option B) (go : B → StepOf Actor) → ActorWithin all a → ((x : B) → Stays (go x)) → Stays (given a o go)
  given_stays a None go w h = w
  given_stays a (Some x) go w h = h x

  evaluated_stays : {B : Type 0} (a : Actor) (q : Res B) (go : B → ℕ → StepOf Actor) → ActorWithin all a → ((x : B) (left : ℕ) → Stays (go x left))
      → Stays (evaluated a q go)
  evaluated_stays a (Done x left) go w h = h x left
  evaluated_stays a (Fails e left) go w h = w
  evaluated_stays a Spent go w h = w
  evaluated_stays a Meaningless go w h = w

  leave_stays : (os : List (Option ValueTree)) (left : ℕ) (a : Actor) → ActorWithin all a → Stays (leave_scope os left a)
  leave_stays [] left a w = w
  leave_stays (o ∷ os) left a w = w

  loop_left : (how : Exit) (vars : Vars) (l : Loop) (r : List Item) → LoopWithin all l → RestWithin all r
      → Stays (Rattle.flow_meaning.specs.Evaluating.quietly (actor vars (Rattle.flow_meaning.specs.SourceStep.at_loop how l r)))
  loop_left Breaks vars l r w h = h
  loop_left Continues vars l r w h = (w, h)

  exit_stays : (left : ℕ) (how : Exit) (me : Item) (a : Actor) (r : List Item) → ItemWithin all me → ActorWithin all a → RestWithin all r → Stays (exit left how me a r)
  exit_stays left how me a [] m w h = w
  exit_stays left how me a (Do s b ∷ r) m w h = (m, h.1)
  exit_stays left how me a (Handler x s k ∷ r) m w h = (m, h.1)
  exit_stays left how me a (Leave ∷ r) m w h =
      leave_stays (scope a.vars.locals) left (actor (record a.vars { locals = outside a.vars.locals }) (me ∷ r)) (m, h.1)
  exit_stays left how me a (Made l ∷ r) m w h = loop_left how a.vars l r h.0 h.1
  exit_stays left how me a (Round l ∷ r) m w h = w
  exit_stays left how me a (Check l ∷ r) m w h = w
  exit_stays left how me a (Over ∷ r) m w h = w

  module _ (ns : Names) (v : View) where
    choose_stays : (left : ℕ) (a : Actor) (o : Option Bool) (main other : Actor) → ActorWithin all a → ActorWithin all main → ActorWithin all other
        → Stays (choose left a o main other)
    choose_stays left a None main other w m n = w
    choose_stays left a (Some true) main other w m n = m
    choose_stays left a (Some false) main other w m n = n

    test_stays : (a : Actor) (e : ExprTree) (main other : Actor) → ActorWithin all a → ActorWithin all main → ActorWithin all other → Stays (test ns v a e main other)
    test_stays a e main other w m n =
        evaluated_stays a (value ns v (look a.vars) e) (λ u left. choose left a (bool_of u) main other) w
        (λ u left. choose_stays left a (bool_of u) main other w m n)

    place_stays : (left : ℕ) (a : Actor) (goal : Target) (u : ValueTree) (r : List Item) → ActorWithin all a → RestWithin all r → Stays (place ns v left a goal u r)
    place_stays left a goal u r w h = given_stays a (put_goal ns.records goal u a.vars) (placed ns v left a r) w (λ p. h)

    effects_stay : (a : Actor) (goal : Goal) (g : Effectful × ExprTrees) → ActorWithin all a → Stays (effects ns v a goal g)
    effects_stay a goal g w =
        evaluated_stays a (values ns v (look a.vars) g.1) (λ vs left. given a (effect_of g.0 vs) (λ eff. asks left (Effects goal eff) a)) w
        (λ vs left. given_stays a (effect_of g.0 vs) (λ eff. asks left (Effects goal eff) a) w (λ eff. w))

    by_stays : (o : Option (Effectful × ExprTrees)) (a : Actor) (goal : Target) (e : ExprTree) (r : List Item) → ActorWithin all a → RestWithin all r
        → Stays (store_by ns v o a goal e r)
    by_stays (Some g) a goal e r w h = effects_stay a Stored g w
    by_stays None a goal e r w h =
        evaluated_stays a (value ns v (look a.vars) e) (λ u left. place ns v left a goal u r) w (λ u left. place_stays left a goal u r w h)

    store_stays : (a : Actor) (goal : Target) (e : ExprTree) (r : List Item) → ActorWithin all a → RestWithin all r → Stays (store ns v a goal e r)
    store_stays a goal e r w h = by_stays (effect_in ns e) a goal e r w h

    new_stays : (a : Actor) (i : IntoTree) (r : List Item) (t : TypeTree) → ActorWithin all a → RestWithin all r → Stays (declare_new ns v a i r t)
    new_stays a i r (PromiseType t) w h = w
    new_stays a i r (PromiseStreamType t) w h = w
    new_stays a i r t w h =
        given_stays a (default_value t) (λ u. place ns v v.left a (Declared i) u r) w (λ u. place_stays v.left a (Declared i) u r w h)

    declares_stay : (a : Actor) (i : IntoTree) (e : Option ExprTree) (r : List Item) → ActorWithin all a → RestWithin all r → Stays (declares ns v a i e r)
    declares_stay a i (Some e) r w h = store_stays a (Declared i) e r w h
    declares_stay a i None r w h = new_stays a i r i.ty w h

    value_stays : (a : Actor) (o : Option ℕ) (left : ℕ) → ActorWithin all a → Stays (throw_value ns v a o left)
    value_stays a None left w = w
    value_stays a (Some err) left w = w

    throws_stay : (a : Actor) (e : Option ExprTree) (caught : Option (List ℕ)) → ActorWithin all a → Stays (throws ns v a e caught)
    throws_stay a (Some e) caught w =
        evaluated_stays a (value ns v (look a.vars) e) (λ u left. throw_value ns v a (error_of u) left) w (λ u left. value_stays a (error_of u) left w)
    throws_stay a None None w = w
    throws_stay a None (Some x) w = value_stays a (bind (look a.vars x) error_of) v.left w

    ref_stays : (left : ℕ) (spot : Spot) (a : Actor) (u : ValueTree) → ActorWithin all a → Stays (operand_ref ns v left spot a u)
    ref_stays left spot a (RefValue k cell) w = w
    ref_stays left spot a u w = w

    operand_stays : (o : Option (Effectful × ExprTrees)) (a : Actor) (spot : Spot) (e : ExprTree) → ActorWithin all a → Stays (operand_by ns v o a spot e)
    operand_stays (Some g) a spot e w = effects_stay a (Kept spot) g w
    operand_stays None a spot e w =
        evaluated_stays a (value ns v (look a.vars) e) (λ u left. operand_ref ns v left spot a u) w (λ u left. ref_stays left spot a u w)

    await_stays : (a : Actor) (spot : Spot) (o : Option ExprTree) → ActorWithin all a → Stays (await ns v a spot o)
    await_stays a spot (Some e) w = operand_stays (effect_in ns e) a spot e w
    await_stays a spot None w = w

    end_stays : (a : Actor) (void : Bool) (r : List Item) → ActorWithin all a → RestWithin all r → Stays (end_body ns v a void r)
    end_stays a void (i ∷ r) w h = h
    end_stays a true [] w h = (tt, tt)
    end_stays a false [] w h = w

    put_stays : (a : Actor) (r : List Item) (left : ℕ) (dropped : List ValueTree) (o : Option (List ValueTree × Vars)) → ActorWithin all a → RestWithin all r
        → Stays (given a (option_map (λ (p : List ValueTree × Vars). actor p.1 r) o) (λ b. asks left (Drops dropped) b))
    put_stays a r left dropped None w h = w
    put_stays a r left dropped (Some p) w h = h

    call_stays : (o : Option Change) (a : Actor) (r : List Item) (xs : List Ident) (es : ExprTrees) → ActorWithin all a → RestWithin all r
        → Stays (call_by ns v (look a.vars) o a (actor a.vars r) (put_path ns v a r) xs es)
    call_stays None a r xs es w h =
        evaluated_stays a (call_act ns v (look a.vars) xs es) (λ act left. asks left act (actor a.vars r)) w (λ act left. h)
    call_stays (Some how) a r xs es w h =
        evaluated_stays a (storing ns v (look a.vars) how (base_of xs) es) (λ s left. given a (put_path ns v a r (base_of xs) s.0) (λ b. asks left (Drops s.1) b)) w
        (λ s left. put_stays a r left s.1 (assign ns.records (base_of xs) s.0 a.vars) w h)

    for_stays : (a : Actor) (s : Site) (at : Place) (i t b k : Body) (e : Option ExprTree) (r : List Item) → BodyWithin all s (ForStmt at i e t b k) → RestWithin all r
        → Stays (do_body ns v a s (ForStmt at i e t b k) r)
    for_stays a s at i t b k e r w h =
        let is = wait_places i in
        let ts = wait_places t in
        let bs = wait_places b in
        let s_t = site_past i s in
        let s_b = site_past t s_t in
        let before_k = first_part all s.spot.group ((is ++ ts) ++ bs) (wait_places k) w.waits in
        let parts = two_bodies all s i t (first_part all s.spot.group (is ++ ts) bs before_k) w.parts.1 w.parts.2 in
        let two = both_pass (past i) (past t) is ts (past_passes i) (past_passes t) in
        let inner = later_body all (λ z. past t (past i z)) s (is ++ ts) b two before_k w.parts.3 in
        let behind = later_body all (λ z. past b (past t (past i z))) s ((is ++ ts) ++ bs) k (both_pass (λ z. past t (past i z)) (past b) (is ++ ts) bs two (past_passes b)) w.waits w.parts.4 in
        let step = subst (λ z. BodyWithin all (site_at z s_t) t) (sym (step_stays t w.parts.0.1 s_t.spot)) parts.1 in
        (parts.0, ((inner, step), (tt, (behind, h))))

    body_stays : (a : Actor) (s : Site) (b : Body) (r : List Item) → ActorWithin all a → BodyWithin all s b → RestWithin all r → Stays (do_body ns v a s b r)
    body_stays a s End r g w h = end_stays a s.is_void r g h
    body_stays a s (BlockStmt at b k) r g w h =
        let x = two_bodies all s b k w.waits w.parts.1 w.parts.2 in (x.0, (tt, (x.1, h)))
    body_stays a s (IfStmt at e b k) r g w h =
        let x = two_bodies all s b k w.waits w.parts.1 w.parts.2 in
        test_stays a e _ _ g (x.0, (tt, (x.1, h))) (x.1, h)
    body_stays a s (IfElseStmt at e b c k) r g w h =
        let x = three_bodies all s b c k w.waits w.parts.1 w.parts.2 w.parts.3 in
        test_stays a e _ _ g (x.0, (tt, (x.2, h))) (x.1, (tt, (x.2, h)))
    body_stays a s (WhileStmt at e b k) r g w h =
        let x = two_bodies all s b k w.waits w.parts.1 w.parts.2 in
        ((x.0, empty_body all s (wait_places b ++ wait_places k) w.waits), (x.1, h))
    body_stays a s (LoopStmt at b k) r g w h =
        let x = two_bodies all s b k w.waits w.parts.1 w.parts.2 in
        ((x.0, empty_body all s (wait_places b ++ wait_places k) w.waits), (x.1, h))
    body_stays a s (ForStmt at i e t b k) r g w h = for_stays a s at i t b k e r w h
    body_stays a s (BreakStmt at k) r g w h = exit_stays v.left Breaks (Do s (BreakStmt at k)) a r w g h
    body_stays a s (ContinueStmt at k) r g w h = exit_stays v.left Continues (Do s (ContinueStmt at k)) a r w g h
    body_stays a s (ReturnStmt at e k) r g w h =
        evaluated_stays a (value ns v (look a.vars) (returned_expr e)) _ g (λ u left. (tt, tt))
    body_stays a s (ThrowStmt at e k) r g w h = throws_stay a e s.caught g
    body_stays a s (TryStmt at b q x c k) r g w h =
        let y = three_bodies all s b c k w.waits w.parts.1 w.parts.2 w.parts.3 in
        (y.0, (tt, (record { waits = y.1.waits; parts = y.1.parts }, (y.2, h))))
    body_stays a s (ChooseStmt at bs k) r g w h = await_stays a s.spot (operand (OneOf bs) v.kept) g
    body_stays a s (DeclareStmt at i e k) r g w h = declares_stay a i e (Do s k ∷ r) g (record { waits = w.waits; parts = w.parts.1 }, h)
    body_stays a s (AssignStmt at xs e k) r g w h = store_stays a (Path xs) e (Do s k ∷ r) g (record { waits = w.waits; parts = w.parts.1 }, h)
    body_stays a s (ModifyStmt at xs c k) r g w h =
        given_stays a (change xs c) (λ e. store ns v a (Path xs) e (Do s k ∷ r)) g
        (λ e. store_stays a (Path xs) e (Do s k ∷ r) g (record { waits = w.waits; parts = w.parts.1 }, h))
    body_stays a s (CallStmt at xs es k) r g w h = call_stays (change_of xs) a (Do s k ∷ r) xs es g (record { waits = w.waits; parts = w.parts.1 }, h)
    body_stays a s (WaitStmt at w k) r g x h = await_stays a s.spot (operand (Single w) v.kept) g

    check_stays : (a : Actor) (l : Loop) (e : Option ExprTree) (r : List Item) → ActorWithin all a → LoopWithin all l → RestWithin all r → Stays (check ns v a l e r)
    check_stays a l None r g w h = (w.0, (tt, (w, h)))
    check_stays a l (Some e) r g w h = test_stays a e _ _ g (w.0, (tt, (w, h))) h

    item_stays : (a : Actor) (r : List Item) → ActorWithin all a → RestWithin all r → Stays (do_item ns v a r)
    item_stays a [] g h = g
    item_stays a (Do s b ∷ r) g h = body_stays a s b r g h.0 h.1
    item_stays a (Leave ∷ r) g h = leave_stays (scope a.vars.locals) v.left (actor (record a.vars { locals = outside a.vars.locals }) r) h.1
    item_stays a (Round l ∷ r) g h = h
    item_stays a (Check l ∷ r) g h = check_stays a l l.condition r g h.0 h.1
    item_stays a (Made l ∷ r) g h = (h.0.1, (h.0, h.1))
    item_stays a (Handler x s k ∷ r) g h = h.1
    item_stays a (Over ∷ r) g h = g

    pub step_stays_within : (a : Actor) → ActorWithin all a → ActorWithin all (next_step ns v a).1
    step_stays_within a h = item_stays a a.rest h h

  -- what is handed to an actor
  if_stays : (asked : Bool) (a : Actor) (r : List Item) (o : Option (List ValueTree × Vars)) → ActorWithin all a → RestWithin all r → ActorWithin all (store_if asked a r o).1
  if_stays false a r o g h = g
  if_stays true a r None g h = g
  if_stays true a r (Some p) g h = h

  store_in : (ns : Names) (u : ValueTree) (a : Actor) (r : List Item) → ActorWithin all a → RestWithin all r → ActorWithin all (store_at ns u a r).1
  store_in ns u a (Do s (DeclareStmt at i (Some e) k) ∷ r) g h =
      if_stays (is_effect_in ns e) a (Do s k ∷ r) (Some (declare i u a.vars)) g (record { waits = h.0.waits; parts = h.0.parts.1 }, h.1)
  store_in ns u a (Do s (DeclareStmt at i None k) ∷ r) g h =
      if_stays (makes_cell i.ty) a (Do s k ∷ r) (Some (declare i u a.vars)) g (record { waits = h.0.waits; parts = h.0.parts.1 }, h.1)
  store_in ns u a (Do s (AssignStmt at xs e k) ∷ r) g h =
      if_stays (is_effect_in ns e) a (Do s k ∷ r) (assign ns.records xs u a.vars) g (record { waits = h.0.waits; parts = h.0.parts.1 }, h.1)
  store_in ns u a _ g h = g

  pub store_stays_within : (ns : Names) (u : ValueTree) (a : Actor) → ActorWithin all a → ActorWithin all (store_at ns u a a.rest).1
  store_stays_within ns u a h = store_in ns u a a.rest h h

  case_stays : (bs : Branches) (n : ℕ) (s : Site) (u : ValueTree) (a : Actor) (r : List Item) → ActorWithin all a → PartOf all s.spot.group (branch_places bs)
      → HaveSimpleParts bs → RestWithin all r
      → ActorWithin all (take_case bs n s u a r).1
  case_stays NoBranches n s u a r g p w h = g
  case_stays (MoreBranches at w b bs) zero s u a r g p x h = (first_body all s b (branch_places bs) p x.1, (tt, h))
  case_stays (MoreBranches at w b bs) (suc n) s u a r g p x h =
      case_stays bs n (site_at (past b s.spot) s) u a r g (later_part all s.spot.group (past b s.spot).group (wait_places b) (branch_places bs) (past_passes b s.spot) p) x.2 h

  take_in : (n : ℕ) (u : ValueTree) (a : Actor) (r : List Item) → ActorWithin all a → RestWithin all r → ActorWithin all (take_at n u a r).1
  take_in zero u a (Do s (WaitStmt at w k) ∷ r) g h =
      (record { waits = later_part all s.spot.group (suc s.spot.group) (at ∷ []) (wait_places k) (omega arith) h.0.waits; parts = h.0.parts.1 }, h.1)
  take_in n u a (Do s (ChooseStmt at bs k) ∷ r) g h =
      let inside = next_spot (branch_count bs) s.spot in
      let p = later_part all s.spot.group (suc s.spot.group) (at ∷ []) (branch_places bs ++ wait_places k) (omega arith) h.0.waits in
      let own = first_part all (suc s.spot.group) (branch_places bs) (wait_places k) p in
      let behind = later_body all (past_branches bs) (site_at inside s) (branch_places bs) k (branches_pass bs) p h.0.parts.2 in
      case_stays bs n (site_at inside s) u a (Do (site_at (past_branches bs inside) s) k ∷ r) g own h.0.parts.1 (behind, h.1)
  take_in n u a _ g h = g

  pub take_stays_within : (n : ℕ) (u : ValueTree) (a : Actor) → ActorWithin all a → ActorWithin all (take_at n u a a.rest).1
  take_stays_within n u a h = take_in n u a a.rest h h

  -- an error leads to a handler in the text, or out of the actor
  abbrev UnwoundWithin : {P : Type 0} → Option (Unwound P) → Type 0
  UnwoundWithin None = Unit {0}
  UnwoundWithin (Some u) = BodyWithin all u.site u.handler × RestWithin all u.rest

  unwound_within : {P : Type 0} (ps : List P) (es : List (Local P)) (r : List Item) → RestWithin all r → UnwoundWithin (unwind ps es r)
  unwound_within ps es [] h = tt
  unwound_within ps es (Leave ∷ r) h = unwound_within (ps ++ scope es) (outside es) r h.1
  unwound_within ps es (Handler x s k ∷ r) h = h
  unwound_within ps es (Do s b ∷ r) h = unwound_within ps es r h.1
  unwound_within ps es (Round l ∷ r) h = unwound_within ps es r h.1
  unwound_within ps es (Check l ∷ r) h = unwound_within ps es r h.1
  unwound_within ps es (Made l ∷ r) h = unwound_within ps es r h.1
  unwound_within ps es (Over ∷ r) h = unwound_within ps es r h.1

  raised_within : (err : ℕ) (vars : Vars) (o : Option (Unwound (Option ValueTree))) → UnwoundWithin o → ActorWithin all (raised err vars o).1
  raised_within err vars None h = (tt, tt)
  raised_within err vars (Some u) h = (h.0, (tt, h.1))

  pub raise_stays_within : (err : ℕ) (a : Actor) → ActorWithin all a → ActorWithin all (raise err a).1
  raise_stays_within err a h = raised_within err a.vars (unwind [] a.vars.locals a.rest) (unwound_within [] a.vars.locals a.rest h)

-- an actor begins at the begin of its text
pub begins_within : (t : RoutineTree) (ss : List (List ℕ × Option ValueTree)) → HasSimpleParts t.body → ActorWithin (wait_places t.body) (begun t ss)
begins_within t ss h = (
  record {
    waits = record { front = []; behind = []; are = sym (append-nil (wait_places t.body)); first = refl };
    parts = h;
  },
  tt,
)
