-- The step of an actor that is run from its text.
use Rattle.std.specs.Prelude.{ℕ, Bool, true, false, List, [], ◌∷◌}
use Rattle.std.specs.declared.option.Option.{Option}
use Rattle.std.specs.declared.option.Option.TheVariants.{None, Some}
use Rattle.flow_base.specs.ErrorNumbers.{operation_cancelled}
use Rattle.std.specs.Option.{option_map}
use Rattle.flow_tree.specs.Tree.{TypeTree, PromiseType, PromiseStreamType, ExprTree, ExprTrees, returned_expr}
use Rattle.flow_tree.specs.declared.ty.Ident.{Ident}
use Rattle.flow_tree.specs.Body.{IntoTree, Body, End, BlockStmt, IfStmt, IfElseStmt, WhileStmt, ForStmt, LoopStmt, BreakStmt, ContinueStmt, ReturnStmt, ThrowStmt, TryStmt, ChooseStmt, DeclareStmt, AssignStmt, ModifyStmt, CallStmt, WaitStmt}
use Rattle.flow_value.specs.declared.value.Kind.TheVariants as kind
use Rattle.flow_value.specs.Values.{ValueTree, VoidValue, RefValue}
use Rattle.flow_eval.specs.Answers.{bool_of, error_of}
use Rattle.flow_eval.specs.Functions.{default_value}
use Rattle.flow_meaning.specs.Requests.{Spot, Make, Goal, Stored, Kept, Goes, Pass, Drops, Effects, Operand, Waits, Returns, Throws}
use Rattle.flow_meaning.specs.Process.{View}
use Rattle.flow_meaning.specs.Evaluating.{Names, bind, StepOf, asks, quietly, stuck, given, evaluated, Effectful, effect_in, effect_of, value, values, call_statement}
use Rattle.flow_meaning.specs.Variables.{Vars, look}
use Rattle.flow_meaning.specs.Items.{Site, Loop, Single, OneOf, Target, Declared, Path, Item, Do, Leave, Round, Check, Made, Handler, Over, Actor, actor, over, site_past, entered, left_scope, everything, assign, put_goal, change, operand, lose}

-- A break goes up to the innermost loop and past it; a continue goes up to it, and a pass was made. Each scope on the
-- way ends by itself.
pub data Exit : Type 0 where
  Breaks : Exit
  Continues : Exit

abbrev pub at_loop : Exit → Loop → List Item → List Item
at_loop Breaks l r = r
at_loop Continues l r = Made l ∷ r

abbrev pub exit : (left : ℕ) → Exit → Item → Actor → List Item → StepOf Actor
exit left how me a [] = stuck a
exit left how me a (Do s b ∷ r) = quietly (actor a.vars (me ∷ r))
exit left how me a (Handler x s h ∷ r) = quietly (actor a.vars (me ∷ r))
exit left how me a (Leave ∷ r) = left_scope left a.vars (me ∷ r)
exit left how me a (Made l ∷ r) = quietly (actor a.vars (at_loop how l r))
exit left how me a (Round l ∷ r) = stuck a
exit left how me a (Check l ∷ r) = stuck a
exit left how me a (Over ∷ r) = stuck a

-- a body as a scope of its own, before other items
abbrev pub in_scope : Vars → Site → Body → List Item → Actor
in_scope vars s b r = actor (entered vars) (Do s b ∷ Leave ∷ r)

-- one of two by a condition
abbrev pub choose : (left : ℕ) → Actor → Option Bool → Actor → Actor → StepOf Actor
choose left a None main other = stuck a
choose left a (Some true) main other = asks left Goes main
choose left a (Some false) main other = asks left Goes other

module _ (ns : Names) (v : View) where
  abbrev pub test : Actor → ExprTree → Actor → Actor → StepOf Actor
  test a e main other = evaluated a (value ns v (look a.vars) e) (λ u left. choose left a (bool_of u) main other)

  -- a value is put in place, and what stood there is dropped
  abbrev pub placed : ℕ → Actor → List Item → List ValueTree × Vars → StepOf Actor
  placed left a r p = asks left (Drops p.0) (actor p.1 r)

  abbrev pub place : ℕ → Actor → Target → ValueTree → List Item → StepOf Actor
  place left a goal u r = given a (put_goal ns.records goal u a.vars) (placed left a r)

  -- an effect, whose result goes into place or among the operands; the actor stays where it is
  abbrev pub effects : Actor → Goal → Effectful × ExprTrees → StepOf Actor
  effects a goal g = evaluated a (values ns v (look a.vars) g.1)
      (λ vs left. given a (effect_of g.0 vs) (λ eff. asks left (Effects goal eff) a))

  -- an assignment or a declaration of an expression, or of an effect
  abbrev pub store_by : Option (Effectful × ExprTrees) → Actor → Target → ExprTree → List Item → StepOf Actor
  store_by (Some g) a goal e r = effects a Stored g
  store_by None a goal e r = evaluated a (value ns v (look a.vars) e) (λ u left. place left a goal u r)

  abbrev pub store : Actor → Target → ExprTree → List Item → StepOf Actor
  store a goal e r = store_by (effect_in ns e) a goal e r

  -- a declaration without a value: a new cell, or the value that its type has at first
  abbrev pub declare_new : Actor → IntoTree → List Item → TypeTree → StepOf Actor
  declare_new a i r (PromiseType t) = asks v.left (Effects Stored (Make kind.Promise)) a
  declare_new a i r (PromiseStreamType t) = asks v.left (Effects Stored (Make kind.PromiseStream)) a
  declare_new a i r t = given a (default_value t) (λ u. place v.left a (Declared i) u r)

  abbrev pub declares : Actor → IntoTree → Option ExprTree → List Item → StepOf Actor
  declares a i (Some e) r = store a (Declared i) e r
  declares a i None r = declare_new a i r i.ty

  -- an error is thrown by its value
  abbrev pub throw_value : Actor → Option ℕ → ℕ → StepOf Actor
  throw_value a None left = stuck a
  throw_value a (Some err) left = asks left (Throws err) a

  abbrev pub throws : Actor → Option ExprTree → Option (List ℕ) → StepOf Actor
  throws a (Some e) caught = evaluated a (value ns v (look a.vars) e) (λ u left. throw_value a (error_of u) left)
  throws a None None = stuck a
  throws a None (Some x) = throw_value a (bind (look a.vars x) error_of) v.left

  -- the next operand of a wait is asked for; when all are kept, the actor waits
  abbrev pub operand_ref : ℕ → Spot → Actor → ValueTree → StepOf Actor
  operand_ref left spot a (RefValue k cell) = asks left (Operand spot (k, cell)) a
  operand_ref left spot a _ = stuck a

  abbrev pub operand_by : Option (Effectful × ExprTrees) → Actor → Spot → ExprTree → StepOf Actor
  operand_by (Some g) a spot e = effects a (Kept spot) g
  operand_by None a spot e = evaluated a (value ns v (look a.vars) e) (λ u left. operand_ref left spot a u)

  abbrev pub waits : Spot → List ValueTree × Actor → StepOf Actor
  waits spot l = asks v.left (Waits spot l.0) l.1

  abbrev pub await : Actor → Spot → Option ExprTree → StepOf Actor
  await a spot (Some e) = operand_by (effect_in ns e) a spot e
  await a spot None = waits spot (lose a)

  -- a call statement changes what a path leads to, and the actor goes on
  abbrev pub put_path : Actor → List Item → List Ident → ValueTree → Option Actor
  put_path a r xs u = option_map (λ (p : List ValueTree × Vars). actor p.1 r) (assign ns.records xs u a.vars)

  -- The end of a body. That of the text of a void actor is `return;`; no other actor of a checked program comes to the end of its
  -- text, and one that does throws `operation_cancelled`, as its class does.
  abbrev pub end_body : Actor → (is_void : Bool) → List Item → StepOf Actor
  end_body a void (i ∷ r) = quietly (actor a.vars (i ∷ r))
  end_body a true [] = asks v.left (Returns VoidValue (everything a.vars)) over
  end_body a false [] = asks v.left (Throws operation_cancelled) a

  -- the first statement of a body, before the items r
  abbrev pub do_body : Actor → Site → Body → List Item → StepOf Actor
  do_body a s End r = end_body a s.is_void r
  do_body a s (BlockStmt at b k) r = quietly (in_scope a.vars s b (Do (site_past b s) k ∷ r))
  do_body a s (IfStmt at e b k) r =
      test a e (in_scope a.vars s b (Do (site_past b s) k ∷ r)) (actor a.vars (Do (site_past b s) k ∷ r))
  do_body a s (IfElseStmt at e b c k) r =
      let s_c = site_past b s in
      let after = Do (site_past c s_c) k ∷ r in
      test a e (in_scope a.vars s b after) (in_scope a.vars s_c c after)
  do_body a s (WhileStmt at e b k) r =
      quietly (actor a.vars (Round (record { site = s; condition = Some e; step = End; inner = b }) ∷ Do (site_past b s) k ∷ r))
  do_body a s (LoopStmt at b k) r =
      quietly (actor a.vars (Round (record { site = s; condition = None; step = End; inner = b }) ∷ Do (site_past b s) k ∷ r))
  do_body a s (ForStmt at i e t b k) r =
      let s_t = site_past i s in
      let s_b = site_past t s_t in
      quietly (actor (entered a.vars) (Do s i ∷ Round (record { site = s_b; condition = e; step = t; inner = b }) ∷ Leave
      ∷ Do (site_past b s_b) k ∷ r))
  do_body a s (BreakStmt at k) r = exit v.left Breaks (Do s (BreakStmt at k)) a r
  do_body a s (ContinueStmt at k) r = exit v.left Continues (Do s (ContinueStmt at k)) a r
  do_body a s (ReturnStmt at e k) r =
      evaluated a (value ns v (look a.vars) (returned_expr e)) (λ u left. asks left (Returns u (everything a.vars)) over)
  do_body a s (ThrowStmt at e k) r = throws a e s.caught
  do_body a s (TryStmt at b q x h k) r =
      let s_h = site_past b s in
      let handler = Handler x.name (record s_h { caught = Some x.name }) h in
      quietly (in_scope a.vars s b (handler ∷ Do (site_past h s_h) k ∷ r))
  do_body a s (ChooseStmt at bs k) r = await a s.spot (operand (OneOf bs) v.kept)
  do_body a s (DeclareStmt at i e k) r = declares a i e (Do s k ∷ r)
  do_body a s (AssignStmt at xs e k) r = store a (Path xs) e (Do s k ∷ r)
  do_body a s (ModifyStmt at xs c k) r = given a (change xs c) (λ e. store a (Path xs) e (Do s k ∷ r))
  do_body a s (CallStmt at xs es k) r = call_statement ns v (look a.vars) a (actor a.vars (Do s k ∷ r)) (put_path a (Do s k ∷ r)) xs es
  do_body a s (WaitStmt at w k) r = await a s.spot (operand (Single w) v.kept)

  -- a pass of a loop, if the condition holds
  abbrev pub pass : Actor → Loop → List Item → Actor
  pass a l r = in_scope a.vars l.site l.inner (Made l ∷ r)

  abbrev pub check : Actor → Loop → Option ExprTree → List Item → StepOf Actor
  check a l None r = quietly (pass a l r)
  check a l (Some e) r = test a e (pass a l r) (actor a.vars r)

  -- The first item of the rest decides; the end of a text is that of its body.
  abbrev pub do_item : Actor → List Item → StepOf Actor
  do_item a [] = stuck a
  do_item a (Do s b ∷ r) = do_body a s b r
  do_item a (Leave ∷ r) = left_scope v.left a.vars r
  do_item a (Round l ∷ r) = asks v.left Pass (actor a.vars (Check l ∷ r))
  do_item a (Check l ∷ r) = check a l l.condition r
  do_item a (Made l ∷ r) = quietly (actor a.vars (Do l.site l.step ∷ Round l ∷ r))
  do_item a (Handler x s h ∷ r) = quietly (actor a.vars r)
  do_item a (Over ∷ r) = stuck a

  abbrev pub next_step : Actor → StepOf Actor
  next_step a = do_item a a.rest
