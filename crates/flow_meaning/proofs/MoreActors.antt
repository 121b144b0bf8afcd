-- Actors of the source and frames of classes see of their turns only whether there are enough.
use Rattle.std.proofs.Common.{◌≡◌, ℕ, ◌+◌, List, [], ◌∷◌, ◌⊎◌, inl, inr, refl, sym, ap, subst}
use Rattle.std.specs.Prelude.{Bool, true, false, nat_lt, position}
use Rattle.std.specs.declared.option.Option.{Option}
use Rattle.std.specs.declared.option.Option.TheVariants.{None, Some}
use Rattle.std.specs.Str.{bytes_eq}
use Rattle.flow_base.specs.ErrorNumbers.{operation_cancelled, too_long}
use Rattle.flow_tree.specs.declared.ty.Ident.{Ident}
use Rattle.flow_ast.specs.declared.predefined.Predefined.{Predefined}
use Rattle.flow_ast.specs.declared.predefined.Predefined.TheVariants as code
use Rattle.flow_ast.specs.declared.predefined.Method.{Method}
use Rattle.flow_tree.specs.Tree.{TypeTree, IntType, BoolType, StringType, VoidType, ErrorType, NamedType, FutureType, FutureStreamType, PromiseType, PromiseStreamType, ExprTree, ExprTrees, VectorType, NothingType, returned_expr}
use Rattle.flow_tree.specs.Body.{IntoTree, Body, IfStmt, IfElseStmt, BreakStmt, ContinueStmt, ReturnStmt, ThrowStmt, ChooseStmt, DeclareStmt, AssignStmt, ModifyStmt, CallStmt, WaitStmt, End}
use Rattle.flow_tree.specs.Decls.{RoutineTree, ProgramTree}
use Rattle.flow_tree.specs.declared.limits.TheConstants.{ELEMENTS}
use Rattle.flow_ast.specs.TypingNames.{named, call_names, method_names}
use Rattle.flow_ast.specs.Typing.{routine_named}
use Rattle.flow_value.specs.Values.{ValueTree, IntValue, BoolValue, TextValue, VoidValue, ErrorValue, RefValue, ValueTrees, CompositeValue, ListWhole, NoValues, count_of, with_last}
use Rattle.flow_value.specs.declared.value.Kind.{Kind}
use Rattle.flow_eval.specs.Answers.{bool_of, error_of, int_of, text_of, arg}
use Rattle.flow_eval.specs.Eval.{Res, Done, Fails, Spent, Meaningless}
use Rattle.flow_eval.specs.MoreTurns.{Later}
use Rattle.flow_eval.specs.Functions.{Call, default_value, read_in}
use Rattle.flow_class.specs.Classes.{InstrTree, SetInstr, EffectInstr, NewInstr, ActInstr, DropInstr, LastTree, GotoLast, PassLast, TestLast, ChooseLast, ReturnLast, ThrowLast, CallbackTree, RawTree}
use Rattle.flow_meaning.specs.Requests.{Spot, Act, Goes, Make, Goal, Stored, Kept, Pass, Drops, Effects, Operand, Prints, SendsTo, Returns, Throws, Starts}
use Rattle.flow_meaning.specs.Process.{View}
use Rattle.flow_meaning.specs.Evaluating.{Names, setting, Look, bind, StepOf, asks, quietly, stuck, given, evaluated, Effectful, effect_in, effect_of, value, values, call_act, function_act, plain_act, based_act, method_act, done, before_last, last_of, Change, Grows, Clears, grown_by, changed, change_of, base_of, storing, started_act, call_by, call_statement}
use Rattle.flow_class.specs.Scopes.{scope, outside}
use Rattle.flow_meaning.specs.Variables.{Vars, look}
use Rattle.flow_meaning.specs.Items.{Site, Loop, Single, OneOf, Target, Declared, Path, Item, Do, Leave, Round, Check, Made, Handler, Over, Actor, actor, over, leave_scope, left_scope, with_locals, everything, put_goal, change, operand}
use Rattle.flow_meaning.specs.SourceStep as source_step
use Rattle.flow_meaning.specs.Source.{names_of, source}
use Rattle.flow_class.specs.Code as class_code
use Rattle.flow_class.specs.declared.class.Slotted.{Slotted}
use Rattle.flow_meaning.specs.Frame as frame
use Rattle.flow_meaning.specs.Class as class
use Rattle.flow_meaning.specs.Turns.{later, IsOut, Thrifty}
use Rattle.flow_eval.proofs.MoreEval.{done_later, then_later, whole_later, all_later, call_whole_later}

-- a step with more turns
abbrev LaterStep : {A : Type 0} → ℕ → StepOf A → StepOf A → Type 0
LaterStep k r q = (q ≡ later k r) ⊎ IsOut r

-- the same view with other turns
abbrev with_left : View → ℕ → View
with_left v sum = record v { left = sum }

asks_later : {A : Type 0} (k : ℕ) (act : Act) (a : A) (left sum : ℕ) → sum ≡ left + k → LaterStep k (asks left act a) (asks sum act a)
asks_later k act a left sum e = inl (ap (λ n. asks n act a) e)

quiet_later : {A : Type 0} (k : ℕ) (a : A) → LaterStep k (quietly a) (quietly a)
quiet_later k a = inl refl

stuck_later : {A : Type 0} (k : ℕ) (a : A) (q : StepOf A) → LaterStep k (stuck a) q
stuck_later k a q = inr (inr (0, a, refl))

given_later : {A B : Type 0} (k : ℕ) (a : A) (o : Option B) (go next : B → StepOf A) → ((x : B) → LaterStep k (go x) (next x)) → LaterStep k (given a o go) (given a o next)
given_later k a None go next f = stuck_later k a (stuck a)
given_later k a (Some x) go next f = f x

evaluated_later : {A B : Type 0} (k : ℕ) (a : A) (go : B → ℕ → StepOf A) → ((x : B) (left sum : ℕ) → sum ≡ left + k → LaterStep k (go x left) (go x sum)) → (r q : Res B) → Later k r q
    → LaterStep k (evaluated a r go) (evaluated a q go)
evaluated_later k a go f r q (inr e) = inr (inl (0, a, ap (λ x. evaluated a x go) e))
evaluated_later k a go f (Done x left) q (inl e) = subst (λ y. LaterStep k (go x left) (evaluated a y go)) (sym e) (f x left (left + k) refl)
evaluated_later k a go f (Fails err left) q (inl e) = inl (ap (λ y. evaluated a y go) e)
evaluated_later k a go f Spent q (inl e) = inr (inl (0, a, refl))
evaluated_later k a go f Meaningless q (inl e) = stuck_later k a (evaluated a q go)

act_later : (k : ℕ) (o : Option Act) (left sum : ℕ) → sum ≡ left + k → Later k (done o left) (done o sum)
act_later k None left sum e = inl refl
act_later k (Some act) left sum e = done_later k act left sum e

grown_later : (k : ℕ) (room : Bool) (es : ValueTrees) (u : ValueTree) (l m : ℕ) → m ≡ l + k → Later k (grown_by room es u l) (grown_by room es u m)
grown_later k true es u l m h = done_later k (CompositeValue ListWhole (with_last es u), []) l m h
grown_later k false es u l m h = inl (ap (λ z. Fails too_long z) h)

changed_later : (k : ℕ) (how : Change) (vs : List ValueTree) (o : Option ValueTree) (l m : ℕ) → m ≡ l + k → Later k (changed how vs o l) (changed how vs o m)
changed_later k Grows vs (Some (CompositeValue ListWhole es)) l m h = grown_later k (nat_lt (count_of es) ELEMENTS) es (arg vs 0) l m h
changed_later k Clears vs (Some (CompositeValue ListWhole es)) l m h = done_later k (CompositeValue ListWhole NoValues, CompositeValue ListWhole es ∷ []) l m h
changed_later k how vs o l m h = inl refl

module _ (k : ℕ) (ns : Names) (v : View) (sum : ℕ) (e : sum ≡ v.left + k) where
  value_later : (lk : Look) (x : ExprTree) → Later k (value ns v lk x) (value ns (with_left v sum) lk x)
  value_later lk x = whole_later k (setting ns v) lk x v.left sum e

  values_later : (lk : Look) (xs : ExprTrees) → Later k (values ns v lk xs) (values ns (with_left v sum) lk xs)
  values_later lk xs = all_later k (setting ns v) lk xs v.left sum e

  started_act_later : (lk : Look) (o : Option ℕ) (vs : List ValueTree) (l m : ℕ) → m ≡ l + k → Later k (started_act ns v lk o vs l) (started_act ns (with_left v sum) lk o vs m)
  started_act_later lk None vs l m h = inl refl
  started_act_later lk (Some c) vs l m h = done_later k (Starts c vs) l m h

  function_act_later : (lk : Look) (g : Option RoutineTree) (f : List ℕ) (vs : List ValueTree) (l m : ℕ) → m ≡ l + k
      → Later k (function_act ns v lk g f vs l) (function_act ns (with_left v sum) lk g f vs m)
  function_act_later lk None f vs l m h = started_act_later lk (position (bytes_eq f) ns.actors) vs l m h
  function_act_later lk (Some g) f vs l m h =
      then_later k (λ u left. Done Goes left) (Call (setting ns v) g vs l) (Call (setting ns v) g vs m) (call_whole_later k (setting ns v) g vs l m h) (λ u i j g. done_later k Goes i j g)

  plain_act_later : (lk : Look) (p : Option Predefined) (f : List ℕ) (vs : List ValueTree) (l m : ℕ) → m ≡ l + k → Later k (plain_act ns v lk p f vs l) (plain_act ns (with_left v sum) lk p f vs m)
  plain_act_later lk None f vs l m h = function_act_later lk (routine_named ns.functions f) f vs l m h
  plain_act_later lk (Some code.ToString) f vs l m h = inl refl
  plain_act_later lk (Some code.ToInt) f vs l m h = inl refl
  plain_act_later lk (Some code.Now) f vs l m h = inl refl
  plain_act_later lk (Some code.EndOfStream) f vs l m h = inl refl
  plain_act_later lk (Some code.TimedOut) f vs l m h = inl refl
  plain_act_later lk (Some code.BrokenPromise) f vs l m h = inl refl
  plain_act_later lk (Some code.OperationCancelled) f vs l m h = inl refl
  plain_act_later lk (Some code.ActorCancelled) f vs l m h = inl refl
  plain_act_later lk (Some code.Error) f vs l m h = inl refl
  plain_act_later lk (Some code.RandomInt) f vs l m h = inl refl
  plain_act_later lk (Some code.Delay) f vs l m h = inl refl
  plain_act_later lk (Some code.Never) f vs l m h = inl refl
  plain_act_later lk (Some code.Listen) f vs l m h = inl refl
  plain_act_later lk (Some code.ReadFile) f vs l m h = inl refl
  plain_act_later lk (Some code.WriteFile) f vs l m h = inl refl
  plain_act_later lk (Some code.SyncFile) f vs l m h = inl refl
  plain_act_later lk (Some code.FileSize) f vs l m h = inl refl
  plain_act_later lk (Some code.Trace) f vs l m h = done_later k (Prints (arg vs 0)) l m h
  plain_act_later lk (Some code.SendTo) f vs l m h = act_later k (bind (int_of (arg vs 0)) (λ q. bind (int_of (arg vs 1)) (λ port. bind (text_of (arg vs 2)) (λ text. Some (SendsTo q port text))))) l m
      h

  based_act_later : (lk : Look) (o : Option ValueTree) (m : Option Method) (vs : List ValueTree) (l n : ℕ) → n ≡ l + k
      → Later k (based_act ns v lk o m vs l) (based_act ns (with_left v sum) lk o m vs n)
  based_act_later lk None None vs l n h = inl refl
  based_act_later lk None (Some m) vs l n h = inl refl
  based_act_later lk (Some u) None vs l n h = inl refl
  based_act_later lk (Some u) (Some m) vs l n h = act_later k (method_act m u vs) l n h

  call_act_later : (lk : Look) (xs : List Ident) (es : ExprTrees) → Later k (call_act ns v lk xs es) (call_act ns (with_left v sum) lk xs es)
  call_act_later lk [] es = inl refl
  call_act_later lk (f ∷ []) es =
      then_later k (λ vs left. plain_act ns v lk (named call_names f.name) f.name vs left) (values ns v lk es) (values ns (with_left v sum) lk es) (values_later lk es)
      (λ vs l m h. plain_act_later lk (named call_names f.name) f.name vs l m h)
  call_act_later lk (x ∷ y ∷ ys) es =
      then_later k (λ vs left. based_act ns v lk (read_in ns.records (lk x.name) (before_last y ys)) (named method_names (last_of y ys).name) vs left) (values ns v lk es)
      (values ns (with_left v sum) lk es) (values_later lk es)
      (λ vs l m h. based_act_later lk (read_in ns.records (lk x.name) (before_last y ys)) (named method_names (last_of y ys).name) vs l m h)

  storing_later : (lk : Look) (how : Change) (xs : List Ident) (es : ExprTrees) → Later k (storing ns v lk how xs es) (storing ns (with_left v sum) lk how xs es)
  storing_later lk how [] es = inl refl
  storing_later lk how (x ∷ xs) es =
      then_later k (λ vs left. changed how vs (read_in ns.records (lk x.name) xs) left) (values ns v lk es) (values ns (with_left v sum) lk es) (values_later lk es)
      (λ vs l m h. changed_later k how vs (read_in ns.records (lk x.name) xs) l m h)

  -- a call statement of either kind of actor
  module _ {A : Type 0} (lk : Look) (now next : A) (put : List Ident → ValueTree → Option A) (path : List Ident) (es : ExprTrees) where
    call_by_later : (o : Option Change) → LaterStep k (call_by ns v lk o now next put path es) (call_by ns (with_left v sum) lk o now next put path es)
    call_by_later None =
        evaluated_later k now (λ act left. asks left act next) (λ act l m h. asks_later k act next l m h)
        (call_act ns v lk path es) (call_act ns (with_left v sum) lk path es) (call_act_later lk path es)
    call_by_later (Some how) =
        evaluated_later k now (λ s left. given now (put (base_of path) s.0) (λ a. asks left (Drops s.1) a))
        (λ s l m h. given_later k now (put (base_of path) s.0) (λ a. asks l (Drops s.1) a) (λ a. asks m (Drops s.1) a) (λ a. asks_later k (Drops s.1) a l m h))
        (storing ns v lk how (base_of path) es) (storing ns (with_left v sum) lk how (base_of path) es) (storing_later lk how (base_of path) es)

    call_later : LaterStep k (call_statement ns v lk now next put path es) (call_statement ns (with_left v sum) lk now next put path es)
    call_later = call_by_later (change_of path)

  -- the source
  leave_later : (os : List (Option ValueTree)) (a : Actor) → LaterStep k (leave_scope os v.left a) (leave_scope os sum a)
  leave_later [] a = quiet_later k a
  leave_later (o ∷ os) a = asks_later k _ a v.left sum e

  scope_later : (vars : Vars) (r : List Item) → LaterStep k (left_scope v.left vars r) (left_scope sum vars r)
  scope_later vars r = leave_later (scope vars.locals) (actor (with_locals vars (outside vars.locals)) r)

  exit_later : (how : source_step.Exit) (me : Item) (a : Actor) (r : List Item) → LaterStep k (source_step.exit v.left how me a r) (source_step.exit sum how me a r)
  exit_later how me a (Do s b ∷ r) = quiet_later k _
  exit_later how me a (Handler x s h ∷ r) = quiet_later k _
  exit_later how me a (Leave ∷ r) = scope_later a.vars (me ∷ r)
  exit_later how me a (Made l ∷ r) = quiet_later k _
  exit_later how me a _ = stuck_later k a _

  choose_later : (a : Actor) (b : Option Bool) (main other : Actor) (l m : ℕ) → m ≡ l + k → LaterStep k (source_step.choose l a b main other) (source_step.choose m a b main other)
  choose_later a None main other l m h = stuck_later k a _
  choose_later a (Some true) main other l m h = asks_later k Goes main l m h
  choose_later a (Some false) main other l m h = asks_later k Goes other l m h

  test_later : (a : Actor) (x : ExprTree) (main other : Actor) → LaterStep k (source_step.test ns v a x main other) (source_step.test ns (with_left v sum) a x main other)
  test_later a x main other =
      evaluated_later k a (λ u left. source_step.choose left a (bool_of u) main other) (λ u l m h. choose_later a (bool_of u) main other l m h)
      (value ns v (look a.vars) x) (value ns (with_left v sum) (look a.vars) x) (value_later (look a.vars) x)

  place_later : (a : Actor) (g : Target) (u : ValueTree) (r : List Item) (l m : ℕ) → m ≡ l + k → LaterStep k (source_step.place ns v l a g u r) (source_step.place ns (with_left v sum) m a g u r)
  place_later a g u r l m h =
      given_later k a (put_goal ns.records g u a.vars) (source_step.placed ns v l a r) (source_step.placed ns (with_left v sum) m a r) (λ p. asks_later k (Drops p.0) (actor p.1 r) l m h)

  effects_later : (a : Actor) (g : Goal) (x : Effectful × ExprTrees) → LaterStep k (source_step.effects ns v a g x) (source_step.effects ns (with_left v sum) a g x)
  effects_later a g x =
      evaluated_later k a (λ vs left. given a (effect_of x.0 vs) (λ eff. asks left (Effects g eff) a))
      (λ vs l m h. given_later k a (effect_of x.0 vs) (λ eff. asks l (Effects g eff) a) (λ eff. asks m (Effects g eff) a) (λ eff. asks_later k (Effects g eff) a l m h))
      (values ns v (look a.vars) x.1) (values ns (with_left v sum) (look a.vars) x.1) (values_later (look a.vars) x.1)

  store_by_later : (o : Option (Effectful × ExprTrees)) (a : Actor) (g : Target) (x : ExprTree) (r : List Item)
      → LaterStep k (source_step.store_by ns v o a g x r) (source_step.store_by ns (with_left v sum) o a g x r)
  store_by_later (Some y) a g x r = effects_later a Stored y
  store_by_later None a g x r =
      evaluated_later k a (λ u left. source_step.place ns v left a g u r) (λ u l m h. place_later a g u r l m h)
      (value ns v (look a.vars) x) (value ns (with_left v sum) (look a.vars) x) (value_later (look a.vars) x)

  default_later : (a : Actor) (i : IntoTree) (r : List Item) (t : TypeTree)
      → LaterStep k (given a (default_value t) (λ u. source_step.place ns v v.left a (Declared i) u r)) (given a (default_value t) (λ u. source_step.place ns (with_left v sum) sum a (Declared i) u r))
  default_later a i r t = given_later k a (default_value t) _ _ (λ u. place_later a (Declared i) u r v.left sum e)

  new_later : (a : Actor) (i : IntoTree) (r : List Item) (t : TypeTree) → LaterStep k (source_step.declare_new ns v a i r t) (source_step.declare_new ns (with_left v sum) a i r t)
  new_later a i r (PromiseType t) = asks_later k _ _ v.left sum e
  new_later a i r (PromiseStreamType t) = asks_later k _ _ v.left sum e
  new_later a i r IntType = default_later a i r IntType
  new_later a i r BoolType = default_later a i r BoolType
  new_later a i r StringType = default_later a i r StringType
  new_later a i r VoidType = default_later a i r VoidType
  new_later a i r ErrorType = default_later a i r ErrorType
  new_later a i r (NamedType n) = default_later a i r (NamedType n)
  new_later a i r (FutureType t) = default_later a i r (FutureType t)
  new_later a i r (FutureStreamType t) = default_later a i r (FutureStreamType t)
  new_later a i r (VectorType t) = default_later a i r (VectorType t)
  new_later a i r NothingType = default_later a i r NothingType

  declares_later : (a : Actor) (i : IntoTree) (o : Option ExprTree) (r : List Item) → LaterStep k (source_step.declares ns v a i o r) (source_step.declares ns (with_left v sum) a i o r)
  declares_later a i (Some x) r = store_by_later (effect_in ns x) a (Declared i) x r
  declares_later a i None r = new_later a i r i.ty

  throw_value_later : (a : Actor) (o : Option ℕ) (l m : ℕ) → m ≡ l + k → LaterStep k (source_step.throw_value ns v a o l) (source_step.throw_value ns (with_left v sum) a o m)
  throw_value_later a None l m h = stuck_later k a _
  throw_value_later a (Some err) l m h = asks_later k (Throws err) a l m h

  throws_later : (a : Actor) (o : Option ExprTree) (c : Option (List ℕ)) → LaterStep k (source_step.throws ns v a o c) (source_step.throws ns (with_left v sum) a o c)
  throws_later a (Some x) c =
      evaluated_later k a (λ u left. source_step.throw_value ns v a (error_of u) left) (λ u l m h. throw_value_later a (error_of u) l m h)
      (value ns v (look a.vars) x) (value ns (with_left v sum) (look a.vars) x) (value_later (look a.vars) x)
  throws_later a None None = stuck_later k a _
  throws_later a None (Some x) = throw_value_later a (bind (look a.vars x) error_of) v.left sum e

  modified_later : (a : Actor) (o : Option ExprTree) (xs : List Ident) (r : List Item)
      → LaterStep k (given a o (λ x. source_step.store ns v a (Path xs) x r)) (given a o (λ x. source_step.store ns (with_left v sum) a (Path xs) x r))
  modified_later a o xs r = given_later k a o _ _ (λ x. store_by_later (effect_in ns x) a (Path xs) x r)

  ref_later : (p : Spot) (a : Actor) (u : ValueTree) (l m : ℕ) → m ≡ l + k → LaterStep k (source_step.operand_ref ns v l p a u) (source_step.operand_ref ns (with_left v sum) m p a u)
  ref_later p a (RefValue kd cell) l m h = asks_later k (Operand p (kd, cell)) a l m h
  ref_later p a _ l m h = stuck_later k a _

  operand_later : (o : Option (Effectful × ExprTrees)) (a : Actor) (p : Spot) (x : ExprTree) → LaterStep k (source_step.operand_by ns v o a p x) (source_step.operand_by ns (with_left v sum) o a p x)
  operand_later (Some g) a p x = effects_later a (Kept p) g
  operand_later None a p x =
      evaluated_later k a (λ u left. source_step.operand_ref ns v left p a u) (λ u l m h. ref_later p a u l m h)
      (value ns v (look a.vars) x) (value ns (with_left v sum) (look a.vars) x) (value_later (look a.vars) x)

  await_later : (a : Actor) (p : Spot) (o : Option ExprTree) → LaterStep k (source_step.await ns v a p o) (source_step.await ns (with_left v sum) a p o)
  await_later a p (Some x) = operand_later (effect_in ns x) a p x
  await_later a p None = asks_later k _ _ v.left sum e

  end_later : (a : Actor) (void : Bool) (r : List Item) → LaterStep k (source_step.end_body ns v a void r) (source_step.end_body ns (with_left v sum) a void r)
  end_later a void (i ∷ r) = quiet_later k _
  end_later a true [] = asks_later k _ _ v.left sum e
  end_later a false [] = asks_later k (Throws operation_cancelled) a v.left sum e

  body_later : (a : Actor) (s : Site) (b : Body) (r : List Item) → LaterStep k (source_step.do_body ns v a s b r) (source_step.do_body ns (with_left v sum) a s b r)
  body_later a s End r = end_later a s.is_void r
  body_later a s (IfStmt at x b n) r = test_later a x _ _
  body_later a s (IfElseStmt at x b c n) r = test_later a x _ _
  body_later a s (BreakStmt at n) r = exit_later source_step.Breaks (Do s (BreakStmt at n)) a r
  body_later a s (ContinueStmt at n) r = exit_later source_step.Continues (Do s (ContinueStmt at n)) a r
  body_later a s (ReturnStmt at x n) r =
      evaluated_later k a (λ u left. asks left (Returns u (everything a.vars)) over) (λ u l m h. asks_later k (Returns u (everything a.vars)) over l m h)
      (value ns v (look a.vars) (returned_expr x)) (value ns (with_left v sum) (look a.vars) (returned_expr x)) (value_later (look a.vars) (returned_expr x))
  body_later a s (ThrowStmt at x n) r = throws_later a x s.caught
  body_later a s (ChooseStmt at bs n) r = await_later a s.spot (operand (OneOf bs) v.kept)
  body_later a s (DeclareStmt at i x n) r = declares_later a i x (Do s n ∷ r)
  body_later a s (AssignStmt at xs x n) r = store_by_later (effect_in ns x) a (Path xs) x (Do s n ∷ r)
  body_later a s (ModifyStmt at xs c n) r = modified_later a (change xs c) xs (Do s n ∷ r)
  body_later a s (CallStmt at xs es n) r = call_later (look a.vars) a (actor a.vars (Do s n ∷ r)) (source_step.put_path ns v a (Do s n ∷ r)) xs es
  body_later a s (WaitStmt at w n) r = await_later a s.spot (operand (Single w) v.kept)
  body_later a s _ r = quiet_later k _

  check_later : (a : Actor) (l : Loop) (o : Option ExprTree) (r : List Item) → LaterStep k (source_step.check ns v a l o r) (source_step.check ns (with_left v sum) a l o r)
  check_later a l None r = quiet_later k _
  check_later a l (Some x) r = test_later a x _ _

  item_later : (a : Actor) (r : List Item) → LaterStep k (source_step.do_item ns v a r) (source_step.do_item ns (with_left v sum) a r)
  item_later a [] = stuck_later k a _
  item_later a (Do s b ∷ r) = body_later a s b r
  item_later a (Leave ∷ r) = scope_later a.vars r
  item_later a (Round l ∷ r) = asks_later k Pass _ v.left sum e
  item_later a (Check l ∷ r) = check_later a l l.condition r
  item_later a (Made l ∷ r) = quiet_later k _
  item_later a (Handler x s h ∷ r) = quiet_later k _
  item_later a (Over ∷ r) = stuck_later k a _

  -- frames
  module _ (f : frame.Frame) where
    frame_effects : (g : Goal) (x : Effectful × ExprTrees) → LaterStep k (class.effects ns v f g x) (class.effects ns (with_left v sum) f g x)
    frame_effects g x =
        evaluated_later k f (λ vs left. given f (effect_of x.0 vs) (λ eff. asks left (Effects g eff) f))
        (λ vs l m h. given_later k f (effect_of x.0 vs) (λ eff. asks l (Effects g eff) f) (λ eff. asks m (Effects g eff) f) (λ eff. asks_later k (Effects g eff) f l m h))
        (values ns v (frame.look f.mem) x.1) (values ns (with_left v sum) (frame.look f.mem) x.1) (values_later (frame.look f.mem) x.1)

    frame_value : (go : ValueTree → ℕ → StepOf frame.Frame) → ((u : ValueTree) (l m : ℕ) → m ≡ l + k → LaterStep k (go u l) (go u m)) → (x : ExprTree)
        → LaterStep k (evaluated f (value ns v (frame.look f.mem) x) go) (evaluated f (value ns (with_left v sum) (frame.look f.mem) x) go)
    frame_value go h x = evaluated_later k f go h (value ns v (frame.look f.mem) x) (value ns (with_left v sum) (frame.look f.mem) x) (value_later (frame.look f.mem) x)

    new_instr_later : (p : Slotted) (t : TypeTree) (o : Option Kind) → LaterStep k (class.new_by ns v f p t o) (class.new_by ns (with_left v sum) f p t o)
    new_instr_later p t (Some kd) = asks_later k (Effects Stored (Make kd)) f v.left sum e
    new_instr_later p t None =
        given_later k f (default_value t) _ _ (λ u. given_later k f (frame.put_at ns.records f.mem p [] u) (class.placed ns v f v.left) (class.placed ns (with_left v sum) f sum)
        (λ q. asks_later k (Drops q.0) (frame.next_instr q.1 f) v.left sum e))

    instruction_later : (i : InstrTree) → LaterStep k (class.instruction ns v f i) (class.instruction ns (with_left v sum) f i)
    instruction_later (SetInstr path x) =
        frame_value (λ u left. given f (frame.assign ns.records f.mem path u) (class.placed ns v f left))
        (λ u l m h. given_later k f (frame.assign ns.records f.mem path u) (class.placed ns v f l) (class.placed ns v f m) (λ p. asks_later k (Drops p.0) (frame.next_instr p.1 f) l m h)) x
    instruction_later (EffectInstr path x) = given_later k f (effect_in ns x) _ _ (frame_effects Stored)
    instruction_later (NewInstr p) =
        given_later k f (class_code.type_at f.code p) _ _ (λ t. new_instr_later p t (class.promise_kind t))
    instruction_later (ActInstr path es) = call_later (frame.look f.mem) f (frame.next_instr f.mem f) (class.put_path ns v f) path es
    instruction_later (DropInstr ls) = asks_later k _ _ v.left sum e

    frame_test : (b : Option Bool) (y n : ℕ) (l m : ℕ) → m ≡ l + k → LaterStep k (class.test ns v f l b y n) (class.test ns (with_left v sum) f m b y n)
    frame_test None y n l m h = stuck_later k f _
    frame_test (Some true) y n l m h = asks_later k Goes _ l m h
    frame_test (Some false) y n l m h = asks_later k Goes _ l m h

    frame_ref : (p : Spot) (u : ValueTree) (l m : ℕ) → m ≡ l + k → LaterStep k (class.operand_ref ns v f l p u) (class.operand_ref ns (with_left v sum) f m p u)
    frame_ref p (RefValue kd cell) l m h = asks_later k (Operand p (kd, cell)) f l m h
    frame_ref p _ l m h = stuck_later k f _

    frame_operand : (p : Spot) (x : ExprTree) (o : Option (Effectful × ExprTrees)) → LaterStep k (class.operand_by ns v f p x o) (class.operand_by ns (with_left v sum) f p x o)
    frame_operand p x (Some g) = frame_effects (Kept p) g
    frame_operand p x None = frame_value (λ u left. class.operand_ref ns v f left p u) (λ u l m h. frame_ref p u l m h) x

    frame_choose : (p : Spot) (o : Option CallbackTree) → LaterStep k (class.choose ns v f p o) (class.choose ns (with_left v sum) f p o)
    frame_choose p (Some c) = frame_operand p c.operand (effect_in ns c.operand)
    frame_choose p None = asks_later k _ _ v.left sum e

    frame_throw : (o : Option ℕ) (l m : ℕ) → m ≡ l + k → LaterStep k (class.throw_value ns v f l o) (class.throw_value ns (with_left v sum) f m o)
    frame_throw None l m h = stuck_later k f _
    frame_throw (Some err) l m h = asks_later k (Throws err) f l m h

    last_later : (t : LastTree) → LaterStep k (class.last ns v f t) (class.last ns (with_left v sum) f t)
    last_later (GotoLast b) = quiet_later k _
    last_later (PassLast b) = asks_later k Pass _ v.left sum e
    last_later (TestLast x b c) = frame_value (λ u left. class.test ns v f left (bool_of u) b c) (λ u l m h. frame_test (bool_of u) b c l m h) x
    last_later (ChooseLast g) = frame_choose (frame.spot_of f.code g) (class_code.callback_at f.code g v.kept)
    last_later (ReturnLast x) =
        frame_value (λ u left. asks left (Returns u (frame.everything f.mem)) frame.over) (λ u l m h. asks_later k (Returns u (frame.everything f.mem)) frame.over l m h) (returned_expr x)
    last_later (ThrowLast x) = frame_value (λ u left. class.throw_value ns v f left (error_of u)) (λ u l m h. frame_throw (error_of u) l m h) x

    fetched_later : (x : class_code.Fetched) → LaterStep k (class.fetched ns v f x) (class.fetched ns (with_left v sum) f x)
    fetched_later (class_code.Body i) = instruction_later i
    fetched_later (class_code.Last l) = last_later l
    fetched_later class_code.Nothing = stuck_later k f _

pub source_thrifty : (p : ProgramTree) → Thrifty (source p)
source_thrifty p = record { same = λ k sum v a e. item_later k (names_of p) v sum e a a.rest }

pub classes_thrifty : (c : RawTree) → Thrifty (class.classes c)
classes_thrifty c = record { same = λ k sum v f e. fetched_later k (class.class_names c) v sum e f (class_code.fetch f.code f.block f.instr) }
