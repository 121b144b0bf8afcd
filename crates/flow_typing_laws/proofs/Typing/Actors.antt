-- The actors in which no rule fails are well typed.
use Rattle.std.proofs.Common.{◌≡◌, ℕ, zero, suc, Bool, true, false, not, List, [], ◌∷◌, ◌++◌, slice_get, refl, sym, ap, subst, ◌∙◌, ◌||◌}
use Rattle.std.proofs.lemmas.Bool.{false≢true}
use Rattle.std.specs.declared.option.Option.{Option}
use Rattle.std.specs.declared.option.Option.TheVariants.{None, Some}
use Rattle.flow_base.specs.declared.place.Place.{Place}
use Rattle.flow_tree.specs.declared.ty.Ident.{Ident}
use Rattle.flow_tree.specs.Tree.{TypeTree, BoolType, ErrorType, ExprTree}
use Rattle.flow_tree.specs.Body.{IntoTree, WaitTree, Body, End, BlockStmt, IfStmt, IfElseStmt, WhileStmt, ForStmt, LoopStmt, BreakStmt, ContinueStmt, ReturnStmt, ThrowStmt, TryStmt, ChooseStmt, DeclareStmt, AssignStmt, ModifyStmt, CallStmt, WaitStmt, Branches, NoBranches, MoreBranches}
use Rattle.flow_tree.specs.Decls.{ParamTree, RoutineTree, DeclTree, StructDecl, FunctionDecl, ActorDecl}
use Rattle.flow_tree.proofs.ForParts.{InitKind, no_init, declares, assigns, modifies, init_kind, StepKind, no_step, assigned, modified, step_kind}
use Rattle.flow_ast.specs.Fits.{declared_in, path_type, ThrowFits}
use Rattle.flow_rules.specs.declared.rule.SemanticRule.TheVariants.{WrongType, NeedsValue, FallsOff, BreakOutside, WaitInFunction}
use Rattle.flow_rules.specs.Least.{lesser, unless}
use Rattle.flow_rules.specs.Known.{known}
use Rattle.flow_rules.specs.Judged.{Setting, form, fault, wanted, wants, returned}
use Rattle.flow_rules.specs.Closing as closing
use Rattle.flow_rules.specs.Items.{Env, item, with_var, with_states, in_loop, in_catch, behind, declared, waited, started, fresh, into_fault, value_fault, target_form, target_fault, assign_fault, modify_fault, call_fault, test_fault, maybe_test, throw_fault, declare_fault, wait_fault, maybe_into, wait_type, body_refusal, branch_refusal, slot_names}
use Rattle.flow_rules.specs.Items as rule
use Rattle.flow_ast.specs.Slots.{body_slots, branch_slots, waited_slots}
use Rattle.flow_ast.specs.Typing.{is_nothing}
use Rattle.flow_rules.specs.Rules.{setting_of, header_fault, body_env, routine_refusal, decl_refusal, decls_refusal}
use Rattle.flow_rules.proofs.Lesser.{no_first, no_second, holds, no_item}
use Rattle.flow_typing_laws.specs.ControlFlow.Laws.{HasSimpleParts, HaveSimpleParts, AllHaveSimpleParts}
use Rattle.flow_meaning.specs.Source.{records_in, functions_in, actors_in}
use Rattle.flow_typing_laws.specs.Typing.Scopes.{scope_in, setting_in}
use Rattle.flow_typing_laws.specs.Typing.Joined.{IsTyped}
use Rattle.flow_tree.specs.Formed.{IsPath}
use Rattle.flow_typing_laws.specs.Typing.Paths.{HasPaths, HavePaths, AllHavePaths}
use Rattle.flow_typing_laws.specs.Typing.ActorFits.{into_param, waited_params, Gives, ValueGiven, StandsWell, StandWell, ActorFits, ResultGiven}
use Rattle.flow_typing_laws.proofs.Typing.Names.{none_some, some_same}
use Rattle.flow_typing_laws.proofs.Typing.Expressions.{typed, wanted_is}
use Rattle.flow_typing_laws.proofs.Typing.Agreement.{Distinct, agrees, neither_first, neither_second, not_true}
use Rattle.flow_typing_laws.proofs.Typing.Standing.{caught_param, Stands, stands_behind, stands_loop, stands_declared, stands_caught, at_item, stands_started}
use Rattle.flow_typing_laws.proofs.Typing.CallsFitting.{call_stands}
use Rattle.flow_typing_laws.proofs.Typing.Statements.{yields, maybe_yields, target, modify_fits}

module _ (ds : List DeclTree) (apart : Distinct ds) where
  abbrev at_actor : List ParamTree → Setting
  at_actor vars = setting_in ds false vars

  judged : (vars : List ParamTree) (whole : Bool) (e : ExprTree) → fault (at_actor vars) whole e ≡ None → IsTyped (at_actor vars) (scope_in ds vars) whole e
  judged vars whole e h = typed (at_actor vars) (scope_in ds vars) (agrees ds vars apart false) whole e h

  gives : (vars : List ParamTree) (e : ExprTree) (t : TypeTree) → wanted (at_actor vars) true e t ≡ None → Gives ds vars e t
  gives vars e t h =
      let k = judged vars true e (no_first (fault (at_actor vars) true e) (wants (form (at_actor vars) e) t) h) in
      let same = wanted_is (form (at_actor vars) e) k.type t k.by_form (no_second (fault (at_actor vars) true e) (wants (form (at_actor vars) e) t) h) in
      (k.in_scope ∙ ap Some same, k.inside)

  value_given : (vars : List ParamTree) (states : List (List ℕ)) (i : IntoTree) (v : Option ExprTree) → declare_fault (at_actor vars) states i v ≡ None → ValueGiven ds vars i.ty v
  value_given vars states i None h = holds (rule.has_default i.ty) NeedsValue (no_second (into_fault (at_actor vars) states i) (value_fault (at_actor vars) i.ty None) h)
  value_given vars states i (Some v) h = gives vars v i.ty (no_second (into_fault (at_actor vars) states i) (value_fault (at_actor vars) i.ty (Some v)) h)

  assign_gives : (vars : List ParamTree) (xs : List Ident) (v : ExprTree) → IsPath xs → assign_fault (at_actor vars) xs v ≡ None
      → (t : TypeTree) × (path_type (records_in ds) vars xs ≡ Some t) × Gives ds vars v t
  assign_gives vars xs v p h =
      let s = at_actor vars in
      let l = lesser (target_fault s xs) (fault s true v) in
      let a = no_first l (rule.assigned (form s v) (target_form s xs)) h in
      let t = target ds apart false vars xs p (no_first (target_fault s xs) (fault s true v) a) in
      let k = judged vars true v (no_second (target_fault s xs) (fault s true v) a) in
      let w = ap (rule.assigned (form s v)) (sym t.by_form) ∙ no_second l (rule.assigned (form s v) (target_form s xs)) h in
      let same = wanted_is (form s v) k.type t.type k.by_form w in
      (t.type, t.in_scope, (k.in_scope ∙ ap Some same, k.inside))

  wait_gives : (vars : List ParamTree) (states : List (List ℕ)) (w : WaitTree) → wait_fault (at_actor vars) states w ≡ None → Gives ds vars w.operand (wait_type w.next w.into)
  wait_gives vars states w h =
      let s = at_actor vars in
      let q = wanted s true w.operand (wait_type w.next w.into) in
      gives vars w.operand (wait_type w.next w.into) (no_first q (unless (not s.plain) WaitInFunction) (no_second (maybe_into s states w.into) (lesser q (unless (not s.plain) WaitInFunction)) h))

  throw_stands : (e : Env) (vars : List ParamTree) (r : TypeTree) (loop : Bool) (c : Option (List ℕ)) (at : Place) (v : Option ExprTree) → Stands ds false e vars r loop c
      → item at (throw_fault e.setting e.caught v) ≡ None
      → ThrowFits (records_in ds) (functions_in ds) (actors_in ds) vars c v
  throw_stands e vars r loop c at None k h = k.in_caught (holds e.caught BreakOutside (no_item at (throw_fault e.setting e.caught None) h))
  throw_stands e vars r loop c at (Some v) k h = yields ds apart false vars v ErrorType (at_item ds false e vars at (λ s. wanted s false v ErrorType) k.setting h)

  stands_waited : (e : Env) (o : Option IntoTree) (vars : List ParamTree) (r : TypeTree) (loop : Bool) (c : Option (List ℕ)) → Stands ds false e vars r loop c
      → Stands ds false (waited e o) (waited_params vars o) r loop c
  stands_waited e None vars r loop c k = k
  stands_waited e (Some i) vars r loop c k = stands_declared ds false e i vars r loop c k

  stands_states : (e : Env) (xs : List (List ℕ)) (vars : List ParamTree) (r : TypeTree) (loop : Bool) (c : Option (List ℕ)) → Stands ds false e vars r loop c
      → Stands ds false (with_states e xs) vars r loop c
  stands_states e xs vars r loop c k = record { setting = k.setting; returns = k.returns; looped = k.looped; in_caught = k.in_caught }

  -- the init and the step of a `for`
  init_stands : (e : Env) (vars : List ParamTree) (r : TypeTree) (c : Option (List ℕ)) (i : Body) → e.setting ≡ at_actor vars → InitKind i → HasPaths i → body_refusal e i ≡ None
      → StandsWell ds r false c vars i
  init_stands e vars r c _ k no_init p h = tt
  init_stands e vars r c _ k (declares at i v) p h = (
    value_given vars e.states i v
        (at_item ds false e vars at (λ s. declare_fault s e.states i v) k (neither_first (item at (declare_fault e.setting e.states i v)) None h)),
    tt,
  )
  init_stands e vars r c _ k (assigns at xs v) p h = (
    assign_gives vars xs v p.0
        (at_item ds false e vars at (λ s. assign_fault s xs v) k (neither_first (item at (assign_fault e.setting xs v)) None h)),
    tt,
  )
  init_stands e vars r c _ k (modifies at xs d) p h = (
    modify_fits ds apart false vars xs d p.0
        (at_item ds false e vars at (λ s. modify_fault s xs d) k (neither_first (item at (modify_fault e.setting xs d)) None h)),
    tt,
  )

  step_stands : (e : Env) (vars : List ParamTree) (r : TypeTree) (c : Option (List ℕ)) (t : Body) → e.setting ≡ at_actor vars → StepKind t → HasPaths t → body_refusal e t ≡ None
      → StandsWell ds r false c vars t
  step_stands e vars r c _ k no_step p h = tt
  step_stands e vars r c _ k (assigned at xs v) p h = (
    assign_gives vars xs v p.0
        (at_item ds false e vars at (λ s. assign_fault s xs v) k (neither_first (item at (assign_fault e.setting xs v)) None h)),
    tt,
  )
  step_stands e vars r c _ k (modified at xs d) p h = (
    modify_fits ds apart false vars xs d p.0
        (at_item ds false e vars at (λ s. modify_fault s xs d) k (neither_first (item at (modify_fault e.setting xs d)) None h)),
    tt,
  )

  result_given : (vars : List ParamTree) (v : Option ExprTree) (r : TypeTree) → returned (at_actor vars) v r ≡ None → ResultGiven ds vars r v
  result_given vars None r h = holds (is_nothing r) WrongType h
  result_given vars (Some e) r h = yields ds apart false vars e r h

  mutual
    stands_well : (b : Body) (e : Env) (vars : List ParamTree) (r : TypeTree) (loop : Bool) (c : Option (List ℕ)) → Stands ds false e vars r loop c → HasSimpleParts b → HasPaths b
        → body_refusal e b ≡ None → StandsWell ds r loop c vars b
    stands_well End e vars r loop c k s p h = tt
    stands_well (BlockStmt at b t) e vars r loop c k s p h = (
      stands_well b e vars r loop c k s.1 p.1 (neither_first (body_refusal e b) _ h),
      stands_well t (behind e b) vars r loop c (stands_behind ds false e b vars r loop c k) s.2 p.2
          (neither_second (body_refusal e b) _ h),
    )
    stands_well (IfStmt at q b t) e vars r loop c k s p h =
        let i = item at (test_fault e.setting q) in
        let l = neither_second i _ h in (
          yields ds apart false vars q BoolType (at_item ds false e vars at (λ s. test_fault s q) k.setting (neither_first i _ h)),
          stands_well b e vars r loop c k s.1 p.1 (neither_first (body_refusal e b) _ l),
          stands_well t (behind e b) vars r loop c (stands_behind ds false e b vars r loop c k) s.2 p.2 (neither_second (body_refusal e b) _ l),
        )
    stands_well (IfElseStmt at q b o t) e vars r loop c k s p h =
        let i = item at (test_fault e.setting q) in
        let l = neither_second i _ h in
        let m = neither_second (body_refusal e b) _ l in
        let kb = stands_behind ds false e b vars r loop c k in (
          yields ds apart false vars q BoolType (at_item ds false e vars at (λ s. test_fault s q) k.setting (neither_first i _ h)),
          stands_well b e vars r loop c k s.1 p.1 (neither_first (body_refusal e b) _ l),
          stands_well o (behind e b) vars r loop c kb s.2 p.2 (neither_first (body_refusal (behind e b) o) _ m),
          stands_well t (behind (behind e b) o) vars r loop c (stands_behind ds false (behind e b) o vars r loop c kb) s.3 p.3 (neither_second (body_refusal (behind e b) o) _ m),
        )
    stands_well (WhileStmt at q b t) e vars r loop c k s p h =
        let i = item at (test_fault e.setting q) in
        let l = neither_second i _ h in (
          yields ds apart false vars q BoolType (at_item ds false e vars at (λ s. test_fault s q) k.setting (neither_first i _ h)),
          stands_well b (in_loop e) vars r true c (stands_loop ds false e vars r loop c k) s.1 p.1 (neither_first (body_refusal (in_loop e) b) _ l),
          stands_well t (behind e b) vars r loop c (stands_behind ds false e b vars r loop c k) s.2 p.2 (neither_second (body_refusal (in_loop e) b) _ l),
        )
    stands_well (ForStmt at j q n b t) e vars r loop c k s p h =
        let kind = init_kind j s.0.0 in
        let ws = vars ++ declared_in j in
        let e' = started e j in
        let ks = stands_started ds false e j vars r loop c kind k in
        let l = neither_second (body_refusal e j) _ h in
        let i = item at (maybe_test e'.setting q) in
        let m = neither_second i _ l in
        let o = neither_second (body_refusal e' n) _ m in
        let e'' = behind e' n in
        let kn = stands_behind ds false e' n ws r loop c ks in
        let ej = behind e j in
        let en = behind ej n in (
          init_stands e vars r c j k.setting kind p.1 (neither_first (body_refusal e j) _ h),
          maybe_yields ds apart false ws q (at_item ds false e' ws at (λ s. maybe_test s q) ks.setting (neither_first i _ l)),
          step_stands e' ws r c n ks.setting (step_kind n s.0.1) p.2 (neither_first (body_refusal e' n) _ m),
          stands_well b (in_loop e'') ws r true c (stands_loop ds false e'' ws r loop c kn) s.3 p.3 (neither_first (body_refusal (in_loop e'') b) _ o),
          stands_well t (behind en b) vars r loop c (stands_behind ds false en b vars r loop c (stands_behind ds false ej n vars r loop c (stands_behind ds false e j vars r loop c k))) s.4 p.4
              (neither_second (body_refusal (in_loop e'') b) _ o),
        )
    stands_well (LoopStmt at b t) e vars r loop c k s p h = (
      stands_well b (in_loop e) vars r true c (stands_loop ds false e vars r loop c k) s.1 p.1 (neither_first (body_refusal (in_loop e) b) _ h),
      stands_well t (behind e b) vars r loop c (stands_behind ds false e b vars r loop c k) s.2 p.2 (neither_second (body_refusal (in_loop e) b) _ h),
    )
    stands_well (BreakStmt at t) e vars r loop c k s p h =
        let i = unless e.looped BreakOutside in
        (k.looped (holds e.looped BreakOutside (no_item at i (neither_first (item at i) _ h))), stands_well t e vars r loop c k s.1 p.1 (neither_second (item at i) _ h))
    stands_well (ContinueStmt at t) e vars r loop c k s p h =
        let i = unless e.looped BreakOutside in
        (k.looped (holds e.looped BreakOutside (no_item at i (neither_first (item at i) _ h))), stands_well t e vars r loop c k s.1 p.1 (neither_second (item at i) _ h))
    stands_well (ReturnStmt at v t) e vars r loop c k s p h =
        let i = item at (returned e.setting v e.returns) in (
          result_given vars v r (ap (returned (at_actor vars) v) (sym k.returns) ∙ at_item ds false e vars at (λ s. returned s v e.returns) k.setting (neither_first i _ h)),
          stands_well t e vars r loop c k s.1 p.1 (neither_second i _ h),
        )
    stands_well (ThrowStmt at v t) e vars r loop c k s p h =
        let i = item at (throw_fault e.setting e.caught v) in
        (throw_stands e vars r loop c at v k (neither_first i _ h), stands_well t e vars r loop c k s.1 p.1 (neither_second i _ h))
    stands_well (TryStmt at b q x o t) e vars r loop c k s p h =
        let eb = behind e b in
        let kb = stands_behind ds false e b vars r loop c k in
        let l = neither_second (body_refusal e b) _ h in
        let i = item q (fresh e.setting eb.states false x.name) in
        let m = neither_second i _ l in
        let ec = in_catch (with_var eb x.name ErrorType) in
        let kc = stands_caught ds false eb x eb.states vars r loop c kb (no_item q (fresh e.setting eb.states false x.name) (neither_first i _ l)) in (
          stands_well b e vars r loop c k s.1 p.1 (neither_first (body_refusal e b) _ h),
          stands_well o ec (vars ++ caught_param x ∷ []) r loop (Some x.name) kc s.2 p.2 (neither_first (body_refusal ec o) _ m),
          stands_well t (behind eb o) vars r loop c (stands_behind ds false eb o vars r loop c kb) s.3 p.3 (neither_second (body_refusal ec o) _ m),
        )
    stands_well (ChooseStmt at bs t) e vars r loop c k s p h =
        let i = item at (unless (not e.setting.plain) WaitInFunction) in
        let l = neither_second i _ h in
        let e' = with_states e (slot_names (branch_slots bs)) in (
          stand_well bs e vars r loop c k s.1 p.1 (neither_first (branch_refusal e bs) _ l),
          stands_well t e' vars r loop c (stands_states e (slot_names (branch_slots bs)) vars r loop c k) s.2 p.2
              (neither_second (branch_refusal e bs) _ l),
        )
    stands_well (DeclareStmt at i v t) e vars r loop c k s p h =
        let f = item at (declare_fault e.setting e.states i v) in (
          value_given vars e.states i v (at_item ds false e vars at (λ s. declare_fault s e.states i v) k.setting (neither_first f _ h)),
          stands_well t (declared e i) (vars ++ into_param i ∷ []) r loop c (stands_declared ds false e i vars r loop c k) s.1 p.1 (neither_second f _ h),
        )
    stands_well (AssignStmt at xs v t) e vars r loop c k s p h =
        let f = item at (assign_fault e.setting xs v) in
        (assign_gives vars xs v p.0 (at_item ds false e vars at (λ s. assign_fault s xs v) k.setting (neither_first f _ h)), stands_well t e vars r loop c k s.1 p.1 (neither_second f _ h))
    stands_well (ModifyStmt at xs d t) e vars r loop c k s p h =
        let f = item at (modify_fault e.setting xs d) in (
          modify_fits ds apart false vars xs d p.0 (at_item ds false e vars at (λ s. modify_fault s xs d) k.setting (neither_first f _ h)),
          stands_well t e vars r loop c k s.1 p.1
              (neither_second f _ h),
        )
    stands_well (CallStmt at xs es t) e vars r loop c k s p h =
        let f = item at (call_fault e.setting xs es) in
        (call_stands ds apart vars xs es p.0 (at_item ds false e vars at (λ s. call_fault s xs es) k.setting (neither_first f _ h)), stands_well t e vars r loop c k s.1 p.1 (neither_second f _ h))
    stands_well (WaitStmt at w t) e vars r loop c k s p h =
        let f = item at (wait_fault e.setting e.states w) in (
          wait_gives vars e.states w (at_item ds false e vars at (λ s. wait_fault s e.states w) k.setting (neither_first f _ h)),
          stands_well t (waited e w.into) (waited_params vars w.into) r loop c (stands_waited e w.into vars r loop c k) s.1 p.1 (neither_second f _ h),
        )

    stand_well : (bs : Branches) (e : Env) (vars : List ParamTree) (r : TypeTree) (loop : Bool) (c : Option (List ℕ)) → Stands ds false e vars r loop c → HaveSimpleParts bs → HavePaths bs
        → branch_refusal e bs ≡ None → StandWell ds r loop c vars bs
    stand_well NoBranches e vars r loop c k s p h = tt
    stand_well (MoreBranches at w b bs) e vars r loop c k s p h =
        let f = item at (wait_fault e.setting e.states w) in
        let l = neither_second f _ h in
        let xs = slot_names (waited_slots w ++ body_slots b) in (
          wait_gives vars e.states w (at_item ds false e vars at (λ s. wait_fault s e.states w) k.setting (neither_first f _ h)),
          stands_well b (waited e w.into) (waited_params vars w.into) r loop c (stands_waited e w.into vars r loop c k) s.1 p.1 (neither_first (body_refusal (waited e w.into) b) _ l),
          stand_well bs (with_states e xs) vars r loop c (stands_states e xs vars r loop c k) s.2 p.2 (neither_second (body_refusal (waited e w.into) b) _ l),
        )

  -- the actors of a program
  actor_fits : (before : List DeclTree) (f : RoutineTree) → routine_refusal (known before) (setting_of ds false) f ≡ None → HasSimpleParts f.body → HasPaths f.body → ActorFits ds f
  actor_fits before f h s p =
      let e = body_env (setting_of ds false) f in
      let i = item f.at (header_fault (known before) (setting_of ds false) f) in
      let l = neither_second i _ h in
      let k : Stands ds false e f.params f.returns false None = record { setting = refl; returns = refl; looped = λ z. z; in_caught = λ z. absurd (false≢true z) } in
      let q = no_item f.close (unless (is_nothing f.returns || not (closing.ways f.body).end) FallsOff) (neither_second (body_refusal e f.body) _ l) in (
        stands_well f.body e f.params f.returns false None k s p (neither_first (body_refusal e f.body) _ l),
        λ n. not_true (closing.ways f.body).end
            (subst (λ z. z || not (closing.ways f.body).end ≡ true) n (holds (is_nothing f.returns || not (closing.ways f.body).end) FallsOff q)),
      )

  pub actors_fit : (before rest : List DeclTree) → decls_refusal (setting_of ds) before rest ≡ None → AllHaveSimpleParts rest → AllHavePaths rest → (k : ℕ) (a : RoutineTree)
      → slice_get (actors_in rest) k ≡ Some a → ActorFits ds a
  actors_fit before [] h s p k a e = absurd (none_some e)
  actors_fit before (StructDecl r ∷ rest) h s p k a e = actors_fit (before ++ StructDecl r ∷ []) rest (neither_second (decl_refusal (setting_of ds) (known before) (StructDecl r)) _ h) s.1 p.1 k a e
  actors_fit before (FunctionDecl f ∷ rest) h s p k a e = actors_fit (before ++ FunctionDecl f ∷ []) rest (neither_second (decl_refusal (setting_of ds) (known before) (FunctionDecl f)) _ h) s.1 p.1 k
      a e
  actors_fit before (ActorDecl g ∷ rest) h s p zero a e = subst (ActorFits ds) (some_same g a e)
      (actor_fits before g (neither_first (decl_refusal (setting_of ds) (known before) (ActorDecl g)) _ h) s.0 p.0)
  actors_fit before (ActorDecl g ∷ rest) h s p (suc k) a e = actors_fit (before ++ ActorDecl g ∷ []) rest (neither_second (decl_refusal (setting_of ds) (known before) (ActorDecl g)) _ h) s.1 p.1 k a e
