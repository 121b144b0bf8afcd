-- The bodies of functions in which no rule fails are well typed.
use Rattle.std.proofs.Common.{◌≡◌, ℕ, zero, suc, Bool, true, false, not, ◌&&◌, ◌||◌, List, [], ◌∷◌, ◌++◌, slice_get, refl, sym, ap, ap₂, subst, ◌∙◌}
use Rattle.std.proofs.lemmas.Bool.{false≢true}
use Rattle.std.specs.declared.option.Option.{Option}
use Rattle.std.specs.declared.option.Option.TheVariants.{None, Some}
use Rattle.flow_base.specs.declared.place.Place.{Place}
use Rattle.flow_tree.specs.Tree.{TypeTree, BoolType, ErrorType, ExprTree}
use Rattle.flow_tree.specs.Body.{Body, End, BlockStmt, IfStmt, IfElseStmt, WhileStmt, ForStmt, LoopStmt, BreakStmt, ContinueStmt, ReturnStmt, ThrowStmt, TryStmt, ChooseStmt, DeclareStmt, AssignStmt, ModifyStmt, CallStmt, WaitStmt}
use Rattle.flow_tree.specs.Decls.{ParamTree, RecordTree, RoutineTree, DeclTree, StructDecl, FunctionDecl, ActorDecl}
use Rattle.flow_tree.proofs.ForParts.{InitKind, no_init, declares, assigns, modifies, init_kind, StepKind, no_step, assigned, modified, step_kind}
use Rattle.flow_ast.specs.Typing.{is_there}
use Rattle.flow_ast.specs.Leaving.{has_statement}
use Rattle.flow_ast.specs.Fits.{declared_in, ThrowFits, BodyFits, FunctionFits, FunctionsFit, ReturnFits}
use Rattle.flow_rules.specs.declared.rule.SemanticRule.TheVariants.{FallsOff, BreakOutside, WaitInFunction}
use Rattle.flow_rules.specs.Least.{unless}
use Rattle.flow_rules.specs.Known.{known}
use Rattle.flow_rules.specs.Judged.{Setting, wanted, returned}
use Rattle.flow_rules.specs.Closing as closing
use Rattle.flow_rules.specs.Items.{Env, item, with_var, in_loop, in_catch, behind, declared, started, fresh, assign_fault, modify_fault, call_fault, test_fault, maybe_test, throw_fault, declare_fault, wait_fault, maybe_into, wait_type, body_refusal}
use Rattle.flow_rules.specs.Rules.{setting_of, header_fault, body_env, routine_refusal, decl_refusal, decls_refusal}
use Rattle.flow_rules.proofs.Lesser.{no_second, holds, no_item}
use Rattle.flow_typing_laws.specs.ControlFlow.Laws.{HasSimpleParts, AllHaveSimpleParts}
use Rattle.flow_meaning.specs.Source.{records_in, functions_in, actors_in}
use Rattle.flow_typing_laws.specs.Typing.Scopes.{setting_in}
use Rattle.flow_typing_laws.specs.Typing.Ends.{SameEnds}
use Rattle.flow_typing_laws.specs.Typing.Paths.{HasPaths, AllHavePaths}
use Rattle.flow_typing_laws.proofs.Typing.Names.{none_some, some_none, some_same}
use Rattle.flow_typing_laws.proofs.Typing.Agreement.{Distinct, neither_first, neither_second, not_true}
use Rattle.flow_typing_laws.proofs.Typing.Standing.{param, caught_param, Stands, stands_behind, stands_loop, stands_declared, stands_caught, at_item, step_declares, stands_started}
use Rattle.flow_typing_laws.proofs.Typing.Statements.{yields, maybe_yields, declare_fits, assign_fits, modify_fits, call_fits}

module _ (ds : List DeclTree) (apart : Distinct ds) where
  plain_out : (e : Env) (vars : List ParamTree) (at : Place) → e.setting ≡ setting_in ds true vars → item at (unless (not e.setting.plain) WaitInFunction) ≡ None → ⊥
  plain_out e vars at k h = some_none (at_item ds true e vars at (λ s. unless (not s.plain) WaitInFunction) k h)

  throw_fits : (e : Env) (vars : List ParamTree) (r : TypeTree) (loop : Bool) (c : Option (List ℕ)) (at : Place) (v : Option ExprTree) → Stands ds true e vars r loop c
      → item at (throw_fault e.setting e.caught v) ≡ None
      → ThrowFits (records_in ds) (functions_in ds) (actors_in ds) vars c v
  throw_fits e vars r loop c at None k h = k.in_caught (holds e.caught BreakOutside (no_item at (throw_fault e.setting e.caught None) h))
  throw_fits e vars r loop c at (Some v) k h = yields ds apart true vars v ErrorType (at_item ds true e vars at (λ s. wanted s false v ErrorType) k.setting h)

  abbrev Fitting : TypeTree → Bool → Option (List ℕ) → List ParamTree → Body → Type 0
  Fitting r loop c vars b = BodyFits (records_in ds) (functions_in ds) (actors_in ds) r loop c vars b

  -- the init and the step of a `for`
  init_fits : (e : Env) (vars : List ParamTree) (r : TypeTree) (c : Option (List ℕ)) (i : Body) → e.setting ≡ setting_in ds true vars → InitKind i → HasPaths i → body_refusal e i ≡ None
      → Fitting r false c vars i
  init_fits e vars r c _ k no_init p h = tt
  init_fits e vars r c _ k (declares at i v) p h = (
    declare_fits ds apart vars e.states i v
        (at_item ds true e vars at (λ s. declare_fault s e.states i v) k (neither_first (item at (declare_fault e.setting e.states i v)) None h)),
    tt,
  )
  init_fits e vars r c _ k (assigns at xs v) p h = (
    assign_fits ds apart vars xs v p.0
        (at_item ds true e vars at (λ s. assign_fault s xs v) k (neither_first (item at (assign_fault e.setting xs v)) None h)),
    tt,
  )
  init_fits e vars r c _ k (modifies at xs d) p h = (
    modify_fits ds apart true vars xs d p.0
        (at_item ds true e vars at (λ s. modify_fault s xs d) k (neither_first (item at (modify_fault e.setting xs d)) None h)),
    tt,
  )

  step_fits : (e : Env) (vars : List ParamTree) (r : TypeTree) (c : Option (List ℕ)) (t : Body) → e.setting ≡ setting_in ds true vars → StepKind t → HasPaths t → body_refusal e t ≡ None
      → Fitting r false c vars t
  step_fits e vars r c _ k no_step p h = tt
  step_fits e vars r c _ k (assigned at xs v) p h = (
    assign_fits ds apart vars xs v p.0
        (at_item ds true e vars at (λ s. assign_fault s xs v) k (neither_first (item at (assign_fault e.setting xs v)) None h)),
    tt,
  )
  step_fits e vars r c _ k (modified at xs d) p h = (
    modify_fits ds apart true vars xs d p.0
        (at_item ds true e vars at (λ s. modify_fault s xs d) k (neither_first (item at (modify_fault e.setting xs d)) None h)),
    tt,
  )

  return_fits : (vars : List ParamTree) (v : Option ExprTree) (r : TypeTree) → returned (setting_in ds true vars) v r ≡ None → ReturnFits (records_in ds) (functions_in ds) (actors_in ds) vars v r
  return_fits vars None r h = absurd (some_none h)
  return_fits vars (Some e) r h = yields ds apart true vars e r h

  body_fits : (b : Body) (e : Env) (vars : List ParamTree) (r : TypeTree) (loop : Bool) (c : Option (List ℕ)) → Stands ds true e vars r loop c → HasSimpleParts b → HasPaths b → body_refusal e b ≡ None
      → Fitting r loop c vars b
  body_fits End e vars r loop c k s p h = tt
  body_fits (BlockStmt at b t) e vars r loop c k s p h = (
    body_fits b e vars r loop c k s.1 p.1 (neither_first (body_refusal e b) _ h),
    body_fits t (behind e b) vars r loop c (stands_behind ds true e b vars r loop c k) s.2 p.2
        (neither_second (body_refusal e b) _ h),
  )
  body_fits (IfStmt at q b t) e vars r loop c k s p h =
      let i = item at (test_fault e.setting q) in
      let l = neither_second i _ h in (
        yields ds apart true vars q BoolType (at_item ds true e vars at (λ s. test_fault s q) k.setting (neither_first i _ h)),
        body_fits b e vars r loop c k s.1 p.1 (neither_first (body_refusal e b) _ l),
        body_fits t (behind e b) vars r loop c (stands_behind ds true e b vars r loop c k) s.2 p.2 (neither_second (body_refusal e b) _ l),
      )
  body_fits (IfElseStmt at q b o t) e vars r loop c k s p h =
      let i = item at (test_fault e.setting q) in
      let l = neither_second i _ h in
      let m = neither_second (body_refusal e b) _ l in
      let kb = stands_behind ds true e b vars r loop c k in (
        yields ds apart true vars q BoolType (at_item ds true e vars at (λ s. test_fault s q) k.setting (neither_first i _ h)),
        body_fits b e vars r loop c k s.1 p.1 (neither_first (body_refusal e b) _ l),
        body_fits o (behind e b) vars r loop c kb s.2 p.2 (neither_first (body_refusal (behind e b) o) _ m),
        body_fits t (behind (behind e b) o) vars r loop c (stands_behind ds true (behind e b) o vars r loop c kb) s.3 p.3 (neither_second (body_refusal (behind e b) o) _ m),
      )
  body_fits (WhileStmt at q b t) e vars r loop c k s p h =
      let i = item at (test_fault e.setting q) in
      let l = neither_second i _ h in (
        yields ds apart true vars q BoolType (at_item ds true e vars at (λ s. test_fault s q) k.setting (neither_first i _ h)),
        body_fits b (in_loop e) vars r true c (stands_loop ds true e vars r loop c k) s.1 p.1 (neither_first (body_refusal (in_loop e) b) _ l),
        body_fits t (behind e b) vars r loop c (stands_behind ds true e b vars r loop c k) s.2 p.2 (neither_second (body_refusal (in_loop e) b) _ l),
      )
  body_fits (ForStmt at j q n b t) e vars r loop c k s p h =
      let kind = init_kind j s.0.0 in
      let ws = vars ++ declared_in j in
      let e' = started e j in
      let ks = stands_started ds true e j vars r loop c kind k in
      let l = neither_second (body_refusal e j) _ h in
      let i = item at (maybe_test e'.setting q) in
      let m = neither_second i _ l in
      let o = neither_second (body_refusal e' n) _ m in
      let e'' = behind e' n in
      let kn = stands_behind ds true e' n ws r loop c ks in
      let ej = behind e j in
      let en = behind ej n in (
        init_fits e vars r c j k.setting kind p.1 (neither_first (body_refusal e j) _ h),
        maybe_yields ds apart true ws q (at_item ds true e' ws at (λ s. maybe_test s q) ks.setting (neither_first i _ l)),
        step_fits e' ws r c n ks.setting (step_kind n s.0.1) p.2 (neither_first (body_refusal e' n) _ m),
        step_declares ds true n (step_kind n s.0.1),
        body_fits b (in_loop e'') ws r true c (stands_loop ds true e'' ws r loop c kn) s.3 p.3 (neither_first (body_refusal (in_loop e'') b) _ o),
        body_fits t (behind en b) vars r loop c (stands_behind ds true en b vars r loop c (stands_behind ds true ej n vars r loop c (stands_behind ds true e j vars r loop c k))) s.4 p.4
            (neither_second (body_refusal (in_loop e'') b) _ o),
      )
  body_fits (LoopStmt at b t) e vars r loop c k s p h = (
    body_fits b (in_loop e) vars r true c (stands_loop ds true e vars r loop c k) s.1 p.1 (neither_first (body_refusal (in_loop e) b) _ h),
    body_fits t (behind e b) vars r loop c (stands_behind ds true e b vars r loop c k) s.2 p.2 (neither_second (body_refusal (in_loop e) b) _ h),
  )
  body_fits (BreakStmt at t) e vars r loop c k s p h =
      let i = unless e.looped BreakOutside in
      (k.looped (holds e.looped BreakOutside (no_item at i (neither_first (item at i) _ h))), body_fits t e vars r loop c k s.1 p.1 (neither_second (item at i) _ h))
  body_fits (ContinueStmt at t) e vars r loop c k s p h =
      let i = unless e.looped BreakOutside in
      (k.looped (holds e.looped BreakOutside (no_item at i (neither_first (item at i) _ h))), body_fits t e vars r loop c k s.1 p.1 (neither_second (item at i) _ h))
  body_fits (ReturnStmt at v t) e vars r loop c k s p h =
      let i = item at (returned e.setting v e.returns) in (
        return_fits vars v r (ap (returned (setting_in ds true vars) v) (sym k.returns) ∙ at_item ds true e vars at (λ s. returned s v e.returns) k.setting (neither_first i _ h)),
        body_fits t e vars r loop c k s.1 p.1 (neither_second i _ h),
      )
  body_fits (ThrowStmt at v t) e vars r loop c k s p h =
      let i = item at (throw_fault e.setting e.caught v) in
      (throw_fits e vars r loop c at v k (neither_first i _ h), body_fits t e vars r loop c k s.1 p.1 (neither_second i _ h))
  body_fits (TryStmt at b q x o t) e vars r loop c k s p h =
      let eb = behind e b in
      let kb = stands_behind ds true e b vars r loop c k in
      let l = neither_second (body_refusal e b) _ h in
      let i = item q (fresh e.setting eb.states false x.name) in
      let m = neither_second i _ l in
      let ec = in_catch (with_var eb x.name ErrorType) in
      let kc = stands_caught ds true eb x eb.states vars r loop c kb (no_item q (fresh e.setting eb.states false x.name) (neither_first i _ l)) in (
        body_fits b e vars r loop c k s.1 p.1 (neither_first (body_refusal e b) _ h),
        body_fits o ec (vars ++ caught_param x ∷ []) r loop (Some x.name) kc s.2 p.2 (neither_first (body_refusal ec o) _ m),
        body_fits t (behind eb o) vars r loop c (stands_behind ds true eb o vars r loop c kb) s.3 p.3 (neither_second (body_refusal ec o) _ m),
      )
  body_fits (ChooseStmt at bs t) e vars r loop c k s p h = plain_out e vars at k.setting (neither_first (item at (unless (not e.setting.plain) WaitInFunction)) _ h)
  body_fits (DeclareStmt at i v t) e vars r loop c k s p h =
      let f = item at (declare_fault e.setting e.states i v) in (
        declare_fits ds apart vars e.states i v (at_item ds true e vars at (λ s. declare_fault s e.states i v) k.setting (neither_first f _ h)),
        body_fits t (declared e i) (vars ++ param i ∷ []) r loop c (stands_declared ds true e i vars r loop c k) s.1 p.1 (neither_second f _ h),
      )
  body_fits (AssignStmt at xs v t) e vars r loop c k s p h =
      let f = item at (assign_fault e.setting xs v) in
      (assign_fits ds apart vars xs v p.0 (at_item ds true e vars at (λ s. assign_fault s xs v) k.setting (neither_first f _ h)), body_fits t e vars r loop c k s.1 p.1 (neither_second f _ h))
  body_fits (ModifyStmt at xs d t) e vars r loop c k s p h =
      let f = item at (modify_fault e.setting xs d) in
      (modify_fits ds apart true vars xs d p.0 (at_item ds true e vars at (λ s. modify_fault s xs d) k.setting (neither_first f _ h)), body_fits t e vars r loop c k s.1 p.1 (neither_second f _ h))
  body_fits (CallStmt at xs es t) e vars r loop c k s p h =
      let f = item at (call_fault e.setting xs es) in
      (call_fits ds apart vars xs es p.0 (at_item ds true e vars at (λ s. call_fault s xs es) k.setting (neither_first f _ h)), body_fits t e vars r loop c k s.1 p.1 (neither_second f _ h))
  body_fits (WaitStmt at w t) e vars r loop c k s p h =
      let f = wait_fault e.setting e.states w in
      let i = no_item at f (neither_first (item at f) _ h) in
      let j = no_second (maybe_into e.setting e.states w.into) _ i in
      let u = no_second (wanted e.setting true w.operand (wait_type w.next w.into)) (unless (not e.setting.plain) WaitInFunction) j in
      some_none (ap (λ (s : Setting). unless (not s.plain) WaitInFunction) (sym k.setting) ∙ u)

-- a function's end is reached by structure as the rule on closing braces says
or_true : (a : Bool) → a || true ≡ true
or_true true = refl
or_true false = refl

or_false : (a : Bool) → a || false ≡ a
or_false true = refl
or_false false = refl

module _ (rs : List RecordTree) (fs actors : List RoutineTree) (r : TypeTree) where
  pub same_ends : (b : Body) (loop : Bool) (c : Option (List ℕ)) (vars : List ParamTree) → BodyFits rs fs actors r loop c vars b → SameEnds b
  same_ends (BlockStmt at b t) loop c vars f =
      let x = same_ends b loop c vars f.0 in
      let y = same_ends t loop c vars f.1 in
      record { ends = ap₂ (λ a d. a && d) x.ends y.ends; breaks = ap₂ (λ a d. a || d) x.breaks (ap₂ (λ a d. a && d) x.ends y.breaks) }
  same_ends (IfStmt at q b t) loop c vars f =
      let x = same_ends b loop c vars f.1 in
      let y = same_ends t loop c vars f.2 in
      let e = or_true (closing.ways b).end in
      record {
        ends = y.ends ∙ sym (ap (λ a. a && (closing.ways t).end) e);
        breaks = ap₂ (λ a d. a || d) (x.breaks ∙ sym (or_false (closing.ways b).breaks)) (y.breaks ∙ sym (ap (λ a. a && (closing.ways t).breaks) e));
      }
  same_ends (IfElseStmt at q b o t) loop c vars f =
      let x = same_ends b loop c vars f.1 in
      let z = same_ends o loop c vars f.2 in
      let y = same_ends t loop c vars f.3 in
      let e = ap₂ (λ a d. a || d) x.ends z.ends in
      record { ends = ap₂ (λ a d. a && d) e y.ends; breaks = ap₂ (λ a d. a || d) (ap₂ (λ a d. a || d) x.breaks z.breaks) (ap₂ (λ a d. a && d) e y.breaks) }
  same_ends (WhileStmt at q b t) loop c vars f = let y = same_ends t loop c vars f.2 in record { ends = y.ends; breaks = y.breaks }
  same_ends (ForStmt at i q n b t) loop c vars f =
      let x = same_ends b true c (vars ++ declared_in i) f.4 in
      let y = same_ends t loop c vars f.5 in
      let e = ap (λ d. is_there q || d) x.breaks in
      record { ends = ap₂ (λ a d. a && d) e y.ends; breaks = ap₂ (λ a d. a && d) e y.breaks }
  same_ends (LoopStmt at b t) loop c vars f =
      let x = same_ends b true c vars f.0 in
      let y = same_ends t loop c vars f.1 in
      record { ends = ap₂ (λ a d. a && d) x.breaks y.ends; breaks = ap₂ (λ a d. a && d) x.breaks y.breaks }
  same_ends (TryStmt at b q x o t) loop c vars f =
      let a = same_ends b loop c vars f.0 in
      let z = same_ends o loop (Some x.name) (vars ++ caught_param x ∷ []) f.1 in
      let y = same_ends t loop c vars f.2 in
      let e = ap₂ (λ a d. a || d) a.ends z.ends in
      record { ends = ap₂ (λ a d. a && d) e y.ends; breaks = ap₂ (λ a d. a || d) (ap₂ (λ a d. a || d) a.breaks (ap (λ d. has_statement b && d) z.breaks)) (ap₂ (λ a d. a && d) e y.breaks) }
  same_ends (ChooseStmt at bs t) loop c vars f = absurd f
  same_ends (DeclareStmt at i v t) loop c vars f = let y = same_ends t loop c (vars ++ param i ∷ []) f.1 in record { ends = y.ends; breaks = y.breaks }
  same_ends (AssignStmt at xs v t) loop c vars f = let y = same_ends t loop c vars f.1 in record { ends = y.ends; breaks = y.breaks }
  same_ends (ModifyStmt at xs d t) loop c vars f = let y = same_ends t loop c vars f.1 in record { ends = y.ends; breaks = y.breaks }
  same_ends (CallStmt at xs es t) loop c vars f = let y = same_ends t loop c vars f.1 in record { ends = y.ends; breaks = y.breaks }
  same_ends (WaitStmt at w t) loop c vars f = absurd f
  same_ends _ loop c vars f = record { ends = refl; breaks = refl }

-- the functions of a program
module _ (ds : List DeclTree) (apart : Distinct ds) where
  function_fits : (before : List DeclTree) (f : RoutineTree) → routine_refusal (known before) (setting_of ds true) f ≡ None → HasSimpleParts f.body → HasPaths f.body
      → FunctionFits (records_in ds) (functions_in ds) (actors_in ds) f
  function_fits before f h s p =
      let e = body_env (setting_of ds true) f in
      let i = item f.at (header_fault (known before) (setting_of ds true) f) in
      let l = neither_second i _ h in
      let k : Stands ds true e f.params f.returns false None = record { setting = refl; returns = refl; looped = λ z. z; in_caught = λ z. absurd (false≢true z) } in
      let b = body_fits ds apart f.body e f.params f.returns false None k s p (neither_first (body_refusal e f.body) _ l) in
      let q = no_item f.close (unless (not (closing.ways f.body).end) FallsOff) (neither_second (body_refusal e f.body) _ l) in (
        b,
        (same_ends (records_in ds) (functions_in ds) (actors_in ds) f.returns f.body false None f.params b).ends
            ∙ not_true (closing.ways f.body).end (holds (not (closing.ways f.body).end) FallsOff q),
      )

  pub functions_fit : (before rest : List DeclTree) → decls_refusal (setting_of ds) before rest ≡ None → AllHaveSimpleParts rest → AllHavePaths rest → (k : ℕ) (f : RoutineTree)
      → slice_get (functions_in rest) k ≡ Some f
      → FunctionFits (records_in ds) (functions_in ds) (actors_in ds) f
  functions_fit before [] h s p k f e = absurd (none_some e)
  functions_fit before (StructDecl r ∷ rest) h s p k f e = functions_fit (before ++ StructDecl r ∷ []) rest (neither_second (decl_refusal (setting_of ds) (known before) (StructDecl r)) _ h) s.1 p.1 k
      f e
  functions_fit before (ActorDecl a ∷ rest) h s p k f e = functions_fit (before ++ ActorDecl a ∷ []) rest (neither_second (decl_refusal (setting_of ds) (known before) (ActorDecl a)) _ h) s.1 p.1 k f e
  functions_fit before (FunctionDecl g ∷ rest) h s p zero f e =
      subst (FunctionFits (records_in ds) (functions_in ds) (actors_in ds)) (some_same g f e)
      (function_fits before g (neither_first (decl_refusal (setting_of ds) (known before) (FunctionDecl g)) _ h) s.0 p.0)
  functions_fit before (FunctionDecl g ∷ rest) h s p (suc k) f e =
      functions_fit (before ++ FunctionDecl g ∷ []) rest (neither_second (decl_refusal (setting_of ds) (known before) (FunctionDecl g)) _ h) s.1 p.1 k f e

  pub all_fit : decls_refusal (setting_of ds) [] ds ≡ None → AllHaveSimpleParts ds → AllHavePaths ds → FunctionsFit (records_in ds) (functions_in ds) (actors_in ds)
  all_fit h s p k f e = functions_fit [] ds h s p k f e
