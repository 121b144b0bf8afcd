-- What is in force at a statement, in the words of the rules and of what fits.
use Rattle.std.proofs.Common.{◌≡◌, ℕ, Bool, true, false, not, ◌&&◌, ◌||◌, List, [], ◌∷◌, ◌++◌, refl, sym, ap, subst, ◌∙◌, append-nil}
use Rattle.std.proofs.lemmas.List.{map-append}
use Rattle.std.specs.declared.option.Option.{Option}
use Rattle.std.specs.declared.option.Option.TheVariants.{None, Some}
use Rattle.flow_base.specs.declared.place.Place.{Place}
use Rattle.flow_tree.specs.declared.ty.Ident.{Ident}
use Rattle.flow_tree.specs.Tree.{TypeTree, ErrorType}
use Rattle.flow_tree.specs.Body.{IntoTree, Body, End, AssignStmt, ModifyStmt}
use Rattle.flow_tree.specs.Decls.{ParamTree, DeclTree}
use Rattle.flow_tree.proofs.ForParts.{InitKind, no_init, declares, assigns, modifies, StepKind, no_step, assigned, modified}
use Rattle.flow_ast.specs.TypingNames.{named}
use Rattle.flow_ast.specs.Typing.{is_there, param_named}
use Rattle.flow_ast.specs.Fits.{declared_in, CaughtFits}
use Rattle.flow_rules.specs.declared.rule.SemanticRule.{SemanticRule}
use Rattle.flow_rules.specs.declared.rule.SemanticRule.TheVariants.{TakenName}
use Rattle.flow_rules.specs.Known.{field_row, is_predefined}
use Rattle.flow_rules.specs.Judged.{Setting}
use Rattle.flow_rules.specs.Items.{Env, item, with_var, in_loop, in_catch, behind, declared, started, among, fresh}
use Rattle.flow_rules.specs.Rules.{setting_of}
use Rattle.flow_rules.proofs.Lesser.{holds, no_item}
use Rattle.flow_meaning.specs.Source.{records_in, functions_in, actors_in}
use Rattle.flow_typing_laws.specs.Typing.Scopes.{setting_in}
use Rattle.flow_typing_laws.proofs.Typing.Agreement.{rows_named, not_true, neither_left}
use Rattle.flow_typing_laws.proofs.Typing.Statements.{more_params, last_param, there_of}

abbrev pub param : IntoTree → ParamTree
param i = record { ty = i.ty; name = i.name }

abbrev pub caught_param : Ident → ParamTree
caught_param x = record { ty = ErrorType; name = x }

module _ (ds : List DeclTree) (plain : Bool) where
  -- what is in force in a function, in the words of both
  pub record Stands (e : Env) (vars : List ParamTree) (r : TypeTree) (loop : Bool) (caught : Option (List ℕ)) : Type 0 where
    pub setting : e.setting ≡ setting_in ds plain vars
    pub returns : e.returns ≡ r
    pub looped : e.looped ≡ true → loop ≡ true
    pub in_caught : e.caught ≡ true → CaughtFits (records_in ds) (functions_in ds) (actors_in ds) vars caught

  pub caught_more : (vars : List ParamTree) (q : ParamTree) (c : Option (List ℕ)) → CaughtFits (records_in ds) (functions_in ds) (actors_in ds) vars c
      → CaughtFits (records_in ds) (functions_in ds) (actors_in ds) (vars ++ q ∷ []) c
  caught_more vars q None h = h
  caught_more vars q (Some x) h = (h.0, more_params vars q x h.0 h.1, h.2)

  pub with_one : (e : Env) (vars : List ParamTree) (q : ParamTree) → e.setting ≡ setting_in ds plain vars → (with_var e q.name.name q.ty).setting ≡ setting_in ds plain (vars ++ q ∷ [])
  with_one e vars q k = ap (λ (s : Setting). record s { vars = s.vars ++ field_row q ∷ [] }) k ∙ ap (λ l. record (setting_of ds plain) { vars = l }) (sym (map-append field_row vars (q ∷ [])))

  pub stands_behind : (e : Env) (b : Body) (vars : List ParamTree) (r : TypeTree) (loop : Bool) (c : Option (List ℕ)) → Stands e vars r loop c → Stands (behind e b) vars r loop c
  stands_behind e b vars r loop c k = record { setting = k.setting; returns = k.returns; looped = k.looped; in_caught = k.in_caught }

  pub stands_loop : (e : Env) (vars : List ParamTree) (r : TypeTree) (loop : Bool) (c : Option (List ℕ)) → Stands e vars r loop c → Stands (in_loop e) vars r true c
  stands_loop e vars r loop c k = record { setting = k.setting; returns = k.returns; looped = λ h. refl; in_caught = k.in_caught }

  pub stands_declared : (e : Env) (i : IntoTree) (vars : List ParamTree) (r : TypeTree) (loop : Bool) (c : Option (List ℕ)) → Stands e vars r loop c
      → Stands (declared e i) (vars ++ param i ∷ []) r loop c
  stands_declared e i vars r loop c k = record {
    setting = with_one e vars (param i) k.setting;
    returns = k.returns;
    looped = k.looped;
    in_caught = λ h. caught_more vars (param i) c (k.in_caught h);
  }

  -- a catch: its variable is new
  pub new_caught : (vars : List ParamTree) (states : List (List ℕ)) (x : Ident) → fresh (setting_in ds plain vars) states false x.name ≡ None
      → param_named (vars ++ caught_param x ∷ []) x.name ≡ Some (caught_param x)
  new_caught vars states x h =
      let s = setting_in ds plain vars in
      let a = is_there (named s.vars x.name) in
      let b = is_predefined x.name in
      let c = is_there (s.known x.name) in
      let n = not_true (a || b || c || (false && among states x.name)) (holds (not (a || b || c || (false && among states x.name))) TakenName h) in
      let m = neither_left a b (neither_left (a || b) c (neither_left (a || b || c) (false && among states x.name) n)) in
      last_param vars (caught_param x) (sym (there_of (param_named vars x.name)) ∙ ap is_there (sym (rows_named vars x.name)) ∙ m)

  pub stands_caught : (e : Env) (x : Ident) (states : List (List ℕ)) (vars : List ParamTree) (r : TypeTree) (loop : Bool) (c : Option (List ℕ)) → Stands e vars r loop c
      → fresh e.setting states false x.name ≡ None
      → Stands (in_catch (with_var e x.name ErrorType)) (vars ++ caught_param x ∷ []) r loop (Some x.name)
  stands_caught e x states vars r loop c k h = record {
    setting = with_one e vars (caught_param x) k.setting;
    returns = k.returns;
    looped = k.looped;
    in_caught = λ z. (caught_param x, new_caught vars states x (ap (λ s. fresh s states false x.name) (sym k.setting) ∙ h), refl);
  }

  -- a rule at an item, in the words of the scope
  pub at_item : (e : Env) (vars : List ParamTree) (at : Place) (f : Setting → Option SemanticRule) → e.setting ≡ setting_in ds plain vars → item at (f e.setting) ≡ None
      → f (setting_in ds plain vars) ≡ None
  at_item e vars at f k h = ap f (sym k) ∙ no_item at (f e.setting) h

  pub step_declares : (t : Body) → StepKind t → declared_in t ≡ []
  step_declares _ no_step = refl
  step_declares _ (assigned at xs v) = refl
  step_declares _ (modified at xs d) = refl

  pub stands_started : (e : Env) (i : Body) (vars : List ParamTree) (r : TypeTree) (loop : Bool) (c : Option (List ℕ)) → InitKind i → Stands e vars r loop c
      → Stands (started e i) (vars ++ declared_in i) r loop c
  stands_started e _ vars r loop c no_init k = subst (λ vs. Stands (behind e End) vs r loop c) (sym (append-nil vars)) (stands_behind e End vars r loop c k)
  stands_started e _ vars r loop c (declares at i v) k = stands_declared e i vars r loop c k
  stands_started e _ vars r loop c (assigns at xs v) k = subst (λ vs. Stands (behind e (AssignStmt at xs v End)) vs r loop c) (sym (append-nil vars))
      (stands_behind e (AssignStmt at xs v End) vars r loop c k)
  stands_started e _ vars r loop c (modifies at xs d) k = subst (λ vs. Stands (behind e (ModifyStmt at xs d End)) vs r loop c) (sym (append-nil vars))
      (stands_behind e (ModifyStmt at xs d End) vars r loop c k)
