-- The statements of a function in which no rule fails are well typed.
use Rattle.std.proofs.Common.{◌≡◌, ℕ, Bool, true, false, cond, inl, inr, List, [], ◌∷◌, ◌++◌, map, refl, sym, ap, ◌∙◌}
use Rattle.std.specs.Prelude.{if◌then◌else◌}
use Rattle.std.specs.Str.{bytes_eq}
use Rattle.std.specs.Option.{option_map}
use Rattle.std.proofs.lemmas.Bool.{false≢true, true≢false}
use Rattle.std.specs.declared.option.Option.{Option}
use Rattle.std.specs.declared.option.Option.TheVariants.{None, Some}
use Rattle.flow_tree.specs.declared.ty.Ident.{Ident}
use Rattle.flow_tree.specs.declared.expr.Op.TheVariants.{Add, Sub}
use Rattle.flow_ast.specs.declared.predefined.Predefined.{Predefined}
use Rattle.flow_ast.specs.declared.predefined.Predefined.TheVariants as predefined
use Rattle.flow_ast.specs.declared.predefined.Method.{Method}
use Rattle.flow_tree.specs.Tree.{TypeTree, IntType, BoolType, StringType, PromiseType, PromiseStreamType, ExprTree, ExprTrees, VectorType, NothingType}
use Rattle.flow_tree.specs.Body.{IntoTree, ChangeTree, PlusChange, MinusChange, UpChange, DownChange}
use Rattle.flow_tree.specs.Decls.{ParamTree, RecordTree, RoutineTree, DeclTree}
use Rattle.flow_ast.specs.TypingNames.{named, call_names, method_names}
use Rattle.flow_ast.specs.Typing.{Signature, signature, is_there, routine_named, param_named, param_types, same_type, sum_type, int_only, binary_type, method_in}
use Rattle.flow_ast.specs.Fits.{fields_type, path_type, has_plain_default, Yields, MaybeYields, ChangeFits, DeclareFits, CallFits}
use Rattle.flow_rules.specs.declared.rule.SemanticRule.TheVariants.{UnknownName, WrongType, WrongCount, NotInFunction, NeedsValue, LostValue}
use Rattle.flow_rules.specs.Least.{lesser, unless}
use Rattle.flow_rules.specs.Known.{Meaning, RecordOf, FunctionOf, ActorOf, type_known}
use Rattle.flow_rules.specs.Judged.{Setting, Exactly, Callee, predefined_kind, stated, predefined_callee, declared_callee, called_as, called, stated_on, method_callee, called_by, called_on, needs_of, field_form, form, fault, faults, wanted, wants, operands, not_here, said, as_many, calls, of_field}
use Rattle.flow_rules.specs.Items.{behind, written, fresh, state_here, into_fault, value_fault, path_form, path_fault, target_form, target_fault, assigned, assign_fault, change_fault, modify_fault, ends_of, base_form, base_fault, call_fault, maybe_test, declare_fault}
use Rattle.flow_rules.specs.Items as rule
use Rattle.flow_rules.proofs.Lesser.{no_first, no_second, holds}
use Rattle.flow_meaning.specs.Source.{records_in, functions_in, actors_in}
use Rattle.flow_typing_laws.specs.Typing.Agreeing.{IsDeclared}
use Rattle.flow_typing_laws.specs.Typing.Scopes.{scope_in, setting_in}
use Rattle.flow_tree.specs.Formed.{IsPath}
use Rattle.flow_typing_laws.proofs.Typing.Names.{bytes_self, type_same, none_some, some_none, there}
use Rattle.flow_typing_laws.proofs.Typing.Expressions.{typed, all_typed, wanted_is, sum_there, stated_statement, from_start}
use Rattle.flow_typing_laws.proofs.Typing.Agreement.{Distinct, agrees}

-- the sum of a variable and what is added to it
int_self : (t : TypeTree) → is_there (int_only t) ≡ true → int_only t ≡ Some t
int_self IntType e = refl
int_self t e = absurd (false≢true e)

cut_first : (b : Bool) (o : Option TypeTree) → is_there (if b then o else None) ≡ true → b ≡ true
cut_first true o e = refl
cut_first false o e = absurd (false≢true e)

cut_second : (b : Bool) (o : Option TypeTree) → is_there (if b then o else None) ≡ true → is_there o ≡ true
cut_second true o e = e
cut_second false o e = absurd (false≢true e)

-- a parameter that is found is found with more behind it
pub more_params : (vs : List ParamTree) (q : ParamTree) (x : List ℕ) (p : ParamTree) → param_named vs x ≡ Some p → param_named (vs ++ q ∷ []) x ≡ Some p
more_params [] q x p e = absurd (none_some e)
more_params (v ∷ vs) q x p e = go (bytes_eq v.name.name x) e (more_params vs q x p)
  where
    go : (b : Bool) → cond b (Some v) (param_named vs x) ≡ Some p → (param_named vs x ≡ Some p → param_named (vs ++ q ∷ []) x ≡ Some p) → cond b (Some v) (param_named (vs ++ q ∷ []) x) ≡ Some p
    go true e f = e
    go false e f = f e

pub last_param : (vs : List ParamTree) (q : ParamTree) → is_there (param_named vs q.name.name) ≡ false → param_named (vs ++ q ∷ []) q.name.name ≡ Some q
last_param [] q e = ap (λ b. cond b (Some q) None) (bytes_self q.name.name)
last_param (v ∷ vs) q e = go (bytes_eq v.name.name q.name.name) e (last_param vs q)
  where
    go : (b : Bool) → is_there (cond b (Some v) (param_named vs q.name.name)) ≡ false → (is_there (param_named vs q.name.name) ≡ false → param_named (vs ++ q ∷ []) q.name.name ≡ Some q)
        → cond b (Some v) (param_named (vs ++ q ∷ []) q.name.name) ≡ Some q
    go true e f = absurd (true≢false e)
    go false e f = f e

pub there_of : (o : Option ParamTree) → is_there (option_map (λ (p : ParamTree). p.ty) o) ≡ is_there o
there_of None = refl
there_of (Some p) = refl

module _ (ds : List DeclTree) (apart : Distinct ds) (plain : Bool) where
  abbrev pub at_vars : List ParamTree → Setting
  at_vars vars = setting_in ds plain vars

  abbrev rs : List RecordTree
  rs = records_in ds

  abbrev fs : List RoutineTree
  fs = functions_in ds

  abbrev as' : List RoutineTree
  as' = actors_in ds

  -- an expression of a type that is wanted
  pub yields : (vars : List ParamTree) (e : ExprTree) (t : TypeTree) → wanted (at_vars vars) false e t ≡ None → Yields rs fs as' vars e t
  yields vars e t h =
      let k = typed (at_vars vars) (scope_in ds vars) (agrees ds vars apart plain) false e (no_first (fault (at_vars vars) false e) (wants (form (at_vars vars) e) t) h) in
      let same = wanted_is (form (at_vars vars) e) k.type t k.by_form (no_second (fault (at_vars vars) false e) (wants (form (at_vars vars) e) t) h) in
      (k.in_scope ∙ ap Some same, k.quiet (inl refl))

  pub maybe_yields : (vars : List ParamTree) (e : Option ExprTree) → maybe_test (at_vars vars) e ≡ None → MaybeYields rs fs as' vars e BoolType
  maybe_yields vars None h = tt
  maybe_yields vars (Some e) h = yields vars e BoolType h

  -- what a path leads to
  pub record IsPathTo (vars : List ParamTree) (o : Option TypeTree) (xs : List Ident) : Type 0 where
    pub type : TypeTree
    pub by_form : path_form (at_vars vars) o xs ≡ Some type
    pub in_scope : fields_type rs o xs ≡ Some type

  pub path_to : (vars : List ParamTree) (xs : List Ident) (t : TypeTree) → path_fault (at_vars vars) (Some t) xs ≡ None → IsPathTo vars (Some t) xs
  path_to vars [] t h = record { type = t; by_form = refl; in_scope = refl }
  path_to vars (x ∷ xs) t h =
      let s = at_vars vars in
      let a = no_first (of_field s (Some t) x.name) (path_fault s (field_form s t x.name) xs) h in
      let b = no_second (of_field s (Some t) x.name) (path_fault s (field_form s t x.name) xs) h in
      let f = there (field_form s t x.name) (holds (is_there (field_form s t x.name)) UnknownName a) in
      let r = path_to vars xs f.value (ap (λ o. path_fault s o xs) (sym f.is) ∙ b) in
      record {
        type = r.type;
        by_form = ap (λ o. path_form s o xs) f.is ∙ r.by_form;
        in_scope = ap (λ o. fields_type rs o xs) (sym ((agrees ds vars apart plain).fields t x.name) ∙ f.is) ∙ r.in_scope;
      }

  pub record IsTarget (vars : List ParamTree) (xs : List Ident) : Type 0 where
    pub type : TypeTree
    pub by_form : target_form (at_vars vars) xs ≡ Some type
    pub in_scope : path_type rs vars xs ≡ Some type

  pub target : (vars : List ParamTree) (xs : List Ident) → IsPath xs → target_fault (at_vars vars) xs ≡ None → IsTarget vars xs
  target vars [] p h = absurd p
  target vars (x ∷ xs) p h =
      let s = at_vars vars in
      let o = named s.vars x.name in
      let a = no_first (unless (is_there o) UnknownName) (path_fault s o xs) h in
      let b = no_second (unless (is_there o) UnknownName) (path_fault s o xs) h in
      let f = there o (holds (is_there o) UnknownName a) in
      let r = path_to vars xs f.value (ap (λ z. path_fault s z xs) (sym f.is) ∙ b) in
      record {
        type = r.type;
        by_form = ap (λ z. path_form s z xs) f.is ∙ r.by_form;
        in_scope = ap (λ z. fields_type rs z xs) (sym ((agrees ds vars apart plain).vars x.name) ∙ f.is) ∙ r.in_scope;
      }

  change_fits : (vars : List ParamTree) (c : ChangeTree) (t : TypeTree) → change_fault (at_vars vars) (Some t) c ≡ None → ChangeFits rs fs as' vars c t
  change_fits vars (PlusChange v) t h =
      let s = at_vars vars in
      let k = typed s (scope_in ds vars) (agrees ds vars apart plain) false v (no_first (fault s false v) (operands Add (Some t) (form s v)) h) in
      let w = holds (is_there (binary_type Add t k.type)) WrongType (ap (operands Add (Some t)) (sym k.by_form) ∙ no_second (fault s false v) (operands Add (Some t) (form s v)) h) in
      let same = type_same t k.type (cut_first (same_type t k.type) (sum_type t) w) in
      (sum_there t (cut_second (same_type t k.type) (sum_type t) w), (k.in_scope ∙ ap Some (sym same), k.quiet (inl refl)))
  change_fits vars (MinusChange v) t h =
      let s = at_vars vars in
      let k = typed s (scope_in ds vars) (agrees ds vars apart plain) false v (no_first (fault s false v) (operands Sub (Some t) (form s v)) h) in
      let w = holds (is_there (binary_type Sub t k.type)) WrongType (ap (operands Sub (Some t)) (sym k.by_form) ∙ no_second (fault s false v) (operands Sub (Some t) (form s v)) h) in
      let same = type_same t k.type (cut_first (same_type t k.type) (int_only t) w) in
      (int_self t (cut_second (same_type t k.type) (int_only t) w), (k.in_scope ∙ ap Some (sym same), k.quiet (inl refl)))
  change_fits vars UpChange t h = type_same t IntType (holds (same_type t IntType) WrongType h)
  change_fits vars DownChange t h = type_same t IntType (holds (same_type t IntType) WrongType h)

  pub modify_fits : (vars : List ParamTree) (xs : List Ident) (c : ChangeTree) → IsPath xs → modify_fault (at_vars vars) xs c ≡ None
      → (t : TypeTree) × (path_type rs vars xs ≡ Some t) × ChangeFits rs fs as' vars c t
  modify_fits vars xs c p h =
      let s = at_vars vars in
      let t = target vars xs p (no_first (target_fault s xs) (change_fault s (target_form s xs) c) h) in
      (t.type, t.in_scope, change_fits vars c t.type (ap (λ o. change_fault s o c) (sym t.by_form) ∙ no_second (target_fault s xs) (change_fault s (target_form s xs) c) h))

module _ (ds : List DeclTree) (apart : Distinct ds) where
  abbrev at_function : List ParamTree → Setting
  at_function vars = setting_in ds true vars

  -- what is wanted of a whole expression: in a function it has no effects either
  whole_yields : (vars : List ParamTree) (e : ExprTree) (t : TypeTree) → wanted (at_function vars) true e t ≡ None → Yields (records_in ds) (functions_in ds) (actors_in ds) vars e t
  whole_yields vars e t h =
      let k = typed (at_function vars) (scope_in ds vars) (agrees ds vars apart true) true e (no_first (fault (at_function vars) true e) (wants (form (at_function vars) e) t) h) in
      let same = wanted_is (form (at_function vars) e) k.type t k.by_form (no_second (fault (at_function vars) true e) (wants (form (at_function vars) e) t) h) in
      (k.in_scope ∙ ap Some same, k.quiet (inr refl))

  -- a variable's value
  default_fits : (vars : List ParamTree) (t : TypeTree) → written (at_function vars) t ≡ None → rule.has_default t ≡ true → has_plain_default t ≡ true
  default_fits vars IntType w d = refl
  default_fits vars BoolType w d = refl
  default_fits vars StringType w d = refl
  default_fits vars (PromiseType t) w d = absurd (some_none (no_second (unless (type_known (at_function vars).known (PromiseType t)) UnknownName) (Some NotInFunction) w))
  default_fits vars (PromiseStreamType t) w d = absurd (some_none (no_second (unless (type_known (at_function vars).known (PromiseStreamType t)) UnknownName) (Some NotInFunction) w))
  default_fits vars (VectorType t) w d = refl
  default_fits vars t w d = absurd (false≢true d)

  pub declare_fits : (vars : List ParamTree) (states : List (List ℕ)) (i : IntoTree) (v : Option ExprTree) → declare_fault (at_function vars) states i v ≡ None
      → DeclareFits (records_in ds) (functions_in ds) (actors_in ds) vars i v
  declare_fits vars states i None h =
      let a = no_first (into_fault (at_function vars) states i) (value_fault (at_function vars) i.ty None) h in
      let b = no_second (into_fault (at_function vars) states i) (value_fault (at_function vars) i.ty None) h in
      default_fits vars i.ty (no_first (written (at_function vars) i.ty) (lesser (state_here (at_function vars) i.state) (fresh (at_function vars) states i.state i.name.name)) a)
      (holds (rule.has_default i.ty) NeedsValue b)
  declare_fits vars states i (Some v) h = whole_yields vars v i.ty (no_second (into_fault (at_function vars) states i) (value_fault (at_function vars) i.ty (Some v)) h)

  pub assign_fits : (vars : List ParamTree) (xs : List Ident) (v : ExprTree) → IsPath xs → assign_fault (at_function vars) xs v ≡ None
      → (t : TypeTree) × (path_type (records_in ds) vars xs ≡ Some t) × Yields (records_in ds) (functions_in ds) (actors_in ds) vars v t
  assign_fits vars xs v p h =
      let s = at_function vars in
      let l = lesser (target_fault s xs) (fault s true v) in
      let a = no_first l (assigned (form s v) (target_form s xs)) h in
      let t = target ds apart true vars xs p (no_first (target_fault s xs) (fault s true v) a) in
      let k = typed s (scope_in ds vars) (agrees ds vars apart true) true v (no_second (target_fault s xs) (fault s true v) a) in
      let w = ap (assigned (form s v)) (sym t.by_form) ∙ no_second l (assigned (form s v) (target_form s xs)) h in
      let same = wanted_is (form s v) k.type t.type k.by_form w in
      (t.type, t.in_scope, (k.in_scope ∙ ap Some same, k.quiet (inr refl)))

  -- in a function a call as a statement is that of a function
  predefined_out : (vars : List ParamTree) (p : Predefined) → said (at_function vars) (predefined_kind p) ≡ None → ⊥
  predefined_out vars predefined.Now h = some_none (no_second (not_here (at_function vars)) (Some LostValue) h)
  predefined_out vars predefined.RandomInt h = some_none (no_second (not_here (at_function vars)) (Some LostValue) h)
  predefined_out vars predefined.Delay h = some_none (no_second (not_here (at_function vars)) (Some LostValue) h)
  predefined_out vars predefined.Never h = some_none (no_second (not_here (at_function vars)) (Some LostValue) h)
  predefined_out vars predefined.Listen h = some_none (no_second (not_here (at_function vars)) (Some LostValue) h)
  predefined_out vars predefined.ReadFile h = some_none (no_second (not_here (at_function vars)) (Some LostValue) h)
  predefined_out vars predefined.WriteFile h = some_none (no_second (not_here (at_function vars)) (Some LostValue) h)
  predefined_out vars predefined.SyncFile h = some_none (no_second (not_here (at_function vars)) (Some LostValue) h)
  predefined_out vars predefined.FileSize h = some_none (no_second (not_here (at_function vars)) (Some LostValue) h)
  predefined_out vars predefined.Trace h = some_none h
  predefined_out vars predefined.SendTo h = some_none h
  predefined_out vars p h = some_none h

  signed_out : (vars : List ParamTree) (es : ExprTrees) (p : Predefined) (g : Option Signature) → calls es (Some (predefined_callee p g)) (said (at_function vars)) ≡ None → ⊥
  signed_out vars es p None h = some_none (no_second (unless (as_many es (stated p)) WrongCount) (Some NotInFunction) h)
  signed_out vars es p (Some g) h = predefined_out vars p (no_second (unless (as_many es (map Exactly g.params)) WrongCount) (said (at_function vars) (predefined_kind p)) h)

  record IsFunction (vars : List ParamTree) (x : List ℕ) (es : ExprTrees) (o : Option Callee) : Type 0 where
    function : RoutineTree
    found : routine_named (functions_in ds) x ≡ Some function
    needs : needs_of o ≡ map Exactly (param_types function.params)
    many : as_many es (map Exactly (param_types function.params)) ≡ true

  declared_function : (vars : List ParamTree) (x : List ℕ) (es : ExprTrees) (m : Option Meaning) → IsDeclared (scope_in ds vars) x m
      → calls es (option_map (declared_callee x) m) (said (at_function vars)) ≡ None
      → IsFunction vars x es (option_map (declared_callee x) m)
  declared_function vars x es None d h = absurd (some_none h)
  declared_function vars x es (Some (RecordOf fs)) d h = absurd (some_none (no_second (unless (as_many es (map Exactly (map (λ (f : List ℕ × TypeTree). f.1) fs))) WrongCount) (Some LostValue) h))
  declared_function vars x es (Some (FunctionOf ts t)) d h = record {
    function = d.2;
    found = d.3;
    needs = ap (map Exactly) (sym d.4);
    many = ap (λ l. as_many es (map Exactly l)) d.4 ∙ holds (as_many es (map Exactly ts)) WrongCount (no_first (unless (as_many es (map Exactly ts)) WrongCount) None h);
  }
  declared_function vars x es (Some (ActorOf ts NothingType)) d h = absurd (some_none (no_second (unless (as_many es (map Exactly ts)) WrongCount) (not_here (at_function vars)) h))
  declared_function vars x es (Some (ActorOf ts t)) d h =
      absurd (some_none (no_second (not_here (at_function vars)) (Some LostValue)
      (no_second (unless (as_many es (map Exactly ts)) WrongCount) (lesser (not_here (at_function vars)) (Some LostValue)) h)))

  name_function : (vars : List ParamTree) (x : List ℕ) (es : ExprTrees) (p : Option Predefined) → calls es (called_as (at_function vars) x p) (said (at_function vars)) ≡ None
      → IsFunction vars x es (called_as (at_function vars) x p)
  name_function vars x es (Some p) h = absurd (signed_out vars es p (signature p) h)
  name_function vars x es None h = declared_function vars x es ((at_function vars).known x) ((agrees ds vars apart true).names x) h

  stated_out : (vars : List ParamTree) (es : ExprTrees) (t : TypeTree) (m : Method) (o : Option Callee) → stated_on t m ≡ o → calls es o (said (at_function vars)) ≡ None → ⊥
  stated_out vars es t m None e h = some_none h
  stated_out vars es t m (Some k) e h =
      some_none (ap (said (at_function vars)) (sym (stated_statement t m k e)) ∙ no_second (unless (as_many es k.needs) WrongCount) (said (at_function vars) k.kind) h)

  method_out : (vars : List ParamTree) (es : ExprTrees) (t : TypeTree) (m : Method) (g : Option Signature) → calls es (method_callee t m g) (said (at_function vars)) ≡ None → ⊥
  method_out vars es t m None h = stated_out vars es t m (stated_on t m) refl h
  method_out vars es t m (Some g) h = some_none (no_second (unless (as_many es (map Exactly g.params)) WrongCount) (Some LostValue) h)

  by_out : (vars : List ParamTree) (es : ExprTrees) (t : TypeTree) (m : Option Method) → calls es (called_by t m) (said (at_function vars)) ≡ None → ⊥
  by_out vars es t None h = some_none h
  by_out vars es t (Some m) h = method_out vars es t m (method_in t (Some m)) h

  on_out : (vars : List ParamTree) (es : ExprTrees) (o : Option TypeTree) (m : List ℕ) → calls es (called_on o m) (said (at_function vars)) ≡ None → ⊥
  on_out vars es None m h = some_none h
  on_out vars es (Some t) m h = by_out vars es t (named method_names m) h

  pub call_fits : (vars : List ParamTree) (xs : List Ident) (es : ExprTrees) → IsPath xs → call_fault (at_function vars) xs es ≡ None
      → CallFits (records_in ds) (functions_in ds) (actors_in ds) vars xs es
  call_fits vars [] es p h = absurd p
  call_fits vars (x ∷ []) es p h =
      let s = at_function vars in
      let n = needs_of (called s x.name) in
      let k = name_function vars x.name es (named call_names x.name) (no_second (faults s 0 n es) (calls es (called s x.name) (said s)) h) in
      let r = all_typed s (scope_in ds vars) (agrees ds vars apart true) 0 n (param_types k.function.params) es (from_start n (map Exactly (param_types k.function.params)) k.needs) k.many
      (no_first (faults s 0 n es) (calls es (called s x.name) (said s)) h) in
      (x, k.function, r.types, refl, k.found, r.in_scope, r.same, r.quiet)
  call_fits vars (x ∷ (y ∷ ys)) es p h =
      let s = at_function vars in
      let b = (ends_of x (y ∷ ys)).0 in
      let m = (ends_of x (y ∷ ys)).1.name in
      let c = calls es (called_on (base_form s b) m) (said s) in
      let f = faults s 0 (needs_of (called_on (base_form s b) m)) es in
      absurd (on_out vars es (base_form s b) m (no_second f c (no_second (base_fault s b) (lesser f c) h)))
