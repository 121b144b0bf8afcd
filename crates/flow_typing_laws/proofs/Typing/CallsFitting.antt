-- The calls that stand as statements in an actor fit what they call.
use Rattle.std.proofs.Common.{◌≡◌, ℕ, Bool, true, false, ◌&&◌, inl, List, [], ◌∷◌, map, refl, sym, ap, ap₂, subst, ◌∙◌, inr}
use Rattle.std.specs.Option.{option_map}
use Rattle.std.proofs.lemmas.Bool.{false≢true}
use Rattle.std.specs.declared.option.Option.{Option}
use Rattle.std.specs.declared.option.Option.TheVariants.{None, Some}
use Rattle.flow_tree.specs.declared.ty.Ident.{Ident}
use Rattle.flow_tree.specs.Tree.{TypeTree, IntType, StringType, ErrorType, FutureType, PromiseType, PromiseStreamType, ExprTrees, NoExprs, MoreExprs, VectorType, NothingType}
use Rattle.flow_tree.specs.Decls.{ParamTree, DeclTree}
use Rattle.flow_ast.specs.declared.predefined.Predefined.{Predefined}
use Rattle.flow_ast.specs.declared.predefined.Predefined.TheVariants as predefined
use Rattle.flow_ast.specs.declared.predefined.Method.{Method}
use Rattle.flow_ast.specs.declared.predefined.Method.TheVariants as method
use Rattle.flow_ast.specs.TypingNames.{named, call_names, method_names, constant_names}
use Rattle.flow_ast.specs.Typing.{Signature, signature, is_there, same_type, same_types, param_types, equality_type, more_types, types_in, method_in, without_effects, is_nothing}
use Rattle.flow_ast.specs.Fits.{fields_type}
use Rattle.flow_rules.specs.declared.rule.SemanticRule.{SemanticRule}
use Rattle.flow_rules.specs.declared.rule.SemanticRule.TheVariants.{UnknownName, WrongType, WrongCount, LostValue}
use Rattle.flow_rules.specs.Least.{lesser, unless}
use Rattle.flow_rules.specs.Known.{Meaning, RecordOf, FunctionOf, ActorOf}
use Rattle.flow_rules.specs.Judged.{Setting, Need, Exactly, Traced, predefined_callee, declared_callee, called_as, called, called_by, called_on, sends, cancels, stated_on, method_callee, needs_of, form, fault, faults, fits, said, as_many, calls, variable_form, grows}
use Rattle.flow_rules.specs.Items.{path_form, path_fault, ends_of, base_form, base_fault, call_fault}
use Rattle.flow_rules.proofs.Lesser.{no_first, no_second, holds}
use Rattle.flow_meaning.specs.Source.{records_in}
use Rattle.flow_typing_laws.specs.Typing.Agreeing.{IsDeclared}
use Rattle.flow_typing_laws.specs.Typing.Scopes.{scope_in, setting_in}
use Rattle.flow_tree.specs.Formed.{IsPath}
use Rattle.flow_typing_laws.specs.Typing.CallsFit.{HaveTypes, NameFits, SendFits, CancelFits, MethodFits, base_type, CallStands, GrowFits}
use Rattle.flow_typing_laws.proofs.Typing.Names.{type_same, some_none, there}
use Rattle.flow_typing_laws.proofs.Typing.Expressions.{typed, all_typed, from_start, equality_there, constant_typed}
use Rattle.flow_typing_laws.proofs.Typing.Agreement.{Distinct, agrees}
use Rattle.flow_typing_laws.proofs.Typing.Statements.{path_to}

first_true : (a b : Bool) → a && b ≡ true → a ≡ true
first_true true b e = refl
first_true false b e = absurd (false≢true e)

second_true : (a b : Bool) → a && b ≡ true → b ≡ true
second_true true b e = e
second_true false b e = absurd (false≢true e)

types_same : (ts us : List TypeTree) → same_types ts us ≡ true → ts ≡ us
types_same [] [] e = refl
types_same [] (u ∷ us) e = absurd (false≢true e)
types_same (t ∷ ts) [] e = absurd (false≢true e)
types_same (t ∷ ts) (u ∷ us) e =
    ap₂ (λ a b. a ∷ b) (type_same t u (first_true (same_type t u) (same_types ts us) e)) (types_same ts us (second_true (same_type t u) (same_types ts us) e))

both_true : (a b : Bool) → a ≡ true → b ≡ true → a && b ≡ true
both_true true b e f = f
both_true false b e f = absurd (false≢true e)

-- what a method is called on
record Based (ds : List DeclTree) (vars : List ParamTree) (xs : List Ident) : Type 0 where
  type : TypeTree
  by_form : base_form (setting_in ds false vars) xs ≡ Some type
  in_scope : base_type ds vars xs ≡ Some type

-- the statement call of a method, and that it fits
record IsMethod (ds : List DeclTree) (vars : List ParamTree) (t : TypeTree) (es : ExprTrees) (o : Option Method) : Type 0 where
  method : Method
  is : o ≡ Some method
  suits : MethodFits ds vars t es method

module _ (ds : List DeclTree) (apart : Distinct ds) (vars : List ParamTree) where
  abbrev here : Setting
  here = setting_in ds false vars

  -- as many arguments as are needed
  many : (es : ExprTrees) (ns : List Need) (o : Option SemanticRule) → lesser (unless (as_many es ns) WrongCount) o ≡ None → as_many es ns ≡ true
  many es ns o h = holds (as_many es ns) WrongCount (no_first (unless (as_many es ns) WrongCount) o h)

  -- what gives a value, or has an effect, doesn't stand as a statement
  discarded : (es : ExprTrees) (ns : List Need) → lesser (unless (as_many es ns) WrongCount) (Some LostValue) ≡ None → ⊥
  discarded es ns h = some_none (no_second (unless (as_many es ns) WrongCount) (Some LostValue) h)

  have_types : (ns : List Need) (ts : List TypeTree) (es : ExprTrees) → ns ≡ map Exactly ts → as_many es ns ≡ true → faults here 0 ns es ≡ None → HaveTypes ds vars es ts
  have_types ns ts es n m h =
      let r = all_typed here (scope_in ds vars) (agrees ds vars apart false) 0 ns ts es (from_start ns (map Exactly ts) n) (subst (λ l. as_many es l ≡ true) n m) h in
      (subst (λ l. types_in (scope_in ds vars) es ≡ Some l) (sym (types_same ts r.types r.same)) r.in_scope, r.quiet)

  traced : (x : List ℕ) (es : ExprTrees) → as_many es (Traced ∷ []) ≡ true → faults here 0 (Traced ∷ []) es ≡ None → NameFits ds vars x es (Some predefined.Trace)
  traced x NoExprs m h = absurd (false≢true m)
  traced x (MoreExprs e (MoreExprs d es)) m h = absurd (false≢true m)
  traced x (MoreExprs e NoExprs) m h =
      let r = no_first (lesser (fault here false e) (fits (form here e) (Some Traced))) None h in
      let k = typed here (scope_in ds vars) (agrees ds vars apart false) false e (no_first (fault here false e) (fits (form here e) (Some Traced)) r) in
      let w = ap (λ o. fits o (Some Traced)) (sym k.by_form) ∙ no_second (fault here false e) (fits (form here e) (Some Traced)) r in (
        k.type,
        equality_there k.type (holds (is_there (equality_type k.type)) WrongType w),
        (ap (λ o. more_types o (Some [])) k.in_scope, both_true (without_effects (scope_in ds vars) e) true (k.quiet (inl refl)) refl),
      )

  -- a call by a name
  predefined_fits : (x : List ℕ) (es : ExprTrees) (p : Predefined) → faults here 0 (predefined_callee p (signature p)).needs es ≡ None
      → calls es (Some (predefined_callee p (signature p))) (said here) ≡ None → NameFits ds vars x es (Some p)
  predefined_fits x es predefined.Trace h c = traced x es (many es (Traced ∷ []) None c) h
  predefined_fits x es predefined.SendTo h c = have_types (map Exactly (IntType ∷ IntType ∷ StringType ∷ [])) (IntType ∷ IntType ∷ StringType ∷ []) es refl (many es _ None c) h
  predefined_fits x es p h c = absurd (discarded es _ c)

  declared_fits : (x : List ℕ) (es : ExprTrees) (m : Option Meaning) → IsDeclared (scope_in ds vars) x m → faults here 0 (needs_of (option_map (declared_callee x) m)) es ≡ None
      → calls es (option_map (declared_callee x) m) (said here) ≡ None
      → NameFits ds vars x es None
  declared_fits x es None d h c = absurd (some_none c)
  declared_fits x es (Some (RecordOf fs)) d h c = absurd (discarded es (map Exactly (map (λ (f : List ℕ × TypeTree). f.1) fs)) c)
  declared_fits x es (Some (FunctionOf ts t)) d h c = inl (d.2, d.3, have_types (map Exactly ts) (param_types d.2.params) es (ap (map Exactly) (sym d.4)) (many es (map Exactly ts) None c) h)
  declared_fits x es (Some (ActorOf ts NothingType)) d h c =
      inr (d.1, d.2, d.3, ap is_nothing d.4, have_types (map Exactly ts) (param_types d.1.params) es (ap (map Exactly) (sym d.5)) (many es (map Exactly ts) None c) h)
  declared_fits x es (Some (ActorOf ts t)) d h c = absurd (discarded es (map Exactly ts) c)

  name_fits : (x : List ℕ) (es : ExprTrees) (p : Option Predefined) → faults here 0 (needs_of (called_as here x p)) es ≡ None → calls es (called_as here x p) (said here) ≡ None
      → NameFits ds vars x es p
  name_fits x es (Some p) h c = predefined_fits x es p h c
  name_fits x es None h c = declared_fits x es (here.known x) ((agrees ds vars apart false).names x) h c

  -- a call of a method
  send_fits : (t : TypeTree) (m : Method) (es : ExprTrees) → faults here 0 (needs_of (sends t m)) es ≡ None → calls es (sends t m) (said here) ≡ None → SendFits ds vars t es m
  send_fits t method.Send es h c = have_types (Exactly t ∷ []) (t ∷ []) es refl (many es (Exactly t ∷ []) None c) h
  send_fits t method.SendError es h c = have_types (Exactly ErrorType ∷ []) (ErrorType ∷ []) es refl (many es (Exactly ErrorType ∷ []) None c) h
  send_fits t m es h c = absurd (some_none c)

  cancel_fits : (m : Method) (es : ExprTrees) → faults here 0 (needs_of (cancels m)) es ≡ None → calls es (cancels m) (said here) ≡ None → CancelFits ds vars es m
  cancel_fits method.Cancel es h c = have_types [] [] es refl (many es [] None c) h
  cancel_fits m es h c = absurd (some_none c)

  grow_fits : (t : TypeTree) (m : Method) (es : ExprTrees) → faults here 0 (needs_of (grows t m)) es ≡ None → calls es (grows t m) (said here) ≡ None → GrowFits ds vars t es m
  grow_fits t method.PushBack es h c = have_types (Exactly t ∷ []) (t ∷ []) es refl (many es (Exactly t ∷ []) None c) h
  grow_fits t method.Clear es h c = have_types [] [] es refl (many es [] None c) h
  grow_fits t m es h c = absurd (some_none c)

  stated_fits : (t : TypeTree) (m : Method) (es : ExprTrees) → faults here 0 (needs_of (stated_on t m)) es ≡ None → calls es (stated_on t m) (said here) ≡ None → MethodFits ds vars t es m
  stated_fits (PromiseType t) m es h c = send_fits t m es h c
  stated_fits (PromiseStreamType t) m es h c = send_fits t m es h c
  stated_fits (FutureType t) m es h c = cancel_fits m es h c
  stated_fits (VectorType t) m es h c = grow_fits t m es h c
  stated_fits t m es h c = absurd (some_none c)

  method_fits : (t : TypeTree) (m : Method) (es : ExprTrees) (g : Option Signature) → faults here 0 (needs_of (method_callee t m g)) es ≡ None → calls es (method_callee t m g) (said here) ≡ None
      → MethodFits ds vars t es m
  method_fits t m es None h c = stated_fits t m es h c
  method_fits t m es (Some g) h c = absurd (discarded es (map Exactly g.params) c)

  by_fits : (t : TypeTree) (es : ExprTrees) (m : Option Method) → faults here 0 (needs_of (called_by t m)) es ≡ None → calls es (called_by t m) (said here) ≡ None → IsMethod ds vars t es m
  by_fits t es None h c = absurd (some_none c)
  by_fits t es (Some m) h c = record { method = m; is = refl; suits = method_fits t m es (method_in t (Some m)) h c }

  based : (x : Ident) (xs : List Ident) → base_fault here (x ∷ xs) ≡ None → Based ds vars (x ∷ xs)
  based x xs h =
      let o = variable_form here x.name in
      let a = no_first (unless (is_there o) UnknownName) (path_fault here o xs) h in
      let f = there o (holds (is_there o) UnknownName a) in
      let r = path_to ds apart false vars xs f.value (ap (λ z. path_fault here z xs) (sym f.is) ∙ no_second (unless (is_there o) UnknownName) (path_fault here o xs) h) in
      record {
        type = r.type;
        by_form = ap (λ z. path_form here z xs) f.is ∙ r.by_form;
        in_scope = ap (λ z. fields_type (records_in ds) z xs) (sym (constant_typed here (scope_in ds vars) (agrees ds vars apart false) x.name (named constant_names x.name)) ∙ f.is) ∙ r.in_scope;
      }

  pub call_stands : (xs : List Ident) (es : ExprTrees) → IsPath xs → call_fault here xs es ≡ None → CallStands ds vars xs es
  call_stands [] es p h = absurd p
  call_stands (x ∷ []) es p h =
      let f = faults here 0 (needs_of (called here x.name)) es in
      let c = calls es (called here x.name) (said here) in
      name_fits x.name es (named call_names x.name) (no_first f c h) (no_second f c h)
  call_stands (x ∷ (y ∷ ys)) es p h =
      let base = (ends_of x (y ∷ ys)).0 in
      let name = (ends_of x (y ∷ ys)).1.name in
      let f = faults here 0 (needs_of (called_on (base_form here base) name)) es in
      let c = calls es (called_on (base_form here base) name) (said here) in
      let l = no_second (base_fault here base) (lesser f c) h in
      let b = based x (ends_of y ys).0 (no_first (base_fault here base) (lesser f c) h) in
      let k = by_fits b.type es (named method_names name)
      (ap (λ o. faults here 0 (needs_of (called_on o name)) es) (sym b.by_form) ∙ no_first f c l)
      (ap (λ o. calls es (called_on o name) (said here)) (sym b.by_form) ∙ no_second f c l) in
      (b.type, k.method, b.in_scope, k.is, k.suits)
