-- An expression in which no rule fails has the type that its form gives.
use Rattle.std.proofs.Common.{◌≡◌, ℕ, suc, ◌+◌, Bool, true, false, not, ◌&&◌, ◌⊎◌, inl, inr, List, [], ◌∷◌, map, slice_get, refl, sym, ap, ap₂, subst, ◌∙◌, arith, if◌then◌else◌}
use Rattle.std.specs.Option.{option_map}
use Rattle.std.proofs.lemmas.Bool.{false≢true, true≢false}
use Rattle.std.specs.declared.option.Option.{Option}
use Rattle.std.specs.declared.option.Option.TheVariants.{None, Some}
use Rattle.flow_tree.specs.declared.ty.Ident.{Ident}
use Rattle.flow_tree.specs.declared.expr.Op.{Op}
use Rattle.flow_tree.specs.declared.expr.Op.TheVariants.{Or, And, Eq, Ne, Add, Sub, Mul, Div, Rem}
use Rattle.flow_ast.specs.declared.predefined.Predefined.{Predefined}
use Rattle.flow_ast.specs.declared.predefined.Predefined.TheVariants as predefined
use Rattle.flow_ast.specs.declared.predefined.Method.{Method}
use Rattle.flow_ast.specs.declared.predefined.Method.TheVariants as method
use Rattle.flow_tree.specs.Tree.{Selector, ByName, ByIndex, TypeTree, IntType, BoolType, StringType, VoidType, NamedType, FutureType, PromiseType, PromiseStreamType, ExprTree, ExprTrees, IntExpr, TextExpr, BoolExpr, VoidExpr, VarExpr, CallExpr, FieldExpr, MethodExpr, NotExpr, NegExpr, BinaryExpr, ParenExpr, NoExprs, MoreExprs, VectorType, NothingType}
use Rattle.flow_ast.specs.TypingNames.{named, selected, call_names, constant_names, method_names}
use Rattle.flow_ast.specs.Typing.{ScopeTree, Signature, takes, signature, is_effect, applied, same_type, same_types, sum_type, order_type, equality_type, int_only, bool_only, binary_type, with_type, more_types, type_in, types_in, method_in, call_in, declared_call, effect_in, field_type, variable_in, is_there, without_effects, all_without_effects}
use Rattle.flow_rules.specs.declared.rule.SemanticRule.TheVariants.{UnknownName, WrongType, WrongCount, EffectInside, NotInFunction}
use Rattle.flow_rules.specs.Least.{lesser, unless}
use Rattle.flow_rules.specs.Known.{Meaning, RecordOf, FunctionOf, ActorOf}
use Rattle.flow_rules.specs.Judged.{Setting, Need, Exactly, Value, OfFunction, Effect, Statement, Callee, predefined_kind, stated, predefined_callee, declared_callee, called_as, called, sends, cancels, stated_on, method_callee, called_by, needs_of, gives_of, field_form, variable_as, variable_form, sign_form, form, wants, fits, operands, not_here, placed, as_many, calls, calls_on, of_field, fault, faults, selected_on, grows, index_callee}
use Rattle.flow_rules.proofs.Lesser.{no_first, no_second, holds}
use Rattle.flow_typing_laws.specs.Typing.Agreeing.{IsDeclared, Agrees}
use Rattle.flow_typing_laws.specs.Typing.Joined.{IsTyped}
use Rattle.flow_typing_laws.proofs.Typing.Names.{type_same, type_self, none_some, some_none, some_same, there}

-- what a sign gives where its operands fit it
bool_there : (t : TypeTree) → is_there (bool_only t) ≡ true → bool_only t ≡ Some BoolType
bool_there BoolType e = refl
bool_there t e = absurd (false≢true e)

int_there : (t : TypeTree) → is_there (int_only t) ≡ true → int_only t ≡ Some IntType
int_there IntType e = refl
int_there t e = absurd (false≢true e)

order_there : (t : TypeTree) → is_there (order_type t) ≡ true → order_type t ≡ Some BoolType
order_there IntType e = refl
order_there StringType e = refl
order_there t e = absurd (false≢true e)

pub equality_there : (t : TypeTree) → is_there (equality_type t) ≡ true → equality_type t ≡ Some BoolType
equality_there IntType e = refl
equality_there BoolType e = refl
equality_there StringType e = refl
equality_there t e = absurd (false≢true e)

pub sum_there : (t : TypeTree) → is_there (sum_type t) ≡ true → sum_type t ≡ Some t
sum_there IntType e = refl
sum_there StringType e = refl
sum_there t e = absurd (false≢true e)

-- the sign's type on its own
abbrev Signed : Op → TypeTree → TypeTree → Type 0
Signed op t u = binary_type op t u ≡ sign_form op (Some t) (Some u)

cut : (b : Bool) (o : Option TypeTree) (w : TypeTree) → is_there (if b then o else None) ≡ true → (is_there o ≡ true → o ≡ Some w) → (if b then o else None) ≡ Some w
cut true o w e f = f e
cut false o w e f = absurd (false≢true e)

pub signed : (op : Op) (t u : TypeTree) → is_there (binary_type op t u) ≡ true → Signed op t u
signed Or t u e = cut (same_type t u) (bool_only t) BoolType e (bool_there t)
signed And t u e = cut (same_type t u) (bool_only t) BoolType e (bool_there t)
signed Eq t u e = cut (same_type t u) (equality_type t) BoolType e (equality_there t)
signed Ne t u e = cut (same_type t u) (equality_type t) BoolType e (equality_there t)
signed Add t u e = refl
signed Sub t u e = cut (same_type t u) (int_only t) IntType e (int_there t)
signed Mul t u e = cut (same_type t u) (int_only t) IntType e (int_there t)
signed Div t u e = cut (same_type t u) (int_only t) IntType e (int_there t)
signed Rem t u e = cut (same_type t u) (int_only t) IntType e (int_there t)
signed _ t u e = cut (same_type t u) (order_type t) BoolType e (order_there t)

-- a type that is wanted
pub wanted_is : (o : Option TypeTree) (t u : TypeTree) → o ≡ Some t → wants o u ≡ None → t ≡ u
wanted_is o t u e w = type_same t u (holds (same_type t u) WrongType (ap (λ x. wants x u) (sym e) ∙ w))

both_true : (a b : Bool) → a ≡ true → b ≡ true → a && b ≡ true
both_true true b e f = f
both_true false b e f = absurd (false≢true e)

not_false : (b : Bool) → b ≡ false → not b ≡ true
not_false true e = absurd (true≢false e)
not_false false e = refl

not_both : (b : Bool) → not b ≡ true → b ≡ true → ⊥
not_both true e f = false≢true e
not_both false e f = false≢true f

-- what may not stand in an expression, or only as a whole
abbrev pub Quiet : Setting → Bool → Type 0
Quiet s whole = (whole ≡ false) ⊎ (s.plain ≡ true)

statement_out : (s : Setting) (whole : Bool) → placed s whole Statement ≡ None → ⊥
statement_out s whole e = some_none (no_second (not_here s) (Some WrongType) e)

effect_out : (s : Setting) (whole : Bool) → placed s whole Effect ≡ None → Quiet s whole → ⊥
effect_out s whole e (inl q) = false≢true (sym q ∙ holds whole EffectInside (no_first (unless whole EffectInside) (not_here s) e))
effect_out s whole e (inr q) = not_both s.plain (holds (not s.plain) NotInFunction (no_second (unless whole EffectInside) (not_here s) e)) q

effect_quiet : (s : Setting) (whole : Bool) (p : Predefined) → placed s whole (predefined_kind p) ≡ None → Quiet s whole → is_effect p ≡ false
effect_quiet s whole predefined.RandomInt e q = absurd (effect_out s whole e q)
effect_quiet s whole predefined.Delay e q = absurd (effect_out s whole e q)
effect_quiet s whole predefined.Never e q = absurd (effect_out s whole e q)
effect_quiet s whole predefined.Listen e q = absurd (effect_out s whole e q)
effect_quiet s whole predefined.ReadFile e q = absurd (effect_out s whole e q)
effect_quiet s whole predefined.WriteFile e q = absurd (effect_out s whole e q)
effect_quiet s whole predefined.SyncFile e q = absurd (effect_out s whole e q)
effect_quiet s whole predefined.FileSize e q = absurd (effect_out s whole e q)
effect_quiet s whole p e q = refl

-- a call that no rule refuses: its parameters and result
pub record Called (s : Setting) (whole : Bool) (xs : ExprTrees) (o : Option Callee) (g : Option Signature) (effect : Bool) : Type 0 where
  pub params : List TypeTree
  pub result : TypeTree
  pub gives : gives_of o ≡ Some result
  pub needs : needs_of o ≡ map Exactly params
  pub signs : g ≡ takes params result
  pub many : as_many xs (map Exactly params) ≡ true
  pub quiet : Quiet s whole → effect ≡ false

predefined_called : (s : Setting) (whole : Bool) (xs : ExprTrees) (p : Predefined) (g : Option Signature) → calls xs (Some (predefined_callee p g)) (placed s whole) ≡ None
    → Called s whole xs (Some (predefined_callee p g)) g (is_effect p)
predefined_called s whole xs p None e = absurd (statement_out s whole (no_second (unless (as_many xs (stated p)) WrongCount) (placed s whole Statement) e))
predefined_called s whole xs p (Some g) e = record {
  params = g.params;
  result = g.gives;
  gives = refl;
  needs = refl;
  signs = refl;
  many = holds (as_many xs (map Exactly g.params)) WrongCount (no_first (unless (as_many xs (map Exactly g.params)) WrongCount) (placed s whole (predefined_kind p)) e);
  quiet = λ q. effect_quiet s whole p (no_second (unless (as_many xs (map Exactly g.params)) WrongCount) (placed s whole (predefined_kind p)) e) q;
}

declared_called : (s : Setting) (c : ScopeTree) (whole : Bool) (xs : ExprTrees) (x : List ℕ) (m : Option Meaning) → IsDeclared c x m
    → calls xs (option_map (declared_callee x) m) (placed s whole) ≡ None
    → Called s whole xs (option_map (declared_callee x) m) (declared_call c x) (effect_in c x None)
declared_called s c whole xs x None d e = absurd (some_none e)
declared_called s c whole xs x (Some (RecordOf fs)) d e = let ts = map (λ (f : List ℕ × TypeTree). f.1) fs in record {
  params = ts;
  result = NamedType x;
  gives = refl;
  needs = refl;
  signs = d.0;
  many = holds (as_many xs (map Exactly ts)) WrongCount (no_first (unless (as_many xs (map Exactly ts)) WrongCount) (placed s whole Value) e);
  quiet = λ q. d.1;
}
declared_called s c whole xs x (Some (FunctionOf ts t)) d e = record {
  params = ts;
  result = t;
  gives = refl;
  needs = refl;
  signs = d.0;
  many = holds (as_many xs (map Exactly ts)) WrongCount (no_first (unless (as_many xs (map Exactly ts)) WrongCount) (placed s whole OfFunction) e);
  quiet = λ q. d.1;
}
declared_called s c whole xs x (Some (ActorOf ts NothingType)) d e =
    absurd (statement_out s whole (no_second (unless (as_many xs (map Exactly ts)) WrongCount) (placed s whole Statement) e))
declared_called s c whole xs x (Some (ActorOf ts t)) d e = record {
  params = ts;
  result = FutureType t;
  gives = refl;
  needs = refl;
  signs = d.0;
  many = holds (as_many xs (map Exactly ts)) WrongCount (no_first (unless (as_many xs (map Exactly ts)) WrongCount) (placed s whole Effect) e);
  quiet = λ q. absurd (effect_out s whole (no_second (unless (as_many xs (map Exactly ts)) WrongCount) (placed s whole Effect) e) q);
}

name_called : (s : Setting) (c : ScopeTree) → Agrees s c → (whole : Bool) (xs : ExprTrees) (x : List ℕ) (p : Option Predefined) → calls xs (called_as s x p) (placed s whole) ≡ None
    → Called s whole xs (called_as s x p) (call_in c x p) (effect_in c x p)
name_called s c a whole xs x (Some p) e = predefined_called s whole xs p (signature p) e
name_called s c a whole xs x None e = declared_called s c whole xs x (s.known x) (a.names x) e

-- a method of a type, which has no effect
sends_statement : (t : TypeTree) (m : Method) (k : Callee) → sends t m ≡ Some k → k.kind ≡ Statement
sends_statement t method.Send k e = sym (ap (λ (c : Callee). c.kind) (some_same _ k e))
sends_statement t method.SendError k e = sym (ap (λ (c : Callee). c.kind) (some_same _ k e))
sends_statement t m k e = absurd (none_some e)

cancels_statement : (m : Method) (k : Callee) → cancels m ≡ Some k → k.kind ≡ Statement
cancels_statement method.Cancel k e = sym (ap (λ (c : Callee). c.kind) (some_same _ k e))
cancels_statement m k e = absurd (none_some e)

grows_statement : (t : TypeTree) (m : Method) (k : Callee) → grows t m ≡ Some k → k.kind ≡ Statement
grows_statement t method.PushBack k e = sym (ap (λ (c : Callee). c.kind) (some_same _ k e))
grows_statement t method.Clear k e = sym (ap (λ (c : Callee). c.kind) (some_same _ k e))
grows_statement t m k e = absurd (none_some e)

pub stated_statement : (t : TypeTree) (m : Method) (k : Callee) → stated_on t m ≡ Some k → k.kind ≡ Statement
stated_statement (PromiseType t) m k e = sends_statement t m k e
stated_statement (PromiseStreamType t) m k e = sends_statement t m k e
stated_statement (FutureType t) m k e = cancels_statement m k e
stated_statement (VectorType t) m k e = grows_statement t m k e
stated_statement t m k e = absurd (none_some e)

stated_out : (s : Setting) (xs : ExprTrees) (t : TypeTree) (m : Method) (o : Option Callee) → stated_on t m ≡ o → calls xs o (placed s false) ≡ None → ⊥
stated_out s xs t m None h e = some_none e
stated_out s xs t m (Some k) h e =
    statement_out s false (ap (placed s false) (sym (stated_statement t m k h)) ∙ no_second (unless (as_many xs k.needs) WrongCount) (placed s false k.kind) e)

signed_method : (s : Setting) (xs : ExprTrees) (t : TypeTree) (m : Method) (g : Option Signature) → calls xs (method_callee t m g) (placed s false) ≡ None
    → Called s false xs (method_callee t m g) g false
signed_method s xs t m None e = absurd (stated_out s xs t m (stated_on t m) refl e)
signed_method s xs t m (Some g) e = record {
  params = g.params;
  result = g.gives;
  gives = refl;
  needs = refl;
  signs = refl;
  many = holds (as_many xs (map Exactly g.params)) WrongCount (no_first (unless (as_many xs (map Exactly g.params)) WrongCount) (placed s false Value) e);
  quiet = λ q. refl;
}

method_called : (s : Setting) (xs : ExprTrees) (t : TypeTree) (m : Option Method) → calls xs (called_by t m) (placed s false) ≡ None → Called s false xs (called_by t m) (method_in t m) false
method_called s xs t None e = absurd (some_none e)
method_called s xs t (Some m) e = signed_method s xs t m (method_in t (Some m)) e

-- what a selector calls; an index of what is no vector has no type
index_called : (s : Setting) (xs : ExprTrees) (g : Option Signature) → calls xs (Some (index_callee g)) (placed s false) ≡ None → Called s false xs (Some (index_callee g)) g false
index_called s xs None e = absurd (statement_out s false (no_second (unless (as_many xs (Exactly IntType ∷ [])) WrongCount) (placed s false Statement) e))
index_called s xs (Some g) e = record {
  params = g.params;
  result = g.gives;
  gives = refl;
  needs = refl;
  signs = refl;
  many = holds (as_many xs (map Exactly g.params)) WrongCount (no_first (unless (as_many xs (map Exactly g.params)) WrongCount) (placed s false Value) e);
  quiet = λ q. refl;
}

selected_called : (s : Setting) (xs : ExprTrees) (t : TypeTree) (m : Selector) → calls xs (selected_on (Some t) m) (placed s false) ≡ None
    → Called s false xs (selected_on (Some t) m) (method_in t (selected m)) false
selected_called s xs t (ByName x) e = method_called s xs t (named method_names x.name) e
selected_called s xs t ByIndex e = index_called s xs (method_in t (selected ByIndex)) e

-- arguments of the types that are needed
pub record AreTyped (c : ScopeTree) (ts : List TypeTree) (es : ExprTrees) : Type 0 where
  pub types : List TypeTree
  pub in_scope : types_in c es ≡ Some types
  pub same : same_types ts types ≡ true
  pub quiet : all_without_effects c es ≡ true

given : (g : Option Signature) (ts us : List TypeTree) (t : TypeTree) → g ≡ takes ts t → same_types ts us ≡ true → applied g us ≡ Some t
given g ts us t e h = ap (λ x. applied x us) e ∙ ap (λ b. if b then Some t else None) h

pub from_start : (ns ms : List Need) → ns ≡ ms → (i : ℕ) → slice_get ns (0 + i) ≡ slice_get ms i
from_start ns ms e i = let z : 0 + i ≡ i = omega arith in ap (slice_get ns) z ∙ ap (λ l. slice_get l i) e

pub constant_typed : (s : Setting) (c : ScopeTree) → Agrees s c → (x : List ℕ) (o : Option ℕ) → variable_as s x o ≡ variable_in c.vars x o
constant_typed s c a x None = a.vars x
constant_typed s c a x (Some n) = refl

module _ (s : Setting) (c : ScopeTree) (a : Agrees s c) where
  abbrev Goal : Bool → ExprTree → Type 0
  Goal whole e = IsTyped s c whole e

  of_call : (whole : Bool) (f : Ident) (xs : ExprTrees) → Called s whole xs (called s f.name) (call_in c f.name (named call_names f.name)) (effect_in c f.name (named call_names f.name))
      → ((ts : List TypeTree) → needs_of (called s f.name) ≡ map Exactly ts → as_many xs (map Exactly ts) ≡ true → AreTyped c ts xs) → IsTyped s c whole (CallExpr f xs)
  of_call whole f xs k args =
      let r = args k.params k.needs k.many in
      record {
        type = k.result;
        by_form = k.gives;
        in_scope = ap (λ o. with_type o (applied (call_in c f.name (named call_names f.name)))) r.in_scope ∙ given _ k.params r.types k.result k.signs r.same;
        quiet = λ q. both_true (not (effect_in c f.name (named call_names f.name))) (all_without_effects c xs) (not_false (effect_in c f.name (named call_names f.name)) (k.quiet q)) r.quiet;
        inside = r.quiet;
      }

  of_method : (whole : Bool) (e : ExprTree) (m : Selector) (xs : ExprTrees) → IsTyped s c false e → calls_on (form s e) xs (selected_on (form s e) m) (placed s false) ≡ None
      → ((ts : List TypeTree) → needs_of (selected_on (form s e) m) ≡ map Exactly ts → as_many xs (map Exactly ts) ≡ true → AreTyped c ts xs) → IsTyped s c whole (MethodExpr e m xs)
  of_method whole e m xs b h args =
      let h' = ap (λ o. calls_on o xs (selected_on o m) (placed s false)) (sym b.by_form) ∙ h in
      let k = selected_called s xs b.type m h' in
      let r = args k.params (ap (λ o. needs_of (selected_on o m)) b.by_form ∙ k.needs) k.many in
      record {
        type = k.result;
        by_form = ap (λ o. gives_of (selected_on o m)) b.by_form ∙ k.gives;
        in_scope =
            ap (λ o. with_type o (λ t. with_type (types_in c xs) (applied (method_in t (selected m))))) b.in_scope
            ∙ ap (λ o. with_type o (applied (method_in b.type (selected m)))) r.in_scope ∙ given _ k.params r.types k.result k.signs r.same;
        quiet = λ q. both_true (without_effects c e) (all_without_effects c xs) (b.quiet (inl refl)) r.quiet;
        inside = both_true (without_effects c e) (all_without_effects c xs) (b.quiet (inl refl)) r.quiet;
      }

  of_field_expr : (whole : Bool) (e : ExprTree) (x : Ident) → IsTyped s c false e → of_field s (form s e) x.name ≡ None → IsTyped s c whole (FieldExpr e x)
  of_field_expr whole e x b h =
      let h' = ap (λ o. of_field s o x.name) (sym b.by_form) ∙ h in
      let t = there (field_form s b.type x.name) (holds (is_there (field_form s b.type x.name)) UnknownName h') in
      record {
        type = t.value;
        by_form = ap (λ o. with_type o (λ t. field_form s t x.name)) b.by_form ∙ t.is;
        in_scope = ap (λ o. with_type o (λ t. field_type c.records t x.name)) b.in_scope ∙ sym (a.fields b.type x.name) ∙ t.is;
        quiet = λ q. b.quiet (inl refl);
        inside = b.quiet (inl refl);
      }

  of_binary : (whole : Bool) (op : Op) (e f : ExprTree) → IsTyped s c false e → IsTyped s c false f → operands op (form s e) (form s f) ≡ None → IsTyped s c whole (BinaryExpr op e f)
  of_binary whole op e f b d h =
      let h' = ap₂ (operands op) (sym b.by_form) (sym d.by_form) ∙ h in
      let ok = holds (is_there (binary_type op b.type d.type)) WrongType h' in
      let t = there (binary_type op b.type d.type) ok in
      record {
        type = t.value;
        by_form = ap₂ (sign_form op) b.by_form d.by_form ∙ sym (signed op b.type d.type ok) ∙ t.is;
        in_scope = ap (λ o. with_type o (λ t. with_type (type_in c f) (binary_type op t))) b.in_scope ∙ ap (λ o. with_type o (binary_type op b.type)) d.in_scope ∙ t.is;
        quiet = λ q. both_true (without_effects c e) (without_effects c f) (b.quiet (inl refl)) (d.quiet (inl refl));
        inside = both_true (without_effects c e) (without_effects c f) (b.quiet (inl refl)) (d.quiet (inl refl));
      }

  of_not : (whole : Bool) (e : ExprTree) → IsTyped s c false e → wants (form s e) BoolType ≡ None → IsTyped s c whole (NotExpr e)
  of_not whole e b h = record {
    type = BoolType;
    by_form = refl;
    in_scope = ap (λ o. with_type o bool_only) b.in_scope ∙ ap bool_only (wanted_is (form s e) b.type BoolType b.by_form h);
    quiet = λ q. b.quiet (inl refl);
    inside = b.quiet (inl refl);
  }

  of_neg : (whole : Bool) (e : ExprTree) → IsTyped s c false e → wants (form s e) IntType ≡ None → IsTyped s c whole (NegExpr e)
  of_neg whole e b h = record {
    type = IntType;
    by_form = refl;
    in_scope = ap (λ o. with_type o int_only) b.in_scope ∙ ap int_only (wanted_is (form s e) b.type IntType b.by_form h);
    quiet = λ q. b.quiet (inl refl);
    inside = b.quiet (inl refl);
  }

  more_typed : (t : TypeTree) (ts : List TypeTree) (e : ExprTree) (es : ExprTrees) (n : Option Need) → n ≡ Some (Exactly t) → fits (form s e) n ≡ None → IsTyped s c false e → AreTyped c ts es
      → AreTyped c (t ∷ ts) (MoreExprs e es)
  more_typed t ts e es n k h b r =
      let same : b.type ≡ t = wanted_is (form s e) b.type t b.by_form (ap (fits (form s e)) (sym k) ∙ h) in
      record {
        types = b.type ∷ r.types;
        in_scope = ap₂ more_types b.in_scope r.in_scope;
        same = both_true (same_type t b.type) (same_types ts r.types) (subst (λ u. same_type t u ≡ true) (sym same) (type_self t)) r.same;
        quiet = both_true (without_effects c e) (all_without_effects c es) (b.quiet (inl refl)) r.quiet;
      }

  mutual
    pub typed : (whole : Bool) (e : ExprTree) → fault s whole e ≡ None → IsTyped s c whole e
    typed whole (IntExpr n) h = record { type = IntType; by_form = refl; in_scope = refl; quiet = λ q. refl; inside = refl }
    typed whole (TextExpr t) h = record { type = StringType; by_form = refl; in_scope = refl; quiet = λ q. refl; inside = refl }
    typed whole (BoolExpr b) h = record { type = BoolType; by_form = refl; in_scope = refl; quiet = λ q. refl; inside = refl }
    typed whole VoidExpr h = record { type = VoidType; by_form = refl; in_scope = refl; quiet = λ q. refl; inside = refl }
    typed whole (VarExpr x) h =
        let t = there (variable_form s x.name) (holds (is_there (variable_form s x.name)) UnknownName h) in
        record { type = t.value; by_form = t.is; in_scope = sym (constant_typed s c a x.name (named constant_names x.name)) ∙ t.is; quiet = λ q. refl; inside = refl }
    typed whole (CallExpr f xs) h =
        of_call whole f xs (name_called s c a whole xs f.name (named call_names f.name) (no_second (faults s 0 (needs_of (called s f.name)) xs) (calls xs (called s f.name) (placed s whole)) h))
        (λ ts n m. all_typed 0 (needs_of (called s f.name)) ts xs (from_start (needs_of (called s f.name)) (map Exactly ts) n) m
        (no_first (faults s 0 (needs_of (called s f.name)) xs) (calls xs (called s f.name) (placed s whole)) h))
    typed whole (FieldExpr e x) h = of_field_expr whole e x (typed false e (no_first (fault s false e) (of_field s (form s e) x.name) h)) (no_second (fault s false e) (of_field s (form s e) x.name) h)
    typed whole (MethodExpr e m xs) h =
        let n = needs_of (selected_on (form s e) m) in
        let k = calls_on (form s e) xs (selected_on (form s e) m) (placed s false) in
        let r = no_second (fault s false e) (lesser (faults s 0 n xs) k) h in
        of_method whole e m xs (typed false e (no_first (fault s false e) (lesser (faults s 0 n xs) k) h)) (no_second (faults s 0 n xs) k r)
        (λ ts q o. all_typed 0 n ts xs (from_start n (map Exactly ts) q) o (no_first (faults s 0 n xs) k r))
    typed whole (NotExpr e) h = of_not whole e (typed false e (no_first (fault s false e) (wants (form s e) BoolType) h)) (no_second (fault s false e) (wants (form s e) BoolType) h)
    typed whole (NegExpr e) h = of_neg whole e (typed false e (no_first (fault s false e) (wants (form s e) IntType) h)) (no_second (fault s false e) (wants (form s e) IntType) h)
    typed whole (BinaryExpr op e f) h =
        let l = lesser (fault s false e) (fault s false f) in
        let r = no_first l (operands op (form s e) (form s f)) h in
        of_binary whole op e f (typed false e (no_first (fault s false e) (fault s false f) r)) (typed false f (no_second (fault s false e) (fault s false f) r))
        (no_second l (operands op (form s e) (form s f)) h)
    typed whole (ParenExpr e) h = let t = typed false e h in record { type = t.type; by_form = t.by_form; in_scope = t.in_scope; quiet = λ q. t.quiet (inl refl); inside = t.quiet (inl refl) }

    pub all_typed : (k : ℕ) (ns : List Need) (ts : List TypeTree) (es : ExprTrees) → ((i : ℕ) → slice_get ns (k + i) ≡ slice_get (map Exactly ts) i) → as_many es (map Exactly ts) ≡ true
        → faults s k ns es ≡ None → AreTyped c ts es
    all_typed k ns [] NoExprs n m h = record { types = []; in_scope = refl; same = refl; quiet = refl }
    all_typed k ns (t ∷ ts) NoExprs n m h = absurd (false≢true m)
    all_typed k ns [] (MoreExprs e es) n m h = absurd (false≢true m)
    all_typed k ns (t ∷ ts) (MoreExprs e es) n m h =
        let one = lesser (fault s false e) (fits (form s e) (slice_get ns k)) in
        let r = no_first one (faults s (suc k) ns es) h in
        let z : k ≡ k + 0 = omega arith in
        more_typed t ts e es (slice_get ns k) (ap (slice_get ns) z ∙ n 0) (no_second (fault s false e) (fits (form s e) (slice_get ns k)) r)
        (typed false e (no_first (fault s false e) (fits (form s e) (slice_get ns k)) r))
        (all_typed (suc k) ns ts es (λ i. let y : suc k + i ≡ k + suc i = omega arith in ap (slice_get ns) y ∙ n (suc i)) m (no_second one (faults s (suc k) ns es) h))
