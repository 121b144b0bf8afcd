-- Well-typed expressions without effects have a meaning, where the functions that they call have one.
use Rattle.std.proofs.Common.{◌≡◌, ℕ, Bool, true, false, ◌&&◌, not, List, [], ◌∷◌, refl, ap, sym, subst, ◌∙◌}
use Rattle.std.specs.Prelude.{neg_ℤ}
use Rattle.std.specs.Option.{option_map, option_and_then}
use Rattle.std.specs.declared.option.Option.{Option}
use Rattle.std.specs.declared.option.Option.TheVariants.{None, Some}
use Rattle.flow_base.proofs.Bools.{and_left, and_right}
use Rattle.flow_tree.specs.declared.expr.Op.{Op}
use Rattle.flow_tree.specs.declared.expr.Op.TheVariants.{Or, And, Eq, Ne, Lt, Le, Gt, Ge, Add, Sub, Mul, Div, Rem}
use Rattle.flow_ast.specs.declared.predefined.Predefined.{Predefined}
use Rattle.flow_ast.specs.declared.predefined.Method.{Method}
use Rattle.flow_tree.specs.Tree.{TypeTree, IntType, BoolType, StringType, VoidType, ErrorType, NamedType, FutureType, FutureStreamType, PromiseType, PromiseStreamType, VectorType, NothingType, ExprTree, ExprTrees, IntExpr, TextExpr, BoolExpr, VoidExpr, VarExpr, CallExpr, FieldExpr, MethodExpr, NotExpr, NegExpr, BinaryExpr, ParenExpr, NoExprs, MoreExprs}
use Rattle.flow_tree.specs.Decls.{ParamTree, RecordTree, RoutineTree}
use Rattle.flow_ast.specs.TypingNames.{named, selected, call_names, constant_names}
use Rattle.flow_ast.specs.Typing.{ScopeTree, Signature, effect_call, or_else, is_there, actor_gives, record_call, routine_named, param_named, param_types, applied, same_type, int_only, bool_only, sign_type, with_type, binary_type, more_types, variable_in, method_in, field_type, call_in, effect_in, call_signature, type_in, types_in, without_effects, all_without_effects}
use Rattle.flow_value.specs.Values.{ValueTree, IntValue, values_of_list}
use Rattle.flow_eval.specs.Answers.{Answer, Given, Throws, NoMeaning, bool_of, truth, if_int}
use Rattle.flow_eval.specs.Predefined.{call_answer, method_answer}
use Rattle.flow_eval.specs.Operators.{operated, negated, inverted}
use Rattle.flow_eval.specs.Records.{record_id, field, field_answer}
use Rattle.flow_eval.specs.Eval.{Res, Done, Fails, Spent, Meaningless, Setting, Runner, then, at_once, found, variable, truth_of, or_then, and_then, both, second, method_called, function_called, declared_called, called, eval, eval_all}
use Rattle.flow_ast.specs.Fits.{scope_over}
use Rattle.flow_eval.specs.Typed.{HasType, HaveTypes, CellsFit, VariablesFit}
use Rattle.flow_eval.specs.WellTyped.{Safe}
use Rattle.flow_eval.proofs.TypedValues.{some_same, none_some, param_type, is_int_value, is_bool_value, id_there, no_id}
use Rattle.flow_eval.proofs.TypedAnswers.{type_same, applied_some, binary_by, Answered, is_strict, whole_typed, operated_typed, call_typed, field_typed, method_typed}

pub then_good : {A B : Type 0} (P : A → Type 0) (Q : B → Type 0) (r : Res A) (go : A → ℕ → Res B) → Safe P r → ((x : A) (left : ℕ) → P x → Safe Q (go x left)) → Safe Q (then r go)
then_good P Q (Done x left) go g k = k x left g
then_good P Q (Fails e left) go g k = tt {0}
then_good P Q Spent go g k = tt {0}
then_good P Q Meaningless go g k = absurd g

pub once_good : (P : ValueTree → Type 0) (a : Answer) (left : ℕ) → Answered P a → Safe P (at_once a left)
once_good P (Given v) left g = g
once_good P (Throws e) left g = tt {0}
once_good P NoMeaning left g = absurd g

with_typed : {A : Type 0} (o : Option A) (f : A → Option TypeTree) (t : TypeTree) → with_type o f ≡ Some t → (x : A) × (o ≡ Some x) × (f x ≡ Some t)
with_typed None f t e = none_some t e
with_typed (Some x) f t e = (x, refl, e)

more_typed : (o : Option TypeTree) (p : Option (List TypeTree)) (ts : List TypeTree) → more_types o p ≡ Some ts
    → (t : TypeTree) × (us : List TypeTree) × (o ≡ Some t) × (p ≡ Some us) × (ts ≡ t ∷ us)
more_typed None p ts e = none_some ts e
more_typed (Some t) None ts e = none_some ts e
more_typed (Some t) (Some us) ts e = (t, us, refl, refl, sym (some_same (t ∷ us) ts e))

int_is : (u t : TypeTree) → int_only u ≡ Some t → (u ≡ IntType) × (t ≡ IntType)
int_is IntType t e = (refl, sym (some_same IntType t e))
int_is BoolType t e = none_some t e
int_is StringType t e = none_some t e
int_is VoidType t e = none_some t e
int_is ErrorType t e = none_some t e
int_is (NamedType x) t e = none_some t e
int_is (FutureType u) t e = none_some t e
int_is (FutureStreamType u) t e = none_some t e
int_is (PromiseType u) t e = none_some t e
int_is (PromiseStreamType u) t e = none_some t e
int_is (VectorType u) t e = none_some t e
int_is NothingType t e = none_some t e

bool_is : (u t : TypeTree) → bool_only u ≡ Some t → (u ≡ BoolType) × (t ≡ BoolType)
bool_is BoolType t e = (refl, sym (some_same BoolType t e))
bool_is IntType t e = none_some t e
bool_is StringType t e = none_some t e
bool_is VoidType t e = none_some t e
bool_is ErrorType t e = none_some t e
bool_is (NamedType x) t e = none_some t e
bool_is (FutureType u) t e = none_some t e
bool_is (FutureStreamType u) t e = none_some t e
bool_is (PromiseType u) t e = none_some t e
bool_is (PromiseStreamType u) t e = none_some t e
bool_is (VectorType u) t e = none_some t e
bool_is NothingType t e = none_some t e

not_true : (b : Bool) → not b ≡ true → b ≡ false
not_true true e = sym e
not_true false e = refl

-- the function of a signature
function_is : (o : Option RoutineTree) (s : Signature) → option_map (λ (f : RoutineTree). record { params = param_types f.params; gives = f.returns }) o ≡ Some s
    → (f : RoutineTree) × (o ≡ Some f) × (param_types f.params ≡ s.params) × (f.returns ≡ s.gives)
function_is None s e = none_some s e
function_is (Some f) s e =
    let is : record { params = param_types f.params; gives = f.returns } ≡ s = some_same (record { params = param_types f.params; gives = f.returns }) s e in
    (f, refl, ap (λ (s : Signature). s.params) is, ap (λ (s : Signature). s.gives) is)

-- a function on arguments of its types means something
abbrev pub RunnerFits : List RecordTree → (ℕ → TypeTree → Type 0) → List RoutineTree → Runner → Type 0
RunnerFits rs typed fs run =
    (x : List ℕ) (f : RoutineTree) (vs : List ValueTree) (left : ℕ) → routine_named fs x ≡ Some f → HaveTypes rs typed (values_of_list vs) (param_types f.params)
    → Safe (λ v. HasType rs typed v f.returns) (run f vs left)

module _ (s : Setting) (typed : ℕ → TypeTree → Type 0) (actors : List RoutineTree) (run : Runner) where
  abbrev Is : TypeTree → ValueTree → Type 0
  Is t v = HasType s.records typed v t

  abbrev Are : List TypeTree → List ValueTree → Type 0
  Are ts vs = HaveTypes s.records typed (values_of_list vs) ts

  declared_good : (ro : Option Signature) (fo ao : Option RoutineTree) (x : List ℕ) (vs : List ValueTree) (ts : List TypeTree) (t : TypeTree) (left : ℕ)
      → RunnerFits s.records typed s.functions run → record_call s.records x ≡ ro → routine_named s.functions x ≡ fo
      → not (is_there ro) && not (is_there fo) && is_there ao ≡ false
      → applied (or_else ro (or_else (option_map (λ (f : RoutineTree). record { params = param_types f.params; gives = f.returns }) fo)
      (option_and_then (λ (f : RoutineTree). actor_gives (param_types f.params) f.returns) ao))) ts ≡ Some t
      → Are ts vs → Safe (Is t) (declared_called s run (record_id s.records x) x vs left)
  declared_good (Some sg) fo ao x vs ts t left runs ir fi w e h =
      let id = id_there s.records x sg ir in
      let is = applied_some sg ts t e in
      subst (λ o. Safe (Is t) (declared_called s run o x vs left)) (sym id.1)
      (ts, record { name = x; named = sym is.1 ∙ id.2; placed = id.1; call = sg; called = ir; fields = sym is.0 }, h)
  declared_good None (Some f) ao x vs ts t left runs ir fi w e h =
      let is = applied_some (record { params = param_types f.params; gives = f.returns }) ts t e in
      subst (λ o. Safe (Is t) (declared_called s run o x vs left)) (sym (no_id s.records x ir))
      (subst (λ o. Safe (Is t) (function_called s run o vs left)) (sym fi)
      (subst (λ t. Safe (Is t) (run f vs left)) is.1 (runs x f vs left fi (subst (λ ts. HaveTypes s.records typed (values_of_list vs) ts) (sym is.0) h))))
  declared_good None None (Some f) x vs ts t left runs ir fi w e h = absurd (cc)
  declared_good None None None x vs ts t left runs ir fi w e h = none_some t e

  module _ (vars : List ParamTree) where
    called_good : (o : Option Predefined) (x : List ℕ) (vs : List ValueTree) (ts : List TypeTree) (t : TypeTree) (left : ℕ)
        → RunnerFits s.records typed s.functions run → effect_in (scope_over s.records s.functions actors vars) x o ≡ false
        → applied (call_in (scope_over s.records s.functions actors vars) x o) ts ≡ Some t → Are ts vs → Safe (Is t) (called s run o x vs left)
    called_good (Some p) x vs ts t left runs w e h = once_good (Is t) (call_answer p s.now vs) left (call_typed s.records typed p s.now vs ts t w e h)
    called_good None x vs ts t left runs w e h =
        declared_good (record_call s.records x) (routine_named s.functions x) (routine_named actors x) x vs ts t left runs refl refl w e h

    method_good : (o : Option Method) (v : ValueTree) (u : TypeTree) (vs : List ValueTree) (ts : List TypeTree) (t : TypeTree) (left : ℕ)
        → CellsFit s.records typed s.cells → Is u v → applied (method_in u o) ts ≡ Some t → Are ts vs → Safe (Is t) (at_once (method_called s.cells o v vs) left)
    method_good None v u vs ts t left cells h e k = none_some t e
    method_good (Some m) v u vs ts t left cells h e k = once_good (Is t) (method_answer s.cells m v vs) left (method_typed s.records typed s.cells m v u vs ts t cells h e k)

    variable_good : (look : List ℕ → Option ValueTree) (o : Option ℕ) (x : List ℕ) (t : TypeTree) (left : ℕ) → VariablesFit s.records typed look vars
        → variable_in vars x o ≡ Some t → Safe (Is t) (at_once (variable look x o) left)
    variable_good look (Some n) x t left fit e = sym (some_same IntType t e)
    variable_good look None x t left fit e =
        let p = param_type (param_named vars x) t e in
        let v = fit x p.0 p.1 in
        subst (λ o. Safe (Is t) (at_once (found o) left)) (sym v.1) (subst (HasType s.records typed v.0) p.2 v.2)

    field_good : (v : ValueTree) (u : TypeTree) (x : List ℕ) (t : TypeTree) (left : ℕ) → Is u v → field_type s.records u x ≡ Some t → Safe (Is t) (at_once (field_answer (field s.records v x)) left)
    field_good v u x t left h e =
        let w = field_typed s.records typed v u x t h e in
        subst (λ o. Safe (Is t) (at_once (field_answer o) left)) (sym w.1) w.2

    not_good : (v : ValueTree) (u t : TypeTree) (left : ℕ) → Is u v → bool_only u ≡ Some t → Safe (Is t) (at_once (inverted v) left)
    not_good v u t left h e =
        let is = bool_is u t e in
        let b = is_bool_value s.records typed v (subst (λ u. Is u v) is.0 h) in
        subst (λ v. Safe (Is t) (at_once (inverted v) left)) (sym b.1) is.1

    neg_good : (v : ValueTree) (u t : TypeTree) (left : ℕ) → Is u v → int_only u ≡ Some t → Safe (Is t) (at_once (negated v) left)
    neg_good v u t left h e =
        let is = int_is u t e in
        let n = is_int_value s.records typed v (subst (λ u. Is u v) is.0 h) in
        subst (λ v. Safe (Is t) (at_once (negated v) left)) (sym n.1)
        (subst (λ t. Safe (Is t) (at_once (negated (IntValue n.0)) left)) (sym is.1)
        (once_good (Is IntType) (negated (IntValue n.0)) left (whole_typed s.records typed (if_int (neg_ℤ n.0) (neg_ℤ n.0)))))

    -- the second operand of `||` and `&&`
    truth_good : (r : Res ValueTree) → Safe (Is BoolType) r → Safe (Is BoolType) (truth_of r)
    truth_good r g = then_good (Is BoolType) (Is BoolType) r (λ v left. at_once (truth (bool_of v)) left) g
        (λ v left h. let b = is_bool_value s.records typed v h in subst (λ v. Safe (Is BoolType) (at_once (truth (bool_of v)) left)) (sym b.1) refl)

    or_good : (b : Bool) (go : ℕ → Res ValueTree) (left : ℕ) → Safe (Is BoolType) (go left) → Safe (Is BoolType) (or_then (Some b) go left)
    or_good true go left g = refl
    or_good false go left g = truth_good (go left) g

    and_good : (b : Bool) (go : ℕ → Res ValueTree) (left : ℕ) → Safe (Is BoolType) (go left) → Safe (Is BoolType) (and_then (Some b) go left)
    and_good true go left g = truth_good (go left) g
    and_good false go left g = refl

    both_good : (op : Op) (v : ValueTree) (u t : TypeTree) (r : Res ValueTree) → is_strict op ≡ true → Is u v → sign_type op u ≡ Some t → Safe (Is u) r
        → Safe (Is t) (both op v r)
    both_good op v u t r strict h e g = then_good (Is u) (Is t) r (λ w left. at_once (operated op v w) left) g
        (λ w left k. once_good (Is t) (operated op v w) left (operated_typed s.records typed op v w u t strict h k e))

    second_good : (op : Op) (v : ValueTree) (u t : TypeTree) (go : ℕ → Res ValueTree) (left : ℕ) → Is u v → sign_type op u ≡ Some t → Safe (Is u) (go left)
        → Safe (Is t) (second op v go left)
    second_good Or v u t go left h e g =
        let is = bool_is u t e in
        let b = is_bool_value s.records typed v (subst (λ u. Is u v) is.0 h) in
        subst (λ v. Safe (Is t) (second Or v go left)) (sym b.1)
        (subst (λ t. Safe (Is t) (or_then (Some b.0) go left)) (sym is.1) (or_good b.0 go left (subst (λ u. Safe (Is u) (go left)) is.0 g)))
    second_good And v u t go left h e g =
        let is = bool_is u t e in
        let b = is_bool_value s.records typed v (subst (λ u. Is u v) is.0 h) in
        subst (λ v. Safe (Is t) (second And v go left)) (sym b.1)
        (subst (λ t. Safe (Is t) (and_then (Some b.0) go left)) (sym is.1) (and_good b.0 go left (subst (λ u. Safe (Is u) (go left)) is.0 g)))
    second_good Eq v u t go left h e g = both_good Eq v u t (go left) refl h e g
    second_good Ne v u t go left h e g = both_good Ne v u t (go left) refl h e g
    second_good Lt v u t go left h e g = both_good Lt v u t (go left) refl h e g
    second_good Le v u t go left h e g = both_good Le v u t (go left) refl h e g
    second_good Gt v u t go left h e g = both_good Gt v u t (go left) refl h e g
    second_good Ge v u t go left h e g = both_good Ge v u t (go left) refl h e g
    second_good Add v u t go left h e g = both_good Add v u t (go left) refl h e g
    second_good Sub v u t go left h e g = both_good Sub v u t (go left) refl h e g
    second_good Mul v u t go left h e g = both_good Mul v u t (go left) refl h e g
    second_good Div v u t go left h e g = both_good Div v u t (go left) refl h e g
    second_good Rem v u t go left h e g = both_good Rem v u t (go left) refl h e g

    module _ (look : List ℕ → Option ValueTree) (fit : VariablesFit s.records typed look vars) (cells : CellsFit s.records typed s.cells) (runs : RunnerFits s.records typed s.functions run) where
      abbrev scope : ScopeTree
      scope = scope_over s.records s.functions actors vars

      mutual
        pub eval_good : (e : ExprTree) (t : TypeTree) (left : ℕ) → type_in scope e ≡ Some t → without_effects scope e ≡ true → Safe (Is t) (eval s run look e left)
        eval_good (IntExpr n) t left e w = sym (some_same IntType t e)
        eval_good (TextExpr x) t left e w = sym (some_same StringType t e)
        eval_good (BoolExpr b) t left e w = sym (some_same BoolType t e)
        eval_good VoidExpr t left e w = sym (some_same VoidType t e)
        eval_good (VarExpr x) t left e w = variable_good look (named constant_names x.name) x.name t left fit e
        eval_good (CallExpr f xs) t left e w =
            let p = with_typed (types_in scope xs) (applied (call_signature scope f.name)) t e in
            then_good (Are p.0) (Is t) (eval_all s run look xs left) (λ vs left. called s run (named call_names f.name) f.name vs left)
            (all_good xs p.0 left p.1 (and_right (not (effect_call scope f.name)) (all_without_effects scope xs) w))
            (λ vs left h. called_good (named call_names f.name) f.name vs p.0 t left runs
            (not_true (effect_call scope f.name) (and_left (not (effect_call scope f.name)) (all_without_effects scope xs) w)) p.2 h)
        eval_good (FieldExpr a x) t left e w =
            let p = with_typed (type_in scope a) (λ u. field_type s.records u x.name) t e in
            then_good (Is p.0) (Is t) (eval s run look a left) (λ v left. at_once (field_answer (field s.records v x.name)) left) (eval_good a p.0 left p.1 w)
            (λ v left h. field_good v p.0 x.name t left h p.2)
        eval_good (MethodExpr a m xs) t left e w =
            let p = with_typed (type_in scope a) (λ u. with_type (types_in scope xs) (applied (method_in u (selected m)))) t e in
            let q = with_typed (types_in scope xs) (applied (method_in p.0 (selected m))) t p.2 in
            then_good (Is p.0) (Is t) (eval s run look a left) (λ v left. then (eval_all s run look xs left) (λ vs left. at_once (method_called s.cells (selected m) v vs) left))
            (eval_good a p.0 left p.1 (and_left (without_effects scope a) (all_without_effects scope xs) w))
            (λ v left h. then_good (Are q.0) (Is t) (eval_all s run look xs left) (λ vs left. at_once (method_called s.cells (selected m) v vs) left)
            (all_good xs q.0 left q.1 (and_right (without_effects scope a) (all_without_effects scope xs) w))
            (λ vs left k. method_good (selected m) v p.0 vs q.0 t left cells h q.2 k))
        eval_good (NotExpr a) t left e w =
            let p = with_typed (type_in scope a) bool_only t e in
            then_good (Is p.0) (Is t) (eval s run look a left) (λ v left. at_once (inverted v) left) (eval_good a p.0 left p.1 w) (λ v left h. not_good v p.0 t left h p.2)
        eval_good (NegExpr a) t left e w =
            let p = with_typed (type_in scope a) int_only t e in
            then_good (Is p.0) (Is t) (eval s run look a left) (λ v left. at_once (negated v) left) (eval_good a p.0 left p.1 w) (λ v left h. neg_good v p.0 t left h p.2)
        eval_good (BinaryExpr op a b) t left e w =
            let p = with_typed (type_in scope a) (λ u. with_type (type_in scope b) (binary_type op u)) t e in
            let q = with_typed (type_in scope b) (binary_type op p.0) t p.2 in
            let is = binary_by (same_type p.0 q.0) (sign_type op p.0) t q.2 in
            let same : q.0 ≡ p.0 = sym (type_same p.0 q.0 is.0) in
            then_good (Is p.0) (Is t) (eval s run look a left) (λ v left. second op v (eval s run look b) left)
            (eval_good a p.0 left p.1 (and_left (without_effects scope a) (without_effects scope b) w))
            (λ v left h. second_good op v p.0 t (eval s run look b) left h is.1
            (subst (λ u. Safe (Is u) (eval s run look b left)) same (eval_good b q.0 left q.1 (and_right (without_effects scope a) (without_effects scope b) w))))
        eval_good (ParenExpr a) t left e w = eval_good a t left e w

        pub all_good : (es : ExprTrees) (ts : List TypeTree) (left : ℕ) → types_in scope es ≡ Some ts → all_without_effects scope es ≡ true → Safe (Are ts) (eval_all s run look es left)
        all_good NoExprs ts left e w = sym (some_same [] ts e)
        all_good (MoreExprs a es) ts left e w =
            let p = more_typed (type_in scope a) (types_in scope es) ts e in
            then_good (Is p.0) (Are ts) (eval s run look a left) (λ v left. then (eval_all s run look es left) (λ vs left. Done (v ∷ vs) left))
            (eval_good a p.0 left p.2 (and_left (without_effects scope a) (all_without_effects scope es) w))
            (λ v left h. then_good (Are p.1) (Are ts) (eval_all s run look es left) (λ vs left. Done (v ∷ vs) left)
            (all_good es p.1 left p.3 (and_right (without_effects scope a) (all_without_effects scope es) w))
            (λ vs left k. (p.0, p.1, p.4, h, k)))
