-- Operators, predefined calls and methods on well-typed values have an answer, and of their type.
use Rattle.std.proofs.Common.{◌≡◌, ℕ, zero, suc, ℤ, pos, negsuc, Bool, true, false, if◌then◌else◌, ◌&&◌, List, [], ◌∷◌, ◌++◌, length, slice_get, refl, ap, sym, subst, ◌∙◌}
use Rattle.std.specs.Prelude.{nat_le, int_le, take, drop}
use Rattle.std.specs.declared.option.Option.{Option}
use Rattle.std.specs.declared.option.Option.TheVariants.{None, Some}
use Rattle.flow_base.specs.ErrorNumbers.{bad_argument, too_long}
use Rattle.flow_base.proofs.Bools.{and_left, and_right}
use Rattle.flow_tree.specs.declared.expr.Op.{Op}
use Rattle.flow_tree.specs.declared.expr.Op.TheVariants.{Or, And, Eq, Ne, Lt, Le, Gt, Ge, Add, Sub, Mul, Div, Rem}
use Rattle.flow_ast.specs.declared.predefined.Predefined.{Predefined}
use Rattle.flow_ast.specs.declared.predefined.Predefined.TheVariants as call
use Rattle.flow_ast.specs.declared.predefined.Method.{Method}
use Rattle.flow_ast.specs.declared.predefined.Method.TheVariants as method
use Rattle.flow_tree.specs.Tree.{TypeTree, IntType, BoolType, StringType, VoidType, ErrorType, NamedType, FutureType, FutureStreamType, PromiseType, PromiseStreamType, VectorType, NothingType}
use Rattle.flow_tree.specs.Decls.{RecordTree}
use Rattle.flow_ast.specs.Typing.{Signature, signature, is_effect, applied, same_type, same_types, sum_type, order_type, equality_type, int_only, bool_only, sign_type, method_signature, field_type}
use Rattle.flow_ast.specs.Typing as type
use Rattle.flow_value.specs.declared.value.Kind.{Kind}
use Rattle.flow_value.specs.declared.value.Kind.TheVariants.{Promise, Future, PromiseStream, FutureStream}
use Rattle.flow_value.specs.Values.{ValueTree, ValueTrees, IntValue, BoolValue, TextValue, VoidValue, ErrorValue, CompositeValue, RefValue, RecordWhole, ListWhole, OutcomeTree, GoodOutcome, BadOutcome, values_of_list, value_at, at_place}
use Rattle.flow_eval.specs.Answers.{Answer, Given, Throws, NoMeaning, whole, truth, int_of, text_of, arg}
use Rattle.flow_eval.specs.Operators.{operated, on_ints, on_texts, on_bools, quotient, remainder}
use Rattle.flow_eval.specs.Predefined.{call_answer, method_answer, to_string, to_int, int_read, read_int, error_number, in_error_range, natural, substr, text_method, element, element_got, indexed, list_method, future_method, promise_method, stream_method, error_method, got}
use Rattle.flow_eval.specs.Records.{field}
use Rattle.flow_eval.specs.Typed.{reference_type, AllAre, HasType, HaveTypes, CellsFit}
use Rattle.flow_eval.proofs.TypedValues.{some_same, none_some, bytes_same, is_int_value, is_bool_value, is_text_value, field_at, value_got, element_fits}

-- two types that are said to be the same are
pub type_same : (t u : TypeTree) → same_type t u ≡ true → t ≡ u
type_same IntType IntType e = refl
type_same BoolType BoolType e = refl
type_same StringType StringType e = refl
type_same VoidType VoidType e = refl
type_same ErrorType ErrorType e = refl
type_same (NamedType x) (NamedType y) e = ap NamedType (bytes_same x y e)
type_same (FutureType t) (FutureType u) e = ap FutureType (type_same t u e)
type_same (FutureStreamType t) (FutureStreamType u) e = ap FutureStreamType (type_same t u e)
type_same (PromiseType t) (PromiseType u) e = ap PromiseType (type_same t u e)
type_same (PromiseStreamType t) (PromiseStreamType u) e = ap PromiseStreamType (type_same t u e)
type_same (VectorType t) (VectorType u) e = ap VectorType (type_same t u e)
type_same NothingType NothingType e = refl
type_same t u e = absurd (cc)

pub types_same : (ts us : List TypeTree) → same_types ts us ≡ true → ts ≡ us
types_same [] [] e = refl
types_same [] (u ∷ us) e = absurd (cc)
types_same (t ∷ ts) [] e = absurd (cc)
types_same (t ∷ ts) (u ∷ us) e =
    ap (λ t. t ∷ ts) (type_same t u (and_left (same_type t u) (same_types ts us) e)) ∙ ap (λ l. u ∷ l) (types_same ts us (and_right (same_type t u) (same_types ts us) e))

applied_by : (b : Bool) (s : Signature) (t : TypeTree) → (if b then Some s.gives else None) ≡ Some t → (b ≡ true) × (s.gives ≡ t)
applied_by true s t e = (refl, some_same s.gives t e)
applied_by false s t e = none_some t e

pub applied_some : (s : Signature) (ts : List TypeTree) (t : TypeTree) → applied (Some s) ts ≡ Some t → (s.params ≡ ts) × (s.gives ≡ t)
applied_some s ts t e =
    let h = applied_by (same_types s.params ts) s t e in
    (types_same s.params ts h.0, h.1)

-- a sign between two values of the type that it takes; `||` and `&&` go another way
abbrev pub is_strict : Op → Bool
is_strict Or = false
is_strict And = false
is_strict op = true

-- no sign takes another type
abbrev has_signs : TypeTree → Bool
has_signs IntType = true
has_signs BoolType = true
has_signs StringType = true
has_signs t = false

pub binary_by : (b : Bool) (o : Option TypeTree) (t : TypeTree) → (if b then o else None) ≡ Some t → (b ≡ true) × (o ≡ Some t)
binary_by true o t e = (refl, e)
binary_by false o t e = none_some t e

-- an answer that is there, with a property of the value
abbrev pub Answered : (ValueTree → Type 0) → Answer → Type 0
Answered P (Given v) = P v
Answered P (Throws e) = Unit {0}
Answered P NoMeaning = ⊥

module _ (rs : List RecordTree) (typed : ℕ → TypeTree → Type 0) where
  -- an answer of a type
  abbrev pub Typed : TypeTree → Answer → Type 0
  Typed t a = Answered (λ v. HasType rs typed v t) a

  pub whole_typed : (o : Option ℤ) → Typed IntType (whole o)
  whole_typed None = tt {0}
  whole_typed (Some z) = refl

  truth_typed : (o : Option Bool) (b : Bool) → o ≡ Some b → Typed BoolType (truth o)
  truth_typed None b e = none_some b e
  truth_typed (Some c) b e = refl

  joined_by : (b : Bool) (u : List ℕ) → Typed StringType (if b then Given (TextValue u) else Throws too_long)
  joined_by true u = refl
  joined_by false u = tt {0}

  ints_typed : (op : Op) (a b : ℤ) (t : TypeTree) → is_strict op ≡ true → sign_type op IntType ≡ Some t → Typed t (on_ints op a b)
  ints_typed Or a b t s e = absurd (cc)
  ints_typed And a b t s e = absurd (cc)
  ints_typed Eq a b t s e = subst (λ t. Typed t (on_ints Eq a b)) (some_same BoolType t e) refl
  ints_typed Ne a b t s e = subst (λ t. Typed t (on_ints Ne a b)) (some_same BoolType t e) refl
  ints_typed Lt a b t s e = subst (λ t. Typed t (on_ints Lt a b)) (some_same BoolType t e) refl
  ints_typed Le a b t s e = subst (λ t. Typed t (on_ints Le a b)) (some_same BoolType t e) refl
  ints_typed Gt a b t s e = subst (λ t. Typed t (on_ints Gt a b)) (some_same BoolType t e) refl
  ints_typed Ge a b t s e = subst (λ t. Typed t (on_ints Ge a b)) (some_same BoolType t e) refl
  ints_typed Add a b t s e = subst (λ t. Typed t (on_ints Add a b)) (some_same IntType t e) (whole_typed _)
  ints_typed Sub a b t s e = subst (λ t. Typed t (on_ints Sub a b)) (some_same IntType t e) (whole_typed _)
  ints_typed Mul a b t s e = subst (λ t. Typed t (on_ints Mul a b)) (some_same IntType t e) (whole_typed _)
  ints_typed Div a b t s e = subst (λ t. Typed t (on_ints Div a b)) (some_same IntType t e) (whole_typed (quotient a b))
  ints_typed Rem a b t s e = subst (λ t. Typed t (on_ints Rem a b)) (some_same IntType t e) (whole_typed (remainder a b))

  texts_typed : (op : Op) (a b : List ℕ) (t : TypeTree) → is_strict op ≡ true → sign_type op StringType ≡ Some t → Typed t (on_texts op a b)
  texts_typed Or a b t s e = absurd (cc)
  texts_typed And a b t s e = absurd (cc)
  texts_typed Eq a b t s e = subst (λ t. Typed t (on_texts Eq a b)) (some_same BoolType t e) refl
  texts_typed Ne a b t s e = subst (λ t. Typed t (on_texts Ne a b)) (some_same BoolType t e) refl
  texts_typed Lt a b t s e = subst (λ t. Typed t (on_texts Lt a b)) (some_same BoolType t e) refl
  texts_typed Le a b t s e = subst (λ t. Typed t (on_texts Le a b)) (some_same BoolType t e) refl
  texts_typed Gt a b t s e = subst (λ t. Typed t (on_texts Gt a b)) (some_same BoolType t e) refl
  texts_typed Ge a b t s e = subst (λ t. Typed t (on_texts Ge a b)) (some_same BoolType t e) refl
  texts_typed Add a b t s e = subst (λ t. Typed t (on_texts Add a b)) (some_same StringType t e) (joined_by (nat_le (length (a ++ b)) 65535) (a ++ b))
  texts_typed Sub a b t s e = none_some t e
  texts_typed Mul a b t s e = none_some t e
  texts_typed Div a b t s e = none_some t e
  texts_typed Rem a b t s e = none_some t e

  bools_typed : (op : Op) (a b : Bool) (t : TypeTree) → is_strict op ≡ true → sign_type op BoolType ≡ Some t → Typed t (on_bools op a b)
  bools_typed Or a b t s e = absurd (cc)
  bools_typed And a b t s e = absurd (cc)
  bools_typed Eq a b t s e = subst (λ t. Typed t (on_bools Eq a b)) (some_same BoolType t e) refl
  bools_typed Ne a b t s e = subst (λ t. Typed t (on_bools Ne a b)) (some_same BoolType t e) refl
  bools_typed Lt a b t s e = none_some t e
  bools_typed Le a b t s e = none_some t e
  bools_typed Gt a b t s e = none_some t e
  bools_typed Ge a b t s e = none_some t e
  bools_typed Add a b t s e = none_some t e
  bools_typed Sub a b t s e = none_some t e
  bools_typed Mul a b t s e = none_some t e
  bools_typed Div a b t s e = none_some t e
  bools_typed Rem a b t s e = none_some t e

  no_types : (u : TypeTree) → has_signs u ≡ false → (sum_type u ≡ None) × (order_type u ≡ None) × (equality_type u ≡ None) × (int_only u ≡ None) × (bool_only u ≡ None)
  no_types IntType s = absurd (cc)
  no_types BoolType s = absurd (cc)
  no_types StringType s = absurd (cc)
  no_types VoidType s = (refl, refl, refl, refl, refl)
  no_types ErrorType s = (refl, refl, refl, refl, refl)
  no_types (NamedType x) s = (refl, refl, refl, refl, refl)
  no_types (FutureType u) s = (refl, refl, refl, refl, refl)
  no_types (FutureStreamType u) s = (refl, refl, refl, refl, refl)
  no_types (PromiseType u) s = (refl, refl, refl, refl, refl)
  no_types (PromiseStreamType u) s = (refl, refl, refl, refl, refl)
  no_types (VectorType u) s = (refl, refl, refl, refl, refl)
  no_types NothingType s = (refl, refl, refl, refl, refl)

  no_sign : {A : Type 0} (op : Op) (u t : TypeTree) → has_signs u ≡ false → sign_type op u ≡ Some t → A
  no_sign Or u t s e = none_some t (sym (no_types u s).4 ∙ e)
  no_sign And u t s e = none_some t (sym (no_types u s).4 ∙ e)
  no_sign Eq u t s e = none_some t (sym (no_types u s).2 ∙ e)
  no_sign Ne u t s e = none_some t (sym (no_types u s).2 ∙ e)
  no_sign Lt u t s e = none_some t (sym (no_types u s).1 ∙ e)
  no_sign Le u t s e = none_some t (sym (no_types u s).1 ∙ e)
  no_sign Gt u t s e = none_some t (sym (no_types u s).1 ∙ e)
  no_sign Ge u t s e = none_some t (sym (no_types u s).1 ∙ e)
  no_sign Add u t s e = none_some t (sym (no_types u s).0 ∙ e)
  no_sign Sub u t s e = none_some t (sym (no_types u s).3 ∙ e)
  no_sign Mul u t s e = none_some t (sym (no_types u s).3 ∙ e)
  no_sign Div u t s e = none_some t (sym (no_types u s).3 ∙ e)
  no_sign Rem u t s e = none_some t (sym (no_types u s).3 ∙ e)

  unsigned : (k : Kind) (u : TypeTree) → has_signs (reference_type k u) ≡ false
  unsigned Promise u = refl
  unsigned Future u = refl
  unsigned PromiseStream u = refl
  unsigned FutureStream u = refl

  pub operated_typed : (op : Op) (v w : ValueTree) (u t : TypeTree) → is_strict op ≡ true → HasType rs typed v u → HasType rs typed w u → sign_type op u ≡ Some t
      → Typed t (operated op v w)
  operated_typed op (IntValue a) w u t s h k e =
      let b = is_int_value rs typed w (subst (HasType rs typed w) h k) in
      subst (λ w. Typed t (operated op (IntValue a) w)) (sym b.1) (ints_typed op a b.0 t s (subst (λ u. sign_type op u ≡ Some t) h e))
  operated_typed op (BoolValue a) w u t s h k e =
      let b = is_bool_value rs typed w (subst (HasType rs typed w) h k) in
      subst (λ w. Typed t (operated op (BoolValue a) w)) (sym b.1) (bools_typed op a b.0 t s (subst (λ u. sign_type op u ≡ Some t) h e))
  operated_typed op (TextValue a) w u t s h k e =
      let b = is_text_value rs typed w (subst (HasType rs typed w) h k) in
      subst (λ w. Typed t (operated op (TextValue a) w)) (sym b.1) (texts_typed op a b.0 t s (subst (λ u. sign_type op u ≡ Some t) h e))
  operated_typed op VoidValue w u t s h k e = no_sign op VoidType t refl (subst (λ u. sign_type op u ≡ Some t) h e)
  operated_typed op (ErrorValue n) w u t s h k e = no_sign op ErrorType t refl (subst (λ u. sign_type op u ≡ Some t) h e)
  operated_typed op (CompositeValue (RecordWhole r) vs) w u t s h k e = no_sign op (NamedType h.1.name) t refl (subst (λ u. sign_type op u ≡ Some t) h.1.named e)
  operated_typed op (CompositeValue ListWhole vs) w u t s h k e = no_sign op (VectorType h.1.0) t refl (subst (λ u. sign_type op u ≡ Some t) h.1.1 e)
  operated_typed op (RefValue j c) w u t s h k e = no_sign op (reference_type j h.0) t (unsigned j h.0) (subst (λ u. sign_type op u ≡ Some t) h.1 e)

  -- the argument at a place
  arg_at : (vs : List ValueTree) (ts : List TypeTree) (k : ℕ) (t : TypeTree) → HaveTypes rs typed (values_of_list vs) ts → slice_get ts k ≡ Some t → HasType rs typed (arg vs k) t
  arg_at [] ts k t h e = none_some t (sym (ap (λ l. slice_get l k) h) ∙ e)
  arg_at (v ∷ vs) ts zero t h e = subst (HasType rs typed v) (some_same h.0 t (sym (ap (λ l. slice_get l 0) h.2) ∙ e)) h.3
  arg_at (v ∷ vs) ts (suc k) t h e = arg_at vs h.1 k t h.4 (sym (ap (λ l. slice_get l (suc k)) h.2) ∙ e)

  int_at : (vs : List ValueTree) (ts : List TypeTree) (k : ℕ) → HaveTypes rs typed (values_of_list vs) ts → slice_get ts k ≡ Some IntType → (n : ℤ) × (int_of (arg vs k) ≡ Some n)
  int_at vs ts k h e =
      let n = is_int_value rs typed (arg vs k) (arg_at vs ts k IntType h e) in
      (n.0, ap int_of n.1)

  text_at : (vs : List ValueTree) (ts : List TypeTree) (k : ℕ) → HaveTypes rs typed (values_of_list vs) ts → slice_get ts k ≡ Some StringType → (s : List ℕ) × (text_of (arg vs k) ≡ Some s)
  text_at vs ts k h e =
      let s = is_text_value rs typed (arg vs k) (arg_at vs ts k StringType h e) in
      (s.0, ap text_of s.1)

  read_typed : (o : Option ℤ) → Typed IntType (int_read o)
  read_typed None = tt {0}
  read_typed (Some z) = refl

  error_by : (b : Bool) (n : ℕ) → Typed ErrorType (if b then Given (ErrorValue n) else Throws bad_argument)
  error_by true n = refl
  error_by false n = tt {0}

  clipped_by : (b : Bool) (s : List ℕ) → Typed StringType (if b then Given (TextValue s) else Throws bad_argument)
  clipped_by true s = refl
  clipped_by false s = tt {0}

  -- a predefined call that is no effect
  pub call_typed : (p : Predefined) (now : ℤ) (vs : List ValueTree) (ts : List TypeTree) (t : TypeTree) → is_effect p ≡ false → applied (signature p) ts ≡ Some t
      → HaveTypes rs typed (values_of_list vs) ts → Typed t (call_answer p now vs)
  call_typed call.ToString now vs ts t f e h =
      let is = applied_some (record { params = IntType ∷ []; gives = StringType }) ts t e in
      let n = int_at vs ts 0 h (ap (λ l. slice_get l 0) (sym is.0)) in
      subst (λ t. Typed t (call_answer call.ToString now vs)) is.1 (subst (λ o. Typed StringType (to_string o)) (sym n.1) refl)
  call_typed call.ToInt now vs ts t f e h =
      let is = applied_some (record { params = StringType ∷ []; gives = IntType }) ts t e in
      let s = text_at vs ts 0 h (ap (λ l. slice_get l 0) (sym is.0)) in
      subst (λ t. Typed t (call_answer call.ToInt now vs)) is.1 (subst (λ o. Typed IntType (to_int o)) (sym s.1) (read_typed (read_int s.0)))
  call_typed call.Now now vs ts t f e h = sym (applied_some (record { params = []; gives = IntType }) ts t e).1
  call_typed call.EndOfStream now vs ts t f e h = sym (applied_some (record { params = []; gives = ErrorType }) ts t e).1
  call_typed call.TimedOut now vs ts t f e h = sym (applied_some (record { params = []; gives = ErrorType }) ts t e).1
  call_typed call.BrokenPromise now vs ts t f e h = sym (applied_some (record { params = []; gives = ErrorType }) ts t e).1
  call_typed call.OperationCancelled now vs ts t f e h = sym (applied_some (record { params = []; gives = ErrorType }) ts t e).1
  call_typed call.ActorCancelled now vs ts t f e h = sym (applied_some (record { params = []; gives = ErrorType }) ts t e).1
  call_typed call.Error now vs ts t f e h =
      let is = applied_some (record { params = IntType ∷ []; gives = ErrorType }) ts t e in
      let n = int_at vs ts 0 h (ap (λ l. slice_get l 0) (sym is.0)) in
      subst (λ t. Typed t (call_answer call.Error now vs)) is.1 (subst (λ o. Typed ErrorType (error_number o)) (sym n.1) (error_by (in_error_range n.0) (natural n.0)))
  call_typed call.RandomInt now vs ts t f e h = absurd (cc)
  call_typed call.Delay now vs ts t f e h = absurd (cc)
  call_typed call.Never now vs ts t f e h = absurd (cc)
  call_typed call.Listen now vs ts t f e h = absurd (cc)
  call_typed call.ReadFile now vs ts t f e h = absurd (cc)
  call_typed call.WriteFile now vs ts t f e h = absurd (cc)
  call_typed call.SyncFile now vs ts t f e h = absurd (cc)
  call_typed call.FileSize now vs ts t f e h = absurd (cc)
  call_typed call.Trace now vs ts t f e h = none_some t e
  call_typed call.SendTo now vs ts t f e h = none_some t e

  -- a field of a record
  pub field_typed : (v : ValueTree) (u : TypeTree) (x : List ℕ) (t : TypeTree) → HasType rs typed v u → field_type rs u x ≡ Some t
      → (w : ValueTree) × (field rs v x ≡ Some w) × HasType rs typed w t
  field_typed (IntValue n) u x t h e = none_some t (sym (ap (λ u. field_type rs u x) h) ∙ e)
  field_typed (BoolValue b) u x t h e = none_some t (sym (ap (λ u. field_type rs u x) h) ∙ e)
  field_typed (TextValue s) u x t h e = none_some t (sym (ap (λ u. field_type rs u x) h) ∙ e)
  field_typed VoidValue u x t h e = none_some t (sym (ap (λ u. field_type rs u x) h) ∙ e)
  field_typed (ErrorValue n) u x t h e = none_some t (sym (ap (λ u. field_type rs u x) h) ∙ e)
  field_typed (CompositeValue (RecordWhole r) vs) u x t h e =
      let m = h.1 in
      let at = field_at rs m.name r m.call x t m.placed m.called (sym (ap (λ u. field_type rs u x) m.named) ∙ e) in
      let got = value_got rs typed vs h.0 at.0 t h.2 (ap (λ l. slice_get l at.0) m.fields ∙ at.2) in
      (got.0, ap (at_place vs) at.1 ∙ got.1, got.2)
  field_typed (CompositeValue ListWhole vs) u x t h e = none_some t (sym (ap (λ u. field_type rs u x) h.1.1) ∙ e)
  field_typed (RefValue Promise c) u x t h e = none_some t (sym (ap (λ u. field_type rs u x) h.1) ∙ e)
  field_typed (RefValue Future c) u x t h e = none_some t (sym (ap (λ u. field_type rs u x) h.1) ∙ e)
  field_typed (RefValue PromiseStream c) u x t h e = none_some t (sym (ap (λ u. field_type rs u x) h.1) ∙ e)
  field_typed (RefValue FutureStream c) u x t h e = none_some t (sym (ap (λ u. field_type rs u x) h.1) ∙ e)

  -- a method without effects
  error_method_typed : (m : Method) (e : ℕ) (ts : List TypeTree) (t : TypeTree) → applied (type.error_method m) ts ≡ Some t → Typed t (error_method m e)
  error_method_typed method.Code n ts t e = sym (applied_some (record { params = []; gives = IntType }) ts t e).1
  error_method_typed method.Size n ts t e = none_some t e
  error_method_typed method.Substr n ts t e = none_some t e
  error_method_typed method.IsReady n ts t e = none_some t e
  error_method_typed method.IsError n ts t e = none_some t e
  error_method_typed method.Get n ts t e = none_some t e
  error_method_typed method.GetFuture n ts t e = none_some t e
  error_method_typed method.IsSet n ts t e = none_some t e
  error_method_typed method.Send n ts t e = none_some t e
  error_method_typed method.SendError n ts t e = none_some t e
  error_method_typed method.Cancel n ts t e = none_some t e
  error_method_typed method.PushBack n ts t e = none_some t e
  error_method_typed method.Clear n ts t e = none_some t e
  error_method_typed method.At n ts t e = none_some t e

  substr_typed : (s : List ℕ) (o p : Option ℤ) (from count : ℤ) → o ≡ Some from → p ≡ Some count → Typed StringType (substr s o p)
  substr_typed s o p from count e h =
      subst (λ o. Typed StringType (substr s o p)) (sym e)
      (subst (λ p. Typed StringType (substr s (Some from) p)) (sym h)
      (clipped_by (int_le (pos 0) from && int_le from (pos (length s)) && int_le (pos 0) count) (take (natural count) (drop (natural from) s))))

  text_method_typed : (m : Method) (s : List ℕ) (vs : List ValueTree) (ts : List TypeTree) (t : TypeTree) → applied (type.text_method m) ts ≡ Some t → HaveTypes rs typed (values_of_list vs) ts
      → Typed t (text_method m s vs)
  text_method_typed method.Size s vs ts t e h = sym (applied_some (record { params = []; gives = IntType }) ts t e).1
  text_method_typed method.Substr s vs ts t e h =
      let is = applied_some (record { params = IntType ∷ IntType ∷ []; gives = StringType }) ts t e in
      let from = int_at vs ts 0 h (ap (λ l. slice_get l 0) (sym is.0)) in
      let count = int_at vs ts 1 h (ap (λ l. slice_get l 1) (sym is.0)) in
      subst (λ t. Typed t (text_method method.Substr s vs)) is.1 (substr_typed s (int_of (arg vs 0)) (int_of (arg vs 1)) from.0 count.0 from.1 count.1)
  text_method_typed method.Code s vs ts t e h = none_some t e
  text_method_typed method.IsReady s vs ts t e h = none_some t e
  text_method_typed method.IsError s vs ts t e h = none_some t e
  text_method_typed method.Get s vs ts t e h = none_some t e
  text_method_typed method.GetFuture s vs ts t e h = none_some t e
  text_method_typed method.IsSet s vs ts t e h = none_some t e
  text_method_typed method.Send s vs ts t e h = none_some t e
  text_method_typed method.SendError s vs ts t e h = none_some t e
  text_method_typed method.Cancel s vs ts t e h = none_some t e
  text_method_typed method.PushBack s vs ts t e h = none_some t e
  text_method_typed method.Clear s vs ts t e h = none_some t e
  text_method_typed method.At s vs ts t e h = none_some t e

  -- an element of a list, or the error of an index that is none of one
  got_element_typed : (o : Option ValueTree) (u : TypeTree) → ((v : ValueTree) → o ≡ Some v → HasType rs typed v u) → Typed u (element_got o)
  got_element_typed None u h = tt {0}
  got_element_typed (Some v) u h = h v refl

  element_typed : (es : ValueTrees) (us : List TypeTree) (u : TypeTree) (n : ℤ) → HaveTypes rs typed es us → AllAre u us → Typed u (element_got (element es n))
  element_typed es us u (pos k) h a = got_element_typed (value_at es k) u (λ v e. element_fits rs typed es us u k v h a e)
  element_typed es us u (negsuc k) h a = tt {0}

  list_method_typed : (m : Method) (es : ValueTrees) (vs : List ValueTree) (us ts : List TypeTree) (u t : TypeTree) → HaveTypes rs typed es us → AllAre u us
      → applied (type.vector_method u m) ts ≡ Some t → HaveTypes rs typed (values_of_list vs) ts → Typed t (list_method m es vs)
  list_method_typed method.Size es vs us ts u t h a e k = sym (applied_some (record { params = []; gives = IntType }) ts t e).1
  list_method_typed method.At es vs us ts u t h a e k =
      let is = applied_some (record { params = IntType ∷ []; gives = u }) ts t e in
      let n = int_at vs ts 0 k (ap (λ l. slice_get l 0) (sym is.0)) in
      subst (λ t. Typed t (list_method method.At es vs)) is.1 (subst (λ o. Typed u (indexed es o)) (sym n.1) (element_typed es us u n.0 h a))
  list_method_typed method.Code es vs us ts u t h a e k = none_some t e
  list_method_typed method.Substr es vs us ts u t h a e k = none_some t e
  list_method_typed method.IsReady es vs us ts u t h a e k = none_some t e
  list_method_typed method.IsError es vs us ts u t h a e k = none_some t e
  list_method_typed method.Get es vs us ts u t h a e k = none_some t e
  list_method_typed method.GetFuture es vs us ts u t h a e k = none_some t e
  list_method_typed method.IsSet es vs us ts u t h a e k = none_some t e
  list_method_typed method.Send es vs us ts u t h a e k = none_some t e
  list_method_typed method.SendError es vs us ts u t h a e k = none_some t e
  list_method_typed method.Cancel es vs us ts u t h a e k = none_some t e
  list_method_typed method.PushBack es vs us ts u t h a e k = none_some t e
  list_method_typed method.Clear es vs us ts u t h a e k = none_some t e

  got_typed : (o : Option OutcomeTree) (t : TypeTree) → ((v : ValueTree) → o ≡ Some (GoodOutcome v) → HasType rs typed v t) → Typed t (got o)
  got_typed None t h = tt {0}
  got_typed (Some (GoodOutcome v)) t h = h v refl
  got_typed (Some (BadOutcome e)) t h = tt {0}

  future_method_typed : (m : Method) (o : Option OutcomeTree) (u : TypeTree) (ts : List TypeTree) (t : TypeTree)
      → ((v : ValueTree) → o ≡ Some (GoodOutcome v) → HasType rs typed v u) → applied (type.future_method u m) ts ≡ Some t → Typed t (future_method m o)
  future_method_typed method.IsReady o u ts t h e = sym (applied_some (record { params = []; gives = BoolType }) ts t e).1
  future_method_typed method.IsError o u ts t h e = sym (applied_some (record { params = []; gives = BoolType }) ts t e).1
  future_method_typed method.Get o u ts t h e = subst (λ t. Typed t (got o)) (applied_some (record { params = []; gives = u }) ts t e).1 (got_typed o u h)
  future_method_typed method.Code o u ts t h e = none_some t e
  future_method_typed method.Size o u ts t h e = none_some t e
  future_method_typed method.Substr o u ts t h e = none_some t e
  future_method_typed method.GetFuture o u ts t h e = none_some t e
  future_method_typed method.IsSet o u ts t h e = none_some t e
  future_method_typed method.Send o u ts t h e = none_some t e
  future_method_typed method.SendError o u ts t h e = none_some t e
  future_method_typed method.Cancel o u ts t h e = none_some t e
  future_method_typed method.PushBack o u ts t h e = none_some t e
  future_method_typed method.Clear o u ts t h e = none_some t e
  future_method_typed method.At o u ts t h e = none_some t e

  promise_method_typed : (m : Method) (c : ℕ) (o : Option OutcomeTree) (u : TypeTree) (ts : List TypeTree) (t : TypeTree) → typed c (FutureType u)
      → applied (type.promise_method u m) ts ≡ Some t → Typed t (promise_method m c o)
  promise_method_typed method.GetFuture c o u ts t h e = (u, sym (applied_some (record { params = []; gives = FutureType u }) ts t e).1, h)
  promise_method_typed method.IsSet c o u ts t h e = sym (applied_some (record { params = []; gives = BoolType }) ts t e).1
  promise_method_typed method.Code c o u ts t h e = none_some t e
  promise_method_typed method.Size c o u ts t h e = none_some t e
  promise_method_typed method.Substr c o u ts t h e = none_some t e
  promise_method_typed method.IsReady c o u ts t h e = none_some t e
  promise_method_typed method.IsError c o u ts t h e = none_some t e
  promise_method_typed method.Get c o u ts t h e = none_some t e
  promise_method_typed method.Send c o u ts t h e = none_some t e
  promise_method_typed method.SendError c o u ts t h e = none_some t e
  promise_method_typed method.Cancel c o u ts t h e = none_some t e
  promise_method_typed method.PushBack c o u ts t h e = none_some t e
  promise_method_typed method.Clear c o u ts t h e = none_some t e
  promise_method_typed method.At c o u ts t h e = none_some t e

  stream_method_typed : (m : Method) (c : ℕ) (u : TypeTree) (ts : List TypeTree) (t : TypeTree) → typed c (FutureStreamType u) → applied (type.stream_method u m) ts ≡ Some t
      → Typed t (stream_method m c)
  stream_method_typed method.GetFuture c u ts t h e = (u, sym (applied_some (record { params = []; gives = FutureStreamType u }) ts t e).1, h)
  stream_method_typed method.Code c u ts t h e = none_some t e
  stream_method_typed method.Size c u ts t h e = none_some t e
  stream_method_typed method.Substr c u ts t h e = none_some t e
  stream_method_typed method.IsReady c u ts t h e = none_some t e
  stream_method_typed method.IsError c u ts t h e = none_some t e
  stream_method_typed method.Get c u ts t h e = none_some t e
  stream_method_typed method.IsSet c u ts t h e = none_some t e
  stream_method_typed method.Send c u ts t h e = none_some t e
  stream_method_typed method.SendError c u ts t h e = none_some t e
  stream_method_typed method.Cancel c u ts t h e = none_some t e
  stream_method_typed method.PushBack c u ts t h e = none_some t e
  stream_method_typed method.Clear c u ts t h e = none_some t e
  stream_method_typed method.At c u ts t h e = none_some t e

  pub method_typed : (cells : ℕ → Option OutcomeTree) (m : Method) (v : ValueTree) (u : TypeTree) (vs : List ValueTree) (ts : List TypeTree) (t : TypeTree)
      → CellsFit rs typed cells → HasType rs typed v u → applied (method_signature u m) ts ≡ Some t → HaveTypes rs typed (values_of_list vs) ts → Typed t (method_answer cells m v vs)
  method_typed cells m (IntValue n) u vs ts t fit h e k = none_some t (sym (ap (λ u. applied (method_signature u m) ts) h) ∙ e)
  method_typed cells m (BoolValue b) u vs ts t fit h e k = none_some t (sym (ap (λ u. applied (method_signature u m) ts) h) ∙ e)
  method_typed cells m (TextValue s) u vs ts t fit h e k = text_method_typed m s vs ts t (sym (ap (λ u. applied (method_signature u m) ts) h) ∙ e) k
  method_typed cells m VoidValue u vs ts t fit h e k = none_some t (sym (ap (λ u. applied (method_signature u m) ts) h) ∙ e)
  method_typed cells m (ErrorValue n) u vs ts t fit h e k = error_method_typed m n ts t (sym (ap (λ u. applied (method_signature u m) ts) h) ∙ e)
  method_typed cells m (CompositeValue (RecordWhole r) ws) u vs ts t fit h e k = none_some t (sym (ap (λ u. applied (method_signature u m) ts) h.1.named) ∙ e)
  method_typed cells m (CompositeValue ListWhole ws) u vs ts t fit h e k =
      list_method_typed m ws vs h.0 ts h.1.0 t h.2 h.1.2 (sym (ap (λ u. applied (method_signature u m) ts) h.1.1) ∙ e) k
  method_typed cells m (RefValue Future c) u vs ts t fit h e k =
      future_method_typed m (cells c) h.0 ts t (λ v is. fit c h.0 v h.2 is) (sym (ap (λ u. applied (method_signature u m) ts) h.1) ∙ e)
  method_typed cells m (RefValue Promise c) u vs ts t fit h e k =
      promise_method_typed m c (cells c) h.0 ts t h.2 (sym (ap (λ u. applied (method_signature u m) ts) h.1) ∙ e)
  method_typed cells m (RefValue PromiseStream c) u vs ts t fit h e k =
      stream_method_typed m c h.0 ts t h.2 (sym (ap (λ u. applied (method_signature u m) ts) h.1) ∙ e)
  method_typed cells m (RefValue FutureStream c) u vs ts t fit h e k = none_some t (sym (ap (λ u. applied (method_signature u m) ts) h.1) ∙ e)
