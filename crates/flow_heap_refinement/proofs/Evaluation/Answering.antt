-- Operators, predefined calls and fields keep a rule on references.
use Rattle.std.proofs.Common.{◌≡◌, ℕ, ℤ, pos, negsuc, Bool, true, false, List, [], ◌∷◌, ◌++◌, length, if◌then◌else◌, refl}
use Rattle.std.specs.Prelude.{◌&&◌, ◌+ℤ◌, ◌-ℤ◌, ◌*ℤ◌, neg_ℤ, int_le, nat_le, take, drop}
use Rattle.std.specs.Ordering.{is_eq, int_cmp, bool_cmp, nat_cmp}
use Rattle.std.specs.Cmp.Lexicographic.{slice_cmp}
use Rattle.std.specs.declared.option.Option.{Option}
use Rattle.std.specs.declared.option.Option.TheVariants.{None, Some}
use Rattle.flow_base.specs.ErrorNumbers.{too_long, bad_argument}
use Rattle.flow_tree.specs.declared.expr.Op.{Op}
use Rattle.flow_tree.specs.declared.expr.Op.TheVariants.{Or, And, Eq, Ne, Lt, Le, Gt, Ge, Add, Sub, Mul, Div, Rem}
use Rattle.flow_tree.specs.declared.ty.Ident.{Ident}
use Rattle.flow_tree.specs.Tree.{TypeTree, IntType, BoolType, StringType, VectorType}
use Rattle.flow_tree.specs.Decls.{RecordTree}
use Rattle.flow_ast.specs.declared.predefined.Predefined.{Predefined}
use Rattle.flow_ast.specs.declared.predefined.Predefined.TheVariants as call
use Rattle.flow_ast.specs.declared.predefined.Method.{Method}
use Rattle.flow_ast.specs.declared.predefined.Method.TheVariants as method
use Rattle.flow_value.specs.declared.value.Kind.{Kind}
use Rattle.flow_value.specs.declared.value.Kind.TheVariants as kind
use Rattle.flow_value.specs.Values.{ValueTree, ValueTrees, IntValue, BoolValue, TextValue, VoidValue, ErrorValue, CompositeValue, ListWhole, RefValue, OutcomeTree, GoodOutcome, BadOutcome, values_of_list, value_at, at_place, AllRefsIn}
use Rattle.flow_value.proofs.References.{part_refs, put_refs}
use Rattle.flow_eval.specs.Answers.{Answer, Given, Throws, NoMeaning, if_int, whole, truth, int_of, bool_of, text_of, arg}
use Rattle.flow_eval.specs.Operators.{quotient, remainder, compared, equated, on_ints, on_texts, operated, negated, inverted}
use Rattle.flow_eval.specs.Predefined.{read_int, int_read, to_string, to_int, in_error_range, natural, error_number, call_answer, substr, text_method, got, future_method, promise_method, stream_method, error_method, reference_method, method_answer, element, element_got, indexed, list_method}
use Rattle.flow_eval.specs.Records.{field_place, field, field_answer}
use Rattle.flow_eval.specs.Eval.{Res, Done, Fails, Spent, Meaningless, then as goes_on, at_once, more_args, found, truth_of, or_then, and_then, both, second, method_called}
use Rattle.flow_eval.specs.Functions.{default_value, put_at, place_of, put_in, read_in}
use Rattle.flow_heap_refinement.specs.Evaluation.{Rule, GivesFutures, RefNamed, Named, AllNamed, MaybeNamed, ResNamed, AllResNamed}

pub same_of : {X : Type 0} {x y : X} → Some x ≡ Some y → x ≡ y
same_of h = cc

module _ (p : Rule) where
  -- answers
  abbrev pub AnswerNamed : Answer → Type 0
  AnswerNamed (Given v) = Named p v
  AnswerNamed (Throws e) = Unit {0}
  AnswerNamed NoMeaning = Unit {0}

  pub once_named : (a : Answer) (left : ℕ) → AnswerNamed a → ResNamed p (at_once a left)
  once_named (Given v) left h = h
  once_named (Throws e) left h = tt
  once_named NoMeaning left h = tt

  pub either : (b : Bool) (x y : Answer) → AnswerNamed x → AnswerNamed y → AnswerNamed (if b then x else y)
  either true x y h k = h
  either false x y h k = k

  pub whole_named : (o : Option ℤ) → AnswerNamed (whole o)
  whole_named None = tt
  whole_named (Some z) = tt

  pub truth_named : (o : Option Bool) → AnswerNamed (truth o)
  truth_named None = tt
  truth_named (Some b) = tt

  pub ints_named : (op : Op) (a b : ℤ) → AnswerNamed (on_ints op a b)
  ints_named Add a b = whole_named (if_int (a +ℤ b) (a +ℤ b))
  ints_named Sub a b = whole_named (if_int (a -ℤ b) (a -ℤ b))
  ints_named Mul a b = whole_named (if_int (a *ℤ b) (a *ℤ b))
  ints_named Div a b = whole_named (quotient a b)
  ints_named Rem a b = whole_named (remainder a b)
  ints_named Or a b = truth_named (compared Or (int_cmp a b))
  ints_named And a b = truth_named (compared And (int_cmp a b))
  ints_named Eq a b = truth_named (compared Eq (int_cmp a b))
  ints_named Ne a b = truth_named (compared Ne (int_cmp a b))
  ints_named Lt a b = truth_named (compared Lt (int_cmp a b))
  ints_named Le a b = truth_named (compared Le (int_cmp a b))
  ints_named Gt a b = truth_named (compared Gt (int_cmp a b))
  ints_named Ge a b = truth_named (compared Ge (int_cmp a b))

  pub texts_named : (op : Op) (s t : List ℕ) → AnswerNamed (on_texts op s t)
  texts_named Add s t = either (nat_le (length (s ++ t)) 65535) (Given (TextValue (s ++ t))) (Throws too_long) tt tt
  texts_named Sub s t = truth_named (compared Sub (slice_cmp nat_cmp s t))
  texts_named Mul s t = truth_named (compared Mul (slice_cmp nat_cmp s t))
  texts_named Div s t = truth_named (compared Div (slice_cmp nat_cmp s t))
  texts_named Rem s t = truth_named (compared Rem (slice_cmp nat_cmp s t))
  texts_named Or s t = truth_named (compared Or (slice_cmp nat_cmp s t))
  texts_named And s t = truth_named (compared And (slice_cmp nat_cmp s t))
  texts_named Eq s t = truth_named (compared Eq (slice_cmp nat_cmp s t))
  texts_named Ne s t = truth_named (compared Ne (slice_cmp nat_cmp s t))
  texts_named Lt s t = truth_named (compared Lt (slice_cmp nat_cmp s t))
  texts_named Le s t = truth_named (compared Le (slice_cmp nat_cmp s t))
  texts_named Gt s t = truth_named (compared Gt (slice_cmp nat_cmp s t))
  texts_named Ge s t = truth_named (compared Ge (slice_cmp nat_cmp s t))

  pub operated_named : (op : Op) (v w : ValueTree) → AnswerNamed (operated op v w)
  operated_named op (IntValue a) (IntValue b) = ints_named op a b
  operated_named op (TextValue s) (TextValue t) = texts_named op s t
  operated_named op (BoolValue a) (BoolValue b) = truth_named (equated op (is_eq (bool_cmp a b)))
  operated_named op v w = tt

  pub negated_named : (v : ValueTree) → AnswerNamed (negated v)
  negated_named (IntValue a) = whole_named (if_int (neg_ℤ a) (neg_ℤ a))
  negated_named v = tt

  pub inverted_named : (v : ValueTree) → AnswerNamed (inverted v)
  inverted_named (BoolValue b) = tt
  inverted_named v = tt

  pub string_named : (o : Option ℤ) → AnswerNamed (to_string o)
  string_named None = tt
  string_named (Some z) = tt

  pub read_named : (o : Option ℤ) → AnswerNamed (int_read o)
  read_named None = tt
  read_named (Some z) = tt

  pub int_named : (o : Option (List ℕ)) → AnswerNamed (to_int o)
  int_named None = tt
  int_named (Some t) = read_named (read_int t)

  pub error_named : (o : Option ℤ) → AnswerNamed (error_number o)
  error_named None = tt
  error_named (Some z) = either (in_error_range z) (Given (ErrorValue (natural z))) (Throws bad_argument) tt tt

  pub call_named : (c : Predefined) (now : ℤ) (vs : List ValueTree) → AnswerNamed (call_answer c now vs)
  call_named call.ToString now vs = string_named (int_of (arg vs 0))
  call_named call.ToInt now vs = int_named (text_of (arg vs 0))
  call_named call.Now now vs = tt
  call_named call.EndOfStream now vs = tt
  call_named call.TimedOut now vs = tt
  call_named call.BrokenPromise now vs = tt
  call_named call.OperationCancelled now vs = tt
  call_named call.ActorCancelled now vs = tt
  call_named call.Error now vs = error_named (int_of (arg vs 0))
  call_named c now vs = tt

  pub part_named : (t : List ℕ) (a b : Option ℤ) → AnswerNamed (substr t a b)
  part_named t (Some a) (Some b) =
      either (int_le (pos 0) a && int_le a (pos (length t)) && int_le (pos 0) b) (Given (TextValue (take (natural b) (drop (natural a) t)))) (Throws bad_argument) tt tt
  part_named t (Some a) None = tt
  part_named t None b = tt

  pub text_named : (m : Method) (t : List ℕ) (vs : List ValueTree) → AnswerNamed (text_method m t vs)
  text_named method.Size t vs = tt
  text_named method.Substr t vs = part_named t (int_of (arg vs 0)) (int_of (arg vs 1))
  text_named m t vs = tt

  -- parts
  pub place_named : (vs : ValueTrees) (k : Option ℕ) → AllRefsIn (RefNamed p) vs → MaybeNamed p (at_place vs k)
  place_named vs None h = tt
  place_named vs (Some k) h = by_part (value_at vs k) refl
    where
      by_part : (o : Option ValueTree) → value_at vs k ≡ o → MaybeNamed p o
      by_part None e = tt
      by_part (Some w) e = part_refs (RefNamed p) vs k w e h

  module _ (gives : GivesFutures p) where
    abbrev pub Content : Option OutcomeTree → Type 0
    Content o = (v : ValueTree) → o ≡ Some (GoodOutcome v) → Named p v

    pub got_named : (o : Option OutcomeTree) → Content o → AnswerNamed (got o)
    got_named None h = tt
    got_named (Some (GoodOutcome v)) h = h v refl
    got_named (Some (BadOutcome e)) h = tt

    pub future_named : (m : Method) (o : Option OutcomeTree) → Content o → AnswerNamed (future_method m o)
    future_named method.IsReady o h = tt
    future_named method.IsError o h = tt
    future_named method.Get o h = got_named o h
    future_named m o h = tt

    pub promise_named : (m : Method) (c : ℕ) (o : Option OutcomeTree) → p kind.Promise c ≡ true → AnswerNamed (promise_method m c o)
    promise_named method.GetFuture c o h = gives.single c h
    promise_named method.IsSet c o h = tt
    promise_named m c o h = tt

    pub stream_named : (m : Method) (c : ℕ) → p kind.PromiseStream c ≡ true → AnswerNamed (stream_method m c)
    stream_named method.GetFuture c h = gives.stream c h
    stream_named m c h = tt

    pub reference_named : (cells : ℕ → Option OutcomeTree) → ((k : ℕ) → Content (cells k)) → (m : Method) (k : Kind) (c : ℕ) → p k c ≡ true → AnswerNamed (reference_method cells m k c)
    reference_named cells h m kind.Future c n = future_named m (cells c) (h c)
    reference_named cells h m kind.Promise c n = promise_named m c (cells c) n
    reference_named cells h m kind.PromiseStream c n = stream_named m c n
    reference_named cells h m kind.FutureStream c n = tt

    pub number_named : (m : Method) (e : ℕ) → AnswerNamed (error_method m e)
    number_named method.Code e = tt
    number_named m e = tt

    element_named : (o : Option ValueTree) → MaybeNamed p o → AnswerNamed (element_got o)
    element_named None h = tt
    element_named (Some v) h = h

    -- an element is a part
    at_index : (es : ValueTrees) (z : ℤ) → AllRefsIn (RefNamed p) es → MaybeNamed p (element es z)
    at_index es (pos n) h = place_named es (Some n) h
    at_index es (negsuc n) h = tt

    indexed_named : (es : ValueTrees) (o : Option ℤ) → AllRefsIn (RefNamed p) es → AnswerNamed (indexed es o)
    indexed_named es None h = tt
    indexed_named es (Some z) h = element_named (element es z) (at_index es z h)

    list_named : (m : Method) (es : ValueTrees) (vs : List ValueTree) → AllRefsIn (RefNamed p) es → AnswerNamed (list_method m es vs)
    list_named method.Size es vs h = tt
    list_named method.At es vs h = indexed_named es (int_of (arg vs 0)) h
    list_named m es vs h = tt

    pub method_named : (cells : ℕ → Option OutcomeTree) → ((k : ℕ) → Content (cells k)) → (m : Method) (v : ValueTree) (vs : List ValueTree) → Named p v → AnswerNamed (method_answer cells m v vs)
    method_named cells h m (ErrorValue e) vs n = number_named m e
    method_named cells h m (TextValue t) vs n = text_named m t vs
    method_named cells h m (RefValue k c) vs n = reference_named cells h m k c n
    method_named cells h m (CompositeValue ListWhole es) vs n = list_named m es vs n
    method_named cells h m _ vs n = tt

    pub maybe_method : (cells : ℕ → Option OutcomeTree) → ((k : ℕ) → Content (cells k)) → (m : Option Method) (v : ValueTree) (vs : List ValueTree) → Named p v
        → AnswerNamed (method_called cells m v vs)
    maybe_method cells h None v vs n = tt
    maybe_method cells h (Some m) v vs n = method_named cells h m v vs n

  -- fields
  pub field_named : (rs : List RecordTree) (v : ValueTree) (x : List ℕ) → Named p v → MaybeNamed p (field rs v x)
  field_named rs (CompositeValue r vs) x h = place_named vs (field_place rs r x) h
  field_named rs _ x h = tt

  pub answer_named : (o : Option ValueTree) → MaybeNamed p o → AnswerNamed (field_answer o)
  answer_named None h = tt
  answer_named (Some v) h = h

  pub found_named : (o : Option ValueTree) → MaybeNamed p o → AnswerNamed (found o)
  found_named None h = tt
  found_named (Some v) h = h

  pub record_named : (vs : List ValueTree) → AllNamed p vs → AllRefsIn (RefNamed p) (values_of_list vs)
  record_named [] h = tt
  record_named (v ∷ vs) h = (h.0, record_named vs h.1)

  -- one after another
  pub then_named : {A : Type 0} (Q : Res A → Type 0) (P : A → Type 0) → ((x : A) (left : ℕ) → Q (Done x left) → P x) → (r : Res A) (go : A → ℕ → Res ValueTree) → Q r
      → ((x : A) (left : ℕ) → P x → ResNamed p (go x left)) → ResNamed p (goes_on r go)
  then_named Q P q (Done x left) go h f = f x left (q x left h)
  then_named Q P q (Fails e left) go h f = tt
  then_named Q P q Spent go h f = tt
  then_named Q P q Meaningless go h f = tt

  pub value_then : (r : Res ValueTree) (go : ValueTree → ℕ → Res ValueTree) → ResNamed p r → ((v : ValueTree) (left : ℕ) → Named p v → ResNamed p (go v left)) → ResNamed p (goes_on r go)
  value_then r go h f = then_named (ResNamed p) (Named p) (λ x left z. z) r go h f

  pub values_then : (r : Res (List ValueTree)) (go : List ValueTree → ℕ → Res ValueTree) → AllResNamed p r → ((vs : List ValueTree) (left : ℕ) → AllNamed p vs → ResNamed p (go vs left))
      → ResNamed p (goes_on r go)
  values_then r go h f = then_named (AllResNamed p) (AllNamed p) (λ x left z. z) r go h f

  pub truth_then : (r : Res ValueTree) → ResNamed p (truth_of r)
  truth_then (Done v left) = once_named (truth (bool_of v)) left (truth_named (bool_of v))
  truth_then (Fails e left) = tt
  truth_then Spent = tt
  truth_then Meaningless = tt

  pub or_named : (b : Option Bool) (go : ℕ → Res ValueTree) (left : ℕ) → ResNamed p (or_then b go left)
  or_named None go left = tt
  or_named (Some true) go left = tt
  or_named (Some false) go left = truth_then (go left)

  pub and_named : (b : Option Bool) (go : ℕ → Res ValueTree) (left : ℕ) → ResNamed p (and_then b go left)
  and_named None go left = tt
  and_named (Some true) go left = truth_then (go left)
  and_named (Some false) go left = tt

  pub both_named : (op : Op) (v : ValueTree) (r : Res ValueTree) → ResNamed p (both op v r)
  both_named op v (Done w left) = once_named (operated op v w) left (operated_named op v w)
  both_named op v (Fails e left) = tt
  both_named op v Spent = tt
  both_named op v Meaningless = tt

  pub second_named : (op : Op) (v : ValueTree) (go : ℕ → Res ValueTree) (left : ℕ) → ResNamed p (second op v go left)
  second_named Or v go left = or_named (bool_of v) go left
  second_named And v go left = and_named (bool_of v) go left
  second_named Eq v go left = both_named Eq v (go left)
  second_named Ne v go left = both_named Ne v (go left)
  second_named Lt v go left = both_named Lt v (go left)
  second_named Le v go left = both_named Le v (go left)
  second_named Gt v go left = both_named Gt v (go left)
  second_named Ge v go left = both_named Ge v (go left)
  second_named Add v go left = both_named Add v (go left)
  second_named Sub v go left = both_named Sub v (go left)
  second_named Mul v go left = both_named Mul v (go left)
  second_named Div v go left = both_named Div v (go left)
  second_named Rem v go left = both_named Rem v (go left)

  pub more_named : (r : Res ValueTree) (go : ℕ → Res (List ValueTree)) → ResNamed p r → ((left : ℕ) → AllResNamed p (go left)) → AllResNamed p (more_args r go)
  more_named (Done v left) go h f = with_rest (go left) (f left)
    where
      with_rest : (q : Res (List ValueTree)) → AllResNamed p q → AllResNamed p (goes_on q (λ vs left. Done (v ∷ vs) left))
      with_rest (Done vs l) k = (h, k)
      with_rest (Fails e l) k = tt
      with_rest Spent k = tt
      with_rest Meaningless k = tt
  more_named (Fails e left) go h f = tt
  more_named Spent go h f = tt
  more_named Meaningless go h f = tt

  -- what variables begin with
  pub default_named : (t : TypeTree) → MaybeNamed p (default_value t)
  default_named IntType = tt
  default_named BoolType = tt
  default_named StringType = tt
  default_named (VectorType t) = tt
  default_named t = tt

  -- assignments
  put_at_named : (v : ValueTree) (k : Option ℕ) (o : Option ValueTree) → Named p v → MaybeNamed p o → MaybeNamed p (put_at v k o)
  put_at_named (CompositeValue r vs) (Some k) (Some w) h n = put_refs (RefNamed p) vs k w h n
  put_at_named (CompositeValue r vs) (Some k) None h n = tt
  put_at_named (CompositeValue r vs) None o h n = tt
  put_at_named (IntValue z) k o h n = tt
  put_at_named (BoolValue z) k o h n = tt
  put_at_named (TextValue z) k o h n = tt
  put_at_named VoidValue k o h n = tt
  put_at_named (ErrorValue z) k o h n = tt
  put_at_named (RefValue z c) k o h n = tt

  pub put_in_named : (rs : List RecordTree) (o : Option ValueTree) (xs : List Ident) (w : ValueTree) → MaybeNamed p o → Named p w → MaybeNamed p (put_in rs o xs w)
  put_in_named rs None xs w h n = tt
  put_in_named rs (Some v) [] w h n = n
  put_in_named rs (Some v) (x ∷ xs) w h n = put_at_named v (place_of rs v x.name) (put_in rs (field rs v x.name) xs w) h (put_in_named rs (field rs v x.name) xs w (field_named rs v x.name h) n)

  pub read_in_named : (rs : List RecordTree) (o : Option ValueTree) (xs : List Ident) → MaybeNamed p o → MaybeNamed p (read_in rs o xs)
  read_in_named rs None xs h = tt
  read_in_named rs (Some v) [] h = h
  read_in_named rs (Some v) (x ∷ xs) h = read_in_named rs (field rs v x.name) xs (field_named rs v x.name h)
