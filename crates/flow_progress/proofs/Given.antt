-- What effects, messages and prints make of arguments of their types.
use Rattle.std.proofs.Common.{◌≡◌, ℕ, zero, suc, ℤ, Bool, true, false, List, [], ◌∷◌, ◌⊎◌, inl, inr, refl, sym, ap, ◌∙◌, subst}
use Rattle.std.specs.Prelude.{slice_get, codes, position}
use Rattle.std.specs.Option.{option_map}
use Rattle.std.specs.Str.{bytes_eq}
use Rattle.std.specs.declared.option.Option.{Option}
use Rattle.std.specs.declared.option.Option.TheVariants.{None, Some}
use Rattle.flow_tree.specs.Tree.{TypeTree, IntType, BoolType, StringType, VoidType, ErrorType, NamedType, FutureType, FutureStreamType, PromiseType, PromiseStreamType, ExprTree, ExprTrees, CallExpr, VectorType, NothingType}
use Rattle.flow_tree.specs.Decls.{ParamTree, RecordTree, RoutineTree}
use Rattle.flow_ast.specs.declared.predefined.Predefined.{Predefined}
use Rattle.flow_ast.specs.declared.predefined.Predefined.TheVariants as code
use Rattle.flow_ast.specs.declared.predefined.Method.{Method}
use Rattle.flow_ast.specs.declared.predefined.Method.TheVariants as method
use Rattle.flow_ast.specs.Typing.{Signature, signature, is_effect, equality_type, is_there, is_nothing}
use Rattle.flow_ast.specs.TypingNames.{named, call_names}
use Rattle.flow_value.specs.declared.value.Kind.{Kind}
use Rattle.flow_value.specs.declared.value.Kind.TheVariants as kind
use Rattle.flow_value.specs.Values.{ValueTree, IntValue, BoolValue, TextValue, VoidValue, ErrorValue, CompositeValue, RefValue, GoodOutcome, BadOutcome, values_of_list, ValueTrees, RecordWhole, ListWhole}
use Rattle.flow_eval.specs.Answers.{int_of, text_of, error_of, arg}
use Rattle.flow_eval.specs.Typed.{HasType, HaveTypes, AllAre}
use Rattle.flow_eval.proofs.TypedValues.{some_same, none_some, is_int_value, is_bool_value, is_text_value, is_error_value, no_parts}
use Rattle.flow_class.specs.Classes.{ClassTree, RawTree}
use Rattle.flow_valid.specs.Validity.{operand_type}
use Rattle.flow_meaning.specs.Lines.{print_line}
use Rattle.flow_meaning.specs.Requests.{ReadCall, WriteCall, SyncCall, SizeCall, Effect, Start, Draw, Delay, Never, Listen, Disk, Act, Sends, Cancels}
use Rattle.flow_meaning.specs.Evaluating.{Names, bind, Effectful, World, Actor, world_if, effectful_of, effectful, effect_in, world_effect, effect_of, sent, method_act, Grows, Clears, change_by}
use Rattle.flow_progress.specs.Rules.{EffectGives, MessageFits}
use Rattle.flow_progress.specs.Asking.{SentFits, CanPrint, Gives, end_type}

module _ (rs : List RecordTree) (typed : ℕ → TypeTree → Type 0) where
  abbrev Is : ValueTree → TypeTree → Type 0
  Is v t = HasType rs typed v t

  -- the argument at a place has its type
  pub arg_typed : (vs : List ValueTree) (ts : List TypeTree) (k : ℕ) (t : TypeTree) → HaveTypes rs typed (values_of_list vs) ts → slice_get ts k ≡ Some t → Is (arg vs k) t
  arg_typed [] ts k t h e = none_some t (sym (ap (λ l. slice_get l k) h) ∙ e)
  arg_typed (v ∷ vs) ts zero t h e =
      let same : h.0 ≡ t = some_same h.0 t (sym (ap (λ l. slice_get l 0) h.2) ∙ e) in
      subst (Is v) same h.3
  arg_typed (v ∷ vs) ts (suc k) t h e = arg_typed vs h.1 k t h.4 (sym (ap (λ l. slice_get l (suc k)) h.2) ∙ e)

  pub int_arg : (vs : List ValueTree) (ts : List TypeTree) (k : ℕ) → HaveTypes rs typed (values_of_list vs) ts → slice_get ts k ≡ Some IntType → (n : ℤ) × (int_of (arg vs k) ≡ Some n)
  int_arg vs ts k h e = let n = is_int_value rs typed (arg vs k) (arg_typed vs ts k IntType h e) in (n.0, ap int_of n.1)

  pub text_arg : (vs : List ValueTree) (ts : List TypeTree) (k : ℕ) → HaveTypes rs typed (values_of_list vs) ts → slice_get ts k ≡ Some StringType → (n : List ℕ) × (text_of (arg vs k) ≡ Some n)
  text_arg vs ts k h e = let n = is_text_value rs typed (arg vs k) (arg_typed vs ts k StringType h e) in (n.0, ap text_of n.1)

  error_arg : (vs : List ValueTree) (ts : List TypeTree) (k : ℕ) → HaveTypes rs typed (values_of_list vs) ts → slice_get ts k ≡ Some ErrorType → (n : ℕ) × (error_of (arg vs k) ≡ Some n)
  error_arg vs ts k h e = let n = is_error_value rs typed (arg vs k) (arg_typed vs ts k ErrorType h e) in (n.0, ap error_of n.1)

  -- references by their types
  pub promise_ref : (v : ValueTree) (u : TypeTree) → Is v (PromiseType u) → (k : ℕ) × (v ≡ RefValue kind.Promise k) × typed k (FutureType u)
  promise_ref (IntValue n) u h = absurd cc
  promise_ref (BoolValue b) u h = absurd cc
  promise_ref (TextValue s) u h = absurd cc
  promise_ref VoidValue u h = absurd cc
  promise_ref (ErrorValue e) u h = absurd cc
  promise_ref (CompositeValue w vs) u h = no_parts rs w (PromiseType u) h.0 refl h.1
  promise_ref (RefValue kind.Promise c) u h = let d = h.1 in let e : h.0 ≡ u = cc in (c, refl, subst (λ t. typed c (FutureType t)) e h.2)
  promise_ref (RefValue kind.Future c) u h = let d = h.1 in absurd cc
  promise_ref (RefValue kind.PromiseStream c) u h = let d = h.1 in absurd cc
  promise_ref (RefValue kind.FutureStream c) u h = let d = h.1 in absurd cc

  pub stream_ref : (v : ValueTree) (u : TypeTree) → Is v (PromiseStreamType u) → (k : ℕ) × (v ≡ RefValue kind.PromiseStream k) × typed k (FutureStreamType u)
  stream_ref (IntValue n) u h = absurd cc
  stream_ref (BoolValue b) u h = absurd cc
  stream_ref (TextValue s) u h = absurd cc
  stream_ref VoidValue u h = absurd cc
  stream_ref (ErrorValue e) u h = absurd cc
  stream_ref (CompositeValue w vs) u h = no_parts rs w (PromiseStreamType u) h.0 refl h.1
  stream_ref (RefValue kind.PromiseStream c) u h = let d = h.1 in let e : h.0 ≡ u = cc in (c, refl, subst (λ t. typed c (FutureStreamType t)) e h.2)
  stream_ref (RefValue kind.Future c) u h = let d = h.1 in absurd cc
  stream_ref (RefValue kind.Promise c) u h = let d = h.1 in absurd cc
  stream_ref (RefValue kind.FutureStream c) u h = let d = h.1 in absurd cc

  pub future_ref : (v : ValueTree) (u : TypeTree) → Is v (FutureType u) → (k : ℕ) × (v ≡ RefValue kind.Future k) × typed k (FutureType u)
  future_ref (IntValue n) u h = absurd cc
  future_ref (BoolValue b) u h = absurd cc
  future_ref (TextValue s) u h = absurd cc
  future_ref VoidValue u h = absurd cc
  future_ref (ErrorValue e) u h = absurd cc
  future_ref (CompositeValue w vs) u h = no_parts rs w (FutureType u) h.0 refl h.1
  future_ref (RefValue kind.Future c) u h = let d = h.1 in let e : h.0 ≡ u = cc in (c, refl, subst (λ t. typed c (FutureType t)) e h.2)
  future_ref (RefValue kind.Promise c) u h = let d = h.1 in absurd cc
  future_ref (RefValue kind.PromiseStream c) u h = let d = h.1 in absurd cc
  future_ref (RefValue kind.FutureStream c) u h = let d = h.1 in absurd cc

  pub next_ref : (v : ValueTree) (u : TypeTree) → Is v (FutureStreamType u) → (k : ℕ) × (v ≡ RefValue kind.FutureStream k) × typed k (FutureStreamType u)
  next_ref (IntValue n) u h = absurd cc
  next_ref (BoolValue b) u h = absurd cc
  next_ref (TextValue s) u h = absurd cc
  next_ref VoidValue u h = absurd cc
  next_ref (ErrorValue e) u h = absurd cc
  next_ref (CompositeValue w vs) u h = no_parts rs w (FutureStreamType u) h.0 refl h.1
  next_ref (RefValue kind.FutureStream c) u h = let d = h.1 in let e : h.0 ≡ u = cc in (c, refl, subst (λ t. typed c (FutureStreamType t)) e h.2)
  next_ref (RefValue kind.Promise c) u h = let d = h.1 in absurd cc
  next_ref (RefValue kind.PromiseStream c) u h = let d = h.1 in absurd cc
  next_ref (RefValue kind.Future c) u h = let d = h.1 in absurd cc

  -- an operand is a reference to a cell of its type
  pub operand_ref : (next : Bool) (v : ValueTree) (u : TypeTree) → Is v (operand_type next u) → (q : Kind × ℕ) × (v ≡ RefValue q.0 q.1)
  operand_ref false v u h = let k = future_ref v u h in ((kind.Future, k.0), k.1)
  operand_ref true v u h = let k = next_ref v u h in ((kind.FutureStream, k.0), k.1)

  -- a vector is a list of elements of its type
  pub record IsList (v : ValueTree) (u : TypeTree) : Type 0 where
    pub parts : ValueTrees
    pub is : v ≡ CompositeValue ListWhole parts
    pub types : List TypeTree
    pub all : AllAre u types
    pub have : HaveTypes rs typed parts types

  pub list_value : (v : ValueTree) (u : TypeTree) → Is v (VectorType u) → IsList v u
  list_value (CompositeValue ListWhole es) u h =
      let same : h.1.0 ≡ u = let e = h.1.1 in cc in
      record { parts = es; is = refl; types = h.0; all = subst (λ z. AllAre z h.0) same h.1.2; have = h.2 }
  list_value (CompositeValue (RecordWhole i) es) u h = let e = h.1.named in absurd cc
  list_value (RefValue kind.Promise n) u h = let e = h.1 in absurd cc
  list_value (RefValue kind.Future n) u h = let e = h.1 in absurd cc
  list_value (RefValue kind.PromiseStream n) u h = let e = h.1 in absurd cc
  list_value (RefValue kind.FutureStream n) u h = let e = h.1 in absurd cc
  list_value v u h = absurd cc

  -- what prints
  pub prints : (v : ValueTree) (t : TypeTree) → Is v t → is_there (equality_type t) ≡ true → CanPrint v
  prints v IntType h e = let n = is_int_value rs typed v h in λ i. (_, ap (print_line i) n.1)
  prints v BoolType h e = let n = is_bool_value rs typed v h in λ i. (_, ap (print_line i) n.1)
  prints v StringType h e = let n = is_text_value rs typed v h in λ i. (_, ap (print_line i) n.1)
  prints v _ h e = absurd cc

  -- messages
  abbrev pub Message : Act → Type 0
  Message (Sends k o) = SentFits rs typed k o
  Message (Cancels k) = Unit {0}
  Message _ = ⊥

  abbrev Told : Option Act → Type 0
  Told o = (act : Act) × (o ≡ Some act) × Message act

  send_told : (u t : TypeTree) (v : ValueTree) (vs : List ValueTree) (k : ℕ) (kd : Kind) → v ≡ RefValue kd k
      → ((us : List ValueTree) → method_act method.Send (RefValue kd k) us ≡ option_map (Sends k) (sent method.Send us))
      → (typed k (FutureType u) ⊎ typed k (FutureStreamType u)) → HaveTypes rs typed (values_of_list vs) (u ∷ []) → Told (method_act method.Send v vs)
  send_told u t v vs k kd e acts cell h =
      (Sends k (GoodOutcome (arg vs 0)), ap (λ x. method_act method.Send x vs) e ∙ acts vs, (u, cell, arg_typed vs (u ∷ []) 0 u h refl))

  error_told : (u : TypeTree) (v : ValueTree) (vs : List ValueTree) (k : ℕ) (kd : Kind) → v ≡ RefValue kd k
      → ((us : List ValueTree) → method_act method.SendError (RefValue kd k) us ≡ option_map (Sends k) (sent method.SendError us))
      → (typed k (FutureType u) ⊎ typed k (FutureStreamType u)) → HaveTypes rs typed (values_of_list vs) (ErrorType ∷ []) → Told (method_act method.SendError v vs)
  error_told u v vs k kd e acts cell h =
      let n = error_arg vs (ErrorType ∷ []) 0 h refl in
      (Sends k (BadOutcome n.0), ap (λ x. method_act method.SendError x vs) e ∙ acts vs ∙ ap (λ o. option_map (Sends k) (option_map BadOutcome o)) n.1, (u, cell, tt))

  pub message_told : (m : Method) (t : TypeTree) (ts : List TypeTree) (v : ValueTree) (vs : List ValueTree) → change_by (Some m) ≡ None → Is v t → MessageFits m t ts
      → HaveTypes rs typed (values_of_list vs) ts
      → Told (method_act m v vs)
  message_told method.Send (PromiseType u) ts v vs n h f a =
      let k = promise_ref v u h in send_told u u v vs k.0 kind.Promise k.1 (λ us. refl) (inl k.2) (subst (HaveTypes rs typed (values_of_list vs)) f a)
  message_told method.Send (PromiseStreamType u) ts v vs n h f a =
      let k = stream_ref v u h in send_told u u v vs k.0 kind.PromiseStream k.1 (λ us. refl) (inr k.2) (subst (HaveTypes rs typed (values_of_list vs)) f a)
  message_told method.SendError (PromiseType u) ts v vs n h f a =
      let k = promise_ref v u h in error_told u v vs k.0 kind.Promise k.1 (λ us. refl) (inl k.2) (subst (HaveTypes rs typed (values_of_list vs)) f a)
  message_told method.SendError (PromiseStreamType u) ts v vs n h f a =
      let k = stream_ref v u h in error_told u v vs k.0 kind.PromiseStream k.1 (λ us. refl) (inr k.2) (subst (HaveTypes rs typed (values_of_list vs)) f a)
  message_told method.Cancel (FutureType u) ts v vs n h f a = let k = future_ref v u h in (Cancels k.0, ap (λ x. method_act method.Cancel x vs) k.1, tt)
  message_told method.PushBack t ts v vs n h f a = absurd (not_there n)
    where
      not_there : Some Grows ≡ None → ⊥
      not_there n = cc
  message_told method.Clear t ts v vs n h f a = absurd (not_there n)
    where
      not_there : Some Clears ≡ None → ⊥
      not_there n = cc
  message_told m t ts v vs n h f a = absurd f

-- what an actor with a result ends with has the type of the result
pub end_given : (t : TypeTree) → is_nothing t ≡ false → end_type t ≡ t
end_given NothingType e = absurd cc
end_given t e = refl

-- an effect is one that is said to be
world_is : (b : Bool) (p q : Predefined) → world_if b p ≡ Some (World q) → b ≡ is_effect p → is_effect q ≡ true
world_is true p q h e = let f : p ≡ q = cc in ap is_effect (sym f) ∙ sym e
world_is false p q h e = none_some (World q) h

effectful_is : (o : Option Predefined) (k : Option ℕ) (q : Predefined) → effectful_of o k ≡ Some (World q) → is_effect q ≡ true
effectful_is (Some p) k q h = world_is (is_effect p) p q h refl
effectful_is None (Some k) q h = absurd (not_world h)
  where
    not_world : Some (Actor k) ≡ Some (World q) → ⊥
    not_world h = cc
effectful_is None None q h = none_some (World q) h

pub effect_is : (ns : Names) (e : ExprTree) (q : Predefined) (es : ExprTrees) → effect_in ns e ≡ Some (World q, es) → is_effect q ≡ true
effect_is ns (CallExpr f xs) q es h = by_effect (effectful ns f.name) refl h
  where
    by_effect : (o : Option Effectful) → effectful ns f.name ≡ o → option_map {U = Effectful × ExprTrees} (λ (g : Effectful). (g, xs)) o ≡ Some (World q, es) → is_effect q ≡ true
    by_effect None e h = none_some (World q, es) h
    by_effect (Some g) e h = let same : g ≡ World q = ap (λ (z : Effectful × ExprTrees). z.0) (some_same (g, xs) (World q, es) h) in effectful_is (named call_names f.name)
        (position (bytes_eq f.name) ns.actors) q (e ∙ ap Some same)
effect_is ns e q es h = none_some (World q, es) h

-- effects of arguments of their types
module _ (r : RawTree) (typed : ℕ → TypeTree → Type 0) (vs : List ValueTree) where
  abbrev Made : Option Effect → TypeTree → Type 0
  Made o t = (eff : Effect) × (o ≡ Some eff) × Gives r typed eff t

  signed_as : (params : List TypeTree) (gives : TypeTree) (s : Signature) (o : Option Effect) → Some (record { params = params; gives = gives }) ≡ Some s
      → HaveTypes r.records typed (values_of_list vs) s.params
      → (HaveTypes r.records typed (values_of_list vs) params → Made o gives) → Made o s.gives
  signed_as params gives s o e h go =
      let same : record { params = params; gives = gives } ≡ s = some_same (record { params = params; gives = gives }) s e in
      subst (λ (z : Signature). Made o z.gives) same (go (subst (λ (z : Signature). HaveTypes r.records typed (values_of_list vs) z.params) (sym same) h))

  world_made : (p : Predefined) (s : Signature) → is_effect p ≡ true → signature p ≡ Some s → HaveTypes r.records typed (values_of_list vs) s.params → Made (world_effect p vs) s.gives
  world_made code.RandomInt s w e h =
      signed_as (IntType ∷ IntType ∷ []) IntType s (world_effect code.RandomInt vs) e h
      (λ a. let lo = int_arg r.records typed vs (IntType ∷ IntType ∷ []) 0 a refl in let hi = int_arg r.records typed vs (IntType ∷ IntType ∷ []) 1 a refl in
      (Draw lo.0 hi.0, ap (λ o. bind o (λ lo. bind (int_of (arg vs 1)) (λ hi. Some (Draw lo hi)))) lo.1 ∙ ap (λ o. bind o (λ hi. Some (Draw lo.0 hi))) hi.1, refl))
  world_made code.Delay s w e h =
      signed_as (IntType ∷ []) (FutureType VoidType) s (world_effect code.Delay vs) e h
      (λ a. let n = int_arg r.records typed vs (IntType ∷ []) 0 a refl in (Delay n.0, ap (λ o. bind o (λ n. Some (Delay n))) n.1, refl))
  world_made code.Never s w e h = signed_as [] (FutureType VoidType) s (world_effect code.Never vs) e h (λ a. (Never, refl, refl))
  world_made code.Listen s w e h =
      signed_as (IntType ∷ []) (FutureStreamType (NamedType (codes "Packet"))) s (world_effect code.Listen vs) e h
      (λ a. let n = int_arg r.records typed vs (IntType ∷ []) 0 a refl in (Listen n.0, ap (λ o. bind o (λ n. Some (Listen n))) n.1, refl))
  world_made code.ReadFile s w e h =
      let ts = StringType ∷ IntType ∷ IntType ∷ [] in
      signed_as ts (FutureType StringType) s (world_effect code.ReadFile vs) e h
      (λ a. let x = text_arg r.records typed vs ts 0 a refl in let y = int_arg r.records typed vs ts 1 a refl in let z = int_arg r.records typed vs ts 2 a refl in (
        Disk (ReadCall x.0 y.0 z.0),
        ap (λ o. bind o (λ file. bind (int_of (arg vs 1)) (λ offset. bind (int_of (arg vs 2)) (λ count. Some (Disk (ReadCall file offset count)))))) x.1
            ∙ ap (λ o. bind o (λ offset. bind (int_of (arg vs 2)) (λ count. Some (Disk (ReadCall x.0 offset count))))) y.1 ∙ ap (λ o. bind o (λ count. Some (Disk (ReadCall x.0 y.0 count)))) z.1,
        refl,
      ))
  world_made code.WriteFile s w e h =
      let ts = StringType ∷ IntType ∷ StringType ∷ [] in
      signed_as ts (FutureType VoidType) s (world_effect code.WriteFile vs) e h
      (λ a. let x = text_arg r.records typed vs ts 0 a refl in let y = int_arg r.records typed vs ts 1 a refl in let z = text_arg r.records typed vs ts 2 a refl in (
        Disk (WriteCall x.0 y.0 z.0),
        ap (λ o. bind o (λ file. bind (int_of (arg vs 1)) (λ offset. bind (text_of (arg vs 2)) (λ text. Some (Disk (WriteCall file offset text)))))) x.1
            ∙ ap (λ o. bind o (λ offset. bind (text_of (arg vs 2)) (λ text. Some (Disk (WriteCall x.0 offset text))))) y.1 ∙ ap (λ o. bind o (λ text. Some (Disk (WriteCall x.0 y.0 text)))) z.1,
        refl,
      ))
  world_made code.SyncFile s w e h =
      signed_as (StringType ∷ []) (FutureType VoidType) s (world_effect code.SyncFile vs) e h
      (λ a. let x = text_arg r.records typed vs (StringType ∷ []) 0 a refl in (Disk (SyncCall x.0), ap (λ o. bind o (λ file. Some (Disk (SyncCall file)))) x.1, refl))
  world_made code.FileSize s w e h =
      signed_as (StringType ∷ []) (FutureType IntType) s (world_effect code.FileSize vs) e h
      (λ a. let x = text_arg r.records typed vs (StringType ∷ []) 0 a refl in (Disk (SizeCall x.0), ap (λ o. bind o (λ file. Some (Disk (SizeCall file)))) x.1, refl))
  world_made p s w e h = absurd cc

  pub effect_made : (actors : List RoutineTree) (c : ClassTree) (vars : List ParamTree) (g : Effectful) (ts : List TypeTree) (t : TypeTree) → ((q : Predefined) → g ≡ World q → is_effect q ≡ true)
      → EffectGives r actors c vars g ts t → HaveTypes r.records typed (values_of_list vs) ts → Made (effect_of g vs) t
  effect_made actors c vars (World p) ts t w k h =
      subst (Made (effect_of (World p) vs)) k.3 (world_made p k.0 (w p refl) k.1 (subst (HaveTypes r.records typed (values_of_list vs)) (sym k.2) h))
  effect_made actors c vars (Actor n) ts t w k h =
      (Start n vs, refl, (k.0, (k.1, subst (HaveTypes r.records typed (values_of_list vs)) (sym k.2) h), k.3, sym k.4))
