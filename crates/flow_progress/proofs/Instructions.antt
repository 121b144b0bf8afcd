-- An instruction of a class in which no rule fails fits.
use Rattle.std.proofs.Common.{◌≡◌, ◌<◌, ℕ, zero, suc, Bool, true, false, ◌&&◌, inl, inr, ◌⊎◌, List, [], ◌∷◌, length, refl, sym, ap, subst, ◌∙◌, arith}
use Rattle.std.specs.Prelude.{is_none, slice_get}
use Rattle.std.specs.List.{list_all}
use Rattle.std.specs.Option.{option_map}
use Rattle.std.proofs.lemmas.Bool.{false≢true}
use Rattle.std.specs.declared.option.Option.{Option}
use Rattle.std.specs.declared.option.Option.TheVariants.{None, Some}
use Rattle.flow_tree.specs.declared.ty.Ident.{Ident}
use Rattle.flow_tree.specs.Tree.{TypeTree, IntType, BoolType, StringType, ErrorType, FutureType, PromiseType, PromiseStreamType, ExprTree, ExprTrees, VectorType}
use Rattle.flow_tree.specs.Decls.{ParamTree}
use Rattle.flow_ast.specs.declared.predefined.Predefined.{Predefined}
use Rattle.flow_ast.specs.declared.predefined.Predefined.TheVariants as code
use Rattle.flow_ast.specs.declared.predefined.Method.{Method}
use Rattle.flow_ast.specs.declared.predefined.Method.TheVariants as method
use Rattle.flow_ast.specs.TypingNames.{named, call_names, constant_names}
use Rattle.flow_ast.specs.Typing.{is_there, param_named, param_types, routine_named, variable_in, type_in, types_in, without_effects, all_without_effects, is_nothing}
use Rattle.flow_ast.specs.Fits.{fields_type, path_type}
use Rattle.flow_rules.specs.Least.{lesser}
use Rattle.flow_rules.specs.Judged.{Setting, form, fault, wants, wanted, returned}
use Rattle.flow_rules.specs.Items.{target_form, target_fault, assigned, call_fault, ends_of}
use Rattle.flow_rules.proofs.Lesser.{no_first, no_second, no_lesser, holds}
use Rattle.flow_rules.specs.declared.rule.SemanticRule.TheVariants.{WrongType}
use Rattle.flow_class.specs.declared.class.Slotted.{Slotted}
use Rattle.flow_class.specs.Classes.{InstrTree, SetInstr, EffectInstr, NewInstr, ActInstr, DropInstr, LastTree, GotoLast, PassLast, TestLast, ChooseLast, ReturnLast, ThrowLast, CallbackTree, ClassTree, RawTree}
use Rattle.flow_class.specs.Code.{Nothing, fetch_in, fetch_at, callback_at, type_at}
use Rattle.flow_valid.specs.Heads.{all_decls}
use Rattle.flow_valid.specs.Named.{has_place, has_block, has_group, has_last, targets, last_places}
use Rattle.flow_valid.specs.Validity.{IsValid, put_fault, is_made, operand_type, is_effect, instr_fits, last_fits, operand_fits, callback_fits, taken_type}
use Rattle.flow_meaning.specs.Source.{records_in}
use Rattle.flow_meaning.specs.Evaluating.{before_last, last_of}
use Rattle.flow_tree.specs.Formed.{IsPath}
use Rattle.flow_typing_laws.specs.Typing.Scopes.{setting_in}
use Rattle.flow_typing_laws.specs.Typing.CallsFit.{HaveTypes, NameFits, MethodFits, PathFits, CallStands}
use Rattle.flow_typing_laws.proofs.Typing.Names.{none_some, some_same}
use Rattle.flow_typing_laws.proofs.Typing.Agreement.{Distinct}
use Rattle.flow_typing_laws.proofs.Typing.Statements.{yields, target}
use Rattle.flow_typing_laws.proofs.Typing.CallsFitting.{call_stands}
use Rattle.flow_progress.specs.Places.{class_vars}
use Rattle.flow_progress.specs.Rules.{takes_type, MessageFits, Typed, AllTyped, SayFits, CallFits, InstrFits, BranchFits, IsBlock, LastFits}
use Rattle.flow_progress.specs.Written.{HasPath, heads}
use Rattle.flow_progress.proofs.Tops.{first_true, second_true, none_is, all_records, all_functions, scope_same, all_distinct, actor_class}
use Rattle.flow_progress.proofs.EffectsTyped.{effect_fits, operand_effect, operand_value}

ends_same : (x : Ident) (xs : List Ident) → ends_of x xs ≡ (before_last x xs, last_of x xs)
ends_same x [] = refl
ends_same x (y ∷ ys) = ap (λ (q : List Ident × Ident). (x ∷ q.0, q.1)) (ends_same y ys)

made_there : (o : Option TypeTree) → is_made o ≡ true
    → (t : TypeTree) × (o ≡ Some t) × ((u : TypeTree) × ((t ≡ PromiseType u) ⊎ ((t ≡ PromiseStreamType u) ⊎ (t ≡ VectorType u))))
made_there None h = absurd (false≢true h)
made_there (Some (PromiseType u)) h = (PromiseType u, refl, (u, inl refl))
made_there (Some (PromiseStreamType u)) h = (PromiseStreamType u, refl, (u, inr (inl refl)))
made_there (Some (VectorType u)) h = (VectorType u, refl, (u, inr (inr refl)))
made_there (Some t) h = absurd (false≢true h)

-- what is at a number below the length
there_at : {A : Type 0} (xs : List A) (n : ℕ) → n < length xs → (x : A) × (slice_get xs n ≡ Some x)
there_at [] n h = absurd (omega (arith, h))
there_at (x ∷ xs) zero h = (x, refl)
there_at (x ∷ xs) (suc n) h = there_at xs n (omega (arith, h))

begins_somehow : (is : List InstrTree) (l : LastTree) → fetch_in is l 0 ≡ Nothing → ⊥
begins_somehow [] l h = cc
begins_somehow (i ∷ is) l h = cc

module _ (r : RawTree) (valid : IsValid r) (c : ClassTree) where
  abbrev pub vars : List ParamTree
  vars = class_vars c

  abbrev pub here : Setting
  here = setting_in (all_decls r) false vars

  apart : Distinct (all_decls r)
  apart = all_distinct r valid

  pub to_yields : (e : ExprTree) (t : TypeTree) → wanted here false e t ≡ None → Typed r (heads r) c vars e t
  to_yields e t h = subst (λ s. (type_in s e ≡ Some t) × (without_effects s e ≡ true)) (scope_same r vars) (yields (all_decls r) apart false vars e t h)

  all_yield : (es : ExprTrees) (ts : List TypeTree) → HaveTypes (all_decls r) vars es ts → AllTyped r (heads r) c vars es ts
  all_yield es ts h = subst (λ s. (types_in s es ≡ Some ts) × (all_without_effects s es ≡ true)) (scope_same r vars) h

  -- an assignment
  put_typed : (whole : Bool) (path : List Ident) (e : ExprTree) → IsPath path → put_fault here whole path e ≡ None
      → (t : TypeTree) × (path_type r.records vars path ≡ Some t) × (wanted here whole e t ≡ None)
  put_typed whole path e p h =
      let l = lesser (target_fault here path) (fault here whole e) in
      let a = no_first l (assigned (form here e) (target_form here path)) h in
      let t = target (all_decls r) apart false vars path p (no_first (target_fault here path) (fault here whole e) a) in
      let w = ap (assigned (form here e)) (sym t.by_form) ∙ no_second l (assigned (form here e) (target_form here path)) h in (
        t.type,
        ap (λ rs. path_type rs vars path) (sym (all_records r))
            ∙ t.in_scope,
        no_lesser (fault here whole e) (wants (form here e) t.type) (no_second (target_fault here path) (fault here whole e) a) w,
      )

  -- a call by a name
  name_says : (x : Ident) (es : ExprTrees) (p : Option Predefined) → NameFits (all_decls r) vars x.name es p
      → (ts : List TypeTree) × AllTyped r (heads r) c vars es ts × SayFits r (heads r) c vars p x ts
  name_says x es (Some code.Trace) h = (h.0 ∷ [], all_yield es (h.0 ∷ []) h.2, (h.0, refl, ap is_there h.1))
  name_says x es (Some code.SendTo) h = (IntType ∷ IntType ∷ StringType ∷ [], all_yield es (IntType ∷ IntType ∷ StringType ∷ []) h, refl)
  name_says x es (Some p) h = absurd h
  name_says x es None (inl h) = (param_types h.0.params, all_yield es (param_types h.0.params) h.2, inl (h.0, ap (λ fs. routine_named fs x.name) (sym (all_functions r)) ∙ h.1, refl))
  name_says x es None (inr h) =
      let k = actor_class r x.name h.0 h.2 in (
        param_types h.0.params,
        all_yield es (param_types h.0.params) h.4,
        inr (record {
          place = k.place;
          class = k.class;
          no_function = ap (λ fs. routine_named fs x.name) (sym (all_functions r)) ∙ h.1;
          named = k.found;
          is = k.is;
          takes = k.takes;
          is_void = ap is_nothing k.gives ∙ h.3;
        }),
      )

  -- a call of a method
  send_says : (t : TypeTree) (m : Method) (es : ExprTrees) → MethodFits (all_decls r) vars (PromiseType t) es m
      → (ts : List TypeTree) × AllTyped r (heads r) c vars es ts × MessageFits m (PromiseType t) ts
  send_says t method.Send es h = (t ∷ [], all_yield es (t ∷ []) h, refl)
  send_says t method.SendError es h = (ErrorType ∷ [], all_yield es (ErrorType ∷ []) h, refl)
  send_says t m es h = absurd h

  stream_says : (t : TypeTree) (m : Method) (es : ExprTrees) → MethodFits (all_decls r) vars (PromiseStreamType t) es m
      → (ts : List TypeTree) × AllTyped r (heads r) c vars es ts × MessageFits m (PromiseStreamType t) ts
  stream_says t method.Send es h = (t ∷ [], all_yield es (t ∷ []) h, refl)
  stream_says t method.SendError es h = (ErrorType ∷ [], all_yield es (ErrorType ∷ []) h, refl)
  stream_says t m es h = absurd h

  cancel_says : (t : TypeTree) (m : Method) (es : ExprTrees) → MethodFits (all_decls r) vars (FutureType t) es m
      → (ts : List TypeTree) × AllTyped r (heads r) c vars es ts × MessageFits m (FutureType t) ts
  cancel_says t method.Cancel es h = ([], all_yield es [] h, refl)
  cancel_says t m es h = absurd h

  grow_says : (t : TypeTree) (m : Method) (es : ExprTrees) → MethodFits (all_decls r) vars (VectorType t) es m
      → (ts : List TypeTree) × AllTyped r (heads r) c vars es ts × MessageFits m (VectorType t) ts
  grow_says t method.PushBack es h = (t ∷ [], all_yield es (t ∷ []) h, refl)
  grow_says t method.Clear es h = ([], all_yield es [] h, refl)
  grow_says t m es h = absurd h

  method_says : (t : TypeTree) (m : Method) (es : ExprTrees) → MethodFits (all_decls r) vars t es m → (ts : List TypeTree) × AllTyped r (heads r) c vars es ts × MessageFits m t ts
  method_says (PromiseType t) m es h = send_says t m es h
  method_says (PromiseStreamType t) m es h = stream_says t m es h
  method_says (FutureType t) m es h = cancel_says t m es h
  method_says (VectorType t) m es h = grow_says t m es h
  method_says t m es h = absurd h

  -- which is never called on a constant
  on_variable : (x : List ℕ) (zs : List Ident) (o : Option ℕ) (t : TypeTree) (m : Method) (es : ExprTrees) → fields_type (records_in (all_decls r)) (variable_in vars x o) zs ≡ Some t
      → MethodFits (all_decls r) vars t es m
      → fields_type (records_in (all_decls r)) (option_map (λ (p : ParamTree). p.ty) (param_named vars x)) zs ≡ Some t
  on_variable x zs None t m es e h = e
  on_variable x [] (Some n) t m es e h = absurd (subst (λ u. MethodFits (all_decls r) vars u es m) (sym (some_same IntType t e)) h)
  on_variable x (z ∷ zs) (Some n) t m es e h = absurd (none_some e)

  path_says : (x y : Ident) (ys : List Ident) (es : ExprTrees) → PathFits (all_decls r) vars (ends_of x (y ∷ ys)) es
      → (ts : List TypeTree) × AllTyped r (heads r) c vars es ts × CallFits r (heads r) c vars (x ∷ (y ∷ ys)) ts
  path_says x y ys es h =
      let q = subst (λ q. PathFits (all_decls r) vars (x ∷ q.0, q.1) es) (ends_same y ys) h in
      let k = method_says q.0 q.1 es q.4 in
      let b = on_variable x.name (before_last y ys) (named constant_names x.name) q.0 q.1 es q.2 q.4 in
      (k.0, k.1, (q.0, q.1, ap (λ rs. fields_type rs (option_map (λ (p : ParamTree). p.ty) (param_named vars x.name)) (before_last y ys)) (sym (all_records r)) ∙ b, q.3, k.2))

  call_says : (path : List Ident) (es : ExprTrees) → CallStands (all_decls r) vars path es → (ts : List TypeTree) × AllTyped r (heads r) c vars es ts × CallFits r (heads r) c vars path ts
  call_says [] es h = absurd h
  call_says (x ∷ []) es h = name_says x es (named call_names x.name) h
  call_says (x ∷ (y ∷ ys)) es h = path_says x y ys es h

  pub instr_typed : (i : InstrTree) → HasPath i → instr_fits c here i ≡ true → InstrFits r (heads r) c vars i
  instr_typed (SetInstr path e) p h = let k = put_typed false path e p (none_is (put_fault here false path e) h) in (k.0, k.1, to_yields e k.0 k.2)
  instr_typed (EffectInstr path e) p h =
      let k = put_typed true path e p (none_is (put_fault here true path e) (second_true (is_effect here e) (is_none (put_fault here true path e)) h)) in
      (k.0, k.1, effect_fits r valid c vars e k.0 (first_true (is_effect here e) (is_none (put_fault here true path e)) h) k.2)
  instr_typed (NewInstr q) p h = made_there (type_at c q) h
  instr_typed (ActInstr path es) p h = call_says path es (call_stands (all_decls r) apart vars path es p (none_is (call_fault here path es) h))
  instr_typed (DropInstr ns) p h = tt

  -- a block that is named is there
  pub block_there : (b : ℕ) → has_block c b ≡ true → IsBlock r (heads r) c vars b
  block_there b h e =
      let below : b < length c.blocks = grind (arith, h) in
      let k = there_at c.blocks b below in
      begins_somehow k.0.body k.0.last (ap (λ o. fetch_at o 0) (sym k.1) ∙ e)

  taken_same : (p : Option Slotted) → taken_type c here p ≡ takes_type c p
  taken_same None = refl
  taken_same (Some q) = refl

  branch_by : (k : CallbackTree) (o : Option TypeTree) → takes_type c k.into ≡ o → operand_fits c here k o ≡ true → has_block c k.block ≡ true → BranchFits r (heads r) c vars k
  branch_by k None e h b = absurd (false≢true h)
  branch_by k (Some t) e h b =
      let w = none_is (wanted here true k.operand (operand_type k.next t)) h in
      record {
        takes = t;
        into = e;
        goes = block_there k.block b;
        effects = λ g q. operand_effect r valid c vars k.operand (operand_type k.next t) g q w;
        value = λ q. to_yields k.operand (operand_type k.next t) (operand_value r valid c vars k.operand (operand_type k.next t) q w);
      }

  pub branch_typed : (k : CallbackTree) → callback_fits c here k ≡ true → has_block c k.block ≡ true → BranchFits r (heads r) c vars k
  branch_typed k h b = branch_by k (takes_type c k.into) refl (subst (λ o. operand_fits c here k o ≡ true) (taken_same k.into) h) b

  blocks_of : (l : LastTree) → has_last c l ≡ true → list_all (has_block c) (targets l) ≡ true
  blocks_of l h = second_true (has_group c l) (list_all (has_block c) (targets l)) (first_true (has_group c l && list_all (has_block c) (targets l)) (list_all (has_place c) (last_places l)) h)

  pub last_typed : (l : LastTree) → last_fits c here l ≡ true → has_last c l ≡ true → ((g n : ℕ) (k : CallbackTree) → callback_at c g n ≡ Some k → BranchFits r (heads r) c vars k)
      → LastFits r (heads r) c vars l
  last_typed (GotoLast b) f h k = block_there b (first_true (has_block c b) true (blocks_of (GotoLast b) h))
  last_typed (PassLast b) f h k = block_there b (first_true (has_block c b) true (blocks_of (PassLast b) h))
  last_typed (TestLast e a b) f h k =
      let bs = blocks_of (TestLast e a b) h in (
        to_yields e BoolType (none_is (wanted here false e BoolType) f),
        block_there a (first_true (has_block c a) (has_block c b && true) bs),
        block_there b
            (first_true (has_block c b) true (second_true (has_block c a) (has_block c b && true) bs)),
      )
  last_typed (ChooseLast g) f h k = k g
  last_typed (ReturnLast None) f h k = holds (is_nothing c.returns) WrongType (none_is (returned here None c.returns) f)
  last_typed (ReturnLast (Some e)) f h k = to_yields e c.returns (none_is (wanted here false e c.returns) f)
  last_typed (ThrowLast e) f h k = to_yields e ErrorType (none_is (wanted here false e ErrorType) f)
