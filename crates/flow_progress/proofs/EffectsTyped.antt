-- An effect in a class in which no rule fails gives what its signature gives, from arguments of the types of its parameters.
use Rattle.std.proofs.Common.{◌≡◌, ℕ, Bool, true, false, List, [], ◌∷◌, map, refl, sym, ap, ap₂, subst, ◌∙◌}
use Rattle.std.specs.Prelude.{position}
use Rattle.std.specs.Str.{bytes_eq}
use Rattle.std.specs.Option.{option_map}
use Rattle.std.proofs.lemmas.Bool.{false≢true, true≢false}
use Rattle.std.specs.declared.option.Option.{Option}
use Rattle.std.specs.declared.option.Option.TheVariants.{None, Some}
use Rattle.flow_tree.specs.declared.ty.Ident.{Ident}
use Rattle.flow_tree.specs.Tree.{TypeTree, FutureType, ExprTree, ExprTrees, CallExpr, NothingType}
use Rattle.flow_tree.specs.Decls.{ParamTree}
use Rattle.flow_ast.specs.declared.predefined.Predefined.{Predefined}
use Rattle.flow_ast.specs.declared.predefined.Predefined.TheVariants as predefined
use Rattle.flow_ast.specs.TypingNames.{named, call_names}
use Rattle.flow_ast.specs.Typing.{Signature, signature, is_effect, same_type, same_types, types_in, all_without_effects, is_nothing}
use Rattle.flow_rules.specs.declared.rule.SemanticRule.{SemanticRule}
use Rattle.flow_rules.specs.declared.rule.SemanticRule.TheVariants.{WrongCount, WrongType}
use Rattle.flow_rules.specs.Least.{lesser, unless}
use Rattle.flow_rules.specs.Known.{Meaning, RecordOf, FunctionOf, ActorOf, known}
use Rattle.flow_rules.specs.Judged as judged
use Rattle.flow_rules.specs.Judged.{Setting, Kind, Need, Exactly, Callee, predefined_kind, predefined_callee, declared_callee, called_as, called, needs_of, gives_of, wants, placed, as_many, calls, faults, wanted, callee, actor_callee, not_here}
use Rattle.flow_rules.proofs.Lesser.{no_first, no_second, holds}
use Rattle.flow_class.specs.Classes.{ClassTree, RawTree}
use Rattle.flow_valid.specs.Heads.{all_decls}
use Rattle.flow_valid.specs.Validity.{IsValid, is_effect_kind, calls_effect}
use Rattle.flow_valid.specs.Validity as validity
use Rattle.flow_meaning.specs.Evaluating.{Effectful, World, Actor, world_if, effectful_of, effectful, effect_in}
use Rattle.flow_meaning.specs.Class.{class_name, class_names}
use Rattle.flow_typing_laws.specs.Typing.Scopes.{scope_in, setting_in}
use Rattle.flow_typing_laws.proofs.Typing.Names.{type_same, none_some}
use Rattle.flow_typing_laws.proofs.Typing.Expressions.{all_typed, from_start, wanted_is}
use Rattle.flow_typing_laws.proofs.Typing.Agreement.{agrees}
use Rattle.flow_progress.specs.Rules.{AllTyped, EffectGives, EffectFits}
use Rattle.flow_progress.specs.Written.{heads}
use Rattle.flow_progress.proofs.Tops.{first_true, second_true, class_of, all_distinct, class_means, scope_same}

types_same : (ts us : List TypeTree) → same_types ts us ≡ true → ts ≡ us
types_same [] [] e = refl
types_same [] (u ∷ us) e = absurd (false≢true e)
types_same (t ∷ ts) [] e = absurd (false≢true e)
types_same (t ∷ ts) (u ∷ us) e =
    ap₂ (λ a b. a ∷ b) (type_same t u (first_true (same_type t u) (same_types ts us) e)) (types_same ts us (second_true (same_type t u) (same_types ts us) e))

-- a predefined effect by its kind
kind_effect : (p : Predefined) → is_effect_kind (predefined_kind p) ≡ true → is_effect p ≡ true
kind_effect predefined.RandomInt e = refl
kind_effect predefined.Delay e = refl
kind_effect predefined.Never e = refl
kind_effect predefined.Listen e = refl
kind_effect predefined.ReadFile e = refl
kind_effect predefined.WriteFile e = refl
kind_effect predefined.SyncFile e = refl
kind_effect predefined.FileSize e = refl
kind_effect predefined.Now e = absurd (false≢true e)
kind_effect predefined.Trace e = absurd (false≢true e)
kind_effect predefined.SendTo e = absurd (false≢true e)
kind_effect p e = absurd (false≢true e)

effect_kind : (p : Predefined) → is_effect p ≡ true → calls_effect (Some (predefined_callee p (signature p))) ≡ true
effect_kind predefined.RandomInt e = refl
effect_kind predefined.Delay e = refl
effect_kind predefined.Never e = refl
effect_kind predefined.Listen e = refl
effect_kind predefined.ReadFile e = refl
effect_kind predefined.WriteFile e = refl
effect_kind predefined.SyncFile e = refl
effect_kind predefined.FileSize e = refl
effect_kind p e = absurd (false≢true e)

world_is : (b : Bool) (p : Predefined) (g : Effectful) → world_if b p ≡ Some g → b ≡ true
world_is true p g e = refl
world_is false p g e = absurd (none_some e)

-- what is no effect stands anywhere or nowhere
same_placed : (s : Setting) (k : Kind) → is_effect_kind k ≡ false → placed s true k ≡ placed s false k
same_placed s judged.Effect e = absurd (true≢false e)
same_placed s _ e = refl

same_calls : (s : Setting) (xs : ExprTrees) (o : Option Callee) → calls_effect o ≡ false → calls xs o (placed s true) ≡ calls xs o (placed s false)
same_calls s xs None e = refl
same_calls s xs (Some k) e = ap (lesser (unless (as_many xs k.needs) WrongCount)) (same_placed s k.kind e)

module _ (r : RawTree) (valid : IsValid r) (c : ClassTree) (vars : List ParamTree) where
  abbrev here : Setting
  here = setting_in (all_decls r) false vars

  pub have_types : (ns : List Need) (ts : List TypeTree) (es : ExprTrees) → ns ≡ map Exactly ts → as_many es ns ≡ true → faults here 0 ns es ≡ None → AllTyped r (heads r) c vars es ts
  have_types ns ts es n m h =
      let k = all_typed here (scope_in (all_decls r) vars) (agrees (all_decls r) vars (all_distinct r valid) false) 0 ns ts es (from_start ns (map Exactly ts) n)
      (subst (λ l. as_many es l ≡ true) n m) h in
      let same = types_same ts k.types k.same in
      subst (λ s. (types_in s es ≡ Some ts) × (all_without_effects s es ≡ true)) (scope_same r vars)
      (subst (λ l. types_in (scope_in (all_decls r) vars) es ≡ Some l) (sym same) k.in_scope, k.quiet)

  many : (es : ExprTrees) (ns : List Need) (o : Option SemanticRule) → lesser (unless (as_many es ns) WrongCount) o ≡ None → as_many es ns ≡ true
  many es ns o h = holds (as_many es ns) WrongCount (no_first (unless (as_many es ns) WrongCount) o h)

  -- by what is called
  record IsGiven (xs : ExprTrees) (o : Option Effectful) (t : TypeTree) : Type 0 where
    effect : Effectful
    is : o ≡ Some effect
    types : List TypeTree
    typed : AllTyped r (heads r) c vars xs types
    gives : EffectGives r (heads r) c vars effect types t

  predefined_given : (xs : ExprTrees) (p : Predefined) (k : Option ℕ) (g : Option Signature) (t : TypeTree) → signature p ≡ g → calls_effect (Some (predefined_callee p g)) ≡ true
      → faults here 0 (predefined_callee p g).needs xs ≡ None
      → calls xs (Some (predefined_callee p g)) (placed here true) ≡ None → wants (gives_of (Some (predefined_callee p g))) t ≡ None → IsGiven xs (effectful_of (Some p) k) t
  predefined_given xs p k None t e b f n w = absurd (false≢true b)
  predefined_given xs p k (Some g) t e b f n w = record {
    effect = World p;
    is = ap (λ b. world_if b p) (kind_effect p b);
    types = g.params;
    typed = have_types (map Exactly g.params) g.params xs refl (many xs (map Exactly g.params) (placed here true (predefined_kind p)) n) f;
    gives = (g, e, refl, wanted_is (Some g.gives) g.gives t refl w);
  }

  -- an actor whose call is an effect gives a result
  a_future : (ts : List TypeTree) (u : TypeTree) → calls_effect (Some (actor_callee ts u)) ≡ true → (actor_callee ts u ≡ callee ts (FutureType u) judged.Effect) × (is_nothing u ≡ false)
  a_future ts NothingType b = absurd (false≢true b)
  a_future ts u b = (refl, refl)

  actor_given : (xs : ExprTrees) (x : List ℕ) (ts : List TypeTree) (u t : TypeTree) (d : Callee) → known (all_decls r) x ≡ Some (ActorOf ts u)
      → d ≡ callee ts (FutureType u) judged.Effect → is_nothing u ≡ false → faults here 0 (needs_of (Some d)) xs ≡ None → calls xs (Some d) (placed here true) ≡ None
      → wants (gives_of (Some d)) t ≡ None → IsGiven xs (effectful_of None (position (bytes_eq x) (map class_name r.classes))) t
  actor_given xs x ts u t d e same some f n w =
      let k = class_of r x ts u e in
      let c = callee ts (FutureType u) judged.Effect in
      let f2 : faults here 0 (needs_of (Some c)) xs ≡ None = subst (λ z. faults here 0 (needs_of (Some z)) xs ≡ None) same f in
      let n2 : calls xs (Some c) (placed here true) ≡ None = subst (λ z. calls xs (Some z) (placed here true) ≡ None) same n in
      let w2 : wants (gives_of (Some c)) t ≡ None = subst (λ z. wants (gives_of (Some z)) t ≡ None) same w in
      record {
        effect = Actor k.place;
        is = ap (effectful_of None) k.found;
        types = ts;
        typed = have_types (map Exactly ts) ts xs refl (many xs (map Exactly ts) (placed here true judged.Effect) n2) f2;
        gives = (k.class, k.is, k.takes, subst (λ z. is_nothing z ≡ false) (sym k.gives) some, ap FutureType k.gives ∙ wanted_is (Some (FutureType u)) (FutureType u) t refl w2);
      }

  declared_given : (xs : ExprTrees) (x : List ℕ) (m : Option Meaning) (t : TypeTree) → known (all_decls r) x ≡ m → calls_effect (option_map (declared_callee x) m) ≡ true
      → faults here 0 (needs_of (option_map (declared_callee x) m)) xs ≡ None
      → calls xs (option_map (declared_callee x) m) (placed here true) ≡ None → wants (gives_of (option_map (declared_callee x) m)) t ≡ None
      → IsGiven xs (effectful_of None (position (bytes_eq x) (map class_name r.classes))) t
  declared_given xs x None t e b f n w = absurd (false≢true b)
  declared_given xs x (Some (RecordOf fs)) t e b f n w = absurd (false≢true b)
  declared_given xs x (Some (FunctionOf ts u)) t e b f n w = absurd (false≢true b)
  declared_given xs x (Some (ActorOf ts u)) t e b f n w = let a = a_future ts u b in actor_given xs x ts u t (actor_callee ts u) e a.0 a.1 f n w

  name_given : (xs : ExprTrees) (x : List ℕ) (p : Option Predefined) (t : TypeTree) → calls_effect (called_as here x p) ≡ true → faults here 0 (needs_of (called_as here x p)) xs ≡ None
      → calls xs (called_as here x p) (placed here true) ≡ None → wants (gives_of (called_as here x p)) t ≡ None → IsGiven xs (effectful_of p (position (bytes_eq x) (map class_name r.classes))) t
  name_given xs x (Some p) t b f n w = predefined_given xs p (position (bytes_eq x) (map class_name r.classes)) (signature p) t refl b f n w
  name_given xs x None t b f n w = declared_given xs x (known (all_decls r) x) t refl b f n w

  call_given : (f : Ident) (xs : ExprTrees) (t : TypeTree) → calls_effect (called here f.name) ≡ true → wanted here true (CallExpr f xs) t ≡ None → IsGiven xs (effectful (class_names r) f.name) t
  call_given f xs t b h =
      let fs = faults here 0 (needs_of (called here f.name)) xs in
      let cs = calls xs (called here f.name) (placed here true) in
      let a = no_first (lesser fs cs) (wants (gives_of (called here f.name)) t) h in
      name_given xs f.name (named call_names f.name) t b (no_first fs cs a) (no_second fs cs a) (no_second (lesser fs cs) (wants (gives_of (called here f.name)) t) h)

  call_fits : (f : Ident) (xs : ExprTrees) (t : TypeTree) → IsGiven xs (effectful (class_names r) f.name) t → EffectFits r (heads r) c vars (CallExpr f xs) t
  call_fits f xs t k = record { effect = k.effect; args = xs; is = ap (option_map (λ (g : Effectful). (g, xs))) k.is; types = k.types; typed = k.typed; gives = k.gives }

  -- what an effect gives
  pub effect_fits : (e : ExprTree) (t : TypeTree) → validity.is_effect here e ≡ true → wanted here true e t ≡ None → EffectFits r (heads r) c vars e t
  effect_fits (CallExpr f xs) t b h = call_fits f xs t (call_given f xs t b h)
  effect_fits e t b h = absurd (false≢true b)

  -- what is an effect by its name is one by its kind
  only_effect : (xs : ExprTrees) (ts : List TypeTree) (t : TypeTree) → calls xs (Some (actor_callee ts t)) (placed here true) ≡ None → calls_effect (Some (actor_callee ts t)) ≡ true
  only_effect xs ts NothingType n =
      let e : Some WrongType ≡ None = no_second (not_here here) (Some WrongType) (no_second (unless (as_many xs (map Exactly ts)) WrongCount) (placed here true judged.Statement) n) in
      absurd cc
  only_effect xs ts t n = refl

  effect_called : (xs : ExprTrees) (x : List ℕ) (p : Option Predefined) (k : Option ℕ) (g : Effectful) → position (bytes_eq x) (map class_name r.classes) ≡ k → effectful_of p k ≡ Some g
      → calls xs (called_as here x p) (placed here true) ≡ None → calls_effect (called_as here x p) ≡ true
  effect_called xs x (Some p) k g q e n = effect_kind p (world_is (is_effect p) p g e)
  effect_called xs x None None g q e n = absurd (none_some e)
  effect_called xs x None (Some k) g q e n =
      let m = class_means r valid x k q in
      subst (λ o. calls_effect (option_map (declared_callee x) o) ≡ true) (sym m.2)
      (only_effect xs m.0 m.1 (subst (λ o. calls xs (option_map (declared_callee x) o) (placed here true) ≡ None) m.2 n))

  there_of : {A B : Type 0} (f : A → B) (o : Option A) (b : B) → option_map f o ≡ Some b → (a : A) × (o ≡ Some a)
  there_of f None b e = absurd (none_some e)
  there_of f (Some a) b e = (a, refl)

  pub operand_effect : (e : ExprTree) (t : TypeTree) (g : Effectful × ExprTrees) → effect_in (class_names r) e ≡ Some g → wanted here true e t ≡ None → EffectFits r (heads r) c vars e t
  operand_effect (CallExpr f xs) t g q h =
      let k = there_of (λ (g : Effectful). (g, xs)) (effectful (class_names r) f.name) g q in
      let fs = faults here 0 (needs_of (called here f.name)) xs in
      let cs = calls xs (called here f.name) (placed here true) in
      let n = no_second fs cs (no_first (lesser fs cs) (wants (gives_of (called here f.name)) t) h) in
      effect_fits (CallExpr f xs) t (effect_called xs f.name (named call_names f.name) (position (bytes_eq f.name) (map class_name r.classes)) k.0 refl k.1 n) h
  operand_effect e t g q h = absurd (none_some q)

  -- and what is none stands as a value
  no_effect : (f : Ident) (xs : ExprTrees) (t : TypeTree) (b : Bool) → calls_effect (called here f.name) ≡ b → effect_in (class_names r) (CallExpr f xs) ≡ None
      → wanted here true (CallExpr f xs) t ≡ None → wanted here false (CallExpr f xs) t ≡ None
  no_effect f xs t true b q h =
      let k = call_given f xs t b h in
      absurd (none_some (sym q ∙ ap (option_map (λ (g : Effectful). (g, xs))) k.is))
  no_effect f xs t false b q h =
      subst (λ o. lesser (lesser (faults here 0 (needs_of (called here f.name)) xs) o) (wants (gives_of (called here f.name)) t) ≡ None) (same_calls here xs (called here f.name) b) h

  pub operand_value : (e : ExprTree) (t : TypeTree) → effect_in (class_names r) e ≡ None → wanted here true e t ≡ None → wanted here false e t ≡ None
  operand_value (CallExpr f xs) t q h = no_effect f xs t (calls_effect (called here f.name)) refl q h
  operand_value _ t q h = h
