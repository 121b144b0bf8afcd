-- What an effect or a call statement of the code is coded from, and what the path of a method leads to.
use Rattle.std.proofs.Common.{◌≡◌, ◌⊎◌, inl, inr, ℕ, suc, ◌+◌, Bool, true, false, cond, ltb, List, [], ◌∷◌, length, position, if◌then◌else◌, refl, sym, ap, ◌∙◌, subst, arith}
use Rattle.std.specs.List.{position_or_len}
use Rattle.std.specs.Option.{option_map}
use Rattle.std.specs.Str.{bytes_eq}
use Rattle.std.specs.declared.option.Option.{Option}
use Rattle.std.specs.declared.option.Option.TheVariants.{None, Some}
use Rattle.flow_ast.specs.declared.predefined.Predefined.{Predefined}
use Rattle.flow_ast.specs.declared.predefined.Predefined.TheVariants as predefined
use Rattle.flow_ast.specs.declared.predefined.Method.{Method}
use Rattle.flow_ast.specs.TypingNames.{named, call_names, method_names}
use Rattle.flow_ast.specs.Typing as typing
use Rattle.flow_tree.specs.declared.ty.Ident.{Ident}
use Rattle.flow_tree.specs.Tree.{TypeTree, PromiseType, PromiseStreamType, VectorType, ExprTree, ExprTrees, IntExpr, TextExpr, BoolExpr, VoidExpr, VarExpr, CallExpr, FieldExpr, MethodExpr, NotExpr, NegExpr, BinaryExpr, ParenExpr}
use Rattle.flow_tree.specs.Decls.{RecordTree, RoutineTree}
use Rattle.flow_value.specs.Values.{ValueTree, IntValue, BoolValue, TextValue, VoidValue, ErrorValue, CompositeValue, RefValue, at_place}
use Rattle.flow_value.specs.View.{value_of}
use Rattle.flow_eval.specs.Records.{field_place, field}
use Rattle.flow_eval.specs.Functions.{read_in, routine_at}
use Rattle.flow_class.specs.Classes.{SetInstr, EffectInstr, NewInstr, ActInstr, DropInstr, RawTree}
use Rattle.flow_class.specs.Code.{type_at}
use Rattle.flow_code.specs.Resolved.Named.{first_from}
use Rattle.flow_code.specs.Resolved.Tree.{Node, Nodes}
use Rattle.flow_code.specs.Resolved.Resolving.{AreFunctions, IsNumbering, resolved, resolved_all, place_by}
use Rattle.flow_code.specs.Resolved.Evaluation.{numbered_field}
use Rattle.flow_code.specs.Resolved.View.{places_in}
use Rattle.flow_code.specs.declared.class.Act.{Act}
use Rattle.flow_code.specs.declared.class.Act.TheVariants as act
use Rattle.flow_code.specs.declared.class.Effect.{Effect}
use Rattle.flow_code.specs.declared.class.Effect.TheVariants as effect
use Rattle.flow_code.specs.Classes.{AimTree, InstructionTree, SetCode, EffectCode, NewCode, ActCode, MethodCode, DropCode, NoCode, EffectOperand}
use Rattle.flow_code.specs.Coding as coding
use Rattle.flow_code.specs.Coding.{Coding, one_more, fields_of, effect_named, effect_code, set_code, new_code, plain_code, method_code, operand_code, act_named, aimed, coded_instruction, coded_operand}
use Rattle.flow_code.specs.Places.{place_of}
use Rattle.flow_meaning.specs.Evaluating.{Effectful, World, Actor, world_if, effectful_of, effectful, bind}
use Rattle.flow_meaning.specs.Evaluating as meaning
use Rattle.flow_meaning.specs.Class.{class_names}
use Rattle.flow_meaning.specs.Frame.{read}
use Rattle.flow_steps.specs.Points.{Numbering, field_path, place_held}
use Rattle.flow_operation_refinement.proofs.Places.{place_seen}
use Rattle.flow_step_refinement.specs.Effects.Effects.{SameEffect}
use Rattle.flow_step_refinement.specs.Effects.Texts as law
use Rattle.flow_step_refinement.specs.Effects.Texts.{EffectText, NamesClasses, EffectInstruction, CallText, VoidText, MethodText}

-- both say the same of which predefined calls have an effect
effect_same : (p : Predefined) → coding.is_effect p ≡ typing.is_effect p
effect_same predefined.RandomInt = refl
effect_same predefined.Delay = refl
effect_same predefined.Never = refl
effect_same predefined.Listen = refl
effect_same predefined.ReadFile = refl
effect_same predefined.WriteFile = refl
effect_same predefined.SyncFile = refl
effect_same predefined.FileSize = refl
effect_same p = refl

-- the first of a name among some is the one at its place
at_position : (x : List ℕ) (k : ℕ) (ys : List (List ℕ))
    → first_from k ys x ≡ cond (ltb (position_or_len (bytes_eq x) ys) (length ys)) (Some (k + position_or_len (bytes_eq x) ys)) None
at_position x k [] = refl
at_position x k (y ∷ ys) = grind (arith, at_position x (suc k) ys)

first_at : (x : List ℕ) (ys : List (List ℕ)) → first_from 0 ys x ≡ position (bytes_eq x) ys
first_at x ys =
    let none : 0 + position_or_len (bytes_eq x) ys ≡ position_or_len (bytes_eq x) ys = omega arith in
    at_position x 0 ys ∙ ap (λ n. cond (ltb (position_or_len (bytes_eq x) ys) (length ys)) (Some n) None) none

module _ (r : RawTree) (c : Coding) (names : NamesClasses r c) where
  -- the effect of a call
  record OfCall (o : Option Predefined) (x : List ℕ) (eff : Effect) : Type 0 where
    called : Effectful
    is : effectful_of o (position (bytes_eq x) (class_names r).actors) ≡ Some called
    same : SameEffect eff called

  of_call : (o : Option Predefined) (x : List ℕ) (eff : Effect) → effect_named o (c.class x) ≡ Some eff → OfCall o x eff
  of_call (Some p) x eff e = by_effect (coding.is_effect p) refl e
    where
      by_effect : (b : Bool) → coding.is_effect p ≡ b → (if b then Some (effect.World p) else None) ≡ Some eff → OfCall (Some p) x eff
      by_effect false h g = absurd (cc (g))
      by_effect true h g =
          let same : effect.World p ≡ eff = cc (g) in record {
            called = World p;
            is = ap (λ b. world_if b p) (sym (effect_same p) ∙ h);
            same = subst (λ y. SameEffect y (World p)) same refl;
          }
  of_call None x eff e = by_class (position (bytes_eq x) (class_names r).actors) refl (ap (option_map effect.Actor) (sym (names x ∙ first_at x (class_names r).actors)) ∙ e)
    where
      by_class : (o : Option ℕ) → position (bytes_eq x) (class_names r).actors ≡ o → option_map effect.Actor (position (bytes_eq x) (class_names r).actors) ≡ Some eff → OfCall None x eff
      by_class None h g = let a = ap (option_map effect.Actor) h in absurd (cc (a, g))
      by_class (Some k) h g =
          let same : effect.Actor k ≡ eff = let a = ap (option_map effect.Actor) h in cc (a, g) in record {
            called = Actor k;
            is = ap (λ o. effectful_of None o) h;
            same = subst (λ y. SameEffect y (Actor k)) same refl;
          }

  effect_text : (t : ExprTree) (eff : Effect) (args : Nodes) → coding.effect_in c t ≡ Some (eff, args) → EffectText r c t eff args
  effect_text (CallExpr f es) eff args e = by_name (effect_named (named call_names f.name) (c.class f.name)) refl e
    where
      by_name : (o : Option Effect) → effect_named (named call_names f.name) (c.class f.name) ≡ o → option_map {U = Effect × Nodes} (λ k. (k, resolved_all c.names es)) o ≡ Some (eff, args)
          → EffectText r c (CallExpr f es) eff args
      by_name None h g = absurd (cc (g))
      by_name (Some k) h g =
          let pair : (k, resolved_all c.names es) ≡ (eff, args) = cc (g) in
          let of = of_call (named call_names f.name) f.name eff (h ∙ ap (λ (y : Effect × Nodes). Some y.0) pair) in record {
            called = of.called;
            exprs = es;
            is_effect = ap (option_map {U = Effectful × ExprTrees} (λ g. (g, es))) of.is;
            same = of.same;
            resolved = sym (ap (λ (y : Effect × Nodes). y.1) pair);
          }
  effect_text (IntExpr n) eff args e = absurd (cc (e))
  effect_text (TextExpr n) eff args e = absurd (cc (e))
  effect_text (BoolExpr n) eff args e = absurd (cc (e))
  effect_text VoidExpr eff args e = absurd (cc (e))
  effect_text (VarExpr n) eff args e = absurd (cc (e))
  effect_text (FieldExpr a b) eff args e = absurd (cc (e))
  effect_text (MethodExpr a b d) eff args e = absurd (cc (e))
  effect_text (NotExpr a) eff args e = absurd (cc (e))
  effect_text (NegExpr a) eff args e = absurd (cc (e))
  effect_text (BinaryExpr op a b) eff args e = absurd (cc (e))
  effect_text (ParenExpr a) eff args e = absurd (cc (e))

-- what kind of an instruction it is
data Shape : Type 0 where
  Sets : Shape
  Affects : Shape
  Makes : Shape
  Calls : Shape
  CallsMethod : Shape
  Drops : Shape
  Nothing : Shape

abbrev shape : InstructionTree → Shape
shape (SetCode a e) = Sets
shape (EffectCode a f es) = Affects
shape (NewCode n k) = Makes
shape (ActCode f es) = Calls
shape (MethodCode a m es) = CallsMethod
shape (DropCode ns) = Drops
shape NoCode = Nothing

abbrev Either : Shape → Shape → Type 0
Either s t = (s ≡ t) ⊎ (s ≡ Nothing)

set_shape : (o : Option AimTree) (e : Node) → Either (shape (set_code o e)) Sets
set_shape None e = inr refl
set_shape (Some a) e = inl refl

effect_shape : (o : Option AimTree) (f : Option (Effect × Nodes)) → Either (shape (effect_code o f)) Affects
effect_shape None f = inr refl
effect_shape (Some a) None = inr refl
effect_shape (Some a) (Some f) = inl refl

-- `new` makes a cell, or puts the empty vector in place
new_apart : (t : Shape) (n : Option ℕ) (u : Option TypeTree) → (Makes ≡ t → ⊥) → (Sets ≡ t → ⊥) → (Nothing ≡ t → ⊥) → shape (new_code n u) ≡ t → ⊥
new_apart t None u makes sets none e = none e
new_apart t (Some n) None makes sets none e = none e
new_apart t (Some n) (Some (PromiseType u)) makes sets none e = makes e
new_apart t (Some n) (Some (PromiseStreamType u)) makes sets none e = makes e
new_apart t (Some n) (Some (VectorType u)) makes sets none e = sets e
new_apart t (Some n) (Some u) makes sets none e = none e

plain_shape : (f : Option Act) (es : Nodes) → Either (shape (plain_code f es)) Calls
plain_shape None es = inr refl
plain_shape (Some f) es = inl refl

method_shape : (o : Option AimTree) (m : Option Method) (es : Nodes) → Either (shape (method_code o m es)) CallsMethod
method_shape None m es = inr refl
method_shape (Some a) None es = inr refl
method_shape (Some a) (Some m) es = inl refl

apart : (x y : InstructionTree) (t : Shape) → x ≡ y → Either (shape y) t → (shape x ≡ t → ⊥) → (shape x ≡ Nothing → ⊥) → ⊥
apart x y t e (inl a) other none = other (ap shape e ∙ a)
apart x y t e (inr a) other none = none (ap shape e ∙ a)

pub effect_coded : law.EffectCoded
effect_coded r c k (EffectInstr xs t) aim eff args names e = by_parts (aimed c xs) refl (coding.effect_in c t) refl e
  where
    by_parts : (o : Option AimTree) → aimed c xs ≡ o → (f : Option (Effect × Nodes)) → coding.effect_in c t ≡ f → EffectCode aim eff args ≡ effect_code o f
        → EffectInstruction r c (EffectInstr xs t) aim eff args
    by_parts None a f b g = absurd (cc (g))
    by_parts (Some z) a None b g = absurd (cc (g))
    by_parts (Some z) a (Some f) b g =
        let aims : z ≡ aim = cc (g) in
        let of : f.0 ≡ eff = cc (g) in
        let with_args : f.1 ≡ args = cc (g) in record {
          path = xs;
          expr = t;
          is = refl;
          aims = a ∙ ap Some aims;
          effect = effect_text r c names t eff args (b ∙ ap (λ y. Some (y, f.1)) of ∙ ap (λ y. Some (eff, y)) with_args);
        }
effect_coded r c k (SetInstr xs t) aim eff args names e = absurd (apart (EffectCode aim eff args) (set_code (aimed c xs) (resolved c.names t)) Sets e (set_shape (aimed c xs) (resolved c.names t))
    (λ a. cc (a)) (λ a. cc (a)))
effect_coded r c k (NewInstr q) aim eff args names e = absurd (new_apart Affects (place_of c.slots q) (type_at k q) (λ a. cc (a)) (λ a. cc (a)) (λ a. cc (a)) (sym (ap shape e)))
effect_coded r c k (ActInstr [] es) aim eff args names e = absurd (cc (e))
effect_coded r c k (ActInstr (x ∷ []) es) aim eff args names e =
    absurd (apart (EffectCode aim eff args) (plain_code (act_named (named call_names x.name) (c.names.function x.name) (c.class x.name)) (resolved_all c.names es)) Calls e
    (plain_shape (act_named (named call_names x.name) (c.names.function x.name) (c.class x.name)) (resolved_all c.names es)) (λ a. cc (a)) (λ a. cc (a)))
effect_coded r c k (ActInstr (x ∷ y ∷ ys) es) aim eff args names e =
    absurd (apart (EffectCode aim eff args) (coding.coded_method c (x ∷ coding.before_last y ys) (coding.last_name y ys).name (resolved_all c.names es)) CallsMethod e
    (method_shape (aimed c (x ∷ coding.before_last y ys)) (named method_names (coding.last_name y ys).name) (resolved_all c.names es)) (λ a. cc (a)) (λ a. cc (a)))
effect_coded r c k (DropInstr ns) aim eff args names e = absurd (cc (e))

pub operand_coded : law.OperandCoded
operand_coded r c t eff args names e = by_effect (coding.effect_in c t) refl e
  where
    by_effect : (f : Option (Effect × Nodes)) → coding.effect_in c t ≡ f → EffectOperand eff args ≡ operand_code f (resolved c.names t) → EffectText r c t eff args
    by_effect None b g = absurd (cc (g))
    by_effect (Some f) b g =
        let of : f.0 ≡ eff = cc (g) in
        let with_args : f.1 ≡ args = cc (g) in effect_text r c names t eff args (b ∙ ap (λ y. Some (y, f.1)) of ∙ ap (λ y. Some (eff, y)) with_args)

pub call_coded : law.CallCoded
call_coded c k (ActInstr (x ∷ []) es) called args e = by_name (named call_names x.name) refl e
  where
    by_name : (o : Option Predefined) → named call_names x.name ≡ o → ActCode (act.World called) args ≡ plain_code (act_named o (c.names.function x.name) (c.class x.name)) (resolved_all c.names es)
        → CallText c (ActInstr (x ∷ []) es) called args
    by_name (Some z) a g =
        let same : z ≡ called = let b : ActCode (act.World called) args ≡ ActCode (act.World z) (resolved_all c.names es) = g in cc (b) in
        let with_args : args ≡ resolved_all c.names es = let b : ActCode (act.World called) args ≡ ActCode (act.World z) (resolved_all c.names es) = g in cc (b) in
        record { name = x; exprs = es; is = refl; named = a ∙ ap Some same; resolved = with_args }
    by_name None a g = by_own (c.names.function x.name) (c.class x.name) g
      where
        by_own : (o z : Option ℕ) → ActCode (act.World called) args ≡ plain_code (act_named None o z) (resolved_all c.names es) → CallText c (ActInstr (x ∷ []) es) called args
        by_own None None g = absurd (cc (g))
        by_own None (Some n) g = absurd (cc (g))
        by_own (Some n) z g = absurd (cc (g))
call_coded c k (ActInstr [] es) called args e = absurd (cc (e))
call_coded c k (ActInstr (x ∷ y ∷ ys) es) called args e =
    absurd (apart (ActCode (act.World called) args) (coding.coded_method c (x ∷ coding.before_last y ys) (coding.last_name y ys).name (resolved_all c.names es)) CallsMethod e
    (method_shape (aimed c (x ∷ coding.before_last y ys)) (named method_names (coding.last_name y ys).name) (resolved_all c.names es)) (λ a. cc (a)) (λ a. cc (a)))
call_coded c k (SetInstr xs t) called args e = absurd (apart (ActCode (act.World called) args) (set_code (aimed c xs) (resolved c.names t)) Sets e (set_shape (aimed c xs) (resolved c.names t))
    (λ a. cc (a)) (λ a. cc (a)))
call_coded c k (EffectInstr xs t) called args e = absurd (apart (ActCode (act.World called) args) (effect_code (aimed c xs) (coding.effect_in c t)) Affects e
    (effect_shape (aimed c xs) (coding.effect_in c t)) (λ a. cc (a)) (λ a. cc (a)))
call_coded c k (NewInstr q) called args e = absurd (new_apart Calls (place_of c.slots q) (type_at k q) (λ a. cc (a)) (λ a. cc (a)) (λ a. cc (a)) (sym (ap shape e)))
call_coded c k (DropInstr ns) called args e = absurd (cc (e))

-- a name that has no number is that of no function
no_function : (fs : List RoutineTree) (function : List ℕ → Option ℕ) (x : List ℕ) → AreFunctions fs function → function x ≡ None → typing.routine_named fs x ≡ None
no_function fs function x are e = (are x).0 ∙ ap (routine_at fs) e

pub void_coded : law.VoidCoded
void_coded r c k (ActInstr (x ∷ []) es) class args names are e = by_name (named call_names x.name) refl e
  where
    by_name : (o : Option Predefined) → named call_names x.name ≡ o → ActCode (act.Actor class) args ≡ plain_code (act_named o (c.names.function x.name) (c.class x.name)) (resolved_all c.names es)
        → VoidText r c (ActInstr (x ∷ []) es) class args
    by_name (Some z) a g = absurd (cc (g))
    by_name None a g = by_own (c.names.function x.name) refl (c.class x.name) refl g
      where
        by_own : (o : Option ℕ) → c.names.function x.name ≡ o → (z : Option ℕ) → c.class x.name ≡ z
            → ActCode (act.Actor class) args ≡ plain_code (act_named None o z) (resolved_all c.names es) → VoidText r c (ActInstr (x ∷ []) es) class args
        by_own None b None d g = absurd (cc (g))
        by_own (Some n) b z d g = absurd (cc (g))
        by_own None b (Some n) d g =
            let whole : ActCode (act.Actor class) args ≡ ActCode (act.Actor n) (resolved_all c.names es) = g in
            let number : n ≡ class = cc (whole) in
            let with_args : args ≡ resolved_all c.names es = cc (whole) in record {
              name = x;
              exprs = es;
              is = refl;
              starts = record {
                own = a;
                function = no_function r.functions c.names.function x.name are b;
                same = sym (first_at x.name (class_names r).actors) ∙ sym (names x.name) ∙ d ∙ ap Some number;
              };
              resolved = with_args;
            }
void_coded r c k (ActInstr [] es) class args names are e = absurd (cc (e))
void_coded r c k (ActInstr (x ∷ y ∷ ys) es) class args names are e =
    absurd (apart (ActCode (act.Actor class) args) (coding.coded_method c (x ∷ coding.before_last y ys) (coding.last_name y ys).name (resolved_all c.names es)) CallsMethod e
    (method_shape (aimed c (x ∷ coding.before_last y ys)) (named method_names (coding.last_name y ys).name) (resolved_all c.names es)) (λ a. cc (a)) (λ a. cc (a)))
void_coded r c k (SetInstr xs t) class args names are e = absurd (apart (ActCode (act.Actor class) args) (set_code (aimed c xs) (resolved c.names t)) Sets e
    (set_shape (aimed c xs) (resolved c.names t)) (λ a. cc (a)) (λ a. cc (a)))
void_coded r c k (EffectInstr xs t) class args names are e = absurd (apart (ActCode (act.Actor class) args) (effect_code (aimed c xs) (coding.effect_in c t)) Affects e
    (effect_shape (aimed c xs) (coding.effect_in c t)) (λ a. cc (a)) (λ a. cc (a)))
void_coded r c k (NewInstr q) class args names are e =
    absurd (new_apart Calls (place_of c.slots q) (type_at k q) (λ a. cc (a)) (λ a. cc (a)) (λ a. cc (a)) (sym (ap shape e)))
void_coded r c k (DropInstr ns) class args names are e = absurd (cc (e))

-- both take paths apart alike
pub before_same : (y : Ident) (ys : List Ident) → coding.before_last y ys ≡ meaning.before_last y ys
before_same y [] = refl
before_same y (z ∷ zs) = ap (λ l. y ∷ l) (before_same z zs)

pub last_same : (y : Ident) (ys : List Ident) → coding.last_name y ys ≡ meaning.last_of y ys
last_same y [] = refl
last_same y (z ∷ zs) = last_same z zs

pub method_coded : law.MethodCoded
method_coded c k (ActInstr (x ∷ y ∷ ys) es) aim called args e = by_parts (aimed c (x ∷ coding.before_last y ys)) refl (named method_names (coding.last_name y ys).name) refl e
  where
    by_parts : (o : Option AimTree) → aimed c (x ∷ coding.before_last y ys) ≡ o → (z : Option Method) → named method_names (coding.last_name y ys).name ≡ z
        → MethodCode aim called args ≡ method_code o z (resolved_all c.names es)
        → MethodText c (ActInstr (x ∷ y ∷ ys) es) aim called args
    by_parts None a z b g = absurd (cc (g))
    by_parts (Some o) a None b g = absurd (cc (g))
    by_parts (Some o) a (Some z) b g =
        let whole : MethodCode aim called args ≡ MethodCode o z (resolved_all c.names es) = g in
        let aims : o ≡ aim = cc (whole) in
        let of : z ≡ called = cc (whole) in
        let with_args : args ≡ resolved_all c.names es = cc (whole) in record {
          root = x;
          second = y;
          others = ys;
          exprs = es;
          is = refl;
          named = ap (λ (n : Ident). named method_names n.name) (sym (last_same y ys)) ∙ b ∙ ap Some of;
          aims = ap (λ l. aimed c (x ∷ l)) (sym (before_same y ys)) ∙ a ∙ ap Some aims;
          resolved = with_args;
        }
method_coded c k (ActInstr [] es) aim called args e = absurd (cc (e))
method_coded c k (ActInstr (x ∷ []) es) aim called args e =
    absurd (apart (MethodCode aim called args) (plain_code (act_named (named call_names x.name) (c.names.function x.name) (c.class x.name)) (resolved_all c.names es)) Calls e
    (plain_shape (act_named (named call_names x.name) (c.names.function x.name) (c.class x.name)) (resolved_all c.names es)) (λ a. cc (a)) (λ a. cc (a)))
method_coded c k (SetInstr xs t) aim called args e = absurd (apart (MethodCode aim called args) (set_code (aimed c xs) (resolved c.names t)) Sets e (set_shape (aimed c xs) (resolved c.names t))
    (λ a. cc (a)) (λ a. cc (a)))
method_coded c k (EffectInstr xs t) aim called args e = absurd (apart (MethodCode aim called args) (effect_code (aimed c xs) (coding.effect_in c t)) Affects e
    (effect_shape (aimed c xs) (coding.effect_in c t)) (λ a. cc (a)) (λ a. cc (a)))
method_coded c k (NewInstr q) aim called args e = absurd (new_apart CallsMethod (place_of c.slots q) (type_at k q) (λ a. cc (a)) (λ a. cc (a)) (λ a. cc (a)) (sym (ap shape e)))
method_coded c k (DropInstr ns) aim called args e = absurd (cc (e))

-- A field by the number of its name is the field of its name.
numbered_same : (rs : List RecordTree) (at : Numbering) (x : List ℕ) (n : ℕ) (v : ValueTree) → ((r : _) → at r n ≡ field_place rs r x) → numbered_field at v n ≡ field rs v x
numbered_same rs at x n (CompositeValue r vs) e = ap (at_place vs) (e r)
numbered_same rs at x n (IntValue a) e = refl
numbered_same rs at x n (BoolValue a) e = refl
numbered_same rs at x n (TextValue a) e = refl
numbered_same rs at x n VoidValue e = refl
numbered_same rs at x n (ErrorValue a) e = refl
numbered_same rs at x n (RefValue kd a) e = refl

path_same : (rs : List RecordTree) (at : Numbering) (number : List ℕ → Option ℕ) → IsNumbering rs number at → (xs : List Ident) (ns : List ℕ) (v : Option ValueTree) → fields_of number xs ≡ Some ns
    → field_path at ns v ≡ read_in rs v xs
path_same rs at number is [] ns None e = let none : [] ≡ ns = cc (e) in ap (λ l. field_path at l None) (sym none)
path_same rs at number is [] ns (Some v) e = let none : [] ≡ ns = cc (e) in ap (λ l. field_path at l (Some v)) (sym none)
path_same rs at number is (x ∷ xs) ns v e = by_name (number x.name) refl e (path_same rs at number is xs)
  where
    by_name : (o : Option ℕ) → number x.name ≡ o → one_more o (fields_of number xs) ≡ Some ns
        → ((ls : List ℕ) (u : Option ValueTree) → fields_of number xs ≡ Some ls → field_path at ls u ≡ read_in rs u xs) → field_path at ns v ≡ read_in rs v (x ∷ xs)
    by_name None h g rest = absurd (cc (g))
    by_name (Some n) h g rest = by_rest (fields_of number xs) refl g
      where
        by_rest : (o : Option (List ℕ)) → fields_of number xs ≡ o → option_map (λ l. n ∷ l) o ≡ Some ns → field_path at ns v ≡ read_in rs v (x ∷ xs)
        by_rest None k g = absurd (cc (g))
        by_rest (Some l) k g = let whole : n ∷ l ≡ ns = cc (g) in ap (λ z. field_path at z v) (sym whole) ∙ by_value v
          where
            by_value : (v : Option ValueTree) → field_path at (n ∷ l) v ≡ read_in rs v (x ∷ xs)
            by_value None = refl
            by_value (Some u) = ap (field_path at l) (numbered_same rs at x.name n u (λ r. ap (place_by at r) (sym h) ∙ is r x.name)) ∙ rest l (field rs u x.name) k

pub path_seen : law.PathSeen
path_seen r ls m p i e f x code root fields aim q number st named has at numbers is =
    ap (λ n. field_path (places_in code.fields) aim.path.items (option_map value_of (place_held i n m.heap))) at
    ∙ ap (field_path (places_in code.fields) aim.path.items) (place_seen r ls m p i e f x q st has)
    ∙ path_same r.records (places_in code.fields) number is fields aim.path.items (read f.mem q) numbers
    ∙ ap (λ o. read_in r.records (bind o (read f.mem)) fields) (sym named)
