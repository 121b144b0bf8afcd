-- The effects of class text by their names are those of the code.
use Rattle.std.proofs.Common.{◌≡◌, ℕ, suc, ◌+◌, Bool, true, false, cond, ltb, List, [], ◌∷◌, length, map, position, if◌then◌else◌, refl, sym, ap, ◌∙◌, arith}
use Rattle.std.specs.List.{position_or_len}
use Rattle.std.specs.Str.{bytes_eq}
use Rattle.std.specs.Option.{option_map}
use Rattle.std.specs.declared.option.Option.{Option}
use Rattle.std.specs.declared.option.Option.TheVariants.{None, Some}
use Rattle.flow_ast.specs.declared.predefined.Predefined.{Predefined}
use Rattle.flow_ast.specs.declared.predefined.Predefined.TheVariants as predefined
use Rattle.flow_ast.specs.Typing as typing
use Rattle.flow_ast.specs.TypingNames.{named, call_names}
use Rattle.flow_tree.specs.Tree.{ExprTrees, IntExpr, TextExpr, BoolExpr, VoidExpr, VarExpr, CallExpr, FieldExpr, MethodExpr, NotExpr, NegExpr, BinaryExpr, ParenExpr}
use Rattle.flow_class.specs.Classes.{ClassTree}
use Rattle.flow_code.specs.Resolved.Named.{first_from}
use Rattle.flow_code.specs.Resolved.Tree.{Nodes}
use Rattle.flow_code.specs.Resolved.Resolving.{Naming, resolved_all}
use Rattle.flow_code.specs.declared.class.Effect.{Effect}
use Rattle.flow_code.specs.declared.class.Effect.TheVariants as effect
use Rattle.flow_code.specs.Coding.{is_effect, effect_named}
use Rattle.flow_code.specs.Coded.{class_named}
use Rattle.flow_code.specs.Places.{place_in}
use Rattle.flow_meaning.specs.Evaluating as effects
use Rattle.flow_meaning.specs.Class.{class_name, class_names}
use Rattle.flow_step_refinement.specs.Decoding as law
use Rattle.flow_step_refinement.specs.Decoding.{effect_of_name}

same_effects : (p : Predefined) → is_effect p ≡ typing.is_effect p
same_effects predefined.ToString = refl
same_effects predefined.ToInt = refl
same_effects predefined.Now = refl
same_effects predefined.EndOfStream = refl
same_effects predefined.TimedOut = refl
same_effects predefined.BrokenPromise = refl
same_effects predefined.OperationCancelled = refl
same_effects predefined.ActorCancelled = refl
same_effects predefined.Error = refl
same_effects predefined.RandomInt = refl
same_effects predefined.Delay = refl
same_effects predefined.Never = refl
same_effects predefined.Listen = refl
same_effects predefined.ReadFile = refl
same_effects predefined.WriteFile = refl
same_effects predefined.SyncFile = refl
same_effects predefined.FileSize = refl
same_effects predefined.Trace = refl
same_effects predefined.SendTo = refl

-- the first of a name is the place of its name
first_place : (n : ℕ) (ys : List (List ℕ)) (x : List ℕ)
    → first_from n ys x ≡ cond (ltb (position_or_len (bytes_eq x) ys) (length ys)) (Some (n + position_or_len (bytes_eq x) ys)) None
first_place n [] x = refl
first_place n (y ∷ ys) x = grind (arith, first_place (suc n) ys x)

pub class_place : (cs : List ClassTree) (x : List ℕ) → class_named cs x ≡ position (bytes_eq x) (map class_name cs)
class_place cs x =
    let none : 0 + position_or_len (bytes_eq x) (map class_name cs) ≡ position_or_len (bytes_eq x) (map class_name cs) = omega arith in
    first_place 0 (map class_name cs) x
    ∙ ap (λ n. cond (ltb (position_or_len (bytes_eq x) (map class_name cs)) (length (map class_name cs))) (Some n) None) none

module _ (n : Naming) (es : ExprTrees) where
  abbrev with_args : Effect → Effect × Nodes
  with_args e = (e, resolved_all n es)

  abbrev text_effect : effects.Effectful → Effect × Nodes
  text_effect g = (effect_of_name g, resolved_all n es)

  world : (p : Predefined) (b : Bool) → option_map with_args (if b then Some (effect.World p) else None) ≡ option_map text_effect (effects.world_if b p)
  world p true = refl
  world p false = refl

  by_call : (o : Option Predefined) (k : Option ℕ) → option_map with_args (effect_named o k) ≡ option_map text_effect (effects.effectful_of o k)
  by_call (Some p) k = ap (λ b. option_map with_args (if b then Some (effect.World p) else None)) (same_effects p) ∙ world p (typing.is_effect p)
  by_call None None = refl
  by_call None (Some k) = refl

mapped_twice : {A B C : Type 0} (g : A → B) (h : B → C) (o : Option A) → option_map h (option_map g o) ≡ option_map (λ a. h (g a)) o
mapped_twice g h None = refl
mapped_twice g h (Some a) = refl

pub effect_there : law.EffectOf
effect_there r classes f (CallExpr g es) c same =
    let n : Naming = record c.names { place = place_in (length f.code.slots) } in
    ap (λ k. option_map (with_args n es) (effect_named (named call_names g.name) k)) (same g.name ∙ class_place r.classes g.name)
    ∙ by_call n es (named call_names g.name) (position (bytes_eq g.name) (map class_name r.classes))
    ∙ sym (mapped_twice (λ a. (a, es)) (λ y. (effect_of_name y.0, resolved_all n y.1)) (effects.effectful (class_names r) g.name))
effect_there r classes f (IntExpr x) c same = refl
effect_there r classes f (TextExpr x) c same = refl
effect_there r classes f (BoolExpr x) c same = refl
effect_there r classes f VoidExpr c same = refl
effect_there r classes f (VarExpr x) c same = refl
effect_there r classes f (FieldExpr e x) c same = refl
effect_there r classes f (MethodExpr e m xs) c same = refl
effect_there r classes f (NotExpr e) c same = refl
effect_there r classes f (NegExpr e) c same = refl
effect_there r classes f (BinaryExpr op a b) c same = refl
effect_there r classes f (ParenExpr e) c same = refl
