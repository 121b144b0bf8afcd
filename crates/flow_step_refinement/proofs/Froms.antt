-- What an instruction is coded from.
use Rattle.std.proofs.Common.{◌≡◌, ℕ, List, [], ◌∷◌, refl}
use Rattle.std.specs.declared.option.Option.{Option}
use Rattle.std.specs.declared.option.Option.TheVariants.{None, Some}
use Rattle.flow_ast.specs.declared.predefined.Method.{Method}
use Rattle.flow_ast.specs.TypingNames.{named, call_names, method_names}
use Rattle.flow_tree.specs.declared.ty.Ident.{Ident}
use Rattle.flow_tree.specs.Tree.{TypeTree, PromiseType, PromiseStreamType, VectorType, ExprTree, ExprTrees}
use Rattle.flow_value.specs.declared.value.Kind.TheVariants as kind
use Rattle.flow_class.specs.declared.class.Slotted.{Slotted}
use Rattle.flow_class.specs.Classes.{SetInstr, EffectInstr, NewInstr, ActInstr, DropInstr, ClassTree}
use Rattle.flow_class.specs.Code.{type_at}
use Rattle.flow_code.specs.Resolved.Tree.{Nodes}
use Rattle.flow_code.specs.Resolved.Resolving.{resolved, resolved_all}
use Rattle.flow_code.specs.declared.class.Act.{Act}
use Rattle.flow_code.specs.declared.class.Effect.{Effect}
use Rattle.flow_code.specs.Classes.{AimTree}
use Rattle.flow_code.specs.Places.{place_of}
use Rattle.flow_code.specs.Coding.{Coding, set_code, effect_code, new_code, plain_code, method_code, act_named, last_name, before_last, effect_in, aimed}
use Rattle.flow_step_refinement.specs.Decoding as law
use Rattle.flow_step_refinement.specs.Decoding.{CodedFrom, from_set, from_effect, from_new, from_vector, from_act, from_method, from_drop, from_none}

module _ (c : Coding) (t : ClassTree) where
  set_from : (xs : List Ident) (e : ExprTree) (o : Option AimTree) → aimed c xs ≡ o → CodedFrom c t (SetInstr xs e) (set_code o (resolved c.names e))
  set_from xs e None h = from_none refl
  set_from xs e (Some a) h = from_set xs e a refl h refl

  effect_from : (xs : List Ident) (e : ExprTree) (o : Option AimTree) (f : Option (Effect × Nodes)) → aimed c xs ≡ o → effect_in c e ≡ f → CodedFrom c t (EffectInstr xs e) (effect_code o f)
  effect_from xs e None f h k = from_none refl
  effect_from xs e (Some a) None h k = from_none refl
  effect_from xs e (Some a) (Some f) h k = from_effect xs e a f refl h k refl

  new_from : (q : Slotted) (o : Option ℕ) (u : Option TypeTree) → place_of c.slots q ≡ o → type_at t q ≡ u → CodedFrom c t (NewInstr q) (new_code o u)
  new_from q None u h g = from_none refl
  new_from q (Some n) None h g = from_none refl
  new_from q (Some n) (Some (PromiseType u)) h g = from_new q n (PromiseType u) kind.Promise refl h g refl refl
  new_from q (Some n) (Some (PromiseStreamType u)) h g = from_new q n (PromiseStreamType u) kind.PromiseStream refl h g refl refl
  new_from q (Some n) (Some (VectorType u)) h g = from_vector q n u refl h g refl
  new_from q (Some n) (Some u) h g = from_none refl

  act_from : (f : Ident) (es : ExprTrees) (o : Option Act) → act_named (named call_names f.name) (c.names.function f.name) (c.class f.name) ≡ o
      → CodedFrom c t (ActInstr (f ∷ []) es) (plain_code o (resolved_all c.names es))
  act_from f es None h = from_none refl
  act_from f es (Some a) h = from_act f es a refl h refl

  method_from : (x y : Ident) (ys : List Ident) (es : ExprTrees) (o : Option AimTree) (m : Option Method) → aimed c (x ∷ before_last y ys) ≡ o → named method_names (last_name y ys).name ≡ m
      → CodedFrom c t (ActInstr (x ∷ y ∷ ys) es) (method_code o m (resolved_all c.names es))
  method_from x y ys es None m h k = from_none refl
  method_from x y ys es (Some a) None h k = from_none refl
  method_from x y ys es (Some a) (Some m) h k = from_method x y ys es a m refl h k refl

pub instruction_from : law.InstructionFrom
instruction_from c t (SetInstr xs e) = set_from c t xs e (aimed c xs) refl
instruction_from c t (EffectInstr xs e) = effect_from c t xs e (aimed c xs) (effect_in c e) refl refl
instruction_from c t (NewInstr q) = new_from c t q (place_of c.slots q) (type_at t q) refl refl
instruction_from c t (ActInstr [] es) = from_none refl
instruction_from c t (ActInstr (f ∷ []) es) = act_from c t f es (act_named (named call_names f.name) (c.names.function f.name) (c.class f.name)) refl
instruction_from c t (ActInstr (x ∷ y ∷ ys) es) = method_from c t x y ys es (aimed c (x ∷ before_last y ys)) (named method_names (last_name y ys).name) refl refl
instruction_from c t (DropInstr ns) = from_drop ns refl refl
