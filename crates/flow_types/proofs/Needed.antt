-- What is needed, by number.
use Rattle.std.proofs.Common.{◌≡◌, ℕ, zero, suc, Bool, true, false, List, [], ◌∷◌, not, ◌&&◌, length, map, slice_get, refl, sym, ap, ◌∙◌, arith}
use Rattle.std.specs.Option.{option_map}
use Rattle.std.specs.declared.option.Option.{Option}
use Rattle.std.specs.declared.option.Option.TheVariants.{None, Some}
use Rattle.flow_tree.specs.declared.decl.Param.{Param}
use Rattle.flow_tree.specs.declared.expr.Expr.{Expr}
use Rattle.flow_tree.specs.declared.ty.Ty.{Ty}
use Rattle.flow_tree.specs.declared.ty.Ty.TheOpen as layer
use Rattle.flow_tree.specs.declared.ty.Ty.TheOpen.{Ty-F}
use Rattle.flow_tree.specs.Tree.{TypeTree, FutureType, NothingType}
use Rattle.flow_tree.specs.Decls.{ParamTree}
use Rattle.flow_tree.specs.View.{type_of, type_step, exprs_of}
use Rattle.flow_tree.specs.DeclView.{params_of}
use Rattle.flow_tree.proofs.Views.{by_layer}
use Rattle.flow_ast.specs.Typing.{param_types}
use Rattle.flow_types.specs.declared.callee.Basic.{Basic}
use Rattle.flow_rules.specs.Known.{field_row}
use Rattle.flow_rules.specs.declared.rule.SemanticRule.TheVariants.{NotInFunction}
use Rattle.flow_rules.specs.Least.{unless}
use Rattle.flow_rules.specs.Items.{written}
use Rattle.flow_rules.specs.Judged.{Need, Effect, Exactly, as_many, callee, actor_callee}
use Rattle.flow_types.specs.declared.judge.Setting as code
use Rattle.flow_types.specs.SettingView.{setting_view}
use Rattle.flow_types.specs.View.{basic_need}

pub needs_params : (ps : List Param) (i : ℕ) → slice_get (map Exactly (param_types (params_of ps))) i ≡ option_map (λ (p : Param). Exactly (type_of p.ty)) (slice_get ps i)
needs_params [] i = refl
needs_params (p ∷ ps) zero = refl
needs_params (p ∷ ps) (suc i) = needs_params ps i

pub needs_fixed : (bs : List Basic) (i : ℕ) → slice_get (map basic_need bs) i ≡ option_map basic_need (slice_get bs i)
needs_fixed [] i = refl
needs_fixed (b ∷ bs) zero = refl
needs_fixed (b ∷ bs) (suc i) = needs_fixed bs i

pub row_types : (ps : List ParamTree) → map (λ (r : List ℕ × TypeTree). r.1) (map field_row ps) ≡ param_types ps
row_types [] = refl
row_types (p ∷ ps) = ap (λ ts. p.ty ∷ ts) (row_types ps)

pub as_many_same : (es : List Expr) (ns : List Need) → length es ≡ length ns → as_many (exprs_of es) ns ≡ true
as_many_same [] [] h = refl
as_many_same [] (n ∷ ns) h = absurd (omega arith)
as_many_same (e ∷ es) [] h = absurd (omega arith)
as_many_same (e ∷ es) (n ∷ ns) h = let k : length es ≡ length ns = omega arith in as_many_same es ns k

pub as_many_other : (es : List Expr) (ns : List Need) → (length es ≡ length ns → ⊥) → as_many (exprs_of es) ns ≡ false
as_many_other [] [] h = absurd (h refl)
as_many_other [] (n ∷ ns) h = refl
as_many_other (e ∷ es) [] h = refl
as_many_other (e ∷ es) (n ∷ ns) h = as_many_other es ns (λ k. h (ap suc k))

-- a parameter by its number, and a need of a predefined call
pub param_there : (ps : List Param) (i : ℕ) (p : Param) → slice_get ps i ≡ Some p → Some (Exactly (type_of p.ty)) ≡ slice_get (map Exactly (param_types (params_of ps))) i
param_there ps i p h = sym (needs_params ps i ∙ ap (option_map (λ (q : Param). Exactly (type_of q.ty))) h)

pub param_none : (ps : List Param) (i : ℕ) → slice_get ps i ≡ None → None ≡ slice_get (map Exactly (param_types (params_of ps))) i
param_none ps i h = sym (needs_params ps i ∙ ap (option_map (λ (q : Param). Exactly (type_of q.ty))) h)

-- an actor that gives a value is called as an effect
pub actor_effect : (ts : List TypeTree) (t : Ty) → actor_callee ts (type_of t) ≡ callee ts (FutureType (type_of t)) Effect
actor_effect ts = by_layer (λ t. actor_callee ts t ≡ callee ts (FutureType t) Effect) called
  where
    called : (l : Ty-F TypeTree) → actor_callee ts (type_step l) ≡ callee ts (FutureType (type_step l)) Effect
    called layer.Int = refl
    called layer.Bool = refl
    called layer.Str = refl
    called layer.Void = refl
    called layer.Error = refl
    called (layer.Named n) = refl
    called (layer.Future t) = refl
    called (layer.FutureStream t) = refl
    called (layer.Promise t) = refl
    called (layer.PromiseStream t) = refl
    called (layer.Vector t) = refl

-- what a void actor gives is no type that could be unknown, or hold a reference
pub nothing_written : (s : code.Setting) → written (setting_view s) NothingType ≡ None
nothing_written s = free s.plain
  where
    free : (b : Bool) → unless (not (b && false)) NotInFunction ≡ None
    free true = refl
    free false = refl
