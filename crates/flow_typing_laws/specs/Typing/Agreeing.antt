-- What a setting knows is what a scope has.
use Rattle.std.specs.Prelude.{◌≡◌, ℕ, false, List, map}
use Rattle.std.specs.Option.{option_map}
use Rattle.std.specs.declared.option.Option.{Option}
use Rattle.std.specs.declared.option.Option.TheVariants.{None, Some}
use Rattle.flow_tree.specs.Tree.{TypeTree, NamedType}
use Rattle.flow_tree.specs.Decls.{ParamTree, RoutineTree}
use Rattle.flow_ast.specs.TypingNames.{named}
use Rattle.flow_ast.specs.Typing.{ScopeTree, takes, actor_gives, declared_call, effect_in, field_type, param_named, param_types, routine_named}
use Rattle.flow_rules.specs.Known.{Meaning, RecordOf, FunctionOf, ActorOf}
use Rattle.flow_rules.specs.Judged.{Setting, field_form}

-- the scope declares by a name what this means
abbrev pub IsDeclared : ScopeTree → List ℕ → Option Meaning → Type 0
IsDeclared c x None = Unit {0}
IsDeclared c x (Some (RecordOf fs)) =
    (declared_call c x ≡ takes (map (λ (f : List ℕ × TypeTree). f.1) fs) (NamedType x)) × (effect_in c x None ≡ false)
IsDeclared c x (Some (FunctionOf ts t)) =
    (declared_call c x ≡ takes ts t) × (effect_in c x None ≡ false)
    × (f : RoutineTree) × (routine_named c.functions x ≡ Some f) × (param_types f.params ≡ ts)
IsDeclared c x (Some (ActorOf ts t)) =
    (declared_call c x ≡ actor_gives ts t) × (a : RoutineTree) × (routine_named c.functions x ≡ None) × (routine_named c.actors x ≡ Some a)
    × (a.returns ≡ t) × (param_types a.params ≡ ts)

pub record Agrees (s : Setting) (c : ScopeTree) : Type 0 where
  pub names : (x : List ℕ) → IsDeclared c x (s.known x)
  pub fields : (t : TypeTree) (x : List ℕ) → field_form s t x ≡ field_type c.records t x
  pub vars : (x : List ℕ) → named s.vars x ≡ option_map (λ (p : ParamTree). p.ty) (param_named c.vars x)
