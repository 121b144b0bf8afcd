-- Where the kind of a call says that it is an effect, its name does, and the other way: but a call that is a statement
-- isn't asked.
use Rattle.std.proofs.Common.{◌≡◌, ℕ, Bool, true, false, List, refl, sym, subst}
use Rattle.std.specs.declared.option.Option.{Option}
use Rattle.std.specs.declared.option.Option.TheVariants.{None, Some}
use Rattle.flow_tree.specs.Tree.{ExprTrees}
use Rattle.flow_ast.specs.Typing.{is_there}
use Rattle.flow_rules.specs.declared.rule.SemanticRule.{SemanticRule}
use Rattle.flow_rules.specs.declared.rule.SemanticRule.TheVariants.{WrongType, WrongCount}
use Rattle.flow_rules.specs.Least.{lesser, unless}
use Rattle.flow_rules.specs.Judged.{Setting, Callee, Kind, Value, OfFunction, Clock, Effect, Statement, placed, not_here, as_many, called, calls}
use Rattle.flow_rules.proofs.Lesser.{no_second}
use Rattle.flow_valid.specs.Validity.{calls_effect}
use Rattle.flow_meaning.specs.Evaluating.{Names, effectful}

abbrev pub is_statement : Kind → Bool
is_statement Statement = true
is_statement _ = false

abbrev pub is_said : Option Callee → Bool
is_said None = false
is_said (Some k) = is_statement k.kind

abbrev pub EffectsAgree : Setting → Names → Type 0
EffectsAgree base ns = (f : List ℕ) → is_said (called base f) ≡ false → is_there (effectful ns f) ≡ calls_effect (called base f)

placed_kind : (s : Setting) (k : Kind) → placed s true k ≡ None → is_statement k ≡ false
placed_kind s Statement e = let h : Some WrongType ≡ None = no_second (not_here s) (Some WrongType) e in absurd cc
placed_kind s Value e = refl
placed_kind s OfFunction e = refl
placed_kind s Clock e = refl
placed_kind s Effect e = refl

-- what stands as a value is no statement
pub value_called : (s : Setting) (xs : ExprTrees) (o : Option Callee) → calls xs o (placed s true) ≡ None → is_said o ≡ false
value_called s xs None h = refl
value_called s xs (Some k) h = placed_kind s k.kind (no_second (unless (as_many xs k.needs) WrongCount) (placed s true k.kind) h)
