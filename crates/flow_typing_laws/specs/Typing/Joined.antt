-- Where no rule refuses a program, its expressions, functions and actors are well typed.
use Rattle.std.specs.Prelude.{◌≡◌, Bool, true, false, List, ◌⊎◌}
use Rattle.std.specs.declared.option.Option.TheVariants.{None, Some}
use Rattle.flow_tree.specs.Tree.{TypeTree, ExprTree}
use Rattle.flow_tree.specs.Decls.{ParamTree, ProgramTree}
use Rattle.flow_ast.specs.Typing.{ScopeTree, type_in, without_effects}
use Rattle.flow_ast.specs.Fits.{FunctionsFit}
use Rattle.flow_rules.specs.Judged.{Setting, form, fault}
use Rattle.flow_meaning.specs.Source.{records_in, functions_in, actors_in}
use Rattle.flow_typing_laws.specs.Typing.Scopes.{scope_in, setting_in, QuietInside}
use Rattle.flow_typing_laws.specs.Typing.ActorFits.{ActorsFit}

-- An expression in which no rule fails has the type that its form gives. It has no effects, unless it is a whole one in an
-- actor, and none inside.
pub record IsTyped (s : Setting) (c : ScopeTree) (whole : Bool) (e : ExprTree) : Type 0 where
  pub type : TypeTree
  pub by_form : form s e ≡ Some type
  pub in_scope : type_in c e ≡ Some type
  pub quiet : (whole ≡ false) ⊎ (s.plain ≡ true) → without_effects c e ≡ true
  pub inside : QuietInside c e

-- In a program that no rule refuses each expression in which none fails is typed, in a function and in an actor, over any
-- variables; and its functions and actors fit.
pub record AcceptedFits (p : ProgramTree) : Type 0 where
  pub expressions : (plain whole : Bool) (vars : List ParamTree) (e : ExprTree) → fault (setting_in p.decls plain vars) whole e ≡ None
      → IsTyped (setting_in p.decls plain vars) (scope_in p.decls vars) whole e
  pub functions : FunctionsFit (records_in p.decls) (functions_in p.decls) (actors_in p.decls)
  pub actors : ActorsFit p.decls
