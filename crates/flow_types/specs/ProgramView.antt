-- Declarations of the code, seen as plain data, and what their parts answer.
use Rattle.std.specs.Prelude.{◌≡◌, ℕ, Bool, List, [], ◌∷◌, ◌++◌, map}
use Rattle.std.specs.declared.option.Option.{Option}
use Rattle.std.specs.declared.option.Option.TheVariants.{None}
use Rattle.flow_tree.specs.Tree.{TypeTree}
use Rattle.flow_tree.specs.View.{type_of, result_of}
use Rattle.flow_tree.specs.StmtView.{body_of}
use Rattle.flow_tree.specs.DeclView.{params_of}
use Rattle.flow_tree.specs.Decls.{ParamTree, RoutineTree}
use Rattle.flow_ast.specs.TypingNames.{named}
use Rattle.flow_ast.specs.Typing.{is_there}
use Rattle.flow_types.specs.declared.top_names.TopNames.{TopNames}
use Rattle.flow_types.specs.declared.walk.Walk.{Walk}
use Rattle.flow_types.specs.declared.program.Routine.{Routine}
use Rattle.flow_types.specs.declared.program.Returns.{Returns}
use Rattle.flow_types.specs.declared.program.Returns.TheVariants as returns
use Rattle.flow_rules.specs.declared.rule.SemanticRule.{SemanticRule}
use Rattle.flow_rules.specs.Known.{field_row, holds_by}
use Rattle.flow_rules.specs.Judged.{Setting}
use Rattle.flow_rules.specs.Items.{among}
use Rattle.flow_rules.specs.Rules.{with_name, param_name}
use Rattle.flow_types.specs.View.{found_of}
use Rattle.flow_types.specs.MapView.{known_by, flag_of, vars_of}
use Rattle.flow_types.specs.WalkView.{texts_of}

abbrev pub returned_type : Returns → TypeTree
returned_type (returns.Function t) = type_of t.now
returned_type (returns.Actor t) = result_of t.now

abbrev pub routine_of : Routine → RoutineTree
routine_of f = record {
  at = f.at;
  returns = returned_type f.returns;
  name = f.name.now;
  params = params_of f.params.now;
  body = body_of f.body.now;
  close = f.close;
}

-- what is in force in routines before their parameters
abbrev pub setting_by : TopNames → Bool → Setting
setting_by n plain = record { known = known_by n; holds = holds_by (flag_of n); vars = []; plain = plain }

-- the names of variables in force
abbrev pub taken_in : Walk → List ℕ → Bool
taken_in w x = is_there (named (vars_of w.setting.vars) x)

-- with parameters alone in force, their names are those of the variables
abbrev pub ParamsOnly : Walk → Type 0
ParamsOnly w = among (texts_of w.states) ≡ taken_in w

-- with other variables and names of state variables
abbrev pub Otherwise : Walk → Walk → Type 0
Otherwise old new = (new.setting.names ≡ old.setting.names) × (new.setting.plain ≡ old.setting.plain) × (new.returns ≡ old.returns)

-- one more parameter is in force; its tables have one more row, where nothing fails at it
pub record NewParam (old new : Walk) (x : List ℕ) (t : TypeTree) (fault : Option SemanticRule) : Type 0 where
  pub only : ParamsOnly new
  pub taken : taken_in new ≡ with_name x (taken_in old)
  pub vars : fault ≡ None → vars_of new.setting.vars ≡ vars_of old.setting.vars ++ (x, t) ∷ []
  pub states : fault ≡ None → texts_of new.states ≡ texts_of old.states ++ x ∷ []
  pub others : Otherwise old new

-- these parameters are in force
pub record ParamsIn (old new : Walk) (ps : List ParamTree) : Type 0 where
  pub vars : vars_of new.setting.vars ≡ map field_row ps
  pub states : texts_of new.states ≡ map param_name ps
  pub others : Otherwise old new
