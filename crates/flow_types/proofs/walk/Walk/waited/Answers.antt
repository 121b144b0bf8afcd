use Rattle.std.proofs.Common.{sym, ap, subst, ◌∙◌, IfOk}
use Rattle.std.specs.Option.{option_map}
use Rattle.flow_tree.specs.StmtView.{into_of}
use Rattle.flow_types.specs.declared.walk.Around.{Around}
use Rattle.flow_rules.specs.Items.{maybe_into, waited}
use Rattle.flow_rules.proofs.Lesser.{lesser_both}
use Rattle.flow_types.specs.SettingView.{setting_view}
use Rattle.flow_types.specs.WalkView.{texts_of, env_of}
use Rattle.flow_types.proofs.Parts.{into_fresh}
use Rattle.std.proofs.Common.{◌≡◌}
use Rattle.flow_types.proofs.walk.Walk.waited.Goals as goal

pub declared-requires : goal.declared-requires
declared-requires c =
    let s = setting_view c.args.self.now.setting in
    let ss = texts_of c.args.self.now.states in
    into_fresh s ss (into_of c.in-Some.into) (sym (ap (λ o. maybe_into s ss (option_map into_of o)) c.in-Some.is) ∙ c.requires)

pub returns-in-Some-clause-waited : goal.returns-in-Some-clause-waited
returns-in-Some-clause-waited c =
    subst (λ o. IfOk c.declared.result (λ _. (g : Around) → env_of c.declared.new.self g ≡ waited (env_of c.args.self.now g) (option_map into_of o))) (sym c.in-Some.is) c.declared.ensures.declared
