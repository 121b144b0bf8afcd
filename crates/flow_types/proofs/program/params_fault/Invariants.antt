use Rattle.std.proofs.Common.{◌≡◌, ◌++◌, false, map, drop}
use Rattle.std.specs.declared.option.Option.TheVariants.{None}
use Rattle.flow_tree.specs.DeclView.{params_of}
use Rattle.flow_rules.specs.Least.{lesser}
use Rattle.flow_rules.specs.Known.{field_row}
use Rattle.flow_rules.specs.Rules.{params_fault, param_name}
use Rattle.flow_types.specs.MapView.{vars_of}
use Rattle.flow_types.specs.SettingView.{setting_view}
use Rattle.flow_types.specs.WalkView.{texts_of}
use Rattle.flow_types.specs.ProgramView.{taken_in, ParamsOnly, Otherwise}
use Rattle.flow_types.proofs.program.params_fault.Given as goal

abbrev pub invariant-loop-param : goal.invariant-loop-param
invariant-loop-param l =
    (lesser l.fault (params_fault (setting_view l.initial.walk.setting) (taken_in l.walk) (params_of (drop l.param-index l.params)))
    ≡ params_fault (setting_view l.initial.walk.setting) (λ x. false) (params_of l.params))
    × ParamsOnly l.walk × Otherwise l.initial.walk l.walk
    × (l.fault ≡ None → vars_of l.walk.setting.vars ++ map field_row (params_of (drop l.param-index l.params)) ≡ map field_row (params_of l.params))
    × (l.fault ≡ None → texts_of l.walk.states ++ map param_name (params_of (drop l.param-index l.params)) ≡ map param_name (params_of l.params))
