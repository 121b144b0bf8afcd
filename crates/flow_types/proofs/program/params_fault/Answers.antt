use Rattle.std.proofs.Common.{◌≡◌, sym, ◌∙◌}
use Rattle.flow_tree.specs.DeclView.{param_of}
use Rattle.flow_rules.specs.Known.{field_row}
use Rattle.flow_rules.specs.Rules.{param_fault, param_name}
use Rattle.flow_rules.proofs.Lesser.{lesser_both}
use Rattle.flow_types.specs.MapView.{vars_of}
use Rattle.flow_types.specs.SettingView.{setting_view}
use Rattle.flow_types.specs.WalkView.{texts_of}
use Rattle.flow_types.specs.ProgramView.{taken_in}
use Rattle.flow_types.proofs.Programs.{any_variables, params_step, rows_step}
use Rattle.flow_types.proofs.program.params_fault.Goals as goal

pub loop-param-preserved : goal.loop-param-preserved
loop-param-preserved c =
    let first = c.args.walk.now in
    let old = c.loop-param.walk in
    let new = c.add_param.new.walk in
    let ps = c.args.params.now in
    let i = c.loop-param.param-index in
    let p = c.param-item.result in
    let own = c.param_fault-own.result in
    let so_far = c.loop-param.invariant in
    let others = so_far.2 in
    let more = c.in_ok-add_param.ensures in
    let judged : own ≡ param_fault (setting_view first.setting) (taken_in old) (param_of p) =
    c.param_fault-own.ensures
    ∙ any_variables old.setting.names first.setting.names old.setting.plain first.setting.plain (vars_of old.setting.vars) (vars_of first.setting.vars) (taken_in old) (param_of p)
    others.0 others.1 in (
      params_step (setting_view first.setting) ps i p c.loop-param.fault own c.lesser-fault.result _ (taken_in old) (taken_in new) c.loop-param-test.true c.param-item.is judged
          c.lesser-fault.ensures more.taken so_far.0,
      more.only,
      (more.others.0 ∙ others.0, more.others.1 ∙ others.1, more.others.2 ∙ others.2),
      λ none.
          let both = lesser_both c.loop-param.fault own (sym c.lesser-fault.ensures ∙ none) in
          rows_step field_row ps i p (vars_of old.setting.vars) (vars_of new.setting.vars) _ c.loop-param-test.true c.param-item.is (more.vars both.1) (so_far.3 both.0),
      λ none.
          let both = lesser_both c.loop-param.fault own (sym c.lesser-fault.ensures ∙ none) in
          rows_step param_name ps i p (texts_of old.states) (texts_of new.states) _ c.loop-param-test.true c.param-item.is (more.states both.1) (so_far.4 both.0),
    )
