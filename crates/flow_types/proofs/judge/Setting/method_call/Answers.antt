use Rattle.std.proofs.Common.{ap, ◌∙◌}
use Rattle.std.specs.Option.{option_map}
use Rattle.flow_tree.specs.View.{exprs_of}
use Rattle.flow_rules.specs.Judged.{called_on}
use Rattle.flow_types.specs.View.{found_of, callee_of, needs_view}
use Rattle.flow_types.specs.SettingView.{setting_view}
use Rattle.flow_types.proofs.Calls.{called_is}
use Rattle.flow_types.proofs.judge.Setting.method_call.Goals as goal

pub returns : goal.returns
returns c =
    let t = option_map found_of c.base-base.result.form in
    called_is (setting_view c.args.self.now) c.args.path.now c.args.name.now (exprs_of c.args.args.now) t (option_map callee_of c.called_on-callee.result) (needs_view c.needs_of.result)
    c.base-base.result.fault c.judge_args.result c.said_call.result c.lesser.result c.lesser-2.result c.base-base.ensures.form c.base-base.ensures.fault
    (c.called_on-callee.ensures ∙ ap (called_on t) c.bytes.ensures.bytes) c.needs_of.ensures c.judge_args.ensures c.said_call.ensures c.lesser.ensures c.lesser-2.ensures
