use Rattle.std.specs.Option.{option_map}
use Rattle.flow_tree.specs.View.{exprs_of}
use Rattle.flow_types.specs.View.{callee_of, needs_view}
use Rattle.flow_types.specs.SettingView.{setting_view}
use Rattle.flow_types.proofs.Calls.{named_is}
use Rattle.flow_types.proofs.judge.Setting.named_call.Goals as goal

pub returns : goal.returns
returns c =
    named_is (setting_view c.args.self.now) c.args.name.now (exprs_of c.args.args.now) (option_map callee_of c.called-callee.result) (needs_view c.needs_of.result)
    c.judge_args.result c.said_call.result c.lesser.result c.called-callee.ensures c.needs_of.ensures c.judge_args.ensures c.said_call.ensures c.lesser.ensures
