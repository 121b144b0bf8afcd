use Rattle.std.proofs.Common.{refl, arith, length, take, ◌-◌, ◌∙◌}
use Rattle.flow_tree.specs.View.{exprs_of}
use Rattle.flow_types.specs.SettingView.{setting_view}
use Rattle.flow_types.proofs.Calls.{one_name, more_names}
use Rattle.flow_types.proofs.judge.Setting.call.Goals as goal

pub returns-in-len1 : goal.returns-in-len1
returns-in-len1 c =
    c.named_call.ensures ∙ one_name (setting_view c.args.self.now) c.args.path.now c.name-item.result (exprs_of c.args.args.now)
    (omega (arith, c.in-len1.len_at_least, c.in-len1.len_below)) c.name-item.is

pub returns-in-len1-up : goal.returns-in-len1-up
returns-in-len1-up c =
    let n = length c.args.path.now - 1 in
    c.method_call.ensures
    ∙ more_names (setting_view c.args.self.now) c.args.path.now (take n c.args.path.now) c.name-item-2.result n (exprs_of c.args.args.now)
    (omega (arith, c.in-len1-up.len_at_least)) refl refl c.name-item-2.is
