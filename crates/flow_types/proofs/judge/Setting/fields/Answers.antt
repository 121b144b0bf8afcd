use Rattle.std.specs.Option.{option_map}
use Rattle.flow_rules.specs.Least.{lesser}
use Rattle.flow_rules.specs.Items.{path_form, path_fault}
use Rattle.flow_types.specs.View.{found_of}
use Rattle.flow_types.specs.SettingView.{setting_view}
use Rattle.flow_types.proofs.Calls.{both_step}
use Rattle.flow_types.proofs.judge.Setting.fields.Goals as goal

pub loop-name-preserved : goal.loop-name-preserved
loop-name-preserved c =
    let s = setting_view c.args.self.now in
    let xs = c.args.names.now in
    let t = option_map found_of c.args.base.form in
    both_step s xs c.loop-name.name-index c.name-item.result (option_map found_of c.loop-name.judged.form) (option_map found_of c.field-judged.result.form) (path_form s t xs)
    c.loop-name.judged.fault c.field-judged.result.fault (lesser c.args.base.fault (path_fault s t xs)) c.loop-name-test.true c.name-item.is
    c.field-judged.ensures.form c.field-judged.ensures.fault c.loop-name.invariant
