use Rattle.std.specs.Option.{option_map}
use Rattle.flow_tree.specs.StmtView.{change_of}
use Rattle.flow_types.specs.View.{found_of}
use Rattle.flow_types.specs.SettingView.{setting_view}
use Rattle.flow_types.proofs.Calls.{modified_is}
use Rattle.flow_types.proofs.walk.Walk.modification.Goals as goal

pub returns : goal.returns
returns c =
    modified_is (setting_view c.args.self.now.setting) c.deref.result.now c.args.target.now.path.items (change_of c.args.change.now)
    (option_map found_of c.target-target.result.form) c.target-target.result.fault c.change.result c.lesser.result
    c.deref.ensures.value c.target-target.ensures.form c.target-target.ensures.fault c.change.ensures c.lesser.ensures
