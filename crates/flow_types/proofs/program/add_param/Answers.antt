use Rattle.std.proofs.Common.{refl}
use Rattle.flow_tree.specs.DeclView.{param_of}
use Rattle.flow_types.specs.SettingView.{setting_view}
use Rattle.flow_types.proofs.Programs.{new_only, new_taken, new_vars, new_states}
use Rattle.flow_types.proofs.program.add_param.Goals as goal

pub returns : goal.returns
returns c =
    let s = setting_view c.args.walk.now.setting in
    let p = param_of c.args.param.now in
    let es = c.args.walk.now.setting.vars.entries in
    let ks = c.args.walk.now.states.keys in
    let entries = c.in_ok-insert.ensures.entries in
    let keys = c.in_ok-insert-2.ensures.keys in
    let name = c.bytes-name.ensures.bytes in
    let only = new_only s p c.bytes-name.result c.of.result es c.insert.new.self.entries ks c.insert-2.new.self.keys c.args.fault entries keys name c.requires.only in
    let taken = new_taken s p c.bytes-name.result c.of.result es c.insert.new.self.entries ks c.insert-2.new.self.keys c.args.fault entries keys name in
    record {
      only = only;
      taken = taken;
      vars = λ none. new_vars s p c.bytes-name.result c.of.result es c.insert.new.self.entries ks c.insert-2.new.self.keys c.args.fault entries keys name c.requires.fault c.of.ensures none;
      states = λ none. new_states s p c.bytes-name.result c.of.result es c.insert.new.self.entries ks c.insert-2.new.self.keys c.args.fault entries keys name c.requires.only c.requires.fault none;
      others = (refl, refl, refl);
    }
