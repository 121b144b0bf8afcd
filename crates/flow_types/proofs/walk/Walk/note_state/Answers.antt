use Rattle.std.proofs.Common.{◌≡◌, true, sym, ap, ◌++◌, ◌∷◌, [], ◌∙◌}
use Rattle.std.specs.declared.option.Option.TheVariants.{None}
use Rattle.flow_rules.specs.Items.{fresh, among}
use Rattle.flow_types.specs.SettingView.{setting_view}
use Rattle.flow_types.specs.WalkView.{env_of, texts_of}
use Rattle.flow_types.proofs.Inserts.{text_inserted}
use Rattle.flow_types.proofs.Walking.{fresh_new}
use Rattle.flow_types.proofs.Parts.{noted_some}
use Rattle.flow_types.proofs.Programs.{texts}
use Rattle.flow_types.proofs.walk.Walk.note_state.Goals as goal

pub returns-clause-noted : goal.returns-clause-noted
returns-clause-noted c = λ around.
    let s = setting_view c.args.self.now.setting in
    let ks = c.args.self.now.states.keys in
    let x = c.args.into.now.name.name in
    let state = c.if-not-into.false in
    let new : fresh s (texts ks) true x ≡ None = sym (ap (λ b. fresh s (texts ks) b x) state) ∙ c.requires in
    noted_some (env_of c.args.self.now around) c.args.into.now.state x (texts c.insert.new.self.keys) state
    (ap texts c.in_ok-insert.ensures.keys ∙ text_inserted c.bytes.result ks (ap (among (texts ks)) c.bytes.ensures.bytes ∙ fresh_new s (texts ks) x new)
    ∙ ap (λ y. texts ks ++ y ∷ []) c.bytes.ensures.bytes)
