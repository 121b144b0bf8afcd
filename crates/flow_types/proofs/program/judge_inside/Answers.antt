use Rattle.std.proofs.Common.{◌≡◌, not, ◌||◌, Err, refl, sym, ap, ap₂, subst, ◌∙◌}
use Rattle.std.specs.declared.option.Option.TheVariants.{None}
use Rattle.std.proofs.lemmas.Result.{err_from_is_err_and}
use Rattle.flow_ast.specs.TypingNames.{named}
use Rattle.flow_rules.specs.declared.rule.SemanticRule.TheVariants.{FallsOff}
use Rattle.flow_rules.specs.Least.{unless}
use Rattle.flow_rules.specs.Closing.{Ways}
use Rattle.flow_rules.specs.Judged.{is_void}
use Rattle.flow_rules.specs.Items.{item, body_refusal}
use Rattle.flow_rules.specs.Rules.{header_fault, body_env}
use Rattle.flow_rules.proofs.Lesser.{no_item}
use Rattle.flow_types.specs.MapView.{rows_of}
use Rattle.flow_types.specs.WalkView.{env_of}
use Rattle.flow_types.specs.SettingView.{setting_view}
use Rattle.flow_types.specs.ProgramView.{routine_of}
use Rattle.flow_types.proofs.Fails.{Fails, body_fails}
use Rattle.flow_types.proofs.Parts.{says_at}
use Rattle.flow_types.proofs.Programs.{says_first, says_next, fails_says, outside, routine_env}
use Rattle.flow_types.proofs.program.judge_inside.Goals as goal

pub returns-in_err-item : goal.returns-in_err-item
returns-in_err-item c =
    let before = named (rows_of c.args.before.now) in
    let f = routine_of c.args.routine in
    let x = c.in_err-item.field-0.0 in
    let p = err_from_is_err_and c.from_residual-in_err-item.result c.from_residual-in_err-item.ensures.1 in
    let same = c.in_ok-header.ensures.fault in
    rw (p.1, p.2) (says_first _ _ x (says_at f.at _ _ (Err x) same c.in_err-item.ensures))

pub returns-in_err-body : goal.returns-in_err-body
returns-in_err-body c =
    let before = named (rows_of c.args.before.now) in
    let f = routine_of c.args.routine in
    let s = setting_view c.args.walk.now.setting in
    let x = c.in_err-body.field-0.0 in
    let p = err_from_is_err_and c.from_residual-in_err-body.result c.from_residual-in_err-body.ensures.1 in
    let same = c.in_ok-header.ensures.fault in
    let none = no_item f.at c.in_ok-header.header c.in_ok-item.ensures in
    let env = routine_env c.args.walk.now c.header_fault.new.walk s f refl c.requires.returns (c.in_ok-header.ensures.env none) in
    let fails = body_fails (env_of c.header_fault.new.walk outside) (env_of c.body.new.self outside) f.body x c.in_err-body.ensures.answer in
    rw (p.1, p.2) (says_next (item f.at (header_fault before s f)) _ (Err x) (ap (item f.at) (sym same ∙ none))
    (says_first (body_refusal (body_env s f) f.body) _ x (fails_says _ x (subst (λ e. Fails (body_refusal e f.body) x) env fails))))

pub returns : goal.returns
returns c =
    let before = named (rows_of c.args.before.now) in
    let f = routine_of c.args.routine in
    let s = setting_view c.args.walk.now.setting in
    let same = c.in_ok-header.ensures.fault in
    let none = no_item f.at c.in_ok-header.header c.in_ok-item.ensures in
    let env = routine_env c.args.walk.now c.header_fault.new.walk s f refl c.requires.returns (c.in_ok-header.ensures.env none) in
    let body : body_refusal (body_env s f) f.body ≡ None = sym (ap (λ e. body_refusal e f.body) env) ∙ c.in_ok-body.ensures.answer.0 in
    let void = c.is_void-is_void.ensures ∙ ap (is_void s) c.requires.returns in
    let joined : c.if-is_void.unless ≡ (c.is_void-is_void.result || not c.ways_of-ways.result.end) = elim c.if-is_void.branch [
      | goal.then-is_void w ↦ w.unless-is ∙ w.if-is_void.true ∙ ap (λ b. b || not c.ways_of-ways.result.end) (sym w.if-is_void.true)
      | goal.else-is_void w ↦ w.unless-is ∙ ap (λ b. b || not c.ways_of-ways.result.end) (sym w.if-is_void.false)
    ] in
    let end = c.unless.ensures ∙ ap (λ b. unless b FallsOff) joined ∙ ap₂ (λ b (w : Ways). unless (b || not w.end) FallsOff) void c.ways_of-ways.ensures in
    says_next (item f.at (header_fault before s f)) _ c.item-2.result (ap (item f.at) (sym same ∙ none))
    (says_next (body_refusal (body_env s f) f.body) _ c.item-2.result body (says_at f.close _ _ c.item-2.result end c.item-2.ensures))
