use Rattle.std.proofs.Common.{sym, ◌∙◌}
use Rattle.flow_types.proofs.Lookups.{among_any}
use Rattle.flow_types.proofs.walk.has_text.Goals as goal

pub returns : goal.returns
returns c = c.contains.ensures ∙ sym (among_any c.args.text.now c.args.texts.now.keys)
