use Rattle.std.proofs.Common.{rules}
use Rattle.flow_refusal.proofs.telling.on_script.Goals as goal

pub returns : goal.returns
returns c = (c.args.words.now, search rules)
