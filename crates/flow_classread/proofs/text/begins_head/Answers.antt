use Rattle.std.proofs.Common.{arith}
use Rattle.flow_classread.proofs.Heading.{head_or}
use Rattle.flow_classread.proofs.text.begins_head.Goals as goal

pub returns : goal.returns
returns c = head_or c.args.tokens.now.spots.items c.args.at c.begins_class.result (omega (arith)) c.begins_class.ensures
