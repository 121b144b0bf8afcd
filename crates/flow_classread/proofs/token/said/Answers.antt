use Rattle.std.proofs.Common.{refl}
use Rattle.flow_tree.specs.declared.limits.TheConstants.{OF_CLASS_TEXT}
use Rattle.flow_tree.specs.declared.token.Token.TheVariants as token
use Rattle.flow_parse.proofs.Looking.{not_true}
use Rattle.flow_parse.proofs.Leaves.{tok_reads, tok_fails}
use Rattle.flow_classread.proofs.token.said.Goals as goal

pub returns-then-not-says-clause-reads : goal.returns-then-not-says-clause-reads
returns-then-not-says-clause-reads c = rw c.refused.ensures (tok_fails OF_CLASS_TEXT c.args.tokens.now c.args.at (token.Name c.args.word.now) (λ e. not_true (c.if-not-says.ensures.says.1 e)))

pub returns-clause-reads : goal.returns-clause-reads
returns-clause-reads c = tok_reads OF_CLASS_TEXT c.args.tokens.now c.args.at (token.Name c.args.word.now) (c.if-not-says.ensures.says.0 refl)
