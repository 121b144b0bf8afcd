use Rattle.std.proofs.Common.{refl}
use Rattle.flow_tree.specs.declared.token.Token.TheVariants as token
use Rattle.flow_parse.proofs.Looking.{not_true}
use Rattle.flow_parse.proofs.Leaves.{tok_reads, tok_fails}
use Rattle.flow_parse.proofs.token.word.Goals as goal

pub returns-then-not-is_word-clause-reads : goal.returns-then-not-is_word-clause-reads
returns-then-not-is_word-clause-reads c = λ limits. rw c.refused.ensures (tok_fails limits c.args.tokens.now c.args.at (token.Word c.args.wanted) (λ e. not_true (c.if-not-is_word.ensures.word.1 e)))

pub returns-clause-reads : goal.returns-clause-reads
returns-clause-reads c = λ limits. tok_reads limits c.args.tokens.now c.args.at (token.Word c.args.wanted) (c.if-not-is_word.ensures.word.0 refl)
