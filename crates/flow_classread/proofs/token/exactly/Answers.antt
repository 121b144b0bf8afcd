use Rattle.std.proofs.Common.{refl}
use Rattle.std.specs.Prelude.{pos}
use Rattle.flow_tree.specs.declared.limits.TheConstants.{OF_CLASS_TEXT}
use Rattle.flow_tree.specs.declared.token.Token.TheVariants as token
use Rattle.flow_parse.proofs.Looking.{not_true}
use Rattle.flow_parse.proofs.Leaves.{tok_reads, tok_fails}
use Rattle.flow_classread.proofs.token.exactly.Goals as goal

pub returns-then-not-is_number-clause-reads : goal.returns-then-not-is_number-clause-reads
returns-then-not-is_number-clause-reads c =
    rw c.refused.ensures (tok_fails OF_CLASS_TEXT c.args.tokens.now c.args.at (token.Number (pos c.args.n)) (λ e. not_true (c.if-not-is_number.ensures.number.1 e)))

pub returns-clause-reads : goal.returns-clause-reads
returns-clause-reads c = tok_reads OF_CLASS_TEXT c.args.tokens.now c.args.at (token.Number (pos c.args.n)) (c.if-not-is_number.ensures.number.0 refl)
