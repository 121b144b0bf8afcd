use Rattle.std.proofs.Common.{sym, ◌∙◌}
use Rattle.flow_classread.proofs.Single.{number_reads, number_fails}
use Rattle.flow_classread.proofs.token.number.Goals as goal

pub returns-in-Some-clause-reads : goal.returns-in-Some-clause-reads
returns-in-Some-clause-reads c = number_reads c.args.tokens.now c.args.at c.in-Some.n (sym c.number_at.ensures.number ∙ c.in-Some.is)

pub returns-in-None-clause-reads : goal.returns-in-None-clause-reads
returns-in-None-clause-reads c = rw c.refused.ensures (number_fails c.args.tokens.now c.args.at (sym c.number_at.ensures.number ∙ c.in-None.is))
