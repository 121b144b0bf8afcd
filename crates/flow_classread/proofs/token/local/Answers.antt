use Rattle.std.proofs.Common.{sym, ◌∙◌}
use Rattle.flow_classread.proofs.Single.{local_reads, local_fails}
use Rattle.flow_classread.proofs.token.local.Goals as goal

pub returns-in-Some-clause-reads : goal.returns-in-Some-clause-reads
returns-in-Some-clause-reads c = local_reads c.args.tokens.now c.args.at c.in-Some.n (sym c.local_here.ensures.local ∙ c.in-Some.is)

pub returns-in-None-clause-reads : goal.returns-in-None-clause-reads
returns-in-None-clause-reads c = rw c.refused.ensures (local_fails c.args.tokens.now c.args.at (sym c.local_here.ensures.local ∙ c.in-None.is))
