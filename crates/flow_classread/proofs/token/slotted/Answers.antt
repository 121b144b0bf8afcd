use Rattle.std.proofs.Common.{sym, ◌∙◌}
use Rattle.flow_classread.proofs.Single.{place_reads, place_fails}
use Rattle.flow_classread.proofs.token.slotted.Goals as goal

pub returns-in-Some-clause-reads : goal.returns-in-Some-clause-reads
returns-in-Some-clause-reads c = place_reads c.args.tokens.now c.args.at c.in-Some.place (sym c.place_here.ensures.place ∙ c.in-Some.is)

pub returns-in-None-clause-reads : goal.returns-in-None-clause-reads
returns-in-None-clause-reads c = rw c.refused.ensures (place_fails c.args.tokens.now c.args.at (sym c.place_here.ensures.place ∙ c.in-None.is))
