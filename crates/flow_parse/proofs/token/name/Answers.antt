use Rattle.std.proofs.Common.{refl, sym, ◌∙◌}
use Rattle.flow_tree.specs.declared.limits.TheConstants.{OF_PROGRAMS}
use Rattle.flow_parse.proofs.Leaves.{name_reads, name_fails}
use Rattle.flow_parse.proofs.token.name.Goals as goal

pub returns-in_default-clause-reads : goal.returns-in_default-clause-reads
returns-in_default-clause-reads c = λ limits. rw c.refused.ensures (name_fails limits c.args.tokens.now c.args.at (sym c.in_ok-name.ensures.is ∙ c.in_default.is))

pub returns-clause-reads : goal.returns-clause-reads
returns-clause-reads c = λ limits. name_reads limits c.args.tokens.now c.args.at c.in-Some.name (sym c.in_ok-name.ensures.is ∙ c.in-Some.is)

pub returns-clause-moves : goal.returns-clause-moves
returns-clause-moves c = (refl, (name_reads OF_PROGRAMS c.args.tokens.now c.args.at c.in-Some.name (sym c.in_ok-name.ensures.is ∙ c.in-Some.is)).within)
