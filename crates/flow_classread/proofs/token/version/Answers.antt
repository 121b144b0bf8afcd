use Rattle.std.proofs.Common.{refl}
use Rattle.flow_classprint.specs.declared.version.Version.TheVariants.{One, Two}
use Rattle.flow_parse.proofs.Looking.{not_true}
use Rattle.flow_classread.proofs.TextReads.{version_reads, version_fails}
use Rattle.flow_classread.proofs.token.version.Goals as goal

pub returns-then-is_number-clause-reads : goal.returns-then-is_number-clause-reads
returns-then-is_number-clause-reads c = version_reads c.args.tokens.now c.args.at One (c.if-is_number.ensures.number.0 refl)

pub returns-then-is_number-2-clause-reads : goal.returns-then-is_number-2-clause-reads
returns-then-is_number-2-clause-reads c = version_reads c.args.tokens.now c.args.at Two (c.if-is_number-2.ensures.number.0 refl)

pub returns-clause-reads : goal.returns-clause-reads
returns-clause-reads c =
    rw c.refused.ensures (version_fails c.args.tokens.now c.args.at (λ e. not_true (c.if-is_number.ensures.number.1 e)) (λ e. not_true (c.if-is_number-2.ensures.number.1 e)))
