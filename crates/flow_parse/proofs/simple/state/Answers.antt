use Rattle.std.proofs.Common.{refl}
use Rattle.flow_parse.specs.Views.{counts_of}
use Rattle.flow_parse.proofs.Looking.{not_true}
use Rattle.flow_parse.proofs.Variables.{no_state_reads, free_state_reads, state_reads}
use Rattle.flow_parse.proofs.Openings.{state_fails}
use Rattle.flow_parse.proofs.simple.state.Goals as goal

pub returns-then-not-is_word-clause-reads : goal.returns-then-not-is_word-clause-reads
returns-then-not-is_word-clause-reads c = no_state_reads c.args.limits c.args.tokens.now c.args.at c.args.home (counts_of c.args.counts) c.requires.within
    (λ e. not_true (c.if-not-is_word.ensures.word.1 e))

pub returns-then-not-counts_state-clause-reads : goal.returns-then-not-counts_state-clause-reads
returns-then-not-counts_state-clause-reads c = free_state_reads c.args.limits c.args.tokens.now c.args.at c.args.home (counts_of c.args.counts)
    (λ e. not_true (c.if-not-counts_state.ensures.1 e)) (c.if-not-is_word.ensures.word.0 refl)

pub returns-then-counts-limits-clause-reads : goal.returns-then-counts-limits-clause-reads
returns-then-counts-limits-clause-reads c = rw (c.refused.ensures, c.if-not-counts_state.ensures.0 refl)
    (state_fails c.args.limits c.args.tokens.now c.args.at (counts_of c.args.counts) c.requires.within (c.if-not-is_word.ensures.word.0 refl) c.if-counts-limits.true)

pub returns-clause-reads : goal.returns-clause-reads
returns-clause-reads c = rw (c.if-not-counts_state.ensures.0 refl)
    (state_reads c.args.limits c.args.tokens.now c.args.at (counts_of c.args.counts) (c.if-not-is_word.ensures.word.0 refl) c.if-counts-limits.false)
