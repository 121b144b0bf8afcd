use Rattle.std.proofs.Common.{◌+◌}
use Rattle.flow_draw.specs.Words.{word_at}
use Rattle.flow_storm.proofs.Drawing.{none_taken, more_taken, word_later, strike_is}
use Rattle.flow_storm.proofs.strike.Strike.drawn.Goals as goal

pub returns-clause-strike : goal.returns-clause-strike
returns-clause-strike c =
    let d = c.args.draws.now in
    let at0 = none_taken d in
    let at1 = more_taken d _ _ 0 at0 c.next-kind.ensures.taken in
    let at2 = more_taken d _ _ 1 at1 c.next.ensures.taken in
    let at3 = more_taken d _ _ 2 at2 c.next-2.ensures.taken in
    let at4 = more_taken d _ _ 3 at3 c.next-3.ensures.taken in
    strike_is (λ k. word_at d.seed d.listed (d.used + k)) c.args.processes c.args.horizon _ _ _ _ _ _ _ _ _ _
    (word_later d _ _ 0 at0 c.next-kind.ensures.word) (word_later d _ _ 1 at1 c.next.ensures.word)
    (word_later d _ _ 2 at2 c.next-2.ensures.word) (word_later d _ _ 3 at3 c.next-3.ensures.word)
    (word_later d _ _ 4 at4 c.next-4.ensures.word) c.from.ensures c.from-2.ensures c.from-3.ensures c.fault_of.ensures
    c.other_process-other.ensures

pub returns-clause-taken : goal.returns-clause-taken
returns-clause-taken c =
    let d = c.args.draws.now in
    let at1 = more_taken d _ _ 0 (none_taken d) c.next-kind.ensures.taken in
    let at2 = more_taken d _ _ 1 at1 c.next.ensures.taken in
    let at3 = more_taken d _ _ 2 at2 c.next-2.ensures.taken in
    let at4 = more_taken d _ _ 3 at3 c.next-3.ensures.taken in
    more_taken d _ _ 4 at4 c.next-4.ensures.taken
