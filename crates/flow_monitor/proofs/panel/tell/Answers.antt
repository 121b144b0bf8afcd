use Rattle.std.proofs.Common.{◌<◌, ◌≤◌, length, arith, ap₂}
use Rattle.flow_monitor.proofs.Keeping.{one_told, all_told}
use Rattle.flow_monitor.proofs.panel.tell.Goals as goal

pub loop-k-preserved : goal.loop-k-preserved
loop-k-preserved g c =
    let lt : c.loop-k.k < length c.loop-k.seats = omega arith in
    one_told _ _ _ _ _ _ _ _ _ _ lt c.loop-k.invariant (ap₂ (λ n e. record { name = n; ear = e }) c.hear.ensures.name c.hear.ensures.kept) c.hear.ensures.stop c.or_here-first.ensures

pub returns-clause-ears : goal.returns-clause-ears
returns-clause-ears g c =
    let all : length c.loop-k.seats ≤ c.loop-k.k = omega arith in
    all_told _ _ _ _ _ _ all c.loop-k.invariant
