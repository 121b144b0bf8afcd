use Rattle.std.proofs.Common.{rules, leb-true, leb-false}
use Rattle.std.proofs.lemmas.List.Sorted.{IsPartitionPoint-from_clause, IsPartitionedBy-leb}
use Rattle.std.specs.Prelude.{nat_le}
use Rattle.flow_timers.proofs.moment.Moment.search_after.Goals as goal

pub returns-clause-place : goal.returns-clause-place
returns-clause-place g c =
    let n = c.args.number in
    let (low, high) =
    IsPartitionPoint-from_clause (λ e. nat_le e.number n) c.self.inside.events.items _ c.partition_point.ensures.partitioned
    (IsPartitionedBy-leb (λ e. e.number) c.self.inside.events.items n c.self.invariant) (λ a r q k. search rules) in
    rw (← c.self.view_is) ((λ k d from below. leb-true _ _ (low k d from below)), (λ k d from below. leb-false _ _ (high k d from below)))
