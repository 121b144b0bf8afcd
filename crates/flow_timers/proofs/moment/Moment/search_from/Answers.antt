use Rattle.std.proofs.Common.{rules, ltb-true, ltb-false}
use Rattle.std.proofs.lemmas.List.Sorted.{IsPartitionPoint-from_clause, IsPartitionedBy-ltb}
use Rattle.std.specs.Prelude.{nat_lt}
use Rattle.flow_timers.proofs.moment.Moment.search_from.Goals as goal

pub returns-clause-place : goal.returns-clause-place
returns-clause-place g c =
    let n = c.args.number in
    let (low, high) =
    IsPartitionPoint-from_clause (λ e. nat_lt e.number n) c.self.inside.events.items _ c.partition_point.ensures.partitioned
    (IsPartitionedBy-ltb (λ e. e.number) c.self.inside.events.items n c.self.invariant) (λ a r q k. search rules) in
    rw (← c.self.view_is) ((λ k d from below. ltb-true _ _ (low k d from below)), (λ k d from below. ltb-false _ _ (high k d from below)))
