use Rattle.std.proofs.Common.{rules, ◌<◌, ◌≤◌, length, arith}
use Rattle.std.specs.Prelude.{bytes_eq}
use Rattle.flow_monitor.proofs.Joining.{any_step, any_all}
use Rattle.flow_monitor.proofs.attach.has.Goals as goal

pub loop-k-preserved : goal.loop-k-preserved
loop-k-preserved g c =
    let lt : c.loop-k.k < length c.args.seats.now = omega arith in
    any_step _ _ _ c.index-seats-k.result _ _ _ lt (search rules) c.loop-k.invariant c.is_named.ensures c.either-found.ensures

pub returns : goal.returns
returns g c =
    let all : length c.args.seats.now ≤ c.loop-k.k = omega arith in
    any_all (λ l. bytes_eq l.name c.args.name.now) _ _ _ _ all c.loop-k.invariant
