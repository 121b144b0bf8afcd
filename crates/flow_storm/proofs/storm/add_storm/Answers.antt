use Rattle.std.proofs.Common.{◌≤◌, ◌+◌, ◌*◌, length, arith}
use Rattle.std.proofs.lemmas.List.{length-map}
use Rattle.flow_worldfile.specs.Worlds.{most_orders, seen, timed}
use Rattle.flow_storm.proofs.Adding.{strike_drawn, five_drawn, struck_more, struck_in_range}
use Rattle.flow_storm.proofs.storm.add_storm.Goals as goal

pub loop-fault-preserved : goal.loop-fault-preserved
loop-fault-preserved c =
    let i = c.loop-fault._fault in
    let first = seen c.args.world.now in
    let drawn = strike_drawn c.args.seed _ c.args.storm.horizon i c.loop-fault.draws _ c.loop-fault.invariant.draws c.drawn-strike.ensures.strike in
    record {
      struck = struck_more c.args.seed c.args.storm.horizon i first (seen c.loop-fault.world) _ c.drawn-strike.result
          c.loop-fault.invariant.struck c.in_ok-push_orders.ensures drawn;
      draws = five_drawn c.args.seed i c.loop-fault.draws _ c.loop-fault.invariant.draws c.drawn-strike.ensures.taken;
    }

pub returns-clause-range : goal.returns-clause-range
returns-clause-range c =
    let first = c.args.world.now in
    let room : length (seen first).script + 2 * c.args.storm.faults ≤ most_orders = omega (arith, c.requires.room, length-map first.script.items timed) in
    struck_in_range c.args.seed c.args.storm.faults c.args.storm.horizon (seen first) (seen c.loop-fault.world)
    c.requires.range c.ranges.seed.fits c.requires.horizon room c.loop-fault._fault (omega arith) c.loop-fault.invariant.struck
