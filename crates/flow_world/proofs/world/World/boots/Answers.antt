use Rattle.std.proofs.Common.{rules}
use Rattle.std.specs.Prelude.{Ok}
use Rattle.flow_trace.specs.declared.line.Line.TheVariants as line
use Rattle.flow_world.specs.declared.action.EventAction.TheVariants.{Boots}
use Rattle.flow_world.specs.BreakingEvents.{RunsBreaks}
use Rattle.flow_world.specs.Worlds.{world_seen}
use Rattle.flow_world.proofs.Happenings.{then_broke}
use Rattle.flow_world.proofs.world.World.boots.Goals as goal

pub returns-clause-breaks : goal.returns-clause-breaks
returns-clause-breaks g c =
    let puts = g.L.LineOut.puts in
    let w = world_seen c.args.self.now in
    let told : puts c.args.out.now (line.Boot w.ran w.outside.time c.args.p) (Ok tt) c.put.new.out = search rules in
    then_broke puts c.runs.result _ (λ f d. RunsBreaks puts c.args.p Boots w d f c.runs.new.out) _ _ _ told c.runs.ensures.breaks
