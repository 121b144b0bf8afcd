use Rattle.std.proofs.Common.{subst}
use Rattle.std.specs.Prelude.{Ok}
use Rattle.flow_world.specs.Worlds.{world_seen}
use Rattle.flow_trials.proofs.Trying.{traced}
use Rattle.flow_trials.proofs.hearing.put_lines.Goals as goal

pub returns-clause-traces : goal.returns-clause-traces
returns-clause-traces g c = λ classes file starts.
    traced g.L.LineOut.puts classes file (world_seen c.args.world.now) (world_seen c.put_events.new.world) c.args.out.now _ c.put_events.new.out _ (g.P.Audience.ears c.args.panel.now)
    (g.P.Audience.ears c.put_events.new.panel) c.in_ok-ending.ending c.in_ok-ended.ended starts c.in_ok-put.ensures.puts c.in_ok-ending.ensures.goes c.put_events.ensures.names
    c.in_ok-ended.ensures (subst (λ l. g.L.LineOut.puts c.put_events.new.out l (Ok tt) c.put-2.new.out) c.in_ok-line.ensures c.in_ok-put-2.ensures.puts)
