use Rattle.std.proofs.Common.{rules}
use Rattle.flow_worldfile.specs.Worlds.{seen}
use Rattle.flow_monitor.specs.Attaching.{attached}
use Rattle.flow_world.specs.Worlds.{world_seen}
use Rattle.flow_trials.specs.Trying.{on_trial, heard_by}
use Rattle.flow_trials.proofs.Trying.{tried}
use Rattle.flow_trials.proofs.runs.run_heard.Goals as goal

pub returns-clause-tries : goal.returns-clause-tries
returns-clause-tries g c = λ program file ready range starts.
    tried (on_trial program (world_seen c.args.world.now).code.program (attached c.args.wanted.now (g.M.Monitors.handed c.args.monitors.now)) c.args.cover.now)
    (seen file) c.args.timed _ _ (heard_by c.hear_run.new.hears) c.in_ok-ended.ended c.told.result.0 c.told.result.1.items
    (c.in_ok-ended.ensures.heard program file ready range starts) (search rules) c.in_ok-hears.ensures c.told.ensures.ended c.told.ensures.events c.told.ensures.shown c.told.ensures.times
