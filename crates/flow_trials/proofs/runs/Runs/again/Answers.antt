use Rattle.std.proofs.Common.{ap, ◌∙◌, sym, subst}
use Rattle.std.proofs.lemmas.Result.{IfOk-weaker}
use Rattle.flow_code.specs.declared.program.Code.{Code}
use Rattle.flow_monitor.specs.Attaching.{attached}
use Rattle.flow_world.specs.Worlds.{world_seen}
use Rattle.flow_trials.specs.Trying.{on_trial}
use Rattle.flow_trials.proofs.Trying.{tried_again}
use Rattle.flow_trials.proofs.runs.Runs.again.Goals as goal

pub returns-clause-tries : goal.returns-clause-tries
returns-clause-tries g c =
    IfOk-weaker c.run_heard.result _ _
    (λ r h. tried_again c.args.self.now.program.value (world_seen c.args.self.now.world).code (attached c.args.self.now.wanted.now (g.M.Monitors.handed c.args.self.now.monitors.now))
    c.args.self.now.cover.now c.in_ok-file.file _ (world_seen c.start_again.new.self) c.args.timed r.0 r.1.items
    c.start_again.ensures.code c.in_ok-file.ensures c.requires.ready c.requires.range c.in_ok-start_again.ensures.starts h)
    c.run_heard.ensures.tries

pub returns-clause-drew : goal.returns-clause-drew
returns-clause-drew g c =
    IfOk-weaker c.run_heard.result _ _
    (λ r h. (c.in_ok-file.file, c.in_ok-file.ensures, h _ c.in_ok-file.file (c.in_ok-start_again.ensures.starts _ c.requires.ready.is_code)))
    c.run_heard.ensures.drew

pub returns-clause-kept : goal.returns-clause-kept
returns-clause-kept g c =
    IfOk-weaker c.run_heard.result _ _
    (λ r h. ap (λ (k : Code). on_trial c.args.self.now.program.value k.program (attached c.args.self.now.wanted.now (g.M.Monitors.handed c.args.self.now.monitors.now)) c.args.self.now.cover.now)
    (h ∙ c.start_again.ensures.code)) c.run_heard.ensures.code
