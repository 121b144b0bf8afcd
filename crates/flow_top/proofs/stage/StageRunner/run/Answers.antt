use Rattle.std.proofs.Common.{ap, ◌∙◌}
use Rattle.std.proofs.lemmas.Result.{IfOk-weaker}
use Rattle.flow_code.specs.declared.program.Code.{Code}
use Rattle.flow_world.specs.Worlds.{world_seen}
use Rattle.flow_top.proofs.Staging.{begun_again}
use Rattle.flow_top.proofs.stage.StageRunner.run.Goals as goal

pub returns-clause-stopped : goal.returns-clause-stopped
returns-clause-stopped g c =
    IfOk-weaker c.hear_run.result _ _
    (λ r h. begun_again c.args.self.now.meant (world_seen c.args.self.now.world).code c.in_ok-file.file _ (world_seen c.start_again.new.self) _ r.0 c.start_again.ensures.code
    c.in_ok-file.ensures c.requires.ready c.requires.range c.in_ok-start_again.ensures.starts h)
    c.hear_run.ensures.stopped

pub returns-clause-kept : goal.returns-clause-kept
returns-clause-kept g c =
    IfOk-weaker c.hear_run.result _ _ (λ r h. ap (λ (k : Code). (c.args.self.now.meant, k.program)) (h ∙ c.start_again.ensures.code)) c.hear_run.ensures.code
