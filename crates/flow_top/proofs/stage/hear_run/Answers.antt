use Rattle.std.proofs.Common.{refl}
use Rattle.flow_top.specs.Staging.{standing}
use Rattle.flow_top.proofs.Staging.{settled, decides_by}
use Rattle.flow_top.proofs.stage.hear_run.Goals as goal

pub returns-in-Ok-clause-stopped : goal.returns-in-Ok-clause-stopped
returns-in-Ok-clause-stopped g c = λ meant file ready range starts.
    decides_by _ _ _ (c.is_stopped.ensures _)
    (settled (λ m. standing m.progress ((goal.Monitor-dyn g (m.monitor.vtable, m.monitor.value)).ear m.monitor.value)) _ meant file _ _ ready range starts refl _
    c.in-Ok.ensures.heard)
