use Rattle.flow_world.specs.Around.{no_line}
use Rattle.flow_world.proofs.around.AroundHost.unlisten.Goals as goal

pub returns-clause-unlistens : goal.returns-clause-unlistens
returns-clause-unlistens g c =
    (no_line, λ ps w h. record { outside = h.outside; active = h.active; ports = c.unlisten.ensures ps h.ports })
