use Rattle.std.proofs.Common.{Err, ap, sym, subst, refl, ◌∙◌}
use Rattle.flow_world.specs.Worlds.{world_seen}
use Rattle.flow_top.specs.Told.{ReportedDebug, state_no_memory}
use Rattle.flow_top.proofs.Debugging.{state_out, state_in_part}
use Rattle.flow_top.proofs.report.report_debug.Goals as goal

pub returns-in_default-clause-reported : goal.returns-in_default-clause-reported
returns-in_default-clause-reported g c = state_no_memory refl

pub returns-in-Ok-write_state-clause-reported : goal.returns-in-Ok-write_state-clause-reported
returns-in-Ok-write_state-clause-reported g c =
    let x = c.in-Ok.ensures in
    subst (ReportedDebug c.args.debug _ _) (sym c.state_status.ensures)
    (state_out c.args.debug x.0 (world_seen c.in-Ok.world) c.in-Ok.ending c.in-Ok.waits _ _ c.requires x.1 x.2 x.3 c.in-Ok-write_state.ensures.whole)

pub returns-clause-reported : goal.returns-clause-reported
returns-clause-reported g c =
    let x = c.in-Ok.ensures in
    subst (ReportedDebug c.args.debug _ _) (sym c.fault_status.ensures)
    (state_in_part c.args.debug x.0 (world_seen c.in-Ok.world) c.in-Ok.ending c.in-Ok.waits _ _ c.in-Err.fault c.requires x.1 x.2 x.3 c.in-Err.ensures.part
    (λ e. c.write_state.ensures.cause.failed (c.in-Err.is ∙ ap Err e)))
