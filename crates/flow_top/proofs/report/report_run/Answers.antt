use Rattle.std.proofs.Common.{Err, ap, sym, ◌∙◌, subst}
use Rattle.flow_machine.specs.Cause.{fault_of}
use Rattle.flow_base.proofs.Growing.{grows_trans}
use Rattle.flow_top.specs.Told.{ReportedRun}
use Rattle.flow_top.proofs.Reporting.{came_to_end, broke_off, unflushed, rose_after, never_stuck}
use Rattle.flow_top.proofs.report.report_run.Goals as goal

pub run_fault-requires : goal.run_fault-requires
run_fault-requires g c = never_stuck c.args.run _ _ _ _ c.in-Err.fault c.requires c.in-Err.ensures.fails

pub returns-in-Err-clause-reported : goal.returns-in-Err-clause-reported
returns-in-Err-clause-reported g c =
    subst (ReportedRun c.args.run _ _ _) (sym c.fault_status.ensures)
    (broke_off c.args.run _ _ _ _ c.in-Err.fault c.run_fault.result c.requires c.in-Err.ensures.fails (g.met.S.Sink.handed_first c.write_trace.new.out)
    (λ e. c.write_trace.ensures.cause.failed (c.in-Err.is ∙ ap Err (sym c.run_fault.ensures ∙ ap fault_of e))))

pub returns-in-Err-flush-clause-reported : goal.returns-in-Err-flush-clause-reported
returns-in-Err-flush-clause-reported g c =
    subst (ReportedRun c.args.run _ _ _) (sym c.fault_status-in-Err-flush.ensures)
    (unflushed c.args.run _ _ _ _ _ c.in-Ok.ending c.in-Err-flush.fault c.requires c.in-Ok.ensures.traces c.flush.ensures.bytes (g.met.S.Sink.handed_first c.flush.new.self)
    (λ e. rose_after _ _ _ c.write_trace.ensures.cause.kept (c.flush.ensures.cause.failed (c.in-Err-flush.is ∙ ap Err e))))

pub returns-clause-reported : goal.returns-clause-reported
returns-clause-reported g c =
    subst (ReportedRun c.args.run _ _ _) (sym c.run_status.ensures)
    (came_to_end c.args.run _ _ _ _ _ c.in-Ok.ending c.requires c.in-Ok.ensures.traces c.flush.ensures.bytes c.in_default.ensures.all)

pub returns-in-Err-flush-clause-handed : goal.returns-in-Err-flush-clause-handed
returns-in-Err-flush-clause-handed g c = grows_trans _ _ _ c.write_trace.ensures.handed c.flush.ensures.handed

pub returns-clause-handed : goal.returns-clause-handed
returns-clause-handed g c = grows_trans _ _ _ c.write_trace.ensures.handed c.flush.ensures.handed
