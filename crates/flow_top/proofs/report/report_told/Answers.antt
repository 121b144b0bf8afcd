use Rattle.std.proofs.Common.{Err, ap, sym, ◌∙◌, subst}
use Rattle.std.proofs.KnownBytes.{Appends-kept}
use Rattle.flow_base.proofs.Growing.{grows_trans}
use Rattle.flow_top.specs.Outcomes.{text_of}
use Rattle.flow_top.specs.Told.{ReportedTold, whole}
use Rattle.flow_top.proofs.Reporting.{told_fault, whole_part, rose_after}
use Rattle.flow_top.proofs.report.report_told.Goals as goal

pub returns-in-Err-clause-reported : goal.returns-in-Err-clause-reported
returns-in-Err-clause-reported g c =
    subst (ReportedTold c.args.outcome _ _) (sym c.fault_status.ensures)
    (told_fault c.args.outcome _ _ c.in-Err.fault c.in-Err.ensures.part (g.met.S.Sink.handed_first c.put.new.out)
    (λ e. c.put.ensures.cause.failed (c.in-Err.is ∙ ap Err e)))

pub returns-in-Err-flush-clause-reported : goal.returns-in-Err-flush-clause-reported
returns-in-Err-flush-clause-reported g c =
    let told = Appends-kept _ _ _ (text_of c.args.outcome) c.in_default.ensures.whole c.flush.ensures.bytes in
    subst (ReportedTold c.args.outcome _ _) (sym c.fault_status-in-Err-flush.ensures)
    (told_fault c.args.outcome _ _ c.in-Err-flush.fault (whole_part _ _ _ told) (g.met.S.Sink.handed_first c.flush.new.self)
    (λ e. rose_after _ _ _ c.put.ensures.cause.kept (c.flush.ensures.cause.failed (c.in-Err-flush.is ∙ ap Err e))))

pub returns-clause-reported : goal.returns-clause-reported
returns-clause-reported g c =
    let told = Appends-kept _ _ _ (text_of c.args.outcome) c.in_default.ensures.whole c.flush.ensures.bytes in
    subst (ReportedTold c.args.outcome _ _) (sym c.status-told.ensures) (whole (record { whole = told; all = c.in_default-flush.ensures.all }))

pub returns-in-Err-flush-clause-handed : goal.returns-in-Err-flush-clause-handed
returns-in-Err-flush-clause-handed g c = grows_trans _ _ _ c.put.ensures.handed c.flush.ensures.handed

pub returns-clause-handed : goal.returns-clause-handed
returns-clause-handed g c = grows_trans _ _ _ c.put.ensures.handed c.flush.ensures.handed
