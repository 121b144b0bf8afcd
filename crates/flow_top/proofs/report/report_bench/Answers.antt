use Rattle.std.proofs.Common.{Err, ap, sym, subst, refl, ◌∙◌}
use Rattle.flow_base.proofs.Growing.{grows_same}
use Rattle.flow_top.specs.Told.{ReportedBench, GoesOut, GoesOutInPart, sum_no_memory}
use Rattle.flow_top.proofs.Reporting.{sum_out, sum_in_part}
use Rattle.flow_top.proofs.report.report_bench.Goals as goal

pub returns-in_default-clause-reported : goal.returns-in_default-clause-reported
returns-in_default-clause-reported g c = sum_no_memory refl

pub returns-in_default-summary-clause-reported : goal.returns-in_default-summary-clause-reported
returns-in_default-summary-clause-reported g c = sum_no_memory refl

pub returns-in_default-summary-clause-handed : goal.returns-in_default-summary-clause-handed
returns-in_default-summary-clause-handed g c = grows_same _

pub returns-in-Ok-write_text : goal.returns-in-Ok-write_text
returns-in-Ok-write_text g c = record {
  reported = subst (ReportedBench c.args.bench _ _) (sym c.ending_status.ensures)
      (sum_out c.args.bench c.in-Ok.counts c.in-Ok.ending c.in-Ok-summary.text.items _ _ c.in-Ok.ensures c.in-Ok-summary.ensures
      (subst (GoesOut _ _) c.deref.ensures.value c.in-Ok-write_text.ensures.whole));
  handed = c.write_text.ensures.handed;
}

pub returns-clause-reported : goal.returns-clause-reported
returns-clause-reported g c =
    subst (ReportedBench c.args.bench _ _) (sym c.fault_status.ensures)
    (sum_in_part c.args.bench c.in-Ok.counts c.in-Ok.ending c.in-Ok-summary.text.items _ _ c.in-Err.fault c.in-Ok.ensures c.in-Ok-summary.ensures
    (subst (GoesOutInPart _ _) c.deref.ensures.value c.in-Err.ensures.part) (λ e. c.write_text.ensures.cause.failed (c.in-Err.is ∙ ap Err e)))
