use Rattle.std.proofs.Common.{Err, ap, sym, subst, refl, ◌∙◌}
use Rattle.flow_base.proofs.Growing.{grows_same}
use Rattle.flow_top.specs.Told.{ReportedShrink, GoesOut, GoesOutInPart, shrunk, shrink_no_memory}
use Rattle.flow_top.proofs.Reporting.{shrunk_in_part}
use Rattle.flow_top.proofs.report.report_shrink.Goals as goal

pub returns-in_default-clause-reported : goal.returns-in_default-clause-reported
returns-in_default-clause-reported g c = shrink_no_memory refl

pub returns-in_default-shrunk_text-clause-reported : goal.returns-in_default-shrunk_text-clause-reported
returns-in_default-shrunk_text-clause-reported g c = shrink_no_memory refl

pub returns-in_default-shrunk_text-clause-handed : goal.returns-in_default-shrunk_text-clause-handed
returns-in_default-shrunk_text-clause-handed g c = grows_same _

pub returns-in-Ok-write_text : goal.returns-in-Ok-write_text
returns-in-Ok-write_text g c = record {
  reported = subst (ReportedShrink c.args.run _ _ _) (sym c.shrunk_status.ensures)
      (shrunk c.in-Ok.shrunk c.in-Ok.ensures (subst (GoesOut _ _) (c.deref.ensures.value ∙ c.in-Ok-shrunk_text.ensures) c.in-Ok-write_text.ensures.whole));
  handed = c.write_text.ensures.handed;
}

pub returns-clause-reported : goal.returns-clause-reported
returns-clause-reported g c =
    subst (ReportedShrink c.args.run _ _ _) (sym c.fault_status.ensures)
    (shrunk_in_part c.args.run _ c.in-Ok.shrunk _ _ c.in-Err.fault c.in-Ok.ensures
    (subst (GoesOutInPart _ _) (c.deref.ensures.value ∙ c.in-Ok-shrunk_text.ensures) c.in-Err.ensures.part)
    (λ e. c.write_text.ensures.cause.failed (c.in-Err.is ∙ ap Err e)))
