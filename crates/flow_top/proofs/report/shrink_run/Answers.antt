use Rattle.std.proofs.Common.{sym, subst}
use Rattle.std.proofs.lemmas.Result.{IfOk-weaker}
use Rattle.flow_worldfile.specs.Worlds.{IsInRange}
use Rattle.flow_top.proofs.Reporting.{ready_by, shrunk_by}
use Rattle.flow_top.proofs.report.shrink_run.Goals as goal

pub start-requires : goal.start-requires
start-requires g c = subst IsInRange (sym c.in_ok-first.ensures) c.requires.0.in_range

pub shrink-requires-clause-range : goal.shrink-requires-clause-range
shrink-requires-clause-range g c = c.requires.0.in_range

pub shrink-requires-clause-ready : goal.shrink-requires-clause-ready
shrink-requires-clause-ready g c = ready_by c.args.run _ _ c.requires.0 c.requires.1 c.in_ok-start.ensures.starts

pub returns : goal.returns
returns g c = IfOk-weaker c.shrink.result _ _ (λ x h. shrunk_by c.args.run _ _ _ x c.in_ok-start.ensures.starts.code.program c.requires.1 h) c.shrink.ensures.shrinks
