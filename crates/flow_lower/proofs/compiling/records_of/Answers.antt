use Rattle.flow_lower.proofs.Collecting.{records_more}
use Rattle.flow_lower.proofs.compiling.records_of.Goals as goal

pub loop-decl-preserved : goal.loop-decl-preserved
loop-decl-preserved c =
    records_more _ _ c.args.decls.now c.loop-decl.decl-index c.decl-item.result _ c.loop-decl-test.true c.loop-decl.invariant c.decl-item.is c.in_ok-push_record.ensures
