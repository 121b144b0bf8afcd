use Rattle.flow_validate.proofs.Taken.{taken_step}
use Rattle.flow_validate.proofs.heads.take_names.Goals as goal

pub loop-decl-preserved : goal.loop-decl-preserved
loop-decl-preserved c =
    taken_step c.args.decls.now c.loop-decl.decl-index c.decl-item.result c.loop-decl.taken.keys c.insert-in-loop-decl.new.self.keys c.name_of.result
    c.loop-decl-test.true c.decl-item.is c.in_ok-insert-2.ensures.keys c.name_of.ensures c.loop-decl.invariant
