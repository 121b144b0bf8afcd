use Rattle.flow_tree.specs.DeclView.{program_of}
use Rattle.flow_meaning.specs.Source.{names_of}
use Rattle.flow_lower.proofs.Collecting.{classes_more}
use Rattle.flow_lower.proofs.compiling.classes_of.Goals as goal

pub loop-decl-preserved : goal.loop-decl-preserved
loop-decl-preserved c =
    classes_more (names_of (program_of c.args.program.now)) _ _ c.args.decls.now c.loop-decl.decl-index c.decl-item.result _ c.loop-decl-test.true c.loop-decl.invariant c.decl-item.is
    c.in_ok-push_class.ensures
