use Rattle.std.proofs.Common.{◌∙◌, ap, arith, get_or, length}
use Rattle.flow_show.proofs.Writing.{decl_shown}
use Rattle.flow_show.proofs.show.show.Goals as goal

pub loop-decl-preserved : goal.loop-decl-preserved
loop-decl-preserved c =
    decl_shown c.args.program.now.decls.items c.loop-decl.decl-index c.decl-item.result _ _ (omega (arith, c.loop-decl-test.true, ap length c.deref-decl-items.ensures.value))
    (c.decl-item.is ∙ ap (λ l. get_or l c.loop-decl.decl-index c.decl-item.result) c.deref-decl-items.ensures.value) c.loop-decl.invariant c.in_ok-put_decl.ensures
