use Rattle.std.proofs.Common.{◌∙◌, ap, arith, get_or, length}
use Rattle.flow_base.proofs.Growing.{grows_trans}
use Rattle.flow_show.proofs.Writing.{so_far, decl_written, decl_part}
use Rattle.flow_show.proofs.show.show_lines.Goals as goal

pub returns-in_default-clause-part : goal.returns-in_default-clause-part
returns-in_default-clause-part g c = so_far _ _ c.args.program.now.decls.items c.loop-decl.decl-index c.loop-decl.invariant.written

pub returns-in_err-write_lines-clause-part : goal.returns-in_err-write_lines-clause-part
returns-in_err-write_lines-clause-part g c =
    decl_part _ _ _ c.args.program.now.decls.items c.loop-decl.decl-index c.decl-item.result _ (omega (arith, c.loop-decl-test.true, ap length c.deref-decl-items.ensures.value))
    (c.decl-item.is ∙ ap (λ l. get_or l c.loop-decl.decl-index c.decl-item.result) c.deref-decl-items.ensures.value)
    (c.deref.ensures.value ∙ c.in-Ok.ensures) c.loop-decl.invariant.written c.write_lines.ensures.part

pub loop-decl-preserved : goal.loop-decl-preserved
loop-decl-preserved g c = record {
  written = decl_written _ _ _ c.args.program.now.decls.items c.loop-decl.decl-index c.decl-item.result _ (omega (arith, c.loop-decl-test.true, ap length c.deref-decl-items.ensures.value))
      (c.decl-item.is ∙ ap (λ l. get_or l c.loop-decl.decl-index c.decl-item.result) c.deref-decl-items.ensures.value)
      (c.deref.ensures.value ∙ c.in-Ok.ensures) c.loop-decl.invariant.written c.in_ok-write_lines.ensures.whole;
  handed = grows_trans _ _ _ c.loop-decl.invariant.handed c.write_lines.ensures.handed;
  kept = omega (arith, c.loop-decl.invariant.kept, c.write_lines.ensures.cause.kept);
}
