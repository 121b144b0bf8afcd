use Rattle.std.proofs.Common.{map, arith}
use Rattle.flow_tree.specs.DeclView.{decl_of}
use Rattle.flow_rules.specs.Known.{known}
use Rattle.flow_types.specs.MapView.{rows_of}
use Rattle.flow_types.proofs.Holders.{known_step, known_end}
use Rattle.flow_types.proofs.top_names.first_meanings.Goals as goal

pub loop-decl-preserved : goal.loop-decl-preserved
loop-decl-preserved c = (
  known_step c.args.decls.now c.loop-decl.decl-index c.decl-item.result (rows_of c.loop-decl.meanings) (rows_of c.put.new.meanings) (known (map decl_of c.args.decls.now))
      c.loop-decl-test.true c.decl-item.is c.in_ok-put.ensures.known c.loop-decl.invariant.0,
  omega (arith, c.in_ok-put.ensures.few, c.loop-decl.invariant.1),
)

pub returns-clause-known : goal.returns-clause-known
returns-clause-known c = known_end c.args.decls.now c.loop-decl.decl-index (rows_of c.loop-decl.meanings) (known (map decl_of c.args.decls.now)) c.loop-decl-test.false c.loop-decl.invariant.0

pub returns-clause-few : goal.returns-clause-few
returns-clause-few c = omega (arith, c.loop-decl.invariant.1, c.loop-decl.auto.decl-index-end)
