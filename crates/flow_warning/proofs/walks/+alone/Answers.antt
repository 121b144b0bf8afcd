use Rattle.std.proofs.Common.{ap, ap₂, ◌∙◌, arith}
use Rattle.flow_tree.specs.StmtView.{body_of}
use Rattle.flow_warning.specs.Walks.{alone, in_turn, round}
use Rattle.flow_warning.proofs.EachKind.{alone_for}
use Rattle.flow_warning.proofs.Joins.{alone_next}
use Rattle.flow_warning.proofs.walks.+alone.Goals as goal

pub alone_in-returns-in-For : goal.alone_in-returns-in-For
alone_in-returns-in-For t c =
    alone_for c.args.name.now c.args.stmt.now c.in-For.init c.in-For.test c.in-For.step c.in-For.body c.in_turn.result c.alone_part-init.result c.in_turn-round.result
    c.in-For.is c.alone_part-init.ensures
    (c.in_turn-round.ensures
    ∙ ap₂ in_turn (c.round.ensures ∙ ap round (c.alone-in-For.ensures ∙ ap (λ l. alone c.args.name.now (body_of l)) c.deref-in-For.ensures.value)) c.alone_part.ensures)
    (c.in_turn.ensures ∙ ap (in_turn c.alone_part-init.result) c.tested.ensures)

pub alone-loop-stmt-preserved : goal.alone-loop-stmt-preserved
alone-loop-stmt-preserved t c =
    alone_next c.args.name.now c.args.stmts.now c.loop-stmt.stmt-index c.stmt-item.result c.loop-stmt.walks c.alone_in.result c.in_turn-walks.result _
    (omega (arith, c.loop-stmt-test.true)) c.stmt-item.is c.in_turn-walks.ensures c.alone_in.ensures c.loop-stmt.invariant
