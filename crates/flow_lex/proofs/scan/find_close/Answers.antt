use Rattle.std.proofs.Common.{ap, sym, ◌∙◌, arith}
use Rattle.flow_tree.specs.Spelling.{begins_close}
use Rattle.flow_lex.proofs.Places.{close_step, close_here, close_none, close_within}
use Rattle.flow_lex.proofs.scan.find_close.Goals as goal

pub loop-at-preserved : goal.loop-at-preserved
loop-at-preserved c =
    close_step c.args.text.now c.loop-at.at c.loop-at-test.true
    (ap begins_close (sym c.after.ensures) ∙ sym c.if-is_close.ensures)
    c.loop-at.invariant

pub returns-then-is_close-clause-within : goal.returns-then-is_close-clause-within
returns-then-is_close-clause-within c =
    close_within c.args.text.now c.loop-at.at
    (close_here c.args.text.now c.loop-at.at c.loop-at-test.true
    (ap begins_close (sym c.after.ensures) ∙ sym c.if-is_close.ensures)
    c.loop-at.invariant)

pub returns-clause-first : goal.returns-clause-first
returns-clause-first c = close_none c.args.text.now c.loop-at.at (omega arith) c.loop-at.invariant
