use Rattle.std.proofs.Common.{refl, arith}
use Rattle.flow_tree.specs.declared.limits.TheConstants.{OF_PROGRAMS}
use Rattle.flow_tree.specs.Grammar.{ExprRule}
use Rattle.flow_parse.specs.Openers.{ExprToken}
use Rattle.flow_parse.specs.Follow.{ExprEnds}
use Rattle.flow_parse.specs.Reading.{token_at}
use Rattle.flow_parse.proofs.Looking.{not_true}
use Rattle.flow_parse.proofs.Begins.{expr_starts, starts_looks}
use Rattle.flow_parse.proofs.Inhabitants.{some_expr}
use Rattle.flow_parse.proofs.Leaves.{none_fails}
use Rattle.flow_parse.proofs.TreeOpens.{expr_beyond}
use Rattle.flow_parse.proofs.Trees.{expr_answer, expr_moves}
use Rattle.flow_parse.proofs.token.expr.Goals as goal

pub returns-then-depth-le-DEPTH-clause-reads : goal.returns-then-depth-le-DEPTH-clause-reads
returns-then-depth-le-DEPTH-clause-reads c = λ limits. expr_answer limits c.args.tokens.now c.args.at c.args.depth c.requires.within c.parse_expr.result c.parse_expr.ensures

pub returns-then-depth-le-DEPTH-clause-moves : goal.returns-then-depth-le-DEPTH-clause-moves
returns-then-depth-le-DEPTH-clause-moves c = expr_moves OF_PROGRAMS c.args.tokens.now c.args.at c.args.depth c.requires.within c.parse_expr.result c.parse_expr.ensures

pub returns-then-begins_expr-clause-reads : goal.returns-then-begins_expr-clause-reads
returns-then-begins_expr-clause-reads c = λ limits. rw c.refused.ensures
    (expr_beyond limits c.args.tokens.now c.args.at c.args.depth (omega (arith, c.if-depth-le-DEPTH.false)) c.if-begins_expr.ensures.within (c.if-begins_expr.ensures.begins.0 refl))

pub returns-clause-reads : goal.returns-clause-reads
returns-clause-reads c = λ limits.
    let t = c.args.tokens.now in
    let d = c.args.depth in
    rw c.refused-2.ensures (none_fails limits (ExprRule 0 d) ExprEnds t c.args.at (some_expr d)
    (λ w z e r f l. not_true (c.if-begins_expr.ensures.begins.1 (starts_looks ExprToken w z (token_at t.spots.items c.args.at) (expr_starts r) l))))
