use Rattle.std.proofs.Common.{subst}
use Rattle.flow_tree.specs.View.{expr_of}
use Rattle.flow_exprs.specs.Answer.{ReadsExpr, Refuses}
use Rattle.flow_exprs.proofs.Outcomes.{ended_reads}
use Rattle.flow_exprs.proofs.ExprSteps.{top_ends, refusal_answer}
use Rattle.flow_exprs.proofs.expr.parse_expr.Goals as goal

pub returns-in-Ok : goal.returns-in-Ok
returns-in-Ok c =
    let t = expr_of c.in-Ok.read.expr in
    let r = subst (λ xs. ReadsExpr xs c.args.from 0 c.args.depth 0 t c.in-Ok.read.high c.in-Ok.read.to) c.deref.ensures.value c.in-Ok.ensures in
    ended_reads c.args.tokens.now c.args.from c.args.depth t c.in-Ok.read.to (top_ends c.args.tokens.now.spots.items c.args.from c.args.depth t c.in-Ok.read.high c.in-Ok.read.to r)

pub returns-in-Err : goal.returns-in-Err
returns-in-Err c =
    let r = subst (λ xs. Refuses xs c.args.from 0 c.args.depth c.in-Err.stop) c.deref.ensures.value c.in-Err.ensures in
    refusal_answer c.args.tokens.now c.args.from c.args.depth c.in-Err.stop c.refusal.result r c.refusal.ensures
