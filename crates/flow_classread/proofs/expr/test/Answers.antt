use Rattle.std.proofs.lemmas.Result.{err_from_is_err_and}
use Rattle.flow_tree.specs.declared.limits.TheConstants.{OF_CLASS_TEXT}
use Rattle.flow_parse.proofs.Leaves.{done, fails, nothing}
use Rattle.flow_classread.proofs.Combine.{behind_fails, behind_reads, closed_fails, closed_reads, expr_then}
use Rattle.flow_tree.specs.declared.token.Token.TheVariants as token
use Rattle.flow_tree.specs.declared.token.Sign.TheVariants as sign
use Rattle.flow_parse.specs.Reading.{Any}
use Rattle.flow_parse.specs.Follow.{ExprEnds}
use Rattle.flow_classread.specs.Parts.{Test}
use Rattle.flow_classread.proofs.Links.{some_round}
use Rattle.flow_classread.proofs.expr.test.Goals as goal

pub returns-in_err-at-clause-reads : goal.returns-in_err-at-clause-reads
returns-in_err-at-clause-reads c =
    let t = c.args.tokens.now in
    let l = nothing OF_CLASS_TEXT t.spots.items Test Any c.args.at c.requires.within in
    let p = err_from_is_err_and c.from_residual.result c.from_residual.ensures.1 in
    rw (p.1, p.2) (behind_fails t (token.Sign sign.OpenRound) some_round l _ (c.in_err-at.ensures.reads OF_CLASS_TEXT))

pub returns-in_err-value-clause-reads : goal.returns-in_err-value-clause-reads
returns-in_err-value-clause-reads c =
    let t = c.args.tokens.now in
    let l = behind_reads t (token.Sign sign.OpenRound) some_round (nothing OF_CLASS_TEXT t.spots.items Test Any c.args.at c.requires.within) (c.in_ok-at.ensures.reads OF_CLASS_TEXT) in
    let p = err_from_is_err_and c.from_residual-in_err-value.result c.from_residual-in_err-value.ensures.1 in
    rw (p.1, p.2) (closed_fails t (token.Sign sign.CloseRound) ExprEnds (expr_then sign.CloseRound tt) l _ c.in_err-value.ensures.reads)

pub returns-in_err-to-clause-reads : goal.returns-in_err-to-clause-reads
returns-in_err-to-clause-reads c =
    let t = c.args.tokens.now in
    let l = closed_reads t (token.Sign sign.CloseRound) ExprEnds (expr_then sign.CloseRound tt)
    (behind_reads t (token.Sign sign.OpenRound) some_round (nothing OF_CLASS_TEXT t.spots.items Test Any c.args.at c.requires.within) (c.in_ok-at.ensures.reads OF_CLASS_TEXT))
    c.in_ok-value.ensures.reads in
    let p = err_from_is_err_and c.from_residual-in_err-to.result c.from_residual-in_err-to.ensures.1 in
    rw (p.1, p.2) (fails OF_CLASS_TEXT t l _ (c.in_err-to.ensures.reads OF_CLASS_TEXT))

pub returns-clause-reads : goal.returns-clause-reads
returns-clause-reads c =
    let t = c.args.tokens.now in
    let l = closed_reads t (token.Sign sign.CloseRound) ExprEnds (expr_then sign.CloseRound tt)
    (behind_reads t (token.Sign sign.OpenRound) some_round (nothing OF_CLASS_TEXT t.spots.items Test Any c.args.at c.requires.within) (c.in_ok-at.ensures.reads OF_CLASS_TEXT))
    c.in_ok-value.ensures.reads in
    done OF_CLASS_TEXT t.spots.items l (c.in_ok-to.ensures.reads OF_CLASS_TEXT)
