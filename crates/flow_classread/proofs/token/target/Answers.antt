use Rattle.std.proofs.lemmas.Result.{err_from_is_err_and}
use Rattle.flow_tree.specs.declared.limits.TheConstants.{OF_CLASS_TEXT}
use Rattle.flow_parse.proofs.Leaves.{done, fails, nothing}
use Rattle.flow_classread.proofs.Combine.{any_token, closed_fails, closed_reads}
use Rattle.flow_tree.specs.declared.token.Token.TheVariants as token
use Rattle.flow_tree.specs.declared.token.Sign.TheVariants as sign
use Rattle.flow_parse.specs.Reading.{Any}
use Rattle.flow_classread.specs.Parts.{Target}
use Rattle.flow_classread.proofs.token.target.Goals as goal

pub returns-in_err-n-clause-reads : goal.returns-in_err-n-clause-reads
returns-in_err-n-clause-reads c =
    let t = c.args.tokens.now in
    let l = nothing OF_CLASS_TEXT t.spots.items Target Any c.args.at c.requires.within in
    let p = err_from_is_err_and c.from_residual.result c.from_residual.ensures.1 in
    rw (p.1, p.2) (closed_fails t (token.Sign sign.Semicolon) Any (any_token (token.Sign sign.Semicolon)) l _ c.in_err-n.ensures.reads)

pub returns-in_err-to-clause-reads : goal.returns-in_err-to-clause-reads
returns-in_err-to-clause-reads c =
    let t = c.args.tokens.now in
    let l = closed_reads t (token.Sign sign.Semicolon) Any (any_token (token.Sign sign.Semicolon)) (nothing OF_CLASS_TEXT t.spots.items Target Any c.args.at c.requires.within)
    c.in_ok-n.ensures.reads in
    let p = err_from_is_err_and c.from_residual-in_err-to.result c.from_residual-in_err-to.ensures.1 in
    rw (p.1, p.2) (fails OF_CLASS_TEXT t l _ (c.in_err-to.ensures.reads OF_CLASS_TEXT))

pub returns-clause-reads : goal.returns-clause-reads
returns-clause-reads c =
    let t = c.args.tokens.now in
    let l = closed_reads t (token.Sign sign.Semicolon) Any (any_token (token.Sign sign.Semicolon)) (nothing OF_CLASS_TEXT t.spots.items Target Any c.args.at c.requires.within)
    c.in_ok-n.ensures.reads in
    done OF_CLASS_TEXT t.spots.items l (c.in_ok-to.ensures.reads OF_CLASS_TEXT)
