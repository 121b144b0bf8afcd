use Rattle.std.proofs.lemmas.Result.{err_from_is_err_and}
use Rattle.flow_tree.specs.declared.limits.TheConstants.{OF_CLASS_TEXT}
use Rattle.flow_parse.proofs.Leaves.{done, fails, first_fails, then_reads, nothing}
use Rattle.flow_classread.proofs.Combine.{any_token, behind_fails, behind_reads, closed_fails, closed_reads}
use Rattle.flow_tree.specs.declared.token.Token.TheVariants as token
use Rattle.flow_tree.specs.declared.token.Sign.TheVariants as sign
use Rattle.flow_parse.specs.Reading.{Any}
use Rattle.flow_classread.proofs.Combine.{as_left}
use Rattle.flow_classread.specs.Parts.{ActInstrPart, act_tree, Act}
use Rattle.flow_classread.proofs.Links.{callee_link, some_closed_args}
use Rattle.flow_classread.proofs.instr.act.Goals as goal

pub returns-in_err-path-clause-reads : goal.returns-in_err-path-clause-reads
returns-in_err-path-clause-reads c =
    let t = c.args.tokens.now in
    let l = as_left act_tree Act t (nothing OF_CLASS_TEXT t.spots.items ActInstrPart Any c.args.at c.requires.within) in
    let p = err_from_is_err_and c.from_residual.result c.from_residual.ensures.1 in
    rw (p.1, p.2) (first_fails OF_CLASS_TEXT t callee_link l _ c.in_err-path.ensures.reads)

pub returns-in_err-at-clause-reads : goal.returns-in_err-at-clause-reads
returns-in_err-at-clause-reads c =
    let t = c.args.tokens.now in
    let l = then_reads OF_CLASS_TEXT t.spots.items callee_link (as_left act_tree Act t (nothing OF_CLASS_TEXT t.spots.items ActInstrPart Any c.args.at c.requires.within)) c.in_ok-path.ensures.reads in
    let p = err_from_is_err_and c.from_residual-in_err-at.result c.from_residual-in_err-at.ensures.1 in
    rw (p.1, p.2) (behind_fails t (token.Sign sign.OpenRound) some_closed_args l _ (c.in_err-at.ensures.reads OF_CLASS_TEXT))

pub returns-in_err-args-clause-reads : goal.returns-in_err-args-clause-reads
returns-in_err-args-clause-reads c =
    let t = c.args.tokens.now in
    let l = behind_reads t (token.Sign sign.OpenRound) some_closed_args
    (then_reads OF_CLASS_TEXT t.spots.items callee_link (as_left act_tree Act t (nothing OF_CLASS_TEXT t.spots.items ActInstrPart Any c.args.at c.requires.within)) c.in_ok-path.ensures.reads)
    (c.in_ok-at.ensures.reads OF_CLASS_TEXT) in
    let p = err_from_is_err_and c.from_residual-in_err-args.result c.from_residual-in_err-args.ensures.1 in
    rw (p.1, p.2) (closed_fails t (token.Sign sign.Semicolon) Any (any_token (token.Sign sign.Semicolon)) l _ c.in_err-args.ensures.reads)

pub returns-in_err-to-clause-reads : goal.returns-in_err-to-clause-reads
returns-in_err-to-clause-reads c =
    let t = c.args.tokens.now in
    let l = closed_reads t (token.Sign sign.Semicolon) Any (any_token (token.Sign sign.Semicolon))
    (behind_reads t (token.Sign sign.OpenRound) some_closed_args (then_reads OF_CLASS_TEXT t.spots.items callee_link
    (as_left act_tree Act t (nothing OF_CLASS_TEXT t.spots.items ActInstrPart Any c.args.at c.requires.within)) c.in_ok-path.ensures.reads) (c.in_ok-at.ensures.reads OF_CLASS_TEXT))
    c.in_ok-args.ensures.reads in
    let p = err_from_is_err_and c.from_residual-in_err-to.result c.from_residual-in_err-to.ensures.1 in
    rw (p.1, p.2) (fails OF_CLASS_TEXT t l _ (c.in_err-to.ensures.reads OF_CLASS_TEXT))

pub returns-clause-reads : goal.returns-clause-reads
returns-clause-reads c =
    let t = c.args.tokens.now in
    let l = closed_reads t (token.Sign sign.Semicolon) Any (any_token (token.Sign sign.Semicolon))
    (behind_reads t (token.Sign sign.OpenRound) some_closed_args (then_reads OF_CLASS_TEXT t.spots.items callee_link
    (as_left act_tree Act t (nothing OF_CLASS_TEXT t.spots.items ActInstrPart Any c.args.at c.requires.within)) c.in_ok-path.ensures.reads) (c.in_ok-at.ensures.reads OF_CLASS_TEXT))
    c.in_ok-args.ensures.reads in
    done OF_CLASS_TEXT t.spots.items l (c.in_ok-to.ensures.reads OF_CLASS_TEXT)
