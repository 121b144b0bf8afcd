use Rattle.std.proofs.lemmas.Result.{err_from_is_err_and}
use Rattle.flow_tree.specs.declared.limits.TheConstants.{OF_CLASS_TEXT}
use Rattle.flow_parse.proofs.Leaves.{done, fails, first_fails, then_reads, nothing}
use Rattle.flow_classread.proofs.Combine.{any_token, closed_fails, closed_reads}
use Rattle.flow_tree.specs.declared.token.Token.TheVariants as token
use Rattle.flow_tree.specs.declared.token.Sign.TheVariants as sign
use Rattle.flow_parse.specs.Reading.{Any}
use Rattle.flow_classread.specs.Parts.{BlockBody}
use Rattle.flow_classread.proofs.BlockForms.{body_link}
use Rattle.flow_classread.proofs.block.body.Goals as goal

pub returns-in_err-body-clause-reads : goal.returns-in_err-body-clause-reads
returns-in_err-body-clause-reads c =
    let t = c.args.tokens.now in
    let l = nothing OF_CLASS_TEXT t.spots.items (BlockBody c.args.version) Any c.args.at c.requires.within in
    let p = err_from_is_err_and c.from_residual.result c.from_residual.ensures.1 in
    rw (p.1, p.2) (first_fails OF_CLASS_TEXT t (body_link c.args.version) l _ c.in_err-body.ensures.reads)

pub returns-in_err-last-clause-reads : goal.returns-in_err-last-clause-reads
returns-in_err-last-clause-reads c =
    let t = c.args.tokens.now in
    let l = then_reads OF_CLASS_TEXT t.spots.items (body_link c.args.version) (nothing OF_CLASS_TEXT t.spots.items (BlockBody c.args.version) Any c.args.at c.requires.within) c.in_ok-body.ensures.reads in
    let p = err_from_is_err_and c.from_residual-in_err-last.result c.from_residual-in_err-last.ensures.1 in
    rw (p.1, p.2) (closed_fails t (token.Sign sign.CloseCurly) Any (any_token (token.Sign sign.CloseCurly)) l _ c.in_err-last.ensures.reads)

pub returns-in_err-to-clause-reads : goal.returns-in_err-to-clause-reads
returns-in_err-to-clause-reads c =
    let t = c.args.tokens.now in
    let l = closed_reads t (token.Sign sign.CloseCurly) Any (any_token (token.Sign sign.CloseCurly))
    (then_reads OF_CLASS_TEXT t.spots.items (body_link c.args.version) (nothing OF_CLASS_TEXT t.spots.items (BlockBody c.args.version) Any c.args.at c.requires.within) c.in_ok-body.ensures.reads) c.in_ok-last.ensures.reads in
    let p = err_from_is_err_and c.from_residual-in_err-to.result c.from_residual-in_err-to.ensures.1 in
    rw (p.1, p.2) (fails OF_CLASS_TEXT t l _ (c.in_err-to.ensures.reads OF_CLASS_TEXT))

pub returns-clause-reads : goal.returns-clause-reads
returns-clause-reads c =
    let t = c.args.tokens.now in
    let l = closed_reads t (token.Sign sign.CloseCurly) Any (any_token (token.Sign sign.CloseCurly))
    (then_reads OF_CLASS_TEXT t.spots.items (body_link c.args.version) (nothing OF_CLASS_TEXT t.spots.items (BlockBody c.args.version) Any c.args.at c.requires.within) c.in_ok-body.ensures.reads) c.in_ok-last.ensures.reads in
    done OF_CLASS_TEXT t.spots.items l (c.in_ok-to.ensures.reads OF_CLASS_TEXT)
