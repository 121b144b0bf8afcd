use Rattle.std.proofs.lemmas.Result.{err_from_is_err_and}
use Rattle.flow_tree.specs.declared.limits.TheConstants.{OF_CLASS_TEXT}
use Rattle.flow_parse.proofs.Leaves.{done, fails, first_fails, then_reads, nothing}
use Rattle.flow_classread.proofs.Combine.{behind_fails, behind_reads}
use Rattle.flow_tree.specs.declared.token.Token.TheVariants as token
use Rattle.flow_tree.specs.declared.token.Sign.TheVariants as sign
use Rattle.flow_parse.specs.Reading.{Any}
use Rattle.flow_classread.specs.Parts.{Assignment}
use Rattle.flow_classread.proofs.Links.{path_link, some_ended}
use Rattle.flow_classread.proofs.instr.assignment.Goals as goal

pub returns-in_err-path-clause-reads : goal.returns-in_err-path-clause-reads
returns-in_err-path-clause-reads c =
    let t = c.args.tokens.now in
    let l = nothing OF_CLASS_TEXT t.spots.items Assignment Any c.args.at c.requires.within in
    let p = err_from_is_err_and c.from_residual.result c.from_residual.ensures.1 in
    rw (p.1, p.2) (first_fails OF_CLASS_TEXT t path_link l _ c.in_err-path.ensures.reads)

pub returns-in_err-at-clause-reads : goal.returns-in_err-at-clause-reads
returns-in_err-at-clause-reads c =
    let t = c.args.tokens.now in
    let l = then_reads OF_CLASS_TEXT t.spots.items path_link (nothing OF_CLASS_TEXT t.spots.items Assignment Any c.args.at c.requires.within) c.in_ok-path.ensures.reads in
    let p = err_from_is_err_and c.from_residual-in_err-at.result c.from_residual-in_err-at.ensures.1 in
    rw (p.1, p.2) (behind_fails t (token.Sign sign.Assign) some_ended l _ (c.in_err-at.ensures.reads OF_CLASS_TEXT))

pub returns-in_err-value-clause-reads : goal.returns-in_err-value-clause-reads
returns-in_err-value-clause-reads c =
    let t = c.args.tokens.now in
    let l = behind_reads t (token.Sign sign.Assign) some_ended (then_reads OF_CLASS_TEXT t.spots.items path_link (nothing OF_CLASS_TEXT t.spots.items Assignment Any c.args.at c.requires.within)
    c.in_ok-path.ensures.reads) (c.in_ok-at.ensures.reads OF_CLASS_TEXT) in
    let p = err_from_is_err_and c.from_residual-in_err-value.result c.from_residual-in_err-value.ensures.1 in
    rw (p.1, p.2) (fails OF_CLASS_TEXT t l _ c.in_err-value.ensures.reads)

pub returns-clause-reads : goal.returns-clause-reads
returns-clause-reads c =
    let t = c.args.tokens.now in
    let l = behind_reads t (token.Sign sign.Assign) some_ended (then_reads OF_CLASS_TEXT t.spots.items path_link (nothing OF_CLASS_TEXT t.spots.items Assignment Any c.args.at c.requires.within)
    c.in_ok-path.ensures.reads) (c.in_ok-at.ensures.reads OF_CLASS_TEXT) in
    done OF_CLASS_TEXT t.spots.items l c.in_ok-value.ensures.reads
