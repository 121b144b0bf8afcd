use Rattle.std.proofs.lemmas.Result.{err_from_is_err_and}
use Rattle.flow_tree.specs.declared.limits.TheConstants.{OF_CLASS_TEXT}
use Rattle.flow_parse.proofs.Leaves.{done, fails, first_fails, then_reads}
use Rattle.flow_classread.proofs.TextReads.{text_left, text_link}
use Rattle.flow_classread.proofs.text.text.Goals as goal

pub returns-in_err-version : goal.returns-in_err-version
returns-in_err-version c =
    let t = c.args.tokens.now in
    let l = text_left t in
    let p = err_from_is_err_and c.from_residual.result c.from_residual.ensures.1 in
    rw (p.1, p.2) (record { reads = first_fails OF_CLASS_TEXT t text_link l _ c.in_err-version.ensures.reads })

pub returns-in_err-raw : goal.returns-in_err-raw
returns-in_err-raw c =
    let t = c.args.tokens.now in
    let l = then_reads OF_CLASS_TEXT t.spots.items text_link (text_left t) c.in_ok-version.ensures.reads in
    let p = err_from_is_err_and c.from_residual-in_err-raw.result c.from_residual-in_err-raw.ensures.1 in
    rw (p.1, p.2) (record { reads = fails OF_CLASS_TEXT t l _ c.in_err-raw.ensures.reads })

pub returns : goal.returns
returns c =
    let t = c.args.tokens.now in
    let l = then_reads OF_CLASS_TEXT t.spots.items text_link (text_left t) c.in_ok-version.ensures.reads in
    record { reads = done OF_CLASS_TEXT t.spots.items l c.in_ok-raw.ensures.reads }
