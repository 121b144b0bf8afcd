use Rattle.std.proofs.lemmas.Result.{err_from_is_err_and}
use Rattle.flow_parse.proofs.Leaves.{then_reads, done, fails, first_fails}
use Rattle.flow_parse.proofs.Decls.{record_name_link, record_open_link, record_fields_link, struct_read}
use Rattle.flow_parse.proofs.decl.record.Goals as goal

pub returns-in_err-name-clause-reads : goal.returns-in_err-name-clause-reads
returns-in_err-name-clause-reads c =
    let t = c.args.tokens.now in
    let p = err_from_is_err_and c.from_residual.result c.from_residual.ensures.1 in
    rw (p.1, p.2) (first_fails c.args.limits t record_name_link (struct_read c.args.limits t c.args.at c.requires.within c.requires.here) _ (c.in_err-name.ensures.reads c.args.limits))

pub returns-in_err-at-clause-reads : goal.returns-in_err-at-clause-reads
returns-in_err-at-clause-reads c =
    let t = c.args.tokens.now in
    let l = then_reads c.args.limits t.spots.items record_name_link (struct_read c.args.limits t c.args.at c.requires.within c.requires.here) (c.in_ok-name.ensures.reads c.args.limits) in
    let p = err_from_is_err_and c.from_residual-in_err-at.result c.from_residual-in_err-at.ensures.1 in
    rw (p.1, p.2) (first_fails c.args.limits t record_open_link l _ (c.in_err-at.ensures.reads c.args.limits))

pub returns-in_err-fields-clause-reads : goal.returns-in_err-fields-clause-reads
returns-in_err-fields-clause-reads c =
    let t = c.args.tokens.now in
    let l = then_reads c.args.limits t.spots.items record_open_link
    (then_reads c.args.limits t.spots.items record_name_link (struct_read c.args.limits t c.args.at c.requires.within c.requires.here) (c.in_ok-name.ensures.reads c.args.limits))
    (c.in_ok-at.ensures.reads c.args.limits) in
    let p = err_from_is_err_and c.from_residual-in_err-fields.result c.from_residual-in_err-fields.ensures.1 in
    rw (p.1, p.2) (first_fails c.args.limits t record_fields_link l _ c.in_err-fields.ensures.reads)

pub returns-in_err-to-clause-reads : goal.returns-in_err-to-clause-reads
returns-in_err-to-clause-reads c =
    let t = c.args.tokens.now in
    let l = then_reads c.args.limits t.spots.items record_fields_link
    (then_reads c.args.limits t.spots.items record_open_link
    (then_reads c.args.limits t.spots.items record_name_link (struct_read c.args.limits t c.args.at c.requires.within c.requires.here) (c.in_ok-name.ensures.reads c.args.limits))
    (c.in_ok-at.ensures.reads c.args.limits)) c.in_ok-fields.ensures.reads in
    let p = err_from_is_err_and c.from_residual-in_err-to.result c.from_residual-in_err-to.ensures.1 in
    rw (p.1, p.2) (fails c.args.limits t l _ (c.in_err-to.ensures.reads c.args.limits))

pub returns-clause-reads : goal.returns-clause-reads
returns-clause-reads c =
    let t = c.args.tokens.now in
    let l = then_reads c.args.limits t.spots.items record_fields_link
    (then_reads c.args.limits t.spots.items record_open_link
    (then_reads c.args.limits t.spots.items record_name_link (struct_read c.args.limits t c.args.at c.requires.within c.requires.here) (c.in_ok-name.ensures.reads c.args.limits))
    (c.in_ok-at.ensures.reads c.args.limits)) c.in_ok-fields.ensures.reads in
    rw c.place-here.ensures (done c.args.limits t.spots.items l (c.in_ok-to.ensures.reads c.args.limits))
