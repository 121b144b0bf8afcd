use Rattle.std.proofs.Common.{◌∙◌, subst}
use Rattle.std.proofs.lemmas.Result.{err_from_is_err_and}
use Rattle.flow_parse.specs.Reading.{Any}
use Rattle.flow_parse.specs.Failing.{Fails}
use Rattle.flow_parse.specs.Parts.{Block}
use Rattle.flow_parse.proofs.Leaves.{then_reads, done, fails, first_fails, moved}
use Rattle.flow_parse.proofs.Decls.{routine_name_link, routine_open_link, routine_params_link, routine_left}
use Rattle.flow_parse.proofs.Lists.{params_length}
use Rattle.flow_parse.proofs.decl.routine.Goals as goal

pub returns-in_err-name-clause-reads : goal.returns-in_err-name-clause-reads
returns-in_err-name-clause-reads c =
    let t = c.args.tokens.now in
    let p = err_from_is_err_and c.from_residual.result c.from_residual.ensures.1 in
    rw (p.1, p.2) (first_fails c.args.limits t (routine_name_link c.args.home) (routine_left c.args.limits t c.args.at c.requires.within c.args.home) _ (c.in_err-name.ensures.reads c.args.limits))

pub returns-in_err-at-clause-reads : goal.returns-in_err-at-clause-reads
returns-in_err-at-clause-reads c =
    let t = c.args.tokens.now in
    let l = then_reads c.args.limits t.spots.items (routine_name_link c.args.home) (routine_left c.args.limits t c.args.at c.requires.within c.args.home)
    (c.in_ok-name.ensures.reads c.args.limits) in
    let p = err_from_is_err_and c.from_residual-in_err-at.result c.from_residual-in_err-at.ensures.1 in
    rw (p.1, p.2) (first_fails c.args.limits t (routine_open_link c.args.home) l _ (c.in_err-at.ensures.reads c.args.limits))

pub returns-in_err-params-clause-reads : goal.returns-in_err-params-clause-reads
returns-in_err-params-clause-reads c =
    let t = c.args.tokens.now in
    let l = then_reads c.args.limits t.spots.items (routine_open_link c.args.home)
    (then_reads c.args.limits t.spots.items (routine_name_link c.args.home) (routine_left c.args.limits t c.args.at c.requires.within c.args.home) (c.in_ok-name.ensures.reads c.args.limits))
    (c.in_ok-at.ensures.reads c.args.limits) in
    let p = err_from_is_err_and c.from_residual-in_err-params.result c.from_residual-in_err-params.ensures.1 in
    rw (p.1, p.2) (first_fails c.args.limits t (routine_params_link c.args.home) l _ c.in_err-params.ensures.reads)

pub returns-in_err-read-clause-reads : goal.returns-in_err-read-clause-reads
returns-in_err-read-clause-reads c =
    let t = c.args.tokens.now in
    let l = then_reads c.args.limits t.spots.items (routine_params_link c.args.home)
    (then_reads c.args.limits t.spots.items (routine_open_link c.args.home)
    (then_reads c.args.limits t.spots.items (routine_name_link c.args.home) (routine_left c.args.limits t c.args.at c.requires.within c.args.home) (c.in_ok-name.ensures.reads c.args.limits))
    (c.in_ok-at.ensures.reads c.args.limits)) c.in_ok-params.ensures.reads in
    let e = c.count.ensures ∙ params_length c.in_ok-params.params.items in
    let b = subst (λ k. Fails c.args.limits (Block c.args.home 2 (record { statements = 0; variables = k })) Any t c.in_ok-params.at c.in_err-read.field-0.0) e c.in_err-read.ensures.reads in
    let p = err_from_is_err_and c.from_residual-in_err-read.result c.from_residual-in_err-read.ensures.1 in
    rw (p.1, p.2) (fails c.args.limits t l _ b)

pub returns-clause-reads : goal.returns-clause-reads
returns-clause-reads c =
    let t = c.args.tokens.now in
    let l = then_reads c.args.limits t.spots.items (routine_params_link c.args.home)
    (then_reads c.args.limits t.spots.items (routine_open_link c.args.home)
    (then_reads c.args.limits t.spots.items (routine_name_link c.args.home) (routine_left c.args.limits t c.args.at c.requires.within c.args.home) (c.in_ok-name.ensures.reads c.args.limits))
    (c.in_ok-at.ensures.reads c.args.limits)) c.in_ok-params.ensures.reads in
    let e = c.count.ensures ∙ params_length c.in_ok-params.params.items in
    done c.args.limits t.spots.items l (moved c.args.limits (λ k. Block c.args.home 2 (record { statements = 0; variables = k })) e c.in_ok-read.ensures.reads)
