use Rattle.std.proofs.Common.{refl}
use Rattle.std.proofs.lemmas.Result.{err_from_is_err_and}
use Rattle.flow_tree.specs.declared.token.Token.TheVariants as token
use Rattle.flow_tree.specs.declared.token.Word.TheVariants as word
use Rattle.flow_parse.proofs.Looking.{not_true}
use Rattle.flow_parse.proofs.Leaves.{then_reads, done, fails, first_fails, tok_reads}
use Rattle.flow_parse.proofs.Decls.{future_link, less_link, result_link, gives_nothing_left, gives_left}
use Rattle.flow_parse.proofs.decl.gives.Goals as goal

pub returns-then-is_word-clause-reads : goal.returns-then-is_word-clause-reads
returns-then-is_word-clause-reads c = λ limits.
    let t = c.args.tokens.now in
    let e = c.if-is_word.ensures.word.0 refl in
    done limits t.spots.items (gives_nothing_left limits t c.args.at c.requires.within e) (tok_reads limits t c.args.at (token.Word word.NoResult) e)

pub returns-in_err-at-clause-reads : goal.returns-in_err-at-clause-reads
returns-in_err-at-clause-reads c = λ limits.
    let t = c.args.tokens.now in
    let l = gives_left limits t c.args.at c.requires.within (λ e. not_true (c.if-is_word.ensures.word.1 e)) in
    let p = err_from_is_err_and c.from_residual.result c.from_residual.ensures.1 in
    rw (p.1, p.2) (first_fails limits t future_link l _ (c.in_err-at.ensures.reads limits))

pub returns-in_err-at-2-clause-reads : goal.returns-in_err-at-2-clause-reads
returns-in_err-at-2-clause-reads c = λ limits.
    let t = c.args.tokens.now in
    let l = then_reads limits t.spots.items future_link (gives_left limits t c.args.at c.requires.within (λ e. not_true (c.if-is_word.ensures.word.1 e))) (c.in_ok-at.ensures.reads limits) in
    let p = err_from_is_err_and c.from_residual-in_err-at-2.result c.from_residual-in_err-at-2.ensures.1 in
    rw (p.1, p.2) (first_fails limits t less_link l _ (c.in_err-at-2.ensures.reads limits))

pub returns-in_err-ty-clause-reads : goal.returns-in_err-ty-clause-reads
returns-in_err-ty-clause-reads c = λ limits.
    let t = c.args.tokens.now in
    let l = then_reads limits t.spots.items less_link (then_reads limits t.spots.items future_link
    (gives_left limits t c.args.at c.requires.within (λ e. not_true (c.if-is_word.ensures.word.1 e))) (c.in_ok-at.ensures.reads limits)) (c.in_ok-at-2.ensures.reads limits) in
    let p = err_from_is_err_and c.from_residual-in_err-ty.result c.from_residual-in_err-ty.ensures.1 in
    rw (p.1, p.2) (first_fails limits t result_link l _ (c.in_err-ty.ensures.reads limits))

pub returns-in_err-to-clause-reads : goal.returns-in_err-to-clause-reads
returns-in_err-to-clause-reads c = λ limits.
    let t = c.args.tokens.now in
    let l = then_reads limits t.spots.items result_link (then_reads limits t.spots.items less_link (then_reads limits t.spots.items future_link
    (gives_left limits t c.args.at c.requires.within (λ e. not_true (c.if-is_word.ensures.word.1 e))) (c.in_ok-at.ensures.reads limits)) (c.in_ok-at-2.ensures.reads limits))
    (c.in_ok-ty.ensures.reads limits) in
    let p = err_from_is_err_and c.from_residual-in_err-to.result c.from_residual-in_err-to.ensures.1 in
    rw (p.1, p.2) (fails limits t l _ (c.in_err-to.ensures.reads limits))

pub returns-clause-reads : goal.returns-clause-reads
returns-clause-reads c = λ limits.
    let t = c.args.tokens.now in
    let l = then_reads limits t.spots.items result_link (then_reads limits t.spots.items less_link (then_reads limits t.spots.items future_link
    (gives_left limits t c.args.at c.requires.within (λ e. not_true (c.if-is_word.ensures.word.1 e))) (c.in_ok-at.ensures.reads limits)) (c.in_ok-at-2.ensures.reads limits))
    (c.in_ok-ty.ensures.reads limits) in
    done limits t.spots.items l (c.in_ok-to.ensures.reads limits)
