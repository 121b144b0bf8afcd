use Rattle.std.proofs.Common.{refl, suc, ◌+◌}
use Rattle.std.proofs.lemmas.Result.{err_from_is_err_and}
use Rattle.flow_tree.specs.declared.token.Token.TheVariants as token
use Rattle.flow_tree.specs.declared.token.Sign.TheVariants as sign
use Rattle.flow_tree.specs.Body.{End}
use Rattle.flow_tree.specs.StmtView.{stmt_of}
use Rattle.flow_parse.specs.Reading.{Any}
use Rattle.flow_parse.specs.Parts.{Args}
use Rattle.flow_parse.proofs.Looking.{not_true}
use Rattle.flow_parse.proofs.Leaves.{then_reads, done, tok_reads, deeper, answer_become, fails}
use Rattle.flow_parse.proofs.Deeper.{deeper_fails}
use Rattle.flow_parse.proofs.Variables.{call_left, call_link, change_turns}
use Rattle.flow_parse.proofs.simple.changed.Goals as goal

pub returns-then-not-is_sign-clause-reads : goal.returns-then-not-is_sign-clause-reads
returns-then-not-is_sign-clause-reads c = λ limits.
    let t = c.args.tokens.now in
    answer_become limits (λ r. stmt_of r.0 End) (λ r. r.1) t c.args.at c.requires.within refl
    (change_turns limits t c.args.at c.args.depth c.args.place c.args.path.items c.requires.within (λ e. not_true (c.if-not-is_sign.ensures.sign.1 e))) c.change.result
    (c.change.ensures.reads limits)

pub returns-in_err-args-clause-reads : goal.returns-in_err-args-clause-reads
returns-in_err-args-clause-reads c = λ limits.
    let t = c.args.tokens.now in
    let e = c.if-not-is_sign.ensures.sign.0 refl in
    let l = then_reads limits t.spots.items (call_link (suc c.args.depth)) (call_left limits t c.args.at c.args.depth c.args.place c.args.path.items c.requires.within e)
    (tok_reads limits t c.args.at (token.Sign sign.OpenRound) e) in
    let p = err_from_is_err_and c.from_residual.result c.from_residual.ensures.1 in
    rw (p.1, p.2) (fails limits t l c.in_err-args.field-0.0 (deeper_fails limits Args Any t (c.args.at + 1) c.args.depth c.in_err-args.field-0.0 (c.in_err-args.ensures.reads limits)))

pub returns-clause-reads : goal.returns-clause-reads
returns-clause-reads c = λ limits.
    let t = c.args.tokens.now in
    let e = c.if-not-is_sign.ensures.sign.0 refl in
    let l = then_reads limits t.spots.items (call_link (suc c.args.depth)) (call_left limits t c.args.at c.args.depth c.args.place c.args.path.items c.requires.within e)
    (tok_reads limits t c.args.at (token.Sign sign.OpenRound) e) in
    rw (c.call.ensures.is End) (done limits t.spots.items l (deeper limits Args c.args.depth (c.in_ok-args.ensures.reads limits)))
