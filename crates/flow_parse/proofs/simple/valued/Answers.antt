use Rattle.std.proofs.Common.{refl, ◌+◌}
use Rattle.std.proofs.lemmas.Result.{err_from_is_err_and}
use Rattle.flow_tree.specs.declared.token.Token.TheVariants as token
use Rattle.flow_tree.specs.declared.token.Sign.TheVariants as sign
use Rattle.flow_tree.specs.Body.{End}
use Rattle.flow_tree.specs.Grammar.{ExprRule}
use Rattle.flow_tree.specs.StmtView.{into_of}
use Rattle.flow_parse.specs.Follow.{ExprEnds}
use Rattle.flow_parse.proofs.Looking.{not_true}
use Rattle.flow_parse.proofs.Leaves.{then_reads, done, tok_reads, deeper, fails}
use Rattle.flow_parse.proofs.Deeper.{deeper_fails}
use Rattle.flow_parse.proofs.Unended.{no_value_reads2, given_left, given_link, given_wait, given_value}
use Rattle.flow_parse.proofs.simple.valued.Goals as goal

pub returns-then-not-is_sign-clause-reads : goal.returns-then-not-is_sign-clause-reads
returns-then-not-is_sign-clause-reads c = λ limits.
    let t = c.args.tokens.now in
    rw (c.declare.ensures.is End) (no_value_reads2 limits t c.args.at c.args.depth c.args.place (into_of c.args.into) c.requires.within (λ e. not_true (c.if-not-is_sign.ensures.sign.1 e)))

pub returns-then-begins_wait-clause-reads : goal.returns-then-begins_wait-clause-reads
returns-then-begins_wait-clause-reads c = λ limits.
    let t = c.args.tokens.now in
    let e = c.if-not-is_sign.ensures.sign.0 refl in
    let g = then_reads limits t.spots.items (given_link c.args.depth c.args.place (into_of c.args.into))
    (given_left limits t c.args.at c.args.depth c.args.place (into_of c.args.into) c.requires.within e) (tok_reads limits t c.args.at (token.Sign sign.Assign) e) in
    rw (c.wait.ensures.is End) (done limits t.spots.items (given_wait limits t.spots.items c.args.depth c.args.place (into_of c.args.into) g (c.if-begins_wait.ensures.0 refl))
    (c.in_ok-next.ensures.reads limits))

pub returns-in_err-next-clause-reads : goal.returns-in_err-next-clause-reads
returns-in_err-next-clause-reads c = λ limits.
    let t = c.args.tokens.now in
    let e = c.if-not-is_sign.ensures.sign.0 refl in
    let g = then_reads limits t.spots.items (given_link c.args.depth c.args.place (into_of c.args.into))
    (given_left limits t c.args.at c.args.depth c.args.place (into_of c.args.into) c.requires.within e) (tok_reads limits t c.args.at (token.Sign sign.Assign) e) in
    let p = err_from_is_err_and c.from_residual.result c.from_residual.ensures.1 in
    rw (p.1, p.2) (fails limits t (given_wait limits t.spots.items c.args.depth c.args.place (into_of c.args.into) g (c.if-begins_wait.ensures.0 refl)) c.in_err-next.field-0.0
    (c.in_err-next.ensures.reads limits))

pub returns-in_err-value-clause-reads : goal.returns-in_err-value-clause-reads
returns-in_err-value-clause-reads c = λ limits.
    let t = c.args.tokens.now in
    let e = c.if-not-is_sign.ensures.sign.0 refl in
    let g = then_reads limits t.spots.items (given_link c.args.depth c.args.place (into_of c.args.into))
    (given_left limits t c.args.at c.args.depth c.args.place (into_of c.args.into) c.requires.within e) (tok_reads limits t c.args.at (token.Sign sign.Assign) e) in
    let p = err_from_is_err_and c.from_residual-in_err-value.result c.from_residual-in_err-value.ensures.1 in
    rw (p.1, p.2) (fails limits t (given_value limits t.spots.items c.args.depth c.args.place (into_of c.args.into) g (λ h. not_true (c.if-begins_wait.ensures.1 h))) c.in_err-value.field-0.0
    (deeper_fails limits (ExprRule 0) ExprEnds t (c.args.at + 1) c.args.depth c.in_err-value.field-0.0 (c.in_err-value.ensures.reads limits)))

pub returns-clause-reads : goal.returns-clause-reads
returns-clause-reads c = λ limits.
    let t = c.args.tokens.now in
    let e = c.if-not-is_sign.ensures.sign.0 refl in
    let g = then_reads limits t.spots.items (given_link c.args.depth c.args.place (into_of c.args.into))
    (given_left limits t c.args.at c.args.depth c.args.place (into_of c.args.into) c.requires.within e) (tok_reads limits t c.args.at (token.Sign sign.Assign) e) in
    rw (c.declare-2.ensures.is End) (done limits t.spots.items (given_value limits t.spots.items c.args.depth c.args.place (into_of c.args.into) g (λ h. not_true (c.if-begins_wait.ensures.1 h)))
    (deeper limits (ExprRule 0) c.args.depth (c.in_ok-value.ensures.reads limits)))
