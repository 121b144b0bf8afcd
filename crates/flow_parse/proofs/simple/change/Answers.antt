use Rattle.std.proofs.Common.{refl, suc, ◌+◌}
use Rattle.std.proofs.lemmas.Result.{err_from_is_err_and}
use Rattle.flow_tree.specs.declared.token.Token.TheVariants as token
use Rattle.flow_tree.specs.declared.token.Sign.TheVariants as sign
use Rattle.flow_tree.specs.Body.{End}
use Rattle.flow_tree.specs.Grammar.{ExprRule}
use Rattle.flow_parse.specs.Follow.{ExprEnds}
use Rattle.flow_parse.proofs.Looking.{not_true}
use Rattle.flow_parse.proofs.Leaves.{then_reads, done, tok_reads, deeper, first_fails, fails}
use Rattle.flow_parse.proofs.Deeper.{deeper_fails}
use Rattle.flow_parse.proofs.Variables.{assign_left, plus_left, minus_left, up_reads, down_reads, value_link}
use Rattle.flow_parse.proofs.simple.change.Goals as goal

pub returns-then-is_sign-clause-reads : goal.returns-then-is_sign-clause-reads
returns-then-is_sign-clause-reads c = λ limits. rw (c.modify.ensures.is End)
    (up_reads limits c.args.tokens.now c.args.at c.args.depth c.args.place c.args.path.items c.requires.within (c.if-is_sign.ensures.sign.0 refl))

pub returns-then-is_sign-2-clause-reads : goal.returns-then-is_sign-2-clause-reads
returns-then-is_sign-2-clause-reads c = λ limits. rw (c.modify-then-is_sign-2.ensures.is End)
    (down_reads limits c.args.tokens.now c.args.at c.args.depth c.args.place c.args.path.items c.requires.within (c.if-is_sign-2.ensures.sign.0 refl))

pub returns-then-is_sign-3-clause-reads : goal.returns-then-is_sign-3-clause-reads
returns-then-is_sign-3-clause-reads c = λ limits.
    let t = c.args.tokens.now in
    let e = c.if-is_sign-3.ensures.sign.0 refl in
    let l = then_reads limits t.spots.items (value_link (token.Sign sign.PlusAssign) (suc c.args.depth)) (plus_left limits t c.args.at c.args.depth c.args.place c.args.path.items c.requires.within e)
    (tok_reads limits t c.args.at (token.Sign sign.PlusAssign) e) in
    rw (c.modify-then-is_sign-3.ensures.is End) (done limits t.spots.items l (deeper limits (ExprRule 0) c.args.depth (c.in_ok-value.ensures.reads limits)))

pub returns-in_err-value-clause-reads : goal.returns-in_err-value-clause-reads
returns-in_err-value-clause-reads c = λ limits.
    let t = c.args.tokens.now in
    let e = c.if-is_sign-3.ensures.sign.0 refl in
    let l = then_reads limits t.spots.items (value_link (token.Sign sign.PlusAssign) (suc c.args.depth)) (plus_left limits t c.args.at c.args.depth c.args.place c.args.path.items c.requires.within e)
    (tok_reads limits t c.args.at (token.Sign sign.PlusAssign) e) in
    let p = err_from_is_err_and c.from_residual.result c.from_residual.ensures.1 in
    rw (p.1, p.2) (fails limits t l c.in_err-value.field-0.0 (deeper_fails limits (ExprRule 0) ExprEnds t (c.args.at + 1) c.args.depth c.in_err-value.field-0.0 (c.in_err-value.ensures.reads limits)))

pub returns-then-is_sign-4-clause-reads : goal.returns-then-is_sign-4-clause-reads
returns-then-is_sign-4-clause-reads c = λ limits.
    let t = c.args.tokens.now in
    let e = c.if-is_sign-4.ensures.sign.0 refl in
    let l = then_reads limits t.spots.items (value_link (token.Sign sign.MinusAssign) (suc c.args.depth))
    (minus_left limits t c.args.at c.args.depth c.args.place c.args.path.items c.requires.within e) (tok_reads limits t c.args.at (token.Sign sign.MinusAssign) e) in
    rw (c.modify-then-is_sign-4.ensures.is End) (done limits t.spots.items l (deeper limits (ExprRule 0) c.args.depth (c.in_ok-value-2.ensures.reads limits)))

pub returns-in_err-value-2-clause-reads : goal.returns-in_err-value-2-clause-reads
returns-in_err-value-2-clause-reads c = λ limits.
    let t = c.args.tokens.now in
    let e = c.if-is_sign-4.ensures.sign.0 refl in
    let l = then_reads limits t.spots.items (value_link (token.Sign sign.MinusAssign) (suc c.args.depth))
    (minus_left limits t c.args.at c.args.depth c.args.place c.args.path.items c.requires.within e) (tok_reads limits t c.args.at (token.Sign sign.MinusAssign) e) in
    let p = err_from_is_err_and c.from_residual-in_err-value-2.result c.from_residual-in_err-value-2.ensures.1 in
    rw (p.1, p.2) (fails limits t l c.in_err-value-2.field-0.0 (deeper_fails limits (ExprRule 0) ExprEnds t (c.args.at + 1) c.args.depth c.in_err-value-2.field-0.0
    (c.in_err-value-2.ensures.reads limits)))

pub returns-in_err-at-clause-reads : goal.returns-in_err-at-clause-reads
returns-in_err-at-clause-reads c = λ limits.
    let t = c.args.tokens.now in
    let l = assign_left limits t c.args.at c.args.depth c.args.place c.args.path.items c.requires.within (λ e. not_true (c.if-is_sign.ensures.sign.1 e))
    (λ e. not_true (c.if-is_sign-2.ensures.sign.1 e)) (λ e. not_true (c.if-is_sign-3.ensures.sign.1 e)) (λ e. not_true (c.if-is_sign-4.ensures.sign.1 e)) in
    let p = err_from_is_err_and c.from_residual-in_err-at.result c.from_residual-in_err-at.ensures.1 in
    rw (p.1, p.2) (first_fails limits t (value_link (token.Sign sign.Assign) (suc c.args.depth)) l c.in_err-at.field-0.0 (c.in_err-at.ensures.reads limits))

pub returns-in_err-value-3-clause-reads : goal.returns-in_err-value-3-clause-reads
returns-in_err-value-3-clause-reads c = λ limits.
    let t = c.args.tokens.now in
    let l = assign_left limits t c.args.at c.args.depth c.args.place c.args.path.items c.requires.within (λ e. not_true (c.if-is_sign.ensures.sign.1 e))
    (λ e. not_true (c.if-is_sign-2.ensures.sign.1 e)) (λ e. not_true (c.if-is_sign-3.ensures.sign.1 e)) (λ e. not_true (c.if-is_sign-4.ensures.sign.1 e)) in
    let p = err_from_is_err_and c.from_residual-in_err-value-3.result c.from_residual-in_err-value-3.ensures.1 in
    rw (p.1, p.2) (fails limits t (then_reads limits t.spots.items (value_link (token.Sign sign.Assign) (suc c.args.depth)) l (c.in_ok-at.ensures.reads limits)) c.in_err-value-3.field-0.0
    (deeper_fails limits (ExprRule 0) ExprEnds t c.in_ok-at.at c.args.depth c.in_err-value-3.field-0.0 (c.in_err-value-3.ensures.reads limits)))

pub returns-clause-reads : goal.returns-clause-reads
returns-clause-reads c = λ limits.
    let t = c.args.tokens.now in
    let l = assign_left limits t c.args.at c.args.depth c.args.place c.args.path.items c.requires.within (λ e. not_true (c.if-is_sign.ensures.sign.1 e))
    (λ e. not_true (c.if-is_sign-2.ensures.sign.1 e)) (λ e. not_true (c.if-is_sign-3.ensures.sign.1 e)) (λ e. not_true (c.if-is_sign-4.ensures.sign.1 e)) in
    rw (c.assign.ensures.is End) (done limits t.spots.items (then_reads limits t.spots.items (value_link (token.Sign sign.Assign) (suc c.args.depth)) l (c.in_ok-at.ensures.reads limits))
    (deeper limits (ExprRule 0) c.args.depth (c.in_ok-value-3.ensures.reads limits)))
