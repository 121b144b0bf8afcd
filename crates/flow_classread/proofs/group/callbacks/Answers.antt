use Rattle.std.proofs.Common.{◌≡◌, ◌+◌, ◌-◌, suc, refl, arith, ap, ◌∙◌, ◌++◌, ◌∷◌, [], length, length-append}
use Rattle.std.proofs.lemmas.Result.{err_from_is_err_and}
use Rattle.flow_tree.specs.declared.limits.TheConstants.{OF_CLASS_TEXT}
use Rattle.flow_tree.specs.declared.token.Token.TheVariants as token
use Rattle.flow_tree.specs.declared.token.Sign.TheVariants as sign
use Rattle.flow_parse.proofs.Looking.{not_true}
use Rattle.flow_parse.proofs.Leaves.{first_fails, tok_reads}
use Rattle.flow_classread.proofs.GroupForms.{callbacks_left, callbacks_link, callbacks_init, callback_fails, callback_reads, callback_beyond, callbacks_done}
use Rattle.flow_classread.proofs.group.callbacks.Goals as goal

pub items-init : goal.items-init
items-init c =
    let t = c.args.tokens.now in
    let q = c.in_ok-push.ensures.items ∙ ap (λ z. z ++ c.in_ok-first.first ∷ []) c.new-callbacks.ensures.items in
    let e : c.args.from + 1 ≡ suc c.args.from = omega arith in (
      omega (arith, c.in_ok-first.ensures.moves.0),
      c.in_ok-first.ensures.moves.1,
      omega arith,
      omega (arith, ap length q),
      callbacks_init t c.args.from c.args.at c.in_ok-first.at (64 - 1)
          (c.args.from + 1) c.push.new.self.items c.in_ok-first.first c.requires.within refl e q c.in_ok-first.ensures.reads,
    )

pub items-preserved : goal.items-preserved
items-preserved c =
    let t = c.args.tokens.now in
    let i = c.items.invariant in
    let n = c.items.count in
    let e : c.args.from + (n + 1) ≡ suc (c.args.from + n) = omega arith in
    let r : 64 - n ≡ suc (64 - (n + 1)) = omega (arith, i.2, c.if-count-eq-BRANCHES.false) in
    let l = callback_reads t c.args.from c.args.at c.items.at (64 - n) (c.args.from + n) c.items.callbacks.items i.4 (64 - (n + 1)) (c.args.from + (n + 1)) c.in_ok-next.to
    c.push-in-items.new.self.items c.in_ok-next.next r e
    (λ x. not_true (c.items-test.ensures.sign.1 x)) c.in_ok-push-2.ensures.items c.in_ok-next.ensures.reads in (
      omega (arith, i.0, c.in_ok-next.ensures.moves.0),
      c.in_ok-next.ensures.moves.1,
      omega (arith, i.2, c.if-count-eq-BRANCHES.false),
      omega (arith, i.3, ap length c.in_ok-push-2.ensures.items, length-append c.items.callbacks.items (c.in_ok-next.next ∷ [])),
      l,
    )

pub returns-in_err-first-clause-reads : goal.returns-in_err-first-clause-reads
returns-in_err-first-clause-reads c =
    let t = c.args.tokens.now in
    let p = err_from_is_err_and c.from_residual.result c.from_residual.ensures.1 in
    rw (p.1, p.2) (first_fails OF_CLASS_TEXT t (callbacks_link 63 c.args.from) (callbacks_left t c.args.from c.args.at c.requires.within) _ c.in_err-first.ensures.reads)

pub returns-then-count-eq-BRANCHES-clause-reads : goal.returns-then-count-eq-BRANCHES-clause-reads
returns-then-count-eq-BRANCHES-clause-reads c =
    let t = c.args.tokens.now in
    let i = c.items.invariant in
    let n = c.items.count in
    let r : 64 - n ≡ 0 = omega (arith, c.if-count-eq-BRANCHES.true) in
    rw c.refused.ensures (callback_beyond t c.args.from c.args.at c.items.at (64 - n) (c.args.from + n) c.items.callbacks.items i.4 r (λ x. not_true (c.items-test.ensures.sign.1 x)))

pub returns-in_err-next-clause-reads : goal.returns-in_err-next-clause-reads
returns-in_err-next-clause-reads c =
    let t = c.args.tokens.now in
    let i = c.items.invariant in
    let n = c.items.count in
    let r : 64 - n ≡ suc (64 - (n + 1)) = omega (arith, i.2, c.if-count-eq-BRANCHES.false) in
    let p = err_from_is_err_and c.from_residual-in_err-next.result c.from_residual-in_err-next.ensures.1 in
    rw (p.1, p.2) (callback_fails t c.args.from c.args.at c.items.at (64 - n) (c.args.from + n) c.items.callbacks.items i.4 (64 - (n + 1)) r (λ x. not_true (c.items-test.ensures.sign.1 x)) _
    c.in_err-next.ensures.reads)

pub returns-clause-reads : goal.returns-clause-reads
returns-clause-reads c =
    let t = c.args.tokens.now in
    let e = c.items-test.ensures.sign.0 refl in
    callbacks_done t c.args.from c.args.at c.items.at (64 - c.items.count) (c.args.from + c.items.count) c.items.callbacks.items c.items.invariant.4 e
    (tok_reads OF_CLASS_TEXT t c.items.at (token.Sign sign.CloseCurly) e)

pub returns-clause-few : goal.returns-clause-few
returns-clause-few c = let i = c.items.invariant in omega (arith, i.0, i.3)
