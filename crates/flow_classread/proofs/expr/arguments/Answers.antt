use Rattle.std.proofs.Common.{refl, arith, sym, ap, subst, ◌∙◌, ◌++◌, ◌∷◌, [], ◌+◌}
use Rattle.std.proofs.lemmas.Result.{err_from_is_err_and}
use Rattle.flow_tree.specs.declared.limits.TheConstants.{OF_CLASS_TEXT}
use Rattle.flow_tree.specs.declared.token.Token.TheVariants as token
use Rattle.flow_tree.specs.declared.token.Sign.TheVariants as sign
use Rattle.flow_parse.specs.Reading.{Any, Reads}
use Rattle.flow_tree.specs.View.{exprs_of}
use Rattle.flow_classread.specs.Parts.{Args}
use Rattle.flow_parse.proofs.Looking.{not_true}
use Rattle.flow_parse.proofs.Leaves.{become, done, fails, first_fails, tok_reads}
use Rattle.flow_classread.proofs.ExprForms.{none_turns, args_link, args_left, args_init, args_end, next_fails, next_reads, close_left}
use Rattle.flow_classread.proofs.expr.arguments.Goals as goal

pub returns-then-is_sign-clause-reads : goal.returns-then-is_sign-clause-reads
returns-then-is_sign-clause-reads c =
    let t = c.args.tokens.now in
    let e = c.if-is_sign.ensures.sign.0 refl in
    subst (λ z. Reads OF_CLASS_TEXT Args Any t.spots.items c.args.at (exprs_of z) (c.args.at + 1)) (sym c.new-args.ensures.items)
    (become OF_CLASS_TEXT t.spots.items e none_turns (tok_reads OF_CLASS_TEXT t c.args.at (token.Sign sign.CloseRound) e))

pub returns-in_err-first-clause-reads : goal.returns-in_err-first-clause-reads
returns-in_err-first-clause-reads c =
    let t = c.args.tokens.now in
    let l = args_left t c.args.at c.requires.within (λ e. not_true (c.if-is_sign.ensures.sign.1 e)) in
    let p = err_from_is_err_and c.from_residual.result c.from_residual.ensures.1 in
    rw (p.1, p.2) (first_fails OF_CLASS_TEXT t args_link l _ c.in_err-first.ensures.reads)

pub items-init : goal.items-init
items-init c =
    let t = c.args.tokens.now in
    let q = c.in_ok-push.ensures.items ∙ ap (λ z. z ++ c.in_ok-first.first ∷ []) c.new-args.ensures.items in (
      c.in_ok-first.ensures.moves.0,
      c.in_ok-first.ensures.moves.1,
      args_init t c.args.at c.in_ok-first.to c.push.new.self.items c.in_ok-first.first c.requires.within
          (λ e. not_true (c.if-is_sign.ensures.sign.1 e)) q c.in_ok-first.ensures.reads,
    )

pub items-preserved : goal.items-preserved
items-preserved c =
    let t = c.args.tokens.now in
    let i = c.items.invariant in
    let l = next_reads t c.args.at c.items.at c.items.args.items i.2 c.in_ok-next.to c.push-in-items.new.self.items c.in_ok-next.next (c.items-test.ensures.sign.0 refl) c.in_ok-push-2.ensures.items
    c.in_ok-next.ensures.reads in
    (omega (arith, i.0, c.in_ok-next.ensures.moves.0), c.in_ok-next.ensures.moves.1, l)

pub returns-in_err-next-clause-reads : goal.returns-in_err-next-clause-reads
returns-in_err-next-clause-reads c =
    let t = c.args.tokens.now in
    let p = err_from_is_err_and c.from_residual-in_err-next.result c.from_residual-in_err-next.ensures.1 in
    rw (p.1, p.2) (next_fails t c.args.at c.items.at c.items.args.items c.items.invariant.2 (c.items-test.ensures.sign.0 refl) _ c.in_err-next.ensures.reads)

pub returns-in_err-to-clause-reads : goal.returns-in_err-to-clause-reads
returns-in_err-to-clause-reads c =
    let t = c.args.tokens.now in
    let l = close_left t c.args.at c.items.at c.items.args.items c.items.invariant.2 (λ e. not_true (c.items-test.ensures.sign.1 e)) in
    let p = err_from_is_err_and c.from_residual-in_err-to.result c.from_residual-in_err-to.ensures.1 in
    rw (p.1, p.2) (fails OF_CLASS_TEXT t l _ (c.in_err-to.ensures.reads OF_CLASS_TEXT))

pub returns-clause-reads : goal.returns-clause-reads
returns-clause-reads c =
    let t = c.args.tokens.now in
    let l = close_left t c.args.at c.items.at c.items.args.items c.items.invariant.2 (λ e. not_true (c.items-test.ensures.sign.1 e)) in
    subst (λ z. Reads OF_CLASS_TEXT Args Any t.spots.items c.args.at z c.in_ok-to.to) (args_end c.items.args.items) (done OF_CLASS_TEXT t.spots.items l (c.in_ok-to.ensures.reads OF_CLASS_TEXT))
