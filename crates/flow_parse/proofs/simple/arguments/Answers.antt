use Rattle.std.proofs.Common.{arith, refl, sym, ap, subst, ◌∙◌, ◌++◌, ◌∷◌, [], ◌+◌}
use Rattle.std.proofs.lemmas.Result.{err_from_is_err_and}
use Rattle.flow_tree.specs.declared.token.Token.TheVariants as token
use Rattle.flow_tree.specs.declared.token.Sign.TheVariants as sign
use Rattle.flow_tree.specs.View.{exprs_of}
use Rattle.flow_parse.specs.Reading.{Any, Reads}
use Rattle.flow_parse.specs.Parts.{Args}
use Rattle.flow_parse.proofs.Looking.{not_true}
use Rattle.flow_parse.proofs.Leaves.{done, tok_reads, first_fails}
use Rattle.flow_parse.proofs.Variables.{no_args_left, args_left, args_link}
use Rattle.flow_parse.proofs.SimpleLoops.{args_init, args_step, args_step_fails, args_done, args_end_fails}
use Rattle.flow_parse.proofs.simple.arguments.Goals as goal

pub returns-then-is_sign-clause-reads : goal.returns-then-is_sign-clause-reads
returns-then-is_sign-clause-reads c = λ limits.
    let t = c.args.tokens.now in
    let e = c.if-is_sign.ensures.sign.0 refl in
    let s = tok_reads limits t c.args.at (token.Sign sign.CloseRound) e in
    subst (λ xs. Reads limits (Args c.args.depth) Any t.spots.items c.args.at (exprs_of xs) (c.args.at + 1)) (sym c.new-args.ensures.items)
    (done limits t.spots.items (no_args_left limits t c.args.at c.args.depth c.requires.within e) s)

pub returns-in_err-first-clause-reads : goal.returns-in_err-first-clause-reads
returns-in_err-first-clause-reads c = λ limits.
    let t = c.args.tokens.now in
    let p = err_from_is_err_and c.from_residual.result c.from_residual.ensures.1 in
    rw (p.1, p.2) (first_fails limits t (args_link c.args.depth) (args_left limits t c.args.at c.args.depth c.requires.within (λ e. not_true (c.if-is_sign.ensures.sign.1 e))) c.in_err-first.field-0.0
    (c.in_err-first.ensures.reads limits))

pub items-init : goal.items-init
items-init c =
    let q = c.in_ok-push.ensures.items ∙ ap (λ z. z ++ c.in_ok-first.first ∷ []) c.new-args.ensures.items in (
      c.in_ok-first.ensures.moves.0,
      c.in_ok-first.ensures.moves.1,
      λ limits. args_init limits c.args.tokens.now c.args.at c.args.depth c.in_ok-first.to c.push.new.self.items c.in_ok-first.first
          c.requires.within (λ e. not_true (c.if-is_sign.ensures.sign.1 e)) q (c.in_ok-first.ensures.reads limits),
    )

pub items-preserved : goal.items-preserved
items-preserved c = (
  omega (arith, c.items.invariant.0, c.in_ok-next.ensures.moves.0),
  c.in_ok-next.ensures.moves.1,
  λ limits. args_step limits c.args.tokens.now c.args.at c.items.at c.args.depth c.items.args.items
      (c.items.invariant.2 limits) (c.items-test.ensures.sign.0 refl) c.in_ok-next.to c.push-in-items.new.self.items c.in_ok-next.next c.in_ok-push-2.ensures.items
      (c.in_ok-next.ensures.reads limits),
)

pub returns-in_err-next-clause-reads : goal.returns-in_err-next-clause-reads
returns-in_err-next-clause-reads c = λ limits.
    let p = err_from_is_err_and c.from_residual-in_err-next.result c.from_residual-in_err-next.ensures.1 in
    rw (p.1, p.2) (args_step_fails limits c.args.tokens.now c.args.at c.items.at c.args.depth c.items.args.items (c.items.invariant.2 limits) (c.items-test.ensures.sign.0 refl) c.in_err-next.field-0.0
    (c.in_err-next.ensures.reads limits))

pub returns-in_err-to-clause-reads : goal.returns-in_err-to-clause-reads
returns-in_err-to-clause-reads c = λ limits.
    let p = err_from_is_err_and c.from_residual-in_err-to.result c.from_residual-in_err-to.ensures.1 in
    rw (p.1, p.2) (args_end_fails limits c.args.tokens.now c.args.at c.items.at c.args.depth c.items.args.items (c.items.invariant.2 limits)
    (λ e. not_true (c.items-test.ensures.sign.1 e)) c.in_err-to.field-0.0 (c.in_err-to.ensures.reads limits))

pub returns-clause-reads : goal.returns-clause-reads
returns-clause-reads c = λ limits.
    args_done limits c.args.tokens.now c.args.at c.items.at c.args.depth c.items.args.items (c.items.invariant.2 limits) (λ e. not_true (c.items-test.ensures.sign.1 e)) c.in_ok-to.to _
    (c.in_ok-to.ensures.reads limits)
