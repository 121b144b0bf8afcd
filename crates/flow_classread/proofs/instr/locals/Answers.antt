use Rattle.std.proofs.Common.{refl, arith, ap, ◌∙◌, ◌++◌, ◌∷◌, []}
use Rattle.std.proofs.lemmas.Result.{err_from_is_err_and}
use Rattle.flow_tree.specs.declared.limits.TheConstants.{OF_CLASS_TEXT}
use Rattle.flow_parse.proofs.Looking.{not_true}
use Rattle.flow_parse.proofs.Leaves.{first_fails}
use Rattle.flow_classread.proofs.BlockForms.{locals_link, locals_left, locals_init, locals_step, locals_next_fails, locals_done}
use Rattle.flow_classread.proofs.instr.locals.Goals as goal

pub items-init : goal.items-init
items-init c =
    let t = c.args.tokens.now in
    let q = c.in_ok-push.ensures.items ∙ ap (λ z. z ++ c.in_ok-first.first ∷ []) c.new-locals.ensures.items in (
      omega (arith, c.in_ok-first.ensures.moves.0),
      c.in_ok-first.ensures.moves.1,
      locals_init t c.args.at c.requires.within c.in_ok-first.at c.push.new.self.items c.in_ok-first.first q
          c.in_ok-first.ensures.reads,
    )

pub items-preserved : goal.items-preserved
items-preserved c =
    let t = c.args.tokens.now in
    let i = c.items.invariant in
    let l = locals_step t c.args.at c.items.at c.items.locals.items i.2 c.in_ok-next.to c.push-in-items.new.self.items c.in_ok-next.next (c.items-test.ensures.sign.0 refl) c.in_ok-push-2.ensures.items
    c.in_ok-next.ensures.reads in
    (omega (arith, i.0, c.in_ok-next.ensures.moves.0), c.in_ok-next.ensures.moves.1, l)

pub returns-in_err-first-clause-reads : goal.returns-in_err-first-clause-reads
returns-in_err-first-clause-reads c =
    let t = c.args.tokens.now in
    let p = err_from_is_err_and c.from_residual.result c.from_residual.ensures.1 in
    rw (p.1, p.2) (first_fails OF_CLASS_TEXT t locals_link (locals_left t c.args.at c.requires.within) _ c.in_err-first.ensures.reads)

pub returns-in_err-next-clause-reads : goal.returns-in_err-next-clause-reads
returns-in_err-next-clause-reads c =
    let t = c.args.tokens.now in
    let p = err_from_is_err_and c.from_residual-in_err-next.result c.from_residual-in_err-next.ensures.1 in
    rw (p.1, p.2) (locals_next_fails t c.args.at c.items.at c.items.locals.items c.items.invariant.2 (c.items-test.ensures.sign.0 refl) _ c.in_err-next.ensures.reads)

pub returns-clause-reads : goal.returns-clause-reads
returns-clause-reads c =
    let t = c.args.tokens.now in
    locals_done t c.args.at c.items.at c.items.locals.items c.items.invariant.2 (λ x. not_true (c.items-test.ensures.sign.1 x))
