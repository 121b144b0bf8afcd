use Rattle.std.proofs.Common.{arith, refl, ap, ◌∙◌, ◌++◌, ◌∷◌, []}
use Rattle.std.proofs.lemmas.Result.{err_from_is_err_and}
use Rattle.flow_tree.specs.declared.token.Token.TheVariants as token
use Rattle.flow_tree.specs.declared.token.Sign.TheVariants as sign
use Rattle.flow_parse.specs.Follow.{NotBefore}
use Rattle.flow_parse.specs.Parts.{MoreNames}
use Rattle.flow_parse.proofs.Looking.{not_true}
use Rattle.flow_parse.proofs.Leaves.{nothing}
use Rattle.flow_parse.proofs.SimpleLoops.{names_step, names_step_fails, names_done}
use Rattle.flow_parse.proofs.simple.more_names.Goals as goal

pub names-init : goal.names-init
names-init c = (
  omega arith,
  c.requires.within,
  [],
  c.args.first,
  c.in_ok-push.ensures.items
      ∙ ap (λ z. z ++ c.args.first ∷ []) c.new-path.ensures.items,
  λ limits. nothing limits c.args.tokens.now.spots.items (MoreNames c.args.first)
      (NotBefore (token.Sign sign.Dot)) c.args.at c.requires.within,
)

pub names-preserved : goal.names-preserved
names-preserved c =
    let i = c.names.invariant in (
      omega (arith, i.0, c.in_ok-next.ensures.moves.0),
      c.in_ok-next.ensures.moves.1,
      i.2 ++ i.3 ∷ [],
      c.in_ok-next.next,
      c.in_ok-push-2.ensures.items ∙ ap (λ z. z ++ c.in_ok-next.next ∷ []) i.4,
      λ limits. names_step limits c.args.tokens.now c.args.at c.names.at c.args.first i.3 i.2 (i.5 limits) (c.names-test.ensures.sign.0 refl) c.in_ok-next.to c.in_ok-next.next
          (c.in_ok-next.ensures.reads limits),
    )

pub returns-in_err-next-clause-reads : goal.returns-in_err-next-clause-reads
returns-in_err-next-clause-reads c = λ limits.
    let i = c.names.invariant in
    let p = err_from_is_err_and c.from_residual-in_err-next.result c.from_residual-in_err-next.ensures.1 in
    rw (p.1, p.2) (names_step_fails limits c.args.tokens.now c.args.at c.names.at c.args.first i.3 i.2 (i.5 limits) (c.names-test.ensures.sign.0 refl) c.in_err-next.field-0.0
    (c.in_err-next.ensures.reads limits))

pub returns-clause-reads : goal.returns-clause-reads
returns-clause-reads c = λ limits.
    let i = c.names.invariant in
    names_done limits c.args.tokens.now c.args.at c.names.at c.args.first i.3 i.2 (i.5 limits) c.names.path.items i.4 (λ e. not_true (c.names-test.ensures.sign.1 e)) i.1
