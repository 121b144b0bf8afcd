use Rattle.std.proofs.Common.{◌≡◌, ◌+◌, suc, refl, arith, sym, ap, map, ◌∙◌, ◌++◌, length}
use Rattle.std.proofs.lemmas.Result.{err_from_is_err_and}
use Rattle.flow_tree.specs.declared.limits.TheConstants.{OF_CLASS_TEXT}
use Rattle.std.specs.Prelude.{codes}
use Rattle.flow_tree.specs.declared.token.Token.TheVariants as token
use Rattle.flow_parse.specs.Follow.{NotBefore}
use Rattle.flow_parse.proofs.Looking.{not_true}
use Rattle.flow_parse.proofs.Leaves.{nothing, means}
use Rattle.flow_classprint.specs.ClassGrammar.{GroupsRule}
use Rattle.flow_class.specs.View.{group_of}
use Rattle.flow_classread.proofs.GroupForms.{group_fails, group_reads, groups_done}
use Rattle.flow_classread.proofs.group.groups.Goals as goal

pub items-init : goal.items-init
items-init c =
    let t = c.args.tokens.now in (
      omega arith,
      c.requires.within,
      omega arith,
      omega arith,
      means OF_CLASS_TEXT t.spots.items (λ ys. map group_of c.new-groups.result.items ++ ys) (λ ys. ap (λ z. map group_of z ++ ys) (sym c.new-groups.ensures.items))
          (nothing OF_CLASS_TEXT t.spots.items (GroupsRule 1 0) (NotBefore (token.Name (codes "group"))) c.args.at c.requires.within),
    )

pub items-preserved : goal.items-preserved
items-preserved c =
    let t = c.args.tokens.now in
    let i = c.items.invariant in
    let e : c.items.number + 1 ≡ suc c.items.number = omega arith in
    let n : c.len.result ≡ length c.in_ok-callbacks.callbacks.items = c.len.ensures ∙ c.in_ok-callbacks.callbacks.ok.0 in
    let l = group_reads t c.args.at c.items.at c.items.number c.items.before c.items.groups.items (omega (arith, c.items.invariant.1, c.items.invariant.2, c.requires.rising.few)) i.4
    c.in_ok-callbacks.to (c.items.number + 1) (c.items.before + c.len.result)
    c.push.new.self.items (record { callbacks = c.in_ok-callbacks.callbacks }) (c.items-test.ensures.says.0 refl) e (ap (λ m. c.items.before + m) n) c.in_ok-push.ensures.items
    c.in_ok-callbacks.ensures.reads in (
      omega (arith, i.0, c.in_ok-callbacks.ensures.moves.0),
      c.in_ok-callbacks.ensures.moves.1,
      omega (arith, i.2, c.in_ok-callbacks.ensures.moves.0),
      omega
          (arith, i.3, n, c.in_ok-callbacks.ensures.few),
      l,
    )

pub returns-in_err-callbacks-clause-reads : goal.returns-in_err-callbacks-clause-reads
returns-in_err-callbacks-clause-reads c =
    let t = c.args.tokens.now in
    let p = err_from_is_err_and c.from_residual.result c.from_residual.ensures.1 in
    rw (p.1, p.2) (group_fails t c.args.at c.items.at c.items.number c.items.before c.items.groups.items (omega (arith, c.items.invariant.1, c.items.invariant.2, c.requires.rising.few))
    c.items.invariant.4 (c.items-test.ensures.says.0 refl) _ c.in_err-callbacks.ensures.reads)

pub returns-clause-reads : goal.returns-clause-reads
returns-clause-reads c =
    let t = c.args.tokens.now in
    groups_done t c.args.at c.items.at c.items.number c.items.before c.items.groups.items (omega (arith, c.items.invariant.1, c.items.invariant.2, c.requires.rising.few)) c.items.invariant.4
    (λ x. not_true (c.items-test.ensures.says.1 x))
