use Rattle.std.proofs.Common.{◌≡◌, ◌<◌, ◌-◌, suc, nat_eq, drop, length, get_or, sym, ap, ◌∙◌, arith}
use Rattle.std.specs.List.{list_any}
use Rattle.flow_validate.proofs.Leading.{not_distinct}
use Rattle.flow_validate.proofs.blocks.put_distinct.Goals as goal

pub returns-then-contains : goal.returns-then-contains
returns-then-contains c =
    let xs = c.args.numbers.now in
    let at = c.loop-at.at in
    let q = get_or xs (at - 1) 0 in
    let same : suc (at - 1) ≡ at = omega (arith, c.loop-at-test.true) in
    let lt : at - 1 < length xs = omega (arith, c.loop-at-test.true, c.loop-at.invariant.0) in
    not_distinct xs (at - 1) 0 lt (ap (λ k. list_any (nat_eq q) (drop k xs)) same ∙ sym (c.loop-at.invariant.2 q) ∙ sym c.if-contains.ensures)
