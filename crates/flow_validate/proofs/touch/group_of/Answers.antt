use Rattle.std.proofs.Common.{◌<◌, ◌≤◌, ◌-◌, length, get_or, sym, ap, ◌∙◌, arith}
use Rattle.flow_validate.proofs.Groups.{group_there, group_none}
use Rattle.flow_validate.proofs.touch.group_of.Goals as goal

pub returns-in-Some : goal.returns-in-Some
returns-in-Some c =
    let gs = c.args.class.now.groups.items in
    let n = c.args.number in
    let g = c.in-Some.group.now in
    let within : n - 1 < length c.deref.result.now = grind (arith, c.in-Some.ensures.lookup) in
    sym (group_there gs n g (omega (arith, c.if-number-eq0.false)) (omega (arith, within, ap length c.deref.ensures.value))
    (c.in-Some.ensures.lookup.1 ∙ ap (λ l. get_or l (n - 1) g) c.deref.ensures.value))

pub returns-in-None : goal.returns-in-None
returns-in-None c =
    let beyond : length c.deref.result.now ≤ c.args.number - 1 = grind (arith, c.in-None.ensures.lookup) in
    sym (group_none c.args.class.now.groups.items c.args.number (omega (arith, c.if-number-eq0.false))
    (omega (arith, beyond, ap length c.deref.ensures.value)))
