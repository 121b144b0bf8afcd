use Rattle.std.proofs.Common.{◌<◌, ◌≤◌, length, arith}
use Rattle.std.proofs.lemmas.Bool.Decides.{nat_tests}
use Rattle.flow_eval.proofs.Elements.{element_there, element_past}
use Rattle.flow_eval.proofs.predefined.element.Goals as goal

pub returns-in_ok-copy-in-Some : goal.returns-in_ok-copy-in-Some
returns-in_ok-copy-in-Some c =
    let within : c.in-Ok.index < length c.args.items.now = grind (arith, nat_tests, c.in-Some.ensures.lookup.0) in
    element_there c.args.items.now c.args.index c.in-Ok.index c.in-Some.item.now c.in_ok-copy-in-Some.field-0 c.ranges.index c.in-Ok.ensures.0 c.in-Ok.ensures.1
    within c.in-Some.ensures.lookup.1 c.in_ok-copy-in-Some.ensures

pub returns-in-None : goal.returns-in-None
returns-in-None c =
    let past : length c.args.items.now ≤ c.in-Ok.index = omega (arith, c.in-None.ensures.lookup.3) in
    element_past c.args.items.now c.args.index c.in-Ok.index c.ranges.index c.in-Ok.ensures.0 c.in-Ok.ensures.1 past
