use Rattle.std.proofs.Common.{◌≡◌, ◌++◌, drop}
use Rattle.std.specs.List.{flat_map}
use Rattle.flow_chart.specs.Elements.{escaped_byte}
use Rattle.flow_chart.proofs.page.Page.put_text.Given as goal

abbrev pub invariant-loop-sign : goal.invariant-loop-sign
invariant-loop-sign l =
    l.self ++ flat_map escaped_byte (drop l.sign-index l.text) ≡ l.initial.self ++ flat_map escaped_byte l.text
