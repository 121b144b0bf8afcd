use Rattle.std.proofs.Common.{◌≡◌, ◌++◌, map, drop}
use Rattle.std.specs.List.{flat_map}
use Rattle.flow_chart.specs.Elements.{attribute_bytes}
use Rattle.flow_chart.specs.Pages.{attribute_of}
use Rattle.flow_chart.proofs.page.Page.open.Given as goal

abbrev pub invariant-loop-attribute : goal.invariant-loop-attribute
invariant-loop-attribute l =
    l.self ++ flat_map attribute_bytes (map attribute_of (drop l.attribute-index l.attributes))
    ≡ l.initial.self ++ flat_map attribute_bytes (map attribute_of l.attributes)
