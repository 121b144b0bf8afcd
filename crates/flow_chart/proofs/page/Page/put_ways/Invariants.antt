use Rattle.std.proofs.Common.{◌≡◌, ◌++◌, map, drop}
use Rattle.std.specs.List.{flat_map}
use Rattle.flow_chart.specs.Elements.{element_bytes}
use Rattle.flow_chart.specs.Picture.{way_element}
use Rattle.flow_chart.proofs.page.Page.put_ways.Given as goal

abbrev pub invariant-loop-way : goal.invariant-loop-way
invariant-loop-way l =
    l.self ++ flat_map element_bytes (map way_element (drop l.way-index l.ways)) ≡ l.initial.self ++ flat_map element_bytes (map way_element l.ways)
