use Rattle.std.proofs.Common.{◌≡◌, ◌++◌, map, drop}
use Rattle.std.specs.List.{flat_map}
use Rattle.flow_chart.specs.Elements.{element_bytes}
use Rattle.flow_chart.specs.Picture.{bar_element}
use Rattle.flow_chart.proofs.page.Page.put_bars.Given as goal

abbrev pub invariant-loop-bar : goal.invariant-loop-bar
invariant-loop-bar l =
    l.self ++ flat_map element_bytes (map bar_element (drop l.bar-index l.bars)) ≡ l.initial.self ++ flat_map element_bytes (map bar_element l.bars)
