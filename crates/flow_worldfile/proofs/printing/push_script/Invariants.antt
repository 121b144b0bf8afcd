use Rattle.std.proofs.Common.{◌≡◌, ◌++◌, map, take}
use Rattle.std.specs.List.{flat_map}
use Rattle.std.specs.String.{string_bytes}
use Rattle.flow_worldfile.specs.Directives.{line_text}
use Rattle.flow_worldfile.specs.Worlds.{timed, at_line}
use Rattle.flow_worldfile.proofs.printing.push_script.Given as goal

abbrev pub invariant-loop-at : goal.invariant-loop-at
invariant-loop-at l = string_bytes l.out ≡ string_bytes l.initial.out ++ flat_map line_text (map at_line (map timed (take l.at-index l.script)))
