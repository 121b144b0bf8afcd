use Rattle.std.proofs.Common.{◌≡◌, ◌++◌, take}
use Rattle.flow_show.specs.Lines.{more_names_text}
use Rattle.flow_show.proofs.source.Source.put_more_names.Given as goal

abbrev pub invariant-loop-name : goal.invariant-loop-name
invariant-loop-name l = l.self ≡ l.initial.self ++ more_names_text (take l.name-index l.names)
