use Rattle.std.proofs.Common.{◌≡◌, ◌++◌}
use Rattle.flow_tree.specs.Canon.{indent}
use Rattle.flow_show.proofs.source.Source.put_indent.Given as goal

abbrev pub invariant-loop-done : goal.invariant-loop-done
invariant-loop-done l = l.self ≡ l.initial.self ++ indent l._done
