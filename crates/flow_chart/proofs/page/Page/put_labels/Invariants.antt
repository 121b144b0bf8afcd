use Rattle.std.proofs.Common.{◌≡◌, ◌-◌, ◌++◌}
use Rattle.std.specs.List.{range_with_len}
use Rattle.flow_chart.proofs.Gathered.{label_bytes}
use Rattle.flow_chart.proofs.page.Page.put_labels.Given as goal

abbrev pub invariant-loop-process : goal.invariant-loop-process
invariant-loop-process l =
    l.self ++ label_bytes (range_with_len l.process (l.processes - l.process)) ≡ l.initial.self ++ label_bytes (range_with_len 0 l.processes)
