use Rattle.std.proofs.Common.{◌≡◌, ◌-◌, ◌++◌}
use Rattle.std.specs.List.{range_with_len}
use Rattle.flow_chart.proofs.Gathered.{bars_bytes}
use Rattle.flow_chart.proofs.page.Page.put_bars_left.Given as goal

abbrev pub invariant-loop-process : goal.invariant-loop-process
invariant-loop-process l =
    l.self ++ bars_bytes l.row l.uptimes.since (range_with_len l.process (l.processes - l.process))
    ≡ l.initial.self ++ bars_bytes l.row l.uptimes.since (range_with_len 0 l.processes)
