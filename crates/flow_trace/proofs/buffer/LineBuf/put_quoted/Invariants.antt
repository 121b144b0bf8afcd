use Rattle.std.proofs.Common.{◌≡◌, ◌≤◌, ◌+◌, ◌*◌, ◌++◌, length}
use Rattle.flow_base.specs.Quote.{spelled_text}
use Rattle.flow_trace.proofs.buffer.LineBuf.put_quoted.Given as goal

abbrev pub invariant-loop-run : goal.invariant-loop-run
invariant-loop-run l = record {
  written : l.self ++ spelled_text l.rest ≡ l.initial.self ++ spelled_text l.text;
  room : length l.self + 4 * length l.rest ≤ length l.initial.self + 4 * length l.text;
}

abbrev pub decreases-loop-run : goal.decreases-loop-run
decreases-loop-run l = length l.rest
