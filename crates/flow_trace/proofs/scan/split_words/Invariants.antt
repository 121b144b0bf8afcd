use Rattle.std.proofs.Common.{◌≡◌, take}
use Rattle.flow_trace.specs.Scan.{scan}
use Rattle.flow_trace.proofs.scan.split_words.Given as goal

abbrev pub invariant-loop-byte : goal.invariant-loop-byte
invariant-loop-byte l = l.scanner ≡ scan (take l.byte-index l.bytes)
