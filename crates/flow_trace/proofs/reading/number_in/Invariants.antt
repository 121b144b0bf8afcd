use Rattle.std.proofs.Common.{◌≡◌, take}
use Rattle.flow_trace.specs.Reading.{number_in}
use Rattle.flow_trace.proofs.reading.number_in.Given as goal

abbrev pub invariant-loop-byte : goal.invariant-loop-byte
invariant-loop-byte l = l.number ≡ number_in (take l.byte-index l.word)
