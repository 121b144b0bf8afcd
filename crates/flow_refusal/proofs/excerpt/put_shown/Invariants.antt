use Rattle.std.proofs.Common.{◌≡◌, ◌++◌, map, take}
use Rattle.flow_refusal.specs.Note.{shown}
use Rattle.flow_refusal.proofs.excerpt.put_shown.Given as goal

abbrev pub invariant-loop-byte : goal.invariant-loop-byte
invariant-loop-byte l = l.out.items ≡ l.initial.out.items ++ map (shown l.whole) (take l.byte-index l.bytes)
