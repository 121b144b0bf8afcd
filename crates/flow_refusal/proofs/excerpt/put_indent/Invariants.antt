use Rattle.std.proofs.Common.{◌≡◌, ◌++◌, drop}
use Rattle.flow_refusal.specs.Note.{under}
use Rattle.flow_refusal.proofs.excerpt.put_indent.Given as goal

abbrev pub invariant-loop-byte : goal.invariant-loop-byte
invariant-loop-byte l = l.out.items ++ under l.whole (drop l.byte-index l.bytes) ≡ l.initial.out.items ++ under l.whole l.bytes
