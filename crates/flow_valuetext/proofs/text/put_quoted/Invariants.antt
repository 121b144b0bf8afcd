use Rattle.std.proofs.Common.{◌≡◌, ◌++◌, drop}
use Rattle.flow_base.specs.Quote.{spelled_text}
use Rattle.flow_valuetext.proofs.text.put_quoted.Given as goal

abbrev pub invariant-loop-byte : goal.invariant-loop-byte
invariant-loop-byte l = l.out.items ++ spelled_text (drop l.byte-index l.text) ≡ l.initial.out.items ++ spelled_text l.text
