use Rattle.std.proofs.Common.{◌≡◌, ◌++◌, take}
use Rattle.flow_base.specs.Quote.{spelled_text}
use Rattle.flow_explain.proofs.pieces.LineBytes.put_quoted.Given as goal

abbrev pub invariant-loop-byte : goal.invariant-loop-byte
invariant-loop-byte l = l.self ≡ l.initial.self ++ spelled_text (take l.byte-index l.text)
