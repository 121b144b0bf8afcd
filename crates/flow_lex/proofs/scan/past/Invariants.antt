use Rattle.std.proofs.Common.{◌≡◌, ◌+◌, ◌≤◌, ◌++◌, List, ℕ, take}
use Rattle.flow_tree.specs.Lexing.{place_after}
use Rattle.flow_lex.proofs.scan.past.Given as goal

abbrev pub invariant-loop-b : goal.invariant-loop-b
invariant-loop-b l = record {
  place : (before : List ℕ) → l.fn.at ≡ place_after before → l.place ≡ place_after (before ++ take l.b-index l.bytes);
  line : l.place.line ≤ l.fn.at.line + l.b-index;
  column : l.place.column ≤ l.fn.at.column + l.b-index;
  byte : l.place.byte ≡ l.fn.at.byte + l.b-index;
}
