use Rattle.std.proofs.Common.{◌≡◌, ℕ, List, [], length}
use Rattle.flow_tree.specs.Lexing.{ReadsTokens, place_after}
use Rattle.flow_lex.proofs.lex.lex.Given as goal

abbrev pub invariant-loop-rest : goal.invariant-loop-rest
invariant-loop-rest l = (before : List ℕ) × (l.at ≡ place_after before) × ReadsTokens [] l.fn.bytes l.spots.items before l.rest

abbrev pub decreases-loop-rest : goal.decreases-loop-rest
decreases-loop-rest l = length l.rest
