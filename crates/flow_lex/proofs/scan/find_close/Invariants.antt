use Rattle.std.proofs.Common.{◌≡◌, ◌+◌, drop}
use Rattle.std.specs.Option.{option_map}
use Rattle.flow_tree.specs.Spelling.{close_position}
use Rattle.flow_lex.proofs.scan.find_close.Given as goal

abbrev pub invariant-loop-at : goal.invariant-loop-at
invariant-loop-at l = close_position l.text ≡ option_map (λ k. l.at + k) (close_position (drop l.at l.text))
