use Rattle.std.proofs.Common.{◌≡◌, ◌∷◌, ◌++◌, length}
use Rattle.flow_base.specs.Quote.{spelled_text}
use Rattle.flow_trace.proofs.quote.quote.Given as goal

abbrev pub invariant-loop-run : goal.invariant-loop-run
invariant-loop-run l = l.out.items ++ spelled_text l.rest ≡ 34 ∷ spelled_text l.text

abbrev pub decreases-loop-run : goal.decreases-loop-run
decreases-loop-run l = length l.rest
