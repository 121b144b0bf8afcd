use Rattle.std.proofs.Common.{◌≡◌, ℕ, ◌*◌, ◌<◌, false}
use Rattle.flow_simplify.specs.Common.{is_common}
use Rattle.flow_simplify.proofs.common.common_word.Given as goal

-- none of those before was one
abbrev pub invariant-loop-k : goal.invariant-loop-k
invariant-loop-k l = (j : ℕ) → j < l.k → is_common (j * l.step) l.world.loss ≡ false
