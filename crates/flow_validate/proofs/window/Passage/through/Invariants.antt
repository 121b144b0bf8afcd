use Rattle.std.proofs.Common.{take}
use Rattle.flow_class.specs.declared.class.Slotted as place
use Rattle.flow_validate.specs.Following.{ArePassing, Passing, passed}
use Rattle.flow_validate.proofs.window.Passage.through.Given as goal

abbrev pub invariant-loop-touch : goal.invariant-loop-touch
invariant-loop-touch l =
    (s : place.Slotted → Passing) → ArePassing l.window l.fn.self s → ArePassing l.window l.passage (λ q. passed q (take l.touch-index l.touches) (s q))
