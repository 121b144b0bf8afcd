use Rattle.std.proofs.Common.{◌≡◌, ◌*◌, ap, ap₂, sym, ◌∙◌, subst, arith}
use Rattle.flow_worldfile.specs.Worlds.{seen}
use Rattle.flow_simplify.specs.Common.{IsCommon, least, permille, is_common}
use Rattle.flow_simplify.proofs.common.common_word.Goals as goal

pub returns-then-is_common : goal.returns-then-is_common
returns-then-is_common c =
    let w = seen c.args.world.now in
    let is : c.from.result * c.from-in-loop-k.result ≡ c.loop-k.k * c.step-step.result = ap₂ (λ a b. a * b) c.from.ensures c.from-in-loop-k.ensures in
    subst (IsCommon w) (sym is)
    (least c.step-step.result c.loop-k.k c.step-step.ensures (omega (arith, c.loop-k-test.true))
    (ap (λ x. is_common x w.loss) (sym is) ∙ sym c.is_common.ensures ∙ c.if-is_common.true) c.loop-k.invariant)

pub returns : goal.returns
returns c =
    subst (IsCommon (seen c.args.world.now)) (sym c.from-2.ensures)
    (permille c.step-step.result c.step-step.ensures (λ j lt. c.loop-k.invariant j (omega (arith, lt, c.loop-k-test.false))))
