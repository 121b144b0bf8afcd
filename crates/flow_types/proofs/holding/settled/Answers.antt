use Rattle.std.proofs.Common.{length, refl, subst}
use Rattle.flow_types.specs.Holding.{SweptTo}
use Rattle.flow_types.proofs.Levels.{sweeps_start, sweeps_less, sweeps_end}
use Rattle.flow_types.proofs.holding.settled.Goals as goal

pub sweeps-init : goal.sweeps-init
sweeps-init c = sweeps_start c.args.uses.now c.in_ok-marks.marks.items (length c.args.uses.now) refl c.in_ok-marks.ensures

pub sweeps-preserved : goal.sweeps-preserved
sweeps-preserved c = (c.sweep.ensures.length, (c.sweep.ensures.swept 0).sound c.sweeps.invariant.1)

pub sweeps-smaller : goal.sweeps-smaller
sweeps-smaller c =
    sweeps_less c.args.uses.now c.sweeps.marks.items c.sweep.new.marks.items c.sweeps.invariant.0 c.sweep.ensures.length
    (λ n. subst (λ b. SweptTo c.args.uses.now n c.sweeps.marks.items c.sweep.new.marks.items b) c.sweeps-test.true (c.sweep.ensures.swept n))

pub returns : goal.returns
returns c =
    sweeps_end c.args.uses.now c.sweeps.marks.items c.sweep.new.marks.items c.sweep.ensures.length c.sweeps.invariant.1
    (λ n. subst (λ b. SweptTo c.args.uses.now n c.sweeps.marks.items c.sweep.new.marks.items b) c.sweeps-test.false (c.sweep.ensures.swept n))
