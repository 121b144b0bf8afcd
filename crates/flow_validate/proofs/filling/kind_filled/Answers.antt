use Rattle.std.proofs.Common.{◌*◌, ◌+◌, ◌/◌, ◌%◌, ◌<◌, ◌≤◌, ◌≡◌, min, ℕ, subst, arith}
use Rattle.std.proofs.lemmas.Grind.{div_ceil_times}
use Rattle.flow_class.specs.View.{class_of}
use Rattle.flow_validate.specs.Following.{place_in}
use Rattle.flow_validate.specs.WalkStates.{IsFilled, FilledOr}
use Rattle.flow_validate.proofs.Everywhere.{more_filled}
use Rattle.flow_validate.proofs.filling.kind_filled.Goals as goal

pub loop-number-preserved : goal.loop-number-preserved
loop-number-preserved c =
    let class = class_of c.args.class.now in
    let n = c.loop-number.number in
    more_filled class c.args.locals n c.loop-number.invariant
    (subst (FilledOr class ((j : ℕ) → j < 64 → IsFilled class (place_in (record { locals = c.args.locals; first = 64 * n }) j))) c.if-not-branch.false c.in_ok-window_filled.ensures)

pub returns : goal.returns
returns c = λ n lt.
    let above = (div_ceil_times c.args.count 64 (omega arith)).0 in
    let times : (c.args.count / 64 + min 1 (c.args.count % 64)) * 64 ≡ 64 * (c.args.count / 64 + min 1 (c.args.count % 64)) = omega arith in
    let last : c.args.count / 64 + min 1 (c.args.count % 64) ≤ c.loop-number.number = subst (λ (m : ℕ). m ≤ c.loop-number.number) c.div_ceil-number-end.ensures c.loop-number-test.false in
    c.loop-number.invariant n (omega (arith, lt, above, times, last))
