use Rattle.std.proofs.Common.{◌≡◌, ◌≢◌, ◌≤◌, refl, ◌∙◌, arith}
use Rattle.flow_worldfile.specs.Worlds.{seen}
use Rattle.flow_shrink.specs.Editing.{TriedFrom}
use Rattle.flow_shrink.proofs.Passing.{no_pass, one_pass, last_pass, none_left, moved, one_more}
use Rattle.flow_shrink.proofs.shrinking.try_all.Goals as goal

pub loop-pass-init : goal.loop-pass-init
loop-pass-init g c = (
  no_pass (g.E.Edits.edit c.args.edits.now) (g.met.E.Edits.fewer c.args.edits.now) _ (seen c.args.world.now) c.requires.stops,
  c.requires.range,
  refl,
  omega arith,
  refl,
  c.requires.ready,
)

pub returns-then-places-before-clause-least : goal.returns-then-places-before-clause-least
returns-then-places-before-clause-least g c =
    let was = c.loop-pass.invariant in
    let tried = moved g.R.Runner.means _ _ _ _ c.args.limit
    (λ S. TriedFrom (g.E.Edits.edit c.args.edits.now) S 0 (seen c.loop-pass.world) (seen c.try_each.new.world)) was.4 was.2 c.in_ok-monitor.ensures.tried in
    let is : (g.E.Edits.edit c.args.edits.now).places (seen c.try_each.new.world) ≡ (g.E.Edits.edit c.args.edits.now).places (seen c.loop-pass.world) =
    omega (arith, c.places.ensures, c.places-before.ensures, c.if-places-before.true)
    in
    last_pass (g.E.Edits.edit c.args.edits.now) (g.met.E.Edits.fewer c.args.edits.now) _ (seen c.args.world.now) (seen c.loop-pass.world) (seen c.try_each.new.world) c.loop-pass._pass was.0 tried is

pub loop-pass-preserved : goal.loop-pass-preserved
loop-pass-preserved g c =
    let was = c.loop-pass.invariant in
    let tried = moved g.R.Runner.means _ _ _ _ c.args.limit
    (λ S. TriedFrom (g.E.Edits.edit c.args.edits.now) S 0 (seen c.loop-pass.world) (seen c.try_each.new.world)) was.4 was.2 c.in_ok-monitor.ensures.tried in
    let other : (g.E.Edits.edit c.args.edits.now).places (seen c.try_each.new.world) ≢ (g.E.Edits.edit c.args.edits.now).places (seen c.loop-pass.world) =
    omega (arith, c.places.ensures, c.places-before.ensures, c.if-places-before.false)
    in
    let few : (g.E.Edits.edit c.args.edits.now).places (seen c.loop-pass.world) ≤ (g.E.Edits.edit c.args.edits.now).places (seen c.args.world.now) = omega (arith, was.0.short) in (
      one_pass (g.E.Edits.edit c.args.edits.now) (g.met.E.Edits.fewer c.args.edits.now) _ (seen c.args.world.now) (seen c.loop-pass.world) (seen c.try_each.new.world) c.loop-pass._pass was.0 tried other,
      c.in_ok-monitor.ensures.range,
      c.in_ok-monitor.ensures.begun ∙ was.2,
      one_more _ _ _ c.loop-pass._pass _ _ was.3 c.try_each.ensures.counted few,
      c.in_ok-monitor.ensures.kept ∙ was.4,
      c.in_ok-monitor.ensures.ready,
    )

pub returns-clause-least : goal.returns-clause-least
returns-clause-least g c =
    let all : (g.E.Edits.edit c.args.edits.now).places (seen c.args.world.now) ≤ c.loop-pass._pass = omega (arith, c.places-pass-end.ensures, c.loop-pass-test.false) in
    none_left (g.E.Edits.edit c.args.edits.now) (g.met.E.Edits.fewer c.args.edits.now) _ (seen c.args.world.now) (seen c.loop-pass.world) c.loop-pass._pass c.loop-pass.invariant.0 all
