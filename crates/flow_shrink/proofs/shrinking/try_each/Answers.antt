use Rattle.std.proofs.Common.{◌≡◌, ◌+◌, ◌-◌, refl, ◌∙◌, arith}
use Rattle.flow_worldfile.specs.Worlds.{seen}
use Rattle.flow_shrink.specs.Editing.{Tried}
use Rattle.flow_shrink.proofs.Removing.{rises}
use Rattle.flow_shrink.proofs.Passing.{none_tried, one_tried, all_tried, moved}
use Rattle.flow_shrink.proofs.shrinking.try_each.Goals as goal

pub loop-place-init : goal.loop-place-init
loop-place-init g c = (
  none_tried (g.E.Edits.edit c.args.edits.now) (g.met.E.Edits.fewer c.args.edits.now) _ (seen c.args.world.now) c.places-place.result c.places-place.ensures c.requires.stops,
  c.requires.range,
  refl,
  omega (arith, c.places-place.ensures),
  refl,
  c.requires.ready,
)

pub loop-place-preserved : goal.loop-place-preserved
loop-place-preserved g c =
    let was = c.loop-place.invariant in
    let k = c.loop-place.place - 1 in
    let place : c.loop-place.place ≡ k + 1 = omega (arith, c.loop-place-test.true) in
    let tried = moved g.R.Runner.means _ _ _ _ c.args.limit
    (λ S. Tried (g.E.Edits.edit c.args.edits.now) S k (seen c.loop-place.world) (seen c.try_place.new.world)) was.4 was.2 c.in_ok-monitor.ensures.tried in (
      one_tried (g.E.Edits.edit c.args.edits.now) (g.met.E.Edits.fewer c.args.edits.now) _ (seen c.args.world.now) (seen c.loop-place.world) (seen c.try_place.new.world) k c.loop-place.place place was.0 tried,
      c.in_ok-monitor.ensures.range,
      c.in_ok-monitor.ensures.begun ∙ was.2,
      (let rose = rises (g.R.Runner.count c.loop-place.runner) in omega (arith, c.try_place.ensures.counted, rose, was.3, place)),
      c.in_ok-monitor.ensures.kept ∙ was.4,
      c.in_ok-monitor.ensures.ready,
    )

pub returns-clause-tried : goal.returns-clause-tried
returns-clause-tried g c =
    let none : c.loop-place.place ≡ 0 = omega (arith, c.loop-place-test.false) in
    all_tried (g.E.Edits.edit c.args.edits.now) (g.met.E.Edits.fewer c.args.edits.now) _ (seen c.args.world.now) (seen c.loop-place.world) c.loop-place.place none c.loop-place.invariant.0
