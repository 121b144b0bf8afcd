use Rattle.std.proofs.Common.{rules, IfOk, IfErr}
use Rattle.std.proofs.lemmas.Result.{IfErr-weaker, IfOk-weaker}
use Rattle.flow_world.specs.Happening.{Comes, begins}
use Rattle.flow_world.specs.FaultedLines.{Telling, tells, whole}
use Rattle.flow_world.specs.Worlds.{world_seen}
use Rattle.flow_world.proofs.MovedEvents.{comes_by}
use Rattle.flow_world.proofs.MovedBreaking.{moment_breaks_by}
use Rattle.flow_world.specs.BreakingEvents.{MomentFails, breaks_off, went_on}
use Rattle.flow_world.proofs.Telling.{told_whole, told_part, told_fails}
use Rattle.flow_world.proofs.world.World.carries_out.Goals as goal

pub returns-clause-comes : goal.returns-clause-comes
returns-clause-comes g c =
    let puts = g.L.LineOut.puts in
    let last = c.comes-burst.new.out in
    let first = begins c.args.time (world_seen c.args.self.now) in
    let left = world_seen c.comes-burst.new.self in
    let t : Telling _ = record { out = last.out.now; fault = last.fault } in
    let told : IfOk c.comes-burst.result (λ e. Comes (tells puts) c.args.scripted first (whole c.args.out.now) e left t) =
    IfOk-weaker c.comes-burst.result _ _ (λ e does. comes_by (λ k. record { out = k.out.now; fault = k.fault }) _ (tells puts) (λ a b l p. p) c.args.scripted first _ e left _ does)
    c.comes-burst.ensures.comes in
    told_whole (λ e z. Comes (tells puts) c.args.scripted first (whole c.args.out.now) e left z) t _ c.comes-burst.result c.unless_failed.result (search rules) c.unless_failed.ensures told

pub returns-clause-breaks : goal.returns-clause-breaks
returns-clause-breaks g c =
    let puts = g.L.LineOut.puts in
    let last = c.comes-burst.new.out in
    let first = begins c.args.time (world_seen c.args.self.now) in
    let left = world_seen c.comes-burst.new.self in
    let t : Telling _ = record { out = last.out.now; fault = last.fault } in
    let told : IfOk c.comes-burst.result (λ e. Comes (tells puts) c.args.scripted first (whole c.args.out.now) e left t) =
    IfOk-weaker c.comes-burst.result _ _ (λ e does. comes_by (λ k. record { out = k.out.now; fault = k.fault }) _ (tells puts) (λ a b l p. p) c.args.scripted first _ e left _ does)
    c.comes-burst.ensures.comes in
    told_part (λ e z. Comes (tells puts) c.args.scripted first (whole c.args.out.now) e left z) t _ c.comes-burst.result c.unless_failed.result
    (search rules) c.unless_failed.ensures c.comes-burst.ensures.cause told

pub returns-clause-fails : goal.returns-clause-fails
returns-clause-fails g c =
    let puts = g.L.LineOut.puts in
    let last = c.comes-burst.new.out in
    let w = world_seen c.args.self.now in
    let first = begins c.args.time w in
    let left = world_seen c.comes-burst.new.self in
    let t : Telling _ = record { out = last.out.now; fault = last.fault } in
    let told : IfOk c.comes-burst.result (λ e. Comes (tells puts) c.args.scripted first (whole c.args.out.now) e left t) =
    IfOk-weaker c.comes-burst.result _ _ (λ e does. comes_by (λ k. record { out = k.out.now; fault = k.fault }) _ (tells puts) (λ a b l p. p) c.args.scripted first _ e left _ does)
    c.comes-burst.ensures.comes in
    let broke : IfErr c.comes-burst.result (λ f. MomentFails puts c.args.time c.args.scripted w (whole c.args.out.now) f t) =
    IfErr-weaker c.comes-burst.result _ _
    (λ f b. breaks_off (moment_breaks_by (λ k. record { out = k.out.now; fault = k.fault }) _ (tells puts) (λ a b l r p. p) c.args.time c.args.scripted w _ f _ b))
    c.comes-burst.ensures.breaks in
    IfErr-weaker c.unless_failed.result _ _ (λ f x. (t, (search rules), x))
    (told_fails (λ e z. Comes (tells puts) c.args.scripted first (whole c.args.out.now) e left z) (λ f z. MomentFails puts c.args.time c.args.scripted w (whole c.args.out.now) f z) t
    c.comes-burst.result c.unless_failed.result c.unless_failed.ensures broke told (λ f e fault is failed does. went_on fault e left is failed does))
