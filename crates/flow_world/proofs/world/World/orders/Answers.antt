use Rattle.std.proofs.Common.{rules, sym, subst}
use Rattle.std.specs.Prelude.{Ok, IfErr}
use Rattle.flow_trace.specs.declared.line.Line.TheVariants as line
use Rattle.flow_world.specs.declared.action.EventAction.TheVariants.{Stops}
use Rattle.flow_world.specs.BreakingEvents.{NoLink, NoDisk, RunsBreaks, OnlyStuck, OrderedBreaks}
use Rattle.flow_world.specs.Worlds.{world_seen}
use Rattle.flow_world.proofs.Happenings.{then_broke, only_stuck}
use Rattle.flow_world.proofs.world.World.orders.Goals as goal

pub returns-in_ok-put-in-Stop-clause-breaks : goal.returns-in_ok-put-in-Stop-clause-breaks
returns-in_ok-put-in-Stop-clause-breaks g c =
    let puts = g.L.LineOut.puts in
    let w = world_seen c.args.self.now in
    let told : puts c.args.out.now (line.Stop w.ran w.outside.time c.in-Stop.p) (Ok tt) c.put.new.out = search rules in
    subst (λ act. IfErr c.runs.result (λ f. OrderedBreaks puts act w c.args.out.now f c.runs.new.out)) (sym c.in-Stop.is)
    (then_broke puts c.runs.result _ (λ f d. RunsBreaks puts c.in-Stop.p Stops w d f c.runs.new.out) _ _ _ told c.runs.ensures.breaks)

pub returns-in_ok-put-in-Cut-clause-breaks : goal.returns-in_ok-put-in-Cut-clause-breaks
returns-in_ok-put-in-Cut-clause-breaks g c =
    let puts = g.L.LineOut.puts in
    let w = world_seen c.args.self.now in
    let out = c.put-in-Cut.new.out in
    let told : puts c.args.out.now (line.Cut w.ran w.outside.time c.in-Cut.p c.in-Cut.q) (Ok tt) out = search rules in
    subst (λ act. IfErr c.cuts.result (λ f. OrderedBreaks puts act w c.args.out.now f out)) (sym c.in-Cut.is)
    (then_broke puts c.cuts.result _ (λ f d. OnlyStuck puts (NoLink c.in-Cut.p c.in-Cut.q w) f out d) _ _ _ told (only_stuck puts (NoLink c.in-Cut.p c.in-Cut.q w) out c.cuts.result c.cuts.ensures.stuck))

pub returns-in_ok-put-in-Heal-clause-breaks : goal.returns-in_ok-put-in-Heal-clause-breaks
returns-in_ok-put-in-Heal-clause-breaks g c =
    let puts = g.L.LineOut.puts in
    let w = world_seen c.args.self.now in
    let out = c.put-in-Heal.new.out in
    let told : puts c.args.out.now (line.Heal w.ran w.outside.time c.in-Heal.p c.in-Heal.q) (Ok tt) out = search rules in
    subst (λ act. IfErr c.heals.result (λ f. OrderedBreaks puts act w c.args.out.now f out)) (sym c.in-Heal.is)
    (then_broke puts c.heals.result _ (λ f d. OnlyStuck puts (NoLink c.in-Heal.p c.in-Heal.q w) f out d) _ _ _ told (only_stuck puts (NoLink c.in-Heal.p c.in-Heal.q w) out c.heals.result c.heals.ensures.stuck))

pub returns-in_ok-put-in-DiskFail-clause-breaks : goal.returns-in_ok-put-in-DiskFail-clause-breaks
returns-in_ok-put-in-DiskFail-clause-breaks g c =
    let puts = g.L.LineOut.puts in
    let w = world_seen c.args.self.now in
    let out = c.put-in-DiskFail.new.out in
    let told : puts c.args.out.now (line.DiskFail w.ran w.outside.time c.in-DiskFail.p c.in-DiskFail.count) (Ok tt) out = search rules in
    subst (λ act. IfErr c.fails.result (λ f. OrderedBreaks puts act w c.args.out.now f out)) (sym c.in-DiskFail.is)
    (then_broke puts c.fails.result _ (λ f d. OnlyStuck puts (NoDisk c.in-DiskFail.p w) f out d) _ _ _ told (only_stuck puts (NoDisk c.in-DiskFail.p w) out c.fails.result c.fails.ensures.stuck))
