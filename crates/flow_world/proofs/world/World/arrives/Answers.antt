use Rattle.std.proofs.Common.{rules, ◌≡◌, refl, subst}
use Rattle.std.specs.Prelude.{Ok, slice_get}
use Rattle.std.proofs.lemmas.Result.{IfErr-weaker}
use Rattle.flow_trace.specs.declared.line.Line.TheVariants as line
use Rattle.flow_world.specs.Happening.{HeardIn, arrived, with_net}
use Rattle.std.specs.declared.option.Option.TheVariants.{None}
use Rattle.flow_world.specs.Representing.{letter_at}
use Rattle.flow_world.specs.BreakingEvents.{TakenBreaks, ArrivalBreaks, line_put, not_on_way, not_taken}
use Rattle.flow_world.specs.Worlds.{world_seen}
use Rattle.flow_world.proofs.Happenings.{then_broke}
use Rattle.flow_world.proofs.Letters.{letter_comes}
use Rattle.flow_world.proofs.world.World.arrives.Goals as goal

pub returns-in_default-clause-breaks : goal.returns-in_default-clause-breaks
returns-in_default-clause-breaks g c =
    let puts = g.L.LineOut.puts in
    let w = world_seen c.args.self.now in
    let told : puts c.args.out.now (line.Arrival w.ran w.outside.time c.args.p c.args.packet) (Ok tt) c.put.new.out = search rules in
    let none : letter_at w.outside.net.on_way c.args.packet ≡ None = search rules in
    line_put c.put.new.out told (not_on_way refl none)

pub returns-clause-breaks : goal.returns-clause-breaks
returns-clause-breaks g c =
    let puts = g.L.LineOut.puts in
    let heard = c.listener-heard.result in
    let w = world_seen c.args.self.now in
    let x = letter_comes c.args.packet _ c.arrive.result c.in-Some.packet c.arrive.ensures.packet c.in-Some.is in
    let hears = subst (λ k. HeardIn (slice_get w.places c.args.p.0) k.port heard) x.2 c.listener-heard.ensures in
    let told : puts c.args.out.now (line.Arrival w.ran w.outside.time c.args.p c.args.packet) (Ok tt) c.put.new.out = search rules in
    then_broke puts c.takes.result _ (λ f d. ArrivalBreaks puts c.args.p c.args.packet w d f c.takes.new.out) _ _ _ told
    (IfErr-weaker c.takes.result _ _
    (λ f t.
    let taken = subst (λ net. TakenBreaks puts heard c.args.p c.in-Some.packet (with_net net w) c.put.new.out f c.takes.new.out) c.arrive.ensures.left t in
    not_taken x.0 heard x.1 hears (subst (λ k. TakenBreaks puts heard c.args.p k (arrived c.args.packet w) c.put.new.out f c.takes.new.out) x.2 taken))
    c.takes.ensures.breaks)
