use Rattle.std.proofs.Common.{rules, ◌≡◌, refl, sym, ap, subst, map}
use Rattle.std.specs.Prelude.{Ok, Err, IfErr}
use Rattle.flow_trace.specs.declared.line.Line.TheVariants as line
use Rattle.flow_meaning.specs.World.{kept_line}
use Rattle.flow_machine.specs.declared.host.RunFault.TheVariants.{OutOfMemory}
use Rattle.flow_world.specs.Changes.{seen}
use Rattle.flow_world.specs.Around.{PutsPart}
use Rattle.flow_world.specs.BreakingEvents.{LossBreaks, not_lost, lost}
use Rattle.flow_world.specs.Worlds.{world_seen}
use Rattle.flow_world.proofs.Happenings.{then_broke, memory_not_stuck}
use Rattle.flow_world.proofs.Putting.{part_all}
use Rattle.flow_world.proofs.world.World.kills.Goals as goal

pub returns-in_err-fates-clause-breaks : goal.returns-in_err-fates-clause-breaks
returns-in_err-fates-clause-breaks g c =
    let puts = g.L.LineOut.puts in
    let w = world_seen c.args.self.now in
    let is : c.from_residual-in_err-fates.result ≡ Err c.in_err-fates.field-0.0 = search rules in
    let told : puts c.args.out.now (line.Kill w.ran w.outside.time c.args.p) (Ok tt) c.put.new.out = search rules in
    then_broke puts c.from_residual-in_err-fates.result _ (λ f d. LossBreaks puts c.args.p w d f c.put.new.out) _ _ _ told
    (subst (λ r. IfErr r (λ f. LossBreaks puts c.args.p w c.put.new.out f c.put.new.out)) (sym is) (not_lost (λ e. c.in_err-fates.ensures.stuck (ap Err e)) refl))

pub returns-in_err-put_kept-clause-breaks : goal.returns-in_err-put_kept-clause-breaks
returns-in_err-put_kept-clause-breaks g c =
    let puts = g.L.LineOut.puts in
    let same : c.deref.result.now ≡ c.in_ok-fates.fates.items = search rules in
    let w = world_seen c.args.self.now in
    let is : c.from_residual-in_err-put_kept.result ≡ Err c.in_err-put_kept.field-0.0 = search rules in
    let told : puts c.args.out.now (line.Kill w.ran w.outside.time c.args.p) (Ok tt) c.put.new.out = search rules in
    then_broke puts c.from_residual-in_err-put_kept.result _ (λ f d. LossBreaks puts c.args.p w d f c.put_kept.new.out) _ _ _ told
    (subst (λ r. IfErr r (λ f. LossBreaks puts c.args.p w c.put.new.out f c.put_kept.new.out)) (sym is)
    (lost c.in_ok-fates.fates.items (seen c.lose_disk.new.self) c.in_ok-fates.ensures.lost
    (subst (λ ks. PutsPart puts c.put.new.out (map kept_line ks) c.put_kept.new.out) same c.in_err-put_kept.ensures.part) (λ e. absurd (c.in_err-put_kept.ensures.never (ap Err e)))))

pub returns-in_err-forget-clause-breaks : goal.returns-in_err-forget-clause-breaks
returns-in_err-forget-clause-breaks g c =
    let puts = g.L.LineOut.puts in
    let same : c.deref.result.now ≡ c.in_ok-fates.fates.items = search rules in
    let w = world_seen c.args.self.now in
    let is : c.from_residual-in_err-forget.result ≡ Err OutOfMemory = search rules in
    let told : puts c.args.out.now (line.Kill w.ran w.outside.time c.args.p) (Ok tt) c.put.new.out = search rules in
    then_broke puts c.from_residual-in_err-forget.result _ (λ f d. LossBreaks puts c.args.p w d f c.put_kept.new.out) _ _ _ told
    (subst (λ r. IfErr r (λ f. LossBreaks puts c.args.p w c.put.new.out f c.put_kept.new.out)) (sym is)
    (lost c.in_ok-fates.fates.items (seen c.lose_disk.new.self) c.in_ok-fates.ensures.lost
    (subst (λ ks. PutsPart puts c.put.new.out (map kept_line ks) c.put_kept.new.out) same (part_all puts c.put.new.out c.put_kept.new.out _ c.in_ok-put_kept.ensures.puts)) (λ e. absurd (memory_not_stuck e))))

pub returns-in_err-vanishes-clause-breaks : goal.returns-in_err-vanishes-clause-breaks
returns-in_err-vanishes-clause-breaks g c =
    let puts = g.L.LineOut.puts in
    let same : c.deref.result.now ≡ c.in_ok-fates.fates.items = search rules in
    let w = world_seen c.args.self.now in
    let is : c.from_residual-in_err-vanishes.result ≡ Err c.in_err-vanishes.field-0.0 = search rules in
    let told : puts c.args.out.now (line.Kill w.ran w.outside.time c.args.p) (Ok tt) c.put.new.out = search rules in
    then_broke puts c.from_residual-in_err-vanishes.result _ (λ f d. LossBreaks puts c.args.p w d f c.put_kept.new.out) _ _ _ told
    (subst (λ r. IfErr r (λ f. LossBreaks puts c.args.p w c.put.new.out f c.put_kept.new.out)) (sym is)
    (lost c.in_ok-fates.fates.items (seen c.lose_disk.new.self) c.in_ok-fates.ensures.lost
    (subst (λ ks. PutsPart puts c.put.new.out (map kept_line ks) c.put_kept.new.out) same (part_all puts c.put.new.out c.put_kept.new.out _ c.in_ok-put_kept.ensures.puts)) (λ e. c.in_err-vanishes.ensures.stuck (ap Err e))))
