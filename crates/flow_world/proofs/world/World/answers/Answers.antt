use Rattle.std.proofs.Common.{rules, ◌≡◌, inl, inr, refl, sym, subst}
use Rattle.std.specs.Prelude.{Ok, Err, IfErr}
use Rattle.std.proofs.lemmas.Result.{IfErr-weaker}
use Rattle.flow_machine.specs.declared.host.RunFault.TheVariants.{OutOfMemory}
use Rattle.flow_world.specs.Answers.{answer_line}
use Rattle.flow_world.specs.Changes.{seen}
use Rattle.flow_world.specs.Happening.{with_outside}
use Rattle.flow_world.specs.BreakingEvents.{PutFails, ReplyBreaks, served}
use Rattle.flow_world.specs.Worlds.{world_seen}
use Rattle.flow_world.proofs.Happenings.{put_broke, then_broke}
use Rattle.flow_world.proofs.world.World.answers.Goals as goal

pub returns-in_err-put-clause-breaks : goal.returns-in_err-put-clause-breaks
returns-in_err-put-clause-breaks g c =
    let puts = g.L.LineOut.puts in
    let w = world_seen c.args.self.now in
    let n = seen c.serve.new.self in
    let reply = c.in_ok-reply.reply in
    let is : c.from_residual-in_err-put.result ≡ Err c.in_err-put.field-0.0 = search rules in
    let fails : PutFails puts (answer_line c.args.asked.now reply w.ran w.outside.time c.args.p c.args.cell) c.args.out.now c.in_err-put.field-0.0 c.put.new.out = search rules in
    IfErr-weaker c.from_residual-in_err-put.result _ _ (λ f t. served n reply c.in_ok-reply.ensures.served t)
    (put_broke puts c.from_residual-in_err-put.result _ (λ f d. ReplyBreaks puts c.args.p c.args.cell reply (with_outside n w) d f c.put.new.out) _ _ _ is fails)

pub returns-in_err-outcome-clause-breaks : goal.returns-in_err-outcome-clause-breaks
returns-in_err-outcome-clause-breaks g c =
    let puts = g.L.LineOut.puts in
    let w = world_seen c.args.self.now in
    let n = seen c.serve.new.self in
    let reply = c.in_ok-reply.reply in
    let is : c.from_residual-in_err-outcome.result ≡ Err OutOfMemory = search rules in
    let told : puts c.args.out.now (answer_line c.args.asked.now reply w.ran w.outside.time c.args.p c.args.cell) (Ok tt) c.put.new.out = search rules in
    IfErr-weaker c.from_residual-in_err-outcome.result _ _ (λ f t. served n reply c.in_ok-reply.ensures.served t)
    (then_broke puts c.from_residual-in_err-outcome.result _ (λ f d. ReplyBreaks puts c.args.p c.args.cell reply (with_outside n w) d f c.put.new.out) _ _ _ told
    (subst (λ r. IfErr r (λ f. ReplyBreaks puts c.args.p c.args.cell reply (with_outside n w) c.put.new.out f c.put.new.out)) (sym is) (inl (refl, refl))))

pub returns-clause-breaks : goal.returns-clause-breaks
returns-clause-breaks g c =
    let puts = g.L.LineOut.puts in
    let w = world_seen c.args.self.now in
    let n = seen c.serve.new.self in
    let reply = c.in_ok-reply.reply in
    let told : puts c.args.out.now (answer_line c.args.asked.now reply w.ran w.outside.time c.args.p c.args.cell) (Ok tt) c.put.new.out = search rules in
    IfErr-weaker c.runs.result _ _ (λ f t. served n reply c.in_ok-reply.ensures.served t)
    (then_broke puts c.runs.result _ (λ f d. ReplyBreaks puts c.args.p c.args.cell reply (with_outside n w) d f c.runs.new.out) _ _ _ told
    (IfErr-weaker c.runs.result _ _ (λ f t. inr (c.in_ok-outcome.outcome, c.in_ok-outcome.ensures, t)) c.runs.ensures.breaks))
