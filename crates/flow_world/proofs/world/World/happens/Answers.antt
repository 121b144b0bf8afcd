use Rattle.std.proofs.Common.{rules, sym, subst}
use Rattle.std.specs.Prelude.{Ok, IfErr}
use Rattle.flow_world.specs.BreakingEvents.{RunsBreaks, HappenedBreaks}
use Rattle.flow_world.specs.declared.action.EventAction.TheVariants.{Delivers}
use Rattle.flow_value.specs.declared.value.Value.TheVariants.{Void}
use Rattle.flow_value.specs.declared.value.Outcome.TheVariants as outcome
use Rattle.flow_trace.specs.declared.line.Line.TheVariants as line
use Rattle.flow_world.proofs.Happenings.{then_broke}
use Rattle.flow_world.specs.Worlds.{world_seen}
use Rattle.flow_world.proofs.world.World.happens.Goals as goal

pub returns-in-Arrives-clause-breaks : goal.returns-in-Arrives-clause-breaks
returns-in-Arrives-clause-breaks g c =
    subst (λ what. IfErr c.arrives.result (λ f. HappenedBreaks g.L.LineOut.puts what (world_seen c.args.self.now) c.args.out.now f c.arrives.new.out)) (sym c.in-Arrives.is) c.arrives.ensures.breaks

pub returns-in-Answers-clause-breaks : goal.returns-in-Answers-clause-breaks
returns-in-Answers-clause-breaks g c =
    subst (λ what. IfErr c.answers.result (λ f. HappenedBreaks g.L.LineOut.puts what (world_seen c.args.self.now) c.args.out.now f c.answers.new.out)) (sym c.in-Answers.is) c.answers.ensures.breaks

pub returns-in_ok-put-in-Rings-clause-breaks : goal.returns-in_ok-put-in-Rings-clause-breaks
returns-in_ok-put-in-Rings-clause-breaks g c =
    let puts = g.L.LineOut.puts in
    let w = world_seen c.args.self.now in
    let told : puts c.args.out.now (line.Timer w.ran w.outside.time c.in-Rings.p c.in-Rings.cell) (Ok tt) c.put.new.out = search rules in
    subst (λ what. IfErr c.runs.result (λ f. HappenedBreaks puts what w c.args.out.now f c.runs.new.out)) (sym c.in-Rings.is)
    (then_broke puts c.runs.result _ (λ f d. RunsBreaks puts c.in-Rings.p (Delivers c.in-Rings.cell (outcome.Value Void)) w d f c.runs.new.out) _ _ _ told c.runs.ensures.breaks)
