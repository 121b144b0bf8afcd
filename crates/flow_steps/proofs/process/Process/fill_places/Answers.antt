use Rattle.std.proofs.Common.{rules, ◌∙◌, Some, refl}
use Rattle.std.proofs.lemmas.Iterator.Adapters.{YieldsList-from_vec}
use Rattle.std.proofs.lemmas.Iterator.Consumers.{YieldsList-so_far, YieldsList-turn}
use Rattle.flow_steps.proofs.Called.{missing_argument}
use Rattle.flow_steps.proofs.Holding.{if_stuck_weaker}
use Rattle.flow_steps.proofs.process.Process.fill_places.Goals as goal

pub returns-in_err-hold_value-clause-stuck : goal.returns-in_err-hold_value-clause-stuck
returns-in_err-hold_value-clause-stuck c =
    let args = c.args.args.items in
    let row = YieldsList-from_vec {s = c.into_iter-arg-iterator.result} args c.into_iter-arg-iterator.ensures.into_iter_gives.0
    (c.into_iter-arg-iterator.ensures.into_iter_gives.1 ∙ c.args.args.ok.0) in
    let so_far = YieldsList-so_far row c.loop-arg.yielded _ c.loop-arg.yielded_by in
    let at = YieldsList-turn row c.loop-arg.yielded _ c.loop-arg.yielded_by (Some c.in-Some.arg) c.next.new.self c.in-Some.arg refl c.in-Some.ensures.steps in
    let h = if_stuck_weaker c.in_err-hold_value.field-0.0 _ _ (missing_argument args c.loop-arg.yielded c.in-Some.arg c.args.self.now c.loop-arg.self so_far at c.loop-arg.invariant.0)
    c.in_err-hold_value.ensures.stuck in
    search (rules, h)
