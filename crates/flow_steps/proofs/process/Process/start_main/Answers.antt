use Rattle.std.proofs.Common.{rules}
use Rattle.flow_steps.specs.StuckTasks.{MainStartsStuck}
use Rattle.flow_steps.proofs.Holding.{if_stuck_weaker, on_stuck_weaker}
use Rattle.flow_steps.proofs.Called.{result_there}
use Rattle.flow_steps.proofs.TasksAmiss.{main_enrols_stuck, main_no_class}
use Rattle.flow_steps.proofs.process.Process.start_main.Goals as goal

pub returns-in_err-actor-clause-stuck : goal.returns-in_err-actor-clause-stuck
returns-in_err-actor-clause-stuck c =
    let h = if_stuck_weaker c.in_err-actor.field-0.0 _ _
    (main_enrols_stuck c.args.code.now c.args.me c.in-Some.class _ c.args.self.now.heap c.in-Some.ensures (search rules)) c.in_err-actor.ensures.stuck in
    search (rules, h)

pub returns-in_err-hold-clause-stuck : goal.returns-in_err-hold-clause-stuck
returns-in_err-hold-clause-stuck c =
    let h = if_stuck_weaker c.in_err-hold.field-0.0 _ (MainStartsStuck c.args.code.now c.args.me c.args.self.now.heap)
    (λ m. absurd (result_there c.args.code.now c.in-Some.class _ c.in_ok-actor.actor c.in_ok-actor.cell c.args.self.now c.enrol.new.self c.in_ok-actor.ensures.done m)) c.in_err-hold.ensures.stuck in
    search (rules, h)

pub returns-clause-stuck : goal.returns-clause-stuck
returns-clause-stuck c =
    on_stuck_weaker c.tell_start.result _ _
    (λ m. absurd (main_no_class c.args.code.now c.in-Some.class _ c.in_ok-actor.actor c.in_ok-actor.cell c.args.self.now c.enrol.new.self c.in_ok-actor.ensures.done m)) c.tell_start.ensures.stuck
