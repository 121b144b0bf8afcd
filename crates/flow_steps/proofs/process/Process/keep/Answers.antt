use Rattle.std.proofs.Common.{rules}
use Rattle.std.proofs.lemmas.Result.{on_ok_weaker}
use Rattle.flow_steps.specs.StuckTasks.{KeptStuck, not_next, its_next, nowhere, standing, keeps_stuck, goes_after}
use Rattle.flow_steps.proofs.Holding.{if_stuck_weaker, on_stuck_weaker}
use Rattle.flow_steps.proofs.Done.{kept_by}
use Rattle.flow_steps.proofs.process.Process.keep.Goals as goal

pub returns-clause-done : goal.returns-clause-done
returns-clause-done c =
    on_ok_weaker c.go_from.result (kept_by _ _ _ _ _ _ _ _ _ c.in_ok-pop_run.ensures.done c.in_ok-stand.ensures.done c.in_ok-pace.ensures.done) c.go_from.ensures.done

pub returns-in_err-pop_run-clause-stuck : goal.returns-in_err-pop_run-clause-stuck
returns-in_err-pop_run-clause-stuck c =
    let h = if_stuck_weaker c.in_err-pop_run.field-0.0 _ (KeptStuck c.args.code.now c.args.actor c.args.held c.args.self.now) not_next
    c.in_err-pop_run.ensures.stuck in
    search (rules, h)

pub returns-in_err-stand-clause-stuck : goal.returns-in_err-stand-clause-stuck
returns-in_err-stand-clause-stuck c =
    let h = if_stuck_weaker c.in_err-stand.field-0.0 _ (KeptStuck c.args.code.now c.args.actor c.args.held c.args.self.now)
    (λ m. its_next c.pop_run.new.self c.in_ok-pop_run.ensures.done (nowhere m)) c.in_err-stand.ensures.stuck in
    search (rules, h)

pub returns-in_err-pace-clause-stuck : goal.returns-in_err-pace-clause-stuck
returns-in_err-pace-clause-stuck c =
    let h = if_stuck_weaker c.in_err-pace.field-0.0 _ (KeptStuck c.args.code.now c.args.actor c.args.held c.args.self.now)
    (λ m. its_next c.pop_run.new.self c.in_ok-pop_run.ensures.done (standing c.in_ok-stand.stand c.in_ok-stand.ensures.done (keeps_stuck m)))
    c.in_err-pace.ensures.stuck in
    search (rules, h)

pub returns-clause-stuck : goal.returns-clause-stuck
returns-clause-stuck c =
    on_stuck_weaker c.go_from.result _ _
    (λ m. its_next c.pop_run.new.self c.in_ok-pop_run.ensures.done
    (standing c.in_ok-stand.stand c.in_ok-stand.ensures.done (goes_after c.in_ok-pace.pace c.keep_operand.new.self c.in_ok-pace.ensures.done m)))
    c.go_from.ensures.stuck
