use Rattle.std.proofs.Common.{rules, sym}
use Rattle.flow_steps.specs.StuckTasks.{StoredStuck, nowhere, standing, no_instruction, no_effect_at, aims_nowhere}
use Rattle.flow_steps.proofs.Holding.{if_stuck_weaker}
use Rattle.flow_steps.proofs.TasksAmiss.{stored_nowhere}
use Rattle.flow_steps.proofs.Done.{stored_by}
use Rattle.flow_steps.proofs.process.Process.store.Goals as goal

pub returns-clause-done : goal.returns-clause-done
returns-clause-done c =
    stored_by _ _ _ _ _ _ _ _ _ _ _ c.in_ok-stand.ensures.done c.in-Some.ensures c.in_ok-aim.ensures.done c.in_ok-old.ensures.done c.in_ok-drop_old.ensures.done
    c.in_ok-go_on.ensures.done

pub returns-in_err-stand-clause-stuck : goal.returns-in_err-stand-clause-stuck
returns-in_err-stand-clause-stuck c =
    let h = if_stuck_weaker c.in_err-stand.field-0.0 _
    (StoredStuck c.args.code.now c.args.actor c.args.self.now)
    (λ m. nowhere m) c.in_err-stand.ensures.stuck in
    search (rules, h)

pub returns-in_default-clause-stuck : goal.returns-in_default-clause-stuck
returns-in_default-clause-stuck c =
    standing c.in_ok-stand.stand c.in_ok-stand.ensures.done (no_instruction (sym c.in_default.ensures))

pub returns-in_err-aim-clause-stuck : goal.returns-in_err-aim-clause-stuck
returns-in_err-aim-clause-stuck c =
    let h = if_stuck_weaker c.in_err-aim.field-0.0 _
    (StoredStuck c.args.code.now c.args.actor c.args.self.now)
    (λ m. standing c.in_ok-stand.stand c.in_ok-stand.ensures.done (no_effect_at _ (sym c.in-Some.ensures) m)) c.in_err-aim.ensures.stuck in
    search (rules, h)

pub returns-in_err-old-clause-stuck : goal.returns-in_err-old-clause-stuck
returns-in_err-old-clause-stuck c =
    let h = if_stuck_weaker c.in_err-old.field-0.0 _
    (StoredStuck c.args.code.now c.args.actor c.args.self.now)
    (λ m. standing c.in_ok-stand.stand c.in_ok-stand.ensures.done (aims_nowhere _ c.in_ok-aim.aim.now (sym c.in-Some.ensures) c.in_ok-aim.ensures.done m)) c.in_err-old.ensures.stuck in
    search (rules, h)

pub returns-in_err-go_on-clause-stuck : goal.returns-in_err-go_on-clause-stuck
returns-in_err-go_on-clause-stuck c =
    let h = if_stuck_weaker c.in_err-go_on.field-0.0 _
    (StoredStuck c.args.code.now c.args.actor c.args.self.now)
    (stored_nowhere c.args.code.now c.args.actor _ c.args.value c.in_ok-old.old c.in_ok-stand.stand c.args.self.now c.assign.new.self c.drop_old.new.self
    c.in_ok-stand.ensures.done c.in_ok-old.ensures.done c.in_ok-drop_old.ensures.done) c.in_err-go_on.ensures.stuck in
    search (rules, h)
