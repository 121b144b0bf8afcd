use Rattle.std.proofs.Common.{rules}
use Rattle.std.proofs.lemmas.Result.{on_ok_weaker}
use Rattle.flow_steps.specs.StuckTasks.{StandsStuck, nowhere, standing, BranchStuck, no_branch_at, no_place_for, no_block_at}
use Rattle.flow_steps.proofs.Holding.{if_stuck_weaker, on_stuck_weaker}
use Rattle.flow_steps.proofs.TasksAmiss.{goes_nowhere, value_goes_stuck}
use Rattle.flow_steps.proofs.Done.{value_given}
use Rattle.flow_steps.proofs.process.Process.give_value.Goals as goal

pub returns-clause-done : goal.returns-clause-done
returns-clause-done c =
    on_ok_weaker c.go_from.result (value_given _ _ _ _ _ _ _ c.in_ok-old.old _ _ _ _ _ _ c.in_ok-stand.ensures.done c.in_ok-branch.ensures.done c.in_ok-old.ensures.over
    c.in_ok-old.ensures.bound c.in_ok-at.ensures.done c.in_ok-pace.ensures.done) c.go_from.ensures.done

pub returns-in_err-stand-clause-stuck : goal.returns-in_err-stand-clause-stuck
returns-in_err-stand-clause-stuck c =
    let h = if_stuck_weaker c.in_err-stand.field-0.0 _
    (StandsStuck c.args.code.now.classes.items c.args.actor c.args.self.now (BranchStuck c.args.code.now c.args.actor c.args.branch c.args.value c.args.self.now))
    (λ m. nowhere m) c.in_err-stand.ensures.stuck in
    search (rules, h)

pub returns-in_err-branch-clause-stuck : goal.returns-in_err-branch-clause-stuck
returns-in_err-branch-clause-stuck c =
    let h = if_stuck_weaker c.in_err-branch.field-0.0 _
    (StandsStuck c.args.code.now.classes.items c.args.actor c.args.self.now (BranchStuck c.args.code.now c.args.actor c.args.branch c.args.value c.args.self.now))
    (λ m. standing c.in_ok-stand.stand c.in_ok-stand.ensures.done (no_branch_at m)) c.in_err-branch.ensures.stuck in
    search (rules, h)

pub returns-in_err-old-clause-stuck : goal.returns-in_err-old-clause-stuck
returns-in_err-old-clause-stuck c =
    let h = if_stuck_weaker c.in_err-old.field-0.0 _
    (StandsStuck c.args.code.now.classes.items c.args.actor c.args.self.now (BranchStuck c.args.code.now c.args.actor c.args.branch c.args.value c.args.self.now))
    (λ m. standing c.in_ok-stand.stand c.in_ok-stand.ensures.done (no_place_for c.in_ok-branch.branch.now c.in_ok-branch.ensures.done m)) c.in_err-old.ensures.stuck in
    search (rules, h)

pub returns-in_err-at-clause-stuck : goal.returns-in_err-at-clause-stuck
returns-in_err-at-clause-stuck c =
    let h = if_stuck_weaker c.in_err-at.field-0.0 _
    (StandsStuck c.args.code.now.classes.items c.args.actor c.args.self.now (BranchStuck c.args.code.now c.args.actor c.args.branch c.args.value c.args.self.now))
    (λ m. standing c.in_ok-stand.stand c.in_ok-stand.ensures.done (no_block_at c.in_ok-branch.branch.now c.in_ok-branch.ensures.done m)) c.in_err-at.ensures.stuck in
    search (rules, h)

pub returns-in_err-pace-clause-stuck : goal.returns-in_err-pace-clause-stuck
returns-in_err-pace-clause-stuck c =
    let h = if_stuck_weaker c.in_err-pace.field-0.0 _
    (StandsStuck c.args.code.now.classes.items c.args.actor c.args.self.now (BranchStuck c.args.code.now c.args.actor c.args.branch c.args.value c.args.self.now))
    (λ m. goes_nowhere c.args.code.now c.args.actor c.args.branch c.args.value c.in_ok-stand.stand c.in_ok-at.field-0 c.in_ok-branch.branch.now c.args.self.now c.bind.new.self
    c.in_ok-stand.ensures.done c.in_ok-at.ensures.done c.in_ok-old.ensures.bound m) c.in_err-pace.ensures.stuck in
    search (rules, h)

pub returns-clause-stuck : goal.returns-clause-stuck
returns-clause-stuck c =
    on_stuck_weaker c.go_from.result _ _
    (λ m. value_goes_stuck c.args.code.now c.args.actor c.args.branch c.args.value c.in_ok-stand.stand c.in_ok-at.field-0 c.in_ok-branch.branch.now _ c.in_ok-pace.pace c.args.self.now c.bind.new.self
    c.on_after.new.self c.in_ok-stand.ensures.done c.in_ok-branch.ensures.done c.in_ok-old.ensures.over c.in_ok-old.ensures.bound c.in_ok-at.ensures.done c.in_ok-pace.ensures.done m)
    c.go_from.ensures.stuck
