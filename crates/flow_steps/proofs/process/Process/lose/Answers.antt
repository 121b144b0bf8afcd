use Rattle.std.proofs.Common.{sym, ap, ◌∙◌}
use Rattle.flow_steps.specs.Stuck.{breaks, cancels}
use Rattle.flow_steps.proofs.Holding.{on_stuck_weaker}
use Rattle.flow_steps.proofs.process.Process.lose.Goals as goal

pub returns-in-Broken-clause-stuck : goal.returns-in-Broken-clause-stuck
returns-in-Broken-clause-stuck c =
    on_stuck_weaker c.break_cell.result _ _ (λ m. breaks c.drop_ref.new.self (sym c.in_ok-drop_ref.ensures ∙ ap (λ d. (c.drop_ref.new.self, d)) c.in-Broken.is) m)
    c.break_cell.ensures.stuck

pub returns-in-Cancel-clause-stuck : goal.returns-in-Cancel-clause-stuck
returns-in-Cancel-clause-stuck c =
    on_stuck_weaker c.cancel.result _ _
    (λ m. cancels c.drop_ref.new.self c.in-Cancel.actor (sym c.in_ok-drop_ref.ensures ∙ ap (λ d. (c.drop_ref.new.self, d)) c.in-Cancel.is) m) c.cancel.ensures.stuck
