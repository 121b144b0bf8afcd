use Rattle.flow_steps.proofs.Going.{kept_stuck}
use Rattle.flow_steps.proofs.process.Process.operand_with.Goals as goal

pub returns-clause-stuck : goal.returns-clause-stuck
returns-clause-stuck c =
    kept_stuck c.args.stand.now c.args.callback c.args.value c.in-Ref.kind c.in-Ref.cell c.args.self.now c.hold.new.self c.keep_operand.result c.in-Ref.is
    c.in_ok-hold.ensures.done c.keep_operand.ensures.stuck
