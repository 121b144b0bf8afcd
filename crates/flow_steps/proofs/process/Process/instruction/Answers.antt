use Rattle.flow_steps.proofs.Stepped.{acts_by}
use Rattle.flow_steps.proofs.Going.{acts_get_stuck}
use Rattle.flow_steps.proofs.process.Process.instruction.Goals as goal

pub returns-in-Act-clause-done : goal.returns-in-Act-clause-done
returns-in-Act-clause-done c = acts_by _ _ _ _ _ _ _ _ _ c.in-Act.is c.deref-in-Act.ensures.value c.act.ensures.done

pub returns-in-Act-clause-stuck : goal.returns-in-Act-clause-stuck
returns-in-Act-clause-stuck c = acts_get_stuck _ _ _ _ _ _ _ _ c.in-Act.is c.deref-in-Act.ensures.value c.act.ensures.stuck
