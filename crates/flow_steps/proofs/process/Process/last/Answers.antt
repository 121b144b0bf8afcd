use Rattle.flow_steps.proofs.Stepped.{goes_by, tests_by}
use Rattle.flow_steps.proofs.Going.{tests_stuck}
use Rattle.flow_steps.proofs.process.Process.last.Goals as goal

pub returns-in_ok-at-in-Goto-clause-done : goal.returns-in_ok-at-in-Goto-clause-done
returns-in_ok-at-in-Goto-clause-done c = goes_by _ _ _ _ _ _ c.in-Goto.is c.in_ok-at-in-Goto.ensures.done

pub returns-in-Test-clause-done : goal.returns-in-Test-clause-done
returns-in-Test-clause-done c = tests_by _ _ _ _ _ _ _ _ _ c.in-Test.is c.test.ensures.done

pub returns-in-Test-clause-stuck : goal.returns-in-Test-clause-stuck
returns-in-Test-clause-stuck c = tests_stuck _ _ _ _ _ _ _ _ c.in-Test.is c.test.ensures.stuck
