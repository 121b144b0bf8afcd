use Rattle.flow_operation_refinement.proofs.Firing.{drop_done, catch_done, fire_done}
use Rattle.flow_operation_refinement.proofs.Thrown.{throw_done}
use Rattle.flow_operation_refinement.proofs.tasking.simple_tasks_refine.Goals as goal

pub returns-clause-drop : goal.returns-clause-drop
returns-clause-drop c = drop_done

pub returns-clause-catch : goal.returns-clause-catch
returns-clause-catch c = catch_done

pub returns-clause-fire : goal.returns-clause-fire
returns-clause-fire c = fire_done

pub returns-clause-throw : goal.returns-clause-throw
returns-clause-throw c = throw_done
