-- Drops of references that came on top of tasks.
use Rattle.std.specs.Prelude.{ℕ, List, ◌≡◌}
use Rattle.flow_value.specs.declared.value.Kind.{Kind}
use Rattle.flow_cancel.specs.declared.task.Task.{Task}
use Rattle.flow_cancel.specs.Dropping.{drops}

-- the tasks after are drops of some references on top of those before
pub record DropsOver (before after : List Task) : Type 0 where
  pub refs : List (Kind × ℕ)
  pub over : after ≡ drops refs before
