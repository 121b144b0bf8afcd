-- Numbered calls, of which the listed ones fail.
use Rattle.std.specs.Prelude.{ℕ, List, Bool, ◌==◌}
use Rattle.std.specs.List.{list_any}
use Rattle.flow_base.specs.Faults.{next_count}

-- the numbers of the calls that fail, how many calls there were, and how many of them failed
pub record CallState : Type 0 where
  pub failing : List ℕ
  pub count : ℕ
  pub faults : ℕ

-- no call yet
abbrev pub no_calls : List ℕ → CallState
no_calls failing = record { failing = failing; count = 0; faults = 0 }

-- whether the next call is a listed one: calls are numbered from 1
abbrev pub next_fails : CallState → Bool
next_fails s = list_any (λ n. n == next_count s.count) s.failing

-- one more call, which went well
abbrev pub passed : CallState → CallState
passed s = record s { count = next_count s.count }

-- one more call, which failed
abbrev pub failed : CallState → CallState
failed s = record s { count = next_count s.count; faults = next_count s.faults }
