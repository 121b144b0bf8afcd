-- What stays as it is while a process runs in its event.
use Rattle.std.specs.Prelude.{ℕ}
use Rattle.std.specs.Borrow.{GName}

-- which ports, which outside and which lines the process was lent, what a put to the lines leaves alone, and how many
-- processes there are
pub record Loans (Lines : Type 0) : Type 0 where
  pub ports : GName
  pub outside : GName
  pub out : GName
  pub lines : Lines
  pub processes : ℕ
