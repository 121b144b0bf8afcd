-- What a drawn word is asked for, and what it answers: only its remainder counts.
use Rattle.std.specs.Prelude.{ℕ, ◌%◌, nat_lt, if◌then◌else◌}
use Rattle.flow_draw.specs.declared.question.Question.{Question}
use Rattle.flow_draw.specs.declared.question.Question.TheVariants.{Among, Loses}

-- one of so many numbers, from 0; or 1 where a packet is lost, of which so many in 1,000 are
abbrev pub answer : Question → ℕ → ℕ
answer (Among width) word = word % width
answer (Loses permille) word = if nat_lt (word % 1000) permille then 1 else 0
