-- Laws of what is decided.
use Rattle.std.specs.Prelude.{◌≡◌, ℕ, List, ◌⊎◌}
use Rattle.std.specs.declared.option.Option.TheVariants.{Some}
use Rattle.flow_base.specs.Seen.{Missing, FilesSeen}
use Rattle.flow_words.specs.Asked.{Request}
use Rattle.flow_top.specs.declared.outcome.Outcome.{Outcome}
use Rattle.flow_top.specs.declared.outcome.Outcome.TheVariants.{Answered, Run, Bench, Shrink, Debug}
use Rattle.flow_top.specs.declared.outcome.Answered.TheVariants.{ReadFault, OutOfMemory, NoWorld, LongScript}
use Rattle.flow_top.specs.Sources.{of_file, first_source, world_source}
use Rattle.flow_top.specs.Decided.{Decided}

-- where the file is missing that a request begins with, there is a read fault or want of memory
abbrev pub MissingProgram : Type 0
MissingProgram =
    (q : Request) (name : List ℕ) (most : ℕ) (before after : FilesSeen) (outcome : Outcome) → first_source q ≡ of_file name most
    → before.content name ≡ Missing → Decided (Some q) before after outcome
    → (outcome ≡ Answered ReadFault) ⊎ (outcome ≡ Answered OutOfMemory)

-- nothing is run, and no world is refused
abbrev pub IsWorldless : Outcome → Type 0
IsWorldless (Run r) = ⊥
IsWorldless (Bench b) = ⊥
IsWorldless (Shrink r) = ⊥
IsWorldless (Debug d) = ⊥
IsWorldless (Answered (NoWorld fault)) = ⊥
IsWorldless (Answered LongScript) = ⊥
IsWorldless (Answered outcome) = Unit {0}

-- where the world's file is missing, nothing is run, and no world is refused
abbrev pub MissingWorld : Type 0
MissingWorld =
    (q : Request) (name : List ℕ) (most : ℕ) (before after : FilesSeen) (outcome : Outcome) → world_source q ≡ Some (of_file name most)
    → before.content name ≡ Missing → Decided (Some q) before after outcome → IsWorldless outcome
