-- The classes of a program that the front accepts.
use Rattle.std.specs.Prelude.{ℕ, ◌<◌, ◌^◌, List, length}
use Rattle.std.specs.List.{AllByRecursion}
use Rattle.flow_tree.specs.declared.decl.Program.{Program}
use Rattle.flow_tree.specs.DeclView.{program_of}
use Rattle.flow_class.specs.Classes.{ClassTree}
use Rattle.flow_meaning.specs.Shape.{Shape}
use Rattle.flow_meaning.specs.Carries.{CarriesProgram}
use Rattle.flow_lower.specs.Compiled.{compiled}
use Rattle.flow_front.specs.Verdict.{IsTyped}

-- Few enough slots and locals for their numbers to be written: decimal digits stand for a number below 2^64.
pub record HasFewPlaces (c : ClassTree) : Type 0 where
  pub slots : length c.slots < 2 ^ 64
  pub locals : length c.locals < 2 ^ 64

-- they have the shape of its actors, and carry them
pub record IsFaithful (program : Program) : Type 0 where
  pub shape : Shape (program_of program) (compiled (program_of program))
  pub carries : CarriesProgram (program_of program) (compiled (program_of program))
  pub few : AllByRecursion HasFewPlaces (compiled (program_of program)).classes

-- of each text that is a program, in which no rule K1 to K12 or L8 fails
abbrev pub CompilesFaithfully : Type 0
CompilesFaithfully = (text : List ℕ) (program : Program) → IsTyped text program → IsFaithful program
