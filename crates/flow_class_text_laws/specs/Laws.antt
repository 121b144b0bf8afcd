-- The classes of a program can be written as class text.
use Rattle.std.specs.Prelude.{◌≡◌, ◌≤◌, ◌+◌, ◌^◌, ℕ, List, length, slice_get}
use Rattle.std.specs.declared.option.Option.TheVariants.{None, Some}
use Rattle.flow_tree.specs.declared.decl.Program.{Program}
use Rattle.flow_tree.specs.DeclView.{program_of}
use Rattle.flow_class.specs.Classes.{ClassTree}
use Rattle.flow_lower.specs.Compiled.{compiled}
use Rattle.flow_lower.specs.Weighing.{first_heavy}
use Rattle.flow_front.specs.Verdict.{IsSound}
use Rattle.flow_classprint.specs.ClassGrammar.{IsWritten}

-- no actor weighs more than 60,000
abbrev pub AreLight : Program → Type 0
AreLight p = first_heavy (program_of p).decls ≡ None

-- For each text that the front accepts as a program of such actors, some class text of version 2 derives its classes.
abbrev pub CompilesToText : Type 0
CompilesToText =
    (text : List ℕ) (program : Program) → IsSound text program → AreLight program
    → IsWritten (compiled (program_of program))

-- And each of them has few places.
abbrev pub CompilesFew : Type 0
CompilesFew =
    (text : List ℕ) (program : Program) → IsSound text program → AreLight program → (k : ℕ) (c : ClassTree)
    → slice_get (compiled (program_of program)).classes k ≡ Some c → length c.slots + length c.locals ≤ 2 ^ 32
