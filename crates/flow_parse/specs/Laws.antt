-- Laws of the grammar of programs.
use Rattle.std.specs.Prelude.{◌≡◌, ℕ, List, Result, Ok, Err}
use Rattle.flow_base.specs.declared.place.Place.{Place}
use Rattle.flow_tree.specs.declared.token.Spot.{Spot}
use Rattle.flow_tree.specs.declared.token.Tokens.{Tokens}
use Rattle.flow_tree.specs.declared.decl.Program.{Program}
use Rattle.flow_tree.specs.declared.fault.SourceFault.{SourceFault}
use Rattle.flow_tree.specs.declared.fault.SourceFault.TheVariants.{OutOfMemory}
use Rattle.flow_tree.specs.Decls.{ProgramTree}
use Rattle.flow_tree.specs.DeclView.{program_of}
use Rattle.flow_tree.specs.GrammarToken.{Derives}
use Rattle.flow_tree.specs.GrammarDecl.{ProgramRule}
use Rattle.flow_parse.specs.ParseAnswer.{ParseAnswer}

-- tokens are derived as one program at most, whatever limits it keeps
abbrev pub OneProgram : Type 0
OneProgram = (end : Place) (n m : ℕ) (tokens : List Spot) (p q : ProgramTree) → Derives (ProgramRule end) n tokens p
    → Derives (ProgramRule end) m tokens q → p ≡ q

-- an answer as the caller sees it: the tree of the program, or the refusal
abbrev pub told : Result Program SourceFault → Result ProgramTree SourceFault
told (Ok p) = Ok (program_of p)
told (Err e) = Err e

-- tokens have one answer at most, want of memory aside
abbrev pub OneAnswer : Type 0
OneAnswer = (t : Tokens) (r s : Result Program SourceFault) → ParseAnswer t r → ParseAnswer t s → (r ≡ Err OutOfMemory → ⊥)
    → (s ≡ Err OutOfMemory → ⊥) → told r ≡ told s
