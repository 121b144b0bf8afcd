-- What is answered for a program.
use Rattle.std.specs.Prelude.{◌≡◌, Result, Ok, Err}
use Rattle.std.specs.declared.option.Option.TheVariants.{None, Some}
use Rattle.flow_tree.specs.DeclView.{program_of}
use Rattle.flow_tree.specs.declared.fault.SourceFault.{SourceFault}
use Rattle.flow_tree.specs.declared.fault.SourceFault.TheVariants.{Refused, AcrossWait, OutOfMemory}
use Rattle.flow_types.specs.declared.check.Typed.{Typed}
use Rattle.flow_staterule.specs.declared.sound.Sound.{Sound}
use Rattle.flow_staterule.specs.StateRule.{first_lost}

-- the same program, where no use of a local is lost, or the first use that is; want of memory may come anywhere
abbrev pub JudgesUses : Typed → Result Sound SourceFault → Type 0
JudgesUses t (Ok s) = (s.typed ≡ t) × (first_lost (program_of t.program).decls ≡ None)
JudgesUses t (Err (Refused rule at)) = ⊥
JudgesUses t (Err (AcrossWait at declared wait)) =
    first_lost (program_of t.program).decls ≡ Some (record { at = at; declared = declared; wait = wait })
JudgesUses t (Err OutOfMemory) = Unit {0}
