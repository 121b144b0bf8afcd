-- What is answered for a program.
use Rattle.std.specs.Prelude.{◌≡◌, Result, Ok, Err}
use Rattle.std.specs.declared.option.Option.TheVariants.{None, Some}
use Rattle.flow_tree.specs.declared.fault.SourceFault.{SourceFault}
use Rattle.flow_tree.specs.declared.fault.SourceFault.TheVariants.{Refused, AcrossWait, OutOfMemory}
use Rattle.flow_tree.specs.Decls.{ProgramTree}
use Rattle.flow_rules.specs.Rules.{refusal_of}
use Rattle.flow_types.specs.declared.check.Typed.{Typed}

-- it is accepted exactly where no rule refuses it, and otherwise refused by its first refusal; want of
-- memory may come anywhere
abbrev pub Checked : ProgramTree → Result Typed SourceFault → Type 0
Checked p (Ok t) = refusal_of p ≡ None
Checked p (Err (Refused rule at)) = refusal_of p ≡ Some (rule, at)
Checked p (Err (AcrossWait at declared wait)) = ⊥
Checked p (Err OutOfMemory) = Unit {0}
