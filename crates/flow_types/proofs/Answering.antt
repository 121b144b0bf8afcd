-- What the rules say of a program is what is answered for it.
use Rattle.std.proofs.Common.{◌≡◌, Result, Ok, Err}
use Rattle.flow_tree.specs.declared.fault.SourceFault.{SourceFault}
use Rattle.flow_tree.specs.declared.fault.SourceFault.TheVariants.{Refused, AcrossWait, OutOfMemory}
use Rattle.flow_tree.specs.Decls.{ProgramTree}
use Rattle.flow_rules.specs.Rules.{refusal_of}
use Rattle.flow_types.specs.WalkView.{Says}
use Rattle.flow_types.specs.Checked.{Checked}

pub refused_checked : (p : ProgramTree) (x : SourceFault) → Says (refusal_of p) (Err x) → Checked p (Err x)
refused_checked p (Refused rule at) h = h
refused_checked p (AcrossWait at declared wait) h = h
refused_checked p OutOfMemory h = h
