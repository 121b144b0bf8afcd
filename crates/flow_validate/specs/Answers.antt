-- What calls of the rules answer.
use Rattle.std.specs.Prelude.{◌≡◌, Bool, true, false, Result, Ok, Err}
use Rattle.flow_base.specs.declared.memory.NoMemory.{NoMemory}
use Rattle.flow_tree.specs.declared.fault.SourceFault.{SourceFault}
use Rattle.flow_tree.specs.declared.fault.SourceFault.TheVariants.{Refused, AcrossWait, OutOfMemory}

-- whether an answer is a refusal; want of memory stays one
abbrev pub Tells : Result (Unit {0}) SourceFault → Result Bool NoMemory → Type 0
Tells (Ok u) (Ok b) = b ≡ false
Tells (Ok u) (Err e) = ⊥
Tells (Err OutOfMemory) (Ok b) = ⊥
Tells (Err OutOfMemory) (Err e) = Unit {0}
Tells (Err (Refused rule at)) (Ok b) = b ≡ true
Tells (Err (Refused rule at)) (Err e) = ⊥
Tells (Err (AcrossWait at declared wait)) (Ok b) = b ≡ true
Tells (Err (AcrossWait at declared wait)) (Err e) = ⊥
