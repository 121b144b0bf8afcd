use Rattle.std.proofs.Common.{refl}
use Rattle.flow_classread.proofs.read.invalid.Goals as goal

pub returns-in-OutOfMemory : goal.returns-in-OutOfMemory
returns-in-OutOfMemory c = tt

pub returns-in-Ok : goal.returns-in-Ok
returns-in-Ok c = rw c.in-Rule.is (refl, c.in-Ok.ensures)

pub returns-in-Err : goal.returns-in-Err
returns-in-Err c = tt
