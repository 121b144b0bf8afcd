use Rattle.std.proofs.Common.{ℕ}
use Rattle.std.specs.declared.vec.Vec.{Vec}
use Rattle.std.specs.declared.alloc.Global.{Global}
use Rattle.flow_top.proofs.Reading.{read_well, without_bytes}
use Rattle.flow_top.proofs.source.bytes_of.Goals as goal

pub returns-in-Ok-clause-read : goal.returns-in-Ok-clause-read
returns-in-Ok-clause-read g c = read_well _ _ c.args.name.now c.args.most c.in-Ok.bytes c.in-Ok.ensures.bytes c.in-Ok.ensures.read c.in-Ok.ensures.counted

pub returns-in-Err-clause-read : goal.returns-in-Err-clause-read
returns-in-Err-clause-read g c = without_bytes (Vec ℕ Global) c.in-Err.fault c.fault_outcome.ensures c.in-Err.ensures.asked c.read_file.ensures.within c.in-Err.ensures.counted
