use Rattle.flow_trace.proofs.Ranges.{bytes_of_slice}
use Rattle.flow_trace.proofs.pieces.quoted_bytes.Goals as goal

pub returns-clause-range : goal.returns-clause-range
returns-clause-range c = (c.requires, bytes_of_slice c.args.bytes.now c.type_inv.bytes)
