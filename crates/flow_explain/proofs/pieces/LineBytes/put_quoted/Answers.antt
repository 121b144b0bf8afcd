use Rattle.std.proofs.Common.{append_assoc, arith}
use Rattle.flow_trace.proofs.Printing.{spelled_text_more}
use Rattle.flow_explain.proofs.pieces.LineBytes.put_quoted.Goals as goal

pub loop-byte-preserved : goal.loop-byte-preserved
loop-byte-preserved c = grind (arith, append_assoc, spelled_text_more)
