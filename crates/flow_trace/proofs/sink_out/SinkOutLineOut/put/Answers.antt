use Rattle.flow_base.proofs.Growing.{grows_by, grows_trans}
use Rattle.flow_trace.proofs.sink_out.SinkOutLineOut.put.Goals as goal

-- src/sink_out.rt:60:9
pub invariant_of-self : goal.invariant_of-self
invariant_of-self g c = record {
  grown = let part = c.write_whole.ensures.part in grows_trans _ _ _ c.args.self.now.grown (grows_by _ _ part.0 part.3);
  handed = grows_trans _ _ _ c.args.self.now.handed c.write_whole.ensures.handed;
}
