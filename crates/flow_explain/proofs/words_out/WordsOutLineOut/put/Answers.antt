use Rattle.flow_base.proofs.Growing.{grows_by, grows_trans}
use Rattle.flow_explain.proofs.words_out.WordsOutLineOut.put.Goals as goal

-- src/words_out.rt
pub invariant_of-self-2 : goal.invariant_of-self-2
invariant_of-self-2 g c = record {
  grown = let part = c.write_whole.ensures.part in grows_trans _ _ _ c.args.self.now.grown (grows_by _ _ part.0 part.3);
  handed = grows_trans _ _ _ c.args.self.now.handed c.write_whole.ensures.handed;
}
