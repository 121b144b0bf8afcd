use Rattle.flow_class.specs.View.{instr_of}
use Rattle.flow_classprint.specs.ClassText.{instr_line}
use Rattle.flow_classprint.proofs.Steps.{all_step, all_whole}
use Rattle.flow_classprint.proofs.block.put_instrs.Goals as goal

pub loop-instr-preserved : goal.loop-instr-preserved
loop-instr-preserved c =
    all_step instr_line instr_of c.args.body.now c.loop-instr.instr-index c.instr-item.result _ _ _ _ c.loop-instr-test.true c.instr-item.is c.loop-instr.invariant c.in_ok-put_instr_line.ensures

pub returns : goal.returns
returns c = all_whole instr_line instr_of c.args.body.now c.loop-instr.instr-index _ _ c.loop-instr-test.false c.loop-instr.invariant
