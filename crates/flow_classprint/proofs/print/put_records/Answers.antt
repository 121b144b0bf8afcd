use Rattle.flow_tree.specs.DeclView.{record_of}
use Rattle.flow_classprint.specs.ClassText.{record_text}
use Rattle.flow_classprint.proofs.Steps.{all_step, all_whole}
use Rattle.flow_classprint.proofs.print.put_records.Goals as goal

pub loop-record-preserved : goal.loop-record-preserved
loop-record-preserved c =
    all_step record_text record_of c.args.records.now c.loop-record.record-index c.record-item.result _ _ _ _ c.loop-record-test.true c.record-item.is c.loop-record.invariant
    c.in_ok-put_record.ensures

pub returns : goal.returns
returns c = all_whole record_text record_of c.args.records.now c.loop-record.record-index _ _ c.loop-record-test.false c.loop-record.invariant
