use Rattle.std.proofs.lemmas.List.{drop_all}
use Rattle.std.proofs.Common.{arith}
use Rattle.flow_tree.specs.DeclView.{slot_of}
use Rattle.flow_classprint.specs.ClassText.{slot_text}
use Rattle.flow_classprint.proofs.Steps.{numbered_step, numbered_whole, next_ahead}
use Rattle.flow_classprint.proofs.class.put_slots.Goals as goal

pub loop-slot-preserved : goal.loop-slot-preserved
loop-slot-preserved c =
    next_ahead slot_text slot_of c.args.slots.now 0 c.loop-slot.number c.in_ok-number.number c.loop-slot.slot-index c.slot-item.result _ _ _ _ c.in_ok-number.ensures c.loop-slot-test.true
    c.slot-item.is c.loop-slot.invariant c.in_ok-put_slot.ensures

pub returns : goal.returns
returns c =
    numbered_whole slot_text slot_of c.args.slots.now 0 c.loop-slot.number c.loop-slot.slot-index _ _ (drop_all c.loop-slot.slot-index c.args.slots.now c.loop-slot-test.false) c.loop-slot.invariant
