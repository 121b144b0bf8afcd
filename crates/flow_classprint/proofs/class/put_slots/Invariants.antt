use Rattle.flow_tree.specs.DeclView.{slot_of}
use Rattle.flow_classprint.specs.ClassText.{all_text, slot_text}
use Rattle.flow_classprint.proofs.Steps.{Ahead}
use Rattle.flow_classprint.proofs.class.put_slots.Given as goal

abbrev pub invariant-loop-slot : goal.invariant-loop-slot
invariant-loop-slot l = Ahead slot_text slot_of l.slots 0 l.number l.slot-index l.initial.out l.out
