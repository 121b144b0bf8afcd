use Rattle.std.proofs.Common.{sym, ◌∙◌}
use Rattle.flow_choose.proofs.Slots.{position_slots}
use Rattle.flow_choose.proofs.places.slot_number.Goals as goal

pub returns : goal.returns
returns c = c.slot_index.ensures ∙ sym (position_slots c.args.slots.now c.args.name.now)
