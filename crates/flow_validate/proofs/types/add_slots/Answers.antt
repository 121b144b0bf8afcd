use Rattle.std.proofs.Common.{length, sym, ap, ◌∙◌, rules, take, map}
use Rattle.std.proofs.lemmas.List.{length_push}
use Rattle.std.proofs.lemmas.Slice.Zip.{zip_turn}
use Rattle.flow_tree.specs.DeclView.{slot_of}
use Rattle.flow_valid.specs.Validity.{slot_rows}
use Rattle.flow_validate.proofs.Rows.{slot_step}
use Rattle.flow_validate.proofs.types.add_slots.Goals as goal

pub loop-slot-preserved : goal.loop-slot-preserved
loop-slot-preserved c =
    let slots = c.args.slots.now in
    let names = c.args.names.now in
    let done = c.loop-slot.yielded in
    let n = length done in
    let turn = zip_turn slots names done c.into_iter-slot-iterator.result c.loop-slot.slot-iterator c.next.new.self c.next.result (search rules) (search rules) c.loop-slot.yielded_by
    (c.in-Some.slot, c.in-Some.name) c.in-Some.is c.next.ensures.steps in
    slot_step slots names n c.in-Some.slot.now c.bytes.result c.of.result c.loop-slot.vars.entries c.insert.new.self.entries
    c.requires.few turn.0 turn.1 c.requires.names (turn.2 c.in-Some.slot.now) (c.bytes.ensures.bytes ∙ turn.3 c.bytes.result.now) c.of.ensures c.in_ok-insert.ensures.entries c.loop-slot.invariant
    ∙ ap (λ k. slot_rows 0 (map slot_of (take k slots))) (sym (length_push done (c.in-Some.slot, c.in-Some.name)))
