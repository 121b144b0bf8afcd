use Rattle.std.proofs.Common.{length, ap, sym, ◌∙◌}
use Rattle.std.proofs.lemmas.List.{length-map}
use Rattle.flow_class.specs.View.{class_of, block_of}
use Rattle.flow_validate.specs.WalkStates.{WalkState, standing}
use Rattle.flow_validate.proofs.Followed.{first_enters}
use Rattle.flow_validate.proofs.filling.first_walks.Goals as goal

pub returns : goal.returns
returns c =
    let old : WalkState = record { entries = c.in_ok-no_entries.field-0.items; todo = c.new.result.items } in
    first_enters (class_of c.args.class.now) c.args.window c.deref.result.now old (standing c.enter.new.self) c.without.result
    (ap length c.deref.ensures.value ∙ sym (length-map c.args.class.now.blocks.items block_of)) c.in_ok-no_entries.ensures c.without.ensures c.in_ok-enter.ensures
