use Rattle.std.proofs.Common.{◌≡◌, Bool, true, false, length, sym, subst, ◌∙◌, arith}
use Rattle.std.proofs.lemmas.List.{length-map}
use Rattle.std.proofs.lemmas.Result.{IfOk-weaker}
use Rattle.flow_tree.specs.View.{type_of}
use Rattle.flow_tree.specs.DeclView.{slot_of}
use Rattle.flow_class.specs.View.{class_of}
use Rattle.flow_valid.specs.Filling.{ReadsFilled}
use Rattle.flow_validate.specs.WalkStates.{AreFilledBelow, FilledOr}
use Rattle.flow_validate.proofs.Everywhere.{everywhere, filled_or, below_as}
use Rattle.flow_validate.proofs.filling.reads_filled.Goals as goal

pub returns : goal.returns
returns c =
    let class = class_of c.args.class.now in
    let slots : c.len.result ≡ length c.args.class.now.slots.items = omega (arith, c.len.ensures) in
    let locals : c.len-2.result ≡ length c.args.class.now.locals.items = omega (arith, c.len-2.ensures) in
    let all_slots : c.len.result ≡ length class.slots = slots ∙ sym (length-map c.args.class.now.slots.items slot_of) in
    let all_locals : c.len-2.result ≡ length class.locals = locals ∙ sym (length-map c.args.class.now.locals.items type_of) in
    let first = subst (FilledOr class (AreFilledBelow class false c.len.result)) c.if-not-branch.false c.in_ok-kind_filled.ensures in
    IfOk-weaker c.kind_filled-2.result (FilledOr class (AreFilledBelow class true c.len-2.result)) (FilledOr class (ReadsFilled class))
    (λ (b : Bool) h. filled_or class (AreFilledBelow class true c.len-2.result) (ReadsFilled class)
    (λ second. everywhere class c.requires.few c.requires.named (below_as class false c.len.result (length class.slots) all_slots first)
    (below_as class true c.len-2.result (length class.locals) all_locals second)) b h)
    c.kind_filled-2.ensures
