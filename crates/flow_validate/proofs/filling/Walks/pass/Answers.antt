use Rattle.std.proofs.Common.{◌≡◌, ◌<◌, Some, length, refl, sym, subst, ap, ◌∙◌, arith}
use Rattle.std.proofs.lemmas.Option.{slice_get_read}
use Rattle.std.proofs.lemmas.List.{length-map}
use Rattle.flow_class.specs.View.{class_of, block_of}
use Rattle.flow_validate.specs.declared.window.Passage.{Passage}
use Rattle.flow_validate.specs.Following.{ArePassing}
use Rattle.flow_validate.specs.WalkStates.{AnyBit, standing}
use Rattle.flow_validate.proofs.Groups.{found_at}
use Rattle.flow_validate.proofs.Entering.{there}
use Rattle.flow_validate.proofs.Passes.{seen, entered_passing, misreads, block_passes}
use Rattle.flow_validate.proofs.filling.Walks.pass.Goals as goal

pub returns-then-is_any : goal.returns-then-is_any
returns-then-is_any c =
    let class = class_of c.args.class.now in
    let b = c.args.block in
    let w = c.args.window in
    let x = c.in-Some.empty in
    let es = c.args.self.now.entries.items in
    let lt : b < length es = omega (arith, c.if-number-len.false, c.len.ensures) in
    let long = c.requires.same_length in
    let within : b < length class.blocks = omega (arith, lt, long) in
    let k = there class.blocks b within in
    let held = c.requires.touches in
    let found = c.of_block.ensures held.0 held.1 in
    let same = held.2.each b k.0 c.of_block.result.now k.1 found in
    let h = c.through-passage.ensures (seen w x) (subst (λ (p : Passage). ArePassing w p (seen w x)) (sym c.entering.ensures) (entered_passing w x)) in
    let at = slice_get_read es (length es) b c.index.result.now refl lt c.index.ensures ∙ ap Some c.in-Some.is in
    let any = subst (AnyBit c.through-passage.result.misread) c.if-is_any.true c.is_any.ensures in
    λ sound. misreads class w k.0 b x k.1 c.of_block.result.now same c.through-passage.result h any es at sound

pub returns : goal.returns
returns c =
    let class = class_of c.args.class.now in
    let b = c.args.block in
    let w = c.args.window in
    let x = c.in-Some.empty in
    let es = c.args.self.now.entries.items in
    let lt : b < length es = omega (arith, c.if-number-len.false, c.len.ensures) in
    let long = c.requires.same_length in
    let within : b < length class.blocks = omega (arith, lt, long) in
    let held = c.requires.touches in
    let found = c.of_block.ensures held.0 held.1 in
    let blocks : length c.args.class.now.blocks.items ≡ length class.blocks = sym (length-map c.args.class.now.blocks.items block_of) in
    let r = c.index-2.result in
    let inside : b < length c.args.class.now.blocks.items = omega (arith, within, blocks) in
    let k = block_of r.now in
    let is = found_at block_of c.args.class.now.blocks.items b r.now inside c.index-2.ensures in
    let same = held.2.each b k c.of_block.result.now is found in
    let h = c.through-passage.ensures (seen w x) (subst (λ (p : Passage). ArePassing w p (seen w x)) (sym c.entering.ensures) (entered_passing w x)) in
    let at = slice_get_read es (length es) b c.index.result.now refl lt c.index.ensures ∙ ap Some c.in-Some.is in
    let none = subst (AnyBit c.through-passage.result.misread) c.if-is_any.false c.is_any.ensures in
    block_passes class w k b x is c.of_block.result.now same c.through-passage.result h (standing c.args.self.now) (standing c.lead.new.self) at none c.in_ok-lead.ensures long
