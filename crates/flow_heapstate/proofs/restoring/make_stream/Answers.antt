use Rattle.std.proofs.Common.{◌≡◌, Some, None, refl, sym, ap, ◌∙◌}
use Rattle.flow_stream.specs.Streams.{StreamTree, empty}
use Rattle.flow_value.specs.declared.value.Value.{Value}
use Rattle.flow_heapstate.proofs.Building.{new_is, then_new}
use Rattle.flow_heapstate.proofs.restoring.make_stream.Goals as goal

-- a field of what stands there
field_is : {B : Type 0} (f : StreamTree Value → B) (x y : StreamTree Value) (b : B) → Some x ≡ Some y → f x ≡ b → f y ≡ b
field_is f x y b e is = let same : x ≡ y = cc (e) in sym (ap f same) ∙ is

pub add_elements-requires-clause-there : goal.add_elements-requires-clause-there
add_elements-requires-clause-there c = rw (new_is _ _ _ _ c.requires.rising c.requires.above c.in_ok-make.ensures.ok) refl

pub add_elements-requires-clause-endless : goal.add_elements-requires-clause-endless
add_elements-requires-clause-endless c = λ x e. field_is (λ y. y.end) empty x None (sym (new_is _ _ _ _ c.requires.rising c.requires.above c.in_ok-make.ensures.ok) ∙ e) refl

pub end_stream-requires-clause-there : goal.end_stream-requires-clause-there
end_stream-requires-clause-there c =
    let now = new_is _ _ _ _ c.requires.rising c.requires.above c.in_ok-make.ensures.ok in
    let filled = then_new _ _ _ _ _ _ c.requires.rising c.requires.above c.in_ok-make.ensures.ok (c.in_ok-add_elements.ensures _ now) in
    rw (new_is _ _ _ _ c.requires.rising c.requires.above filled) refl

pub end_stream-requires-clause-endless : goal.end_stream-requires-clause-endless
end_stream-requires-clause-endless c = λ x e.
    let now = new_is _ _ _ _ c.requires.rising c.requires.above c.in_ok-make.ensures.ok in
    let filled = then_new _ _ _ _ _ _ c.requires.rising c.requires.above c.in_ok-make.ensures.ok (c.in_ok-add_elements.ensures _ now) in
    field_is (λ y. y.end) _ x None (sym (new_is _ _ _ _ c.requires.rising c.requires.above filled) ∙ e) refl

pub await_stream-requires-clause-there : goal.await_stream-requires-clause-there
await_stream-requires-clause-there c =
    let now = new_is _ _ _ _ c.requires.rising c.requires.above c.in_ok-make.ensures.ok in
    let filled = then_new _ _ _ _ _ _ c.requires.rising c.requires.above c.in_ok-make.ensures.ok (c.in_ok-add_elements.ensures _ now) in
    let then_filled = new_is _ _ _ _ c.requires.rising c.requires.above filled in
    let ended = then_new _ _ _ _ _ _ c.requires.rising c.requires.above filled (c.end_stream.ensures _ then_filled) in
    rw (new_is _ _ _ _ c.requires.rising c.requires.above ended) refl

pub await_stream-requires-clause-alone : goal.await_stream-requires-clause-alone
await_stream-requires-clause-alone c = λ x e.
    let now = new_is _ _ _ _ c.requires.rising c.requires.above c.in_ok-make.ensures.ok in
    let filled = then_new _ _ _ _ _ _ c.requires.rising c.requires.above c.in_ok-make.ensures.ok (c.in_ok-add_elements.ensures _ now) in
    let then_filled = new_is _ _ _ _ c.requires.rising c.requires.above filled in
    let ended = then_new _ _ _ _ _ _ c.requires.rising c.requires.above filled (c.end_stream.ensures _ then_filled) in
    field_is (λ y. y.waiter) _ x None (sym (new_is _ _ _ _ c.requires.rising c.requires.above ended) ∙ e) refl

pub returns : goal.returns
returns c =
    let now = new_is _ _ _ _ c.requires.rising c.requires.above c.in_ok-make.ensures.ok in
    let filled = then_new _ _ _ _ _ _ c.requires.rising c.requires.above c.in_ok-make.ensures.ok (c.in_ok-add_elements.ensures _ now) in
    let then_filled = new_is _ _ _ _ c.requires.rising c.requires.above filled in
    let ended = then_new _ _ _ _ _ _ c.requires.rising c.requires.above filled (c.end_stream.ensures _ then_filled) in
    let then_ended = new_is _ _ _ _ c.requires.rising c.requires.above ended in
    then_new _ _ _ _ _ _ c.requires.rising c.requires.above ended (c.await_stream.ensures _ then_ended)
