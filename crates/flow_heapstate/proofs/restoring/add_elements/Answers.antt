use Rattle.std.proofs.Common.{◌≡◌, ◌∷◌, [], sym, ap, ◌∙◌, arith}
use Rattle.std.proofs.lemmas.Grind.{common_steps}
use Rattle.flow_numbered.specs.Numbered.{thing}
use Rattle.flow_heapstate.proofs.Reading.{what_is}
use Rattle.flow_heapstate.proofs.Building.{more, more_next, more_there, more_none, with_thing_is}
use Rattle.flow_heapstate.specs.Restoring.{queue_more}
use Rattle.flow_heapstate.proofs.Growing.{queue_both, queue_none}
use Rattle.flow_heapstate.proofs.restoring.add_elements.Goals as goal

pub loop-value-preserved : goal.loop-value-preserved
loop-value-preserved c =
    let s = c.loop-value.streams in
    let n = c.args.cell.0 in
    let there = what_is (thing s.things n) c.loop-value.invariant.there in
    let is = c.in_ok-push.ensures.ok there.0 there.1 in
    let split : c.loop-value.value-iterator.rest.items ≡ c.in-Some.value ∷ c.next.new.self.rest.items = grind (arith, c.in-Some.ensures.steps) in
    let now = with_thing_is s _ n there.0 (queue_more there.0 (c.in-Some.value ∷ [])) there.1 is in
    record {
      there = more_there queue_more s _ n there.0 _ there.1 is;
      endless = λ x e. let same : queue_more there.0 (c.in-Some.value ∷ []) ≡ x = cc (now, e) in sym (ap (λ y. y.end) same) ∙ c.loop-value.invariant.endless there.0 there.1;
      same = more_next queue_more queue_both s _ n there.0 c.in-Some.value c.next.new.self.rest.items there.1 is
          ∙ ap (λ xs. more queue_more n xs (thing s.things n) s) (sym split) ∙ c.loop-value.invariant.same;
    }

pub returns : goal.returns
returns c = λ x e.
    let s = c.loop-value.streams in
    let n = c.args.cell.0 in
    let none : c.loop-value.value-iterator.rest.items ≡ [] = grind (arith, common_steps) in
    sym (more_none queue_more queue_none s n) ∙ ap (λ xs. more queue_more n xs (thing s.things n) s) (sym none) ∙ c.loop-value.invariant.same
    ∙ ap (λ o. more queue_more n c.args.queue.items o c.args.streams.now) e
