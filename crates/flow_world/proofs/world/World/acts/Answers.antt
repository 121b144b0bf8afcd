use Rattle.std.proofs.Common.{rules, ap, inl, inr, refl, sym, ◌∙◌, arith}
use Rattle.std.proofs.lemmas.Result.{IfErr-weaker, IfOk-weaker}
use Rattle.std.specs.Prelude.{slice_get}
use Rattle.flow_world.specs.Changes.{seen}
use Rattle.flow_world.specs.BreakingEvents.{not_among, acts_break}
use Rattle.flow_world.proofs.Events.{at_place}
use Rattle.flow_world.proofs.world.World.acts.Goals.{then-p-count-via-then-p-count, then-p-count-via-else-p-count+then-processes-count}
use Rattle.flow_world.proofs.world.World.acts.Goals as goal

pub returns-then-p-count-clause-breaks : goal.returns-then-p-count-clause-breaks
returns-then-p-count-clause-breaks g c =
    not_among c.in-Some.place.now refl (ap (slice_get c.args.self.now.places.items) (sym c.from.ensures)
    ∙ at_place c.args.self.now.places.items c.from.result c.in-Some.place.now c.in-Some.place.now c.in-Some.ensures.item.3.0 c.in-Some.ensures.value) (elim c.then-p-count.branch [
      | then-p-count-via-then-p-count w ↦ inl (omega (arith, w.if-p-count.true, c.processes-count.ensures))
      | then-p-count-via-else-p-count+then-processes-count w ↦ inr (λ same. w.if-processes-count.true (w.processes.ensures ∙ same ∙ sym c.processes-count.ensures))
    ])

pub returns-clause-acts : goal.returns-clause-acts
returns-clause-acts g c =
    IfOk-weaker c.acts.result _ _
    (λ e acts. record {
      at = c.in-Some.place.now;
      there = ap (slice_get c.args.self.now.places.items) (sym c.from.ensures)
          ∙ at_place c.args.self.now.places.items c.from.result c.in-Some.place.now c.in-Some.place.now c.in-Some.ensures.item.3.0 c.in-Some.ensures.value;
      acted = record { place = c.acts.new.place; outside = seen c.acts.new.outside; acts = acts; left = search rules };
    })
    c.acts.ensures.acts

pub returns-clause-breaks : goal.returns-clause-breaks
returns-clause-breaks g c =
    IfErr-weaker c.acts.result _ _
    (λ f t. acts_break c.in-Some.place.now
    (ap (slice_get c.args.self.now.places.items) (sym c.from.ensures)
    ∙ at_place c.args.self.now.places.items c.from.result c.in-Some.place.now c.in-Some.place.now c.in-Some.ensures.item.3.0 c.in-Some.ensures.value) t)
    c.acts.ensures.breaks
