use Rattle.std.proofs.Common.{◌≡◌, ◌+◌, length, sym, ap, ◌∙◌, subst, refl, arith, false}
use Rattle.std.proofs.lemmas.List.{length_push}
use Rattle.flow_world.specs.declared.place.Place.{Place}
use Rattle.flow_world.specs.Starting.{IsFresh, AreFresh}
use Rattle.flow_world.proofs.Beginnings.{fresh_more}
use Rattle.flow_world.proofs.starting.fresh_places.Goals as goal

pub loop-number-preserved : goal.loop-number-preserved
loop-number-preserved c =
    let n = c.args.processes in
    let old = c.loop-number.places.items in
    let place : Place = record { up = false; machine = c.in_ok-new.field-0; ports = c.new-in-loop-number.result } in
    let number : c.loop-number.number ≡ 0 + length old = omega (arith, c.loop-number.invariant.count) in
    let fresh : IsFresh n (0 + length old) place = record {
      memory = c.args.alloc;
      down = refl;
      me = ap (λ p. p.0) c.in_ok-new.ensures.me ∙ number;
      processes_are = c.in_ok-new.ensures.processes;
      never = c.in_ok-new.ensures.fresh;
      ports = c.new-in-loop-number.ensures;
    } in
    record {
      count = omega (arith, ap length c.in_ok-push.ensures.items, length_push old place, c.loop-number.invariant.count);
      fresh = subst (AreFresh n 0) (sym c.in_ok-push.ensures.items) (fresh_more n 0 old place c.loop-number.invariant.fresh fresh);
    }
