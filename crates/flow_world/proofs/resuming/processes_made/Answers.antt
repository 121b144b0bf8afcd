use Rattle.std.proofs.Common.{◌≡◌, ◌+◌, ◌++◌, [], ◌∷◌, length, map, sym, ap, ap₂, ◌∙◌, subst, arith}
use Rattle.std.specs.List.{AllByRecursion}
use Rattle.std.proofs.lemmas.List.{append_assoc, length_push, length-map, map_push}
use Rattle.flow_saved.specs.CanResume.{CanRun}
use Rattle.flow_saved.specs.Saved.{process_saved}
use Rattle.flow_world.specs.Resuming.{disk_made, PlaceMade, PlacesMade}
use Rattle.flow_world.proofs.Made.{place_more}
use Rattle.flow_world.proofs.resuming.processes_made.Goals as goal

pub loop-state-preserved : goal.loop-state-preserved
loop-state-preserved c =
    let inv = c.loop-state.invariant in
    let n = c.args.processes in
    let done = c.loop-state.yielded in
    let s = c.in-Some.state in
    let rest = c.next.new.self.rest.items in
    let places = c.loop-state.places.items in
    let place = c.in_ok-place.place in
    let split : c.loop-state.state-iterator.rest.items ≡ s ∷ rest = grind (arith, c.in-Some.ensures.steps) in
    let number : c.loop-state.number ≡ 0 + length (map process_saved done) = omega (arith, inv.done, length-map done process_saved) in
    let one = subst (λ k. PlaceMade n k (process_saved s) place) number c.in_ok-place.ensures.place in
    record {
      all = append_assoc done (s ∷ []) rest ∙ ap (λ xs. done ++ xs) (sym split) ∙ inv.all;
      count = omega (arith, inv.count, ap length split);
      done = omega (arith, length_push done s, inv.done);
      can = (subst (λ xs. AllByRecursion CanRun (map process_saved xs)) split inv.can).1;
      places =
          subst (λ ss. PlacesMade n 0 ss c.push.new.self.items) (sym (map_push process_saved done s))
          (subst (PlacesMade n 0 (map process_saved done ++ process_saved s ∷ [])) (sym c.in_ok-push.ensures.items)
          (place_more n 0 (map process_saved done) places (process_saved s) place inv.places one));
      disks =
          c.in_ok-push-2.ensures.items ∙ ap₂ (λ ds d. ds ++ d ∷ []) inv.disks c.in_ok-place.ensures.disk
          ∙ sym (map_push (λ p. disk_made p.disk) (map process_saved done) (process_saved s))
          ∙ ap (map (λ p. disk_made p.disk)) (sym (map_push process_saved done s));
    }
