use Rattle.std.proofs.Common.{◌≡◌, ◌<◌, length, get_or, sym, ap, ◌∙◌, subst, arith, None}
use Rattle.std.proofs.lemmas.List.{length_push}
use Rattle.std.proofs.lemmas.Option.{slice_get-get_or, slice_get_past}
use Rattle.flow_heapstate.specs.State.{place_of}
use Rattle.flow_heapstate.proofs.Reading.{IsReadOf, read_next, read_all}
use Rattle.flow_heapstate.proofs.parts.places.Goals as goal

pub loop-place-preserved : goal.loop-place-preserved
loop-place-preserved c =
    let items = c.loop-place.places.items in
    let new = c.in_ok-place_copy.field-0 in
    let here : length items ≡ c.loop-place.place = c.loop-place.invariant.1 in (
      λ x is.
          let size = c.places-place-end.ensures x is in
          let below : length items < length x.places = omega (arith, here, size, c.loop-place-test.true) in
          let there = slice_get-get_or x.places (length items) None below in
          let same = c.in_ok-place_copy.ensures ∙ ap place_of (c.slot.ensures x is) ∙ ap (λ n. place_of (get_or x.places n None)) (sym here) in
          subst (IsReadOf place_of place_of x.places) (sym c.in_ok-push.ensures.items)
          (read_next place_of place_of x.places items (get_or x.places (length items) None) new (c.loop-place.invariant.0 x is) (sym there) same),
      omega (arith, ap length c.in_ok-push.ensures.items, length_push items new, here),
    )

pub returns : goal.returns
returns c = λ x is.
    let items = c.loop-place.places.items in
    let size = c.places-place-end.ensures x is in
    let here : length items ≡ c.loop-place.place = c.loop-place.invariant.1 in
    read_all place_of place_of x.places items (c.loop-place.invariant.0 x is)
    (sym (slice_get_past x.places (length items) (omega (arith, here, size, c.loop-place-test.false))))
