-- What does not change while a heap is filled, and an actor that begins.
use Rattle.std.proofs.Common.{◌≡◌, ◌<◌, ◌≤◌, ◌-◌, ℕ, zero, suc, max, Bool, true, false, List, [], ◌∷◌, map, length, Option, Some, refl, sym, ap, ap₂, ◌∙◌, arith, if◌then◌else◌}
use Rattle.flow_value.specs.declared.value.Value.{Value}
use Rattle.flow_numbered.specs.Numbered.{Store, thing, with_thing, IsRising}
use Rattle.flow_frame.specs.Frames.{FrameTree, padded, holding}
use Rattle.flow_cancel.specs.Heap.{HeapTree, last_actor, next_actor, with_new, skipped_actors, started_holding, promised_in, new_note}
use Rattle.flow_heapstate.specs.Restoring.{stood, frame_of, with_cells, with_cell, with_streams, with_stream, can_begin, begun, with_actor, RisesFrom}
use Rattle.flow_heapstate.proofs.Building.{new_is, then_new}
use Rattle.flow_heapstate.specs.declared.state.CellState.{CellState}
use Rattle.flow_heapstate.specs.declared.state.StreamState.{StreamState}
use Rattle.flow_heapstate.specs.declared.state.ActorState.{ActorState}

pub streams_stay : (ss : List CellState) (h : HeapTree) → (with_cells ss h).streams ≡ h.streams
streams_stay [] h = refl
streams_stay (s ∷ ss) h = streams_stay ss (with_cell s h)

pub last_stays : (ss : List CellState) (h : HeapTree) → last_actor (with_cells ss h) ≡ last_actor h
last_stays [] h = refl
last_stays (s ∷ ss) h = last_stays ss (with_cell s h)

pub last_stays_too : (ss : List StreamState) (h : HeapTree) → last_actor (with_streams ss h) ≡ last_actor h
last_stays_too [] h = refl
last_stays_too (s ∷ ss) h = last_stays_too ss (with_stream s h)

pub lower : (low more : ℕ) (ns : List ℕ) → low ≤ more → RisesFrom more ns → RisesFrom low ns
lower low more [] l h = tt
lower low more (n ∷ ns) l h = (omega (arith, l, h.0), h.1)

-- the actors that are still to come
pub actors_rise : (s : ActorState) (ss : List ActorState) (h : HeapTree) → RisesFrom (last_actor h) (map (λ a. a.actor.0) (s ∷ ss))
    → RisesFrom (last_actor (with_actor s h)) (map (λ a. a.actor.0) ss)
actors_rise s ss h rises = by_case (can_begin s h)
  where
    by_case : (t : Bool) → RisesFrom (last_actor (if t then begun s h else h)) (map (λ a. a.actor.0) ss)
    by_case true = lower (max s.actor.0 s.actor.0) s.actor.0 (map (λ a. a.actor.0) ss) (grind arith) rises.1
    by_case false = lower (last_actor h) s.actor.0 (map (λ a. a.actor.0) ss) (omega (arith, rises.0)) rises.1

-- an actor that begins
all_padded : (xs : List (Option Value)) → padded (length xs) xs ≡ xs
all_padded [] = refl
all_padded (x ∷ xs) = ap (λ ys. x ∷ ys) (all_padded xs)

stands_as : (part : ActorState) → stood part.state part.callbacks.items (holding part.class (length part.places.items) part.places.items) ≡ frame_of part
stands_as part = by_state part.state ∙ ap (λ xs. record (frame_of part) { places = xs }) (all_padded part.places.items)
  where
    by_state : (n : ℕ) → stood n part.callbacks.items (holding part.class (length part.places.items) part.places.items)
        ≡ record (frame_of part) { state = n; places = padded (length part.places.items) part.places.items }
    by_state zero = refl
    by_state (suc n) = refl

module _ (part : ActorState) (h one two : HeapTree) (actor places : ℕ) (above : last_actor h < part.actor.0) (skips : one ≡ skipped_actors (part.actor.0 - 1) h)
    (number : actor ≡ next_actor one) (starts : two ≡ started_holding part.class places part.places.items part.result one) (rising : IsRising 0 one.frames.things one.frames.greatest) where
  same_number : actor ≡ part.actor.0
  same_number = number ∙ ap next_actor skips ∙ grind (arith, above)

  abbrev begun_frame : FrameTree Value
  begun_frame = holding part.class places part.places.items

  framed : two.frames ≡ with_new one.frames actor begun_frame
  framed = ap (λ (x : HeapTree). x.frames) starts ∙ ap (λ i. with_new one.frames i begun_frame) (sym number)

  below : one.frames.greatest < actor
  below = grind (arith, number)

  pub stands_there : thing two.frames.things actor ≡ Some (holding part.class places part.places.items)
  stands_there = new_is one.frames two.frames actor begun_frame rising below framed

  pub begins : (frames : Store (FrameTree Value)) → places ≡ length part.places.items
      → ((x : FrameTree Value) → thing two.frames.things actor ≡ Some x → frames ≡ with_thing two.frames actor (stood part.state part.callbacks.items x))
      → record two { frames = frames } ≡ begun part h
  begins frames size stands =
      let now = then_new one.frames two.frames frames actor begun_frame _ rising below framed (stands begun_frame stands_there) in
      let as_part : stood part.state part.callbacks.items begun_frame ≡ frame_of part =
      ap (λ n. stood part.state part.callbacks.items (holding part.class n part.places.items)) size ∙ stands_as part in
      let kept : with_new one.frames actor (stood part.state part.callbacks.items begun_frame) ≡ with_new h.frames part.actor.0 (frame_of part) =
      ap₂ (λ i f. with_new one.frames i f) same_number as_part ∙ ap (λ (x : HeapTree). with_new x.frames part.actor.0 (frame_of part)) skips in
      ap (λ (x : HeapTree). record x { frames = frames }) starts
      ∙ ap (λ i. record one {
        cells = promised_in part.result one.cells;
        frames = frames;
        actors = with_new one.actors i (new_note part.result);
      }) (sym number ∙ same_number)
      ∙ ap (λ f. record one {
        cells = promised_in part.result one.cells;
        frames = f;
        actors = with_new one.actors part.actor.0 (new_note part.result);
      }) (now ∙ kept)
      ∙ ap (λ (x : HeapTree). record x {
        cells = promised_in part.result x.cells;
        frames = with_new h.frames part.actor.0 (frame_of part);
        actors = with_new x.actors part.actor.0 (new_note part.result);
      }) skips
