-- A frame that goes into a state before or after its places are emptied.
use Rattle.std.proofs.Common.{◌≡◌, ℕ, zero, suc, ◌-◌, nat_eq, Bool, true, false, List, [], ◌∷◌, length, if◌then◌else◌, refl, sym, ap, ◌∙◌}
use Rattle.std.specs.Option.{option_map}
use Rattle.std.specs.declared.option.Option.{Option}
use Rattle.std.specs.declared.option.Option.TheVariants.{None, Some}
use Rattle.flow_value.specs.declared.value.Value.{Value}
use Rattle.flow_numbered.specs.Numbered as stored
use Rattle.flow_frame.specs.Frames.{FrameTree, in_state, with_place}
use Rattle.flow_frame.specs.Frames as frames
use Rattle.flow_cancel.specs.Heap.{HeapTree}
use Rattle.flow_cancel.specs.Dropping.{dropping}
use Rattle.flow_heap_refinement.specs.Acting.{frame_put}
use Rattle.flow_heap_refinement.proofs.Finds.{stored_put}
use Rattle.flow_steps.specs.Points.{reframed, with_frame, place_held, place_put, values, place_lost, places_lost, losing_from, lost_from}
use Rattle.flow_steps.specs.Waiting.{suspended_at}

stored_over : {A : Type 0} (xs : stored.Numbered A) (i : ℕ) (a b : A) → stored.put (stored.put xs i a) i b ≡ stored.put xs i b
stored_over [] i a b = refl
stored_over (x ∷ xs) i a b = by_test (nat_eq i x.0) refl (stored_over xs i a b)
  where
    by_test : (t : Bool) → nat_eq i x.0 ≡ t → stored.put (stored.put xs i a) i b ≡ stored.put xs i b
        → stored.put (if t then (x.0, a) ∷ xs else x ∷ stored.put xs i a) i b ≡ (if t then (x.0, b) ∷ xs else x ∷ stored.put xs i b)
    by_test true e k = ap (λ t. if t then (x.0, b) ∷ xs else (x.0, a) ∷ stored.put xs i b) e
    by_test false e k = ap (λ t. if t then (x.0, b) ∷ stored.put xs i a else x ∷ stored.put (stored.put xs i a) i b) e ∙ ap (λ ys. x ∷ ys) k

module _ (i : ℕ) where
  -- two changes of a frame
  twice : (F G : FrameTree Value → FrameTree Value) (h : HeapTree) → with_frame F i (with_frame G i h) ≡ with_frame (λ f. F (G f)) i h
  twice F G h = by_frame (stored.thing h.frames.things i) refl
    where
      by_frame : (o : Option (FrameTree Value)) → stored.thing h.frames.things i ≡ o → with_frame F i (reframed G i o h) ≡ reframed (λ f. F (G f)) i o h
      by_frame None e = ap (λ o. reframed F i o h) e
      by_frame (Some f) e =
          ap (λ o. reframed F i o (frame_put i (G f) h)) (stored_put h.frames.things i f (G f) e)
          ∙ ap (λ fs. record h { frames = record h.frames { things = fs } }) (stored_over h.frames.things i (G f) (F (G f)))

  -- drops change no frame
  dropping_under : (F : FrameTree Value → FrameTree Value) (vs : List Value) (h : HeapTree) → dropping vs (with_frame F i h) ≡ with_frame F i (dropping vs h)
  dropping_under F vs h = by_frame (stored.thing h.frames.things i)
    where
      by_frame : (o : Option (FrameTree Value)) → dropping vs (reframed F i o h) ≡ reframed F i o (dropping vs h)
      by_frame None = refl
      by_frame (Some f) = refl

  frame_then : (F : FrameTree Value → FrameTree Value) (h : HeapTree) → stored.thing (with_frame F i h).frames.things i ≡ option_map F (stored.thing h.frames.things i)
  frame_then F h = by_frame (stored.thing h.frames.things i) refl
    where
      by_frame : (o : Option (FrameTree Value)) → stored.thing h.frames.things i ≡ o → stored.thing (reframed F i o h).frames.things i ≡ option_map F o
      by_frame None e = e
      by_frame (Some f) e = stored_put h.frames.things i f (F f) e

  module _ (g : ℕ) where
    abbrev into : FrameTree Value → FrameTree Value
    into = in_state (suc g)

    same_held : (n : ℕ) (o : Option (FrameTree Value)) → frames.held_in n (option_map into o) ≡ frames.held_in n o
    same_held n None = refl
    same_held n (Some f) = refl

    one_commutes : (n : ℕ) (h : HeapTree) → place_lost i n (with_frame into i h) ≡ with_frame into i (place_lost i n h)
    one_commutes n h =
        ap (λ o. dropping (values o) (place_put i n None (with_frame into i h))) (ap (frames.held_in n) (frame_then into h) ∙ same_held n (stored.thing h.frames.things i))
        ∙ ap (dropping (values (place_held i n h))) (twice (λ f. with_place f n None) into h ∙ sym (twice into (λ f. with_place f n None) h))
        ∙ dropping_under into (values (place_held i n h)) (place_put i n None h)

    all_commute : (count n : ℕ) (h : HeapTree) → places_lost i n count (with_frame into i h) ≡ with_frame into i (places_lost i n count h)
    all_commute zero n h = refl
    all_commute (suc k) n h = ap (places_lost i (suc n) k) (one_commutes n h) ∙ all_commute k (suc n) (place_lost i n h)

    pub suspended_first : (n : ℕ) (h : HeapTree) → suspended_at i (suc g) (lost_from i n h) ≡ lost_from i n (suspended_at i (suc g) h)
    suspended_first n h = by_frame (stored.thing h.frames.things i) ∙ ap (λ o. losing_from i n o (with_frame into i h)) (sym (frame_then into h))
      where
        by_frame : (o : Option (FrameTree Value)) → with_frame into i (losing_from i n o h) ≡ losing_from i n (option_map into o) (with_frame into i h)
        by_frame None = refl
        by_frame (Some f) = sym (all_commute (length f.places - n) n h)
