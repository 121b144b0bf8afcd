-- What is missing afterwards was missing before, also where more than one place was emptied, and where references came to count.
use Rattle.std.proofs.Common.{◌≡◌, ℕ, List, [], ◌∷◌, inl, inr, ap, ◌∙◌, subst}
use Rattle.std.specs.declared.option.Option.{Option}
use Rattle.std.specs.declared.option.Option.TheVariants.{None, Some}
use Rattle.flow_value.specs.declared.value.Kind.{Kind}
use Rattle.flow_value.specs.declared.value.Kind.TheVariants as kind
use Rattle.flow_value.specs.declared.value.Value.{Value}
use Rattle.flow_numbered.specs.Numbered.{Store, thing, with_thing}
use Rattle.flow_frame.specs.Frames.{FrameTree, with_place}
use Rattle.flow_cancel.specs.Heap.{HeapTree}
use Rattle.flow_meaning.specs.Cells.{Ref}
use Rattle.flow_heap_refinement.specs.Holds.{hold_all}
use Rattle.flow_steps.specs.Points.{reframed, place_put, places_emptied}
use Rattle.flow_steps.specs.Stuck.{MayNotFill, FrameMissing, PlaceMissing, NoPlace, SomePlaceMissing}
use Rattle.flow_steps.proofs.Before.{with_frame_still, place_still}
use Rattle.flow_steps.proofs.Amiss.{set_all_still, send_all_still}

-- places and frames, where places were emptied
pub place_stays_emptied : (i n : ℕ) (ns : List ℕ) (h : HeapTree) → NoPlace i n (places_emptied i ns h) → NoPlace i n h
place_stays_emptied i n [] h is = is
place_stays_emptied i n (m ∷ ns) h is = place_still i m n None h (place_stays_emptied i n ns (place_put i m None h) is)

pub frame_stays_emptied : (i m : ℕ) (ns : List ℕ) (h : HeapTree) → FrameMissing m (places_emptied i ns h) → FrameMissing m h
frame_stays_emptied i m [] h is = is
frame_stays_emptied i m (n ∷ ns) h is = with_frame_still (λ f. with_place f n None) i m h (frame_stays_emptied i m ns (place_put i n None h) is)

-- what is said of places is said of the frames alone
put_frames : (i n : ℕ) (g h : HeapTree) → g.frames ≡ h.frames → (place_put i n None g).frames ≡ (place_put i n None h).frames
put_frames i n g h e =
    by (thing g.frames.things i) ∙ ap (λ (s : Store (FrameTree Value)). (reframed (λ f. with_place f n None) i (thing s.things i) h).frames) e
  where
    by : (o : Option (FrameTree Value)) → (reframed (λ f. with_place f n None) i o g).frames ≡ (reframed (λ f. with_place f n None) i o h).frames
    by None = e
    by (Some f) = ap (λ s. with_thing s i (with_place f n None)) e

pub places_by_frames : (i : ℕ) (ns : List ℕ) (g h : HeapTree) → g.frames ≡ h.frames → SomePlaceMissing i ns g → SomePlaceMissing i ns h
places_by_frames i [] g h e is = is
places_by_frames i (n ∷ ns) g h e (inl is) = inl (subst (λ (s : Store (FrameTree Value)). PlaceMissing n (thing s.things i)) e is)
places_by_frames i (n ∷ ns) g h e (inr is) = inr (places_by_frames i ns (place_put i n None g) (place_put i n None h) (put_frames i n g h e) is)

-- of what a cell holds, where references came to count
pub fill_still : (kd : Kind) (rs : List Ref) (k : ℕ) (h : HeapTree) → MayNotFill kd k (hold_all rs h) → MayNotFill kd k h
fill_still kind.Promise rs k h m = set_all_still rs k h m
fill_still kind.Future rs k h m = set_all_still rs k h m
fill_still kind.PromiseStream rs k h m = send_all_still rs k h m
fill_still kind.FutureStream rs k h m = send_all_still rs k h m
