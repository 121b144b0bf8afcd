-- An actor that is over may be forgotten; places that are there are found; and what the world brings comes in.
use Rattle.std.proofs.Common.{◌≡◌, ◌<◌, ◌≤◌, ℕ, true, List, [], ◌∷◌, length, map, inl, inr, refl, sym, ap, ◌∙◌, subst, arith}
use Rattle.std.proofs.lemmas.Bool.{false≢true}
use Rattle.std.proofs.lemmas.List.{length-set}
use Rattle.std.specs.Option.{option_map}
use Rattle.std.specs.declared.option.Option.{Option}
use Rattle.std.specs.declared.option.Option.TheVariants.{None, Some}
use Rattle.flow_value.specs.declared.value.Value.{Value}
use Rattle.flow_value.specs.View.{value_of}
use Rattle.flow_numbered.specs.Numbered as stored
use Rattle.flow_class.specs.Classes.{RawTree}
use Rattle.flow_frame.specs.Frames.{FrameTree, all_empty, with_place}
use Rattle.flow_cancel.specs.Heap.{HeapTree, holds_nothing}
use Rattle.flow_cancel.proofs.Puts.{found_put}
use Rattle.flow_meaning.specs.Frame.{Frame, over}
use Rattle.flow_meaning.specs.Process.{Entry}
use Rattle.flow_heap_refinement.specs.Representing.{FrameRepresents, stands, ended, held_from, wait_spot}
use Rattle.flow_steps.specs.Points.{reframed, place_put}
use Rattle.flow_steps.specs.Stuck.{PlaceMissing, SomePlaceMissing}
use Rattle.flow_steps.specs.StuckTasks.{NoPlaceFor, no_frame_left, no_variable, no_error_place}
use Rattle.flow_machine_progress.specs.Lookups.{AllBelow, ErrorBelow, ForgetFound, HandlerFound, BringFound}
use Rattle.flow_machine_progress.proofs.Lookups.References.{some_none, none_missing}
use Rattle.flow_machine_progress.proofs.Lookups.Losing.{may_fill}

-- a frame that holds nothing
nothing_mapped : (xs : List (Option Value)) → map (option_map value_of) xs ≡ [] → all_empty xs ≡ true
nothing_mapped [] e = refl
nothing_mapped (x ∷ xs) e = absurd (cc (e))

holds_none : (m : FrameTree Value) → all_empty m.places ≡ true → m.callbacks ≡ [] → holds_nothing (Some m) ≡ true
holds_none m e f = rw (e, f) refl

over_holds : (r : RawTree) (m : FrameTree Value) (e : Entry) (f : Frame) → FrameRepresents r m e f → f ≡ over → e.operands ≡ [] → holds_nothing (Some m) ≡ true
over_holds r m e f (stands s) is none =
    holds_none m (nothing_mapped m.places (s.places ∙ rw is refl)) (s.callbacks ∙ ap (held_from (wait_spot f).first) none)
over_holds r m e f (ended x) is none = holds_none m x.places x.callbacks

pub forget_found : ForgetFound
forget_found r h p i a is none (inl gone) = some_none (sym a.noted ∙ gone)
forget_found r h p i a is none (inr e) = false≢true (sym e ∙ ap holds_nothing a.framed ∙ over_holds r a.memory a.entry a.frame a.same.frame is none)

-- places of a frame that is there
below : (n : ℕ) (o : Option (FrameTree Value)) (m : FrameTree Value) → o ≡ Some m → n < length m.places → PlaceMissing n o → ⊥
below n o m e lt short = let le : length m.places ≤ n = subst (PlaceMissing n) e short in omega (arith, lt, le)

emptied_there : (i n : ℕ) (h : HeapTree) (m : FrameTree Value) → stored.thing h.frames.things i ≡ Some m
    → stored.thing (place_put i n None h).frames.things i ≡ Some (with_place m n None)
emptied_there i n h m e =
    ap (λ o. stored.thing (reframed (λ f. with_place f n None) i o h).frames.things i) e ∙ found_put h.frames.things i m (with_place m n None) e

all_below_put : (ns : List ℕ) (m : FrameTree Value) (n : ℕ) → AllBelow (length m.places) ns → AllBelow (length (with_place m n None).places) ns
all_below_put ns m n all = subst (λ l. AllBelow l ns) (sym (length-set m.places n None)) all

pub places_found : (i : ℕ) (ns : List ℕ) (h : HeapTree) (m : FrameTree Value) → stored.thing h.frames.things i ≡ Some m → AllBelow (length m.places) ns → SomePlaceMissing i ns h → ⊥
places_found i [] h m e all is = is
places_found i (n ∷ ns) h m e all (inl is) = below n (stored.thing h.frames.things i) m e all.0 is
places_found i (n ∷ ns) h m e all (inr is) =
    places_found i ns (place_put i n None h) (with_place m n None) (emptied_there i n h m e) (all_below_put ns m n all.1) is

error_found : (i : ℕ) (o : Option ℕ) (h : HeapTree) (m : FrameTree Value) → stored.thing h.frames.things i ≡ Some m → ErrorBelow (length m.places) o → NoPlaceFor i o h → ⊥
error_found i None h m e lt is = is
error_found i (Some n) h m e lt is = below n (stored.thing h.frames.things i) m e lt is

pub handler_found : HandlerFound
handler_found i c h m e all lt (no_frame_left none) = some_none (sym e ∙ none)
handler_found i c h m e all lt (no_variable is) = places_found i c.drops.items h m e all is
handler_found i c h m e all lt (no_error_place is) = error_found i c.error h m e lt is

-- what is brought
pub bring_found : BringFound
bring_found r x h p kd k c o hs there at right not_yet (inl m) = none_missing r x h p _ hs there m
bring_found r x h p kd k c o hs there at right not_yet (inr m) = may_fill r h p kd k c hs.shows at right not_yet m
