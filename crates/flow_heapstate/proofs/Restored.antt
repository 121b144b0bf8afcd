-- The heap that a state is restored to.
use Rattle.std.proofs.Common.{◌≡◌, ◌<◌, ◌+◌, ◌^◌, ℕ, suc, max, nat_eq, Bool, true, false, ◌&&◌, List, [], ◌∷◌, ◌++◌, map, length, Option, Some, None, refl, sym, ap, ◌∙◌, arith, if◌then◌else◌}
use Rattle.std.proofs.lemmas.Bool.Decides.{nat_tests}
use Rattle.std.proofs.lemmas.List.{append_assoc, length-map}
use Rattle.std.specs.List.{AllByRecursion, flat_map}
use Rattle.flow_base.specs.declared.ids.CellId.{CellId}
use Rattle.flow_value.specs.declared.value.Kind.{Kind}
use Rattle.flow_value.specs.declared.value.Kind.TheVariants as kind
use Rattle.flow_value.specs.declared.value.Outcome.{Outcome}
use Rattle.flow_numbered.specs.Numbered.{thing}
use Rattle.flow_cell.specs.Cells.{Counts, no_counts}
use Rattle.flow_cell.specs.declared.counts.Side.TheVariants.{Promise}
use Rattle.flow_cancel.specs.Heap.{HeapTree, no_heap, skipped_actors}
use Rattle.flow_heapstate.specs.State.{Parts, CellPart, place_of, parts_kept, cell_kept, stream_kept, actor_kept}
use Rattle.flow_heapstate.specs.Referring.{Ref, named, result_refs, stored_refs, references, same_kind, times}
use Rattle.flow_heapstate.specs.Restoring.{with_streams, with_actors, filled, restored, held_all, RisesFrom, StateInOrder}
use Rattle.flow_heapstate.specs.Sound.{cell_times, stream_times, RiseTo, at_number, results, SoundActor, OwnResult, SoundHeap}
use Rattle.flow_heapstate.specs.declared.state.CellState.{CellState}
use Rattle.flow_heapstate.specs.declared.state.ActorState.{ActorState}
use Rattle.flow_heapstate.specs.declared.state.HeapState.{HeapState}
use Rattle.flow_heapstate.proofs.Recounting.{bumped, recounted, cell_number, stream_number, cells_with, streams_with, in_cells, all_in_cells, in_streams, all_in_streams, all_held, cells_counted, streams_counted, added_counts, counts_same}
use Rattle.flow_heapstate.proofs.Filled.{no_count, last_of, all_noted, requested, ported, more_cells, more_streams, cells_filled, streams_filled, actor_number, frames_of, notes_of, promised_counts, all_promised, more_actors, at_state, IsUnset, IsFree, Differ, NoneLater, AreReady, AreFree, actors_filled}

-- the order of the parts
rises : {S P : Type 0} (kept : S → P) (number : P → ℕ) (low : ℕ) (ss : List S) (most : ℕ) → RiseTo low (map number (map kept ss)) most → RisesFrom low (map (λ s. number (kept s)) ss)
rises kept number low [] most h = tt
rises kept number low (s ∷ ss) most h = (h.0, rises kept number (number (kept s)) ss most h.1)

pub in_order : (s : HeapState) → SoundHeap (parts_kept s) → StateInOrder s
in_order s h = record {
  cells = rises cell_kept (λ c. c.cell) 0 s.cells.items s.cells_made h.cells_rise;
  streams = rises stream_kept (λ c. c.cell) 0 s.streams.items s.cells_made h.streams_rise;
  actors = rises actor_kept (λ a. a.actor) 0 s.actors.items s.actors_made h.actors_rise;
}

-- the promises of results are counted as the actors come in
promises_are : (who : List ActorState) (f : ℕ → Counts) → all_promised who f ≡ all_in_cells (flat_map result_refs (map actor_kept who)) f
promises_are [] f = refl
promises_are (a ∷ who) f = by_result a.result (promises_are who)
  where
    by_result : (o : Option CellId) → ((g : ℕ → Counts) → all_promised who g ≡ all_in_cells (flat_map result_refs (map actor_kept who)) g)
        → all_promised who (promised_counts o f) ≡ all_in_cells (named o kind.Promise ++ flat_map result_refs (map actor_kept who)) f
    by_result None rest = rest f
    by_result (Some k) rest = rest (bumped Promise k.0 f)

both_in_cells : (rs qs : List Ref) (f : ℕ → Counts) → all_in_cells qs (all_in_cells rs f) ≡ all_in_cells (rs ++ qs) f
both_in_cells [] qs f = refl
both_in_cells (r ∷ rs) qs f = both_in_cells rs qs (in_cells r f)

-- each actor may start
unset_there : (cs : List CellState) (k : ℕ) (c : CellPart) → at_number (λ p. p.cell) (map cell_kept cs) k ≡ Some c → c.content ≡ None → (s : CellState) × (at_state cs k ≡ Some s) × (s.content ≡ None)
unset_there [] k c e u = absurd (cc)
unset_there (s ∷ cs) k c e u = at_head (nat_eq k s.cell.0) refl (λ x. unset_there cs k c x u)
  where
    no_content : (o : Option Outcome) → cell_kept s ≡ c → s.content ≡ o → o ≡ None
    no_content None is g = refl
    no_content (Some v) is g = let bad = ap (λ p. p.content) is ∙ u in absurd (cc (bad, g))

    at_head : (t : Bool) → nat_eq k s.cell.0 ≡ t → (at_number (λ p. p.cell) (map cell_kept cs) k ≡ Some c → (d : CellState) × (at_state cs k ≡ Some d) × (d.content ≡ None))
        → (d : CellState) × (at_state (s ∷ cs) k ≡ Some d) × (d.content ≡ None)
    at_head true g rest = let is : cell_kept s ≡ c = cc (rw g at e) in (s, rw g refl, no_content s.content is refl)
    at_head false g rest = let d = rest (rw g at e) in (d.0, rw g d.1, d.2)

abbrev pub promises_in : List ActorState → List Ref
promises_in who = flat_map result_refs (map actor_kept who)

times_both : (k : Kind) (n : ℕ) (rs qs : List Ref) → times k n (rs ++ qs) ≡ times k n rs + times k n qs
times_both k n [] qs = omega arith
times_both k n (r ∷ rs) qs = by_test (same_kind k r.0 && nat_eq n r.1) (times_both k n rs qs)
  where
    by_test : (t : Bool) → times k n (rs ++ qs) ≡ times k n rs + times k n qs
        → (if t then suc (times k n (rs ++ qs)) else times k n (rs ++ qs)) ≡ (if t then suc (times k n rs) else times k n rs) + times k n qs
    by_test true e = omega (arith, e)
    by_test false e = e

none_later : (k : CellId) (who : List ActorState) → times kind.Promise k.0 (promises_in who) ≡ 0 → NoneLater (Some k) who
none_later k [] e = tt
none_later k (a ∷ who) e = by_result a.result e (λ x. none_later k who x)
  where
    by_test : (j : CellId) (t : Bool) → nat_eq k.0 j.0 ≡ t → (if t then suc (times kind.Promise k.0 (promises_in who)) else times kind.Promise k.0 (promises_in who)) ≡ 0
        → (times kind.Promise k.0 (promises_in who) ≡ 0 → NoneLater (Some k) who) → Differ (Some k) (Some j) × NoneLater (Some k) who
    by_test j true g e rest = absurd (omega (arith, e))
    by_test j false g e rest = (grind (arith, nat_tests), rest e)

    by_result : (o : Option CellId) → times kind.Promise k.0 (named o kind.Promise ++ promises_in who) ≡ 0 → (times kind.Promise k.0 (promises_in who) ≡ 0 → NoneLater (Some k) who)
        → Differ (Some k) o × NoneLater (Some k) who
    by_result None e rest = (tt, rest e)
    by_result (Some j) e rest = by_test j (nat_eq k.0 j.0) refl e rest

no_later : (who : List ActorState) → NoneLater None who
no_later [] = tt
no_later (a ∷ who) = (tt, no_later who)

abbrev pub FitsIn : List CellState → List Ref → ActorState → Type 0
FitsIn cs all a = (length a.places.items < 2 ^ 32) × ((k : CellId) → a.result ≡ Some k → IsUnset cs (Some k) × (times kind.Promise k.0 all ≡ 1))

ready : (all rs : List Ref) (cs : List CellState) (who : List ActorState) → all ≡ rs ++ promises_in who → AllByRecursion (FitsIn cs all) who → AreReady cs who
ready all rs cs [] e h = tt
ready all rs cs (a ∷ who) e h = (
  h.0.0,
  by_result a.result h.0.1,
  later a.result h.0.1 e,
  ready all (rs ++ named a.result kind.Promise) cs who (e ∙ sym (append_assoc rs (named a.result kind.Promise) (promises_in who))) h.1,
)
  where
    by_result : (o : Option CellId) → ((k : CellId) → o ≡ Some k → IsUnset cs (Some k) × (times kind.Promise k.0 all ≡ 1)) → IsUnset cs o
    by_result None f = tt
    by_result (Some k) f = (f k refl).0

    once : (k : CellId) → times kind.Promise k.0 (named (Some k) kind.Promise) ≡ 1
    once k = let same : nat_eq k.0 k.0 ≡ true = grind (arith, nat_tests) in rw same refl

    later : (o : Option CellId) → ((k : CellId) → o ≡ Some k → IsUnset cs (Some k) × (times kind.Promise k.0 all ≡ 1)) → all ≡ rs ++ (named o kind.Promise ++ promises_in who) → NoneLater o who
    later None f e = no_later who
    later (Some k) f e =
        let one = (f k refl).1 in
        let split = times_both kind.Promise k.0 rs (named (Some k) kind.Promise ++ promises_in who) in
        let rest = times_both kind.Promise k.0 (named (Some k) kind.Promise) (promises_in who) in
        none_later k who (omega (arith, sym (ap (times kind.Promise k.0) e) ∙ one, split, rest, once k))

all_free : (who : List ActorState) → AreFree no_count [] who
all_free [] = tt
all_free (a ∷ who) = (by_result a.result, all_free who)
  where
    by_result : (o : Option CellId) → IsFree no_count [] o
    by_result None = tt
    by_result (Some k) = (refl, refl)

fits : (s : HeapState) → (who : List ActorState) → AllByRecursion (SoundActor (parts_kept s)) (map actor_kept who) → AllByRecursion (FitsIn s.cells.items (results (parts_kept s))) who
fits s [] h = tt
fits s (a ∷ who) h = ((few a h.0, λ k e. own k (h.0.result k e)), fits s who h.1)
  where
    few : (a : ActorState) → SoundActor (parts_kept s) (actor_kept a) → length a.places.items < 2 ^ 32
    few a t = let same : length (map place_of a.places.items) ≡ length a.places.items = length-map a.places.items place_of in omega (arith, same, t.few)

    own : (k : CellId) → OwnResult (parts_kept s) k.0 → IsUnset s.cells.items (Some k) × (times kind.Promise k.0 (results (parts_kept s)) ≡ 1)
    own k r = (unset_there s.cells.items k.0 r.cell r.there r.unset, r.own)

-- the heap, part by part
module _ (s : HeapState) where
  abbrev pub p : Parts
  p = parts_kept s

  abbrev pub cell_counts : ℕ → Counts
  cell_counts = all_in_cells (stored_refs p) (all_promised s.actors.items no_count)

  abbrev pub stream_counts : ℕ → Counts
  stream_counts = all_in_streams (stored_refs p) no_count

  abbrev pub whole : HeapTree
  whole = record {
    tasks = [];
    cells = cells_with cell_counts s.cells.items (last_of cell_number 0 s.cells.items);
    streams = streams_with stream_counts s.streams.items (last_of stream_number 0 s.streams.items);
    frames = record { things = frames_of s.actors.items; greatest = max (last_of actor_number 0 s.actors.items) s.actors_made };
    actors = record { things = notes_of s.actors.items; greatest = last_of actor_number 0 s.actors.items };
    made = max 0 s.cells_made;
    main = s.main;
    ports = all_noted stream_number ported s.streams.items [];
    requests = all_noted cell_number requested s.cells.items [];
  }

  abbrev pub placed : HeapTree
  placed = more_streams s.streams.items (more_cells s.cells.items no_heap)

  pub restored_is : SoundHeap p → restored s ≡ whole
  restored_is h =
      let order = in_order s h in
      let with_them : filled s ≡ more_actors s.actors.items no_count s.cells.items (last_of cell_number 0 s.cells.items) placed =
      ap (with_actors s.actors.items) (ap (with_streams s.streams.items) (cells_filled s.cells.items no_heap) ∙ streams_filled s.streams.items (more_cells s.cells.items no_heap))
      ∙ actors_filled s.actors.items no_count s.cells.items (last_of cell_number 0 s.cells.items) placed refl order.cells
      (ready (results p) [] s.cells.items s.actors.items refl (fits s s.actors.items h.actors)) (all_free s.actors.items) in
      ap (λ (x : HeapTree). held_all (stored_refs p) (record (skipped_actors s.actors_made x) { made = max x.made s.cells_made; main = s.main })) with_them
      ∙ all_held s.cells.items s.streams.items (last_of cell_number 0 s.cells.items) (last_of stream_number 0 s.streams.items) order.cells order.streams (stored_refs p) whole
      (all_promised s.actors.items no_count) no_count

-- what counts
module _ {S A : Type 0} (number : S → ℕ) (tree : Counts → S → A) (refs : A → Counts) (is : (c : Counts) (s : S) → refs (tree c s) ≡ c) where
  pub counted_at : (f : ℕ → Counts) (ss : List S) (n : ℕ) (a : A) → thing (recounted number tree f ss) n ≡ Some a → refs a ≡ f n
  counted_at f [] n a e = absurd (cc)
  counted_at f (s ∷ ss) n a e = at_head (nat_eq n (number s)) refl (λ x. counted_at f ss n a x)
    where
      at_head : (t : Bool) → nat_eq n (number s) ≡ t → (thing (recounted number tree f ss) n ≡ Some a → refs a ≡ f n) → refs a ≡ f n
      at_head true g rest =
          let same : number s ≡ n = grind (arith, nat_tests) in
          let here : tree (f (number s)) s ≡ a = cc (rw g at e) in
          sym (ap refs here) ∙ is (f (number s)) s ∙ ap f same
      at_head false g rest = rest (rw g at e)

none_yet : (c : Counts) → added_counts no_counts c ≡ c
none_yet c = counts_same (added_counts no_counts c) c (omega arith) (omega arith)

both_in_streams : (rs qs : List Ref) (f : ℕ → Counts) → all_in_streams qs (all_in_streams rs f) ≡ all_in_streams (rs ++ qs) f
both_in_streams [] qs f = refl
both_in_streams (r ∷ rs) qs f = both_in_streams rs qs (in_streams r f)

no_streams : (who : List ActorState) (f : ℕ → Counts) → all_in_streams (promises_in who) f ≡ f
no_streams [] f = refl
no_streams (a ∷ who) f = by_result a.result (no_streams who f)
  where
    by_result : (o : Option CellId) → all_in_streams (promises_in who) f ≡ f → all_in_streams (named o kind.Promise ++ promises_in who) f ≡ f
    by_result None e = e
    by_result (Some k) e = e

pub cells_count : (s : HeapState) (n : ℕ) → cell_counts s n ≡ cell_times n (references (parts_kept s))
cells_count s n =
    ap (λ f. all_in_cells (stored_refs (parts_kept s)) f n) (promises_are s.actors.items no_count)
    ∙ ap (λ f. f n) (both_in_cells (promises_in s.actors.items) (stored_refs (parts_kept s)) no_count)
    ∙ cells_counted (references (parts_kept s)) no_count n ∙ none_yet _

pub streams_count : (s : HeapState) (n : ℕ) → stream_counts s n ≡ stream_times n (references (parts_kept s))
streams_count s n =
    ap (λ f. all_in_streams (stored_refs (parts_kept s)) f n) (sym (no_streams s.actors.items no_count))
    ∙ ap (λ f. f n) (both_in_streams (promises_in s.actors.items) (stored_refs (parts_kept s)) no_count)
    ∙ streams_counted (references (parts_kept s)) no_count n ∙ none_yet _
