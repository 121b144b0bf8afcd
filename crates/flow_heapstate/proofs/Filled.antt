-- A heap filled from a state, part by part.
use Rattle.std.proofs.Common.{◌≡◌, ◌<◌, ◌-◌, ◌^◌, ℕ, nat_eq, nat_lt, Bool, true, false, List, [], ◌∷◌, ◌++◌, map, length, Option, Some, None, refl, ap, ap₂, ◌∙◌, arith, if◌then◌else◌}
use Rattle.std.proofs.lemmas.Bool.Decides.{nat_tests}
use Rattle.std.proofs.lemmas.List.{append_assoc}
use Rattle.flow_base.specs.declared.ids.CellId.{CellId}
use Rattle.flow_value.specs.declared.value.Value.{Value}
use Rattle.flow_numbered.specs.Numbered.{Numbered, thing, added}
use Rattle.flow_cell.specs.declared.counts.Side.TheVariants.{Promise}
use Rattle.flow_cell.specs.Cells.{Counts, no_counts}
use Rattle.flow_frame.specs.Frames.{FrameTree}
use Rattle.flow_cancel.specs.declared.actors.Note.{Note}
use Rattle.flow_cancel.specs.Heap.{HeapTree, owner, is_result, new_note, may_start, promised_in}
use Rattle.flow_heapstate.specs.Restoring.{frame_of, noted_if, with_cell, with_cells, with_stream, with_streams, can_begin, begun, with_actor, with_actors, RisesFrom}
use Rattle.flow_heapstate.specs.declared.state.CellState.{CellState}
use Rattle.flow_heapstate.specs.declared.state.StreamState.{StreamState}
use Rattle.flow_heapstate.specs.declared.state.ActorState.{ActorState}
use Rattle.flow_heapstate.proofs.Recounting.{bumped, recounted, cell_number, stream_number, cell_counted, stream_counted, cells_with, cell_rises}

abbrev pub no_count : ℕ → Counts
no_count n = no_counts

-- the last number
abbrev pub last_of : {S : Type 0} → (S → ℕ) → ℕ → List S → ℕ
last_of number low [] = low
last_of number low (s ∷ ss) = last_of number (number s) ss

-- the numbers that are noted of some, as these come in
abbrev pub all_noted : {S : Type 0} → (S → ℕ) → (S → Bool) → List S → List ℕ → List ℕ
all_noted number flag [] ns = ns
all_noted number flag (s ∷ ss) ns = all_noted number flag ss (noted_if (flag s) (number s) ns)

abbrev pub requested : CellState → Bool
requested s = s.requested

abbrev pub ported : StreamState → Bool
ported s = s.port

-- single results and streams
abbrev pub more_cells : List CellState → HeapTree → HeapTree
more_cells ss h = record h {
  cells = record { things = h.cells.things ++ recounted cell_number cell_counted no_count ss; greatest = last_of cell_number h.cells.greatest ss };
  requests = all_noted cell_number requested ss h.requests;
}

abbrev pub more_streams : List StreamState → HeapTree → HeapTree
more_streams ss h = record h {
  streams = record { things = h.streams.things ++ recounted stream_number stream_counted no_count ss; greatest = last_of stream_number h.streams.greatest ss };
  ports = all_noted stream_number ported ss h.ports;
}

nothing_more : {A : Type 0} (xs : List A) → xs ≡ xs ++ []
nothing_more [] = refl
nothing_more (x ∷ xs) = ap (λ ys. x ∷ ys) (nothing_more xs)

pub cells_filled : (ss : List CellState) (h : HeapTree) → with_cells ss h ≡ more_cells ss h
cells_filled [] h = ap (λ xs. record h { cells = record { things = xs; greatest = h.cells.greatest } }) (nothing_more h.cells.things)
cells_filled (s ∷ ss) h =
    cells_filled ss (with_cell s h)
    ∙ ap (λ xs. record h {
      cells = record { things = xs; greatest = last_of cell_number s.cell.0 ss };
      requests = all_noted cell_number requested ss (noted_if s.requested s.cell.0 h.requests);
    }) (append_assoc h.cells.things ((s.cell.0, cell_counted no_counts s) ∷ []) (recounted cell_number cell_counted no_count ss))

pub streams_filled : (ss : List StreamState) (h : HeapTree) → with_streams ss h ≡ more_streams ss h
streams_filled [] h = ap (λ xs. record h { streams = record { things = xs; greatest = h.streams.greatest } }) (nothing_more h.streams.things)
streams_filled (s ∷ ss) h =
    streams_filled ss (with_stream s h)
    ∙ ap (λ xs. record h {
      streams = record { things = xs; greatest = last_of stream_number s.cell.0 ss };
      ports = all_noted stream_number ported ss (noted_if s.port s.cell.0 h.ports);
    }) (append_assoc h.streams.things ((s.cell.0, stream_counted no_counts s) ∷ []) (recounted stream_number stream_counted no_count ss))

-- actors
abbrev pub actor_number : ActorState → ℕ
actor_number s = s.actor.0

abbrev pub frames_of : List ActorState → Numbered (FrameTree Value)
frames_of [] = []
frames_of (s ∷ ss) = (s.actor.0, frame_of s) ∷ frames_of ss

abbrev pub notes_of : List ActorState → Numbered Note
notes_of [] = []
notes_of (s ∷ ss) = (s.actor.0, new_note s.result) ∷ notes_of ss

-- the promise of a result rises
abbrev pub promised_counts : Option CellId → (ℕ → Counts) → ℕ → Counts
promised_counts None f = f
promised_counts (Some k) f = bumped Promise k.0 f

abbrev pub all_promised : List ActorState → (ℕ → Counts) → ℕ → Counts
all_promised [] f = f
all_promised (s ∷ ss) f = all_promised ss (promised_counts s.result f)

abbrev pub more_actors : List ActorState → (ℕ → Counts) → List CellState → ℕ → HeapTree → HeapTree
more_actors ss f cs g h = record h {
  cells = cells_with (all_promised ss f) cs g;
  frames = record { things = h.frames.things ++ frames_of ss; greatest = last_of actor_number h.frames.greatest ss };
  actors = record { things = h.actors.things ++ notes_of ss; greatest = last_of actor_number h.actors.greatest ss };
}

-- A result that an actor may start with: an unset one, of which no promise counts and which is no actor's; and no later actor
-- has the same.
abbrev pub at_state : List CellState → ℕ → Option CellState
at_state [] n = None
at_state (s ∷ ss) n = if nat_eq n s.cell.0 then Some s else at_state ss n

abbrev pub IsUnset : List CellState → Option CellId → Type 0
IsUnset cs None = Unit {0}
IsUnset cs (Some k) = (s : CellState) × (at_state cs k.0 ≡ Some s) × (s.content ≡ None)

abbrev pub IsFree : (ℕ → Counts) → Numbered Note → Option CellId → Type 0
IsFree f notes None = Unit {0}
IsFree f notes (Some k) = ((f k.0).promises ≡ 0) × (owner k.0 notes ≡ None)

abbrev pub Differ : Option CellId → Option CellId → Type 0
Differ (Some j) (Some k) = nat_eq k.0 j.0 ≡ false
Differ _ _ = Unit {0}

abbrev pub NoneLater : Option CellId → List ActorState → Type 0
NoneLater o [] = Unit {0}
NoneLater o (s ∷ ss) = Differ o s.result × NoneLater o ss

abbrev pub AreReady : List CellState → List ActorState → Type 0
AreReady cs [] = Unit {0}
AreReady cs (s ∷ ss) = (length s.places.items < 2 ^ 32) × IsUnset cs s.result × NoneLater s.result ss × AreReady cs ss

abbrev pub AreFree : (ℕ → Counts) → Numbered Note → List ActorState → Type 0
AreFree f notes [] = Unit {0}
AreFree f notes (s ∷ ss) = IsFree f notes s.result × AreFree f notes ss

thing_there : (f : ℕ → Counts) (cs : List CellState) (n : ℕ) (s : CellState) → at_state cs n ≡ Some s → thing (recounted cell_number cell_counted f cs) n ≡ Some (cell_counted (f n) s)
thing_there f [] n s e = absurd (cc)
thing_there f (c ∷ cs) n s e = at_head (nat_eq n c.cell.0) refl (λ x. thing_there f cs n s x)
  where
    at_head : (t : Bool) → nat_eq n c.cell.0 ≡ t → (at_state cs n ≡ Some s → thing (recounted cell_number cell_counted f cs) n ≡ Some (cell_counted (f n) s))
        → thing (recounted cell_number cell_counted f (c ∷ cs)) n ≡ Some (cell_counted (f n) s)
    at_head true g rest =
        let same : c.cell.0 ≡ n = grind (arith, nat_tests) in
        let is : c ≡ s = cc (rw g at e) in
        rw g (ap₂ (λ k d. Some (cell_counted (f k) d)) same is)
    at_head false g rest = rw g (rest (rw g at e))

may : (s : ActorState) (f : ℕ → Counts) (cs : List CellState) (g : ℕ) (h : HeapTree) → h.cells ≡ cells_with f cs g → IsUnset cs s.result → IsFree f h.actors.things s.result
    → may_start s.result h ≡ true
may s f cs g h is unset free = by_result s.result unset free
  where
    by_result : (o : Option CellId) → IsUnset cs o → IsFree f h.actors.things o → may_start o h ≡ true
    by_result None u v = refl
    by_result (Some k) u v =
        let there = thing_there f cs k.0 u.0 u.1 in
        let few : nat_lt (f k.0).promises (2 ^ 64 - 1) ≡ true = grind (arith, nat_tests, v.0) in
        rw (is, there, v.1, few, u.2) refl

owner_added : (k : ℕ) (xs : Numbered Note) (i : ℕ) (n : Note) → owner k xs ≡ None → is_result k n.result ≡ false → owner k (added xs i n) ≡ None
owner_added k [] i n e d = rw d refl
owner_added k (x ∷ xs) i n e d = at_head (is_result k x.1.result) refl (λ y. owner_added k xs i n y d)
  where
    at_head : (t : Bool) → is_result k x.1.result ≡ t → (owner k xs ≡ None → owner k (added xs i n) ≡ None) → owner k (x ∷ added xs i n) ≡ None
    at_head true g rest = let bad = rw g at e in absurd (cc)
    at_head false g rest = rw g (rest (rw g at e))

still_free : (o : Option CellId) (f : ℕ → Counts) (notes : Numbered Note) (i : ℕ) (ss : List ActorState) → NoneLater o ss → AreFree f notes ss
    → AreFree (promised_counts o f) (added notes i (new_note o)) ss
still_free o f notes i [] n h = tt
still_free o f notes i (s ∷ ss) n h = (by_result o s.result n.0 h.0, still_free o f notes i ss n.1 h.1)
  where
    by_result : (o p : Option CellId) → Differ o p → IsFree f notes p → IsFree (promised_counts o f) (added notes i (new_note o)) p
    by_result o None d v = tt
    by_result None (Some k) d v = (v.0, owner_added k.0 notes i (new_note None) v.1 refl)
    by_result (Some j) (Some k) d v = (rw d v.0, owner_added k.0 notes i (new_note (Some j)) v.1 d)

promised_is : (s : ActorState) (f : ℕ → Counts) (cs : List CellState) (g : ℕ) → RisesFrom 0 (map cell_number cs) → IsUnset cs s.result
    → promised_in s.result (cells_with f cs g) ≡ cells_with (promised_counts s.result f) cs g
promised_is s f cs g rises unset = by_result s.result unset
  where
    by_result : (o : Option CellId) → IsUnset cs o → promised_in o (cells_with f cs g) ≡ cells_with (promised_counts o f) cs g
    by_result None u = refl
    by_result (Some k) u =
        let there = thing_there f cs k.0 u.0 u.1 in
        let up = cell_rises Promise 0 f cs g k.0 rises in
        rw there ((rw there at up))

pub actors_filled : (ss : List ActorState) (f : ℕ → Counts) (cs : List CellState) (g : ℕ) (h : HeapTree) → h.cells ≡ cells_with f cs g → RisesFrom 0 (map cell_number cs)
    → AreReady cs ss → AreFree f h.actors.things ss → with_actors ss h ≡ more_actors ss f cs g h
actors_filled [] f cs g h is rises ready free =
    ap (λ x. record h { cells = x }) is
    ∙ ap₂ (λ xs ys. record h {
      cells = cells_with f cs g;
      frames = record { things = xs; greatest = h.frames.greatest };
      actors = record { things = ys; greatest = h.actors.greatest };
    }) (nothing_more h.frames.things) (nothing_more h.actors.things)
actors_filled (s ∷ ss) f cs g h is rises ready free =
    let few : nat_lt (length s.places.items) (2 ^ 32) ≡ true = grind (arith, nat_tests, ready.0) in
    let able : can_begin s h ≡ true = rw (few, may s f cs g h is ready.1 free.0) refl in
    let begins : with_actor s h ≡ begun s h = rw able refl in
    let cells : (begun s h).cells ≡ cells_with (promised_counts s.result f) cs g = ap (promised_in s.result) is ∙ promised_is s f cs g rises ready.1 in
    ap (with_actors ss) begins
    ∙ actors_filled ss (promised_counts s.result f) cs g (begun s h) cells rises ready.3 (still_free s.result f h.actors.things s.actor.0 ss ready.2 free.1)
    ∙ ap₂ (λ xs ys. record h {
      cells = cells_with (all_promised ss (promised_counts s.result f)) cs g;
      frames = record { things = xs; greatest = last_of actor_number s.actor.0 ss };
      actors = record { things = ys; greatest = last_of actor_number s.actor.0 ss };
    }) (append_assoc h.frames.things ((s.actor.0, frame_of s) ∷ []) (frames_of ss)) (append_assoc h.actors.things ((s.actor.0, new_note s.result) ∷ []) (notes_of ss))
