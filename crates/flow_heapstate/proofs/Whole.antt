-- What a restored heap holds, and that it rests.
use Rattle.std.proofs.Common.{◌≡◌, ◌<◌, ◌≤◌, ℕ, max, nat_eq, Bool, true, false, ◌&&◌, ◌||◌, List, [], ◌∷◌, map, Some, IsSome, refl, sym, ap, ap₂, ◌∙◌, subst, arith, if◌then◌else◌}
use Rattle.std.proofs.lemmas.Bool.Decides.{nat_tests}
use Rattle.std.specs.List.{AllByRecursion}
use Rattle.flow_numbered.specs.Numbered.{Numbered, thing, IsRising}
use Rattle.flow_cell.specs.Cells.{Counts}
use Rattle.flow_cancel.specs.declared.actors.Note.{Note}
use Rattle.flow_cancel.specs.Heap.{has_number, new_note}
use Rattle.flow_heapstate.specs.State.{Parts, cell_part, stream_part, actor_part, parts_of, parts_kept, cell_kept, stream_kept, actor_kept, result_noted, IsAtRest, Rests}
use Rattle.flow_heapstate.specs.Restoring.{frame_of, noted_if, restored, RisesFrom}
use Rattle.flow_heapstate.specs.Sound.{RiseTo, SoundActor, SoundHeap, RestsWith}
use Rattle.flow_heapstate.specs.declared.state.ActorState.{ActorState}
use Rattle.flow_heapstate.specs.declared.state.HeapState.{HeapState}
use Rattle.flow_cancel.proofs.Noted.{has_with}
use Rattle.flow_heapstate.proofs.Numbers.{all_there}
use Rattle.flow_heapstate.proofs.Recounting.{recounted, cell_number, stream_number, cell_counted, stream_counted}
use Rattle.flow_heapstate.proofs.Filled.{last_of, all_noted, requested, ported, actor_number, frames_of, notes_of}
use Rattle.flow_heapstate.proofs.Restored.{in_order, whole, restored_is, cell_counts, stream_counts, cells_count, streams_count, counted_at}

-- numbers rise
rising_recounted : {S A : Type 0} (number : S → ℕ) (tree : Counts → S → A) (f : ℕ → Counts) (low : ℕ) (ss : List S) → RisesFrom low (map number ss)
    → IsRising low (recounted number tree f ss) (last_of number low ss)
rising_recounted number tree f low [] h = omega arith
rising_recounted number tree f low (s ∷ ss) h = (h.0, rising_recounted number tree f (number s) ss h.1)

rising_frames : (low : ℕ) (ss : List ActorState) (most : ℕ) → RisesFrom low (map actor_number ss) → IsRising low (frames_of ss) (max (last_of actor_number low ss) most)
rising_frames low [] most h = grind arith
rising_frames low (s ∷ ss) most h = (h.0, rising_frames s.actor.0 ss most h.1)

last_within : {S P : Type 0} (kept : S → P) (number : P → ℕ) (low : ℕ) (ss : List S) (most : ℕ) → RiseTo low (map number (map kept ss)) most → last_of (λ s. number (kept s)) low ss ≤ most
last_within kept number low [] most h = h
last_within kept number low (s ∷ ss) most h = last_within kept number (number (kept s)) ss most h.1

-- which numbers are noted
or_both : (a b c : Bool) → (a || (b || c)) ≡ ((b || a) || c)
or_both true true c = refl
or_both true false c = refl
or_both false true c = refl
or_both false false c = refl

or_false : (t : Bool) → ((t && true) || false) ≡ t
or_false true = refl
or_false false = refl

or_no : (t : Bool) → (t || false) ≡ t
or_no true = refl
or_no false = refl

passed : (t u : Bool) → ((t && false) || u) ≡ u
passed true u = refl
passed false u = refl

noted_has : (t : Bool) (k : ℕ) (ns : List ℕ) (n : ℕ) → has_number (noted_if t k ns) n ≡ ((t && nat_eq n k) || has_number ns n)
noted_has true k ns n = has_with n k ns
noted_has false k ns n = refl

module _ {S : Type 0} (number : S → ℕ) (flag : S → Bool) where
  abbrev pub is_noted : List S → ℕ → Bool
  is_noted [] n = false
  is_noted (s ∷ ss) n = (flag s && nat_eq n (number s)) || is_noted ss n

  noted_are : (ss : List S) (ns : List ℕ) (n : ℕ) → has_number (all_noted number flag ss ns) n ≡ (is_noted ss n || has_number ns n)
  noted_are [] ns n = refl
  noted_are (s ∷ ss) ns n =
      noted_are ss (noted_if (flag s) (number s) ns) n ∙ ap (λ t. is_noted ss n || t) (noted_has (flag s) (number s) ns n) ∙ or_both (is_noted ss n) (flag s && nat_eq n (number s)) (has_number ns n)

  noted_first : (ss : List S) (n : ℕ) → has_number (all_noted number flag ss []) n ≡ is_noted ss n
  noted_first ss n = noted_are ss [] n ∙ or_no (is_noted ss n)

  none_noted : (ss : List S) (low n : ℕ) → RisesFrom low (map number ss) → n ≤ low → is_noted ss n ≡ false
  none_noted [] low n h l = refl
  none_noted (s ∷ ss) low n h l =
      let other : nat_eq n (number s) ≡ false = grind (arith, nat_tests, h.0, l) in
      ap₂ (λ t u. (flag s && t) || u) other (none_noted ss (number s) n h.1 (omega (arith, h.0, l))) ∙ passed (flag s) false

  -- what is told of each
  told : {A P : Type 0} (tree : Counts → S → A) (kept : S → P) (part : List ℕ → ℕ × A → P)
      → ((ns : List ℕ) (c : Counts) (s : S) → has_number ns (number s) ≡ flag s → part ns (number s, tree c s) ≡ kept s)
      → (ns : List ℕ) (f : ℕ → Counts) (low : ℕ) (ss : List S) → RisesFrom low (map number ss) → ((n : ℕ) → low < n → has_number ns n ≡ is_noted ss n)
      → map (part ns) (recounted number tree f ss) ≡ map kept ss
  told tree kept part same ns f low [] h e = refl
  told tree kept part same ns f low (s ∷ ss) h e =
      let here : nat_eq (number s) (number s) ≡ true = grind (arith, nat_tests) in
      let this : has_number ns (number s) ≡ flag s =
      e (number s) h.0 ∙ ap₂ (λ t u. (flag s && t) || u) here (none_noted ss (number s) (number s) h.1 (omega arith)) ∙ or_false (flag s) in
      let rest : (n : ℕ) → number s < n → has_number ns n ≡ is_noted ss n =
      λ n l. let other : nat_eq n (number s) ≡ false = grind (arith, nat_tests, l) in
      e n (omega (arith, l, h.0)) ∙ ap (λ t. (flag s && t) || is_noted ss n) other ∙ passed (flag s) (is_noted ss n) in
      ap₂ (λ x xs. x ∷ xs) (same ns (f (number s)) s this) (told tree kept part same ns f (number s) ss h.1 rest)

  -- what is noted is there
  noted_there : {A : Type 0} (tree : Counts → S → A) (f : ℕ → Counts) (ss : List S) (n : ℕ) → is_noted ss n ≡ true → IsSome (thing (recounted number tree f ss) n)
  noted_there tree f [] n e = absurd (cc)
  noted_there {A} tree f (s ∷ ss) n e = at_head (nat_eq n (number s)) e (λ x. noted_there tree f ss n x)
    where
      at_head : (t : Bool) → ((flag s && t) || is_noted ss n) ≡ true → (is_noted ss n ≡ true → IsSome (thing (recounted number tree f ss) n))
          → IsSome (if t then Some (tree (f (number s)) s) else thing (recounted number tree f ss) n)
      at_head true e rest = refl
      at_head false e rest = rest (sym (passed (flag s) (is_noted ss n)) ∙ e)

-- actors: what is noted of each
-- in a list of notes that has these among those above a number
abbrev pub NotedAbove : ℕ → Numbered Note → List ActorState → Type 0
NotedAbove low notes ss = (n : ℕ) → low < n → thing notes n ≡ thing (notes_of ss) n

next_noted : (low : ℕ) (notes : Numbered Note) (s : ActorState) (ss : List ActorState) → low < s.actor.0 → NotedAbove low notes (s ∷ ss) → NotedAbove s.actor.0 notes ss
next_noted low notes s ss l e n m =
    let other : nat_eq n s.actor.0 ≡ false = grind (arith, nat_tests, m) in
    e n (omega (arith, l, m)) ∙ ap (λ t. if t then Some (new_note s.result) else thing (notes_of ss) n) other

here_noted : (low : ℕ) (notes : Numbered Note) (s : ActorState) (ss : List ActorState) → low < s.actor.0 → NotedAbove low notes (s ∷ ss) → thing notes s.actor.0 ≡ Some (new_note s.result)
here_noted low notes s ss l e =
    let here : nat_eq s.actor.0 s.actor.0 ≡ true = grind (arith, nat_tests) in
    e s.actor.0 l ∙ ap (λ t. if t then Some (new_note s.result) else thing (notes_of ss) s.actor.0) here

actors_told : (low : ℕ) (notes : Numbered Note) (ss : List ActorState) → RisesFrom low (map actor_number ss) → NotedAbove low notes ss → map (actor_part notes) (frames_of ss) ≡ map actor_kept ss
actors_told low notes [] h e = refl
actors_told low notes (s ∷ ss) h e =
    ap₂ (λ o xs. record (actor_kept s) { result = o } ∷ xs) (ap result_noted (here_noted low notes s ss h.0 e)) (actors_told s.actor.0 notes ss h.1 (next_noted low notes s ss h.0 e))

module _ (s : HeapState) where
  resting : (low : ℕ) (ss : List ActorState) → RisesFrom low (map actor_number ss) → NotedAbove low (whole s).actors.things ss
      → AllByRecursion (SoundActor (parts_kept s)) (map actor_kept ss) → AllByRecursion (IsAtRest (whole s)) (frames_of ss)
  resting low [] h e t = tt
  resting low (a ∷ ss) h e t =
      ((new_note a.result, here_noted low (whole s).actors.things a ss h.0 e, refl, t.0.suspended), resting a.actor.0 ss h.1 (next_noted low (whole s).actors.things a ss h.0 e) t.1)

  framed : (low : ℕ) (ss : List ActorState) → RisesFrom low (map actor_number ss) → ((n : ℕ) → low < n → thing (whole s).frames.things n ≡ thing (frames_of ss) n)
      → AllByRecursion (λ x. IsSome (thing (whole s).frames.things x.0)) (notes_of ss)
  framed low [] h e = tt
  framed low (a ∷ ss) h e = (rw (at_it a) refl, framed a.actor.0 ss h.1 (λ n m. e n (omega (arith, h.0, m)) ∙ ap (λ t. if t then Some (frame_of a) else thing (frames_of ss) n) (other a n m)))
    where
      other : (a : ActorState) (n : ℕ) → a.actor.0 < n → nat_eq n a.actor.0 ≡ false
      other a n m = grind (arith, nat_tests)

      at_it : (b : ActorState) → thing (whole s).frames.things a.actor.0 ≡ Some (frame_of a)
      at_it b =
          let here : nat_eq a.actor.0 a.actor.0 ≡ true = grind (arith, nat_tests) in
          e a.actor.0 h.0 ∙ ap (λ t. if t then Some (frame_of a) else thing (frames_of ss) a.actor.0) here

  pub whole_rests : SoundHeap (parts_kept s) → Rests (whole s)
  whole_rests h =
      let order = in_order s h in
      record {
        no_task = refl;
        cells_rise = rising_recounted cell_number cell_counted (cell_counts s) 0 s.cells.items order.cells;
        streams_rise = rising_recounted stream_number stream_counted (stream_counts s) 0 s.streams.items order.streams;
        frames_rise = rising_frames 0 s.actors.items s.actors_made order.actors;
        at_rest = resting 0 s.actors.items order.actors (λ n l. refl) h.actors;
        framed = framed 0 s.actors.items order.actors (λ n l. refl);
        ports = all_there (all_noted stream_number ported s.streams.items []) (λ k. IsSome (thing (whole s).streams.things k))
            (λ k e. noted_there stream_number ported stream_counted (stream_counts s) s.streams.items k (sym (noted_first stream_number ported s.streams.items k) ∙ e));
        requests = all_there (all_noted cell_number requested s.cells.items []) (λ k. IsSome (thing (whole s).cells.things k))
            (λ k e. noted_there cell_number requested cell_counted (cell_counts s) s.cells.items k (sym (noted_first cell_number requested s.cells.items k) ∙ e));
      }

  pub whole_parts : SoundHeap (parts_kept s) → parts_of (whole s) ≡ parts_kept s
  whole_parts h =
      let order = in_order s h in
      let cells : last_of cell_number 0 s.cells.items ≤ s.cells_made = last_within cell_kept (λ c. c.cell) 0 s.cells.items s.cells_made h.cells_rise in
      let streams : last_of stream_number 0 s.streams.items ≤ s.cells_made = last_within stream_kept (λ c. c.cell) 0 s.streams.items s.cells_made h.streams_rise in
      let actors : last_of actor_number 0 s.actors.items ≤ s.actors_made = last_within actor_kept (λ a. a.actor) 0 s.actors.items s.actors_made h.actors_rise in
      parts_same (parts_of (whole s)) (parts_kept s) (grind (arith, cells, streams)) (grind (arith, actors)) refl
      (told cell_number requested cell_counted cell_kept cell_part (λ ns c x e. ap (λ t. record (cell_kept x) { requested = t }) e) (whole s).requests (cell_counts s) 0 s.cells.items order.cells
      (λ n l. noted_first cell_number requested s.cells.items n))
      (told stream_number ported stream_counted stream_kept stream_part (λ ns c x e. ap (λ t. record (stream_kept x) { port = t }) e) (whole s).ports (stream_counts s) 0 s.streams.items order.streams
      (λ n l. noted_first stream_number ported s.streams.items n))
      (actors_told 0 (whole s).actors.things s.actors.items order.actors (λ n l. refl))
    where
      parts_same : (p q : Parts) → p.cells_made ≡ q.cells_made → p.actors_made ≡ q.actors_made → p.main ≡ q.main → p.cells ≡ q.cells → p.streams ≡ q.streams → p.actors ≡ q.actors → p ≡ q
      parts_same p q a b c d e f =
          ap₂ (λ x y. record { cells_made = x; actors_made = y; main = p.main; cells = p.cells; streams = p.streams; actors = p.actors }) a b
          ∙ ap₂ (λ x y. record { cells_made = q.cells_made; actors_made = q.actors_made; main = x; cells = y; streams = p.streams; actors = p.actors }) c d
          ∙ ap₂ (λ x y. record { cells_made = q.cells_made; actors_made = q.actors_made; main = q.main; cells = q.cells; streams = x; actors = y }) e f

  whole_restored : SoundHeap (parts_kept s) → RestsWith (parts_kept s) (whole s)
  whole_restored h = record {
    rests = whole_rests h;
    parts = whole_parts h;
    cells = λ n c e. counted_at cell_number cell_counted (λ x. x.references) (λ k x. refl) (cell_counts s) s.cells.items n c e ∙ cells_count s n;
    streams = λ n c e. counted_at stream_number stream_counted (λ x. x.references) (λ k x. refl) (stream_counts s) s.streams.items n c e ∙ streams_count s n;
  }

  pub is_restored : SoundHeap (parts_kept s) → RestsWith (parts_kept s) (restored s)
  is_restored h = subst (RestsWith (parts_kept s)) (sym (restored_is s h)) (whole_restored h)
