-- Counts of references that rise one after another.
use Rattle.std.proofs.Common.{◌≡◌, ◌≢◌, ◌<◌, ℕ, suc, ◌+◌, nat_eq, Bool, true, false, List, [], ◌∷◌, map, Option, Some, None, refl, sym, ap, ap₂, ◌∙◌, arith, if◌then◌else◌}
use Rattle.std.proofs.lemmas.Bool.Decides.{nat_tests}
use Rattle.flow_value.specs.declared.value.Kind.TheVariants as kind
use Rattle.flow_value.specs.declared.value.Value.{Value}
use Rattle.flow_value.specs.declared.value.Outcome.{Outcome}
use Rattle.flow_numbered.specs.Numbered.{Numbered, Store, thing, put}
use Rattle.flow_cell.specs.declared.counts.Side.{Side}
use Rattle.flow_cell.specs.declared.counts.Side.TheVariants.{Promise, Future}
use Rattle.flow_cell.specs.Cells.{Counts, CellTree, held}
use Rattle.flow_stream.specs.Streams.{StreamTree}
use Rattle.flow_cancel.specs.Heap.{HeapTree}
use Rattle.flow_heapstate.specs.Referring.{Ref, times}
use Rattle.flow_heapstate.specs.Restoring.{RisesFrom, cell_held, stream_held, held_one, held_all}
use Rattle.flow_heapstate.specs.Sound.{cell_times, stream_times}
use Rattle.flow_heapstate.specs.declared.state.CellState.{CellState}
use Rattle.flow_heapstate.specs.declared.state.StreamState.{StreamState}

-- counts by number, of which one rises
abbrev pub bumped : Side → ℕ → (ℕ → Counts) → ℕ → Counts
bumped side n f m = if nat_eq m n then held side (f m) else f m

bumped_here : (side : Side) (n m : ℕ) (f : ℕ → Counts) → m ≡ n → bumped side n f m ≡ held side (f m)
bumped_here side n m f e = let same : nat_eq m n ≡ true = grind (arith, nat_tests) in rw same refl

bumped_other : (side : Side) (n m : ℕ) (f : ℕ → Counts) → m ≢ n → bumped side n f m ≡ f m
bumped_other side n m f e = let other : nat_eq m n ≡ false = grind (arith, nat_tests) in rw other refl

module _ {S A : Type 0} (number : S → ℕ) (tree : Counts → S → A) where
  abbrev pub recounted : (ℕ → Counts) → List S → Numbered A
  recounted f [] = []
  recounted f (s ∷ ss) = (number s, tree (f (number s)) s) ∷ recounted f ss

  pub same_above : (low : ℕ) (f g : ℕ → Counts) (ss : List S) → RisesFrom low (map number ss) → ((m : ℕ) → low < m → f m ≡ g m) → recounted f ss ≡ recounted g ss
  same_above low f g [] h e = refl
  same_above low f g (s ∷ ss) h e =
      ap₂ (λ c xs. (number s, tree c s) ∷ xs) (e (number s) h.0) (same_above (number s) f g ss h.1 (λ m l. e m (omega (arith, h.0, l))))

  abbrev pub with_up : (A → A) → ℕ → Option A → Numbered A → Numbered A
  with_up up n None xs = xs
  with_up up n (Some a) xs = put xs n (up a)

  module _ (side : Side) (up : A → A) (is : (c : Counts) (s : S) → up (tree c s) ≡ tree (held side c) s) where
    passed : (n : ℕ) (x : ℕ × A) (xs : Numbered A) (o : Option A) → nat_eq n x.0 ≡ false → with_up up n o (x ∷ xs) ≡ x ∷ with_up up n o xs
    passed n x xs None e = refl
    passed n x xs (Some a) e = rw e refl

    pub recounted_up : (low : ℕ) (f : ℕ → Counts) (ss : List S) (n : ℕ) → RisesFrom low (map number ss)
        → with_up up n (thing (recounted f ss) n) (recounted f ss) ≡ recounted (bumped side n f) ss
    recounted_up low f [] n h = refl
    recounted_up low f (s ∷ ss) n h = at_head (nat_eq n (number s)) refl (recounted_up (number s) f ss n h.1)
      where
        at_head : (t : Bool) → nat_eq n (number s) ≡ t → with_up up n (thing (recounted f ss) n) (recounted f ss) ≡ recounted (bumped side n f) ss
            → with_up up n (if t then Some (tree (f (number s)) s) else thing (recounted f ss) n) (recounted f (s ∷ ss)) ≡ recounted (bumped side n f) (s ∷ ss)
        at_head true g rest =
            let same : number s ≡ n = grind (arith, nat_tests) in
            rw g (ap₂ (λ a xs. (number s, a) ∷ xs) (is (f (number s)) s ∙ ap (λ c. tree c s) (sym (bumped_here side n (number s) f same)))
            (same_above (number s) f (bumped side n f) ss h.1 (λ m l. sym (bumped_other side n m f (λ e. grind (arith, l, e, same))))))
        at_head false g rest =
            let other : number s ≢ n = grind (arith, nat_tests) in
            passed n (number s, tree (f (number s)) s) (recounted f ss) (thing (recounted f ss) n) g
            ∙ ap₂ (λ c xs. (number s, tree c s) ∷ xs) (sym (bumped_other side n (number s) f other)) rest

-- single results and streams with these counts
abbrev pub cell_counted : Counts → CellState → CellTree Outcome
cell_counted c s = record { content = s.content; references = c; waiters = s.waiters.items }

abbrev pub stream_counted : Counts → StreamState → StreamTree Value
stream_counted c s = record { references = c; queue = s.queue.items; end = s.end; waiter = s.waiter }

abbrev pub cell_number : CellState → ℕ
cell_number s = s.cell.0

abbrev pub stream_number : StreamState → ℕ
stream_number s = s.cell.0

abbrev pub cells_with : (ℕ → Counts) → List CellState → ℕ → Store (CellTree Outcome)
cells_with f cs g = record { things = recounted cell_number cell_counted f cs; greatest = g }

abbrev pub streams_with : (ℕ → Counts) → List StreamState → ℕ → Store (StreamTree Value)
streams_with f ss g = record { things = recounted stream_number stream_counted f ss; greatest = g }

cell_up : Side → CellTree Outcome → CellTree Outcome
cell_up side c = record c { references = held side c.references }

stream_up : Side → StreamTree Value → StreamTree Value
stream_up side c = record c { references = held side c.references }

pub cell_rises : (side : Side) (low : ℕ) (f : ℕ → Counts) (cs : List CellState) (g n : ℕ) → RisesFrom low (map cell_number cs)
    → cell_held side n (thing (cells_with f cs g).things n) (cells_with f cs g) ≡ cells_with (bumped side n f) cs g
unfolding cell_up
cell_rises side low f cs g n h =
    as_up (thing (cells_with f cs g).things n) ∙ ap (λ xs. record { things = xs; greatest = g }) (recounted_up cell_number cell_counted side (cell_up side) (λ c s. refl) low f cs n h)
  where
    as_up : (o : Option (CellTree Outcome)) → cell_held side n o (cells_with f cs g) ≡ record { things = with_up cell_number cell_counted (cell_up side) n o (cells_with f cs g).things; greatest = g }
    as_up None = refl
    as_up (Some c) = refl

pub stream_rises : (side : Side) (low : ℕ) (f : ℕ → Counts) (ss : List StreamState) (g n : ℕ) → RisesFrom low (map stream_number ss)
    → stream_held side n (thing (streams_with f ss g).things n) (streams_with f ss g) ≡ streams_with (bumped side n f) ss g
unfolding stream_up
stream_rises side low f ss g n h =
    as_up (thing (streams_with f ss g).things n) ∙ ap (λ xs. record { things = xs; greatest = g }) (recounted_up stream_number stream_counted side (stream_up side) (λ c s. refl) low f ss n h)
  where
    as_up : (o : Option (StreamTree Value)) → stream_held side n o (streams_with f ss g)
        ≡ record { things = with_up stream_number stream_counted (stream_up side) n o (streams_with f ss g).things; greatest = g }
    as_up None = refl
    as_up (Some c) = refl

-- what a reference does to the counts of single results, and of streams
abbrev pub in_cells : Ref → (ℕ → Counts) → ℕ → Counts
in_cells (kind.Promise, n) f = bumped Promise n f
in_cells (kind.Future, n) f = bumped Future n f
in_cells (kind.PromiseStream, n) f = f
in_cells (kind.FutureStream, n) f = f

abbrev pub in_streams : Ref → (ℕ → Counts) → ℕ → Counts
in_streams (kind.Promise, n) f = f
in_streams (kind.Future, n) f = f
in_streams (kind.PromiseStream, n) f = bumped Promise n f
in_streams (kind.FutureStream, n) f = bumped Future n f

abbrev pub all_in_cells : List Ref → (ℕ → Counts) → ℕ → Counts
all_in_cells [] f = f
all_in_cells (r ∷ rs) f = all_in_cells rs (in_cells r f)

abbrev pub all_in_streams : List Ref → (ℕ → Counts) → ℕ → Counts
all_in_streams [] f = f
all_in_streams (r ∷ rs) f = all_in_streams rs (in_streams r f)

abbrev pub with_counts : HeapTree → Store (CellTree Outcome) → Store (StreamTree Value) → HeapTree
with_counts h a b = record h { cells = a; streams = b }

module _ (cs : List CellState) (ss : List StreamState) (a b : ℕ) (cells : RisesFrom 0 (map cell_number cs)) (streams : RisesFrom 0 (map stream_number ss)) where
  one_held : (r : Ref) (h : HeapTree) (f g : ℕ → Counts) → held_one r (with_counts h (cells_with f cs a) (streams_with g ss b))
      ≡ with_counts h (cells_with (in_cells r f) cs a) (streams_with (in_streams r g) ss b)
  one_held (kind.Promise, n) h f g = ap (λ x. with_counts h x (streams_with g ss b)) (cell_rises Promise 0 f cs a n cells)
  one_held (kind.Future, n) h f g = ap (λ x. with_counts h x (streams_with g ss b)) (cell_rises Future 0 f cs a n cells)
  one_held (kind.PromiseStream, n) h f g = ap (λ x. with_counts h (cells_with f cs a) x) (stream_rises Promise 0 g ss b n streams)
  one_held (kind.FutureStream, n) h f g = ap (λ x. with_counts h (cells_with f cs a) x) (stream_rises Future 0 g ss b n streams)

  pub all_held : (rs : List Ref) (h : HeapTree) (f g : ℕ → Counts)
      → held_all rs (with_counts h (cells_with f cs a) (streams_with g ss b)) ≡ with_counts h (cells_with (all_in_cells rs f) cs a) (streams_with (all_in_streams rs g) ss b)
  all_held [] h f g = refl
  all_held (r ∷ rs) h f g = ap (held_all rs) (one_held r h f g) ∙ all_held rs h (in_cells r f) (in_streams r g)

-- how often each counts then
abbrev pub added_counts : Counts → Counts → Counts
added_counts a b = record { promises = a.promises + b.promises; futures = a.futures + b.futures }

pub counts_same : (a b : Counts) → a.promises ≡ b.promises → a.futures ≡ b.futures → a ≡ b
counts_same a b p q = ap₂ (λ x y. record { promises = x; futures = y }) p q

pub cells_counted : (rs : List Ref) (f : ℕ → Counts) (n : ℕ) → all_in_cells rs f n ≡ added_counts (f n) (cell_times n rs)
cells_counted [] f n = counts_same (f n) (added_counts (f n) (cell_times n [])) (omega arith) (omega arith)
cells_counted (r ∷ rs) f n = cells_counted rs (in_cells r f) n ∙ one r
  where
    by_test : (t : Bool) (p q : ℕ) → added_counts (if t then held Promise (f n) else f n) (record { promises = p; futures = q })
        ≡ added_counts (f n) (record { promises = if t then suc p else p; futures = q })
    by_test true p q = counts_same _ _ (omega arith) (omega arith)
    by_test false p q = refl

    by_test_too : (t : Bool) (p q : ℕ) → added_counts (if t then held Future (f n) else f n) (record { promises = p; futures = q })
        ≡ added_counts (f n) (record { promises = p; futures = if t then suc q else q })
    by_test_too true p q = counts_same _ _ (omega arith) (omega arith)
    by_test_too false p q = refl

    one : (r : Ref) → added_counts (in_cells r f n) (cell_times n rs) ≡ added_counts (f n) (cell_times n (r ∷ rs))
    one (kind.Promise, k) = by_test (nat_eq n k) (times kind.Promise n rs) (times kind.Future n rs)
    one (kind.Future, k) = by_test_too (nat_eq n k) (times kind.Promise n rs) (times kind.Future n rs)
    one (kind.PromiseStream, k) = refl
    one (kind.FutureStream, k) = refl

pub streams_counted : (rs : List Ref) (f : ℕ → Counts) (n : ℕ) → all_in_streams rs f n ≡ added_counts (f n) (stream_times n rs)
streams_counted [] f n = counts_same (f n) (added_counts (f n) (stream_times n [])) (omega arith) (omega arith)
streams_counted (r ∷ rs) f n = streams_counted rs (in_streams r f) n ∙ one r
  where
    by_test : (t : Bool) (p q : ℕ) → added_counts (if t then held Promise (f n) else f n) (record { promises = p; futures = q })
        ≡ added_counts (f n) (record { promises = if t then suc p else p; futures = q })
    by_test true p q = counts_same _ _ (omega arith) (omega arith)
    by_test false p q = refl

    by_test_too : (t : Bool) (p q : ℕ) → added_counts (if t then held Future (f n) else f n) (record { promises = p; futures = q })
        ≡ added_counts (f n) (record { promises = p; futures = if t then suc q else q })
    by_test_too true p q = counts_same _ _ (omega arith) (omega arith)
    by_test_too false p q = refl

    one : (r : Ref) → added_counts (in_streams r f n) (stream_times n rs) ≡ added_counts (f n) (stream_times n (r ∷ rs))
    one (kind.Promise, k) = refl
    one (kind.Future, k) = refl
    one (kind.PromiseStream, k) = by_test (nat_eq n k) (times kind.PromiseStream n rs) (times kind.FutureStream n rs)
    one (kind.FutureStream, k) = by_test_too (nat_eq n k) (times kind.PromiseStream n rs) (times kind.FutureStream n rs)
