-- The operands of an actor wait at their cells, in memory and in the process.
use Rattle.std.proofs.Common.{◌≡◌, ◌⊎◌, inl, inr, ℕ, suc, ◌+◌, Bool, true, false, List, [], ◌∷◌, ◌++◌, if◌then◌else◌, refl, sym, ap, ◌∙◌, subst, arith}
use Rattle.std.specs.Option.{option_map}
use Rattle.std.specs.declared.option.Option.{Option}
use Rattle.std.specs.declared.option.Option.TheVariants.{None, Some}
use Rattle.flow_value.specs.declared.value.Kind.{Kind}
use Rattle.flow_value.specs.declared.value.Value.{Value}
use Rattle.flow_value.specs.Values.{ValueTree, OutcomeTree}
use Rattle.flow_class.specs.Classes.{RawTree}
use Rattle.flow_numbered.specs.Numbered as stored
use Rattle.flow_stream.specs.Streams.{StreamTree}
use Rattle.flow_frame.specs.declared.held.Held.{Held}
use Rattle.flow_cancel.specs.Heap.{HeapTree, cell_id}
use Rattle.flow_cancel.specs.Leaving as leaving
use Rattle.flow_numbered.specs.Numbered.{Numbered, thing, put}
use Rattle.flow_meaning.specs.Cells.{Side, FutureSide, side_of, Ref, Waiter, Cell, Single, Stream, with_waiter, is_busy}
use Rattle.flow_meaning.specs.Process.{Proc}
use Rattle.flow_meaning.specs.References.{one, count}
use Rattle.flow_meaning.specs.Orderly.{Rising}
use Rattle.flow_meaning.specs.Work.{Registered, Refused, register_at, register}
use Rattle.flow_meaning.specs.Step.{on_core}
use Rattle.flow_meaning.specs.Frame.{Frame}
use Rattle.flow_meaning.proofs.Posture.{each_number, thing_put, thing_put_other}
use Rattle.flow_meaning.proofs.Order.{rising_put}
use Rattle.flow_heap_refinement.specs.Representing.{Represents, CellRepresents, spot_of_actor, held_from, waiter_in}
use Rattle.flow_heap_refinement.specs.Counted.{kept_count, references}
use Rattle.flow_heap_refinement.specs.Changes.{cell_put, stream_put}
use Rattle.flow_heap_refinement.specs.Leaving.{wait_kind}
use Rattle.flow_heap_refinement.proofs.Cells.{as_stream}
use Rattle.flow_heap_refinement.proofs.Keeping.{cell_keeps, stream_keeps}
use Rattle.flow_heap_refinement.proofs.Referring.{of_waiter}
use Rattle.flow_heap_refinement.proofs.Shown.{cell_awaited, stream_awaited}
use Rattle.flow_steps.specs.Waiting as waiting
use Rattle.flow_operation_refinement.specs.Waiting.{Waitable}
use Rattle.flow_operation_refinement.proofs.Brought.{found_single, found_stream}

abbrev pub with_cells : Numbered Cell → Proc Frame → Proc Frame
with_cells ds p = on_core (λ c. record c { cells = ds }) p

-- the heap and the cells after some operands came to wait
pub record Waited (r : RawTree) (h : HeapTree) (p : Proc Frame) (g : HeapTree) (ds : Numbered Cell) (done : List Ref) : Type 0 where
  pub shows : Represents r g (with_cells ds p)
  pub counts : (s : Side) (j : ℕ) → kept_count s j g ≡ kept_count s j h
  pub kinds : (k : ℕ) → wait_kind (thing ds k) ≡ wait_kind (thing p.core.cells k)
  pub rising : Rising 0 p.core.made ds
  pub refs : (s : Side) (j : ℕ) → references s j (with_cells ds p) ≡ count s j done + references s j p
  pub frames : g.frames ≡ h.frames
  pub actors : g.actors ≡ h.actors

counted_joined : (s : Side) (j : ℕ) (rs qs : List Ref) → count s j (rs ++ qs) ≡ count s j rs + count s j qs
counted_joined s j [] qs = omega arith
counted_joined s j (r ∷ rs) qs = let a = counted_joined s j rs qs in omega (arith, a)

more_kind : (c : Cell) (w : Waiter) → wait_kind (Some (with_waiter c w)) ≡ wait_kind (Some c)
more_kind (Single o ws) w = refl
more_kind (Stream q d v) w = refl

future_side : (kd : Kind) (c : Cell) → kd ≡ wait_kind (Some c) → side_of kd ≡ FutureSide
future_side kd (Single o ws) e = ap side_of e
future_side kd (Stream q d w) e = ap side_of e

module _ (r : RawTree) (h : HeapTree) (p : Proc Frame) (i : ℕ) where
  abbrev pub first : ℕ
  first = (spot_of_actor p.actors i).first

  abbrev pub waiter : ℕ → Waiter
  waiter b = record { actor = i; branch = b }

  -- one operand: it waits, or a stream refuses it
  abbrev pub OneWaits : HeapTree → Numbered Cell → List Ref → Ref → (branch : ℕ) → Cell → Type 0
  OneWaits g ds done q b c =
      (is_busy c ≡ false) × ((k : HeapTree) × (waiting.register i (record { callback = first + b; cell = cell_id q.1 }) g ≡ (true, k))
      × Waited r h p k (put ds q.1 (with_waiter c (waiter b))) (done ++ q ∷ []))

  abbrev pub OneRefused : HeapTree → Ref → (branch : ℕ) → Cell → Type 0
  OneRefused g q b c = (is_busy c ≡ true) × (waiting.register i (record { callback = first + b; cell = cell_id q.1 }) g ≡ (false, g))

  -- what changes beside the cells
  after_one : (g k : HeapTree) (ds : Numbered Cell) (done : List Ref) (q : Ref) (b : ℕ) (c : Cell) → Waited r h p g ds done → thing ds q.1 ≡ Some c → q.0 ≡ wait_kind (Some c) → is_busy c ≡ false
      → Represents r k (with_cells (put ds q.1 (with_waiter c (waiter b))) p) → ((s : Side) (j : ℕ) → kept_count s j k ≡ kept_count s j g) → k.frames ≡ g.frames → k.actors ≡ g.actors
      → Waited r h p k (put ds q.1 (with_waiter c (waiter b))) (done ++ q ∷ [])
  after_one g k ds done q b c w at right free shows counts frames actors = record {
    shows = shows;
    counts = λ s j. counts s j ∙ w.counts s j;
    kinds = each_number q.1 (λ n. wait_kind (thing (put ds q.1 (with_waiter c (waiter b))) n) ≡ wait_kind (thing p.core.cells n))
        (ap wait_kind (thing_put ds q.1 c (with_waiter c (waiter b)) at) ∙ more_kind c (waiter b) ∙ sym (ap wait_kind at) ∙ w.kinds q.1)
        (λ n d. ap wait_kind (thing_put_other ds q.1 n (with_waiter c (waiter b)) d) ∙ w.kinds n);
    rising = rising_put ds 0 p.core.made q.1 (with_waiter c (waiter b)) w.rising;
    refs = λ s j.
        let a = of_waiter (with_cells ds p) s j q.1 c (waiter b) at free in
        let d = w.refs s j in
        let e = counted_joined s j done (q ∷ []) in
        let f = ap (λ z. one s j z q.1) (future_side q.0 c right) in omega (arith, a, d, e, f);
    frames = frames ∙ w.frames;
    actors = actors ∙ w.actors;
  }

  single_waits : (g : HeapTree) (ds : Numbered Cell) (done : List Ref) (q : Ref) (b : ℕ) (o : Option OutcomeTree) (ws : List Waiter) → Waited r h p g ds done → thing ds q.1 ≡ Some (Single o ws)
      → q.0 ≡ wait_kind (Some (Single o ws))
      → OneWaits g ds done q b (Single o ws)
  single_waits g ds done q b o ws w at right =
      let f = found_single r g (with_cells ds p) q.1 o ws w.shows at in
      let n = record f.0 { waiters = f.0.waiters ++ waiter_in (spot_of_actor p.actors) (waiter b) ∷ [] } in (
        refl,
        (
          cell_put q.1 n g,
          ap (λ x. waiting.awaited q.1 (leaving.waiter_of i (record { callback = first + b; cell = cell_id q.1 })) x (stored.thing g.streams.things q.1) g) f.1,
          after_one g (cell_put q.1 n g) ds done q b (Single o ws) w at right refl (cell_awaited r g (with_cells ds p) q.1 f.0 (Single o ws) (waiter b) w.shows f.1 at)
              (λ s j. cell_keeps g s j q.1 f.0 n f.1 refl) refl refl,
        ),
      )

  module _ (g : HeapTree) (ds : Numbered Cell) (done : List Ref) (q : Ref) (b : ℕ) (u : List ValueTree) (d : Option ℕ) (v : Option Waiter) (w : Waited r h p g ds done)
      (at : thing ds q.1 ≡ Some (Stream u d v)) (right : q.0 ≡ wait_kind (Some (Stream u d v))) where
    abbrev held : Held
    held = record { callback = first + b; cell = cell_id q.1 }

    found : (m : StreamTree Value) × (stored.thing g.streams.things q.1 ≡ Some m)
    found = found_stream r g (with_cells ds p) q.1 u d v w.shows at

    no_cell : stored.thing g.cells.things q.1 ≡ None
    no_cell = (as_stream (spot_of_actor p.actors) found.0 (stored.thing g.cells.things q.1) (thing ds q.1)
        (subst (λ c. CellRepresents (spot_of_actor p.actors) (stored.thing g.cells.things q.1) c (thing ds q.1)) found.1 (w.shows.cells q.1))).no_single

    registers : waiting.register i held g ≡ waiting.stream_awaited q.1 (leaving.waiter_of i held) found.0 found.0.waiter g
    registers =
        ap (λ x. waiting.awaited q.1 (leaving.waiter_of i held) x (stored.thing g.streams.things q.1) g) no_cell
        ∙ ap (λ x. waiting.awaited q.1 (leaving.waiter_of i held) None x g) found.1

    same_waiter : found.0.waiter ≡ option_map (waiter_in (spot_of_actor p.actors)) v
    same_waiter =
        let a = subst (λ c. CellRepresents (spot_of_actor p.actors) (stored.thing g.cells.things q.1) c (thing ds q.1)) found.1 (w.shows.cells q.1) in
        let x = subst (λ c. CellRepresents (spot_of_actor p.actors) c (Some found.0) (thing ds q.1)) no_cell a in
        (subst (λ c. CellRepresents (spot_of_actor p.actors) None (Some found.0) c) at x).2

  stream_waits : (g : HeapTree) (ds : Numbered Cell) (done : List Ref) (q : Ref) (b : ℕ) (u : List ValueTree) (d : Option ℕ) (v : Option Waiter) (w : Waited r h p g ds done)
      (at : thing ds q.1 ≡ Some (Stream u d v)) → q.0 ≡ wait_kind (Some (Stream u d v))
      → OneWaits g ds done q b (Stream u d v) ⊎ OneRefused g q b (Stream u d v)
  stream_waits g ds done q b u d None w at right =
      let f = found g ds done q b u d None w at right in
      let none = same_waiter g ds done q b u d None w at right in
      let n = record f.0 { waiter = Some (waiter_in (spot_of_actor p.actors) (waiter b)) } in
      inl (
        refl,
        (
          stream_put q.1 n g,
          registers g ds done q b u d None w at right ∙ ap (λ x. waiting.stream_awaited q.1 (leaving.waiter_of i (record { callback = first + b; cell = cell_id q.1 })) f.0 x g) none,
          after_one g (stream_put q.1 n g) ds done q b (Stream u d None) w at right refl (stream_awaited r g (with_cells ds p) q.1 f.0 (Stream u d None) (waiter b) w.shows f.1 none at)
              (λ s j. stream_keeps g s j q.1 f.0 n f.1 refl) refl refl,
        ),
      )
  stream_waits g ds done q b u d (Some v) w at right =
      let f = found g ds done q b u d (Some v) w at right in
      inr (
        refl,
        registers g ds done q b u d (Some v) w at right ∙ ap (λ x. waiting.stream_awaited q.1 (leaving.waiter_of i (record { callback = first + b; cell = cell_id q.1 })) f.0 x g)
            (same_waiter g ds done q b u d (Some v) w at right),
      )

  pub one_waits : (g : HeapTree) (ds : Numbered Cell) (done : List Ref) (q : Ref) (b : ℕ) (c : Cell) → Waited r h p g ds done → thing ds q.1 ≡ Some c → q.0 ≡ wait_kind (Some c)
      → OneWaits g ds done q b c ⊎ OneRefused g q b c
  one_waits g ds done q b (Single o ws) w at right = inl (single_waits g ds done q b o ws w at right)
  one_waits g ds done q b (Stream u d v) w at right = stream_waits g ds done q b u d v w at right

  -- all of them: where memory says that all wait, the definitions do, at these cells
  pub data AllWait (g : HeapTree) (ds : Numbered Cell) (done rs : List Ref) (b : ℕ) : Type 0 where
    all_wait : (k : HeapTree) (es : Numbered Cell) → waiting.register_all i (held_from (first + b) rs) g ≡ (true, k) → register i b rs (Registered ds) ≡ Registered es → Waited r h p k es (done ++ rs)
        → AllWait g ds done rs b
    one_refused : (k : HeapTree) → waiting.register_all i (held_from (first + b) rs) g ≡ (false, k) → register i b rs (Registered ds) ≡ Refused → AllWait g ds done rs b

  -- an operand that was there is there
  still_there : (ds : Numbered Cell) (k : ℕ) (c : Cell) (w : Waiter) → thing ds k ≡ Some c → (n : ℕ) (d : Cell) → thing ds n ≡ Some d
      → (y : Cell) × (thing (put ds k (with_waiter c w)) n ≡ Some y) × (wait_kind (Some d) ≡ wait_kind (Some y))
  still_there ds k c w at =
      each_number k (λ n. (d : Cell) → thing ds n ≡ Some d → (y : Cell) × (thing (put ds k (with_waiter c w)) n ≡ Some y) × (wait_kind (Some d) ≡ wait_kind (Some y)))
      (λ d e. (with_waiter c w, thing_put ds k c (with_waiter c w) at, sym (ap wait_kind e) ∙ ap wait_kind at ∙ sym (more_kind c w)))
      (λ n differ d e. (d, thing_put_other ds k n (with_waiter c w) differ ∙ e, refl))

  pub still_waitable : (ds : Numbered Cell) (k : ℕ) (c : Cell) (w : Waiter) → thing ds k ≡ Some c → (rs : List Ref) → Waitable ds rs → Waitable (put ds k (with_waiter c w)) rs
  still_waitable ds k c w at [] h = tt
  still_waitable ds k c w at (q ∷ rs) h =
      let a = still_there ds k c w at q.1 h.0.0 h.0.1 in
      let b : (y : Cell) × (thing (put ds k (with_waiter c w)) q.1 ≡ Some y) × (q.0 ≡ wait_kind (Some y)) = (a.0, a.1, h.0.2 ∙ a.2) in
      (b, still_waitable ds k c w at rs h.1)

  no_more_refs : (rs : List Ref) → rs ++ [] ≡ rs
  no_more_refs [] = refl
  no_more_refs (q ∷ rs) = ap (λ l. q ∷ l) (no_more_refs rs)

  refs_assoc : (xs : List Ref) (q : Ref) (rs : List Ref) → (xs ++ q ∷ []) ++ rs ≡ xs ++ q ∷ rs
  refs_assoc [] q rs = refl
  refs_assoc (x ∷ xs) q rs = ap (λ l. x ∷ l) (refs_assoc xs q rs)

  refused_stays : (rs : List Ref) (b : ℕ) → register i b rs Refused ≡ Refused
  refused_stays [] b = refl
  refused_stays (q ∷ rs) b = refused_stays rs (suc b)

  pub all_waits : (rs : List Ref) (b : ℕ) (g : HeapTree) (ds : Numbered Cell) (done : List Ref) → Waited r h p g ds done → Waitable ds rs → AllWait g ds done rs b
  all_waits [] b g ds done w has = all_wait g ds refl refl (subst (Waited r h p g ds) (sym (no_more_refs done)) w)
  all_waits (q ∷ rs) b g ds done w has =
      by_one (λ k v. all_waits rs (suc b) k (put ds q.1 (with_waiter c (waiter b))) (done ++ q ∷ []) v (still_waitable ds q.1 c (waiter b) at rs has.1)) (one_waits g ds done q b c w at right)
    where
      c : Cell
      c = has.0.0

      at : thing ds q.1 ≡ Some c
      at = has.0.1

      right : q.0 ≡ wait_kind (Some c)
      right = has.0.2

      x : Held
      x = record { callback = first + b; cell = cell_id q.1 }

      registers : (t : Bool) → is_busy c ≡ t → register i b (q ∷ rs) (Registered ds) ≡ register i (suc b) rs (if t then Refused else Registered (put ds q.1 (with_waiter c (waiter b))))
      registers t e = ap (λ o. register i (suc b) rs (register_at (waiter b) q.1 ds o)) at
          ∙ ap (λ u. register i (suc b) rs (if u then Refused else Registered (put ds q.1 (with_waiter c (waiter b))))) e

      by_rest : (k : HeapTree) → is_busy c ≡ false → waiting.register i x g ≡ (true, k) → AllWait k (put ds q.1 (with_waiter c (waiter b))) (done ++ q ∷ []) rs (suc b) → AllWait g ds done (q ∷ rs) b
      by_rest k free reg (all_wait l es m n v) =
          let number : suc (first + b) ≡ first + suc b = omega arith in
          all_wait l es
          (ap (waiting.registered_then (waiting.register_all i (held_from (suc (first + b)) rs))) reg ∙ ap (λ u. waiting.register_all i (held_from u rs) k) number ∙ m)
          (registers false free ∙ n) (subst (Waited r h p l es) (refs_assoc done q rs) v)
      by_rest k free reg (one_refused l m n) =
          let number : suc (first + b) ≡ first + suc b = omega arith in
          one_refused l
          (ap (waiting.registered_then (waiting.register_all i (held_from (suc (first + b)) rs))) reg ∙ ap (λ u. waiting.register_all i (held_from u rs) k) number ∙ m)
          (registers false free ∙ n)

      by_one : ((k : HeapTree) → Waited r h p k (put ds q.1 (with_waiter c (waiter b))) (done ++ q ∷ []) → AllWait k (put ds q.1 (with_waiter c (waiter b))) (done ++ q ∷ []) rs (suc b))
          → OneWaits g ds done q b c ⊎ OneRefused g q b c → AllWait g ds done (q ∷ rs) b
      by_one rest (inl a) = by_rest a.1.0 a.0 a.1.1 (rest a.1.0 a.1.2)
      by_one rest (inr a) =
          one_refused g (ap (waiting.registered_then (waiting.register_all i (held_from (suc (first + b)) rs))) a.1) (registers true a.0 ∙ refused_stays rs (suc b))

  pub none_waited : Represents r h p → Rising 0 p.core.made p.core.cells → Waited r h p h p.core.cells []
  none_waited s rising = record {
    shows = s;
    counts = λ s j. refl;
    kinds = λ k. refl;
    rising = rising;
    refs = λ s j. omega arith;
    frames = refl;
    actors = refl;
  }
