-- An element that comes to a stream in memory comes to the stream that it shows, whether or not the stream has an end.
use Rattle.std.proofs.Common.{◌≡◌, ℕ, ◌+◌, List, [], ◌∷◌, ◌++◌, refl, sym, ap, ◌∙◌, subst, arith}
use Rattle.std.specs.declared.option.Option.{Option}
use Rattle.std.specs.declared.option.Option.TheVariants.{None, Some}
use Rattle.flow_value.specs.declared.value.Kind.TheVariants as kind
use Rattle.flow_value.specs.declared.value.Value.{Value}
use Rattle.flow_value.specs.declared.value.Outcome.{Outcome}
use Rattle.flow_value.specs.declared.value.Outcome.TheVariants as outcome
use Rattle.flow_value.specs.Values.{ValueTree}
use Rattle.flow_value.specs.View.{value_of, outcome_of}
use Rattle.flow_class.specs.Classes.{RawTree}
use Rattle.flow_trace.specs.declared.line.Line.{Line}
use Rattle.flow_numbered.specs.Numbered as stored
use Rattle.flow_cell.specs.Cells.{held}
use Rattle.flow_cell.specs.declared.counts.Side as memory
use Rattle.flow_stream.specs.Streams.{StreamTree, with_item}
use Rattle.flow_cancel.specs.declared.task.Task as stack
use Rattle.flow_cancel.specs.Heap.{HeapTree, pushed}
use Rattle.flow_numbered.specs.Numbered.{thing}
use Rattle.flow_meaning.specs.Cells.{Side, FutureSide, Ref, Waiter, Cell, Single, Stream}
use Rattle.flow_meaning.specs.Process.{Proc}
use Rattle.flow_meaning.specs.References.{Scan, one, count, refs_in, value_in}
use Rattle.flow_meaning.specs.Work.{fill, fill_cell}
use Rattle.flow_meaning.specs.Step.{on_core}
use Rattle.flow_meaning.specs.Frame.{Frame}
use Rattle.flow_heap_refinement.specs.Representing.{spot_of_actor}
use Rattle.flow_heap_refinement.specs.Counted.{memory_side, references}
use Rattle.flow_heap_refinement.specs.References.{cell_holds}
use Rattle.flow_heap_refinement.specs.Changes.{stream_put, fire}
use Rattle.flow_heap_refinement.specs.Losing.{RightCell}
use Rattle.flow_heap_refinement.specs.Holds.{Holds, with_refs, There, AllThere, held_stream, hold_all, send_stream}
use Rattle.flow_heap_refinement.proofs.Finds.{stored_put}
use Rattle.flow_heap_refinement.proofs.Cells.{stream_at}
use Rattle.flow_heap_refinement.proofs.Shown.{stream_counted, stream_sent}
use Rattle.flow_heap_refinement.proofs.Keeping.{stream_held, stream_keeps}
use Rattle.flow_heap_refinement.proofs.Referring.{of_cell}
use Rattle.flow_heap_refinement.proofs.Sums.{refs_joined}
use Rattle.flow_steps.specs.declared.process.Process.{Process}
use Rattle.flow_steps.specs.Holding.{on_heap, outcome_refs}
use Rattle.flow_steps.specs.Delivering.{content_brought}
use Rattle.flow_operation_refinement.specs.Matching.{ProcessRepresents}
use Rattle.flow_operation_refinement.proofs.Working.{changed, refs_held}
use Rattle.flow_operation_refinement.proofs.Brought.{found_stream}

-- a task comes on top before or after a count rises
pushed_stream : (s : memory.Side) (k : ℕ) (o : Option (StreamTree Value)) (t : stack.Task) (h : HeapTree) → held_stream s k o (pushed t h) ≡ pushed t (held_stream s k o h)
pushed_stream s k None t h = refl
pushed_stream s k (Some m) t h = refl

-- a stream with one element more holds what that refers to
one_more : (s : Side) (j k : ℕ) (q : List ValueTree) (d : Option ℕ) (w : Option Waiter) (u : ValueTree)
    → cell_holds s j k (Stream (q ++ u ∷ []) d w) ≡ count s j (refs_in (u ∷ [])) + cell_holds s j k (Stream q d w)
one_more s j k q d w u = let a = refs_joined s j q (u ∷ []) in omega (arith, a)

module _ (r : RawTree) (h : HeapTree) (p : Proc Frame) (x : Scan) (k : ℕ) (q : List ValueTree) (d : Option ℕ) (w : Option Waiter) (v : Value) (at : thing p.core.cells k ≡ Some (Stream q d w)) where
  abbrev o : Outcome
  o = outcome.Value v

  abbrev after : Proc Frame
  after = on_core (fill k (outcome_of o)) p

  referred : (s : Side) (j : ℕ) → references s j after ≡ one s j FutureSide k + count s j (refs_in (value_in (outcome_of o))) + references s j p
  referred s j =
      ap (λ c. references s j (on_core (fill_cell k (outcome_of o) c) p)) at
      ∙ (let a = of_cell p s j k (Stream q d w) (Stream (q ++ value_of v ∷ []) d w) at in let b = one_more s j k q d w (value_of v) in omega (arith, a, b))

  element_holds : (m : StreamTree Value) → Holds r (with_refs (refs_in (value_in (outcome_of o))) x) h p → stored.thing h.streams.things k ≡ Some m
      → Holds r x (send_stream k o (stored.thing h.streams.things k) h) after
  element_holds m hs e =
      subst (λ y. Holds r x (send_stream k o y h) after) (sym e)
      (subst (λ g. Holds r x g after) (pushed_stream (memory_side FutureSide) k (stored.thing (stored.put h.streams.things k n) k) (fire k) (stream_put k n h))
      (subst (λ y. Holds r x (held_stream (memory_side FutureSide) k y (pushed (fire k) (stream_put k n h))) after) (sym there) (record {
        shows = stream_counted r (pushed (fire k) (stream_put k n h)) after k n (held (memory_side FutureSide) n.references) (stream_sent r h p k m v hs.shows e) there;
        counted = λ s j.
            let a = stream_held (pushed (fire k) (stream_put k n h)) s j k n FutureSide none there in
            let b = stream_keeps h s j k m n e refl in
            let c = referred s j in
            let f = hs.counted s j in omega (arith, a, b, c, f);
      })))
    where
      n : StreamTree Value
      n = with_item m v

      none : stored.thing h.cells.things k ≡ None
      none = (stream_at (spot_of_actor p.actors) h.cells.things h.streams.things p.core.cells hs.shows.cells k m e).no_single

      there : stored.thing (stored.put h.streams.things k n) k ≡ Some n
      there = stored_put h.streams.things k m n e

module _ (r : RawTree) (ls : List Line) (x : Scan) (m : Process) (p : Proc Frame) (k : ℕ) (v : Value) where
  pub element_sent : ProcessRepresents r ls x m p → AllThere p (outcome_refs (outcome.Value v)) → There p (kind.PromiseStream, k)
      → ProcessRepresents r ls x (on_heap (content_brought kind.PromiseStream k (outcome.Value v)) m) (on_core (fill k (outcome_of (outcome.Value v))) p)
  element_sent s all t = by_cell t.cell t.at t.right
    where
      rs : List Ref
      rs = outcome_refs (outcome.Value v)

      mid : Process
      mid = on_heap (hold_all rs) m

      by_cell : (c : Cell) → thing p.core.cells k ≡ Some c → RightCell kind.PromiseStream c
          → ProcessRepresents r ls x (on_heap (content_brought kind.PromiseStream k (outcome.Value v)) m) (on_core (fill k (outcome_of (outcome.Value v))) p)
      by_cell (Single o ws) at right = absurd right
      by_cell (Stream q d w) at right =
          let u = refs_held r ls x m p rs s all in
          let f = found_stream r mid.heap p k q d w u.holds.shows at in
          changed r ls (with_refs rs x) x mid p (on_core (fill k (outcome_of (outcome.Value v))) p) (send_stream k (outcome.Value v) (stored.thing mid.heap.streams.things k) mid.heap) u
          (element_holds r mid.heap p x k q d w v at f.0 u.holds f.1)
          (ap (λ c. (fill_cell k (outcome_of (outcome.Value v)) c p.core).lines) at)
          (ap (λ c. (fill_cell k (outcome_of (outcome.Value v)) c p.core).left) at)
          (ap (λ c. (fill_cell k (outcome_of (outcome.Value v)) c p.core).halted) at)
