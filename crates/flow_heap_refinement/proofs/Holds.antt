-- What the calls of a heap add up to, with the references in hand.
use Rattle.std.proofs.Common.{◌≡◌, ℕ, ◌+◌, false, List, [], ◌∷◌, refl, sym, ap, ◌∙◌, subst, arith}
use Rattle.std.specs.declared.option.Option.{Option}
use Rattle.std.specs.declared.option.Option.TheVariants.{None, Some}
use Rattle.flow_value.specs.declared.value.Kind.{Kind}
use Rattle.flow_value.specs.declared.value.Kind.TheVariants as kind
use Rattle.flow_value.specs.declared.value.Value.{Value}
use Rattle.flow_value.specs.declared.value.Outcome.{Outcome}
use Rattle.flow_value.specs.declared.value.Outcome.TheVariants as outcome
use Rattle.flow_value.specs.Values.{ValueTree, OutcomeTree}
use Rattle.flow_value.specs.View.{outcome_of}
use Rattle.flow_class.specs.Classes.{RawTree}
use Rattle.flow_numbered.specs.Numbered as stored
use Rattle.flow_cell.specs.Cells.{CellTree, held}
use Rattle.flow_cell.specs.declared.counts.Side as memory
use Rattle.flow_stream.specs.Streams.{StreamTree}
use Rattle.flow_cancel.specs.declared.task.Task as stack
use Rattle.flow_cancel.specs.declared.task.Task.TheVariants as task
use Rattle.flow_cancel.specs.Heap.{HeapTree, actor_id, pushed}
use Rattle.flow_numbered.specs.Numbered.{thing}
use Rattle.flow_meaning.specs.Cells.{Side, PromiseSide, FutureSide, Waiter, Cell, Single, Stream, is_complete}
use Rattle.flow_meaning.specs.Process.{Task, Run, Proc}
use Rattle.flow_meaning.specs.References.{Scan, one, refs_in, value_in, in_task}
use Rattle.flow_meaning.specs.Work as work
use Rattle.flow_meaning.specs.Work.{fill}
use Rattle.flow_meaning.specs.Step.{on_core}
use Rattle.flow_meaning.specs.Frame.{Frame}
use Rattle.flow_heap_refinement.specs.Representing.{Represents, CellRepresents, spot_of_actor}
use Rattle.flow_heap_refinement.specs.Counted.{memory_side, references}
use Rattle.flow_heap_refinement.specs.Changes.{SameTask, cell_put, stream_put, fire}
use Rattle.flow_heap_refinement.specs.Losing.{RightCell}
use Rattle.flow_heap_refinement.specs.Holds as law
use Rattle.flow_heap_refinement.specs.Holds.{Holds, with_refs, There, AllThere, held_cell, held_stream, hold, hold_all, set_cell, sent, send_stream, filled_in, given}
use Rattle.flow_heap_refinement.proofs.Finds.{stored_put}
use Rattle.flow_heap_refinement.proofs.Cells.{stream_at}
use Rattle.flow_heap_refinement.proofs.Shown.{pushed_shown, cell_counted, stream_counted, cell_set, stream_sent, stream_ended}
use Rattle.flow_heap_refinement.proofs.Keeping.{cell_held, stream_held, cell_keeps, stream_keeps}
use Rattle.flow_heap_refinement.proofs.Referring.{of_pushed, of_filled}
use Rattle.flow_heap_refinement.proofs.Loss.{memory_single, memory_stream}

-- a task comes on top before or after a count rises
pushed_cell : (s : memory.Side) (k : ℕ) (o : Option (CellTree Outcome)) (t : stack.Task) (h : HeapTree) → held_cell s k o (pushed t h) ≡ pushed t (held_cell s k o h)
pushed_cell s k None t h = refl
pushed_cell s k (Some m) t h = refl

pushed_stream : (s : memory.Side) (k : ℕ) (o : Option (StreamTree Value)) (t : stack.Task) (h : HeapTree) → held_stream s k o (pushed t h) ≡ pushed t (held_stream s k o h)
pushed_stream s k None t h = refl
pushed_stream s k (Some m) t h = refl

module _ (r : RawTree) (h : HeapTree) (p : Proc Frame) where
  found_single : (k : ℕ) (o : Option OutcomeTree) (ws : List Waiter) → Represents r h p → thing p.core.cells k ≡ Some (Single o ws) → (m : CellTree Outcome) × (stored.thing h.cells.things k ≡ Some m)
  found_single k o ws s at =
      memory_single (spot_of_actor p.actors) (stored.thing h.cells.things k) (stored.thing h.streams.things k) o ws
      (subst (CellRepresents (spot_of_actor p.actors) (stored.thing h.cells.things k) (stored.thing h.streams.things k)) at (s.cells k))

  found_stream : (k : ℕ) (q : List ValueTree) (e : Option ℕ) (w : Option Waiter) → Represents r h p → thing p.core.cells k ≡ Some (Stream q e w)
      → (m : StreamTree Value) × (stored.thing h.streams.things k ≡ Some m)
  found_stream k q e w s at =
      memory_stream (spot_of_actor p.actors) (stored.thing h.cells.things k) (stored.thing h.streams.things k) q e w
      (subst (CellRepresents (spot_of_actor p.actors) (stored.thing h.cells.things k) (stored.thing h.streams.things k)) at (s.cells k))

  -- a reference counts
  single_held : (x : Scan) (side : Side) (k : ℕ) (m : CellTree Outcome) → Holds r x h p → stored.thing h.cells.things k ≡ Some m
      → Holds r (λ s j. one s j side k + 0 + x s j) (held_cell (memory_side side) k (stored.thing h.cells.things k) h) p
  single_held x side k m hs at =
      subst (λ o. Holds r (λ s j. one s j side k + 0 + x s j) (held_cell (memory_side side) k o h) p) (sym at) (record {
        shows = cell_counted r h p k m (held (memory_side side) m.references) hs.shows at;
        counted = λ s j. let a = cell_held h s j k m side at in let b = hs.counted s j in omega (arith, a, b);
      })

  stream_holds : (x : Scan) (side : Side) (k : ℕ) (m : StreamTree Value) → Holds r x h p → stored.thing h.streams.things k ≡ Some m
      → Holds r (λ s j. one s j side k + 0 + x s j) (held_stream (memory_side side) k (stored.thing h.streams.things k) h) p
  stream_holds x side k m hs at =
      let none = (stream_at (spot_of_actor p.actors) h.cells.things h.streams.things p.core.cells hs.shows.cells k m at).no_single in
      subst (λ o. Holds r (λ s j. one s j side k + 0 + x s j) (held_stream (memory_side side) k o h) p) (sym at) (record {
        shows = stream_counted r h p k m (held (memory_side side) m.references) hs.shows at;
        counted = λ s j. let a = stream_held h s j k m side none at in let b = hs.counted s j in omega (arith, a, b);
      })

  held_by : (x : Scan) (kd : Kind) (k : ℕ) (c : Cell) → thing p.core.cells k ≡ Some c → RightCell kd c → Holds r x h p → Holds r (with_refs ((kd, k) ∷ []) x) (hold kd k h) p
  held_by x kind.Promise k (Single o ws) at t hs = let m = found_single k o ws hs.shows at in single_held x PromiseSide k m.0 hs m.1
  held_by x kind.Future k (Single o ws) at t hs = let m = found_single k o ws hs.shows at in single_held x FutureSide k m.0 hs m.1
  held_by x kind.PromiseStream k (Stream q e w) at t hs = let m = found_stream k q e w hs.shows at in stream_holds x PromiseSide k m.0 hs m.1
  held_by x kind.FutureStream k (Stream q e w) at t hs = let m = found_stream k q e w hs.shows at in stream_holds x FutureSide k m.0 hs m.1
  held_by x kind.Promise k (Stream q e w) at t hs = absurd t
  held_by x kind.Future k (Stream q e w) at t hs = absurd t
  held_by x kind.PromiseStream k (Single o ws) at t hs = absurd t
  held_by x kind.FutureStream k (Single o ws) at t hs = absurd t

  pub held_holds : law.Held r h p
  held_holds x q hs t = held_by x q.0 q.1 t.cell t.at t.right hs

  -- other references in hand, as many
  pub as_many : (x y : Scan) → ((s : Side) (j : ℕ) → x s j ≡ y s j) → Holds r x h p → Holds r y h p
  as_many x y e hs = record { shows = hs.shows; counted = λ s j. hs.counted s j ∙ ap (λ n. references s j p + n) (e s j) }

pub all_held : (r : RawTree) (h : HeapTree) (p : Proc Frame) → law.AllHeld r h p
all_held r h p x [] hs t = as_many r h p x (with_refs [] x) (λ s j. omega arith) hs
all_held r h p x (q ∷ qs) hs t =
    as_many r (hold_all qs (hold q.0 q.1 h)) p (with_refs qs (with_refs (q ∷ []) x)) (with_refs (q ∷ qs) x) (λ s j. omega arith)
    (all_held r (hold q.0 q.1 h) p (with_refs (q ∷ []) x) qs (held_holds r h p x q hs t.0) t.1)

module _ (r : RawTree) (h : HeapTree) (p : Proc Frame) where
  -- content
  abbrev filled_proc : ℕ → Outcome → Proc Frame
  filled_proc k o = on_core (fill k (outcome_of o)) p

  set_holds : (x : Scan) (k : ℕ) (c : Option OutcomeTree) (ws : List Waiter) (o : Outcome) (m : CellTree Outcome) → Holds r (with_refs (refs_in (value_in (outcome_of o))) x) h p
      → thing p.core.cells k ≡ Some (Single c ws) → is_complete (Single c ws) ≡ false
      → stored.thing h.cells.things k ≡ Some m → Holds r x (set_cell k o (stored.thing h.cells.things k) h) (filled_proc k o)
  set_holds x k c ws o m hs at open_ e =
      subst (λ y. Holds r x (set_cell k o y h) (filled_proc k o)) (sym e)
      (subst (λ g. Holds r x g (filled_proc k o)) (pushed_cell (memory_side FutureSide) k (stored.thing (stored.put h.cells.things k n) k) (fire k) (cell_put k n h))
      (subst (λ y. Holds r x (held_cell (memory_side FutureSide) k y (pushed (fire k) (cell_put k n h))) (filled_proc k o)) (sym there) (record {
        shows = cell_counted r (pushed (fire k) (cell_put k n h)) (filled_proc k o) k n (held (memory_side FutureSide) n.references) (cell_set r h p k m o hs.shows e) there;
        counted = λ s j.
            let a = cell_held (pushed (fire k) (cell_put k n h)) s j k n FutureSide there in
            let b = cell_keeps h s j k m n e refl in
            let d = of_filled p s j k (Single c ws) (outcome_of o) at open_ in
            let f = hs.counted s j in omega (arith, a, b, d, f);
      })))
    where
      n : CellTree Outcome
      n = record m { content = Some o }

      there : stored.thing (stored.put h.cells.things k n) k ≡ Some n
      there = stored_put h.cells.things k m n e

  send_shows : (k : ℕ) (o : Outcome) (m : StreamTree Value) → Represents r h p → stored.thing h.streams.things k ≡ Some m → Represents r (pushed (fire k) (stream_put k (sent o m) h)) (filled_proc k o)
  send_shows k (outcome.Value v) m s e = stream_sent r h p k m v s e
  send_shows k (outcome.Error x) m s e = stream_ended r h p k m x s e

  same_counts : (o : Outcome) (m : StreamTree Value) → (sent o m).references ≡ m.references
  same_counts (outcome.Value v) m = refl
  same_counts (outcome.Error x) m = refl

  send_holds : (x : Scan) (k : ℕ) (q : List ValueTree) (d : Option ℕ) (w : Option Waiter) (o : Outcome) (m : StreamTree Value) → Holds r (with_refs (refs_in (value_in (outcome_of o))) x) h p
      → thing p.core.cells k ≡ Some (Stream q d w)
      → is_complete (Stream q d w) ≡ false → stored.thing h.streams.things k ≡ Some m → Holds r x (send_stream k o (stored.thing h.streams.things k) h) (filled_proc k o)
  send_holds x k q d w o m hs at open_ e =
      subst (λ y. Holds r x (send_stream k o y h) (filled_proc k o)) (sym e)
      (subst (λ g. Holds r x g (filled_proc k o)) (pushed_stream (memory_side FutureSide) k (stored.thing (stored.put h.streams.things k n) k) (fire k) (stream_put k n h))
      (subst (λ y. Holds r x (held_stream (memory_side FutureSide) k y (pushed (fire k) (stream_put k n h))) (filled_proc k o)) (sym there) (record {
        shows = stream_counted r (pushed (fire k) (stream_put k n h)) (filled_proc k o) k n (held (memory_side FutureSide) n.references) (send_shows k o m hs.shows e) there;
        counted = λ s j.
            let a = stream_held (pushed (fire k) (stream_put k n h)) s j k n FutureSide none there in
            let b = stream_keeps h s j k m n e (same_counts o m) in
            let c = of_filled p s j k (Stream q d w) (outcome_of o) at open_ in
            let f = hs.counted s j in omega (arith, a, b, c, f);
      })))
    where
      n : StreamTree Value
      n = sent o m

      none : stored.thing h.cells.things k ≡ None
      none = (stream_at (spot_of_actor p.actors) h.cells.things h.streams.things p.core.cells hs.shows.cells k m e).no_single

      there : stored.thing (stored.put h.streams.things k n) k ≡ Some n
      there = stored_put h.streams.things k m n e

  pub filled_holds : law.Filled r h p
  filled_holds x kind.Promise k (Single c ws) o hs at t n = let m = found_single r h p k c ws hs.shows at in set_holds x k c ws o m.0 hs at n m.1
  filled_holds x kind.Future k (Single c ws) o hs at t n = let m = found_single r h p k c ws hs.shows at in set_holds x k c ws o m.0 hs at n m.1
  filled_holds x kind.PromiseStream k (Stream q d w) o hs at t n = let m = found_stream r h p k q d w hs.shows at in send_holds x k q d w o m.0 hs at n m.1
  filled_holds x kind.FutureStream k (Stream q d w) o hs at t n = let m = found_stream r h p k q d w hs.shows at in send_holds x k q d w o m.0 hs at n m.1
  filled_holds x kind.Promise k (Stream q d w) o hs at t n = absurd t
  filled_holds x kind.Future k (Stream q d w) o hs at t n = absurd t
  filled_holds x kind.PromiseStream k (Single c ws) o hs at t n = absurd t
  filled_holds x kind.FutureStream k (Single c ws) o hs at t n = absurd t

  -- a result is given
  pub given_holds : law.Given r h p
  given_holds x i t u rs hs all same refs =
      let a = all_held r h p x rs hs all in
      let b = pushed_holds_from (hold_all rs h) p (with_refs rs x) (with_refs rs x) (task.Run (actor_id i)) (Run i) (λ s j. omega arith) refl a in
      pushed_holds_from (pushed (task.Run (actor_id i)) (hold_all rs h)) (on_core (work.pushed (Run i)) p) (with_refs rs x) x t u (λ s j. let e = refs s j in omega (arith, e)) same b
    where
      pushed_holds_from : (g : HeapTree) (q : Proc Frame) (x y : Scan) (t : stack.Task) (u : Task) → ((s : Side) (j : ℕ) → x s j ≡ in_task s j u + y s j) → SameTask q t u → Holds r x g q
          → Holds r y (pushed t g) (on_core (work.pushed u) q)
      pushed_holds_from g q x y t u e same hs = record {
        shows = pushed_shown r g q t u hs.shows same;
        counted = λ s j. let a = hs.counted s j in let b = of_pushed q s j u in let c = e s j in omega (arith, a, b, c);
      }
