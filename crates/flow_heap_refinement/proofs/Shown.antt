-- Tasks and cells of a heap and of the process that it shows.
use Rattle.std.proofs.Common.{◌≡◌, ℕ, suc, List, [], ◌∷◌, ◌++◌, map, refl, sym, ap, ◌∙◌, subst, arith}
use Rattle.std.specs.Prelude.{max}
use Rattle.std.specs.Option.{option_map}
use Rattle.std.specs.declared.option.Option.{Option}
use Rattle.std.specs.declared.option.Option.TheVariants.{None, Some}
use Rattle.flow_value.specs.declared.value.Value.{Value}
use Rattle.flow_value.specs.Values.{OutcomeTree, GoodOutcome, BadOutcome}
use Rattle.flow_value.specs.View.{value_of, outcome_of}
use Rattle.flow_class.specs.Classes.{RawTree}
use Rattle.flow_numbered.specs.Numbered as stored
use Rattle.flow_cell.specs.Cells.{unset}
use Rattle.flow_stream.specs.Streams.{empty}
use Rattle.flow_cancel.specs.Heap.{HeapTree, cell_id, next_cell, with_result, with_stream}
use Rattle.flow_cancel.specs.declared.task.Task as stack
use Rattle.flow_cancel.specs.Heap as memory
use Rattle.flow_cancel.specs.Dropping as memory_drops
use Rattle.flow_numbered.specs.Numbered.{Numbered, thing, put, removed}
use Rattle.flow_meaning.specs.Cells.{Waiter, Cell, Single, Stream, filled, after_taking, taken, with_waiter}
use Rattle.flow_meaning.specs.Requests.{Spot}
use Rattle.flow_meaning.specs.Process.{Task, Proc}
use Rattle.flow_meaning.specs.References.{refs_in}
use Rattle.flow_meaning.specs.Work.{drops, dropping_values, new_cell, fill, fill_cell}
use Rattle.flow_meaning.specs.Step.{kept_by, on_core}
use Rattle.flow_meaning.specs.Frame.{Frame}
use Rattle.flow_heap_refinement.specs.Representing.{Represents, TasksRepresent, spot_of_actor, waiter_in, error_number}
use Rattle.flow_heap_refinement.specs.Changes as change
use Rattle.flow_heap_refinement.specs.Changes.{SameTask, SameTop, cell_put, stream_put, put_cell, without_cell}
use Rattle.flow_heap_refinement.proofs.Tasks.{first, no_tasks, drops_show, refs_same}
use Rattle.flow_heap_refinement.proofs.Cells.{CellsRepresent, single_at, stream_at, single_put, single_kept, single_added, single_gone, stream_put as put_stream, stream_kept, stream_added, stream_gone}
use Rattle.flow_heap_refinement.proofs.Finds.{none_above}

module _ (r : RawTree) (h : HeapTree) (p : Proc Frame) where
  abbrev spots : ℕ → Spot
  spots = spot_of_actor p.actors

  abbrev kept : ℕ → ℕ
  kept i = kept_by (thing p.core.entries i)

  -- tasks
  with_tasks : (ts : List stack.Task) (us : List Task) → Represents r h p → TasksRepresent spots kept ts us → Represents r (record h { tasks = ts }) (on_core (λ c. record c { tasks = us }) p)
  with_tasks ts us s t =
      record { cells = s.cells; actors = s.actors; tasks = t; made = s.made; started = s.started; main = s.main; ports = s.ports; requests = s.requests }

  pub pushed_shown : change.Pushed r h p
  pushed_shown t u s same = with_tasks (t ∷ h.tasks) (u ∷ p.core.tasks) s (same, s.tasks)

  pub popped_shown : change.Popped r h p
  popped_shown t ts s top =
      let f = first spots kept t ts p.core.tasks (subst (λ xs. TasksRepresent spots kept xs p.core.tasks) top s.tasks) in
      record { top = f.top; below = f.below; tasks = f.tasks; same = f.same; rest = with_tasks ts f.below s f.rest }

  pub no_tasks_shown : change.NoTasks r h p
  no_tasks_shown s none = no_tasks spots kept p.core.tasks (subst (λ xs. TasksRepresent spots kept xs p.core.tasks) none s.tasks)

  pub dropped_shown : change.Dropped r h p
  dropped_shown rs s = with_tasks (memory_drops.drops rs h.tasks) (drops rs p.core.tasks) s (drops_show spots kept rs h.tasks p.core.tasks s.tasks)

  pub values_shown : change.ValuesDropped r h p
  values_shown vs s =
      subst (λ rs. Represents r (record h { tasks = memory_drops.drops rs h.tasks }) (on_core (dropping_values (map value_of vs)) p)) (sym (refs_same vs)) (dropped_shown (refs_in (map value_of vs)) s)

  -- the same process, where only the cells of the heap change, and with other cells
  with_cells : (d : HeapTree) (cs : Numbered Cell) → Represents r h p → d.tasks ≡ h.tasks → d.actors ≡ h.actors → d.frames ≡ h.frames → d.main ≡ h.main → d.ports ≡ h.ports → d.requests ≡ h.requests
      → next_cell d ≡ next_cell h → CellsRepresent spots d.cells.things d.streams.things cs → Represents r d (on_core (λ c. record c { cells = cs }) p)
  with_cells d cs s t a f m po rq n all = record {
    cells = all;
    actors = λ i. rw (a, f) (s.actors i);
    tasks = rw t s.tasks;
    made = n ∙ s.made;
    started = rw (a, f) s.started;
    main = rw m s.main;
    ports = λ k. rw po (s.ports k);
    requests = rw rq s.requests;
  }

  pub cell_counted : change.CellCounted r h p
  cell_counted k m n s e =
      with_cells (cell_put k (record m { references = n }) h) p.core.cells s refl refl refl refl refl refl refl
      (single_kept spots h.cells.things h.streams.things p.core.cells s.cells k m (record m { references = n }) e refl refl)

  pub stream_counted : change.StreamCounted r h p
  stream_counted k m n s e =
      with_cells (stream_put k (record m { references = n }) h) p.core.cells s refl refl refl refl refl refl refl
      (stream_kept spots h.cells.things h.streams.things p.core.cells s.cells k m (record m { references = n }) e refl refl refl)

  -- a cell gets content, and fires
  fires : (d : HeapTree) (k : ℕ) (o : OutcomeTree) (cell : Cell) → thing p.core.cells k ≡ Some cell → Represents r d (on_core (put_cell k (filled cell o)) p)
      → Represents r (memory.pushed (change.fire k) d) (on_core (fill k o) p)
  fires d k o cell e s =
      subst (λ x. Represents r (memory.pushed (change.fire k) d) (on_core (fill_cell k o x) p)) (sym e) (record {
        cells = s.cells;
        actors = s.actors;
        tasks = (refl, s.tasks);
        made = s.made;
        started = s.started;
        main = s.main;
        ports = s.ports;
        requests = s.requests;
      })

  pub cell_set : change.CellSet r h p
  cell_set k m o s e =
      let a = single_at spots h.cells.things h.streams.things p.core.cells s.cells k m e in
      fires (cell_put k (record m { content = Some o }) h) k (outcome_of o) (Single (option_map outcome_of m.content) a.waiters) a.cell
      (with_cells (cell_put k (record m { content = Some o }) h) (put p.core.cells k (Single (Some (outcome_of o)) a.waiters)) s refl refl refl refl refl refl refl
      (single_put spots h.cells.things h.streams.things p.core.cells s.cells k m (record m { content = Some o }) (Single (option_map outcome_of m.content) a.waiters)
      (Single (Some (outcome_of o)) a.waiters) e a.cell
      (refl, a.waiting)))

  map_added : (vs : List Value) (v : Value) → map value_of vs ++ value_of v ∷ [] ≡ map value_of (vs ++ v ∷ [])
  map_added [] v = refl
  map_added (x ∷ vs) v = ap (λ us. value_of x ∷ us) (map_added vs v)

  pub stream_sent : change.StreamSent r h p
  stream_sent k m v s e =
      let a = stream_at spots h.cells.things h.streams.things p.core.cells s.cells k m e in
      let n = record m { queue = m.queue ++ v ∷ [] } in
      let c = Stream (map value_of m.queue) (option_map error_number m.end) a.waiter in
      let d = Stream (map value_of m.queue ++ value_of v ∷ []) (option_map error_number m.end) a.waiter in
      fires (stream_put k n h) k (GoodOutcome (value_of v)) c a.cell
      (with_cells (stream_put k n h) (put p.core.cells k d) s refl refl refl refl refl refl refl
      (put_stream spots h.cells.things h.streams.things p.core.cells s.cells k m n c d e a.cell (map_added m.queue v, refl, a.waiting)))

  pub stream_ended : change.StreamEnded r h p
  stream_ended k m x s e =
      let a = stream_at spots h.cells.things h.streams.things p.core.cells s.cells k m e in
      let n = record m { end = Some x } in
      let c = Stream (map value_of m.queue) (option_map error_number m.end) a.waiter in
      let d = Stream (map value_of m.queue) (Some x.0) a.waiter in
      fires (stream_put k n h) k (BadOutcome x.0) c a.cell
      (with_cells (stream_put k n h) (put p.core.cells k d) s refl refl refl refl refl refl refl
      (put_stream spots h.cells.things h.streams.things p.core.cells s.cells k m n c d e a.cell (refl, refl, a.waiting)))

  -- the first element of a stream is taken
  pub element_taken : change.ElementTaken r h p
  element_taken k m v vs cell s e q there =
      let a = stream_at spots h.cells.things h.streams.things p.core.cells s.cells k m e in
      let n = record m { queue = vs } in
      let c = Stream (value_of v ∷ map value_of vs) (option_map error_number m.end) a.waiter in
      let d = Stream (map value_of vs) (option_map error_number m.end) a.waiter in
      let at : thing p.core.cells k ≡ Some c = a.cell ∙ ap (λ us. Some (Stream (map value_of us) (option_map error_number m.end) a.waiter)) q in
      let same : cell ≡ c = cc (there, at) in (
        ap taken same,
        subst (λ x. Represents r (stream_put k n h) (on_core (put_cell k (after_taking x)) p)) (sym same)
            (with_cells (stream_put k n h) (put p.core.cells k d) s refl refl refl refl refl refl refl
            (put_stream spots h.cells.things h.streams.things p.core.cells s.cells k m n c d e at (refl, refl, a.waiting))),
      )

  -- one more waiter
  waiters_added : (ws : List Waiter) (w : Waiter) → map (waiter_in spots) ws ++ waiter_in spots w ∷ [] ≡ map (waiter_in spots) (ws ++ w ∷ [])
  waiters_added [] w = refl
  waiters_added (x ∷ ws) w = ap (λ us. waiter_in spots x ∷ us) (waiters_added ws w)

  pub cell_awaited : change.CellAwaited r h p
  cell_awaited k m cell w s e there =
      let a = single_at spots h.cells.things h.streams.things p.core.cells s.cells k m e in
      let n = record m { waiters = m.waiters ++ waiter_in spots w ∷ [] } in
      let c = Single (option_map outcome_of m.content) a.waiters in
      let d = Single (option_map outcome_of m.content) (a.waiters ++ w ∷ []) in
      let same : cell ≡ c = let x = a.cell in cc (there, x) in
      subst (λ x. Represents r (cell_put k n h) (on_core (put_cell k (with_waiter x w)) p)) (sym same)
      (with_cells (cell_put k n h) (put p.core.cells k d) s refl refl refl refl refl refl refl
      (single_put spots h.cells.things h.streams.things p.core.cells s.cells k m n c d e a.cell (refl, ap (λ ws. ws ++ waiter_in spots w ∷ []) a.waiting ∙ waiters_added a.waiters w)))

  no_waiter : (o : Option Waiter) → None ≡ option_map (waiter_in spots) o → o ≡ None
  no_waiter None e = refl
  no_waiter (Some w) e = absurd (cc)

  pub stream_awaited : change.StreamAwaited r h p
  stream_awaited k m cell w s e free there =
      let a = stream_at spots h.cells.things h.streams.things p.core.cells s.cells k m e in
      let n = record m { waiter = Some (waiter_in spots w) } in
      let c = Stream (map value_of m.queue) (option_map error_number m.end) None in
      let d = Stream (map value_of m.queue) (option_map error_number m.end) (Some w) in
      let at : thing p.core.cells k ≡ Some c = a.cell ∙ ap (λ x. Some (Stream (map value_of m.queue) (option_map error_number m.end) x)) (no_waiter a.waiter (sym free ∙ a.waiting)) in
      let same : cell ≡ c = cc (there, at) in
      subst (λ x. Represents r (stream_put k n h) (on_core (put_cell k (with_waiter x w)) p)) (sym same)
      (with_cells (stream_put k n h) (put p.core.cells k d) s refl refl refl refl refl refl refl
      (put_stream spots h.cells.things h.streams.things p.core.cells s.cells k m n c d e at (refl, refl, refl)))

  -- a cell is gone
  pub cell_gone : change.CellGone r h p
  cell_gone k m s e mr pr =
      with_cells (record h { cells = memory.without h.cells k }) (removed p.core.cells k) s refl refl refl refl refl refl refl
      (single_gone spots h.cells.things h.streams.things p.core.cells s.cells k m h.cells.greatest p.core.made e mr pr)

  pub stream_is_gone : change.StreamGone r h p
  stream_is_gone k m s e mr pr =
      with_cells (record h { streams = memory.without h.streams k }) (removed p.core.cells k) s refl refl refl refl refl refl refl
      (stream_gone spots h.cells.things h.streams.things p.core.cells s.cells k m h.streams.greatest p.core.made e mr pr)

  -- a new cell
  later : (k a b c : ℕ) → k ≡ suc (max a (max b c)) → suc (max k (max k c)) ≡ suc k
  later k a b c e = grind arith

  latest : (k a b c : ℕ) → k ≡ suc (max a (max b c)) → suc (max k (max b k)) ≡ suc k
  latest k a b c e = grind arith

  pub result_made : change.ResultMade r h p
  result_made s rising = record {
    cells = subst (λ k. CellsRepresent spots (stored.added h.cells.things k unset) h.streams.things (new_cell (Single None []) p.core).cells) (sym s.made)
        (single_added spots h.cells.things h.streams.things p.core.cells s.cells (suc p.core.made) unset (Single None []) (none_above p.core.cells 0 p.core.made (suc p.core.made) rising (omega arith))
        (refl, refl));
    actors = s.actors;
    tasks = s.tasks;
    made = later (next_cell h) h.made h.cells.greatest h.streams.greatest refl ∙ ap suc s.made;
    started = s.started;
    main = s.main;
    ports = s.ports;
    requests = s.requests;
  }

  pub stream_made : change.StreamMade r h p
  stream_made s rising = record {
    cells = subst (λ k. CellsRepresent spots h.cells.things (stored.added h.streams.things k empty) (new_cell (Stream [] None None) p.core).cells) (sym s.made)
        (stream_added spots h.cells.things h.streams.things p.core.cells s.cells (suc p.core.made) empty (Stream [] None None)
        (none_above p.core.cells 0 p.core.made (suc p.core.made) rising (omega arith)) (refl, refl, refl));
    actors = s.actors;
    tasks = s.tasks;
    made = latest (next_cell h) h.made h.cells.greatest h.streams.greatest refl ∙ ap suc s.made;
    started = s.started;
    main = s.main;
    ports = s.ports;
    requests = s.requests;
  }
