-- Where no reference to the promise side of a cell is counted, none is there.
use Rattle.std.proofs.Common.{◌≡◌, ℕ, ◌+◌, nat_eq, Bool, true, false, List, [], ◌∷◌, if◌then◌else◌, refl, arith}
use Rattle.std.specs.Prelude.{◌&&◌, not}
use Rattle.std.specs.declared.option.Option.{Option}
use Rattle.std.specs.declared.option.Option.TheVariants.{None, Some}
use Rattle.flow_value.specs.Values.{ValueTree, OutcomeTree, GoodOutcome, BadOutcome, refs_of}
use Rattle.flow_value.proofs.References.{listed_refs}
use Rattle.flow_heap_refinement.specs.Evaluation.{Named, AllNamed, RefNamed}
use Rattle.flow_numbered.specs.Numbered.{Numbered}
use Rattle.flow_meaning.specs.Cells.{PromiseSide, side_of, Ref, Cell, Single, Stream, held}
use Rattle.flow_meaning.specs.Process.{Entry, Task, Give, Store, Keep, Close, Drop}
use Rattle.flow_meaning.specs.References.{count_kept, in_entries, same_side, refs_in, value_in, one, count, in_cells, in_task, in_tasks}
use Rattle.flow_meaning.specs.Frame.{Memory, Frame, occ_memory}
use Rattle.flow_heap_refinement.specs.Counted.{frames_hold}
use Rattle.flow_heap_refinement.specs.Naming.{OutcomeNamed, CellNamed, CellsNamed, TaskNamed, TasksNamed, PlacesNamed, MemoryNamed, FramesNamed, RefsNamed}
use Rattle.flow_heap_refinement.specs.Alone as law
use Rattle.flow_heap_refinement.specs.Alone.{spares, results_at}
use Rattle.flow_heap_refinement.proofs.Sums.{count_joined}
use Rattle.flow_heap_refinement.proofs.Holding.{all_held, memory_held}

module _ (k : ℕ) where
  free : (b : Bool) → ◌≡◌ {A = ℕ} (if b then 1 else 0) 0 → not b ≡ true
  free true e = absurd (cc)
  free false e = refl

  ref_free : (r : Ref) → one PromiseSide k (side_of r.0) r.1 ≡ 0 → RefNamed (spares k) r
  ref_free r h = free (same_side PromiseSide (side_of r.0) && nat_eq k r.1) h

  refs_free : (rs : List Ref) → count PromiseSide k rs ≡ 0 → RefsNamed (spares k) rs
  refs_free [] h = tt
  refs_free (r ∷ rs) h = (ref_free r (omega (arith, h)), refs_free rs (omega (arith, h)))

  value_free : (v : ValueTree) → count PromiseSide k (refs_of v) ≡ 0 → Named (spares k) v
  value_free v h = listed_refs (RefNamed (spares k)) v (refs_free (refs_of v) h)

  values_free : (vs : List ValueTree) → count PromiseSide k (refs_in vs) ≡ 0 → AllNamed (spares k) vs
  values_free [] h = tt
  values_free (v ∷ vs) h = let a = count_joined PromiseSide k (refs_of v) (refs_in vs) in (value_free v (omega (arith, a, h)), values_free vs (omega (arith, a, h)))

  outcome_free : (o : OutcomeTree) → count PromiseSide k (refs_in (value_in o)) ≡ 0 → OutcomeNamed (spares k) o
  outcome_free (GoodOutcome v) h = (values_free (v ∷ []) h).0
  outcome_free (BadOutcome e) h = tt

  cell_free : (c : Cell) → count PromiseSide k (refs_in (held c)) ≡ 0 → CellNamed (spares k) c
  cell_free (Single None ws) h = tt
  cell_free (Single (Some (GoodOutcome v)) ws) h = (values_free (v ∷ []) h).0
  cell_free (Single (Some (BadOutcome e)) ws) h = tt
  cell_free (Stream q e w) h = values_free q h

  cells_free : (xs : Numbered Cell) → in_cells PromiseSide k xs ≡ 0 → CellsNamed (spares k) xs
  cells_free [] h = tt
  cells_free (x ∷ xs) h = (cell_free x.1 (omega (arith, h)), cells_free xs (omega (arith, h)))

  task_free : (t : Task) → in_task PromiseSide k t ≡ 0 → TaskNamed (spares k) t
  task_free (Give i b o) h = outcome_free o h
  task_free (Store i v) h = value_free v h
  task_free (Keep i spot r) h = ref_free r h
  task_free (Close i o) h = outcome_free o h
  task_free (Drop kd cell) h = ref_free (kd, cell) h
  task_free _ h = tt

  tasks_free : (ts : List Task) → in_tasks PromiseSide k ts ≡ 0 → TasksNamed (spares k) ts
  tasks_free [] h = tt
  tasks_free (t ∷ ts) h = (task_free t (omega (arith, h)), tasks_free ts (omega (arith, h)))

  places_free : (os : List (Option ValueTree)) → all_held PromiseSide k os ≡ 0 → PlacesNamed (spares k) os
  places_free [] h = tt
  places_free (None ∷ os) h = (tt, places_free os (omega (arith, h)))
  places_free (Some v ∷ os) h = ((values_free (v ∷ []) (omega (arith, h))).0, places_free os (omega (arith, h)))

  memory_free : (m : Memory) → occ_memory PromiseSide k m ≡ 0 → MemoryNamed (spares k) m
  memory_free m h = let a = memory_held PromiseSide k m in record { slots = places_free m.slots (omega (arith, a, h)); locals = places_free m.locals (omega (arith, a, h)) }

  frames_free : (xs : Numbered Frame) → frames_hold xs PromiseSide k ≡ 0 → FramesNamed (spares k) xs
  frames_free [] h = tt
  frames_free (x ∷ xs) h = (memory_free x.1.mem (omega (arith, h)), frames_free xs (omega (arith, h)))

  -- actors refer to their results, and to what they keep
  abbrev kept_at : Numbered Entry → ℕ
  kept_at [] = 0
  kept_at (x ∷ xs) = count_kept PromiseSide k x.1.suspended x.1.operands + kept_at xs

  results_kept : (xs : Numbered Entry) → in_entries PromiseSide k xs ≡ results_at k xs + kept_at xs
  results_kept [] = refl
  results_kept (x ∷ xs) = let a = results_kept xs in omega (arith, a)

pub nobody_else : law.NobodyElse
nobody_else k p waits h =
    let a = results_kept k p.core.entries in
    ((cells_free k p.core.cells (omega (arith, a, h)), waits, tasks_free k p.core.tasks (omega (arith, a, h))), frames_free k p.actors (omega (arith, a, h)))

pub nobody_yet : law.NobodyYet
nobody_yet k p waits h =
    ((cells_free k p.core.cells (omega (arith, h)), waits, tasks_free k p.core.tasks (omega (arith, h))), frames_free k p.actors (omega (arith, h)))
