-- The promise side of a cell, where only what the process made it for refers to it.
use Rattle.std.proofs.Common.{◌≡◌, ℕ, suc, ◌<◌, nat_eq, Bool, true, false, List, [], ◌∷◌, if◌then◌else◌, refl, ap, arith}
use Rattle.std.proofs.lemmas.Bool.Decides.{nat_tests}
use Rattle.std.specs.Prelude.{◌&&◌, not}
use Rattle.std.specs.declared.option.Option.{Option}
use Rattle.std.specs.declared.option.Option.TheVariants.{None, Some}
use Rattle.flow_value.specs.Values.{ValueTree, refs_of}
use Rattle.flow_heap_refinement.specs.Evaluation.{GivesFutures, AllNamed, RefNamed}
use Rattle.flow_numbered.specs.Numbered.{Numbered}
use Rattle.flow_meaning.specs.Cells.{PromiseSide, FutureSide, side_of, Ref, Waiter, Cell, waiters, held}
use Rattle.flow_meaning.specs.Requests.{Make, Draw}
use Rattle.flow_meaning.specs.Process.{Task, Give, Store, Keep, Close, Drop, Entry}
use Rattle.flow_meaning.specs.References.{same_side, refs_in, value_in, one, count, count_maybe, count_waiters, count_kept, in_cells, in_entries, in_task, in_tasks}
use Rattle.flow_meaning.specs.Frame.{Frame, everything}
use Rattle.flow_heap_refinement.specs.Counted.{frames_hold}
use Rattle.flow_heap_refinement.specs.Naming.{RefsNamed, CellsNamed, EntriesNamed, TaskNamed, TasksNamed, FramesNamed, HoldsNext}
use Rattle.flow_heap_refinement.specs.Alone as law
use Rattle.flow_heap_refinement.specs.Alone.{spares, results_at}
use Rattle.flow_heap_refinement.proofs.NamingPlaces.{everything_named}
use Rattle.flow_heap_refinement.proofs.Sums.{count_joined}
use Rattle.flow_heap_refinement.proofs.NamingWork.{all_refs, held_named, outcome_values}
use Rattle.flow_heap_refinement.proofs.NamingSteps.{steps_named, any_made}

module _ (k : ℕ) where
  -- a reference that the rule allows isn't counted
  not_counted : (b : Bool) → not b ≡ true → ◌≡◌ {A = ℕ} (if b then 1 else 0) 0
  not_counted true e = absurd (cc)
  not_counted false e = refl

  spared : (r : Ref) → RefNamed (spares k) r → one PromiseSide k (side_of r.0) r.1 ≡ 0
  spared r h = not_counted (same_side PromiseSide (side_of r.0) && nat_eq k r.1) h

  all_spared : (rs : List Ref) → RefsNamed (spares k) rs → count PromiseSide k rs ≡ 0
  all_spared [] h = refl
  all_spared (r ∷ rs) h = let a = spared r h.0 in let b = all_spared rs h.1 in omega (arith, a, b)

  values_spared : (vs : List ValueTree) → AllNamed (spares k) vs → count PromiseSide k (refs_in vs) ≡ 0
  values_spared vs h = all_spared (refs_in vs) (all_refs (spares k) vs h)

  waiters_spared : (cell : ℕ) (ws : List Waiter) → count_waiters PromiseSide k cell ws ≡ 0
  waiters_spared cell [] = refl
  waiters_spared cell (w ∷ ws) = let a = waiters_spared cell ws in omega (arith, a)

  cells_spared : (xs : Numbered Cell) → CellsNamed (spares k) xs → in_cells PromiseSide k xs ≡ 0
  cells_spared [] h = refl
  cells_spared (x ∷ xs) h =
      let a = waiters_spared x.0 (waiters x.1) in
      let b = values_spared (held x.1) (held_named (spares k) x.1 h.0) in
      let c = cells_spared xs h.1 in omega (arith, a, b, c)

  kept_spared : (b : Bool) (rs : List Ref) → RefsNamed (spares k) rs → count_kept PromiseSide k b rs ≡ 0
  kept_spared true rs h = refl
  kept_spared false rs h = all_spared rs h

  entries_spared : (xs : Numbered Entry) → EntriesNamed (spares k) xs → in_entries PromiseSide k xs ≡ results_at k xs
  entries_spared [] h = refl
  entries_spared (x ∷ xs) h =
      let a = kept_spared x.1.suspended x.1.operands h.0 in
      let b = entries_spared xs h.1 in omega (arith, a, b)

  task_spared : (t : Task) → TaskNamed (spares k) t → in_task PromiseSide k t ≡ 0
  task_spared (Give i b o) h = values_spared (value_in o) (outcome_values (spares k) o h)
  task_spared (Store i v) h = let a = values_spared (v ∷ []) (h, tt) in let b = count_joined PromiseSide k (refs_of v) [] in omega (arith, a, b)
  task_spared (Keep i spot r) h = spared r h
  task_spared (Close i o) h = values_spared (value_in o) (outcome_values (spares k) o h)
  task_spared (Drop kd cell) h = spared (kd, cell) h
  task_spared _ h = refl

  tasks_spared : (ts : List Task) → TasksNamed (spares k) ts → in_tasks PromiseSide k ts ≡ 0
  tasks_spared [] h = refl
  tasks_spared (t ∷ ts) h = let a = task_spared t h.0 in let b = tasks_spared ts h.1 in omega (arith, a, b)

  frames_spared : (xs : Numbered Frame) → FramesNamed (spares k) xs → frames_hold xs PromiseSide k ≡ 0
  frames_spared [] h = refl
  frames_spared (x ∷ xs) h =
      let a = values_spared (everything x.1.mem) (everything_named (spares k) x.1.mem h.0) in
      let b = frames_spared xs h.1 in omega (arith, a, b)

  main_spared : (x : Option ℕ) → count_maybe PromiseSide k FutureSide x ≡ 0
  main_spared None = refl
  main_spared (Some c) = refl

  pub futures_spared : GivesFutures (spares k)
  futures_spared = record { single = λ j h. refl; stream = λ j h. refl }

pub owners_counted : law.OwnersCounted
owners_counted k p h =
    let a = cells_spared k p.core.cells h.0.0 in
    let b = entries_spared k p.core.entries h.0.1 in
    let c = tasks_spared k p.core.tasks h.0.2 in
    let d = frames_spared k p.actors h.1 in
    let e = main_spared k p.core.main in omega (arith, a, b, c, d, e)

-- the next cell is another
next_spared : (k n : ℕ) → k < suc n → HoldsNext (spares k) n
next_spared k n l kd = other (nat_eq k (suc n)) refl
  where
    other : (b : Bool) → nat_eq k (suc n) ≡ b → spares k kd (suc n) ≡ true
    other true e = let same : k ≡ suc n = grind (arith, nat_tests) in absurd (omega (arith, same, l))
    other false e = by_side (same_side PromiseSide (side_of kd))
      where
        by_side : (b : Bool) → not (b && nat_eq k (suc n)) ≡ true
        by_side true = ap not e
        by_side false = refl

pub stays_alone : law.StaysAlone
stays_alone r k s p t l h e = steps_named r (spares k) s p t (futures_spared k) (any_made r (spares k) s p (next_spared k p.core.made l)) h e

pub born_alone : law.BornAlone
born_alone n k (Make kd) o = absurd o
born_alone n k (Draw lo hi) o = absurd o
born_alone n k _ o = refl
