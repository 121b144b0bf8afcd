-- The outcome of an actor goes to its result, or the result loses the actor's promise.
use Rattle.std.proofs.Common.{◌≡◌, ◌⊎◌, ℕ, zero, suc, Bool, true, false, List, slice_get, inl, inr, refl, sym, ap, ◌∙◌, subst}
use Rattle.std.proofs.lemmas.Bool.{false≢true}
use Rattle.std.specs.Option.{is_none}
use Rattle.std.specs.declared.option.Option.TheVariants.{None, Some}
use Rattle.flow_value.specs.declared.value.Kind.TheVariants as kind
use Rattle.flow_value.specs.declared.value.Outcome.{Outcome}
use Rattle.flow_numbered.specs.Numbered as stored
use Rattle.flow_cell.specs.declared.counts.Side.TheVariants.{Promise}
use Rattle.flow_cell.specs.declared.waiter.Waiter.{Waiter}
use Rattle.flow_cell.specs.Cells.{CellTree, Counts}
use Rattle.flow_cancel.specs.declared.task.Dropped.{Dropped}
use Rattle.flow_cancel.specs.declared.task.Dropped.TheVariants as memory
use Rattle.flow_cancel.specs.Heap.{HeapTree}
use Rattle.flow_cancel.specs.Dropping.{Lost, cell_less, drop_cell, may_drop_cell}
use Rattle.flow_cancel.proofs.Puts.{found_put}
use Rattle.flow_heap_refinement.proofs.Losing.{counts_are}
use Rattle.flow_steps.specs.Stuck.{MayNotSet, LosesStuck, may_not, breaks, cancels}
use Rattle.flow_steps.specs.StuckTasks.{NoPromise, ResultStuck}
use Rattle.flow_machine_progress.specs.Lookups.{EndFound}

-- an unset result with one promise
abbrev result : ℕ → List Waiter → CellTree Outcome
result f ws = record { content = None; references = record { promises = 1; futures = f }; waiters = ws }

abbrev freed : Dropped → Bool
freed memory.Freed = true
freed _ = false

abbrev broken : Dropped → Bool
broken memory.Broken = true
broken _ = false

set_found : (k f : ℕ) (ws : List Waiter) (h : HeapTree) → stored.thing h.cells.things k ≡ Some (result f ws) → ResultStuck k h → ⊥
set_found k f ws h at (inl m) = let none = subst NoPromise at m in cc (none)
set_found k f ws h at (inr m) = false≢true (subst MayNotSet at m)

-- where no future refers to it, it goes
gone : (k : ℕ) (ws : List Waiter) (h : HeapTree) → stored.thing h.cells.things k ≡ Some (result 0 ws) → slice_get ws 0 ≡ None → LosesStuck kind.Promise k h → ⊥
gone k ws h at alone (may_not e) = let x : is_none (slice_get ws 0) ≡ false = sym (ap (may_drop_cell Promise) at) ∙ e in false≢true (sym x ∙ ap is_none alone)
gone k ws h at alone (breaks g e m) = false≢true (sym (ap (λ (l : Lost). freed l.1) (sym (ap (drop_cell Promise k h) at) ∙ e)))
gone k ws h at alone (cancels g a e m) = false≢true (sym (ap (λ (l : Lost). freed l.1) (sym (ap (drop_cell Promise k h) at) ∙ e)))

-- where one does, it is broken
heard : (k f : ℕ) (ws : List Waiter) (h : HeapTree) → stored.thing h.cells.things k ≡ Some (result (suc f) ws) → LosesStuck kind.Promise k h → ⊥
heard k f ws h at (may_not e) = false≢true (sym (sym (ap (may_drop_cell Promise) at) ∙ e))
heard k f ws h at (breaks g e m) =
    let same = ap (λ (l : Lost). l.0) (sym (ap (drop_cell Promise k h) at) ∙ e) in
    let here = subst (λ (x : HeapTree). MayNotSet (stored.thing x.cells.things k)) (sym same) m in
    false≢true (subst MayNotSet (found_put h.cells.things k (result (suc f) ws) (cell_less Promise (result (suc f) ws)) at) here)
heard k f ws h at (cancels g a e m) = false≢true (sym (ap (λ (l : Lost). broken l.1) (sym (ap (drop_cell Promise k h) at) ∙ e)))

pub end_found : EndFound
end_found k h m at unset one alone is = by m.references.futures refl is
  where
    same : (f : ℕ) → m.references.futures ≡ f → stored.thing h.cells.things k.0 ≡ Some (result f m.waiters)
    same f e =
        at
        ∙ ap Some (ap (λ c. record m { content = c }) unset ∙ ap (λ (z : Counts). record m { content = None; references = z }) (counts_are m.references 1 f one e))

    by : (f : ℕ) → m.references.futures ≡ f → ResultStuck k.0 h ⊎ LosesStuck kind.Promise k.0 h → ⊥
    by f e (inl x) = set_found k.0 f m.waiters h (same f e) x
    by zero e (inr x) = gone k.0 m.waiters h (same 0 e) (alone e) x
    by (suc f) e (inr x) = heard k.0 f m.waiters h (same (suc f) e) x
