-- An actor whose own task is the newest of an orderly process is in no state of a wait.
use Rattle.std.proofs.Common.{◌≡◌, ◌⊎◌, inl, inr, ℕ, nat_eq, Bool, true, false, List, [], ◌∷◌, if◌then◌else◌, refl, sym, ap, ◌∙◌, subst, arith}
use Rattle.std.proofs.lemmas.Bool.Decides.{nat_tests}
use Rattle.std.specs.declared.option.Option.{Option}
use Rattle.std.specs.declared.option.Option.TheVariants.{None, Some}
use Rattle.flow_cancel.specs.declared.task.Task as stack
use Rattle.flow_cancel.specs.declared.task.Task.TheVariants as task
use Rattle.flow_class.specs.Classes.{RawTree}
use Rattle.flow_cancel.specs.Heap.{HeapTree}
use Rattle.flow_numbered.specs.Numbered.{thing}
use Rattle.flow_meaning.specs.Cells.{Ref}
use Rattle.flow_meaning.specs.Requests.{Spot}
use Rattle.flow_meaning.specs.Process.{Proc, Entry, Task, Run, Give, Throw, Catch, Store, Keep, Close, Fire, Drop}
use Rattle.flow_meaning.specs.Frame.{Frame}
use Rattle.flow_meaning.specs.Orderly.{Orderly, Proceeds, is_suspended, is_of, tasks_of, steps, stores, keeps, takes, throws, catches, ends}
use Rattle.flow_meaning.specs.Orderly as orderly
use Rattle.flow_heap_refinement.specs.Representing.{Represents, TaskRepresents, TasksRepresent}
use Rattle.flow_operation_refinement.specs.Placing.{Acts}
use Rattle.flow_step_refinement.specs.Resuming as law
use Rattle.flow_step_refinement.specs.Resuming.{Ends, IsEnding, Fine, in_no_state, is_waiting, is_ending}

-- a task of the definitions by which an actor is thrown an error, or ends; and whether there is one
abbrev EndsIn : ℕ → Task → Type 0
EndsIn i (Throw j e) = i ≡ j
EndsIn i (Close j o) = i ≡ j
EndsIn i t = ⊥

abbrev HasEnd : ℕ → List Task → Type 0
HasEnd i [] = ⊥
HasEnd i (t ∷ ts) = EndsIn i t ⊎ HasEnd i ts

module _ (spots : ℕ → Spot) (kept : ℕ → ℕ) (i : ℕ) where
  ends_same : (t : stack.Task) (u : Task) → TaskRepresents spots kept t u → Ends i t → EndsIn i u
  ends_same (task.Throw a e) u same end = subst (EndsIn i) (sym same) (sym end)
  ends_same (task.Close a o) u same end = subst (EndsIn i) (sym same) (sym end)
  ends_same (task.Run a) u same end = absurd end
  ends_same (task.Give a b o) u same end = absurd end
  ends_same (task.Catch a e) u same end = absurd end
  ends_same (task.Fire k) u same end = absurd end
  ends_same (task.Drop kd k) u same end = absurd end
  ends_same (task.Store a v) u same end = absurd end
  ends_same (task.Keep a n k) u same end = absurd end

  ending_there : (ts : List stack.Task) (us : List Task) → TasksRepresent spots kept ts us → IsEnding i ts → HasEnd i us
  ending_there [] us show end = absurd end
  ending_there (t ∷ ts) [] show end = absurd show
  ending_there (t ∷ ts) (u ∷ us) show (inl end) = inl (ends_same t u show.0 end)
  ending_there (t ∷ ts) (u ∷ us) show (inr end) = inr (ending_there ts us show.1 end)

-- it is one of the tasks of its actor
same_number : (i j : ℕ) → i ≡ j → nat_eq i j ≡ true
same_number i j e = grind (arith, nat_tests, e)

is_of_it : (i : ℕ) (t : Task) → EndsIn i t → is_of i t ≡ true
is_of_it i (Throw j e) end = same_number i j end
is_of_it i (Close j o) end = same_number i j end
is_of_it i (Run j) end = absurd end
is_of_it i (Give j b o) end = absurd end
is_of_it i (Catch j e) end = absurd end
is_of_it i (Store j v) end = absurd end
is_of_it i (Keep j spot r) end = absurd end
is_of_it i (Fire k) end = absurd end
is_of_it i (Drop kd k) end = absurd end

among_its : (i : ℕ) (ts : List Task) → HasEnd i ts → HasEnd i (tasks_of i ts)
among_its i [] end = absurd end
among_its i (t ∷ ts) (inl end) = subst (λ b. HasEnd i (if b then t ∷ tasks_of i ts else tasks_of i ts)) (sym (is_of_it i t end)) (inl end)
among_its i (t ∷ ts) (inr end) = by_test (is_of i t) (among_its i ts end)
  where
    by_test : (b : Bool) → HasEnd i (tasks_of i ts) → HasEnd i (if b then t ∷ tasks_of i ts else tasks_of i ts)
    by_test true h = inr h
    by_test false h = h

-- but who takes a next step does nothing else
no_end : (i : ℕ) (xs ys : List Task) → Proceeds i xs → xs ≡ Run i ∷ ys → HasEnd i xs → ⊥
no_end i xs ys steps e (inl end) = end
no_end i xs ys steps e (inr end) = end
no_end i xs ys stores e end = cc (e)
no_end i xs ys keeps e end = cc (e)
no_end i xs ys takes e end = cc (e)
no_end i xs ys throws e end = cc (e)
no_end i xs ys catches e end = cc (e)
no_end i xs ys ends e end = cc (e)

no_end_by : (i : ℕ) (o : Option Bool) (xs ys : List Task) → orderly.Stands i o xs → xs ≡ Run i ∷ ys → HasEnd i xs → ⊥
no_end_by i None xs ys stands e end = cc (stands, e)
no_end_by i (Some true) xs ys stands e end = cc (stands, e)
no_end_by i (Some false) xs ys stands e end = no_end i xs ys stands e end

pub at_next_step : law.AtNextStep
at_next_step r h p q i e f ts shows in_order poised tasks a awake = by_fine (poised i a.memory a.framed)
  where
    first : tasks_of i p.core.tasks ≡ Run i ∷ tasks_of i ts
    first = ap (tasks_of i) tasks ∙ ap (λ b. if b then Run i ∷ tasks_of i ts else tasks_of i ts) (same_number i i refl)

    by_fine : Fine i a.memory h.tasks → a.memory.state ≡ 0
    by_fine (in_no_state z) = z
    by_fine (is_waiting w) = let b = a.stands.suspended in absurd (cc (b, w, awake))
    by_fine (is_ending end) =
        absurd (no_end_by i (is_suspended (thing p.core.entries i)) (tasks_of i p.core.tasks) (tasks_of i ts) (in_order.actors i) first
        (among_its i p.core.tasks (ending_there _ _ i h.tasks p.core.tasks shows.tasks end)))

-- nor does who is to keep an operand
no_end_kept : (i : ℕ) (spot : Spot) (q : Ref) (xs ys : List Task) → Proceeds i xs → xs ≡ Keep i spot q ∷ ys → HasEnd i xs → ⊥
no_end_kept i spot q xs ys keeps e (inl end) = end
no_end_kept i spot q xs ys keeps e (inr (inl end)) = end
no_end_kept i spot q xs ys keeps e (inr (inr end)) = end
no_end_kept i spot q xs ys steps e end = cc (e)
no_end_kept i spot q xs ys stores e end = cc (e)
no_end_kept i spot q xs ys takes e end = cc (e)
no_end_kept i spot q xs ys throws e end = cc (e)
no_end_kept i spot q xs ys catches e end = cc (e)
no_end_kept i spot q xs ys ends e end = cc (e)

no_end_kept_by : (i : ℕ) (spot : Spot) (q : Ref) (o : Option Bool) (xs ys : List Task) → orderly.Stands i o xs → xs ≡ Keep i spot q ∷ ys → HasEnd i xs → ⊥
no_end_kept_by i spot q None xs ys stands e end = cc (stands, e)
no_end_kept_by i spot q (Some true) xs ys stands e end = cc (stands, e)
no_end_kept_by i spot q (Some false) xs ys stands e end = no_end_kept i spot q xs ys stands e end

pub at_kept_operand : (r : RawTree) (h : HeapTree) (p q : Proc Frame) (i : ℕ) (spot : Spot) (x : Ref) (e : Entry) (f : Frame) (ts : List Task) → Represents r h p → Orderly p.core → law.NoStaleWaits h
    → p.core.tasks ≡ Keep i spot x ∷ ts → (a : Acts r h q i e f) → e.suspended ≡ false → a.memory.state ≡ 0
at_kept_operand r h p q i spot x e f ts shows in_order poised tasks a awake = by_fine (poised i a.memory a.framed)
  where
    first : tasks_of i p.core.tasks ≡ Keep i spot x ∷ tasks_of i ts
    first = ap (tasks_of i) tasks ∙ ap (λ b. if b then Keep i spot x ∷ tasks_of i ts else tasks_of i ts) (same_number i i refl)

    by_fine : Fine i a.memory h.tasks → a.memory.state ≡ 0
    by_fine (in_no_state z) = z
    by_fine (is_waiting w) = let b = a.stands.suspended in absurd (cc (b, w, awake))
    by_fine (is_ending end) =
        absurd (no_end_kept_by i spot x (is_suspended (thing p.core.entries i)) (tasks_of i p.core.tasks) (tasks_of i ts) (in_order.actors i) first
        (among_its i p.core.tasks (ending_there _ _ i h.tasks p.core.tasks shows.tasks end)))
