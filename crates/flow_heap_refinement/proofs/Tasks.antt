-- Tasks in memory and in the process.
use Rattle.std.proofs.Common.{◌≡◌, ℕ, Bool, true, false, List, [], ◌∷◌, ◌++◌, map, if◌then◌else◌, refl, sym, ap, ◌∙◌, subst, arith}
use Rattle.flow_value.specs.declared.value.Value.{Value}
use Rattle.flow_value.specs.View.{value_of}
use Rattle.flow_value.specs.Values.{refs_of}
use Rattle.flow_cancel.specs.declared.task.Task as stack
use Rattle.flow_cancel.specs.declared.task.Task.TheVariants as task
use Rattle.flow_cancel.specs.Dropping as memory
use Rattle.flow_meaning.specs.Cells.{Ref}
use Rattle.flow_meaning.specs.Requests.{Spot}
use Rattle.flow_meaning.specs.Process.{Task, Keep}
use Rattle.flow_meaning.specs.References.{refs_in}
use Rattle.flow_meaning.specs.Work.{drops}
use Rattle.flow_meaning.specs.Orderly.{is_of, tasks_of}
use Rattle.flow_heap_refinement.specs.Representing.{TaskRepresents, TasksRepresent}
use Rattle.flow_heap_refinement.specs.Acting.{NoKeep}

-- the newest task
pub record First (spots : ℕ → Spot) (kept : ℕ → ℕ) (t : stack.Task) (ts : List stack.Task) (us : List Task) : Type 0 where
  pub top : Task
  pub below : List Task
  pub tasks : us ≡ top ∷ below
  pub same : TaskRepresents spots kept t top
  pub rest : TasksRepresent spots kept ts below

pub first : (spots : ℕ → Spot) (kept : ℕ → ℕ) (t : stack.Task) (ts : List stack.Task) (us : List Task) → TasksRepresent spots kept (t ∷ ts) us → First spots kept t ts us
first spots kept t ts [] h = absurd h
first spots kept t ts (u ∷ us) h = record { top = u; below = us; tasks = refl; same = h.0; rest = h.1 }

pub no_tasks : (spots : ℕ → Spot) (kept : ℕ → ℕ) (us : List Task) → TasksRepresent spots kept [] us → us ≡ []
no_tasks spots kept [] h = refl
no_tasks spots kept (u ∷ us) h = absurd h

-- drops come on top
pub drops_show : (spots : ℕ → Spot) (kept : ℕ → ℕ) (rs : List Ref) (ts : List stack.Task) (us : List Task) → TasksRepresent spots kept ts us
    → TasksRepresent spots kept (memory.drops rs ts) (drops rs us)
drops_show spots kept [] ts us h = h
drops_show spots kept (r ∷ rs) ts us h = (refl, drops_show spots kept rs ts us h)

-- the references of values
pub refs_same : (vs : List Value) → memory.refs_in vs ≡ refs_in (map value_of vs)
refs_same [] = refl
refs_same (v ∷ vs) = ap (λ rs. refs_of (value_of v) ++ rs) (refs_same vs)

-- Where each actor stands, or how many operands it has kept, may change where it has no operand to keep.
module _ (spots spots' : ℕ → Spot) (kept kept' : ℕ → ℕ) (i : ℕ) (same : (j : ℕ) → (i ≡ j → ⊥) → (spots' j ≡ spots j) × (kept' j ≡ kept j)) where
  no_keep_rest : (u : Task) (us : List Task) → NoKeep i (u ∷ us) → NoKeep i us
  no_keep_rest (Keep j spot x) us n = n.1
  no_keep_rest _ us n = n

  task_aside : (t : stack.Task) (u : Task) (us : List Task) → NoKeep i (u ∷ us) → TaskRepresents spots kept t u → TaskRepresents spots' kept' t u
  task_aside (task.Keep a m k) u us n h =
      let s = same a.0 (subst (λ x. NoKeep i (x ∷ us)) h.2 n).0 in
      (h.0, h.1 ∙ (rw (s.0, s.1) refl), h.2 ∙ (rw s.0 refl))
  task_aside _ u us n h = h

  pub tasks_aside : (ts : List stack.Task) (us : List Task) → NoKeep i us → TasksRepresent spots kept ts us → TasksRepresent spots' kept' ts us
  tasks_aside [] [] n h = tt
  tasks_aside [] (u ∷ us) n h = absurd h
  tasks_aside (t ∷ ts) [] n h = absurd h
  tasks_aside (t ∷ ts) (u ∷ us) n h = (task_aside t u us n h.0, tasks_aside ts us (no_keep_rest u us n) h.1)

-- nothing has changed where they are the same
pub tasks_same : (spots spots' : ℕ → Spot) (kept kept' : ℕ → ℕ) → ((j : ℕ) → (spots' j ≡ spots j) × (kept' j ≡ kept j)) → (ts : List stack.Task) (us : List Task) → TasksRepresent spots kept ts us
    → TasksRepresent spots' kept' ts us
tasks_same spots spots' kept kept' same [] [] h = tt
tasks_same spots spots' kept kept' same [] (u ∷ us) h = h
tasks_same spots spots' kept kept' same (t ∷ ts) [] h = h
tasks_same spots spots' kept kept' same (t ∷ ts) (u ∷ us) h = (task_same t u h.0, tasks_same spots spots' kept kept' same ts us h.1)
  where
    task_same : (t : stack.Task) (u : Task) → TaskRepresents spots kept t u → TaskRepresents spots' kept' t u
    task_same (task.Run a) u h = h
    task_same (task.Give a b o) u h = h
    task_same (task.Throw a e) u h = h
    task_same (task.Catch a e) u h = h
    task_same (task.Fire k) u h = h
    task_same (task.Drop kind k) u h = h
    task_same (task.Store a v) u h = h
    task_same (task.Keep a m k) u h = let s = same a.0 in (h.0, h.1 ∙ (rw (s.0, s.1) refl), h.2 ∙ (rw s.0 refl))
    task_same (task.Close a o) u h = h

-- an actor for which nothing is to be done has no operand to keep
pub idle_keeps : (i : ℕ) (us : List Task) → tasks_of i us ≡ [] → NoKeep i us
idle_keeps i [] h = tt
idle_keeps i (u ∷ us) h = by_test (is_of i u) refl (idle_keeps i us)
  where
    some_is_none : (vs : List Task) → u ∷ vs ≡ [] → ⊥
    some_is_none vs e = cc

    none_of : (u : Task) (us : List Task) → is_of i u ≡ false → NoKeep i us → NoKeep i (u ∷ us)
    none_of (Keep j spot x) us n k = (λ e. grind (arith, n, e), k)
    none_of _ us n k = k

    by_test : (b : Bool) → is_of i u ≡ b → (tasks_of i us ≡ [] → NoKeep i us) → NoKeep i (u ∷ us)
    by_test true e rest = absurd (some_is_none (tasks_of i us) (ap (λ c. if c then u ∷ tasks_of i us else tasks_of i us) (sym e) ∙ h))
    by_test false e rest = none_of u us e (rest (ap (λ c. if c then u ∷ tasks_of i us else tasks_of i us) (sym e) ∙ h))
