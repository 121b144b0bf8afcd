-- Whoever waits at a cell that is ready is owed a fire of it.
use Rattle.std.specs.Prelude.{◌≡◌, ◌⊎◌, ℕ, Bool, true, false, ◌&&◌, List, [], ◌∷◌}
use Rattle.std.specs.List.{AllByRecursion}
use Rattle.std.specs.declared.option.Option.{Option}
use Rattle.std.specs.declared.option.Option.TheVariants.{None, Some}
use Rattle.flow_worldfile.specs.Worlds as file
use Rattle.flow_class.specs.Classes.{RawTree}
use Rattle.flow_numbered.specs.Numbered.{thing}
use Rattle.flow_meaning.specs.Cells.{Waiter, Cell, is_ready, waiters}
use Rattle.flow_meaning.specs.Requests.{Supply}
use Rattle.flow_meaning.specs.Process.{Task, Fire, Core, Proc}
use Rattle.flow_meaning.specs.Orderly.{Orderly, UnlessStopped}
use Rattle.flow_meaning.specs.Step.{Stepped, step}
use Rattle.flow_meaning.specs.Class.{classes}
use Rattle.flow_meaning.specs.Runs.{ClassStates}
use Rattle.flow_meaning.specs.World.{Place, World}
use Rattle.flow_meaning.specs.Frame.{Frame}
use Rattle.flow_heap_refinement.specs.CellsTied.{CellsTied}

-- somebody waits, and at a cell that is ready
abbrev pub some_wait : List Waiter → Bool
some_wait [] = false
some_wait (w ∷ ws) = true

abbrev pub is_due : Option Cell → Bool
is_due None = false
is_due (Some cell) = is_ready cell && some_wait (waiters cell)

-- a fire of a cell is among these tasks
abbrev pub Fires : ℕ → List Task → Type 0
Fires k [] = ⊥
Fires k (Fire j ∷ ts) = (j ≡ k) ⊎ Fires k ts
Fires k (t ∷ ts) = Fires k ts

abbrev pub Fired : Core → Type 0
Fired c = (k : ℕ) → is_due (thing c.cells k) ≡ true → Fires k c.tasks

-- Each step keeps it, of any classes.
abbrev pub StepsFire : Type 0
StepsFire =
    (r : RawTree) (s : Supply) (p : Proc Frame) (q : Stepped Frame) → Orderly p.core → CellsTied p.core
    → Fired p.core → step (classes r) s p ≡ Some q
    → UnlessStopped q.0.core.halted (Fired q.0.core)

-- Where no task is left, nobody waits at a cell that is ready.
abbrev pub NobodyDue : Core → Type 0
NobodyDue c = (k : ℕ) → is_due (thing c.cells k) ≡ false

abbrev pub RestsFired : Type 0
RestsFired = (c : Core) → Fired c → c.tasks ≡ [] → NobodyDue c

-- So it is with each process at each boundary of a run in the world of a file in range.
abbrev pub WorldFired : World Frame → Type 0
WorldFired w = AllByRecursion (λ (a : Place Frame). Fired a.proc.core) w.places

abbrev pub StatesFired : RawTree → Type 0
StatesFired r =
    (w : file.World) (states : List (World Frame)) → file.IsInRange w → ClassStates r w states
    → AllByRecursion WorldFired states
