-- What pending events are to set in a process.
use Rattle.std.specs.Prelude.{◌≡◌, ℕ, ◌+◌, Bool, false, ◌&&◌, nat_eq, List, [], ◌∷◌, if◌then◌else◌}
use Rattle.std.specs.List.{AllByRecursion}
use Rattle.std.specs.declared.option.Option.{Option}
use Rattle.std.specs.declared.option.Option.TheVariants.{Some}
use Rattle.flow_tree.specs.Tree.{VoidType, FutureType}
use Rattle.flow_timers.specs.Pending.{Pending}
use Rattle.flow_meaning.specs.Requests.{Request, Timer, Disks}
use Rattle.flow_meaning.specs.Outside.{What, Rings, Answers}
use Rattle.flow_progress.specs.Asking.{reply_type}
use Rattle.flow_progress.specs.Fitting.{CellTypes}

-- the cell that the world is asked to set
abbrev pub asked : Option Request → List ℕ
asked (Some (Timer cell time)) = cell ∷ []
asked (Some (Disks cell call)) = cell ∷ []
asked q = []

-- an event sets a cell of a process
abbrev pub sets : (process cell : ℕ) → What → Bool
sets p k (Rings q cell) = nat_eq p q && nat_eq k cell
sets p k (Answers q cell call) = nat_eq p q && nat_eq k cell
sets p k _ = false

-- how many of these events do
abbrev pub due : (process cell : ℕ) → List (Pending What) → ℕ
due p k [] = 0
due p k (e ∷ es) = (if sets p k e.what then 1 else 0) + due p k es

-- the cell is of what the event brings
abbrev pub Brings : (process : ℕ) → CellTypes → What → Type 0
Brings p types (Rings q cell) = p ≡ q → types cell ≡ Some (FutureType VoidType)
Brings p types (Answers q cell call) = p ≡ q → types cell ≡ Some (FutureType (reply_type call))
Brings p types _ = Unit {0}

abbrev pub AllBring : (process : ℕ) → CellTypes → List (Pending What) → Type 0
AllBring p types es = AllByRecursion (λ (e : Pending What). Brings p types e.what) es
