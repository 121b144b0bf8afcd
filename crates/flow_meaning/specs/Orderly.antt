-- The order of tasks within an event: each unfinished actor is suspended, or exactly one thing is to be done for it.
use Rattle.std.specs.Prelude.{◌≡◌, ℕ, suc, ◌<◌, nat_eq, Bool, true, false, List, [], ◌∷◌, if◌then◌else◌}
use Rattle.std.specs.Option.{option_map}
use Rattle.std.specs.declared.option.Option.{Option}
use Rattle.std.specs.declared.option.Option.TheVariants.{None, Some}
use Rattle.flow_value.specs.Values.{ValueTree, OutcomeTree}
use Rattle.flow_numbered.specs.Numbered.{Numbered, thing}
use Rattle.flow_meaning.specs.Cells.{Ref, Waiter, Cell, waiters}
use Rattle.flow_meaning.specs.Requests.{Spot}
use Rattle.flow_meaning.specs.Process.{Task, Run, Give, Throw, Catch, Store, Keep, Close, Fire, Drop, Entry, Halt, Core}

-- the tasks of an actor
abbrev pub is_of : (actor : ℕ) → Task → Bool
is_of i (Run j) = nat_eq i j
is_of i (Give j b o) = nat_eq i j
is_of i (Throw j e) = nat_eq i j
is_of i (Catch j e) = nat_eq i j
is_of i (Store j v) = nat_eq i j
is_of i (Keep j spot r) = nat_eq i j
is_of i (Close j o) = nat_eq i j
is_of i (Fire k) = false
is_of i (Drop kind k) = false

abbrev pub tasks_of : (actor : ℕ) → List Task → List Task
tasks_of i [] = []
tasks_of i (t ∷ ts) = if is_of i t then t ∷ tasks_of i ts else tasks_of i ts

-- What is to be done for an actor that runs. The result of an effect, or an operand, comes before its next step.
pub data Proceeds (i : ℕ) : List Task → Type 0 where
  steps : Proceeds i (Run i ∷ [])
  stores : {v : ValueTree} → Proceeds i (Store i v ∷ Run i ∷ [])
  keeps : {spot : Spot} {r : Ref} → Proceeds i (Keep i spot r ∷ Run i ∷ [])
  takes : {b : ℕ} {o : OutcomeTree} → Proceeds i (Give i b o ∷ [])
  throws : {e : ℕ} → Proceeds i (Throw i e ∷ [])
  catches : {e : ℕ} → Proceeds i (Catch i e ∷ [])
  ends : {o : OutcomeTree} → Proceeds i (Close i o ∷ [])

-- whether an unfinished actor is suspended
abbrev pub is_suspended : Option Entry → Option Bool
is_suspended o = option_map (λ (e : Entry). e.suspended) o

-- nothing is to be done for an actor that is suspended, nor for one that is none
abbrev pub Stands : ℕ → Option Bool → List Task → Type 0
Stands i None ts = ts ≡ []
Stands i (Some true) ts = ts ≡ []
Stands i (Some false) ts = Proceeds i ts

-- an operand that is to be kept stands right above its actor's next step
abbrev pub NextStep : ℕ → List Task → Type 0
NextStep i (Run j ∷ ts) = i ≡ j
NextStep i _ = ⊥

abbrev pub Paired : List Task → Type 0
Paired [] = Unit {0}
Paired (Keep i spot r ∷ ts) = NextStep i ts × Paired ts
Paired (t ∷ ts) = Paired ts

-- whoever waits at a cell is suspended
abbrev pub AllWait : Numbered Entry → List Waiter → Type 0
AllWait es [] = Unit {0}
AllWait es (w ∷ ws) = (is_suspended (thing es w.actor) ≡ Some true) × AllWait es ws

abbrev pub CellsWait : Numbered Entry → Numbered Cell → Type 0
CellsWait es [] = Unit {0}
CellsWait es (x ∷ xs) = AllWait es (waiters x.1) × CellsWait es xs

-- numbers rise strictly, and the last is n at most
abbrev pub Rising : {A : Type 0} → (above : ℕ) → ℕ → Numbered A → Type 0
Rising above n [] = Unit {0}
Rising above n (x ∷ xs) = (above < x.0) × (x.0 < suc n) × Rising x.0 n xs

pub record Orderly (c : Core) : Type 0 where
  pub actors : (i : ℕ) → Stands i (is_suspended (thing c.entries i)) (tasks_of i c.tasks)
  pub paired : Paired c.tasks
  pub waiting : CellsWait c.entries c.cells
  pub numbered : Rising 0 c.started c.entries

-- an event that was stopped goes on with nothing, and so nothing is asked of it
abbrev pub UnlessStopped : Option Halt → Type 0 → Type 0
UnlessStopped None holds = holds
UnlessStopped (Some h) holds = Unit {0}

abbrev pub OrderlyUnlessStopped : Core → Type 0
OrderlyUnlessStopped c = UnlessStopped c.halted (Orderly c)

-- What may be handed to an actor depends on what it asked for last: it may go on, or fail; it is owed the result of an
-- effect, an operand or a branch; it waits. Each says more than those before.
pub data Phase : Type 0 where
  Free : Phase
  Risky : Phase
  Due : Phase
  Waiting : Phase

-- the phase of an actor, by whether it is suspended and by what is to be done for it first
abbrev pub phase_first : List Task → Phase
phase_first (Store i v ∷ ts) = Due
phase_first (Keep i spot r ∷ ts) = Due
phase_first (Give i b o ∷ ts) = Due
phase_first (Throw i e ∷ ts) = Risky
phase_first _ = Free

abbrev pub phase_by : Option Bool → List Task → Phase
phase_by (Some true) ts = Waiting
phase_by _ ts = phase_first ts

abbrev pub phase_of : Core → (actor : ℕ) → Phase
phase_of c i = phase_by (is_suspended (thing c.entries i)) (tasks_of i c.tasks)
