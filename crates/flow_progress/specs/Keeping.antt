-- What an actor does keeps a process fitting.
use Rattle.std.specs.Prelude.{◌≡◌, ℕ, List, [], ◌∷◌}
use Rattle.std.specs.declared.option.Option.{Option}
use Rattle.std.specs.declared.option.Option.TheVariants.{None, Some}
use Rattle.flow_tree.specs.Tree.{TypeTree, VoidType, FutureType}
use Rattle.flow_class.specs.Classes.{RawTree}
use Rattle.flow_numbered.specs.Numbered.{Numbered}
use Rattle.flow_meaning.specs.Requests.{Request, Timer, Disks, Supply}
use Rattle.flow_meaning.specs.Process.{Task, Close, Fire, Drop, Halt, Spent, NoMeaning, Core, Proc}
use Rattle.flow_meaning.specs.Orderly.{Orderly}
use Rattle.flow_meaning.specs.Step.{Stepped, step}
use Rattle.flow_meaning.specs.Frame.{Frame}
use Rattle.flow_meaning.specs.Class.{classes}
use Rattle.flow_progress.specs.Ending.{NoPlace}
use Rattle.flow_progress.specs.Asking.{reply_type}
use Rattle.flow_progress.specs.Fitting.{CellTypes, ProcessFits}

-- a process fits for some types of its cells
abbrev pub FitsSome : RawTree → Core → Numbered Frame → Type 0
FitsSome r c xs = (types : CellTypes) × ProcessFits r types c xs

-- these cells have the types that they had
abbrev pub StillTyped : (before after : CellTypes) → List ℕ → Type 0
StillTyped before after [] = Unit {0}
StillTyped before after (k ∷ ks) =
    ((t : TypeTree) → before k ≡ Some t → after k ≡ Some t) × StillTyped before after ks

-- a cell that the world is to set is of what the world answers
abbrev pub AskFits : CellTypes → Option Request → Type 0
AskFits types (Some (Timer cell time)) = types cell ≡ Some (FutureType VoidType)
AskFits types (Some (Disks cell call)) = types cell ≡ Some (FutureType (reply_type call))
AskFits types q = Unit {0}

-- a process fits for types that cells of open requests had before, and what it asks of the world fits
abbrev pub FitsStill :
    RawTree → (before : CellTypes) → Option Request → Core → Numbered Frame → Type 0
FitsStill r before q c xs =
    (types : CellTypes) × ProcessFits r types c xs × StillTyped before types c.requests
    × AskFits types q

-- so it is, or the event was stopped for want of turns; but never for want of meaning
abbrev pub FineAsking :
    RawTree → (before : CellTypes) → Option Request → Option Halt → Core → Numbered Frame → Type 0
FineAsking r before q None c xs = FitsStill r before q c xs
FineAsking r before q (Some Spent) c xs = Unit {0}
FineAsking r before q (Some NoMeaning) c xs = ⊥

abbrev pub Fine : RawTree → (before : CellTypes) → Option Halt → Core → Numbered Frame → Type 0
Fine r before h c xs = FineAsking r before None h c xs

abbrev pub IsFine : RawTree → (before : CellTypes) → Option (Stepped Frame) → Type 0
IsFine r before None = Unit {0}
IsFine r before (Some q) = FineAsking r before q.1 q.0.core.halted q.0.core q.0.actors

-- what is first to be done is for an actor to do, which doesn't end by it
abbrev pub IsOfActor : List Task → Type 0
IsOfActor [] = ⊥
IsOfActor (Close i o ∷ ts) = ⊥
IsOfActor (Fire k ∷ ts) = ⊥
IsOfActor (Drop kind k ∷ ts) = ⊥
IsOfActor (t ∷ ts) = Unit {0}

-- The next step of an actor, the result of an effect that it stores, an operand that it keeps, a branch that it takes, an error
-- that is thrown where it stands, and its handler: each keeps a process fitting, and has a meaning.
abbrev pub ActorsKeepFitting : RawTree → Type 0
ActorsKeepFitting r =
    (s : Supply) (types : CellTypes) (p : Proc Frame) → Orderly p.core → p.core.halted ≡ None
    → ProcessFits r types p.core p.actors → IsOfActor p.core.tasks
    → IsFine r types (step (classes r) s p)

-- the result of an effect has a place
abbrev pub ResultsPlaced : RawTree → Type 0
ResultsPlaced r = (c : Core) (xs : Numbered Frame) → Orderly c → FitsSome r c xs → NoPlace r c xs → ⊥
