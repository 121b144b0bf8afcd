-- Frames of a class program by what they asked for last: each runs one of its classes or is over, and what is handed to
-- one comes where it was asked for.
use Rattle.std.specs.Prelude.{◌≡◌, ◌⊎◌, ℕ, slice_get}
use Rattle.std.specs.declared.option.Option.TheVariants.{Some}
use Rattle.flow_class.specs.Classes.{EffectInstr, NewInstr, ChooseLast, ClassTree, RawTree}
use Rattle.flow_class.specs.Code.{Fetched, Body, Last, fetch}
use Rattle.flow_meaning.specs.Orderly.{Phase, Free, Risky, Due, Waiting}
use Rattle.flow_meaning.specs.Frame.{Frame, no_class}

-- a class of the program, or that of a frame that is over
abbrev pub IsOf : RawTree → ClassTree → Type 0
IsOf r c = (c ≡ no_class) ⊎ ((k : ℕ) × (slice_get r.classes k ≡ Some c))

-- an instruction that asks for an effect, or the operands of a wait
abbrev pub AsksHere : Fetched → Type 0
AsksHere (Body (EffectInstr path e)) = Unit {0}
AsksHere (Body (NewInstr p)) = Unit {0}
AsksHere (Last (ChooseLast g)) = Unit {0}
AsksHere _ = ⊥

abbrev pub WaitsHere : Fetched → Type 0
WaitsHere (Last (ChooseLast g)) = Unit {0}
WaitsHere _ = ⊥

abbrev pub Going : RawTree → Phase → Frame → Type 0
Going r Free f = IsOf r f.code
Going r Risky f = IsOf r f.code
Going r Due f = IsOf r f.code × AsksHere (fetch f.code f.block f.instr)
Going r Waiting f = IsOf r f.code × WaitsHere (fetch f.code f.block f.instr)
