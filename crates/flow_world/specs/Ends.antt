-- How a run ends.
use Rattle.std.specs.Prelude.{◌≡◌, List, [], ◌∷◌, ◌++◌, Result, Ok}
use Rattle.flow_base.specs.declared.fault.OutFault.{OutFault}
use Rattle.flow_trace.specs.declared.line.Line.{Line}
use Rattle.flow_trace.specs.declared.line.Line.TheVariants as line
use Rattle.flow_world.specs.declared.ending.Ending.{Ending}
use Rattle.flow_world.specs.declared.ending.Ending.TheVariants.{Idle, Bound, Spent}

-- the last line of a trace
abbrev pub end_line : Ending → Line
end_line Idle = line.EndIdle
end_line Bound = line.EndBound
end_line Spent = line.EndSpent

-- the line was put last, and that succeeded
abbrev pub PutLast : {A : Type 0} → (A → Line → Result (Unit {0}) OutFault → A → Type 0) → Line → A → Type 0
PutLast {A} puts line after = (before : A) × puts before line (Ok tt) after

-- the lines end with this one
abbrev pub LastIs : Line → List Line → Type 0
LastIs last lines = (front : List Line) × (lines ≡ front ++ last ∷ [])
