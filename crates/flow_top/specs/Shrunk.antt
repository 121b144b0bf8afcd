-- What making a world smaller comes to.
use Rattle.std.specs.Prelude.{ℕ, List, [], ◌∷◌, ◌++◌, codes, false}
use Rattle.flow_trace.specs.declared.line.Line.{Line}
use Rattle.flow_trace.specs.declared.line.Line.TheVariants.{EndStop}
use Rattle.flow_worldfile.specs.Worlds.{World, seen, world_text}
use Rattle.flow_monitor.specs.Ears.{Ears, name_at}
use Rattle.flow_monitor.specs.Cut.{Cut}
use Rattle.flow_world.specs.Ends.{LastIs}
use Rattle.flow_shrink.specs.declared.shrinking.Shrunk.{Shrunk}
use Rattle.flow_shrink.specs.declared.shrinking.Shrunk.TheVariants.{Least, NotStopped}
use Rattle.flow_class.specs.declared.class.RawClasses.{RawClasses}
use Rattle.flow_top.specs.declared.outcome.Meant.{Meant}
use Rattle.flow_top.specs.declared.outcome.ProgramRun.{ProgramRun}
use Rattle.flow_top.specs.Outcomes.{ShownIn}

-- a trace, cut by a panel, ends with the `end stop` of its first monitor
abbrev pub IsCut : Ears → List Line → Type 0
IsCut ears lines = LastIs (EndStop (name_at ears 0)) (Cut ears lines)

-- so does that of a run, in a world
abbrev pub IsStoppedBy : Meant → RawClasses → Ears → World → Type 0
IsStoppedBy meant classes ears w = (lines : List Line) × ShownIn meant false classes w lines × IsCut ears lines

abbrev pub IsStopped : ProgramRun → Ears → World → Type 0
IsStopped r = IsStoppedBy r.meant r.classes

-- what is written of what making a world smaller comes to, and the status of that
abbrev pub shrunk_text : Shrunk → List ℕ
shrunk_text (Least w) = world_text (seen w)
shrunk_text NotStopped = codes "not stopped" ++ 10 ∷ []

abbrev pub shrunk_status : Shrunk → ℕ
shrunk_status (Least w) = 0
shrunk_status NotStopped = 13
