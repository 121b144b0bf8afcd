-- Each world has a run, unless one comes to what has no meaning: a run goes on for no more events than its world allows.
use Rattle.std.specs.Prelude.{◌≡◌, ◌⊎◌, List}
use Rattle.std.specs.List.{AllByRecursion}
use Rattle.std.specs.declared.option.Option.TheVariants.{None, Some}
use Rattle.flow_trace.specs.declared.line.Line.{Line}
use Rattle.flow_worldfile.specs.Worlds as file
use Rattle.flow_class.specs.Classes.{RawTree}
use Rattle.flow_meaning.specs.Process.{NoMeaning}
use Rattle.flow_meaning.specs.Law.{AtRest}
use Rattle.flow_meaning.specs.Burst.{Live, Burst}
use Rattle.flow_meaning.specs.Outside.{Outside, host}
use Rattle.flow_meaning.specs.World.{Place, World, Begun, next_of, begun_by, ending, at_start}
use Rattle.flow_meaning.specs.Runs.{before, after, ClassTrace}
use Rattle.flow_meaning.specs.Frame.{Frame}
use Rattle.flow_meaning.specs.Class.{classes}
use Rattle.flow_progress.specs.Phases.{Placed}
use Rattle.flow_progress.specs.FramesByRequest.{Going}
use Rattle.flow_progress.specs.Ending.{NoPlace, Reaches}

-- what has no meaning: the event was stopped for it, or goes on and an effect's result has no place
abbrev pub IsStuck : RawTree → Live Outside Frame → Type 0
IsStuck r l =
    (l.proc.core.halted ≡ Some NoMeaning)
    ⊎ ((l.proc.core.halted ≡ None) × NoPlace r l.proc.core l.proc.actors)

-- a run that comes to it, in the next event or in a later one
pub data GetsStuck (r : RawTree) : World Frame → Type 0 where
  now : {w : World Frame} (b : Begun Frame) (l : Live Outside Frame) → ending w.out (next_of w.out) ≡ None
      → begun_by (classes r) w (next_of w.out) ≡ Some b → Reaches (classes r) host (before b) l → IsStuck r l → GetsStuck r w
  later : {w : World Frame} (b : Begun Frame) (l : Live Outside Frame) → ending w.out (next_of w.out) ≡ None
      → begun_by (classes r) w (next_of w.out) ≡ Some b → Burst (classes r) host (before b) l → l.proc.core.halted ≡ None
      → GetsStuck r (after w b l) → GetsStuck r w

-- a process between events: at rest, with frames known by what they asked for last
abbrev pub RestsInPlace : RawTree → Place Frame → Type 0
RestsInPlace r a = AtRest a.proc.core × Placed (Going r) a.proc.core a.proc.actors

abbrev pub WorldInPlace : RawTree → World Frame → Type 0
WorldInPlace r w = AllByRecursion (λ (a : Place Frame). RestsInPlace r a) w.places

-- In the world of each file the classes have a trace, and only one; or they come to what has no meaning.
abbrev pub RunsOrGetsStuck : RawTree → Type 0
RunsOrGetsStuck r = (w : file.World) → ((lines : List Line) × ClassTrace r w lines) ⊎ GetsStuck r (at_start w)

abbrev pub AtMostOneTrace : RawTree → Type 0
AtMostOneTrace r = (w : file.World) (lines more : List Line) → ClassTrace r w lines → ClassTrace r w more → lines ≡ more
