-- Monitors that hear as one.
use Rattle.std.specs.Prelude.{Bool, true, false, [], ◌∷◌}
use Rattle.std.specs.declared.option.Option.{Option}
use Rattle.std.specs.declared.option.Option.TheVariants.{None, Some}
use Rattle.flow_trace.specs.declared.line.Line.{Line}
use Rattle.flow_monitor.specs.declared.monitor.Heard.{Heard}
use Rattle.flow_monitor.specs.declared.monitor.Heard.TheVariants.{Go, Done, Stop}
use Rattle.flow_monitor.specs.Ears.{Ear, ear_hears}

-- who hears no more has no ear
abbrev pub still : (hears : Bool) → Ear → Option Ear
still true ear = Some ear
still false ear = None

-- and says that he has heard enough
abbrev pub says : Line → Option Ear → Heard
says line None = Done
says line (Some ear) = ear [] line

-- what two say together: that the run is to stop, where one does; and that they have heard enough, where both have
abbrev pub both_say : Heard → Heard → Heard
both_say Stop said = Stop
both_say Go Stop = Stop
both_say Go Go = Go
both_say Go Done = Go
both_say Done said = said

-- what two say at a line that comes after some others
abbrev pub both_ears : Option Ear → Option Ear → Ear
both_ears a b [] line = both_say (says line a) (says line b)
both_ears a b (first ∷ rest) line = both_ears (ear_hears first a) (ear_hears first b) rest line
