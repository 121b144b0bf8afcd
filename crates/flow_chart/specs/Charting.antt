-- A picture has room for so many events; of more there is none.
use Rattle.std.specs.Prelude.{◌≡◌, nat_lt, List, fold, Result, Ok, Err, if◌then◌else◌}
use Rattle.std.specs.declared.option.Option.{Option}
use Rattle.std.specs.declared.option.Option.TheVariants.{None, Some}
use Rattle.flow_base.specs.declared.fault.OutFault.{OutFault}
use Rattle.flow_base.specs.declared.fault.OutFault.TheVariants.{Failed, OutOfMemory}
use Rattle.flow_trace.specs.declared.line.Line.{Line}
use Rattle.flow_chart.specs.declared.chart_out.TheConstants.{MOST_EVENTS}
use Rattle.flow_chart.specs.Drawing.{Drawing, drawn, empty_drawing}

-- a drawing of at most so many events
abbrev pub within_room : Drawing → Option Drawing
within_room d = if nat_lt MOST_EVENTS d.events then None else Some d

abbrev pub charted : Line → Option Drawing → Option Drawing
charted l None = None
charted l (Some d) = within_room (drawn l d)

abbrev pub chart_of : List Line → Option Drawing
chart_of ls = fold (λ c l. charted l c) (Some empty_drawing) ls

-- the line is drawn; where there was no memory nothing is said
abbrev pub Charts : Option Drawing → Line → Result (Unit {0}) OutFault → Option Drawing → Type 0
Charts before l (Ok done) after = after ≡ charted l before
Charts before l (Err Failed) after = ⊥
Charts before l (Err OutOfMemory) after = Unit {0}
