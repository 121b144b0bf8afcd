-- Each event of a world in memory that runs valid classes is the next event of the definitions.
use Rattle.std.specs.Prelude.{Result}
use Rattle.flow_base.specs.declared.fault.OutFault.{OutFault}
use Rattle.flow_trace.specs.declared.line.Line.{Line}
use Rattle.flow_class.specs.Classes.{RawTree}
use Rattle.flow_burst_refinement.specs.Enabled.Tasking.{IsProgram}
use Rattle.flow_world_refinement.specs.Invariants.{WorldInvariant}
use Rattle.flow_world_refinement.specs.Effects.Quiescence.{Quiescent}
use Rattle.flow_world_refinement.specs.Traces.Traced.{EventsFollow, SpentFollows}

module _ {A : Type 0} (puts : A → Line → Result (Unit {0}) OutFault → A → Type 0) (r : RawTree) where
  -- one that runs, and one that is spent
  abbrev pub Happening : Type 0
  Happening = EventsFollow (Quiescent r) (WorldInvariant r) (IsProgram r) puts r

  abbrev pub SpentHappening : Type 0
  SpentHappening = SpentFollows (Quiescent r) (WorldInvariant r) (IsProgram r) puts r
