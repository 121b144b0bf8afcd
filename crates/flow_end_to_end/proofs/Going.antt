-- A world in memory from which events may go on.
use Rattle.std.proofs.Common.{ap}
use Rattle.flow_class.specs.View.{raw_of}
use Rattle.flow_class.specs.declared.class.RawClasses.{RawClasses}
use Rattle.flow_worldfile.specs.Worlds.{IsInRange, seen}
use Rattle.flow_worldfile.specs.declared.world.World0.{World0}
use Rattle.flow_meaning.specs.World.{at_start}
use Rattle.flow_invariants.specs.Unmarked.{AreWhole}
use Rattle.flow_invariants.proofs.Fitting.Runs.{run_exists}
use Rattle.flow_world.specs.Ending.{Seen}
use Rattle.flow_world.specs.Starting.{Starts}
use Rattle.flow_world_refinement.specs.Effects.Quiescence.{Quiescent}
use Rattle.flow_world_refinement.proofs.Effects.Settling.{settled_first}
use Rattle.flow_world_refinement.proofs.Order.Started.{start_shown}
use Rattle.flow_world_refinement.proofs.Views.Waiting.{start_waits}
use Rattle.flow_end_to_end.specs.Exact.{HaveFewPlaces}
use Rattle.flow_end_to_end.specs.Rests.{GoesOn}
use Rattle.flow_end_to_end.proofs.Shown.{code_first}
use Rattle.flow_end_to_end.proofs.Upheld.{upheld_starts}

-- such is one that starts
pub starts_going : (c : RawClasses) (file : World0) → AreWhole (raw_of c) → HaveFewPlaces (raw_of c) → IsInRange (seen file) → (first : Seen) → Starts c file first
    → GoesOn (raw_of c) first (at_start (seen file))
starts_going c file fine few range first starts =
    let r = raw_of c in
    let trace = (run_exists r fine.valid (seen file) range).is.1 in
    record {
      code = code_first c file fine few first starts;
      text = ap raw_of starts.code.program;
      shows = start_shown (Quiescent r) c file first (settled_first r) starts;
      keeps = upheld_starts r (seen file) range;
      waits = start_waits (seen file);
      states = trace.later;
      lines = trace.rest;
      runs = trace.runs;
    }
