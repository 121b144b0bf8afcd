use Rattle.flow_world.specs.FaultedLines.{tells}
use Rattle.flow_world.specs.Skipping.{unkept}
use Rattle.flow_view_laws.proofs.Law.{programs_viewed}
use Rattle.flow_view_laws.proofs.laws.skipped_events_show_source.Goals as goal

pub returns : goal.returns
returns c = programs_viewed (tells unkept)
