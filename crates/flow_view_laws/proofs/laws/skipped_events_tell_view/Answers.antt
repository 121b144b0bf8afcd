use Rattle.flow_view_laws.proofs.Skipped.{skips_view}
use Rattle.flow_view_laws.proofs.laws.skipped_events_tell_view.Goals as goal

pub returns : goal.returns
returns c = skips_view
