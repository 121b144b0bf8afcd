use Rattle.flow_end_to_end.proofs.Events.{event_in_part}
use Rattle.flow_world.specs.Watching.{hears}
use Rattle.flow_end_to_end.proofs.happening.failed_events_put_first_parts.Goals as goal

pub returns : goal.returns
returns g c = event_in_part (hears g.L.LineOut.puts)
