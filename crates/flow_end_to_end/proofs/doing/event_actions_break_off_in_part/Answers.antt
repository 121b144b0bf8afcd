use Rattle.flow_end_to_end.proofs.Deeds.{deed_fails}
use Rattle.flow_end_to_end.proofs.doing.event_actions_break_off_in_part.Goals as goal

pub returns : goal.returns
returns g c = deed_fails g.L.LineOut.puts
