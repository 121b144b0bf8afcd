use Rattle.flow_chart.proofs.Room.{has_room}
use Rattle.flow_chart.proofs.laws.room_for_events.Goals as goal

pub returns : goal.returns
returns c = has_room
