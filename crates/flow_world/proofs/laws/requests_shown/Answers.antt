use Rattle.flow_world.proofs.Requests.{word_drawn, timer_asked, packet_is_sent, disk_is_asked}
use Rattle.flow_world.proofs.laws.requests_shown.Goals as goal

pub returns-clause-drawn : goal.returns-clause-drawn
returns-clause-drawn c = word_drawn

pub returns-clause-timer : goal.returns-clause-timer
returns-clause-timer c = timer_asked

pub returns-clause-packet : goal.returns-clause-packet
returns-clause-packet c = packet_is_sent

pub returns-clause-disk : goal.returns-clause-disk
returns-clause-disk c = disk_is_asked
