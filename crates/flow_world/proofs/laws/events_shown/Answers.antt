use Rattle.flow_world.proofs.Events.{link_cut, link_healed, disk_served, event_is_taken, requests_are_gone}
use Rattle.flow_world.proofs.laws.events_shown.Goals as goal

pub returns-clause-cut : goal.returns-clause-cut
returns-clause-cut c = link_cut

pub returns-clause-healed : goal.returns-clause-healed
returns-clause-healed c = link_healed

pub returns-clause-served : goal.returns-clause-served
returns-clause-served c = disk_served

pub returns-clause-taken : goal.returns-clause-taken
returns-clause-taken c = event_is_taken

pub returns-clause-gone : goal.returns-clause-gone
returns-clause-gone c = requests_are_gone
