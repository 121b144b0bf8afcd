use Rattle.flow_step_refinement.proofs.Services.{number_drawn, timer_set, disk_asked, port_heard, text_sent}
use Rattle.flow_step_refinement.proofs.laws.services.services_refine.Goals as goal

pub returns-clause-number : goal.returns-clause-number
returns-clause-number g c = number_drawn g.H.Host.serves g.H.Host.shows g.H.Host.wrote

pub returns-clause-timer : goal.returns-clause-timer
returns-clause-timer g c = timer_set g.H.Host.serves g.H.Host.shows g.H.Host.wrote

pub returns-clause-disk : goal.returns-clause-disk
returns-clause-disk g c = disk_asked g.H.Host.serves g.H.Host.shows g.H.Host.wrote

pub returns-clause-port : goal.returns-clause-port
returns-clause-port g c = port_heard g.H.Host.serves g.H.Host.shows g.H.Host.wrote

pub returns-clause-text : goal.returns-clause-text
returns-clause-text g c = text_sent g.H.Host.serves g.H.Host.shows g.H.Host.wrote
