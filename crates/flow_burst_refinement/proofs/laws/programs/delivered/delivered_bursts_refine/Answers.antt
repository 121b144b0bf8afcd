use Rattle.flow_burst_refinement.proofs.Programs.Following.{event_follows, event_rests}
use Rattle.flow_burst_refinement.proofs.laws.programs.delivered.delivered_bursts_refine.Goals as goal

pub returns-clause-follows : goal.returns-clause-follows
returns-clause-follows g c = event_follows g.H.Host.serves g.H.Host.shows g.H.Host.wrote

pub returns-clause-rests : goal.returns-clause-rests
returns-clause-rests g c = event_rests g.H.Host.serves g.H.Host.shows g.H.Host.wrote
