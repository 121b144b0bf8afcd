use Rattle.flow_step_refinement.proofs.Services.{line_written, port_unheard}
use Rattle.flow_step_refinement.proofs.laws.services.written_lines_refine.Goals as goal

pub returns-clause-line : goal.returns-clause-line
returns-clause-line g c = line_written g.H.Host.serves g.H.Host.shows g.H.Host.wrote

pub returns-clause-port : goal.returns-clause-port
returns-clause-port g c = port_unheard g.H.Host.serves g.H.Host.shows g.H.Host.wrote
