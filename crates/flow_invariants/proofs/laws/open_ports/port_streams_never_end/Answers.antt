use Rattle.flow_invariants.proofs.OpenPorts.Worlds.{steps_open, start_open, valid_open}
use Rattle.flow_invariants.proofs.laws.open_ports.port_streams_never_end.Goals as goal

pub returns-clause-steps : goal.returns-clause-steps
returns-clause-steps c = steps_open

pub returns-clause-start : goal.returns-clause-start
returns-clause-start c = start_open

pub returns-clause-events : goal.returns-clause-events
returns-clause-events c = valid_open
