use Rattle.std.proofs.Common.{◌≡◌, ◌≤◌}
use Rattle.flow_machine.proofs.Rows.{Before, BeforeBreak}
use Rattle.flow_machine.proofs.bursts.burst.Given as goal

abbrev pub invariant-loop-step : goal.invariant-loop-step
invariant-loop-step g l = record {
  kept : g.H.Host.faults l.initial.host ≤ g.H.Host.faults l.host;
  so_far : Before g.H.Host.serves g.H.Host.shows g.H.Host.wrote l.code l.processes l.initial.process l.initial.host l.process l.host;
  breaks : BeforeBreak g.H.Host.serves g.H.Host.shows g.H.Host.wrote g.H.Host.broke l.code l.processes l.initial.process l.initial.host l.process l.host;
  same : g.H.Host.kept l.host ≡ g.H.Host.kept l.initial.host;
}
