use Rattle.std.proofs.Common.{ap}
use Rattle.flow_world.specs.Changes.{Surroundings}
use Rattle.flow_world.specs.Worlds.{world_seen}
use Rattle.flow_trials.specs.Trying.{heard_by}
use Rattle.flow_trials.proofs.Trying.{heard_run}
use Rattle.flow_trials.proofs.hearing.hear_run.Goals as goal

pub returns-in-Ok-clause-heard : goal.returns-in-Ok-clause-heard
returns-in-Ok-clause-heard g c = λ program file ready range starts.
    let first = world_seen c.args.world.now in
    let t = c.in-Ok.ensures.traces first.code.program file starts in
    heard_run heard_by program file first c.args.hears.now c.put_lines.new.out (g.P.Audience.ears c.args.panel.now) t.1 t.2 t.0 c.in-Ok.ended ready range t.3 t.4

pub returns-in-Ok-clause-drew : goal.returns-in-Ok-clause-drew
returns-in-Ok-clause-drew g c = λ classes file starts.
    let t = c.in-Ok.ensures.traces classes file starts in
    record {
      before = c.args.hears.now;
      after = c.put_lines.new.out;
      others = t.1;
      stop = t.2;
      ending = t.0;
      trace = t.4;
      drawn = ap (λ (w : Surroundings). w.draws.used) t.5;
    }
