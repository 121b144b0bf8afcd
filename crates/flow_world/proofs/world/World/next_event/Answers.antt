use Rattle.std.proofs.Common.{rules, ◌≡◌, refl, subst}
use Rattle.std.specs.Prelude.{Err}
use Rattle.flow_machine.specs.declared.host.Burst.TheVariants.{Rested, Spent}
use Rattle.flow_world.specs.Happening.{Comes, begins, ends}
use Rattle.flow_world.specs.FaultedLines.{tells, whole}
use Rattle.flow_world.specs.Worlds.{world_seen}
use Rattle.flow_world.proofs.Happenings.{ended_again}
use Rattle.flow_world.proofs.Putting.{err_is}
use Rattle.flow_world.proofs.world.World.next_event.Goals as goal

pub returns-in_err-carries_out-clause-breaks : goal.returns-in_err-carries_out-clause-breaks
returns-in_err-carries_out-clause-breaks g c = λ failed.
    let left = world_seen c.carries_out.new.self in
    let told = c.carries_out.ensures.breaks (search rules) in
    record {
      burst = told.0;
      left = ends told.0 left;
      happens = record {
        time = c.in-Some.time;
        scripted = c.in-Some.scripted;
        left = left;
        comes = search rules;
        bound = search rules;
        does = told.1;
        after = refl;
      };
      ended = ended_again told.0 left c.carries_out.ensures.ended;
    }

pub returns-in-Spent-clause-does : goal.returns-in-Spent-clause-does
returns-in-Spent-clause-does g c =
    let is : c.in_ok-carries_out.field-0 ≡ Spent = search rules in
    record {
      time = c.in-Some.time;
      scripted = c.in-Some.scripted;
      left = world_seen c.carries_out.new.self;
      comes = search rules;
      bound = search rules;
      does = subst (λ e. Comes (tells g.L.LineOut.puts) c.in-Some.scripted (begins c.in-Some.time (world_seen c.args.self.now)) (whole c.args.out.now) e (world_seen c.carries_out.new.self)
          (whole c.carries_out.new.out)) is c.in_ok-carries_out.ensures.comes;
      after = refl;
    }

pub returns-in-Rested-clause-does : goal.returns-in-Rested-clause-does
returns-in-Rested-clause-does g c =
    let is : c.in_ok-carries_out.field-0 ≡ Rested = search rules in
    record {
      time = c.in-Some.time;
      scripted = c.in-Some.scripted;
      left = world_seen c.carries_out.new.self;
      comes = search rules;
      bound = search rules;
      does = subst (λ e. Comes (tells g.L.LineOut.puts) c.in-Some.scripted (begins c.in-Some.time (world_seen c.args.self.now)) (whole c.args.out.now) e (world_seen c.carries_out.new.self)
          (whole c.carries_out.new.out)) is c.in_ok-carries_out.ensures.comes;
      after = refl;
    }

pub returns-in_err-carries_out-clause-fails : goal.returns-in_err-carries_out-clause-fails
returns-in_err-carries_out-clause-fails g c =
    let fails = c.in_err-carries_out.ensures.fails in
    let is : c.from_residual.result ≡ Err c.in_err-carries_out.field-0.0 = search rules in
    err_is _ _ _ is (fails.0, fails.1, record { time = c.in-Some.time; scripted = c.in-Some.scripted; comes = search rules; bound = search rules; fails = fails.2 })
