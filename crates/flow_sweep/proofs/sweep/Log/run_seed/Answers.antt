use Rattle.std.proofs.Common.{ap, ◌∙◌}
use Rattle.std.specs.Prelude.{is_some}
use Rattle.flow_base.proofs.Growing.{grows_trans}
use Rattle.flow_worldfile.specs.Worlds.{seen}
use Rattle.flow_family.specs.Families.{losses_of}
use Rattle.flow_sweep.specs.Sweeps.{GoesThrough, loss_trials_of}
use Rattle.flow_sweep.proofs.Loops.{moved}
use Rattle.flow_sweep.proofs.Seeds.{seed_unrun, seed_fails, seed_found, seed_alone, seed_lossy}
use Rattle.flow_sweep.proofs.sweep.Log.run_seed.Goals as goal

pub returns-in_default-clause-goes : goal.returns-in_default-clause-goes
returns-in_default-clause-goes g c = seed_unrun _ _ c.args.self.now.first c.args.family.now (seen c.args.world.now) c.args.seed _ _ _

pub returns-in-Err-clause-goes : goal.returns-in-Err-clause-goes
returns-in-Err-clause-goes g c =
    seed_fails _ _ c.args.self.now.first c.args.family.now (seen c.args.world.now) c.args.seed (seen c.in-Ok.own) _ _ _ _ _ c.in-Ok.ensures.world
    c.in-Err.ensures.fails

pub returns-in-Found-clause-goes : goal.returns-in-Found-clause-goes
returns-in-Found-clause-goes g c =
    seed_found _ _ c.args.self.now.first c.args.family.now (seen c.args.world.now) c.args.seed (seen c.in-Ok.own) _ _ _ _ _ _ _ c.in-Ok.ensures.world
    c.in-Found.is c.in-Ok-run.ensures.made

pub returns-in-None-clause-goes : goal.returns-in-None-clause-goes
returns-in-None-clause-goes g c =
    seed_alone _ _ c.args.self.now.first c.args.family.now (seen c.args.world.now) c.args.seed (seen c.in-Ok.own) _ _ _ _ _ _ _ c.in-Ok.ensures.world
    c.in-None.is c.in-On.is c.in-Ok-run.ensures.made

pub returns-clause-goes : goal.returns-clause-goes
returns-clause-goes g c =
    let own = seen c.in-Ok.own in
    let step = moved g.T.Trials.means g.T.Trials.hearing _ _ _ _
    (λ m e f. GoesThrough m e (loss_trials_of c.in-Some.down c.args.seed own (losses_of c.in-Some.down c.deref.result.now own.processes)) f
    c.run.new.self.tally c.run_losses.new.self.tally (g.S.Sink.seen c.run.new.out).written (g.S.Sink.seen c.run_losses.new.out).written
    c.run_losses.result) c.in-Ok-run.ensures.kept c.run.ensures.first c.run_losses.ensures.goes in
    seed_lossy _ _ c.args.self.now.first c.args.family.now (seen c.args.world.now) c.args.seed own _ c.in-Some.down _ _ _ _ _ _ _ _ _ _
    c.in-Ok.ensures.world c.in-Some.is (c.is_some.ensures ∙ ap is_some c.in-Some.is) c.in-On.is c.deref.ensures.value c.in-Ok-run.ensures.made step

pub returns-clause-handed : goal.returns-clause-handed
returns-clause-handed g c = grows_trans _ _ _ c.in-Ok-run.ensures.handed c.run_losses.ensures.handed
