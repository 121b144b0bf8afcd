use Rattle.flow_worldfile.specs.Worlds.{seen}
use Rattle.flow_sweep.proofs.One.{run_unmade, made_goes, fails_goes, retold}
use Rattle.flow_sweep.proofs.Making.{lossy_world}
use Rattle.flow_sweep.proofs.sweep.Log.run_borne.Goals as goal

pub returns-in_default-clause-goes : goal.returns-in_default-clause-goes
returns-in_default-clause-goes g c = fails_goes _ _ c.args.self.now.first _ _ _ _ _ _ (run_unmade _ _ c.args.self.now.first _ _)

pub returns-in-Ok-run-clause-goes : goal.returns-in-Ok-run-clause-goes
returns-in-Ok-run-clause-goes g c =
    retold _ _ c.args.self.now.first _ _ _ _ _ _ _ (lossy_world c.args.down c.args.seed (seen c.args.own.now) (seen c.in-Ok.world) c.args.loss c.in-Ok.ensures.world)
    (made_goes _ _ c.args.self.now.first _ _ _ _ _ _ _ _ c.in-Ok-run.ensures.made)

pub returns-clause-goes : goal.returns-clause-goes
returns-clause-goes g c =
    retold _ _ c.args.self.now.first _ _ _ _ _ _ _ (lossy_world c.args.down c.args.seed (seen c.args.own.now) (seen c.in-Ok.world) c.args.loss c.in-Ok.ensures.world)
    (fails_goes _ _ c.args.self.now.first _ _ _ _ _ _ c.in-Err.ensures.fails)
