use Rattle.std.proofs.Common.{◌∙◌, sym}
use Rattle.flow_worldfile.specs.Worlds.{seen}
use Rattle.flow_sweep.proofs.Going.{goes_none}
use Rattle.flow_sweep.proofs.Making.{losses_none, losses_one, lossy_runs, no_runs}
use Rattle.flow_sweep.proofs.sweep.Log.run_loss.Goals as goal

pub returns-then-is_borne-clause-goes : goal.returns-then-is_borne-clause-goes
returns-then-is_borne-clause-goes g c =
    lossy_runs _ _ _ c.args.down c.args.seed (seen c.args.own.now) _ _ _ _ _ _ _
    (sym (losses_one c.args.down c.args.loss (sym c.is_borne.ensures ∙ c.if-is_borne.true))) c.run_borne.ensures.goes

pub returns-clause-goes : goal.returns-clause-goes
returns-clause-goes g c =
    lossy_runs _ _ _ c.args.down c.args.seed (seen c.args.own.now) _ _ _ _ _ _ _
    (sym (losses_none c.args.down c.args.loss.process.0 c.args.loss.time (sym c.is_borne.ensures ∙ c.if-is_borne.false)))
    (goes_none _ _ _ _ _ (no_runs _ _))
