use Rattle.flow_sweep.proofs.One.{run_made, run_unmade, run_untold}
use Rattle.flow_sweep.proofs.sweep.Log.run.Goals as goal

pub returns-in-Ok-tell-clause-made : goal.returns-in-Ok-tell-clause-made
returns-in-Ok-tell-clause-made g c =
    run_made _ _ c.args.self.now.first _ c.args.timed _ _ _ _ c.in-Ok.made.0 c.in-Ok.made.1.items _ c.in-Ok.ensures.tries c.in-Ok-tell.ensures.went
    c.in-Ok-tell.ensures.counted c.in-Ok-tell.ensures.whole

pub returns-clause-fails : goal.returns-clause-fails
returns-clause-fails g c =
    run_untold _ _ c.args.self.now.first _ c.args.timed _ _ c.in-Ok.made.0 c.in-Ok.made.1.items c.in-Ok.ensures.tries c.in-Err-tell.ensures.part

pub returns-in-Err-clause-fails : goal.returns-in-Err-clause-fails
returns-in-Err-clause-fails g c = run_unmade _ _ c.args.self.now.first _ _
