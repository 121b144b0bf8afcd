use Rattle.std.proofs.Common.{refl, arith, ◌∙◌, ◌+◌, [], ◌∷◌, get_or, Ok, Err}
use Rattle.flow_base.proofs.Growing.{grows_same, grows_trans}
use Rattle.flow_worldfile.specs.Worlds.{seen}
use Rattle.flow_family.specs.Families.{losses_at}
use Rattle.flow_sweep.specs.Sweeps.{GoesThrough, loss_trials_of}
use Rattle.flow_sweep.proofs.Going.{goes_none}
use Rattle.flow_sweep.proofs.Making.{no_runs, losses_next, losses_all}
use Rattle.flow_sweep.proofs.Loops.{moved, moved_on, losses_then, found_of_more, failed_of_more}
use Rattle.flow_sweep.proofs.sweep.Log.run_losses_of.Goals as goal

pub loop-time-init : goal.loop-time-init
loop-time-init g c = record {
  goes = goes_none _ _ _ _ _ (no_runs _ _);
  first = refl;
  ready = c.requires.ready;
  kept = refl;
  handed = grows_same _;
  faults = omega arith;
}

pub loop-time-preserved : goal.loop-time-preserved
loop-time-preserved g c =
    let was = c.loop-time.invariant in
    let one = losses_at c.args.down c.args.process.0 (get_or c.args.times.now c.loop-time.time-index 0 ∷ []) in
    let step = moved_on g.T.Trials.means g.T.Trials.hearing _ _ _ _ _ _
    (λ m e f w. GoesThrough m e (loss_trials_of c.args.down c.args.seed (seen c.args.own.now) one) f c.loop-time.self.tally c.run_loss.new.self.tally
    (g.S.Sink.seen c.loop-time.out).written (g.S.Sink.seen c.run_loss.new.out).written (Ok w)) was.kept was.first c.in-Ok-On.field-0-is c.in-Ok-On.ensures.goes in
    record {
      goes = losses_then _ _ _ c.args.down c.args.seed (seen c.args.own.now) _ _ _ _ _ _ _ _ _ _
          (losses_next c.args.down c.args.process.0 c.args.times.now c.loop-time.time-index c.loop-time-test.true) was.goes step;
      first = c.in-Ok-On.ensures.first ∙ was.first;
      ready = c.in-Ok-On.ensures.ready;
      kept = c.in-Ok-On.ensures.kept ∙ was.kept;
      handed = grows_trans _ _ _ was.handed c.in-Ok-On.ensures.handed;
      faults = omega (arith, was.faults, c.in-Ok-On.ensures.cause.kept);
    }

pub returns-in-Ok-Found-clause-goes : goal.returns-in-Ok-Found-clause-goes
returns-in-Ok-Found-clause-goes g c =
    let was = c.loop-time.invariant in
    let one = losses_at c.args.down c.args.process.0 (get_or c.args.times.now c.loop-time.time-index 0 ∷ []) in
    let step = moved_on g.T.Trials.means g.T.Trials.hearing _ _ _ _ _ _
    (λ m e f w. GoesThrough m e (loss_trials_of c.args.down c.args.seed (seen c.args.own.now) one) f c.loop-time.self.tally c.run_loss.new.self.tally
    (g.S.Sink.seen c.loop-time.out).written (g.S.Sink.seen c.run_loss.new.out).written (Ok w)) was.kept was.first c.in-Ok-Found.field-0-is c.in-Ok-Found.ensures.goes in
    found_of_more _ _ _ c.args.down c.args.seed (seen c.args.own.now) _ _ _ _ _ _ _
    (losses_all c.args.down c.args.process.0 c.args.times.now (c.loop-time.time-index + 1))
    (losses_then _ _ _ c.args.down c.args.seed (seen c.args.own.now) _ _ _ _ _ _ _ _ _ _
    (losses_next c.args.down c.args.process.0 c.args.times.now c.loop-time.time-index c.loop-time-test.true) was.goes step)

pub returns-in-Err-clause-goes : goal.returns-in-Err-clause-goes
returns-in-Err-clause-goes g c =
    let was = c.loop-time.invariant in
    let one = losses_at c.args.down c.args.process.0 (get_or c.args.times.now c.loop-time.time-index 0 ∷ []) in
    let step = moved g.T.Trials.means g.T.Trials.hearing _ _ _ _
    (λ m e f. GoesThrough m e (loss_trials_of c.args.down c.args.seed (seen c.args.own.now) one) f c.loop-time.self.tally c.run_loss.new.self.tally
    (g.S.Sink.seen c.loop-time.out).written (g.S.Sink.seen c.run_loss.new.out).written (Err c.in-Err.fault)) was.kept was.first c.in-Err.ensures.goes in
    failed_of_more _ _ _ c.args.down c.args.seed (seen c.args.own.now) _ _ _ _ _ _ _ _
    (losses_all c.args.down c.args.process.0 c.args.times.now (c.loop-time.time-index + 1))
    (losses_then _ _ _ c.args.down c.args.seed (seen c.args.own.now) _ _ _ _ _ _ _ _ _ _
    (losses_next c.args.down c.args.process.0 c.args.times.now c.loop-time.time-index c.loop-time-test.true) was.goes step)
