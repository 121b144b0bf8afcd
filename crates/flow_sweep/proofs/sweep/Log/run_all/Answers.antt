use Rattle.std.proofs.Common.{refl, arith, ◌∙◌, ◌+◌, Ok, Err}
use Rattle.flow_base.proofs.Growing.{grows_same, grows_trans}
use Rattle.flow_worldfile.specs.Worlds.{seen}
use Rattle.flow_sweep.specs.Sweeps.{Goes, OfSeed, BeginsSeed, no_seed}
use Rattle.flow_sweep.proofs.Going.{goes_none}
use Rattle.flow_sweep.proofs.Loops.{moved, moved_on}
use Rattle.flow_sweep.proofs.Seeds.{seeds_then, seeds_found, seeds_failed}
use Rattle.flow_sweep.proofs.sweep.Log.run_all.Goals as goal

pub loop-further-init : goal.loop-further-init
loop-further-init g c = record {
  goes = goes_none _ _ _ _ _ no_seed;
  first = refl;
  ready = c.requires.ready;
  kept = refl;
  handed = grows_same _;
  faults = omega arith;
}

pub loop-further-preserved : goal.loop-further-preserved
loop-further-preserved g c =
    let was = c.loop-further.invariant in
    let f = c.args.family.now in
    let w = seen c.args.world.now in
    let n = c.loop-further.further in
    let step = moved_on g.T.Trials.means g.T.Trials.hearing _ _ _ _ _ _
    (λ m e b x. Goes (OfSeed m e f w (f.from + n)) (BeginsSeed m e f w (f.from + n)) b c.loop-further.self.tally c.run_seed.new.self.tally
    (g.S.Sink.seen c.loop-further.out).written (g.S.Sink.seen c.run_seed.new.out).written (Ok x)) was.kept was.first c.in-Ok-On.field-0-is
    c.in-Ok-On.ensures.goes in
    record {
      goes = seeds_then _ _ _ f w n _ _ _ _ _ _ _ was.goes step;
      first = c.in-Ok-On.ensures.first ∙ was.first;
      ready = c.in-Ok-On.ensures.ready;
      kept = c.in-Ok-On.ensures.kept ∙ was.kept;
      handed = grows_trans _ _ _ was.handed c.in-Ok-On.ensures.handed;
      faults = omega (arith, was.faults, c.in-Ok-On.ensures.cause.kept);
    }

pub returns-in-Ok-Found-clause-goes : goal.returns-in-Ok-Found-clause-goes
returns-in-Ok-Found-clause-goes g c =
    let was = c.loop-further.invariant in
    let f = c.args.family.now in
    let w = seen c.args.world.now in
    let n = c.loop-further.further in
    let step = moved_on g.T.Trials.means g.T.Trials.hearing _ _ _ _ _ _
    (λ m e b x. Goes (OfSeed m e f w (f.from + n)) (BeginsSeed m e f w (f.from + n)) b c.loop-further.self.tally c.run_seed.new.self.tally
    (g.S.Sink.seen c.loop-further.out).written (g.S.Sink.seen c.run_seed.new.out).written (Ok x)) was.kept was.first c.in-Ok-Found.field-0-is
    c.in-Ok-Found.ensures.goes in
    seeds_found _ _ _ f w (n + 1) _ _ _ _ (seeds_then _ _ _ f w n _ _ _ _ _ _ _ was.goes step)

pub returns-in-Err-clause-goes : goal.returns-in-Err-clause-goes
returns-in-Err-clause-goes g c =
    let was = c.loop-further.invariant in
    let f = c.args.family.now in
    let w = seen c.args.world.now in
    let n = c.loop-further.further in
    let step = moved g.T.Trials.means g.T.Trials.hearing _ _ _ _
    (λ m e b. Goes (OfSeed m e f w (f.from + n)) (BeginsSeed m e f w (f.from + n)) b c.loop-further.self.tally c.run_seed.new.self.tally
    (g.S.Sink.seen c.loop-further.out).written (g.S.Sink.seen c.run_seed.new.out).written (Err c.in-Err.fault)) was.kept was.first
    c.in-Err.ensures.goes in
    seeds_failed _ _ _ f w (n + 1) _ _ _ _ _ (seeds_then _ _ _ f w n _ _ _ _ _ _ _ was.goes step)
