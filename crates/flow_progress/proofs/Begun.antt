-- Idle and killed processes fit, and stopped ones.
use Rattle.std.proofs.Common.{◌≡◌, ℕ, [], refl}
use Rattle.std.specs.declared.option.Option.{Option}
use Rattle.std.specs.declared.option.Option.TheVariants.{None, Some}
use Rattle.flow_class.specs.Classes.{RawTree}
use Rattle.flow_meaning.specs.Deliver.{idle_core, stop_main}
use Rattle.flow_progress.specs.Fitting.{ProcessFits}
use Rattle.flow_progress.specs.Beginning.{IdleFits, VanishedFits, StoppedFits}

nothing_fits : (r : RawTree) (m n : ℕ) → ProcessFits r (λ k. None) (record idle_core { made = m; started = n }) []
nothing_fits r m n = record {
  cells = λ k. tt;
  waiting = λ k. tt;
  actors = λ i. tt;
  work = tt;
  ports = λ p k e. absurd cc;
  main = λ k e. absurd cc;
  requests = tt;
  numbered = tt;
  framed = tt;
  registered = λ i e at s. absurd cc;
}

pub idle_fits : (r : RawTree) → IdleFits r
idle_fits r = (λ k. None, nothing_fits r idle_core.made idle_core.started)

pub vanished_fits : (r : RawTree) → VanishedFits r
vanished_fits r p = (λ k. None, nothing_fits r p.core.made p.core.started)

pub stopped_fits : (r : RawTree) → StoppedFits r
stopped_fits r types c xs p = by_main c.main refl
  where
    by_main : (o : Option ℕ) → c.main ≡ o → ProcessFits r types (stop_main o c) xs
    by_main None e = p
    by_main (Some k) e = record {
      cells = p.cells;
      waiting = p.waiting;
      actors = p.actors;
      work = (p.main k e, p.work);
      ports = p.ports;
      main = λ n f. absurd cc;
      requests = p.requests;
      numbered = p.numbered;
      framed = p.framed;
      registered = p.registered;
    }
