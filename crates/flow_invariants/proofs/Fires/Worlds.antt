-- At each boundary of a run, nobody is without a fire.
use Rattle.std.proofs.Common.{◌≡◌, true, false}
use Rattle.flow_class.specs.Classes.{RawTree}
use Rattle.flow_meaning.specs.Process.{Proc}
use Rattle.flow_meaning.specs.Frame.{Frame}
use Rattle.flow_invariants.specs.Fitting.Laws.{AreValid}
use Rattle.flow_invariants.specs.Invariant.{Invariant}
use Rattle.flow_invariants.specs.Fires.{Fired, StatesFired}
use Rattle.flow_invariants.proofs.Invariant.{at_boundaries}
use Rattle.flow_invariants.proofs.Fires.Brought.{steps_fire, delivered, arrived, booted, stop_fired}

abbrev ReadyFired : Proc Frame → Type 0
ReadyFired p = Fired p.core

nobody : {X : Type 0} → false ≡ true → X
nobody e = absurd (cc (e))

keeps_fired : (r : RawTree) → Invariant r ReadyFired ReadyFired
keeps_fired r = record {
  idle = λ k e. nobody e;
  killed = λ p k e. nobody e;
  begins = λ p turns h. h;
  wakes = λ p h. h;
  boots = λ n events p f none h. booted r n p f.tied.numbers.cells h;
  stops = λ p h k. stop_fired k p.core (h k);
  answers = λ n events p cell o f there h. delivered cell o p.core h;
  arrives = λ n events p port cell v f at h. arrived cell v p.core h;
  keeps = record {
    steps = λ n events s p q f h e. steps_fire r s p q f.in_place.orderly f.tied h e;
    lines = λ p ls h. h;
  };
  rests = λ n events p rest f h. h;
}

pub valid_fired : (r : RawTree) → AreValid r → StatesFired r
valid_fired r v w states range run = at_boundaries r v ReadyFired ReadyFired (keeps_fired r) ReadyFired (λ n events p rest f h. h) w states range run
