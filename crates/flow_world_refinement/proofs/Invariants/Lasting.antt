-- What a world keeps from event to event.
use Rattle.std.proofs.Common.{ℕ, zero, suc, ◌+◌, List, [], ◌∷◌, refl, sym, subst, arith}
use Rattle.std.specs.Prelude.{map}
use Rattle.std.specs.List.{AllByRecursion, range_with_len}
use Rattle.flow_worldfile.specs.Directives.{InRange, Names}
use Rattle.flow_worldfile.specs.Worlds as file
use Rattle.flow_worldfile.specs.declared.directive.Order.{Order}
use Rattle.flow_class.specs.Classes.{RawTree}
use Rattle.flow_meaning.specs.Class.{classes}
use Rattle.flow_meaning.specs.Outside.{Boots}
use Rattle.flow_meaning.specs.Runs.{before}
use Rattle.flow_invariants.specs.Fitting.Laws.{AreValid}
use Rattle.flow_burst_refinement.proofs.Boundaries.Keeping.{start_keeps, event_keeps}
use Rattle.flow_world_refinement.specs.Invariants as law
use Rattle.flow_world_refinement.specs.Invariants.{IsEarly, LineIsEarly}
use Rattle.flow_world_refinement.proofs.Invariants.Mid.{begun_mid, burst_mid}

boots_early : (from count : ℕ) → AllByRecursion (IsEarly 0 0) (map (λ p. record { time = 0; number = suc p; what = Boots p }) (range_with_len from count))
boots_early from zero = tt
boots_early from (suc count) = (omega arith, boots_early (from + 1) count)

lines_early : (count : ℕ) (xs : List (ℕ × Order)) → AllByRecursion (λ (x : ℕ × Order). InRange (file.at_line x) × Names count (file.at_line x)) xs → AllByRecursion LineIsEarly xs
lines_early count [] h = tt
lines_early count (x ∷ xs) h = (h.0.0.0, lines_early count xs h.1)

pub lasting_starts : (r : RawTree) → law.WorldInvariantStarts r
lasting_starts r w range = (
  record {
    keeps = start_keeps r w range;
    slack = 0;
    few = omega arith;
    times = record { file = range; script = lines_early w.processes w.script range.script; events = boots_early 0 w.processes };
  },
  refl,
)

pub lasting_stays : (r : RawTree) → AreValid r → law.WorldInvariantStays r
lasting_stays r valid w b l h g q go =
    let m = burst_mid h.slack (classes r) w.out.ran (before b) l q (begun_mid h.slack (classes r) w.out.ran w b refl h.times g) in (
      record {
        keeps = event_keeps r valid w b l h.keeps g q go;
        slack = h.slack;
        few = h.few;
        times = record { file = m.file; script = m.script; events = subst (λ k. AllByRecursion (IsEarly h.slack k) l.out.events.pending) (sym m.ran) m.events };
      },
      refl,
    )
