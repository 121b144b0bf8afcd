-- A process that memory shows, and that keeps what it has to and is at rest by the definitions, is at rest in memory.
use Rattle.std.proofs.Common.{ℕ, suc, List, [], ◌∷◌}
use Rattle.std.specs.List.{AllByRecursion}
use Rattle.flow_timers.specs.Pending.{Pending}
use Rattle.flow_class.specs.Classes.{RawTree}
use Rattle.flow_meaning.specs.Frame.{Frame}
use Rattle.flow_meaning.specs.Outside.{What}
use Rattle.flow_meaning.specs.World.{World}
use Rattle.flow_meaning.specs.World as meaning
use Rattle.flow_invariants.specs.Unmarked.{BoundaryInvariant, WorldRests}
use Rattle.flow_invariants.specs.Fitting.Among.{RestsAmong, AllRest, WorldFits}
use Rattle.flow_steps.specs.declared.process.Process.{Process}
use Rattle.flow_world.specs.declared.place.Place.{Place}
use Rattle.flow_world.specs.Ending.{Seen}
use Rattle.flow_world_refinement.specs.Order.Showing.{PlacesRepresent, WorldRepresents}
use Rattle.flow_world_refinement.specs.Effects.Quiescence.{Quiescent}
use Rattle.flow_restore_laws.specs.Rest.Boundary.{IsAtRest}

module _ (r : RawTree) where
  process_rests : (m : Process) (k : ℕ) (events : List (Pending What)) (x : meaning.Place Frame) → Quiescent r m x.proc → RestsAmong r k events x → BoundaryInvariant r x.proc
      → IsAtRest r m x.proc
  process_rests m k events x s fits kept = record {
    settled = s;
    rested = record {
      running = record {
        shows = s.resting.shown.holds.shows;
        counted = s.resting.shown.holds.counted;
        agree = fits.1.tied.agree;
        orderly = fits.0.orderly;
        numbers = fits.1.tied.numbers;
        sorted = s.resting.sorted;
        owned = kept.keeps.owned;
        cared = kept.keeps.cared;
        referenced = kept.keeps.referenced;
      };
      rest = fits.0;
      referred = kept.referred;
    };
  }

  places_rest : (processes k : ℕ) (events : List (Pending What)) (ats : List Place) (xs : List (meaning.Place Frame)) → PlacesRepresent (Quiescent r) processes k ats xs
      → AllRest r k events xs → AllByRecursion (λ (a : meaning.Place Frame). BoundaryInvariant r a.proc) xs → PlacesRepresent (IsAtRest r) processes k ats xs
  places_rest n k events [] [] s fits kept = tt
  places_rest n k events [] (x ∷ xs) s fits kept = absurd s
  places_rest n k events (at ∷ ats) [] s fits kept = absurd s
  places_rest n k events (at ∷ ats) (x ∷ xs) s fits kept = (
    record {
      up = s.0.up;
      me = s.0.me;
      processes_are = s.0.processes_are;
      rests = process_rests at.machine.process k events x s.0.rests fits.0 kept.0;
      ports = s.0.ports;
    },
    places_rest n (suc k) events ats xs s.1 fits.1 kept.1,
  )

  pub world_rests : (v : Seen) (m : World Frame) → WorldRepresents (Quiescent r) v m → WorldFits r m → WorldRests r m → WorldRepresents (IsAtRest r) v m
  world_rests v m s fits kept = record {
    places = places_rest m.out.file.processes 0 m.out.events.pending v.places m.places s.places fits.places kept;
    outside = s.outside;
    script = s.script;
    ran = s.ran;
    bound = s.bound;
    turns = s.turns;
    going = s.going;
  }
