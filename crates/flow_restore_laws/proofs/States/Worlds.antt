-- Event after event what a world in memory tells of its processes is sound.
use Rattle.std.proofs.Common.{ℕ, suc, List, [], ◌∷◌, refl, sym, subst, arith}
use Rattle.std.specs.Prelude.{Result}
use Rattle.std.specs.List.{AllByRecursion}
use Rattle.flow_base.specs.declared.fault.OutFault.{OutFault}
use Rattle.flow_timers.specs.Pending.{Pending}
use Rattle.flow_trace.specs.declared.line.Line.{Line}
use Rattle.flow_worldfile.specs.Worlds as file
use Rattle.flow_worldfile.specs.Worlds.{IsInRange, seen}
use Rattle.flow_class.specs.Classes.{RawTree}
use Rattle.flow_class.specs.View.{raw_of}
use Rattle.flow_heapstate.specs.State.{parts_of}
use Rattle.flow_heapstate.proofs.Judged.{sound_decided}
use Rattle.flow_heapstate.specs.Judging.{is_sound}
use Rattle.flow_meaning.specs.Class.{classes}
use Rattle.flow_meaning.specs.Frame.{Frame}
use Rattle.flow_meaning.specs.Outside.{What}
use Rattle.flow_meaning.specs.Runs.{Runs, ends, spent, event, ClassStates}
use Rattle.flow_meaning.specs.World as meaning
use Rattle.flow_meaning.specs.World.{World, at_start}
use Rattle.flow_invariants.specs.Fitting.Among.{RestsAmong, AllRest, WorldFits}
use Rattle.flow_invariants.specs.Fitting.Laws.{AreValid}
use Rattle.flow_invariants.proofs.Fitting.Runs.{states_fit}
use Rattle.flow_invariants.specs.OpenPorts.{Open, WorldOpen}
use Rattle.flow_invariants.proofs.OpenPorts.Worlds.{start_open, valid_open}
use Rattle.flow_invariants.specs.Fires.{Fired, WorldFired}
use Rattle.flow_invariants.proofs.Fires.Brought.{rests_fired}
use Rattle.flow_invariants.proofs.Fires.Worlds.{valid_fired}
use Rattle.flow_invariants.specs.Unmarked.{AreWhole}
use Rattle.flow_steps.specs.declared.process.Process.{Process}
use Rattle.flow_world.specs.declared.place.Place.{Place}
use Rattle.flow_world.specs.Ending.{Seen}
use Rattle.flow_world_refinement.specs.Order.Showing.{PlacesRepresent}
use Rattle.flow_restore_laws.specs.Rest.Boundary.{IsAtRest, RestsInRun}
use Rattle.flow_restore_laws.proofs.Rest.Onwards.{holds_at}
use Rattle.flow_restore_laws.proofs.Rest.Worlds.{classes_rest}
use Rattle.flow_determinism.proofs.Whole.{compiles_whole}
use Rattle.flow_restore_laws.specs.States.Heaps.{HaveFewerPlaces, Fitting}
use Rattle.flow_restore_laws.specs.States.Worlds.{IsTold, AllTold, ClassesTold, ProgramsTold}
use Rattle.flow_restore_laws.proofs.States.Sound.{heaps_sound}
use Rattle.flow_restore_laws.proofs.States.Resting.{numbers_rise, rests_with}
use Rattle.flow_restore_laws.proofs.States.Few.{compiled_fewer}

-- the streams of ports are open at each boundary of a run
module _ (r : RawTree) (valid : AreValid r) where
  runs_open : {w : World Frame} {states : List (World Frame)} {lines : List Line} → WorldFits r w → WorldOpen w → AllByRecursion (WorldFits r) states → Runs (classes r) w states lines
      → AllByRecursion WorldOpen states
  runs_open f h fits (ends last e) = tt
  runs_open f h fits (spent b l e g q s) = tt
  runs_open {w = w} f h fits (event b l e g q go more) = let k = valid_open r valid w b l f h g q go in (k, runs_open fits.0 k fits.1 more)

  states_open : (w : file.World) (states : List (World Frame)) → IsInRange w → ClassStates r w states → AllByRecursion WorldOpen states
  states_open w states range run =
      let x = run.1 in
      let fits = subst (AllByRecursion (WorldFits r)) x.from_start (states_fit r valid w states range run) in
      let h = start_open w in
      subst (AllByRecursion WorldOpen) (sym x.from_start) (h, runs_open fits.0 h fits.1 x.runs)

module _ (r : RawTree) (few : HaveFewerPlaces r) where
  process_told : (m : Process) (k : ℕ) (events : List (Pending What)) (x : meaning.Place Frame) → IsAtRest r m x.proc → RestsAmong r k events x → Open x.proc.core → Fired x.proc.core → IsTold m
  process_told m k events x s fits heard fired =
      let f : Fitting r m.heap x.proc = record { rested = s.rested; types = fits.1.types; fits = fits.1.fits } in
      let sound = heaps_sound r m.heap x.proc few f (rests_fired x.proc.core fired s.rested.rest.no_tasks) heard in
      record {
        rise = numbers_rise r m.heap x.proc f;
        sound = sound;
        judged = (sound_decided (parts_of m.heap) (is_sound (parts_of m.heap)) refl).1 sound;
        rests = rests_with r m.heap x.proc f;
      }

  places_told : (processes k : ℕ) (events : List (Pending What)) (ats : List Place) (xs : List (meaning.Place Frame)) → PlacesRepresent (IsAtRest r) processes k ats xs → AllRest r k events xs
      → AllByRecursion (λ (a : meaning.Place Frame). Open a.proc.core) xs → AllByRecursion (λ (a : meaning.Place Frame). Fired a.proc.core) xs → AllTold ats
  places_told n k events [] [] s fits heard fired = tt
  places_told n k events [] (x ∷ xs) s fits heard fired = absurd s
  places_told n k events (at ∷ ats) [] s fits heard fired = absurd s
  places_told n k events (at ∷ ats) (x ∷ xs) s fits heard fired =
      (process_told at.machine.process k events x s.0.rests fits.0 heard.0 fired.0, places_told n (suc k) events ats xs s.1 fits.1 heard.1 fired.1)

  pub world_told : (valid : AreValid r) (w : file.World) (v : Seen) → IsInRange w → RestsInRun r w v → AllTold v.places
  world_told valid w v range x =
      let fits = holds_at (WorldFits r) x.states v.ran x.state (states_fit r valid w x.states range x.run) x.after_as_many in
      let heard = holds_at WorldOpen x.states v.ran x.state (states_open r valid w x.states range x.run) x.after_as_many in
      let fired = holds_at WorldFired x.states v.ran x.state (valid_fired r valid w x.states range x.run) x.after_as_many in
      places_told x.state.out.file.processes 0 x.state.out.events.pending v.places x.state.places x.shows.places fits.places heard fired

module _ {A : Type 0} (puts : A → Line → Result (Unit {0}) OutFault → A → Type 0) where
  pub classes_told : ClassesTold puts
  classes_told c file with_frames first v a b whole few range starts goes =
      world_told (raw_of c) few whole.valid (seen file) v range
      (classes_rest puts c file with_frames first v a b whole (λ k x e. let l = few k x e in omega (arith, l)) range starts goes)

  pub programs_told : ProgramsTold puts
  programs_told text program c file with_frames first v a b sound light has range starts goes =
      classes_told c file with_frames first v a b (subst AreWhole (sym has) (compiles_whole text program sound)) (subst HaveFewerPlaces (sym has) (compiled_fewer text program sound)) range starts goes
