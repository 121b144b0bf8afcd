-- At each boundary of a run of a text each unfinished actor is unmarked, and a future refers to its result, unless it is void.
use Rattle.std.proofs.Common.{ℕ, List, [], ◌∷◌, sym, subst}
use Rattle.std.specs.List.{AllByRecursion}
use Rattle.flow_tree.specs.declared.decl.Program.{Program}
use Rattle.flow_tree.specs.DeclView.{program_of}
use Rattle.flow_class.specs.Classes.{RawTree}
use Rattle.flow_meaning.specs.Boundaries.{ReferredIn}
use Rattle.flow_meaning.specs.Cells.{FutureSide}
use Rattle.flow_meaning.specs.Class.{classes}
use Rattle.flow_meaning.specs.Frame.{Frame}
use Rattle.flow_meaning.specs.Law.{Simulates}
use Rattle.flow_meaning.specs.Orderly.{Phase}
use Rattle.flow_meaning.specs.Process.{Core, Engine}
use Rattle.flow_meaning.specs.References.{Scan, reference_count}
use Rattle.flow_meaning.specs.RunLaw.{SamePlace, SamePlaces, SameStates}
use Rattle.flow_meaning.specs.Source.{source, names_of}
use Rattle.flow_meaning.specs.Step.{scanned}
use Rattle.flow_meaning.specs.Views.{Referred, AllReferred}
use Rattle.flow_meaning.specs.World.{Place, World}
use Rattle.flow_meaning.proofs.Alike.{scans}
use Rattle.flow_meaning.proofs.LiftRuns.{traces_follow}
use Rattle.flow_front.specs.Verdict.{IsSound}
use Rattle.flow_lowering_laws.proofs.Programs.Whole.{compiles_faithfully}
use Rattle.flow_compile_laws.specs.Simulation.Matching.{ActorMatches}
use Rattle.flow_compile_laws.proofs.Simulation.Follows.{carried}
use Rattle.flow_compile_laws.proofs.Traces.{are_carried}
use Rattle.flow_invariants.specs.Unmarked.{BoundaryInvariant, WorldRests}
use Rattle.flow_determinism.specs.Laws.{classes_of, SourcesReferred}
use Rattle.flow_determinism.proofs.Whole.{programs_rest}

-- related processes have one count of references
module _ {A B : Type 0} (e : Engine A) (d : Engine B) (R : Phase → A → B → Type 0) (sim : Simulates e d R) where
  abbrev AllBy : Scan → Core → Type 0
  AllBy scan c = AllReferred (λ k. reference_count scan FutureSide k c) c.entries

  process_referred : (a : Place A) (b : Place B) → SamePlace R a b → Referred d b.proc → Referred e a.proc
  process_referred a b same h =
      let scan = scans e d R sim a.proc.actors b.proc.actors same.3.all in
      subst (AllBy (scanned e a.proc)) (sym same.1) (subst (λ s. AllBy s b.proc.core) (sym scan) h)

  places_referred : (ps : List (Place A)) (qs : List (Place B)) → SamePlaces R ps qs → AllByRecursion (λ (q : Place B). Referred d q.proc) qs → AllByRecursion (λ (p : Place A). Referred e p.proc) ps
  places_referred [] [] same h = tt
  places_referred [] (q ∷ qs) same h = absurd same
  places_referred (p ∷ ps) [] same h = absurd same
  places_referred (p ∷ ps) (q ∷ qs) same h = (process_referred p q same.0 h.0, places_referred ps qs same.1 h.1)

  states_referred : (ws : List (World A)) (vs : List (World B)) → SameStates R ws vs → AllByRecursion (ReferredIn d) vs → AllByRecursion (ReferredIn e) ws
  states_referred [] [] same h = tt
  states_referred [] (v ∷ vs) same h = absurd same
  states_referred (w ∷ ws) [] same h = absurd same
  states_referred (w ∷ ws) (v ∷ vs) same h = (places_referred w.places v.places same.0.1 h.0, states_referred ws vs same.1 h.1)

-- of classes it is said at each boundary
module _ (r : RawTree) where
  class_places : (ps : List (Place Frame)) → AllByRecursion (λ (p : Place Frame). BoundaryInvariant r p.proc) ps
      → AllByRecursion (λ (p : Place Frame). Referred (classes r) p.proc) ps
  class_places [] h = tt
  class_places (p ∷ ps) h = (h.0.referred, class_places ps h.1)

  class_states : (ws : List (World Frame)) → AllByRecursion (WorldRests r) ws → AllByRecursion (ReferredIn (classes r)) ws
  class_states [] h = tt
  class_states (w ∷ ws) h = (class_places w.places h.0, class_states ws h.1)

-- the classes of an accepted program do what it does
pub simulated : (text : List ℕ) (p : Program) → IsSound text p → Simulates (source (program_of p)) (classes (classes_of p)) (ActorMatches (names_of (program_of p)))
simulated text p h = carried (program_of p) (classes_of p) (are_carried p (compiles_faithfully text p h.typed))

pub sources_referred : SourcesReferred
sources_referred text p w states h range run =
    let t = program_of p in
    let r = classes_of p in
    let sim = simulated text p h in
    let other = traces_follow (source t) (classes r) (ActorMatches (names_of t)) sim w states run.0 run.1 in
    states_referred (source t) (classes r) (ActorMatches (names_of t)) sim states other.0 other.2
    (class_states r other.0 (programs_rest text p h w other.0 range (run.0, other.1)))
