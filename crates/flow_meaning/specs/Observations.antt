-- What is seen of a run: its lines, and at each boundary of events the unfinished actors and the branches at which they
-- wait. And two kinds of actors of which the same is seen.
use Rattle.std.specs.Prelude.{◌≡◌, List, map}
use Rattle.flow_tree.specs.Decls.{ProgramTree}
use Rattle.flow_class.specs.Classes.{RawTree}
use Rattle.flow_trace.specs.declared.line.Line.{Line}
use Rattle.flow_worldfile.specs.Worlds as file
use Rattle.flow_meaning.specs.Requests.{Spot}
use Rattle.flow_meaning.specs.Process.{Engine}
use Rattle.flow_meaning.specs.Orderly.{Phase, Waiting}
use Rattle.flow_meaning.specs.World.{World}
use Rattle.flow_meaning.specs.Runs.{IsRun}
use Rattle.flow_meaning.specs.Source.{source}
use Rattle.flow_meaning.specs.Class.{classes}
use Rattle.flow_meaning.specs.Views.{Unfinished, WaitingBranch, unfinished, waiting, actor_spot, frame_spot}

-- what is seen of a world at the boundary of events, process by process
pub record Observation : Type 0 where
  pub unfinished : List (List Unfinished)
  pub branches : List (List WaitingBranch)

-- by where each actor waits
abbrev pub observation : {A : Type 0} → (A → Spot) → World A → Observation
observation spot w = record {
  unfinished = map (λ p. unfinished spot p.proc.actors p.proc.core.entries) w.places;
  branches = map (λ p. waiting spot p.proc.actors p.proc.core.entries) w.places;
}

-- what is seen of a run from the start of a world
pub record Seen {A : Type 0} (e : Engine A) (spot : A → Spot) (w : file.World) (lines : List Line)
    (sights : List Observation) : Type 0 where
  pub states : List (World A)
  pub run : IsRun e w states lines
  pub boundaries : sights ≡ map (observation spot) states

-- of a program, and of classes
abbrev pub SourceSeen : ProgramTree → file.World → List Line → List Observation → Type 0
SourceSeen p = Seen (source p) actor_spot

abbrev pub ClassSeen : RawTree → file.World → List Line → List Observation → Type 0
ClassSeen r = Seen (classes r) frame_spot

-- related actors that wait do so at the same place
abbrev pub WaitAlike : {A B : Type 0} → (Phase → A → B → Type 0) → (A → Spot) → (B → Spot) → Type 0
WaitAlike {A} {B} R p q = (a : A) (b : B) → R Waiting a b → p a ≡ q b

-- Then what is seen of the first kind in a world is seen of the second, and nothing else.
abbrev pub ObservationsFollow : {A B : Type 0} → Engine A → Engine B → (Phase → A → B → Type 0) → Type 0
ObservationsFollow {A} {B} e d R =
    (p : A → Spot) (q : B → Spot) → WaitAlike R p q → (w : file.World) (lines : List Line) (sights : List Observation)
    → Seen e p w lines sights → Seen d q w lines sights

abbrev pub ObservationsReturn : {A B : Type 0} → Engine A → Engine B → (Phase → A → B → Type 0) → Type 0
ObservationsReturn {A} {B} e d R =
    (p : A → Spot) (q : B → Spot) → WaitAlike R p q → (w : file.World) (lines : List Line) (sights : List Observation)
    → Seen d q w lines sights → Seen e p w lines sights
