-- Two kinds of actors whose steps ask alike: what it means for whole runs.
use Rattle.std.specs.Prelude.{◌≡◌, List, [], ◌∷◌}
use Rattle.std.specs.List.{AllByRecursion}
use Rattle.flow_trace.specs.declared.line.Line.{Line}
use Rattle.flow_worldfile.specs.Worlds as file
use Rattle.flow_meaning.specs.Process.{Engine}
use Rattle.flow_meaning.specs.World.{Place, World}
use Rattle.flow_meaning.specs.Runs.{Runs, IsRun}
use Rattle.flow_meaning.specs.Orderly.{Phase}
use Rattle.flow_meaning.specs.Law.{Related, AtRest}

-- both processes are up, or neither; their cores are equal and at rest, and their actors related
abbrev pub SamePlace : {A B : Type 0} → (Phase → A → B → Type 0) → Place A → Place B → Type 0
SamePlace R a b = (a.up ≡ b.up) × (a.proc.core ≡ b.proc.core) × AtRest a.proc.core × Related R a.proc.core a.proc.actors b.proc.actors

abbrev pub SamePlaces : {A B : Type 0} → (Phase → A → B → Type 0) → List (Place A) → List (Place B) → Type 0
SamePlaces R [] [] = Unit {0}
SamePlaces R [] (b ∷ bs) = ⊥
SamePlaces R (a ∷ rest) [] = ⊥
SamePlaces R (a ∷ rest) (b ∷ bs) = SamePlace R a b × SamePlaces R rest bs

-- the world outside is equal, and so is each process but for its actors, which are related
abbrev pub SameWorld : {A B : Type 0} → (Phase → A → B → Type 0) → World A → World B → Type 0
SameWorld R w v = (w.out ≡ v.out) × SamePlaces R w.places v.places

abbrev pub SameStates : {A B : Type 0} → (Phase → A → B → Type 0) → List (World A) → List (World B) → Type 0
SameStates R [] [] = Unit {0}
SameStates R [] (v ∷ vs) = ⊥
SameStates R (w ∷ ws) [] = ⊥
SameStates R (w ∷ ws) (v ∷ vs) = SameWorld R w v × SameStates R ws vs

-- from such worlds each run of the first kind has a run of the second with the same lines, through such states
abbrev pub RunsFollow : {A B : Type 0} → Engine A → Engine B → (Phase → A → B → Type 0) → Type 0
RunsFollow {A} {B} e d R =
    (w : World A) (v : World B) (states : List (World A)) (lines : List Line) → SameWorld R w v → Runs e w states lines
    → (others : List (World B)) × Runs d v others lines × SameStates R states others

-- and each run of the second kind one of the first
abbrev pub RunsReturn : {A B : Type 0} → Engine A → Engine B → (Phase → A → B → Type 0) → Type 0
RunsReturn {A} {B} e d R =
    (w : World A) (v : World B) (others : List (World B)) (lines : List Line) → SameWorld R w v → Runs d v others lines
    → (states : List (World A)) × Runs e w states lines × SameStates R states others

-- so in each world both kinds have the same trace, through such states
abbrev pub TracesFollow : {A B : Type 0} → Engine A → Engine B → (Phase → A → B → Type 0) → Type 0
TracesFollow {A} {B} e d R =
    (w : file.World) (states : List (World A)) (lines : List Line) → IsRun e w states lines
    → (others : List (World B)) × IsRun d w others lines × SameStates R states others

abbrev pub TracesReturn : {A B : Type 0} → Engine A → Engine B → (Phase → A → B → Type 0) → Type 0
TracesReturn {A} {B} e d R =
    (w : file.World) (others : List (World B)) (lines : List Line) → IsRun d w others lines
    → (states : List (World A)) × IsRun e w states lines × SameStates R states others

-- in a world at rest every process is
abbrev pub WorldAtRest : {A : Type 0} → World A → Type 0
WorldAtRest w = AllByRecursion (λ a. AtRest a.proc.core) w.places

-- a run from a world at rest passes through such worlds, and so does a run from the start of any world
abbrev pub RunsRest : {A : Type 0} → Engine A → Type 0
RunsRest {A} e = (w : World A) (states : List (World A)) (lines : List Line) → WorldAtRest w → Runs e w states lines
    → AllByRecursion WorldAtRest states

abbrev pub TracesRest : {A : Type 0} → Engine A → Type 0
TracesRest {A} e = (w : file.World) (states : List (World A)) (lines : List Line) → IsRun e w states lines
    → AllByRecursion WorldAtRest states
