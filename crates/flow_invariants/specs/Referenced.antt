-- No cell of a process of valid classes is without a reference.
use Rattle.std.specs.Prelude.{◌≡◌, ℕ, ◌<◌, false, List}
use Rattle.std.specs.List.{AllByRecursion}
use Rattle.std.specs.declared.option.Option.TheVariants.{Some}
use Rattle.flow_worldfile.specs.Worlds as file
use Rattle.flow_class.specs.Classes.{RawTree}
use Rattle.flow_numbered.specs.Numbered.{thing}
use Rattle.flow_meaning.specs.Cells.{FutureSide}
use Rattle.flow_meaning.specs.Process.{Entry, Proc}
use Rattle.flow_meaning.specs.World.{Place, World}
use Rattle.flow_meaning.specs.Runs.{ClassStates}
use Rattle.flow_meaning.specs.Frame.{Frame}
use Rattle.flow_heap_refinement.specs.Counted.{references}
use Rattle.flow_heap_refinement.specs.Rested.{Referenced}

-- a future refers to the result of each unfinished actor that isn't marked as cancelled
abbrev pub Wanted : Proc Frame → Type 0
Wanted p =
    (i k : ℕ) (e : Entry) → thing p.core.entries i ≡ Some e → e.marked ≡ false → e.result ≡ Some k
    → 0 < references FutureSide k p

abbrev pub PlaceReferred : Place Frame → Type 0
PlaceReferred a = Referenced a.proc × Wanted a.proc

abbrev pub WorldReferred : World Frame → Type 0
WorldReferred w = AllByRecursion PlaceReferred w.places

-- At each boundary of a run in the world of a file in range it is so.
abbrev pub StatesReferred : RawTree → Type 0
StatesReferred r =
    (w : file.World) (states : List (World Frame)) → file.IsInRange w → ClassStates r w states
    → AllByRecursion WorldReferred states
