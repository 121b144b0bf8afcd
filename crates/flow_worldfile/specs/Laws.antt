-- Laws of world files.
use Rattle.std.specs.Prelude.{◌≡◌, ℕ, List}
use Rattle.flow_worldfile.specs.Worlds.{World, IsInRange, world_text}
use Rattle.flow_worldfile.specs.Reading.{WorldVerdict, IsJudged, IsFileOf}

-- a text has at most one verdict
abbrev pub OneVerdict : Type 0
OneVerdict = (bytes : List ℕ) (v w : WorldVerdict) → IsJudged bytes v → IsJudged bytes w → v ≡ w

-- the printed text of a world in range is a world file of that world
abbrev pub ReadsBack : Type 0
ReadsBack = (w : World) → IsInRange w → IsFileOf (world_text w) w
