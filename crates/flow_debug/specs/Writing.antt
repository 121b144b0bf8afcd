-- The lines of what frames tell.
use Rattle.std.specs.Prelude.{ℕ, List}
use Rattle.std.specs.List.{flat_map}
use Rattle.flow_base.specs.declared.place.Place.{Place}
use Rattle.flow_class.specs.Classes.{ClassTree}
use Rattle.flow_heapstate.specs.State.{ActorPart}
use Rattle.flow_debug.specs.Told.{actor_told, if_told}
use Rattle.flow_debug.specs.ViewText.{actor_lines}

-- of one frame: none, where nothing is told of it
abbrev pub told_lines : List (List Place) → List ClassTree → (process : ℕ) → ActorPart → List ℕ
told_lines waits classes p a = flat_map actor_lines (if_told (actor_told waits classes p a))
