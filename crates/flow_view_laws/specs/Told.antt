-- What a world in memory tells of its unfinished actors between events.
use Rattle.std.specs.Prelude.{ℕ, suc, List, [], ◌∷◌, ◌++◌}
use Rattle.std.specs.declared.option.Option.TheVariants.{Some}
use Rattle.flow_base.specs.declared.place.Place.{Place}
use Rattle.flow_class.specs.Classes.{ClassTree}
use Rattle.flow_world.specs.declared.place.Place as world
use Rattle.flow_world.specs.Views.{actors_at, NumbersRiseAt}
use Rattle.flow_debug.specs.Seen.{ActorSeen}
use Rattle.flow_debug.specs.Told.{actors_told}

module _ (waits : List (List Place)) (classes : List ClassTree) where
  -- the unfinished actors of processes from a number on, each by rising number
  abbrev pub places_told : (first : ℕ) → List world.Place → List ActorSeen
  places_told n [] = []
  places_told n (at ∷ ats) = actors_told waits classes n (actors_at (Some at)) ++ places_told (suc n) ats

-- the numbers of each process rise
abbrev pub AllRise : List world.Place → Type 0
AllRise [] = Unit {0}
AllRise (at ∷ ats) = NumbersRiseAt (Some at) × AllRise ats
