-- The core law, from the laws over two kinds of actors.
use Rattle.flow_meaning.specs.Source.{source, names_of}
use Rattle.flow_meaning.specs.Class.{classes}
use Rattle.flow_meaning.specs.Views.{actor_spot, frame_spot}
use Rattle.flow_meaning.proofs.LiftRuns.{traces_follow, traces_return}
use Rattle.flow_meaning.proofs.Sights.{sights_follow, sights_return}
use Rattle.flow_compile_laws.specs.Simulation.Matching.{ActorMatches}
use Rattle.flow_compile_laws.specs.Simulation.Carried.{TracesOfText, TracesOfClasses, ObservationsOfText, ObservationsOfClasses}
use Rattle.flow_compile_laws.proofs.Simulation.Follows.{carried, waits_alike}

pub traces_of_text : TracesOfText
traces_of_text p r w lines h t =
    let g = traces_follow (source p) (classes r) (ActorMatches (names_of p)) (carried p r h) w t.0 lines t.1 in
    (g.0, g.1)

pub traces_of_classes : TracesOfClasses
traces_of_classes p r w lines h t =
    let g = traces_return (source p) (classes r) (ActorMatches (names_of p)) (carried p r h) w t.0 lines t.1 in
    (g.0, g.1)

pub sights_of_text : ObservationsOfText
sights_of_text p r w lines sights h =
    sights_follow (source p) (classes r) (ActorMatches (names_of p)) (carried p r h) actor_spot frame_spot (waits_alike p r h) w lines sights

pub sights_of_classes : ObservationsOfClasses
sights_of_classes p r w lines sights h =
    sights_return (source p) (classes r) (ActorMatches (names_of p)) (carried p r h) actor_spot frame_spot (waits_alike p r h) w lines sights
