-- What is told of the processes of a world between events.
use Rattle.std.specs.Prelude.{ℕ, ◌+◌, List, [], ◌∷◌, length}
use Rattle.std.specs.declared.option.Option.{Option}
use Rattle.std.specs.declared.option.Option.TheVariants.{None, Some}
use Rattle.flow_steps.specs.declared.views.FrameView.{FrameView}
use Rattle.flow_steps.specs.declared.views.CallbackView.{CallbackView}
use Rattle.flow_steps.specs.Views.{frames_in, callbacks_in}
use Rattle.flow_heapstate.specs.State.{ActorPart, NumbersRise, parts_of}
use Rattle.flow_world.specs.declared.place.Place.{Place}

-- nothing, where there is no such process
abbrev pub frames_at : Option Place → List FrameView
frames_at None = []
frames_at (Some at) = frames_in at.machine.process.heap

abbrev pub callbacks_at : Option Place → List CallbackView
callbacks_at None = []
callbacks_at (Some at) = callbacks_in at.machine.process.heap

-- its unfinished actors as they stand between events; and that the numbers of its things rise
abbrev pub actors_at : Option Place → List ActorPart
actors_at None = []
actors_at (Some at) = (parts_of at.machine.process.heap).actors

abbrev pub NumbersRiseAt : Option Place → Type 0
NumbersRiseAt None = Unit {0}
NumbersRiseAt (Some at) = NumbersRise at.machine.process.heap

-- how many actors of a process, and of all these, are unfinished
abbrev pub live_at : Place → ℕ
live_at at = length at.machine.process.heap.frames.things

abbrev pub live_in : List Place → ℕ
live_in [] = 0
live_in (at ∷ ats) = live_at at + live_in ats
