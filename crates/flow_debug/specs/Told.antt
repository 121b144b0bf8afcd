-- What the frame of an unfinished actor tells of it, by the places of the program's waits and by the classes.
use Rattle.std.specs.Prelude.{ℕ, zero, suc, List, [], ◌∷◌, ◌++◌, map, slice_get}
use Rattle.std.specs.declared.option.Option.{Option}
use Rattle.std.specs.declared.option.Option.TheVariants.{None, Some}
use Rattle.flow_base.specs.declared.place.Place.{Place}
use Rattle.flow_tree.specs.Decls.{SlotTree, RoutineTree, DeclTree}
use Rattle.flow_staterule.specs.StateRule.{wait_places}
use Rattle.flow_value.specs.Values.{ValueTree}
use Rattle.flow_class.specs.Classes.{ClassTree}
use Rattle.flow_meaning.specs.Source.{actors_in}
use Rattle.flow_frame.specs.declared.held.Held.{Held}
use Rattle.flow_heapstate.specs.State.{ActorPart}
use Rattle.flow_debug.specs.Seen.{VariableSeen, ActorSeen, with_variable}

-- the places of the waits of each actor, in the order of the text
abbrev pub waits_in : RoutineTree → List Place
waits_in a = wait_places a.body

abbrev pub places_of_waits : List DeclTree → List (List Place)
places_of_waits ds = map waits_in (actors_in ds)

-- the place of a wait by its number, from 1
abbrev pub wait_of : Option (List Place) → (group : ℕ) → Option Place
wait_of None group = None
wait_of (Some places) zero = None
wait_of (Some places) (suc k) = slice_get places k

abbrev pub cell_held : Held → ℕ
cell_held h = h.cell.0

-- the variables of a frame that have a value: a slot has the name of its variable
abbrev pub variables_told : List SlotTree → List (Option ValueTree) → List VariableSeen
variables_told [] values = []
variables_told (s ∷ slots) [] = []
variables_told (s ∷ slots) (v ∷ values) = with_variable s.name v (variables_told slots values)

-- A frame of one of the classes that waits at one of their groups; of another nothing is told.
abbrev pub told_by : (process : ℕ) → ActorPart → Option ClassTree → Option Place → Option ActorSeen
told_by p a None at = None
told_by p a (Some c) None = None
told_by p a (Some c) (Some at) = Some (record {
  process = p;
  actor = a.actor;
  name = c.name;
  group = a.state;
  at = at;
  cells = map cell_held a.callbacks;
  variables = variables_told c.slots a.places;
})

abbrev pub actor_told : List (List Place) → List ClassTree → (process : ℕ) → ActorPart → Option ActorSeen
actor_told waits classes p a = told_by p a (slice_get classes a.class) (wait_of (slice_get waits a.class) a.state)

-- what is told of several frames of a process, in order
abbrev pub if_told : Option ActorSeen → List ActorSeen
if_told None = []
if_told (Some a) = a ∷ []

abbrev pub actors_told : List (List Place) → List ClassTree → (process : ℕ) → List ActorPart → List ActorSeen
actors_told waits classes p [] = []
actors_told waits classes p (a ∷ parts) = if_told (actor_told waits classes p a) ++ actors_told waits classes p parts
