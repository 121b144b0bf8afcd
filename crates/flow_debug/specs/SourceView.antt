-- The view of a state of a program that is run from its text.
use Rattle.std.specs.Prelude.{ℕ, suc, List, [], ◌∷◌, ◌++◌, map}
use Rattle.std.specs.List.{flat_map}
use Rattle.std.specs.declared.option.Option.{Option}
use Rattle.std.specs.declared.option.Option.TheVariants.{None, Some}
use Rattle.flow_base.specs.declared.place.Place.{Place}
use Rattle.flow_tree.specs.Body.{ChooseStmt, WaitStmt}
use Rattle.flow_tree.specs.Decls.{ProgramTree}
use Rattle.flow_value.specs.Values.{ValueTree}
use Rattle.flow_numbered.specs.Numbered.{thing}
use Rattle.flow_meaning.specs.Cells.{Ref}
use Rattle.flow_meaning.specs.Process.{Entry, Proc}
use Rattle.flow_meaning.specs.Items.{Item, Do, Actor}
use Rattle.flow_meaning.specs.Source.{source}
use Rattle.flow_meaning.specs.Views.{actor_spot}
use Rattle.flow_meaning.specs.World.{Place as Site, World}
use Rattle.flow_debug.specs.Seen.{VariableSeen, ActorSeen, with_variable}

-- the place of the wait or choose at which an actor is suspended, which is the first statement of its rest
abbrev pub suspended_at : List Item → Option Place
suspended_at (Do s (WaitStmt at w k) ∷ r) = Some at
suspended_at (Do s (ChooseStmt at bs k) ∷ r) = Some at
suspended_at _ = None

-- the variables that have a value, in order
abbrev pub filled_variables : List (List ℕ × Option ValueTree) → List VariableSeen
filled_variables [] = []
filled_variables (x ∷ xs) = with_variable x.0 x.1 (filled_variables xs)

abbrev pub cell_of : Ref → ℕ
cell_of r = r.1

-- an unfinished actor that is suspended at a place
abbrev pub seen_at : ProgramTree → (process : ℕ) → ℕ × Entry → Actor → Option Place → List ActorSeen
seen_at t p x a None = []
seen_at t p x a (Some at) = record {
  process = p;
  actor = x.0;
  name = (source t).label x.1.class;
  group = (actor_spot a).group;
  at = at;
  cells = map cell_of x.1.operands;
  variables = filled_variables a.vars.states;
} ∷ []

abbrev pub actor_seen : ProgramTree → (process : ℕ) → ℕ × Entry → Option Actor → List ActorSeen
actor_seen t p x None = []
actor_seen t p x (Some a) = seen_at t p x a (suspended_at a.rest)

-- those of a process, by rising number, and those of processes by their numbers
abbrev pub process_seen : ProgramTree → (process : ℕ) → Proc Actor → List ActorSeen
process_seen t p q = flat_map (λ x. actor_seen t p x (thing q.actors x.0)) q.core.entries

abbrev pub places_seen : ProgramTree → (first : ℕ) → List (Site Actor) → List ActorSeen
places_seen t n [] = []
places_seen t n (x ∷ xs) = process_seen t n x.proc ++ places_seen t (suc n) xs

abbrev pub SourceView : ProgramTree → World Actor → List ActorSeen
SourceView t w = places_seen t 0 w.places
