-- What is shown of an unfinished actor between events.
use Rattle.std.specs.Prelude.{ℕ, List, ◌∷◌}
use Rattle.std.specs.declared.option.Option.{Option}
use Rattle.std.specs.declared.option.Option.TheVariants.{None, Some}
use Rattle.flow_base.specs.declared.place.Place.{Place}
use Rattle.flow_value.specs.Values.{ValueTree}

-- a variable that has a value
pub record VariableSeen : Type 0 where
  pub name : List ℕ
  pub value : ValueTree

-- An actor by its process and its number there: its name; the number of its wait, and where that stands in the text; the cells at
-- which its branches wait, in order; and its parameters and state variables that have a value, in the order of the text.
pub record ActorSeen : Type 0 where
  pub process : ℕ
  pub actor : ℕ
  pub name : List ℕ
  pub group : ℕ
  pub at : Place
  pub cells : List ℕ
  pub variables : List VariableSeen

-- a variable, where it has a value, before others
abbrev pub with_variable : List ℕ → Option ValueTree → List VariableSeen → List VariableSeen
with_variable x None vs = vs
with_variable x (Some v) vs = record { name = x; value = v } ∷ vs
