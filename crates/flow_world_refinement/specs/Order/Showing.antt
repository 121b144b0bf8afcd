-- Which world of the definitions a world in memory shows between events.
use Rattle.std.specs.Prelude.{◌≡◌, ℕ, suc, false, List, [], ◌∷◌}
use Rattle.std.specs.declared.option.Option.{Option}
use Rattle.std.specs.declared.option.Option.TheVariants.{Some}
use Rattle.flow_worldfile.specs.declared.world.At.{At}
use Rattle.flow_worldfile.specs.declared.directive.Order.{Order}
use Rattle.flow_worldfile.specs.Worlds.{timed}
use Rattle.flow_meaning.specs.Frame.{Frame}
use Rattle.flow_meaning.specs.Process.{Proc}
use Rattle.flow_meaning.specs.World as meaning
use Rattle.flow_steps.specs.declared.process.Process.{Process}
use Rattle.flow_world.specs.declared.place.Place.{Place}
use Rattle.flow_world.specs.Ending.{Seen}
use Rattle.flow_world.specs.Ports.{PortsRepresent}
use Rattle.flow_world.specs.Representing.{OutsideRepresents}

-- The lines that are left of a script, in the order in which they come: each is the soonest of those that the definitions
-- have left.
abbrev pub IsSoonest : Option ((ℕ × Order) × List (ℕ × Order)) → At → List (ℕ × Order) → Type 0
IsSoonest o line rest = o ≡ Some (timed line, rest)

abbrev pub ScriptRepresents : List At → List (ℕ × Order) → Type 0
ScriptRepresents [] xs = xs ≡ []
ScriptRepresents (l ∷ ls) xs = (rest : List (ℕ × Order)) × IsSoonest (meaning.soonest xs) l rest × ScriptRepresents ls rest

-- `Rests` says which process of the definitions a process in memory shows between events.
module _ (Rests : Process → Proc Frame → Type 0) where
  -- a process of so many, by its number
  pub record PlaceRepresents (processes number : ℕ) (at : Place) (x : meaning.Place Frame) : Type 0 where
    pub up : at.up ≡ x.up
    pub me : at.machine.me.0 ≡ number
    pub processes_are : at.machine.processes ≡ processes
    pub rests : Rests at.machine.process x.proc
    pub ports : PortsRepresent at.ports x.proc.core.ports

  -- those from a number on
  abbrev pub PlacesRepresent : (processes first : ℕ) → List Place → List (meaning.Place Frame) → Type 0
  PlacesRepresent n k [] [] = Unit {0}
  PlacesRepresent n k [] (x ∷ xs) = ⊥
  PlacesRepresent n k (at ∷ ats) [] = ⊥
  PlacesRepresent n k (at ∷ ats) (x ∷ xs) = PlaceRepresents n k at x × PlacesRepresent n (suc k) ats xs

  -- each process, all that is outside of them, the lines of the script that are left, and what was counted
  pub record WorldRepresents (w : Seen) (m : meaning.World Frame) : Type 0 where
    pub places : PlacesRepresent m.out.file.processes 0 w.places m.places
    pub outside : OutsideRepresents w.outside m.out
    pub script : ScriptRepresents w.script m.out.script
    pub ran : w.ran ≡ m.out.ran
    pub bound : w.bound ≡ m.out.file.events
    pub turns : w.turns ≡ m.out.file.turns
    pub going : w.ended ≡ false
