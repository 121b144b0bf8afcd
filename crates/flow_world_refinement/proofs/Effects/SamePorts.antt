-- No deed changes which streams are those of ports.
use Rattle.std.proofs.Common.{◌≡◌, ℕ, zero, suc, List, [], ◌∷◌, refl}
use Rattle.std.specs.Prelude.{pos}
use Rattle.std.specs.declared.option.Option.{Option}
use Rattle.std.specs.declared.option.Option.TheVariants.{None, Some}
use Rattle.flow_value.specs.Values.{IntValue, OutcomeTree, GoodOutcome}
use Rattle.flow_value.specs.View.{value_of, outcome_of}
use Rattle.flow_class.specs.Classes.{RawTree}
use Rattle.flow_meaning.specs.Cells.{Cell}
use Rattle.flow_meaning.specs.Class.{classes}
use Rattle.flow_meaning.specs.Deliver.{begin, boot_with, stop_main, closed_request}
use Rattle.flow_meaning.specs.Frame.{Frame}
use Rattle.flow_numbered.specs.Numbered.{thing}
use Rattle.flow_meaning.specs.Process.{Core, Drop, Proc}
use Rattle.flow_meaning.specs.Step.{enrol}
use Rattle.flow_meaning.specs.Work.{turn_of, fill, fill_cell, pushed}
use Rattle.flow_meaning.specs.World as meaning
use Rattle.flow_meaning.specs.World.{booted, with_core}
use Rattle.flow_value.specs.declared.value.Kind.TheVariants as kind
use Rattle.flow_world.specs.declared.action.EventAction.{EventAction}
use Rattle.flow_world.specs.declared.action.EventAction.TheVariants.{Boots, Stops, Delivers, Brings}
use Rattle.flow_world_refinement.specs.Effects.Actions.{done_in}

main_ports : (l : ℕ) (class : ℕ) (name : List ℕ) (c : Core) → (turn_of l c (λ d. record (enrol class name d) { main = Some (suc d.made) })).ports ≡ c.ports
main_ports zero class name c = refl
main_ports (suc n) class name c = refl

pub boot_ports : (r : RawTree) (o : Option Frame) (p : Proc Frame) → (boot_with (classes r) o p).core.ports ≡ p.core.ports
boot_ports r None p = refl
boot_ports r (Some f) p = main_ports p.core.left (classes r).main ((classes r).label (classes r).main) p.core

booted_ports : (r : RawTree) (n : ℕ) (x : meaning.Place Frame) (o : Option ℕ) → (booted (classes r) n x o).proc.core.ports ≡ x.proc.core.ports
booted_ports r n x (Some held) = refl
booted_ports r n x None = boot_ports r ((classes r).fresh (classes r).main (IntValue (pos n) ∷ [])) x.proc

stop_ports : (o : Option ℕ) (c : Core) → (stop_main o c).ports ≡ c.ports
stop_ports None c = refl
stop_ports (Some k) c = refl

cell_ports : (k : ℕ) (u : OutcomeTree) (o : Option Cell) (c : Core) → (fill_cell k u o c).ports ≡ c.ports
cell_ports k u None c = refl
cell_ports k u (Some cell) c = refl

filled_ports : (l k : ℕ) (u : OutcomeTree) (c : Core) → (turn_of l c (λ d. fill k u d)).ports ≡ c.ports
filled_ports zero k u c = refl
filled_ports (suc n) k u c = cell_ports k u (thing c.cells k) (record c { left = n })

pub deed_ports : (r : RawTree) (turns n : ℕ) (d : EventAction) (x : meaning.Place Frame) → (done_in r turns n d x).proc.core.ports ≡ x.proc.core.ports
deed_ports r turns n Boots x = booted_ports r n (with_core x (begin turns)) x.proc.core.main
deed_ports r turns n Stops x = stop_ports x.proc.core.main (begin turns x.proc.core)
deed_ports r turns n (Delivers k o) x =
    filled_ports turns k.0 (outcome_of o) (pushed (Drop kind.Promise k.0) (record (begin turns x.proc.core) { requests = closed_request k.0 x.proc.core.requests }))
deed_ports r turns n (Brings k v) x = filled_ports turns k.0 (GoodOutcome (value_of v)) (begin turns x.proc.core)
