-- What the steps of a process and what is brought to it keep.
use Rattle.std.specs.Prelude.{◌≡◌, ℕ, suc, ◌<◌, ◌≤◌, List}
use Rattle.std.specs.declared.option.Option.TheVariants.{Some}
use Rattle.flow_value.specs.Values.{ValueTree, OutcomeTree}
use Rattle.flow_class.specs.Classes.{RawTree}
use Rattle.flow_meaning.specs.Requests.{Supply}
use Rattle.flow_meaning.specs.Process.{Core, Proc}
use Rattle.flow_meaning.specs.Orderly.{Orderly, UnlessStopped}
use Rattle.flow_meaning.specs.Step.{Stepped, step}
use Rattle.flow_meaning.specs.Class.{classes}
use Rattle.flow_meaning.specs.Deliver.{idle_core, vanish, boot_core, deliver, arrive, stop}
use Rattle.flow_meaning.specs.Frame.{Frame}
use Rattle.flow_heap_refinement.specs.Counted.{Agree}
use Rattle.flow_heap_refinement.specs.Rested.{InNumbers}
use Rattle.flow_heap_refinement.specs.Alone.{owners_of, OwnedOnce}

-- waiters and operands agree, numbers rise, and a cell is made for one thing at most
pub record CellsTied (c : Core) : Type 0 where
  pub agree : Agree c
  pub numbers : InNumbers c
  pub once : OwnedOnce c

-- where the event isn't stopped
abbrev pub TiedUnlessStopped : Core → Type 0
TiedUnlessStopped c = UnlessStopped c.halted (CellsTied c)

abbrev pub StepsTied : Type 0
StepsTied =
    (r : RawTree) (s : Supply) (p : Proc Frame) (q : Stepped Frame) → Orderly p.core → CellsTied p.core
    → step (classes r) s p ≡ Some q
    → TiedUnlessStopped q.0.core

abbrev pub DeliveriesTied : Type 0
DeliveriesTied = (k : ℕ) (o : OutcomeTree) (c : Core) → CellsTied c → TiedUnlessStopped (deliver k o c)

abbrev pub ArrivalsTied : Type 0
ArrivalsTied = (k : ℕ) (v : ValueTree) (c : Core) → CellsTied c → TiedUnlessStopped (arrive k v c)

abbrev pub BootsTied : Type 0
BootsTied =
    (class : ℕ) (name : List ℕ) (c : Core) → Orderly c → CellsTied c
    → TiedUnlessStopped (boot_core class name c)

abbrev pub StopsTied : Type 0
StopsTied = (c : Core) → CellsTied c → CellsTied (stop c)

-- They hold of a process that never ran, and after a loss of power.
abbrev pub IdleTied : Type 0
IdleTied = CellsTied idle_core

abbrev pub VanishedTied : Type 0
VanishedTied = (p : Proc Frame) → CellsTied (vanish p).core

-- A step makes a cell for something only where it makes the cell, and no cell is made a second time.
abbrev pub OwnersStay : Type 0
OwnersStay =
    (r : RawTree) (s : Supply) (p : Proc Frame) (q : Stepped Frame) → Orderly p.core → CellsTied p.core
    → step (classes r) s p ≡ Some q
    → UnlessStopped q.0.core.halted
    ((p.core.made ≤ q.0.core.made) × ((k : ℕ) → k < suc p.core.made → owners_of k q.0.core ≤ owners_of k p.core))
