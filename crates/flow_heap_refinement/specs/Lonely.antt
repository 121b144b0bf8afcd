-- Nobody else refers to the promise side of what a process made a cell for.
use Rattle.std.specs.Prelude.{◌≡◌, ◌⊎◌, ℕ, ◌<◌, true}
use Rattle.std.specs.declared.option.Option.TheVariants.{Some}
use Rattle.flow_value.specs.Values.{ValueTree, OutcomeTree}
use Rattle.flow_class.specs.Classes.{RawTree}
use Rattle.flow_heap_refinement.specs.Evaluation.{Named}
use Rattle.flow_meaning.specs.Requests.{Supply}
use Rattle.flow_meaning.specs.Process.{Proc}
use Rattle.flow_meaning.specs.Orderly.{Orderly, UnlessStopped}
use Rattle.flow_meaning.specs.Step.{Stepped, proc, step}
use Rattle.flow_meaning.specs.Class.{classes}
use Rattle.flow_meaning.specs.Deliver.{idle, vanish, deliver, arrive, boot, stop}
use Rattle.flow_meaning.specs.Frame.{Frame}
use Rattle.flow_heap_refinement.specs.Naming.{OutcomeNamed}
use Rattle.flow_heap_refinement.specs.Rested.{has}
use Rattle.flow_heap_refinement.specs.Alone.{spares, owners_of, Alone}
use Rattle.flow_heap_refinement.specs.CellsTied.{CellsTied}

-- Nobody else refers to the promise side of a cell that a process made for something, and nobody to that of a cell that isn't
-- made yet.
abbrev pub OwnedAlone : Proc Frame → Type 0
OwnedAlone p = (k : ℕ) → (0 < owners_of k p.core) ⊎ (p.core.made < k) → Alone k p

-- Each step keeps it.
abbrev pub StepsLonely : Type 0
StepsLonely =
    (r : RawTree) (s : Supply) (p : Proc Frame) (q : Stepped Frame) → Orderly p.core → CellsTied p.core
    → OwnedAlone p
    → step (classes r) s p ≡ Some q → UnlessStopped q.0.core.halted (OwnedAlone q.0)

-- It is so of a process that never ran, and after a loss of power.
abbrev pub IdleLonely : Type 0
IdleLonely = OwnedAlone idle

abbrev pub VanishedLonely : Type 0
VanishedLonely = (p : Proc Frame) → OwnedAlone (vanish p)

-- What is brought to a process keeps it, where it refers to nothing in the process, and an answer is one to an open request.
abbrev pub DeliveriesLonely : Type 0
DeliveriesLonely =
    (k : ℕ) (o : OutcomeTree) (p : Proc Frame) → CellsTied p.core → has k p.core.requests ≡ true
    → ((j : ℕ) → OutcomeNamed (spares j) o) → OwnedAlone p
    → UnlessStopped (deliver k o p.core).halted (OwnedAlone (proc (deliver k o p.core) p.actors))

abbrev pub ArrivalsLonely : Type 0
ArrivalsLonely =
    (k : ℕ) (v : ValueTree) (p : Proc Frame) → CellsTied p.core → ((j : ℕ) → Named (spares j) v) → OwnedAlone p
    → UnlessStopped (arrive k v p.core).halted (OwnedAlone (proc (arrive k v p.core) p.actors))

abbrev pub BootsLonely : Type 0
BootsLonely =
    (r : RawTree) (me : ℕ) (p : Proc Frame) → Orderly p.core → CellsTied p.core → OwnedAlone p
    → UnlessStopped (boot (classes r) me p).core.halted (OwnedAlone (boot (classes r) me p))

abbrev pub StopsLonely : Type 0
StopsLonely = (p : Proc Frame) → OwnedAlone p → OwnedAlone (proc (stop p.core) p.actors)
