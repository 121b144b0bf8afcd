-- The promise side of a cell, where only what the process made it for refers to it.
use Rattle.std.specs.Prelude.{◌≡◌, ℕ, suc, ◌+◌, ◌<◌, ◌&&◌, not, nat_eq, [], ◌∷◌}
use Rattle.std.specs.declared.option.Option.TheVariants.{Some}
use Rattle.flow_class.specs.Classes.{RawTree}
use Rattle.flow_heap_refinement.specs.Evaluation.{Rule}
use Rattle.flow_numbered.specs.Numbered.{Numbered}
use Rattle.flow_meaning.specs.Cells.{PromiseSide, side_of}
use Rattle.flow_meaning.specs.Requests.{Supply, Effect, Start, Delay, Never, Listen, Disk}
use Rattle.flow_meaning.specs.Process.{Entry, Core, Proc}
use Rattle.flow_meaning.specs.References.{same_side, count_maybe, in_ports, in_requests}
use Rattle.flow_meaning.specs.Step.{Stepped, step}
use Rattle.flow_meaning.specs.Class.{classes}
use Rattle.flow_meaning.specs.Frame.{Frame}
use Rattle.flow_heap_refinement.specs.Counted.{references}
use Rattle.flow_heap_refinement.specs.Rested.{InNumbers}
use Rattle.flow_heap_refinement.specs.Naming.{EntriesNamed, ProcNamed, HoldsNew}

-- the rule that no reference is to the promise side of a cell
abbrev pub spares : ℕ → Rule
spares k kd j = not (same_side PromiseSide (side_of kd) && nat_eq k j)

-- no value, operand or task refers to it
abbrev pub Alone : ℕ → Proc Frame → Type 0
Alone k = ProcNamed (spares k)

-- the unfinished actors whose result a cell is
abbrev pub results_at : ℕ → Numbered Entry → ℕ
results_at k [] = 0
results_at k (x ∷ xs) = count_maybe PromiseSide k PromiseSide x.1.result + results_at k xs

-- what the process made a cell for: the results of actors, the streams of ports, and open requests
abbrev pub owners_of : ℕ → Core → ℕ
owners_of k c = results_at k c.entries + in_ports PromiseSide k c.ports + in_requests PromiseSide k c.requests

-- Then these alone are counted.
abbrev pub OwnersCounted : Type 0
OwnersCounted = (k : ℕ) (p : Proc Frame) → Alone k p → references PromiseSide k p ≡ owners_of k p.core

-- And it is so where these alone are counted, or nothing is; but the operands of waits aren't counted.
abbrev pub NobodyElse : Type 0
NobodyElse =
    (k : ℕ) (p : Proc Frame) → EntriesNamed (spares k) p.core.entries
    → references PromiseSide k p ≡ owners_of k p.core → Alone k p

abbrev pub NobodyYet : Type 0
NobodyYet =
    (k : ℕ) (p : Proc Frame) → EntriesNamed (spares k) p.core.entries → references PromiseSide k p ≡ 0
    → Alone k p

-- It stays so: each step keeps it of a cell that was made.
abbrev pub StaysAlone : Type 0
StaysAlone =
    (r : RawTree) (k : ℕ) (s : Supply) (p : Proc Frame) (t : Stepped Frame) → k < suc p.core.made → Alone k p
    → step (classes r) s p ≡ Some t → Alone k t.0

-- It is so of a cell that is made for an actor, a timer, a port or the disk: such effects give a future of it.
abbrev pub IsOwned : Effect → Type 0
IsOwned (Start class args) = Unit {0}
IsOwned (Delay ticks) = Unit {0}
IsOwned Never = Unit {0}
IsOwned (Listen port) = Unit {0}
IsOwned (Disk call) = Unit {0}
IsOwned _ = ⊥

abbrev pub BornAlone : Type 0
BornAlone = (n k : ℕ) (eff : Effect) → IsOwned eff → HoldsNew (spares k) n eff

-- A cell is the stream of one port at most, and of one open request, and a cell that isn't made is neither.
abbrev pub PortsOnce : Type 0
PortsOnce =
    (c : Core) (k : ℕ) → InNumbers c
    → (in_ports PromiseSide k c.ports < 2) × (c.made < k → in_ports PromiseSide k c.ports ≡ 0)

abbrev pub RequestsOnce : Type 0
RequestsOnce =
    (c : Core) (k : ℕ) → InNumbers c
    → (in_requests PromiseSide k c.requests < 2) × (c.made < k → in_requests PromiseSide k c.requests ≡ 0)

-- A cell is made for one thing at most, and one that isn't made for nothing.
abbrev pub FewAt : (made k n : ℕ) → Type 0
FewAt made k n = (n < 2) × (made < k → n ≡ 0)

abbrev pub OwnedOnce : Core → Type 0
OwnedOnce c = (k : ℕ) → FewAt c.made k (owners_of k c)

-- Then there is one promise reference, where nobody else refers.
abbrev pub OneReference : Type 0
OneReference =
    (k : ℕ) (p : Proc Frame) → OwnedOnce p.core → Alone k p → 0 < owners_of k p.core
    → references PromiseSide k p ≡ 1
