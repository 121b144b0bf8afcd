-- A process made from what memory tells of another one goes on like it.
use Rattle.std.specs.Prelude.{◌≡◌, ℕ, List, [], ◌∷◌}
use Rattle.std.specs.declared.alloc.Global.{Global}
use Rattle.flow_class.specs.Classes.{RawTree}
use Rattle.flow_numbered.specs.Numbered.{IsRising}
use Rattle.flow_cancel.specs.Heap.{HeapTree}
use Rattle.flow_heapstate.specs.declared.state.HeapState.{HeapState}
use Rattle.flow_heapstate.specs.State.{parts_of, parts_kept}
use Rattle.flow_heapstate.specs.Sound.{SoundHeap, RestsWith}
use Rattle.flow_heapstate.specs.Restoring.{restored, RisesFrom}
use Rattle.flow_meaning.specs.Frame.{Frame}
use Rattle.flow_meaning.specs.Process.{Proc}
use Rattle.flow_machine.specs.declared.machine.Machine.{Machine}
use Rattle.flow_machine.specs.Resting.{RestsAs}
use Rattle.flow_restore_laws.specs.Rest.Boundary.{IsAtRest}
use Rattle.flow_restore_laws.specs.States.Worlds.{IsTold}

-- numbers that rise strictly
abbrev pub Increase : List ℕ → Type 0
Increase [] = Unit {0}
Increase (k ∷ ks) = RisesFrom k ks

-- What a heap's own types keep, and its parts don't tell: the numbers of actors, of ports' streams
-- and of open requests stand in their order.
pub record HeapInOrder (h : HeapTree) : Type 0 where
  pub actors : IsRising 0 h.actors.things h.actors.greatest
  pub ports : Increase h.ports
  pub requests : Increase h.requests

-- The heap that flow_heapstate fills from a sound state is in order, and rests with its parts.
abbrev pub RestoredInOrder : Type 0
RestoredInOrder =
    (s : HeapState) → SoundHeap (parts_kept s)
    → RestsWith (parts_kept s) (restored s) × HeapInOrder (restored s)

-- What `Machine::restore` makes, of the same number among as many, of what `Machine::state` tells of
-- a process: its contract says both, that it rests with the state and that its heap is the one filled.
pub record IsMadeFrom (m n : Machine) : Type 0 where
  pub alloc : Global
  pub state : HeapState
  pub told : parts_kept state ≡ parts_of m.process.heap
  pub rests : RestsAs alloc m.me m.processes (parts_kept state) n
  pub made : n.process.heap ≡ restored state

-- Where a process in memory is at rest and shows one of the definitions, a process made from its
-- state is at rest and shows the same one; and what is told of it is sound again.
abbrev pub ProcessesRestored : Type 0
ProcessesRestored =
    (r : RawTree) (m n : Machine) (p : Proc Frame) → IsAtRest r m.process p → IsTold m.process
    → IsMadeFrom m n → IsAtRest r n.process p × IsTold n.process
