-- A machine between events.
use Rattle.std.specs.Prelude.{◌≡◌, ℕ}
use Rattle.std.specs.declared.alloc.Global.{Global}
use Rattle.flow_base.specs.declared.ids.ProcId.{ProcId}
use Rattle.flow_heapstate.specs.State.{Parts}
use Rattle.flow_heapstate.specs.Sound.{RestsWith}
use Rattle.flow_steps.specs.Doing.{never_ran}
use Rattle.flow_machine.specs.declared.machine.Machine.{Machine}

-- One process of so many, by its number: its heap rests with these parts, each reference counted, and
-- all else is as in a process that never ran.
pub record RestsAs (alloc : Global) (me : ProcId) (processes : ℕ) (p : Parts) (m : Machine) : Type 0 where
  pub number : m.me ≡ me
  pub count : m.processes ≡ processes
  pub heap : RestsWith p m.process.heap
  pub process : m.process ≡ record (never_ran alloc) { heap = m.process.heap }
