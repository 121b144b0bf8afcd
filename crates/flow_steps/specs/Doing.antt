-- What a process does to its own state.
use Rattle.std.specs.Prelude.{ℕ, ◌-◌, nat_lt, false, true, if◌then◌else◌}
use Rattle.std.specs.declared.option.Option.TheVariants.{None, Some}
use Rattle.std.specs.declared.alloc.Global.{Global}
use Rattle.flow_trace.specs.declared.line.Line.{Line}
use Rattle.flow_trace.specs.declared.line.Line.TheVariants.{Cancel}
use Rattle.flow_steps.specs.declared.call.Call.{Call}
use Rattle.flow_steps.specs.declared.call.Call.TheVariants as call
use Rattle.flow_cancel.specs.declared.task.Task.{Task}
use Rattle.flow_cancel.specs.Heap.{no_heap, pushed, cleared}
use Rattle.flow_cancel.specs.Leaving.{withdrawn, cancelled}
use Rattle.flow_steps.specs.declared.process.Process.{Process}

-- a process that never ran
abbrev pub never_ran : Global → Process
never_ran alloc = record { alloc = alloc; heap = no_heap; time = 0; left = 0; spent = false; asked = None }

-- an event begins at a time, in ticks, with its budget of turns
abbrev pub begun : (now turns : ℕ) → Process → Process
begun now turns p = record p { time = now; left = turns; spent = false }

-- a loss of power: everything goes but the numbers given so far
abbrev pub vanished : Process → Process
vanished p = record p { heap = cleared p.heap; spent = false }

-- a turn is taken where one is left; where none is, the event is spent
abbrev pub turned : Process → Process
turned p = if nat_lt 0 p.left then record p { left = p.left - 1 } else record p { spent = true }

-- a task comes on top
abbrev pub doing : Task → Process → Process
doing t p = record p { heap = pushed t p.heap }

-- the operands of an actor leave all cells, and are dropped
abbrev pub departed : (actor : ℕ) → Process → Process
departed i p = record p { heap = withdrawn i p.heap }

-- the step asks this of the world, or that a line be written
abbrev pub asking : Call → Process → Process
asking c p = record p { asked = Some c }

abbrev pub telling : Line → Process → Process
telling l p = asking (call.Line l) p

-- nothing is asked any more
abbrev pub unasked : Process → Process
unasked p = record p { asked = None }

-- an actor is marked as cancelled, and leaves its wait if it is suspended; the line is asked for
abbrev pub stopped : (actor : ℕ) → Process → Process
stopped i p = telling (Cancel (record { 0 = i })) (record p { heap = cancelled i p.heap })
