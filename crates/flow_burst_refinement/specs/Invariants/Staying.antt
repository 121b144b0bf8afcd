-- What a process in memory keeps in each step: the time, that numbers rise, and which cells are streams of ports, unless it tells
-- that one is so no more.
use Rattle.std.specs.Prelude.{◌≡◌, ℕ, List}
use Rattle.std.specs.declared.option.Option.{Option}
use Rattle.std.specs.declared.option.Option.TheVariants.{None, Some}
use Rattle.flow_numbered.specs.Numbered.{IsRising}
use Rattle.flow_code.specs.declared.program.Code.{Code}
use Rattle.flow_cancel.specs.declared.task.Task.{Task}
use Rattle.flow_cancel.specs.Heap.{HeapTree, without_number}
use Rattle.flow_heap_refinement.specs.Rested.{Sorted}
use Rattle.flow_steps.specs.declared.call.Call.{Call}
use Rattle.flow_steps.specs.declared.call.Call.TheVariants as call
use Rattle.flow_steps.specs.declared.frames.ControlPoint.{ControlPoint}
use Rattle.flow_steps.specs.declared.next.Pace.{Pace}
use Rattle.flow_steps.specs.declared.process.Process.{Process}
use Rattle.flow_steps.specs.Stepping.{StepsOn, Runs}
use Rattle.flow_steps.specs.Tasks.{TopTaken, IsDone}

-- the numbers of things rise in each store of a heap
pub record StoresRise (h : HeapTree) : Type 0 where
  pub cells : IsRising 0 h.cells.things h.cells.greatest
  pub streams : IsRising 0 h.streams.things h.streams.greatest
  pub actors : IsRising 0 h.actors.things h.actors.greatest
  pub frames : IsRising 0 h.frames.things h.frames.greatest

-- the streams of ports after a step that asks this
abbrev pub ports_after : Option Call → List ℕ → List ℕ
ports_after (Some (call.Unlisten k)) ps = without_number ps k.0
ports_after _ ps = ps

pub record Stays (m n : Process) : Type 0 where
  pub time : n.time ≡ m.time
  pub rise : StoresRise m.heap → StoresRise n.heap
  pub ports : n.heap.ports ≡ ports_after n.asked m.heap.ports

-- A step of an actor keeps it, and so do a row of them and each task that is done. A step after which the actor goes on at once
-- asks for nothing.
abbrev pub StepStays : Type 0
StepStays = (code : Code) (s : ControlPoint) (m n : Process) (pace : Pace) → m.asked ≡ None → StepsOn code s m pace n → Stays m n

abbrev pub RunsStay : Type 0
RunsStay = (code : Code) (s : ControlPoint) (m n : Process) → m.asked ≡ None → Runs code s m n → Stays m n

abbrev pub TaskStays : Type 0
TaskStays =
    (code : Code) (t : Task) (m start n : Process) → m.asked ≡ None → TopTaken t m start → IsDone code t start n → Stays m n

-- So the order of a heap stays.
abbrev pub SortedStays : Type 0
SortedStays = (m n : Process) → Stays m n → Sorted m.heap → Sorted n.heap
