-- The state of a world between events, as contracts see it.
use Rattle.std.specs.Prelude.{ℕ, Bool, List, map}
use Rattle.flow_base.specs.declared.ids.CellId.{CellId}
use Rattle.flow_base.specs.declared.ids.ProcId.{ProcId}
use Rattle.flow_worldfile.specs.Worlds.{World, seen}
use Rattle.flow_heapstate.specs.State.{Parts, parts_kept}
use Rattle.flow_simdisk.specs.Disk.{Disk}
use Rattle.flow_simdisk.specs.Stored.{files_in}
use Rattle.flow_simdisk.specs.declared.state.DiskState.{DiskState}
use Rattle.flow_saved.specs.declared.state.PendingEvent.{PendingEvent}
use Rattle.flow_saved.specs.declared.state.ProcState.{ProcState}
use Rattle.flow_saved.specs.declared.state.WorldState.{WorldState}

-- a process: whether it is up, the parts of its heap, its ports with their streams, and its disk
pub record SavedProcess : Type 0 where
  pub up : Bool
  pub heap : Parts
  pub ports : List (ℕ × CellId)
  pub disk : Disk

-- The file of a world; how many events have run, the time, how many lines of the script are done, how many words were drawn, pending
-- events made and packets sent; the cut links; the pending events; and the processes by number.
pub record Saved : Type 0 where
  pub file : World
  pub events : ℕ
  pub time : ℕ
  pub script : ℕ
  pub words : ℕ
  pub made : ℕ
  pub packets : ℕ
  pub cuts : List (ProcId × ProcId)
  pub pending : List PendingEvent
  pub processes : List SavedProcess

abbrev pub disk_saved : DiskState → Disk
disk_saved s = record { fails = s.fails; files = files_in s.files.items }

abbrev pub process_saved : ProcState → SavedProcess
process_saved s = record {
  up = s.up;
  heap = parts_kept s.heap;
  ports = s.ports.items;
  disk = disk_saved s.disk;
}

abbrev pub saved_of : WorldState → Saved
saved_of s = record {
  file = seen s.world0;
  events = s.events;
  time = s.time;
  script = s.script;
  words = s.words;
  made = s.made;
  packets = s.packets;
  cuts = s.cuts.items;
  pending = s.pending.items;
  processes = map process_saved s.processes.items;
}
