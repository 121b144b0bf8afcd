-- What a world can be made from: numbers in their ranges, things in their order, and what refers to what exists. Whether a state fits
-- the classes of a program is not said here.
use Rattle.std.specs.Prelude.{◌≡◌, ◌≢◌, ◌<◌, ◌≤◌, ◌^◌, ℕ, List, [], ◌∷◌, length}
use Rattle.std.specs.List.{All, AllByRecursion}
use Rattle.flow_base.specs.declared.ids.CellId.{CellId}
use Rattle.flow_worldfile.specs.Worlds.{IsInRange}
use Rattle.flow_heapstate.specs.Sound.{SoundHeap}
use Rattle.flow_simdisk.specs.declared.TheConstants.{FILE_BYTES}
use Rattle.flow_simdisk.specs.Disk.{File}
use Rattle.flow_simdisk.specs.Stored.{FitsFile, IsThere}
use Rattle.flow_simnet.specs.Links.{AreBelow}
use Rattle.flow_saved.specs.Requests.{IsAllowed}
use Rattle.flow_saved.specs.declared.state.What.{What}
use Rattle.flow_saved.specs.declared.state.What.TheVariants.{Boot, Timer, Arrival, Ask}
use Rattle.flow_saved.specs.Saved.{SavedProcess, Saved}

-- each port stands once, and each stream
abbrev pub PortsOnce : List (ℕ × CellId) → Type 0
PortsOnce [] = Unit {0}
PortsOnce (x ∷ xs) = AllByRecursion (λ y. (x.0 ≢ y.0) × (x.1.0 ≢ y.1.0)) xs × PortsOnce xs

-- no byte of a file is past its end, each unsynced write has a byte, and the file has a durable byte or a write
pub record IsStored (f : File) : Type 0 where
  pub durable_fits : length f.durable ≤ FILE_BYTES
  pub writes_fit : All FitsFile f.unsynced
  pub there : IsThere f

-- a process can go on
pub record CanRun (s : SavedProcess) : Type 0 where
  pub heap : SoundHeap s.heap
  pub ports : PortsOnce s.ports
  pub files : AllByRecursion (λ f. IsStored f.1) s.disk.files

-- the arguments of a request to a disk are in their ranges
abbrev pub CanCome : What → Type 0
CanCome (Boot p) = Unit {0}
CanCome (Timer p cell) = Unit {0}
CanCome (Arrival packet) = Unit {0}
CanCome (Ask p cell request) = IsAllowed request

-- a world can go on
pub record CanResume (s : Saved) : Type 0 where
  pub file : IsInRange s.file
  pub time : s.time < 2 ^ 63
  pub words : s.words ≤ 2 ^ 62
  pub cuts : AreBelow s.file.processes s.cuts
  pub pending : AllByRecursion (λ e. CanCome e.what) s.pending
  pub count : length s.processes ≡ s.file.processes
  pub processes : AllByRecursion CanRun s.processes

-- At most 2^62 cells and actors of a process were numbered,
pub record HasNumberedFew (s : SavedProcess) : Type 0 where
  pub cells : s.heap.cells_made ≤ 2 ^ 62
  pub actors : s.heap.actors_made ≤ 2 ^ 62

-- and as many words drawn, pending events made and packets sent.
pub record HasGivenFew (s : Saved) : Type 0 where
  pub words : s.words ≤ 2 ^ 62
  pub made : s.made ≤ 2 ^ 62
  pub packets : s.packets ≤ 2 ^ 62
  pub processes : AllByRecursion HasNumberedFew s.processes
