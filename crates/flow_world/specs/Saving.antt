-- What a world between events tells of itself.
use Rattle.std.specs.Prelude.{◌≡◌, ◌-◌, ℕ, List, [], ◌∷◌, map, length, slice_get}
use Rattle.std.specs.declared.option.Option.TheVariants.{Some}
use Rattle.flow_base.specs.declared.ids.CellId.{CellId}
use Rattle.flow_worldfile.specs.Worlds.{seen}
use Rattle.flow_heapstate.specs.State.{parts_of, NumbersRise}
use Rattle.flow_timers.specs.Pending.{Pending}
use Rattle.flow_simnet.specs.declared.packet.Packet.{Packet}
use Rattle.flow_simnet.specs.Links.{cut_links, packets_of}
use Rattle.flow_simdisk.specs.Disk.{Disk}
use Rattle.flow_saved.specs.declared.state.PendingEvent.{PendingEvent}
use Rattle.flow_saved.specs.declared.state.What as saved
use Rattle.flow_saved.specs.declared.state.What.TheVariants.{Boot, Timer, Arrival, Ask}
use Rattle.flow_saved.specs.Saved.{SavedProcess, Saved}
use Rattle.flow_world.specs.declared.outside.What.{What}
use Rattle.flow_world.specs.declared.outside.What.TheVariants.{Boots, Rings, Arrives, Answers}
use Rattle.flow_world.specs.declared.place.Place.{Place}
use Rattle.flow_world.specs.Changes.{Surroundings}
use Rattle.flow_world.specs.Ending.{Seen}

-- a packet of this number for this process is on its way
pub record IsOnWay (on_way : List Packet) (to number : ℕ) (p : Packet) : Type 0 where
  pub number_is : p.number ≡ number
  pub to_is : p.to.0 ≡ to
  pub place : ℕ
  pub there : slice_get on_way place ≡ Some p

abbrev pub PacketTold : List Packet → (to number : ℕ) → saved.What → Type 0
PacketTold on_way to number (Arrival packet) = IsOnWay on_way to number packet
PacketTold on_way to number _ = ⊥

-- What happens when a pending event comes: a packet on its way stands with its event.
abbrev pub WhatTold : List Packet → What → saved.What → Type 0
WhatTold on_way (Boots p) x = x ≡ Boot p
WhatTold on_way (Rings p cell) x = x ≡ Timer p cell
WhatTold on_way (Arrives p number) x = PacketTold on_way p.0 number x
WhatTold on_way (Answers p cell asked) x = x ≡ Ask p cell asked

pub record EventTold (on_way : List Packet) (e : Pending What) (x : PendingEvent) : Type 0 where
  pub time : x.time ≡ e.time
  pub number : x.number ≡ e.number
  pub what : WhatTold on_way e.what x.what

abbrev pub EventsTold : List Packet → List (Pending What) → List PendingEvent → Type 0
EventsTold on_way [] [] = Unit {0}
EventsTold on_way [] (x ∷ xs) = ⊥
EventsTold on_way (e ∷ es) [] = ⊥
EventsTold on_way (e ∷ es) (x ∷ xs) = EventTold on_way e x × EventsTold on_way es xs

-- ports with their streams, as numbers
abbrev pub numbers_of : List (ℕ × CellId) → List (ℕ × ℕ)
numbers_of ports = map (λ x. (x.0, x.1.0)) ports

-- A process and its disk.
pub record ProcessTold (at : Place) (d : Disk) (x : SavedProcess) : Type 0 where
  pub up : x.up ≡ at.up
  pub heap : NumbersRise at.machine.process.heap → x.heap ≡ parts_of at.machine.process.heap
  pub ports : numbers_of x.ports ≡ at.ports.streams.entries
  pub disk : x.disk ≡ d

-- Each process has a disk.
abbrev pub ProcessesTold : List Place → List Disk → List SavedProcess → Type 0
ProcessesTold [] ds xs = xs ≡ []
ProcessesTold (at ∷ ats) [] xs = ⊥
ProcessesTold (at ∷ ats) (d ∷ ds) [] = ⊥
ProcessesTold (at ∷ ats) (d ∷ ds) (x ∷ xs) = ProcessTold at d x × ProcessesTold ats ds xs

-- What is outside of the processes but the script and what its file says, and their disks.
pub record OutsideTold (w : Surroundings) (s : Saved) : Type 0 where
  pub time : s.time ≡ w.time
  pub words : s.words ≡ w.draws.used
  pub made : s.made ≡ w.timers.made
  pub packets : s.packets ≡ w.net.sent
  pub cuts : s.cuts ≡ cut_links 0 w.net.cuts
  pub pending : EventsTold (packets_of w.net.on_way) w.timers.pending s.pending

-- All that a world has to keep from one event to the next. Of the script it is told how many lines of that of the file aren't left.
pub record SavedAs (w : Seen) (s : Saved) : Type 0 where
  pub file : s.file ≡ seen w.file
  pub events : s.events ≡ w.ran
  pub script : s.script ≡ length w.file.script.items - length w.script
  pub outside : OutsideTold w.outside s
  pub processes : ProcessesTold w.places w.outside.disks s.processes
