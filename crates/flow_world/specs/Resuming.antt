-- A world that goes on from a state that was kept.
use Rattle.std.specs.Prelude.{◌≡◌, ℕ, suc, false, List, [], ◌∷◌, map, drop, replicate}
use Rattle.std.specs.List.{flat_map}
use Rattle.std.specs.declared.alloc.Global.{Global}
use Rattle.flow_base.specs.declared.ids.ProcId.{ProcId}
use Rattle.flow_class.specs.declared.class.RawClasses.{RawClasses}
use Rattle.flow_worldfile.specs.declared.world.At.{At}
use Rattle.flow_worldfile.specs.Worlds.{seen}
use Rattle.flow_heapstate.specs.declared.state.HeapState.{HeapState}
use Rattle.flow_heapstate.specs.State.{parts_kept}
use Rattle.flow_heapstate.specs.Restoring.{restored}
use Rattle.flow_draw.specs.Words.{drawn_from}
use Rattle.flow_timers.specs.Pending.{Pending, in_order}
use Rattle.flow_simnet.specs.declared.packet.Packet.{Packet}
use Rattle.flow_simnet.specs.Links.{open_links, all_cut, all_on_way}
use Rattle.flow_simdisk.specs.Disk.{Disk}
use Rattle.flow_simdisk.specs.Stored.{in_order_of_names}
use Rattle.flow_machine.specs.Resting.{RestsAs}
use Rattle.flow_saved.specs.declared.state.PendingEvent.{PendingEvent}
use Rattle.flow_saved.specs.declared.state.What as saved
use Rattle.flow_saved.specs.declared.state.What.TheVariants.{Boot, Timer, Arrival, Ask}
use Rattle.flow_saved.specs.Saved.{SavedProcess, Saved}
use Rattle.flow_world.specs.declared.outside.What.{What}
use Rattle.flow_world.specs.declared.outside.What.TheVariants.{Boots, Rings, Arrives, Answers}
use Rattle.flow_world.specs.declared.place.Place.{Place}
use Rattle.flow_world.specs.Changes.{Surroundings}
use Rattle.flow_world.specs.Ending.{Seen}
use Rattle.flow_world.specs.Ports.{PortsRepresent}
use Rattle.flow_world.specs.Saving.{numbers_of}
use Rattle.flow_world.specs.Starting.{IsCodeOf, ScriptInOrder}

-- What happens when a pending event comes, and the packet that it brings: this is on its way.
abbrev pub what_made : saved.What → What
what_made (Boot p) = Boots p
what_made (Timer p cell) = Rings p cell
what_made (Arrival packet) = Arrives packet.to packet.number
what_made (Ask p cell request) = Answers p cell request

abbrev pub event_made : PendingEvent → Pending What
event_made e = record { time = e.time; number = e.number; what = what_made e.what }

abbrev pub packets_in : saved.What → List Packet
packets_in (Arrival packet) = packet ∷ []
packets_in _ = []

-- a disk, its files in their places
abbrev pub disk_made : Disk → Disk
disk_made d = record { fails = d.fails; files = in_order_of_names d.files }

-- all that is outside of the processes but the script
abbrev pub outside_made : Saved → Surroundings
outside_made s = record {
  time = s.time;
  timers = record { made = s.made; pending = in_order (map event_made s.pending) };
  net = record (open_links s.file.processes s.file.latency s.file.loss) {
    sent = s.packets;
    cuts = all_cut (replicate 4096 false) s.cuts;
    on_way = all_on_way [] (flat_map (λ e. packets_in e.what) s.pending);
  };
  disks = map (λ p. disk_made p.disk) s.processes;
  draws = drawn_from s.file.seed s.file.words s.words;
  disk_delay = s.file.diskdelay;
}

-- a process of so many, by its number: its heap rests with the parts that were kept, and all else is as in one that never ran
pub record PlaceMade (processes number : ℕ) (s : SavedProcess) (at : Place) : Type 0 where
  pub memory : Global
  pub me : ProcId
  pub me_is : me.0 ≡ number
  pub heap : HeapState
  pub heap_is : parts_kept heap ≡ s.heap
  pub rests : RestsAs memory me processes (parts_kept heap) at.machine
  pub made : at.machine.process.heap ≡ restored heap
  pub up : at.up ≡ s.up
  pub ports : PortsRepresent at.ports (numbers_of s.ports)

-- those from a number on
abbrev pub PlacesMade : (processes first : ℕ) → List SavedProcess → List Place → Type 0
PlacesMade n k [] [] = Unit {0}
PlacesMade n k [] (at ∷ ats) = ⊥
PlacesMade n k (s ∷ ss) [] = ⊥
PlacesMade n k (s ∷ ss) (at ∷ ats) = PlaceMade n k s at × PlacesMade n (suc k) ss ats

-- the lines of a script that are left after so many
pub record ScriptLeft (written : List At) (done : ℕ) (left : List At) : Type 0 where
  pub lines : List At
  pub in_order : ScriptInOrder written lines
  pub left_is : left ≡ drop done lines

-- the world of a state, with these classes and their code, between events
pub record MadeFrom (classes : RawClasses) (s : Saved) (w : Seen) : Type 0 where
  pub code : IsCodeOf classes w.code
  pub places : PlacesMade s.file.processes 0 s.processes w.places
  pub outside : w.outside ≡ outside_made s
  pub script : ScriptLeft w.file.script.items s.script w.script
  pub ran : w.ran ≡ s.events
  pub bound : w.bound ≡ s.file.events
  pub turns : w.turns ≡ s.file.turns
  pub ended : w.ended ≡ false
  pub file : seen w.file ≡ s.file
