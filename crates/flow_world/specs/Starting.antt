-- A world before its first event.
use Rattle.std.specs.Prelude.{◌≡◌, ℕ, suc, false, List, [], ◌∷◌, map, length, replicate}
use Rattle.std.specs.List.{range_with_len}
use Rattle.std.specs.List.Sorted.{IsPermutation, IsSortedByKey, IsStableByKey}
use Rattle.std.specs.Ordering.{nat_cmp}
use Rattle.std.specs.declared.alloc.Global.{Global}
use Rattle.flow_worldfile.specs.declared.world.At.{At}
use Rattle.flow_worldfile.specs.declared.world.World0.{World0}
use Rattle.flow_class.specs.declared.class.RawClasses.{RawClasses}
use Rattle.flow_class.specs.View.{raw_of}
use Rattle.flow_code.specs.Coded.{IsCoded}
use Rattle.flow_code.specs.declared.program.Code.{Code}
use Rattle.flow_draw.specs.Words.{drawn_from}
use Rattle.flow_timers.specs.Pending.{Pending, Queue}
use Rattle.flow_simnet.specs.Links.{open_links}
use Rattle.flow_steps.specs.Doing.{never_ran}
use Rattle.flow_world.specs.declared.outside.What.{What}
use Rattle.flow_world.specs.declared.outside.What.TheVariants.{Boots}
use Rattle.flow_world.specs.declared.place.Place.{Place}
use Rattle.flow_world.specs.Changes.{Surroundings}
use Rattle.flow_world.specs.Ending.{Seen}
use Rattle.flow_world.specs.Ports.{PortsRepresent}

-- a process of so many that never ran: it is down, and listens at no port
pub record IsFresh (processes number : ℕ) (at : Place) : Type 0 where
  pub memory : Global
  pub down : at.up ≡ false
  pub me : at.machine.me.0 ≡ number
  pub processes_are : at.machine.processes ≡ processes
  pub never : at.machine.process ≡ never_ran memory
  pub ports : PortsRepresent at.ports []

-- those from a number on
abbrev pub AreFresh : (processes first : ℕ) → List Place → Type 0
AreFresh n k [] = Unit {0}
AreFresh n k (x ∷ xs) = IsFresh n k x × AreFresh n (suc k) xs

-- a boot of each process is pending at time 0, in the order of their numbers
abbrev pub boot_of : (process : ℕ) → Pending What
boot_of p = record { time = 0; number = suc p; what = Boots (record { 0 = p }) }

abbrev pub boots : (processes : ℕ) → Queue What
boots n = record { made = n; pending = map boot_of (range_with_len 0 n) }

-- what is outside then, with room for so many notes of what words were asked for
abbrev pub outside_at_start : (room : ℕ) → World0 → Surroundings
outside_at_start room w = record {
  time = 0;
  timers = boots w.processes;
  net = open_links w.processes w.latency w.loss;
  disks = replicate w.processes (record { fails = 0; files = [] });
  draws = record (drawn_from w.seed w.words.items 0) { room = room };
  disk_delay = w.diskdelay;
}

-- the lines of a script in the order in which they come: by time, and at one time in the order of the file
pub record ScriptInOrder (written : List At) (lines : List At) : Type 0 where
  pub same : IsPermutation written lines
  pub sorted : IsSortedByKey (λ line. line.time) nat_cmp lines
  pub stable : IsStableByKey (λ line. line.time) nat_cmp written lines

-- these classes as they are run
pub record IsCodeOf (classes : RawClasses) (code : Code) : Type 0 where
  pub program : code.program ≡ classes
  pub coded : IsCoded (raw_of classes) code.fields code.classes.items code.main

-- the world that a file describes, with these classes and their code, before its first event, whatever its room for notes
pub record Starts (classes : RawClasses) (from : World0) (w : Seen) : Type 0 where
  pub code : IsCodeOf classes w.code
  pub count : length w.places ≡ from.processes
  pub places : AreFresh from.processes 0 w.places
  pub outside : w.outside ≡ outside_at_start w.outside.draws.room from
  pub script : ScriptInOrder from.script.items w.script
  pub ran : w.ran ≡ 0
  pub bound : w.bound ≡ from.events
  pub turns : w.turns ≡ from.turns
  pub ended : w.ended ≡ false
  pub file : w.file ≡ from
