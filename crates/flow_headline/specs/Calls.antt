-- Calls of the program: what they ask for, over which files, and what they come to.
use Rattle.std.specs.Prelude.{◌≡◌, ◌≤◌, ℕ, List, ◌++◌, length}
use Rattle.std.specs.declared.option.Option.TheVariants.{Some}
use Rattle.flow_base.specs.Faults.{Rose, next_count}
use Rattle.flow_base.specs.Seen.{Bytes, FilesSeen, SinkSeen}
use Rattle.flow_trace.specs.declared.line.Line.{Line}
use Rattle.flow_worldfile.specs.declared.TheConstants.{WORLD_BYTES}
use Rattle.flow_worldfile.specs.Worlds.{World, IsInRange}
use Rattle.flow_worldfile.specs.Reading.{IsFileOf}
use Rattle.flow_monitor.specs.Attaching.{Handed}
use Rattle.flow_monitor.specs.Cut.{Cut}
use Rattle.flow_monitor.specs.Ears.{Ears}
use Rattle.flow_words.specs.Asked.{Request}
use Rattle.flow_world.specs.declared.run_ending.RunEnding.{RunEnding}
use Rattle.flow_world.specs.Ends.{LastIs}
use Rattle.flow_world.specs.WatchedTraces.{last_line}
use Rattle.flow_world.specs.Written.{bytes_of}
use Rattle.flow_top.specs.Requests.{request_by, panel_for}
use Rattle.flow_top.specs.Told.{GoesOut, run_status}
use Rattle.flow_top.specs.Answers.{Answers}

-- A call of `flow_main`: the words, the monitors that are handed in, what is known of files and of the sink before and after, and
-- the status that it gave.
pub record Call : Type 0 where
  pub words : List (List ℕ)
  pub handed : List Handed
  pub files : FilesSeen
  pub files' : FilesSeen
  pub sink : SinkSeen
  pub sink' : SinkSeen
  pub status : ℕ
  pub answers : Answers words handed files files' sink sink' status

-- the words ask for this, and the monitors that it wants are handed in
abbrev pub AsksFor : Call → Request → Type 0
AsksFor c q = request_by c.words c.handed ≡ Some q

-- it is told that the file of this name has these bytes
abbrev pub HasFile : Call → (name bytes : List ℕ) → Type 0
HasFile c name bytes = c.files.content name ≡ Bytes bytes

-- the file of this name is a world file, within the limit on bytes, of this world, which is in range
pub record HasWorld (c : Call) (name : List ℕ) (w : World) : Type 0 where
  pub text : List ℕ
  pub file : HasFile c name text
  pub short : length text ≤ WORLD_BYTES
  pub is : IsFileOf text w
  pub in_range : IsInRange w

-- what is written is told, and it grew by these bytes
pub record Writes (c : Call) (bytes : List ℕ) : Type 0 where
  pub before : List ℕ
  pub old : c.sink.written ≡ Some before
  pub new : c.sink'.written ≡ Some (before ++ bytes)

-- A fault with its cause: a call of the files failed, or one of the sink, which its count then shows; or there was no memory.
pub data IsFault (c : Call) : Type 0 where
  read_fault : c.status ≡ 5 → c.files'.faults ≡ next_count c.files.faults → IsFault c
  write_fault : c.status ≡ 6 → Rose c.sink.faults c.sink'.faults → IsFault c
  no_memory : c.status ≡ 7 → IsFault c

-- The bytes of these lines were written and handed on, cut where a monitor of the panel says Stop, with the status of the end.
pub record TellsLines (c : Call) (ears : Ears) (lines : List Line) : Type 0 where
  pub ending : RunEnding
  pub last : LastIs (last_line ears ending) (Cut ears lines)
  pub out : GoesOut c.sink c.sink' (bytes_of (Cut ears lines))
  pub status : c.status ≡ run_status ending

-- the panel that hears a request of a call
abbrev pub ears_of : Call → Request → Ears
ears_of c q = panel_for (Some q) c.handed
