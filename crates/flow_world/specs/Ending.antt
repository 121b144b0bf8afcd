-- When events come, and when a run is over.
use Rattle.std.specs.Prelude.{◌≡◌, ℕ, ◌+◌, ◌<◌, ◌≤◌, Bool, true, false, List, [], ◌∷◌, nat_le, if◌then◌else◌, Result, Ok, Err, IsSome}
use Rattle.std.specs.declared.option.Option.{Option}
use Rattle.std.specs.declared.option.Option.TheVariants.{None, Some}
use Rattle.flow_worldfile.specs.declared.world.Act.{Act}
use Rattle.flow_worldfile.specs.declared.world.At.{At}
use Rattle.flow_worldfile.specs.declared.world.World0.{World0}
use Rattle.flow_code.specs.declared.program.Code.{Code}
use Rattle.flow_timers.specs.Pending.{next_event}
use Rattle.flow_machine.specs.declared.host.RunFault.{RunFault}
use Rattle.flow_world.specs.declared.place.Place.{Place}
use Rattle.flow_world.specs.Changes.{Surroundings}
use Rattle.flow_world.specs.declared.event.Event.{Event}
use Rattle.flow_world.specs.declared.event.Event.TheVariants.{Ran, Idle, BoundReached, Spent, Stopped}

-- the time of the first line of a script
abbrev pub script_time : List At → Option ℕ
script_time [] = None
script_time (line ∷ lines) = Some line.time

-- what its first line orders, and the other lines
abbrev pub first_act : List At → Option Act
first_act [] = None
first_act (line ∷ lines) = Some line.act

abbrev pub lines_after : List At → List At
lines_after [] = []
lines_after (line ∷ lines) = lines

-- The time of what comes next, and whether it is a line of the script, by the time of its first line and the first
-- pending event: a line comes before all pending events of the same time.
abbrev pub next_of : Option ℕ → Option (ℕ × ℕ) → Option (ℕ × Bool)
next_of None None = None
next_of (Some line) None = Some (line, true)
next_of None (Some event) = Some (event.0, false)
next_of (Some line) (Some event) = if nat_le line event.0 then Some (line, true) else Some (event.0, false)

-- A world in memory: its classes, its processes by number, what is outside of them, the lines of the script that are left,
-- in the order in which they come, how many events have run, how many may, and how many turns one may take; and whether the
-- world has ended, so that no event may follow; and the file that it was started from, with its script in the order of the file.
pub record Seen : Type 0 where
  pub code : Code
  pub places : List Place
  pub outside : Surroundings
  pub script : List At
  pub ran : ℕ
  pub bound : ℕ
  pub turns : ℕ
  pub ended : Bool
  pub file : World0

-- what comes next in it
abbrev pub next : Seen → Option (ℕ × Bool)
next w = next_of (script_time w.script) (next_event w.outside.timers.pending)

-- what is within an event leaves how many have run, how many may, whether the world has ended, and its file
pub record WithinEvent (before after : Seen) : Type 0 where
  pub ran : after.ran ≡ before.ran
  pub bound : after.bound ≡ before.bound
  pub ended : after.ended ≡ before.ended
  pub file : after.file ≡ before.file

-- something comes next, and fewer events than the bound have run
pub record MayRun (before : Seen) : Type 0 where
  pub comes : IsSome (next before)
  pub within : before.ran < before.bound

-- one more event has run, in the world of the same file
pub record OneMore (before after : Seen) : Type 0 where
  pub may : MayRun before
  pub ran : after.ran ≡ before.ran + 1
  pub bound : after.bound ≡ before.bound
  pub file : after.file ≡ before.file

-- What a call for the next event means: nothing comes, or the bound is reached, and the world is as before; or the event
-- ran. After one that was spent, stopped or broke off none may follow.
abbrev pub MeansEvent : Seen → Result Event RunFault → Seen → Type 0
MeansEvent before (Ok Idle) after = (next before ≡ None) × (after ≡ before)
MeansEvent before (Ok BoundReached) after = IsSome (next before) × (before.bound ≤ before.ran) × (after ≡ before)
MeansEvent before (Ok Ran) after = OneMore before after × (after.ended ≡ false)
MeansEvent before (Ok Spent) after = OneMore before after × (after.ended ≡ true)
MeansEvent before (Ok (Stopped k)) after = OneMore before after × (after.ended ≡ true)
MeansEvent before (Err fault) after = MayRun before × (after.ended ≡ true)
