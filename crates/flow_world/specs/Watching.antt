-- Lines that monitors hear as they are put: a line is put first, and heard where that succeeded.
use Rattle.std.specs.Prelude.{◌≡◌, ℕ, ◌<◌, Result, Ok, Err, true}
use Rattle.std.specs.declared.option.Option.{Option}
use Rattle.std.specs.declared.option.Option.TheVariants.{None, Some}
use Rattle.flow_base.specs.declared.fault.OutFault.{OutFault}
use Rattle.flow_trace.specs.declared.line.Line.{Line}
use Rattle.flow_monitor.specs.Ears.{Ears}
use Rattle.flow_monitor.specs.Cut.{ears_after, stop_in}
use Rattle.flow_machine.specs.declared.host.Burst.TheVariants.{Rested}
use Rattle.flow_world.specs.declared.event.Event.{Event}
use Rattle.flow_world.specs.declared.event.Event.TheVariants.{Ran, Idle, BoundReached, Spent, Stopped}
use Rattle.flow_world.specs.Ending.{Seen}
use Rattle.flow_world.specs.FaultedLines.{tells, whole}
use Rattle.flow_world.specs.Happening.{Happens, EventDoes}

-- where lines go, the panel that hears them, and the first of it that said Stop
pub record Hearing (A : Type 0) : Type 0 where
  pub out : A
  pub ears : Ears
  pub stop : Option ℕ

abbrev pub hearing : {A : Type 0} → A → Ears → (stop : Option ℕ) → Hearing A
hearing a ears stop = record { out = a; ears = ears; stop = stop }

-- nobody has said Stop yet
abbrev pub watching : {A : Type 0} → A → Ears → Hearing A
watching a ears = hearing a ears None

-- who said Stop first
abbrev pub first_of : Option ℕ → Option ℕ → Option ℕ
first_of (Some k) later = Some k
first_of None later = later

-- what is answered for an event, and the world then, by who said Stop first: one that ran is stopped by it
abbrev pub answer_heard : Event → (stop : Option ℕ) → Event
answer_heard Ran (Some k) = Stopped k
answer_heard e stop = e

abbrev pub world_heard : Event → (stop : Option ℕ) → Seen → Seen
world_heard Ran (Some k) w = record w { ended = true }
world_heard e stop w = w

-- the number of an event that was stopped is one of the panel
abbrev pub IsPlace : Event → (many : ℕ) → Type 0
IsPlace (Stopped k) many = k < many
IsPlace _ many = Unit {0}

module _ {A : Type 0} (puts : A → Line → Result (Unit {0}) OutFault → A → Type 0) where
  abbrev pub hears : Hearing A → Line → Result (Unit {0}) OutFault → Hearing A → Type 0
  hears a l (Ok done) b =
      puts a.out l (Ok done) b.out × (b.ears ≡ ears_after l a.ears) × (b.stop ≡ first_of a.stop (stop_in l a.ears))
  hears a l (Err fault) b = puts a.out l (Err fault) b.out × (b.ears ≡ a.ears) × (b.stop ≡ a.stop)

  -- an event that ran, in which the monitor of a number said Stop first: none may follow
  pub record Stops (k : ℕ) (w : Seen) (a : Hearing A) (v : Seen) (b : Hearing A) : Type 0 where
    pub left : Seen
    pub happens : Happens (tells hears) w (whole a) Rested left (whole b)
    pub stop : b.stop ≡ Some k
    pub ended : v ≡ record left { ended = true }

  -- What a call for the next event does where a panel hears its lines. One that is spent isn't stopped.
  abbrev pub EventHeard : Event → Seen → Hearing A → Seen → Hearing A → Type 0
  EventHeard Ran w a v b = EventDoes (tells hears) Ran w (whole a) v (whole b) × (b.stop ≡ None)
  EventHeard Idle w a v b = EventDoes (tells hears) Idle w (whole a) v (whole b)
  EventHeard BoundReached w a v b = EventDoes (tells hears) BoundReached w (whole a) v (whole b)
  EventHeard Spent w a v b = EventDoes (tells hears) Spent w (whole a) v (whole b)
  EventHeard (Stopped k) w a v b = Stops k w a v b
