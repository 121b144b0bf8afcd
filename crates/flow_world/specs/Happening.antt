-- What an event does to a world in memory, and the lines that it puts.
use Rattle.std.specs.Prelude.{◌≡◌, ℕ, ◌+◌, ◌<◌, ◌≤◌, Bool, true, false, List, [], ◌∷◌, map, slice_get, slice_set, Result, Ok, IsSome}
use Rattle.std.specs.Map.{remove_entry}
use Rattle.std.specs.Ordering.{nat_cmp}
use Rattle.std.specs.BTreeMap.{is_at}
use Rattle.std.specs.Option.{option_map}
use Rattle.std.specs.declared.option.Option.{Option}
use Rattle.std.specs.declared.option.Option.TheVariants.{None, Some}
use Rattle.flow_base.specs.declared.ids.CellId.{CellId}
use Rattle.flow_base.specs.declared.ids.ProcId.{ProcId}
use Rattle.flow_base.specs.declared.fault.OutFault.{OutFault}
use Rattle.flow_code.specs.declared.program.Code.{Code}
use Rattle.flow_trace.specs.declared.line.Line.{Line}
use Rattle.flow_trace.specs.declared.line.Line.TheVariants as line
use Rattle.flow_worldfile.specs.declared.world.Act.{Act}
use Rattle.flow_worldfile.specs.declared.world.Act.TheVariants as act
use Rattle.flow_worldfile.specs.declared.world.At.{At}
use Rattle.flow_value.specs.declared.value.Value.{Value}
use Rattle.flow_value.specs.declared.value.Value.TheVariants.{Void}
use Rattle.flow_value.specs.declared.value.Outcome.{Outcome}
use Rattle.flow_value.specs.declared.value.Outcome.TheVariants as outcome
use Rattle.flow_value.specs.View.{value_of, outcome_of}
use Rattle.flow_timers.specs.Pending.{Pending}
use Rattle.flow_simnet.specs.declared.packet.Letter.{Letter}
use Rattle.flow_simnet.specs.declared.packet.Packet.{Packet}
use Rattle.flow_simnet.specs.Links.{Links, cut, healed, numbered}
use Rattle.flow_simdisk.specs.declared.ask.DiskAsk.{DiskAsk}
use Rattle.flow_simdisk.specs.declared.ask.DiskReply.{DiskReply}
use Rattle.flow_simdisk.specs.declared.write.Kept.{Kept}
use Rattle.flow_simdisk.specs.Disk.{Disk}
use Rattle.flow_numbered.specs.Numbered.{Numbered, thing}
use Rattle.flow_meaning.specs.Outside as meaning
use Rattle.flow_meaning.specs.World.{packet, disk_outcome, kept_line}
use Rattle.flow_steps.specs.Doing.{vanished}
use Rattle.flow_machine.specs.Requests.{call_of}
use Rattle.flow_machine.specs.declared.host.Burst.{Burst}
use Rattle.flow_machine.specs.declared.host.Burst.TheVariants.{Rested, Spent as SpentBurst}
use Rattle.flow_world.specs.declared.action.EventAction.{EventAction}
use Rattle.flow_world.specs.declared.action.EventAction.TheVariants.{Boots, Stops, Delivers, Brings}
use Rattle.flow_world.specs.declared.event.Event.{Event}
use Rattle.flow_world.specs.declared.event.Event.TheVariants.{Ran, Idle, BoundReached, Spent, Stopped}
use Rattle.flow_world.specs.declared.outside.What.{What}
use Rattle.flow_world.specs.declared.outside.What.TheVariants as what
use Rattle.flow_world.specs.declared.place.Place.{Place}
use Rattle.flow_world.specs.declared.ports.Ports.{Ports}
use Rattle.flow_world.specs.Around.{Inside, Puts, shows, wrote}
use Rattle.flow_world.specs.Answers.{answer_line}
use Rattle.flow_world.specs.Changes.{Surroundings, DiskServes, DiskLoses, with_disk, with_events, without_requests}
use Rattle.flow_world.specs.Actions.{Does, holds_already, up_after}
use Rattle.flow_world.specs.Ending.{Seen, next}
use Rattle.flow_world.specs.Ports.{PortsRepresent}
use Rattle.flow_world.specs.Representing.{NumbersOnce, letter_at}

-- the world with something else outside, other links, and without the packet of a number on its way
abbrev pub with_outside : Surroundings → Seen → Seen
with_outside m w = record w { outside = m }

abbrev pub with_net : Links → Seen → Seen
with_net n w = with_outside (record w.outside { net = n }) w

abbrev pub arrived : (number : ℕ) → Seen → Seen
arrived n w = with_net (record w.outside.net { on_way = remove_entry (is_at (nat_cmp n)) w.outside.net.on_way }) w

-- the world with another process at a number
abbrev pub with_place : ProcId → Place → Seen → Seen
with_place p at w = record w { places = slice_set w.places p.0 at }

-- an event begins: the time is its own, and none may follow until it is over
abbrev pub begins : (time : ℕ) → Seen → Seen
begins t w = record w { outside = record w.outside { time = t }; ran = w.ran + 1; ended = true }

abbrev pub ends : Burst → Seen → Seen
ends Rested w = record w { ended = false }
ends SpentBurst w = w

-- the stream that takes a packet for a port, if any: none where the process is down or nobody listens
abbrev pub Heard : Place → (port : ℕ) → Option CellId → Type 0
Heard at port heard = (ps : Numbered ℕ) → PortsRepresent at.ports ps → option_map (λ k. k.0) heard ≡ thing ps port

abbrev pub HeardIfUp : (up : Bool) → Place → (port : ℕ) → Option CellId → Type 0
HeardIfUp true at port heard = Heard at port heard
HeardIfUp false at port heard = heard ≡ None

abbrev pub HeardIn : Option Place → (port : ℕ) → Option CellId → Type 0
HeardIn None port heard = heard ≡ None
HeardIn (Some at) port heard = HeardIfUp at.up at port heard

-- a loss of power leaves nothing of a process but the numbers given so far
pub record Gone (before after : Place) : Type 0 where
  pub down : after.up ≡ false
  pub vanished : after.machine.process ≡ vanished before.machine.process
  pub me : after.machine.me ≡ before.machine.me
  pub processes : after.machine.processes ≡ before.machine.processes
  pub ports : PortsRepresent after.ports []

pub record Vanishes (p : ProcId) (w v : Seen) : Type 0 where
  pub place : Place
  pub gone : Place
  pub there : slice_get w.places p.0 ≡ Some place
  pub goes : Gone place gone
  pub left : v ≡ with_place p gone w

-- its timers and disk requests are gone, where no two events have the same number
abbrev pub Forgotten : ProcId → (before after : Surroundings) → Type 0
Forgotten p m n = (made : ℕ) → NumbersOnce made m.timers.pending → n ≡ without_requests p m

-- a disk fails so many of the next requests
pub record Fails (p : ProcId) (count : ℕ) (w v : Seen) : Type 0 where
  pub disk : Disk
  pub there : slice_get w.outside.disks p.0 ≡ Some disk
  pub left : v ≡ with_outside (with_disk p.0 (record disk { fails = count }) w.outside) w

-- whether a process of the world has nothing to do for a deed
pub record HeldAt (p : ProcId) (d : EventAction) (places : List Place) (held : Bool) : Type 0 where
  pub at : Place
  pub there : slice_get places p.0 ≡ Some at
  pub held_is : held ≡ holds_already d at.machine

module _ {A : Type 0} (puts : A → Line → Result (Unit {0}) OutFault → A → Type 0) where
  -- a line is put, and so it goes on
  pub record PutsThen (l : Line) (goes_on : A → Type 0) (a : A) : Type 0 where
    pub between : A
    pub told : puts a l (Ok tt) between
    pub rest : goes_on between

  -- a process does what follows of a deed, in the world around it, with so many turns
  abbrev pub inside : ProcId → Ports → Surroundings → A → Inside A
  inside p ports m a = record { me = p; ports = ports; outside = m; out = a }

  pub record Acts (code : Code) (turns : ℕ) (p : ProcId) (d : EventAction) (at : Place) (m : Surroundings) (a : A) (e : Burst)
      (left : Place) (n : Surroundings) (b : A) : Type 0 where
    pub me : ProcId
    pub does : Does meaning.host shows (wrote puts) code m.time turns d at.machine (inside p at.ports m a) e left.machine
        (inside me left.ports n b)
    pub up : left.up ≡ up_after d at.up

  pub record Acted (p : ProcId) (d : EventAction) (at : Place) (w : Seen) (a : A) (e : Burst) (v : Seen) (b : A) : Type 0 where
    pub place : Place
    pub outside : Surroundings
    pub acts : Acts w.code w.turns p d at w.outside a e place outside b
    pub left : v ≡ with_outside outside (with_place p place w)

  pub record ActsAt (p : ProcId) (d : EventAction) (w : Seen) (a : A) (e : Burst) (v : Seen) (b : A) : Type 0 where
    pub at : Place
    pub there : slice_get w.places p.0 ≡ Some at
    pub acted : Acted p d at w a e v b

  -- so it does, unless it has nothing to do
  abbrev pub RunsUnless : (held : Bool) → ProcId → EventAction → Seen → A → Burst → Seen → A → Type 0
  RunsUnless true p d w a e v b = (e ≡ Rested) × (v ≡ w) × (b ≡ a)
  RunsUnless false p d w a e v b = ActsAt p d w a e v b

  pub record Runs (p : ProcId) (d : EventAction) (w : Seen) (a : A) (e : Burst) (v : Seen) (b : A) : Type 0 where
    pub held : Bool
    pub known : HeldAt p d w.places held
    pub runs : RunsUnless held p d w a e v b

  -- a loss of power: its line, what the disk kept of each write, and the process gone with its timers and requests
  pub record Killed (p : ProcId) (w : Seen) (a : A) (e : Burst) (v : Seen) (b : A) : Type 0 where
    pub between : A
    pub fates : List Kept
    pub lost : Surroundings
    pub left : Surroundings
    pub told : puts a (line.Kill w.ran w.outside.time p) (Ok tt) between
    pub loses : DiskLoses p w.outside lost fates
    pub kept : Puts puts between (map kept_line fates) b
    pub forgotten : Forgotten p lost left
    pub vanishes : Vanishes p (with_outside left w) v
    pub rests : e ≡ Rested

  -- a line of the script, by what it orders
  abbrev pub Ordered : Act → Seen → A → Burst → Seen → A → Type 0
  Ordered (act.Boot p) w a e v b = PutsThen (line.Boot w.ran w.outside.time p) (λ c. Runs p Boots w c e v b) a
  Ordered (act.Stop p) w a e v b = PutsThen (line.Stop w.ran w.outside.time p) (λ c. Runs p Stops w c e v b) a
  Ordered (act.Kill p) w a e v b = Killed p w a e v b
  Ordered (act.Cut p q) w a e v b =
      puts a (line.Cut w.ran w.outside.time p q) (Ok tt) b × (e ≡ Rested)
      × (v ≡ with_net (record w.outside.net { cuts = cut w.outside.net.cuts p.0 q.0 }) w)
  Ordered (act.Heal p q) w a e v b =
      puts a (line.Heal w.ran w.outside.time p q) (Ok tt) b × (e ≡ Rested)
      × (v ≡ with_net (record w.outside.net { cuts = healed w.outside.net.cuts p.0 q.0 }) w)
  Ordered (act.DiskFail p n) w a e v b =
      puts a (line.DiskFail w.ran w.outside.time p n) (Ok tt) b × (e ≡ Rested) × Fails p n w v

  -- a packet goes to a stream as a value, or is discarded
  abbrev pub Taken : Option CellId → ProcId → Packet → Seen → A → Burst → Seen → A → Type 0
  Taken None p l w a e v b = puts a (line.Discard l.number) (Ok tt) b × (e ≡ Rested) × (v ≡ w)
  Taken (Some k) p l w a e v b =
      (item : Value) × (value_of item ≡ packet l.from.0 l.port l.text) × Runs p (Brings k item) w a e v b

  -- a packet comes to the stream of its port
  pub record Arrived (p : ProcId) (n : ℕ) (w : Seen) (a : A) (e : Burst) (v : Seen) (b : A) : Type 0 where
    pub between : A
    pub letter : Letter
    pub heard : Option CellId
    pub told : puts a (line.Arrival w.ran w.outside.time p n) (Ok tt) between
    pub on_way : letter_at w.outside.net.on_way n ≡ Some letter
    pub hears : HeardIn (slice_get w.places p.0) letter.port heard
    pub taken : Taken heard p (numbered n letter) (arrived n w) between e v b

  -- the disk of a process serves a request, and the answer goes to its cell
  pub record Answered (p : ProcId) (k : CellId) (asked : DiskAsk) (w : Seen) (a : A) (e : Burst) (v : Seen) (b : A) : Type 0 where
    pub served : Surroundings
    pub reply : DiskReply
    pub outcome : Outcome
    pub serves : DiskServes p (call_of asked) w.outside served reply
    pub answer : outcome_of outcome ≡ disk_outcome reply
    pub between : A
    pub told : puts a (answer_line asked reply w.ran w.outside.time p k) (Ok tt) between
    pub runs : Runs p (Delivers k outcome) (with_outside served w) between e v b

  -- a pending event, by what happens
  abbrev pub Happened : What → Seen → A → Burst → Seen → A → Type 0
  Happened (what.Boots p) w a e v b = Ordered (act.Boot p) w a e v b
  Happened (what.Rings p k) w a e v b =
      PutsThen (line.Timer w.ran w.outside.time p k) (λ c. Runs p (Delivers k (outcome.Value Void)) w c e v b) a
  Happened (what.Arrives p n) w a e v b = Arrived p n w a e v b
  Happened (what.Answers p k asked) w a e v b = Answered p k asked w a e v b

  -- the next line of the script, and the next pending event, which is taken from those that are left
  abbrev pub LineComes : List At → Seen → A → Burst → Seen → A → Type 0
  LineComes [] w a e v b = ⊥
  LineComes (l ∷ ls) w a e v b = Ordered l.act (record w { script = ls }) a e v b

  abbrev pub EventComes : List (Pending What) → Seen → A → Burst → Seen → A → Type 0
  EventComes [] w a e v b = ⊥
  EventComes (x ∷ xs) w a e v b = Happened x.what (with_outside (with_events xs w.outside) w) a e v b

  abbrev pub Comes : (scripted : Bool) → Seen → A → Burst → Seen → A → Type 0
  Comes true w a e v b = LineComes w.script w a e v b
  Comes false w a e v b = EventComes w.outside.timers.pending w a e v b

  -- what comes next happens
  pub record Happens (w : Seen) (a : A) (e : Burst) (v : Seen) (b : A) : Type 0 where
    pub time : ℕ
    pub scripted : Bool
    pub left : Seen
    pub comes : next w ≡ Some (time, scripted)
    pub bound : w.ran < w.bound
    pub does : Comes scripted (begins time w) a e left b
    pub after : v ≡ ends e left

  -- An event in which a put failed went on to its end, and none may follow.
  pub record Breaks (w : Seen) (a : A) (v : Seen) (b : A) : Type 0 where
    pub burst : Burst
    pub left : Seen
    pub happens : Happens w a burst left b
    pub ended : v ≡ record left { ended = true }

  -- What a call for the next event does, where nobody hears its lines: none is stopped then.
  abbrev pub EventDoes : Event → Seen → A → Seen → A → Type 0
  EventDoes Ran w a v b = Happens w a Rested v b
  EventDoes Spent w a v b = Happens w a SpentBurst v b
  EventDoes Idle w a v b = (next w ≡ None) × (v ≡ w) × (b ≡ a)
  EventDoes BoundReached w a v b = IsSome (next w) × (w.bound ≤ w.ran) × (v ≡ w) × (b ≡ a)
  EventDoes (Stopped k) w a v b = ⊥
