-- What a process and the world around it make of what a step asks. A bad argument is an error that is thrown where the actor
-- stands, and the world stays as it is.
use Rattle.std.specs.Prelude.{◌≡◌, ℕ, ◌+◌, ◌^◌, ℤ, pos, ◌-ℤ◌, int_le, nat_le, nat_lt, Bool, true, false, ◌&&◌, List, [], ◌∷◌, is_some}
use Rattle.std.specs.declared.option.Option.{Option}
use Rattle.std.specs.declared.option.Option.TheVariants.{None, Some}
use Rattle.flow_base.specs.ErrorNumbers.{bad_argument, out_of_range, port_in_use}
use Rattle.flow_base.specs.declared.ids.ActorId.{ActorId}
use Rattle.flow_base.specs.declared.ids.CellId.{CellId}
use Rattle.flow_value.specs.declared.value.Value.TheVariants.{Int}
use Rattle.flow_trace.specs.declared.line.Line.{Line}
use Rattle.flow_eval.specs.Predefined.{natural}
use Rattle.flow_cancel.specs.declared.task.Task.TheVariants.{Run, Throw}
use Rattle.flow_numbered.specs.Numbered.{Numbered, thing}
use Rattle.flow_meaning.specs.Requests.{DiskCall, Timer, Packet, Disks}
use Rattle.flow_meaning.specs.Burst.{Host}
use Rattle.flow_meaning.specs.Effects.{between, is_port, judged}
use Rattle.flow_steps.specs.declared.call.Call.{Call}
use Rattle.flow_steps.specs.declared.call.Call.TheVariants as call
use Rattle.flow_steps.specs.declared.call.Goal.{Goal}
use Rattle.flow_steps.specs.declared.process.Process.{Process}
use Rattle.flow_steps.specs.Doing.{doing}
use Rattle.flow_steps.specs.Holding.{Gives}
use Rattle.flow_steps.specs.Delivering.{OpenGiven, PortGiven}
use Rattle.flow_machine.specs.Requests.{asked_of}
use Rattle.flow_machine.specs.Hosting.{Serves, Draws, Writes, Listens, Unlistens}

-- whether a text may be sent to a port of a process of so many
abbrev pub may_send : (processes : ℕ) → (process port : ℤ) → Bool
may_send n number port = int_le (pos 0) number && nat_lt (natural number) n && is_port port

module _ {A W : Type 0} (serves : Host W) (shows : A → Numbered ℕ → W → Type 0) (wrote : A → List Line → A → Type 0) where
  -- an error is thrown
  pub record Thrown (i : ActorId) (error : ℕ) (p : Process) (a : A) (q : Process) (b : A) : Type 0 where
    pub thrown : q ≡ doing (Throw i (record { 0 = error })) p
    pub quiet : b ≡ a

  -- a number is drawn and given
  pub record NumberGiven (i : ActorId) (g : Goal) (lo : ℤ) (width : ℕ) (p : Process) (a : A) (q : Process) (b : A) : Type 0 where
    pub number : ℤ
    pub drawn : Draws serves shows wrote lo width number a b
    pub given : Gives g i (Int number) p q

  abbrev pub DrawServed : (fits : Bool) → ActorId → Goal → (lo : ℤ) (width : ℕ) → Process → A → Process → A → Type 0
  DrawServed true i g lo width p a q b = NumberGiven i g lo width p a q b
  DrawServed false i g lo width p a q b = Thrown i bad_argument p a q b

  -- a new single result is given, and its timer, or its request to the disk, is asked for
  pub record TimerGiven (i : ActorId) (g : Goal) (time : ℕ) (p : Process) (a : A) (q : Process) (b : A) : Type 0 where
    pub cell : CellId
    pub given : OpenGiven g i cell p q
    pub served : Serves serves shows wrote (Timer cell.0 time) a b

  abbrev pub DelayServed : (fits : Bool) → ActorId → Goal → (time : ℕ) → Process → A → Process → A → Type 0
  DelayServed true i g time p a q b = TimerGiven i g time p a q b
  DelayServed false i g time p a q b = Thrown i out_of_range p a q b

  pub record RequestGiven (i : ActorId) (g : Goal) (asked : DiskCall ℕ) (p : Process) (a : A) (q : Process) (b : A) : Type 0 where
    pub cell : CellId
    pub given : OpenGiven g i cell p q
    pub served : Serves serves shows wrote (Disks cell.0 asked) a b

  abbrev pub DiskServed : Option (DiskCall ℕ) → ActorId → Goal → Process → A → Process → A → Type 0
  DiskServed (Some asked) i g p a q b = RequestGiven i g asked p a q b
  DiskServed None i g p a q b = Thrown i bad_argument p a q b

  -- a port that nobody listens to gets a new stream
  pub record StreamGiven (i : ActorId) (g : Goal) (port : ℕ) (p : Process) (a : A) (q : Process) (b : A) : Type 0 where
    pub cell : CellId
    pub given : PortGiven g i cell p q
    pub listens : Listens serves shows wrote port cell.0 a b

  abbrev pub PortOpened : (in_use : Bool) → ActorId → Goal → (port : ℕ) → Process → A → Process → A → Type 0
  PortOpened true i g port p a q b = Thrown i port_in_use p a q b
  PortOpened false i g port p a q b = StreamGiven i g port p a q b

  pub record Listened (i : ActorId) (g : Goal) (port : ℕ) (p : Process) (a : A) (q : Process) (b : A) : Type 0 where
    pub in_use : Bool
    pub known : (ps : Numbered ℕ) (w : W) → shows a ps w → in_use ≡ is_some (thing ps port)
    pub opened : PortOpened in_use i g port p a q b

  abbrev pub ListenServed : (fits : Bool) → ActorId → Goal → (port : ℕ) → Process → A → Process → A → Type 0
  ListenServed true i g port p a q b = Listened i g port p a q b
  ListenServed false i g port p a q b = Thrown i bad_argument p a q b

  -- a text is sent, and the actor goes on
  pub record TextSent (i : ActorId) (number port : ℕ) (text : List ℕ) (p : Process) (a : A) (q : Process) (b : A) : Type 0 where
    pub goes : q ≡ doing (Run i) p
    pub served : Serves serves shows wrote (Packet number port text) a b

  abbrev pub SendServed : (fits : Bool) → ActorId → (number port : ℕ) → List ℕ → Process → A → Process → A → Type 0
  SendServed true i number port text p a q b = TextSent i number port text p a q b
  SendServed false i number port text p a q b = Thrown i bad_argument p a q b

  -- What a step asked, of a process of so many, is served.
  abbrev pub Served : (processes : ℕ) → Call → Process → A → Process → A → Type 0
  Served n (call.Line l) p a q b = (q ≡ p) × Writes serves shows wrote (l ∷ []) a b
  Served n (call.Draw i g lo hi) p a q b = DrawServed (between (hi -ℤ lo) 1 (2 ^ 32)) i g lo (natural (hi -ℤ lo)) p a q b
  Served n (call.Delay i g ticks) p a q b = DelayServed (nat_le (p.time + natural ticks) (2 ^ 62)) i g (p.time + natural ticks) p a q b
  Served n (call.Listen i g port) p a q b = ListenServed (is_port port) i g (natural port) p a q b
  Served n (call.Disk i g request) p a q b = DiskServed (judged (asked_of request)) i g p a q b
  Served n (call.SendTo i number port text) p a q b = SendServed (may_send n number port) i (natural number) (natural port) text p a q b
  Served n (call.Unlisten k) p a q b = (q ≡ p) × Unlistens serves shows wrote k.0 a b

  abbrev pub ServedIf : (processes : ℕ) → Option Call → Process → A → Process → A → Type 0
  ServedIf n None p a q b = (q ≡ p) × (b ≡ a)
  ServedIf n (Some c) p a q b = Served n c p a q b
