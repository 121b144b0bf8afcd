-- When an event of a world in memory breaks off, with which fault, and which lines were put till then. It gets stuck where something
-- isn't there, or where a process gets stuck.
use Rattle.std.specs.Prelude.{◌≡◌, ◌⊎◌, ℕ, ◌^◌, ◌<◌, ◌≤◌, Bool, true, false, List, [], ◌∷◌, map, slice_get, Result, Ok, Err}
use Rattle.std.specs.declared.option.Option.{Option}
use Rattle.std.specs.declared.option.Option.TheVariants.{None, Some}
use Rattle.flow_base.specs.declared.ids.CellId.{CellId}
use Rattle.flow_base.specs.declared.ids.ProcId.{ProcId}
use Rattle.flow_base.specs.declared.fault.OutFault.{OutFault}
use Rattle.flow_code.specs.declared.program.Code.{Code}
use Rattle.flow_trace.specs.declared.line.Line.{Line}
use Rattle.flow_trace.specs.declared.line.Line.TheVariants as line
use Rattle.flow_worldfile.specs.declared.world.Act.{Act}
use Rattle.flow_worldfile.specs.declared.world.Act.TheVariants as act
use Rattle.flow_worldfile.specs.declared.world.At.{At}
use Rattle.flow_value.specs.declared.value.Kind.TheVariants as kind
use Rattle.flow_value.specs.declared.value.Value.{Value}
use Rattle.flow_value.specs.declared.value.Value.TheVariants.{Void}
use Rattle.flow_value.specs.declared.value.Outcome.{Outcome}
use Rattle.flow_value.specs.declared.value.Outcome.TheVariants as outcome
use Rattle.flow_value.specs.View.{value_of, outcome_of}
use Rattle.flow_timers.specs.Pending.{Pending}
use Rattle.flow_simnet.specs.declared.packet.Letter.{Letter}
use Rattle.flow_simnet.specs.declared.packet.Packet.{Packet}
use Rattle.flow_simnet.specs.Links.{numbered}
use Rattle.flow_simdisk.specs.declared.ask.DiskAsk.{DiskAsk}
use Rattle.flow_simdisk.specs.declared.ask.DiskReply.{DiskReply}
use Rattle.flow_simdisk.specs.declared.write.Kept.{Kept}
use Rattle.flow_numbered.specs.Numbered.{Numbered}
use Rattle.flow_meaning.specs.Burst.{Host}
use Rattle.flow_meaning.specs.Outside as meaning
use Rattle.flow_meaning.specs.World.{packet, disk_outcome, kept_line}
use Rattle.flow_steps.specs.declared.process.Process.{Process}
use Rattle.flow_steps.specs.Doing.{begun}
use Rattle.flow_steps.specs.StuckTasks.{AnswerStuck, BringStuck}
use Rattle.flow_machine.specs.Requests.{call_of}
use Rattle.flow_machine.specs.Breaking.{MainBreaksOff, BringingBreaksOff}
use Rattle.flow_machine.specs.Cause.{fault_of}
use Rattle.flow_machine.specs.declared.host.Burst as burst
use Rattle.flow_machine.specs.declared.host.RunFault.{RunFault}
use Rattle.flow_machine.specs.declared.host.RunFault.TheVariants.{OutOfMemory, Stuck}
use Rattle.flow_machine.specs.declared.machine.Machine.{Machine}
use Rattle.flow_world.specs.declared.action.EventAction.{EventAction}
use Rattle.flow_world.specs.declared.action.EventAction.TheVariants.{Boots, Stops, Delivers, Brings}
use Rattle.flow_world.specs.declared.outside.What.{What}
use Rattle.flow_world.specs.declared.outside.What.TheVariants as what
use Rattle.flow_world.specs.declared.place.Place.{Place}
use Rattle.flow_world.specs.Around.{Inside, PutsPart, shows, wrote, wrote_part}
use Rattle.flow_world.specs.Answers.{answer_line}
use Rattle.flow_world.specs.Changes.{Surroundings, DiskServes, DiskLoses, with_events}
use Rattle.flow_world.specs.Actions.{dealt}
use Rattle.flow_world.specs.Ending.{Seen, next}
use Rattle.flow_world.specs.Happening.{inside, HeldAt, HeardIn, arrived, begins, with_outside, Comes}
use Rattle.flow_world.specs.FaultedLines.{Telling, tells}
use Rattle.flow_world.specs.Representing.{letter_at}

-- there is no such process, or no disk of it; a link isn't between two of the processes
abbrev pub NoProcess : ProcId → Seen → Type 0
NoProcess p w = slice_get w.places p.0 ≡ None

abbrev pub NoDisk : ProcId → Seen → Type 0
NoDisk p w = slice_get w.outside.disks p.0 ≡ None

abbrev pub NoLink : ProcId → ProcId → Seen → Type 0
NoLink p q w = (w.outside.net.processes ≤ p.0) ⊎ (w.outside.net.processes ≤ q.0)

-- a process isn't one of the world's, or takes itself for one of another count
abbrev pub NotAmong : ProcId → Place → Seen → Type 0
NotAmong p at w = (w.outside.net.processes ≤ p.0) ⊎ (at.machine.processes ≡ w.outside.net.processes → ⊥)

module _ {A W : Type 0} (serves : Host W) (shows : A → Numbered ℕ → W → Type 0) (wrote broke : A → List Line → A → Type 0)
    (code : Code) where
  -- what follows of a deed breaks off
  abbrev pub ActionBreaks : EventAction → Machine → (begun : Process) → A → RunFault → A → Type 0
  ActionBreaks Boots m p a f b = MainBreaksOff serves shows wrote broke code m.processes m.me p a f b
  ActionBreaks Stops m p a f b = BringingBreaksOff serves shows wrote broke code m.processes ⊥ (dealt Stops p) a f b
  ActionBreaks (Delivers k o) m p a f b =
      BringingBreaksOff serves shows wrote broke code m.processes (AnswerStuck k.0 o p.heap) (dealt (Delivers k o) p) a f b
  ActionBreaks (Brings k v) m p a f b =
      BringingBreaksOff serves shows wrote broke code m.processes (BringStuck kind.PromiseStream k.0 (outcome.Value v) p.heap)
      (dealt (Brings k v) p) a f b

module _ {A : Type 0} (puts : A → Line → Result (Unit {0}) OutFault → A → Type 0) where
  -- the put of a line fails
  pub record PutFails (l : Line) (a : A) (f : RunFault) (b : A) : Type 0 where
    pub fault : OutFault
    pub is : f ≡ fault_of fault
    pub put : puts a l (Err fault) b

  -- it does, or the line is put and what follows breaks off
  pub data PutBreaks (l : Line) (then_breaks : A → Type 0) (a : A) (f : RunFault) (b : A) : Type 0 where
    unput : PutFails l a f b → PutBreaks l then_breaks a f b
    line_put : (c : A) → puts a l (Ok tt) c → then_breaks c → PutBreaks l then_breaks a f b

  -- a process breaks off in what follows of a deed
  pub record ActsBreaks (code : Code) (turns : ℕ) (p : ProcId) (d : EventAction) (at : Place) (m : Surroundings)
      (a : A) (f : RunFault) (b : A) : Type 0 where
    pub left : Inside A
    pub out : left.out ≡ b
    pub breaks : ActionBreaks meaning.host shows (wrote puts) (wrote_part puts) code d at.machine (begun m.time turns at.machine.process)
        (inside puts p at.ports m a) f left

  -- A deed is to be done to a process that isn't there, or isn't among the others, or it breaks off.
  pub data ActsAtBreaks (p : ProcId) (d : EventAction) (w : Seen) (a : A) (f : RunFault) (b : A) : Type 0 where
    no_process : f ≡ Stuck → NoProcess p w → ActsAtBreaks p d w a f b
    not_among : (at : Place) → f ≡ Stuck → slice_get w.places p.0 ≡ Some at → NotAmong p at w → ActsAtBreaks p d w a f b
    acts_break : (at : Place) → slice_get w.places p.0 ≡ Some at → ActsBreaks w.code w.turns p d at w.outside a f b
        → ActsAtBreaks p d w a f b

  -- so it is unless the process has nothing to do
  abbrev pub RunsBreaks : ProcId → EventAction → Seen → A → RunFault → A → Type 0
  RunsBreaks p d w a f b = ((f ≡ Stuck) × NoProcess p w) ⊎ (HeldAt p d w.places false × ActsAtBreaks p d w a f b)

  -- After the line of a loss of power: the disk isn't there or there is no memory for what it lost; or of the lines of what it kept a
  -- first part was put.
  pub data LossBreaks (p : ProcId) (w : Seen) (a : A) (f : RunFault) (b : A) : Type 0 where
    not_lost : (f ≡ Stuck → NoDisk p w) → b ≡ a → LossBreaks p w a f b
    lost : (fates : List Kept) (lost : Surroundings) → DiskLoses p w.outside lost fates → PutsPart puts a (map kept_line fates) b
        → (f ≡ Stuck → NoProcess p w) → LossBreaks p w a f b

  -- nothing follows of the line, but something isn't there
  abbrev pub OnlyStuck : Type 0 → RunFault → A → A → Type 0
  OnlyStuck why f b c = (f ≡ Stuck → why) × (b ≡ c)

  -- a line of the script, by what it orders
  abbrev pub OrderedBreaks : Act → Seen → A → RunFault → A → Type 0
  OrderedBreaks (act.Boot p) w a f b = PutBreaks (line.Boot w.ran w.outside.time p) (λ c. RunsBreaks p Boots w c f b) a f b
  OrderedBreaks (act.Stop p) w a f b = PutBreaks (line.Stop w.ran w.outside.time p) (λ c. RunsBreaks p Stops w c f b) a f b
  OrderedBreaks (act.Kill p) w a f b = PutBreaks (line.Kill w.ran w.outside.time p) (λ c. LossBreaks p w c f b) a f b
  OrderedBreaks (act.Cut p q) w a f b = PutBreaks (line.Cut w.ran w.outside.time p q) (OnlyStuck (NoLink p q w) f b) a f b
  OrderedBreaks (act.Heal p q) w a f b = PutBreaks (line.Heal w.ran w.outside.time p q) (OnlyStuck (NoLink p q w) f b) a f b
  OrderedBreaks (act.DiskFail p n) w a f b = PutBreaks (line.DiskFail w.ran w.outside.time p n) (OnlyStuck (NoDisk p w) f b) a f b

  -- there is no memory, and no line was put
  abbrev pub NoMemory : A → RunFault → A → Type 0
  NoMemory a f b = (f ≡ OutOfMemory) × (b ≡ a)

  -- a packet that comes is to be discarded, or there is no memory for its value, or its stream can't take it
  abbrev pub TakenBreaks : Option CellId → ProcId → Packet → Seen → A → RunFault → A → Type 0
  TakenBreaks None p l w a f b = PutFails (line.Discard l.number) a f b
  TakenBreaks (Some k) p l w a f b =
      NoMemory a f b ⊎ ((item : Value) × (value_of item ≡ packet l.from.0 l.port l.text) × RunsBreaks p (Brings k item) w a f b)

  -- a packet that comes isn't on its way, or it can't be taken
  pub data ArrivalBreaks (p : ProcId) (n : ℕ) (w : Seen) (a : A) (f : RunFault) (b : A) : Type 0 where
    not_on_way : f ≡ Stuck → letter_at w.outside.net.on_way n ≡ None → ArrivalBreaks p n w a f b
    not_taken : (l : Letter) (heard : Option CellId) → letter_at w.outside.net.on_way n ≡ Some l
        → HeardIn (slice_get w.places p.0) l.port heard → TakenBreaks heard p (numbered n l) (arrived n w) a f b → ArrivalBreaks p n w a f b

  abbrev pub ArrivedBreaks : ProcId → ℕ → Seen → A → RunFault → A → Type 0
  ArrivedBreaks p n w a f b = PutBreaks (line.Arrival w.ran w.outside.time p n) (λ c. ArrivalBreaks p n w c f b) a f b

  -- After its line there is no memory for what a disk answers, or it can't come to its cell.
  abbrev pub ReplyBreaks : ProcId → CellId → DiskReply → Seen → A → RunFault → A → Type 0
  ReplyBreaks p k reply w a f b =
      NoMemory a f b ⊎ ((o : Outcome) × (outcome_of o ≡ disk_outcome reply) × RunsBreaks p (Delivers k o) w a f b)

  -- a disk that answers isn't there, or there is no memory for its answer or the line of it, or the line breaks off
  pub data AnsweredBreaks (p : ProcId) (k : CellId) (asked : DiskAsk) (w : Seen) (a : A) (f : RunFault) (b : A) : Type 0 where
    unserved : (f ≡ Stuck → NoDisk p w) → b ≡ a → AnsweredBreaks p k asked w a f b
    served : (served : Surroundings) (reply : DiskReply) → DiskServes p (call_of asked) w.outside served reply
        → PutBreaks (answer_line asked reply w.ran w.outside.time p k) (λ c. ReplyBreaks p k reply (with_outside served w) c f b) a f b
        → AnsweredBreaks p k asked w a f b

  -- a pending event, by what happens
  abbrev pub HappenedBreaks : What → Seen → A → RunFault → A → Type 0
  HappenedBreaks (what.Boots p) w a f b = OrderedBreaks (act.Boot p) w a f b
  HappenedBreaks (what.Rings p k) w a f b =
      PutBreaks (line.Timer w.ran w.outside.time p k) (λ c. RunsBreaks p (Delivers k (outcome.Value Void)) w c f b) a f b
  HappenedBreaks (what.Arrives p n) w a f b = ArrivedBreaks p n w a f b
  HappenedBreaks (what.Answers p k asked) w a f b = AnsweredBreaks p k asked w a f b

  -- the next line of the script and the next pending event, or there is none
  abbrev pub LineBreaks : List At → Seen → A → RunFault → A → Type 0
  LineBreaks [] w a f b = f ≡ Stuck
  LineBreaks (l ∷ ls) w a f b = OrderedBreaks l.act (record w { script = ls }) a f b

  abbrev pub PendingBreaks : List (Pending What) → Seen → A → RunFault → A → Type 0
  PendingBreaks [] w a f b = f ≡ Stuck
  PendingBreaks (x ∷ xs) w a f b = HappenedBreaks x.what (with_outside (with_events xs w.outside) w) a f b

  abbrev pub ComesBreaks : (scripted : Bool) → Seen → A → RunFault → A → Type 0
  ComesBreaks true w a f b = LineBreaks w.script w a f b
  ComesBreaks false w a f b = PendingBreaks w.outside.timers.pending w a f b

  -- What comes next breaks off. A time past the last one is answered as want of memory.
  pub data MomentBreaks (time : ℕ) (scripted : Bool) (w : Seen) (a : A) (f : RunFault) (b : A) : Type 0 where
    too_late : 2 ^ 63 ≤ time → NoMemory a f b → MomentBreaks time scripted w a f b
    comes_breaks : ComesBreaks scripted (begins time w) a f b → MomentBreaks time scripted w a f b

-- An event fails: it breaks off, or it went on to its end though a put failed, whose fault it is.
module _ {A : Type 0} (puts : A → Line → Result (Unit {0}) OutFault → A → Type 0) where
  pub data MomentFails (time : ℕ) (scripted : Bool) (w : Seen) (a : Telling A) (f : RunFault) (t : Telling A) : Type 0 where
    breaks_off : MomentBreaks (tells puts) time scripted w a f t → MomentFails time scripted w a f t
    went_on : (fault : OutFault) (e : burst.Burst) (v : Seen) → f ≡ fault_of fault → t.fault ≡ Some fault
        → Comes (tells puts) scripted (begins time w) a e v t → MomentFails time scripted w a f t

  pub record EventFails (w : Seen) (a : Telling A) (f : RunFault) (t : Telling A) : Type 0 where
    pub time : ℕ
    pub scripted : Bool
    pub comes : next w ≡ Some (time, scripted)
    pub bound : w.ran < w.bound
    pub fails : MomentFails time scripted w a f t
