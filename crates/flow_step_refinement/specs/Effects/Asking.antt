-- What an actor in memory asks of the world is what it asks by the definitions.
use Rattle.std.specs.Prelude.{◌≡◌, ℕ, ℤ, List}
use Rattle.std.specs.declared.option.Option.TheVariants.{None, Some}
use Rattle.flow_base.specs.declared.ids.ActorId.{ActorId}
use Rattle.flow_class.specs.Classes.{RawTree}
use Rattle.flow_trace.specs.declared.line.Line.{Line}
use Rattle.flow_cancel.specs.Heap.{actor_id}
use Rattle.flow_numbered.specs.Numbered.{put}
use Rattle.flow_meaning.specs.Requests as asks
use Rattle.flow_meaning.specs.Requests.{Supply}
use Rattle.flow_meaning.specs.Process.{Run, Entry, Proc}
use Rattle.flow_meaning.specs.References.{Scan}
use Rattle.flow_meaning.specs.Work.{pushed}
use Rattle.flow_meaning.specs.React.{react}
use Rattle.flow_meaning.specs.Step.{reacted, step, proc, on_core}
use Rattle.flow_meaning.specs.Class.{classes}
use Rattle.flow_meaning.specs.Frame.{Frame}
use Rattle.flow_steps.specs.declared.call.Call.{Call}
use Rattle.flow_steps.specs.declared.call.Call.TheVariants as call
use Rattle.flow_steps.specs.declared.call.DiskCall.{DiskCall}
use Rattle.flow_steps.specs.declared.call.Goal.{Goal}
use Rattle.flow_steps.specs.declared.frames.ControlPoint.{ControlPoint}
use Rattle.flow_steps.specs.declared.next.Pace.{Pace}
use Rattle.flow_steps.specs.declared.next.Pace.TheVariants.{Off}
use Rattle.flow_steps.specs.declared.process.Process.{Process}
use Rattle.flow_steps.specs.Doing.{unasked}
use Rattle.flow_steps.specs.Points.{noted}
use Rattle.flow_machine.specs.Requests.{asked_of}
use Rattle.flow_operation_refinement.specs.Stepped.{OnlyTells}
use Rattle.flow_operation_refinement.specs.Matching.{ProcessRepresents}
use Rattle.flow_operation_refinement.specs.Working.{SameGoal}
use Rattle.flow_operation_refinement.specs.Placing.{RepresentsActor}
use Rattle.flow_operation_refinement.specs.Carried.{StepsAs}

-- a call that memory makes of an actor's act, kind by kind
pub data Asks (p : Proc Frame) (i : ActorId) (c : Call) (a : asks.Act) : Type 0 where
  draws : (g : Goal) (h : asks.Goal) (lo hi : ℤ) → SameGoal p i.0 g h → c ≡ call.Draw i g lo hi
      → a ≡ asks.Effects h (asks.Draw lo hi) → Asks p i c a
  delays : (g : Goal) (h : asks.Goal) (ticks : ℤ) → SameGoal p i.0 g h → c ≡ call.Delay i g ticks
      → a ≡ asks.Effects h (asks.Delay ticks) → Asks p i c a
  listens : (g : Goal) (h : asks.Goal) (port : ℤ) → SameGoal p i.0 g h → c ≡ call.Listen i g port
      → a ≡ asks.Effects h (asks.Listen port) → Asks p i c a
  disks : (g : Goal) (h : asks.Goal) (d : DiskCall) → SameGoal p i.0 g h → c ≡ call.Disk i g d
      → a ≡ asks.Effects h (asks.Disk (asked_of d)) → Asks p i c a
  sends : (process port : ℤ) (text : List ℕ) → c ≡ call.SendTo i process port text
      → a ≡ asks.SendsTo process port text → Asks p i c a

-- the process with the actor's own task off, its frame and the turns that evaluation left
abbrev pub resumed : (actor : ℕ) → Frame → (left : ℕ) → Proc Frame → Proc Frame
resumed i f left p = proc (record p.core { left = left }) (put p.actors i f)

-- The process with the actor's own task takes a step that asks something of the world: memory asks the same, and shows what the
-- process is before the world serves it.
pub record AsksAs (r : RawTree) (ls : List Line) (x : Scan) (w : Supply) (p : Proc Frame) (i : ℕ) (n : Process) : Type 0 where
  pub frame : Frame
  pub left : ℕ
  pub called : Call
  pub act : asks.Act
  pub asked : n.asked ≡ Some called
  pub shown : ProcessRepresents r ls x (unasked n) (resumed i frame left p)
  pub same : Asks (resumed i frame left p) (actor_id i) called act
  pub steps : step (classes r) w (on_core (pushed (Run i)) p)
      ≡ Some (reacted (put p.actors i frame) (react w i act (resumed i frame left p).core))

-- A step in memory after which other tasks come first is one that the process answers by itself, or one that the world is asked.
pub data Answered (r : RawTree) (ls : List Line) (x : Scan) (w : Supply) (p : Proc Frame) (i : ℕ) (e : Entry) (pace : Pace) (n : Process)
    : Type 0 where
  by_itself : StepsAs r ls x w p i e pace n → OnlyTells n.asked → Answered r ls x w p i e pace n
  by_the_world : pace ≡ Off → AsksAs r ls x w p i n → Answered r ls x w p i e pace n

-- An actor that takes a step: memory shows it once its frame there is told where it stands.
pub record MayAsk (r : RawTree) (ls : List Line) (x : Scan) (s : ControlPoint) (m : Process) (p : Proc Frame) (i : ℕ) (e : Entry)
    (f : Frame)
    : Type 0 where
  pub actor : s.actor ≡ actor_id i
  pub stood : RepresentsActor r ls x (noted s m) p i e f
  pub asked : m.asked ≡ None
