-- What a step asks of the world is served as the class machine has it.
use Rattle.std.specs.Prelude.{◌≡◌, ℕ, suc, ℤ, List, [], ◌∷◌, ◌++◌}
use Rattle.std.specs.declared.option.Option.{Option}
use Rattle.std.specs.declared.option.Option.TheVariants.{None, Some}
use Rattle.flow_base.specs.declared.ids.ActorId.{ActorId}
use Rattle.flow_base.specs.declared.ids.CellId.{CellId}
use Rattle.flow_class.specs.Classes.{RawTree}
use Rattle.flow_trace.specs.declared.line.Line.{Line}
use Rattle.flow_numbered.specs.Numbered.{Numbered}
use Rattle.flow_meaning.specs.Requests as asks
use Rattle.flow_meaning.specs.Requests.{Request, Supply}
use Rattle.flow_meaning.specs.Process.{Proc}
use Rattle.flow_meaning.specs.References.{Scan}
use Rattle.flow_meaning.specs.Dropping.{port_of}
use Rattle.flow_meaning.specs.Burst.{Host, Live, serve}
use Rattle.flow_meaning.specs.Step.{Stepped, reacted}
use Rattle.flow_meaning.specs.React.{react}
use Rattle.flow_meaning.specs.Frame.{Frame}
use Rattle.flow_heap_refinement.specs.Rested.{InNumbers}
use Rattle.flow_steps.specs.declared.call.Call.TheVariants as call
use Rattle.flow_steps.specs.declared.call.DiskCall.{DiskCall}
use Rattle.flow_steps.specs.declared.call.Goal.{Goal}
use Rattle.flow_steps.specs.declared.process.Process.{Process}
use Rattle.flow_machine.specs.Requests.{asked_of}
use Rattle.flow_machine.specs.Hosting.{unheard}
use Rattle.flow_machine.specs.Serving.{Served}
use Rattle.flow_operation_refinement.specs.Matching.{ProcessRepresents}
use Rattle.flow_operation_refinement.specs.Working.{SameGoal}

-- a law on all processes in memory and their hosts, before and after, and on the process and the world that they show
abbrev pub Always : (A W : Type 0)
    → (RawTree → Scan → List Line → Process → Process → A → A → Proc Frame → W → Type 0) → Type 0
Always A W law = (r : RawTree) (x : Scan) (ls : List Line) (m n : Process) (a b : A) (p : Proc Frame) (w : W) → law r x ls m n a b p w

module _ {A W : Type 0} (serves : Host W) (shows : A → Numbered ℕ → W → Type 0) (wrote : A → List Line → A → Type 0)
    (r : RawTree) (x : Scan) where
  -- A process in memory that asks for nothing more, and the world around it, show a process and a world of the definitions.
  pub record Lives (ls : List Line) (m : Process) (a : A) (p : Proc Frame) (w : W) : Type 0 where
    pub shown : ProcessRepresents r ls x m p
    pub served : m.asked ≡ None
    pub world : shows a p.core.ports w

  -- the lines that the world writes for a request, if there is one
  abbrev pub lines_for : Option Request → W → List Line
  lines_for None w = []
  lines_for (Some q) w = (serves.serve q w).0

  -- the world wrote these lines, or did nothing
  pub data WroteOrQuiet : A → List Line → A → Type 0 where
    quiet : {a : A} → WroteOrQuiet a [] a
    told : {a b : A} {ls : List Line} → wrote a ls b → WroteOrQuiet a ls b

  -- a step of the definitions is done, and what it asks is served
  abbrev pub then_served : Stepped Frame → W → Live W Frame
  then_served s w = serve serves s.1 s.0 w

  pub record Done (ls : List Line) (m : Process) (a b : A) (s : Stepped Frame) (w : W) : Type 0 where
    pub told : WroteOrQuiet a (lines_for s.1 w) b
    pub lives : Lives (ls ++ lines_for s.1 w) m b (then_served s w).proc (then_served s w).out

  -- what the process of the definitions does for an act of an actor
  abbrev pub acted : W → ActorId → asks.Act → Proc Frame → Stepped Frame
  acted w i act p = reacted p.actors (react (serves.supply w) i.0 act p.core)

  module _ (ls : List Line) (m n : Process) (a b : A) (p : Proc Frame) (w : W) where
    -- a number is drawn
    abbrev pub NumberDrawn : Type 0
    NumberDrawn =
        (count : ℕ) (i : ActorId) (g : Goal) (h : asks.Goal) (lo hi : ℤ) → Lives ls m a p w → SameGoal p i.0 g h
        → Served serves shows wrote count (call.Draw i g lo hi) m a n b
        → Done ls n a b (acted w i (asks.Effects h (asks.Draw lo hi)) p) w

    -- a timer is asked for
    abbrev pub TimerSet : Type 0
    TimerSet =
        (count : ℕ) (i : ActorId) (g : Goal) (h : asks.Goal) (ticks : ℤ) → Lives ls m a p w → InNumbers p.core
        → SameGoal p i.0 g h → m.time ≡ (serves.supply w).now → Served serves shows wrote count (call.Delay i g ticks) m a n b
        → Done ls n a b (acted w i (asks.Effects h (asks.Delay ticks)) p) w

    -- the disk is asked
    abbrev pub DiskAsked : Type 0
    DiskAsked =
        (count : ℕ) (i : ActorId) (g : Goal) (h : asks.Goal) (request : DiskCall) → Lives ls m a p w
        → InNumbers p.core → SameGoal p i.0 g h → Served serves shows wrote count (call.Disk i g request) m a n b
        → Done ls n a b (acted w i (asks.Effects h (asks.Disk (asked_of request))) p) w

    -- a port gets a stream
    abbrev pub PortHeard : Type 0
    PortHeard =
        (count : ℕ) (i : ActorId) (g : Goal) (h : asks.Goal) (port : ℤ) → Lives ls m a p w → InNumbers p.core → SameGoal p i.0 g h
        → port_of (suc p.core.made) p.core.ports ≡ None → Served serves shows wrote count (call.Listen i g port) m a n b
        → Done ls n a b (acted w i (asks.Effects h (asks.Listen port)) p) w

    -- a text is sent
    abbrev pub TextSent : Type 0
    TextSent =
        (i : ActorId) (number port : ℤ) (text : List ℕ) → Lives ls m a p w
        → Served serves shows wrote (serves.supply w).processes (call.SendTo i number port text) m a n b
        → Done ls n a b (acted w i (asks.SendsTo number port text) p) w

  module _ (ls : List Line) (m n : Process) (a b : A) (p : Proc Frame) (w : W) where
    -- the line that a step told is written
    abbrev pub LineWritten : Type 0
    LineWritten =
        (count : ℕ) (l : Line) → ProcessRepresents r ls x m p → m.asked ≡ Some (call.Line l) → shows a p.core.ports w
        → Served serves shows wrote count (call.Line l) (record m { asked = None }) a n b
        → wrote a (l ∷ []) b × Lives (ls ++ l ∷ []) n b p w

    -- a stream that nobody reads any more is no longer that of its port
    abbrev pub PortUnheard : Type 0
    PortUnheard =
        (count : ℕ) (k : CellId) (ps : Numbered ℕ) → ProcessRepresents r ls x m p → m.asked ≡ Some (call.Unlisten k)
        → shows a ps w → unheard k.0 ps ≡ p.core.ports → Served serves shows wrote count (call.Unlisten k) (record m { asked = None }) a n b
        → wrote a [] b × Lives ls n b p w
