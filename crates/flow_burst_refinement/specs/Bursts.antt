-- A burst in memory is a burst of the class machine, where each task that is done is a row of its steps.
use Rattle.std.specs.Prelude.{◌≡◌, ℕ, pos, true, false, List, [], ◌++◌}
use Rattle.std.specs.declared.option.Option.{Option}
use Rattle.std.specs.declared.option.Option.TheVariants.{None, Some}
use Rattle.flow_class.specs.Classes.{RawTree}
use Rattle.flow_code.specs.declared.program.Code.{Code}
use Rattle.flow_trace.specs.declared.line.Line.{Line}
use Rattle.flow_cancel.specs.declared.task.Task as stack
use Rattle.flow_numbered.specs.Numbered.{Numbered}
use Rattle.flow_meaning.specs.Requests.{Request}
use Rattle.flow_meaning.specs.Process.{Spent, Proc}
use Rattle.flow_meaning.specs.Burst as machine
use Rattle.flow_meaning.specs.Burst.{Host, live}
use Rattle.flow_meaning.specs.Step.{Stepped, step}
use Rattle.flow_meaning.specs.Class.{classes}
use Rattle.flow_meaning.specs.Frame.{Frame}
use Rattle.flow_heap_refinement.specs.Counted.{nothing_in_hand}
use Rattle.flow_heap_refinement.specs.Rested.{InNumbers}
use Rattle.flow_progress.specs.Ending.{Reaches}
use Rattle.flow_steps.specs.declared.call.Call.{Call}
use Rattle.flow_steps.specs.declared.call.Call.TheVariants as call
use Rattle.flow_steps.specs.declared.process.Process.{Process}
use Rattle.flow_steps.specs.Doing.{unasked}
use Rattle.flow_steps.specs.Evaluating.{program_time}
use Rattle.flow_steps.specs.Tasks.{TopTaken, IsDone}
use Rattle.flow_machine.specs.declared.host.Burst.{Burst}
use Rattle.flow_machine.specs.declared.host.Burst.TheVariants as burst
use Rattle.flow_machine.specs.Hosting.{unheard}
use Rattle.flow_machine.specs.Serving.{Served}
use Rattle.flow_machine.specs.Bursts.{Bursts}
use Rattle.flow_operation_refinement.specs.Stepped.{OnlyTells}
use Rattle.flow_operation_refinement.specs.Matching.{ProcessRepresents}
use Rattle.flow_operation_refinement.specs.Matching as memory
use Rattle.flow_step_refinement.specs.Services.{WroteOrQuiet, Done}
use Rattle.flow_step_refinement.specs.Resuming.{NoStaleWaits, Branched}
use Rattle.flow_burst_refinement.specs.Invariants.Allowed.{IsValidCode, BetweenTasks}

-- the ports that are left of those of before
abbrev pub ports_left : Option Call → Numbered ℕ → Numbered ℕ
ports_left (Some (call.Unlisten k)) ps = unheard k.0 ps
ports_left _ ps = ps

-- a world whose time and processes no request changes
abbrev pub HostKeepsTime : {W : Type 0} → Host W → Type 0
HostKeepsTime {W} h =
    (q : Request) (w : W)
    → ((h.supply (h.serve q w).1).now ≡ (h.supply w).now) × ((h.supply (h.serve q w).1).processes ≡ (h.supply w).processes)

module _ {A W : Type 0} (serves : Host W) (shows : A → Numbered ℕ → W → Type 0) (wrote : A → List Line → A → Type 0) (code : Code)
    (processes : ℕ) (r : RawTree) where
  -- A process in memory between two tasks and the host around it, and what they show: a process in its world, at the world's time,
  -- which programs tell, and one of as many. No actor is in the state of a wait that doesn't wait, unless it is thrown an error or ends.
  pub record RepresentsInWorld (ls : List Line) (m : Process) (a : A) (p : Proc Frame) (w : W) : Type 0 where
    pub between : BetweenTasks r ls m p
    pub asked : m.asked ≡ None
    pub world : shows a p.core.ports w
    pub time : m.time ≡ (serves.supply w).now
    pub clock : program_time m.time ≡ pos m.time
    pub among : processes ≡ (serves.supply w).processes
    pub poised : NoStaleWaits m.heap

  -- A step that asks something else of the world: memory shows the process that asks, and where its call is served, the class
  -- machine's step is, and both show what comes of it.
  pub record AsksWorld (ls : List Line) (n : Process) (a : A) (p : Proc Frame) (w : W) : Type 0 where
    pub called : Call
    pub asked : n.asked ≡ Some called
    pub after : Stepped Frame
    pub steps : step (classes r) (serves.supply w) p ≡ Some after
    pub asking : Proc Frame
    pub shown : ProcessRepresents r ls nothing_in_hand (unasked n) asking
    pub numbers : InNumbers asking.core
    pub done : (k : Process) (b : A) → Served serves shows wrote processes called (unasked n) a k b
        → Done serves shows wrote r nothing_in_hand ls k a b after w

  -- A task that is done in memory is a row of steps; the last of them may ask something of the world.
  pub data TaskGoes (ls : List Line) (n : Process) (a : A) (p : Proc Frame) (w : W) : Type 0 where
    by_itself : (q : Proc Frame) → Reaches (classes r) serves (live p w) (live q w) → memory.Matches r ls nothing_in_hand n q
        → OnlyTells n.asked → (n.spent ≡ false → q.core.ports ≡ ports_left n.asked p.core.ports) → TaskGoes ls n a p w
    by_the_world : (q : Proc Frame) → Reaches (classes r) serves (live p w) (live q w) → AsksWorld ls n a q w
        → TaskGoes ls n a p w

  abbrev pub TasksGo : Type 0
  TasksGo =
      (ls : List Line) (m start n : Process) (a : A) (p : Proc Frame) (w : W) (t : stack.Task) → RepresentsInWorld ls m a p w
      → TopTaken t m start → IsDone code t start n → TaskGoes ls n a p w

  -- lines that were written one after another, and nothing else
  pub data Wrote : A → List Line → A → Type 0 where
    no_line : (a : A) → Wrote a [] a
    and_more : (a b c : A) (ls more : List Line) → WroteOrQuiet serves shows wrote r nothing_in_hand a ls b → Wrote b more c
        → Wrote a (ls ++ more) c

  -- the end of a burst: the process rests, or the event is spent
  abbrev pub EndsAs : List Line → Burst → Process → A → Proc Frame → W → Type 0
  EndsAs ls burst.Rested n b q u = RepresentsInWorld ls n b q u × (q.core.tasks ≡ [])
  EndsAs ls burst.Spent n b q u = (n.spent ≡ true) × (q.core.halted ≡ Some Spent) × (q.core.lines ≡ ls)

  -- It is a burst of the class machine, with the lines that the host wrote.
  pub record SimulatesBurst (ls : List Line) (a : A) (p : Proc Frame) (w : W) (e : Burst) (n : Process) (b : A) : Type 0 where
    pub after : Proc Frame
    pub out : W
    pub lines : List Line
    pub bursts : machine.Burst (classes r) serves (live p w) (live after out)
    pub written : Wrote a lines b
    pub ends : EndsAs (ls ++ lines) e n b after out

  abbrev pub BurstFollows : Type 0
  BurstFollows =
      (run : IsValidCode r code) → Branched code.classes.items → HostKeepsTime serves → TasksGo
      → (ls : List Line) (m n : Process) (a b : A) (p : Proc Frame) (w : W) (e : Burst)
      → RepresentsInWorld ls m a p w → Bursts serves shows wrote code processes m a e n b → SimulatesBurst ls a p w e n b
