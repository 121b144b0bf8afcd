-- How far a burst came that breaks off, and what was written then.
use Rattle.std.specs.Prelude.{◌≡◌, ◌⊎◌, ℕ, ◌-ℤ◌, Bool, true, false, List, [], ◌∷◌}
use Rattle.std.specs.declared.option.Option.{Option}
use Rattle.std.specs.declared.option.Option.TheVariants.{None, Some}
use Rattle.flow_base.specs.declared.ids.ProcId.{ProcId}
use Rattle.flow_code.specs.declared.program.Code.{Code}
use Rattle.flow_trace.specs.declared.line.Line.{Line}
use Rattle.flow_eval.specs.Predefined.{natural}
use Rattle.flow_numbered.specs.Numbered.{Numbered}
use Rattle.flow_meaning.specs.Requests.{Drew, Packet}
use Rattle.flow_meaning.specs.Burst.{Host}
use Rattle.flow_steps.specs.declared.call.Call.{Call}
use Rattle.flow_steps.specs.declared.call.Call.TheVariants as call
use Rattle.flow_steps.specs.declared.call.Goal.{Goal}
use Rattle.flow_steps.specs.declared.call.Goal.TheVariants as goal
use Rattle.flow_steps.specs.declared.process.Next.TheVariants as next
use Rattle.flow_steps.specs.declared.process.Process.{Process}
use Rattle.flow_steps.specs.Doing.{unasked}
use Rattle.flow_steps.specs.Tasks.{Tasks, MainCalled}
use Rattle.flow_steps.specs.StuckTasks.{TasksStuck, MainStuck}
use Rattle.flow_machine.specs.declared.host.RunFault.{RunFault}
use Rattle.flow_machine.specs.declared.host.RunFault.TheVariants.{OutOfMemory, Stuck}
use Rattle.flow_machine.specs.Hosting.{Serves, LinesOf}
use Rattle.flow_machine.specs.Serving.{ServedIf, may_send}

-- what is given is to be kept as an operand
abbrev pub IsOperand : Goal → Type 0
IsOperand goal.Stored = ⊥
IsOperand (goal.Kept n) = Unit {0}

-- what a step asked goes astray: a drawn number, which is no reference, is to be kept as an operand
abbrev pub ServingStuck : Option Call → Type 0
ServingStuck (Some (call.Draw i g lo hi)) = IsOperand g
ServingStuck _ = ⊥

-- A stands for the host, W for what can change in the world, `serves` for what the world does for a request, `shows` for what the
-- host shows, `wrote` for the lines that came of it since, and `broke` for lines of which at most a first part did.
module _ {A W : Type 0} (serves : Host W) (shows : A → Numbered ℕ → W → Type 0) (wrote broke : A → List Line → A → Type 0) where
  -- no line was to be written
  abbrev pub Unwritten : A → A → Type 0
  Unwritten a b = (b ≡ a) ⊎ broke a [] b

  -- what a step asked is served in part
  abbrev pub DrawBroke : (width : ℕ) → A → A → Type 0
  DrawBroke width a b = Unwritten a b ⊎ Serves serves shows wrote (Drew width) a b

  abbrev pub SendBroke : (fits : Bool) → (number port : ℕ) → List ℕ → A → A → Type 0
  SendBroke true number port text a b = (b ≡ a) ⊎ LinesOf serves shows broke (Packet number port text) a b
  SendBroke false number port text a b = b ≡ a

  abbrev pub ServingBroke : (processes : ℕ) → Call → A → A → Type 0
  ServingBroke n (call.Line l) a b = broke a (l ∷ []) b
  ServingBroke n (call.Draw i g lo hi) a b = DrawBroke (natural (hi -ℤ lo)) a b
  ServingBroke n (call.Delay i g ticks) a b = Unwritten a b
  ServingBroke n (call.Listen i g port) a b = Unwritten a b
  ServingBroke n (call.Disk i g request) a b = Unwritten a b
  ServingBroke n (call.SendTo i number port text) a b = SendBroke (may_send n number port) (natural number) (natural port) text a b
  ServingBroke n (call.Unlisten k) a b = ⊥

  abbrev pub ServingBrokeIf : (processes : ℕ) → Option Call → A → A → Type 0
  ServingBrokeIf n None a b = ⊥
  ServingBrokeIf n (Some c) a b = ServingBroke n c a b

  module _ (code : Code) (processes : ℕ) where
    -- A burst breaks off, with a fault: in its tasks, for want of memory or because one goes astray; where what a step asked is
    -- served; or so after that. What steps ask is counted: past 2^64 - 1 times is answered as want of memory.
    pub data BreaksOff : Process → A → RunFault → A → Type 0 where
      no_memory : (p : Process) (a : A) → BreaksOff p a OutOfMemory a
      gets_stuck : (p : Process) (a : A) → TasksStuck code p → BreaksOff p a Stuck a
      serving : (p q : Process) (a b : A) (f : RunFault) → Tasks code p next.Asks q → ServingBrokeIf processes q.asked a b
          → (f ≡ Stuck → ServingStuck q.asked) → BreaksOff p a f b
      further : (p q r : Process) (a b c : A) (f : RunFault) → Tasks code p next.Asks q
          → ServedIf serves shows wrote processes q.asked (unasked q) a r b → BreaksOff r b f c → BreaksOff p a f c

    -- So does the call of `main`, the line of its start, or the burst that follows.
    pub data MainBreaksOff (me : ProcId) (p : Process) (a : A) : RunFault → A → Type 0 where
      uncalled : MainBreaksOff me p a OutOfMemory a
      main_stuck : MainStuck code me p.heap → MainBreaksOff me p a Stuck a
      untold : (q : Process) (b : A) (f : RunFault) → MainCalled code me p q → ServingBrokeIf processes q.asked a b
          → (f ≡ Stuck → ServingStuck q.asked) → MainBreaksOff me p a f b
      called : (q r : Process) (b c : A) (f : RunFault) → MainCalled code me p q
          → ServedIf serves shows wrote processes q.asked (unasked q) a r b → BreaksOff r b f c → MainBreaksOff me p a f c

    -- What is brought to a process goes astray, for which there may be no memory either; or the burst that follows breaks off.
    pub data BringingBreaksOff (stuck : Type 0) (brought : Process) (a : A) : RunFault → A → Type 0 where
      unbrought : BringingBreaksOff stuck brought a OutOfMemory a
      bringing_stuck : stuck → BringingBreaksOff stuck brought a Stuck a
      is_brought : (f : RunFault) (b : A) → BreaksOff brought a f b → BringingBreaksOff stuck brought a f b
