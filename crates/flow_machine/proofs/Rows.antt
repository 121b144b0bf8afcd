-- A burst, step by step.
use Rattle.std.proofs.Common.{◌≡◌, ℕ, List, Result, Ok, Err}
use Rattle.std.specs.Prelude.{IfErr, IsErrOf}
use Rattle.flow_base.specs.declared.ids.ProcId.{ProcId}
use Rattle.flow_code.specs.declared.program.Code.{Code}
use Rattle.flow_trace.specs.declared.line.Line.{Line}
use Rattle.flow_numbered.specs.Numbered.{Numbered}
use Rattle.flow_meaning.specs.Burst.{Host}
use Rattle.flow_steps.specs.declared.process.Next.TheVariants as next
use Rattle.flow_steps.specs.declared.process.Process.{Process}
use Rattle.flow_steps.specs.Doing.{unasked}
use Rattle.flow_steps.specs.Stuck.{IfStuck}
use Rattle.flow_steps.specs.StuckTasks.{TasksStuck, MainStuck}
use Rattle.flow_steps.specs.declared.errors.Fault.{Fault}
use Rattle.flow_steps.specs.declared.errors.Fault.TheVariants as step
use Rattle.flow_steps.specs.Tasks.{Tasks, MainCalled}
use Rattle.flow_machine.specs.declared.host.Burst.{Burst}
use Rattle.flow_machine.specs.declared.host.Burst.TheVariants.{Rested, Spent}
use Rattle.flow_machine.specs.declared.host.RunFault.{RunFault}
use Rattle.flow_machine.specs.declared.host.RunFault.TheVariants.{OutOfMemory, Stuck}
use Rattle.flow_machine.specs.Serving.{ServedIf}
use Rattle.flow_machine.specs.Breaking.{ServingStuck, ServingBrokeIf, BreaksOff, no_memory, gets_stuck, serving, further}
use Rattle.flow_machine.specs.Breaking.{MainBreaksOff, uncalled, main_stuck, untold, called}
use Rattle.flow_machine.specs.Breaking.{BringingBreaksOff, unbrought, bringing_stuck, is_brought}
use Rattle.flow_machine.specs.Cause.{fault_in}
use Rattle.flow_machine.specs.Bursts.{Bursts, rests, runs_out, asks, MainBursts}

module _ {A W : Type 0} (serves : Host W) (shows : A → Numbered ℕ → W → Type 0) (wrote : A → List Line → A → Type 0) (code : Code) (n : ℕ) where
  -- what is done so far comes before a burst
  abbrev pub Before : Process → A → Process → A → Type 0
  Before p a r b = (e : Burst) (s : Process) (c : A) → Bursts serves shows wrote code n r b e s c → Bursts serves shows wrote code n p a e s c

  pub burst_rests : (p r q : Process) (a b : A) → Before p a r b → Tasks code r next.Rested q → Bursts serves shows wrote code n p a Rested q b
  burst_rests p r q a b h t = h Rested q b (rests r q b t)

  pub burst_spent : (p r q : Process) (a b : A) → Before p a r b → Tasks code r next.Spent q → Bursts serves shows wrote code n p a Spent q b
  burst_spent p r q a b h t = h Spent q b (runs_out r q b t)

  pub burst_asks :
      (p r q s : Process) (a b c : A) → Before p a r b → Tasks code r next.Asks q → ServedIf serves shows wrote n q.asked (unasked q) b s c → Before p a s c
  burst_asks p r q s a b c h t v e z d rest = h e z d (asks r q s z b c d e t v rest)

  pub main_bursts :
      (p q r s : Process) (a b c : A) (me : ProcId) (e : Burst) → MainCalled code me p q → ServedIf serves shows wrote n q.asked (unasked q) a r b
      → Bursts serves shows wrote code n r b e s c → MainBursts serves shows wrote code n me p a e s c
  main_bursts p q r s a b c me e m v rest = record { called = q; told = r; between = b; calls = m; line = v; bursts = rest }

-- A burst that breaks off, step by step.
module _ {A W : Type 0} (serves : Host W) (shows : A → Numbered ℕ → W → Type 0) (wrote broke : A → List Line → A → Type 0) (code : Code) (n : ℕ) where
  -- what is done so far comes before where it breaks off
  abbrev pub BeforeBreak : Process → A → Process → A → Type 0
  BeforeBreak p a r b = (f : RunFault) (c : A) → BreaksOff serves shows wrote broke code n r b f c → BreaksOff serves shows wrote broke code n p a f c

  pub further_asks :
      (p q r s : Process) (a b c : A) → BeforeBreak p a r b → Tasks code r next.Asks q → ServedIf serves shows wrote n q.asked (unasked q) b s c
      → BeforeBreak p a s c
  further_asks p q r s a b c h t v f d rest = h f d (further r q s b c d f t v rest)

  pub tasks_break :
      (p r : Process) (a b : A) (e : Fault) → BeforeBreak p a r b → IfStuck e (TasksStuck code r)
      → BreaksOff serves shows wrote broke code n p a (fault_in e) b
  tasks_break p r a b step.OutOfMemory h s = h OutOfMemory b (no_memory r b)
  tasks_break p r a b step.Stuck h s = h Stuck b (gets_stuck r b s)

  pub asks_break :
      (p q r : Process) (a b c : A) (f : RunFault) → BeforeBreak p a r b → Tasks code r next.Asks q
      → ServingBrokeIf serves shows wrote broke n q.asked b c → (f ≡ Stuck → ServingStuck q.asked)
      → BreaksOff serves shows wrote broke code n p a f c
  asks_break p q r a b c f h t v s = h f c (serving r q b c f t v s)

  pub numbers_end : (p r : Process) (a b : A) → BeforeBreak p a r b → BreaksOff serves shows wrote broke code n p a OutOfMemory b
  numbers_end p r a b h = h OutOfMemory b (no_memory r b)

  pub main_breaks :
      (me : ProcId) (p : Process) (a : A) (e : Fault) → IfStuck e (MainStuck code me p.heap)
      → MainBreaksOff serves shows wrote broke code n me p a (fault_in e) a
  main_breaks me p a step.OutOfMemory s = uncalled
  main_breaks me p a step.Stuck s = main_stuck s

  pub line_breaks :
      (me : ProcId) (p q : Process) (a b : A) (f : RunFault) → MainCalled code me p q
      → ServingBrokeIf serves shows wrote broke n q.asked a b → (f ≡ Stuck → ServingStuck q.asked)
      → MainBreaksOff serves shows wrote broke code n me p a f b
  line_breaks me p q a b f m v s = untold q b f m v s

  pub after_main :
      (me : ProcId) (p q r : Process) (a b c : A) (end : Result Burst RunFault) → MainCalled code me p q
      → ServedIf serves shows wrote n q.asked (unasked q) a r b → IfErr end (λ f. BreaksOff serves shows wrote broke code n r b f c)
      → IfErr end (λ f. MainBreaksOff serves shows wrote broke code n me p a f c)
  after_main me p q r a b c (Ok e) m v h = tt
  after_main me p q r a b c (Err f) m v h = called q r b c f m v h

  module _ (stuck : Type 0) (m : Process) (a : A) where
    pub bringing_breaks : (e : Fault) → IfStuck e stuck → BringingBreaksOff serves shows wrote broke code n stuck m a (fault_in e) a
    bringing_breaks step.OutOfMemory s = unbrought
    bringing_breaks step.Stuck s = bringing_stuck s

    pub after_bringing :
        (b : A) (end : Result Burst RunFault) → IfErr end (λ f. BreaksOff serves shows wrote broke code n m a f b)
        → IfErr end (λ f. BringingBreaksOff serves shows wrote broke code n stuck m a f b)
    after_bringing b (Ok e) h = tt
    after_bringing b (Err f) h = is_brought f b h
