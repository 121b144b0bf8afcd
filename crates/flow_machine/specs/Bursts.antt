-- A burst: what a process does, and what the world around it does for it, until nothing is left to do.
use Rattle.std.specs.Prelude.{ℕ, List}
use Rattle.flow_base.specs.declared.ids.ProcId.{ProcId}
use Rattle.flow_code.specs.declared.program.Code.{Code}
use Rattle.flow_trace.specs.declared.line.Line.{Line}
use Rattle.flow_numbered.specs.Numbered.{Numbered}
use Rattle.flow_meaning.specs.Burst.{Host}
use Rattle.flow_steps.specs.declared.process.Next.TheVariants as next
use Rattle.flow_steps.specs.declared.process.Process.{Process}
use Rattle.flow_steps.specs.Doing.{unasked}
use Rattle.flow_steps.specs.Tasks.{Tasks, MainCalled}
use Rattle.flow_machine.specs.declared.host.Burst.{Burst}
use Rattle.flow_machine.specs.declared.host.Burst.TheVariants.{Rested, Spent}
use Rattle.flow_machine.specs.Serving.{ServedIf}

module _ {A W : Type 0} (serves : Host W) (shows : A → Numbered ℕ → W → Type 0) (wrote : A → List Line → A → Type 0) (code : Code)
    (processes : ℕ) where
  -- Tasks are done up to a step that asks something of the world, which is served, and so on: until no task is left, or a turn
  -- was wanted in vain.
  pub data Bursts : Process → A → Burst → Process → A → Type 0 where
    rests : (p q : Process) (a : A) → Tasks code p next.Rested q → Bursts p a Rested q a
    runs_out : (p q : Process) (a : A) → Tasks code p next.Spent q → Bursts p a Spent q a
    asks : (p q r s : Process) (a b c : A) (e : Burst) → Tasks code p next.Asks q
        → ServedIf serves shows wrote processes q.asked (unasked q) a r b → Bursts r b e s c → Bursts p a e s c

  -- `main` is called, the line of its start is written, and a burst follows.
  pub record MainBursts (me : ProcId) (p : Process) (a : A) (e : Burst) (s : Process) (c : A) : Type 0 where
    pub called : Process
    pub told : Process
    pub between : A
    pub calls : MainCalled code me p called
    pub line : ServedIf serves shows wrote processes called.asked (unasked called) a told between
    pub bursts : Bursts told between e s c
