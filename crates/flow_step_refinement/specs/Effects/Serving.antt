-- A step that asks something of the world, and its service, are a step of the class machine in its world.
use Rattle.std.specs.Prelude.{◌≡◌, ℕ, List}
use Rattle.std.specs.declared.option.Option.TheVariants.{Some}
use Rattle.flow_class.specs.Classes.{RawTree}
use Rattle.flow_trace.specs.declared.line.Line.{Line}
use Rattle.flow_numbered.specs.Numbered.{Numbered}
use Rattle.flow_meaning.specs.Process.{Run, Proc}
use Rattle.flow_meaning.specs.References.{Scan}
use Rattle.flow_meaning.specs.Work.{pushed}
use Rattle.flow_meaning.specs.Burst.{Host}
use Rattle.flow_meaning.specs.Step.{Stepped, step, on_core}
use Rattle.flow_meaning.specs.Class.{classes}
use Rattle.flow_meaning.specs.Frame.{Frame}
use Rattle.flow_heap_refinement.specs.Rested.{InNumbers}
use Rattle.flow_steps.specs.declared.process.Process.{Process}
use Rattle.flow_steps.specs.Doing.{unasked}
use Rattle.flow_machine.specs.Serving.{ServedIf}
use Rattle.flow_step_refinement.specs.Services as served
use Rattle.flow_step_refinement.specs.Effects.Asking.{AsksAs}

module _ {A W : Type 0} (serves : Host W) (shows : A → Numbered ℕ → W → Type 0) (wrote : A → List Line → A → Type 0) where
  -- a step of the class machine is served, and memory and the world around it show the process and its world after it
  pub record ServedStep (r : RawTree) (x : Scan) (ls : List Line) (before : Proc Frame) (n : Process) (a b : A) (w : W) : Type 0 where
    pub after : Stepped Frame
    pub steps : step (classes r) (serves.supply w) before ≡ Some after
    pub done : served.Done serves shows wrote r x ls n a b after w

  -- what a step asked is served; the process runs at the world's time, among its processes
  abbrev pub AskServed : Type 0
  AskServed =
      (r : RawTree) (x : Scan) (ls : List Line) (n k : Process) (a b : A) (p : Proc Frame) (i : ℕ) (w : W) (processes : ℕ)
      → AsksAs r ls x (serves.supply w) p i n → InNumbers p.core → n.time ≡ (serves.supply w).now
      → processes ≡ (serves.supply w).processes → shows a p.core.ports w
      → ServedIf serves shows wrote processes n.asked (unasked n) a k b
      → ServedStep r x ls (on_core (pushed (Run i)) p) k a b w
