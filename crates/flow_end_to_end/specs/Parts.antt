-- A burst in memory that breaks off, for want of memory say, has written a first part of the lines of the burst of the class machine.
use Rattle.std.specs.Prelude.{◌≡◌, ℕ, List, [], ◌++◌}
use Rattle.flow_class.specs.Classes.{RawTree}
use Rattle.flow_code.specs.declared.program.Code.{Code}
use Rattle.flow_trace.specs.declared.line.Line.{Line}
use Rattle.flow_numbered.specs.Numbered.{Numbered}
use Rattle.flow_meaning.specs.Requests.{Drew}
use Rattle.flow_meaning.specs.Burst as machine
use Rattle.flow_meaning.specs.Burst.{Host, Live, live}
use Rattle.flow_meaning.specs.Class.{classes}
use Rattle.flow_meaning.specs.Frame.{Frame}
use Rattle.flow_meaning.specs.Process.{Proc}
use Rattle.flow_steps.specs.declared.process.Process.{Process}
use Rattle.flow_machine.specs.declared.host.RunFault.{RunFault}
use Rattle.flow_machine.specs.Breaking.{BreaksOff}
use Rattle.flow_burst_refinement.specs.Enabled.Tasking.{IsProgram}
use Rattle.flow_burst_refinement.specs.Bursts.{HostKeepsTime, RepresentsInWorld}

-- What it is to write a first part of lines: nothing is one of any lines; one of some lines is one of more; and it goes on after lines
-- that were written. The world writes no line for a drawn word.
pub record WritesInPart {A W : Type 0} (serves : Host W) (wrote broke : A → List Line → A → Type 0) : Type 0 where
  pub nothing : (a : A) (ls : List Line) → broke a ls a
  pub more : (a b : A) (ls ms : List Line) → broke a ls b → broke a (ls ++ ms) b
  pub after : (a b c : A) (ls ms : List Line) → wrote a ls b → broke b ms c → broke a (ls ++ ms) c
  pub draws : (width : ℕ) (w : W) → (serves.serve (Drew width) w).0 ≡ []

-- of the lines of a process, those after the first ones were written in part
pub record PartOf {A W : Type 0} (broke : A → List Line → A → Type 0) (ls : List Line) (a b : A) (l : Live W Frame) : Type 0 where
  pub rest : List Line
  pub are : l.proc.core.lines ≡ ls ++ rest
  pub part : broke a rest b

abbrev pub BurstInPart : {A W : Type 0} (serves : Host W) (shows : A → Numbered ℕ → W → Type 0)
    (wrote broke : A → List Line → A → Type 0) (code : Code) (processes : ℕ) → RawTree → Type 0
BurstInPart {A} {W} serves shows wrote broke code processes r =
    IsProgram r code → HostKeepsTime serves → WritesInPart serves wrote broke
    → (ls : List Line) (m : Process) (a b : A) (f : RunFault) (p : Proc Frame) (w : W)
    → RepresentsInWorld serves shows wrote code processes r ls m a p w → BreaksOff serves shows wrote broke code processes m a f b
    → (l : Live W Frame) → machine.Burst (classes r) serves (live p w) l → PartOf broke ls a b l
