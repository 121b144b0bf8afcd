-- A process in memory, while an event goes on, and the process of the definitions that it shows.
use Rattle.std.specs.Prelude.{◌≡◌, ◌+◌, true, false, List, [], ◌∷◌, ◌++◌}
use Rattle.std.specs.declared.option.Option.{Option}
use Rattle.std.specs.declared.option.Option.TheVariants.{None, Some}
use Rattle.flow_class.specs.Classes.{RawTree}
use Rattle.flow_trace.specs.declared.line.Line.{Line}
use Rattle.flow_steps.specs.declared.call.Call.{Call}
use Rattle.flow_steps.specs.declared.call.Call.TheVariants as call
use Rattle.flow_steps.specs.declared.process.Process.{Process}
use Rattle.flow_meaning.specs.Process.{Task, Spent, Proc}
use Rattle.flow_meaning.specs.References.{Scan, in_task}
use Rattle.flow_meaning.specs.Orderly.{Rising}
use Rattle.flow_meaning.specs.Frame.{Frame}
use Rattle.flow_heap_refinement.specs.Rested.{Owned, InNumbers}
use Rattle.flow_heap_refinement.specs.Holds.{Holds, MayWait}

-- the line that a step told, if it did
abbrev pub told : Option Call → List Line
told None = []
told (Some (call.Line l)) = l ∷ []
told (Some _) = []

-- the lines of a process: those before the step, and the one that it told
abbrev pub Writes : List Line → Process → Proc Frame → Type 0
Writes ls m p = p.core.lines ≡ ls ++ told m.asked

-- A process in memory shows one of the definitions where the event goes on: its heap does, and its counts are the
-- references there and those in hand; as many turns are left; and the lines are the same.
pub record ProcessRepresents (r : RawTree) (ls : List Line) (in_hand : Scan) (m : Process) (p : Proc Frame) : Type 0 where
  pub holds : Holds r in_hand m.heap p
  pub left : p.core.left ≡ m.left
  pub lines : Writes ls m p
  pub unspent : m.spent ≡ false
  pub goes : p.core.halted ≡ None

-- Of an event that is spent nothing is kept but its lines.
pub record AreSpent (ls : List Line) (m : Process) (p : Proc Frame) : Type 0 where
  pub spent : m.spent ≡ true
  pub halted : p.core.halted ≡ Some Spent
  pub lines : Writes ls m p

-- What is done in memory follows the definitions: the process that comes out there is shown, or both events are spent.
pub data Matches (r : RawTree) (ls : List Line) (in_hand : Scan) (m : Process) (p : Proc Frame) : Type 0 where
  shows : ProcessRepresents r ls in_hand m p → Matches r ls in_hand m p
  ends : AreSpent ls m p → Matches r ls in_hand m p

-- what a task holds comes to hand
abbrev pub with_task : Task → Scan → Scan
with_task u x s j = in_task s j u + x s j

-- What holds of a process wherever a reference is lost or an actor is cancelled: it owns what it made cells for, numbers
-- rise, and waiters and operands agree.
pub record Sound (p : Proc Frame) : Type 0 where
  pub owned : Owned p
  pub numbers : InNumbers p.core
  pub entries : Rising 0 p.core.started p.core.entries
  pub waits : MayWait p.core

-- a law on each process in memory and each of the definitions, whatever was written before and is in hand
abbrev pub Always : (RawTree → List Line → Scan → Process → Proc Frame → Type 0) → Type 0
Always law = (r : RawTree) (ls : List Line) (x : Scan) (m : Process) (p : Proc Frame) → law r ls x m p
