-- What a process of valid classes keeps from step to step: all that the laws of single steps ask of it.
use Rattle.std.specs.Prelude.{◌≡◌, List}
use Rattle.std.specs.declared.option.Option.TheVariants.{None, Some}
use Rattle.flow_timers.specs.Pending.{Pending}
use Rattle.flow_trace.specs.declared.line.Line.{Line}
use Rattle.flow_class.specs.Classes.{RawTree}
use Rattle.flow_meaning.specs.Requests.{Supply}
use Rattle.flow_meaning.specs.Process.{Proc}
use Rattle.flow_meaning.specs.Orderly.{Orderly, UnlessStopped}
use Rattle.flow_meaning.specs.Burst.{add_lines}
use Rattle.flow_meaning.specs.Outside.{What}
use Rattle.flow_meaning.specs.Step.{Stepped, step, on_core}
use Rattle.flow_meaning.specs.Class.{classes}
use Rattle.flow_meaning.specs.Frame.{Frame}
use Rattle.flow_heap_refinement.specs.CellsTied.{CellsTied}
use Rattle.flow_heap_refinement.specs.Lonely.{OwnedAlone}
use Rattle.flow_progress.specs.Fitting.{CellTypes, ProcessFits}
use Rattle.flow_invariants.specs.Fitting.Among.{FitsAmong}
use Rattle.flow_invariants.specs.Fitting.Laws.{AreValid}
use Rattle.flow_invariants.specs.Owned.{Unset}

-- Tasks are in order; waiters and operands agree, and numbers rise; what a process made a cell for is its own and unset; and
-- for some types of its cells it fits.
pub record ProcessInvariant (r : RawTree) (p : Proc Frame) : Type 0 where
  pub orderly : Orderly p.core
  pub tied : CellsTied p.core
  pub alone : OwnedAlone p
  pub unset : Unset p.core
  pub types : CellTypes
  pub fits : ProcessFits r types p.core p.actors

-- Each step of valid classes keeps it, unless the event is stopped; and so do lines that the world writes.
abbrev pub StepKeeps : RawTree → Type 0
StepKeeps r =
    (s : Supply) (p : Proc Frame) (q : Stepped Frame) → AreValid r → ProcessInvariant r p → p.core.halted ≡ None
    → step (classes r) s p ≡ Some q → UnlessStopped q.0.core.halted (ProcessInvariant r q.0)

abbrev pub LinesKeep : RawTree → Type 0
LinesKeep r = (ls : List Line) (p : Proc Frame) → ProcessInvariant r p → ProcessInvariant r (on_core (add_lines ls) p)

-- It holds of a process that fits among the pending events of its world, as each does at each boundary of a run.
abbrev pub AmongKept : RawTree → Type 0
AmongKept r = (n : _) (events : List (Pending What)) (p : Proc Frame) → FitsAmong r n events p → Unset p.core → ProcessInvariant r p
