-- A process in memory between events has nothing left to do.
use Rattle.std.specs.Prelude.{◌≡◌, ℕ, []}
use Rattle.std.specs.declared.option.Option.TheVariants.{None}
use Rattle.flow_class.specs.Classes.{RawTree}
use Rattle.flow_meaning.specs.Burst.{advance, live}
use Rattle.flow_meaning.specs.Class.{classes}
use Rattle.flow_meaning.specs.Deliver.{begin}
use Rattle.flow_meaning.specs.Frame.{Frame}
use Rattle.flow_meaning.specs.Outside.{Outside, host}
use Rattle.flow_meaning.specs.Process.{Proc}
use Rattle.flow_meaning.specs.Step.{on_core}
use Rattle.flow_steps.specs.declared.process.Process.{Process}
use Rattle.flow_burst_refinement.specs.Boundaries.Delivering.{Resting}

-- one that rests, and no task is left of the process that it shows
pub record Quiescent (r : RawTree) (m : Process) (p : Proc Frame) : Type 0 where
  pub resting : Resting r m p
  pub tasks : p.core.tasks ≡ []

-- So it does nothing by itself, however many turns it gets, and rests still.
abbrev pub StaysQuiescent : RawTree → Type 0
StaysQuiescent r =
    (turns : ℕ) (m : Process) (p : Proc Frame) (out : Outside) → Quiescent r m p
    → (advance (classes r) host (live (on_core (begin turns) p) out) ≡ None) × Quiescent r m (on_core (begin turns) p)
