-- What is owned alone: promise sides that nothing but their owner refers to.
use Rattle.std.specs.Prelude.{◌≡◌, ℕ}
use Rattle.std.specs.declared.option.Option.TheVariants.{None, Some}
use Rattle.flow_class.specs.Classes.{RawTree}
use Rattle.flow_numbered.specs.Numbered.{Numbered, thing, removed}
use Rattle.flow_meaning.specs.Cells.{Side, PromiseSide}
use Rattle.flow_meaning.specs.Requests.{Supply}
use Rattle.flow_meaning.specs.Process.{Entry, Core, Proc}
use Rattle.flow_meaning.specs.References.{reference_count, scan_of}
use Rattle.flow_meaning.specs.Dropping.{port_of}
use Rattle.flow_meaning.specs.Orderly.{Orderly}
use Rattle.flow_meaning.specs.Step.{step}
use Rattle.flow_meaning.specs.Frame.{Frame, occ_memory}
use Rattle.flow_meaning.specs.Class.{classes}
use Rattle.flow_progress.specs.Fitting.{CellTypes, ProcessFits}
use Rattle.flow_progress.specs.Keeping.{IsFine}

-- the references in the variables of frames
abbrev pub frames_scan : Numbered Frame → Side → ℕ → ℕ
frames_scan xs = scan_of (λ s k (f : Frame). occ_memory s k f.mem) xs

-- The promise side of a port's stream is referred to once: by the port, which is there once.
pub record PortsAlone (c : Core) (xs : Numbered Frame) : Type 0 where
  pub alone : (port k : ℕ) → port_of k c.ports ≡ Some port → reference_count (frames_scan xs) PromiseSide k c ≡ 1
  pub once : (port : ℕ) → thing (removed c.ports port) port ≡ None

-- The promise side of the result of an unfinished actor is referred to once: by the actor.
abbrev pub ResultsAlone : Core → Numbered Frame → Type 0
ResultsAlone c xs = (i k : ℕ) (e : Entry) → thing c.entries i ≡ Some e → e.result ≡ Some k
    → reference_count (frames_scan xs) PromiseSide k c ≡ 1

-- Where what is owned is owned alone, a step keeps a process fitting, and has a meaning.
abbrev pub StepsKeepFitting : RawTree → Type 0
StepsKeepFitting r =
    (s : Supply) (types : CellTypes) (p : Proc Frame) → Orderly p.core → p.core.halted ≡ None
    → ProcessFits r types p.core p.actors → PortsAlone p.core p.actors → ResultsAlone p.core p.actors
    → IsFine r types (step (classes r) s p)
