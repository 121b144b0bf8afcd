-- Which ports a process has after steps of the class machine that ask nothing of the world, by what memory
-- tells.
use Rattle.std.specs.Prelude.{◌≡◌, ◌≤◌, ℕ, suc, false}
use Rattle.std.specs.declared.option.Option.{Option}
use Rattle.std.specs.declared.option.Option.TheVariants.{Some}
use Rattle.flow_class.specs.Classes.{RawTree}
use Rattle.flow_cancel.specs.Heap.{HeapTree, has_number, without_number}
use Rattle.flow_numbered.specs.Numbered.{added, removed}
use Rattle.flow_meaning.specs.Requests.{Supply}
use Rattle.flow_meaning.specs.Process.{Core, Proc}
use Rattle.flow_meaning.specs.Step.{Stepped, step}
use Rattle.flow_meaning.specs.Class.{classes}
use Rattle.flow_meaning.specs.Frame.{Frame}
use Rattle.flow_heap_refinement.specs.Representing.{Represents}
use Rattle.flow_heap_refinement.specs.Rested.{InNumbers}
use Rattle.flow_steps.specs.declared.call.Call.{Call}
use Rattle.flow_operation_refinement.specs.Stepped.{OnlyTells}
use Rattle.flow_burst_refinement.specs.Invariants.Staying.{ports_after}
use Rattle.flow_burst_refinement.specs.Bursts.{ports_left}
use Rattle.flow_step_refinement.specs.Continuing.{Silent}

-- What a step does to the ports: nothing; one whose stream is lost goes; or one comes, whose stream is the next
-- cell. No fewer cells have been made than before.
pub data PortsChange (c d : Core) : Type 0 where
  same : d.ports ≡ c.ports → c.made ≤ d.made → PortsChange c d
  lost : (port : ℕ) → d.ports ≡ removed c.ports port → c.made ≤ d.made → PortsChange c d
  more : (port : ℕ) → d.ports ≡ added c.ports port (suc c.made) → suc c.made ≤ d.made → PortsChange c d

abbrev pub StepPorts : Type 0
StepPorts =
    (r : RawTree) (s : Supply) (p : Proc Frame) (t : Stepped Frame) → step (classes r) s p ≡ Some t
    → PortsChange p.core t.0.core

-- Where memory shows the process before and after steps that ask nothing of the world, the process has lost the
-- port that memory tells, and no other.
abbrev pub PortsLeft : Type 0
PortsLeft =
    (r : RawTree) (s : Supply) (h g : HeapTree) (p q : Proc Frame) (told : Option Call) → Represents r h p → Represents r g q
    → InNumbers p.core → ((k : ℕ) → has_number (without_number h.ports k) k ≡ false) → Silent r s p q
    → OnlyTells told → g.ports ≡ ports_after told h.ports
    → q.core.ports ≡ ports_left told p.core.ports
