-- Nothing that an event does to a process in memory is stuck, and nothing that follows of it.
use Rattle.std.specs.Prelude.{◌≡◌, ℕ, List, [], Result}
use Rattle.std.specs.declared.option.Option.TheVariants.{None}
use Rattle.flow_base.specs.declared.ids.ProcId.{ProcId}
use Rattle.flow_base.specs.declared.fault.OutFault.{OutFault}
use Rattle.flow_value.specs.declared.value.Kind.TheVariants as kind
use Rattle.flow_class.specs.Classes.{RawTree}
use Rattle.flow_code.specs.declared.program.Code.{Code}
use Rattle.flow_trace.specs.declared.line.Line.{Line}
use Rattle.flow_meaning.specs.Burst.{Host, Live, live, Burst}
use Rattle.flow_meaning.specs.Class.{classes}
use Rattle.flow_meaning.specs.Deliver.{begin, boot}
use Rattle.flow_meaning.specs.Frame.{Frame}
use Rattle.flow_numbered.specs.Numbered.{Numbered}
use Rattle.flow_meaning.specs.Outside.{Outside, host}
use Rattle.flow_meaning.specs.Process.{Proc}
use Rattle.flow_meaning.specs.Step.{on_core}
use Rattle.flow_meaning.specs.World as meaning
use Rattle.flow_steps.specs.declared.process.Process.{Process}
use Rattle.flow_steps.specs.Doing.{begun}
use Rattle.flow_steps.specs.StuckTasks.{MainStuck}
use Rattle.flow_machine.specs.declared.host.RunFault.TheVariants.{Stuck}
use Rattle.flow_machine.specs.Breaking.{MainBreaksOff}
use Rattle.flow_world.specs.declared.action.EventAction.{EventAction}
use Rattle.flow_world.specs.declared.action.EventAction.TheVariants.{Brings}
use Rattle.flow_world.specs.declared.place.Place.{Place}
use Rattle.flow_world.specs.Changes.{Surroundings}
use Rattle.flow_world.specs.Around.{PutsPart}
use Rattle.flow_world.specs.BreakingEvents.{ActsBreaks}
use Rattle.flow_machine.specs.declared.host.RunFault.{RunFault}
use Rattle.flow_operation_refinement.specs.Working.{Sendable}
use Rattle.flow_machine_progress.specs.Stores.{NoPromiseStored}
use Rattle.flow_burst_refinement.specs.Invariants.Invariant.{ProcessInvariant}
use Rattle.flow_burst_refinement.specs.Enabled.Tasking.{IsProgram}
use Rattle.flow_burst_refinement.specs.Bursts.{HostKeepsTime}
use Rattle.flow_burst_refinement.specs.Boundaries.Delivering.{Resting, MayBoot}
use Rattle.flow_burst_refinement.specs.Programs.Delivering.{HostRepresents}
use Rattle.flow_world_refinement.specs.Effects.Actions.{Ready, done_in}
use Rattle.flow_end_to_end.specs.Parts.{WritesInPart, PartOf}

-- `main` can be called where its result isn't held
abbrev pub MainNeverStuck : Type 0
MainNeverStuck =
    (r : RawTree) (m : Process) (p : Proc Frame) (now turns : ℕ) (code : Code) (me : ProcId) → IsProgram r code
    → Resting r m p → ProcessInvariant r (on_core (begin turns) p) → p.core.main ≡ None
    → MainStuck code me (begun now turns m).heap → ⊥

-- and nothing that follows of a boot goes astray
abbrev pub BootNeverStuck : {A W : Type 0} (serves : Host W) (shows : A → Numbered ℕ → W → Type 0)
    (wrote broke : A → List Line → A → Type 0) (code : Code) (processes : ℕ) → RawTree → Type 0
BootNeverStuck {A} {W} serves shows wrote broke code processes r =
    IsProgram r code → HostKeepsTime serves
    → (now turns : ℕ) (me : ProcId) (memory : Process) (process : Proc Frame) (world : W) (host left : A)
    → MayBoot r turns me memory process → NoPromiseStored memory.heap
    → HostRepresents serves shows processes now host process world
    → MainBreaksOff serves shows wrote broke code processes me (begun now turns memory) host Stuck left → ⊥

-- and where what follows of a boot breaks off, a first part of its lines was written
abbrev pub BootInPart : {A W : Type 0} (serves : Host W) (shows : A → Numbered ℕ → W → Type 0)
    (wrote broke : A → List Line → A → Type 0) (code : Code) (processes : ℕ) → RawTree → Type 0
BootInPart {A} {W} serves shows wrote broke code processes r =
    IsProgram r code → HostKeepsTime serves → WritesInPart serves wrote broke
    → (now turns : ℕ) (me : ProcId) (memory : Process) (process : Proc Frame) (world : W) (host left : A) (f : RunFault)
    → MayBoot r turns me memory process → HostRepresents serves shows processes now host process world
    → MainBreaksOff serves shows wrote broke code processes me (begun now turns memory) host f left
    → (l : Live W Frame) → Burst (classes r) serves (live (boot (classes r) me.0 (on_core (begin turns) process)) world) l
    → PartOf broke [] host left l

-- an element comes to a stream without an end
abbrev pub MayHear : EventAction → Proc Frame → Type 0
MayHear (Brings k v) p = Sendable p kind.PromiseStream k.0
MayHear d p = Unit {0}

-- So no deed is stuck that a process is ready for, nor what follows of it; and where it breaks off, a first part was put of the lines of
-- what follows by the definitions.
abbrev pub ActionFailsInPart : {A : Type 0} (puts : A → Line → Result (Unit {0}) OutFault → A → Type 0)
    → RawTree → Code → Type 0
ActionFailsInPart {A} puts r code =
    IsProgram r code → (turns : ℕ) (p : ProcId) (d : EventAction) (x : meaning.Place Frame) (o : Outside) (at : Place)
    (m : Surroundings) (a : A) (f : RunFault) (b : A) → Ready r turns p d x o at m → MayHear d x.proc
    → ActsBreaks puts code turns p d at m a f b
    → (f ≡ Stuck → ⊥)
    × ((l : Live Outside Frame) → Burst (classes r) host (live (done_in r turns p.0 d x).proc o) l → PutsPart puts a l.proc.core.lines b)
