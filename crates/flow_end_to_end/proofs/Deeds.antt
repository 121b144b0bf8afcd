-- No deed goes astray that a process in memory is ready for.
use Rattle.std.proofs.Common.{◌≡◌, ℕ, List, [], ◌∷◌, refl, sym, ap, subst}
use Rattle.std.specs.Prelude.{Result}
use Rattle.std.specs.declared.option.Option.{Option}
use Rattle.std.specs.declared.option.Option.TheVariants.{None, Some}
use Rattle.flow_base.specs.declared.ids.CellId.{CellId}
use Rattle.flow_base.specs.declared.ids.ProcId.{ProcId}
use Rattle.flow_base.specs.declared.fault.OutFault.{OutFault}
use Rattle.flow_value.specs.declared.value.Kind.TheVariants as kind
use Rattle.flow_value.specs.declared.value.Outcome.TheVariants as outcome
use Rattle.flow_class.specs.Classes.{RawTree}
use Rattle.flow_code.specs.declared.program.Code.{Code}
use Rattle.flow_trace.specs.declared.line.Line.{Line}
use Rattle.flow_cancel.specs.declared.task.Task as stack
use Rattle.flow_cancel.specs.Heap.{HeapTree}
use Rattle.flow_meaning.specs.Burst.{Live, live, Burst}
use Rattle.flow_meaning.specs.Class.{classes}
use Rattle.flow_meaning.specs.Deliver.{begin, boot}
use Rattle.flow_meaning.specs.Frame.{Frame}
use Rattle.flow_meaning.specs.Orderly.{UnlessStopped}
use Rattle.flow_meaning.specs.Outside.{Outside, host}
use Rattle.flow_numbered.specs.Numbered.{thing}
use Rattle.flow_meaning.specs.Process.{Task, Proc}
use Rattle.flow_meaning.specs.Step.{kept_by, on_core}
use Rattle.flow_meaning.specs.World as meaning
use Rattle.flow_meaning.specs.World.{booted, with_core}
use Rattle.flow_heap_refinement.specs.Representing.{TasksRepresent, spot_of_actor}
use Rattle.flow_steps.specs.declared.process.Process.{Process}
use Rattle.flow_steps.specs.Doing.{begun}
use Rattle.flow_steps.specs.Holding.{on_heap}
use Rattle.flow_steps.specs.Delivering.{answered, main_dropped}
use Rattle.flow_machine.specs.declared.host.RunFault.{RunFault}
use Rattle.flow_machine.specs.declared.host.RunFault.TheVariants.{Stuck}
use Rattle.flow_machine.specs.Breaking.{BringingBreaksOff, MainBreaksOff}
use Rattle.flow_world.specs.declared.action.EventAction.{EventAction}
use Rattle.flow_world.specs.declared.action.EventAction.TheVariants.{Boots, Stops, Delivers, Brings}
use Rattle.flow_world.specs.declared.place.Place.{Place}
use Rattle.flow_world.specs.Around.{Inside, PutsPart, no_more, shows, wrote, wrote_part}
use Rattle.flow_world.specs.Changes.{Surroundings}
use Rattle.flow_world.specs.Happening.{inside}
use Rattle.flow_world.specs.Ports.{PortsRepresent}
use Rattle.flow_world.specs.BreakingEvents.{ActionBreaks}
use Rattle.flow_world.proofs.Putting.{part_more, puts_part}
use Rattle.flow_burst_refinement.specs.Invariants.Invariant.{ProcessInvariant}
use Rattle.flow_burst_refinement.specs.Enabled.Tasking.{IsProgram}
use Rattle.flow_burst_refinement.specs.Boundaries.Delivering.{IsDelivered, MayBoot}
use Rattle.flow_burst_refinement.specs.Programs.Delivering.{HostRepresents}
use Rattle.flow_burst_refinement.proofs.Boundaries.Bringing.{answer_brings, stop_brings, element_brings}
use Rattle.flow_world_refinement.specs.Effects.Actions.{done_in, Ready}
use Rattle.flow_world_refinement.specs.Effects.Quiescence.{Quiescent}
use Rattle.flow_world_refinement.proofs.Effects.SamePorts.{deed_ports}
use Rattle.flow_world_refinement.proofs.Effects.Steadily.{host_steady}
use Rattle.flow_machine_progress.specs.Stores.{AllStoreNone, NoPromiseStored}
use Rattle.flow_machine_progress.proofs.Stores.Tasks.{brought_stores}
use Rattle.flow_machine_progress.proofs.Bursts.Bursts.{all_bursts_sure}
use Rattle.flow_machine_progress.proofs.Bursts.Brought.{answer_well, element_well, brought_well, bringing_well}
use Rattle.flow_end_to_end.specs.Actions as law
use Rattle.flow_end_to_end.specs.Actions.{MayHear}
use Rattle.flow_end_to_end.proofs.Mains.{boot_well, boot_in_part}
use Rattle.flow_end_to_end.specs.Parts.{WritesInPart, PartOf}
use Rattle.flow_end_to_end.proofs.Parts.{delivered_in_part}

module _ {A : Type 0} (puts : A → Line → Result (Unit {0}) OutFault → A → Type 0) (r : RawTree) (code : Code) (program : IsProgram r code)
    (turns : ℕ) (p : ProcId) (x : meaning.Place Frame) (o : Outside) (at : Place) (m : Surroundings) (a : A) where
  abbrev before : Inside A
  before = inside puts p at.ports m a

  abbrev start : Process
  start = begun m.time turns at.machine.process

  module _ (d : EventAction) (ready : Ready r turns p d x o at m) where
    around : shows before (done_in r turns p.0 d x).proc.core.ports o
    around = record {
      outside = ready.outside;
      active = ready.active;
      ports = subst (PortsRepresent at.ports) (sym (deed_ports r turns p.0 d x)) ready.shows.ports;
    }

    brings_well : (stuck : Type 0) → (stuck → ⊥) → (n : Process) (b : Inside A) → IsDelivered r m.time n (done_in r turns p.0 d x).proc → NoPromiseStored n.heap
        → BringingBreaksOff host shows (wrote puts) (wrote_part puts) code at.machine.processes stuck n before Stuck b → ⊥
    brings_well stuck never n b is none off =
        bringing_well host shows (wrote puts) (wrote_part puts) code at.machine.processes r stuck never n before b
        (brought_well host shows (wrote puts) (wrote_part puts) code at.machine.processes r program host_steady (all_bursts_sure host shows (wrote puts) (wrote_part puts) code at.machine.processes r) m.time n before b
        (done_in r turns p.0 d x).proc o is none ready.kept (record { shown = around; clock = ready.clock; time = ready.outside.time; among = ready.shows.processes_are })) off

  -- where a process rests nothing is to be stored
  rests_none : Quiescent r at.machine.process x.proc → NoPromiseStored start.heap
  rests_none rest = by_tasks start.heap.tasks x.proc.core.tasks rest.resting.shown.holds.shows.tasks rest.tasks
    where
      by_tasks : (ts : List stack.Task) (us : List Task) → TasksRepresent (spot_of_actor x.proc.actors) (λ i. kept_by (thing x.proc.core.entries i)) ts us → us ≡ [] → AllStoreNone ts
      by_tasks [] us s e = tt
      by_tasks (t ∷ ts) [] s e = absurd s
      by_tasks (t ∷ ts) (u ∷ us) s e = absurd (cc (e))

  main_none : (k : Option CellId) (h : HeapTree) → NoPromiseStored h → NoPromiseStored (main_dropped k h)
  main_none None h none = none
  main_none (Some k) h none = (tt, none)

  abbrev booted_by : ℕ → Proc Frame
  booted_by n = boot (classes r) n (on_core (begin turns) x.proc)

  boot_same : Ready r turns p Boots x o at m → booted_by p.0 ≡ (done_in r turns p.0 Boots x).proc
  boot_same ready = ap (λ h. (booted (classes r) p.0 (with_core x (begin turns)) h).proc) (sym ready.may)

  may_boot : Ready r turns p Boots x o at m → MayBoot r turns at.machine.me at.machine.process x.proc
  may_boot ready = record {
    resting = ready.shows.rests.resting;
    kept = ready.held;
    no_main = ready.may;
    booted = subst (λ n. UnlessStopped (booted_by n).core.halted (ProcessInvariant r (booted_by n))) (sym ready.shows.me)
        (subst (λ (q : Proc Frame). UnlessStopped q.core.halted (ProcessInvariant r q)) (sym (boot_same ready)) ready.kept);
  }

  boots_around : Ready r turns p Boots x o at m → HostRepresents host shows at.machine.processes m.time before x.proc o
  boots_around ready = record {
    shown = record { outside = ready.outside; active = ready.active; ports = ready.shows.ports };
    clock = ready.clock;
    time = ready.outside.time;
    among = ready.shows.processes_are;
  }

  boots_well : Ready r turns p Boots x o at m → (b : Inside A) → MainBreaksOff host shows (wrote puts) (wrote_part puts) code at.machine.processes at.machine.me start before Stuck b → ⊥
  boots_well ready b off =
      boot_well host shows (wrote puts) (wrote_part puts) code at.machine.processes r program host_steady m.time turns at.machine.me at.machine.process x.proc o before b
      (may_boot ready) (rests_none ready.shows.rests) (boots_around ready) off

  gets_stuck_well : (d : EventAction) → Ready r turns p d x o at m → MayHear d x.proc → (b : Inside A) → ActionBreaks host shows (wrote puts) (wrote_part puts) code d at.machine start before Stuck b → ⊥
  gets_stuck_well Boots ready hear b off = boots_well ready b off
  gets_stuck_well Stops ready hear b off = brings_well Stops ready ⊥ (λ z. z) _ b (stop_brings r at.machine.process x.proc m.time turns ready.shows.rests.resting)
      (main_none start.heap.main start.heap (rests_none ready.shows.rests)) off
  gets_stuck_well (Delivers k v) ready hear b off =
      let rest = ready.shows.rests.resting in
      brings_well (Delivers k v) ready _ (answer_well r at.machine.process x.proc m.time turns k.0 v rest ready.may.0 ready.may.1 ready.may.2) _ b
      (answer_brings r at.machine.process x.proc m.time turns k.0 v rest ready.may.0 ready.may.1 ready.may.2)
      (brought_stores kind.Promise k.0 v (on_heap (answered k.0) start) (tt, rests_none ready.shows.rests)) off
  gets_stuck_well (Brings k v) ready hear b off =
      let rest = ready.shows.rests.resting in
      brings_well (Brings k v) ready _ (element_well r at.machine.process x.proc m.time turns k.0 v rest hear ready.may.1) _ b
      (element_brings r at.machine.process x.proc m.time turns k.0 v rest ready.may.0 ready.may.1)
      (brought_stores kind.PromiseStream k.0 (outcome.Value v) start (rests_none ready.shows.rests)) off

  -- what the process and its world write in part
  parts : WritesInPart host (wrote puts) (wrote_part puts)
  parts = record {
    nothing = λ g ls. no_more;
    more = λ g h ls ms t. part_more puts g.out h.out ls ms t;
    after = λ g h k ls ms t u. puts_part puts g.out h.out k.out ls ms t u;
    draws = λ width w. refl;
  }

  brings_in_part : (d : EventAction) → Ready r turns p d x o at m → (stuck : Type 0) (n : Process) (f : RunFault) (b : Inside A) → IsDelivered r m.time n (done_in r turns p.0 d x).proc
      → BringingBreaksOff host shows (wrote puts) (wrote_part puts) code at.machine.processes stuck n before f b
      → (l : Live Outside Frame) → Burst (classes r) host (live (done_in r turns p.0 d x).proc o) l → PartOf (wrote_part puts) [] before b l
  brings_in_part d ready stuck n f b is off l run =
      delivered_in_part host shows (wrote puts) (wrote_part puts) code at.machine.processes r program host_steady parts m.time stuck n before b f (done_in r turns p.0 d x).proc o is ready.kept
      (record { shown = around d ready; clock = ready.clock; time = ready.outside.time; among = ready.shows.processes_are }) off l run

  boots_in_part : Ready r turns p Boots x o at m → (f : RunFault) (b : Inside A) → MainBreaksOff host shows (wrote puts) (wrote_part puts) code at.machine.processes at.machine.me start before f b
      → (l : Live Outside Frame) → Burst (classes r) host (live (done_in r turns p.0 Boots x).proc o) l → PartOf (wrote_part puts) [] before b l
  boots_in_part ready f b off l run =
      boot_in_part host shows (wrote puts) (wrote_part puts) code at.machine.processes r program host_steady parts m.time turns at.machine.me at.machine.process x.proc o before b f
      (may_boot ready) (boots_around ready) off l
      (subst (λ n. Burst (classes r) host (live (booted_by n) o) l) (sym ready.shows.me) (subst (λ (q : Proc Frame). Burst (classes r) host (live q o) l) (sym (boot_same ready)) run))

  deed_in_part : (d : EventAction) → Ready r turns p d x o at m → (f : RunFault) (b : Inside A) → ActionBreaks host shows (wrote puts) (wrote_part puts) code d at.machine start before f b
      → (l : Live Outside Frame) → Burst (classes r) host (live (done_in r turns p.0 d x).proc o) l → PartOf (wrote_part puts) [] before b l
  deed_in_part Boots ready f b off l run = boots_in_part ready f b off l run
  deed_in_part Stops ready f b off l run = brings_in_part Stops ready ⊥ _ f b (stop_brings r at.machine.process x.proc m.time turns ready.shows.rests.resting) off l run
  deed_in_part (Delivers k v) ready f b off l run =
      brings_in_part (Delivers k v) ready _ _ f b (answer_brings r at.machine.process x.proc m.time turns k.0 v ready.shows.rests.resting ready.may.0 ready.may.1 ready.may.2) off l run
  deed_in_part (Brings k v) ready f b off l run =
      brings_in_part (Brings k v) ready _ _ f b (element_brings r at.machine.process x.proc m.time turns k.0 v ready.shows.rests.resting ready.may.0 ready.may.1) off l run

pub deed_fails : {A : Type 0} (puts : A → Line → Result (Unit {0}) OutFault → A → Type 0) (r : RawTree) (code : Code) → law.ActionFailsInPart puts r code
deed_fails puts r code program turns p d x o at m a f b ready hear t = (
  λ e. gets_stuck_well puts r code program turns p x o at m a d ready hear t.left
      (subst (λ z. ActionBreaks host shows (wrote puts) (wrote_part puts) code d at.machine (begun m.time turns at.machine.process) (inside puts p at.ports m a) z t.left) e t.breaks),
  λ l run.
      let x = deed_in_part puts r code program turns p x o at m a d ready f t.left t.breaks l run in
      subst (λ z. PutsPart puts a l.proc.core.lines z) t.out (subst (λ ls. PutsPart puts a ls t.left.out) (sym x.are) x.part),
)
