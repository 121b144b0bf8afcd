-- What an event does to a process in memory it does to the process of the definitions that it shows, with all that follows.
use Rattle.std.specs.Prelude.{◌≡◌, ℕ, pos, true, Result}
use Rattle.std.specs.declared.option.Option.TheVariants.{None, Some}
use Rattle.flow_base.specs.declared.ids.ProcId.{ProcId}
use Rattle.flow_base.specs.declared.fault.OutFault.{OutFault}
use Rattle.flow_trace.specs.declared.line.Line.{Line}
use Rattle.flow_value.specs.declared.value.Kind.TheVariants as kind
use Rattle.flow_value.specs.declared.value.Outcome.TheVariants as outcome
use Rattle.flow_value.specs.View.{value_of, outcome_of}
use Rattle.flow_class.specs.Classes.{RawTree}
use Rattle.flow_code.specs.declared.program.Code.{Code}
use Rattle.flow_meaning.specs.Burst.{Live, live, Burst}
use Rattle.flow_meaning.specs.Class.{classes}
use Rattle.flow_meaning.specs.Deliver.{begin, stop, deliver, arrive}
use Rattle.flow_meaning.specs.Frame.{Frame}
use Rattle.flow_meaning.specs.Orderly.{UnlessStopped}
use Rattle.flow_meaning.specs.Outside.{Outside, host}
use Rattle.flow_meaning.specs.Process.{Proc, Spent}
use Rattle.flow_meaning.specs.World as meaning
use Rattle.flow_meaning.specs.World.{booted, with_core}
use Rattle.flow_heap_refinement.specs.Holds.{There, AllThere}
use Rattle.flow_heap_refinement.specs.Rested.{has}
use Rattle.flow_steps.specs.Holding.{outcome_refs}
use Rattle.flow_steps.specs.Evaluating.{program_time}
use Rattle.flow_machine.specs.declared.host.Burst as burst_end
use Rattle.flow_machine.specs.declared.host.Burst.TheVariants as burst
use Rattle.flow_world.specs.declared.action.EventAction.{EventAction}
use Rattle.flow_world.specs.declared.action.EventAction.TheVariants.{Boots, Stops, Delivers, Brings}
use Rattle.flow_world.specs.declared.place.Place.{Place}
use Rattle.flow_world.specs.Around.{Puts}
use Rattle.flow_world.specs.Changes.{Surroundings}
use Rattle.flow_world.specs.Happening.{Acts}
use Rattle.flow_world.specs.Representing.{OutsideRepresents}
use Rattle.flow_world_refinement.specs.Order.Showing.{PlaceRepresents}
use Rattle.flow_burst_refinement.specs.Enabled.Tasking.{IsProgram}
use Rattle.flow_operation_refinement.specs.Working.{Sendable}
use Rattle.flow_burst_refinement.specs.Invariants.Invariant.{ProcessInvariant}
use Rattle.flow_world_refinement.specs.Effects.Quiescence.{Quiescent}

-- a process of the definitions once a deed was done to it
abbrev pub done_to : RawTree → (process : ℕ) → EventAction → meaning.Place Frame → meaning.Place Frame
done_to r n Boots at = booted (classes r) n at at.proc.core.main
done_to r n Stops at = with_core at stop
done_to r n (Delivers k o) at = with_core at (deliver k.0 (outcome_of o))
done_to r n (Brings k v) at = with_core at (arrive k.0 (value_of v))

-- in an event of so many turns
abbrev pub done_in : RawTree → (turns process : ℕ) → EventAction → meaning.Place Frame → meaning.Place Frame
done_in r turns n d at = done_to r n d (with_core at (begin turns))

-- What a deed asks of the process: it boots where it doesn't hold its `main`; what a timer or a disk answers is an open
-- request of it, whose result is unset; an element comes to a stream; and what comes refers to what is there.
abbrev pub MayBeDone : EventAction → Proc Frame → Type 0
MayBeDone Boots p = p.core.main ≡ None
MayBeDone Stops p = Unit {0}
MayBeDone (Delivers k o) p = (has k.0 p.core.requests ≡ true) × Sendable p kind.Promise k.0 × AllThere p (outcome_refs o)
MayBeDone (Brings k v) p = There p (kind.PromiseStream, k.0) × AllThere p (outcome_refs (outcome.Value v))

-- a burst leaves what the file says, the time, the event and its process, and the script
pub record StaysIn (before after : Outside) : Type 0 where
  pub file : after.file ≡ before.file
  pub time : after.time ≡ before.time
  pub ran : after.ran ≡ before.ran
  pub script : after.script ≡ before.script
  pub active : after.active ≡ before.active

module _ (r : RawTree) (turns : ℕ) (p : ProcId) (d : EventAction) (x : meaning.Place Frame) (o : Outside) where
  -- Before a deed: a process in memory rests, and shows the process of the event in its world, which keeps what it has to
  -- before the deed and when it is done; and programs tell the time.
  pub record Ready (at : Place) (m : Surroundings) : Type 0 where
    pub shows : PlaceRepresents (Quiescent r) o.file.processes p.0 at x
    pub outside : OutsideRepresents m o
    pub active : p.0 ≡ o.active
    pub clock : program_time m.time ≡ pos m.time
    pub may : MayBeDone d x.proc
    pub held : ProcessInvariant r (with_core x (begin turns)).proc
    pub kept : let begun = (done_in r turns p.0 d x).proc in UnlessStopped begun.core.halted (ProcessInvariant r begun)

  -- After it: memory rests and shows the process and the world after the burst; or the event is spent.
  abbrev pub EndsAs : burst_end.Burst → Place → Surroundings → Live Outside Frame → Type 0
  EndsAs burst.Rested left n l =
      (l.proc.core.halted ≡ None)
      × PlaceRepresents (Quiescent r) o.file.processes p.0 left (record { up = (done_in r turns p.0 d x).up; proc = l.proc })
      × OutsideRepresents n l.out
  EndsAs burst.Spent left n l = l.proc.core.halted ≡ Some Spent

  module _ {A : Type 0} (puts : A → Line → Result (Unit {0}) OutFault → A → Type 0) where
    pub record Done (a : A) (e : burst_end.Burst) (left : Place) (n : Surroundings) (b : A) : Type 0 where
      pub after : Live Outside Frame
      pub bursts : Burst (classes r) host (live (done_in r turns p.0 d x).proc o) after
      pub lines : Puts puts a after.proc.core.lines b
      pub stays : StaysIn o after.out
      pub ends : EndsAs e left n after

-- So what a process in memory does is a burst of the class machine, with its lines.
abbrev pub ActionRefines : {A : Type 0} (puts : A → Line → Result (Unit {0}) OutFault → A → Type 0) → RawTree → Code → Type 0
ActionRefines {A} puts r code =
    IsProgram r code → (turns : ℕ) (p : ProcId) (d : EventAction) (x : meaning.Place Frame) (o : Outside)
    (at left : Place) (m n : Surroundings) (a b : A) (e : burst_end.Burst)
    → Ready r turns p d x o at m → Acts puts code turns p d at m a e left n b → Done r turns p d x o puts a e left n b
