-- What memory tells of each process between events is sound, where valid classes run.
use Rattle.std.specs.Prelude.{◌≡◌, ℕ, Bool, List, true, Result}
use Rattle.std.specs.List.{AllByRecursion}
use Rattle.std.specs.declared.option.Option.TheVariants.{None}
use Rattle.flow_base.specs.declared.fault.OutFault.{OutFault}
use Rattle.flow_tree.specs.declared.decl.Program.{Program}
use Rattle.flow_tree.specs.DeclView.{program_of}
use Rattle.flow_trace.specs.declared.line.Line.{Line}
use Rattle.flow_worldfile.specs.declared.world.World0.{World0}
use Rattle.flow_worldfile.specs.Worlds.{IsInRange, seen}
use Rattle.flow_class.specs.declared.class.RawClasses.{RawClasses}
use Rattle.flow_class.specs.View.{raw_of}
use Rattle.flow_front.specs.Verdict.{IsSound}
use Rattle.flow_lower.specs.Weighing.{first_heavy}
use Rattle.flow_lower.specs.Compiled.{Has}
use Rattle.flow_heapstate.specs.State.{parts_of, NumbersRise}
use Rattle.flow_heapstate.specs.Sound.{SoundHeap, RestsWith}
use Rattle.flow_heapstate.specs.Judging.{is_sound}
use Rattle.flow_invariants.specs.Unmarked.{AreWhole}
use Rattle.flow_steps.specs.declared.process.Process.{Process}
use Rattle.flow_world.specs.declared.place.Place.{Place}
use Rattle.flow_world.specs.Ending.{Seen}
use Rattle.flow_world.specs.Starting.{Starts}
use Rattle.flow_world.specs.Tracing.{RunsEvents}
use Rattle.flow_restore_laws.specs.States.Heaps.{HaveFewerPlaces}

-- The state of a process tells all parts of its heap, which are sound, and are judged so: a heap can be
-- made from them. Its own heap rests with these parts, and counts each reference in them and no other.
pub record IsTold (m : Process) : Type 0 where
  pub rise : NumbersRise m.heap
  pub sound : SoundHeap (parts_of m.heap)
  pub judged : is_sound (parts_of m.heap) ≡ true
  pub rests : RestsWith (parts_of m.heap) m.heap

abbrev pub AllTold : List Place → Type 0
AllTold ats = AllByRecursion (λ (at : Place). IsTold at.machine.process) ats

module _ {A : Type 0} (puts : A → Line → Result (Unit {0}) OutFault → A → Type 0) where
  -- So it is in each world in memory that comes of valid classes, of fewer than 2^32 places each, in the
  -- world of a file in range, event after event.
  abbrev pub ClassesTold : Type 0
  ClassesTold =
      (c : RawClasses) (file : World0) (with_frames : Bool) (first v : Seen) (a b : A) → AreWhole (raw_of c)
      → HaveFewerPlaces (raw_of c) → IsInRange (seen file) → Starts c file first
      → RunsEvents puts with_frames first a v b → AllTold v.places

  -- and of the classes of a text
  abbrev pub ProgramsTold : Type 0
  ProgramsTold =
      (text : List ℕ) (program : Program) (c : RawClasses) (file : World0) (with_frames : Bool)
      (first v : Seen) (a b : A) → IsSound text program → first_heavy (program_of program).decls ≡ None
      → Has (program_of program) (raw_of c) → IsInRange (seen file) → Starts c file first
      → RunsEvents puts with_frames first a v b → AllTold v.places
