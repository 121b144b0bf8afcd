-- Between events memory is at rest, where valid classes run.
use Rattle.std.specs.Prelude.{◌≡◌, ℕ, Bool, List, slice_get, Result}
use Rattle.std.specs.declared.option.Option.TheVariants.{None, Some}
use Rattle.flow_base.specs.declared.fault.OutFault.{OutFault}
use Rattle.flow_tree.specs.declared.decl.Program.{Program}
use Rattle.flow_tree.specs.DeclView.{program_of}
use Rattle.flow_trace.specs.declared.line.Line.{Line}
use Rattle.flow_worldfile.specs.declared.world.World0.{World0}
use Rattle.flow_worldfile.specs.Worlds as worlds
use Rattle.flow_worldfile.specs.Worlds.{IsInRange, seen}
use Rattle.flow_class.specs.Classes.{RawTree}
use Rattle.flow_class.specs.declared.class.RawClasses.{RawClasses}
use Rattle.flow_class.specs.View.{raw_of}
use Rattle.flow_front.specs.Verdict.{IsSound}
use Rattle.flow_lower.specs.Weighing.{first_heavy}
use Rattle.flow_lower.specs.Compiled.{Has}
use Rattle.flow_meaning.specs.Frame.{Frame}
use Rattle.flow_meaning.specs.Process.{Proc}
use Rattle.flow_meaning.specs.Runs.{ClassStates}
use Rattle.flow_meaning.specs.World.{World}
use Rattle.flow_heap_refinement.specs.Rested.{Rested}
use Rattle.flow_invariants.specs.Unmarked.{AreWhole}
use Rattle.flow_steps.specs.declared.process.Process.{Process}
use Rattle.flow_world.specs.Ending.{Seen}
use Rattle.flow_world.specs.Starting.{Starts}
use Rattle.flow_world_refinement.specs.Order.Showing.{WorldRepresents}
use Rattle.flow_world_refinement.specs.Effects.Quiescence.{Quiescent}
use Rattle.flow_world.specs.Tracing.{RunsEvents}
use Rattle.flow_end_to_end.specs.Exact.{HaveFewPlaces}

-- a process in memory that is ready for the next event, with its heap at rest, and the process that it shows
pub record IsAtRest (r : RawTree) (m : Process) (p : Proc Frame) : Type 0 where
  pub settled : Quiescent r m p
  pub rested : Rested r m.heap p

-- A world in memory shows the state at which the run of these classes is after as many events, process by process at rest.
pub record RestsInRun (r : RawTree) (w : worlds.World) (v : Seen) : Type 0 where
  pub states : List (World Frame)
  pub run : ClassStates r w states
  pub state : World Frame
  pub after_as_many : slice_get states v.ran ≡ Some state
  pub shows : WorldRepresents (IsAtRest r) v state

module _ {A : Type 0} (puts : A → Line → Result (Unit {0}) OutFault → A → Type 0) where
  -- So does each world in memory that comes of valid classes in the world of a file in range, event after event.
  abbrev pub ClassesRest : Type 0
  ClassesRest =
      (c : RawClasses) (file : World0) (with_frames : Bool) (first v : Seen) (a b : A) → AreWhole (raw_of c)
      → HaveFewPlaces (raw_of c) → IsInRange (seen file) → Starts c file first → RunsEvents puts with_frames first a v b
      → RestsInRun (raw_of c) (seen file) v

  -- and of the classes of a text
  abbrev pub ProgramsRest : Type 0
  ProgramsRest =
      (text : List ℕ) (program : Program) (c : RawClasses) (file : World0) (with_frames : Bool) (first v : Seen) (a b : A)
      → IsSound text program → first_heavy (program_of program).decls ≡ None → Has (program_of program) (raw_of c)
      → IsInRange (seen file) → Starts c file first → RunsEvents puts with_frames first a v b
      → RestsInRun (raw_of c) (seen file) v
