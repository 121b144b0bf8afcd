-- The lines of frames and callbacks that a world in memory puts are what is seen of the world that it shows.
use Rattle.std.specs.Prelude.{◌≡◌, Bool, true, List, ◌++◌, Result, length}
use Rattle.flow_base.specs.declared.fault.OutFault.{OutFault}
use Rattle.flow_trace.specs.declared.line.Line.{Line}
use Rattle.flow_class.specs.Classes.{RawTree}
use Rattle.flow_class.specs.View.{raw_of}
use Rattle.flow_class.specs.declared.class.RawClasses.{RawClasses}
use Rattle.flow_code.specs.declared.program.Code.{Code}
use Rattle.flow_worldfile.specs.declared.world.World0.{World0}
use Rattle.flow_worldfile.specs.Worlds.{seen}
use Rattle.flow_meaning.specs.Frame.{Frame}
use Rattle.flow_meaning.specs.Process.{Proc}
use Rattle.flow_meaning.specs.World.{World}
use Rattle.flow_steps.specs.declared.process.Process.{Process}
use Rattle.flow_world.specs.Around.{Puts}
use Rattle.flow_world.specs.declared.ending.Ending.{Ending}
use Rattle.flow_world.specs.Ends.{end_line, LastIs}
use Rattle.flow_world.specs.Tracing.{Traces, Begins}
use Rattle.flow_heap_refinement.specs.Representing.{Represents}
use Rattle.flow_heap_refinement.specs.Rested.{Sorted}
use Rattle.flow_compile_laws.specs.Frames.Framed.{ClassShown}
use Rattle.flow_world_refinement.specs.Traces.Traced.{BoundaryBegins, FramesShown, EventsFollow, SpentFollows}
use Rattle.flow_world_refinement.specs.Views.Waiting.{WorldWaits}

module _ (Rests : Process → Proc Frame → Type 0) (Keeps : World Frame → Type 0)
    (IsCode : Code → Type 0) where
  -- a process in memory that rests shows the other, its numbers in order
  abbrev pub RestingRepresents : RawTree → Type 0
  RestingRepresents r = (m : Process) (p : Proc Frame) → Rests m p → Represents r m.heap p × Sorted m.heap

  -- a world has the processes that its file says
  abbrev pub KeepsCount : Type 0
  KeepsCount = (m : World Frame) → Keeps m → length m.places ≡ m.out.file.processes

  -- Where frames wait in the state of their wait, those that are put are those that are seen.
  abbrev pub FramesFollow : RawTree → Type 0
  FramesFollow r =
      RestingRepresents r → KeepsCount → ((m : World Frame) → Keeps m → WorldWaits m)
      → FramesShown Rests Keeps IsCode true r

  -- So the lines that are put of classes in a world, with frames and callbacks if they are asked for, are what
  -- is shown of these classes in it, and end as the run does.
  abbrev pub FramesTraced : {A : Type 0} (puts : A → Line → Result (Unit {0}) OutFault → A → Type 0)
      → Type 0
  FramesTraced {A} puts =
      (with_frames : Bool) (c : RawClasses) (file : World0) (a b : A) (e : Ending)
      → BoundaryBegins Rests Keeps IsCode c file → RestingRepresents (raw_of c) → KeepsCount
      → EventsFollow Rests Keeps IsCode puts (raw_of c)
      → SpentFollows Rests Keeps IsCode puts (raw_of c) → Traces puts with_frames c file a e b
      → (lines : List Line) × ClassShown with_frames (raw_of c) (seen file) lines
      × Puts puts a lines b × LastIs (end_line e) lines

  -- And what was put of a trace that has begun is a first part of all that is shown of them.
  abbrev pub BeginningTraced : {A : Type 0} (puts : A → Line → Result (Unit {0}) OutFault → A → Type 0)
      → Type 0
  BeginningTraced {A} puts =
      (with_frames : Bool) (c : RawClasses) (file : World0) (a b : A) (lines : List Line)
      → BoundaryBegins Rests Keeps IsCode c file → RestingRepresents (raw_of c) → KeepsCount
      → EventsFollow Rests Keeps IsCode puts (raw_of c)
      → Begins puts with_frames c file a b → ClassShown with_frames (raw_of c) (seen file) lines
      → (part rest : List Line) × (lines ≡ part ++ rest) × Puts puts a part b
