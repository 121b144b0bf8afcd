-- Runs in memory in which processes are made again between events, from what memory tells of them.
use Rattle.std.specs.Prelude.{◌≡◌, ℕ, Bool, List, [], ◌∷◌, ◌++◌, Result, Ok}
use Rattle.std.specs.declared.option.Option.TheVariants.{None}
use Rattle.flow_base.specs.declared.fault.OutFault.{OutFault}
use Rattle.flow_tree.specs.declared.decl.Program.{Program}
use Rattle.flow_tree.specs.DeclView.{program_of}
use Rattle.flow_trace.specs.declared.line.Line.{Line}
use Rattle.flow_trace.specs.declared.line.Line.TheVariants as line
use Rattle.flow_worldfile.specs.declared.world.World0.{World0}
use Rattle.flow_worldfile.specs.Worlds as worlds
use Rattle.flow_worldfile.specs.Worlds.{IsInRange, seen}
use Rattle.flow_class.specs.Classes.{RawTree}
use Rattle.flow_class.specs.declared.class.RawClasses.{RawClasses}
use Rattle.flow_class.specs.View.{raw_of}
use Rattle.flow_front.specs.Verdict.{IsSound}
use Rattle.flow_lower.specs.Weighing.{first_heavy}
use Rattle.flow_lower.specs.Compiled.{Has}
use Rattle.flow_invariants.specs.Unmarked.{AreWhole}
use Rattle.flow_world.specs.declared.event.Event.TheVariants.{Ran}
use Rattle.flow_world.specs.declared.place.Place.{Place}
use Rattle.flow_world.specs.Around.{Puts}
use Rattle.flow_world.specs.Ending.{Seen}
use Rattle.flow_world.specs.Happening.{EventDoes}
use Rattle.flow_world.specs.Starting.{Starts}
use Rattle.flow_machine.specs.declared.host.RunFault.TheVariants.{Stuck}
use Rattle.flow_world.specs.BreakingEvents.{EventFails}
use Rattle.flow_world.specs.FaultedLines.{Telling}
use Rattle.flow_world.specs.declared.ending.Ending.{Ending}
use Rattle.flow_world.specs.BreakingTraces.{FramesStuck}
use Rattle.flow_world.specs.Ends.{end_line, LastIs}
use Rattle.flow_world.specs.Tracing.{lines_if, last_answer}
use Rattle.flow_compile_laws.specs.Frames.Framed.{ClassShown, SourceShown}
use Rattle.flow_restore_laws.specs.Rest.Boundary.{RestsInRun}
use Rattle.flow_restore_laws.specs.States.Heaps.{HaveFewerPlaces}
use Rattle.flow_restore_laws.specs.States.Worlds.{AllTold}
use Rattle.flow_restore_laws.specs.States.Restored.{IsMadeFrom}

-- a process in its world: it is as it was, or its machine is made again, and all else is as it was
pub data PlaceAgain (at now : Place) : Type 0 where
  as_it_was : now ≡ at → PlaceAgain at now
  made_from : IsMadeFrom at.machine now.machine → now ≡ record at { machine = now.machine }
      → PlaceAgain at now

abbrev pub PlacesAgain : List Place → List Place → Type 0
PlacesAgain [] [] = Unit {0}
PlacesAgain [] (y ∷ ys) = ⊥
PlacesAgain (x ∷ xs) [] = ⊥
PlacesAgain (x ∷ xs) (y ∷ ys) = PlaceAgain x y × PlacesAgain xs ys

-- a world of which any processes are made again, and all else is as it was
pub record WorldAgain (v w : Seen) : Type 0 where
  pub places : PlacesAgain v.places w.places
  pub others : w ≡ record v { places = w.places }

module _ {A : Type 0} (puts : A → Line → Result (Unit {0}) OutFault → A → Type 0)
    (with_frames : Bool) where
  -- Events run one after another, each followed by the frames where they are asked for; and before
  -- each of them, and after the last, any processes may be made again.
  pub data Resumes : Seen → A → Seen → A → Type 0 where
    no_event : {w : Seen} {a : A} → Resumes w a w a
    one_more : {w u v : Seen} {a b c d : A} → Resumes w a u b → EventDoes puts Ran u b v c
        → Puts puts c (lines_if with_frames v) d → Resumes w a v d
    again : {w u v : Seen} {a b : A} → Resumes w a u b → WorldAgain u v → Resumes w a v b

  -- They do so up to the end of the run, and its last line.
  pub record ResumesTo (w : Seen) (a : A) (e : Ending) (b : A) : Type 0 where
    pub last : Seen
    pub left : Seen
    pub before : A
    pub ending : A
    pub goes : Resumes w a last before
    pub ends : EventDoes puts (last_answer e) last before left ending
    pub ended : puts ending (end_line e) (Ok tt) b

module _ {A : Type 0} (puts : A → Line → Result (Unit {0}) OutFault → A → Type 0) where
  -- A world in memory on the way of the run of these classes: it is at rest at the state at which
  -- that run is after as many events; what it tells of each process is sound; the next event doesn't
  -- go astray; and each frame that is told is of one of the classes.
  pub record OnItsWay (r : RawTree) (w : worlds.World) (v : Seen) : Type 0 where
    pub rests : RestsInRun r w v
    pub told : AllTold v.places
    pub sure : (s t : Telling A) → EventFails puts v s Stuck t → ⊥
    pub classed : FramesStuck v → ⊥

  -- So it is at each boundary of such a run of valid classes.
  abbrev pub ClassesRestAlike : Type 0
  ClassesRestAlike =
      (c : RawClasses) (file : World0) (with_frames : Bool) (first v : Seen) (a b : A)
      → AreWhole (raw_of c) → HaveFewerPlaces (raw_of c) → IsInRange (seen file)
      → Starts c file first
      → Resumes puts with_frames first a v b → OnItsWay (raw_of c) (seen file) v

  -- From each such boundary on, wherever lines go from there, those that are put up to the end are
  -- the rest of those that are shown of the classes, whose first part was put up to there.
  abbrev pub ClassesGoOn : Type 0
  ClassesGoOn =
      (c : RawClasses) (file : World0) (with_frames : Bool) (first v : Seen) (a b x y : A)
      (e : Ending) → AreWhole (raw_of c) → HaveFewerPlaces (raw_of c) → IsInRange (seen file)
      → Starts c file first → Resumes puts with_frames first a v b
      → ResumesTo puts with_frames v x e y
      → (part rest : List Line)
      × ClassShown with_frames (raw_of c) (seen file) (line.Head ∷ (part ++ rest))
      × Puts puts a part b × Puts puts x rest y × LastIs (end_line e) rest

  -- And so of the classes of a text, what is shown of that text.
  abbrev pub ProgramsRestAlike : Type 0
  ProgramsRestAlike =
      (text : List ℕ) (program : Program) (c : RawClasses) (file : World0) (with_frames : Bool)
      (first v : Seen) (a b : A) → IsSound text program
      → first_heavy (program_of program).decls ≡ None → Has (program_of program) (raw_of c)
      → IsInRange (seen file) → Starts c file first
      → Resumes puts with_frames first a v b → OnItsWay (raw_of c) (seen file) v

  abbrev pub ProgramsGoOn : Type 0
  ProgramsGoOn =
      (text : List ℕ) (program : Program) (c : RawClasses) (file : World0) (with_frames : Bool)
      (first v : Seen) (a b x y : A) (e : Ending) → IsSound text program
      → first_heavy (program_of program).decls ≡ None → Has (program_of program) (raw_of c)
      → IsInRange (seen file) → Starts c file first → Resumes puts with_frames first a v b
      → ResumesTo puts with_frames v x e y
      → (part rest : List Line)
      × SourceShown with_frames (program_of program) (seen file) (line.Head ∷ (part ++ rest))
      × Puts puts a part b × Puts puts x rest y × LastIs (end_line e) rest
