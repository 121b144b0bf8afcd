-- What a world in memory counts between events are the unfinished actors of the state that it represents.
use Rattle.std.specs.Prelude.{◌≡◌, ℕ, ◌+◌, Bool, List, [], ◌∷◌, length, slice_get, Result}
use Rattle.std.specs.declared.option.Option.TheVariants.{None, Some}
use Rattle.flow_base.specs.declared.fault.OutFault.{OutFault}
use Rattle.flow_tree.specs.declared.decl.Program.{Program}
use Rattle.flow_tree.specs.DeclView.{program_of}
use Rattle.flow_trace.specs.declared.line.Line.{Line}
use Rattle.flow_worldfile.specs.declared.world.World0.{World0}
use Rattle.flow_worldfile.specs.Worlds.{IsInRange, seen}
use Rattle.flow_class.specs.declared.class.RawClasses.{RawClasses}
use Rattle.flow_class.specs.View.{raw_of}
use Rattle.flow_front.specs.Verdict.{IsSound}
use Rattle.flow_lower.specs.Weighing.{first_heavy}
use Rattle.flow_lower.specs.Compiled.{Has}
use Rattle.flow_meaning.specs.Frame.{Frame}
use Rattle.flow_meaning.specs.Items.{Actor}
use Rattle.flow_meaning.specs.Runs.{SourceStates, ClassStates}
use Rattle.flow_meaning.specs.World.{World}
use Rattle.flow_meaning.specs.World as meaning
use Rattle.flow_invariants.specs.Unmarked.{AreWhole}
use Rattle.flow_world.specs.Ending.{Seen}
use Rattle.flow_world.specs.Starting.{Starts}
use Rattle.flow_world.specs.Tracing.{RunsEvents}
use Rattle.flow_world.specs.Views.{live_in}
use Rattle.flow_end_to_end.specs.Exact.{HaveFewPlaces}

-- how many actors of some processes are unfinished
abbrev pub unfinished_in : {A : Type 0} → List (meaning.Place A) → ℕ
unfinished_in [] = 0
unfinished_in (a ∷ rest) = length a.proc.core.entries + unfinished_in rest

-- A world in memory counts the unfinished actors of the state in which a run is after as many events.
abbrev pub Counts : {A : Type 0} → List (World A) → Seen → Type 0
Counts {A} states v = (state : World A) × (slice_get states v.ran ≡ Some state) × (live_in v.places ≡ unfinished_in state.places)

module _ {A : Type 0} (puts : A → Line → Result (Unit {0}) OutFault → A → Type 0) where
  -- So does each world in memory that comes of valid classes in the world of a file in range, event after event.
  abbrev pub ClassesCount : Type 0
  ClassesCount =
      (c : RawClasses) (file : World0) (with_frames : Bool) (first v : Seen) (a b : A) → AreWhole (raw_of c)
      → HaveFewPlaces (raw_of c) → IsInRange (seen file) → Starts c file first → RunsEvents puts with_frames first a v b
      → (states : List (World Frame)) × ClassStates (raw_of c) (seen file) states × Counts states v

  -- And each that comes of the classes of a text counts those of the text's own state.
  abbrev pub ProgramsCount : Type 0
  ProgramsCount =
      (text : List ℕ) (program : Program) (c : RawClasses) (file : World0) (with_frames : Bool) (first v : Seen) (a b : A)
      → IsSound text program → first_heavy (program_of program).decls ≡ None → Has (program_of program) (raw_of c)
      → IsInRange (seen file) → Starts c file first → RunsEvents puts with_frames first a v b
      → (states : List (World Actor)) × SourceStates (program_of program) (seen file) states × Counts states v
