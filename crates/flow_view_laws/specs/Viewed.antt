-- At each boundary of events what a world in memory tells of a program's actors is the view of the state of its text.
use Rattle.std.specs.Prelude.{◌≡◌, ℕ, Bool, List, slice_get, Result}
use Rattle.std.specs.declared.option.Option.TheVariants.{None, Some}
use Rattle.flow_base.specs.declared.fault.OutFault.{OutFault}
use Rattle.flow_tree.specs.declared.decl.Program.{Program}
use Rattle.flow_tree.specs.Decls.{ProgramTree}
use Rattle.flow_tree.specs.DeclView.{program_of}
use Rattle.flow_trace.specs.declared.line.Line.{Line}
use Rattle.flow_worldfile.specs.declared.world.World0.{World0}
use Rattle.flow_worldfile.specs.Worlds as worlds
use Rattle.flow_worldfile.specs.Worlds.{IsInRange, seen}
use Rattle.flow_class.specs.Classes.{RawTree}
use Rattle.flow_class.specs.declared.class.RawClasses.{RawClasses}
use Rattle.flow_class.specs.View.{raw_of}
use Rattle.flow_front.specs.Verdict.{IsSound}
use Rattle.flow_lower.specs.Weighing.{first_heavy}
use Rattle.flow_lower.specs.Compiled.{Has}
use Rattle.flow_meaning.specs.Items.{Actor}
use Rattle.flow_meaning.specs.Runs.{IsRun}
use Rattle.flow_meaning.specs.Source.{source}
use Rattle.flow_meaning.specs.World.{World}
use Rattle.flow_world.specs.Ending.{Seen}
use Rattle.flow_world.specs.Starting.{Starts}
use Rattle.flow_world.specs.Tracing.{RunsEvents}
use Rattle.flow_debug.specs.Told.{places_of_waits}
use Rattle.flow_debug.specs.SourceView.{SourceView}
use Rattle.flow_view_laws.specs.Told.{places_told, AllRise}

-- The state of the text after as many events as have run in memory, at the same time; and its view is what memory tells.
pub record IsViewed (t : ProgramTree) (r : RawTree) (w : worlds.World) (v : Seen) : Type 0 where
  pub states : List (World Actor)
  pub lines : List Line
  pub run : IsRun (source t) w states lines
  pub state : World Actor
  pub after_as_many : slice_get states v.ran ≡ Some state
  pub ran : v.ran ≡ state.out.ran
  pub time : v.outside.time ≡ state.out.time
  pub rise : AllRise v.places
  pub told : places_told (places_of_waits t.decls) r.classes 0 v.places ≡ SourceView t state

module _ {A : Type 0} (puts : A → Line → Result (Unit {0}) OutFault → A → Type 0) where
  -- So it is of the classes of a text, event after event.
  abbrev pub ProgramsViewed : Type 0
  ProgramsViewed =
      (text : List ℕ) (program : Program) (c : RawClasses) (file : World0) (with_frames : Bool) (first v : Seen) (a b : A)
      → IsSound text program → first_heavy (program_of program).decls ≡ None → Has (program_of program) (raw_of c)
      → IsInRange (seen file) → Starts c file first → RunsEvents puts with_frames first a v b
      → IsViewed (program_of program) (raw_of c) (seen file) v
