-- A program's own state after so many events, and what a world in memory tells after as many events that ran without a line.
use Rattle.std.specs.Prelude.{◌≡◌, ℕ, ◌-◌, ◌≤◌, min, List, length, codes, slice_get}
use Rattle.std.specs.declared.option.Option.{Option}
use Rattle.std.specs.declared.option.Option.TheVariants.{None, Some}
use Rattle.flow_base.specs.declared.place.Place.{Place}
use Rattle.flow_tree.specs.declared.decl.Program.{Program}
use Rattle.flow_tree.specs.Decls.{ProgramTree}
use Rattle.flow_tree.specs.DeclView.{program_of}
use Rattle.flow_trace.specs.declared.line.Line.{Line}
use Rattle.flow_trace.specs.declared.line.Line.TheVariants.{EndSpent}
use Rattle.flow_worldfile.specs.declared.world.World0.{World0}
use Rattle.flow_worldfile.specs.Worlds as worlds
use Rattle.flow_worldfile.specs.Worlds.{IsInRange, seen}
use Rattle.flow_class.specs.declared.class.RawClasses.{RawClasses}
use Rattle.flow_class.specs.View.{raw_of}
use Rattle.flow_front.specs.Verdict.{IsSound}
use Rattle.flow_lower.specs.Weighing.{first_heavy}
use Rattle.flow_lower.specs.Compiled.{Has}
use Rattle.flow_meaning.specs.Items.{Actor}
use Rattle.flow_meaning.specs.Runs.{IsRun}
use Rattle.flow_meaning.specs.Source.{source}
use Rattle.flow_meaning.specs.World.{World}
use Rattle.flow_world.specs.declared.ending.Ending.{Ending}
use Rattle.flow_world.specs.declared.ending.Ending.TheVariants.{Spent}
use Rattle.flow_world.specs.Ending.{Seen}
use Rattle.flow_world.specs.Ends.{LastIs}
use Rattle.flow_world.specs.Skipping.{SkipsUpTo}
use Rattle.flow_world.specs.Starting.{Starts}
use Rattle.flow_debug.specs.Told.{places_of_waits}
use Rattle.flow_debug.specs.ViewText.{ViewText}
use Rattle.flow_debug.specs.SourceView.{SourceView}
use Rattle.flow_view_laws.specs.Told.{places_told, AllRise}

-- One of so many events is spent: the trace ends so, after fewer whole events.
abbrev pub IsSpentWithin : (most : ℕ) → List (World Actor) → List Line → Type 0
IsSpentWithin most states lines = (length states ≤ most) × LastIs EndSpent lines

-- what is written where one is
abbrev pub spent_text : List ℕ
spent_text = codes "end spent\n"

-- What is written of a program's own state after so many events in a world, or after the last one where there are fewer, with its status;
-- or that one of these events is spent.
pub data IsView (p : ProgramTree) (w : worlds.World) (most : ℕ) : (text : List ℕ) (status : ℕ) → Type 0 where
  viewed : (states : List (World Actor)) (lines : List Line) (state : World Actor) → IsRun (source p) w states lines
      → (IsSpentWithin most states lines → ⊥) → slice_get states (min most (length states - 1)) ≡ Some state
      → IsView p w most (ViewText state.out.ran state.out.time (SourceView p state)) 0
  spent : (states : List (World Actor)) (lines : List Line) → IsRun (source p) w states lines
      → IsSpentWithin most states lines → IsView p w most spent_text 4

-- what a world in memory tells, by the places of the waits of the program whose classes it runs
abbrev pub world_view : List (List Place) → Seen → List ℕ
world_view waits v = ViewText v.ran v.outside.time (places_told waits (raw_of v.code.program).classes 0 v.places)

-- and after some events, by how the run ended, if it did
abbrev pub skipped_text : List (List Place) → Option Ending → Seen → List ℕ
skipped_text waits (Some Spent) v = spent_text
skipped_text waits _ v = world_view waits v

abbrev pub skipped_status : Option Ending → ℕ
skipped_status (Some Spent) = 4
skipped_status _ = 0

-- it can be told: it has as many processes as it says, and the numbers in each rise
abbrev pub CanBeTold : Seen → Type 0
CanBeTold v = (v.outside.net.processes ≡ length v.places) × AllRise v.places

-- so it is unless it is past an event that was spent
abbrev pub SkippedRise : Option Ending → Seen → Type 0
SkippedRise (Some Spent) v = Unit {0}
SkippedRise _ v = CanBeTold v

-- That is the view of the program's own state.
abbrev pub SkipsView : Type 0
SkipsView =
    (text : List ℕ) (program : Program) (c : RawClasses) (file : World0) (first v : Seen) (most : ℕ) (e : Option Ending)
    → IsSound text program
    → first_heavy (program_of program).decls ≡ None → Has (program_of program) (raw_of c) → IsInRange (seen file) → Starts c file first
    → SkipsUpTo most first e v
    → SkippedRise e v
    × IsView (program_of program) (seen file) most (skipped_text (places_of_waits (program_of program).decls) e v) (skipped_status e)
