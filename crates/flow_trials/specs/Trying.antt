-- Runs of a program in one world that begins again, where monitors that are made anew hear each.
use Rattle.std.specs.Prelude.{◌≡◌, ℕ, ◌+◌, Bool, true, false, List, [], ◌∷◌, if◌then◌else◌, Result, Ok, Err}
use Rattle.std.specs.declared.option.Option.{Option}
use Rattle.std.specs.declared.option.Option.TheVariants.{None, Some}
use Rattle.flow_base.specs.declared.fault.OutFault.{OutFault}
use Rattle.flow_base.specs.declared.fault.OutFault.TheVariants.{Failed, OutOfMemory}
use Rattle.flow_tree.specs.DeclView.{program_of}
use Rattle.flow_tree.specs.declared.decl.Program.{Program}
use Rattle.flow_trace.specs.Groups.{is_event}
use Rattle.flow_trace.specs.declared.line.Line.{Line}
use Rattle.flow_class.specs.View.{raw_of}
use Rattle.flow_class.specs.declared.class.RawClasses.{RawClasses}
use Rattle.flow_code.specs.declared.program.Code.{Code}
use Rattle.flow_front.specs.Verdict.{IsSound}
use Rattle.flow_lower.specs.Compiled.{Has}
use Rattle.flow_lower.specs.Weighing.{first_heavy}
use Rattle.flow_compile_laws.specs.Frames.Framed.{SourceShown}
use Rattle.flow_monitor.specs.declared.attach.PanelFault.{PanelFault}
use Rattle.flow_monitor.specs.declared.attach.PanelFault.TheVariants as fault
use Rattle.flow_monitor.specs.declared.attach.Want.{Want}
use Rattle.flow_monitor.specs.Attaching.{Handed, attached}
use Rattle.flow_monitor.specs.Cut.{Cut}
use Rattle.flow_monitor.specs.Ears.{Ears}
use Rattle.flow_worldfile.specs.Worlds.{World, seen}
use Rattle.flow_worldfile.specs.declared.world.World0.{World0}
use Rattle.flow_world.specs.declared.run_ending.RunEnding.{RunEnding}
use Rattle.flow_world.specs.declared.run_ending.RunEnding.TheVariants.{Own, Stopped}
use Rattle.flow_world.specs.Ending.{Seen}
use Rattle.flow_world.specs.Ends.{LastIs}
use Rattle.flow_world.specs.FaultedLines.{whole}
use Rattle.flow_world.specs.Watching.{Hearing as Hearer, hearing as heard_there, watching}
use Rattle.flow_world.specs.Starting.{IsCodeOf}
use Rattle.flow_world.specs.WatchedTraces.{HeardToEnd, HeardTrace}
use Rattle.flow_explain.specs.Texts.{ActorText}
use Rattle.flow_cover.specs.Covers.{Marks, no_marks, marks_after, taken_in}
use Rattle.flow_family.specs.Families.{time_added}
use Rattle.flow_sweep.specs.declared.ran.Ended.{Ended}
use Rattle.flow_sweep.specs.Sweeps.{Hearing, end_line}
use Rattle.flow_trials.specs.declared.hears.Hears.{Hears}

-- what is run, its classes, who hears each run at its begin, and the actors whose branches are looked after
pub record OnTrial : Type 0 where
  pub program : Program
  pub classes : RawClasses
  pub ears : Ears
  pub texts : List ActorText

abbrev pub on_trial : Program → RawClasses → Ears → List ActorText → OnTrial
on_trial program classes ears texts = record { program = program; classes = classes; ears = ears; texts = texts }

-- what is run in a world in memory, where monitors are wanted of those that are made
abbrev pub trial_of : Program → Seen → List Want → List Handed → List ActorText → OnTrial
trial_of program w wanted handed texts = on_trial program w.code.program (attached wanted handed) texts

-- a panel of monitors that are made for it is had only where no item fails that is wanted; and there may be no memory
abbrev pub PanelFails : {T : Type 0} → (first : Option PanelFault) → Result T PanelFault → Type 0
PanelFails first (Ok panel) = first ≡ None
PanelFails first (Err (fault.NoMonitor k)) = first ≡ Some (fault.NoMonitor k)
PanelFails first (Err (fault.Twice k)) = first ≡ Some (fault.Twice k)
PanelFails first (Err fault.OutOfMemory) = Unit {0}

-- The classes are those of a program that passes all rules, resolved.
pub record IsReady (program : Program) (code : Code) : Type 0 where
  pub text : List ℕ
  pub sound : IsSound text program
  pub light : first_heavy (program_of program).decls ≡ None
  pub has : Has (program_of program) (raw_of code.program)
  pub is_code : IsCodeOf code.program code

-- the lines of a world are those of the program's own trace in it
abbrev pub means : OnTrial → World → List Line → Type 0
means t w lines = SourceShown false (program_of t.program) w lines

-- who hears each run, and that of each branch it is looked for whether its lines show it taken
abbrev pub hearing : OnTrial → Hearing
hearing t = record { ears = t.ears; marks = taken_in t.texts }

-- what is kept of the lines of a run: the times of its events where they are asked for, how many events there are, and which branches of
-- these actors were taken
pub record Heard : Type 0 where
  pub texts : List ActorText
  pub timed : Bool
  pub times : List ℕ
  pub events : ℕ
  pub marks : Marks

abbrev pub heard_by : Hears → Heard
heard_by h = record {
  texts = h.cover.now;
  timed = h.timed;
  times = h.times.items;
  events = h.events;
  marks = h.marks;
}

-- before the first line, after one line more, and after more of them
abbrev pub heard_nothing : List ActorText → (timed : Bool) → Heard
heard_nothing texts timed = record {
  texts = texts;
  timed = timed;
  times = [];
  events = 0;
  marks = no_marks texts;
}

abbrev pub one_if : Bool → ℕ
one_if true = 1
one_if false = 0

abbrev pub times_after : (timed : Bool) → Line → List ℕ → List ℕ
times_after timed l times = if timed then time_added l times else times

abbrev pub heard_after : Line → Heard → Heard
heard_after l h = record {
  texts = h.texts;
  timed = h.timed;
  times = times_after h.timed l h.times;
  events = h.events + one_if (is_event l);
  marks = marks_after h.texts l h.marks;
}

abbrev pub heard_from : Heard → List Line → Heard
heard_from h [] = h
heard_from h (l ∷ ls) = heard_from (heard_after l h) ls

-- what a put means to it: the line is heard, or there is no memory
abbrev pub HearsLine : Heard → Line → Result (Unit {0}) OutFault → Heard → Type 0
HearsLine old l (Ok done) new = new ≡ heard_after l old
HearsLine old l (Err Failed) new = ⊥
HearsLine old l (Err OutOfMemory) new = Unit {0}

-- A run that monitors heard: the lines of its trace, cut where one of them says Stop, were heard to the last, and it ended so.
pub record HeardRun (lines_are : List Line → Type 0) (ears : Ears) (before after : Heard) (ended : Ended) : Type 0 where
  pub lines : List Line
  pub trace : lines_are lines
  pub heard : after ≡ heard_from before (Cut ears lines)
  pub last : LastIs (end_line ended) (Cut ears lines)

-- The world of a file after the last event of a run in memory of which these lines were put.
abbrev pub left_by : {A : Type 0} (puts : A → Line → Result (Unit {0}) OutFault → A → Type 0) (e : RunEnding) (w : Seen) (a b : Hearer A)
    → HeardToEnd puts false e w a b → Seen
left_by puts (Own e) w a b t = t.left
left_by puts (Stopped k) w a b t = t.left

abbrev pub hears_line : Hears → Line → Result (Unit {0}) OutFault → Hears → Type 0
hears_line a l answer b = HearsLine (heard_by a) l answer (heard_by b)

-- A run of classes in memory, from the start of the world of a file to its end, where this panel hears it, draws so many words.
pub record Drew (classes : RawClasses) (file : World0) (ears : Ears) (count : ℕ) : Type 0 where
  pub before : Hears
  pub after : Hears
  pub others : Ears
  pub stop : Option ℕ
  pub ending : RunEnding
  pub trace : HeardTrace hears_line false classes file (watching before ears) ending (whole (heard_there after others stop))
  pub drawn : count ≡ (left_by hears_line ending trace.first trace.headed trace.before trace.goes).outside.draws.used

-- and so one from the start of a world
abbrev pub DrewIn : (classes : RawClasses) → World → Ears → (count : ℕ) → Type 0
DrewIn classes w ears count = (file : World0) × (seen file ≡ w) × Drew classes file ears count
