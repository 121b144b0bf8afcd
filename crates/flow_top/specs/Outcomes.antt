-- What a request comes to: the texts of outcomes that are no run, with their status; and what may be run.
use Rattle.std.specs.Prelude.{◌≡◌, ℕ, Bool, List, [], ◌∷◌, ◌++◌, codes, nat_le, if◌then◌else◌, Ok}
use Rattle.std.specs.declared.option.Option.TheVariants.{None}
use Rattle.std.specs.declared.snapshot.Snapshot.{Snapshot}
use Rattle.flow_base.specs.declared.fault.OutFault.{OutFault}
use Rattle.flow_base.specs.declared.fault.OutFault.TheVariants as fault
use Rattle.flow_base.specs.declared.place.Place.{Place}
use Rattle.flow_tree.specs.declared.decl.Program.{Program}
use Rattle.flow_tree.specs.declared.fault.SourceFault.{SourceFault}
use Rattle.flow_tree.specs.declared.fault.SourceFault.TheVariants as source
use Rattle.flow_tree.specs.declared.fault.Rule.TheVariants.{L}
use Rattle.flow_tree.specs.DeclView.{program_of}
use Rattle.flow_tree.specs.Canon.{Canon}
use Rattle.flow_trace.specs.declared.line.Line.{Line}
use Rattle.flow_worldfile.specs.declared.world.World0.{World0}
use Rattle.flow_worldfile.specs.declared.world.WorldFault.{WorldFault}
use Rattle.flow_worldfile.specs.declared.world.WorldFault.TheVariants as world
use Rattle.flow_worldfile.specs.Worlds.{World, IsInRange, seen}
use Rattle.flow_class.specs.declared.class.RawClasses.{RawClasses}
use Rattle.flow_class.specs.View.{raw_of}
use Rattle.flow_classprint.specs.ClassText.{ClassText}
use Rattle.flow_classread.specs.declared.fault.ClassFault.{ClassFault}
use Rattle.flow_classread.specs.declared.fault.ClassFault.TheVariants as class
use Rattle.flow_classread.specs.ClassAnswer.{ClassAnswer}
use Rattle.flow_front.specs.Verdict.{IsSound}
use Rattle.flow_lower.specs.Weighing.{first_heavy}
use Rattle.flow_lower.specs.Compiled.{Has}
use Rattle.flow_shrink.specs.declared.shrinking.TheConstants.{SCRIPT_LINES}
use Rattle.flow_compile_laws.specs.Frames.Framed.{SourceShown, ClassShown}
use Rattle.flow_refusal.specs.Refusal.{refusal_text, refusal_status, world_refusal, class_refusal, class_status, script_refusal}
use Rattle.flow_monitor.specs.declared.attach.PanelFault.{PanelFault}
use Rattle.flow_monitor.specs.declared.attach.PanelFault.TheVariants as panel
use Rattle.flow_words.specs.declared.asked.WordsFault.{WordsFault}
use Rattle.flow_words.specs.declared.asked.WordsFault.TheVariants as words
use Rattle.flow_words.specs.Asked.{Request, run as run_words, exec as exec_words, bench as bench_words, shrink as shrink_words, debug as debug_words}
use Rattle.flow_top.specs.declared.outcome.Outcome.{Outcome}
use Rattle.flow_top.specs.declared.outcome.Outcome.TheVariants.{Answered, Run, Bench, Shrink, Debug}
use Rattle.flow_top.specs.declared.outcome.ProgramRun.{ProgramRun}
use Rattle.flow_top.specs.declared.outcome.DebugRun.{DebugRun}
use Rattle.flow_top.specs.Debugged.{WaitsOf}
use Rattle.flow_top.specs.declared.outcome.Meant.{Meant}
use Rattle.flow_top.specs.declared.outcome.Meant.TheVariants.{Text, Classes}
use Rattle.flow_top.specs.declared.outcome.Answered as told
use Rattle.flow_top.specs.declared.outcome.Answered.TheVariants.{Usage, ReadFault, OutOfMemory, Refused, NoClasses, NoWorld, LongScript, Passed, Printed, Formatted}

-- what is written for an outcome that is no run
abbrev pub text_of : told.Answered → List ℕ
text_of Usage = codes "usage" ++ 10 ∷ []
text_of ReadFault = codes "read fault" ++ 10 ∷ []
text_of OutOfMemory = []
text_of (Refused fault) = refusal_text fault
text_of (NoClasses fault) = class_refusal fault
text_of (NoWorld fault) = world_refusal fault
text_of LongScript = script_refusal
text_of Passed = codes "ok" ++ 10 ∷ []
text_of (Printed classes) = ClassText (raw_of classes)
text_of (Formatted program) = Canon (program_of program)

-- the status of a refusal of a world: 10 where it is too large
abbrev pub world_status : WorldFault → ℕ
world_status world.TooLarge = 10
world_status world.OutOfMemory = 7
world_status _ = 3

-- the status of an outcome that is no run, and whose text went out whole
abbrev pub status_of : told.Answered → ℕ
status_of Usage = 2
status_of ReadFault = 5
status_of OutOfMemory = 7
status_of (Refused fault) = refusal_status fault
status_of (NoClasses fault) = class_status fault
status_of (NoWorld fault) = world_status fault
status_of LongScript = 10
status_of Passed = 0
status_of (Printed classes) = 0
status_of (Formatted program) = 0

-- what a fault of the files comes to
abbrev pub outcome_of : OutFault → told.Answered
outcome_of fault.Failed = ReadFault
outcome_of fault.OutOfMemory = OutOfMemory

-- what the verdict on a program that isn't accepted comes to
abbrev pub refusal_outcome_of : SourceFault → told.Answered
refusal_outcome_of (source.Refused rule at) = Refused (source.Refused rule at)
refusal_outcome_of (source.AcrossWait at declared wait) = Refused (source.AcrossWait at declared wait)
refusal_outcome_of source.OutOfMemory = OutOfMemory

-- what a fault of a class text comes to
abbrev pub class_outcome_of : ClassFault → told.Answered
class_outcome_of (class.Form line) = NoClasses (class.Form line)
class_outcome_of (class.Invalid rule name) = NoClasses (class.Invalid rule name)
class_outcome_of class.TooLarge = NoClasses class.TooLarge
class_outcome_of class.OutOfMemory = OutOfMemory

-- what words come to that ask for nothing, and monitors that aren't handed in
abbrev pub words_outcome_of : WordsFault → told.Answered
words_outcome_of words.Usage = Usage
words_outcome_of words.OutOfMemory = OutOfMemory

abbrev pub panel_outcome_of : PanelFault → told.Answered
panel_outcome_of (panel.NoMonitor k) = Usage
panel_outcome_of (panel.Twice k) = Usage
panel_outcome_of panel.OutOfMemory = OutOfMemory

-- what a program with an actor that weighs too much comes to
abbrev pub heavy_outcome : Place → told.Answered
heavy_outcome at = Refused (source.Refused (L 9) at)

-- the text has this program, and none of the rules on programs refuses it
pub record IsPassing (text : List ℕ) (p : Program) : Type 0 where
  pub sound : IsSound text p
  pub light : first_heavy (program_of p).decls ≡ None

-- What a text is of which these classes are run: a program that passes, whose classes they are; or a class text, which has them.
pub data IsRunBy (text : List ℕ) : Meant → RawClasses → Type 0 where
  of_program : (p : Snapshot Program) (classes : RawClasses) → IsPassing text p.value → Has (program_of p.value) (raw_of classes)
      → IsRunBy text (Text p) classes
  of_class_text : (classes : RawClasses) → ClassAnswer text (Ok classes) → IsRunBy text Classes classes

-- programs are run for `run`, `bench`, `shrink` and `debug`, class texts for `exec`
abbrev pub IsMeantBy : Request → Meant → Type 0
IsMeantBy (run_words r) (Text p) = Unit {0}
IsMeantBy (bench_words clients seed) (Text p) = Unit {0}
IsMeantBy (shrink_words program world want) (Text p) = Unit {0}
IsMeantBy (debug_words program world most) (Text p) = Unit {0}
IsMeantBy (exec_words r) Classes = Unit {0}
IsMeantBy _ _ = ⊥

-- a world is made smaller whose script has few enough lines
abbrev pub shrink_for : ProgramRun → Outcome
shrink_for r = if nat_le r.world.script.len SCRIPT_LINES then Shrink r else Answered LongScript

-- the outcome where classes are run for a request: what is shown of them is written, or for `bench` its summary, for `shrink` a world that
-- was made smaller, or for `debug` a state
abbrev pub run_for : Request → ProgramRun → Outcome
run_for (bench_words clients seed) r = Bench (record { run = r; clients = clients; seed = seed })
run_for (shrink_words program world want) r = shrink_for r
run_for (debug_words program world most) r = Debug (record { run = r; most = most })
run_for _ r = Run r

-- a run that may be made: of the classes of some text, in a world in range
pub record MayRun (r : ProgramRun) : Type 0 where
  pub text : List ℕ
  pub is_run : IsRunBy text r.meant r.classes
  pub in_range : IsInRange (seen r.world)

-- a program is run
abbrev pub IsText : Meant → Type 0
IsText (Text p) = Unit {0}
IsText Classes = ⊥

-- the state of a program is told, whose waits are known
abbrev pub MayView : DebugRun → Type 0
MayView d = MayRun d.run × IsText d.run.meant × WaitsOf d.run.meant d.run.waits

abbrev pub MayTell : Outcome → Type 0
MayTell (Answered outcome) = Unit {0}
MayTell (Run r) = MayRun r
MayTell (Bench b) = MayRun b.run
MayTell (Shrink r) = MayRun r × IsText r.meant
MayTell (Debug d) = MayView d

-- classes are run once at most, or again and again if they are run
abbrev pub IsOnce : Outcome → Type 0
IsOnce (Shrink r) = ⊥
IsOnce _ = Unit {0}

abbrev pub IsAgain : Outcome → Type 0
IsAgain (Run r) = ⊥
IsAgain (Bench b) = ⊥
IsAgain (Debug d) = ⊥
IsAgain _ = Unit {0}

-- as a request has it
abbrev pub IsFor : Request → Outcome → Type 0
IsFor (shrink_words program world want) o = IsAgain o
IsFor _ o = IsOnce o

-- what is shown of a run in a world: of a program by its text, of classes by themselves
abbrev pub ShownIn : Meant → (frames : Bool) → RawClasses → World → List Line → Type 0
ShownIn (Text p) frames classes world lines = SourceShown frames (program_of p.value) world lines
ShownIn Classes frames classes world lines = ClassShown frames (raw_of classes) world lines

abbrev pub ShownBy : Meant → (frames : Bool) → RawClasses → World0 → List Line → Type 0
ShownBy meant frames classes world lines = ShownIn meant frames classes (seen world) lines

abbrev pub IsShown : ProgramRun → List Line → Type 0
IsShown r lines = ShownBy r.meant r.frames r.classes r.world lines
