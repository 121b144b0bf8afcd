-- Which answers there are where all texts pass and no call fails.
use Rattle.std.specs.Prelude.{◌≡◌, ◌⊎◌, ◌≤◌, ℕ, false, List, [], ◌∷◌, ◌++◌, codes, length, Ok}
use Rattle.flow_base.specs.Faults.{Rose, next_count}
use Rattle.flow_gen.specs.Generator.{program_text, generated_world}
use Rattle.flow_tree.specs.Canon.{Canon}
use Rattle.flow_classprint.specs.ClassText.{ClassText}
use Rattle.flow_tree.specs.declared.decl.Program.{Program}
use Rattle.flow_tree.specs.DeclView.{program_of}
use Rattle.flow_trace.specs.declared.line.Line.{Line}
use Rattle.flow_worldfile.specs.declared.TheConstants.{WORLD_BYTES}
use Rattle.flow_worldfile.specs.Worlds.{World, world_text}
use Rattle.flow_worldfile.specs.Reading.{IsFileOf}
use Rattle.flow_class.specs.declared.class.RawClasses.{RawClasses}
use Rattle.flow_class.specs.View.{raw_of}
use Rattle.flow_classread.specs.ClassAnswer.{ClassAnswer}
use Rattle.flow_front.specs.Verdict.{IsProgram}
use Rattle.flow_compile_laws.specs.Frames.Framed.{SourceShown, ClassShown}
use Rattle.flow_tree.specs.Decls.{ProgramTree}
use Rattle.flow_monitor.specs.declared.attach.Want.{Want}
use Rattle.flow_monitor.specs.Ears.{Ears}
use Rattle.flow_shrink.specs.declared.shrinking.TheConstants.{SCRIPT_LINES}
use Rattle.flow_shrink.specs.Shrinking.{IsLeast}
use Rattle.flow_words.specs.Asked.{Request, RunRequest, format, check, compile, run, exec, bench, shrink, debug, upgrade}
use Rattle.flow_world.specs.declared.ending.Ending.{Ending}
use Rattle.flow_world.specs.Ends.{end_line, LastIs}
use Rattle.flow_view_laws.specs.Skipped.{IsView}
use Rattle.flow_top.specs.Outcomes.{IsPassing}
use Rattle.flow_top.specs.Shrunk.{IsCut}
use Rattle.flow_top.specs.Summary.{summary_text}
use Rattle.flow_top.specs.Told.{GoesOut, ending_status}
use Rattle.flow_headline.specs.Calls.{Call, AsksFor, HasFile, HasWorld, TellsLines, ears_of}
use Rattle.flow_headline.specs.Laws.{TellsClasses}

-- no call of the files failed and none of the sink, as their counts show
pub record NoFault (c : Call) : Type 0 where
  pub files : c.files'.faults ≡ next_count c.files.faults → ⊥
  pub sink : Rose c.sink.faults c.sink'.faults → ⊥

-- The texts that a request is about pass their rules and limits.
pub data TextsPass (c : Call) : Request → Type 0 where
  formats : (name text : List ℕ) (p : Program) → HasFile c name text → IsProgram text p → TextsPass c (format name)
  checks : (name text : List ℕ) (p : Program) → HasFile c name text → IsPassing text p → TextsPass c (check name)
  compiles : (name text : List ℕ) (p : Program) → HasFile c name text → IsPassing text p → TextsPass c (compile name)
  runs : (r : RunRequest) (text : List ℕ) (p : Program) (w : World) → HasFile c r.what text → IsPassing text p
      → HasWorld c r.world w
      → TextsPass c (run r)
  execs : (r : RunRequest) (text : List ℕ) (classes : RawClasses) (w : World) → HasFile c r.what text → ClassAnswer text (Ok classes)
      → HasWorld c r.world w → TextsPass c (exec r)
  benches : (clients seed : ℕ) (p : Program) (w : World) → IsPassing (program_text clients) p
      → length (generated_world seed) ≤ WORLD_BYTES
      → IsFileOf (generated_world seed) w → TextsPass c (bench clients seed)
  shrinks : (program world : List ℕ) (want : Want) (text : List ℕ) (p : Program) (w : World) → HasFile c program text
      → IsPassing text p
      → HasWorld c world w → length w.script ≤ SCRIPT_LINES → TextsPass c (shrink program world want)
  debugs : (program world : List ℕ) (most : ℕ) (text : List ℕ) (p : Program) (w : World) → HasFile c program text
      → IsPassing text p
      → HasWorld c world w → TextsPass c (debug program world most)
  upgrades : (name text : List ℕ) (classes : RawClasses) → HasFile c name text → ClassAnswer text (Ok classes)
      → TextsPass c (upgrade name)

-- the lines that are told
abbrev pub TellsAll : Call → Request → (shown : List Line → Type 0) → Type 0
TellsAll c q shown = (lines : List Line) × shown lines × TellsLines c (ears_of c q) lines

-- The summary of the lines that are shown of a program was written and handed on, with the status of the end.
pub record TellsSummary (c : Call) (clients seed : ℕ) (shown : List Line → Type 0) : Type 0 where
  pub lines : List Line
  pub is : shown lines
  pub ending : Ending
  pub last : LastIs (end_line ending) lines
  pub out : GoesOut c.sink c.sink' (summary_text clients seed lines (end_line ending))
  pub status : c.status ≡ ending_status ending

-- in a world the trace of a program, by its text and cut by the first monitor of a panel, ends with its `end stop`
abbrev pub ProgramStops : ProgramTree → Ears → World → Type 0
ProgramStops p ears w = (lines : List Line) × SourceShown false p w lines × IsCut ears lines

-- Where a program is stopped in this world, the world file was written and handed on of a world as this one but for its script, which has
-- some of its lines, so that the program is stopped in it, and isn't without any one of these, with status 0; else that it isn't, with 13.
pub data TellsShrunk (c : Call) (p : ProgramTree) (ears : Ears) (w : World) : Type 0 where
  least : (v : World) → ProgramStops p ears w → IsLeast (ProgramStops p ears) w v → GoesOut c.sink c.sink' (world_text v)
      → c.status ≡ 0
      → TellsShrunk c p ears w
  not_stopped : (ProgramStops p ears w → ⊥) → GoesOut c.sink c.sink' (codes "not stopped" ++ 10 ∷ []) → c.status ≡ 13
      → TellsShrunk c p ears w

-- The view of a program's own state after so many events was written and handed on, with status 0, or that one of them was spent, with 4.
pub record TellsView (c : Call) (p : ProgramTree) (w : World) (most : ℕ) : Type 0 where
  pub text : List ℕ
  pub status_due : ℕ
  pub view : IsView p w most text status_due
  pub out : GoesOut c.sink c.sink' text
  pub status : c.status ≡ status_due

-- a whole text was written and handed on, with status 0
abbrev pub TellsText : Call → List ℕ → Type 0
TellsText c text = GoesOut c.sink c.sink' text × (c.status ≡ 0)

-- what is due then was told whole
abbrev pub IsDone : (c : Call) (q : Request) → TextsPass c q → Type 0
IsDone c _ (formats name text p file is) = TellsText c (Canon (program_of p))
IsDone c _ (checks name text p file pass) = TellsText c (codes "ok" ++ 10 ∷ [])
IsDone c _ (compiles name text p file pass) = TellsClasses c (program_of p)
IsDone c _ (runs r text p w file pass world) = TellsAll c (run r) (SourceShown r.frames (program_of p) w)
IsDone c _ (execs r text classes w file read world) = TellsAll c (exec r) (ClassShown r.frames (raw_of classes) w)
IsDone c _ (benches clients seed p w pass short is) = TellsSummary c clients seed (SourceShown false (program_of p) w)
IsDone c _ (shrinks program world want text p w file pass there short) =
    TellsShrunk c (program_of p) (ears_of c (shrink program world want)) w
IsDone c _ (debugs program world most text p w file pass there) = TellsView c (program_of p) w most
IsDone c _ (upgrades name text classes file read) = TellsText c (ClassText (raw_of classes))

-- Or there was no memory, with status 7.
abbrev pub Complete : Type 0
Complete = (c : Call) (q : Request) (texts : TextsPass c q) → AsksFor c q → NoFault c → IsDone c q texts ⊎ (c.status ≡ 7)
