-- What the project promises, over the calls of the program alone.
use Rattle.std.specs.Prelude.{◌≡◌, ◌⊎◌, ◌≤◌, ℕ, Bool, List, length, Ok}
use Rattle.std.specs.List.{AllByRecursion}
use Rattle.flow_tree.specs.declared.decl.Program.{Program}
use Rattle.flow_tree.specs.Decls.{ProgramTree}
use Rattle.flow_tree.specs.DeclView.{program_of}
use Rattle.flow_trace.specs.declared.line.Line.{Line}
use Rattle.flow_worldfile.specs.Worlds.{World, IsInRange}
use Rattle.flow_class.specs.declared.class.RawClasses.{RawClasses}
use Rattle.flow_class.specs.Classes.{RawTree}
use Rattle.flow_class.specs.View.{raw_of}
use Rattle.flow_classprint.specs.ClassText.{ClassText}
use Rattle.flow_classread.specs.declared.read.TheConstants.{CLASS_BYTES}
use Rattle.flow_classread.specs.ClassAnswer.{ClassAnswer}
use Rattle.flow_front.specs.Verdict.{IsSound}
use Rattle.flow_compile.specs.Right.{IsRight}
use Rattle.flow_compile_laws.specs.Frames.Framed.{SourceShown, ClassShown}
use Rattle.flow_meaning.specs.Boundaries.{ReferredIn}
use Rattle.flow_meaning.specs.Items.{Actor}
use Rattle.flow_meaning.specs.Runs.{SourceStates}
use Rattle.flow_meaning.specs.Source.{source}
use Rattle.flow_meaning.specs.World as meaning
use Rattle.flow_invariants.specs.Fitting.Laws.{OneTrace}
use Rattle.flow_words.specs.Asked.{Request, RunRequest, compile, run, exec}
use Rattle.flow_top.specs.Outcomes.{IsPassing}
use Rattle.flow_top.specs.Told.{GoesOut}
use Rattle.flow_headline.specs.Calls.{Call, AsksFor, HasFile, HasWorld, Writes, IsFault, TellsLines, ears_of}

-- The class text of right classes of a program was written and handed on: valid ones of its shape, with its traces and views.
pub record TellsClasses (c : Call) (p : ProgramTree) : Type 0 where
  pub raw : RawTree
  pub right : IsRight p raw
  pub out : GoesOut c.sink c.sink' (ClassText raw)
  pub status : c.status ≡ 0

-- `compile P` does so for every program text that the rules accept, and in which no actor weighs too much; or it comes to a fault.
abbrev pub Compiles : Type 0
Compiles =
    (c : Call) (name text : List ℕ) (p : Program) → AsksFor c (compile name) → HasFile c name text → IsPassing text p
    → TellsClasses c (program_of p) ⊎ IsFault c

-- Lines that are shown are told by a call, or it comes to a fault.
abbrev pub TellsShown : Call → Request → (shown : List Line → Type 0) → Type 0
TellsShown c q shown = ((lines : List Line) × shown lines × TellsLines c (ears_of c q) lines) ⊎ IsFault c

-- Where `run P W` runs such a program in a world in range, these are the lines that are shown of it by its text.
abbrev pub RunTells : Type 0
RunTells =
    (c : Call) (r : RunRequest) (text : List ℕ) (p : Program) (w : World) → AsksFor c (run r) → HasFile c r.what text → IsPassing text p
    → HasWorld c r.world w → TellsShown c (run r) (SourceShown r.frames (program_of p) w)

-- And so where `exec C W` runs the class text that `compile P` wrote, within the limit on bytes.
abbrev pub ExecIsRun : Type 0
ExecIsRun =
    (c e : Call) (name text class_text : List ℕ) (p : Program) (r : RunRequest) (w : World)
    → AsksFor c (compile name) → HasFile c name text → IsPassing text p → c.status ≡ 0 → Writes c class_text
    → AsksFor e (exec r) → HasFile e r.what class_text → length class_text ≤ CLASS_BYTES → HasWorld e r.world w
    → TellsShown e (exec r) (SourceShown r.frames (program_of p) w)

-- Of any class text that is read as valid classes `exec C W` tells the lines that are shown of these.
abbrev pub ExecTells : Type 0
ExecTells =
    (c : Call) (r : RunRequest) (text : List ℕ) (classes : RawClasses) (w : World) → AsksFor c (exec r) → HasFile c r.what text
    → ClassAnswer text (Ok classes) → HasWorld c r.world w → TellsShown c (exec r) (ClassShown r.frames (raw_of classes) w)

-- In a world in range exactly one list of lines is shown of a program that the rules accept, with frames and without.
abbrev pub OneShown : Type 0
OneShown =
    (text : List ℕ) (p : Program) (with_frames : Bool) (w : World) → IsSound text p → IsInRange w
    → OneTrace (SourceShown with_frames (program_of p) w)

-- So two calls that tell what is shown of one program in one world, both with frames or both without, and that the same monitors
-- hear, give the same status and write the same bytes, where these are told; or one of them comes to a fault.
abbrev pub SameBytes : Type 0
SameBytes =
    (c d : Call) (q o : Request) (with_frames : Bool) (text : List ℕ) (p : Program) (w : World) (written other : List ℕ)
    → IsSound text p → IsInRange w → ears_of c q ≡ ears_of d o
    → TellsShown c q (SourceShown with_frames (program_of p) w) → TellsShown d o (SourceShown with_frames (program_of p) w)
    → Writes c written → Writes d other → ((c.status ≡ d.status) × (written ≡ other)) ⊎ (IsFault c ⊎ IsFault d)

-- So `run P W` writes the bytes that `exec C W` writes, and with the same status, for the class text C that `compile P` wrote.
abbrev pub ExecWritesAsRun : Type 0
ExecWritesAsRun =
    (c e d : Call) (name text class_text : List ℕ) (p : Program) (r s : RunRequest) (w : World) (written other : List ℕ)
    → AsksFor c (compile name) → HasFile c name text → IsPassing text p → c.status ≡ 0 → Writes c class_text
    → AsksFor e (exec r) → HasFile e r.what class_text → length class_text ≤ CLASS_BYTES → HasWorld e r.world w
    → AsksFor d (run s) → HasFile d s.what text → HasWorld d s.world w → r.frames ≡ s.frames → ears_of e (exec r) ≡ ears_of d (run s)
    → Writes e written → Writes d other → ((e.status ≡ d.status) × (written ≡ other)) ⊎ (IsFault e ⊎ IsFault d)

-- At each boundary of the run of such a program, by its text, each unfinished actor is unmarked, and, unless it is void, a future
-- refers to its result.
abbrev pub Referenced : Type 0
Referenced =
    (text : List ℕ) (p : Program) (w : World) (states : List (meaning.World Actor)) → IsSound text p → IsInRange w
    → SourceStates (program_of p) w states → AllByRecursion (ReferredIn (source (program_of p))) states
