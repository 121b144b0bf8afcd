-- The promises, call by call.
use Rattle.std.proofs.Common.{◌≡◌, ℕ, ◌+◌, ◌≤◌, Bool, List, ◌++◌, length, ◌⊎◌, inl, inr, Option, Some, Ok, Err, Result, refl, sym, ap, ◌∙◌, subst}
use Rattle.std.specs.Io.KnownBytes.{Appends}
use Rattle.std.proofs.lemmas.List.{append_cancel_left, same_from_push}
use Rattle.flow_base.specs.Bytes.{AreFirstOf}
use Rattle.flow_base.specs.Seen.{Content}
use Rattle.flow_tree.specs.declared.limits.TheConstants.{PROGRAM_BYTES}
use Rattle.flow_tree.specs.declared.decl.Program.{Program}
use Rattle.flow_tree.specs.Decls.{ProgramTree}
use Rattle.flow_tree.specs.DeclView.{program_of}
use Rattle.flow_trace.specs.declared.line.Line.{Line}
use Rattle.flow_worldfile.specs.declared.TheConstants.{WORLD_BYTES}
use Rattle.flow_worldfile.specs.Worlds.{World, seen}
use Rattle.flow_worldfile.specs.Reading as reading
use Rattle.flow_worldfile.specs.Laws.{OneVerdict as OneWorldVerdict}
use Rattle.flow_monitor.specs.Cut.{Cut}
use Rattle.flow_monitor.specs.Ears.{Ears}
use Rattle.flow_class.specs.declared.class.RawClasses.{RawClasses}
use Rattle.flow_class.specs.Classes.{RawTree}
use Rattle.flow_class.specs.View.{raw_of}
use Rattle.flow_classprint.specs.ClassText.{ClassText}
use Rattle.flow_classread.specs.declared.fault.ClassFault.{ClassFault}
use Rattle.flow_classread.specs.declared.fault.ClassFault.TheVariants as class
use Rattle.flow_classread.specs.declared.read.TheConstants.{CLASS_BYTES}
use Rattle.flow_classread.specs.ClassAnswer.{ClassAnswer}
use Rattle.flow_class_reading_laws.specs.Laws.{OneAnswer}
use Rattle.flow_front.specs.Laws.{OneVerdict}
use Rattle.flow_lower.specs.Compiled.{Has}
use Rattle.flow_validity_laws.specs.Laws.{CompilesValid}
use Rattle.flow_lowering_laws.specs.Programs.{CompilesFaithfully}
use Rattle.flow_compile_laws.specs.Traces.{TracesPreserved, TracesReflected, ObservationsPreserved, ObservationsReflected}
use Rattle.flow_compile.specs.Right.{IsRight}
use Rattle.flow_compile_laws.specs.Frames.Framed.{SourceShown, ClassShown}
use Rattle.flow_invariants.specs.Fitting.Laws.{OneTrace}
use Rattle.flow_words.specs.Asked.{Request, RunRequest, compile, run, exec}
use Rattle.flow_world.specs.declared.ending.Ending.TheVariants.{Idle, Bound, Spent}
use Rattle.flow_world.specs.declared.run_ending.RunEnding.{RunEnding}
use Rattle.flow_world.specs.declared.run_ending.RunEnding.TheVariants.{Own, Stopped}
use Rattle.flow_world.specs.Ends.{LastIs}
use Rattle.flow_world.specs.WatchedTraces.{last_line}
use Rattle.flow_world.specs.Written.{bytes_of}
use Rattle.flow_top.specs.declared.outcome.Outcome.{Outcome}
use Rattle.flow_top.specs.declared.outcome.Outcome.TheVariants.{Answered, Run}
use Rattle.flow_top.specs.declared.outcome.Answered.TheVariants.{Printed}
use Rattle.flow_top.specs.declared.outcome.ProgramRun.{ProgramRun}
use Rattle.flow_top.specs.Requests.{request_by, panel_for, tells_frames}
use Rattle.flow_top.specs.Outcomes.{IsPassing, IsRunBy, ShownBy, run_for}
use Rattle.flow_top.specs.Sources.{Source, of_file, read_for, AreTexts}
use Rattle.flow_top.specs.Due.{DueBy, DueIn, IsRunFor, no_world, runs}
use Rattle.flow_top.specs.Told.{GoesOut, run_status}
use Rattle.flow_headline.specs.Calls.{Call, AsksFor, HasFile, HasWorld, Writes, IsFault, read_fault, write_fault, no_memory, TellsLines, ears_of}
use Rattle.flow_headline.specs.ReadBack.{CompiledTextShowsProgram}
use Rattle.flow_headline.specs.Laws.{TellsClasses, Compiles, TellsShown, RunTells, ExecIsRun, ExecTells, OneShown, SameBytes, ExecWritesAsRun}
use Rattle.flow_headline.proofs.Deciding.{IsTold, IsRunTold, DueFor, first, behind, text_is, told_of, run_of, comes}
use Rattle.flow_headline.proofs.Judging.{IsReadAs, by_program, compile_due, run_due, run_shows, exec_due, exec_shows, same_world, world_unrefused}

-- the classes that a call of `compile` told
record IsCompiled (c : Call) (p : ProgramTree) : Type 0 where
  raw : RawTree
  has : Has p raw
  out : GoesOut c.sink c.sink' (ClassText raw)
  status : c.status ≡ 0

module _ (c : Call) (name text : List ℕ) (p : Program) (one : OneVerdict text) (asks : AsksFor c (compile name)) (file : HasFile c name text) (pass : IsPassing text p) where
  by_classes : (classes : RawClasses) → c.answers.outcome ≡ Answered (Printed classes) → Has (program_of p) (raw_of classes) → IsCompiled c (program_of p) ⊎ IsFault c
  by_classes classes e has = by (told_of c (Printed classes) e)
    where
      by : IsTold (Printed classes) c.sink c.sink' c.status ⊎ IsFault c → IsCompiled c (program_of p) ⊎ IsFault c
      by (inl x) = inl (record { raw = raw_of classes; has = has; out = x.out; status = x.status })
      by (inr x) = inr x

  compiled_or_fault : IsCompiled c (program_of p) ⊎ IsFault c
  compiled_or_fault = by (comes c (compile name) asks)
    where
      by : DueFor c.files.content (compile name) c.answers.outcome ⊎ IsFault c → IsCompiled c (program_of p) ⊎ IsFault c
      by (inr x) = inr x
      by (inl (behind t u s is from also a b d)) = absurd cc
      by (inl (first t is a d)) =
          let same = text_is (c.files.content name) PROGRAM_BYTES t text file pass.sound.typed.read.has.short a.0 in
          let x = compile_due text one p pass name c.answers.outcome (subst (λ z. DueBy z (compile name) c.answers.outcome) same d) in
          by_classes x.0 x.1 x.2

-- the text of a file from which a source is
pub first_of : (content : List ℕ → Content) (name : List ℕ) (most : ℕ) (s : Source) (text : List ℕ) → Some (of_file name most) ≡ Some s → AreTexts content (read_for s text)
    → AreFirstOf (most + 1) (content name) text
first_of content name most s text e h = (subst (λ z. AreTexts content (read_for z text)) (same e) h).0
  where
    same : {x y : Source} → Some x ≡ Some y → y ≡ x
    same k = cc

-- a call that runs something of which such lines are shown
module _ (once : OneWorldVerdict) (c : Call) (q : Request) (with_frames : Bool) (Shown : Bool → World → List Line → Type 0) (w : World) (asks : AsksFor c q) where
  pub tells : (m : ProgramRun) → c.answers.outcome ≡ Run m → m.frames ≡ with_frames → seen m.world ≡ w
      → ((lines : List Line) → ShownBy m.meant m.frames m.classes m.world lines → Shown m.frames (seen m.world) lines) → TellsShown c q (Shown with_frames w)
  tells m e same_frames same shows = by (run_of c m e)
    where
      by : IsRunTold m (panel_for (request_by c.words c.handed) c.handed) c.sink c.sink' c.status ⊎ IsFault c → TellsShown c q (Shown with_frames w)
      by (inr x) = inr x
      by (inl x) =
          let ears = ap (λ z. panel_for z c.handed) asks in
          inl (
            x.lines,
            subst (λ z. Shown with_frames z x.lines) same (subst (λ z. Shown z (seen m.world) x.lines) same_frames (shows x.lines x.shown)),
            subst (λ z. TellsLines c z x.lines) ears (record { ending = x.ending; last = x.last; out = x.out; status = x.status }),
          )

-- what is due in a world whose file is told
module _ {A : Type 0} (once : OneWorldVerdict) (q : Request) (w : World) (world_text : List ℕ) (short : length world_text ≤ WORLD_BYTES) (is : reading.IsFileOf world_text w) where
  pub due_in : (t u : List ℕ) (o : Outcome) → u ≡ world_text → DueIn t u q o
      → ((m : ProgramRun) → IsRunFor t q m.meant m.classes → o ≡ run_for q m → seen m.world ≡ w → m.frames ≡ tells_frames q → A) → A
  due_in t u _ same (no_world meant classes fault kept reads n) go = world_unrefused once world_text w short is fault (subst (λ z. reading.ReadsWorld z (Err fault)) same reads) n
  due_in t u _ same (runs m kept reads frames) go = go m kept refl (same_world once world_text w short is (seen m.world) (subst (λ z. reading.IsFileOf z (seen m.world)) same reads.1)) frames

-- `run` of a program that passes
module _ (once : OneWorldVerdict) (c : Call) (r : RunRequest) (text : List ℕ) (p : Program) (w : World) (one : OneVerdict text) (asks : AsksFor c (run r))
    (file : HasFile c r.what text) (pass : IsPassing text p) (world : HasWorld c r.world w) where
  run_in : (t u : List ℕ) → t ≡ text → AreFirstOf (WORLD_BYTES + 1) (c.files.content r.world) u → DueIn t u (run r) c.answers.outcome
      → TellsShown c (run r) (SourceShown r.frames (program_of p) w)
  run_in t u same a d =
      due_in once (run r) w world.text world.short world.is t u c.answers.outcome (text_is (c.files.content r.world) WORLD_BYTES u world.text world.file world.short a) d
      (λ m is e at frames. tells once c (run r) r.frames (λ f v lines. SourceShown f (program_of p) v lines) w asks m e frames at
      (run_shows text one p pass r m.meant m.classes (subst (λ z. IsRunBy z m.meant m.classes) same is.is_run) is.is_meant m.frames m.world))

  pub run_tells : TellsShown c (run r) (SourceShown r.frames (program_of p) w)
  run_tells = by (comes c (run r) asks)
    where
      same : (t : List ℕ) → AreFirstOf (PROGRAM_BYTES + 1) (c.files.content r.what) t → t ≡ text
      same t a = text_is (c.files.content r.what) PROGRAM_BYTES t text file pass.sound.typed.read.has.short a

      by : DueFor c.files.content (run r) c.answers.outcome ⊎ IsFault c → TellsShown c (run r) (SourceShown r.frames (program_of p) w)
      by (inr x) = inr x
      by (inl (first t is a d)) = run_due text one p pass r c.answers.outcome (subst (λ z. DueBy z (run r) c.answers.outcome) (same t a.0) d)
      by (inl (behind t u s is from also a b d)) = run_in t u (same t a.0) (first_of c.files.content r.world WORLD_BYTES s u from b) d

-- `exec` of a class text that is read as classes of which such lines are shown
module _ (once : OneWorldVerdict) (c : Call) (r : RunRequest) (text : List ℕ) (Shown : Bool → World → List Line → Type 0) (w : World)
    (reads : (answer : Result RawClasses ClassFault) → ClassAnswer text answer → IsReadAs Shown answer) (asks : AsksFor c (exec r))
    (file : HasFile c r.what text) (short : length text ≤ CLASS_BYTES) (world : HasWorld c r.world w) where
  exec_in : (t u : List ℕ) → t ≡ text → AreFirstOf (WORLD_BYTES + 1) (c.files.content r.world) u → DueIn t u (exec r) c.answers.outcome → TellsShown c (exec r) (Shown r.frames w)
  exec_in t u same a d =
      due_in once (exec r) w world.text world.short world.is t u c.answers.outcome (text_is (c.files.content r.world) WORLD_BYTES u world.text world.file world.short a) d
      (λ m is e at frames. tells once c (exec r) r.frames Shown w asks m e frames at
      (exec_shows text Shown reads r m.meant m.classes (subst (λ z. IsRunBy z m.meant m.classes) same is.is_run) is.is_meant m.frames m.world))

  pub exec_tells : TellsShown c (exec r) (Shown r.frames w)
  exec_tells = by (comes c (exec r) asks)
    where
      same : (t : List ℕ) → AreFirstOf (CLASS_BYTES + 1) (c.files.content r.what) t → t ≡ text
      same t a = text_is (c.files.content r.what) CLASS_BYTES t text file short a

      by : DueFor c.files.content (exec r) c.answers.outcome ⊎ IsFault c → TellsShown c (exec r) (Shown r.frames w)
      by (inr x) = inr x
      by (inl (first t is a d)) = exec_due text Shown reads r c.answers.outcome (subst (λ z. DueBy z (exec r) c.answers.outcome) (same t a.0) d)
      by (inl (behind t u s is from also a b d)) = exec_in t u (same t a.0) (first_of c.files.content r.world WORLD_BYTES s u from b) d

-- a class text of valid classes is read as these
refuses : OneAnswer → (text : List ℕ) (classes : RawClasses) (fault : ClassFault) → ClassAnswer text (Ok classes) → ClassAnswer text (Err fault)
    → (◌≡◌ {A = Result RawClasses ClassFault} (Err fault) (Err class.OutOfMemory) → ⊥) → ⊥
refuses once text classes fault h a n =
    let e : ◌≡◌ {A = Result RawTree ClassFault} (Ok (raw_of classes)) (Err fault) = once text (Ok classes) (Err fault) h a (λ k. absurd cc) n in absurd cc

class_reads : OneAnswer → (text : List ℕ) (classes : RawClasses) → ClassAnswer text (Ok classes) → (answer : Result RawClasses ClassFault) → ClassAnswer text answer
    → IsReadAs (λ f w lines. ClassShown f (raw_of classes) w lines) answer
class_reads once text classes h (Ok c) a =
    let e : ◌≡◌ {A = Result RawTree ClassFault} (Ok (raw_of c)) (Ok (raw_of classes)) = once text (Ok c) (Ok classes) a h (λ k. absurd cc) (λ k. absurd cc) in
    let same : raw_of c ≡ raw_of classes = cc in λ f w lines s. subst (λ z. ClassShown f z w lines) same s
class_reads once text classes h (Err (class.Form line)) a = absurd (refuses once text classes (class.Form line) h a (λ k. absurd cc))
class_reads once text classes h (Err (class.Invalid rule at)) a = absurd (refuses once text classes (class.Invalid rule at) h a (λ k. absurd cc))
class_reads once text classes h (Err class.TooLarge) a = absurd (refuses once text classes class.TooLarge h a (λ k. absurd cc))
class_reads once text classes h (Err class.OutOfMemory) a = tt

pub exec_tells_classes : OneAnswer → OneWorldVerdict → ExecTells
exec_tells_classes one once c r text classes w asks file h world =
    exec_tells once c r text (λ f v lines. ClassShown f (raw_of classes) v lines) w (class_reads one text classes h) asks file h.0.short world

-- what a call wrote, where it wrote a whole text
appended : (old new : Option (List ℕ)) (before bytes text : List ℕ) → old ≡ Some before → new ≡ Some (before ++ bytes) → Appends old new text → bytes ≡ text
appended old new before bytes text e h a =
    append_cancel_left before bytes text (subst (λ z. Appends (Some before) z text) h (subst (λ z. Appends z new text) e a))

wrote : (c : Call) (bytes text : List ℕ) → Writes c bytes → GoesOut c.sink c.sink' text → bytes ≡ text
wrote c bytes text h out = appended c.sink.written c.sink'.written h.before bytes text h.old h.new out.whole

-- no fault has status 0
faultless : {A : Type 0} (c : Call) → c.status ≡ 0 → IsFault c → A
faultless c e (read_fault s f) = let n : ◌≡◌ {A = ℕ} 0 5 = sym e ∙ s in absurd cc
faultless c e (write_fault s f) = let n : ◌≡◌ {A = ℕ} 0 6 = sym e ∙ s in absurd cc
faultless c e (no_memory s) = let n : ◌≡◌ {A = ℕ} 0 7 = sym e ∙ s in absurd cc

pub compiles : ((text : List ℕ) → OneVerdict text) → ((text : List ℕ) (p : Program) (raw : RawTree) → IsPassing text p → Has (program_of p) raw → IsRight (program_of p) raw) → Compiles
compiles one right c name text p asks file pass = by (compiled_or_fault c name text p (one text) asks file pass)
  where
    by : IsCompiled c (program_of p) ⊎ IsFault c → TellsClasses c (program_of p) ⊎ IsFault c
    by (inl x) = inl (record { raw = x.raw; right = right text p x.raw pass x.has; out = x.out; status = x.status })
    by (inr x) = inr x

pub run_tells_program : ((text : List ℕ) → OneVerdict text) → OneWorldVerdict → RunTells
run_tells_program one once c r text p w asks file pass world = run_tells once c r text p w (one text) asks file pass world

pub exec_is_run : ((text : List ℕ) → OneVerdict text) → OneWorldVerdict → CompiledTextShowsProgram → ExecIsRun
exec_is_run one once shows c e name text class_text p r w asks file pass zero wrote_text asks_exec class_file short world =
    by (compiled_or_fault c name text p (one text) asks file pass)
  where
    by : IsCompiled c (program_of p) ⊎ IsFault c → TellsShown e (exec r) (SourceShown r.frames (program_of p) w)
    by (inr x) = faultless c zero x
    by (inl x) =
        let same = wrote c class_text (ClassText x.raw) wrote_text x.out in
        exec_tells once e r class_text (λ f v lines. SourceShown f (program_of p) v lines) w
        (λ answer a. by_program (program_of p) answer
        (shows text p x.raw answer pass.sound pass.light x.has (subst (λ z. length z ≤ CLASS_BYTES) same short) (subst (λ z. ClassAnswer z answer) same a)))
        asks_exec class_file short world

-- The end of a run tells its status.
end_status : (ears : Ears) (e f : RunEnding) → last_line ears e ≡ last_line ears f → run_status e ≡ run_status f
end_status ears (Own Idle) (Own Idle) h = refl
end_status ears (Own Idle) (Own Bound) h = refl
end_status ears (Own Bound) (Own Idle) h = refl
end_status ears (Own Bound) (Own Bound) h = refl
end_status ears (Own Spent) (Own Spent) h = refl
end_status ears (Stopped j) (Stopped k) h = refl
end_status ears (Own Idle) (Own Spent) h = absurd cc
end_status ears (Own Bound) (Own Spent) h = absurd cc
end_status ears (Own Spent) (Own Idle) h = absurd cc
end_status ears (Own Spent) (Own Bound) h = absurd cc
end_status ears (Own Idle) (Stopped k) h = absurd cc
end_status ears (Own Bound) (Stopped k) h = absurd cc
end_status ears (Own Spent) (Stopped k) h = absurd cc
end_status ears (Stopped j) (Own Idle) h = absurd cc
end_status ears (Stopped j) (Own Bound) h = absurd cc
end_status ears (Stopped j) (Own Spent) h = absurd cc

last_same : (ears : Ears) (e f : RunEnding) (lines : List Line) → LastIs (last_line ears e) lines → LastIs (last_line ears f) lines → last_line ears e ≡ last_line ears f
last_same ears e f lines (front, is) (other, also) = (same_from_push front other (last_line ears e) (last_line ears f) (sym is ∙ also)).1

module _ (c d : Call) (ears : Ears) (written other : List ℕ) (h : Writes c written) (k : Writes d other) where
  -- two calls that tell the same lines
  same_told : (lines : List Line) → TellsLines c ears lines → TellsLines d ears lines → (c.status ≡ d.status) × (written ≡ other)
  same_told lines a b = (
    a.status ∙ end_status ears a.ending b.ending (last_same ears a.ending b.ending (Cut ears lines) a.last b.last) ∙ sym b.status,
    wrote c written (bytes_of (Cut ears lines)) h a.out ∙ sym (wrote d other (bytes_of (Cut ears lines)) k b.out),
  )

pub same_bytes : OneShown → SameBytes
same_bytes one c d q o f text p w written other sound range ears a b h k = by a b
  where
    shown : OneTrace (SourceShown f (program_of p) w)
    shown = one text p f w sound range

    by : TellsShown c q (SourceShown f (program_of p) w) → TellsShown d o (SourceShown f (program_of p) w) → ((c.status ≡ d.status) × (written ≡ other)) ⊎ (IsFault c ⊎ IsFault d)
    by (inr x) b = inr (inl x)
    by (inl x) (inr y) = inr (inr y)
    by (inl (ls, x, t)) (inl (ks, y, u)) =
        inl (same_told c d (ears_of c q) written other h k ls t
        (subst (λ z. TellsLines d (ears_of c q) z) (shown.only ks y ∙ sym (shown.only ls x)) (subst (λ z. TellsLines d z ks) (sym ears) u)))

pub exec_writes_as_run : OneShown → ExecIsRun → RunTells → ExecWritesAsRun
exec_writes_as_run one execs runs_as c e d name text class_text p r s w written other asks file pass zero wrote_text asks_exec class_file short world asks_run run_file run_world frames ears h k =
    same_bytes one e d (exec r) (run s) r.frames text p w written other pass.sound world.in_range ears
    (execs c e name text class_text p r w asks file pass zero wrote_text asks_exec class_file short world)
    (subst (λ f. TellsShown d (run s) (SourceShown f (program_of p) w)) (sym frames) (runs_as d s text p w asks_run run_file pass run_world)) h k

-- what the laws on compilation say of the classes of a program
pub record CompilesRight : Type 0 where
  pub valid : CompilesValid
  pub faithful : CompilesFaithfully
  pub traces : TracesPreserved
  pub traces_back : TracesReflected
  pub views : ObservationsPreserved
  pub views_back : ObservationsReflected

pub right_classes : CompilesRight → (text : List ℕ) (p : Program) (raw : RawTree) → IsPassing text p → Has (program_of p) raw → IsRight (program_of p) raw
right_classes laws text p raw pass has =
    let f = laws.faithful text p pass.sound.typed in
    subst (IsRight (program_of p)) (sym has) (record {
      valid = laws.valid text p pass.sound;
      shape = f.shape;
      carries = f.carries;
      traces = λ w lines. laws.traces text p w lines pass.sound.typed;
      traces_back = λ w lines. laws.traces_back text p w lines pass.sound.typed;
      views = λ w lines sights. laws.views text p w lines sights pass.sound.typed;
      views_back = λ w lines sights. laws.views_back text p w lines sights pass.sound.typed;
    })
