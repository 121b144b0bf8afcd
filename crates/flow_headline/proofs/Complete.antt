-- Where all texts pass and no call fails, what is due is told whole, or there was no memory.
use Rattle.std.proofs.Common.{◌≡◌, ℕ, ◌+◌, ◌≤◌, arith, Bool, true, false, true≢false, refl, sym, ap, ◌∙◌, List, [], ◌∷◌, ◌++◌, length, codes, ◌⊎◌, inl, inr, Some, Ok, subst}
use Rattle.flow_gen.specs.Generator.{program_text, generated_world}
use Rattle.flow_tree.specs.declared.limits.TheConstants.{PROGRAM_BYTES}
use Rattle.flow_tree.specs.Canon.{Canon}
use Rattle.flow_class.specs.declared.class.RawClasses.{RawClasses}
use Rattle.flow_class.specs.View.{raw_of}
use Rattle.flow_classprint.specs.ClassText.{ClassText}
use Rattle.flow_classread.specs.ClassAnswer.{ClassAnswer}
use Rattle.flow_classread.specs.declared.read.TheConstants.{CLASS_BYTES}
use Rattle.flow_class_reading_laws.specs.Laws.{OneAnswer as OneClassAnswer}
use Rattle.flow_tree.specs.declared.decl.Program.{Program}
use Rattle.flow_tree.specs.DeclView.{program_of}
use Rattle.flow_worldfile.specs.declared.TheConstants.{WORLD_BYTES}
use Rattle.flow_worldfile.specs.Worlds.{World, seen}
use Rattle.flow_worldfile.specs.Reading.{IsFileOf}
use Rattle.flow_worldfile.specs.Laws.{OneVerdict as OneWorldVerdict}
use Rattle.flow_front.specs.Verdict.{IsProgram}
use Rattle.flow_front.specs.Laws.{OneVerdict}
use Rattle.flow_compile_laws.specs.Frames.Framed.{SourceShown}
use Rattle.flow_words.specs.Asked.{Request, format, check, bench, shrink, debug, upgrade}
use Rattle.flow_top.specs.declared.outcome.Outcome.TheVariants.{Answered, Bench, Shrink, Debug}
use Rattle.flow_top.specs.declared.outcome.Answered.TheVariants.{Passed, Printed, Formatted, LongScript}
use Rattle.flow_top.specs.declared.outcome.ProgramRun.{ProgramRun}
use Rattle.flow_top.specs.Sources.{Source, generated, IsOf}
use Rattle.std.specs.Prelude.{nat_le, if◌then◌else◌}
use Rattle.flow_base.specs.Bytes.{AreFirstOf}
use Rattle.flow_monitor.specs.declared.attach.Want.{Want}
use Rattle.flow_shrink.specs.declared.shrinking.TheConstants.{SCRIPT_LINES}
use Rattle.flow_shrink.specs.declared.shrinking.Shrunk.{Shrunk}
use Rattle.flow_shrink.specs.declared.shrinking.Shrunk.TheVariants.{Least, NotStopped}
use Rattle.flow_shrink.specs.Shrinking as shrinking
use Rattle.flow_shrink.proofs.Removing.{script_length}
use Rattle.flow_view_laws.specs.Skipped.{IsView}
use Rattle.flow_top.specs.Requests.{request_by, panel_for}
use Rattle.flow_top.specs.Told.{GoesOut}
use Rattle.flow_top.specs.Shrunk.{shrunk_text, shrunk_status}
use Rattle.flow_top.specs.Outcomes.{IsPassing, run_for}
use Rattle.flow_top.specs.Due.{DueBy, IsRunFor}
use Rattle.flow_headline.specs.Calls.{Call, AsksFor, HasFile, HasWorld, ears_of, IsFault, read_fault, write_fault, no_memory}
use Rattle.flow_headline.specs.Laws.{Compiles, RunTells, ExecTells}
use Rattle.flow_headline.specs.Complete.{NoFault, formats, checks, compiles, runs, execs, benches, shrinks, debugs, upgrades, TellsView, ProgramStops, TellsShrunk, least, not_stopped, TellsText, TellsSummary, Complete}
use Rattle.flow_headline.proofs.Deciding.{IsTold, IsSummed, IsShrunk, IsStateTold, DueFor, first, behind, text_is, told_of, bench_of, shrunk_of, state_of, comes}
use Rattle.flow_headline.proofs.Judging.{format_due, check_due, upgrade_due, bench_due, bench_shows, shrink_due, shrink_shows, debug_due, debug_shows}
use Rattle.flow_headline.proofs.Telling.{due_in, first_of}

-- without a fault of files or sink there was no memory
only_memory : (c : Call) → NoFault c → IsFault c → c.status ≡ 7
only_memory c n (read_fault s f) = absurd (n.files f)
only_memory c n (write_fault s f) = absurd (n.sink f)
only_memory c n (no_memory s) = s

unfailing : {A : Type 0} (c : Call) → NoFault c → A ⊎ IsFault c → A ⊎ (c.status ≡ 7)
unfailing c n (inl x) = inl x
unfailing c n (inr x) = inr (only_memory c n x)

format_done : (c : Call) (name text : List ℕ) (p : Program) → OneVerdict text → AsksFor c (format name) → HasFile c name text → IsProgram text p
    → TellsText c (Canon (program_of p)) ⊎ IsFault c
format_done c name text p one asks file is = by (comes c (format name) asks)
  where
    told_by : (q : Program) → program_of q ≡ program_of p → IsTold (Formatted q) c.sink c.sink' c.status ⊎ IsFault c → TellsText c (Canon (program_of p)) ⊎ IsFault c
    told_by q same (inl x) = subst (λ t. TellsText c (Canon t) ⊎ IsFault c) same (inl (x.out, x.status))
    told_by q same (inr x) = inr x

    by : DueFor c.files.content (format name) c.answers.outcome ⊎ IsFault c → TellsText c (Canon (program_of p)) ⊎ IsFault c
    by (inr x) = inr x
    by (inl (behind t u s of from also a b d)) = absurd cc
    by (inl (first t of a d)) =
        let same = text_is (c.files.content name) PROGRAM_BYTES t text file is.has.short a.0 in
        let x = format_due text one p is name c.answers.outcome (subst (λ z. DueBy z (format name) c.answers.outcome) same d) in
        told_by x.0 x.2 (told_of c (Formatted x.0) x.1)

check_done : (c : Call) (name text : List ℕ) (p : Program) → OneVerdict text → AsksFor c (check name) → HasFile c name text → IsPassing text p
    → TellsText c (codes "ok" ++ 10 ∷ []) ⊎ IsFault c
check_done c name text p one asks file pass = by (comes c (check name) asks)
  where
    told_by : IsTold Passed c.sink c.sink' c.status ⊎ IsFault c → TellsText c (codes "ok" ++ 10 ∷ []) ⊎ IsFault c
    told_by (inl x) = inl (x.out, x.status)
    told_by (inr x) = inr x

    by : DueFor c.files.content (check name) c.answers.outcome ⊎ IsFault c → TellsText c (codes "ok" ++ 10 ∷ []) ⊎ IsFault c
    by (inr x) = inr x
    by (inl (behind t u s of from also a b d)) = absurd cc
    by (inl (first t of a d)) =
        let same = text_is (c.files.content name) PROGRAM_BYTES t text file pass.sound.typed.read.has.short a.0 in
        told_by (told_of c Passed (check_due text one p pass name c.answers.outcome (subst (λ z. DueBy z (check name) c.answers.outcome) same d)))

upgrade_done : (c : Call) (name text : List ℕ) (classes : RawClasses) → OneClassAnswer → AsksFor c (upgrade name) → HasFile c name text → ClassAnswer text (Ok classes)
    → TellsText c (ClassText (raw_of classes)) ⊎ IsFault c
upgrade_done c name text classes one asks file is = by (comes c (upgrade name) asks)
  where
    told_by : (d : RawClasses) → raw_of d ≡ raw_of classes → IsTold (Printed d) c.sink c.sink' c.status ⊎ IsFault c → TellsText c (ClassText (raw_of classes)) ⊎ IsFault c
    told_by d same (inl x) = subst (λ t. TellsText c (ClassText t) ⊎ IsFault c) same (inl (x.out, x.status))
    told_by d same (inr x) = inr x

    by : DueFor c.files.content (upgrade name) c.answers.outcome ⊎ IsFault c → TellsText c (ClassText (raw_of classes)) ⊎ IsFault c
    by (inr x) = inr x
    by (inl (behind t u s of from also a b d)) = absurd cc
    by (inl (first t of a d)) =
        let same = text_is (c.files.content name) CLASS_BYTES t text file is.0.short a.0 in
        let x = upgrade_due text one classes is name c.answers.outcome (subst (λ z. DueBy z (upgrade name) c.answers.outcome) same d) in
        told_by x.0 x.2 (told_of c (Printed x.0) x.1)

-- the text of a generated source
own_text : (own : List ℕ) (s : Source) (text : List ℕ) → Some (generated own) ≡ Some s → IsOf s text → text ≡ own
own_text own s text e h = subst (λ z. IsOf z text) (same e) h
  where
    same : {x y : Source} → Some x ≡ Some y → y ≡ x
    same k = cc

module _ (c : Call) (clients seed : ℕ) (p : Program) (w : World) (one : OneVerdict (program_text clients)) (once : OneWorldVerdict) (asks : AsksFor c (bench clients seed))
    (pass : IsPassing (program_text clients) p) (short : length (generated_world seed) ≤ WORLD_BYTES) (is : IsFileOf (generated_world seed) w) where
  abbrev Summed : Type 0
  Summed = TellsSummary c clients seed (SourceShown false (program_of p) w) ⊎ IsFault c

  bench_tells : (m : ProgramRun) → c.answers.outcome ≡ Bench (record { run = m; clients = clients; seed = seed }) → m.frames ≡ false → seen m.world ≡ w
      → IsRunFor (program_text clients) (bench clients seed) m.meant m.classes → Summed
  bench_tells m e frames at run = by (bench_of c (record { run = m; clients = clients; seed = seed }) e)
    where
      by : IsSummed (record { run = m; clients = clients; seed = seed }) c.sink c.sink' c.status ⊎ IsFault c → Summed
      by (inr x) = inr x
      by (inl x) =
          let shown = bench_shows (program_text clients) one p pass clients seed m.meant m.classes run.is_run run.is_meant m.frames m.world x.lines x.shown in
          inl (record {
            lines = x.lines;
            is = subst (λ z. SourceShown false (program_of p) z x.lines) at (subst (λ z. SourceShown z (program_of p) (seen m.world) x.lines) frames shown);
            ending = x.ending;
            last = x.last;
            out = x.out;
            status = x.status;
          })

  bench_done : Summed
  bench_done = by (comes c (bench clients seed) asks)
    where
      by : DueFor c.files.content (bench clients seed) c.answers.outcome ⊎ IsFault c → Summed
      by (inr x) = inr x
      by (inl (first t of a d)) = bench_due (program_text clients) one p pass clients seed c.answers.outcome (subst (λ z. DueBy z (bench clients seed) c.answers.outcome) of d)
      by (inl (behind t u s of from also a b d)) =
          due_in once (bench clients seed) w (generated_world seed) short is t u c.answers.outcome (own_text (generated_world seed) s u from also) d
          (λ m run e at frames. bench_tells m e frames at (subst (λ z. IsRunFor z (bench clients seed) m.meant m.classes) of run))

-- a script with few enough lines
few_lines : (b : Bool) (m : ProgramRun) → b ≡ true → (if b then Shrink m else Answered LongScript) ≡ Shrink m
few_lines true m e = refl
few_lines false m e = absurd (true≢false (sym e))

few : (n k : ℕ) → n ≤ k → nat_le n k ≡ true
few n k le = grind arith

module _ (c : Call) (program world : List ℕ) (want : Want) (text : List ℕ) (p : Program) (w : World) (one : OneVerdict text) (once : OneWorldVerdict)
    (asks : AsksFor c (shrink program world want)) (file : HasFile c program text) (pass : IsPassing text p) (there : HasWorld c world w) (short : length w.script ≤ SCRIPT_LINES) where
  abbrev q : Request
  q = shrink program world want

  abbrev Shrinks : Type 0
  Shrinks = TellsShrunk c (program_of p) (ears_of c q) w ⊎ IsFault c

  told_shrunk : (x : Shrunk) → shrinking.Shrinks (ProgramStops (program_of p) (ears_of c q)) w x → GoesOut c.sink c.sink' (shrunk_text x) → c.status ≡ shrunk_status x
      → TellsShrunk c (program_of p) (ears_of c q) w
  told_shrunk (Least v) h out status = least (seen v) h.0 h.1 out status
  told_shrunk NotStopped h out status = not_stopped h out status

  shrink_tells : (m : ProgramRun) → c.answers.outcome ≡ Shrink m → seen m.world ≡ w → IsRunFor text q m.meant m.classes → Shrinks
  shrink_tells m e at run = by (shrunk_of c m e)
    where
      by : IsShrunk m (panel_for (request_by c.words c.handed) c.handed) c.sink c.sink' c.status ⊎ IsFault c → Shrinks
      by (inr x) = inr x
      by (inl x) =
          let ears = ap (λ z. panel_for z c.handed) asks in
          let shown = shrink_shows text one p pass program world want m.meant m.classes run.is_run run.is_meant _ (seen m.world) x.came_to x.shrinks in
          let here = subst (λ v. shrinking.Shrinks (ProgramStops (program_of p) (ears_of c q)) v x.came_to) at
          (subst (λ z. shrinking.Shrinks (ProgramStops (program_of p) z) (seen m.world) x.came_to) ears shown) in
          inl (told_shrunk x.came_to here x.out x.status)

  shrink_runs : (m : ProgramRun) → c.answers.outcome ≡ run_for q m → seen m.world ≡ w → IsRunFor text q m.meant m.classes → Shrinks
  shrink_runs m e at run =
      let long : m.world.script.len ≡ length w.script = sym (script_length m.world) ∙ ap (λ (v : World). length v.script) at in
      let le : m.world.script.len ≤ SCRIPT_LINES = subst (λ n. n ≤ SCRIPT_LINES) (sym long) short in
      shrink_tells m (e ∙ few_lines (nat_le m.world.script.len SCRIPT_LINES) m (few m.world.script.len SCRIPT_LINES le)) at run

  shrink_done : Shrinks
  shrink_done = by (comes c q asks)
    where
      is_text : (t : List ℕ) → AreFirstOf (PROGRAM_BYTES + 1) (c.files.content program) t → t ≡ text
      is_text t a = text_is (c.files.content program) PROGRAM_BYTES t text file pass.sound.typed.read.has.short a

      by : DueFor c.files.content q c.answers.outcome ⊎ IsFault c → Shrinks
      by (inr x) = inr x
      by (inl (first t of a d)) = shrink_due text one p pass program world want c.answers.outcome (subst (λ z. DueBy z q c.answers.outcome) (is_text t a.0) d)
      by (inl (behind t u s of from also a b d)) =
          due_in once q w there.text there.short there.is t u c.answers.outcome
          (text_is (c.files.content world) WORLD_BYTES u there.text there.file there.short (first_of c.files.content world WORLD_BYTES s u from b)) d
          (λ m run e at frames. shrink_runs m e at (subst (λ z. IsRunFor z q m.meant m.classes) (is_text t a.0) run))

module _ (c : Call) (program world : List ℕ) (most : ℕ) (text : List ℕ) (p : Program) (w : World) (one : OneVerdict text) (once : OneWorldVerdict)
    (asks : AsksFor c (debug program world most)) (file : HasFile c program text) (pass : IsPassing text p) (there : HasWorld c world w) where
  abbrev wanted : Request
  wanted = debug program world most

  abbrev Views : Type 0
  Views = TellsView c (program_of p) w most ⊎ IsFault c

  view_tells : (m : ProgramRun) → c.answers.outcome ≡ Debug (record { run = m; most = most }) → seen m.world ≡ w → IsRunFor text wanted m.meant m.classes → Views
  view_tells m e at run = by (state_of c (record { run = m; most = most }) e)
    where
      by : IsStateTold (record { run = m; most = most }) c.sink c.sink' c.status ⊎ IsFault c → Views
      by (inr x) = inr x
      by (inl x) =
          let shown = debug_shows text one p pass program world most m.meant m.classes run.is_run run.is_meant (seen m.world) x.text x.status_due x.view in
          inl (record {
            text = x.text;
            status_due = x.status_due;
            view = subst (λ v. IsView (program_of p) v most x.text x.status_due) at shown;
            out = x.out;
            status = x.status;
          })

  debug_done : Views
  debug_done = by (comes c wanted asks)
    where
      is_text : (t : List ℕ) → AreFirstOf (PROGRAM_BYTES + 1) (c.files.content program) t → t ≡ text
      is_text t a = text_is (c.files.content program) PROGRAM_BYTES t text file pass.sound.typed.read.has.short a

      by : DueFor c.files.content wanted c.answers.outcome ⊎ IsFault c → Views
      by (inr x) = inr x
      by (inl (first t of a d)) = debug_due text one p pass program world most c.answers.outcome (subst (λ z. DueBy z wanted c.answers.outcome) (is_text t a.0) d)
      by (inl (behind t u s of from also a b d)) =
          due_in once wanted w there.text there.short there.is t u c.answers.outcome
          (text_is (c.files.content world) WORLD_BYTES u there.text there.file there.short (first_of c.files.content world WORLD_BYTES s u from b)) d
          (λ m run e at frames. view_tells m e at (subst (λ z. IsRunFor z wanted m.meant m.classes) (is_text t a.0) run))

pub complete : ((text : List ℕ) → OneVerdict text) → OneWorldVerdict → OneClassAnswer → Compiles → RunTells → ExecTells → Complete
complete one once class_answer compiles_law run_law exec_law c _ (formats name text p file is) asks n = unfailing c n (format_done c name text p (one text) asks file is)
complete one once class_answer compiles_law run_law exec_law c _ (checks name text p file pass) asks n = unfailing c n (check_done c name text p (one text) asks file pass)
complete one once class_answer compiles_law run_law exec_law c _ (compiles name text p file pass) asks n = unfailing c n (compiles_law c name text p asks file pass)
complete one once class_answer compiles_law run_law exec_law c _ (runs r text p w file pass world) asks n = unfailing c n (run_law c r text p w asks file pass world)
complete one once class_answer compiles_law run_law exec_law c _ (execs r text classes w file read world) asks n = unfailing c n (exec_law c r text classes w asks file read world)
complete one once class_answer compiles_law run_law exec_law c _ (benches clients seed p w pass short is) asks n =
    unfailing c n (bench_done c clients seed p w (one (program_text clients)) once asks pass short is)
complete one once class_answer compiles_law run_law exec_law c _ (shrinks program world want text p w file pass there short) asks n =
    unfailing c n (shrink_done c program world want text p w (one text) once asks file pass there short)
complete one once class_answer compiles_law run_law exec_law c _ (debugs program world most text p w file pass there) asks n =
    unfailing c n (debug_done c program world most text p w (one text) once asks file pass there)
complete one once class_answer compiles_law run_law exec_law c _ (upgrades name text classes file read) asks n = unfailing c n (upgrade_done c name text classes class_answer asks file read)
