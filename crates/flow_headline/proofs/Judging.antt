-- What is due of a program text that passes, of its class text, and of a world file in range.
use Rattle.std.proofs.Common.{◌≡◌, ◌≢◌, ℕ, ◌≤◌, Bool, List, length, Result, Ok, Err, refl, sym, ap, ◌∙◌, subst, Some, None, arith}
use Rattle.flow_tree.specs.declared.decl.Program.{Program}
use Rattle.flow_tree.specs.Decls.{ProgramTree}
use Rattle.flow_tree.specs.DeclView.{program_of}
use Rattle.flow_trace.specs.declared.line.Line.{Line}
use Rattle.flow_worldfile.specs.declared.TheConstants.{WORLD_BYTES}
use Rattle.flow_worldfile.specs.declared.world.World0.{World0}
use Rattle.flow_worldfile.specs.declared.world.WorldFault.{WorldFault}
use Rattle.flow_worldfile.specs.declared.world.WorldFault.TheVariants as world
use Rattle.flow_worldfile.specs.Worlds.{World, said, world_of, seen}
use Rattle.flow_worldfile.specs.Reading as reading
use Rattle.flow_worldfile.specs.Laws.{OneVerdict as OneWorldVerdict}
use Rattle.flow_class.specs.declared.class.RawClasses.{RawClasses}
use Rattle.flow_class.specs.View.{raw_of}
use Rattle.flow_classread.specs.declared.fault.ClassFault.{ClassFault}
use Rattle.flow_classread.specs.declared.fault.ClassFault.TheVariants as class
use Rattle.flow_classread.specs.ClassAnswer.{ClassAnswer}
use Rattle.flow_front.specs.Verdict.{IsProgram}
use Rattle.flow_front.specs.Laws.{OneVerdict}
use Rattle.flow_lower.specs.Weighing.{first_heavy}
use Rattle.flow_lower.specs.Compiled.{Has}
use Rattle.flow_compile_laws.specs.Frames.Framed.{SourceShown, ClassShown}
use Rattle.flow_words.specs.Asked.{RunRequest, format, check, compile, run, exec, bench, shrink, debug, upgrade}
use Rattle.flow_top.specs.declared.outcome.Outcome.{Outcome}
use Rattle.flow_top.specs.declared.outcome.Outcome.TheVariants.{Answered}
use Rattle.flow_top.specs.declared.outcome.Answered as told
use Rattle.flow_top.specs.declared.outcome.Answered.TheVariants.{Passed, Printed, Formatted}
use Rattle.flow_top.specs.declared.outcome.Meant.{Meant}
use Rattle.flow_top.specs.Outcomes.{IsPassing, IsRunBy, of_program, of_class_text, IsMeantBy, ShownBy}
use Rattle.flow_top.specs.Due.{IsRefusedBy, by_rule, lost_local, heavy, DueBy, unread, formatted, refused, passed, compiled, no_classes, upgraded}
use Rattle.flow_monitor.specs.declared.attach.Want.{Want}
use Rattle.flow_monitor.specs.Ears.{Ears}
use Rattle.flow_shrink.specs.declared.shrinking.Shrunk.{Shrunk}
use Rattle.flow_shrink.specs.Shrinking.{Shrinks}
use Rattle.flow_view_laws.specs.Skipped.{IsView}
use Rattle.flow_top.specs.Debugged.{IsViewBy}
use Rattle.flow_top.specs.Shrunk.{IsStoppedBy}
use Rattle.flow_class_reading_laws.specs.Laws.{OneAnswer as OneClassAnswer}
use Rattle.flow_top.proofs.OneAnswer.{read_or_refused, classes_once}
use Rattle.flow_headline.specs.Complete.{ProgramStops}
use Rattle.flow_headline.specs.ReadBack.{IsReadAsProgram}

-- a text that passes
module _ (text : List ℕ) (one : OneVerdict text) (p : Program) (pass : IsPassing text p) where
  same_program : (q : Program) → IsPassing text q → program_of q ≡ program_of p
  same_program q other = one.program q p other.sound.typed.read pass.sound.typed.read

  pub unrefused : {A : Type 0} (a : told.Answered) → IsRefusedBy text a → A
  unrefused _ (by_rule rule at r) = absurd (one.typed_or_refused p rule at pass.sound.typed r)
  unrefused _ (lost_local q l r) = absurd (one.sound_or_lost p q l pass.sound r)
  unrefused _ (heavy q at s h) =
      let e : Some at ≡ None = sym h ∙ (ap (λ (x : ProgramTree). first_heavy x.decls) (one.program q p s.typed.read pass.sound.typed.read) ∙ pass.light) in absurd cc

  pub compile_due : (name : List ℕ) (o : Outcome) → DueBy text (compile name) o → (classes : RawClasses) × (o ≡ Answered (Printed classes)) × Has (program_of p) (raw_of classes)
  compile_due name _ (refused q a has r) = unrefused a r
  compile_due name _ (no_classes q fault has a n) = absurd has
  compile_due name _ (compiled n q classes other has) = (classes, refl, subst (λ t. Has t (raw_of classes)) (same_program q other) has)

  pub check_due : (name : List ℕ) (o : Outcome) → DueBy text (check name) o → o ≡ Answered Passed
  check_due name _ (refused q a has r) = unrefused a r
  check_due name _ (no_classes q fault has a n) = absurd has
  check_due name _ (passed n q other) = refl

  pub bench_due : {A : Type 0} (clients seed : ℕ) (o : Outcome) → DueBy text (bench clients seed) o → A
  bench_due clients seed _ (refused q a has r) = unrefused a r
  bench_due clients seed _ (no_classes q fault has a n) = absurd has

  pub shrink_due : {A : Type 0} (program world : List ℕ) (want : Want) (o : Outcome) → DueBy text (shrink program world want) o → A
  shrink_due program world want _ (refused q a has r) = unrefused a r
  shrink_due program world want _ (no_classes q fault has a n) = absurd has

  -- what the program is stopped in is what the run of its classes is stopped in
  pub shrink_shows : (program world : List ℕ) (want : Want) (meant : Meant) (classes : RawClasses) → IsRunBy text meant classes → IsMeantBy (shrink program world want) meant
      → (ears : Ears) (w : World) (x : Shrunk) → Shrinks (IsStoppedBy meant classes ears) w x → Shrinks (ProgramStops (program_of p) ears) w x
  shrink_shows program world want _ _ (of_program q classes other has) m ears w x s = subst (λ t. Shrinks (ProgramStops t ears) w x) (same_program q.value other) s
  shrink_shows program world want _ _ (of_class_text classes a) m ears w x s = absurd m

  pub debug_due : {A : Type 0} (program world : List ℕ) (most : ℕ) (o : Outcome) → DueBy text (debug program world most) o → A
  debug_due program world most _ (refused q a has r) = unrefused a r
  debug_due program world most _ (no_classes q fault has a n) = absurd has

  -- the view of the program that is run is that of the text's
  pub debug_shows : (program world : List ℕ) (most : ℕ) (meant : Meant) (classes : RawClasses) → IsRunBy text meant classes → IsMeantBy (debug program world most) meant
      → (w : World) (view : List ℕ) (status : ℕ) → IsViewBy meant w most view status → IsView (program_of p) w most view status
  debug_shows program world most _ _ (of_program q classes other has) m w view status s = subst (λ t. IsView t w most view status) (same_program q.value other) s
  debug_shows program world most _ _ (of_class_text classes a) m w view status s = absurd m

  pub run_due : {A : Type 0} (r : RunRequest) (o : Outcome) → DueBy text (run r) o → A
  run_due r _ (refused q a has b) = unrefused a b
  run_due r _ (no_classes q fault has a n) = absurd has

  pub bench_shows : (clients seed : ℕ) (meant : Meant) (classes : RawClasses) → IsRunBy text meant classes → IsMeantBy (bench clients seed) meant
      → (frames : Bool) (w : World0) (lines : List Line) → ShownBy meant frames classes w lines → SourceShown frames (program_of p) (seen w) lines
  bench_shows clients seed _ _ (of_program q classes other has) m frames w lines s = subst (λ t. SourceShown frames t (seen w) lines) (same_program q.value other) s
  bench_shows clients seed _ _ (of_class_text classes a) m frames w lines s = absurd m

  pub run_shows : (r : RunRequest) (meant : Meant) (classes : RawClasses) → IsRunBy text meant classes → IsMeantBy (run r) meant
      → (frames : Bool) (w : World0) (lines : List Line) → ShownBy meant frames classes w lines → SourceShown frames (program_of p) (seen w) lines
  run_shows r _ _ (of_program q classes other has) m frames w lines s = subst (λ t. SourceShown frames t (seen w) lines) (same_program q.value other) s
  run_shows r _ _ (of_class_text classes a) m frames w lines s = absurd m

-- a text that is a program
pub format_due : (text : List ℕ) (one : OneVerdict text) (p : Program) (is : IsProgram text p) (name : List ℕ) (o : Outcome) → DueBy text (format name) o
    → (q : Program) × (o ≡ Answered (Formatted q)) × (program_of q ≡ program_of p)
format_due text one p is name _ (unread n rule at u) = absurd (one.read_or_unread p rule at is u)
format_due text one p is name _ (formatted n q other) = (q, refl, one.program q p other is)
format_due text one p is name _ (refused q a has r) = absurd has
format_due text one p is name _ (no_classes q fault has a n) = absurd has

-- a class text that is read
pub upgrade_due : (text : List ℕ) (one : OneClassAnswer) (c : RawClasses) (is : ClassAnswer text (Ok c)) (name : List ℕ) (o : Outcome) → DueBy text (upgrade name) o
    → (d : RawClasses) × (o ≡ Answered (Printed d)) × (raw_of d ≡ raw_of c)
upgrade_due text one c is name _ (refused q a has r) = absurd has
upgrade_due text one c is name _ (no_classes q fault has a n) = absurd (read_or_refused one text fault c a is n)
upgrade_due text one c is name _ (upgraded n d other) = (d, refl, classes_once one text d c other is)

-- a class text is read as classes of which such lines are shown, and as nothing else
abbrev pub IsReadAs : (Shown : Bool → World → List Line → Type 0) → Result RawClasses ClassFault → Type 0
IsReadAs Shown (Ok c) = (frames : Bool) (w : World) (lines : List Line) → ClassShown frames (raw_of c) w lines → Shown frames w lines
IsReadAs Shown (Err class.OutOfMemory) = Unit {0}
IsReadAs Shown (Err _) = ⊥

pub by_program : (p : ProgramTree) (answer : Result RawClasses ClassFault) → IsReadAsProgram p answer → IsReadAs (λ f w lines. SourceShown f p w lines) answer
by_program p (Ok c) h = h.of_classes
by_program p (Err (class.Form line)) h = absurd h
by_program p (Err (class.Invalid rule at)) h = absurd h
by_program p (Err class.TooLarge) h = absurd h
by_program p (Err class.OutOfMemory) h = tt

module _ (text : List ℕ) (Shown : Bool → World → List Line → Type 0) (reads : (answer : Result RawClasses ClassFault) → ClassAnswer text answer → IsReadAs Shown answer) where
  no_fault : {A : Type 0} (fault : ClassFault) → IsReadAs Shown (Err fault) → fault ≢ class.OutOfMemory → A
  no_fault (class.Form line) h n = absurd h
  no_fault (class.Invalid rule at) h n = absurd h
  no_fault class.TooLarge h n = absurd h
  no_fault class.OutOfMemory h n = absurd (n refl)

  pub exec_due : {A : Type 0} (r : RunRequest) (o : Outcome) → DueBy text (exec r) o → A
  exec_due r _ (refused q a has b) = absurd has
  exec_due r _ (no_classes s fault has a n) = no_fault fault (reads (Err fault) a) n

  pub exec_shows : (r : RunRequest) (meant : Meant) (classes : RawClasses) → IsRunBy text meant classes → IsMeantBy (exec r) meant
      → (frames : Bool) (w : World0) (lines : List Line) → ShownBy meant frames classes w lines → Shown frames (seen w) lines
  exec_shows r _ _ (of_program q classes other has) m frames w lines s = absurd m
  exec_shows r _ _ (of_class_text classes a) m frames w lines s = reads (Ok classes) a frames (seen w) lines s

-- a world file
module _ (once : OneWorldVerdict) (text : List ℕ) (w : World) (short : length text ≤ WORLD_BYTES) (is : reading.IsFileOf text w) where
  pub same_world : (v : World) → reading.IsFileOf text v → v ≡ w
  same_world v (es, there, says) =
      let same : reading.accepted es ≡ reading.accepted is.0 = once text (reading.accepted es) (reading.accepted is.0) there is.1 in
      let lines_same : es ≡ is.0 = cc in
      says ∙ ap (λ l. world_of (said l)) lines_same ∙ sym is.2

  not_refused : {A : Type 0} (k : ℕ) (rule : reading.Rule) → reading.IsRefused text k rule → A
  not_refused k rule r = let e : reading.accepted is.0 ≡ reading.refused k rule = once text (reading.accepted is.0) (reading.refused k rule) is.1 r.1 in absurd cc

  pub world_unrefused : {A : Type 0} (fault : WorldFault) → reading.ReadsWorld text (Err fault) → fault ≢ world.OutOfMemory → A
  world_unrefused (world.Form k) r n = not_refused k _ r
  world_unrefused (world.Range k) r n = not_refused k _ r
  world_unrefused (world.Twice k) r n = not_refused k _ r
  world_unrefused (world.NoProcess k) r n = not_refused k _ r
  world_unrefused world.TooLarge r n = absurd (omega (arith, short, r))
  world_unrefused world.OutOfMemory r n = absurd (n refl)
