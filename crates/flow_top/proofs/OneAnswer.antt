-- What is due by a request is one outcome, over files that tell.
use Rattle.std.proofs.Common.{◌≡◌, ◌≢◌, ℕ, Bool, true, false, true≢false, ◌+◌, ◌<◌, List, ◌++◌, length, refl, sym, ap, ap₂, ◌∙◌, subst, arith, Option, Some, None, Result, Ok, Err}
use Rattle.flow_base.specs.declared.place.Place.{Place}
use Rattle.flow_base.specs.Bytes.{AreFirstOf}
use Rattle.flow_base.specs.Seen.{Content, Untold, Missing, Bytes}
use Rattle.flow_tree.specs.declared.decl.Program.{Program}
use Rattle.flow_tree.specs.declared.fault.Rule.{Rule}
use Rattle.flow_tree.specs.declared.fault.SourceFault.TheVariants as source
use Rattle.flow_tree.specs.Decls.{ProgramTree}
use Rattle.flow_tree.specs.DeclView.{program_of}
use Rattle.flow_tree.specs.Canon.{Canon}
use Rattle.flow_worldfile.specs.declared.TheConstants.{WORLD_BYTES}
use Rattle.flow_worldfile.specs.declared.world.World0.{World0}
use Rattle.flow_worldfile.specs.declared.world.WorldFault.{WorldFault}
use Rattle.flow_worldfile.specs.declared.world.WorldFault.TheVariants as world
use Rattle.flow_worldfile.specs.Worlds.{World, said, world_of, seen}
use Rattle.flow_worldfile.specs.Reading as reading
use Rattle.flow_worldfile.specs.Laws.{OneVerdict as OneWorldVerdict}
use Rattle.flow_class.specs.declared.class.RawClasses.{RawClasses}
use Rattle.flow_class.specs.Classes.{RawTree}
use Rattle.flow_class.specs.View.{raw_of}
use Rattle.flow_classprint.specs.ClassText.{ClassText}
use Rattle.flow_classread.specs.declared.fault.ClassFault.{ClassFault}
use Rattle.flow_classread.specs.declared.fault.ClassFault.TheVariants as class
use Rattle.flow_classread.specs.ClassAnswer.{ClassAnswer}
use Rattle.flow_class_reading_laws.specs.Laws.{OneAnswer as OneClassAnswer}
use Rattle.flow_staterule.specs.declared.rule.Lost.{Lost}
use Rattle.flow_front.specs.Verdict.{IsRefused, IsSound, IsLost}
use Rattle.flow_front.specs.Laws.{OneVerdict}
use Rattle.flow_lower.specs.Weighing.{first_heavy}
use Rattle.flow_lower.specs.Compiled.{Has, compiled as compiled_tree}
use Rattle.flow_words.specs.Asked.{Request, format, check, compile, run, exec, bench, shrink, debug, upgrade}
use Rattle.flow_top.specs.declared.outcome.Outcome.{Outcome}
use Rattle.flow_top.specs.declared.outcome.Outcome.TheVariants.{Answered, Shrink}
use Rattle.flow_top.specs.declared.outcome.ProgramRun.{ProgramRun}
use Rattle.flow_top.specs.declared.outcome.Meant.{Meant}
use Rattle.flow_top.specs.declared.outcome.Meant.TheVariants.{Text, Classes}
use Rattle.flow_top.specs.declared.outcome.Answered as told
use Rattle.flow_top.specs.declared.outcome.Answered.TheVariants.{Refused, NoClasses, NoWorld, LongScript}
use Rattle.flow_top.specs.Sources.{Source, of_file, generated, first_source, FileText, read_for, IsOf, AreTexts}
use Rattle.flow_top.specs.Outcomes.{heavy_outcome, text_of, status_of, IsPassing, IsRunBy, of_program, of_class_text, IsMeantBy, run_for}
use Rattle.flow_top.specs.Due.{IsRefusedBy, by_rule, lost_local, heavy, HasProgram, HasClassText, DueBy, unread, formatted, refused, passed, compiled, no_classes, upgraded, DueIn, no_world, runs, Due, usage, by_text, in_world}
use Rattle.flow_top.specs.OneAnswer.{TellsAll, SameMeant, SameRun, SameOutcome, OneAnswer}
use Rattle.std.specs.Prelude.{nat_le, if◌then◌else◌}
use Rattle.flow_shrink.specs.declared.shrinking.TheConstants.{SCRIPT_LINES}
use Rattle.flow_shrink.proofs.Removing.{script_length}
use Rattle.flow_top.proofs.Missing.{texts_first, texts_behind}

-- The texts of sources over files that tell: one for each.
same_text : (n : ℕ) (content : Content) (t u : List ℕ) → content ≢ Untold → AreFirstOf n content t → AreFirstOf n content u → t ≡ u
same_text n Untold t u tells a b = absurd (tells refl)
same_text n Missing t u tells a b = absurd (a.0 refl)
same_text n (Bytes bytes) t u tells a b = a.1 ∙ sym b.1

same_of : (content : List ℕ → Content) → TellsAll content → (s : Source) (t u : List ℕ) → IsOf s t → IsOf s u → AreTexts content (read_for s t) → AreTexts content (read_for s u) → t ≡ u
same_of content tells (of_file name most) t u a b x y = same_text (most + 1) (content name) t u (tells name) x.0 y.0
same_of content tells (generated own) t u a b x y = a ∙ sym b

-- How a text is judged that a command judges.
data Verdict : Type 0 where
  refuses : Rule → Place → Verdict
  loses : Lost → Verdict
  weighs : Place → Verdict
  passes : Verdict

data Judged (text : List ℕ) : Verdict → Type 0 where
  is_refused : (rule : Rule) (at : Place) → IsRefused text rule at → Judged text (refuses rule at)
  is_lost : (l : Lost) (p : Program) → IsLost text p l → Judged text (loses l)
  is_heavy : (at : Place) (p : Program) → IsSound text p → first_heavy (program_of p).decls ≡ Some at → Judged text (weighs at)
  is_passing : (p : Program) → IsPassing text p → Judged text passes

module _ (text : List ℕ) (one : OneVerdict text) where
  same_weight : (p q : Program) → IsSound text p → IsSound text q → first_heavy (program_of p).decls ≡ first_heavy (program_of q).decls
  same_weight p q s t = ap (λ (x : ProgramTree). first_heavy x.decls) (one.program p q s.typed.read t.typed.read)

  sound_refused : {A : Type 0} (p : Program) (rule : Rule) (at : Place) → IsSound text p → IsRefused text rule at → A
  sound_refused p rule at s r = absurd (one.typed_or_refused p rule at s.typed r)

  lost_refused : {A : Type 0} (p : Program) (l : Lost) (rule : Rule) (at : Place) → IsLost text p l → IsRefused text rule at → A
  lost_refused p l rule at s r = absurd (one.typed_or_refused p rule at s.typed r)

  sound_lost : {A : Type 0} (p q : Program) (l : Lost) → IsSound text p → IsLost text q l → A
  sound_lost p q l s t = absurd (one.sound_or_lost p q l s t)

  heavy_passing : {A : Type 0} (p q : Program) (at : Place) → IsSound text p → first_heavy (program_of p).decls ≡ Some at → IsPassing text q → A
  heavy_passing p q at s h t = let e : Some at ≡ None = sym h ∙ (same_weight p q s t.sound ∙ t.light) in cc

  judged_once : {v w : Verdict} → Judged text v → Judged text w → v ≡ w
  judged_once (is_refused rule at r) (is_refused other place s) = let e = one.refusal rule other at place r s in ap₂ refuses e.0 e.1
  judged_once (is_refused rule at r) (is_lost l q t) = lost_refused q l rule at t r
  judged_once (is_refused rule at r) (is_heavy place q t k) = sound_refused q rule at t r
  judged_once (is_refused rule at r) (is_passing q t) = sound_refused q rule at t.sound r
  judged_once (is_lost l p s) (is_refused rule at r) = lost_refused p l rule at s r
  judged_once (is_lost l p s) (is_lost m q t) = ap loses (one.lost p q l m s t)
  judged_once (is_lost l p s) (is_heavy place q t k) = sound_lost q p l t s
  judged_once (is_lost l p s) (is_passing q t) = sound_lost q p l t.sound s
  judged_once (is_heavy at p s h) (is_refused rule place r) = sound_refused p rule place s r
  judged_once (is_heavy at p s h) (is_lost l q t) = sound_lost p q l s t
  judged_once (is_heavy at p s h) (is_heavy place q t k) =
      let e : Some at ≡ Some place = sym h ∙ (same_weight p q s t ∙ k) in ap weighs cc
  judged_once (is_heavy at p s h) (is_passing q t) = heavy_passing p q at s h t
  judged_once (is_passing p s) (is_refused rule at r) = sound_refused p rule at s.sound r
  judged_once (is_passing p s) (is_lost l q t) = sound_lost p q l s.sound t
  judged_once (is_passing p s) (is_heavy at q t k) = heavy_passing q p at t k s
  judged_once (is_passing p s) (is_passing q t) = refl

-- what a verdict comes to that stops a command
abbrev stopped : Verdict → Option told.Answered
stopped (refuses rule at) = Some (Refused (source.Refused rule at))
stopped (loses l) = Some (Refused (source.AcrossWait l.at l.declared l.wait))
stopped (weighs at) = Some (heavy_outcome at)
stopped passes = None

-- What a world's text is refused for.
abbrev fault_of : ℕ → reading.Rule → WorldFault
fault_of line reading.W1 = world.Form line
fault_of line reading.W2 = world.Range line
fault_of line reading.W3 = world.Twice line
fault_of line reading.W4 = world.NoProcess line

data Refuses (text : List ℕ) : WorldFault → Type 0 where
  by_world_rule : (line : ℕ) (rule : reading.Rule) → reading.IsRefused text line rule → Refuses text (fault_of line rule)
  too_large : WORLD_BYTES < length text → Refuses text world.TooLarge

refuses_by : (text : List ℕ) (fault : WorldFault) → reading.ReadsWorld text (Err fault) → fault ≢ world.OutOfMemory → Refuses text fault
refuses_by text (world.Form line) h some = by_world_rule line reading.W1 h
refuses_by text (world.Range line) h some = by_world_rule line reading.W2 h
refuses_by text (world.Twice line) h some = by_world_rule line reading.W3 h
refuses_by text (world.NoProcess line) h some = by_world_rule line reading.W4 h
refuses_by text world.TooLarge h some = too_large h
refuses_by text world.OutOfMemory h some = absurd (some refl)

abbrev line_of : reading.WorldVerdict → ℕ
line_of (reading.accepted ds) = 0
line_of (reading.refused line rule) = line

abbrev rule_of : reading.WorldVerdict → reading.Rule
rule_of (reading.accepted ds) = reading.W1
rule_of (reading.refused line rule) = rule

module _ (judged_once : OneWorldVerdict) (text : List ℕ) where
  refuses_once : (a b : WorldFault) → Refuses text a → Refuses text b → a ≡ b
  refuses_once _ _ (by_world_rule line rule h) (by_world_rule other second k) =
      let e = judged_once text (reading.refused line rule) (reading.refused other second) h.1 k.1 in ap₂ fault_of (ap line_of e) (ap rule_of e)
  refuses_once _ _ (by_world_rule line rule h) (too_large l) = absurd (omega (arith, h.0, l))
  refuses_once _ _ (too_large l) (by_world_rule line rule h) = absurd (omega (arith, h.0, l))
  refuses_once _ _ (too_large l) (too_large k) = refl

  never_refused : {A : Type 0} (fault : WorldFault) (w : World0) → Refuses text fault → reading.ReadsWorld text (Ok w) → A
  never_refused _ w (by_world_rule line rule h) (small, (ds, judged, is)) =
      let e : reading.refused line rule ≡ reading.accepted ds = judged_once text (reading.refused line rule) (reading.accepted ds) h.1 judged in absurd cc
  never_refused _ w (too_large l) (small, is) = absurd (omega (arith, l, small))

  world_once : (v w : World) → reading.IsFileOf text v → reading.IsFileOf text w → v ≡ w
  world_once v w (ds, judged, is) (es, there, says) =
      let same : reading.accepted ds ≡ reading.accepted es = judged_once text (reading.accepted ds) (reading.accepted es) judged there in
      let lines_same : ds ≡ es = cc in
      is ∙ ap (λ l. world_of (said l)) lines_same ∙ sym says

-- Why a program is refused, as its verdict.
abbrev VerdictOf : told.Answered → Verdict → Type 0
VerdictOf a v = stopped v ≡ Some a

verdict_of : (text : List ℕ) (a : told.Answered) → IsRefusedBy text a → (v : Verdict) × Judged text v × (stopped v ≡ Some a)
verdict_of text _ (by_rule rule at why) = (refuses rule at, is_refused rule at why, refl)
verdict_of text _ (lost_local p l why) = (loses l, is_lost l p why, refl)
verdict_of text _ (heavy p at sound is) = (weighs at, is_heavy at p sound is, refl)

refused_once : (text : List ℕ) → OneVerdict text → (a b : told.Answered) → IsRefusedBy text a → IsRefusedBy text b → a ≡ b
refused_once text one a b x y =
    let v = verdict_of text a x in
    let w = verdict_of text b y in
    let e : Some a ≡ Some b = sym v.2 ∙ (ap stopped (judged_once text one v.1 w.1) ∙ w.2) in cc

never_passing : (text : List ℕ) → OneVerdict text → (a : told.Answered) (p : Program) → IsRefusedBy text a → IsPassing text p → ⊥
never_passing text one a p x y =
    let v = verdict_of text a x in
    let n : stopped passes ≡ Some a = ap stopped (sym (judged_once text one v.1 (is_passing p y))) ∙ v.2 in cc

same_classes : (text : List ℕ) → OneVerdict text → (p q : Program) (a b : RawTree) → IsPassing text p → IsPassing text q → Has (program_of p) a → Has (program_of q) b → a ≡ b
same_classes text one p q a b s t h k = h ∙ ap compiled_tree (one.program p q s.sound.typed.read t.sound.typed.read) ∙ sym k

-- A class text has one answer.
module _ (one : OneClassAnswer) (text : List ℕ) where
  class_fault_once : (e f : ClassFault) → ClassAnswer text (Err e) → ClassAnswer text (Err f) → e ≢ class.OutOfMemory → f ≢ class.OutOfMemory → e ≡ f
  class_fault_once e f a b m n =
      let same = one text (Err e) (Err f) a b (λ h. m (err_same h)) (λ h. n (err_same h)) in err_tree same
    where
      err_same : {x y : ClassFault} → ◌≡◌ {A = Result RawClasses ClassFault} (Err x) (Err y) → x ≡ y
      err_same h = cc

      err_tree : {x y : ClassFault} → ◌≡◌ {A = Result RawTree ClassFault} (Err x) (Err y) → x ≡ y
      err_tree h = cc

  pub read_or_refused : (e : ClassFault) (c : RawClasses) → ClassAnswer text (Err e) → ClassAnswer text (Ok c) → e ≢ class.OutOfMemory → ⊥
  read_or_refused e c a b m =
      let same = one text (Err e) (Ok c) a b (λ h. m (err_same h)) (λ h. cc) in apart same
    where
      err_same : {x y : ClassFault} → ◌≡◌ {A = Result RawClasses ClassFault} (Err x) (Err y) → x ≡ y
      err_same h = cc

      apart : ◌≡◌ {A = Result RawTree ClassFault} (Err e) (Ok (raw_of c)) → ⊥
      apart h = cc

  pub classes_once : (c d : RawClasses) → ClassAnswer text (Ok c) → ClassAnswer text (Ok d) → raw_of c ≡ raw_of d
  classes_once c d a b = tree_same (one text (Ok c) (Ok d) a b (λ h. cc) (λ h. cc))
    where
      tree_same : {x y : RawTree} → ◌≡◌ {A = Result RawTree ClassFault} (Ok x) (Ok y) → x ≡ y
      tree_same h = cc

-- What is run for a request.
never_both : (q : Request) (p : _) → IsMeantBy q (Text p) → IsMeantBy q Classes → ⊥
never_both (format name) p a b = a
never_both (check name) p a b = a
never_both (compile name) p a b = a
never_both (run r) p a b = b
never_both (exec r) p a b = a
never_both (bench clients seed) p a b = b
never_both (shrink program world want) p a b = b
never_both (debug program world most) p a b = b
never_both (upgrade name) p a b = a

module _ (one_class : OneClassAnswer) (text : List ℕ) (one : OneVerdict text) (q : Request) where
  run_once : {m n : Meant} {c d : RawClasses} → IsRunBy text m c → IsRunBy text n d → IsMeantBy q m → IsMeantBy q n → SameMeant m n × (raw_of c ≡ raw_of d)
  run_once (of_program p c passing has) (of_program r d others k) a b =
      (one.program p.value r.value passing.sound.typed.read others.sound.typed.read, same_classes text one p.value r.value (raw_of c) (raw_of d) passing others has k)
  run_once (of_program p c passing has) (of_class_text d answer) a b = absurd (never_both q p a b)
  run_once (of_class_text c answer) (of_program p d passing has) a b = absurd (never_both q p b a)
  run_once (of_class_text c answer) (of_class_text d others) a b = (tt, classes_once one_class text c d answer others)

same_told : {a b : told.Answered} → a ≡ b → SameOutcome (Answered a) (Answered b)
same_told e = (ap text_of e, ap status_of e)

-- no request has a program and a class text
either : (q : Request) → HasProgram q → HasClassText q → ⊥
either (format name) a b = a
either (check name) a b = b
either (compile name) a b = b
either (run r) a b = b
either (exec r) a b = a
either (bench clients seed) a b = b
either (shrink program world want) a b = b
either (debug program world most) a b = b
either (upgrade name) a b = a

-- What is due by the first text.
module _ (one_class : OneClassAnswer) (text : List ℕ) (one : OneVerdict text) where
  by_once : (q : Request) (o p : Outcome) → DueBy text q o → DueBy text q p → SameOutcome o p
  by_once _ _ _ (unread name rule at u) (unread _ other place v) =
      let e = one.unread rule other at place u v in same_told (ap₂ (λ r x. Refused (source.Refused r x)) e.0 e.1)
  by_once _ _ _ (unread name rule at u) (formatted _ p is) = absurd (one.read_or_unread p rule at is u)
  by_once _ _ _ (unread name rule at u) (refused _ a judges why) = absurd judges
  by_once _ _ _ (unread name rule at u) (no_classes _ fault has answer some) = absurd has
  by_once _ _ _ (formatted name p is) (unread _ rule at u) = absurd (one.read_or_unread p rule at is u)
  by_once _ _ _ (formatted name p is) (formatted _ q there) = (ap Canon (one.program p q is there), refl)
  by_once _ _ _ (formatted name p is) (refused _ a judges why) = absurd judges
  by_once _ _ _ (formatted name p is) (no_classes _ fault has answer some) = absurd has
  by_once _ _ _ (refused _ a judges why) (unread name rule at u) = absurd judges
  by_once _ _ _ (refused _ a judges why) (formatted name p is) = absurd judges
  by_once _ _ _ (refused q a judges why) (refused _ b others also) = same_told (refused_once text one a b why also)
  by_once _ _ _ (refused _ a judges why) (passed name p passing) = absurd (never_passing text one a p why passing)
  by_once _ _ _ (refused _ a judges why) (compiled name p c passing has) = absurd (never_passing text one a p why passing)
  by_once _ _ _ (refused q a judges why) (no_classes _ fault has answer some) = absurd (either q judges has)
  by_once _ _ _ (refused _ a judges why) (upgraded name c answer) = absurd judges
  by_once _ _ _ (passed name p passing) (refused _ a judges why) = absurd (never_passing text one a p why passing)
  by_once _ _ _ (passed name p passing) (passed _ q others) = (refl, refl)
  by_once _ _ _ (passed name p passing) (no_classes _ fault has answer some) = absurd has
  by_once _ _ _ (compiled name p c passing has) (refused _ a judges why) = absurd (never_passing text one a p why passing)
  by_once _ _ _ (compiled name p c passing has) (compiled _ q d others k) =
      (ap ClassText (same_classes text one p q (raw_of c) (raw_of d) passing others has k), refl)
  by_once _ _ _ (compiled name p c passing is) (no_classes _ fault has answer some) = absurd has
  by_once _ _ _ (no_classes _ fault has answer some) (unread name rule at u) = absurd has
  by_once _ _ _ (no_classes _ fault has answer some) (formatted name p is) = absurd has
  by_once _ _ _ (no_classes q fault has answer some) (refused _ a judges why) = absurd (either q judges has)
  by_once _ _ _ (no_classes _ fault has answer some) (passed name p passing) = absurd has
  by_once _ _ _ (no_classes _ fault has answer some) (compiled name p c passing is) = absurd has
  by_once _ _ _ (no_classes q fault has answer some) (no_classes _ other its others more) =
      same_told (ap NoClasses (class_fault_once one_class text fault other answer others some more))
  by_once _ _ _ (no_classes _ fault has answer some) (upgraded name c others) = absurd (read_or_refused one_class text fault c answer others some)
  by_once _ _ _ (upgraded name c answer) (refused _ a judges why) = absurd judges
  by_once _ _ _ (upgraded name c answer) (no_classes _ fault has others some) = absurd (read_or_refused one_class text fault c others answer some)
  by_once _ _ _ (upgraded name c answer) (upgraded _ d others) = (ap ClassText (classes_once one_class text c d answer others), refl)

  -- something is due by it alone, or something is run by it
  never_runs : (q : Request) (o : Outcome) (m : Meant) (c : RawClasses) → DueBy text q o → IsRunBy text m c → IsMeantBy q m → ⊥
  never_runs _ _ m c (unread name rule at u) is a = a
  never_runs _ _ m c (formatted name p there) is a = a
  never_runs _ _ _ _ (refused q a judges why) (of_program p c passing has) meant = never_passing text one a p.value why passing
  never_runs _ _ _ _ (refused q a judges why) (of_class_text c answer) meant = by_request q judges meant
    where
      by_request : (q : Request) → HasProgram q → IsMeantBy q Classes → ⊥
      by_request (format name) h k = h
      by_request (check name) h k = k
      by_request (compile name) h k = k
      by_request (run r) h k = k
      by_request (exec r) h k = h
      by_request (bench clients seed) h k = k
      by_request (shrink program world want) h k = k
      by_request (debug program world most) h k = k
      by_request (upgrade name) h k = h
  never_runs _ _ m c (passed name p passing) is a = a
  never_runs _ _ m c (compiled name p d passing has) is a = a
  never_runs _ _ _ _ (no_classes q fault has answer some) (of_program p c passing is) meant = by_class_text q has meant
    where
      by_class_text : (q : Request) → HasClassText q → IsMeantBy q (Text p) → ⊥
      by_class_text (format name) h k = h
      by_class_text (check name) h k = h
      by_class_text (compile name) h k = h
      by_class_text (run r) h k = h
      by_class_text (exec r) h k = k
      by_class_text (bench clients seed) h k = h
      by_class_text (shrink program world want) h k = h
      by_class_text (debug program world most) h k = h
      by_class_text (upgrade name) h k = k
  never_runs _ _ _ _ (no_classes q fault has answer some) (of_class_text c others) meant = read_or_refused one_class text fault c answer others some
  never_runs _ _ m c (upgraded name d answer) is a = a

-- What is due by the world's text.
same_shrink : (r s : ProgramRun) (b c : Bool) → b ≡ c → SameRun r s
    → SameOutcome (if b then Shrink r else Answered LongScript) (if c then Shrink s else Answered LongScript)
same_shrink r s true true e same = same
same_shrink r s true false e same = absurd (true≢false e)
same_shrink r s false true e same = absurd (true≢false (sym e))
same_shrink r s false false e same = (refl, refl)

same_run : (q : Request) (r s : ProgramRun) → SameRun r s → SameOutcome (run_for q r) (run_for q s)
same_run (format name) r s same = same
same_run (check name) r s same = same
same_run (compile name) r s same = same
same_run (run x) r s same = same
same_run (exec x) r s same = same
same_run (bench clients seed) r s same = (same, refl, refl)
same_run (debug program world most) r s same = (same, refl)
same_run (upgrade name) r s same = same
same_run (shrink program world want) r s same =
    let long : r.world.script.len ≡ s.world.script.len = sym (script_length r.world) ∙ ap (λ (w : World). length w.script) same.world ∙ script_length s.world in
    same_shrink r s _ _ (ap (λ n. nat_le n SCRIPT_LINES) long) same

module _ (judged_world : OneWorldVerdict) (one_class : OneClassAnswer) (text world_text : List ℕ) (one : OneVerdict text) (q : Request) where
  in_once : (o p : Outcome) → DueIn text world_text q o → DueIn text world_text q p → SameOutcome o p
  in_once _ _ (no_world m c e is answered some) (no_world n d f there others more) =
      same_told (ap NoWorld (refuses_once judged_world world_text e f (refuses_by world_text e answered some) (refuses_by world_text f others more)))
  in_once _ _ (no_world m c e is answered some) (runs r there others frames) = never_refused judged_world world_text e r.world (refuses_by world_text e answered some) others
  in_once _ _ (runs r is answered frames) (no_world n d f there others more) = never_refused judged_world world_text f r.world (refuses_by world_text f others more) answered
  in_once _ _ (runs r is answered frames) (runs s there others more) =
      let both = run_once one_class text one q is.is_run there.is_run is.is_meant there.is_meant in
      same_run q r s (record {
        meant = both.0;
        classes = both.1;
        world = world_once judged_world world_text (seen r.world) (seen s.world) answered.1 others.1;
        frames = frames ∙ sym more;
      })

  never_in : (o p : Outcome) → DueBy text q o → DueIn text world_text q p → ⊥
  never_in o _ a (no_world m c e is answered some) = never_runs one_class text one q o m c a is.is_run is.is_meant
  never_in o _ a (runs r is answered frames) = never_runs one_class text one q o r.meant r.classes a is.is_run is.is_meant

abbrev Same : (o p : Outcome) (fs gs : List FileText) → Type 0
Same o p fs gs = (fs ≡ gs) × SameOutcome o p

pub one_answer : ((text : List ℕ) → OneVerdict text) → OneWorldVerdict → OneClassAnswer → OneAnswer
one_answer one judged_world one_class asks content o p fs gs tells a s b t = by a b s t
  where
    first_same : (q : Request) (t u : List ℕ) → IsOf (first_source q) t → IsOf (first_source q) u → AreTexts content (read_for (first_source q) t)
        → AreTexts content (read_for (first_source q) u) → t ≡ u
    first_same q t u = same_of content tells (first_source q) t u

    by : {asks : Option Request} {o p : Outcome} {fs gs : List FileText} → Due asks o fs → Due asks p gs → AreTexts content fs → AreTexts content gs → Same o p fs gs
    by usage usage s t = (refl, (refl, refl))
    by (by_text q text o own why) (by_text _ other p its also) s t =
        let e = first_same q text other own its s t in
        (ap (read_for (first_source q)) e, by_once one_class other (one other) q o p (subst (λ x. DueBy x q o) e why) also)
    by (by_text q text o own why) (in_world _ other world_text w p its is from also) s t =
        let e = first_same q text other own its s (texts_first content (first_source q) other (read_for w world_text) t) in
        absurd (never_in judged_world one_class other world_text (one other) q o p (subst (λ x. DueBy x q o) e why) also)
    by (in_world q text world_text v o own is from why) (by_text _ other p its also) s t =
        let e = first_same q text other own its (texts_first content (first_source q) text (read_for v world_text) s) t in
        absurd (never_in judged_world one_class text world_text (one text) q p o (subst (λ x. DueBy x q p) (sym e) also) why)
    by (in_world q text world_text v o own is from why) (in_world _ other world_other w p its there comes also) s t =
        let e = first_same q text other own its (texts_first content (first_source q) text (read_for v world_text) s)
        (texts_first content (first_source q) other (read_for w world_other) t) in
        let some : Some v ≡ Some w = sym is ∙ there in
        let same : v ≡ w = cc in
        let rest = texts_behind content (first_source q) text (read_for v world_text) s in
        let f = same_of content tells w world_text world_other (subst (λ x. IsOf x world_text) same from) comes
        (subst (λ x. AreTexts content (read_for x world_text)) same rest) (texts_behind content (first_source q) other (read_for w world_other) t) in (
          ap₂ (λ x y. x ++ y) (ap (read_for (first_source q)) e) (ap₂ read_for same f),
          in_once judged_world one_class other world_other (one other) q o p (subst (λ x. DueIn x world_other q o) e (subst (λ x. DueIn text x q o) f why)) also,
        )
