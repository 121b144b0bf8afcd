-- What was decided, from what was read.
use Rattle.std.proofs.Common.{◌≡◌, ℕ, Bool, true, false, List, [], ◌∷◌, ◌++◌, refl, sym, ap, ◌∙◌, subst, Result, Ok, Err, None, Some, Vec, Global}
use Rattle.std.specs.declared.snapshot.Snapshot.{Snapshot}
use Rattle.std.specs.Prelude.{nat_le, if◌then◌else◌}
use Rattle.flow_shrink.specs.declared.shrinking.TheConstants.{SCRIPT_LINES}
use Rattle.flow_monitor.specs.declared.attach.Want.{Want}
use Rattle.flow_base.specs.Faults.{next_count}
use Rattle.flow_base.specs.Seen.{FilesSeen}
use Rattle.flow_base.specs.declared.place.Place.{Place}
use Rattle.flow_tree.specs.declared.decl.Program.{Program}
use Rattle.flow_tree.specs.declared.fault.SourceFault.{SourceFault}
use Rattle.flow_tree.specs.declared.fault.SourceFault.TheVariants as source
use Rattle.flow_tree.specs.DeclView.{program_of}
use Rattle.flow_class.specs.declared.class.RawClasses.{RawClasses}
use Rattle.flow_class.specs.View.{raw_of}
use Rattle.flow_classread.specs.declared.fault.ClassFault.{ClassFault}
use Rattle.flow_classread.specs.declared.fault.ClassFault.TheVariants as class
use Rattle.flow_classread.specs.ClassAnswer.{ClassAnswer}
use Rattle.flow_staterule.specs.declared.sound.Sound.{Sound}
use Rattle.flow_front.specs.Verdict.{Reading, AnswersText, IsSound}
use Rattle.flow_lower.specs.Weighing.{first_heavy}
use Rattle.flow_lower.specs.Compiled.{Has}
use Rattle.flow_compile.specs.Right.{IsAccepted}
use Rattle.flow_worldfile.specs.declared.world.World0.{World0}
use Rattle.flow_worldfile.specs.Worlds.{IsInRange, seen}
use Rattle.flow_words.specs.Asked.{Request, RunRequest, format, check, compile, run, exec, bench, shrink, debug, upgrade}
use Rattle.flow_top.specs.declared.outcome.Outcome.{Outcome}
use Rattle.flow_top.specs.declared.outcome.Outcome.TheVariants.{Answered, Shrink}
use Rattle.flow_top.specs.declared.outcome.ProgramRun.{ProgramRun}
use Rattle.flow_top.specs.declared.outcome.Runnable.{Runnable}
use Rattle.flow_top.specs.declared.outcome.Meant.{Meant}
use Rattle.flow_top.specs.declared.outcome.Meant.TheVariants.{Text, Classes}
use Rattle.flow_top.specs.declared.outcome.Answered as told
use Rattle.flow_top.specs.declared.outcome.Answered.TheVariants.{LongScript, Printed, Passed, Formatted}
use Rattle.flow_debug.specs.declared.waits.WaitPlaces.{WaitPlaces}
use Rattle.flow_top.specs.Debugged.{WaitsOf, WaitsFor}
use Rattle.flow_top.specs.Requests.{wanted_by, wanted_alone, tells_frames}
use Rattle.flow_top.specs.Sources.{Source, first_source, world_source, FileText, read_for, names_of}
use Rattle.flow_top.specs.Outcomes.{refusal_outcome_of, class_outcome_of, heavy_outcome, IsPassing, IsRunBy, of_program, of_class_text, IsMeantBy, IsText, IsOnce, IsAgain, IsFor, run_for, MayRun, MayTell}
use Rattle.flow_top.specs.Due.{by_rule, lost_local, heavy, HasProgram, unread, formatted, refused, passed, compiled, no_classes, upgraded, IsRunFor, DueIn, no_world, runs, by_text, in_world}
use Rattle.flow_top.specs.Decided.{ReadsFiles, first, then_world, Decided, due, read_fault, no_memory}
use Rattle.flow_top.specs.Steps.{goes, stops, starves, ends, no_room, HasText, TextRead, is_read, is_unread, starved, JudgesTo, EndsBy, LowersTo, are_classes, is_heavy, no_classes as none_lowered, CompilesTo, RunsTo, WorldOf, is_world, is_none, no_room_for_it}
use Rattle.flow_top.proofs.Reading.{reads_then, texts_both, names_both, asked_had}

-- A text is judged.

-- the text is no program
pub unformatted : (text : List ℕ) (fault : SourceFault) (o : told.Answered) → o ≡ refusal_outcome_of fault → Reading text (Err fault) → (p : List ℕ) → EndsBy text (format p) o
unformatted text (source.Refused rule at) o e v p = subst (EndsBy text (format p)) (sym e) (ends _ (unread p rule at v))
unformatted text (source.AcrossWait at declared wait) o e v p = absurd v
unformatted text source.OutOfMemory o e v p = subst (EndsBy text (format p)) (sym e) no_room

pub is_formatted : (text : List ℕ) (program : Program) → Reading text (Ok program) → (p : List ℕ) → EndsBy text (format p) (Formatted program)
is_formatted text program v p = ends _ (formatted p program v)

-- the program doesn't pass
pub unjudged : (text : List ℕ) (fault : SourceFault) (o : told.Answered) → o ≡ refusal_outcome_of fault → AnswersText text (Err fault) → JudgesTo text (Err o)
unjudged text (source.Refused rule at) o e v = subst (λ x. JudgesTo text (Err x)) (sym e) (stops _ (by_rule rule at v))
unjudged text (source.AcrossWait at declared wait) o e v =
    subst (λ x. JudgesTo text (Err x)) (sym e) (stops _ (lost_local v.0 (record { at = at; declared = declared; wait = wait }) v.1))
unjudged text source.OutOfMemory o e v = subst (λ x. JudgesTo text (Err x)) (sym e) starves

pub is_judged : (text : List ℕ) (s : Sound) → AnswersText text (Ok s) → JudgesTo text (Ok s)
is_judged text s v = goes s v

-- what is known of one that does
pub sound : {text : List ℕ} {s : Sound} → JudgesTo text (Ok s) → IsSound text s.typed.program
sound (goes s is) = is

pub accepted : {text : List ℕ} {s : Sound} → JudgesTo text (Ok s) → IsAccepted s.typed.program
accepted {text = t} (goes s is) = (t, is)

-- it isn't checked
pub unchecked : (text : List ℕ) (o : told.Answered) → JudgesTo text (Err o) → (p : List ℕ) → EndsBy text (check p) o
unchecked text o (stops a why) p = ends _ (refused (check p) a tt why)
unchecked text _ starves p = no_room

pub is_checked : (text : List ℕ) (s : Sound) → JudgesTo text (Ok s) → first_heavy (program_of s.typed.program).decls ≡ None → (p : List ℕ) → EndsBy text (check p) Passed
is_checked text s j light p = ends _ (passed p s.typed.program (record { sound = sound j; light = light }))

pub is_too_heavy : (text : List ℕ) (s : Sound) (at : Place) (o : told.Answered) → o ≡ heavy_outcome at → JudgesTo text (Ok s)
    → first_heavy (program_of s.typed.program).decls ≡ Some at → (p : List ℕ) → EndsBy text (check p) o
is_too_heavy text s at o e j is p = subst (EndsBy text (check p)) (sym e) (ends _ (refused (check p) _ tt (heavy s.typed.program at (sound j) is)))

-- its classes
pub uncompiled : (text : List ℕ) (o : told.Answered) → JudgesTo text (Err o) → CompilesTo text (Err o)
uncompiled text o (stops a why) = stops a why
uncompiled text _ starves = starves

pub unlowered : (text : List ℕ) (s : Sound) (o : told.Answered) → JudgesTo text (Ok s) → LowersTo (program_of s.typed.program) (Err o) → CompilesTo text (Err o)
unlowered text s _ j (is_heavy at is) = stops _ (heavy s.typed.program at (sound j) is)
unlowered text s _ j none_lowered = starves

pub is_compiled : (text : List ℕ) (s : Sound) (p : Snapshot Program) (c : RawClasses) (w : WaitPlaces) → p.value ≡ s.typed.program → JudgesTo text (Ok s)
    → LowersTo (program_of s.typed.program) (Ok c) → CompilesTo text (Ok (record { meant = Text p; classes = c; waits = w }))
is_compiled text s p c w same j (are_classes _ has light) =
    let passing : IsPassing text s.typed.program = record { sound = sound j; light = light } in
    goes _ (record {
      is_run = of_program p c (subst (IsPassing text) (sym same) passing) (subst (λ x. Has (program_of x) (raw_of c)) (sym same) has);
      is_text = (p, refl);
    })

passing_by : {text : List ℕ} {m : Meant} {classes : RawClasses} (p : Snapshot Program) → m ≡ Text p → IsRunBy text m classes
    → IsPassing text p.value × Has (program_of p.value) (raw_of classes)
passing_by {text = text} p e (of_program other c passing has) =
    let same : other ≡ p = cc in subst (λ (x : Snapshot Program). IsPassing text x.value × Has (program_of x.value) (raw_of c)) same (passing, has)
passing_by p e (of_class_text c answer) = absurd (cc)

-- they are listed
pub is_listed : (text : List ℕ) (x : Runnable) → CompilesTo text (Ok x) → (p : List ℕ) → EndsBy text (compile p) (Printed x.classes)
is_listed text x (goes _ is) p = let both = passing_by is.is_text.0 is.is_text.1 is.is_run in ends _ (compiled p is.is_text.0.value x.classes both.0 both.1)

pub unlisted : (text : List ℕ) (o : told.Answered) → CompilesTo text (Err o) → (p : List ℕ) → EndsBy text (compile p) o
unlisted text o (stops a why) p = ends _ (refused (compile p) a tt why)
unlisted text _ starves p = no_room

-- or run
pub program_runs : (text : List ℕ) (q : Request) (x : Result Runnable told.Answered) → HasProgram q → ((p : Snapshot Program) → IsMeantBy q (Text p)) → CompilesTo text x
    → RunsTo text q x
program_runs text q _ has meant (goes x is) = goes x (record { is_run = is.is_run; is_meant = subst (IsMeantBy q) (sym is.is_text.1) (meant is.is_text.0) })
program_runs text q _ has meant (stops a why) = stops a (refused q a has why)
program_runs text q _ has meant starves = starves

-- a class text
pub classes_run : (text : List ℕ) (c : RawClasses) (w : WaitPlaces) → ClassAnswer text (Ok c) → (r : RunRequest) → RunsTo text (exec r) (Ok (record { meant = Classes; classes = c; waits = w }))
classes_run text c w answer r = goes _ (record { is_run = of_class_text c answer; is_meant = tt })

pub classes_refused : (text : List ℕ) (fault : ClassFault) (o : told.Answered) → o ≡ class_outcome_of fault → ClassAnswer text (Err fault) → (r : RunRequest) → RunsTo text (exec r) (Err o)
classes_refused text (class.Form line) o e answer r = subst (λ x. RunsTo text (exec r) (Err x)) (sym e) (stops _ (no_classes (exec r) (class.Form line) tt answer (λ h. cc)))
classes_refused text (class.Invalid rule name) o e answer r =
    subst (λ x. RunsTo text (exec r) (Err x)) (sym e) (stops _ (no_classes (exec r) (class.Invalid rule name) tt answer (λ h. cc)))
classes_refused text class.TooLarge o e answer r = subst (λ x. RunsTo text (exec r) (Err x)) (sym e) (stops _ (no_classes (exec r) class.TooLarge tt answer (λ h. cc)))
classes_refused text class.OutOfMemory o e answer r = subst (λ x. RunsTo text (exec r) (Err x)) (sym e) starves

-- or it is written anew
pub is_upgraded : (text : List ℕ) (c : RawClasses) → ClassAnswer text (Ok c) → (name : List ℕ) → EndsBy text (upgrade name) (Printed c)
is_upgraded text c answer name = ends _ (upgraded name c answer)

pub not_upgraded : (text : List ℕ) (fault : ClassFault) (o : told.Answered) → o ≡ class_outcome_of fault → ClassAnswer text (Err fault) → (name : List ℕ)
    → EndsBy text (upgrade name) o
not_upgraded text (class.Form line) o e answer name =
    subst (EndsBy text (upgrade name)) (sym e) (ends _ (no_classes (upgrade name) (class.Form line) tt answer (λ h. cc)))
not_upgraded text (class.Invalid rule which) o e answer name =
    subst (EndsBy text (upgrade name)) (sym e) (ends _ (no_classes (upgrade name) (class.Invalid rule which) tt answer (λ h. cc)))
not_upgraded text class.TooLarge o e answer name =
    subst (EndsBy text (upgrade name)) (sym e) (ends _ (no_classes (upgrade name) class.TooLarge tt answer (λ h. cc)))
not_upgraded text class.OutOfMemory o e answer name = subst (EndsBy text (upgrade name)) (sym e) no_room

-- an outcome without a run
pub ended : (text : List ℕ) (q : Request) (o : told.Answered) → EndsBy text q o → RunsTo text q (Err o)
ended text q _ (ends a why) = stops a why
ended text q _ no_room = starves

-- A request is decided.

-- its first text couldn't be had
pub without_text : (q : Request) (before after : FilesSeen) (o : told.Answered) → TextRead (first_source q) before after (Err o) → Decided (Some q) before after (Answered o)
without_text q before after _ (is_unread names files one reads counted) = read_fault q names files refl (first names files one) reads counted
without_text q before after _ (starved names files one reads same) = no_memory q names files refl (first names files one) reads same

-- at an equal source or text
pub text_at : {s t : Source} {before after : FilesSeen} {r : Result (Vec ℕ Global) told.Answered} → s ≡ t → TextRead s before after r → TextRead t before after r
text_at {before = b} {after = a} {r = r} same read = subst (λ x. TextRead x b a r) same read

pub run_at : {t u : List ℕ} {q : Request} {r : Result Runnable told.Answered} → t ≡ u → RunsTo t q r → RunsTo u q r
run_at {q = q} {r = r} same judged = subst (λ x. RunsTo x q r) same judged

pub world_at : {t u : List ℕ} {r : Result World0 told.Answered} → t ≡ u → WorldOf t r → WorldOf u r
world_at {r = r} same answered = subst (λ x. WorldOf x r) same answered

pub had : {s : Source} {before after : FilesSeen} {v : _} → TextRead s before after (Ok v) → HasText s before after v.items
had (is_read v has) = has

-- by it nothing is run
pub stopped : (q : Request) (before after : FilesSeen) (text : List ℕ) (o : told.Answered) → HasText (first_source q) before after text → RunsTo text q (Err o)
    → Decided (Some q) before after (Answered o)
stopped q before after text o has (stops a why) =
    due (Answered a) (read_for (first_source q) text) (by_text q text (Answered a) has.is_of why) has.reads has.are has.no_fault
stopped q before after text _ has starves =
    no_memory q (names_of (read_for (first_source q) text)) (read_for (first_source q) text) refl
    (first (names_of (read_for (first_source q) text)) (read_for (first_source q) text) (asked_had (first_source q) text)) has.reads has.no_fault

pub run_by : {text : List ℕ} {q : Request} {x : Runnable} → RunsTo text q (Ok x) → IsRunFor text q x.meant x.classes
run_by (goes x is) = is

-- something is run in a world alone
pub has_world : (q : Request) (m : Meant) → IsMeantBy q m → world_source q ≡ None → ⊥
has_world (format p) m h e = h
has_world (check p) m h e = h
has_world (compile p) m h e = h
has_world (run r) m h e = cc
has_world (exec r) m h e = cc
has_world (bench clients seed) m h e = cc
has_world (shrink program world want) m h e = cc
has_world (debug program world most) m h e = cc
has_world (upgrade c) m h e = h

module _ (q : Request) (before mid after : FilesSeen) (text : List ℕ) (meant : Meant) (classes : RawClasses) (s : Source) (has : HasText (first_source q) before mid text)
    (is : IsRunFor text q meant classes) (world : world_source q ≡ Some s) (same : mid.content ≡ before.content) where
  abbrev fs : List FileText
  fs = read_for (first_source q) text

  -- the world's text couldn't be had
  pub without_world : (o : told.Answered) → TextRead s mid after (Err o) → Decided (Some q) before after (Answered o)
  without_world _ (is_unread names files one reads counted) =
      read_fault q (names_of fs ++ names) (fs ++ files) refl (then_world text meant classes s names files has.is_of has.are is world one)
      (reads_then before mid after (names_of fs) names fs files has.reads reads) (counted ∙ ap next_count has.no_fault)
  without_world _ (starved names files one reads unchanged) =
      no_memory q (names_of fs ++ names) (fs ++ files) refl (then_world text meant classes s names files has.is_of has.are is world one)
      (reads_then before mid after (names_of fs) names fs files has.reads reads) (unchanged ∙ has.no_fault)

  module _ (world_text : List ℕ) (more : HasText s mid after world_text) where
    abbrev gs : List FileText
    gs = read_for s world_text

    both : ReadsFiles before after (names_of (fs ++ gs)) (fs ++ gs)
    both = subst (λ ns. ReadsFiles before after ns (fs ++ gs)) (names_both fs gs) (reads_then before mid after (names_of fs) (names_of gs) fs gs has.reads more.reads)

    decided : (o : Outcome) → DueIn text world_text q o → Decided (Some q) before after o
    decided o why =
        due o (fs ++ gs) (in_world q text world_text s o has.is_of world more.is_of why) both (texts_both before.content mid.content fs gs same has.are more.are) (more.no_fault ∙ has.no_fault)

    -- the world is refused, or there is no memory for it
    pub no_run : (o : told.Answered) → WorldOf world_text (Err o) → Decided (Some q) before after (Answered o)
    no_run _ (is_none fault answered refusal) = decided _ (no_world meant classes fault is answered refusal)
    no_run _ no_room_for_it =
        no_memory q (names_of fs ++ names_of gs) (fs ++ gs) refl (then_world text meant classes s (names_of gs) gs has.is_of has.are is world (asked_had s world_text))
        (reads_then before mid after (names_of fs) (names_of gs) fs gs has.reads more.reads) (more.no_fault ∙ has.no_fault)

    -- the classes are run in it
    pub ran : (r : ProgramRun) (o : Outcome) → r.meant ≡ meant → r.classes ≡ classes → o ≡ run_for q r → WorldOf world_text (Ok r.world) → r.frames ≡ tells_frames q
        → Decided (Some q) before after o
    ran r o m c e (is_world w answered) frames =
        subst (Decided (Some q) before after) (sym e)
        (decided (run_for q r) (runs r (subst (λ x. IsRunFor text q x r.classes) (sym m) (subst (IsRunFor text q meant) (sym c) is)) answered frames))

-- and that may be done
text_by : (program world : List ℕ) (want : Want) (m : Meant) → IsMeantBy (shrink program world want) m → IsText m
text_by program world want (Text p) h = tt
text_by program world want Classes h = h

viewed_by : (program world : List ℕ) (most : ℕ) (m : Meant) → IsMeantBy (debug program world most) m → IsText m
viewed_by program world most (Text p) h = tt
viewed_by program world most Classes h = h

shrink_may : (b : Bool) (r : ProgramRun) → MayRun r → IsText r.meant → MayTell (if b then Shrink r else Answered LongScript)
shrink_may true r may is = (may, is)
shrink_may false r may is = tt

may_by : (q : Request) (r : ProgramRun) → MayRun r → IsMeantBy q r.meant → WaitsFor q r.meant r.waits → MayTell (run_for q r)
may_by (format p) r may is w = may
may_by (check p) r may is w = may
may_by (compile p) r may is w = may
may_by (run x) r may is w = may
may_by (exec x) r may is w = may
may_by (upgrade c) r may is w = may
may_by (bench clients seed) r may is w = may
may_by (shrink program world want) r may is w = shrink_may (nat_le r.world.script.len SCRIPT_LINES) r may (text_by program world want r.meant is)
may_by (debug program world most) r may is w = (may, viewed_by program world most r.meant is, w)

pub may_run : (q : Request) (text : List ℕ) (meant : Meant) (classes : RawClasses) (waits : WaitPlaces) (r : ProgramRun) (o : Outcome) → r.meant ≡ meant → r.classes ≡ classes → r.waits ≡ waits → o ≡ run_for q r
    → IsRunFor text q meant classes → WaitsFor q meant waits → IsInRange (seen r.world) → MayTell o
may_run q text meant classes waits r o m c w e is known in_range =
    let may : MayRun r = record {
      text = text;
      is_run = subst (λ x. IsRunBy text x r.classes) (sym m) (subst (IsRunBy text meant) (sym c) is.is_run);
      in_range = in_range;
    } in
    subst MayTell (sym e) (may_by q r may (subst (IsMeantBy q) (sym m) is.is_meant) (subst (λ x. WaitsFor q x r.waits) (sym m) (subst (WaitsFor q meant) (sym w) known)))

-- it is run once, or again and again, as the request has it
pub told_for : (q : Request) (a : told.Answered) → IsFor q (Answered a)
told_for (format p) a = tt
told_for (check p) a = tt
told_for (compile p) a = tt
told_for (run x) a = tt
told_for (exec x) a = tt
told_for (bench clients seed) a = tt
told_for (shrink program world want) a = tt
told_for (debug program world most) a = tt
told_for (upgrade c) a = tt

again : (b : Bool) (r : ProgramRun) → IsAgain (if b then Shrink r else Answered LongScript)
again true r = tt
again false r = tt

ran_for : (q : Request) (r : ProgramRun) → IsFor q (run_for q r)
ran_for (format p) r = tt
ran_for (check p) r = tt
ran_for (compile p) r = tt
ran_for (run x) r = tt
ran_for (exec x) r = tt
ran_for (bench clients seed) r = tt
ran_for (shrink program world want) r = again (nat_le r.world.script.len SCRIPT_LINES) r
ran_for (debug program world most) r = tt
ran_for (upgrade c) r = tt

pub is_run_for : (q : Request) (r : ProgramRun) (o : Outcome) → o ≡ run_for q r → IsFor q o
is_run_for q r o e = subst (IsFor q) (sym e) (ran_for q r)

pub once : (q : Request) (o : Outcome) → wanted_alone q ≡ None → IsFor q o → IsOnce o
once (format p) o e h = h
once (check p) o e h = h
once (compile p) o e h = h
once (run x) o e h = h
once (exec x) o e h = h
once (bench clients seed) o e h = h
once (shrink program world want) o e h = absurd (cc)
once (debug program world most) o e h = h
once (upgrade c) o e h = h

pub many : (q : Request) (want : Want) (o : Outcome) → wanted_alone q ≡ Some want → IsFor q o → IsAgain o
many (format p) want o e h = absurd (cc)
many (check p) want o e h = absurd (cc)
many (compile p) want o e h = absurd (cc)
many (run x) want o e h = absurd (cc)
many (exec x) want o e h = absurd (cc)
many (bench clients seed) want o e h = absurd (cc)
many (shrink program world w) want o e h = h
many (debug program world most) want o e h = absurd (cc)
many (upgrade c) want o e h = absurd (cc)

-- and then one monitor is wanted
pub wants_one : (q : Request) (want : Want) → wanted_alone q ≡ Some want → wanted_by q ≡ want ∷ []
wants_one (format p) want e = absurd (cc)
wants_one (check p) want e = absurd (cc)
wants_one (compile p) want e = absurd (cc)
wants_one (run x) want e = absurd (cc)
wants_one (exec x) want e = absurd (cc)
wants_one (bench clients seed) want e = absurd (cc)
wants_one (debug program world most) want e = absurd (cc)
wants_one (upgrade c) want e = absurd (cc)
wants_one (shrink program world w) want e = ap (λ x. x ∷ []) (same e)
  where
    same : {x y : Want} → Some x ≡ Some y → x ≡ y
    same h = cc
