-- What was told, from what was written.
use Rattle.std.proofs.Common.{◌≡◌, ℕ, ◌≤◌, Bool, false, List, [], length, refl, sym, ap, ◌∙◌, subst, arith, Option, Result}
use Rattle.std.specs.Io.KnownBytes.{Appends, Keeps}
use Rattle.std.proofs.KnownBytes.{Appends-kept}
use Rattle.std.proofs.lemmas.List.{append-nil}
use Rattle.flow_base.specs.Bytes.{AppendsPart, Grows}
use Rattle.flow_base.specs.Faults.{Rose}
use Rattle.flow_base.specs.Seen.{SinkSeen}
use Rattle.flow_base.specs.declared.fault.OutFault.{OutFault}
use Rattle.flow_base.specs.declared.fault.OutFault.TheVariants.{Failed, OutOfMemory}
use Rattle.flow_trace.specs.declared.line.Line.{Line}
use Rattle.flow_class.specs.Classes.{RawTree}
use Rattle.flow_class.specs.declared.class.RawClasses.{RawClasses}
use Rattle.flow_class.specs.View.{raw_of}
use Rattle.flow_classread.specs.ClassAnswer.{HaveSmallFrames}
use Rattle.flow_class_reading_laws.proofs.Whole.{reads_whole}
use Rattle.flow_worldfile.specs.declared.world.World0.{World0}
use Rattle.flow_worldfile.specs.Worlds.{World, IsInRange, seen}
use Rattle.flow_monitor.specs.Cut.{Cut}
use Rattle.flow_monitor.specs.Ears.{Ear, Ears, names}
use Rattle.flow_monitor.proofs.Naming.{many_stay, nobody_cuts}
use Rattle.flow_machine.specs.declared.host.RunFault.{RunFault}
use Rattle.flow_machine.specs.declared.host.RunFault.TheVariants.{Stuck}
use Rattle.flow_world.specs.Around.{Puts}
use Rattle.flow_world.specs.BreakingTraces.{TraceFails}
use Rattle.flow_world.specs.Ends.{end_line, LastIs}
use Rattle.flow_world.specs.FaultedLines.{tells, telling, whole}
use Rattle.flow_world.specs.Watching.{Hearing, hearing, watching}
use Rattle.flow_world.specs.WatchedTraces.{IsEnding, HeardTrace, last_line}
use Rattle.flow_world.specs.declared.run_ending.RunEnding.{RunEnding}
use Rattle.flow_world.specs.declared.run_ending.RunEnding.TheVariants.{Own}
use Rattle.flow_world.specs.declared.ending.Ending.{Ending}
use Rattle.flow_world.specs.Written.{put_bytes, bytes_of}
use Rattle.flow_world.proofs.Writing.{bytes_put}
use Rattle.flow_end_to_end.specs.Exact.{HaveFewPlaces}
use Rattle.flow_end_to_end.proofs.Cut.Cuts.{classes_cut, program_cut, classes_written, program_written}
use Rattle.flow_top.specs.declared.outcome.ProgramRun.{ProgramRun}
use Rattle.flow_top.specs.declared.outcome.BenchRun.{BenchRun}
use Rattle.flow_top.specs.declared.outcome.Meant.{Meant}
use Rattle.flow_top.specs.declared.outcome.Answered.{Answered}
use Rattle.flow_top.specs.declared.counting.Counts.{Counts}
use Rattle.flow_top.specs.Outcomes.{text_of, IsRunBy, of_program, of_class_text, MayRun, IsText, ShownIn, ShownBy}
use Rattle.flow_top.specs.Summary.{CountsLine, summary_by, summary_text}
use Rattle.flow_top.specs.Told.{ending_status, run_status, fault_status_of, GoesOut, GoesOutInPart, ReportedTold, write_fault, no_memory_told, ReportedRun, ended, run_write_fault, run_no_memory, ReportedBench, summed, sum_write_fault, sum_no_memory_told, IsCounted, ReportedShrink, shrink_write_fault, shrink_no_memory_told}
use Rattle.flow_trace.specs.declared.line.Line.TheVariants as line
use Rattle.flow_shrink.specs.declared.shrinking.Shrunk.{Shrunk}
use Rattle.flow_shrink.specs.declared.shrinking.Shrunk.TheVariants.{Least, NotStopped}
use Rattle.flow_shrink.specs.Shrinking.{Stops, Shrinks, without}
use Rattle.flow_world.specs.Ending.{Seen}
use Rattle.flow_world.specs.Starting.{IsCodeOf, Starts}
use Rattle.flow_top.specs.Staging.{IsReady}
use Rattle.flow_top.specs.Requests.{alone}
use Rattle.flow_top.specs.Shrunk.{IsStopped, shrunk_text}
use Rattle.flow_top.proofs.Stopping.{stops_are_cut, cuts_are_stops}
use Rattle.flow_top.proofs.Staging.{own_end}
use Rattle.flow_top.proofs.Counted.{none, put_counts}

pub whole_part : (a b : Option (List ℕ)) (text : List ℕ) → Appends a b text → AppendsPart a b text
whole_part a b text p = (text, [], sym (append-nil text), p)

pub told_fault : (outcome : Answered) (before after : SinkSeen) (fault : OutFault) → AppendsPart before.written after.written (text_of outcome)
    → Grows after.handed after.written → (fault ≡ Failed → Rose before.faults after.faults) → ReportedTold outcome before after (fault_status_of fault)
told_fault outcome before after Failed part out r = write_fault (record { part = part; out = out }) (r refl)
told_fault outcome before after OutOfMemory part out r = no_memory_told (record { part = part; out = out })

pub rose_after : (a b c : ℕ) → a ≤ b → Rose b c → Rose a c
rose_after a b c le r = omega arith

-- A run that a panel heard.

few : (r : RawTree) → HaveSmallFrames r → HaveFewPlaces r
few r small k c is = let lt = small k c is in omega (arith, lt)

-- what was put is what is shown, cut where a monitor says Stop
record Left {A : Type 0} (puts : A → Line → Result (Unit {0}) OutFault → A → Type 0) (m : Meant) (frames : Bool) (c : RawClasses) (file : World0) (a : A) (ears : Ears) (e : RunEnding)
    (b : A) : Type 0 where
  lines : List Line
  shown : ShownBy m frames c file lines
  put : Puts (tells puts) (whole a) (Cut ears lines) (whole b)
  last : LastIs (last_line ears e) (Cut ears lines)

left : {A : Type 0} (puts : A → Line → Result (Unit {0}) OutFault → A → Type 0) {text : List ℕ} {m : Meant} {c : RawClasses} (frames : Bool) (file : World0) (a : A) (ears : Ears)
    (e : RunEnding) (b : Hearing A) → IsRunBy text m c → IsInRange (seen file) → HeardTrace puts frames c file (watching a ears) e (whole b) → Left puts m frames c file a ears e b.out
left puts {text = text} frames file a ears e b (of_program p c passing has) range t =
    let x = program_cut puts text p.value c file frames a ears e b passing.sound passing.light has range t in
    record { lines = x.0; shown = x.1; put = x.2; last = x.3 }
left puts {text = text} frames file a ears e b (of_class_text c answer) range t =
    let x = classes_cut puts c file frames a ears e b (reads_whole text (raw_of c) answer.0 answer.1) (few (raw_of c) answer.2) range t in
    record { lines = x.0; shown = x.1; put = x.2; last = x.3 }

-- where it failed, it wasn't stuck, and a first part of that was written
record Begun (m : Meant) (frames : Bool) (c : RawClasses) (file : World0) (a : Option (List ℕ)) (ears : Ears) (f : RunFault) (b : Option (List ℕ)) : Type 0 where
  unstuck : f ≡ Stuck → ⊥
  lines : List Line
  shown : ShownBy m frames c file lines
  part : AppendsPart a b (bytes_of (Cut ears lines))

begun : {text : List ℕ} {m : Meant} {c : RawClasses} (frames : Bool) (file : World0) (a : Option (List ℕ)) (ears : Ears) (f : RunFault) (b : Hearing (Option (List ℕ)))
    (fault : Option OutFault) → IsRunBy text m c → IsInRange (seen file) → TraceFails put_bytes frames c file (watching a ears) f (telling b fault)
    → Begun m frames c file a ears f b.out
begun {text = text} frames file a ears f b fault (of_program p c passing has) range t =
    let x = program_written text p.value c file frames a ears f b fault passing.sound passing.light has range t in
    record { unstuck = x.0; lines = x.1.0; shown = x.1.1; part = x.1.2 }
begun {text = text} frames file a ears f b fault (of_class_text c answer) range t =
    let x = classes_written c file frames a ears f b fault (reads_whole text (raw_of c) answer.0 answer.1) (few (raw_of c) answer.2) range t in
    record { unstuck = x.0; lines = x.1.0; shown = x.1.1; part = x.1.2 }

-- such runs by what was written before and after
abbrev pub HeardRun : ProgramRun → Option (List ℕ) → Ears → RunEnding → Option (List ℕ) → Ears → Type 0
HeardRun r before ears ending after others =
    (stop : Option ℕ) × HeardTrace put_bytes r.frames r.classes r.world (watching before ears) ending (whole (hearing after others stop))

abbrev pub FailedRun : ProgramRun → Option (List ℕ) → Ears → RunFault → Option (List ℕ) → Ears → Type 0
FailedRun r before ears f after others =
    (stop : Option ℕ) × (fault : Option OutFault)
    × TraceFails put_bytes r.frames r.classes r.world (watching before ears) f (telling (hearing after others stop) fault)

went : (r : ProgramRun) (before after : Option (List ℕ)) (ears others : Ears) (e : RunEnding) → MayRun r → HeardRun r before ears e after others
    → Left put_bytes r.meant r.frames r.classes r.world before ears e after
went r before after ears others e may t = left put_bytes r.frames r.world before ears e (hearing after others t.0) may.is_run may.in_range t.1

failed_run : (r : ProgramRun) (before after : Option (List ℕ)) (ears others : Ears) (f : RunFault) → MayRun r → FailedRun r before ears f after others
    → Begun r.meant r.frames r.classes r.world before ears f after
failed_run r before after ears others f may t = begun r.frames r.world before ears f (hearing after others t.0) t.1 may.is_run may.in_range t.2

-- it isn't stuck
pub never_stuck : (r : ProgramRun) (before after : Option (List ℕ)) (ears others : Ears) (f : RunFault) → MayRun r → FailedRun r before ears f after others → f ≡ Stuck → ⊥
never_stuck r before after ears others f may t = (failed_run r before after ears others f may t).unstuck

went_out : (r : ProgramRun) (before after : SinkSeen) (between : Option (List ℕ)) (ears : Ears) (e : RunEnding)
    → (x : Left put_bytes r.meant r.frames r.classes r.world before.written ears e between) → Keeps between after.written → Appends before.written after.written (bytes_of (Cut ears x.lines))
went_out r before after between ears e x kept =
    Appends-kept before.written between after.written (bytes_of (Cut ears x.lines)) (bytes_put _ _ (Cut ears x.lines) x.put) kept

-- it came to its end, and its lines were written
pub came_to_end : (r : ProgramRun) (before after : SinkSeen) (between : Option (List ℕ)) (ears others : Ears) (e : RunEnding) → MayRun r
    → HeardRun r before.written ears e between others → Keeps between after.written → after.handed ≡ after.written → ReportedRun r ears before after (run_status e)
came_to_end r before after between ears others e may t kept all =
    let x = went r before.written between ears others e may t in
    ended e x.lines x.shown x.last (record { whole = went_out r before after between ears e x kept; all = all })

-- it failed
pub broke_off : (r : ProgramRun) (before after : SinkSeen) (ears others : Ears) (f : RunFault) (fault : OutFault) → MayRun r
    → FailedRun r before.written ears f after.written others → Grows after.handed after.written
    → (fault ≡ Failed → Rose before.faults after.faults) → ReportedRun r ears before after (fault_status_of fault)
broke_off r before after ears others f Failed may t out rose =
    let x = failed_run r before.written after.written ears others f may t in
    run_write_fault x.lines x.shown (record { part = x.part; out = out }) (rose refl)
broke_off r before after ears others f OutOfMemory may t out rose =
    let x = failed_run r before.written after.written ears others f may t in
    run_no_memory x.lines x.shown (record { part = x.part; out = out })

-- its last flush failed
pub unflushed : (r : ProgramRun) (before after : SinkSeen) (between : Option (List ℕ)) (ears others : Ears) (e : RunEnding) (fault : OutFault) → MayRun r
    → HeardRun r before.written ears e between others → Keeps between after.written → Grows after.handed after.written
    → (fault ≡ Failed → Rose before.faults after.faults) → ReportedRun r ears before after (fault_status_of fault)
unflushed r before after between ears others e Failed may t kept out rose =
    let x = went r before.written between ears others e may t in
    run_write_fault x.lines x.shown (record { part = whole_part _ _ _ (went_out r before after between ears e x kept); out = out }) (rose refl)
unflushed r before after between ears others e OutOfMemory may t kept out rose =
    let x = went r before.written between ears others e may t in
    run_no_memory x.lines x.shown (record { part = whole_part _ _ _ (went_out r before after between ears e x kept); out = out })

-- A run whose lines are counted.

-- a panel of nobody stops no run
pub no_stop : (nobody others : Ears) (e : RunEnding) → nobody ≡ [] → names others ≡ names nobody → IsEnding e (length others) → IsEnding e 0
no_stop nobody others e none same place = subst (IsEnding e) (many_stay nobody others same ∙ ap length none) place

abbrev pub CountedRun : ProgramRun → Counts → Ears → RunEnding → Counts → Ears → Type 0
CountedRun r before ears e after others =
    (stop : Option ℕ) × HeardTrace CountsLine r.frames r.classes r.world (watching before ears) e (whole (hearing after others stop))

pub is_counted : (r : ProgramRun) (before after : Counts) (nobody others : Ears) (e : RunEnding) (ending : Ending) → MayRun r → before ≡ none → nobody ≡ []
    → e ≡ Own ending → CountedRun r before nobody e after others → IsCounted r ending after
is_counted r before after nobody others e ending may new empty own t =
    let by_ending = subst (λ x. CountedRun r before nobody x after others) own t in
    let by_panel = subst (λ ears. CountedRun r before ears (Own ending) after others) empty by_ending in
    let heard = subst (λ c. CountedRun r c [] (Own ending) after others) new by_panel in
    let x = left CountsLine r.frames r.world none [] (Own ending) (hearing after others heard.0) may.is_run may.in_range heard.1 in
    let all = nobody_cuts x.lines in
    record {
      lines = x.lines;
      shown = x.shown;
      last = subst (LastIs (end_line ending)) all x.last;
      are = put_counts after x.lines (subst (λ ls. Puts (tells CountsLine) (whole none) ls (whole after)) all x.put);
    }

-- its summary went out, or a first part of it
abbrev Sum : BenchRun → List Line → Ending → List ℕ
Sum b lines ending = summary_text b.clients b.seed lines (end_line ending)

sum_is : (b : BenchRun) (counts : Counts) (ending : Ending) (text : List ℕ) → (x : IsCounted b.run ending counts) → text ≡ summary_by b.clients b.seed counts (end_line ending)
    → text ≡ Sum b x.lines ending
sum_is b counts ending text x is = is ∙ ap (λ c. summary_by b.clients b.seed c (end_line ending)) x.are

pub sum_out : (b : BenchRun) (counts : Counts) (ending : Ending) (text : List ℕ) (before after : SinkSeen) → IsCounted b.run ending counts
    → text ≡ summary_by b.clients b.seed counts (end_line ending) → GoesOut before after text → ReportedBench b before after (ending_status ending)
sum_out b counts ending text before after x is out =
    summed ending x.lines x.shown x.last (subst (GoesOut before after) (sum_is b counts ending text x is) out)

pub sum_in_part : (b : BenchRun) (counts : Counts) (ending : Ending) (text : List ℕ) (before after : SinkSeen) (fault : OutFault) → IsCounted b.run ending counts
    → text ≡ summary_by b.clients b.seed counts (end_line ending) → GoesOutInPart before after text → (fault ≡ Failed → Rose before.faults after.faults)
    → ReportedBench b before after (fault_status_of fault)
sum_in_part b counts ending text before after Failed x is out rose =
    sum_write_fault ending x.lines x.shown x.last (subst (GoesOutInPart before after) (sum_is b counts ending text x is) out) (rose refl)
sum_in_part b counts ending text before after OutOfMemory x is out rose =
    sum_no_memory_told ending x.lines x.shown x.last (subst (GoesOutInPart before after) (sum_is b counts ending text x is) out)

-- A world that was made smaller.
shrinks_alike : (S T : World → Type 0) → ((w : World) → S w → T w) → ((w : World) → T w → S w) → (first : World) (x : Shrunk) → Shrinks S first x → Shrinks T first x
shrinks_alike S T on back first (Least w) (was, h) =
    (on first was, record { same = h.same; fewer = h.fewer; stops = on (seen w) h.stops; each = λ k lt stops. h.each k lt (back (without k (seen w)) stops) })
shrinks_alike S T on back first NotStopped h = λ stops. h (back first stops)

-- by what the monitor says it is stopped as its cut trace tells
pub is_shrunk : (r : ProgramRun) (name : List ℕ) (ear : Ear) (x : Shrunk) → IsText r.meant
    → Shrinks (λ w. Stops (ShownIn r.meant false r.classes w) ear) (seen r.world) x → Shrinks (IsStopped r (alone name ear)) (seen r.world) x
is_shrunk r name ear x is =
    shrinks_alike (λ w. Stops (ShownIn r.meant false r.classes w) ear) (IsStopped r (alone name ear))
    (λ w s. (s.0, s.1, stops_are_cut name ear s.0 s.2))
    (λ w s. (s.0, s.1, cuts_are_stops name ear line.Head s.0 (own_end r.meant r.classes w s.0 is s.1) s.2)) (seen r.world) x

pub shrunk_by : (r : ProgramRun) (name : List ℕ) (ear : Ear) (program : RawClasses) (x : Shrunk) → program ≡ r.classes → IsText r.meant
    → Shrinks (λ w. Stops (ShownIn r.meant false program w) ear) (seen r.world) x → Shrinks (IsStopped r (alone name ear)) (seen r.world) x
shrunk_by r name ear program x same is h =
    is_shrunk r name ear x is (subst (λ c. Shrinks (λ w. Stops (ShownIn r.meant false c w) ear) (seen r.world) x) same h)

-- the classes of a run that begin again
pub ready_by : (r : ProgramRun) (file : World0) (w : Seen) → MayRun r → IsText r.meant → Starts r.classes file w → IsReady r.meant w.code
ready_by r file w may is starts = record {
  text = may.text;
  is_run = subst (IsRunBy may.text r.meant) (sym starts.code.program) may.is_run;
  is_text = is;
  is_code = subst (λ c. IsCodeOf c w.code) (sym starts.code.program) starts.code;
}

pub shrunk_in_part : (r : ProgramRun) (ears : Ears) (x : Shrunk) (before after : SinkSeen) (fault : OutFault) → Shrinks (IsStopped r ears) (seen r.world) x
    → GoesOutInPart before after (shrunk_text x) → (fault ≡ Failed → Rose before.faults after.faults) → ReportedShrink r ears before after (fault_status_of fault)
shrunk_in_part r ears x before after Failed h out rose = shrink_write_fault x h out (rose refl)
shrunk_in_part r ears x before after OutOfMemory h out rose = shrink_no_memory_told x h out
