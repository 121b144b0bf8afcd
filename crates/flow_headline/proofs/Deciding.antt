-- From an answer to what was due by the texts of the files, or to a fault with its cause.
use Rattle.std.proofs.Common.{◌≡◌, ℕ, ◌+◌, ◌≤◌, List, [], ◌∷◌, ◌++◌, length, ◌⊎◌, inl, inr, refl, ◌∙◌, subst, Option, Some, None, arith}
use Rattle.std.proofs.lemmas.List.{take_all}
use Rattle.flow_base.specs.Bytes.{AreFirstOf}
use Rattle.flow_base.specs.Faults.{Rose, next_count}
use Rattle.flow_base.specs.Seen.{Content, Bytes, FilesSeen, SinkSeen}
use Rattle.flow_trace.specs.declared.line.Line.{Line}
use Rattle.flow_monitor.specs.Cut.{Cut}
use Rattle.flow_monitor.specs.Ears.{Ears}
use Rattle.flow_words.specs.Asked.{Request}
use Rattle.flow_world.specs.declared.run_ending.RunEnding.{RunEnding}
use Rattle.flow_world.specs.declared.ending.Ending.{Ending}
use Rattle.flow_world.specs.Ends.{end_line, LastIs}
use Rattle.flow_world.specs.WatchedTraces.{last_line}
use Rattle.flow_world.specs.Written.{bytes_of}
use Rattle.flow_top.specs.declared.outcome.Outcome.{Outcome}
use Rattle.flow_top.specs.declared.outcome.Outcome.TheVariants.{Answered, Run, Bench, Shrink, Debug}
use Rattle.flow_top.specs.declared.outcome.ProgramRun.{ProgramRun}
use Rattle.flow_top.specs.declared.outcome.BenchRun.{BenchRun}
use Rattle.flow_top.specs.declared.outcome.Answered as told
use Rattle.flow_top.specs.declared.outcome.Answered.TheVariants.{ReadFault, OutOfMemory}
use Rattle.flow_top.specs.Sources.{Source, first_source, world_source, FileText, read_for, IsOf, AreTexts}
use Rattle.flow_top.specs.Outcomes.{text_of, status_of, IsShown}
use Rattle.flow_top.specs.Due.{DueBy, DueIn, Due, usage, by_text, in_world}
use Rattle.flow_top.specs.Decided.{Decided, due, read_fault, no_memory, no_memory_at_once}
use Rattle.flow_top.specs.Told.{GoesOut, ReportedTold, whole, write_fault, no_memory_told, ReportedRun, ended, run_write_fault, run_no_memory, ReportedBench, summed, sum_write_fault, sum_no_memory_told, sum_no_memory, ReportedShrink, shrunk, shrink_write_fault, shrink_no_memory_told, shrink_no_memory, Reported, run_status, ending_status, ReportedDebug, shown_state, state_write_fault, state_no_memory_told, state_no_memory}
use Rattle.flow_top.specs.declared.outcome.DebugRun.{DebugRun}
use Rattle.flow_top.specs.Debugged.{IsViewOf}
use Rattle.flow_worldfile.specs.Worlds.{seen}
use Rattle.flow_shrink.specs.declared.shrinking.Shrunk.{Shrunk}
use Rattle.flow_shrink.specs.Shrinking.{Shrinks}
use Rattle.flow_top.specs.Shrunk.{IsStopped, shrunk_text, shrunk_status}
use Rattle.flow_top.specs.Summary.{summary_text}
use Rattle.flow_top.specs.Requests.{request_by, panel_for}
use Rattle.flow_headline.specs.Calls as call
use Rattle.flow_headline.specs.Calls.{Call, IsFault}

-- what was told of an outcome
abbrev SinkFault : SinkSeen → SinkSeen → ℕ → Type 0
SinkFault before after status = ((status ≡ 6) × Rose before.faults after.faults) ⊎ (status ≡ 7)

pub record IsTold (a : told.Answered) (before after : SinkSeen) (given : ℕ) : Type 0 where
  pub out : GoesOut before after (text_of a)
  pub status : given ≡ status_of a

told_whole : (a : told.Answered) (before after : SinkSeen) (status : ℕ) → ReportedTold a before after status → IsTold a before after status ⊎ SinkFault before after status
told_whole a before after _ (whole out) = inl (record { out = out; status = refl })
told_whole a before after _ (write_fault part rose) = inr (inl (refl, rose))
told_whole a before after _ (no_memory_told part) = inr (inr refl)

pub record IsRunTold (r : ProgramRun) (ears : Ears) (before after : SinkSeen) (given : ℕ) : Type 0 where
  pub ending : RunEnding
  pub lines : List Line
  pub shown : IsShown r lines
  pub last : LastIs (last_line ears ending) (Cut ears lines)
  pub out : GoesOut before after (bytes_of (Cut ears lines))
  pub status : given ≡ run_status ending

run_whole : (r : ProgramRun) (ears : Ears) (before after : SinkSeen) (status : ℕ) → ReportedRun r ears before after status
    → IsRunTold r ears before after status ⊎ SinkFault before after status
run_whole r ears before after _ (ended ending lines shown last out) = inl (record { ending = ending; lines = lines; shown = shown; last = last; out = out; status = refl })
run_whole r ears before after _ (run_write_fault lines shown part rose) = inr (inl (refl, rose))
run_whole r ears before after _ (run_no_memory lines shown part) = inr (inr refl)

pub record IsSummed (b : BenchRun) (before after : SinkSeen) (given : ℕ) : Type 0 where
  pub ending : Ending
  pub lines : List Line
  pub shown : IsShown b.run lines
  pub last : LastIs (end_line ending) lines
  pub out : GoesOut before after (summary_text b.clients b.seed lines (end_line ending))
  pub status : given ≡ ending_status ending

bench_whole : (b : BenchRun) (before after : SinkSeen) (status : ℕ) → ReportedBench b before after status → IsSummed b before after status ⊎ SinkFault before after status
bench_whole b before after _ (summed ending lines shown last out) = inl (record { ending = ending; lines = lines; shown = shown; last = last; out = out; status = refl })
bench_whole b before after _ (sum_write_fault ending lines shown last part rose) = inr (inl (refl, rose))
bench_whole b before after _ (sum_no_memory_told ending lines shown last part) = inr (inr refl)
bench_whole b before after _ (sum_no_memory same) = inr (inr refl)

pub record IsShrunk (r : ProgramRun) (ears : Ears) (before after : SinkSeen) (given : ℕ) : Type 0 where
  pub came_to : Shrunk
  pub shrinks : Shrinks (IsStopped r ears) (seen r.world) came_to
  pub out : GoesOut before after (shrunk_text came_to)
  pub status : given ≡ shrunk_status came_to

shrink_whole : (r : ProgramRun) (ears : Ears) (before after : SinkSeen) (status : ℕ) → ReportedShrink r ears before after status
    → IsShrunk r ears before after status ⊎ SinkFault before after status
shrink_whole r ears before after _ (shrunk x h out) = inl (record { came_to = x; shrinks = h; out = out; status = refl })
shrink_whole r ears before after _ (shrink_write_fault x h part rose) = inr (inl (refl, rose))
shrink_whole r ears before after _ (shrink_no_memory_told x h part) = inr (inr refl)
shrink_whole r ears before after _ (shrink_no_memory same) = inr (inr refl)

pub record IsStateTold (d : DebugRun) (before after : SinkSeen) (given : ℕ) : Type 0 where
  pub text : List ℕ
  pub status_due : ℕ
  pub view : IsViewOf d.run d.most text status_due
  pub out : GoesOut before after text
  pub status : given ≡ status_due

debug_whole : (d : DebugRun) (before after : SinkSeen) (status : ℕ) → ReportedDebug d before after status → IsStateTold d before after status ⊎ SinkFault before after status
debug_whole d before after _ (shown_state text status view out) = inl (record { text = text; status_due = status; view = view; out = out; status = refl })
debug_whole d before after _ (state_write_fault text status view part rose) = inr (inl (refl, rose))
debug_whole d before after _ (state_no_memory_told text status view part) = inr (inr refl)
debug_whole d before after _ (state_no_memory same) = inr (inr refl)

-- what was decided
data Decision (asked : Option Request) (before after : FilesSeen) (o : Outcome) : Type 0 where
  is_due : (files : List FileText) → Due asked o files → AreTexts before.content files → Decision asked before after o
  fails : o ≡ Answered ReadFault → after.faults ≡ next_count before.faults → Decision asked before after o
  wants : o ≡ Answered OutOfMemory → Decision asked before after o

decision : {asked : Option Request} {before after : FilesSeen} {o : Outcome} → Decided asked before after o → Decision asked before after o
decision (due o files d reads texts same) = is_due files d texts
decision (read_fault q names files e some reads rose) = fails refl rose
decision (no_memory q names files e some reads same) = wants refl
decision (no_memory_at_once same) = wants refl

-- what is due for a request
pub data DueFor (content : List ℕ → Content) (q : Request) (o : Outcome) : Type 0 where
  first : (text : List ℕ) → IsOf (first_source q) text → AreTexts content (read_for (first_source q) text) → DueBy text q o → DueFor content q o
  behind : (text world_text : List ℕ) (s : Source) → IsOf (first_source q) text → world_source q ≡ Some s → IsOf s world_text
      → AreTexts content (read_for (first_source q) text) → AreTexts content (read_for s world_text) → DueIn text world_text q o → DueFor content q o

texts_before : (content : List ℕ → Content) (fs gs : List FileText) → AreTexts content (fs ++ gs) → AreTexts content fs
texts_before content [] gs h = tt
texts_before content (f ∷ fs) gs h = (h.0, texts_before content fs gs h.1)

texts_behind : (content : List ℕ → Content) (fs gs : List FileText) → AreTexts content (fs ++ gs) → AreTexts content gs
texts_behind content [] gs h = h
texts_behind content (f ∷ fs) gs h = texts_behind content fs gs h.1

no_request : {A : Type 0} {q : Request} → None ≡ Some q → A
no_request e = absurd cc

same_request : {q r : Request} → Some q ≡ Some r → q ≡ r
same_request e = cc

due_for : (content : List ℕ → Content) (asked : Option Request) (q : Request) (o : Outcome) (files : List FileText) → asked ≡ Some q → Due asked o files → AreTexts content files
    → DueFor content q o
due_for content _ q o _ e usage h = no_request e
due_for content _ q _ _ e (by_text r text o is d) h = subst (λ x. DueFor content x o) (same_request e) (first text is h d)
due_for content _ q _ _ e (in_world r text world_text s o is from also d) h =
    subst (λ x. DueFor content x o) (same_request e)
    (behind text world_text s is from also (texts_before content (read_for (first_source r) text) (read_for s world_text) h)
    (texts_behind content (read_for (first_source r) text) (read_for s world_text) h) d)

-- the text of a file that is told, within its limit
pub text_is : (content : Content) (most : ℕ) (text bytes : List ℕ) → content ≡ Bytes bytes → length bytes ≤ most → AreFirstOf (most + 1) content text → text ≡ bytes
text_is content most text bytes e short h =
    let first = subst (λ c. AreFirstOf (most + 1) c text) e h in first.1 ∙ take_all (most + 1) bytes (omega (arith, short))

-- what a call came to
module _ (c : Call) where
  sink_fault : SinkFault c.sink c.sink' c.status → IsFault c
  sink_fault (inl x) = call.write_fault x.0 x.1
  sink_fault (inr x) = call.no_memory x

  pub told_of : (a : told.Answered) → c.answers.outcome ≡ Answered a → IsTold a c.sink c.sink' c.status ⊎ IsFault c
  told_of a e = by (told_whole a c.sink c.sink' c.status (subst (λ o. Reported (panel_for (request_by c.words c.handed) c.handed) o c.sink c.sink' c.status) e c.answers.reported))
    where
      by : IsTold a c.sink c.sink' c.status ⊎ SinkFault c.sink c.sink' c.status → IsTold a c.sink c.sink' c.status ⊎ IsFault c
      by (inl x) = inl x
      by (inr x) = inr (sink_fault x)

  pub run_of : (r : ProgramRun) → c.answers.outcome ≡ Run r → IsRunTold r (panel_for (request_by c.words c.handed) c.handed) c.sink c.sink' c.status ⊎ IsFault c
  run_of r e =
      by (run_whole r (panel_for (request_by c.words c.handed) c.handed) c.sink c.sink' c.status
      (subst (λ o. Reported (panel_for (request_by c.words c.handed) c.handed) o c.sink c.sink' c.status) e c.answers.reported))
    where
      by : IsRunTold r (panel_for (request_by c.words c.handed) c.handed) c.sink c.sink' c.status ⊎ SinkFault c.sink c.sink' c.status
          → IsRunTold r (panel_for (request_by c.words c.handed) c.handed) c.sink c.sink' c.status ⊎ IsFault c
      by (inl x) = inl x
      by (inr x) = inr (sink_fault x)

  pub bench_of : (b : BenchRun) → c.answers.outcome ≡ Bench b → IsSummed b c.sink c.sink' c.status ⊎ IsFault c
  bench_of b e = by (bench_whole b c.sink c.sink' c.status (subst (λ o. Reported (panel_for (request_by c.words c.handed) c.handed) o c.sink c.sink' c.status) e c.answers.reported))
    where
      by : IsSummed b c.sink c.sink' c.status ⊎ SinkFault c.sink c.sink' c.status → IsSummed b c.sink c.sink' c.status ⊎ IsFault c
      by (inl x) = inl x
      by (inr x) = inr (sink_fault x)

  pub shrunk_of : (r : ProgramRun) → c.answers.outcome ≡ Shrink r → IsShrunk r (panel_for (request_by c.words c.handed) c.handed) c.sink c.sink' c.status ⊎ IsFault c
  shrunk_of r e =
      by (shrink_whole r (panel_for (request_by c.words c.handed) c.handed) c.sink c.sink' c.status
      (subst (λ o. Reported (panel_for (request_by c.words c.handed) c.handed) o c.sink c.sink' c.status) e c.answers.reported))
    where
      by : IsShrunk r (panel_for (request_by c.words c.handed) c.handed) c.sink c.sink' c.status ⊎ SinkFault c.sink c.sink' c.status
          → IsShrunk r (panel_for (request_by c.words c.handed) c.handed) c.sink c.sink' c.status ⊎ IsFault c
      by (inl x) = inl x
      by (inr x) = inr (sink_fault x)

  pub state_of : (d : DebugRun) → c.answers.outcome ≡ Debug d → IsStateTold d c.sink c.sink' c.status ⊎ IsFault c
  state_of d e = by (debug_whole d c.sink c.sink' c.status (subst (λ o. Reported (panel_for (request_by c.words c.handed) c.handed) o c.sink c.sink' c.status) e c.answers.reported))
    where
      by : IsStateTold d c.sink c.sink' c.status ⊎ SinkFault c.sink c.sink' c.status → IsStateTold d c.sink c.sink' c.status ⊎ IsFault c
      by (inl x) = inl x
      by (inr x) = inr (sink_fault x)

  faulted : (a : told.Answered) → c.answers.outcome ≡ Answered a → (c.status ≡ status_of a → IsFault c) → IsFault c
  faulted a e f = by (told_of a e)
    where
      by : IsTold a c.sink c.sink' c.status ⊎ IsFault c → IsFault c
      by (inl x) = f x.status
      by (inr x) = x

  pub comes : (q : Request) → call.AsksFor c q → DueFor c.files.content q c.answers.outcome ⊎ IsFault c
  comes q asks = by (decision c.answers.decided)
    where
      by : Decision (request_by c.words c.handed) c.files c.files' c.answers.outcome → DueFor c.files.content q c.answers.outcome ⊎ IsFault c
      by (is_due files d texts) = inl (due_for c.files.content (request_by c.words c.handed) q c.answers.outcome files asks d texts)
      by (fails e rose) = inr (faulted ReadFault e (λ s. call.read_fault s rose))
      by (wants e) = inr (faulted OutOfMemory e (λ s. call.no_memory s))
