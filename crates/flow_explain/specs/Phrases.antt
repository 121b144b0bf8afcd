-- Each line of a trace in words.
use Rattle.std.specs.Prelude.{ℕ, zero, suc, Bool, true, false, ◌==◌, List, [], ◌∷◌, ◌++◌, slice_get, codes, decimal, if◌then◌else◌}
use Rattle.std.specs.declared.option.Option.{Option}
use Rattle.std.specs.declared.option.Option.TheVariants.{None, Some}
use Rattle.flow_base.specs.ErrorNumbers.{end_of_stream, timed_out, broken_promise, operation_cancelled, out_of_range, too_long, second_waiter, already_set, port_in_use, not_ready, bad_argument, disk_failed}
use Rattle.flow_base.specs.declared.ids.ActorId.{ActorId}
use Rattle.flow_base.specs.declared.ids.ErrorCode.{ErrorCode}
use Rattle.flow_base.specs.declared.ids.ProcId.{ProcId}
use Rattle.flow_base.specs.declared.place.Place.{Place}
use Rattle.flow_trace.specs.Bytes.{Field, word, name, number, integer, text, actor, cell, process, error, outcome, truth, fields}
use Rattle.flow_trace.specs.declared.line.Line.{Line}
use Rattle.flow_trace.specs.declared.line.Line.TheVariants.{Boot, Kill, Stop, Cut, Heal, DiskFail, Timer, Arrival, Read, Write, Sync, Size, Start, Wait, Take, Throw, Catch, Fail, Finish, Cancel, Broken, PrintInt, PrintBool, PrintText, Send, LostCut, LostDraw, Discard, Kept, Head, Frame, Callback, EndIdle, EndBound, EndSpent, EndStop}
use Rattle.flow_explain.specs.Texts.{WaitText, ActorText}
use Rattle.flow_explain.specs.Living.{Telling, text_of, living_in}

-- a number and the sign behind it
abbrev pub marked : ℕ → (sign : List ℕ) → Field
marked n sign = word (decimal n ++ sign)

-- the text of an actor of the process of the last event, where it lives
abbrev pub text_at : List ActorText → Option ℕ → Option ActorText
text_at texts None = None
text_at texts (Some k) = slice_get texts k

abbrev pub actor_text : List ActorText → Telling → (actor : ℕ) → Option ActorText
actor_text texts s a = text_at texts (text_of (living_in s.living s.process) a)

-- its wait of a number, from 1
abbrev pub wait_of : Option ActorText → (group : ℕ) → Option WaitText
wait_of None group = None
wait_of (Some t) zero = None
wait_of (Some t) (suc k) = slice_get t.waits k

-- where a wait stands, and where a branch of it goes on
abbrev pub wait_place : Option WaitText → Option Place
wait_place None = None
wait_place (Some w) = Some w.at

abbrev pub branch_place : Option WaitText → (branch : ℕ) → Option Place
branch_place None b = None
branch_place (Some w) b = slice_get w.branches b

-- what isn't known is told by a question mark
abbrev pub unknown : List ℕ
unknown = codes "?"

abbrev pub who : Option ActorText → Field
who None = word unknown
who (Some t) = name t.name

-- `LINE:COLUMN`
abbrev pub spot : Option Place → List ℕ
spot None = unknown
spot (Some at) = decimal at.line ++ codes ":" ++ decimal at.column

-- the names of the errors that the language throws by itself, and of those that have a name in programs
abbrev pub error_name : ℕ → List Field
error_name n =
    if n == end_of_stream then word (codes "end_of_stream") ∷ []
    else if n == timed_out then word (codes "timed_out") ∷ []
    else if n == broken_promise then word (codes "broken_promise") ∷ []
    else if n == operation_cancelled then word (codes "operation_cancelled") ∷ []
    else if n == out_of_range then word (codes "out") ∷ word (codes "of") ∷ word (codes "range") ∷ []
    else if n == too_long then word (codes "text") ∷ word (codes "too") ∷ word (codes "long") ∷ []
    else if n == second_waiter then word (codes "second") ∷ word (codes "waiter") ∷ []
    else if n == already_set then word (codes "already") ∷ word (codes "set") ∷ []
    else if n == port_in_use then word (codes "port") ∷ word (codes "in") ∷ word (codes "use") ∷ []
    else if n == not_ready then word (codes "not") ∷ word (codes "ready") ∷ []
    else if n == bad_argument then word (codes "bad") ∷ word (codes "argument") ∷ []
    else if n == disk_failed then word (codes "disk") ∷ word (codes "failed") ∷ []
    else []

abbrev pub error_fields : ErrorCode → List Field
error_fields e = error e ∷ error_name e.0

-- `event N at T: ..`
abbrev pub event : ℕ → ℕ → List Field → List Field
event n t what = word (codes "event") ∷ number 64 n ∷ word (codes "at") ∷ marked t (codes ":") ∷ what

-- an event of a process: it boots, loses power, is stopped
abbrev pub of_process : ProcId → List Field → List Field
of_process p what = word (codes "process") ∷ process p ∷ what

abbrev pub of_link : ProcId → ProcId → List Field → List Field
of_link p q what =
    word (codes "the") ∷ word (codes "link") ∷ word (codes "of") ∷ word (codes "processes") ∷ process p
    ∷ word (codes "and") ∷ process q ∷ what

abbrev pub of_disk : ProcId → (request : List ℕ) → Field → List Field
of_disk p request answer =
    word (codes "the") ∷ word (codes "disk") ∷ word (codes "of") ∷ word (codes "process") ∷ process p
    ∷ word (codes "answers") ∷ word (codes "a") ∷ word request ∷ answer ∷ []

abbrev pub text_or_fail : Option (List ℕ) → Field
text_or_fail None = word (codes "fail")
text_or_fail (Some bytes) = text bytes

abbrev pub size_or_fail : Option ℕ → Field
size_or_fail None = word (codes "fail")
size_or_fail (Some n) = number 32 n

-- a line within an event is four blanks further in
abbrev pub inner : List Field → List Field
inner what = word [] ∷ word [] ∷ word [] ∷ word [] ∷ what

-- `NAME A ..`, of what an actor does
abbrev pub deed : Field → ActorId → List Field → List Field
deed x a what = inner (x ∷ actor a ∷ what)

abbrev pub packet : ℕ → List Field → List Field
packet m what = inner (word (codes "packet") ∷ number 64 m ∷ what)

-- The first and the last line stay as they are, and so do frames.
abbrev pub stays_same : Line → Bool
stays_same Head = true
stays_same (Frame p a class group) = true
stays_same (Callback p a k c) = true
stays_same EndIdle = true
stays_same EndBound = true
stays_same EndSpent = true
stays_same (EndStop monitor) = true
stays_same _ = false

-- the words of a line, behind what others told
abbrev pub phrase : List ActorText → Telling → Line → List Field
phrase texts s (Boot n t p) = event n t (of_process p (word (codes "boots") ∷ []))
phrase texts s (Kill n t p) = event n t (of_process p (word (codes "loses") ∷ word (codes "power") ∷ []))
phrase texts s (Stop n t p) = event n t (of_process p (word (codes "is") ∷ word (codes "stopped") ∷ []))
phrase texts s (Cut n t p q) = event n t (of_link p q (word (codes "is") ∷ word (codes "cut") ∷ []))
phrase texts s (Heal n t p q) = event n t (of_link p q (word (codes "heals") ∷ []))
phrase texts s (DiskFail n t p k) =
    event n t (word (codes "the") ∷ word (codes "next") ∷ number 32 k ∷ word (codes "disk") ∷ word (codes "requests")
    ∷ word (codes "of") ∷ of_process p (word (codes "fail") ∷ []))
phrase texts s (Timer n t p c) = event n t (word (codes "a") ∷ word (codes "timer") ∷ word (codes "of") ∷ of_process p [])
phrase texts s (Arrival n t q m) =
    event n t (word (codes "packet") ∷ number 64 m ∷ word (codes "comes") ∷ word (codes "to") ∷ of_process q [])
phrase texts s (Read n t p c x) = event n t (of_disk p (codes "read:") (text_or_fail x))
phrase texts s (Write n t p c ok) = event n t (of_disk p (codes "write:") (outcome ok))
phrase texts s (Sync n t p c ok) = event n t (of_disk p (codes "sync:") (outcome ok))
phrase texts s (Size n t p c x) = event n t (of_disk p (codes "size:") (size_or_fail x))
phrase texts s (Start a class) = deed (name class) a (word (codes "starts") ∷ [])
phrase texts s (Wait a group) =
    let t = actor_text texts s a.0 in
    deed (who t) a (word (codes "waits") ∷ word (codes "at") ∷ word (spot (wait_place (wait_of t group))) ∷ [])
phrase texts s (Take a group branch) =
    let t = actor_text texts s a.0 in
    deed (who t) a
    (word (codes "goes") ∷ word (codes "on") ∷ word (codes "at") ∷ word (spot (branch_place (wait_of t group) branch)) ∷ [])
phrase texts s (Throw a e) = deed (who (actor_text texts s a.0)) a (word (codes "throws") ∷ error_fields e)
phrase texts s (Catch a e) = deed (who (actor_text texts s a.0)) a (word (codes "catches") ∷ error_fields e)
phrase texts s (Fail a e) =
    deed (who (actor_text texts s a.0)) a (word (codes "fails") ∷ word (codes "by") ∷ error_fields e)
phrase texts s (Finish a) = deed (who (actor_text texts s a.0)) a (word (codes "ends") ∷ [])
phrase texts s (Cancel a) =
    deed (who (actor_text texts s a.0)) a (word (codes "is") ∷ word (codes "cancelled") ∷ [])
phrase texts s (Broken c) =
    inner (word (codes "the") ∷ word (codes "last") ∷ word (codes "promise") ∷ word (codes "of") ∷ word (codes "cell")
    ∷ cell c ∷ word (codes "is") ∷ word (codes "gone") ∷ [])
phrase texts s (PrintInt a value) =
    deed (who (actor_text texts s a.0)) a (word (codes "prints") ∷ integer value ∷ [])
phrase texts s (PrintBool a value) =
    deed (who (actor_text texts s a.0)) a (word (codes "prints") ∷ truth value ∷ [])
phrase texts s (PrintText a bytes) =
    deed (who (actor_text texts s a.0)) a (word (codes "prints") ∷ text bytes ∷ [])
phrase texts s (Send m q port bytes) =
    packet m (word (codes "to") ∷ word (codes "process") ∷ marked q.0 (codes ",") ∷ word (codes "port")
    ∷ marked port (codes ":") ∷ text bytes ∷ [])
phrase texts s (LostCut m) =
    packet m (word (codes "is") ∷ word (codes "lost:") ∷ word (codes "the") ∷ word (codes "link") ∷ word (codes "is")
    ∷ word (codes "cut") ∷ [])
phrase texts s (LostDraw m) =
    packet m (word (codes "is") ∷ word (codes "lost:") ∷ word (codes "by") ∷ word (codes "a") ∷ word (codes "draw") ∷ [])
phrase texts s (Discard m) =
    packet m (word (codes "is") ∷ word (codes "discarded:") ∷ word (codes "nobody") ∷ word (codes "listens") ∷ [])
phrase texts s (Kept file offset len kept) =
    inner (word (codes "of") ∷ number 32 len ∷ word (codes "bytes") ∷ word (codes "written") ∷ word (codes "to")
    ∷ text file ∷ word (codes "at") ∷ marked offset (codes ",") ∷ number 32 kept ∷ word (codes "stay") ∷ [])
phrase texts s line = fields line
