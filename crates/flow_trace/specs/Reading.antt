-- The line that words would be, if they are a printed line's. Words that are none give some line or
-- none; that a line was read is decided by printing it again.
use Rattle.std.specs.Prelude.{ℕ, ◌+◌, ◌-◌, ◌*◌, ◌%◌, ◌^◌, ℤ, pos, negsuc, Bool, true, false, ◌&&◌, ◌==◌, nat_lt, nat_le, List, [], ◌∷◌, length, fold, codes, bytes_eq, slice_get, Some, None, if◌then◌else◌}
use Rattle.std.specs.Option.{option_map, option_map_or}
use Rattle.std.specs.declared.option.Option.{Option}
use Rattle.flow_base.specs.Names.{is_name_text}
use Rattle.flow_base.specs.declared.ids.ActorId.{ActorId}
use Rattle.flow_base.specs.declared.ids.CellId.{CellId}
use Rattle.flow_base.specs.declared.ids.ErrorCode.{ErrorCode}
use Rattle.flow_base.specs.declared.ids.ProcId.{ProcId}
use Rattle.flow_trace.specs.Scan.{WordState, words_in}
use Rattle.flow_trace.specs.declared.line.Line.{Line}
use Rattle.flow_trace.specs.declared.line.Line.TheVariants.{Head, Boot, Kill, Stop, Cut, Heal, DiskFail, Timer, Arrival, Read, Write, Sync, Size, Start, Wait, Take, Throw, Catch, Fail, Finish, Cancel, Broken, PrintInt, PrintBool, PrintText, Send, LostCut, LostDraw, Discard, Kept, Frame, Callback, EndIdle, EndBound, EndSpent, EndStop}

-- the bytes of the word at a place, or none
abbrev pub bytes_at : List WordState → ℕ → List ℕ
bytes_at ws k = option_map_or (λ w. w.bytes) (slice_get ws k) []

-- whether the word at a place stood in quotes
abbrev pub quoted_at : List WordState → ℕ → Bool
quoted_at ws k = option_map_or (λ w. w.quoted) (slice_get ws k) false

-- the value of a decimal digit, and of digits, of which a number of 64 bits keeps what fits
abbrev pub digit : ℕ → ℕ
digit b = (b + 208) % 256

abbrev pub number_step : ℕ → ℕ → ℕ
number_step n b = (n * 10 % 2 ^ 64 + digit b) % 2 ^ 64

abbrev pub number_in : List ℕ → ℕ
number_in word = fold number_step 0 word

-- a number of 64 bits with a sign
abbrev pub at_least_zero : ℕ → ℤ
at_least_zero n = if nat_lt n (2 ^ 63) then pos n else pos 0

abbrev pub below_zero : ℕ → ℤ
below_zero n = if nat_lt 0 n && nat_le n (2 ^ 63) then negsuc (n - 1) else pos 0

abbrev pub integer_in : List ℕ → ℤ
integer_in [] = pos 0
integer_in (b ∷ bs) = if b == 45 then below_zero (number_in bs) else at_least_zero (number_in (b ∷ bs))

abbrev pub number_at : List WordState → ℕ → ℕ
number_at ws k = number_in (bytes_at ws k)

abbrev pub small_at : List WordState → ℕ → ℕ
small_at ws k = number_at ws k % 2 ^ 32

abbrev pub process_at : List WordState → ℕ → ProcId
process_at ws k = record { 0 = number_at ws k % 2 ^ 8 }

abbrev pub cell_at : List WordState → ℕ → CellId
cell_at ws k = record { 0 = number_at ws k }

abbrev pub actor_at : List WordState → ℕ → ActorId
actor_at ws k = record { 0 = number_at ws k }

abbrev pub error_at : List WordState → ℕ → ErrorCode
error_at ws k = record { 0 = number_at ws k % 2 ^ 16 }

-- the name at a place, if the word is one
abbrev pub name_at : List WordState → ℕ → Option (List ℕ)
name_at ws k = if is_name_text (bytes_at ws k) && nat_le (length (bytes_at ws k)) 255 then Some (bytes_at ws k) else None

-- the text at a place, if the word is short enough for one
abbrev pub text_at : List WordState → ℕ → Option (List ℕ)
text_at ws k = if nat_le (length (bytes_at ws k)) 65535 then Some (bytes_at ws k) else None

abbrev pub is_word : List WordState → ℕ → List ℕ → Bool
is_word ws k word = bytes_eq (bytes_at ws k) word

-- a file's size, or none where the question failed
abbrev pub size_at : List WordState → ℕ → Option ℕ
size_at ws k = if is_word ws k (codes "fail") then None else Some (small_at ws k)

-- the answer of a request to the disk
abbrev pub answer_from : List WordState → Option Line
answer_from ws =
    let n = number_at ws 1 in
    let t = number_at ws 2 in
    let p = process_at ws 4 in
    let c = cell_at ws 5 in
    if is_word ws 3 (codes "write") then Some (Write n t p c (is_word ws 6 (codes "ok")))
    else if is_word ws 3 (codes "sync") then Some (Sync n t p c (is_word ws 6 (codes "ok")))
    else if is_word ws 3 (codes "size") then Some (Size n t p c (size_at ws 6))
    else if is_word ws 3 (codes "read") then
    (if quoted_at ws 6 then option_map (λ x. Read n t p c (Some x)) (text_at ws 6) else Some (Read n t p c None))
    else None

-- an event of one process
abbrev pub event_from : List WordState → Option Line
event_from ws =
    let n = number_at ws 1 in
    let t = number_at ws 2 in
    let p = process_at ws 4 in
    if is_word ws 3 (codes "boot") then Some (Boot n t p)
    else if is_word ws 3 (codes "kill") then Some (Kill n t p)
    else if is_word ws 3 (codes "stop") then Some (Stop n t p)
    else if is_word ws 3 (codes "cut") then Some (Cut n t p (process_at ws 5))
    else if is_word ws 3 (codes "heal") then Some (Heal n t p (process_at ws 5))
    else if is_word ws 3 (codes "diskfail") then Some (DiskFail n t p (small_at ws 5))
    else if is_word ws 3 (codes "timer") then Some (Timer n t p (cell_at ws 5))
    else if is_word ws 3 (codes "packet") then Some (Arrival n t p (number_at ws 5))
    else answer_from ws

-- the first or the last line of a trace
abbrev pub edge_from : List WordState → Option Line
edge_from ws =
    if is_word ws 0 (codes "trace") then Some Head
    else if is_word ws 1 (codes "idle") then Some EndIdle
    else if is_word ws 1 (codes "bound") then Some EndBound
    else if is_word ws 1 (codes "spent") then Some EndSpent
    else option_map (λ monitor. EndStop monitor) (name_at ws 2)

-- what is told of a frame
abbrev pub frame_from : List WordState → Option Line
frame_from ws =
    if is_word ws 0 (codes "callback") then Some (Callback (process_at ws 1) (actor_at ws 2) (small_at ws 3) (cell_at ws 4))
    else if is_word ws 0 (codes "frame") then option_map (λ class. Frame (process_at ws 1) (actor_at ws 2) class (small_at ws 4))
    (name_at ws 3)
    else edge_from ws

-- what the disk kept of a write
abbrev pub kept_from : List WordState → Option Line
kept_from ws = option_map (λ file. Kept file (small_at ws 2) (small_at ws 3) (small_at ws 4)) (text_at ws 1)

-- a packet that is sent
abbrev pub send_from : List WordState → Option Line
send_from ws = option_map (λ x. Send (number_at ws 1) (process_at ws 2) (number_at ws 3 % 2 ^ 16) x) (text_at ws 4)

-- what happens to a packet or a write
abbrev pub packet_from : List WordState → Option Line
packet_from ws =
    if is_word ws 0 (codes "send") then send_from ws
    else if is_word ws 0 (codes "lost") then
    Some (if is_word ws 2 (codes "cut") then LostCut (number_at ws 1) else LostDraw (number_at ws 1))
    else if is_word ws 0 (codes "discard") then Some (Discard (number_at ws 1))
    else if is_word ws 0 (codes "kept") then kept_from ws
    else frame_from ws

-- what an actor prints
abbrev pub print_from : List WordState → Option Line
print_from ws =
    let a = actor_at ws 1 in
    if quoted_at ws 2 then option_map (λ x. PrintText a x) (text_at ws 2)
    else if is_word ws 2 (codes "true") then Some (PrintBool a true)
    else if is_word ws 2 (codes "false") then Some (PrintBool a false)
    else Some (PrintInt a (integer_in (bytes_at ws 2)))

-- an actor that starts
abbrev pub start_from : List WordState → Option Line
start_from ws = option_map (λ class. Start (actor_at ws 1) class) (name_at ws 2)

-- what an actor does
abbrev pub actor_from : List WordState → Option Line
actor_from ws =
    let a = actor_at ws 1 in
    if is_word ws 0 (codes "start") then start_from ws
    else if is_word ws 0 (codes "wait") then Some (Wait a (small_at ws 2))
    else if is_word ws 0 (codes "take") then Some (Take a (small_at ws 2) (small_at ws 3))
    else if is_word ws 0 (codes "throw") then Some (Throw a (error_at ws 2))
    else if is_word ws 0 (codes "catch") then Some (Catch a (error_at ws 2))
    else if is_word ws 0 (codes "fail") then Some (Fail a (error_at ws 2))
    else if is_word ws 0 (codes "done") then Some (Finish a)
    else if is_word ws 0 (codes "cancel") then Some (Cancel a)
    else if is_word ws 0 (codes "broken") then Some (Broken (cell_at ws 1))
    else packet_from ws

abbrev pub line_from : List WordState → Option Line
line_from ws =
    if is_word ws 0 (codes "event") then event_from ws
    else if is_word ws 0 (codes "print") then print_from ws
    else actor_from ws

-- the line that bytes would be
abbrev pub line_in : List ℕ → Option Line
line_in bytes = line_from (words_in bytes)

-- the text that bytes would be in quotes
abbrev pub text_in : List ℕ → Option (List ℕ)
text_in bytes = text_at (words_in bytes) 0
