-- What the words of a command line ask for.
use Rattle.std.specs.Prelude.{◌≡◌, ℕ, Bool, List, [], ◌∷◌, ◌++◌, codes, bytes_eq, option_map, option_and_then, if◌then◌else◌, Result, Ok, Err}
use Rattle.std.specs.declared.option.Option.{Option}
use Rattle.std.specs.declared.option.Option.TheVariants.{None, Some}
use Rattle.clap.specs.Words.{Row, Text}
use Rattle.flow_monitor.specs.declared.attach.Want.{Want}
use Rattle.flow_words.specs.Apps.{one_text_app, two_texts_app, run_app, three_texts_app, shrink_app, matched, first_text, second_text, third_text, monitor_text, has_frames}
use Rattle.flow_words.specs.Wants.{number_within, number_of, events_of, listed, sole}
use Rattle.flow_words.specs.declared.asked.Asked.{Asked}
use Rattle.flow_words.specs.declared.asked.Asked.TheVariants as words
use Rattle.flow_words.specs.declared.asked.RunWords.{RunWords}
use Rattle.flow_words.specs.declared.asked.WordsFault.{WordsFault}
use Rattle.flow_words.specs.declared.asked.WordsFault.TheVariants.{Usage, OutOfMemory}
use Rattle.flow_words.specs.declared.asked.CommandWord.{CommandWord}
use Rattle.flow_words.specs.declared.asked.CommandWord.TheVariants as command

-- a run: the files of what is run and of its world, whether frames are told, and which monitors hear it
pub record RunRequest : Type 0 where
  pub what : List ℕ
  pub world : List ℕ
  pub frames : Bool
  pub wanted : List Want

-- what is asked for: of a program by its file, of a run, of a generated program and world by clients and seed, of a smaller world in
-- which a monitor stops a program, of a program's state after so many events, or of class text in the newest version
pub data Request : Type 0 where
  format : (program : List ℕ) → Request
  check : (program : List ℕ) → Request
  compile : (program : List ℕ) → Request
  run : RunRequest → Request
  exec : RunRequest → Request
  bench : (clients seed : ℕ) → Request
  shrink : (program world : List ℕ) → Want → Request
  debug : (program world : List ℕ) (most : ℕ) → Request
  upgrade : (classes : List ℕ) → Request

-- the command of its word
abbrev pub command_of : (word : Text) → Option CommandWord
command_of word = if bytes_eq word (codes "format") then Some command.Format
    else if bytes_eq word (codes "check") then Some command.Check
    else if bytes_eq word (codes "compile") then Some command.Compile
    else if bytes_eq word (codes "run") then Some command.Run
    else if bytes_eq word (codes "exec") then Some command.Exec
    else if bytes_eq word (codes "bench") then Some command.Bench
    else if bytes_eq word (codes "shrink") then Some command.Shrink
    else if bytes_eq word (codes "debug") then Some command.Debug
    else if bytes_eq word (codes "upgrade") then Some command.Upgrade
    else None

-- `FILE`
abbrev pub file_of : (words : List Text) → Option Text
file_of words = option_and_then first_text (matched one_text_app words)

-- `WHAT WORLD [--frames] [--monitor LIST]`
abbrev pub run_with : (frames : Bool) → Option Text → Option Text → Option (List Want) → Option RunRequest
run_with frames (Some what) (Some world) (Some wanted) = Some (record { what = what; world = world; frames = frames; wanted = wanted })
run_with frames _ _ _ = None

abbrev pub run_by : List Row → Option RunRequest
run_by rows = run_with (has_frames rows) (first_text rows) (second_text rows) (listed (monitor_text rows))

abbrev pub run_of : (words : List Text) → Option RunRequest
run_of words = option_and_then run_by (matched run_app words)

-- `CLIENTS SEED`: 1 to 10,000 clients, and a seed below 2^64
abbrev pub bench_with : Option ℕ → Option ℕ → Option Request
bench_with (Some clients) (Some seed) = Some (bench clients seed)
bench_with _ _ = None

abbrev pub bench_by : List Row → Option Request
bench_by rows = bench_with (option_and_then (number_within 1 10000) (first_text rows)) (option_and_then number_of (second_text rows))

abbrev pub bench_of : (words : List Text) → Option Request
bench_of words = option_and_then bench_by (matched two_texts_app words)

-- `PROGRAM WORLD --monitor LIST`, with one item in the list
abbrev pub shrink_with : Option Text → Option Text → Option Want → Option Request
shrink_with (Some program) (Some world) (Some want) = Some (shrink program world want)
shrink_with _ _ _ = None

abbrev pub shrink_by : List Row → Option Request
shrink_by rows = shrink_with (first_text rows) (second_text rows) (option_and_then sole (listed (monitor_text rows)))

abbrev pub shrink_of : (words : List Text) → Option Request
shrink_of words = option_and_then shrink_by (matched shrink_app words)

-- `PROGRAM WORLD K`: K events
abbrev pub debug_with : Option Text → Option Text → Option ℕ → Option Request
debug_with (Some program) (Some world) (Some most) = Some (debug program world most)
debug_with _ _ _ = None

abbrev pub debug_by : List Row → Option Request
debug_by rows = debug_with (first_text rows) (second_text rows) (option_and_then events_of (third_text rows))

abbrev pub debug_of : (words : List Text) → Option Request
debug_of words = option_and_then debug_by (matched three_texts_app words)

-- what a command asks for with the words behind it
abbrev pub asked_by : Option CommandWord → (words : List Text) → Option Request
asked_by None words = None
asked_by (Some command.Format) words = option_map format (file_of words)
asked_by (Some command.Check) words = option_map check (file_of words)
asked_by (Some command.Compile) words = option_map compile (file_of words)
asked_by (Some command.Run) words = option_map run (run_of words)
asked_by (Some command.Exec) words = option_map exec (run_of words)
asked_by (Some command.Bench) words = bench_of words
asked_by (Some command.Shrink) words = shrink_of words
asked_by (Some command.Debug) words = debug_of words
asked_by (Some command.Upgrade) words = option_map upgrade (file_of words)

-- what the words of a command line ask for, if they are one
abbrev pub asked : (words : List Text) → Option Request
asked [] = None
asked (word ∷ words) = asked_by (command_of word) words

-- what was read, as contracts see it
abbrev pub run_request : RunWords → RunRequest
run_request r = record { what = r.what.now; world = r.world.now; frames = r.frames; wanted = r.wanted.items }

abbrev pub request_of : Asked → Request
request_of (words.Format program) = format program.now
request_of (words.Check program) = check program.now
request_of (words.Compile program) = compile program.now
request_of (words.Run r) = run (run_request r)
request_of (words.Exec r) = exec (run_request r)
request_of (words.Bench clients seed) = bench clients seed
request_of (words.Shrink s) = shrink s.program.now s.world.now s.want
request_of (words.Debug d) = debug d.program.now d.world.now d.most
request_of (words.Upgrade classes) = upgrade classes.now

-- What is asked for is read, and where nothing is asked for, there is no usage of that form. There may be no memory.
abbrev pub Reads : {T U : Type 0} → (U → T) → Option T → Result U WordsFault → Type 0
Reads seen due (Ok read) = due ≡ Some (seen read)
Reads seen due (Err Usage) = due ≡ None
Reads seen due (Err OutOfMemory) = Unit {0}

-- a monitor that is wanted goes behind others; where none is, there is no usage of that form
abbrev pub AddsWant : Option Want → (before : List Want) → Result (Unit {0}) WordsFault → (after : List Want) → Type 0
AddsWant want before (Ok done) after = (w : Want) × (want ≡ Some w) × (after ≡ before ++ w ∷ [])
AddsWant want before (Err Usage) after = want ≡ None
AddsWant want before (Err OutOfMemory) after = Unit {0}
