-- What the words of a command line ask of the laboratory.
use Rattle.std.specs.Prelude.{ℕ, ◌-◌, ◌&&◌, Bool, true, false, nat_le, List, [], ◌∷◌, codes, bytes_eq, option_map, option_and_then, if◌then◌else◌}
use Rattle.std.specs.declared.option.Option.{Option}
use Rattle.std.specs.declared.option.Option.TheVariants.{None, Some}
use Rattle.clap.specs.Words.{Row, Text}
use Rattle.flow_monitor.specs.declared.attach.Want.{Want}
use Rattle.flow_storm.specs.declared.storm.Storm.{Storm}
use Rattle.flow_family.specs.declared.family.Family.{Family}
use Rattle.flow_words.specs.Apps.{two_texts_app, three_texts_app, shrink_app, matched, first_text, second_text, third_text, monitor_text}
use Rattle.flow_words.specs.Wants.{number_within, number_of, cut_at, wants_of, listed}
use Rattle.flow_lab_words.specs.Apps.{sweep_app, text_of, has_flag}
use Rattle.flow_lab_words.specs.declared.asked.Asked.{Asked}
use Rattle.flow_lab_words.specs.declared.asked.Asked.TheVariants as words
use Rattle.flow_lab_words.specs.declared.asked.SweepWords.{SweepWords}
use Rattle.flow_lab_words.specs.declared.asked.Telling.{Telling}
use Rattle.flow_lab_words.specs.declared.asked.Telling.TheVariants.{Finds, Branches, First}
use Rattle.flow_lab_words.specs.declared.asked.CommandWord.{CommandWord}
use Rattle.flow_lab_words.specs.declared.asked.CommandWord.TheVariants as command

-- a sweep: the files of the program and of the world, the worlds in which it is run, the monitors that are wanted, and what is told
pub record SweepRequest : Type 0 where
  pub program : List ℕ
  pub world : List ℕ
  pub family : Family
  pub wanted : List Want
  pub telling : Telling

-- what is asked for: a world under a storm, runs of many seeds, a world with the words that a run takes, or a world that is as simple as
-- can be where monitors still stop the run
pub data Request : Type 0 where
  storm : (world : List ℕ) (seed : ℕ) → Storm → Request
  sweep : SweepRequest → Request
  pin : (program world : List ℕ) → Request
  simplify : (program world : List ℕ) → List Want → Request

-- the command of its word
abbrev pub command_of : (word : Text) → Option CommandWord
command_of word = if bytes_eq word (codes "storm") then Some command.Storm
    else if bytes_eq word (codes "sweep") then Some command.Sweep
    else if bytes_eq word (codes "pin") then Some command.Pin
    else if bytes_eq word (codes "simplify") then Some command.Simplify
    else None

-- `N,T`: 0 to 1,000 faults, at times up to 1 to 1,000,000,000 ticks
abbrev pub storm_with : Option ℕ → Option ℕ → Option Storm
storm_with (Some faults) (Some horizon) = Some (record { faults = faults; horizon = horizon })
storm_with _ _ = None

abbrev pub storm_by : List ℕ × List ℕ → Option Storm
storm_by parts = storm_with (number_within 0 1000 parts.0) (number_within 1 1000000000 parts.1)

abbrev pub storm_in : (word : List ℕ) → Option Storm
storm_in word = option_and_then storm_by (cut_at 44 word)

-- where something is said, it has the form; where nothing is, there is nothing
abbrev pub if_said : {T : Type 0} → (read : Text → Option T) → Option Text → Option (Option T)
if_said read None = Some None
if_said read (Some text) = option_map Some (read text)

-- `WORLD SEED N,T`
abbrev pub storm_request : Option Text → Option ℕ → Option Storm → Option Request
storm_request (Some world) (Some seed) (Some s) = Some (storm world seed s)
storm_request _ _ _ = None

abbrev pub storm_rows : List Row → Option Request
storm_rows rows =
    storm_request (first_text rows) (option_and_then number_of (second_text rows)) (option_and_then storm_in (third_text rows))

abbrev pub storm_of : (words : List Text) → Option Request
storm_of words = option_and_then storm_rows (matched three_texts_app words)

-- `--cover` tells the branches, `--first` ends at the first find, and both together are nothing
abbrev pub telling_of : (cover first : Bool) → Option Telling
telling_of true true = None
telling_of true false = Some Branches
telling_of false true = Some First
telling_of false false = Some Finds

-- at most 1,000,000 seeds, from the first to the last
abbrev pub are_seeds : (from to : ℕ) → Bool
are_seeds from to = nat_le from to && nat_le (to - from) 999999

abbrev pub seeds_of : Option ℕ → Option ℕ → Option (ℕ × ℕ)
seeds_of (Some from) (Some to) = if are_seeds from to then Some (from, to) else None
seeds_of _ _ = None

abbrev pub family_with : Option (ℕ × ℕ) → Option (Option Storm) → Option (Option ℕ) → Option Family
family_with (Some seeds) (Some s) (Some down) = Some (record { from = seeds.0; to = seeds.1; storm = s; down = down })
family_with _ _ _ = None

abbrev pub family_by : List Row → Option Family
family_by rows =
    family_with
    (seeds_of (option_and_then number_of (text_of (codes "from") rows)) (option_and_then number_of (text_of (codes "to") rows)))
    (if_said storm_in (text_of (codes "storm") rows))
    (if_said (number_within 0 1000000000) (text_of (codes "crash") rows))

-- `PROGRAM WORLD FROM TO [--storm N,T] [--crash D] [--monitor LIST] [--cover] [--first]`
abbrev pub sweep_with : Option Text → Option Text → Option Family → Option (List Want) → Option Telling → Option SweepRequest
sweep_with (Some program) (Some world) (Some f) (Some wanted) (Some telling) = Some (record {
  program = program;
  world = world;
  family = f;
  wanted = wanted;
  telling = telling;
})
sweep_with _ _ _ _ _ = None

abbrev pub sweep_by : List Row → Option SweepRequest
sweep_by rows =
    sweep_with (text_of (codes "program") rows) (text_of (codes "world") rows) (family_by rows) (listed (monitor_text rows))
    (telling_of (has_flag (codes "cover") rows) (has_flag (codes "first") rows))

abbrev pub sweep_of : (words : List Text) → Option SweepRequest
sweep_of words = option_and_then sweep_by (matched sweep_app words)

-- `PROGRAM WORLD`
abbrev pub pin_with : Option Text → Option Text → Option Request
pin_with (Some program) (Some world) = Some (pin program world)
pin_with _ _ = None

abbrev pub pin_by : List Row → Option Request
pin_by rows = pin_with (first_text rows) (second_text rows)

abbrev pub pin_of : (words : List Text) → Option Request
pin_of words = option_and_then pin_by (matched two_texts_app words)

-- `PROGRAM WORLD --monitor LIST`
abbrev pub simplify_with : Option Text → Option Text → Option (List Want) → Option Request
simplify_with (Some program) (Some world) (Some wanted) = Some (simplify program world wanted)
simplify_with _ _ _ = None

abbrev pub simplify_by : List Row → Option Request
simplify_by rows = simplify_with (first_text rows) (second_text rows) (option_and_then wants_of (monitor_text rows))

abbrev pub simplify_of : (words : List Text) → Option Request
simplify_of words = option_and_then simplify_by (matched shrink_app words)

-- what a command asks for with the words behind it
abbrev pub asked_by : Option CommandWord → (words : List Text) → Option Request
asked_by None words = None
asked_by (Some command.Storm) words = storm_of words
asked_by (Some command.Sweep) words = option_map sweep (sweep_of words)
asked_by (Some command.Pin) words = pin_of words
asked_by (Some command.Simplify) words = simplify_of words

-- what the words of a command line ask for, if they are one
abbrev pub asked : (words : List Text) → Option Request
asked [] = None
asked (word ∷ words) = asked_by (command_of word) words

-- what was read, as contracts see it
abbrev pub sweep_request : SweepWords → SweepRequest
sweep_request s = record {
  program = s.program.now;
  world = s.world.now;
  family = s.family;
  wanted = s.wanted.items;
  telling = s.telling;
}

abbrev pub request_of : Asked → Request
request_of (words.Storm s) = storm s.world.now s.seed s.storm
request_of (words.Sweep s) = sweep (sweep_request s)
request_of (words.Pin p) = pin p.program.now p.world.now
request_of (words.Simplify s) = simplify s.program.now s.world.now s.wanted.items
