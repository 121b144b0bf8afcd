-- The summary of a run: how many lines there are of some kinds, and the last one.
use Rattle.std.specs.Prelude.{◌≡◌, ℕ, ◌+◌, Bool, true, false, List, ◌++◌, count_by, codes, decimal, Result, Ok, Err}
use Rattle.flow_base.specs.declared.fault.OutFault.{OutFault}
use Rattle.flow_base.specs.declared.fault.OutFault.TheVariants.{Failed, OutOfMemory}
use Rattle.flow_trace.specs.declared.line.Line.{Line}
use Rattle.flow_trace.specs.declared.line.Line.TheVariants.{Start, Throw, PrintInt, PrintBool, PrintText}
use Rattle.flow_trace.specs.Bytes.{Bytes}
use Rattle.flow_trace.specs.Groups.{is_event}
use Rattle.flow_top.specs.declared.counting.Counts.{Counts}

abbrev pub is_start : Line → Bool
is_start (Start a class) = true
is_start _ = false

abbrev pub is_throw : Line → Bool
is_throw (Throw a e) = true
is_throw _ = false

abbrev pub is_print : Line → Bool
is_print (PrintInt a value) = true
is_print (PrintBool a value) = true
is_print (PrintText a bytes) = true
is_print _ = false

-- how many lines there are of each kind: events, starts of actors, errors thrown, lines of `trace`
abbrev pub counts_of : List Line → Counts
counts_of lines = record {
  events = count_by is_event lines;
  starts = count_by is_start lines;
  throws = count_by is_throw lines;
  prints = count_by is_print lines;
}

-- a word and a number, as a line
abbrev pub number_line : (word : List ℕ) (n : ℕ) → List ℕ
number_line word n = word ++ codes " " ++ decimal n ++ codes "\n"

abbrev pub bench_line : (clients seed : ℕ) → List ℕ
bench_line clients seed = codes "bench " ++ decimal clients ++ codes " " ++ decimal seed ++ codes "\n"

abbrev pub counts_text : Counts → List ℕ
counts_text c =
    number_line (codes "events") c.events ++ number_line (codes "starts") c.starts ++ number_line (codes "throws") c.throws
    ++ number_line (codes "prints") c.prints

abbrev pub summary_by : (clients seed : ℕ) → Counts → (last : Line) → List ℕ
summary_by clients seed counts last = bench_line clients seed ++ counts_text counts ++ Bytes last

-- the summary of a run of these lines, of which this is the last
abbrev pub summary_text : (clients seed : ℕ) → (lines : List Line) → (last : Line) → List ℕ
summary_text clients seed lines last = summary_by clients seed (counts_of lines) last

-- one, where it is so
abbrev pub one_if : Bool → ℕ
one_if true = 1
one_if false = 0

-- the counts after one line more
abbrev pub counted : Line → Counts → Counts
counted l c = record {
  events = c.events + one_if (is_event l);
  starts = c.starts + one_if (is_start l);
  throws = c.throws + one_if (is_throw l);
  prints = c.prints + one_if (is_print l);
}

-- what a put does to counts: the line is counted, or a count is at its end
abbrev pub CountsLine : Counts → Line → Result (Unit {0}) OutFault → Counts → Type 0
CountsLine old line (Ok done) new = new ≡ counted line old
CountsLine old line (Err Failed) new = ⊥
CountsLine old line (Err OutOfMemory) new = Unit {0}
