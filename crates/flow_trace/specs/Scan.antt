-- How a line is cut into its words.
use Rattle.std.specs.Prelude.{ℕ, ◌+◌, ◌-◌, ◌*◌, ◌%◌, Bool, true, false, ◌&&◌, ◌==◌, nat_le, List, [], ◌∷◌, ◌++◌, fold, if◌then◌else◌}
use Rattle.flow_trace.specs.declared.scan.Mode.{Mode}
use Rattle.flow_trace.specs.declared.scan.Mode.TheVariants.{Bare, Quoted, Escape, High, Low}

-- a word, without its quotes and escapes where it has some
pub record WordState : Type 0 where
  pub quoted : Bool
  pub bytes : List ℕ

-- a word of which nothing was read yet
abbrev pub no_word : WordState
no_word = record { quoted = false; bytes = [] }

-- the words read, the one that is being read, and where in it
pub record ScanState : Type 0 where
  pub words : List WordState
  pub word : WordState
  pub mode : Mode

-- one more byte of the word
abbrev pub add : ScanState → ℕ → ScanState
add s b = record s { word = record { quoted = s.word.quoted; bytes = s.word.bytes ++ b ∷ [] } }

-- the value of a hexadecimal digit in lower case
abbrev pub hex_value : ℕ → ℕ
hex_value b = if nat_le 48 b && nat_le b 57 then b - 48 else if nat_le 97 b && nat_le b 102 then b - 87 else 0

-- the byte that a letter behind a backslash stands for
abbrev pub letter_value : ℕ → ℕ
letter_value b = if b == 110 then 10 else if b == 116 then 9 else b

-- the state after one more byte, by where it stands
abbrev pub step_in : Mode → ScanState → ℕ → ScanState
step_in Bare s b =
    if b == 32 then record { words = s.words ++ s.word ∷ []; word = no_word; mode = Bare }
    else if b == 10 then s
    else if b == 34 then record s { word = record { quoted = true; bytes = s.word.bytes }; mode = Quoted }
    else add s b
step_in Quoted s b = if b == 34 then record s { mode = Bare } else if b == 92 then record s { mode = Escape } else add s b
step_in Escape s b = if b == 120 then record s { mode = High } else add (record s { mode = Quoted }) (letter_value b)
step_in High s b = record s { mode = Low (hex_value b) }
step_in (Low high) s b = add (record s { mode = Quoted }) ((high * 16 + hex_value b) % 256)

abbrev pub step : ScanState → ℕ → ScanState
step s b = step_in s.mode s b

abbrev pub scan_start : ScanState
scan_start = record { words = []; word = no_word; mode = Bare }

abbrev pub scan : List ℕ → ScanState
scan bytes = fold step scan_start bytes

-- the words of a line
abbrev pub words_in : List ℕ → List WordState
words_in bytes = (scan bytes).words ++ (scan bytes).word ∷ []
