-- How files are kept: what is known of their bytes, and the plain data that they are made from.
use Rattle.std.specs.Prelude.{◌≡◌, ◌≢◌, ℕ, ◌+◌, ◌*◌, ◌≤◌, List, [], length, fold, map, sum_by}
use Rattle.std.specs.declared.alloc.Global.{Global}
use Rattle.std.specs.declared.vec.Vec.{Vec}
use Rattle.std.specs.List.{All}
use Rattle.std.specs.List.Sorted.{IsStrictlySortedBy}
use Rattle.std.specs.Ordering.{nat_cmp}
use Rattle.std.specs.Cmp.Lexicographic.{slice_cmp}
use Rattle.std.specs.Map.{keys_of}
use Rattle.flow_draw.specs.declared.question.Question.{Question}
use Rattle.flow_draw.specs.Words.{Drawn, word_in, asked}
use Rattle.flow_simdisk.specs.declared.write.Write.{Write}
use Rattle.flow_simdisk.specs.declared.write.Kept.{Kept}
use Rattle.flow_simdisk.specs.declared.state.FileState.{FileState}
use Rattle.flow_simdisk.specs.declared.TheConstants.{FILE_BYTES}
use Rattle.flow_simdisk.specs.Disk.{File, Disk, over, applied, joined, file_named, with_file, with_sync, Losing}

-- bytes with those of each write over them
abbrev pub all_over : List ℕ → List Write → List ℕ
all_over bytes ws = fold (λ bs w. over bs w.offset w.text) bytes ws

abbrev pub HasByte : Write → Type 0
HasByte w = w.text ≢ []

-- each write ends by so many bytes
abbrev pub EndsBy : ℕ → List Write → Type 0
EndsBy n ws = All (λ w. w.offset + length w.text ≤ n) ws

abbrev pub FitsFile : Write → Type 0
FitsFile w = HasByte w × (w.offset + length w.text ≤ FILE_BYTES)

-- The bytes of a file, its unsynced writes, and the bytes that a program sees: each write has a byte, and no byte is
-- past the end of a file.
pub record IsWhole (durable : List ℕ) (unsynced : List Write) (seen : List ℕ) : Type 0 where
  pub seen_is : seen ≡ fold applied durable unsynced
  pub durable_fits : length durable ≤ FILE_BYTES
  pub seen_fits : length seen ≤ FILE_BYTES
  pub writes_fit : All FitsFile unsynced

-- files by the bytes of their names
abbrev pub files_of : List (Vec ℕ Global × File) → List (List ℕ × File)
files_of es = map (λ e. (e.0.items, e.1)) es

-- a file that is there has a durable byte or an unsynced write
abbrev pub IsThere : File → Type 0
IsThere f = 1 ≤ length f.durable + length f.unsynced

-- names are no longer than a text, and the files are there
abbrev pub HasFiles : List (Vec ℕ Global × File) → Type 0
HasFiles es = All (λ e. (length e.0.items ≤ 65535) × IsThere e.1) es

-- a write joins those of its file
abbrev pub with_joined : Disk → List ℕ → Write → Disk
with_joined d x w = record d { files = with_file d.files x (joined (file_named d.files x) w) }

-- a file that is there is synced
abbrev pub with_synced : Disk → List ℕ → Disk
with_synced d x = record d { files = with_sync d.files x }

-- files as plain data
abbrev pub write_in : ℕ × List ℕ → Write
write_in w = record { offset = w.0; text = w.1 }

abbrev pub file_in : FileState → File
file_in s = record { durable = s.durable.items; unsynced = map write_in s.unsynced.items }

abbrev pub files_in : List FileState → List (List ℕ × File)
files_in ss = map (λ s. (s.name, file_in s)) ss

-- no byte is past the end of a file, each write has a byte, and the file is there
pub record CanRestore (s : FileState) : Type 0 where
  pub durable_fits : length s.durable.items ≤ FILE_BYTES
  pub writes_fit : All FitsFile (map write_in s.unsynced.items)
  pub there : IsThere (file_in s)

-- files in any order, each put in its place by its name, a later one in place of an earlier one of the same name
abbrev pub in_order_of_names : List (List ℕ × File) → List (List ℕ × File)
in_order_of_names fs = fold (λ gs f. with_file gs f.0 f.1) [] fs

-- names rise
abbrev pub HasRisingNames : List (List ℕ × File) → Type 0
HasRisingNames fs = IsStrictlySortedBy (slice_cmp nat_cmp) (keys_of fs)

-- files whose names rise stand in their places
abbrev pub StandInOrder : Type 0
StandInOrder = (fs : List (List ℕ × File)) → HasRisingNames fs → in_order_of_names fs ≡ fs

-- the most words that a loss of power takes: two for each write
abbrev pub most_words : List (List ℕ × File) → ℕ
most_words fs = 2 * sum_by (λ f. length f.1.unsynced) fs

-- a loss of power that has come so far
abbrev pub losing : {A : Type 0} → A → List Question → List Kept → Losing A
losing left asked fates = record { left = left; asked = asked; fates = fates }

-- a loss of power has come as far as this from the draws at its start: what is left, what became of writes, the draws now
abbrev pub HasCome : {A : Type 0} → Losing A → (start : Drawn) → A → List Kept → (now : Drawn) → Type 0
HasCome l start left fates now = (left ≡ l.left) × (fates ≡ l.fates) × (now ≡ asked start l.asked)

-- a loss of power goes on from some draws to others, whatever it asked before: this is what the definition makes of its words
-- and of what it asked
abbrev pub GoesOn : {A : Type 0} → ((ℕ → ℕ) → List Question → Losing A) → (old : Drawn) → A → List Kept → (new : Drawn) → Type 0
GoesOn goes old left fates new =
    (start : Drawn) (qs : List Question) → old ≡ asked start qs → HasCome (goes (word_in start) qs) start left fates new
