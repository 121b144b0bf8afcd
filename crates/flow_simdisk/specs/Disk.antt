-- The disk of a process: files with durable bytes and unsynced writes, what a request does to them, and
-- what a loss of power leaves.
use Rattle.std.specs.Prelude.{◌≡◌, ℕ, zero, suc, ◌+◌, ◌-◌, ◌%◌, List, [], ◌∷◌, ◌++◌, length, take, drop, replicate, fold}
use Rattle.std.specs.Option.{unwrap_or}
use Rattle.std.specs.Ordering.{nat_cmp}
use Rattle.std.specs.Cmp.Lexicographic.{slice_cmp}
use Rattle.std.specs.Map.{lookup, set_value}
use Rattle.std.specs.BTreeMap.{is_at, insert_entry}
use Rattle.flow_draw.specs.declared.question.Question.{Question}
use Rattle.flow_draw.specs.declared.question.Question.TheVariants.{Among}
use Rattle.flow_simdisk.specs.declared.ask.DiskReply.{DiskReply}
use Rattle.flow_simdisk.specs.declared.ask.DiskReply.TheVariants.{Text, Done, Size, Failed}
use Rattle.flow_simdisk.specs.declared.write.Write.{Write}
use Rattle.flow_simdisk.specs.declared.write.Kept.{Kept}
use Rattle.flow_simdisk.specs.Asks.{DiskCall, ReadCall, WriteCall, SyncCall, SizeCall}

-- the bytes of a file that a loss of power can't take, and the writes after them that it can, oldest first
pub record File : Type 0 where
  pub durable : List ℕ
  pub unsynced : List Write

-- how many of the next requests fail, and the files by name, in the order of the bytes of their names;
-- a file that isn't there is empty
pub record Disk : Type 0 where
  pub fails : ℕ
  pub files : List (List ℕ × File)

-- these bytes, and zeros behind them up to this length
abbrev pub padded : List ℕ → ℕ → List ℕ
padded bytes n = bytes ++ replicate (n - length bytes) 0

-- bytes with others over them from an offset on
abbrev pub over : List ℕ → ℕ → List ℕ → List ℕ
over old offset bytes = take offset old ++ bytes ++ drop (offset + length bytes) old

-- the bytes of a file after a write: a gap before it is padded with zeros, and an empty write changes
-- nothing
abbrev pub written : List ℕ → ℕ → List ℕ → List ℕ
written old offset [] = old
written old offset (b ∷ bs) = over (padded old offset) offset (b ∷ bs)

abbrev pub applied : List ℕ → Write → List ℕ
applied old w = written old w.offset w.text

-- the bytes that a program sees: those after all unsynced writes
abbrev pub seen_bytes : File → List ℕ
seen_bytes f = fold applied f.durable f.unsynced

abbrev pub empty_file : File
empty_file = record { durable = []; unsynced = [] }

-- the file of a name
abbrev pub file_named : List (List ℕ × File) → List ℕ → File
file_named fs x = unwrap_or (lookup (is_at (slice_cmp nat_cmp x)) fs) empty_file

-- the files with this one under its name
abbrev pub with_file : List (List ℕ × File) → List ℕ → File → List (List ℕ × File)
with_file fs x g = insert_entry (slice_cmp nat_cmp) fs x g

-- a write of a byte or more joins the unsynced writes of its file
abbrev pub joined : File → Write → File
joined f w = record { durable = f.durable; unsynced = f.unsynced ++ w ∷ [] }

abbrev pub with_write : List (List ℕ × File) → List ℕ → ℕ → List ℕ → List (List ℕ × File)
with_write fs x offset [] = fs
with_write fs x offset (b ∷ bs) = with_file fs x (joined (file_named fs x) (record { offset = offset; text = b ∷ bs }))

-- a sync makes all that a program sees durable, in a file that is there
abbrev pub synced : File → File
synced f = record { durable = seen_bytes f; unsynced = [] }

abbrev pub with_sync : List (List ℕ × File) → List ℕ → List (List ℕ × File)
with_sync fs x = set_value (is_at (slice_cmp nat_cmp x)) fs (synced (file_named fs x))

-- what a request that doesn't fail does to the files, and its answer
abbrev pub files_after : DiskCall ℕ → List (List ℕ × File) → List (List ℕ × File)
files_after (ReadCall x offset count) fs = fs
files_after (WriteCall x offset bytes) fs = with_write fs x offset bytes
files_after (SyncCall x) fs = with_sync fs x
files_after (SizeCall x) fs = fs

abbrev pub reply_of : DiskCall ℕ → List (List ℕ × File) → DiskReply
reply_of (ReadCall x offset count) fs = Text (take count (drop offset (seen_bytes (file_named fs x))))
reply_of (WriteCall x offset bytes) fs = Done
reply_of (SyncCall x) fs = Done
reply_of (SizeCall x) fs = Size (length (seen_bytes (file_named fs x)))

-- a request takes effect, or fails without effect while the count of failures is above zero
abbrev pub served : DiskCall ℕ → ℕ → List (List ℕ × File) → Disk × DiskReply
served q zero fs = (record { fails = 0; files = files_after q fs }, reply_of q fs)
served q (suc n) fs = (record { fails = n; files = fs }, Failed)

-- the disk after a request that it served, and what it answered
abbrev pub Serves : DiskCall ℕ → Disk → Disk → DiskReply → Type 0
Serves q before after reply = (after, reply) ≡ served q before.fails before.files

-- what a loss of power keeps of a write: by a word, all of it, nothing, or a first part whose length a
-- second word gives; with what the words are asked for
pub record Fate : Type 0 where
  pub kept : ℕ
  pub asked : List Question

abbrev pub fate_by : ℕ → ℕ → ℕ → Fate
fate_by zero size next = record { kept = size; asked = Among 3 ∷ [] }
fate_by (suc zero) size next = record { kept = 0; asked = Among 3 ∷ [] }
fate_by (suc (suc n)) size next = record { kept = next % size; asked = Among 3 ∷ Among size ∷ [] }

-- the fate of a write when the words from this number on are drawn
abbrev pub fate : (ℕ → ℕ) → ℕ → Write → Fate
fate word k w = fate_by (word k % 3) (length w.text) (word (suc k))

-- what a loss of power did to a write of this file
abbrev pub kept_of : List ℕ → Write → ℕ → Kept
kept_of x w n = record { name = x; offset = w.offset; length = length w.text; kept = n }

-- a loss of power in progress: what is left so far, what its words were asked for, and what became of each write so far
pub record Losing (A : Type 0) : Type 0 where
  pub left : A
  pub asked : List Question
  pub fates : List Kept

-- what is kept of each write is applied in order
abbrev pub lose_write : (ℕ → ℕ) → List ℕ → Losing (List ℕ) → Write → Losing (List ℕ)
lose_write word x l w = record {
  left = written l.left w.offset (take (fate word (length l.asked) w).kept w.text);
  asked = l.asked ++ (fate word (length l.asked) w).asked;
  fates = l.fates ++ kept_of x w (fate word (length l.asked) w).kept ∷ [];
}

abbrev pub lose_file : (ℕ → ℕ) → List Question → List Kept → List ℕ → File → Losing (List ℕ)
lose_file word asked fates x f = fold (lose_write word x) (record { left = f.durable; asked = asked; fates = fates }) f.unsynced

-- a file without a byte isn't there
abbrev pub with_bytes : List (List ℕ × File) → List ℕ → List ℕ → List (List ℕ × File)
with_bytes fs x [] = fs
with_bytes fs x (b ∷ bs) = with_file fs x (record { durable = b ∷ bs; unsynced = [] })

abbrev pub lose_next : List (List ℕ × File) → List ℕ → Losing (List ℕ) → Losing (List (List ℕ × File))
lose_next fs x l = record { left = with_bytes fs x l.left; asked = l.asked; fates = l.fates }

-- all files of a disk, in the order of their names
abbrev pub lose_files : (ℕ → ℕ) → Losing (List (List ℕ × File)) → List (List ℕ × File) → Losing (List (List ℕ × File))
lose_files word l fs = fold (λ l f. lose_next l.left f.0 (lose_file word l.asked l.fates f.0 f.1)) l fs

-- a loss of power on a disk, by the words that are drawn from now on
abbrev pub power_lost : (ℕ → ℕ) → List (List ℕ × File) → Losing (List (List ℕ × File))
power_lost word fs = lose_files word (record { left = []; asked = []; fates = [] }) fs
