-- What is known of files and of a sink.
use Rattle.std.specs.Prelude.{◌≡◌, ◌≢◌, ℕ, ◌≤◌, List, [], ◌∷◌, ◌++◌, length, set, get_or, Result, Ok, Err}
use Rattle.std.specs.Io.KnownBytes.{Consumes}
use Rattle.std.specs.declared.option.Option.{Option}
use Rattle.std.specs.declared.option.Option.TheVariants.{None, Some}
use Rattle.flow_base.specs.declared.fault.OutFault.{OutFault}
use Rattle.flow_base.specs.declared.ids.FileNo.{FileNo}

-- What is told of a file: nothing, that there is none of this name, or its bytes.
pub data Content : Type 0 where
  Untold : Content
  Missing : Content
  Bytes : List ℕ → Content

-- A file that was opened: by which name, the bytes that were read of it so far, and those that are left of it, where they are told.
pub record Opening : Type 0 where
  pub name : List ℕ
  pub read : List ℕ
  pub left : Option (List ℕ)

-- What is told of each name; the files that were opened, by their number, in the order of opening; the names asked for; and how
-- often a call failed.
pub record FilesSeen : Type 0 where
  pub content : List ℕ → Content
  pub openings : List Opening
  pub asked : List (List ℕ)
  pub faults : ℕ

-- The bytes that were written, where they are told; those of them that were handed on; and how often a call failed.
pub record SinkSeen : Type 0 where
  pub written : Option (List ℕ)
  pub handed : Option (List ℕ)
  pub faults : ℕ

-- the bytes of a file, where they are told
abbrev pub told_bytes : Content → Option (List ℕ)
told_bytes Untold = None
told_bytes Missing = None
told_bytes (Bytes bytes) = Some bytes

-- an opening by a name of which nothing was read yet
abbrev pub just_opened : List ℕ → Content → Opening
just_opened name content = record { name = name; read = []; left = told_bytes content }

-- the opening after these bytes more were read
abbrev pub read_on : Opening → List ℕ → Option (List ℕ) → Opening
read_on opening bytes left = record { name = opening.name; read = opening.read ++ bytes; left = left }

-- the opening of this number
abbrev pub opening_at : List Opening → ℕ → Opening
opening_at openings k = get_or openings k (just_opened [] Missing)

-- An opening goes behind those before it, and its number is how many these are. A name that is missing isn't opened, and a call
-- that fails opens nothing.
abbrev pub Opens : FilesSeen → List ℕ → Result FileNo OutFault → FilesSeen → Type 0
Opens before name (Ok file) after = record {
  there : before.content name ≢ Missing;
  number : file.0 ≡ length before.openings;
  openings : after.openings ≡ before.openings ++ just_opened name (before.content name) ∷ [];
}
Opens before name (Err fault) after = after.openings ≡ before.openings

-- These bytes more were read by the opening of this number, from what was left of it; the other openings stay.
pub record ReadsOn (before after : List Opening) (k : ℕ) (bytes : List ℕ) : Type 0 where
  pub left : Option (List ℕ)
  pub consumes : Consumes (opening_at before k).left left bytes
  pub openings : after ≡ set before k (read_on (opening_at before k) bytes left)

-- at most n bytes more were read by this opening
abbrev pub ReadsSome : ℕ → List Opening → List Opening → ℕ → Type 0
ReadsSome n before after k = (bytes : List ℕ) × (length bytes ≤ n) × ReadsOn before after k bytes

-- A file of this name was asked for and opened, and these bytes of it were read from its start.
pub record ReadsFrom (before after : FilesSeen) (name bytes : List ℕ) : Type 0 where
  pub asked : after.asked ≡ before.asked ++ name ∷ []
  pub there : before.content name ≢ Missing
  pub left : Option (List ℕ)
  pub consumes : Consumes (told_bytes (before.content name)) left bytes
  pub openings : after.openings ≡ before.openings ++ record { name = name; read = bytes; left = left } ∷ []

-- a file of this name was opened, and at most n of its bytes were read; or none was opened
pub data ReadsWithin (n : ℕ) (name : List ℕ) (before after : FilesSeen) : Type 0 where
  opened : (bytes : List ℕ) → length bytes ≤ n → ReadsFrom before after name bytes → ReadsWithin n name before after
  unopened : after.openings ≡ before.openings → ReadsWithin n name before after
