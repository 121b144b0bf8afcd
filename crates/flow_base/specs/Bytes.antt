-- Bytes that are told, and parts of them.
use Rattle.std.specs.Prelude.{◌≡◌, ◌≢◌, ℕ, ◌≤◌, List, ◌++◌, length, take, None, Some, IfSome}
use Rattle.std.specs.Option.{option_map}
use Rattle.std.specs.declared.option.Option.{Option}
use Rattle.std.specs.Io.KnownBytes.{Appends}
use Rattle.flow_base.specs.Seen.{Content, Missing, told_bytes}

-- the bytes told grow by a first part of the piece
abbrev pub AppendsPart : Option (List ℕ) → Option (List ℕ) → List ℕ → Type 0
AppendsPart old new piece = (front back : List ℕ) × (piece ≡ front ++ back) × Appends old new front

-- the bytes told after begin with those told before
abbrev pub Grows : Option (List ℕ) → Option (List ℕ) → Type 0
Grows before after = IfSome before (λ bytes. option_map (take (length bytes)) after ≡ Some bytes)

-- the bytes are the first n of those told, or all of them where there are fewer; of bytes that
-- aren't told, they are at most n
abbrev pub AreFirst : ℕ → Option (List ℕ) → List ℕ → Type 0
AreFirst n None bytes = length bytes ≤ n
AreFirst n (Some told) bytes = bytes ≡ take n told

-- the bytes are the first n of a file that isn't missing
abbrev pub AreFirstOf : ℕ → Content → List ℕ → Type 0
AreFirstOf n content bytes = (content ≢ Missing) × AreFirst n (told_bytes content) bytes
