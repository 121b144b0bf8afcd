-- What the files in memory do.
use Rattle.std.specs.Prelude.{◌≡◌, ℕ, ◌+◌, List, [], ◌∷◌, ◌++◌, Bool, true, false, not, ◌&&◌, ◌⊎◌, None, Some, Result, Ok, Err, length, min, take, drop, set, get_or, map, position, bytes_eq, string_bytes}
use Rattle.std.specs.List.{list_any}
use Rattle.std.specs.Option.{option_map_or}
use Rattle.std.specs.declared.option.Option.{Option}
use Rattle.std.specs.declared.string.String.{String}
use Rattle.std.specs.declared.vec.Vec.{Vec}
use Rattle.flow_base.specs.Calls.{CallState, next_fails, passed, failed}
use Rattle.flow_base.specs.Seen.{Content, Missing, Bytes, Opening, FilesSeen}
use Rattle.flow_base.specs.declared.fault.OutFault.{OutFault}
use Rattle.flow_base.specs.declared.fault.OutFault.TheVariants.{Failed, OutOfMemory}
use Rattle.flow_base.specs.declared.ids.FileNo.{FileNo}
use Rattle.flow_base.specs.declared.mem_files.Position.{Position}

-- the files, each a name and its bytes; the positions of the openings, by their number; the names asked for; and the calls so far
pub record FilesState : Type 0 where
  pub files : List (List ℕ × List ℕ)
  pub positions : List Position
  pub asked : List (List ℕ)
  pub calls : CallState

-- a name with its bytes
abbrev pub named_bytes : {Z W : Type 0} → String Z × Vec ℕ W → List ℕ × List ℕ
named_bytes f = (string_bytes f.0, f.1.items)

-- no name stands twice
abbrev pub are_distinct : List (List ℕ) → Bool
are_distinct [] = true
are_distinct (name ∷ names) = not (list_any (bytes_eq name) names) && are_distinct names

-- the place among the files of the one with that name, from 0
unfoldable pub place_of : List (List ℕ × List ℕ) → List ℕ → Option ℕ
place_of files name = position (λ f. bytes_eq f.0 name) files

-- the file at a place, or an empty one without a name
abbrev pub file_at : List (List ℕ × List ℕ) → ℕ → List ℕ × List ℕ
file_at files k = get_or files k ([], [])

-- what is told of a name: its bytes, or that there is none
abbrev pub content_of : List (List ℕ × List ℕ) → List ℕ → Content
content_of files name = option_map_or (λ k. Bytes (file_at files k).1) (place_of files name) Missing

-- what is known of an opening at this position
abbrev pub opening_of : List (List ℕ × List ℕ) → Position → Opening
opening_of files p = record {
  name = (file_at files p.file).0;
  read = take p.count (file_at files p.file).1;
  left = Some (drop p.count (file_at files p.file).1);
}

-- what is known of files in memory: everything
abbrev pub seen_of : FilesState → FilesSeen
seen_of s = record {
  content = content_of s.files;
  openings = map (opening_of s.files) s.positions;
  asked = s.asked;
  faults = s.calls.faults;
}

-- the position of an opening, by its number
abbrev pub position_at : List Position → ℕ → Position
position_at positions k = get_or positions k (record { file = 0; count = 0 })

-- the bytes that are left of an opening, by its number
abbrev pub left_at : FilesState → ℕ → List ℕ
left_at s k = drop (position_at s.positions k).count (file_at s.files (position_at s.positions k).file).1

-- the opening of a file goes behind those before it, at its start; it fails at the listed calls and where the name isn't there; and
-- where it finds no memory, it changes nothing
abbrev pub OpensFile : FilesState → List ℕ → Result FileNo OutFault → FilesState → Type 0
OpensFile old name (Ok file) new = record {
  passes : next_fails old.calls ≡ false;
  number : file.0 ≡ length old.positions;
  place : ℕ;
  found : place_of old.files name ≡ Some place;
  rest : new ≡ record old {
    positions = old.positions ++ record { file = place; count = 0 } ∷ [];
    asked = old.asked ++ name ∷ [];
    calls = passed old.calls;
  };
}
OpensFile old name (Err Failed) new =
    ((next_fails old.calls ≡ true) ⊎ (place_of old.files name ≡ None))
    × (new ≡ record old { asked = old.asked ++ name ∷ []; calls = failed old.calls })
OpensFile old name (Err OutOfMemory) new = new ≡ old

-- what a read gives of the bytes that are left: as many as fit, at the front of the buffer
pub record Copies (rest old new : List ℕ) (n : ℕ) : Type 0 where
  pub count : n ≡ min (length rest) (length old)
  pub buffer : new ≡ take n rest ++ drop n old

-- the position of the opening moves behind n bytes more
abbrev pub moved_by : ℕ → Position → Position
moved_by n p = record { file = p.file; count = p.count + n }

-- a read gives as many bytes as are left and fit, and moves the position behind them; it fails at the listed calls alone, and takes
-- no memory
abbrev pub ReadsFile : FilesState → ℕ → List ℕ → Result ℕ OutFault → List ℕ → FilesState → Type 0
ReadsFile old k buffer (Ok n) filled new = record {
  passes : next_fails old.calls ≡ false;
  bytes : Copies (left_at old k) buffer filled n;
  rest : new ≡ record old { positions = set old.positions k (moved_by n (position_at old.positions k)); calls = passed old.calls };
}
ReadsFile old k buffer (Err Failed) filled new =
    (next_fails old.calls ≡ true) × (filled ≡ buffer) × (new ≡ record old { calls = failed old.calls })
ReadsFile old k buffer (Err OutOfMemory) filled new = ⊥
