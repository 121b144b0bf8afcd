-- What is known of files over what opens them.
use Rattle.std.specs.Prelude.{◌≡◌, ℕ, List, [], map, string_bytes}
use Rattle.std.specs.declared.option.Option.{Option}
use Rattle.std.specs.Io.KnownBytes.{Consumes}
use Rattle.flow_base.specs.Seen.{Content, Opening, FilesSeen, read_on}
use Rattle.flow_system.specs.declared.opened.Opened.{Opened}
use Rattle.flow_system.specs.declared.opened.OpenedFiles.{OpenedFiles}

-- what is known of one file that was opened
abbrev pub opened_seen : {R : Type 0} → (R → Option (List ℕ)) → Opened R → Opening
opened_seen remaining o = record { name = string_bytes o.name; read = o.read.items; left = remaining o.file }

-- an opening reads these bytes more of what was left of it
pub record Advances (before after : Opening) (bytes : List ℕ) : Type 0 where
  pub left : Option (List ℕ)
  pub consumes : Consumes before.left left bytes
  pub is : after ≡ read_on before bytes left

-- what is known of all of them, by what is told of each name
abbrev pub files_seen : {O R : Type 0} → (O → List ℕ → Content) → (R → Option (List ℕ)) → OpenedFiles O R → FilesSeen
files_seen content remaining s = record {
  content = content s.opener;
  openings = map (opened_seen remaining) s.openings.items;
  asked = map string_bytes s.asked.items;
  faults = s.faults;
}

-- files of which nothing was asked yet
abbrev pub none_opened : (List ℕ → Content) → FilesSeen
none_opened content = record { content = content; openings = []; asked = []; faults = 0 }
