-- What was decided of a request, and what was read for it.
use Rattle.std.specs.Prelude.{◌≡◌, ℕ, List, [], ◌∷◌, ◌++◌, map}
use Rattle.std.specs.declared.option.Option.{Option}
use Rattle.std.specs.declared.option.Option.TheVariants.{Some}
use Rattle.flow_base.specs.Faults.{next_count}
use Rattle.flow_base.specs.Seen.{Content, Opening, FilesSeen}
use Rattle.flow_class.specs.declared.class.RawClasses.{RawClasses}
use Rattle.flow_words.specs.Asked.{Request}
use Rattle.flow_top.specs.declared.outcome.Meant.{Meant}
use Rattle.flow_top.specs.declared.outcome.Outcome.{Outcome}
use Rattle.flow_top.specs.declared.outcome.Outcome.TheVariants.{Answered}
use Rattle.flow_top.specs.declared.outcome.Answered.TheVariants.{ReadFault, OutOfMemory}
use Rattle.flow_top.specs.Sources.{Source, of_file, first_source, world_source, FileText, read_for, IsOf, names_of, AllWithin, AreTexts}
use Rattle.flow_top.specs.Due.{IsRunFor, Due}

-- a name and bytes that were read by it
abbrev pub read_by : Opening → List ℕ × List ℕ
read_by opening = (opening.name, opening.read)

abbrev pub bytes_by : FileText → List ℕ × List ℕ
bytes_by f = (f.name, f.text)

-- These names were asked for since, in their order; these files were opened since, in theirs; and these bytes were read of them, one
-- past the limit at most.
pub record ReadsFiles (before after : FilesSeen) (names : List (List ℕ)) (files : List FileText) : Type 0 where
  pub asked : after.asked ≡ before.asked ++ names
  pub opened : map read_by after.openings ≡ map read_by before.openings ++ map bytes_by files
  pub within : AllWithin files

-- The name asked for where a text was to be had from a source, and what was read of its file, if it was opened: all, or a first part.
pub data AskedFor : Source → List (List ℕ) → List FileText → Type 0 where
  none_asked : (s : Source) → AskedFor s [] []
  none_opened : (name : List ℕ) (most : ℕ) → AskedFor (of_file name most) (name ∷ []) []
  one_opened : (name : List ℕ) (most : ℕ) (text : List ℕ)
      → AskedFor (of_file name most) (name ∷ []) (record { name = name; most = most; text = text } ∷ [])

-- The names asked for where a call failed or there was no memory, and what was read: for the first text, and then for the world's
-- only where something is run by the first.
pub data AskedSome (content : List ℕ → Content) (q : Request) : List (List ℕ) → List FileText → Type 0 where
  first : (names : List (List ℕ)) (files : List FileText) → AskedFor (first_source q) names files → AskedSome content q names files
  then_world : (text : List ℕ) (meant : Meant) (classes : RawClasses) (s : Source) (names : List (List ℕ)) (files : List FileText)
      → IsOf (first_source q) text → AreTexts content (read_for (first_source q) text) → IsRunFor text q meant classes
      → world_source q ≡ Some s → AskedFor s names files
      → AskedSome content q (names_of (read_for (first_source q) text) ++ names) (read_for (first_source q) text ++ files)

-- What was decided: what is due by the texts that were read, which are those of their files, and no call of the files failed; or a
-- read fault, where one call failed; or want of memory, which may come before any file is asked for.
pub data Decided (asked : Option Request) (before after : FilesSeen) : Outcome → Type 0 where
  due : (outcome : Outcome) (files : List FileText) → Due asked outcome files → ReadsFiles before after (names_of files) files
      → AreTexts before.content files → after.faults ≡ before.faults → Decided asked before after outcome
  read_fault : (q : Request) (names : List (List ℕ)) (files : List FileText) → asked ≡ Some q → AskedSome before.content q names files
      → ReadsFiles before after names files → after.faults ≡ next_count before.faults → Decided asked before after (Answered ReadFault)
  no_memory : (q : Request) (names : List (List ℕ)) (files : List FileText) → asked ≡ Some q → AskedSome before.content q names files
      → ReadsFiles before after names files → after.faults ≡ before.faults → Decided asked before after (Answered OutOfMemory)
  no_memory_at_once : after ≡ before → Decided asked before after (Answered OutOfMemory)
