-- Where the texts come from that a request is about.
use Rattle.std.specs.Prelude.{◌≡◌, ℕ, ◌+◌, ◌≤◌, List, [], ◌∷◌, length, map}
use Rattle.std.specs.declared.option.Option.{Option}
use Rattle.std.specs.declared.option.Option.TheVariants.{None, Some}
use Rattle.flow_base.specs.Bytes.{AreFirstOf}
use Rattle.flow_base.specs.Seen.{Content}
use Rattle.flow_gen.specs.Generator.{program_text, generated_world}
use Rattle.flow_tree.specs.declared.limits.TheConstants.{PROGRAM_BYTES}
use Rattle.flow_worldfile.specs.declared.TheConstants.{WORLD_BYTES}
use Rattle.flow_classread.specs.declared.read.TheConstants.{CLASS_BYTES}
use Rattle.flow_words.specs.Asked.{Request, format, check, compile, run, exec, bench, shrink, debug, upgrade}
use Rattle.flow_top.specs.declared.source.Source as code
use Rattle.flow_top.specs.declared.source.Source.TheVariants.{File, GeneratedProgram, GeneratedWorld}

-- A text comes from the file of a name, with the most bytes of a text of its kind, or it is generated.
pub data Source : Type 0 where
  of_file : (name : List ℕ) (most : ℕ) → Source
  generated : (text : List ℕ) → Source

-- a program's text, or a class text
abbrev pub first_source : Request → Source
first_source (format program) = of_file program PROGRAM_BYTES
first_source (check program) = of_file program PROGRAM_BYTES
first_source (compile program) = of_file program PROGRAM_BYTES
first_source (run r) = of_file r.what PROGRAM_BYTES
first_source (exec r) = of_file r.what CLASS_BYTES
first_source (bench clients seed) = generated (program_text clients)
first_source (shrink program world want) = of_file program PROGRAM_BYTES
first_source (debug program world most) = of_file program PROGRAM_BYTES
first_source (upgrade classes) = of_file classes CLASS_BYTES

-- the text of the world in which something is run
abbrev pub world_source : Request → Option Source
world_source (run r) = Some (of_file r.world WORLD_BYTES)
world_source (exec r) = Some (of_file r.world WORLD_BYTES)
world_source (bench clients seed) = Some (generated (generated_world seed))
world_source (shrink program world want) = Some (of_file world WORLD_BYTES)
world_source (debug program world most) = Some (of_file world WORLD_BYTES)
world_source _ = None

-- the source as the code has it
abbrev pub source_of : code.Source → Source
source_of (File name most) = of_file name.now most
source_of (GeneratedProgram clients) = generated (program_text clients)
source_of (GeneratedWorld clients seed) = generated (generated_world seed)

-- A file that was read: its name, the most bytes of a text of its kind, and the bytes that were read of it.
pub record FileText : Type 0 where
  pub name : List ℕ
  pub most : ℕ
  pub text : List ℕ

-- the file that is read for a text of a source, if there is one
abbrev pub read_for : Source → (text : List ℕ) → List FileText
read_for (of_file name most) text = record { name = name; most = most; text = text } ∷ []
read_for (generated own) text = []

-- the text is the source's own, if it has one
abbrev pub IsOf : Source → (text : List ℕ) → Type 0
IsOf (of_file name most) text = Unit {0}
IsOf (generated own) text = text ≡ own

-- the names of files
abbrev pub names_of : List FileText → List (List ℕ)
names_of files = map (λ (f : FileText). f.name) files

-- each of these texts ends one byte past its limit at most
abbrev pub AllWithin : List FileText → Type 0
AllWithin [] = Unit {0}
AllWithin (f ∷ files) = (length f.text ≤ f.most + 1) × AllWithin files

-- a text is as much of what is told of its file as tells a text within the limit from a longer one
abbrev pub IsText : (List ℕ → Content) → FileText → Type 0
IsText content f = AreFirstOf (f.most + 1) (content f.name) f.text

-- so is each of these texts
abbrev pub AreTexts : (List ℕ → Content) → List FileText → Type 0
AreTexts content [] = Unit {0}
AreTexts content (f ∷ files) = IsText content f × AreTexts content files
