-- The arguments that command words take, as clap's own definition reads them.
use Rattle.std.specs.Prelude.{Bool, true, false, List, Option, Some, None, codes, bytes_eq, if◌then◌else◌}
use Rattle.clap.specs.Words.{App, Rule, Row, Text, new_app, new_rule, with_rule, fault_of, matches_of, first_of}
use Rattle.clap.specs.Walk.{is_empty}
use Rattle.clap.specs.Simple.{Shape, on_top}
use Rattle.clap.specs.declared.builder.action.ArgAction.TheVariants.{Set, SetTrue}

-- a text that has to be there, by its place
abbrev pub required_text : Text → Rule
required_text id = record (new_rule id) { required = true; action = Some Set }

-- `--ID`, which may be there
abbrev pub flag : Text → Rule
flag id = record (new_rule id) { long = Some id; action = Some SetTrue }

-- `--ID TEXT`, which may be there
abbrev pub option_text : Text → Rule
option_text id = record (new_rule id) { long = Some id; action = Some Set }

-- no program's name is read, and there is no help and no version
abbrev pub bare_shape : Shape → Shape
bare_shape s = record s { no_binary_name = true; disable_help_flag = true; disable_version_flag = true }

-- no argument
abbrev pub bare_app : App
bare_app = on_top bare_shape (new_app (codes "flow"))

-- one text
abbrev pub one_text_app : App
one_text_app = with_rule bare_app (required_text (codes "first"))

-- two texts
abbrev pub two_texts_app : App
two_texts_app = with_rule one_text_app (required_text (codes "second"))

-- two texts, `--frames` and `--monitor LIST`
abbrev pub run_app : App
run_app = with_rule (with_rule two_texts_app (flag (codes "frames"))) (option_text (codes "monitor"))

-- two texts and `--monitor LIST`
abbrev pub shrink_app : App
shrink_app = with_rule two_texts_app (option_text (codes "monitor"))

-- three texts
abbrev pub three_texts_app : App
three_texts_app = with_rule two_texts_app (required_text (codes "third"))

-- what clap reads of the words, where its definition finds no fault in them
abbrev pub matched : App → (words : List Text) → Option (List Row)
matched app words = if is_empty (fault_of app words) then Some (matches_of app words) else None

-- the text of an argument
abbrev pub first_text : List Row → Option Text
first_text rows = first_of (codes "first") rows

abbrev pub second_text : List Row → Option Text
second_text rows = first_of (codes "second") rows

abbrev pub third_text : List Row → Option Text
third_text rows = first_of (codes "third") rows

abbrev pub monitor_text : List Row → Option Text
monitor_text rows = first_of (codes "monitor") rows

-- whether `--frames` is there
abbrev pub is_true : Option Text → Bool
is_true None = false
is_true (Some text) = bytes_eq text (codes "true")

abbrev pub has_frames : List Row → Bool
has_frames rows = is_true (first_of (codes "frames") rows)
