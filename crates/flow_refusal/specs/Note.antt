-- The note on a refusal: the place in its file, what the rule asks, and the line with a mark under the place.
use Rattle.std.specs.Prelude.{◌≡◌, ℕ, zero, suc, ◌+◌, ◌-◌, Bool, not, ◌&&◌, ◌||◌, ◌==◌, min, nat_lt, length, List, [], ◌∷◌, ◌++◌, map, take, drop, codes, decimal, if◌then◌else◌}
use Rattle.std.specs.Str.{is_utf8}
use Rattle.std.specs.List.{position_or_len}
use Rattle.flow_base.specs.declared.place.Place.{Place}
use Rattle.flow_tree.specs.declared.fault.Rule.TheVariants.{L}
use Rattle.flow_tree.specs.declared.fault.SourceFault.{SourceFault}
use Rattle.flow_tree.specs.declared.fault.SourceFault.TheVariants.{Refused, AcrossWait, OutOfMemory}
use Rattle.flow_classread.specs.declared.fault.ClassFault.{ClassFault}
use Rattle.flow_classread.specs.declared.fault.ClassFault.TheVariants as class
use Rattle.flow_worldfile.specs.declared.world.WorldFault.{WorldFault}
use Rattle.flow_worldfile.specs.declared.world.WorldFault.TheVariants as world
use Rattle.flow_refusal.specs.Refusal.{place_text, refusal_text, class_refusal, world_refusal, script_refusal}

-- what stands in a text up to its first line feed, and behind it
abbrev pub first_feed : List ℕ → ℕ
first_feed text = position_or_len (λ b. b == 10) text

abbrev pub until_feed : List ℕ → List ℕ
until_feed text = take (first_feed text) text

abbrev pub behind_feed : List ℕ → List ℕ
behind_feed text = drop (first_feed text + 1) text

-- a text from the begin of a line on, so many lines behind the first; and the line with a number, from 1
abbrev pub lines_on : ℕ → List ℕ → List ℕ
lines_on zero text = text
lines_on (suc n) text = lines_on n (behind_feed text)

abbrev pub line_at : List ℕ → (number : ℕ) → List ℕ
line_at text number = until_feed (lines_on (number - 1) text)

-- a byte that goes on a character of UTF-8
abbrev pub is_continuation : ℕ → Bool
is_continuation b = nat_lt 127 b && nat_lt b 192

-- A byte as it is shown of a line that is UTF-8, or isn't: a byte over 127 stands for itself in UTF-8, so does a tab; any other byte
-- outside 32 to 126 is a question mark.
abbrev pub shown : (whole : Bool) → ℕ → ℕ
shown whole b = if b == 9 || (whole && nat_lt 127 b) then b else if nat_lt b 32 || nat_lt 126 b then 63 else b

-- where a line is cut that is cut so many bytes behind its begin: behind the character that stands there, and at its end at most
abbrev pub cut : List ℕ → ℕ → ℕ
cut line n = let at = min n (length line) in at + position_or_len (λ b. not (is_continuation b)) (drop at line)

-- the part of a line around a column, so many bytes behind its begin: about 60 bytes before it, and 120 in all
abbrev pub window : List ℕ → (before : ℕ) → List ℕ
window line before = let rest = drop (cut line (before - 60)) line in map (shown (is_utf8 line)) (take (cut rest 120) rest)

-- what stands under a byte before a place, so that the mark stands under it: a tab under a tab, else a blank under each character
abbrev pub under_one : (whole : Bool) → ℕ → List ℕ
under_one whole b = if b == 9 then 9 ∷ [] else if whole && is_continuation b then [] else 32 ∷ []

abbrev pub under : (whole : Bool) → List ℕ → List ℕ
under whole [] = []
under whole (b ∷ bs) = under_one whole b ++ under whole bs

abbrev pub indent : List ℕ → (before : ℕ) → List ℕ
indent line before = under (is_utf8 line) (drop (cut line (before - 60)) (take before line))

-- the line of a place, around it, and a mark under the place
abbrev pub excerpt : (text : List ℕ) → Place → List ℕ
excerpt text at = let line = line_at text at.line in window line (at.column - 1) ++ codes "\n" ++ indent line (at.column - 1) ++ codes "^\n"

-- words behind what they are said of
abbrev pub said : (words : List ℕ) → List ℕ
said words = codes ": " ++ words ++ codes "\n"

-- a place in a file, words on it, and the excerpt
abbrev pub remark : (name text : List ℕ) → Place → (words : List ℕ) → List ℕ
remark name text at words = name ++ codes ":" ++ place_text at ++ said words ++ excerpt text at

-- words on a file as a whole
abbrev pub overall : (name words : List ℕ) → List ℕ
overall name words = name ++ said words

-- words on a line of a file, and the line
abbrev pub line_remark : (name text : List ℕ) → (line : ℕ) → (words : List ℕ) → List ℕ
line_remark name text line words = name ++ codes ":" ++ decimal line ++ said words ++ window (line_at text line) 0 ++ codes "\n"

-- that an actor of a process waits at a place in a file
abbrev pub waits_at : (file : List ℕ) → Place → List ℕ
waits_at file at = file ++ codes ":" ++ place_text at

abbrev pub who_waits : (process actor : List ℕ) → List ℕ
who_waits process actor = codes ": actor " ++ actor ++ codes " of process " ++ process

abbrev pub waits_here : (name : List ℕ) → List ℕ
waits_here name = codes ", " ++ name ++ codes ", waits here\n"

abbrev pub wait_note : (file text process actor name : List ℕ) → Place → List ℕ
wait_note file text process actor name at = waits_at file at ++ who_waits process actor ++ waits_here name ++ excerpt text at

-- how many of the lines of a script are left
abbrev pub left_note : (left all : ℕ) → List ℕ
left_note left all = decimal left ++ codes " of " ++ decimal all
    ++ (if left == 1 then codes " lines is left\n" else codes " lines are left\n")

-- The note on a program: the place where a rule fails; or the use of a local that is lost, its declaration and the wait.
-- The limit on the bytes of a text has no place.
abbrev pub program_note : (words name text : List ℕ) → SourceFault → List ℕ
program_note words name text (Refused (L n) at) = if n == 1 then overall name words else remark name text at words
program_note words name text (Refused rule at) = remark name text at words
program_note words name text (AcrossWait at declared wait) =
    remark name text at words ++ remark name text declared (codes "declared here") ++ remark name text wait (codes "the wait")
program_note words name text OutOfMemory = []

-- the note on a class text: the line with which none goes on, or words on the whole of it
abbrev pub class_note : (words name text : List ℕ) → ClassFault → List ℕ
class_note words name text (class.Form line) = line_remark name text line words
class_note words name text (class.Invalid rule of) = overall name words
class_note words name text class.TooLarge = overall name words
class_note words name text class.OutOfMemory = []

-- the note on a world file: the line that breaks a rule
abbrev pub world_note : (words name text : List ℕ) → WorldFault → List ℕ
world_note words name text (world.Form line) = line_remark name text line words
world_note words name text (world.Range line) = line_remark name text line words
world_note words name text (world.Twice line) = line_remark name text line words
world_note words name text (world.NoProcess line) = line_remark name text line words
world_note words name text world.TooLarge = overall name words
world_note words name text world.OutOfMemory = []

-- What may be noted on a line that was answered, where the program or class text has this name and text, and the world that: the places
-- that are shown first are those that the line tells, more may be said behind, and nothing is noted on a line that tells of no fault.
pub data Notes : (answer : List ℕ) → (name text : List ℕ) → (world world_text : List ℕ) → (note : List ℕ) → Type 0 where
  on_program : {answer name text world world_text note : List ℕ} (words more : List ℕ) (fault : SourceFault)
      → answer ≡ refusal_text fault → note ≡ program_note words name text fault ++ more
      → Notes answer name text world world_text note
  on_class : {answer name text world world_text note : List ℕ} (words more : List ℕ) (fault : ClassFault)
      → answer ≡ class_refusal fault → note ≡ class_note words name text fault ++ more
      → Notes answer name text world world_text note
  on_world : {answer name text world world_text note : List ℕ} (words more : List ℕ) (fault : WorldFault)
      → answer ≡ world_refusal fault → note ≡ world_note words world world_text fault ++ more
      → Notes answer name text world world_text note
  on_words : {answer name text world world_text note : List ℕ} → answer ≡ codes "usage\n"
      → Notes answer name text world world_text note
  on_file : {answer name text world world_text note : List ℕ} → answer ≡ codes "read fault\n"
      → Notes answer name text world world_text note
  on_script : {answer name text world world_text note : List ℕ} → answer ≡ script_refusal
      → (words : List ℕ) × (note ≡ overall world words) → Notes answer name text world world_text note
  none : {answer name text world world_text note : List ℕ} → note ≡ [] → Notes answer name text world world_text note
