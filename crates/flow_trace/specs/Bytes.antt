-- The bytes of each line of a trace.
use Rattle.std.specs.Prelude.{◌≡◌, ℕ, ◌^◌, ◌<◌, ◌⊎◌, ℤ, Bool, List, [], ◌∷◌, ◌++◌, Some, None, map, codes, decimal, if◌then◌else◌}
use Rattle.flow_base.specs.Quote.{quoted}
use Rattle.std.specs.List.{AllByRecursion}
use Rattle.std.specs.Fmt.{signed_decimal}
use lib.Signed.{mag}
use Rattle.flow_base.specs.Names.{IsName}
use Rattle.flow_base.specs.declared.ids.ActorId.{ActorId}
use Rattle.flow_base.specs.declared.ids.CellId.{CellId}
use Rattle.flow_base.specs.declared.ids.ErrorCode.{ErrorCode}
use Rattle.flow_base.specs.declared.ids.ProcId.{ProcId}
use Rattle.flow_trace.specs.Quote.{IsText}
use Rattle.flow_trace.specs.declared.line.Line.{Line}
use Rattle.flow_trace.specs.declared.line.Line.TheVariants.{Head, Boot, Kill, Stop, Cut, Heal, DiskFail, Timer, Arrival, Read, Write, Sync, Size, Start, Wait, Take, Throw, Catch, Fail, Finish, Cancel, Broken, PrintInt, PrintBool, PrintText, Send, LostCut, LostDraw, Discard, Kept, Frame, Callback, EndIdle, EndBound, EndSpent, EndStop}

-- a field of a line: a fixed word, a name, a number of some bits, a signed number of 64 bits, a text
pub data Field : Type 0 where
  word : (bytes : List ℕ) → Field
  name : (bytes : List ℕ) → Field
  number : (bits value : ℕ) → Field
  integer : (value : ℤ) → Field
  text : (bytes : List ℕ) → Field

-- how a field is spelled: numbers in decimal, texts in quotes
abbrev pub spelled : Field → List ℕ
spelled (word bytes) = bytes
spelled (name bytes) = bytes
spelled (number bits value) = decimal value
spelled (integer value) = signed_decimal value
spelled (text bytes) = quoted bytes

-- words behind others, with one space before each
abbrev pub spaced : List (List ℕ) → List ℕ
spaced [] = []
spaced (w ∷ ws) = 32 ∷ w ++ spaced ws

-- words with one space between two
abbrev pub joined : List (List ℕ) → List ℕ
joined [] = []
joined (w ∷ ws) = w ++ spaced ws

abbrev pub actor : ActorId → Field
actor a = number 64 a.0

abbrev pub cell : CellId → Field
cell c = number 64 c.0

abbrev pub process : ProcId → Field
process p = number 8 p.0

abbrev pub error : ErrorCode → Field
error e = number 16 e.0

-- an event: its number, its time, what it is, and where
abbrev pub event : ℕ → ℕ → List ℕ → List Field → List Field
event n time what where_to = word (codes "event") ∷ number 64 n ∷ number 64 time ∷ word what ∷ where_to

-- the outcome of a request to the disk
abbrev pub outcome : Bool → Field
outcome ok = word (if ok then codes "ok" else codes "fail")

abbrev pub truth : Bool → Field
truth value = word (if value then codes "true" else codes "false")

-- the fields of each line
abbrev pub fields : Line → List Field
fields Head = word (codes "trace") ∷ word (codes "1") ∷ []
fields (Boot n t p) = event n t (codes "boot") (process p ∷ [])
fields (Kill n t p) = event n t (codes "kill") (process p ∷ [])
fields (Stop n t p) = event n t (codes "stop") (process p ∷ [])
fields (Cut n t p q) = event n t (codes "cut") (process p ∷ process q ∷ [])
fields (Heal n t p q) = event n t (codes "heal") (process p ∷ process q ∷ [])
fields (DiskFail n t p k) = event n t (codes "diskfail") (process p ∷ number 32 k ∷ [])
fields (Timer n t p c) = event n t (codes "timer") (process p ∷ cell c ∷ [])
fields (Arrival n t q m) = event n t (codes "packet") (process q ∷ number 64 m ∷ [])
fields (Read n t p c (Some bytes)) = event n t (codes "read") (process p ∷ cell c ∷ text bytes ∷ [])
fields (Read n t p c None) = event n t (codes "read") (process p ∷ cell c ∷ word (codes "fail") ∷ [])
fields (Write n t p c ok) = event n t (codes "write") (process p ∷ cell c ∷ outcome ok ∷ [])
fields (Sync n t p c ok) = event n t (codes "sync") (process p ∷ cell c ∷ outcome ok ∷ [])
fields (Size n t p c (Some k)) = event n t (codes "size") (process p ∷ cell c ∷ number 32 k ∷ [])
fields (Size n t p c None) = event n t (codes "size") (process p ∷ cell c ∷ word (codes "fail") ∷ [])
fields (Start a class) = word (codes "start") ∷ actor a ∷ name class ∷ []
fields (Wait a group) = word (codes "wait") ∷ actor a ∷ number 32 group ∷ []
fields (Take a group branch) = word (codes "take") ∷ actor a ∷ number 32 group ∷ number 32 branch ∷ []
fields (Throw a e) = word (codes "throw") ∷ actor a ∷ error e ∷ []
fields (Catch a e) = word (codes "catch") ∷ actor a ∷ error e ∷ []
fields (Fail a e) = word (codes "fail") ∷ actor a ∷ error e ∷ []
fields (Finish a) = word (codes "done") ∷ actor a ∷ []
fields (Cancel a) = word (codes "cancel") ∷ actor a ∷ []
fields (Broken c) = word (codes "broken") ∷ cell c ∷ []
fields (PrintInt a value) = word (codes "print") ∷ actor a ∷ integer value ∷ []
fields (PrintBool a value) = word (codes "print") ∷ actor a ∷ truth value ∷ []
fields (PrintText a bytes) = word (codes "print") ∷ actor a ∷ text bytes ∷ []
fields (Send m q port bytes) = word (codes "send") ∷ number 64 m ∷ process q ∷ number 16 port ∷ text bytes ∷ []
fields (LostCut m) = word (codes "lost") ∷ number 64 m ∷ word (codes "cut") ∷ []
fields (LostDraw m) = word (codes "lost") ∷ number 64 m ∷ word (codes "draw") ∷ []
fields (Discard m) = word (codes "discard") ∷ number 64 m ∷ []
fields (Kept file offset len kept) = word (codes "kept") ∷ text file ∷ number 32 offset ∷ number 32 len ∷ number 32 kept ∷ []
fields (Frame p a class group) = word (codes "frame") ∷ process p ∷ actor a ∷ name class ∷ number 32 group ∷ []
fields (Callback p a k c) = word (codes "callback") ∷ process p ∷ actor a ∷ number 32 k ∷ cell c ∷ []
fields EndIdle = word (codes "end") ∷ word (codes "idle") ∷ []
fields EndBound = word (codes "end") ∷ word (codes "bound") ∷ []
fields EndSpent = word (codes "end") ∷ word (codes "spent") ∷ []
fields (EndStop monitor) = word (codes "end") ∷ word (codes "stop") ∷ name monitor ∷ []

-- the bytes of a line: its fields with one space between two, and a line feed
abbrev pub Bytes : Line → List ℕ
Bytes line = joined (map spelled (fields line)) ++ 10 ∷ []

-- the bytes spell the line, with or without its line feed
abbrev pub Spells : Line → List ℕ → Type 0
Spells line bytes = (bytes ≡ Bytes line) ⊎ (bytes ++ 10 ∷ [] ≡ Bytes line)

-- a field in its range, as every value of its type is
abbrev pub IsField : Field → Type 0
IsField (word bytes) = Unit {0}
IsField (name bytes) = IsName bytes
IsField (number bits value) = value < 2 ^ bits
IsField (integer value) = mag value < 2 ^ 63
IsField (text bytes) = IsText bytes

-- a line whose numbers, names and texts are in the ranges of their types, as those of every line of a
-- program are
abbrev pub IsLine : Line → Type 0
IsLine line = AllByRecursion IsField (fields line)

-- lines of the same bytes are the same
abbrev pub OneSpelling : Type 0
OneSpelling = (a b : Line) → IsLine a → IsLine b → Bytes a ≡ Bytes b → a ≡ b

-- so are lines that the same bytes spell, with or without a line feed
abbrev pub OneLine : Type 0
OneLine = (bytes : List ℕ) (a b : Line) → IsLine a → IsLine b → Spells a bytes → Spells b bytes → a ≡ b
