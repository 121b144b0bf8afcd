-- The lines of a world file, one by one: their forms and their ranges.
use Rattle.std.specs.Prelude.{◌≡◌, ℕ, ◌≤◌, ◌<◌, ◌^◌, List, [], ◌∷◌, ◌++◌, map, codes}
use Rattle.std.specs.List.{join_with_byte}
use Rattle.std.specs.Fmt.{decimal}
use Rattle.flow_worldfile.specs.declared.directive.Order.{Order}
use Rattle.flow_worldfile.specs.declared.directive.Order.TheVariants.{Kill, Stop, Boot, Cut, Heal, DiskFail}
use Rattle.flow_worldfile.specs.declared.directive.Directive.{Directive}
use Rattle.flow_worldfile.specs.declared.directive.Directive.TheVariants.{Seed, Processes, Events, Turns, Latency, DiskDelay, Loss, Word, At}
use Rattle.flow_worldfile.specs.Lines.{Field, text, number, fields}

-- the last fields of an `at` line
abbrev pub order_form : Order → List Field
order_form (Kill p) = text (codes "kill") ∷ number p ∷ []
order_form (Stop p) = text (codes "stop") ∷ number p ∷ []
order_form (Boot p) = text (codes "boot") ∷ number p ∷ []
order_form (Cut p q) = text (codes "cut") ∷ number p ∷ number q ∷ []
order_form (Heal p q) = text (codes "heal") ∷ number p ∷ number q ∷ []
order_form (DiskFail p n) = text (codes "diskfail") ∷ number p ∷ number n ∷ []

-- the fields of a line
abbrev pub form : Directive → List Field
form (Seed n) = text (codes "seed") ∷ number n ∷ []
form (Processes n) = text (codes "processes") ∷ number n ∷ []
form (Events n) = text (codes "events") ∷ number n ∷ []
form (Turns n) = text (codes "turns") ∷ number n ∷ []
form (Latency lo hi) = text (codes "latency") ∷ number lo ∷ number hi ∷ []
form (DiskDelay lo hi) = text (codes "diskdelay") ∷ number lo ∷ number hi ∷ []
form (Loss n) = text (codes "loss") ∷ number n ∷ []
form (Word n) = text (codes "word") ∷ number n ∷ []
form (At t order) = text (codes "at") ∷ number t ∷ order_form order

-- the line says this
abbrev pub HasForm : List ℕ → Directive → Type 0
HasForm line d = fields line ≡ form d

-- how a field is printed
abbrev pub field_text : Field → List ℕ
field_text (text bytes) = bytes
field_text (number n) = decimal n

-- how fields are printed: with one space between them
abbrev pub fields_text : List Field → List ℕ
fields_text fs = join_with_byte 32 (map field_text fs)

-- how a line is printed, with its line feed
abbrev pub line_text : Directive → List ℕ
line_text d = fields_text (form d) ++ 10 ∷ []

-- delays are drawn from the lower number on, and stay below the higher one
abbrev pub IsSpan : ℕ → ℕ → Type 0
IsSpan lo hi = (lo < hi) × (hi ≤ 1000000000)

-- the numbers of an order are in their ranges, but for numbers of processes
abbrev pub OrderInRange : Order → Type 0
OrderInRange (DiskFail p n) = n ≤ 1000000
OrderInRange _ = Unit {0}

-- the numbers of a line are in their ranges, but for numbers of processes
abbrev pub InRange : Directive → Type 0
InRange (Seed n) = n < 2 ^ 64
InRange (Processes n) = (1 ≤ n) × (n ≤ 64)
InRange (Events n) = n ≤ 1000000
InRange (Turns n) = (1 ≤ n) × (n ≤ 1000000)
InRange (Latency lo hi) = IsSpan lo hi
InRange (DiskDelay lo hi) = IsSpan lo hi
InRange (Loss n) = n ≤ 1000
InRange (Word n) = n < 2 ^ 32
InRange (At t order) = (t ≤ 2 ^ 62) × OrderInRange order

-- each process that is named is one of the `count` processes, which are numbered from 0
abbrev pub OrderNames : ℕ → Order → Type 0
OrderNames count (Kill p) = p < count
OrderNames count (Stop p) = p < count
OrderNames count (Boot p) = p < count
OrderNames count (Cut p q) = (p < count) × (q < count)
OrderNames count (Heal p q) = (p < count) × (q < count)
OrderNames count (DiskFail p n) = p < count

-- the same of a line
abbrev pub Names : ℕ → Directive → Type 0
Names count (At t order) = OrderNames count order
Names count _ = Unit {0}
