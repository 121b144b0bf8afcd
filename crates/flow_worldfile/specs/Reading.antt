-- Which texts are world files, and which line of another text fails first.
use Rattle.std.specs.Prelude.{◌≡◌, ℕ, ◌+◌, ◌≤◌, ◌<◌, ◌⊎◌, Bool, false, List, [], ◌∷◌, ◌++◌, length, Option, is_some, IsTrue, Result, Ok, Err}
use Rattle.std.specs.List.{filter_map, AllByRecursion}
use Rattle.flow_worldfile.specs.declared.TheConstants.{WORLD_BYTES}
use Rattle.flow_worldfile.specs.declared.directive.Directive.{Directive}
use Rattle.flow_worldfile.specs.declared.directive.Directive.TheVariants.{Seed, Processes, Events, Turns, Latency, DiskDelay, Loss, Word, At}
use Rattle.flow_worldfile.specs.declared.world.World0.{World0}
use Rattle.flow_worldfile.specs.declared.world.WorldFault.{WorldFault}
use Rattle.flow_worldfile.specs.declared.world.WorldFault.TheVariants.{Form, Range, Twice, NoProcess, TooLarge, OutOfMemory}
use Rattle.flow_worldfile.specs.Lines.{lines, IsPassedOver}
use Rattle.flow_worldfile.specs.Directives.{HasForm, InRange, Names}
use Rattle.flow_worldfile.specs.Worlds.{Said, said, World, world_of, seen, seed_in, processes_in, events_in, turns_in, latency_in, diskdelay_in, loss_in, word_in, order_in, most_words, most_orders}

-- The rules that a line keeps, under the numbers that a refusal shows. W1: it has one of the forms. W2: its
-- numbers are in their ranges, and it is not one too many. W3: what may be said once isn't said again. W4: the
-- processes that it names are there.
pub data Rule : Type 0 where
  W1 : Rule
  W2 : Rule
  W3 : Rule
  W4 : Rule

-- one more such line may stand after what was said
abbrev pub HasRoom : Said → Directive → Type 0
HasRoom s (Word n) = length s.words < most_words
HasRoom s (At t order) = length s.script < most_orders
HasRoom s _ = Unit {0}

-- such a line stood already, and may not stand again
abbrev pub is_repeated : Said → Directive → Bool
is_repeated s (Seed n) = is_some s.seed
is_repeated s (Processes n) = is_some s.processes
is_repeated s (Events n) = is_some s.events
is_repeated s (Turns n) = is_some s.turns
is_repeated s (Latency lo hi) = is_some s.latency
is_repeated s (DiskDelay lo hi) = is_some s.diskdelay
is_repeated s (Loss n) = is_some s.loss
is_repeated s (Word n) = false
is_repeated s (At t order) = false

-- what is said, and how many lines of a kind stand, is in its range
abbrev pub IsWithin : Said → Directive → Type 0
IsWithin s d = InRange d × HasRoom s d

-- a line after these lines, where there are `count` processes, keeps each rule
pub record Keeps (count : ℕ) (s : Said) (line : List ℕ) (d : Directive) : Type 0 where
  pub form : HasForm line d
  pub within : IsWithin s d
  pub once : is_repeated s d ≡ false
  pub names : Names count d

-- it keeps the rules before this one, and not this one
abbrev pub Breaks : ℕ → Said → List ℕ → Rule → Type 0
Breaks count s line W1 = (IsPassedOver line → ⊥) × ((d : Directive) → HasForm line d → ⊥)
Breaks count s line W2 = (d : Directive) × HasForm line d × (IsWithin s d → ⊥)
Breaks count s line W3 = (d : Directive) × HasForm line d × IsWithin s d × IsTrue (is_repeated s d)
Breaks count s line W4 = (d : Directive) × HasForm line d × IsWithin s d × (is_repeated s d ≡ false) × (Names count d → ⊥)

-- Lines say these things, one after another. Lines that are passed over say nothing.
abbrev pub Say : List (List ℕ) → List Directive → Type 0
Say [] ds = ds ≡ []
Say (line ∷ more) ds =
    (IsPassedOver line × Say more ds)
    ⊎ ((d : Directive) × (rest : List Directive) × (ds ≡ d ∷ rest) × HasForm line d × Say more rest)

-- how many lines of a kind there are
abbrev pub amount : {X : Type 0} → (Directive → Option X) → List Directive → ℕ
amount kind ds = length (filter_map kind ds)

-- what lines say together keeps the rules, where there are `count` processes
pub record AllKept (count : ℕ) (ds : List Directive) : Type 0 where
  pub ranges : AllByRecursion InRange ds
  pub names : AllByRecursion (Names count) ds
  pub seed : amount seed_in ds ≤ 1
  pub processes : amount processes_in ds ≤ 1
  pub events : amount events_in ds ≤ 1
  pub turns : amount turns_in ds ≤ 1
  pub latency : amount latency_in ds ≤ 1
  pub diskdelay : amount diskdelay_in ds ≤ 1
  pub loss : amount loss_in ds ≤ 1
  pub words : amount word_in ds ≤ most_words
  pub script : amount order_in ds ≤ most_orders

-- line k breaks a rule, and no line before it does
pub record IsFirstFault (count : ℕ) (ls : List (List ℕ)) (k : ℕ) (rule : Rule) : Type 0 where
  pub front : List (List ℕ)
  pub line : List ℕ
  pub more : List (List ℕ)
  pub before : List Directive
  pub splits : ls ≡ front ++ line ∷ more
  pub number : k ≡ length front + 1
  pub says : Say front before
  pub kept : AllKept count before
  pub breaks : Breaks count (said before) line rule

-- how a text is judged: by what its lines say, or by the first line that breaks a rule
pub data WorldVerdict : Type 0 where
  accepted : List Directive → WorldVerdict
  refused : ℕ → Rule → WorldVerdict

-- the verdict on some lines, where there are `count` processes
abbrev pub Judges : ℕ → List (List ℕ) → WorldVerdict → Type 0
Judges count ls (accepted ds) = Say ls ds × AllKept count ds
Judges count ls (refused k rule) = IsFirstFault count ls k rule

-- a line that gives a count of processes
abbrev pub Counts : List ℕ → ℕ → Type 0
Counts line n = HasForm line (Processes n) × InRange (Processes n)

-- the count of processes of a text: that of its first line which gives one, or 1
abbrev pub IsCount : List (List ℕ) → ℕ → Type 0
IsCount [] count = count ≡ 1
IsCount (line ∷ more) count = Counts line count ⊎ (((n : ℕ) → Counts line n → ⊥) × IsCount more count)

-- the verdict on a text
abbrev pub IsJudged : List ℕ → WorldVerdict → Type 0
IsJudged bytes v = (count : ℕ) × IsCount (lines bytes) count × Judges count (lines bytes) v

-- the text is a world file of this world
abbrev pub IsFileOf : List ℕ → World → Type 0
IsFileOf bytes w = (ds : List Directive) × IsJudged bytes (accepted ds) × (w ≡ world_of (said ds))

-- a line of the text is the first that breaks a rule
abbrev pub IsRefused : List ℕ → ℕ → Rule → Type 0
IsRefused bytes line rule = (length bytes ≤ WORLD_BYTES) × IsJudged bytes (refused line rule)

-- what is answered for a text
abbrev pub ReadsWorld : List ℕ → Result World0 WorldFault → Type 0
ReadsWorld bytes (Ok world) = (length bytes ≤ WORLD_BYTES) × IsFileOf bytes (seen world)
ReadsWorld bytes (Err (Form line)) = IsRefused bytes line W1
ReadsWorld bytes (Err (Range line)) = IsRefused bytes line W2
ReadsWorld bytes (Err (Twice line)) = IsRefused bytes line W3
ReadsWorld bytes (Err (NoProcess line)) = IsRefused bytes line W4
ReadsWorld bytes (Err TooLarge) = WORLD_BYTES < length bytes
ReadsWorld bytes (Err OutOfMemory) = Unit {0}
