-- What the lines of a world file say together.
use Rattle.std.specs.Prelude.{ℕ, ◌≤◌, List, [], ◌∷◌, ◌++◌, length, map, Option, Some, None, unwrap_or}
use Rattle.std.specs.List.{filter_map, flat_map, AllByRecursion}
use Rattle.flow_worldfile.specs.declared.world.Act.{Act}
use Rattle.flow_worldfile.specs.declared.world.Act.TheVariants as act
use Rattle.flow_worldfile.specs.declared.world.At as declared
use Rattle.flow_worldfile.specs.declared.world.World0.{World0}
use Rattle.flow_worldfile.specs.declared.directive.Order.{Order}
use Rattle.flow_worldfile.specs.declared.directive.Order.TheVariants.{Kill, Stop, Boot, Cut, Heal, DiskFail}
use Rattle.flow_worldfile.specs.declared.directive.Directive.{Directive}
use Rattle.flow_worldfile.specs.declared.directive.Directive.TheVariants.{Seed, Processes, Events, Turns, Latency, DiskDelay, Loss, Word, At}
use Rattle.flow_worldfile.specs.Directives.{InRange, Names, line_text}

-- a world, with plain lists
pub record World : Type 0 where
  pub seed : ℕ
  pub words : List ℕ
  pub processes : ℕ
  pub events : ℕ
  pub turns : ℕ
  pub latency : ℕ × ℕ
  pub loss : ℕ
  pub diskdelay : ℕ × ℕ
  pub script : List (ℕ × Order)

-- an act, as a line orders it
abbrev pub order_of : Act → Order
order_of (act.Kill p) = Kill p.0
order_of (act.Stop p) = Stop p.0
order_of (act.Boot p) = Boot p.0
order_of (act.Cut p q) = Cut p.0 q.0
order_of (act.Heal p q) = Heal p.0 q.0
order_of (act.DiskFail p n) = DiskFail p.0 n

-- an act of a script with its time
abbrev pub timed : declared.At → ℕ × Order
timed at = (at.time, order_of at.act)

-- a world as its contracts see it
abbrev pub seen : World0 → World
seen w = record {
  seed = w.seed;
  words = w.words.items;
  processes = w.processes;
  events = w.events;
  turns = w.turns;
  latency = w.latency;
  loss = w.loss;
  diskdelay = w.diskdelay;
  script = map timed w.script.items;
}

-- What lines may say: of each kind that stands once one thing or nothing, and any words and orders.
pub record Said : Type 0 where
  pub seed : Option ℕ
  pub processes : Option ℕ
  pub events : Option ℕ
  pub turns : Option ℕ
  pub latency : Option (ℕ × ℕ)
  pub diskdelay : Option (ℕ × ℕ)
  pub loss : Option ℕ
  pub words : List ℕ
  pub script : List (ℕ × Order)

-- the number of a `seed` line
abbrev pub seed_in : Directive → Option ℕ
seed_in (Seed n) = Some n
seed_in _ = None

-- the number of a `processes` line
abbrev pub processes_in : Directive → Option ℕ
processes_in (Processes n) = Some n
processes_in _ = None

-- the number of an `events` line
abbrev pub events_in : Directive → Option ℕ
events_in (Events n) = Some n
events_in _ = None

-- the number of a `turns` line
abbrev pub turns_in : Directive → Option ℕ
turns_in (Turns n) = Some n
turns_in _ = None

-- the numbers of a `latency` line
abbrev pub latency_in : Directive → Option (ℕ × ℕ)
latency_in (Latency lo hi) = Some (lo, hi)
latency_in _ = None

-- the numbers of a `diskdelay` line
abbrev pub diskdelay_in : Directive → Option (ℕ × ℕ)
diskdelay_in (DiskDelay lo hi) = Some (lo, hi)
diskdelay_in _ = None

-- the number of a `loss` line
abbrev pub loss_in : Directive → Option ℕ
loss_in (Loss n) = Some n
loss_in _ = None

-- the number of a `word` line
abbrev pub word_in : Directive → Option ℕ
word_in (Word n) = Some n
word_in _ = None

-- the time and the order of an `at` line
abbrev pub order_in : Directive → Option (ℕ × Order)
order_in (At t order) = Some (t, order)
order_in _ = None

-- the first item of a list
abbrev pub head : {X : Type 0} → List X → Option X
head [] = None
head (x ∷ xs) = Some x

-- what the first line of a kind says
abbrev pub first : {X : Type 0} → (Directive → Option X) → List Directive → Option X
first kind ds = head (filter_map kind ds)

-- what some lines say together
abbrev pub said : List Directive → Said
said ds = record {
  seed = first seed_in ds;
  processes = first processes_in ds;
  events = first events_in ds;
  turns = first turns_in ds;
  latency = first latency_in ds;
  diskdelay = first diskdelay_in ds;
  loss = first loss_in ds;
  words = filter_map word_in ds;
  script = filter_map order_in ds;
}

-- the world of what is said, with a default for what isn't
abbrev pub world_of : Said → World
world_of s = record {
  seed = unwrap_or s.seed 0;
  words = s.words;
  processes = unwrap_or s.processes 1;
  events = unwrap_or s.events 1000;
  turns = unwrap_or s.turns 100000;
  latency = unwrap_or s.latency (1, 2);
  loss = unwrap_or s.loss 0;
  diskdelay = unwrap_or s.diskdelay (1, 2);
  script = s.script;
}

-- the lines that print what may be said once
abbrev pub settings : World → List Directive
settings w = Seed w.seed ∷ Processes w.processes ∷ Events w.events ∷ Turns w.turns ∷ Latency w.latency.0 w.latency.1
    ∷ DiskDelay w.diskdelay.0 w.diskdelay.1 ∷ Loss w.loss ∷ []

-- the line that orders an act at its time
abbrev pub at_line : ℕ × Order → Directive
at_line at = At at.0 at.1

-- the lines that print a world
abbrev pub directives : World → List Directive
directives w = settings w ++ (map Word w.words ++ map at_line w.script)

-- the text that prints a world
abbrev pub world_text : World → List ℕ
world_text w = flat_map line_text (directives w)

-- the greatest number of words
abbrev pub most_words : ℕ
most_words = 100000

-- the greatest number of orders
abbrev pub most_orders : ℕ
most_orders = 10000

-- a world whose fields are in the ranges of the lines that say them, and whose script names its processes alone
pub record IsInRange (w : World) : Type 0 where
  pub seed : InRange (Seed w.seed)
  pub words : AllByRecursion (λ n. InRange (Word n)) w.words
  pub words_few : length w.words ≤ most_words
  pub processes : InRange (Processes w.processes)
  pub events : InRange (Events w.events)
  pub turns : InRange (Turns w.turns)
  pub latency : InRange (Latency w.latency.0 w.latency.1)
  pub loss : InRange (Loss w.loss)
  pub diskdelay : InRange (DiskDelay w.diskdelay.0 w.diskdelay.1)
  pub script : AllByRecursion (λ at. InRange (at_line at) × Names w.processes (at_line at)) w.script
  pub script_short : length w.script ≤ most_orders
